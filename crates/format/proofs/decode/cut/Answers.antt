use Rattle.std.proofs.Common.{◌-◌, length, take, drop, sym, ap, ◌∙◌, arith, length-drop, length-take}
use Rattle.std.proofs.lemmas.List.{take_all}
use Rattle.format.proofs.decode.cut.Goals as goal

pub returns-then-start-bytes : goal.returns-then-start-bytes
returns-then-start-bytes c =
    let none = take c.args.count (drop c.args.start c.args.bytes.now) in
    take_all 0 none (simp (length-take, length-drop) (omega arith))

pub returns-then-count-rest : goal.returns-then-count-rest
returns-then-count-rest c =
    let d = length-drop c.args.start c.args.bytes.now in
    let rest = drop c.args.start c.args.bytes.now in
    take_all (length c.args.bytes.now - c.args.start) rest (omega (arith, d)) ∙ sym (take_all c.args.count rest (omega (arith, d)))

pub returns : goal.returns
returns c =
    let d = length-drop c.args.start c.args.bytes.now in
    ap (take c.args.count) (take_all (length c.args.bytes.now - c.args.start) (drop c.args.start c.args.bytes.now) (omega (arith, d)))
