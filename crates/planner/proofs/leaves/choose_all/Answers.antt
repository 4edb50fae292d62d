use Rattle.std.proofs.Common.{◌≡◌, ◌+◌, ◌≤◌, [], ◌∷◌, ◌++◌, length, take, sym, ap, ◌∙◌, arith}
use Rattle.std.proofs.lemmas.List.{take_more_set, take-append-le, length-take-le}
use Rattle.std.specs.List.{range_with_len}
use Rattle.rules.proofs.Written.{counting_more}
use Rattle.planner.proofs.leaves.choose_all.Goals as goal

pub loop-k-preserved : goal.loop-k-preserved
loop-k-preserved c =
    let first = c.args.leaves.first in
    let k = c.loop-k.k in
    take_more_set c.loop-k.place-items k (first + k) (omega arith) ∙ ap (λ w. w ++ (first + k) ∷ []) c.loop-k.invariant ∙ sym (counting_more first k)

pub returns-clause-chosen : goal.returns-clause-chosen
returns-clause-chosen c =
    let xs = c.loop-k.place-items in
    let count = c.len-count.result in
    let low : count ≤ length c.args.mask.now = omega (arith, c.len-count.ensures, c.requires) in
    let n : count ≡ c.loop-k.k = omega (arith, length-take-le count c.args.mask.now low) in
    take-append-le count xs _ (omega (arith, length-take-le count c.args.mask.now low))
    ∙ ap (λ m. take m xs) n ∙ c.loop-k.invariant ∙ ap (range_with_len c.args.leaves.first) (sym n ∙ c.len-count.ensures)
