use Rattle.std.proofs.Common.{◌≡◌, ◌+◌, ◌-◌, ◌++◌, ◌∷◌, [], length, ap, sym, ◌∙◌, append-nil, append_assoc, arith, length-append}
use Rattle.std.specs.List.{range_with_len}
use Rattle.rules.proofs.Written.{counting_more, length-counting}
use Rattle.nested.proofs.keeping.number_leaves.Goals as goal

pub loop-k-init : goal.loop-k-init
loop-k-init c =
    let none : c.args.first - c.args.first ≡ 0 = omega arith in
    rw none (sym (append-nil c.args.offsets.now.items))

pub push-requires : goal.push-requires
push-requires c =
    let n = c.loop-k.k - c.args.first in
    (omega arith, omega (arith, ap length c.loop-k.invariant, length-append c.args.offsets.now.items (range_with_len c.args.first n), length-counting c.args.first n))

pub loop-k-preserved : goal.loop-k-preserved
loop-k-preserved c =
    let n = c.loop-k.k - c.args.first in
    let on : c.loop-k.k + 1 - c.args.first ≡ n + 1 = omega arith in
    let here : c.loop-k.k ≡ c.args.first + n = omega arith in
    c.push.ensures.items ∙ (λ i. c.loop-k.invariant i ++ here i ∷ []) ∙ append_assoc c.args.offsets.now.items (range_with_len c.args.first n) ((c.args.first + n) ∷ [])
    ∙ ap (λ l. c.args.offsets.now.items ++ l) (sym (counting_more c.args.first n) ∙ ap (range_with_len c.args.first) (sym on))

pub returns : goal.returns
returns c =
    let all : c.loop-k.k - c.args.first ≡ c.args.count = omega arith in
    c.loop-k.invariant ∙ ap (λ n. c.args.offsets.now.items ++ range_with_len c.args.first n) all
