use Rattle.std.proofs.Common.{◌≡◌, ℕ, ◌+◌, ◌-◌, Bool, sym, ap, ◌∙◌, arith}
use Rattle.rules.specs.Preorder.{fills}
use Rattle.rules.proofs.Walks.{walk_on, walk_ends, walk_over}
use Rattle.format.specs.Records.{by_place}
use Rattle.format.proofs.check.children_fill.Goals as goal

module _ (s : ℕ → ℕ) (x : Bool) (n p : ℕ) where
  -- the end, in the terms of the table
  to_end : (reach : ℕ) → reach ≡ s p → x ≡ fills s n (p + 1) (p + reach) → x ≡ fills s n (p + 1) (p + s p)
  to_end reach e h = h ∙ ap (λ m. fills s n (p + 1) (p + m)) e

begin : (s : ℕ → ℕ) (n k p e : ℕ) → k ≡ n → fills s n p e ≡ fills s (k - 0) p e
begin s n k p e h = let d : n ≡ k - 0 = omega arith in ap (λ m. fills s m p e) d

pub loop-k-init : goal.loop-k-init
loop-k-init g c =
    let kids = c.children-k-end.ensures ∙ ap g.R.Preorder.kids c.get-parent.ensures in
    begin (by_place g.R.Preorder.reach g.R.Record.blank c.args.records.now) _ c.children-k-end.result (c.args.place + 1) _ kids

pub returns-then-at-end : goal.returns-then-at-end
returns-then-at-end g c =
    let s = by_place g.R.Preorder.reach g.R.Record.blank c.args.records.now in
    to_end s _ _ c.args.place c.span.result (c.span.ensures ∙ ap g.R.Preorder.reach c.get-parent.ensures)
    (walk_ends s c.children-k-end.result c.loop-k._k c.loop-k.at _ c.loop-k-test.true c.if-at-end.true c.loop-k.invariant)

pub loop-k-preserved : goal.loop-k-preserved
loop-k-preserved g c =
    let s = by_place g.R.Preorder.reach g.R.Record.blank c.args.records.now in
    let end = c.args.place + c.span.result in
    let left = c.children-k-end.result - (c.loop-k._k + 1) in
    let here = c.span-in-loop-k.ensures ∙ ap g.R.Preorder.reach c.get.ensures in
    walk_on s c.children-k-end.result c.loop-k._k c.loop-k.at end c.loop-k-test.true c.if-at-end.false c.loop-k.invariant
    ∙ ap (λ m. fills s left (c.loop-k.at + m) end) (sym here)

pub returns : goal.returns
returns g c =
    let s = by_place g.R.Preorder.reach g.R.Record.blank c.args.records.now in
    to_end s _ _ c.args.place c.span.result (c.span.ensures ∙ ap g.R.Preorder.reach c.get-parent.ensures)
    (walk_over s _ c.children-k-end.result c.loop-k._k c.loop-k.at _ c.loop-k-test.false c.loop-k.invariant)
