use Rattle.std.proofs.Common.{◌≡◌, ◌+◌, [], ◌∷◌, ◌++◌, length, sym, ap, ◌∙◌, subst, arith}
use Rattle.std.proofs.lemmas.Bool.{eqb-true, eqb-false}
use Rattle.rules.proofs.Stacks.{Searched, Left, too_deep, not_spanned, next, left_of, on_top, under_top}
use Rattle.format.specs.Records.{by_place}
use Rattle.format.proofs.check.first_misplaced.Given as given
use Rattle.format.proofs.check.first_misplaced.Goals as goal
use Rattle.format.proofs.check.first_misplaced.Goals.{After-let_go}

module _ (g : given.Over) where
  left : (c : After-let_go g) → Left c.loop-place.place c.loop-place.ends.items (length c.loop-place.ends.items) (length c.let_go.new.ends.items)
  left c = left_of _ _ c.let_go.ensures.kept c.loop-place.place c.let_go.ensures.passed c.let_go.ensures.last

pub returns-then-is_full : goal.returns-then-is_full
returns-then-is_full g c =
    let h = (goal.at.returns-then-is_full g c).After-let_go in
    too_deep _ _ _ 32 _ _ _ _ c.loop-place.invariant (left g h) (omega (arith, c.count-place-end.ensures)) (eqb-true _ _ (sym c.if-is_full.ensures.value))

pub returns-then-not-is_spanned : goal.returns-then-not-is_spanned
returns-then-not-is_spanned g c =
    let h = (goal.at.returns-then-not-is_spanned g c).After-let_go in
    not_spanned _ _ _ 32 _ _ _ _ c.loop-place.invariant (left g h) (omega (arith, c.count-place-end.ensures)) (sym c.if-not-is_spanned.ensures)

pub loop-place-preserved : goal.loop-place-preserved
loop-place-preserved g c =
    let h = (goal.at.loop-place-preserved g c).After-let_go in
    let rs = c.args.records.now in
    let kids = by_place g.R.Preorder.kids g.R.Record.blank rs in
    let spans = by_place g.R.Preorder.reach g.R.Record.blank rs in
    let p = c.loop-place.place in
    let ends = c.loop-place.ends.items in
    let rest = c.let_go.new.ends.items in
    let v = p + c.span.result in
    let kept = c.let_go.ensures.kept in
    let high : v ≡ p + spans p = ap (λ m. p + m) (c.span.ensures ∙ ap g.R.Preorder.reach c.get.ensures) in
    let full = eqb-false _ _ (sym c.if-is_full.ensures.value) in
    let n = next kids spans (length rs) 32 p ends (length ends) (length rest) c.loop-place.invariant (left g h)
    (omega (arith, c.count-place-end.ensures)) full (sym c.if-not-is_spanned.ensures) (rest ++ v ∷ []) (on_top ends rest kept v ∙ high) (under_top ends rest kept v) in
    let items = c.push.ensures.items in
    subst (λ m. Searched kids spans (length rs) 32 (p + 1) c.push.new.self.items m) (sym c.push.ensures.len)
    (subst (λ xs. Searched kids spans (length rs) 32 (p + 1) xs (length rest + 1)) (sym items) n)
