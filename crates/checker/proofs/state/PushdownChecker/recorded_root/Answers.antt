use Rattle.std.proofs.Common.{sym, subst, ap, ◌∙◌}
use Rattle.rules.specs.Findings.{is_nested_cast}
use Rattle.sheet.specs.SheetExpressions.{type_at_place}
use Rattle.checker.specs.Settings.{sheet_of}
use Rattle.checker.specs.Visits.{Recorded}
use Rattle.checker.proofs.Casting.{cast_type, cast_child, cast_off, cast_other, cast_unknown, cast_told}
use Rattle.checker.proofs.Rooted.{named_low}
use Rattle.checker.proofs.state.PushdownChecker.recorded_root.Goals as goal

pub returns-then-not-self : goal.returns-then-not-self
returns-then-not-self c =
    let k = c.args.self.now in
    cast_off k c.args.place c.requires.there c.requires.kind c.if-not-self.true

pub column_behind-requires : goal.column_behind-requires
column_behind-requires c =
    let k = c.args.self.now in
    cast_child k c.args.place c.requires.there c.requires.kind

pub returns-in_err-name : goal.returns-in_err-name
returns-in_err-name c =
    let k = c.args.self.now in
    let none = cast_other k c.args.place c.requires.there c.requires.kind (sym c.in_err-name.ensures) in
    subst (Recorded k c.args.place) (sym c.from_residual.ensures) none

pub returns-in_err-idx : goal.returns-in_err-idx
returns-in_err-idx c =
    let k = c.args.self.now in
    let named = sym c.in_ok-name.ensures in
    let none = cast_unknown k c.args.place c.requires.there c.requires.kind c.in_ok-name.name.now named (sym c.in_err-idx.ensures) in
    subst (Recorded k c.args.place) (sym c.from_residual-in_err-idx.ensures) none

pub root_type-requires : goal.root_type-requires
root_type-requires c = named_low (sheet_of c.args.self.now) c.in_ok-name.name.now c.in_ok-idx.idx (sym c.in_ok-idx.ensures)

pub node_type-requires : goal.node_type-requires
node_type-requires c = let k = c.args.self.now in cast_type k c.args.place c.requires.there c.requires.kind

pub returns : goal.returns
returns c =
    let k = c.args.self.now in
    let s = sheet_of k in
    let named = sym c.in_ok-name.ensures in
    let from = (λ i. type_at_place (sym c.root_type.ensures.sheet i) (c.place-data_type.ensures i)) ∙ c.root_type.ensures.root in
    let to = ap (type_at_place s) (c.place-cast_type.ensures ∙ c.node_type.ensures.place) in
    let o = c.of.ensures in
    let told = cast_told k c.args.place c.requires.there c.requires.kind c.if-not-self.false c.in_ok-name.name.now named c.in_ok-idx.idx (sym c.in_ok-idx.ensures) c.requires_nested_struct_cast.result (c.requires_nested_struct_cast.ensures ∙ (λ i. is_nested_cast (type_at_place (o.sheet i) (o.place i)) (type_at_place (o.sheet i) (o.goal i))) ∙ (λ i. is_nested_cast (from i) (to i))) in
    subst (Recorded k c.args.place) (sym c.then_some.ensures) told
