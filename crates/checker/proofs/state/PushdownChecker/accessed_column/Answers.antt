use Rattle.std.proofs.Common.{option_map, sym, subst, ap, ◌∙◌}
use Rattle.format.specs.declared.records.NodeRecord.{NodeRecord}
use Rattle.sheet.specs.SheetExpressions.{type_at_place}
use Rattle.checker.specs.Settings.{follows}
use Rattle.checker.specs.Visits.{Accessed}
use Rattle.checker.proofs.Fields.{field_type, first_there, field_other, field_told}
use Rattle.checker.proofs.state.PushdownChecker.accessed_column.Goals as goal

pub column_behind-requires : goal.column_behind-requires
column_behind-requires c =
    let k = c.args.self.now in
    let kids = ap (λ (r : NodeRecord). r.children) c.record.ensures in
    first_there k c.args.place c.requires.there c.requires.kind (λ z. c.if-record-eq0.false (kids ∙ z))

pub returns-in_err-name : goal.returns-in_err-name
returns-in_err-name c =
    let k = c.args.self.now in
    let kids = ap (λ (r : NodeRecord). r.children) c.record.ensures in
    let none = field_other k c.args.place c.requires.there c.requires.kind (λ z. c.if-record-eq0.false (kids ∙ z)) (sym c.in_err-name.ensures) in
    subst (λ r. Accessed k c.args.place (option_map (λ x. x.now) r)) (sym c.from_residual.ensures) none

pub node_type-requires : goal.node_type-requires
node_type-requires c = let k = c.args.self.now in field_type k c.args.place c.requires.there c.requires.kind

pub returns : goal.returns
returns c =
    let k = c.args.self.now in
    let name = c.in_ok-name.name in
    let kids = ap (λ (r : NodeRecord). r.children) c.record.ensures in
    let named = sym c.in_ok-name.ensures in
    let follow = c.follows_path.ensures ∙ (λ i. follows k name.now (type_at_place (c.node_type.ensures.sheet i) (c.node_type.ensures.place i))) in
    let told = field_told k c.args.place c.requires.there c.requires.kind (λ z. c.if-record-eq0.false (kids ∙ z)) name named c.follows_path.result follow in
    subst (λ r. Accessed k c.args.place (option_map (λ x. x.now) r)) (sym c.then_some.ensures) told
