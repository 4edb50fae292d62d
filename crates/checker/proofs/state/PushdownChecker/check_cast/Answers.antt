use Rattle.std.proofs.Common.{[], ◌∷◌, sym, refl, ap, ◌∙◌, arith}
use Rattle.rules.specs.Findings.{through}
use Rattle.format.specs.declared.records.NodeRecord.{NodeRecord}
use Rattle.sheet.specs.SheetExpressions.{type_at_place}
use Rattle.sheet.proofs.Sheets.{few_roots}
use Rattle.checker.specs.Found.{found}
use Rattle.checker.specs.Notes.{noted}
use Rattle.checker.specs.Settings.{sheet_of}
use Rattle.checker.proofs.Casting.{cast_type}
use Rattle.checker.proofs.Noting.{casts_one}
use Rattle.checker.proofs.state.PushdownChecker.check_cast.Goals as goal

pub overflow_cast-idx : goal.overflow_cast-idx
overflow_cast-idx c = omega (arith, c.in-Some.ensures.0, few_roots (sheet_of c.args.self.now))

pub returns-clause-visited : goal.returns-clause-visited
returns-clause-visited c =
    let k = c.args.self.now in
    let s = sheet_of k in
    let at = ap (λ (r : NodeRecord). r.type_place) c.record.ensures in
    let low = cast_type k c.args.place c.requires.there c.requires.kind in
    casts_one s (found k) k.cast_accesses.items _ _ c.push.ensures.items c.in-Some.ensures.0 (omega (arith, at, low)) refl
    ∙ ap (λ p. noted (found k) (through c.in-Some.idx (type_at_place s p) ∷ [])) at ∙ ap (noted (found k)) (sym c.in-Some.ensures.1)
