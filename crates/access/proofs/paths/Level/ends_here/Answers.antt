use Rattle.std.proofs.Common.{leb, rules, tests, ◌∙◌}
use Rattle.std.proofs.lemmas.Iterator.{YieldsList-from_slice}
use Rattle.std.proofs.lemmas.Iterator.Search.{any_from_yields_List}
use Rattle.access.specs.declared.accesses.StructFieldAccess.{StructFieldAccess}
use Rattle.access.proofs.Follows.{any_ends}
use Rattle.access.proofs.paths.Level.ends_here.Goals as goal

pub returns : goal.returns
returns c = λ s.
    let xs = c.args.self.accesses.now in
    any_from_yields_List (λ (a : StructFieldAccess). leb a.parts c.args.self.depth) _ _ _ c.any.ensures.ran (YieldsList-from_slice xs cc) (λ x b q k. search (rules, tests)) ∙ any_ends s c.args.self.depth xs
