use Rattle.std.proofs.Common.{◌≡◌, true, false, rules}
use Rattle.std.proofs.lemmas.Iterator.{first_from_Range}
use Rattle.std.specs.Str.{bytes_eq}
use Rattle.sheet.specs.SheetTrees.{root_name}
use Rattle.sheet.proofs.Naming.{named}
use Rattle.sheet.proofs.sheet.Sheet.root_named.Goals as goal

pub returns : goal.returns
returns c =
    let s = c.args.self.now in
    let name = c.args.name.now in
    named s name _ c.find.result c.count.ensures
    (first_from_Range _ _ _ c.find.result (λ r. bytes_eq (root_name s r) name ≡ true) (λ r. bytes_eq (root_name s r) name ≡ false) c.find.ensures.ran (λ r f e. search rules) (λ r f e. search rules))
