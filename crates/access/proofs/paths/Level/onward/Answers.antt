use Rattle.std.proofs.Common.{◌≡◌, ◌+◌, ap, subst, ◌∙◌, rules, tests}
use Rattle.rules.specs.Keeping.{onward}
use Rattle.sheet.specs.declared.sheet.Sheet.{Sheet}
use Rattle.sheet.proofs.Readers.{name_at}
use Rattle.access.specs.Following.{left, goes_on}
use Rattle.access.proofs.Follows.{all_onward}
use Rattle.access.proofs.paths.Level.onward.Goals as goal

pub returns : goal.returns
returns c =
    let depth = c.args.self.depth in
    let xs = c.args.self.accesses.now in
    let s = c.sheet-sheet.result.now in
    let name = c.name-name.result.now in
    let going = c.gather.new.paths.items in
    let P : Sheet → Type 0 = λ t. left t (depth + 1) going ≡ onward (name_at c.args.child.sheet.now c.args.child.place) (left t depth xs) in
    subst P c.sheet-sheet.ensures (ap (left s (depth + 1)) (c.gather.ensures (goes_on s depth name) (λ x b k. search (rules, tests))) ∙ all_onward s depth name xs ∙ ap (λ n. onward n (left s depth xs)) c.name-name.ensures)
