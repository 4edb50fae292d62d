-- The children of a type, one after the other. Assumes nothing.
use Rattle.std.specs.Prelude.{◌≡◌, ◌+◌, Option, MatchOption}
use Rattle.sheet.specs.declared.type_ref.TypeRef.{TypeRef}
use Rattle.sheet.specs.declared.children.Children.{Children}
use Rattle.sheet.specs.Spans.{span_at}

-- the child that stands first in s, where t has those behind it
pub record IsNext (s : Children) (child : TypeRef) (t : Children) : Type 0 where
  pub sheet : child.sheet.now ≡ s.above.sheet.now
  pub place : child.place ≡ s.next
  pub above : t.above ≡ s.above
  pub left : s.left ≡ t.left + 1
  pub next : t.next ≡ s.next + span_at s.above.sheet.now s.next

-- one child more, or none where none is left
abbrev pub GivesNext : Children → Option TypeRef → Children → Type 0
GivesNext s r t = MatchOption r (s.left ≡ 0) (λ child. IsNext s child t)
