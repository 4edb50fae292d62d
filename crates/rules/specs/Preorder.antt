-- Tables of preorder records that have a number of children and a span, which counts a record and all below it. The
-- children and spans of such a table are given here by place. Assumes nothing.
use Rattle.std.specs.Prelude.{◌≡◌, ℕ, zero, suc, ◌+◌, ◌≤◌, Bool, true, cond, ◌&&◌, List, ◌++◌, drop, ◌==◌, nat_le, nat_lt}
use Rattle.std.specs.Option.{unwrap_or}
use Rattle.rules.specs.Trees.{Tree, node, Forest, none, more, preorder, size, depth, first_tree, forest, whole}

-- n records, the first at p and each behind the span of the one before it, start before e and end at e
abbrev pub fills : (span : ℕ → ℕ) → (n p e : ℕ) → Bool
fills span zero p e = p == e
fills span (suc n) p e = nat_lt p e && fills span n (p + span p) e

-- how many of the first n records have the place p in their span
abbrev pub around : (span : ℕ → ℕ) → (n p : ℕ) → ℕ
around span zero p = 0
around span (suc n) p = around span n p + cond (nat_lt p (n + span n)) 1 0

-- the level of the place p: the record there and those around it
abbrev pub level_at : (span : ℕ → ℕ) → ℕ → ℕ
level_at span p = around span (p + 1) p

-- in a table of so many records, the children of the record at p fill its span, which lies in the table
abbrev pub spanned : (children span : ℕ → ℕ) → (records p : ℕ) → Bool
spanned children span records p =
    nat_lt 0 (span p) && (nat_le (p + span p) records && fills span (children p) (p + 1) (p + span p))

-- and the level of the record is within a limit
abbrev pub placed : (children span : ℕ → ℕ) → (records limit p : ℕ) → Bool
placed children span records limit p = spanned children span records p && nat_le (level_at span p) limit

module _ {A : Type 0} (children span : A → ℕ) where
  -- the tree at a place; a tree of one blank record where there is none
  abbrev pub tree_at : A → List A → ℕ → Tree A
  tree_at blank xs p = unwrap_or (first_tree (forest children (drop p xs))) (node blank none)

  -- each record's span counts the records of its tree
  abbrev mutual
    pub Spanned : Tree A → Type 0
    Spanned (node r f) = (span r ≡ size (node r f)) × AllSpanned f

    pub AllSpanned : Forest A → Type 0
    AllSpanned none = Unit {0}
    AllSpanned (more t f) = Spanned t × AllSpanned f

  -- The tree t stands in a table at the place p: from there on the table has t's records in preorder; each record tells
  -- how many children it has and how many records its tree has; and there are not too many levels.
  pub record Stands (xs : List A) (p : ℕ) (t : Tree A) (limit : ℕ) : Type 0 where
    pub written : preorder t ++ drop (p + size t) xs ≡ drop p xs
    pub counted : whole children t ≡ true
    pub spans : Spanned t
    pub low : depth t ≤ limit
