-- What the rows of a flattened directory say. Assumes nothing.
use Rattle.std.specs.Prelude.{ℕ, zero, suc, ◌<◌, List, [], ◌∷◌, ◌++◌, map, length, slice_index, slice_index_or}
use Rattle.rules.specs.Leaves.{Leaf}
use Rattle.rules.specs.Names.{Name}
use Rattle.format.specs.Records.{name_bytes, no_element}
use Rattle.sheet.specs.declared.sheet.Sheet.{Sheet}
use Rattle.sheet.specs.Seen.{names_in, elements_in}
use Rattle.directory.specs.declared.flattened.rows.ElementRow.{ElementRow}

abbrev pub no_row : ElementRow
no_row = record { element = 0; root = 0; parts = 0 }

-- the element n steps above e
abbrev pub upward : List ℕ → ℕ → ℕ → ℕ
upward parents zero e = e
upward parents (suc n) e = upward parents n (slice_index parents e)

-- the n elements that lead to e, e the last
abbrev pub chain : List ℕ → ℕ → ℕ → List ℕ
chain parents zero e = []
chain parents (suc n) e = chain parents n (slice_index parents e) ++ e ∷ []

abbrev pub name_at : Sheet → ℕ → Name
name_at s e = name_bytes (names_in s) (slice_index_or (elements_in s) e no_element).name

abbrev pub path_to : Sheet → List ℕ → ℕ → ℕ → List Name
path_to s parents n e = map (name_at s) (chain parents n e)

abbrev pub leaf_of_row : Sheet → List ℕ → ElementRow → Leaf
leaf_of_row s parents r = record { root = r.root; parts = path_to s parents r.parts r.element }

abbrev pub RowsInside : Sheet → List ElementRow → Type 0
RowsInside s rows = (k : ℕ) → k < length rows → (slice_index_or rows k no_row).element < length (elements_in s)

abbrev pub ParentsInside : Sheet → List ℕ → Type 0
ParentsInside s parents = (k : ℕ) → k < length (elements_in s) → slice_index parents k < length (elements_in s)
