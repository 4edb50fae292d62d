-- The records of a section, by place. Assumes nothing.
use Rattle.std.proofs.Common.{◌≡◌, ℕ, ◌+◌, ◌*◌, ◌<◌, ◌≤◌, List, length, get_or, arith}
use Rattle.std.proofs.lemmas.List.FromFn.{length-map-range_with_len, get_or-map-range_with_len}
use Rattle.std.proofs.lemmas.List.{get_or_past}
use Rattle.format.specs.Records.{table}

module _ {R : Type 0} (width : ℕ) (from : List ℕ → ℕ → R) (bs : List ℕ) (start count : ℕ) where
  pub length-table : length (table width from bs start count) ≡ count
  unfolding table
  length-table = length-map-range_with_len (λ k. from bs (start + width * k)) 0 count

  pub record_at : (d : R) (p : ℕ) → p < count → get_or (table width from bs start count) p d ≡ from bs (start + width * p)
  unfolding table
  record_at d p h = get_or-map-range_with_len (λ k. from bs (start + width * k)) 0 count p p d h (omega arith)

  pub record_past : (d : R) (p : ℕ) → count ≤ p → get_or (table width from bs start count) p d ≡ d
  record_past d p h = get_or_past (table width from bs start count) p d (omega (arith, length-table))
