-- The leaves that the sections of leaves and parts list. Assumes nothing.
use Rattle.std.specs.Prelude.{◌≡◌, ◌+◌, ◌<◌, ◌≤◌, true, ◌&&◌, ◌||◌, List, [], ◌∷◌, map, length, get_or, take, drop, ◌==◌, nat_le, nat_lt, slice_index_or, refl}
use Rattle.std.proofs.Common.{sym, ap, subst, arith, add-one}
use Rattle.std.proofs.lemmas.List.{get_or-map, length-map}
use Rattle.std.proofs.lemmas.Bool.{and_parts, leb-true}
use Rattle.rules.specs.Leaves.{Leaf, roots, NeverFalls}
use Rattle.format.specs.declared.records.LeafRecord.{LeafRecord}
use Rattle.sheet.specs.declared.sheet.Sheet.{Sheet}
use Rattle.format.specs.declared.layout.Layout.{Layout}
use Rattle.format.specs.Good.{previous, fair_leaf}
use Rattle.format.specs.Records.{name_bytes, no_leaf}
use Rattle.sheet.specs.Seen.{names_in, leaves_in, parts_in}
use Rattle.sheet.proofs.Sheets.{leaf_count_lem}

-- the parts of a leaf are so many records of the section of parts, from its first one on
abbrev pub listed_leaf : Sheet → LeafRecord → Leaf
listed_leaf s l = record { root = l.root; parts = map (name_bytes (names_in s)) (take l.parts (drop l.first_part (parts_in s))) }

abbrev pub listed_leaves : Sheet → List Leaf
listed_leaves s = map (listed_leaf s) (leaves_in s)

-- each leaf of a sheet was held against the one before it
fused : (s : Sheet) (ls : List LeafRecord) → roots (map (listed_leaf s) ls) ≡ map (λ l. l.root) ls
fused s [] = refl
fused s (l ∷ ls) = ap (λ w. l.root ∷ w) (fused s ls)

held_to : (l : Layout) (before r behind : LeafRecord) → fair_leaf l before r behind ≡ true → before.root ≤ r.root
held_to l before r behind h =
    leb-true before.root r.root
    (and_parts (nat_le before.root r.root) (r.parts == 0 || nat_le (r.first_part + r.parts) l.parts.count)
    (and_parts (nat_lt r.root l.roots.count) (nat_le before.root r.root && (r.parts == 0 || nat_le (r.first_part + r.parts) l.parts.count)) h).1).0

pub listed_never_fall : (s : Sheet) → NeverFalls (roots (listed_leaves s))
listed_never_fall s =
    subst NeverFalls (sym (fused s (leaves_in s))) (λ i h.
    let inside : i + 1 < length (leaves_in s) = omega (arith, length-map (leaves_in s) (λ (l : LeafRecord). l.root)) in
    let low = get_or-map (λ (l : LeafRecord). l.root) (leaves_in s) i no_leaf 0 (omega arith) in
    let high = get_or-map (λ (l : LeafRecord). l.root) (leaves_in s) (i + 1) no_leaf 0 inside in
    let good = s.leaves (i + 1) (omega (arith, leaf_count_lem s)) in
    let before : previous no_leaf (leaves_in s) (i + 1) ≡ get_or (leaves_in s) i no_leaf = ap (previous no_leaf (leaves_in s)) (add-one i) in
    let step : (previous no_leaf (leaves_in s) (i + 1)).root ≤ (get_or (leaves_in s) (i + 1) no_leaf).root = held_to s.layout (previous no_leaf (leaves_in s) (i + 1)) (slice_index_or (leaves_in s) (i + 1) no_leaf) (slice_index_or (leaves_in s) (i + 1 + 1) no_leaf) good in
    omega (arith, low, high, step, ap (λ (l : LeafRecord). l.root) before))
