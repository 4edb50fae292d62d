-- The path of an access, part by part. Assumes nothing.
use Rattle.std.proofs.Common.{◌≡◌, ℕ, ◌+◌, ◌<◌, [], length, get_or, sym, refl, ◌∙◌}
use Rattle.std.proofs.lemmas.List.FromFn.{length-map-range_with_len, get_or-map-range_with_len}
use Rattle.rules.specs.Names.{Name}
use Rattle.sheet.specs.declared.sheet.Sheet.{Sheet}
use Rattle.access.specs.declared.accesses.StructFieldAccess.{StructFieldAccess}
use Rattle.access.specs.Accesses.{node_name, path_at}

module _ (s : Sheet) (a : StructFieldAccess) where
  pub path_long : length (path_at s a) ≡ a.parts
  path_long = length-map-range_with_len (node_name s) a.first_part a.parts

  -- what is read of the node at a place of the path is the path's part
  pub path_part : (d : ℕ) (name : Name) → d < a.parts → name ≡ node_name s (a.first_part + d) → name ≡ get_or (path_at s a) d []
  path_part d name h e = e ∙ sym (get_or-map-range_with_len (node_name s) a.first_part a.parts d (a.first_part + d) [] h refl)
