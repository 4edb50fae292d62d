-- What is kept of a tree of type records. Assumes nothing.
use Rattle.std.specs.Prelude.{suc}
use Rattle.rules.specs.Keeping.{Keep, all, within, among, Keeps, end, without, with}
use Rattle.rules.specs.Trees.{Tree, node, Forest, none, more, count, sizes}
use Rattle.format.specs.declared.records.TypeRecord.{TypeRecord}

-- A record above other trees than before: the number of its children and its span are theirs, all else stays.
abbrev pub headed_by : TypeRecord → Forest TypeRecord → TypeRecord
headed_by r f = record { kind = r.kind; nullable = r.nullable; detail = r.detail; children = count f; span = suc (sizes f); name = r.name }

-- a wrapper's one item, changed
abbrev pub on_item : (Tree TypeRecord → Tree TypeRecord) → Forest TypeRecord → Forest TypeRecord
on_item change none = none
on_item change (more t f) = more (change t) none

abbrev mutual
  pub kept_tree : Keep → Tree TypeRecord → Tree TypeRecord
  kept_tree all t = t
  kept_tree (within k) (node r f) = node (headed_by r (on_item (kept_tree k) f)) (on_item (kept_tree k) f)
  kept_tree (among ks) (node r f) = node (headed_by r (kept_forest ks f)) (kept_forest ks f)

  pub kept_forest : Keeps → Forest TypeRecord → Forest TypeRecord
  kept_forest end f = none
  kept_forest (without ks) none = none
  kept_forest (without ks) (more t f) = kept_forest ks f
  kept_forest (with k ks) none = none
  kept_forest (with k ks) (more t f) = more (kept_tree k t) (kept_forest ks f)
