-- The plan of listed roots, put together. Assumes nothing.
use Rattle.std.proofs.Common.{◌≡◌, ℕ, ◌≤◌, ltb, List, length, get_or, None, Ok, Err, sym, ap, ◌∙◌}
use Rattle.std.proofs.lemmas.Bool.{le-leb, and_from, cond-true}
use Rattle.rules.specs.Leaves.{Leaf}
use Rattle.rules.specs.RootPlan.{leaves_of_listed, padded}
use Rattle.rules.specs.Searches.{first_failing}
use Rattle.format.specs.declared.fault.Fault.TheVariants.{ShortBuffer}
use Rattle.format.specs.declared.records.TypeRecord.{TypeRecord}
use Rattle.format.specs.Records.{no_type}
use Rattle.sheet.specs.declared.sheet.Sheet.{Sheet}
use Rattle.sheet.specs.Seen.{roots_in}
use Rattle.planner.specs.RootPlans.{PlanAnswer, listed_fields, field_records, all_records, has_room, planned, root_level_by, root_level}

module _ (s : Sheet) (ls : List Leaf) (listed leaves : List ℕ) (fields : List TypeRecord) where
  pub planned_is : (n m k : ℕ) (mask : List ℕ) (schema : List TypeRecord)
      → None ≡ first_failing (λ j. ltb (get_or listed j 0) (length (roots_in s))) 0 (length listed)
      → length ls ≤ length leaves → length (all_records s) ≤ length fields
      → n ≡ length (leaves_of_listed listed 0 ls) → m ≡ length (listed_fields s listed) → k ≡ length (field_records (listed_fields s listed))
      → mask ≡ padded 0 (leaves_of_listed listed 0 ls) (length leaves) → schema ≡ padded no_type (field_records (listed_fields s listed)) (length fields)
      → ◌≡◌ {A = PlanAnswer} (Ok (record { leaves = n; fields = m; types = k }), (mask, schema)) (root_level s ls listed leaves fields)
  planned_is n m k mask schema none a b e f g p q =
      let room : has_room s ls leaves fields ≡ _ = and_from _ _ (le-leb (length ls) (length leaves) a) (le-leb (length (all_records s)) (length fields) b) in
      (λ i. (Ok (record { leaves = e i; fields = f i; types = g i }), (p i, q i)))
      ∙ sym (cond-true (has_room s ls leaves fields) (planned s ls listed leaves fields) (Err ShortBuffer, (leaves, fields)) room)
      ∙ ap (λ o. root_level_by o s ls listed leaves fields) none
