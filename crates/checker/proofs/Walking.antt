-- The walk over an expression. Assumes nothing.
use Rattle.std.proofs.Common.{◌≡◌, ℕ, ◌+◌, ◌*◌, ◌<◌, ◌≤◌, Bool, List, [], ◌++◌, length, sym, refl, ap, ◌∙◌, append_assoc, append-nil, arith}
use lib.ListN.{length-map}
use Rattle.arrayvec.specs.ArrayVec.{array_vec_len}
use Rattle.rules.specs.Expressions.{Expr, Exprs, done, arg}
use Rattle.rules.specs.Findings.{Finding, findings, findings_in}
use Rattle.sheet.specs.declared.sheet.Sheet.{Sheet}
use Rattle.sheet.specs.Seen.{nodes_in}
use Rattle.sheet.specs.SheetTrees.{file_in}
use Rattle.sheet.specs.SheetExpressions.{expr_at}
use Rattle.sheet.proofs.NodeReaders.{node_record_at, node_span, exprs_at, few_nodes, node_span_some, node_span_within}
use Rattle.access.specs.Accesses.{access_in, cast_in}
use Rattle.checker.specs.declared.recursion.TreeNodeRecursion.{TreeNodeRecursion}
use Rattle.checker.specs.declared.recursion.TreeNodeRecursion.TheVariants.{Continue, Jump}
use Rattle.checker.specs.declared.state.PushdownChecker.{PushdownChecker}
use Rattle.checker.specs.Found.{found}
use Rattle.checker.specs.Notes.{Notes, no_notes, noted}
use Rattle.checker.specs.Rules.{steps_of}
use Rattle.checker.specs.Settings.{Settings, SameSettings, sheet_of, findings_at}
use Rattle.checker.specs.Visits.{arguments_of, findings_below, Visited}
use Rattle.checker.proofs.Few.{total, total_noted, few_recorded}
use Rattle.checker.proofs.NodeTests.{arguments_are}
use Rattle.checker.proofs.Noting.{noted_append}
use Rattle.checker.proofs.Places.{behind, Left, left, step, over_none, alone, alone_is}

-- the counts of a checker are those of what it found
pub counted : (k : PushdownChecker) → total (found k) ≡ array_vec_len k.struct_field_accesses + array_vec_len k.cast_accesses
counted k =
    let s = sheet_of k in
    omega (arith, length-map k.struct_field_accesses.items (access_in s), length-map k.cast_accesses.items (cast_in s))

module _ (s : Sheet) (lists casts : Bool) where
  abbrev need : Expr → List Finding
  need = findings (file_in s) lists casts

  abbrev needs : Exprs → List Finding
  needs = findings_in (file_in s) lists casts

  needs_behind : (es fs : Exprs) → needs (behind es fs) ≡ needs es ++ needs fs
  needs_behind done fs = refl
  needs_behind (arg e es) fs = ap (λ w. need e ++ w) (needs_behind es fs) ∙ sym (append_assoc (need e) (needs es) (needs fs))

  -- what a checker notes, by the settings that it has
  set_as : (k : PushdownChecker) → Settings s lists casts k → (p : ℕ) → (findings_at k p ≡ need (expr_at s p)) × (findings_below k p ≡ needs (arguments_of (expr_at s p)))
  set_as k e p = (
    (λ i. findings (file_in (e.schema i)) (e.lists_as i) (e.casts_as i) (expr_at (e.schema i) p)),
    (λ i. findings_in (file_in (e.schema i)) (e.lists_as i) (e.casts_as i) (arguments_of (expr_at (e.schema i) p))),
  )

  -- what a fresh checker has found after its visit
  pub walked : (before after : PushdownChecker) (p : ℕ) → Settings s lists casts before → found before ≡ no_notes → found after ≡ noted (found before) (findings_at before p) → found after ≡ noted no_notes (need (expr_at s p))
  walked before after p e none v = v ∙ (λ i. noted (none i) ((set_as before e p).0 i))

  -- What was noted and what is left to note come to the same at every turn; and at most one in two places that were passed
  -- was recorded.
  pub record Walking (whole : Notes) (start at end : ℕ) (k : PushdownChecker) : Type 0 where
    pub settings : Settings s lists casts k
    pub rest : Left s at end
    pub same : noted (found k) (needs (left s at end rest)) ≡ whole
    pub room : start + 2 * total (found k) ≤ at

  pub walk_start : (p : ℕ) (k : PushdownChecker) (h : p < length (nodes_in s)) → Settings s lists casts k → k.struct_field_accesses.items ≡ [] → k.cast_accesses.items ≡ [] → Walking (noted (found k) (need (expr_at s p))) p p (p + node_span s p) k
  walk_start p k h e a c = record {
    settings = e;
    rest = alone s p h;
    same = ap (λ w. noted (found k) (needs w)) (alone_is s p h) ∙ ap (noted (found k)) (append-nil (need (expr_at s p)));
    room = omega (arith, counted k, ap length a, ap length c);
  }

  module _ (whole : Notes) (start at end : ℕ) (k : PushdownChecker) (w : Walking whole start at end k) where
    -- there is room for another access and another cast
    pub walk_room : at < end → (at < length (nodes_in s)) × (array_vec_len k.struct_field_accesses < 256) × (array_vec_len k.cast_accesses < 256)
    walk_room h =
        let low = w.rest.within in
        (omega (arith, low), omega (arith, low, few_nodes s, w.room, counted k), omega (arith, low, few_nodes s, w.room, counted k))

    pub walk_over : end ≤ at → found k ≡ whole
    walk_over h = sym (ap (λ es. noted (found k) (needs es)) (over_none s at end h w.rest)) ∙ w.same

    module _ (h : at < end) (after : PushdownChecker) (kept : SameSettings k after) where
      there : at < length (nodes_in s)
      there = omega (arith, w.rest.within)

      as_before : Settings s lists casts after
      as_before = record { schema = kept.schema ∙ w.settings.schema; lists_as = kept.lists_as ∙ w.settings.lists_as; casts_as = kept.casts_as ∙ w.settings.casts_as }

      jumped : Visited k at after Jump → Walking whole start (at + node_span s at) end after
      jumped v =
          let st = step s at end h w.rest in
          let here = (set_as k w.settings at).0 in
          let on = left s (at + node_span s at) end st.over in
          let is = v ∙ ap (noted (found k)) here in
          record {
            settings = as_before;
            rest = st.over;
            same = ap (λ n. noted n (needs on)) is ∙ sym (noted_append (found k) (need (expr_at s at)) (needs on)) ∙ sym (ap (λ es. noted (found k) (needs es)) st.here) ∙ w.same;
            room = omega (arith, ap total is, total_noted (found k) (need (expr_at s at)), few_recorded (file_in s) lists casts s at there, w.room);
          }

      entered : Visited k at after Continue → Walking whole start (at + 1) end after
      entered v =
          let st = step s at end h w.rest in
          let below = set_as k w.settings at in
          let kids = exprs_at s (node_record_at s at).children (at + 1) in
          let on = left s (at + node_span s at) end st.over in
          let same-needs : need (expr_at s at) ≡ needs kids = sym below.0 ∙ v.1 ∙ below.1 ∙ ap needs (arguments_are s at there) in
          record {
            settings = as_before;
            rest = st.into;
            same = ap (λ n. noted n (needs (left s (at + 1) end st.into))) v.0
                ∙ ap (λ es. noted (found k) (needs es)) st.below ∙ ap (noted (found k)) (needs_behind kids on ∙ ap (λ fs. fs ++ needs on) (sym same-needs))
                ∙ sym (ap (λ es. noted (found k) (needs es)) st.here) ∙ w.same;
            room = omega (arith, ap total v.0, w.room);
          }

      pub walk_on : (r : TreeNodeRecursion) → Visited k at after r → Walking whole start (at + steps_of r (node_span s at)) end after
      walk_on Continue v = entered v
      walk_on Jump v = jumped v

      -- the walk goes forward
      pub walk_forward : (r : TreeNodeRecursion) → (0 < steps_of r (node_span s at)) × (steps_of r (node_span s at) ≤ 512)
      walk_forward Continue = (omega arith, omega arith)
      walk_forward Jump = (node_span_some s at there, omega (arith, node_span_within s at there, few_nodes s))
