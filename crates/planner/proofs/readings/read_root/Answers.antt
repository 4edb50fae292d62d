use Rattle.std.proofs.Common.{◌≡◌, sym, ap, ◌∙◌, subst, rules}
use Rattle.nested.specs.Clips.{shown}
use Rattle.planner.specs.declared.readings.RootReading.TheVariants.{Narrowed}
use Rattle.planner.specs.Readings.{Reads, clip_met, paths_on}
use Rattle.planner.specs.Targets.{targets_on}
use Rattle.planner.proofs.Listing.{listed_as}
use Rattle.planner.proofs.Narrowing.{target_is, unlisted, narrowed_is, entire_is}
use Rattle.planner.proofs.readings.read_root.Goals as goal

pub returns-then-contains : goal.returns-then-contains
returns-then-contains c =
    let e = listed_as c.args.used.uses.required.now c.args.used.root c.contains.ensures.value c.if-contains.true in
    search rules

pub returns-then-has_access : goal.returns-then-has_access
returns-then-has_access c =
    let e = listed_as c.args.used.uses.required.now c.args.used.root c.contains.ensures.value c.if-contains.false in
    search rules

pub returns-in_default : goal.returns-in_default
returns-in_default c =
    let e = listed_as c.args.used.uses.required.now c.args.used.root c.contains.ensures.value c.if-contains.false in
    search rules

pub returns-in-Some-narrow : goal.returns-in-Some-narrow
returns-in-Some-narrow c =
    let s = c.args.here.sheet.now in
    let p = c.args.here.place in
    let n = c.args.leaf_count in
    let u = c.args.used.uses in
    let root = c.args.used.root in
    let pair = c.of-pair.ensures in
    let sheet = c.sheet-sheet.ensures in
    let e = listed_as u.required.now root c.contains.ensures.value c.if-contains.false in
    let first = target_is u.casts.now root c.in-Some.goal sheet c.cast_target.ensures c.in-Some.is in
    let told : shown c.narrow.result c.narrow.new.table ≡ clip_met s u root p c.in-Some.goal n = c.narrow.ensures ∙ (λ k. clip_met ((pair.sheet ∙ sheet) k) u root ((pair.place ∙ c.place.ensures) k) (pair.goal k) n) in
    subst (Reads s p n (paths_on s u root) Narrowed c.narrow.new.table) (sym (unlisted s p n u root e))
    (narrowed_is s p n (targets_on s u.casts.now root) (paths_on s u root) c.in-Some.goal first c.narrow.new.table (ap (λ o. shown o c.narrow.new.table) (sym c.in-Some-narrow.is) ∙ told))

pub returns-in-None : goal.returns-in-None
returns-in-None c =
    let s = c.args.here.sheet.now in
    let p = c.args.here.place in
    let n = c.args.leaf_count in
    let u = c.args.used.uses in
    let root = c.args.used.root in
    let pair = c.of-pair.ensures in
    let sheet = c.sheet-sheet.ensures in
    let e = listed_as u.required.now root c.contains.ensures.value c.if-contains.false in
    let first = target_is u.casts.now root c.in-Some.goal sheet c.cast_target.ensures c.in-Some.is in
    let told : shown c.narrow.result c.narrow.new.table ≡ clip_met s u root p c.in-Some.goal n = c.narrow.ensures ∙ (λ k. clip_met ((pair.sheet ∙ sheet) k) u root ((pair.place ∙ c.place.ensures) k) (pair.goal k) n) in
    unlisted s p n u root e ∙ entire_is s p n (targets_on s u.casts.now root) (paths_on s u root) c.in-Some.goal first c.narrow.new.table c.narrow.result told c.in-None.is
