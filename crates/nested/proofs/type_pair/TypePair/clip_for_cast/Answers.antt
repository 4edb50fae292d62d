use Rattle.std.proofs.Common.{length, inl, inr, sym, ap, ◌∙◌, arith}
use Rattle.nested.specs.declared.tables.ClipTable.{ClipTable}
use Rattle.nested.proofs.Clipped.{leaves_fit, tree_fits, clip_void, clip_none, clip_all, clip_some}
use Rattle.nested.proofs.type_pair.TypePair.clip_for_cast.Goals as goal
use Rattle.nested.proofs.type_pair.TypePair.clip_for_cast.Goals.{After-clear-2}

pub clip-requires : goal.clip-requires
clip-requires c =
    let s = c.args.self.sheet.now in
    let few = leaves_fit s c.args.self.place c.args.self.here in
    record { room = omega (arith, ap length c.clear.ensures); low = omega arith; space = omega (arith, ap length c.clear-2.ensures, tree_fits s c.args.self.place c.args.self.here) }

pub returns-in-Err : goal.returns-in-Err
returns-in-Err c = clip_void c.args.self.sheet.now c.args.self.place c.args.self.goal c.in-Err.ensures.refuses

pub returns-then-kept-eq0 : goal.returns-then-kept-eq0
returns-then-kept-eq0 c =
    let did = c.in_default.ensures in
    let before : ClipTable = record { offsets = c.clear.new.self; types = c.clear-2.new.self } in
    elim c.then-kept-eq0.either [
      | inl e ↦ clip_none c.args.self.sheet.now c.args.self.place c.args.self.goal before c.clip.new.leaf c.clip.new.table c.clear.ensures c.clear-2.ensures did.adds did.refuses (sym c.len-kept.ensures.value ∙ e)
      | inr e ↦ clip_all c.args.self.sheet.now c.args.self.place c.args.self.goal before c.clip.new.leaf c.clip.new.table c.clear.ensures c.clear-2.ensures did.adds did.refuses (sym c.len-kept.ensures.value ∙ e.1)
    ]

pub returns : goal.returns
returns c =
    let did = c.in_default.ensures in
    let before : ClipTable = record { offsets = c.clear.new.self; types = c.clear-2.new.self } in
    clip_some c.args.self.sheet.now c.args.self.place c.args.self.goal before c.clip.new.leaf c.clip.new.table c.clear.ensures c.clear-2.ensures did.adds did.refuses
    (λ e. c.if-kept-eq0.false (c.len-kept.ensures.value ∙ e)) (λ e. c.if-kept-leaves.false (c.len-kept.ensures.value ∙ e))
