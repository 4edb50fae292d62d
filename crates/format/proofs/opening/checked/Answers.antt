use Rattle.std.proofs.Common.{length, sym, subst}
use Rattle.format.specs.declared.layout.Layout.{Layout}
use Rattle.format.specs.Format.{Laid, Few}
use Rattle.format.proofs.Headers.{laid, fewer}
use Rattle.format.proofs.opening.checked.Goals as goal

pub check_records-requires : goal.check_records-requires
check_records-requires c =
    let bs = c.args.bytes.now in
    let e = c.in_ok-layout.ensures in
    record {
      laid = subst (λ (l : Layout). Laid l (length bs)) (sym e.1) (laid bs e.0);
      few = subst (λ (l : Layout). Few l) (sym e.1) (fewer bs e.0);
    }
