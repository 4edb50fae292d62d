use Rattle.std.proofs.Common.{◌≡◌, ◌<◌, length, Some, sym, ap, ◌∙◌, subst, arith}
use Rattle.format.specs.declared.records.LeafRecord.{LeafRecord}
use Rattle.sheet.specs.Seen.{leaves_in}
use Rattle.directory.specs.Listed.{listed_leaf}
use Rattle.directory.proofs.Looking.{past, here, long}
use Rattle.directory.proofs.listed.ListedDirectory.leaf_record.Goals as goal

pub returns-then-leaf-count : goal.returns-then-leaf-count
returns-then-leaf-count c =
    let s = c.args.self.now.sheet.now in
    record { leaf = sym (past s c.args.leaf (omega (arith, c.count.ensures))); parts = tt }

pub returns : goal.returns
returns c =
    let s = c.args.self.now.sheet.now in
    let h : c.args.leaf < length (leaves_in s) = omega (arith, c.count.ensures) in
    let e = c.record.ensures in
    record {
      leaf = ap (λ (r : LeafRecord). Some (listed_leaf s r)) e ∙ sym (here s c.args.leaf h);
      parts = subst (λ (r : LeafRecord). length (listed_leaf s r).parts ≡ r.parts) (sym e) (long s c.args.leaf h);
    }
