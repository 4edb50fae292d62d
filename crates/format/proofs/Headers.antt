-- What a header without a fault says. Assumes nothing.
use Rattle.std.proofs.Common.{◌≡◌, ℕ, zero, suc, ◌-◌, ◌/◌, ◌<◌, ◌≤◌, Bool, true, false, cond, List, length, get_or, Some, None, Option, sym, refl, subst, mul-le-mul_left, div-le_self, arith}
use native.Mathlib.Nat.{mul-div-le}
use Rattle.std.proofs.lemmas.Bool.{leb-true}
use Rattle.std.proofs.lemmas.Bool.Decides.{nat_tests}
use Rattle.std.specs.Option.{option_map}
use Rattle.rules.proofs.Searches.{neither, all_pass}
use Rattle.format.specs.declared.fault.Fault.{Fault}
use Rattle.format.specs.declared.layout.Section.{Section}
use Rattle.format.specs.Format.{Laid, Few}
use Rattle.format.specs.Layouts.{section_at, section_of, layout_of, widths, limits, has_header, lies, lies_at, few, extents_fault, counts_fault, layout_fault}
use Rattle.format.specs.Records.{Inside}

pub none_mapped : {A B : Type 0} (f : A → B) (o : Option A) → option_map f o ≡ None → None ≡ o
none_mapped f None e = refl
none_mapped f (Some a) e = let z : ◌≡◌ {A = ℕ} 0 1 = cc in absurd (omega arith)

-- the quotient holds the count
inside : (width count start bytes : ℕ) → lies width count start bytes ≡ true → Inside width count start bytes
inside width count start bytes h some =
    let q : count ≤ (bytes - start) / width = grind (arith, nat_tests) in
    let low = mul-le-mul_left {m = count} {n = (bytes - start) / width} width q in
    let high = mul-div-le (bytes - start) width in
    let less = div-le_self (bytes - start) width in
    omega (arith, low, high, less, q)

same_section : (bs : List ℕ) (k : ℕ) → k < 8 → section_of (layout_of bs) k ≡ section_at bs k
same_section bs zero h = refl
same_section bs (suc zero) h = refl
same_section bs (suc (suc zero)) h = refl
same_section bs (suc (suc (suc zero))) h = refl
same_section bs (suc (suc (suc (suc zero)))) h = refl
same_section bs (suc (suc (suc (suc (suc zero))))) h = refl
same_section bs (suc (suc (suc (suc (suc (suc zero)))))) h = refl
same_section bs (suc (suc (suc (suc (suc (suc (suc zero))))))) h = refl
same_section bs (suc (suc (suc (suc (suc (suc (suc (suc k)))))))) h = absurd (omega arith)

no_fault : (b : Bool) (o p : Option Fault) → cond b o p ≡ None → (p ≡ None → ⊥) → o ≡ None
no_fault true o p e n = e
no_fault false o p e n = absurd (n e)

module _ (bs : List ℕ) (sound : layout_fault bs ≡ None) where
  both : (extents_fault bs ≡ None) × (counts_fault bs ≡ None)
  both =
      let o = no_fault (has_header bs) _ _ sound (λ e. let z : ◌≡◌ {A = ℕ} 0 1 = cc in omega arith) in
      let n = neither _ _ o in
      (n.0, (neither _ _ n.1).0)

  pub laid : Laid (layout_of bs) (length bs)
  laid k h =
      subst (λ (s : Section). Inside (get_or widths k 0) s.count s.start (length bs)) (sym (same_section bs k h))
      (inside (get_or widths k 0) (section_at bs k).count (section_at bs k).start (length bs) (all_pass (lies_at bs) 8 0 (none_mapped _ _ both.0) k (omega arith) (omega arith)))

  pub fewer : Few (layout_of bs)
  fewer k h =
      subst (λ (s : Section). s.count ≤ get_or limits k 0) (sym (same_section bs k h))
      (leb-true _ _ (all_pass (few bs) 8 0 (none_mapped _ _ both.1) k (omega arith) (omega arith)))
