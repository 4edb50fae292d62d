-- What holds of a type of a sheet holds where the sheet and the place were handed on. Assumes nothing.
use Rattle.std.proofs.Common.{◌≡◌, ℕ, sym, subst}
use Rattle.sheet.specs.declared.sheet.Sheet.{Sheet}

pub placed : {s z : Sheet} {p q : ℕ} (P : Sheet → ℕ → Type 0) → z ≡ s → q ≡ p → P s p → P z q
placed P es ep = subst (λ (y : Sheet × ℕ). P y.0 y.1) (λ i. (sym es i, sym ep i))

pub pair_placed : {s z : Sheet} {p q g h : ℕ} (P : Sheet → ℕ → ℕ → Type 0) → z ≡ s → q ≡ p → h ≡ g → P s p g → P z q h
pair_placed P es ep eg = subst (λ (y : Sheet × (ℕ × ℕ)). P y.0 y.1.0 y.1.1) (λ i. (sym es i, (sym ep i, sym eg i)))
