-- What is pushed to the tables. Assumes nothing.
use Rattle.std.proofs.Common.{◌≡◌, ℕ, Bool, true, false, cond, List, ◌++◌, Ok, Err, Result, sym, ◌∙◌}
use Rattle.std.proofs.lemmas.Bool.{cond-true, cond-false}
use Rattle.format.specs.declared.fault.Fault.{Fault}
use Rattle.format.specs.declared.fault.Fault.TheVariants.{TablesFull}
use Rattle.collection.specs.Views.{Held, Pushed}

-- Items behind those of a table, where a test says that there is room; `as_held` says what is held with them.
module _ {A : Type 0} (as_held : List A → Held) (front after xs : List A) (e : ℕ) (test : Bool) where
  pub taken : test ≡ true → after ≡ front ++ xs → ◌≡◌ {A = Pushed} (Ok tt, as_held after) (cond test (Ok tt, as_held (front ++ xs)) (Err (TablesFull e), as_held front))
  taken t written = (λ k. (Ok tt, as_held (written k))) ∙ sym (cond-true test (Ok tt, as_held (front ++ xs)) (Err (TablesFull e), as_held front) t)

  pub refused : (r : Result (Unit {0}) Fault) → r ≡ Err (TablesFull e) → test ≡ false → after ≡ front → ◌≡◌ {A = Pushed} (r, as_held after) (cond test (Ok tt, as_held (front ++ xs)) (Err (TablesFull e), as_held front))
  refused r told t same = (λ k. (told k, as_held (same k))) ∙ sym (cond-false test (Ok tt, as_held (front ++ xs)) (Err (TablesFull e), as_held front) t)
