use Rattle.std.proofs.Common.{◌≡◌, cond, [], ◌∷◌, ◌++◌, filter, length, get_or, take, refl, ap, sym, ◌∙◌, append-nil, arith}
use Rattle.std.proofs.lemmas.Fn.{says_at}
use Rattle.std.proofs.lemmas.List.{take_all}
use Rattle.std.proofs.lemmas.List.Elements.{filter_more}
use Rattle.access.specs.declared.accesses.StructFieldAccess.{StructFieldAccess}
use Rattle.access.proofs.paths.gather.Goals as goal
use Rattle.access.proofs.paths.gather.Goals.{then-test, else-test}

pub loop-access-preserved : goal.loop-access-preserved
loop-access-preserved g c = record {
  few = elim c.if-test.branch [
    | then-test w ↦ omega (arith, c.loop-access.invariant.few, ap (λ v. length v.items) w.paths-is)
    | else-test w ↦ omega (arith, c.loop-access.invariant.few, ap (λ v. length v.items) w.paths-is)
  ];
  gathered = λ p says.
      let xs = c.args.accesses.now in
      let i = c.loop-access.access-index in
      let blank : StructFieldAccess = record { root_index = 0; first_part = 0; parts = 0 } in
      let x = get_or xs i blank in
      let hit : c.test.result ≡ p x = says x c.test.result (says_at g.F.Fn c.test.ensures refl) in
      let more = sym (filter_more p xs i blank c.loop-access-test.true) in
      let so_far = c.loop-access.invariant.gathered p says in
      elim c.if-test.branch [
        | then-test w ↦
            ap (λ v. v.items) w.paths-is ∙ w.push.ensures.items ∙ ap (λ ys. ys ++ x ∷ []) so_far
            ∙ ap (λ b. filter p (take i xs) ++ cond b (x ∷ []) []) (sym w.if-test.true ∙ hit) ∙ more
        | else-test w ↦
            ap (λ v. v.items) w.paths-is ∙ so_far ∙ sym (append-nil (filter p (take i xs)))
            ∙ ap (λ b. filter p (take i xs) ++ cond b (x ∷ []) []) (sym w.if-test.false ∙ hit) ∙ more
      ];
}

pub returns : goal.returns
returns g c = λ p says. c.loop-access.invariant.gathered p says ∙ ap (filter p) (take_all c.loop-access.access-index c.args.accesses.now (omega arith))
