use Rattle.std.proofs.Common.{◌≡◌, take, Err, arith, rules}
use Rattle.std.proofs.lemmas.List.{length-take-le}
use Rattle.std.proofs.lemmas.Bool.{le-leb, lt-leb}
use Rattle.format.specs.declared.fault.Fault.TheVariants.{TablesFull}
use Rattle.collection.specs.Views.{held}
use Rattle.collection.proofs.Pushing.{taken, refused}
use Rattle.collection.proofs.state.Collection.push_casts.Goals as goal

pub returns-in_err-self : goal.returns-in_err-self
unfolding held
returns-in_err-self c =
    let self = c.args.self.now.counts in
    let t = c.args.records.now in
    let xs = c.args.casts.now in
    let short = length-take-le self.casts t.casts (omega arith) in
    let told : c.from_residual.result ≡ Err (TablesFull c.args.expression) = search rules in
    refused (λ w. record { expressions = take self.expressions t.expressions; casts = w; accesses = take self.accesses t.accesses }) (take self.casts t.casts) _ xs c.args.expression _ _ told (lt-leb _ _ (omega (arith, short, c.in_err-self.ensures.1))) c.in_err-self.ensures.2

pub returns : goal.returns
unfolding held
returns c =
    let self = c.args.self.now.counts in
    let t = c.args.records.now in
    let xs = c.args.casts.now in
    let short = length-take-le self.casts t.casts (omega arith) in
    taken (λ w. record { expressions = take self.expressions t.expressions; casts = w; accesses = take self.accesses t.accesses }) (take self.casts t.casts) _ xs c.args.expression _ (le-leb _ _ (omega (arith, short, c.in_ok-self.ensures.0, c.in_ok-self.ensures.1))) c.in_ok-self.ensures.2
