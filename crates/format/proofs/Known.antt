-- A number that may stand for something. Assumes nothing.
use Rattle.std.proofs.Common.{◌≡◌, Some, None, Option, refl}
use Rattle.std.specs.Prelude.{ok_or}
use Rattle.std.specs.Result.{result_ok}

-- what it stands for is what was asked for
pub known : {A E : Type 0} (o : Option A) (e : E) → result_ok (ok_or o e) ≡ o
known None e = refl
known (Some x) e = refl
