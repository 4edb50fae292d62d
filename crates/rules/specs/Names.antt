-- Names. Assumes nothing.
use Rattle.std.specs.Prelude.{ℕ, List}

-- a name is its bytes
abbrev pub Name : Type 0
Name = List ℕ
