-- What was read.
use Rattle.std.specs.Prelude.{List, Option, Result, Ok, Err, ⊤, ℕ, ◌<◌, ◌≤◌, length, take}
use Rattle.std.specs.Io.KnownBytes.{Consumes, IsAtEnd}

-- what is read fits into a buffer of so many bytes
abbrev pub Read : {E : Type 0} → Result ℕ E → ℕ → Type 0
Read (Ok n) long = n ≤ long
Read (Err e) long = Unit

-- where the bytes of a source are known: those that are read were its next ones, and are fewer than there is room for only at its end
abbrev pub Taken : {E : Type 0} → Result ℕ E → Option (List ℕ) → Option (List ℕ) → List ℕ → Type 0
Taken (Ok n) old new buf = Consumes old new (take n buf) × (n < length buf → IsAtEnd new)
Taken (Err e) old new buf = ⊤
