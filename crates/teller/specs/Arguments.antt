-- What the program's argument says.
use Rattle.std.specs.Prelude.{List, [], ◌∷◌, ℕ, ◌+◌, ◌-◌, ◌*◌, Option, None, Some, min}
use Rattle.laws.specs.Tests.{at_most, ◌and◌, pick}

-- digit behind digit, ten times what came before and the digit; from 10 on it is 10, which is no number of candidates either
unfoldable pub said_from : ℕ → List ℕ → Option ℕ
said_from x [] = Some x
said_from x (c ∷ cs) = pick (at_most 48 c and at_most c 57) (said_from (min 10 (x * 10 + (c - 48))) cs) None

-- one or more decimal digits; anything else says no number
unfoldable pub said_by : List ℕ → Option ℕ
said_by [] = None
said_by (c ∷ cs) = said_from 0 (c ∷ cs)
