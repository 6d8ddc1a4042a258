-- What an argument of the program says: a date as in 2026-03-31, by its number, or nothing.
use Rattle.std.specs.Prelude.{Bool, true, List, ◌≡◌, ℕ, ◌+◌, ◌-◌, ◌*◌, ◌≤◌, Option, None, Some, length}
use Rattle.laws.specs.Tests.{equal, at_most, ◌and◌, ◌or◌, every, pick}
use Rattle.protocol.specs.Terms.{item}

-- '0' to '9'
unfoldable pub is_digit : ℕ → Bool
is_digit c = at_most 48 c and at_most c 57

-- '-' behind the year and behind the month, a digit at any other place
unfoldable pub placed : ℕ → ℕ → Bool
placed i c = pick (equal i 4 or equal i 7) (equal c 45) (is_digit c)

-- ten characters, each of them in its place
unfoldable pub formed : List ℕ → Bool
formed text = equal (length text) 10 and every (λ i. placed i (item text i)) 10

-- the number of two digits from a place on
unfoldable pub two_at : List ℕ → ℕ → ℕ
two_at text i = (item text i - 48) * 10 + (item text (i + 1) - 48)

-- year × 10,000 + month × 100 + day
unfoldable pub number_in : List ℕ → ℕ
number_in text = (two_at text 0 * 100 + two_at text 2) * 10000 + (two_at text 5 * 100 + two_at text 8)

unfoldable pub said_by : List ℕ → Option ℕ
said_by text = pick (formed text) (Some (number_in text)) None

-- two digits stand there
pub record Digits (text : List ℕ) (i : ℕ) : Type 0 where
  pub first : is_digit (item text i) ≡ true
  pub second : is_digit (item text (i + 1)) ≡ true
  pub within : i + 2 ≤ length text
