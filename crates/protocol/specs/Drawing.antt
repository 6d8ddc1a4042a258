-- Document 01, "Drawing from dice".
use Rattle.std.specs.Prelude.{List, [], ◌∷◌, ◌++◌, ℕ, zero, suc, ◌+◌, ◌-◌, ◌*◌, ◌/◌, ◌%◌}
use Rattle.laws.specs.Tests.{below, pick}
use Rattle.laws.specs.Sums.{one_if}
use Rattle.laws.specs.Bytes.{number}
use Rattle.laws.specs.Tables.{tabulate}
use Rattle.sha3.specs.Sha3.{sha3_224}
use Rattle.protocol.specs.Terms.{item, decimal}

-- "lower-case hexadecimal digits": of one number below 16, and of every byte its two
unfoldable pub hex_digit : ℕ → ℕ
hex_digit v = pick (below v 10) (48 + v) (87 + v)

unfoldable pub hex_digits : List ℕ → List ℕ
hex_digits [] = []
hex_digits (b ∷ bs) = hex_digit (b / 16) ∷ hex_digit (b % 16) ∷ hex_digits bs

-- "Q is the 30 characters followed by the 56 lower-case hexadecimal digits of the SHA3-224 of every record byte before that dice
-- command": these bytes are an argument, and the dice command is not among them
unfoldable pub challenge : List ℕ → List ℕ → List ℕ
challenge dice prefix = dice ++ hex_digits (sha3_224 prefix)

-- SHA3-224 of a number in decimal, Q and a last character
unfoldable pub draw_hash : ℕ → List ℕ → ℕ → List ℕ
draw_hash i q last = sha3_224 (decimal i ++ (q ++ (last ∷ [])))

-- "h being the first 8 bytes of SHA3-224(i in decimal, first Q, "2")", the character "2" being 50
unfoldable pub list_hash : List ℕ → ℕ → ℕ
list_hash q i = number (draw_hash i q 50) 0 8

-- "go through the lists i = 0 to 2m − 1; with r still to choose, list i is chosen if h mod (2m − i) < r": list i and the k − 1
-- behind it, list i in the lowest bit
unfoldable pub draw_from : (ℕ → ℕ) → ℕ → ℕ → ℕ → ℕ
draw_from h i zero r = 0
draw_from h i (suc k) r = let chosen = one_if (below (h i % suc k) r) in chosen + 2 * draw_from h (suc i) k (r - chosen)

unfoldable pub drawn_mask : ℕ → List ℕ → ℕ
drawn_mask m q = draw_from (list_hash q) 0 (2 * m) m

-- "Side of ballot j: the lowest bit of the last byte of SHA3-224(j + 1 in decimal, second Q, "1")", the character "1" being 49
unfoldable pub drawn_side : List ℕ → ℕ → ℕ
drawn_side q j = item (draw_hash (j + 1) q 49) 27 % 2

unfoldable pub drawn_sides : ℕ → List ℕ → List ℕ
drawn_sides n q = tabulate (drawn_side q) n
