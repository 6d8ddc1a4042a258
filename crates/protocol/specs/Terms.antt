-- Document 01, "Terms": limits, numbers, openings, commitments.
use Rattle.std.specs.Prelude.{Bool, true, false, List, [], ◌∷◌, ◌++◌, ℕ, zero, suc, ◌+◌, ◌/◌, ◌%◌, length, get_or}
use Rattle.laws.specs.Tests.{below, at_most, ◌and◌, every, pick}
use Rattle.laws.specs.Bytes.{number, bytes}
use Rattle.laws.specs.Modular.{plus}
use Rattle.sha3.specs.Sha3.{sha3_256}
use Rattle.protocol.specs.declared.Form.{Form}
use Rattle.protocol.specs.declared.Form.TheVariants.{Unnumbered, Numbered}
use Rattle.protocol.specs.declared.Parameters.{Parameters}
use Rattle.protocol.specs.declared.Place.{Place}
use Rattle.protocol.specs.declared.Place.TheVariants.{InBallot, InEntry}

-- the parameters: the first command's form, M, n and m
abbrev pub parameters : Form → ℕ → ℕ → ℕ → Parameters
parameters form M n m = record { form = form; modulus = M; ballots = n; compared = m }

-- Document 02, item 4: "servers are told which form to write", by a switch, with the election's number
unfoldable pub form_by : Bool → ℕ → Form
form_by true election = Numbered election
form_by false election = Unnumbered

-- the election's number, or 0 in the form that has none
unfoldable pub election_number : Form → ℕ
election_number Unnumbered = 0
election_number (Numbered election) = election

-- "M is the modulus, 2 to 4,294,967,295."
unfoldable pub modulus_in_limits : ℕ → Bool
modulus_in_limits M = at_most 2 M and at_most M 4294967295

-- "n is the number of ballots", 1 to 1,024 in document 01; document 02, item 3: "n may now be up to 4,096". The limit is a parameter,
-- `most`, of all that tests it, so that records can be judged under either (`first_fault_up_to` in `Judging`).
abbrev pub most_ballots : ℕ
most_ballots = 4096

abbrev pub ballots_up_to : ℕ → ℕ → Bool
ballots_up_to most n = at_most 1 n and at_most n most

unfoldable pub ballots_in_limits : ℕ → Bool
ballots_in_limits n = ballots_up_to most_ballots n

-- "There are 2m lists, m from 1 to 12."
unfoldable pub lists_in_limits : ℕ → Bool
lists_in_limits m = at_most 1 m and at_most m 12

-- rule 3: "M, n or m outside its limits"
abbrev pub in_limits_up_to : ℕ → Parameters → Bool
in_limits_up_to most p = modulus_in_limits p.modulus and ballots_up_to most p.ballots and lists_in_limits p.compared

unfoldable pub in_limits : Parameters → Bool
in_limits p = in_limits_up_to most_ballots p

-- "Indices, list numbers and positions start at 0."
abbrev pub item : List ℕ → ℕ → ℕ
item l i = get_or l i 0

-- rule 10: every number of a slice is below M
unfoldable pub all_below : ℕ → List ℕ → Bool
all_below M l = every (λ i. below (item l i) M) (length l)

-- "A number is 4 bytes. Every operand wider than one byte .. has its most significant byte first. A key is 32 bytes. An opening
-- is a key and then a number, 36 bytes."
unfoldable pub opening : List ℕ → ℕ → List ℕ
opening key x = key ++ bytes 4 x

-- the number in an opening
unfoldable pub opened : List ℕ → ℕ
opened o = number o 32 4

-- a commitment scheme: the commitment that an opening gives where it is posted in a place. Facts that rest on commitments are shown over
-- any scheme (`ValidOver` in `Stands`, `OpenedTwiceOver` in `Demand3`).
abbrev pub Scheme : Type 0
Scheme = Place → List ℕ → List ℕ

-- where a commitment is posted, as bytes. Document 02, item 8: "slot 1 (0 to 5 in the order of u1, v1, u2, v2, u3, v3), list 1 (255 decimal
-- for a ballot), and ballot id or position 4"
unfoldable pub place_bytes : Place → List ℕ
place_bytes (InBallot id slot) = (bytes 1 slot ++ bytes 1 255) ++ bytes 4 id
place_bytes (InEntry list position slot) = (bytes 1 slot ++ bytes 1 list) ++ bytes 4 position

-- what is hashed of an opening: with 01 "an opening's 36 bytes", and with 0C "key, number, election number 4, slot 1 .."
unfoldable pub hashed_bytes : Form → Place → List ℕ → List ℕ
hashed_bytes Unnumbered place o = o
hashed_bytes (Numbered election) place o = o ++ (bytes 4 election ++ place_bytes place)

-- "A commitment is the SHA3-256" of it
unfoldable pub commitment : Parameters → Scheme
commitment p place o = sha3_256 (hashed_bytes p.form place o)

-- "Sums and differences are taken modulo M." The numbers in three openings, and in six, summed.
unfoldable pub sum_of_three : ℕ → (ℕ → List ℕ) → ℕ
sum_of_three M o = plus M (plus M (opened (o 0)) (opened (o 1))) (opened (o 2))

unfoldable pub sum_of_six : ℕ → (ℕ → List ℕ) → ℕ
sum_of_six M o = plus M (plus M (plus M (sum_of_three M o) (opened (o 3))) (opened (o 4))) (opened (o 5))

-- a number in decimal: the characters of its digits, without leading zeros; ten digits hold every number of 4 bytes
unfoldable pub digits : ℕ → ℕ → List ℕ
digits zero x = []
digits (suc k) x = pick (below x 10) ((48 + x) ∷ []) (digits k (x / 10) ++ ((48 + x % 10) ∷ []))

unfoldable pub decimal : ℕ → List ℕ
decimal x = digits 10 x
