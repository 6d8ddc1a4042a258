-- Document 01, "Servers' writing": what the servers are given.
use Rattle.std.specs.Prelude.{List, ℕ, ◌+◌, ◌*◌}
use Rattle.laws.specs.Chunks.{piece}
use Rattle.protocol.specs.declared.Parameters.{Parameters}
use Rattle.protocol.specs.Terms.{item}

-- "Inputs of every part": as the servers are handed them, in slices
pub record Slices : Type 0 where
  pub parameters : Parameters
  pub ids : List ℕ
  pub votes : List ℕ
  pub numbers : List ℕ
  pub permutations : List ℕ
  pub keys : List ℕ

-- the slices as an entry is lent them
abbrev pub given : Parameters → List ℕ → List ℕ → List ℕ → List ℕ → List ℕ → Slices
given p ids votes numbers permutations keys =
    record { parameters = p; ids = ids; votes = votes; numbers = numbers; permutations = permutations; keys = keys }

-- ---- one by one

-- the same, by ballot, list, column, row, position and slot
pub record Inputs : Type 0 where
  pub parameters : Parameters
  pub id : ℕ → ℕ
  pub vote : ℕ → ℕ
  pub x : ℕ → ℕ
  pub y : ℕ → ℕ
  pub first_half : ℕ → ℕ → ℕ
  pub offset : ℕ → ℕ → ℕ → ℕ → ℕ
  pub entry_first_half : ℕ → ℕ → ℕ → ℕ
  pub permutation : ℕ → ℕ → ℕ → ℕ
  pub ballot_key : ℕ → ℕ → List ℕ
  pub entry_key : ℕ → ℕ → ℕ → List ℕ

-- ---- the numbers of a ballot, the numbers and the permutations' numbers of a list entry, and the bytes of keys of either

abbrev pub numbers_per_ballot : ℕ
numbers_per_ballot = 5

abbrev pub numbers_per_entry : ℕ
numbers_per_entry = 9

abbrev pub permutations_per_entry : ℕ
permutations_per_entry = 3

abbrev pub keys_width : ℕ
keys_width = 192

module _ (s : Slices) where
  -- "numbers, per ballot x, y, u1, u2, u3"
  unfoldable pub ballot_numbers : ℕ → List ℕ
  ballot_numbers j = piece s.numbers (numbers_per_ballot * j) numbers_per_ballot

  -- "then per list three columns of n offset pairs (rows one and two, in that column's incoming order) and n triples of first halves
  -- (by list position)"
  unfoldable pub list_numbers : ℕ → List ℕ
  list_numbers l =
      let n = s.parameters.ballots in
      piece s.numbers (numbers_per_ballot * n + l * (numbers_per_entry * n)) (numbers_per_entry * n)

  -- "permutations, three per list"
  unfoldable pub list_permutations : ℕ → List ℕ
  list_permutations l =
      let n = s.parameters.ballots in
      piece s.permutations (l * (permutations_per_entry * n)) (permutations_per_entry * n)

  -- "keys, 192 bytes per ballot, then per list and position"
  unfoldable pub ballot_keys : ℕ → List ℕ
  ballot_keys j = piece s.keys (keys_width * j) keys_width

  unfoldable pub entry_keys : ℕ → ℕ → List ℕ
  entry_keys l i =
      let n = s.parameters.ballots in
      piece s.keys (keys_width * n + keys_width * (l * n + i)) keys_width

  unfoldable pub inputs_of : Inputs
  inputs_of =
      record {
        parameters = s.parameters;
        id = item s.ids;
        vote = item s.votes;
        x = λ j. item (ballot_numbers j) 0;
        y = λ j. item (ballot_numbers j) 1;
        first_half = λ j k. item (ballot_numbers j) (2 + k);
        offset = λ l column row i. item (list_numbers l) (column * (2 * s.parameters.ballots) + (2 * i + row));
        entry_first_half = λ l i k. item (list_numbers l) (6 * s.parameters.ballots + (3 * i + k));
        permutation = λ l column i. item (list_permutations l) (column * s.parameters.ballots + i);
        ballot_key = λ j q. piece (ballot_keys j) (32 * q) 32;
        entry_key = λ l i q. piece (entry_keys l i) (32 * q) 32;
      }
