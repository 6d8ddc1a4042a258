-- Documents 01, "Columns" and "Servers' writing": the numbers that the servers work out, and the three parts that they write.
use Rattle.std.specs.Prelude.{List, ◌++◌, ℕ, ◌+◌, ◌*◌}
use Rattle.laws.specs.Modular.{plus, minus}
use Rattle.laws.specs.Permutations.{whence}
use Rattle.laws.specs.Sorting.{sort}
use Rattle.laws.specs.Tables.{tabulate}
use Rattle.protocol.specs.declared.Place.TheVariants.{InBallot, InEntry}
use Rattle.protocol.specs.Terms.{item, commitment, opening}
use Rattle.protocol.specs.Tablet.{one_of_three, share, slot}
use Rattle.protocol.specs.Columns.{row, third_offset, source}
use Rattle.protocol.specs.Record.{Board, Comparison, Disclosure, part_one, part_two, part_three}
use Rattle.protocol.specs.Drawing.{challenge, drawn_mask, drawn_sides}
use Rattle.protocol.specs.Inputs.{Inputs, Slices, inputs_of}

module _ (s : Inputs) where
  -- ---- the numbers

  -- row k of the ballots: the shares x, y, z
  unfoldable pub ballot_row : ℕ → ℕ → ℕ
  ballot_row k j = share s.parameters.modulus (s.vote j) (s.x j) (s.y j) k

  -- the six numbers of a ballot
  unfoldable pub ballot_number : ℕ → ℕ → ℕ
  ballot_number j q = slot s.parameters.modulus (λ k. ballot_row k j) (s.first_half j) q

  -- "rows one and two are given, row three's is worked out"
  unfoldable pub row_offset : ℕ → ℕ → ℕ → ℕ → ℕ
  row_offset l c k i =
      let one = s.offset l c 0 i in
      let two = s.offset l c 1 i in
      one_of_three k one two (third_offset s.parameters.modulus one two)

  -- column c of list l at row k
  unfoldable pub column : ℕ → ℕ → ℕ → (ℕ → ℕ) → ℕ → ℕ
  column l c k = row s.parameters.modulus (row_offset l c k) (s.permutation l c)

  -- row k of list l, after three columns
  unfoldable pub mixed : ℕ → ℕ → ℕ → ℕ
  mixed l k = column l 2 k (column l 1 k (column l 0 k (ballot_row k)))

  -- "place i holds ballot s(i)"
  unfoldable pub source_of : ℕ → ℕ → ℕ
  source_of l = source (s.permutation l 0) (s.permutation l 1) (s.permutation l 2)

  -- the six numbers of a list entry: "The third column then splits each number with a given first half."
  unfoldable pub entry_number : ℕ → ℕ → ℕ → ℕ
  entry_number l i q = slot s.parameters.modulus (λ k. mixed l k i) (s.entry_first_half l i) q

  -- "An honest link of ballot j names the place i with s(i) = j"
  unfoldable pub link_position : ℕ → ℕ → ℕ
  link_position l j = whence (source_of l) j s.parameters.ballots

  -- "its t is the ballot's first halves less the list's"
  unfoldable pub sum_of_halves : (ℕ → ℕ) → ℕ
  sum_of_halves u = plus s.parameters.modulus (plus s.parameters.modulus (u 0) (u 1)) (u 2)

  unfoldable pub link_shift : ℕ → ℕ → ℕ
  link_shift l j = minus s.parameters.modulus (sum_of_halves (s.first_half j)) (sum_of_halves (s.entry_first_half l (link_position l j)))

  -- "announces exactly the votes cast, smallest first"
  unfoldable pub announced : List ℕ
  announced = sort (tabulate s.vote s.parameters.ballots)

  -- ---- the openings

  unfoldable pub ballot_opening : ℕ → ℕ → List ℕ
  ballot_opening j q = opening (s.ballot_key j q) (ballot_number j q)

  unfoldable pub entry_opening : ℕ → ℕ → ℕ → List ℕ
  entry_opening l i q = opening (s.entry_key l i q) (entry_number l i q)

  -- ---- what the servers say

  unfoldable pub posted_board : Board
  posted_board =
      record {
        parameters = s.parameters;
        id = s.id;
        ballot_commitment = λ j q. commitment s.parameters (InBallot (s.id j) q) (ballot_opening j q);
        entry_commitment = λ l i q. commitment s.parameters (InEntry l i q) (entry_opening l i q);
      }

  unfoldable pub posted_comparison : List ℕ → ℕ → Comparison
  posted_comparison dice mask = record { dice = dice; mask = mask; position = link_position; shift = link_shift }

  unfoldable pub posted_disclosure : List ℕ → (ℕ → ℕ) → Disclosure
  posted_disclosure dice side =
      record {
        dice = dice;
        side = side;
        ballot_opening = λ j k. ballot_opening j (2 * k + side j);
        list_opening = λ l j k. entry_opening l (link_position l j) (2 * k + side j);
        vote = item announced;
        full_opening = entry_opening;
      }

-- ---- the three parts of the slices that the servers are handed

module _ (s : Slices) where
  unfoldable pub first_part : List ℕ
  first_part = part_one (posted_board (inputs_of s))

  -- mask given
  unfoldable pub second_part : List ℕ → ℕ → List ℕ
  second_part dice mask = part_two (inputs_of s).parameters (posted_comparison (inputs_of s) dice mask)

  -- mask "drawn from these dice and the earlier parts as lent"
  unfoldable pub mask_for : List ℕ → List ℕ → ℕ
  mask_for dice one = drawn_mask s.parameters.compared (challenge dice one)

  -- sides given
  unfoldable pub third_part : List ℕ → ℕ → List ℕ → List ℕ
  third_part dice mask sides =
      part_three (inputs_of s).parameters mask (link_position (inputs_of s)) (posted_disclosure (inputs_of s) dice (item sides))

  -- sides drawn
  unfoldable pub sides_for : List ℕ → List ℕ → List ℕ → List ℕ
  sides_for dice one two = drawn_sides s.parameters.ballots (challenge dice (one ++ two))
