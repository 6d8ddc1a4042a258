-- The whole part: what is written one behind the other is what the protocol says, and how long each piece is.
use mathlib.Core.Path.{◌≡◌, refl, ap, ap₂, ◌∙◌}
use mathlib.Core.List.{List, [], ◌∷◌, ◌++◌}
use Prim.Native.Nat.{ℕ, ◌+◌, ◌*◌}
use native.Mathlib.Omega.{arith}
use lib.ListN.{length, length-append}
use Rattle.laws.specs.Chunks.{chunks, chunks_even}
use Rattle.laws.specs.Sorting.{sort}
use Rattle.laws.specs.Tables.{tabulate, tabulate_of}
use Rattle.protocol.specs.Terms.{item}
use Rattle.protocol.specs.Layout.{lists, part_three_length}
use Rattle.protocol.specs.Record.{second_dice_command, vote_command, halves, part_three}
use Rattle.protocol.specs.Inputs.{Slices, inputs_of}
use Rattle.protocol.specs.Servers.{link_position, announced, posted_disclosure, third_part}
use Rattle.protocol.proofs.Unrefused.{shape_iff, binary_iff}
use Rattle.protocol.proofs.Widths.{length_second_dice, length_vote}
use Rattle.disclosure.specs.Disclosed.{Shaped, Sided, Writable}
use Rattle.disclosure.proofs.FullOpenings.{opened_of, opened_long}
use Rattle.disclosure.proofs.LinkedHalves.{halves_long}

-- the halves, the votes and the full openings
abbrev pub halves_in : Slices → ℕ → List ℕ → List ℕ
halves_in s mask sides = chunks (halves s.parameters mask (link_position (inputs_of s)) (posted_disclosure (inputs_of s) [] (item sides))) s.parameters.ballots

abbrev pub votes_in : List ℕ → List ℕ
votes_in votes = chunks (λ i. vote_command i (item (sort votes) i)) (length votes)

abbrev pub opened_in : Slices → ℕ → List ℕ
opened_in s mask = chunks (opened_of s mask) (lists s.parameters)

module _ (s : Slices) (dice : List ℕ) (mask : ℕ) (sides : List ℕ) {out_long : ℕ} (w : Writable s dice mask sides out_long) where
  pub shaped : Shaped s mask
  shaped = let h = (shape_iff s.parameters.compared mask).0 w.shape in record { passed = w.passed; counted = h.0; small = h.1 }

  pub sided : Sided s sides
  sided = record { long = w.sides_long; binary = (binary_iff s sides).0 w.binary }

  -- ---- how long

  pub halves_end : length (halves_in s mask sides) ≡ s.parameters.ballots * ((s.parameters.compared + 1) * 112)
  halves_end =
      chunks_even _ ((s.parameters.compared + 1) * 112) s.parameters.ballots (λ j lj. halves_long s mask shaped [] (item sides) j lj (sided.binary j lj))

  pub votes_end : length (votes_in s.votes) ≡ s.parameters.ballots * 7
  votes_end =
      chunks_even (λ i. vote_command i (item (sort s.votes) i)) 7 (length s.votes) (λ i li. length_vote i (item (sort s.votes) i))
      ∙ ap (λ (n : ℕ). n * 7) w.passed.tests.votes_long

  pub part_end : length (second_dice_command dice ++ (halves_in s mask sides ++ (votes_in s.votes ++ (opened_in s mask ++ (11 ∷ []))))) ≡ part_three_length s.parameters
  unfolding part_three_length
  part_end =
      let half : List ℕ = halves_in s mask sides in
      let vote : List ℕ = votes_in s.votes in
      let full : List ℕ = opened_in s mask in
      omega (
        arith,
        length-append (second_dice_command dice) (half ++ (vote ++ (full ++ (11 ∷ [])))),
        length-append half (vote ++ (full ++ (11 ∷ []))),
        length-append vote (full ++ (11 ∷ [])),
        length-append full (11 ∷ []),
        length_second_dice dice w.dice_long,
        halves_end,
        votes_end,
        opened_long s mask shaped,
      )

  -- ---- what

  cast : s.votes ≡ tabulate (item s.votes) s.parameters.ballots
  cast = tabulate_of s.votes (item s.votes) s.parameters.ballots w.passed.tests.votes_long (λ j lj. refl)

  pub part_is : second_dice_command dice ++ (halves_in s mask sides ++ (votes_in s.votes ++ (opened_in s mask ++ (11 ∷ [])))) ≡ third_part s dice mask sides
  unfolding third_part part_three halves posted_disclosure announced inputs_of
  part_is =
      ap₂ (λ (v : List ℕ) (n : ℕ). second_dice_command dice ++ (halves_in s mask sides ++ (chunks (λ i. vote_command i (item v i)) n ++ (opened_in s mask ++ (11 ∷ [])))))
      (ap sort cast) w.passed.tests.votes_long
