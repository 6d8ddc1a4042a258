-- Document 01, "Samples": the starred lines, and rows of our own for what they leave open, computed from the definitions. Each row
-- has what the definitions give and what is expected; one fact is about all rows.
use mathlib.Core.Path.{◌≡◌, refl}
use mathlib.Core.Bool.{true, false}
use mathlib.Core.List.{List, [], ◌∷◌, ◌++◌, map}
use Prim.Native.Nat.{ℕ, ◌+◌}
use lib.Count.{ones}
use lib.ListN.{length, take, replicate}
use Rattle.laws.specs.Tests.{equal, differ, below, at_most, ◌and◌, ◌or◌, every, choose}
use Rattle.laws.specs.Faults.{rule, kept, located, ◌then◌, first, number_of}
use Rattle.laws.specs.Sums.{one_if}
use Rattle.laws.specs.Bytes.{number, bytes}
use Rattle.laws.specs.Tables.{tabulate}
use Rattle.laws.specs.Modular.{plus, minus}
use Rattle.laws.specs.Permuting.{permutes}
use Rattle.protocol.specs.declared.Form.TheVariants.{Unnumbered, Numbered}
use Rattle.protocol.specs.declared.Place.TheVariants.{InBallot, InEntry}
use Rattle.protocol.specs.Terms.{parameters, form_by, item, all_below, in_limits, modulus_in_limits, ballots_in_limits, lists_in_limits, opening, place_bytes, hashed_bytes, digits, decimal}
use Rattle.protocol.specs.Tablet.{one_of_three, share, slot, ballot_command, receipt, tablet_refusal}
use Rattle.protocol.specs.Columns.{row, third_offset, source, row_server, third_offsets, second_halves, is_permutation, row_refusal, pair_refusal}
use Rattle.protocol.specs.Layout.{first_code, number_width, at_first_dice, at_second_dice, at_ballot_half, at_vote, at_end, record_length}
use Rattle.protocol.specs.Record.{form_of, form_bytes, first_command, entry_command, first_dice_command, link_command, second_dice_command, ballot_half_command, list_half_command, vote_command, full_command, parameters_of}
use Rattle.protocol.specs.Drawing.{hex_digit, hex_digits, draw_from}
use Rattle.protocol.specs.Rules.{fair_die, fair_dice, right_shape, agrees, fault_with}
use Rattle.protocol.specs.Judging.{found_with, ballot_faults}
use Rattle.protocol.specs.Inputs.{Slices, given, Inputs, ballot_numbers, list_numbers, list_permutations, ballot_keys, entry_keys, inputs_of}
use Rattle.protocol.specs.Refusals.{due_lengths, ids_rise, all_permutations, refusal}
use Rattle.protocol.specs.Results.{fresh, distinct_votes, vote_counts, receipt_refusal, tally_refusal, too_long_word, tally_line, tally_lines, election_line, accepted_lines, page_of, draw_refusal}

pub record Row : Type 0 where
  pub computed : List ℕ
  pub expected : List ℕ

-- six numbers of a tablet
six : ℕ → ℕ → ℕ → ℕ → ℕ → ℕ → ℕ → List ℕ
six M w x y u1 u2 u3 = tabulate (slot M (share M w x y) (λ k. one_of_three k u1 u2 u3)) 6

-- a row through three columns with these permutations and no offsets
through : List ℕ → List ℕ → List ℕ → List ℕ → List ℕ
through p1 p2 p3 numbers =
    let none : List ℕ = 0 ∷ 0 ∷ 0 ∷ [] in
    row_server 100 (row_server 100 (row_server 100 numbers none p1) none p2) none p3

starred : List Row
starred =
    -- "M = 100: 38 + 80 = 18; −17 = 83."
    record { computed = plus 100 38 80 ∷ minus 100 0 17 ∷ []; expected = 18 ∷ 83 ∷ [] }
    -- "M = 100, w 24, x 50, y 60, halves 7, 99, 30: z 14; v 43, 61, 84."
    ∷ record { computed = share 100 24 50 60 2 ∷ six 100 24 50 60 7 99 30; expected = 14 ∷ 7 ∷ 43 ∷ 99 ∷ 61 ∷ 30 ∷ 84 ∷ [] }
    -- "M = 2, all given numbers 1: z 1, each v 0."
    ∷ record { computed = share 2 1 1 1 2 ∷ six 2 1 1 1 1 1 1; expected = 1 ∷ 1 ∷ 0 ∷ 1 ∷ 0 ∷ 1 ∷ 0 ∷ [] }
    -- "M = 9, row 5 6 7, offsets 1 2 3, perm 2 0 1: out 1 6 8."
    ∷ record { computed = row_server 9 (5 ∷ 6 ∷ 7 ∷ []) (1 ∷ 2 ∷ 3 ∷ []) (2 ∷ 0 ∷ 1 ∷ []); expected = 1 ∷ 6 ∷ 8 ∷ [] }
    -- "Three permutations 1 2 0: s is 0 1 2."
    ∷ record { computed = let p = item (1 ∷ 2 ∷ 0 ∷ []) in tabulate (source p p p) 3; expected = 0 ∷ 1 ∷ 2 ∷ [] }
    -- "m = 2: mask 3 stands; mask 11 (three ones) and mask 17 (bit 4) are 7."
    ∷ record { computed = map (λ mask. rule 7 (right_shape 2 mask) kept) (3 ∷ 11 ∷ 17 ∷ []); expected = 0 ∷ 7 ∷ 7 ∷ [] }
    -- "n = 1, m = 1: 1,125 bytes; n = 8, m = 2: 14,347."
    ∷ record { computed = record_length (parameters Unnumbered 2 1 1) ∷ record_length (parameters Unnumbered 2 8 2) ∷ []; expected = 1125 ∷ 14347 ∷ [] }
    -- "M = 100: ballot halves sum 36 and 88, list 90 and 34: t = 46 fits both sides."
    ∷ record { computed = one_if (agrees 100 0 36 90 46) ∷ one_if (agrees 100 1 88 34 46) ∷ []; expected = 1 ∷ 1 ∷ [] }
    -- "5, 2, 5 permutes 2, 5, 5; 2, 2, 5 does not."
    ∷ record {
      computed = one_if (permutes (item (5 ∷ 2 ∷ 5 ∷ [])) (item (2 ∷ 5 ∷ 5 ∷ [])) 3) ∷ one_if (permutes (item (2 ∷ 2 ∷ 5 ∷ [])) (item (2 ∷ 5 ∷ 5 ∷ [])) 3) ∷ [];
      expected = 1 ∷ 0 ∷ [];
    }
    -- "m = 1, h of list 0 is 7: mask 2."
    ∷ record { computed = draw_from (λ i. 7) 0 2 1 ∷ []; expected = 2 ∷ [] }
    ∷ []

own : List Row
own =
    -- three different permutations: s, and what comes of a row
    record {
      computed = tabulate (source (item (1 ∷ 2 ∷ 0 ∷ [])) (item (0 ∷ 2 ∷ 1 ∷ [])) (item (2 ∷ 1 ∷ 0 ∷ []))) 3
          ++ through (1 ∷ 2 ∷ 0 ∷ []) (0 ∷ 2 ∷ 1 ∷ []) (2 ∷ 1 ∷ 0 ∷ []) (10 ∷ 20 ∷ 30 ∷ []);
      expected = 2 ∷ 0 ∷ 1 ∷ 30 ∷ 10 ∷ 20 ∷ [];
    }
    -- row three's offsets, and a split
    ∷ record { computed = third_offsets 9 (1 ∷ 8 ∷ []) (2 ∷ 8 ∷ []) ++ second_halves 9 (1 ∷ 8 ∷ []) (2 ∷ 3 ∷ []); expected = 6 ∷ 2 ∷ 8 ∷ 5 ∷ [] }
    -- a lower list takes a lower bit; as many lists as are still to choose are all chosen
    ∷ record { computed = draw_from (λ i. i) 0 4 2 ∷ draw_from (λ i. 3) 0 4 2 ∷ []; expected = 5 ∷ 10 ∷ [] }
    -- limits: n = 1,025 and 4,096 stand, 4,097 does not; M = 1 does not; m = 12 stands, 13 does not
    ∷ record {
      computed = one_if (in_limits (parameters Unnumbered 2 1025 12)) ∷ one_if (in_limits (parameters Unnumbered 2 4096 12)) ∷ one_if (in_limits (parameters Unnumbered 2 4097 12)) ∷ one_if (in_limits (parameters Unnumbered 1 1 1)) ∷ one_if (in_limits (parameters Unnumbered 2 1 13)) ∷ one_if (in_limits (parameters Unnumbered 2 0 1)) ∷ one_if (in_limits (parameters Unnumbered 2 1 0)) ∷ [];
      expected = 1 ∷ 1 ∷ 0 ∷ 0 ∷ 0 ∷ 0 ∷ 0 ∷ [];
    }
    -- "so the longest record has 37,371,979 bytes"; with an election's number "4 bytes longer"
    ∷ record { computed = record_length (parameters Unnumbered 2 4096 12) ∷ record_length (parameters (Numbered 7) 2 4096 12) ∷ []; expected = 37371979 ∷ 37371983 ∷ [] }
    -- a key, then a number, its most significant byte first
    ∷ record { computed = opening (9 ∷ 8 ∷ []) 16909060; expected = 9 ∷ 8 ∷ 1 ∷ 2 ∷ 3 ∷ 4 ∷ [] }
    -- what is hashed: with 01 the opening; with 0C behind it election number, slot, list (255 for a ballot), and id or position
    ∷ record { computed = hashed_bytes Unnumbered (InBallot 1 2) (9 ∷ 8 ∷ []) ++ hashed_bytes Unnumbered (InEntry 1 2 3) (7 ∷ []); expected = 9 ∷ 8 ∷ 7 ∷ [] }
    ∷ record {
      computed = hashed_bytes (Numbered 84281096) (InBallot 16909060 5) (90 ∷ 91 ∷ []);
      expected = 90 ∷ 91 ∷ 5 ∷ 6 ∷ 7 ∷ 8 ∷ 5 ∷ 255 ∷ 1 ∷ 2 ∷ 3 ∷ 4 ∷ [];
    }
    ∷ record {
      computed = hashed_bytes (Numbered 84281096) (InEntry 23 4095 3) (90 ∷ 91 ∷ []);
      expected = 90 ∷ 91 ∷ 5 ∷ 6 ∷ 7 ∷ 8 ∷ 3 ∷ 23 ∷ 0 ∷ 0 ∷ 15 ∷ 255 ∷ [];
    }
    -- operands in their order and widths
    ∷ record { computed = first_command (parameters (form_by false 84281096) 16909060 258 3); expected = 1 ∷ 1 ∷ 2 ∷ 3 ∷ 4 ∷ 1 ∷ 2 ∷ 3 ∷ [] }
    -- "election number 4, any value, then M, n, m as in 01"
    ∷ record {
      computed = first_command (parameters (form_by true 84281096) 16909060 258 3);
      expected = 12 ∷ 5 ∷ 6 ∷ 7 ∷ 8 ∷ 1 ∷ 2 ∷ 3 ∷ 4 ∷ 1 ∷ 2 ∷ 3 ∷ [];
    }
    ∷ record { computed = ballot_command 16909060 (λ q. q ∷ []); expected = 2 ∷ 1 ∷ 2 ∷ 3 ∷ 4 ∷ 0 ∷ 1 ∷ 2 ∷ 3 ∷ 4 ∷ 5 ∷ [] }
    ∷ record { computed = entry_command 7 258 (λ q. q ∷ []); expected = 3 ∷ 7 ∷ 1 ∷ 2 ∷ 0 ∷ 1 ∷ 2 ∷ 3 ∷ 4 ∷ 5 ∷ [] }
    ∷ record { computed = first_dice_command (49 ∷ 54 ∷ []) 16909060; expected = 4 ∷ 49 ∷ 54 ∷ 1 ∷ 2 ∷ 3 ∷ 4 ∷ [] }
    ∷ record { computed = link_command 7 258 772 16909060; expected = 5 ∷ 7 ∷ 1 ∷ 2 ∷ 3 ∷ 4 ∷ 1 ∷ 2 ∷ 3 ∷ 4 ∷ [] }
    ∷ record { computed = second_dice_command (49 ∷ 54 ∷ []); expected = 6 ∷ 49 ∷ 54 ∷ [] }
    ∷ record { computed = ballot_half_command 258 1 (λ k. k ∷ []); expected = 7 ∷ 1 ∷ 2 ∷ 1 ∷ 0 ∷ 1 ∷ 2 ∷ [] }
    ∷ record { computed = list_half_command 7 258 (λ k. k ∷ []); expected = 8 ∷ 7 ∷ 1 ∷ 2 ∷ 0 ∷ 1 ∷ 2 ∷ [] }
    ∷ record { computed = vote_command 258 16909060; expected = 9 ∷ 1 ∷ 2 ∷ 1 ∷ 2 ∷ 3 ∷ 4 ∷ [] }
    ∷ record { computed = full_command 7 258 (λ q. q ∷ []); expected = 10 ∷ 7 ∷ 1 ∷ 2 ∷ 0 ∷ 1 ∷ 2 ∷ 3 ∷ 4 ∷ 5 ∷ [] }
    -- a receipt's id comes before its hash
    ∷ record { computed = take 4 (receipt 16909060 []); expected = 1 ∷ 2 ∷ 3 ∷ 4 ∷ [] }
    -- decimals without leading zeros: "0", "10", "1024"; hexadecimal digits in lower case: "ab05", "10ff9a"
    ∷ record { computed = decimal 0 ++ (decimal 10 ++ decimal 1024); expected = 48 ∷ 49 ∷ 48 ∷ 49 ∷ 48 ∷ 50 ∷ 52 ∷ [] }
    ∷ record { computed = hex_digits (171 ∷ 5 ∷ []); expected = 97 ∷ 98 ∷ 48 ∷ 53 ∷ [] }
    ∷ record { computed = hex_digits (16 ∷ 255 ∷ 154 ∷ []); expected = 49 ∷ 48 ∷ 102 ∷ 102 ∷ 57 ∷ 97 ∷ [] }
    -- the page of a record announcing 2, 5, 5, and one refused by rule 17, and what an input that is too long gives
    ∷ record {
      computed = page_of 0 Unnumbered (2 ∷ 5 ∷ 5 ∷ []);
      expected = 65 ∷ 67 ∷ 67 ∷ 69 ∷ 80 ∷ 84 ∷ 69 ∷ 68 ∷ 10 ∷ 50 ∷ 32 ∷ 49 ∷ 10 ∷ 53 ∷ 32 ∷ 50 ∷ 10 ∷ [];
    }
    -- "On the line after `ACCEPTED` .. `ELECTION`, a space and the number in decimal"
    ∷ record {
      computed = page_of 0 (Numbered 120) (2 ∷ 5 ∷ 5 ∷ []);
      expected = 65 ∷ 67 ∷ 67 ∷ 69 ∷ 80 ∷ 84 ∷ 69 ∷ 68 ∷ 10 ∷ 69 ∷ 76 ∷ 69 ∷ 67 ∷ 84 ∷ 73 ∷ 79 ∷ 78 ∷ 32 ∷ 49 ∷ 50 ∷ 48 ∷ 10 ∷ 50 ∷ 32 ∷ 49 ∷ 10 ∷ 53 ∷ 32 ∷ 50 ∷ 10 ∷ [];
    }
    ∷ record { computed = page_of 17 (Numbered 7) []; expected = 82 ∷ 69 ∷ 70 ∷ 85 ∷ 83 ∷ 69 ∷ 68 ∷ 32 ∷ 49 ∷ 55 ∷ 10 ∷ [] }
    ∷ record { computed = too_long_word; expected = 84 ∷ 79 ∷ 79 ∷ 32 ∷ 76 ∷ 79 ∷ 78 ∷ 71 ∷ [] }
    ∷ []

-- where the inputs stand in their slices, n = 2 and m = 1: numbers and places are told by their own index
indices : ℕ → List ℕ
indices n = tabulate (λ i. i) n

lent : List ℕ → Inputs
lent keys = inputs_of (given (parameters Unnumbered 100 2 1) (11 ∷ 12 ∷ []) (21 ∷ 22 ∷ []) (indices 46) (indices 12) keys)

-- keys of 0, with 1, 2, 3 at a place
keys_with : ℕ → List ℕ
keys_with at = replicate at 0 ++ (1 ∷ 2 ∷ 3 ∷ [])

placed : List Row
placed =
    let s = lent [] in
    record { computed = s.id 1 ∷ s.vote 1 ∷ []; expected = 12 ∷ 22 ∷ [] }
    -- "numbers, per ballot x, y, u1, u2, u3"
    ∷ record { computed = s.x 1 ∷ s.y 1 ∷ s.first_half 1 0 ∷ s.first_half 1 1 ∷ s.first_half 1 2 ∷ []; expected = 5 ∷ 6 ∷ 7 ∷ 8 ∷ 9 ∷ [] }
    -- "then per list three columns of n offset pairs (rows one and two ..)": by list, column, row and place
    ∷ record {
      computed = s.offset 0 0 0 0 ∷ s.offset 0 0 1 0 ∷ s.offset 0 0 0 1 ∷ s.offset 0 1 0 0 ∷ s.offset 1 0 0 0 ∷ s.offset 1 2 1 1 ∷ [];
      expected = 10 ∷ 11 ∷ 12 ∷ 14 ∷ 28 ∷ 39 ∷ [];
    }
    -- "and n triples of first halves (by list position)": by list, position and row
    ∷ record {
      computed = s.entry_first_half 0 0 0 ∷ s.entry_first_half 0 0 1 ∷ s.entry_first_half 0 1 0 ∷ s.entry_first_half 1 0 0 ∷ s.entry_first_half 1 1 2 ∷ [];
      expected = 22 ∷ 23 ∷ 25 ∷ 40 ∷ 45 ∷ [];
    }
    -- "permutations, three per list": by list, column and place
    ∷ record { computed = s.permutation 0 0 1 ∷ s.permutation 0 1 0 ∷ s.permutation 1 0 0 ∷ s.permutation 1 2 1 ∷ []; expected = 1 ∷ 2 ∷ 6 ∷ 11 ∷ [] }
    -- "keys, 192 bytes per ballot, then per list and position": slot 1 of ballot 1, slot 2 of list 1 and position 0
    ∷ record { computed = (lent (keys_with 224)).ballot_key 1 1; expected = 1 ∷ 2 ∷ 3 ∷ [] }
    ∷ record { computed = (lent (keys_with 832)).entry_key 1 0 2; expected = 1 ∷ 2 ∷ 3 ∷ [] }
    ∷ record { computed = length ((lent (replicate 1152 0)).ballot_key 1 5) ∷ length ((lent (replicate 1152 0)).entry_key 1 1 5) ∷ []; expected = 32 ∷ 32 ∷ [] }
    ∷ []

-- the slices of an election of two ballots and two lists, M = 100
slices : List ℕ → List ℕ → List ℕ → Slices
slices ids votes permutation = given (parameters Unnumbered 100 2 1) ids votes (replicate 46 99) (permutation ++ (0 ∷ 1 ∷ 1 ∷ 0 ∷ 0 ∷ 1 ∷ 1 ∷ 0 ∷ 0 ∷ 1 ∷ [])) (replicate 1152 0)

refusals : List Row
refusals =
    -- a tablet: the modulus; each of three lengths; each of six numbers; in this order
    record {
      computed = tablet_refusal 2 1 1 1 1 1 1 192 197 32 ∷ tablet_refusal 1 9 9 9 9 9 9 0 0 0 ∷ tablet_refusal 4294967296 0 0 0 0 0 0 192 197 32 ∷ [];
      expected = 0 ∷ 3 ∷ 3 ∷ [];
    }
    ∷ record {
      computed = tablet_refusal 2 9 9 9 9 9 9 191 197 32 ∷ tablet_refusal 2 0 0 0 0 0 0 192 196 32 ∷ tablet_refusal 2 0 0 0 0 0 0 192 197 31 ∷ [];
      expected = 18 ∷ 18 ∷ 18 ∷ [];
    }
    ∷ record {
      computed = tablet_refusal 2 2 0 0 0 0 0 192 197 32 ∷ tablet_refusal 2 0 2 0 0 0 0 192 197 32 ∷ tablet_refusal 2 0 0 2 0 0 0 192 197 32
          ∷ tablet_refusal 2 0 0 0 2 0 0 192 197 32 ∷ tablet_refusal 2 0 0 0 0 2 0 192 197 32 ∷ tablet_refusal 2 0 0 0 0 0 2 192 197 32 ∷ [];
      expected = 10 ∷ 10 ∷ 10 ∷ 10 ∷ 10 ∷ 10 ∷ [];
    }
    -- a row server: modulus and number of ballots; each of four lengths; numbers and offsets; a place twice, and one that is not there
    ∷ record {
      computed = row_refusal 9 2 (8 ∷ 8 ∷ []) (8 ∷ 8 ∷ []) (1 ∷ 0 ∷ []) 2 ∷ row_refusal 1 2 [] [] [] 0 ∷ row_refusal 9 0 [] [] [] 0 ∷ row_refusal 9 4097 [] [] [] 0 ∷ [];
      expected = 0 ∷ 3 ∷ 3 ∷ 3 ∷ [];
    }
    ∷ record {
      computed = row_refusal 9 2 (9 ∷ []) (8 ∷ 8 ∷ []) (1 ∷ 0 ∷ []) 2 ∷ row_refusal 9 2 (8 ∷ 8 ∷ []) (9 ∷ []) (1 ∷ 0 ∷ []) 2
          ∷ row_refusal 9 2 (8 ∷ 8 ∷ []) (8 ∷ 8 ∷ []) (0 ∷ []) 2 ∷ row_refusal 9 2 (8 ∷ 8 ∷ []) (8 ∷ 8 ∷ []) (1 ∷ 0 ∷ []) 1 ∷ [];
      expected = 18 ∷ 18 ∷ 18 ∷ 18 ∷ [];
    }
    ∷ record {
      computed = row_refusal 9 2 (8 ∷ 9 ∷ []) (8 ∷ 8 ∷ []) (1 ∷ 1 ∷ []) 2 ∷ row_refusal 9 2 (8 ∷ 8 ∷ []) (8 ∷ 9 ∷ []) (1 ∷ 1 ∷ []) 2
          ∷ row_refusal 9 2 (8 ∷ 8 ∷ []) (8 ∷ 8 ∷ []) (1 ∷ 1 ∷ []) 2 ∷ row_refusal 9 2 (8 ∷ 8 ∷ []) (8 ∷ 8 ∷ []) (0 ∷ 2 ∷ []) 2 ∷ [];
      expected = 10 ∷ 10 ∷ 19 ∷ 19 ∷ [];
    }
    -- row three's offsets and the split: the same without a permutation
    ∷ record {
      computed = pair_refusal 9 2 (8 ∷ 8 ∷ []) (8 ∷ 8 ∷ []) 2 ∷ pair_refusal 1 2 [] [] 0 ∷ pair_refusal 9 4097 [] [] 0 ∷ [];
      expected = 0 ∷ 3 ∷ 3 ∷ [];
    }
    ∷ record {
      computed = pair_refusal 9 2 (9 ∷ []) (8 ∷ 8 ∷ []) 2 ∷ pair_refusal 9 2 (8 ∷ 8 ∷ []) (9 ∷ []) 2 ∷ pair_refusal 9 2 (8 ∷ 8 ∷ []) (8 ∷ 8 ∷ []) 1
          ∷ pair_refusal 9 2 (9 ∷ 8 ∷ []) (8 ∷ 8 ∷ []) 2 ∷ pair_refusal 9 2 (8 ∷ 8 ∷ []) (8 ∷ 9 ∷ []) 2 ∷ [];
      expected = 18 ∷ 18 ∷ 18 ∷ 10 ∷ 10 ∷ [];
    }
    -- the receipt check: a receipt of another length; then as the judge, here an empty record
    ∷ record { computed = receipt_refusal [] [] ∷ receipt_refusal [] (replicate 32 0) ∷ []; expected = 18 ∷ 1 ∷ [] }
    -- the tally: each output's length, then votes that fall
    ∷ record {
      computed = tally_refusal (2 ∷ 5 ∷ 5 ∷ []) 3 3 ∷ tally_refusal (5 ∷ 2 ∷ []) 1 2 ∷ tally_refusal (2 ∷ 5 ∷ []) 2 1 ∷ tally_refusal (5 ∷ 2 ∷ []) 2 2 ∷ [];
      expected = 0 ∷ 18 ∷ 18 ∷ 15 ∷ [];
    }
    -- a part: lengths; ids; dice; mask; a vote; sides; a permutation (none and 21: `Meetable`, `Copies`)
    ∷ record {
      computed = (let s = slices (1 ∷ 2 ∷ []) (99 ∷ 0 ∷ []) (1 ∷ 0 ∷ []) in
          refusal s false true true true ∷ refusal s true false true true ∷ refusal s true true false true ∷ refusal s true true true false ∷ []);
      expected = 18 ∷ 6 ∷ 7 ∷ 11 ∷ [];
    }
    ∷ record {
      computed = refusal (slices (2 ∷ 2 ∷ []) (99 ∷ 0 ∷ []) (1 ∷ 0 ∷ [])) true true true true ∷ refusal (slices (1 ∷ 2 ∷ []) (0 ∷ 100 ∷ []) (1 ∷ 0 ∷ [])) true true true true
          ∷ refusal (slices (1 ∷ 2 ∷ []) (99 ∷ 0 ∷ []) (1 ∷ 1 ∷ [])) true true true true ∷ [];
      expected = 5 ∷ 10 ∷ 19 ∷ [];
    }
    -- the draw of a mask: parameters, lengths, dice
    ∷ record {
      computed = draw_refusal (parameters Unnumbered 2 1 1) (replicate 30 54) 597 ∷ draw_refusal (parameters Unnumbered 1 1 1) [] 0 ∷ draw_refusal (parameters Unnumbered 2 1 1) (replicate 29 55) 597
          ∷ draw_refusal (parameters Unnumbered 2 1 1) (replicate 30 55) 596 ∷ draw_refusal (parameters Unnumbered 2 1 1) (replicate 30 55) 597 ∷ [];
      expected = 0 ∷ 3 ∷ 18 ∷ 18 ∷ 6 ∷ [];
    }
    ∷ []

pub samples : List Row
samples = starred ++ (own ++ (placed ++ refusals))

pub samples_hold : map (λ (r : Row). r.computed) samples ≡ map (λ (r : Row). r.expected) samples
unfolding samples starred place_bytes hashed_bytes first_code number_width form_by form_of form_bytes election_line accepted_lines own indices lent keys_with placed slices refusals six through ones equal differ below at_most ◌and◌ ◌or◌ every choose rule number bytes tabulate plus minus permutes in_limits modulus_in_limits ballots_in_limits lists_in_limits opening digits decimal share slot ballot_command row third_offset source row_server third_offsets second_halves at_first_dice at_second_dice at_ballot_half at_vote at_end first_command entry_command first_dice_command link_command ballot_half_command list_half_command vote_command hex_digit hex_digits draw_from right_shape agrees fresh distinct_votes vote_counts tally_line tally_lines page_of second_dice_command full_command receipt ballot_numbers list_numbers list_permutations ballot_keys entry_keys inputs_of tablet_refusal row_refusal pair_refusal all_below is_permutation receipt_refusal number_of ◌then◌ first located found_with ballot_faults fault_with parameters_of tally_refusal refusal due_lengths ids_rise all_permutations draw_refusal fair_dice fair_die
samples_hold = refl
