-- The page of a runoff: its rounds as a table, in characters. Document 02 leaves the form open.
use Rattle.std.specs.Prelude.{true, List, [], ◌∷◌, ◌++◌, ℕ, zero, suc, ◌+◌, length}
use Rattle.laws.specs.Tests.{equal, at_most, ◌and◌, ◌or◌, pick, choose}
use Rattle.laws.specs.Faults.{number_of}
use Rattle.laws.specs.Chunks.{chunks}
use Rattle.protocol.specs.declared.Form.{Form}
use Rattle.protocol.specs.Terms.{item, decimal}
use Rattle.protocol.specs.Record.{parameters_of}
use Rattle.protocol.specs.Judging.{first_fault}
use Rattle.protocol.specs.Results.{announced_votes, accepted_lines, refused_word, page}
use Rattle.runoff.specs.Rounds.{start, next, winner, blank_votes, spoiled_votes, runoff_refusal}
use Rattle.runoff.specs.declared.Standings.{Standings}

-- ---- words: "ROUND", "LEAVES", "WINNER", "NONE", "BLANK", "SPOILED", "-"; a tab, 9, stands between the columns

abbrev pub round_word : List ℕ
round_word = 82 ∷ 79 ∷ 85 ∷ 78 ∷ 68 ∷ []

abbrev pub leaves_word : List ℕ
leaves_word = 9 ∷ 76 ∷ 69 ∷ 65 ∷ 86 ∷ 69 ∷ 83 ∷ 10 ∷ []

abbrev pub winner_word : List ℕ
winner_word = 87 ∷ 73 ∷ 78 ∷ 78 ∷ 69 ∷ 82 ∷ 9 ∷ []

abbrev pub none_word : List ℕ
none_word = 78 ∷ 79 ∷ 78 ∷ 69 ∷ []

abbrev pub blank_word : List ℕ
blank_word = 66 ∷ 76 ∷ 65 ∷ 78 ∷ 75 ∷ 9 ∷ []

abbrev pub spoiled_word : List ℕ
spoiled_word = 83 ∷ 80 ∷ 79 ∷ 73 ∷ 76 ∷ 69 ∷ 68 ∷ 9 ∷ []

abbrev pub dash : List ℕ
dash = 45 ∷ []

-- ---- cells

-- a candidate: '#' and the number
unfoldable pub named : ℕ → List ℕ
named k = (35 ∷ []) ++ decimal k

-- a candidate, or a word for none
unfoldable pub named_or : List ℕ → ℕ → List ℕ
named_or word k = choose k word (named k)

unfoldable pub header_cell : ℕ → List ℕ
header_cell i = (9 ∷ []) ++ named (i + 1)

-- the count of who stood in this round, a dash for who has left before
unfoldable pub count_cell : ℕ → ℕ → ℕ → List ℕ
count_cell round left count = (9 ∷ []) ++ pick (equal left 0 or equal left round) (decimal count) dash

-- who has left in this round, among the first n candidates; 0 for none
unfoldable pub leaver_among : List ℕ → ℕ → ℕ → ℕ
leaver_among left round zero = 0
leaver_among left round (suc n) = pick (equal (item left n) round) (suc n) (leaver_among left round n)

-- ---- lines

unfoldable pub header_line : ℕ → List ℕ
header_line candidates = (round_word ++ chunks header_cell candidates) ++ leaves_word

unfoldable pub count_cells : ℕ → Standings → List ℕ
count_cells candidates s = chunks (λ i. count_cell s.rounds (item s.left i) (item s.counts i)) candidates

-- of a round, as it left the standings: its number, each candidate's count, and who leaves
unfoldable pub round_line : ℕ → Standings → List ℕ
round_line candidates s =
    (decimal s.rounds ++ count_cells candidates s)
    ++ (((9 ∷ []) ++ named_or dash (leaver_among s.left s.rounds candidates)) ++ (10 ∷ []))

unfoldable pub winner_line : ℕ → List ℕ
winner_line k = (winner_word ++ named_or none_word k) ++ (10 ∷ [])

unfoldable pub count_line : List ℕ → ℕ → List ℕ
count_line word count = (word ++ decimal count) ++ (10 ∷ [])

-- ---- the page

module _ (candidates : ℕ) (votes : List ℕ) where
  -- the lines of n rounds more, or of fewer where it is over before
  unfoldable pub round_lines : ℕ → Standings → List ℕ
  round_lines zero s = []
  round_lines (suc n) s = let t = next candidates votes s in pick s.over [] (round_line candidates t ++ round_lines n t)

  unfoldable pub runoff_lines : List ℕ
  runoff_lines =
      (header_line candidates ++ (round_lines candidates start ++ winner_line (winner candidates votes)))
      ++ (count_line blank_word (blank_votes votes) ++ count_line spoiled_word (spoiled_votes candidates votes))

-- of a record that is accepted as drawn: the number of its election, in the form that has one, and the rounds of its announced votes; or
-- the refusal of the number of candidates
unfoldable pub counted_page : ℕ → Form → List ℕ → List ℕ
counted_page candidates form votes =
    let k = runoff_refusal candidates candidates in
    choose k (accepted_lines form ++ runoff_lines candidates votes) (refused_word ++ (decimal k ++ (10 ∷ [])))

-- where the record is too long or refused, the page of document 01
unfoldable pub runoff_page : ℕ → List ℕ → List ℕ
runoff_page candidates r =
    let counted = counted_page candidates (parameters_of r).form (announced_votes r) in
    pick (at_most (length r) 65536 and equal (number_of (first_fault true r)) 0) counted (page r)
