-- Document 01, "Tablet" and "The program's page": the receipt check, the announced votes, the tally, the page; and the draw of a
-- mask by itself. Document 02, item 1: the receipt lookup.
use Rattle.std.specs.Prelude.{true, false, List, [], ◌∷◌, ◌++◌, map, ℕ, zero, suc, ◌+◌, ◌-◌, length, drop}
use Rattle.laws.specs.Tests.{equal, below, differ, at_most, ◌and◌, ◌or◌, every, same, pick, choose}
use Rattle.laws.specs.Faults.{rule, kept, ◌then◌, number_of}
use Rattle.laws.specs.Bytes.{number}
use Rattle.laws.specs.Sums.{times}
use Rattle.laws.specs.Tables.{tabulate}
use Rattle.laws.specs.Chunks.{piece, chunks}
use Rattle.sha3.specs.Sha3.{sha3_224}
use Rattle.protocol.specs.declared.Form.{Form}
use Rattle.protocol.specs.declared.Form.TheVariants.{Unnumbered, Numbered}
use Rattle.protocol.specs.declared.Parameters.{Parameters}
use Rattle.protocol.specs.declared.Due.TheVariants.{First}
use Rattle.protocol.specs.Answers.{Answer, answer_of, as_printed, otherwise, not_posted}
use Rattle.protocol.specs.Terms.{item, in_limits, decimal}
use Rattle.protocol.specs.Layout.{at_ballot, part_one_length}
use Rattle.protocol.specs.Record.{parameters_of, id_of, vote_of}
use Rattle.protocol.specs.Rules.{fair_dice}
use Rattle.protocol.specs.Drawing.{challenge, drawn_mask}
use Rattle.protocol.specs.Judging.{found, ballot_faults, first_fault}

-- ---- the receipt check

module _ (p : Parameters) (r : List ℕ) (printed : List ℕ) where
  -- of the ballot with the printed id: "posted as printed, posted otherwise (the id is there, the hash differs)"
  unfoldable pub receipt_at : ℕ → List ℕ
  receipt_at j = pick (same (piece printed 4 28) (sha3_224 (piece r (at_ballot p j) 197))) as_printed otherwise

  -- among the first n ballots: "or not posted (no such id)"
  unfoldable pub receipt_among : ℕ → List ℕ
  receipt_among zero = not_posted
  receipt_among (suc j) = pick (equal (id_of p r j) (number printed 0 4)) (receipt_at j) (receipt_among j)

-- "The receipt check tests its receipt's length (18), then 1 to 5 as the judge."
unfoldable pub receipt_refusal : List ℕ → List ℕ → ℕ
receipt_refusal r printed =
    let p = parameters_of r in
    rule 18 (equal (length printed) 32) (number_of (found false p r First then ballot_faults false p r p.ballots))

-- "reads the parameters and all ballots and answers"
unfoldable pub receipt_checked : List ℕ → List ℕ → Answer
receipt_checked r printed = let p = parameters_of r in answer_of (receipt_refusal r printed) (receipt_among p r printed p.ballots)

-- ---- the lookup: document 02, item 1

-- "shall stop at the first ballot whose id is the one sought or larger": how many of the first n ballots are read, that one being the
-- last of them. Ballot j is read where every ballot before it has a smaller id.
unfoldable pub ballots_read : Parameters → List ℕ → List ℕ → ℕ → ℕ
ballots_read p r printed zero = 0
ballots_read p r printed (suc j) =
    pick (every (λ i. below (id_of p r i) (number printed 0 4)) j) (suc j) (ballots_read p r printed j)

-- "Up to that ballot's last byte it refuses as the check does"
unfoldable pub lookup_refusal : List ℕ → List ℕ → ℕ
lookup_refusal r printed =
    let p = parameters_of r in
    let read = ballots_read p r printed p.ballots in
    rule 18 (equal (length printed) 32) (number_of (found false p r First then ballot_faults false p r read))

-- "it gives the same answer as the reading of all ballots ..; a fault behind is left to the judge"
unfoldable pub looked_up : List ℕ → List ℕ → Answer
looked_up r printed =
    let p = parameters_of r in
    let read = ballots_read p r printed p.ballots in
    answer_of (lookup_refusal r printed) (receipt_among p r printed read)

-- ---- the announced votes

-- "The votes announced are those of the .. n commands 09"
unfoldable pub announced_votes : List ℕ → List ℕ
announced_votes r = let p = parameters_of r in tabulate (vote_of p r) p.ballots

-- the plain judge's number, then 18
unfoldable pub announced_refusal : List ℕ → ℕ → ℕ
announced_refusal r out_long = let k = number_of (first_fault false r) in choose k (rule 18 (equal out_long (parameters_of r).ballots) kept) k

-- ---- the tally

module _ (votes : List ℕ) where
  -- "per distinct announced vote, rising": each vote where it first stands
  unfoldable pub fresh : ℕ → List ℕ
  fresh i = pick (equal i 0 or differ (item votes (i - 1)) (item votes i)) (item votes i ∷ []) []

  unfoldable pub distinct_votes : List ℕ
  distinct_votes = chunks fresh (length votes)

  -- "and how often it was announced"
  unfoldable pub vote_counts : List ℕ
  vote_counts = map (λ v. times v (item votes) (length votes)) distinct_votes

  -- outputs of the votes' length, 18; votes that fall, 15
  unfoldable pub tally_refusal : ℕ → ℕ → ℕ
  tally_refusal values_long counts_long =
      rule 18 (equal values_long (length votes) and equal counts_long (length votes))
      (rule 15 (every (λ i. equal i 0 or at_most (item votes (i - 1)) (item votes i)) (length votes)) kept)

  -- how many pairs there are
  unfoldable pub tallied : ℕ → ℕ → Answer
  tallied values_long counts_long = answer_of (tally_refusal values_long counts_long) (length distinct_votes ∷ [])

-- what stands in front of an output whose rest is left
unfoldable pub in_front : List ℕ → List ℕ → List ℕ
in_front written before = written ++ drop (length written) before

-- ---- the page, in characters

-- "ACCEPTED", "REFUSED ", "TOO LONG", and the end of a line
abbrev pub accepted_word : List ℕ
accepted_word = 65 ∷ 67 ∷ 67 ∷ 69 ∷ 80 ∷ 84 ∷ 69 ∷ 68 ∷ []

abbrev pub refused_word : List ℕ
refused_word = 82 ∷ 69 ∷ 70 ∷ 85 ∷ 83 ∷ 69 ∷ 68 ∷ 32 ∷ []

abbrev pub too_long_word : List ℕ
too_long_word = 84 ∷ 79 ∷ 79 ∷ 32 ∷ 76 ∷ 79 ∷ 78 ∷ 71 ∷ []

-- Document 02, item 4: "On the line after `ACCEPTED` the program prints `ELECTION`, a space and the number in decimal for such a record"
abbrev pub election_word : List ℕ
election_word = 69 ∷ 76 ∷ 69 ∷ 67 ∷ 84 ∷ 73 ∷ 79 ∷ 78 ∷ 32 ∷ []

unfoldable pub election_line : Form → List ℕ
election_line Unnumbered = []
election_line (Numbered election) = election_word ++ (decimal election ++ (10 ∷ []))

-- what stands first on the page of an accepted record
unfoldable pub accepted_lines : Form → List ℕ
accepted_lines form = (accepted_word ++ (10 ∷ [])) ++ election_line form

-- "a line of the vote, one space, and how often it was announced, in decimal"
unfoldable pub tally_line : ℕ → ℕ → List ℕ
tally_line vote count = (decimal vote ++ (32 ∷ [])) ++ (decimal count ++ (10 ∷ []))

unfoldable pub tally_lines : List ℕ → List ℕ
tally_lines votes = chunks (λ i. tally_line (item (distinct_votes votes) i) (item (vote_counts votes) i)) (length (distinct_votes votes))

-- "A program .. judges it as drawn, and writes the line `ACCEPTED`, then per distinct announced vote, rising, a line .. Otherwise
-- `REFUSED`, a space and the number"
unfoldable pub page_of : ℕ → Form → List ℕ → List ℕ
page_of zero form votes = accepted_lines form ++ tally_lines votes
page_of (suc k) form votes = refused_word ++ (decimal (suc k) ++ (10 ∷ []))

-- "a record of at most 65,536 bytes ..; a longer input gives `TOO LONG`"
unfoldable pub page : List ℕ → List ℕ
page r =
    let shown = page_of (number_of (first_fault true r)) (parameters_of r).form (announced_votes r) in
    pick (at_most (length r) 65536) shown (too_long_word ++ (10 ∷ []))

-- ---- the mask drawn from dice and part one as lent

unfoldable pub draw_refusal : Parameters → List ℕ → ℕ → ℕ
draw_refusal p dice one_long =
    rule 3 (in_limits p)
    (rule 18 (equal (length dice) 30 and equal one_long (part_one_length p)) (rule 6 (fair_dice dice) kept))

unfoldable pub drawn : Parameters → List ℕ → List ℕ → Answer
drawn p dice one = answer_of (draw_refusal p dice (length one)) (drawn_mask p.compared (challenge dice one) ∷ [])
