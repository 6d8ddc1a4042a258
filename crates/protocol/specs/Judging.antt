-- Document 01, "What is refused": "The judge goes command by command; the first faulty one decides."
use Rattle.std.specs.Prelude.{Bool, true, false, List, [], ℕ, length}
use Rattle.laws.specs.Faults.{Found, Nothing}
use Rattle.laws.specs.Tests.{at_most, choose}
use Rattle.laws.specs.Faults.{rule, kept, located, ◌then◌, first, number_of}
use Rattle.laws.specs.Masks.{bit}
use Rattle.protocol.specs.declared.Form.{Form}
use Rattle.protocol.specs.declared.Parameters.{Parameters}
use Rattle.protocol.specs.declared.Due.{Due}
use Rattle.protocol.specs.declared.Due.TheVariants.{First, Ballot, Entry, FirstDice, Link, SecondDice, BallotHalf, ListHalf, Vote, FullOpening, End}
use Rattle.protocol.specs.Answers.{Answer, answer_of}
use Rattle.protocol.specs.Layout.{lists, record_length}
use Rattle.protocol.specs.Record.{parameters_in, parameters_of, mask_of}
use Rattle.protocol.specs.Rules.{place_of, first_rules_up_to, in_command, fault_with}

module _ (p : Parameters) (r : List ℕ) where
  -- for every compared list, and for every uncompared one
  unfoldable pub if_compared : ℕ → Found → Found
  if_compared l f = choose (bit (mask_of p r) l) Nothing f

  unfoldable pub if_opened : ℕ → Found → Found
  if_opened l f = choose (bit (mask_of p r) l) f Nothing

  -- rule 17: "bytes after 0B"
  unfoldable pub trailing_fault : Found
  trailing_fault = located (record_length p) (rule 17 (at_most (length r) (record_length p)) kept)

module _ (drawn : Bool) (p : Parameters) (r : List ℕ) where
  -- a faulty command's number, with the place where it starts; `copies` says whether rule 21 is asked for
  unfoldable pub found_with : Bool → Due → Found
  found_with copies d = located (place_of p r d) (fault_with p r copies drawn d)

  abbrev pub found : Due → Found
  found d = found_with false d

  -- "They come in this order." The ballots as receipt check and lookup read them, and as the judge does
  unfoldable pub ballot_faults : ℕ → Found
  ballot_faults n = first (λ j. found (Ballot j)) n

  unfoldable pub judged_ballots : ℕ → Found
  judged_ballots n = first (λ j. found_with true (Ballot j)) n

  unfoldable pub entry_faults : ℕ → Found
  entry_faults l = first (λ i. found (Entry l i)) p.ballots

  unfoldable pub link_faults : ℕ → Found
  link_faults l = first (λ j. found (Link l j)) p.ballots

  unfoldable pub list_half_faults : ℕ → Found
  list_half_faults j = first (λ l. if_compared p r l (found (ListHalf l j))) (lists p)

  unfoldable pub half_faults : ℕ → Found
  half_faults j = found (BallotHalf j) then list_half_faults j

  unfoldable pub vote_faults : ℕ → Found
  vote_faults n = first (λ i. found (Vote i)) n

  unfoldable pub full_faults : ℕ → Found
  full_faults l = first (λ i. found (FullOpening l i)) p.ballots

  unfoldable pub part_one_faults : Found
  part_one_faults = judged_ballots p.ballots then first entry_faults (lists p)

  unfoldable pub part_two_faults : Found
  part_two_faults = found FirstDice then first (λ l. if_compared p r l (link_faults l)) (lists p)

  unfoldable pub part_three_faults : Found
  part_three_faults =
      found SecondDice
      then (first half_faults p.ballots
      then (vote_faults p.ballots then (first (λ l. if_opened p r l (full_faults l)) (lists p) then (found End then trailing_fault p r))))

  -- all that comes behind the first command
  abbrev pub later_faults : Found
  later_faults = part_one_faults then (part_two_faults then part_three_faults)

-- the first fault of a record: "Plain judging takes mask and sides as posted. Drawn judging also demands that they be the drawn ones."
unfoldable pub first_fault : Bool → List ℕ → Found
first_fault drawn r =
    let p = parameters_of r in
    found drawn p r First then later_faults drawn p r

-- accepted, or refused by the number of the first rule broken
unfoldable pub judged : Bool → List ℕ → Answer
judged drawn r = answer_of (number_of (first_fault drawn r)) []

-- ---- the limit on n as a parameter: document 02, item 3, "n may now be up to 4,096". Only rule 3 knows it.

-- the first command's fault, where n may be up to `most`
unfoldable pub first_command_up_to : ℕ → List ℕ → Found
first_command_up_to most r = let p = parameters_of r in located (place_of p r First) (in_command p r First (first_rules_up_to most r))

-- the first fault of a record, and its verdict
unfoldable pub first_fault_up_to : ℕ → Bool → List ℕ → Found
first_fault_up_to most drawn r = first_command_up_to most r then later_faults drawn (parameters_of r) r

unfoldable pub judged_up_to : ℕ → Bool → List ℕ → Answer
judged_up_to most drawn r = answer_of (number_of (first_fault_up_to most drawn r)) []

-- ---- rule 21 as a switch: document 02, item 5, "Document 01's last sample and stored boards of that kind are now refused." Only ballots
-- know it.

-- the first fault of a record, and its verdict, with or without rule 21
unfoldable pub first_fault_with : Bool → Bool → List ℕ → Found
first_fault_with copies drawn r =
    let p = parameters_of r in
    let ballots = first (λ j. found_with drawn p r copies (Ballot j)) p.ballots in
    found drawn p r First
    then ((ballots then first (entry_faults drawn p r) (lists p)) then (part_two_faults drawn p r then part_three_faults drawn p r))

unfoldable pub judged_with : Bool → Bool → List ℕ → Answer
judged_with copies drawn r = answer_of (number_of (first_fault_with copies drawn r)) []

-- ---- one form alone: the judge of document 01 knows no first command but 01

-- the first fault of a record, and its verdict, where the first command is to have this form
unfoldable pub first_fault_in : Form → Bool → List ℕ → Found
first_fault_in form drawn r =
    let p = parameters_in form r in
    found drawn p r First then later_faults drawn p r

unfoldable pub judged_in : Form → Bool → List ℕ → Answer
judged_in form drawn r = answer_of (number_of (first_fault_in form drawn r)) []
