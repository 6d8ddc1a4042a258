-- Document 01, "Servers' writing" and "Proofs": the three calls and the judge as one election.
use Rattle.std.specs.Prelude.{◌≡◌, true, false, List, [], ◌∷◌, ℕ, length, Result, Ok, Err, ⊤}
use Rattle.laws.specs.Sorting.{sort}
use Rattle.protocol.specs.Answers.{Answer, done, refused, answer_of, accepted, rule_number}
use Rattle.protocol.specs.Inputs.{Slices}
use Rattle.protocol.specs.Refusals.{afterwards}
use Rattle.protocol.specs.Servers.{first_part}
use Rattle.protocol.specs.Judging.{judged}
use Rattle.protocol.specs.Results.{announced_votes}
use Rattle.protocol.specs.Election.{Choice, drawn, election_two, election_three, election_record, election_refusal}
use Rattle.election.specs.declared.Failure.{Failure}
use Rattle.election.specs.declared.Failure.TheVariants as failure

-- an election that is held has no value where plain judging accepts its record, else the number of the rule that judging found broken
abbrev pub rejection : Answer → List ℕ
rejection (done values) = []
rejection (refused k) = k ∷ []

-- the number and values of each of the enum's cases
abbrev pub outcome_answer : Result ⊤ Failure → Answer
outcome_answer (Ok x) = done []
outcome_answer (Err (failure.Refused rule)) = refused (rule_number rule)
outcome_answer (Err (failure.Rejected rule)) = done (rule_number rule ∷ [])

-- what is lent: the slices, and mask and sides as they are given or drawn, each with its dice
pub record Lent : Type 0 where
  pub slices : Slices
  pub mask : Choice ℕ
  pub first_dice : List ℕ
  pub sides : Choice (List ℕ)
  pub second_dice : List ℕ

-- the four buffers: the three parts, and the record that they make
pub record Buffers : Type 0 where
  pub one : List ℕ
  pub two : List ℕ
  pub three : List ℕ
  pub joined : List ℕ

abbrev pub lent : Slices → Choice ℕ → List ℕ → Choice (List ℕ) → List ℕ → Lent
lent slices mask dice₁ sides dice₂ = record { slices = slices; mask = mask; first_dice = dice₁; sides = sides; second_dice = dice₂ }

abbrev pub buffers : List ℕ → List ℕ → List ℕ → List ℕ → Buffers
buffers one two three joined = record { one = one; two = two; three = three; joined = joined }

-- the first refusal, 0 for none
abbrev pub refusal_of : Lent → Buffers → ℕ
refusal_of e b =
    election_refusal e.slices e.mask e.first_dice e.sides e.second_dice (length b.one) (length b.two) (length b.three)
    (length b.joined)

-- the parts and the record that are written where nothing is refused
abbrev pub parts_of : Lent → Buffers
parts_of e = record {
  one = first_part e.slices;
  two = election_two e.slices e.mask e.first_dice;
  three = election_three e.slices e.mask e.first_dice e.sides e.second_dice;
  joined = election_record e.slices e.mask e.first_dice e.sides e.second_dice;
}

-- What holding an election does: the contract of `election::hold`.
pub record Held (e : Lent) (before after : Buffers) (answer : Answer) : Type 0 where
  -- the first refusal, or else the verdict of plain judging on the record
  pub answers : answer ≡ answer_of (refusal_of e before) (rejection (judged false (parts_of e).joined))
  -- each buffer holds its part, or where something is refused what it held
  pub one : after.one ≡ afterwards (refusal_of e before) before.one (parts_of e).one
  pub two : after.two ≡ afterwards (refusal_of e before) before.two (parts_of e).two
  pub three : after.three ≡ afterwards (refusal_of e before) before.three (parts_of e).three
  -- .. and the last one the three joined
  pub joined : after.joined ≡ afterwards (refusal_of e before) before.joined (parts_of e).joined
  -- where nothing is refused, plain judging accepts the record
  pub accepts : refusal_of e before ≡ 0 → answer ≡ accepted
  -- .. which announces exactly the votes given, smallest first
  pub announces : refusal_of e before ≡ 0 → announced_votes after.joined ≡ sort e.slices.votes
  -- .. and where mask and sides are drawn, drawn judging accepts it too
  pub accepts_drawn : e.mask ≡ drawn → e.sides ≡ drawn → refusal_of e before ≡ 0 → judged true after.joined ≡ accepted
