-- Beyond the demands: how many throws a false result can pass. Demand 3 speaks of three records, this of what would be answered to every
-- throw, which is what the two throws of the dice are to decide. The claim, `few_or_twice` in `proofs/Throws`:
--   Fix the bytes before command 04. To each throw, a choice of m lists out of 2m and of n sides, whoever posts answers with a record or
--   not at all. What he answers has that mask, those sides and those bytes, and for one mask the same bytes before command 06. Then
--   two accepted answers show a posted commitment opened in two ways; or, whatever votes fit what accepted answers show of the ballots, at
--   most max (2^n, C * 2^(n - k)) throws have an accepted answer whose votes differ from them in at least k places, for every k up to n. C
--   is the number of choices of lists.
use Rattle.std.specs.Prelude.{◌≡◌, ◌≢◌, Bool, true, false, List, ℕ, ◌-◌, ◌*◌, ◌^◌, ◌≤◌, ◌<◌, min, max}
use Rattle.laws.specs.Tests.{below, at_most, ◌and◌}
use Rattle.laws.specs.Masks.{bit}
use Rattle.laws.specs.Tables.{tabulate}
use Rattle.laws.specs.Sums.{sum}
use Rattle.laws.specs.Subsets.{many_below}
use Rattle.laws.specs.Binomials.{binomial}
use Rattle.laws.specs.Distances.{distance}
use Rattle.protocol.specs.declared.Parameters.{Parameters}
use Rattle.protocol.specs.Answers.{Answer, done, refused}
use Rattle.protocol.specs.Layout.{lists}
use Rattle.protocol.specs.Record.{parameters_of, mask_of, side_of, vote_of}
use Rattle.protocol.specs.Rules.{right_shape}
use Rattle.protocol.specs.Judging.{judged}
use Rattle.protocol.specs.Inputs.{Slices}
use Rattle.protocol.specs.Election.{chosen, election_record}
use Rattle.protocol.specs.Demand3.{before_first_dice, before_second_dice, Commits, OpenedTwice}

-- ---- throws

module _ (p : Parameters) where
  -- "a choice of m lists out of 2m and of n sides": bit j of the second number is the side of ballot j
  unfoldable pub is_throw : ℕ → ℕ → Bool
  is_throw mask sides = right_shape p.compared mask and below sides (2 ^ p.ballots)

  -- how many throws meet a test, of all masks of 2m bits and all sides
  unfoldable pub throws : (ℕ → ℕ → Bool) → ℕ
  throws test = sum (λ mask. many_below (λ sides. is_throw mask sides and test mask sides) (2 ^ p.ballots)) (2 ^ lists p)

  unfoldable pub all_throws : ℕ
  all_throws = throws (λ mask sides. true)

  -- "the number of choices of lists"
  unfoldable pub choices : ℕ
  choices = binomial (lists p) p.compared

  -- "at most max (2^n, C * 2^(n - k)) throws"
  unfoldable pub most_false : ℕ → ℕ
  most_false k = max (2 ^ p.ballots) (choices * 2 ^ (p.ballots - k))

  -- .. that is at most one throw in so many
  unfoldable pub one_in : ℕ → ℕ
  one_in k = min choices (2 ^ k)

-- ---- answers

-- "answers with a record or not at all": the record for a mask and sides. A refused one stands for none, as the empty one does.
abbrev pub Strategy : Type 0
Strategy = ℕ → ℕ → List ℕ

unfoldable pub is_done : Answer → Bool
is_done (done values) = true
is_done (refused number) = false

-- plain judging accepts the answer
unfoldable pub accepts : Strategy → ℕ → ℕ → Bool
accepts answer mask sides = is_done (judged false (answer mask sides))

-- .. and its "votes differ from them in at least k places", in whichever order they stand
unfoldable pub accepts_false : Parameters → Strategy → (ℕ → ℕ) → ℕ → ℕ → ℕ → Bool
accepts_false p answer votes k mask sides =
    accepts answer mask sides and at_most k (distance p.modulus (vote_of p (answer mask sides)) votes p.ballots)

-- what honest servers answer: the record that they write with this mask and these sides given, whatever the dice show
unfoldable pub served : Slices → (ℕ → List ℕ) → (ℕ → ℕ → List ℕ) → Strategy
served s dice₁ dice₂ mask sides =
    election_record s (chosen mask) (dice₁ mask) (chosen (tabulate (bit sides) s.parameters.ballots)) (dice₂ mask sides)

-- ---- the claim, over a board, the bytes before command 04, and the answers to all throws

module _ (board : List ℕ) (answer : Strategy) where
  -- a throw whose answer is accepted. Of other answers nothing is asked.
  pub record Passed (mask sides : ℕ) : Type 0 where
    pub thrown : is_throw (parameters_of board) mask sides ≡ true
    pub accepted : accepts answer mask sides ≡ true

  pub record Family : Type 0 where
    -- "those bytes"
    pub boards : (mask sides : ℕ) → Passed mask sides → before_first_dice (answer mask sides) ≡ board
    -- "that mask, those sides"
    pub masks : (mask sides : ℕ) → Passed mask sides → mask_of (parameters_of board) (answer mask sides) ≡ mask
    pub sides : (mask sides j : ℕ) → Passed mask sides → j < (parameters_of board).ballots
        → side_of (parameters_of board) (answer mask sides) j ≡ bit sides j
    -- "for one mask the same bytes before command 06": links are posted before the sides are thrown
    pub links : (mask one other : ℕ) → Passed mask one → Passed mask other
        → before_second_dice (answer mask one) ≡ before_second_dice (answer mask other)

  -- "votes fit what accepted answers show of the ballots": they are the sum of a ballot's six numbers wherever both of its sides are shown
  pub record Fits (votes : ℕ → ℕ) : Type 0 where
    pub commits : (mask₁ sides₁ mask₂ sides₂ j : ℕ) → Passed mask₁ sides₁ → Passed mask₂ sides₂ → j < (parameters_of board).ballots
        → bit sides₁ j ≢ bit sides₂ j → Commits (answer mask₁ sides₁) (answer mask₂ sides₂) j (votes j)

  -- "two accepted answers show a posted commitment opened in two ways"; the first stands for two of demand 3's three records
  pub record AnswersTwice : Type 0 where
    pub mask₁ : ℕ
    pub sides₁ : ℕ
    pub mask₂ : ℕ
    pub sides₂ : ℕ
    pub passed₁ : Passed mask₁ sides₁
    pub passed₂ : Passed mask₂ sides₂
    pub opened : OpenedTwice (answer mask₁ sides₁) (answer mask₁ sides₁) (answer mask₂ sides₂)

  -- the other case; there are votes that fit
  pub record FewFalse : Type 0 where
    pub committed : ℕ → ℕ
    pub fits : Fits committed
    pub few : (votes : ℕ → ℕ) → Fits votes → (k : ℕ) → k ≤ (parameters_of board).ballots
        → throws (parameters_of board) (accepts_false (parameters_of board) answer votes k) ≤ most_false (parameters_of board) k

-- "at most" is reached: a board over these parameters, a family of answers and votes that fit, with just so many false ones
pub record Reached (p : Parameters) (k : ℕ) : Type 0 where
  pub board : List ℕ
  pub answer : Strategy
  pub votes : ℕ → ℕ
  pub parameters : parameters_of board ≡ p
  pub family : Family board answer
  pub fits : Fits board answer votes
  pub reached : throws p (accepts_false p answer votes k) ≡ most_false p k
