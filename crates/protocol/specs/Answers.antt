-- Document 01: "An answer may be an enum. If so, a definition gives this paper's number and values for each of the enum's cases, and the
-- promises use that definition."
use Rattle.std.specs.Prelude.{List, [], ◌∷◌, ℕ, zero, suc, Result, Ok, Err, ⊤}
use Rattle.laws.specs.Faults.{Found, Nothing, Fault}
use Rattle.protocol.specs.declared.Fault as code
use Rattle.protocol.specs.declared.Rule.{Rule}
use Rattle.protocol.specs.declared.Rule.TheVariants as broken
use Rattle.protocol.specs.declared.Receipt.{Receipt}
use Rattle.protocol.specs.declared.Receipt.TheVariants as receipt

-- what is asked for, with its values; or "A refusal yields its number and nothing else"
pub data Answer : Type 0 where
  done : (values : List ℕ) → Answer
  refused : (number : ℕ) → Answer

-- the answer where k is the number of the first rule broken, 0 for none
unfoldable pub answer_of : ℕ → List ℕ → Answer
answer_of zero values = done values
answer_of (suc k) values = refused (suc k)

-- ---- for each of the enums' cases

-- the papers' numbers of the rules
abbrev pub rule_number : Rule → ℕ
rule_number broken.CutShort = 1
rule_number broken.Command = 2
rule_number broken.Limits = 3
rule_number broken.Operand = 4
rule_number broken.Id = 5
rule_number broken.Dice = 6
rule_number broken.MaskShape = 7
rule_number broken.MaskDrawn = 8
rule_number broken.Link = 9
rule_number broken.Number = 10
rule_number broken.Side = 11
rule_number broken.SideDrawn = 12
rule_number broken.Opening = 13
rule_number broken.Halves = 14
rule_number broken.VoteOrder = 15
rule_number broken.OpenedList = 16
rule_number broken.BytesAfter = 17
rule_number broken.Length = 18
rule_number broken.Permutation = 19
rule_number broken.Candidates = 20
rule_number broken.CopiedBallot = 21
rule_number broken.Day = 22

-- the number of the rule that is broken, 0 for none
abbrev pub number_in : {T : Type 0} → Result T Rule → ℕ
number_in (Ok x) = 0
number_in (Err rule) = rule_number rule

-- what a search of a record finds
abbrev pub found_in : {T : Type 0} → Result T code.Fault → Found
found_in (Ok x) = Nothing
found_in (Err fault) = Fault (rule_number fault.rule) fault.at

-- an answer whose values are given by what is yielded
abbrev pub answer_in : {T : Type 0} → (T → List ℕ) → Result T Rule → Answer
answer_in values (Ok x) = done (values x)
answer_in values (Err rule) = refused (rule_number rule)

abbrev pub accepted : Answer
accepted = done []

abbrev pub verdict_answer : Result ⊤ Rule → Answer
verdict_answer = answer_in (λ _. [])

abbrev pub written_answer : Result ⊤ Rule → Answer
written_answer = answer_in (λ _. [])

-- "posted as printed, posted otherwise (the id is there, the hash differs), or not posted (no such id)"
abbrev pub as_printed : List ℕ
as_printed = 0 ∷ []

abbrev pub otherwise : List ℕ
otherwise = 1 ∷ []

abbrev pub not_posted : List ℕ
not_posted = 2 ∷ []

abbrev pub receipt_values : Receipt → List ℕ
receipt_values receipt.AsPrinted = as_printed
receipt_values receipt.Otherwise = otherwise
receipt_values receipt.NotPosted = not_posted

abbrev pub receipt_answer : Result Receipt Rule → Answer
receipt_answer = answer_in receipt_values

-- how many pairs were written
abbrev pub tally_answer : Result ℕ Rule → Answer
tally_answer = answer_in (λ pairs. pairs ∷ [])

abbrev pub draw_answer : Result ℕ Rule → Answer
draw_answer = answer_in (λ mask. mask ∷ [])
