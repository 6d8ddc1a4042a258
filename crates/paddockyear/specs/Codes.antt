-- What the C faces are told by numbers, and the numbers that they give for answers.
use Rattle.std.specs.Prelude.{◌≡◌, refl, List, [], ◌∷◌, ℕ, zero, suc, ◌+◌, Result, Ok, Err, ⊤}
use Rattle.std.proofs.Common.{ap, ◌∙◌, arith}
use Rattle.laws.specs.Tests.{differ, choose}
use Rattle.laws.specs.Faults.{Found, Nothing, Fault}
use Rattle.protocol.specs.declared.Form.{Form}
use Rattle.protocol.specs.Answers.{Answer, done, refused, answer_of, accepted, rule_number}
use Rattle.protocol.specs.Terms.{item, form_by}
use Rattle.election.specs.declared.Failure.{Failure}
use Rattle.election.specs.declared.Failure.TheVariants as failure
use Rattle.election.specs.Holding.{outcome_answer}
use Rattle.schedule.specs.declared.Date.{Date}

-- the first command's form, by a flag, 0 for command 01 and any other number for 0C, and the election's number
abbrev pub form_told : ℕ → ℕ → Form
form_told numbered election = form_by (differ numbered 0) election

-- a date by its three numbers, whether or not it exists
abbrev pub date_told : ℕ → ℕ → ℕ → Date
date_told year month day = record { year = year; month = month; day = day }

-- 0 where nothing is refused, else the refusal's number
unfoldable pub code_of : Answer → ℕ
code_of (done values) = 0
code_of (refused k) = k

-- value i of an answer, or the number that was lent for it as it was
unfoldable pub value_in : Answer → ℕ → ℕ → ℕ
value_in (done values) i before = item values i
value_in (refused k) i before = before

-- of receipt check and lookup: 0 posted as printed, 101 posted otherwise, 102 not posted, else the refusal's number
unfoldable pub receipt_code : Answer → ℕ
receipt_code (done []) = 0
receipt_code (done (zero ∷ rest)) = 0
receipt_code (done (suc k ∷ rest)) = 101 + k
receipt_code (refused k) = k

-- of the election: 0 for accepted, else the number of the refusal, or of the rule that the record breaks (which no record does)
unfoldable pub outcome_code : Result ⊤ Failure → ℕ
outcome_code (Ok x) = 0
outcome_code (Err (failure.Refused rule)) = rule_number rule
outcome_code (Err (failure.Rejected rule)) = rule_number rule

-- where a fault is, or the place as it was where there is none
unfoldable pub place_in : Found → ℕ → ℕ
place_in Nothing before = before
place_in (Fault k place) before = place

-- ---- what an answer says of its refusal's number

pub code_is : (k : ℕ) (values : List ℕ) → code_of (answer_of k values) ≡ k
unfolding code_of answer_of
code_is zero values = refl
code_is (suc k) values = refl

pub value_is : (k : ℕ) (values : List ℕ) (i before : ℕ) → value_in (answer_of k values) i before ≡ choose k (item values i) before
unfolding value_in answer_of choose
value_is zero values i before = refl
value_is (suc k) values i before = refl

pub code_of_lem : (k : ℕ) {a : Answer} {r : ℕ} → a ≡ answer_of k [] → r ≡ code_of a → r ≡ k
code_of_lem k e h = h ∙ ap code_of e ∙ code_is k []

-- an answer with one value, which stands in a number that is lent, y before
pub refused_one : (number value k y : ℕ) → refused k ≡ answer_of number (value ∷ []) → (k ≡ number) × (y ≡ choose number value y)
unfolding answer_of choose
refused_one zero value k y e = absurd (let z : ◌≡◌ {A = ℕ} 0 1 = cc in omega arith)
refused_one (suc n) value k y e = (cc, refl)

pub done_one : (number value x y : ℕ) → done (x ∷ []) ≡ answer_of number (value ∷ []) → (0 ≡ number) × (x ≡ choose number value y)
unfolding answer_of choose
done_one zero value x y e = (refl, cc)
done_one (suc n) value x y e = absurd (let z : ◌≡◌ {A = ℕ} 0 1 = cc in omega arith)

-- an answer with as many values as a lent array has places, which holds y before
pub refused_all : (number : ℕ) (values : List ℕ) (k : ℕ) (y : List ℕ) → refused k ≡ answer_of number values
    → (k ≡ number) × (y ≡ choose number values y)
unfolding answer_of choose
refused_all zero values k y e = absurd (let z : ◌≡◌ {A = ℕ} 0 1 = cc in omega arith)
refused_all (suc n) values k y e = (cc, refl)

pub done_all : (number : ℕ) (values x y : List ℕ) → done x ≡ answer_of number values → (0 ≡ number) × (x ≡ choose number values y)
unfolding answer_of choose
done_all zero values x y e = (refl, cc)
done_all (suc n) values x y e = absurd (let z : ◌≡◌ {A = ℕ} 0 1 = cc in omega arith)

-- an election's answer is that of its code: a record that is written is accepted
pub outcome_answer_lem : (number : ℕ) (values : List ℕ) (o : Result ⊤ Failure) {r : ℕ} → outcome_answer o ≡ answer_of number values
    → (number ≡ 0 → outcome_answer o ≡ accepted) → r ≡ outcome_code o → answer_of r [] ≡ outcome_answer o
unfolding answer_of outcome_code
outcome_answer_lem number values o {r} e h f = rw f (go number o e h)
  where
    go : (number : ℕ) (o : Result ⊤ Failure) → outcome_answer o ≡ answer_of number values → (number ≡ 0 → outcome_answer o ≡ accepted)
        → answer_of (outcome_code o) [] ≡ outcome_answer o
    go number (Ok x) e h = refl
    go zero (Err (failure.Refused rule)) e h = absurd (let z : ◌≡◌ {A = ℕ} 0 1 = cc in omega arith)
    go (suc n) (Err (failure.Refused rule)) e h = let same : rule_number rule ≡ suc n = cc in rw same
    go zero (Err (failure.Rejected rule)) e h =
        absurd (let f : done (rule_number rule ∷ []) ≡ accepted = h refl in let z : ◌≡◌ {A = ℕ} 0 1 = cc in omega arith)
    go (suc n) (Err (failure.Rejected rule)) e h = absurd (let z : ◌≡◌ {A = ℕ} 0 1 = cc in omega arith)
