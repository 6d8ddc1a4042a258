-- The limit on n decides nothing about a record within it: document 02, item 3, "a stored record of up to 1,024 ballots keeps .. its
-- verdict". And what the limit there is means for lengths: "so the longest record has 37,371,979 bytes".
use mathlib.Core.Path.{◌≡◌, refl, sym, ap, ◌∙◌}
use mathlib.Core.Logic.{inl, inr}
use mathlib.Core.Bool.{Bool, true, false}
use mathlib.Core.List.{List, []}
use Prim.Native.Nat.{ℕ, ◌+◌, ◌*◌, ◌≤◌, ◌<◌}
use native.Mathlib.Nat.{mul-le-mul}
use native.Mathlib.Omega.{arith}
use lib.ListN.{length}
use Rattle.laws.specs.Faults.{Fault}
use Rattle.laws.specs.Tests.{is_equal, is_below, is_at_most, not_at_most, and_fails}
use Rattle.laws.specs.Faults.{rule, kept, rules, located, ◌then◌, number_of, nothing_fault, rule_go, rule_stop, located_at, then_stop}
use Rattle.protocol.specs.declared.Parameters.{Parameters}
use Rattle.protocol.specs.declared.Due.TheVariants.{First}
use Rattle.protocol.specs.Answers.{answer_of, accepted, refused}
use Rattle.protocol.specs.Terms.{item, most_ballots, modulus_in_limits, lists_in_limits, in_limits_up_to, in_limits}
use Rattle.protocol.specs.Layout.{first_code, number_width, first_width, record_length}
use Rattle.protocol.specs.Record.{parameters_of}
use Rattle.protocol.specs.Rules.{first_rules, first_rules_up_to, in_command, fault, fault_with}
use Rattle.protocol.specs.Judging.{found, found_with, later_faults, first_fault, judged, first_command_up_to, first_fault_up_to, judged_up_to}
use Rattle.protocol.specs.Stands.{Stands}
use Rattle.protocol.proofs.Lengths.{record_length_lem}
use Rattle.protocol.proofs.Accepting.{accepts_iff, accepts_drawn_iff}

-- ---- the judge is the one with the limit that there is

pub first_command_is : (drawn : Bool) (r : List ℕ) → found drawn (parameters_of r) r First ≡ first_command_up_to most_ballots r
unfolding found_with fault_with first_rules first_command_up_to
first_command_is drawn r = refl

pub first_fault_is : (drawn : Bool) (r : List ℕ) → first_fault drawn r ≡ first_fault_up_to most_ballots drawn r
unfolding first_fault first_fault_up_to
first_fault_is drawn r = ap (λ f. f then later_faults drawn (parameters_of r) r) (first_command_is drawn r)

pub judged_is : (drawn : Bool) (r : List ℕ) → judged drawn r ≡ judged_up_to most_ballots drawn r
unfolding judged judged_up_to
judged_is drawn r = ap (λ f. answer_of (number_of f) []) (first_fault_is drawn r)

-- ---- two limits that are at least n

module _ (a b : ℕ) where
  pub limits_alike : (p : Parameters) → p.ballots ≤ a → p.ballots ≤ b → in_limits_up_to a p ≡ in_limits_up_to b p
  limits_alike p la lb = rw (is_at_most la, is_at_most lb) refl

  module _ (r : List ℕ) (la : (parameters_of r).ballots ≤ a) (lb : (parameters_of r).ballots ≤ b) where
    pub first_command_alike : first_command_up_to a r ≡ first_command_up_to b r
    unfolding first_command_up_to
    first_command_alike = ap (λ t. located 0 (in_command (parameters_of r) r First (rule 3 t kept))) (limits_alike (parameters_of r) la lb)

    -- the same number at the same place, or no fault
    pub fault_alike : (drawn : Bool) → first_fault_up_to a drawn r ≡ first_fault_up_to b drawn r
    unfolding first_fault_up_to
    fault_alike drawn = ap (λ f. f then later_faults drawn (parameters_of r) r) first_command_alike

    pub verdict_alike : (drawn : Bool) → judged_up_to a drawn r ≡ judged_up_to b drawn r
    unfolding judged_up_to
    verdict_alike drawn = ap (λ f. answer_of (number_of f) []) (fault_alike drawn)

-- "a stored record of up to 1,024 ballots": the limit of document 01
module _ (r : List ℕ) (few : (parameters_of r).ballots ≤ 1024) where
  pub stored_fault : (drawn : Bool) → first_fault drawn r ≡ first_fault_up_to 1024 drawn r
  stored_fault drawn = first_fault_is drawn r ∙ fault_alike most_ballots 1024 r (omega (arith, few)) few drawn

  pub stored_verdict : (drawn : Bool) → judged drawn r ≡ judged_up_to 1024 drawn r
  stored_verdict drawn = judged_is drawn r ∙ verdict_alike most_ballots 1024 r (omega (arith, few)) few drawn

-- ---- beyond the limit: 3, at the first byte, wherever the first command is whole

module _ (most : ℕ) (drawn : Bool) (r : List ℕ) (whole : first_width (parameters_of r) ≤ length r) (due : item r 0 ≡ first_code (parameters_of r).form) (more : most < (parameters_of r).ballots) where
  pub beyond : first_fault_up_to most drawn r ≡ Fault 3 0
  unfolding first_fault_up_to first_command_up_to
  beyond =
      let p = parameters_of r in
      let outside : in_limits_up_to most p ≡ false = (and_fails _ _).1 (inr ((and_fails _ _).1 (inl ((and_fails _ _).1 (inr (not_at_most more)))))) in
      let fits : 0 + first_width p ≤ length r = omega (arith, whole) in
      let three : 3 ≡ in_command p r First (first_rules_up_to most r) = rule_go 1 _ _ (is_below (omega (arith, whole))) (rule_go 2 _ _ (is_equal due) (rule_go 1 _ _ (is_at_most fits) (rule_stop 3 _ _ outside))) in
      let f : Fault 3 0 ≡ first_command_up_to most r = located_at 0 3 (λ e. omega arith) ∙ ap (located 0) three in
      then_stop _ _ (λ z. nothing_fault z (sym f)) ∙ sym f

  pub beyond_refused : judged_up_to most drawn r ≡ refused 3
  unfolding judged_up_to number_of answer_of
  beyond_refused = ap (λ f. answer_of (number_of f) []) beyond

-- ---- the longest record

-- "so the longest record has 37,371,979 bytes", or with an election's number 4 bytes more
pub longest : (p : Parameters) → in_limits p ≡ true → record_length p ≤ 37371979 + number_width p.form
unfolding in_limits modulus_in_limits lists_in_limits
longest p h =
    let t = simp rules at h in
    omega (arith, record_length_lem p, mul-le-mul {m₂ = most_ballots} t.1.1.1 t.1.0.1)

-- with as many ballots and lists as there may be, and only then
pub longest_is : (p : Parameters) → in_limits p ≡ true → record_length p ≡ 37371979 + number_width p.form → (p.ballots ≡ most_ballots) × (p.compared ≡ 12)
unfolding in_limits modulus_in_limits lists_in_limits
longest_is p h e =
    let t = simp rules at h in
    let fewer : p.compared * p.ballots ≤ 12 * most_ballots = mul-le-mul {m₂ = most_ballots} t.1.1.1 t.1.0.1 in
    let many : p.ballots ≡ most_ballots = omega (arith, e, record_length_lem p, fewer, t.1.0.1) in
    let all : p.compared * p.ballots ≡ 12 * most_ballots = omega (arith, e, record_length_lem p, fewer, t.1.0.1) in
    (many, omega (arith, rw many at all))

stands_longest : (r : List ℕ) → Stands r → length r ≤ 37371979 + number_width (parameters_of r).form
stands_longest r s = omega (arith, s.laid.long, mul-le-mul {m₂ = most_ballots} s.valid.compared_high s.valid.ballots_high, s.valid.ballots_high)

pub accepted_longest : (drawn : Bool) (r : List ℕ) → judged drawn r ≡ accepted → length r ≤ 37371979 + number_width (parameters_of r).form
accepted_longest false r e = stands_longest r ((accepts_iff r).0 e)
accepted_longest true r e = stands_longest r ((accepts_drawn_iff r).0 e).0
