-- What decides at a command: no byte left, byte not due, cut short, or its rules.
use Prim.Native.Nat.{ℕ, zero, suc, ◌+◌, ◌≤◌, ◌<◌}
use mathlib.Core.List.{List, [], ◌∷◌}
use mathlib.Core.Bool.{Bool}
use mathlib.Core.Path.{◌≡◌, refl, sym, ap, subst, ◌∙◌}
use mathlib.Core.Logic.{inl, inr}
use native.Mathlib.Omega.{arith}
use lib.ListN.{length}
use Rattle.laws.specs.Tests.{is_below, not_below, is_equal, not_equal, is_at_most, not_at_most}
use Rattle.laws.specs.Faults.{rule_go, rule_stop}
use Rattle.protocol.specs.declared.Form.TheVariants.{Unnumbered, Numbered}
use Rattle.protocol.specs.declared.Parameters.{Parameters}
use Rattle.protocol.specs.declared.Due.{Due}
use Rattle.protocol.specs.declared.Due.TheVariants.{First, Ballot, Entry, FirstDice, Link, SecondDice, BallotHalf, ListHalf, Vote, FullOpening, End}
use Rattle.protocol.specs.Terms.{item}
use Rattle.protocol.specs.Layout.{first_code, number_width, first_width, code, width}
use Rattle.protocol.specs.Record.{form_of, parameters_of}
use Rattle.protocol.specs.Rules.{place_of, rules, fault, fault_with}
use Rattle.protocol.proofs.Forms.{code_is, code_numbered, code_unnumbered, code_width}

-- what an arm for all other due commands knows, by the byte whose own command it leaves out
abbrev others : List (Due → Type 0)
others =
    (λ d. Unit {0})
    ∷ (λ d. d ≡ First → ⊥)
    ∷ (λ d. (j : ℕ) → d ≡ Ballot j → ⊥)
    ∷ (λ d. (l i : ℕ) → d ≡ Entry l i → ⊥)
    ∷ (λ d. d ≡ FirstDice → ⊥)
    ∷ (λ d. (l j : ℕ) → d ≡ Link l j → ⊥)
    ∷ (λ d. d ≡ SecondDice → ⊥)
    ∷ (λ d. (j : ℕ) → d ≡ BallotHalf j → ⊥)
    ∷ (λ d. (l j : ℕ) → d ≡ ListHalf l j → ⊥)
    ∷ (λ d. (i : ℕ) → d ≡ Vote i → ⊥)
    ∷ (λ d. (l i : ℕ) → d ≡ FullOpening l i → ⊥)
    ∷ (λ d. d ≡ End → ⊥)
    ∷ (λ d. d ≡ First → ⊥)
    ∷ []

abbrev fact_at : List (Due → Type 0) → ℕ → Due → Type 0
fact_at [] b d = Unit {0}
fact_at (f ∷ fs) zero d = f d
fact_at (f ∷ fs) (suc b) d = fact_at fs b d

abbrev pub Another : ℕ → Due → Type 0
Another b d = fact_at others b d

another : {b : ℕ} (p : Parameters) (d : Due) → Another b d → b ≡ code p d → ⊥
another p First n e = elim (code_is p.form) [ inl c ↦ subst (λ (b : ℕ). Another b First) (e ∙ c) n refl | inr c ↦ subst (λ (b : ℕ). Another b First) (e ∙ c) n refl ]
another p (Ballot j) n e = subst (λ (b : ℕ). Another b (Ballot j)) e n j refl
another p (Entry l i) n e = subst (λ (b : ℕ). Another b (Entry l i)) e n l i refl
another p FirstDice n e = subst (λ (b : ℕ). Another b FirstDice) e n refl
another p (Link l j) n e = subst (λ (b : ℕ). Another b (Link l j)) e n l j refl
another p SecondDice n e = subst (λ (b : ℕ). Another b SecondDice) e n refl
another p (BallotHalf j) n e = subst (λ (b : ℕ). Another b (BallotHalf j)) e n j refl
another p (ListHalf l j) n e = subst (λ (b : ℕ). Another b (ListHalf l j)) e n l j refl
another p (Vote i) n e = subst (λ (b : ℕ). Another b (Vote i)) e n i refl
another p (FullOpening l i) n e = subst (λ (b : ℕ). Another b (FullOpening l i)) e n l i refl
another p End n e = subst (λ (b : ℕ). Another b End) e n refl

-- a byte that is none of the commands'
abbrev pub NoCommand : ℕ → Type 0
NoCommand x = (x ≡ 1 → ⊥) × (x ≡ 2 → ⊥) × (x ≡ 3 → ⊥) × (x ≡ 4 → ⊥) × (x ≡ 5 → ⊥) × (x ≡ 6 → ⊥) × (x ≡ 7 → ⊥) × (x ≡ 8 → ⊥) × (x ≡ 9 → ⊥) × (x ≡ 10 → ⊥) × (x ≡ 11 → ⊥) × (x ≡ 12 → ⊥)

no_command : {x : ℕ} (p : Parameters) (d : Due) → NoCommand x → x ≡ code p d → ⊥
no_command p First h e = elim (code_is p.form) [ inl c ↦ h.0 (e ∙ c) | inr c ↦ h.11 (e ∙ c) ]
no_command p (Ballot j) h e = h.1 e
no_command p (Entry l i) h e = h.2 e
no_command p FirstDice h e = h.3 e
no_command p (Link l j) h e = h.4 e
no_command p SecondDice h e = h.5 e
no_command p (BallotHalf j) h e = h.6 e
no_command p (ListHalf l j) h e = h.7 e
no_command p (Vote i) h e = h.8 e
no_command p (FullOpening l i) h e = h.9 e
no_command p End h e = h.10 e

module _ (p : Parameters) (r : List ℕ) (drawn : Bool) {at : ℕ} (due : Due) (place : at ≡ place_of p r due) where
  pub gone : length r ≤ at → 1 ≡ fault p r drawn due
  unfolding fault_with
  gone h = rule_stop _ _ _ (not_below (omega arith))

  module _ (left : at < length r) where
    not_due_lem : (item r at ≡ code p due → ⊥) → 2 ≡ fault p r drawn due
    unfolding fault_with
    not_due_lem n = rule_go _ _ _ (is_below (omega arith)) (rule_stop _ _ _ (not_equal (λ e. n (ap (item r) place ∙ e))))

    -- the due command is of another kind than the byte's
    pub another_due : {b : ℕ} → item r at ≡ b → Another b due → 2 ≡ fault p r drawn due
    another_due byte n = not_due_lem (λ e. another p due n (sym byte ∙ e))

    pub unknown : NoCommand (item r at) → 2 ≡ fault p r drawn due
    unknown h = not_due_lem (no_command p due h)

    module _ {d : Due} (is : due ≡ d) (byte : item r at ≡ code p d) where
      pub cut : {x : ℕ} → x ≡ 1 → length r < at + width p d → x ≡ fault p r drawn due
      unfolding fault_with
      cut e h =
          e
          ∙ rule_go _ _ _ (is_below (omega arith))
          (rule_go _ _ _ (is_equal (ap (item r) (sym place) ∙ byte ∙ ap (code p) (sym is)))
          (rule_stop _ _ _ (not_at_most (omega (arith, place, ap (width p) is)))))

      pub whole : {x : ℕ} {q : List ℕ} → q ≡ r → at + width p d ≤ length q → x ≡ rules p q drawn d → x ≡ fault p r drawn due
      unfolding fault_with
      whole {q = q} same h e =
          rule_go _ _ _ (is_below (omega arith))
          (rule_go _ _ _ (is_equal (ap (item r) (sym place) ∙ byte ∙ ap (code p) (sym is)))
          (rule_go _ _ _ (is_at_most (omega (arith, place, ap (width p) is, ap length same))) (e ∙ ap (λ (q : List ℕ). rules p q drawn d) same ∙ ap (rules p r drawn) (sym is))))

-- ---- the first command, which goes by a form whose byte is that of the record's own

module _ (p : Parameters) (r : List ℕ) {at : ℕ} (told : (at ≡ 0) × (first_code p.form ≡ first_code (form_of r))) where
  at_start : {b : ℕ} → item r at ≡ b → item r 0 ≡ b
  at_start e = ap (item r) (sym told.0) ∙ e

  pub unnumbered_due : item r at ≡ 1 → item r at ≡ code p First
  unnumbered_due e = e ∙ sym (told.1 ∙ code_unnumbered r (λ z. omega (arith, z, at_start e)))

  pub numbered_due : item r at ≡ 12 → item r at ≡ code p First
  numbered_due e = e ∙ sym (told.1 ∙ code_numbered r (at_start e))

  pub unnumbered_width : item r at ≡ 1 → number_width p.form ≡ 0
  unfolding first_code number_width
  unnumbered_width e = code_width p.form Unnumbered (told.1 ∙ code_unnumbered r (λ z. omega (arith, z, at_start e)))

  pub numbered_width : item r at ≡ 12 → number_width p.form ≡ 4
  unfolding first_code number_width
  numbered_width e = code_width p.form (Numbered 0) (told.1 ∙ code_numbered r (at_start e))

  pub first_whole : {q : List ℕ} → q ≡ r → at + first_width p ≤ length q → first_width (parameters_of q) ≤ length q
  unfolding parameters_of
  first_whole same h = rw same (omega (arith, told.0, ap length same, h, code_width p.form (form_of r) told.1))
