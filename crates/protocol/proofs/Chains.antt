-- A chain of rules finds the first of its tests that fails.
use mathlib.Core.Path.{◌≡◌, refl, sym, subst, ◌∙◌}
use mathlib.Core.Logic.{◌↔◌, ◌≢◌, ◌⊎◌, inl, inr, ⊎_elim}
use mathlib.Core.Bool.{Bool, true, false}
use Prim.Native.Nat.{ℕ, zero, suc, ◌≤◌, ◌<◌}
use native.Mathlib.Omega.{arith}
use lib.Dec.{leb, ltb}
use borrow.Author.Tests.{leb-true, ltb-true}
use Rattle.laws.specs.Tests.{never}
use Rattle.laws.specs.Faults.{rule}

-- T are the tests, each with its number and its rank; P is what a failed one says
module _ {T : Type 0} (number rank : T → ℕ) where
  -- v is 0 if nothing is P, else the number of the first that is
  pub record Firsts (P : T → Type 0) (v : ℕ) : Type 0 where
    pub none : v ≡ 0 → (u : T) → P u → ⊥
    pub some : v ≢ 0 → (t : T) × (number t ≡ v) × P t × ((u : T) → rank u < rank t → P u → ⊥)

  -- a chain with value v, whose tests have rank s or above: which of them fail, what it says, and the first
  pub record Chain (P : T → Type 0) (s v : ℕ) : Type 1 where
    pub Fails : T → Type 0
    pub says : (u : T) → Fails u → P u
    pub least : (u : T) → Fails u → s ≤ rank u
    pub firsts : Firsts Fails v

  abbrev pub kept_chain : {P : T → Type 0} {s : ℕ} → Chain P s 0
  kept_chain =
      record {
        Fails = λ u. ⊥;
        says = λ u f. absurd f;
        least = λ u f. absurd f;
        firsts = record { none = λ e u f. f; some = λ ne. absurd (ne refl) };
      }

  pub rule_firsts : (t : T) (b : Bool) (rest : ℕ) (Q : T → Type 0) → ltb 0 (number t) ≡ true → ((u : T) → Q u → rank t ≤ rank u)
      → Firsts Q rest → Firsts (λ u. ((u ≡ t) × (b ≡ false)) ⊎ Q u) (rule (number t) b rest)
  unfolding rule
  rule_firsts t true rest Q pos low c =
      record {
        none = λ e u. ⊎_elim (λ f. never refl f.1) (λ q. c.none e u q);
        some = λ ne. let w = c.some ne in (w.0, w.1, inr w.2, λ u l. ⊎_elim (λ f. never refl f.1) (λ q. w.3 u l q));
      }
  rule_firsts t false rest Q pos low c =
      record {
        none = λ e. absurd (omega (arith, ltb-true 0 (number t) pos));
        some = λ ne. (t, refl, inl (refl, refl), λ u l. ⊎_elim (λ f. before u l f.0) (λ q. let h = low u q in omega arith));
      }
    where
      before : (u : T) → rank u < rank t → u ≡ t → ⊥
      before u l e = let h : rank t < rank t = subst (λ x. rank x < rank t) e l in omega arith

  -- rule t, whose test is b, before a chain of tests that come later; two of one number may follow one another
  abbrev pub rule_chain : {P : T → Type 0} {s : ℕ} (t : T) (b : Bool) (rest : ℕ) → leb s (rank t) ≡ true → ltb 0 (number t) ≡ true
      → (b ≡ false → P t) → Chain P (rank t) rest → Chain P s (rule (number t) b rest)
  rule_chain {P} {s} t b rest up pos say c =
      record {
        Fails = λ u. ((u ≡ t) × (b ≡ false)) ⊎ c.Fails u;
        says = λ u. ⊎_elim (λ f. subst P (sym f.0) (say f.1)) (λ f. c.says u f);
        least = λ u. ⊎_elim (λ f. subst (λ x. s ≤ rank x) (sym f.0) (leb-true s (rank t) up)) (λ f. let h = leb-true s (rank t) up in let k = c.least u f in omega arith);
        firsts = rule_firsts t b rest c.Fails pos c.least c.firsts;
      }

  -- where what is said fails, too
  pub chain_firsts : {P : T → Type 0} {s v : ℕ} (c : Chain P s v) → ((u : T) → P u → c.Fails u) → Firsts P v
  chain_firsts c back =
      record {
        none = λ e u x. c.firsts.none e u (back u x);
        some = λ ne. let w = c.firsts.some ne in (w.0, w.1, c.says w.0 w.2, λ u l x. w.3 u l (back u x));
      }

  -- ---- what this determines

  pub firsts_none : {P : T → Type 0} {v : ℕ} → Firsts P v → (v ≡ 0) ↔ ((u : T) → P u → ⊥)
  firsts_none {P} {v} c = (c.none, λ h. go h v refl)
    where
      go : ((u : T) → P u → ⊥) → (w : ℕ) → v ≡ w → v ≡ 0
      go h zero e = e
      go h (suc w) e = let s = c.some (λ z. omega arith) in absurd (h s.0 s.2)

  -- where the rank decides the number, only one number is the first
  pub firsts_some : {P : T → Type 0} {v : ℕ} → ((t u : T) → rank t ≡ rank u → number t ≡ number u) → Firsts P v
      → (t : T) → P t → ((u : T) → rank u < rank t → P u → ⊥) → v ≡ number t
  firsts_some {P} {v} alike c t x h = go v refl
    where
      go : (w : ℕ) → v ≡ w → v ≡ number t
      go zero e = absurd (c.none e t x)
      go (suc w) e =
          let s = c.some (λ z. omega arith) in
          sym s.1 ∙ alike s.0 t (meet (λ l. s.3 t l x) (λ l. h s.0 l s.2))
        where
          meet : {a b : ℕ} → (b < a → ⊥) → (a < b → ⊥) → a ≡ b
          meet f g = omega arith
