-- The first broken rule: in one command, and in a row of commands.
use Rattle.std.specs.Prelude.{◌≡◌, Bool, true, false, ◌↔◌, ◌≢◌, ◌⊎◌, ℕ, zero, suc, ◌+◌, ◌≤◌, ◌<◌, ltb}
use Rattle.std.proofs.Math.Path.{refl}
use Rattle.std.proofs.Common.{sym, ap, ap₂, ◌∙◌, inl, inr, not-suc-le-zero, le_refl, eq-or-lt_of_le, le_of_suc-le-suc, add-one, arith, ltb-true}
use Rattle.laws.specs.Search.{last_or}
use Rattle.laws.specs.Tests.{choose, never, equal_iff, differ_iff, below_iff, at_most_iff, and_iff, implies_iff, or_iff, every_iff, same_iff, unlike_iff}

-- what a search for broken rules finds: nothing, or the number of the first broken rule and the place where its command starts
pub data Found : Type 0 where
  Nothing : Found
  Fault : (number : ℕ) → (place : ℕ) → Found

-- no rule is broken
abbrev pub kept : ℕ
kept = 0

-- rule number k: where its test holds the rest decides
unfoldable pub rule : ℕ → Bool → ℕ → ℕ
rule k true rest = rest
rule k false rest = k

-- what the command at a place breaks, with that place
unfoldable pub located : ℕ → ℕ → Found
located place zero = Nothing
located place (suc k) = Fault (suc k) place

-- the first of two
infixr 20 ◌then◌
unfoldable pub ◌then◌ : Found → Found → Found
Nothing then b = b
Fault k place then b = Fault k place

-- the first of f 0, .., f (n - 1)
unfoldable pub first : (ℕ → Found) → ℕ → Found
first f zero = Nothing
first f (suc n) = first f n then f n

-- the number of the rule found broken
unfoldable pub number_of : Found → ℕ
number_of Nothing = 0
number_of (Fault k place) = k

-- ---- nothing is found exactly if every test holds

pub nothing_fault : {f : Found} {k place : ℕ} → f ≡ Nothing → f ≡ Fault k place → ⊥
nothing_fault p q = let z : ◌≡◌ {A = ℕ} 0 1 = cc in omega arith

-- k is a numeral wherever this is used, so that the test of it computes
pub rule_kept : (k : ℕ) (t : Bool) (rest : ℕ) → ltb 0 k ≡ true → (rule k t rest ≡ 0) ↔ ((t ≡ true) × (rest ≡ 0))
unfolding rule
rule_kept k true rest h = (λ e. (refl, e), λ p. p.1)
rule_kept k false rest h = (λ e. absurd (omega (arith, ltb-true 0 k h)), λ p. absurd (never p.0 refl))

pub located_nothing : (place k : ℕ) → (located place k ≡ Nothing) ↔ (k ≡ 0)
unfolding located
located_nothing place zero = (λ e. refl, λ e. refl)
located_nothing place (suc k) = (λ e. absurd (nothing_fault e refl), λ e. absurd (omega arith))

pub then_nothing : (a b : Found) → (a then b ≡ Nothing) ↔ ((a ≡ Nothing) × (b ≡ Nothing))
unfolding ◌then◌
then_nothing Nothing b = (λ e. (refl, e), λ t. t.1)
then_nothing (Fault k place) b = (λ e. absurd (nothing_fault e refl), λ t. absurd (nothing_fault t.0 refl))

pub first_nothing : (f : ℕ → Found) (n : ℕ) → (first f n ≡ Nothing) ↔ ((j : ℕ) → j < n → f j ≡ Nothing)
unfolding first
first_nothing f zero = (λ e j l. absurd (not-suc-le-zero l), λ h. refl)
first_nothing f (suc n) = (λ e. from ((then_nothing (first f n) (f n)).0 e) (first_nothing f n).0, λ h. (then_nothing (first f n) (f n)).1 ((first_nothing f n).1 (λ j l. h j (omega arith)), h n (le_refl (suc n))))
  where
    from : (first f n ≡ Nothing) × (f n ≡ Nothing) → (first f n ≡ Nothing → (j : ℕ) → j < n → f j ≡ Nothing) → (j : ℕ) → j < suc n → f j ≡ Nothing
    from t ih = last_or {P = λ j. f j ≡ Nothing} n (ih t.0) t.1

-- a search that is made only where b is set, and one only where it is clear
pub set_nothing : (b : ℕ) (f : Found) → (choose b Nothing f ≡ Nothing) ↔ (b ≢ 0 → f ≡ Nothing)
unfolding choose
set_nothing zero f = (λ e ne. absurd (ne refl), λ h. refl)
set_nothing (suc b) f = (λ e ne. e, λ h. h (omega arith))

pub clear_nothing : (b : ℕ) (f : Found) → (choose b f Nothing ≡ Nothing) ↔ (b ≡ 0 → f ≡ Nothing)
unfolding choose
clear_nothing zero f = (λ e p. e, λ h. h refl)
clear_nothing (suc b) f = (λ e p. absurd (omega arith), λ h. refl)

-- `simp rules` turns 'nothing is found' into plain statements
pub ruleset rules = (rule_kept, located_nothing, then_nothing, first_nothing, set_nothing, clear_nothing, equal_iff, differ_iff, below_iff, at_most_iff, and_iff, implies_iff, or_iff, every_iff, same_iff, unlike_iff)

-- ---- for code: the tests of a command, one after another

pub rule_go : (k : ℕ) (t : Bool) (rest : ℕ) {r : ℕ} → t ≡ true → r ≡ rest → r ≡ rule k t rest
unfolding rule
rule_go k true rest e h = h
rule_go k false rest e h = absurd (never e refl)

pub rule_stop : (k : ℕ) (t : Bool) (rest : ℕ) → t ≡ false → k ≡ rule k t rest
unfolding rule
rule_stop k true rest e = absurd (never refl e)
rule_stop k false rest e = refl

-- ---- for code: where a walk over commands goes on and where it stops

pub located_at : (place k : ℕ) → k ≢ 0 → Fault k place ≡ located place k
unfolding located
located_at place zero ne = absurd (ne refl)
located_at place (suc k) ne = refl

pub then_go : (a b : Found) → a ≡ Nothing → a then b ≡ b
unfolding ◌then◌
then_go Nothing b e = refl
then_go (Fault k place) b e = absurd (nothing_fault e refl)

pub then_stop : (a b : Found) → a ≢ Nothing → a then b ≡ a
unfolding ◌then◌
then_stop Nothing b ne = absurd (ne refl)
then_stop (Fault k place) b ne = refl

-- a turn of a loop that finds nothing
pub first_more : (f : ℕ → Found) (i : ℕ) → first f i ≡ Nothing → f i ≡ Nothing → first f (i + 1) ≡ Nothing
unfolding first
first_more f i z e = rw add-one ((then_nothing (first f i) (f i)).1 (z, e))

-- nothing before place i, and a fault there: it is the first of all n
pub first_stop : (f : ℕ → Found) (n i : ℕ) → i < n → first f i ≡ Nothing → f i ≢ Nothing → f i ≡ first f n
unfolding first
first_stop f zero i l z ne = absurd (not-suc-le-zero l)
first_stop f (suc n) i l z ne = go (eq-or-lt_of_le (le_of_suc-le-suc l)) (λ k. first_stop f n i k z ne)
  where
    go : (i ≡ n) ⊎ (i < n) → (i < n → f i ≡ first f n) → f i ≡ first f n then f n
    go (inl e) ih = ap f e ∙ sym (then_go (first f n) (f n) (rw e at z))
    go (inr k) ih = ih k ∙ sym (then_stop (first f n) (f n) (λ q. ne (ih k ∙ q)))

-- what is found among the first k is the first of more
pub first_prefix : (f : ℕ → Found) (k n : ℕ) → k ≤ n → first f k ≢ Nothing → first f n ≡ first f k
unfolding first
first_prefix f k zero l ne = let e : k ≡ 0 = omega arith in ap (first f) (sym e)
first_prefix f k (suc n) l ne = go (eq-or-lt_of_le l) (λ m. first_prefix f k n (le_of_suc-le-suc m) ne)
  where
    go : (k ≡ suc n) ⊎ (k < suc n) → (k < suc n → first f n ≡ first f k) → first f n then f n ≡ first f k
    go (inl e) ih = ap (first f) (sym e)
    go (inr m) ih = then_stop (first f n) (f n) (λ z. ne (sym (ih m) ∙ z)) ∙ ih m

pub then_end : (a : Found) → a then Nothing ≡ a
unfolding ◌then◌
then_end Nothing = refl
then_end (Fault k place) = refl

-- two searches at each place of a row. The first ones find nothing: what the second ones find decides
pub pairs_passed : (a b : ℕ → Found) (n : ℕ) → first a n ≡ Nothing → first (λ j. a j then b j) n ≡ first b n
unfolding first
pairs_passed a b zero e = refl
pairs_passed a b (suc n) e =
    let t = (then_nothing (first a n) (a n)).0 e in
    ap₂ (λ (x y : Found). x then y) (pairs_passed a b n t.0) (then_go (a n) (b n) t.1)

-- place i is the first at which the first ones find something: what the second ones find before it, or that
pub pairs_stopped : (a b : ℕ → Found) (n i : ℕ) → i < n → first a i ≡ Nothing → a i ≢ Nothing
    → first (λ j. a j then b j) n ≡ first b i then a i
pairs_stopped a b n i l z ne = go (first b i) refl
  where
    same : first (λ j. a j then b j) i ≡ first b i
    same = pairs_passed a b i z

    go : (f : Found) → first b i ≡ f → first (λ j. a j then b j) n ≡ first b i then a i
    go Nothing e =
        let s : a i then b i ≡ a i = then_stop (a i) (b i) ne in
        sym (first_stop (λ j. a j then b j) n i l (same ∙ e) (λ q. ne (sym s ∙ q))) ∙ s ∙ sym (then_go (first b i) (a i) e)
    go (Fault k place) e =
        let some : first b i ≢ Nothing = λ q. nothing_fault q e in
        first_prefix (λ j. a j then b j) i n (omega arith) (λ q. some (sym same ∙ q)) ∙ same ∙ sym (then_stop (first b i) (a i) some)

-- what a search that was asked for has found
pub passed_as : {g f h : Found} → g ≡ f → g ≡ h → f ≡ h
passed_as e w = sym e ∙ w

-- a row of searches
module _ (f : ℕ → Found) where
  pub row_start : first f 0 ≡ Nothing
  unfolding first
  row_start = refl

  pub row_stop : (n j : ℕ) {g : Found} {k at : ℕ} → j < n → first f j ≡ Nothing → g ≡ f j → g ≡ Fault k at → g ≡ first f n
  row_stop n j l z e w = e ∙ first_stop f n j l z (λ q. nothing_fault q (sym e ∙ w))

  pub row_end : (n j : ℕ) → j ≤ n → n ≤ j → first f j ≡ Nothing → Nothing ≡ first f n
  row_end n j l h z = let e : j ≡ n = omega arith in sym (rw e at z)

-- one search behind another
pub then_fault : (a b : Found) {g : Found} {k at : ℕ} → g ≡ a → g ≡ Fault k at → g ≡ a then b
then_fault a b e w = e ∙ sym (then_stop a b (λ q. nothing_fault q (sym e ∙ w)))

pub then_rest : (a b : Found) {g : Found} → a ≡ Nothing → g ≡ b → g ≡ a then b
then_rest a b z e = e ∙ sym (then_go a b z)

-- ---- the number that is found

pub number_located : (place k : ℕ) → number_of (located place k) ≡ k
unfolding number_of located
number_located place zero = refl
number_located place (suc k) = refl

-- ---- a search by these means finds no fault with number 0

pub record Numbered (f : Found) : Type 0 where
  pub nothing : number_of f ≡ 0 → f ≡ Nothing

pub nothing_numbered : Numbered Nothing
nothing_numbered = record { nothing = λ e. refl }

pub located_numbered : (place k : ℕ) → Numbered (located place k)
located_numbered place k = record { nothing = λ e. (located_nothing place k).1 (sym (number_located place k) ∙ e) }

pub then_numbered : (a b : Found) → Numbered a → Numbered b → Numbered (a then b)
unfolding ◌then◌
then_numbered Nothing b h k = k
then_numbered (Fault n place) b h k = h

pub first_numbered : (f : ℕ → Found) (n : ℕ) → ((j : ℕ) → Numbered (f j)) → Numbered (first f n)
unfolding first
first_numbered f zero h = nothing_numbered
first_numbered f (suc n) h = then_numbered (first f n) (f n) (first_numbered f n h) (h n)

pub choose_numbered : (b : ℕ) (f g : Found) → Numbered f → Numbered g → Numbered (choose b f g)
unfolding choose
choose_numbered zero f g h k = h
choose_numbered (suc b) f g h k = k

pub ruleset numbered = (nothing_numbered, located_numbered, then_numbered, first_numbered, choose_numbered)
