-- Tests, each with the statement that it decides. They are shut, so that a law finds their arguments.
use Rattle.std.specs.Prelude.{◌≡◌, refl, ◌↔◌, ◌≢◌, ◌⊎◌, Bool, true, false, not, ◌&&◌, List, [], ◌∷◌, ℕ, zero, suc, ◌+◌, ◌≤◌, ◌<◌, eqb, leb, ltb, length, get_or}
use Rattle.std.proofs.Common.{sym, ap, ◌∙◌, inl, inr, not-suc-le-zero, le_refl, add-one, arith, ext_get_or, eqb-true, leb-true, leb-false, ltb-true, ltb-false, eq-eqb, ne_eqb, le-leb, lt-ltb, le-ltb}
use Rattle.std.proofs.lemmas.Bool.{eqb-false, not-true, not-false, lt-leb}
use Rattle.laws.specs.Search.{last_or}

unfoldable pub equal : ℕ → ℕ → Bool
equal a b = eqb a b

unfoldable pub below : ℕ → ℕ → Bool
below a b = ltb a b

unfoldable pub at_most : ℕ → ℕ → Bool
at_most a b = leb a b

infixr 15 ◌and◌
unfoldable pub ◌and◌ : Bool → Bool → Bool
true and b = b
false and b = false

infixr 14 ◌or◌
unfoldable pub ◌or◌ : Bool → Bool → Bool
true or b = true
false or b = b

infixr 13 ◌implies◌
unfoldable pub ◌implies◌ : Bool → Bool → Bool
true implies b = b
false implies b = true

unfoldable pub differ : ℕ → ℕ → Bool
differ a b = not (eqb a b)

-- the test holds at every place below n
unfoldable pub every : (ℕ → Bool) → ℕ → Bool
every f zero = true
every f (suc n) = every f n and f n

-- two lists of numbers are the same
unfoldable pub same : List ℕ → List ℕ → Bool
same [] [] = true
same [] (y ∷ ys) = false
same (x ∷ xs) [] = false
same (x ∷ xs) (y ∷ ys) = equal x y and same xs ys

-- .. and are not
unfoldable pub unlike : List ℕ → List ℕ → Bool
unlike xs ys = not (same xs ys)

-- the first where the test holds, else the second
abbrev pub pick : {A : Type 0} → Bool → A → A → A
pick true x y = x
pick false x y = y

-- the first where b is 0, else the second
unfoldable pub choose : {A : Type 0} → ℕ → A → A → A
choose zero x y = x
choose (suc b) x y = y

-- ---- each test as a statement

-- nothing follows from a test that both passes and fails
pub never : {b : Bool} → b ≡ true → b ≡ false → ⊥
never e f = let z : ◌≡◌ {A = ℕ} 0 1 = cc in omega arith

pub by_iff : (a b : Bool) → (a ≡ true → b ≡ true) → (b ≡ true → a ≡ true) → a ≡ b
by_iff true b f g = sym (f refl)
by_iff false true f g = g refl
by_iff false false f g = refl

pub refuted : (a : Bool) → (a ≡ true → ⊥) → a ≡ false
refuted true f = absurd (f refl)
refuted false f = refl

pub equal_iff : (a b : ℕ) → (equal a b ≡ true) ↔ (a ≡ b)
unfolding equal
equal_iff a b = (eqb-true a b, eq-eqb a b)

pub differ_iff : (a b : ℕ) → (differ a b ≡ true) ↔ (a ≢ b)
unfolding differ
differ_iff a b = (λ e. eqb-false a b (not-true (eqb a b) e), λ ne. ap not (ne_eqb a b ne))

pub below_iff : (a b : ℕ) → (below a b ≡ true) ↔ (a < b)
unfolding below
below_iff a b = (ltb-true a b, lt-ltb a b)

pub at_most_iff : (a b : ℕ) → (at_most a b ≡ true) ↔ (a ≤ b)
unfolding at_most
at_most_iff a b = (leb-true a b, le-leb a b)

pub and_iff : (a b : Bool) → ((a and b) ≡ true) ↔ ((a ≡ true) × (b ≡ true))
unfolding ◌and◌
and_iff true b = (λ e. (refl, e), λ t. t.1)
and_iff false b = (λ e. absurd (never e refl), λ t. t.0)

pub implies_iff : (a b : Bool) → ((a implies b) ≡ true) ↔ (a ≡ true → b ≡ true)
unfolding ◌implies◌
implies_iff true b = (λ e f. e, λ h. h refl)
implies_iff false b = (λ e f. absurd (never f refl), λ h. refl)

pub or_iff : (a b : Bool) → ((a or b) ≡ true) ↔ (a ≡ false → b ≡ true)
unfolding ◌or◌
or_iff true b = (λ e f. absurd (never refl f), λ h. refl)
or_iff false b = (λ e f. e, λ h. h refl)

pub every_iff : (f : ℕ → Bool) (n : ℕ) → (every f n ≡ true) ↔ ((j : ℕ) → j < n → f j ≡ true)
unfolding every
every_iff f zero = (λ e j l. absurd (not-suc-le-zero l), λ h. refl)
every_iff f (suc n) =
    (λ e. from ((and_iff (every f n) (f n)).0 e) (every_iff f n).0, λ h. (and_iff (every f n) (f n)).1 ((every_iff f n).1 (λ j l. h j (omega arith)), h n (le_refl (suc n))))
  where
    from : (every f n ≡ true) × (f n ≡ true) → (every f n ≡ true → (j : ℕ) → j < n → f j ≡ true) → (j : ℕ) → j < suc n → f j ≡ true
    from t ih = last_or {P = λ j. f j ≡ true} n (ih t.0) t.1

pub same_iff : (a b : List ℕ) → (same a b ≡ true) ↔ (a ≡ b)
unfolding same
same_iff [] [] = (λ e. refl, λ e. refl)
same_iff [] (y ∷ ys) = (λ e. absurd (never e refl), λ e. absurd (let z : ◌≡◌ {A = ℕ} 0 1 = cc in omega arith))
same_iff (x ∷ xs) [] = (λ e. absurd (never e refl), λ e. absurd (let z : ◌≡◌ {A = ℕ} 0 1 = cc in omega arith))
same_iff (x ∷ xs) (y ∷ ys) = (λ e. from ((and_iff (equal x y) (same xs ys)).0 e) (same_iff xs ys).0, λ e. (and_iff (equal x y) (same xs ys)).1 ((equal_iff x y).1 (cc), (same_iff xs ys).1 (cc)))
  where
    from : (equal x y ≡ true) × (same xs ys ≡ true) → (same xs ys ≡ true → xs ≡ ys) → x ∷ xs ≡ y ∷ ys
    from t ih = let p : x ≡ y = (equal_iff x y).0 t.0 in let q : xs ≡ ys = ih t.1 in cc

-- ---- for code: a test that holds, a test that fails

pub is_equal : {a b : ℕ} → a ≡ b → equal a b ≡ true
is_equal {a} {b} h = (equal_iff a b).1 h

pub not_equal : {a b : ℕ} → a ≢ b → equal a b ≡ false
unfolding equal
not_equal {a} {b} h = ne_eqb a b h

pub is_differ : {a b : ℕ} → a ≢ b → differ a b ≡ true
is_differ {a} {b} h = (differ_iff a b).1 h

pub not_differ : {a b : ℕ} → a ≡ b → differ a b ≡ false
unfolding differ
not_differ {a} {b} h = ap not (eq-eqb a b h)

pub is_below : {a b : ℕ} → a < b → below a b ≡ true
is_below {a} {b} h = (below_iff a b).1 h

pub not_below : {a b : ℕ} → b ≤ a → below a b ≡ false
unfolding below
not_below {a} {b} h = le-ltb a b h

pub is_at_most : {a b : ℕ} → a ≤ b → at_most a b ≡ true
is_at_most {a} {b} h = (at_most_iff a b).1 h

pub not_at_most : {a b : ℕ} → b < a → at_most a b ≡ false
unfolding at_most
not_at_most {a} {b} h = lt-leb a b h

-- the first test holds: the second decides
pub and_go : (a b : Bool) {r : Bool} → a ≡ true → r ≡ b → r ≡ (a and b)
unfolding ◌and◌
and_go true b e h = h
and_go false b e h = absurd (never e refl)

pub and_stop : (a b : Bool) → a ≡ false → false ≡ (a and b)
unfolding ◌and◌
and_stop true b e = absurd (never refl e)
and_stop false b e = refl

pub or_go : (a b : Bool) {r : Bool} → a ≡ false → r ≡ b → r ≡ (a or b)
unfolding ◌or◌
or_go true b e h = absurd (never refl e)
or_go false b e h = h

pub or_stop : (a b : Bool) → a ≡ true → true ≡ (a or b)
unfolding ◌or◌
or_stop true b e = refl
or_stop false b e = absurd (never e refl)

-- a loop's turn, and its early end
pub every_more : (f : ℕ → Bool) (i : ℕ) → every f i ≡ true → f i ≡ true → every f (i + 1) ≡ true
unfolding every
every_more f i z e = rw add-one ((and_iff (every f i) (f i)).1 (z, e))

pub every_stop : (f : ℕ → Bool) (n i : ℕ) → i < n → f i ≡ false → false ≡ every f n
every_stop f n i l e = sym (refuted (every f n) (λ t. never ((every_iff f n).0 t i l) e))

-- .. or that of a loop that goes through to the end
pub every_turn : (f : ℕ → Bool) (i : ℕ) {r : Bool} → r ≡ every f i → (r && f i) ≡ every f (i + 1)
unfolding every ◌and◌
every_turn f i e = rw (add-one, e) (as_and (every f i) (f i))
  where
    as_and : (x y : Bool) → (x && y) ≡ (x and y)
    as_and true y = refl
    as_and false y = refl

-- two lists of one length are the same if they are at each place
pub same_every : (a b : List ℕ) → length a ≡ length b → same a b ≡ every (λ i. equal (get_or a i 0) (get_or b i 0)) (length a)
same_every a b l =
    by_iff (same a b) (every (λ i. equal (get_or a i 0) (get_or b i 0)) (length a))
    (λ e. (every_iff (λ i. equal (get_or a i 0) (get_or b i 0)) (length a)).1 (λ i k. is_equal (ap (λ (c : List ℕ). get_or c i 0) ((same_iff a b).0 e))))
    (λ e. (same_iff a b).1 (ext_get_or 0 a b l (λ i k. (equal_iff (get_or a i 0) (get_or b i 0)).0 ((every_iff (λ i. equal (get_or a i 0) (get_or b i 0)) (length a)).0 e i k))))

-- ---- choices

pub choose_clear : {A : Type 0} (b : ℕ) (x y : A) → b ≡ 0 → choose b x y ≡ x
unfolding choose
choose_clear zero x y e = refl
choose_clear (suc b) x y e = absurd (omega arith)

pub choose_set : {A : Type 0} (b : ℕ) (x y : A) → b ≢ 0 → choose b x y ≡ y
unfolding choose
choose_set zero x y e = absurd (e refl)
choose_set (suc b) x y e = refl

-- ---- a test that fails, as a statement

pub unequal_iff : (a b : ℕ) → (equal a b ≡ false) ↔ (a ≢ b)
unfolding equal
unequal_iff a b = (eqb-false a b, ne_eqb a b)

-- a test fails exactly if what it decides is refuted
pub fails_iff : (t : Bool) {A : Type 0} → (t ≡ true) ↔ A → (t ≡ false) ↔ (A → ⊥)
fails_iff t h = (λ e a. never (h.1 a) e, λ f. refuted t (λ e. f (h.0 e)))

pub differ_fails : (a b : ℕ) → (differ a b ≡ false) ↔ (a ≡ b)
unfolding differ
differ_fails a b = (λ e. eqb-true a b (not-false (eqb a b) e), not_differ)

pub below_fails : (a b : ℕ) → (below a b ≡ false) ↔ (b ≤ a)
unfolding below
below_fails a b = (ltb-false a b, le-ltb a b)

pub at_most_fails : (a b : ℕ) → (at_most a b ≡ false) ↔ (b < a)
unfolding at_most
at_most_fails a b = (leb-false a b, lt-leb a b)

pub and_fails : (a b : Bool) → ((a and b) ≡ false) ↔ ((a ≡ false) ⊎ (b ≡ false))
unfolding ◌and◌
and_fails true b = (λ e. inr e, elim [ inl e ↦ absurd (never refl e) | inr e ↦ e ])
and_fails false b = (λ e. inl e, λ s. refl)

pub or_fails : (a b : Bool) → ((a or b) ≡ false) ↔ ((a ≡ false) × (b ≡ false))
unfolding ◌or◌
or_fails true b = (λ e. absurd (never refl e), λ t. t.0)
or_fails false b = (λ e. (refl, e), λ t. t.1)

pub implies_fails : (a b : Bool) → ((a implies b) ≡ false) ↔ ((a ≡ true) × (b ≡ false))
unfolding ◌implies◌
implies_fails true b = (λ e. (refl, e), λ t. t.1)
implies_fails false b = (λ e. absurd (never refl e), λ t. absurd (never t.0 refl))

pub every_fails : (f : ℕ → Bool) (n : ℕ) → (every f n ≡ false) ↔ ((j : ℕ) × (j < n) × (f j ≡ false))
unfolding every
every_fails f n = (λ e. fails n e, λ t. sym (every_stop f n t.0 t.1 t.2))
  where
    fails : (n : ℕ) → every f n ≡ false → (j : ℕ) × (j < n) × (f j ≡ false)
    fails zero e = absurd (never refl e)
    fails (suc n) e = go ((and_fails (every f n) (f n)).0 e) (fails n)
      where
        go : (every f n ≡ false) ⊎ (f n ≡ false) → (every f n ≡ false → (j : ℕ) × (j < n) × (f j ≡ false)) → (j : ℕ) × (j < suc n) × (f j ≡ false)
        go (inl e) ih = let t = ih e in (t.0, omega (arith, t.1), t.2)
        go (inr e) ih = (n, le_refl (suc n), e)

pub same_fails : (a b : List ℕ) → (same a b ≡ false) ↔ (a ≢ b)
same_fails a b = fails_iff (same a b) (same_iff a b)

pub unlike_iff : (a b : List ℕ) → (unlike a b ≡ true) ↔ (a ≢ b)
unfolding unlike
unlike_iff a b = (λ e. (same_fails a b).0 (not-true (same a b) e), λ ne. ap not ((same_fails a b).1 ne))

pub unlike_fails : (a b : List ℕ) → (unlike a b ≡ false) ↔ (a ≡ b)
unfolding unlike
unlike_fails a b = (λ e. (same_iff a b).0 (not-false (same a b) e), λ e. ap not ((same_iff a b).1 e))

-- ---- for code: what the answer r of a call says of the test that it gives

pub held : {r t : Bool} → r ≡ t → not r ≡ false → t ≡ true
held {r} e h = sym e ∙ not-false r h

pub failed : {r t : Bool} → r ≡ t → not r ≡ true → t ≡ false
failed {r} e h = sym e ∙ not-true r h

-- .. where the code's own test is of the answer or of its negation, and the language says which value the answer has
pub told_true : {r t : Bool} → r ≡ t → r ≡ true → t ≡ true
told_true e h = sym e ∙ h

pub told_false : {r t : Bool} → r ≡ t → r ≡ false → t ≡ false
told_false e h = sym e ∙ h

-- the second test holds: the first decides
pub and_last : (a b : Bool) → b ≡ true → a ≡ (a and b)
unfolding ◌and◌
and_last true b e = sym e
and_last false b e = refl

pub and_last_stop : (a b : Bool) → b ≡ false → false ≡ (a and b)
unfolding ◌and◌
and_last_stop true b e = sym e
and_last_stop false b e = refl

-- a test as code computes it
pub equal_is : (a b : ℕ) → eqb a b ≡ equal a b
unfolding equal
equal_is a b = refl

pub at_most_is : (a b : ℕ) → leb a b ≡ at_most a b
unfolding at_most
at_most_is a b = refl
