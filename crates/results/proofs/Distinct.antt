-- Distinct votes of votes that do not fall, and how often each stands among the first n.
use mathlib.Core.Path.{◌≡◌, refl, sym, ap, ap₂, ◌∙◌}
use mathlib.Core.Logic.{◌≢◌}
use mathlib.Core.Bool.{Bool, true, false}
use mathlib.Core.List.{List, [], ◌∷◌, ◌++◌, map, map-append, append-nil}
use Prim.Native.Nat.{ℕ, zero, suc, ◌+◌, ◌-◌, ◌≤◌, ◌<◌}
use native.Mathlib.Decide.{ℕ_discrete}
use native.Mathlib.Omega.{arith}
use lib.ListN.{length, length-append, length-map}
use Rattle.laws.specs.Tests.{equal, differ, ◌or◌, pick, never, or_go, or_stop, differ_iff, differ_fails, is_equal, not_equal, is_differ, not_differ}
use Rattle.laws.specs.Sums.{times, times_miss, times_hit, times_none}
use Rattle.laws.specs.Chunks.{chunks}
use Rattle.protocol.specs.Terms.{item}
use Rattle.protocol.specs.Results.{fresh}

-- ---- how often a number stands

pub times_most : (x : ℕ) (f : ℕ → ℕ) (n : ℕ) → times x f n ≤ n
times_most x f zero = omega arith
times_most x f (suc n) = go (ℕ_discrete x (f n)) (times_most x f n)
  where
    go : Dec (x ≡ f n) → times x f n ≤ n → times x f (suc n) ≤ suc n
    go (yes e) h = omega (arith, times_hit x f n e)
    go (no ne) h = omega (arith, times_miss x f n ne)

-- ---- numbers below b

data Under (b : ℕ) : List ℕ → Type 0 where
  none : Under b []
  more : {x : ℕ} {xs : List ℕ} → x < b → Under b xs → Under b (x ∷ xs)

under_more : {b c : ℕ} {xs : List ℕ} → b ≤ c → Under b xs → Under c xs
under_more h none = none
under_more h (more {x} l u) = more {x = x} (omega arith) (under_more h u)

under_snoc : {b x : ℕ} {xs : List ℕ} → Under b xs → x < b → Under b (xs ++ (x ∷ []))
under_snoc none h = more h none
under_snoc (more l u) h = more l (under_snoc u h)

module _ (votes : List ℕ) where
  -- how often each of some numbers stands among the first n votes
  abbrev pub counted : ℕ → List ℕ → List ℕ
  counted n xs = map (λ v. times v (item votes) n) xs

  counted_same : (n : ℕ) {xs : List ℕ} → Under (item votes n) xs → counted (suc n) xs ≡ counted n xs
  counted_same n none = refl
  counted_same n (more {x} l u) = ap₂ (λ (a : ℕ) (l : List ℕ). a ∷ l) (times_miss x (item votes) n (omega arith)) (counted_same n u)

  counted_snoc : (n : ℕ) (xs : List ℕ) (x : ℕ) → counted n (xs ++ (x ∷ [])) ≡ counted n xs ++ (times x (item votes) n ∷ [])
  counted_snoc n xs x = map-append (λ v. times v (item votes) n) xs (x ∷ [])

  -- vote i is the first of its number
  abbrev pub is_fresh : ℕ → Bool
  is_fresh i = equal i 0 or differ (item votes (i - 1)) (item votes i)

  -- a vote behind another is the first of its number if the two differ
  fresh_suc : (i : ℕ) → is_fresh (suc i) ≡ differ (item votes i) (item votes (suc i))
  fresh_suc i =
      let back : i ≡ suc i - 1 = omega arith in
      sym (or_go (equal (suc i) 0) _ (not_equal (omega arith)) (ap (λ (k : ℕ). differ (item votes k) (item votes (suc i))) back))

  -- one more distinct vote, and none
  pub one_fresh : (i : ℕ) → is_fresh i ≡ true → chunks (fresh votes) (suc i) ≡ chunks (fresh votes) i ++ (item votes i ∷ [])
  unfolding fresh
  one_fresh i e = ap (λ (b : Bool). chunks (fresh votes) i ++ pick b (item votes i ∷ []) []) e

  pub none_fresh : (i : ℕ) → is_fresh i ≡ false → chunks (fresh votes) (suc i) ≡ chunks (fresh votes) i
  unfolding fresh
  none_fresh i e = ap (λ (b : Bool). chunks (fresh votes) i ++ pick b (item votes i ∷ []) []) e ∙ append-nil (chunks (fresh votes) i)

  -- ---- votes that do not fall

  -- the last distinct vote of the first i + 1 is vote i
  record Last (i : ℕ) : Type 0 where
    pub earlier : List ℕ
    pub is : chunks (fresh votes) (suc i) ≡ earlier ++ (item votes i ∷ [])
    pub low : Under (item votes i) earlier

  module _ (rises : (i : ℕ) → suc i < length votes → item votes i ≤ item votes (suc i)) where
    at_most : (k : ℕ) → k < length votes → (j : ℕ) → j ≤ k → item votes j ≤ item votes k
    at_most zero l j h = let z : j ≡ 0 = omega arith in rw z (omega arith)
    at_most (suc k) l j h = go (ℕ_discrete j (suc k)) (λ m. at_most k (omega arith) j m)
      where
        go : Dec (j ≡ suc k) → (j ≤ k → item votes j ≤ item votes k) → item votes j ≤ item votes (suc k)
        go (yes e) ih = rw e (omega arith)
        go (no ne) ih = omega (arith, ih (omega arith), rises k l)

    -- behind a vote that is higher, all distinct votes so far are below
    above : {i : ℕ} → Last i → item votes i < item votes (suc i) → Under (item votes (suc i)) (chunks (fresh votes) (suc i))
    above h up = rw h.is (under_snoc (under_more (omega arith) h.low) up)

    last_of : (i : ℕ) → i < length votes → Last i
    last_of zero l = record { earlier = []; is = one_fresh 0 (sym (or_stop (equal 0 0) _ (is_equal refl))); low = none }
    last_of (suc i) l = go (ℕ_discrete (item votes i) (item votes (suc i))) (last_of i (omega arith))
      where
        go : Dec (item votes i ≡ item votes (suc i)) → Last i → Last (suc i)
        go (yes e) h = record {
          earlier = h.earlier;
          is = none_fresh (suc i) (fresh_suc i ∙ not_differ e) ∙ h.is ∙ ap (λ (x : ℕ). h.earlier ++ (x ∷ [])) e;
          low = under_more (omega arith) h.low;
        }
        go (no ne) h = record {
          earlier = chunks (fresh votes) (suc i);
          is = one_fresh (suc i) (fresh_suc i ∙ is_differ ne);
          low = above h (omega (arith, rises i l));
        }

    -- a vote that is the first of its number did not stand before, and the others stand no more
    pub new_counts : (i : ℕ) → i < length votes → is_fresh i ≡ true
        → counted (suc i) (chunks (fresh votes) (suc i)) ≡ counted i (chunks (fresh votes) i) ++ (1 ∷ [])
    new_counts i l e =
        let (low, before) = new i l e in
        ap (counted (suc i)) (one_fresh i e)
        ∙ counted_snoc (suc i) (chunks (fresh votes) i) (item votes i)
        ∙ ap₂ (λ (x : List ℕ) (n : ℕ). x ++ (n ∷ [])) (counted_same i low)
        (times_hit (item votes i) (item votes) i refl ∙ ap (λ (n : ℕ). n + 1) (times_none (item votes i) (item votes) i before))
      where
        new : (i : ℕ) → i < length votes → is_fresh i ≡ true → Under (item votes i) (chunks (fresh votes) i) × ((j : ℕ) → j < i → item votes i ≢ item votes j)
        new zero l e = (none, λ j k. absurd (omega arith))
        new (suc i) l e =
            let ne : item votes i ≢ item votes (suc i) = (differ_iff _ _).0 (sym (fresh_suc i) ∙ e) in
            let up : item votes i < item votes (suc i) = omega (arith, rises i l) in
            (above (last_of i (omega arith)) up, λ j k. omega (arith, at_most i (omega arith) j (omega arith)))

    -- a vote that equals the one before counts for the last distinct vote
    pub record Again (i : ℕ) : Type 0 where
      pub earlier : List ℕ
      pub before : counted i (chunks (fresh votes) i) ≡ counted i earlier ++ (times (item votes i) (item votes) i ∷ [])
      pub after : counted (suc i) (chunks (fresh votes) (suc i)) ≡ counted i earlier ++ ((times (item votes i) (item votes) i + 1) ∷ [])
      pub long : length (chunks (fresh votes) i) ≡ length (counted i earlier) + 1

    pub again : (i : ℕ) → i < length votes → is_fresh i ≡ false → Again i
    again zero l e = absurd (never (sym (or_stop (equal 0 0) _ (is_equal refl))) e)
    again (suc i) l e =
        let same : item votes i ≡ item votes (suc i) = (differ_fails _ _).0 (sym (fresh_suc i) ∙ e) in
        let h = last_of i (omega arith) in
        let is : chunks (fresh votes) (suc i) ≡ h.earlier ++ (item votes (suc i) ∷ []) = h.is ∙ ap (λ (x : ℕ). h.earlier ++ (x ∷ [])) same in
        record {
          earlier = h.earlier;
          before = ap (counted (suc i)) is ∙ counted_snoc (suc i) h.earlier (item votes (suc i));
          after =
              ap (counted (suc (suc i))) (none_fresh (suc i) e ∙ is) ∙ counted_snoc (suc (suc i)) h.earlier (item votes (suc i))
              ∙ ap₂ (λ (x : List ℕ) (n : ℕ). x ++ (n ∷ [])) (counted_same (suc i) (under_more (omega arith) h.low)) (times_hit (item votes (suc i)) (item votes) (suc i) refl);
          long = ap length is ∙ length-append h.earlier (item votes (suc i) ∷ []) ∙ ap (λ (n : ℕ). n + 1) (sym (length-map h.earlier _));
        }
