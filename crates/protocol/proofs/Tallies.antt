-- The tally of votes that do not fall: each vote once, rising, and how often it stands; what an accepted record announces is tallied.
use mathlib.Core.Path.{◌≡◌, refl, sym, ap, ◌∙◌}
use mathlib.Core.Logic.{◌≢◌, ◌⊎◌, inl, inr}
use mathlib.Core.Bool.{true, false}
use mathlib.Core.List.{List, [], ◌∷◌, ◌++◌, map, append-nil}
use Prim.Native.Nat.{ℕ, zero, suc, ◌+◌, ◌-◌, ◌≤◌, ◌<◌}
use native.Mathlib.Nat.{not-suc-le-zero, le_refl, eq-or-lt_of_le, le_of_suc-le-suc}
use native.Mathlib.Decide.{ℕ_discrete}
use native.Mathlib.Omega.{arith}
use lib.ListN.{length, drop, length-drop, length-append, get_or-append}
use lib.Seq.{get_or_at, get_or-append-add, get_or-drop}
use Rattle.laws.specs.Tests.{equal, differ, at_most, ◌and◌, ◌or◌, every, is_equal, not_equal, is_differ, not_differ, is_at_most, or_iff, or_stop, or_fails, every_iff, unequal_iff}
use Rattle.laws.specs.Faults.{rule, rules}
use Rattle.laws.specs.Chunks.{chunks}
use Rattle.laws.specs.Sums.{sum, times, sum_first}
use Rattle.laws.specs.Sorting.{is, is_cases, is_self, count, count_append, times_list}
use Rattle.protocol.specs.Answers.{done, answer_of, accepted}
use Rattle.protocol.specs.Terms.{item}
use Rattle.protocol.specs.Judging.{judged}
use Rattle.protocol.specs.Results.{announced_votes, fresh, distinct_votes, vote_counts, tally_refusal, tallied, in_front}
use Rattle.protocol.proofs.Accepting.{accepts_iff}
use Rattle.protocol.proofs.Announced.{announced_rise}

-- ---- lists

length_map : (f : ℕ → ℕ) (l : List ℕ) → length (map f l) ≡ length l
length_map f [] = refl
length_map f (x ∷ xs) = ap suc (length_map f xs)

item_map : (f : ℕ → ℕ) (l : List ℕ) (i : ℕ) → i < length l → item (map f l) i ≡ f (item l i)
item_map f [] i h = absurd (not-suc-le-zero h)
item_map f (x ∷ xs) zero h = refl
item_map f (x ∷ xs) (suc i) h = item_map f xs i (omega arith)

-- an element one by one: of the beginning, or the last
item_snoc : (l : List ℕ) (x i : ℕ) → i < length l → item (l ++ (x ∷ [])) i ≡ item l i
item_snoc l x i h = get_or-append l (x ∷ []) 0 i h

item_last : (l : List ℕ) (x i : ℕ) → i ≡ length l → item (l ++ (x ∷ [])) i ≡ x
item_last l x i h = get_or_at l x [] 0 i (sym h)

length_snoc : (l : List ℕ) (x : ℕ) → length (l ++ (x ∷ [])) ≡ suc (length l)
length_snoc l x = omega (arith, length-append l (x ∷ []))

-- the sum of a list
abbrev total : List ℕ → ℕ
total l = sum (item l) (length l)

total_cons : (x : ℕ) (xs : List ℕ) → total (x ∷ xs) ≡ x + total xs
total_cons x xs = sum_first (item (x ∷ xs)) (length xs)

total_same : (f g : ℕ → ℕ) (l : List ℕ) → ((x : ℕ) → f x ≡ g x) → total (map f l) ≡ total (map g l)
total_same f g [] h = refl
total_same f g (x ∷ xs) h = omega (arith, total_cons (f x) (map f xs), total_cons (g x) (map g xs), h x, total_same f g xs h)

total_zero : (l : List ℕ) → total (map (λ v. 0) l) ≡ 0
total_zero [] = refl
total_zero (x ∷ xs) = omega (arith, total_cons 0 (map (λ v. 0) xs), total_zero xs)

total_plus : (f g : ℕ → ℕ) (l : List ℕ) → total (map (λ v. f v + g v) l) ≡ total (map f l) + total (map g l)
total_plus f g [] = refl
total_plus f g (x ∷ xs) =
    omega (
      arith,
      total_cons (f x + g x) (map (λ v. f v + g v) xs),
      total_cons (f x) (map f xs),
      total_cons (g x) (map g xs),
      total_plus f g xs,
    )

is_sym : (x y : ℕ) → is x y ≡ is y x
is_sym x y = elim (is_cases x y) [ inl t ↦ rw t.0 | inr t ↦ elim (is_cases y x) [ inl u ↦ absurd (t.0 (sym u.0)) | inr u ↦ omega arith ] ]

total_is : (x : ℕ) (l : List ℕ) → total (map (λ v. is v x) l) ≡ count x l
total_is x [] = refl
total_is x (y ∷ ys) = omega (arith, total_cons (is y x) (map (λ v. is v x) ys), is_sym x y, total_is x ys)

-- where each element of xs stands once in d, the counts of those in d are together as many as xs has
total_count : (d xs : List ℕ) → ((i : ℕ) → i < length xs → count (item xs i) d ≡ 1) → total (map (λ v. count v xs) d) ≡ length xs
total_count d [] h = total_zero d
total_count d (x ∷ xs) h =
    omega (arith, total_plus (λ v. is v x) (λ v. count v xs) d, total_is x d, h 0 (omega arith), total_count d xs (λ i l. h (suc i) (omega arith)))

-- ---- the distinct votes

-- what does not fall step by step does not fall
pub climbs : (f : ℕ → ℕ) (n : ℕ) → ((j : ℕ) → suc j < n → f j ≤ f (suc j)) → (i j : ℕ) → i ≤ j → j < n → f i ≤ f j
climbs f n h i zero l k = let e : i ≡ 0 = omega arith in rw e (le_refl (f 0))
climbs f n h i (suc j) l k = go (eq-or-lt_of_le l) (λ m. climbs f n h i j m (omega arith))
  where
    go : (i ≡ suc j) ⊎ (i < suc j) → (i ≤ j → f i ≤ f j) → f i ≤ f (suc j)
    go (inl e) ih = rw e (le_refl (f (suc j)))
    go (inr m) ih = omega (arith, ih (le_of_suc-le-suc m), h j k)

-- the list d has each of the first k votes once, rising
record Distinct (votes : List ℕ) (k : ℕ) (d : List ℕ) : Type 0 where
  rise : (i : ℕ) → suc i < length d → item d i < item d (suc i)
  member : (i : ℕ) → i < length d → (j : ℕ) × (j < k) × (item votes j ≡ item d i)
  absent : (x : ℕ) → ((j : ℕ) → j < k → item votes j < x) → count x d ≡ 0
  once : (j : ℕ) → j < k → count (item votes j) d ≡ 1

count_snoc : (x : ℕ) (d : List ℕ) (y : ℕ) → count x (d ++ (y ∷ [])) ≡ count x d + is x y
count_snoc x d y = omega (arith, count_append x d (y ∷ []))

is_other : (x y : ℕ) → x ≢ y → is x y ≡ 0
is_other x y ne = elim (is_cases x y) [ inl t ↦ absurd (ne t.0) | inr t ↦ t.1 ]

module _ (votes : List ℕ) (k : ℕ) (d : List ℕ) (h : Distinct votes k d) where
  -- a vote above all before it
  distinct_new : ((j : ℕ) → j < k → item votes j < item votes k) → Distinct votes (suc k) (d ++ (item votes k ∷ []))
  distinct_new up = record { rise = λ i l. rise_at_lem i (rw length_snoc at l); member = λ i l. member_at i (rw length_snoc at l) (ℕ_discrete i (length d)); absent = absent_at; once = once_at }
    where
      rise_at_lem : (i : ℕ) → suc i < suc (length d) → item (d ++ (item votes k ∷ [])) i < item (d ++ (item votes k ∷ [])) (suc i)
      rise_at_lem i l =
          rw (item_snoc d (item votes k) i (omega arith)) (at (ℕ_discrete (suc i) (length d)))
        where
          at : Dec (suc i ≡ length d) → item d i < item (d ++ (item votes k ∷ [])) (suc i)
          at (yes e) = let (j, lj, q) = h.member i (omega arith) in rw (item_last d (item votes k) (suc i) e) (rw (← q) (up j lj))
          at (no ne) = rw (item_snoc d (item votes k) (suc i) (omega arith)) (h.rise i (omega arith))

      member_at : (i : ℕ) → i < suc (length d) → Dec (i ≡ length d) → (j : ℕ) × (j < suc k) × (item votes j ≡ item (d ++ (item votes k ∷ [])) i)
      member_at i l (yes e) = (k, le_refl (suc k), sym (item_last d (item votes k) i e))
      member_at i l (no ne) = let (j, lj, q) = h.member i (omega arith) in (j, omega arith, q ∙ sym (item_snoc d (item votes k) i (omega arith)))

      absent_at : (x : ℕ) → ((j : ℕ) → j < suc k → item votes j < x) → count x (d ++ (item votes k ∷ [])) ≡ 0
      absent_at x a = omega (arith, count_snoc x d (item votes k), h.absent x (λ j l. a j (omega arith)), is_other x (item votes k) (omega (arith, a k (le_refl (suc k)))))

      once_at : (j : ℕ) → j < suc k → count (item votes j) (d ++ (item votes k ∷ [])) ≡ 1
      once_at j l = at (eq-or-lt_of_le (le_of_suc-le-suc l))
        where
          at : (j ≡ k) ⊎ (j < k) → count (item votes j) (d ++ (item votes k ∷ [])) ≡ 1
          at (inl e) = rw e (omega (arith, count_snoc (item votes k) d (item votes k), h.absent (item votes k) up, is_self (item votes k)))
          at (inr m) = omega (arith, count_snoc (item votes j) d (item votes k), h.once j m, is_other (item votes j) (item votes k) (omega (arith, up j m)))

  -- a vote that stood before
  distinct_again : (i : ℕ) → i < k → item votes i ≡ item votes k → Distinct votes (suc k) d
  distinct_again i li e =
      record {
        rise = h.rise;
        member = λ a l. let (j, lj, q) = h.member a l in (j, omega arith, q);
        absent = λ x a. h.absent x (λ j l. a j (omega arith));
        once = λ j l. elim (eq-or-lt_of_le (le_of_suc-le-suc l)) [ inl q ↦ rw (q, ← e) (h.once i li) | inr m ↦ h.once j m ];
      }

module _ (votes : List ℕ) (rises : (j : ℕ) → suc j < length votes → item votes j ≤ item votes (suc j)) where
  -- vote k, where it first stands: it is above all before it
  abbrev New : ℕ → Type 0
  New k = (fresh votes k ≡ item votes k ∷ []) × ((j : ℕ) → j < k → item votes j < item votes k)

  -- vote k, where it stands again: it is the one before it
  abbrev Again : ℕ → Type 0
  Again k = (fresh votes k ≡ []) × ((j : ℕ) × (j < k) × (item votes j ≡ item votes k))

  cases : (k : ℕ) → k < length votes → New k ⊎ Again k
  unfolding fresh
  cases k lk = go (ℕ_discrete k 0) (ℕ_discrete (item votes (k - 1)) (item votes k))
    where
      above : k ≢ 0 → item votes (k - 1) ≢ item votes k → (j : ℕ) → j < k → item votes j < item votes k
      above ne d j lj =
          let e : suc (k - 1) ≡ k = omega arith in
          let a : item votes j ≤ item votes (k - 1) = climbs (item votes) (length votes) rises j (k - 1) (omega arith) (omega arith) in
          let b : item votes (k - 1) ≤ item votes (suc (k - 1)) = rises (k - 1) (rw e lk) in
          let c : item votes (k - 1) ≤ item votes k = rw e at b in
          omega arith

      go : Dec (k ≡ 0) → Dec (item votes (k - 1) ≡ item votes k) → New k ⊎ Again k
      go (yes z) d =
          let t : (equal k 0 or differ (item votes (k - 1)) (item votes k)) ≡ true = sym (or_stop (equal k 0) (differ (item votes (k - 1)) (item votes k)) (is_equal z)) in
          inl (rw t, λ j lj. absurd (omega arith))
      go (no ne) (no d) =
          let t : (equal k 0 or differ (item votes (k - 1)) (item votes k)) ≡ true = (or_iff (equal k 0) (differ (item votes (k - 1)) (item votes k))).1 (λ f. is_differ d) in
          inl (rw t, above ne d)
      go (no ne) (yes e) =
          let t : (equal k 0 or differ (item votes (k - 1)) (item votes k)) ≡ false = (or_fails (equal k 0) (differ (item votes (k - 1)) (item votes k))).1 (not_equal ne, not_differ e) in
          inr (rw t, (k - 1, omega arith, e))

  -- those of the first k votes
  abbrev among : ℕ → List ℕ
  among k = chunks (fresh votes) k

  among_new : (k : ℕ) → fresh votes k ≡ item votes k ∷ [] → among (suc k) ≡ among k ++ (item votes k ∷ [])
  among_new k e = ap (λ (l : List ℕ). among k ++ l) e

  among_again : (k : ℕ) → fresh votes k ≡ [] → among (suc k) ≡ among k
  among_again k e = ap (λ (l : List ℕ). among k ++ l) e ∙ append-nil (among k)

  distinct : (k : ℕ) → k ≤ length votes → Distinct votes k (among k)
  distinct zero lk = record { rise = λ i l. absurd (not-suc-le-zero l); member = λ i l. absurd (not-suc-le-zero l); absent = λ x a. refl; once = λ j l. absurd (not-suc-le-zero l) }
  distinct (suc k) lk = go (cases k lk) (distinct k (omega arith))
    where
      go : New k ⊎ Again k → Distinct votes k (among k) → Distinct votes (suc k) (among k ++ fresh votes k)
      go (inl (e, up)) ih = rw (among_new k e) (distinct_new votes k (among k) ih up)
      go (inr (e, (j, lj, q))) ih = rw (among_again k e) (distinct_again votes k (among k) ih j lj q)

  once : (j : ℕ) → j < length votes → count (item votes j) (distinct_votes votes) ≡ 1
  unfolding distinct_votes
  once j lj = (distinct (length votes) (le_refl (length votes))).once j lj

-- a number that stands in a list has a place there
place_of : (x : ℕ) (l : List ℕ) → 1 ≤ count x l → (i : ℕ) × (i < length l) × (item l i ≡ x)
place_of x [] h = absurd (omega arith)
place_of x (y ∷ ys) h = go (is_cases x y) (place_of x ys)
  where
    go : ((x ≡ y) × (is x y ≡ 1)) ⊎ ((x ≢ y) × (is x y ≡ 0)) → (1 ≤ count x ys → (i : ℕ) × (i < length ys) × (item ys i ≡ x))
        → (i : ℕ) × (i < suc (length ys)) × (item (y ∷ ys) i ≡ x)
    go (inl t) ih = (0, omega arith, sym t.0)
    go (inr t) ih = let (i, l, e) = ih (omega arith) in (suc i, omega arith, e)

-- what stands at a place stands in the list
stands_in : (l : List ℕ) (i : ℕ) → i < length l → 1 ≤ count (item l i) l
stands_in [] i h = absurd (not-suc-le-zero h)
stands_in (x ∷ xs) zero h = omega (arith, is_self x)
stands_in (x ∷ xs) (suc i) h = omega (arith, stands_in xs i (omega arith))

-- ---- the tally

-- "per distinct announced vote, rising, a line of the vote .. and how often it was announced"
pub record Tallied (votes values counts : List ℕ) : Type 0 where
  pub values_rise : (i : ℕ) → suc i < length values → item values i < item values (suc i)
  pub values_are_votes : (i : ℕ) → i < length values → (j : ℕ) × (j < length votes) × (item votes j ≡ item values i)
  pub votes_are_values : (j : ℕ) → j < length votes → (i : ℕ) × (i < length values) × (item values i ≡ item votes j)
  pub counts_long : length counts ≡ length values
  pub counts_are : (i : ℕ) → i < length values → item counts i ≡ times (item values i) (item votes) (length votes)
  pub counts_positive : (i : ℕ) → i < length values → 1 ≤ item counts i
  pub counts_sum : sum (item counts) (length counts) ≡ length votes
  pub values_few : length values ≤ length votes

-- no more numbers than their sum, where none is 0
few : (l : List ℕ) → ((i : ℕ) → i < length l → 1 ≤ item l i) → length l ≤ total l
few [] h = omega arith
few (x ∷ xs) h = omega (arith, total_cons x xs, h 0 (omega arith), few xs (λ i l. h (suc i) (omega arith)))

pub rising_tallied : (votes : List ℕ) → ((j : ℕ) → suc j < length votes → item votes j ≤ item votes (suc j)) → Tallied votes (distinct_votes votes) (vote_counts votes)
unfolding distinct_votes vote_counts
rising_tallied votes rises =
    let d : Distinct votes (length votes) (distinct_votes votes) = distinct votes rises (length votes) (le_refl (length votes)) in
    record {
      values_rise = d.rise;
      values_are_votes = d.member;
      votes_are_values = λ j lj. place_of (item votes j) (distinct_votes votes) (omega (arith, d.once j lj));
      counts_long = long;
      counts_are = are;
      counts_positive = positive;
      counts_sum = summed;
      values_few = omega (arith, few (vote_counts votes) (λ i l. positive i (rw long at l)), summed, long);
    }
  where
    long : length (vote_counts votes) ≡ length (distinct_votes votes)
    long = length_map (λ v. times v (item votes) (length votes)) (distinct_votes votes)

    are : (i : ℕ) → i < length (distinct_votes votes) → item (vote_counts votes) i ≡ times (item (distinct_votes votes) i) (item votes) (length votes)
    are i l = item_map (λ v. times v (item votes) (length votes)) (distinct_votes votes) i l

    positive : (i : ℕ) → i < length (distinct_votes votes) → 1 ≤ item (vote_counts votes) i
    positive i l =
        let (j, lj, e) = (distinct votes rises (length votes) (le_refl (length votes))).member i l in
        rw (are i l, ← e) (omega (arith, times_list (item votes j) votes, stands_in votes j lj))

    summed : sum (item (vote_counts votes)) (length (vote_counts votes)) ≡ length votes
    summed =
        total_same (λ v. times v (item votes) (length votes)) (λ v. count v votes) (distinct_votes votes) (λ v. times_list v votes)
        ∙ total_count (distinct_votes votes) votes (once votes rises)

-- votes that are not refused
pub unrefused_tallied : (votes : List ℕ) (values_long counts_long : ℕ) → tally_refusal votes values_long counts_long ≡ 0 → Tallied votes (distinct_votes votes) (vote_counts votes)
unfolding tally_refusal
unrefused_tallied votes values_long counts_long e =
    let h = simp rules at e in
    rising_tallied votes (λ j l. let before : suc j - 1 ≡ j = omega arith in rw before at (h.1.0 (suc j) l (not_equal (omega arith))))

-- what an accepted record announces is not refused, where the outputs are as long
pub announced_unrefused : (r : List ℕ) → judged false r ≡ accepted → tally_refusal (announced_votes r) (length (announced_votes r)) (length (announced_votes r)) ≡ 0
unfolding tally_refusal rule ◌and◌
announced_unrefused r a =
    let votes = announced_votes r in
    let long : equal (length votes) (length votes) ≡ true = is_equal refl in
    let rise : every (λ i. equal i 0 or at_most (item votes (i - 1)) (item votes i)) (length votes) ≡ true =
    (every_iff _ (length votes)).1 (λ i l. (or_iff (equal i 0) (at_most (item votes (i - 1)) (item votes i))).1 (λ z. is_at_most (before i l ((unequal_iff i 0).0 z)))) in
    simp (long, rise)
  where
    before : (i : ℕ) → i < length (announced_votes r) → i ≢ 0 → item (announced_votes r) (i - 1) ≤ item (announced_votes r) i
    before i l ne =
        let e : suc (i - 1) ≡ i = omega arith in
        let h : item (announced_votes r) (i - 1) ≤ item (announced_votes r) (suc (i - 1)) = announced_rise r ((accepts_iff r).0 a) (i - 1) (rw e l) in
        rw e at h

pub announced_tallied : (r : List ℕ) → judged false r ≡ accepted → Tallied (announced_votes r) (distinct_votes (announced_votes r)) (vote_counts (announced_votes r))
announced_tallied r a = rising_tallied (announced_votes r) (announced_rise r ((accepts_iff r).0 a))

-- so the tally answers how many pairs it writes
pub announced_answer : (r : List ℕ) → judged false r ≡ accepted
    → tallied (announced_votes r) (length (announced_votes r)) (length (announced_votes r)) ≡ done (length (distinct_votes (announced_votes r)) ∷ [])
unfolding tallied answer_of
announced_answer r a = let z = announced_unrefused r a in rw z

-- ---- the two outputs: the pairs in front, and behind them what was there

module _ (written before : List ℕ) (h : length written ≤ length before) where
  pub in_front_length : length (in_front written before) ≡ length before
  unfolding in_front
  in_front_length = omega (arith, length-append written (drop (length written) before), length-drop (length written) before)

  pub in_front_written : (i : ℕ) → i < length written → item (in_front written before) i ≡ item written i
  unfolding in_front
  in_front_written i l = get_or-append written (drop (length written) before) 0 i l

  pub in_front_left : (i : ℕ) → length written ≤ i → item (in_front written before) i ≡ item before i
  unfolding in_front
  in_front_left i l =
      let e : i ≡ length written + (i - length written) = omega arith in
      rw e (get_or-append-add written (drop (length written) before) (i - length written) 0 ∙ get_or-drop (length written) before (i - length written) 0)
