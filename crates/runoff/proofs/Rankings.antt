-- A vote's digits read from the right: what is read so far is the end of its ranking.
use mathlib.Core.Path.{◌≡◌, refl, sym, ap, ◌∙◌}
use mathlib.Core.Logic.{◌≢◌, ◌⊎◌, inl, inr}
use mathlib.Core.Bool.{Bool, true, false, not}
use mathlib.Core.List.{List, [], ◌∷◌, ◌++◌, map, map-append, append_assoc, append-nil}
use Prim.Native.Nat.{ℕ, ◌+◌, ◌-◌, ◌/◌, ◌%◌, ◌≤◌, ◌<◌}
use native.Mathlib.Decide.{ℕ_discrete, dec_le}
use native.Mathlib.Omega.{arith}
use lib.ListN.{length, get_or, set, replicate, get_or-replicate, length-set}
use lib.Seq.{get_or-set_same, get_or-set_other}
use Rattle.std.specs.Prelude.{Option, None, Some, is_some}
use Rattle.laws.specs.Tests.{pick, equal, differ, below, ◌and◌, never, refuted, and_iff, at_most_iff, and_go, and_stop, and_last_stop, is_equal, not_equal, is_differ, not_differ, is_at_most, not_at_most, differ_iff, differ_fails}
use Rattle.laws.specs.Sorting.{count, is, is_cases}
use Rattle.protocol.specs.Terms.{digits, decimal}
use Rattle.decimals.proofs.Digits.{one_byte, decimal_one, decimal_more}
use Rattle.runoff.specs.Ranking.{ranking, ranks, valid, spoiled, first_standing, counts_for, standing}
use Rattle.runoff.specs.Rounds.{candidate}
use Rattle.runoff.proofs.Outcomes.{picked, unpicked, some_is, picked_candidate}

-- the digits of what is still to be read, none of 0
unfoldable pub digits_of : ℕ → List ℕ
digits_of x = pick (equal x 0) [] (ranking x)

none_of_zero : digits_of 0 ≡ []
unfolding digits_of equal
none_of_zero = refl

pub digits_some : (x : ℕ) → x ≢ 0 → digits_of x ≡ ranking x
unfolding digits_of
digits_some x h = unpicked [] (ranking x) (not_equal h)

ranking_one : (x : ℕ) → x < 10 → ranking x ≡ x ∷ []
unfolding ranking
ranking_one x h =
    ap (map (λ character. character - 48)) (sym (decimal_one x h) ∙ one_byte (48 + x) (omega arith))
    ∙ ap (λ (d : ℕ). d ∷ []) (omega arith)

ranking_more : (x : ℕ) → 10 ≤ x → x < 10000000000 → ranking x ≡ ranking (x / 10) ++ ((x % 10) ∷ [])
unfolding ranking
ranking_more x h l =
    ap (map (λ character. character - 48)) (sym (decimal_more x h l) ∙ ap (λ (b : List ℕ). decimal (x / 10) ++ b) (one_byte (48 + x % 10) (omega arith)))
    ∙ map-append (λ character. character - 48) (decimal (x / 10)) ((48 + x % 10) ∷ [])
    ∙ ap (λ (d : ℕ). map (λ character. character - 48) (decimal (x / 10)) ++ (d ∷ [])) (omega arith)

-- all digits but the last, then the last
pub digits_last : (x : ℕ) → x ≢ 0 → x < 10000000000 → digits_of x ≡ digits_of (x / 10) ++ ((x % 10) ∷ [])
digits_last x h l = digits_some x h ∙ go (dec_le 10 x)
  where
    go : Dec (10 ≤ x) → ranking x ≡ digits_of (x / 10) ++ ((x % 10) ∷ [])
    go (yes m) = ranking_more x m l ∙ ap (λ (d : List ℕ). d ++ ((x % 10) ∷ [])) (sym (digits_some (x / 10) (omega arith)))
    go (no m) =
        let z : x / 10 ≡ 0 = omega arith in
        let e : x % 10 ≡ x = omega arith in
        rw (z, none_of_zero, e) (ranking_one x (omega arith))

-- ---- the end of a ranking

pub ranks_end : (candidates : ℕ) (upper lower : List ℕ) → ranks candidates (upper ++ lower) ≡ true → ranks candidates lower ≡ true
unfolding ranks
ranks_end candidates [] lower h = h
ranks_end candidates (k ∷ ks) lower h = ranks_end candidates ks lower ((and_iff _ _).0 ((and_iff _ _).0 h).1).1

module _ (candidates : ℕ) (left : List ℕ) (vote : ℕ) where
  pub zero_invalid : valid candidates 0 ≡ false
  unfolding valid ranks
  zero_invalid = rw (ranking_one 0 (omega arith)) (sym (and_stop _ _ (sym (and_stop _ _ (not_at_most (omega arith))))))

  -- a ranking that does not stand counts for none
  pub invalid_counts : ranks candidates (digits_of vote) ≡ false → 0 ≡ counts_for candidates left vote
  unfolding counts_for valid
  invalid_counts h = go (ℕ_discrete vote 0)
    where
      go : Dec (vote ≡ 0) → 0 ≡ pick (valid candidates vote) (first_standing left (ranking vote)) 0
      go (yes e) = rw (e, zero_invalid)
      go (no ne) = sym (unpicked (first_standing left (ranking vote)) 0 (rw (digits_some vote ne) at h))

  pub valid_counts : ranks candidates (digits_of vote) ≡ true → first_standing left (digits_of vote) ≡ counts_for candidates left vote
  unfolding counts_for valid first_standing
  valid_counts h = go (ℕ_discrete vote 0)
    where
      go : Dec (vote ≡ 0) → first_standing left (digits_of vote) ≡ pick (valid candidates vote) (first_standing left (ranking vote)) 0
      go (yes e) = rw (e, none_of_zero, zero_invalid)
      go (no ne) =
          ap (first_standing left) (digits_some vote ne)
          ∙ sym (picked (first_standing left (ranking vote)) 0 (rw (digits_some vote ne) at h))

  -- ---- the loop

  -- `lower` is the end of the ranking that was read
  pub record Read (named : List Bool) (first : Option ℕ) (rest : ℕ) : Type 0 where
    pub lower : List ℕ
    pub whole : digits_of vote ≡ digits_of rest ++ lower
    pub stands : ranks candidates lower ≡ true
    pub marked : (k : ℕ) → k < 10 → get_or named k false ≡ differ (count k lower) 0
    pub is_first : first ≡ candidate (first_standing left lower)
    pub fits : rest < 4294967296
    pub long : length named ≡ 10

  pub none_read : vote < 4294967296 → Read (replicate 10 false) None vote
  unfolding ranks first_standing
  none_read h = record {
    lower = [];
    whole = sym (append-nil (digits_of vote));
    stands = refl;
    marked = λ k l. get_or-replicate 10 k false false l ∙ sym (not_differ refl);
    is_first = refl;
    fits = h;
    long = refl;
  }

  module _ {named : List Bool} {first : Option ℕ} {rest : ℕ} (r : Read named first rest) (more : rest ≢ 0) where
    abbrev k : ℕ
    k = rest % 10

    -- one digit more
    whole_more : digits_of vote ≡ digits_of (rest / 10) ++ (k ∷ r.lower)
    whole_more =
        r.whole
        ∙ ap (λ (d : List ℕ). d ++ r.lower) (digits_last rest more (omega (arith, r.fits)))
        ∙ append_assoc (digits_of (rest / 10)) (k ∷ []) r.lower

    fails : ranks candidates (k ∷ r.lower) ≡ false → None ≡ candidate (counts_for candidates left vote)
    fails h = ap candidate (invalid_counts (rw whole_more (refuted _ (λ e. never (ranks_end candidates (digits_of (rest / 10)) (k ∷ r.lower) e) h))))

    pub zero_fails : k ≡ 0 → None ≡ candidate (counts_for candidates left vote)
    unfolding ranks
    zero_fails h = fails (sym (and_stop _ _ (sym (and_stop _ _ (not_at_most (omega arith))))))

    pub high_fails : candidates < k → None ≡ candidate (counts_for candidates left vote)
    unfolding ranks
    high_fails h = fails (sym (and_stop _ _ (sym (and_last_stop _ _ (not_at_most h)))))

    pub repeated_fails : get_or named k false ≡ true → None ≡ candidate (counts_for candidates left vote)
    unfolding ranks
    repeated_fails h =
        fails (sym (and_last_stop _ _ (sym (and_stop _ _ (not_equal ((differ_iff (count k r.lower) 0).0 (sym (r.marked k (omega arith)) ∙ h)))))))

    pub one_read : k ≢ 0 → k ≤ candidates → get_or named k false ≡ false → (f : Option ℕ) → f ≡ pick (standing left k) (Some k) first
        → Read (set named k true) f (rest / 10)
    unfolding ranks first_standing
    one_read some most new f e = record {
      lower = k ∷ r.lower;
      whole = whole_more;
      stands = (and_iff _ _).1 ((and_iff _ _).1 (is_at_most (omega arith), is_at_most most), (and_iff _ _).1 (is_equal ((differ_fails (count k r.lower) 0).0 (sym (r.marked k (omega arith)) ∙ new)), r.stands));
      marked = λ q l. mark q l (is_cases q k);
      is_first = e ∙ ap (pick (standing left k) (Some k)) r.is_first ∙ picked_candidate (standing left k) k _ some;
      fits = omega (arith, r.fits);
      long = length-set named k true ∙ r.long;
    }
      where
        mark : (q : ℕ) → q < 10 → ((q ≡ k) × (is q k ≡ 1)) ⊎ ((q ≢ k) × (is q k ≡ 0)) → get_or (set named k true) q false ≡ differ (is q k + count q r.lower) 0
        mark q l (inl (same, one)) = rw same (get_or-set_same named k true false (omega (arith, r.long))) ∙ sym (is_differ (omega arith))
        mark q l (inr (other, none)) = get_or-set_other named k q true false other ∙ r.marked q l ∙ ap (λ (n : ℕ). differ n 0) (omega arith)

  pub all_read : {named : List Bool} {first : Option ℕ} {rest : ℕ} → Read named first rest → rest ≡ 0 → first ≡ candidate (counts_for candidates left vote)
  all_read {named} {first} {rest} r e =
      let w : digits_of vote ≡ r.lower = r.whole ∙ ap (λ (x : ℕ). digits_of x ++ r.lower) e ∙ ap (λ (d : List ℕ). d ++ r.lower) none_of_zero in
      r.is_first ∙ ap candidate (ap (first_standing left) (sym w) ∙ valid_counts (rw w r.stands))

-- ---- with nobody gone every valid vote counts

snoc_some : (l : List ℕ) (x : ℕ) → (k : ℕ) × (ks : List ℕ) × (l ++ (x ∷ []) ≡ k ∷ ks)
snoc_some [] x = (x, [], refl)
snoc_some (y ∷ ys) x = (y, ys ++ (x ∷ []), refl)

-- a number has a first digit
first_digit : (vote : ℕ) → (k : ℕ) × (ks : List ℕ) × (ranking vote ≡ k ∷ ks)
unfolding ranking decimal digits
first_digit vote = go (below vote 10)
  where
    go : (b : Bool) → (k : ℕ) × (ks : List ℕ)
        × (map (λ character. character - 48) (pick b ((48 + vote) ∷ []) (digits 9 (vote / 10) ++ ((48 + vote % 10) ∷ []))) ≡ k ∷ ks)
    go true = (48 + vote - 48, [], refl)
    go false =
        let (c, cs, e) = snoc_some (digits 9 (vote / 10)) (48 + vote % 10) in
        (c - 48, map (λ character. character - 48) cs, ap (map (λ character. character - 48)) e)

-- a valid vote's first candidate is one of those there are
pub first_ranked : (candidates vote : ℕ) → valid candidates vote ≡ true
    → (k : ℕ) × (ks : List ℕ) × (ranking vote ≡ k ∷ ks) × (1 ≤ k) × (k ≤ candidates)
unfolding valid ranks
first_ranked candidates vote h =
    let (k, ks, e) = first_digit vote in
    let (a, b) = (and_iff _ _).0 ((and_iff _ _).0 (rw e at h)).0 in
    (k, ks, e, (at_most_iff 1 k).0 a, (at_most_iff k candidates).0 b)

-- a vote that is not blank is spoiled exactly if it counts for none with nobody gone
pub spoiled_is : (candidates vote : ℕ) {o : Option ℕ} {b : Bool} → candidates ≤ 9 → vote ≢ 0 → o ≡ candidate (counts_for candidates (replicate 9 0) vote)
    → is_some o ≡ not b → b ≡ spoiled candidates vote
unfolding spoiled counts_for first_standing standing
spoiled_is candidates vote {o} {b} most some e h = twice b ∙ ap not (sym h ∙ ap is_some e) ∙ go (valid candidates vote) refl
  where
    twice : (b : Bool) → b ≡ not (not b)
    twice true = refl
    twice false = refl

    go : (b : Bool) → valid candidates vote ≡ b
        → not (is_some (candidate (counts_for candidates (replicate 9 0) vote))) ≡ (differ vote 0 and not (valid candidates vote))
    go true v =
        let (d, ds, r, low, high) = first_ranked candidates vote v in
        let f : counts_for candidates (replicate 9 0) vote ≡ d = picked _ 0 v ∙ rw r (firstly d ds low (omega arith)) in
        rw (f, v, ← some_is d (omega arith)) (and_last_stop (differ vote 0) false refl)
      where
        firstly : (d : ℕ) (ds : List ℕ) → 1 ≤ d → d ≤ 9 → first_standing (replicate 9 0) (d ∷ ds) ≡ d
        firstly d ds low high = picked d _ (is_equal (get_or-replicate 9 (d - 1) 0 0 (omega arith)))
    go false v = let f : counts_for candidates (replicate 9 0) vote ≡ 0 = unpicked _ 0 v in rw (f, v) (and_go _ _ (is_differ some) refl)

pub blank_unspoiled : (candidates vote : ℕ) → vote ≡ 0 → false ≡ spoiled candidates vote
unfolding spoiled
blank_unspoiled candidates vote e = and_stop _ _ (not_differ e)
