-- The tally's loop: after i votes the outputs begin with the distinct votes among them and with their counts.
use mathlib.Core.Path.{◌≡◌, refl, sym, ap, ◌∙◌}
use mathlib.Core.Bool.{true, false}
use mathlib.Core.List.{List, [], ◌∷◌, ◌++◌}
use Prim.Native.Nat.{ℕ, suc, ◌+◌, ◌-◌, ◌≤◌, ◌<◌}
use native.Mathlib.Nat.{zero-add}
use native.Mathlib.Numerals.{add-one}
use native.Mathlib.Omega.{arith}
use lib.ListN.{length, get_or, set, drop, length-map, length-append}
use lib.Seq.{get_or-set_same, set-set}
use Rattle.laws.specs.Tests.{not_equal}
use Rattle.laws.specs.Faults.{rules}
use Rattle.laws.specs.Sums.{times}
use Rattle.laws.specs.Chunks.{chunks}
use Rattle.laws.specs.Writing.{put, put_length, put_set, put_snoc, Wrote, wrote, nothing, next, same}
use Rattle.protocol.specs.Terms.{item}
use Rattle.protocol.specs.Results.{fresh, in_front, distinct_votes, vote_counts, tally_refusal}
use Rattle.results.specs.Tallies.{TallyReady}
use Rattle.results.proofs.Distinct.{times_most, counted, is_fresh, one_fresh, none_fresh, new_counts, again}

-- what is not refused is ready
pub ready : (votes : List ℕ) (values_long counts_long k : ℕ) → k ≡ tally_refusal votes values_long counts_long → k ≡ 0
    → TallyReady votes values_long counts_long
unfolding tally_refusal
ready votes values_long counts_long k e z =
    let (long, (stand, rest)) = simp rules at (sym e ∙ z) in
    record {
      values_long = long.0;
      counts_long = long.1;
      rises = λ i l. let back : suc i - 1 ≡ i = omega arith in rw back at (stand (suc i) l (not_equal (omega arith)));
    }

-- ---- stores to an output that is written from its start

-- a number behind the last
stored : {l out v : List ℕ} {b : ℕ} (x : ℕ) → Wrote l 0 v out → b ≡ length v → b < length l → Wrote l 0 (v ++ (x ∷ [])) (set out b x)
stored {l} {out} {v} {b} x h e k =
    next h (wrote (put_set out b x (omega (arith, h.long))) (omega (arith, h.long))) (omega arith)

-- the last number anew
restored : {l out : List ℕ} {b : ℕ} (v : List ℕ) (x : ℕ) → Wrote l 0 (v ++ (x ∷ [])) out → b ≡ length v → (get_or out b 0 ≡ x) × ((y : ℕ) → Wrote l 0 (v ++ (y ∷ [])) (set out b y))
restored {l} {out} {b} v x h e =
    let room : b < length l = omega (arith, h.ends, length-append v (x ∷ [])) in
    let p : out ≡ set (put l 0 v) b x = h.is ∙ sym (put_snoc l 0 b v x (omega arith) room) in
    let inside : b < length (put l 0 v) = omega (arith, put_length l 0 v (omega arith)) in (
      ap (λ (o : List ℕ). get_or o b 0) p ∙ get_or-set_same (put l 0 v) b x 0 inside,
      λ y. wrote (ap (λ (o : List ℕ). set o b y) p ∙ set-set (put l 0 v) b x y ∙ put_snoc l 0 b v y (omega arith) room) (omega (arith, length-append v (y ∷ []))),
    )

front : {l out v : List ℕ} → Wrote l 0 v out → out ≡ in_front v l
unfolding put in_front
front {l} {out} {v} h = h.is ∙ ap (λ (k : ℕ). v ++ drop k l) (zero-add (length v))

-- ---- the loop

module _ (votes : List ℕ) where
  -- the distinct votes among the first i
  abbrev distinct : ℕ → List ℕ
  distinct i = chunks (fresh votes) i

  pub record Tallied (values₀ counts₀ : List ℕ) (i : ℕ) (values counts : List ℕ) (pairs : ℕ) : Type 0 where
    pub within : i ≤ length votes
    pub pairs_within : pairs ≤ i
    pub pairs_long : pairs ≡ length (distinct i)
    pub in_values : Wrote values₀ 0 (distinct i) values
    pub in_counts : Wrote counts₀ 0 (counted votes i (distinct i)) counts

  -- one more of the last vote: its count is at most i
  pub record OneMore (values₀ counts₀ : List ℕ) (i : ℕ) (values counts : List ℕ) (pairs : ℕ) : Type 0 where
    pub some : 0 < pairs
    pub at_most : item counts (pairs - 1) ≤ i
    pub tallied : Tallied values₀ counts₀ (i + 1) values (set counts (pairs - 1) (item counts (pairs - 1) + 1)) pairs

  pub none_tallied : (values counts : List ℕ) → Tallied values counts 0 values counts 0
  none_tallied values counts = record {
    within = omega arith;
    pairs_within = omega arith;
    pairs_long = refl;
    in_values = nothing values 0 (omega arith);
    in_counts = nothing counts 0 (omega arith);
  }

  module _ {values₀ counts₀ : List ℕ} (ready : TallyReady votes (length values₀) (length counts₀)) where
    pub new_tallied : {i : ℕ} {values counts : List ℕ} {pairs : ℕ} → Tallied values₀ counts₀ i values counts pairs → i < length votes → is_fresh votes i ≡ true
        → Tallied values₀ counts₀ (i + 1) (set values pairs (item votes i)) (set counts pairs 1) (pairs + 1)
    new_tallied {i} {values} {counts} {pairs} h l e =
        let one : distinct i ++ (item votes i ∷ []) ≡ distinct (suc i) = sym (one_fresh votes i e) in
        rw (add-one i) (record {
          within = omega arith;
          pairs_within = omega arith;
          pairs_long = ap (λ (n : ℕ). n + 1) h.pairs_long ∙ sym (length-append (distinct i) (item votes i ∷ [])) ∙ ap length one;
          in_values = same (stored (item votes i) h.in_values h.pairs_long (omega (arith, ready.values_long))) one;
          in_counts = same (stored 1 h.in_counts (h.pairs_long ∙ sym (length-map (distinct i) _)) (omega (arith, ready.counts_long))) (sym (new_counts votes ready.rises i l e));
        })

    pub again_tallied : {i : ℕ} {values counts : List ℕ} {pairs : ℕ} → Tallied values₀ counts₀ i values counts pairs → i < length votes → is_fresh votes i ≡ false
        → OneMore values₀ counts₀ i values counts pairs
    again_tallied {i} {values} {counts} {pairs} h l e =
        let a = again votes ready.rises i l e in
        let some : 0 < pairs = omega (arith, h.pairs_long, a.long) in
        let last : pairs - 1 ≡ length (counted votes i a.earlier) = omega (arith, h.pairs_long, a.long) in
        let (was, anew) = restored (counted votes i a.earlier) (times (item votes i) (item votes) i) (same h.in_counts a.before) last in
        let none : distinct i ≡ distinct (suc i) = sym (none_fresh votes i e) in
        record {
          some = some;
          at_most = omega (arith, was, times_most (item votes i) (item votes) i);
          tallied = rw (add-one i) (record {
            within = omega arith;
            pairs_within = omega (arith, h.pairs_within);
            pairs_long = h.pairs_long ∙ ap length none;
            in_values = same h.in_values none;
            in_counts = rw was (same (anew (times (item votes i) (item votes) i + 1)) (sym a.after));
          });
        }

    -- the whole
    pub all_tallied : {i : ℕ} {values counts : List ℕ} {pairs : ℕ} → Tallied values₀ counts₀ i values counts pairs → i ≡ length votes
        → (values ≡ in_front (distinct_votes votes) values₀) × ((counts ≡ in_front (vote_counts votes) counts₀) × (pairs ≡ length (distinct_votes votes)))
    unfolding distinct_votes vote_counts
    all_tallied h e = let h' = rw e at h in (front h'.in_values, (front h'.in_counts, h'.pairs_long))
