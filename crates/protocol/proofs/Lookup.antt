-- The receipt lookup: it answers as the receipt check does wherever that one refuses nothing, refuses nothing that the check does not
-- refuse by the same number, and depends on no byte behind the ballot at which it stops.
use mathlib.Core.Path.{◌≡◌, refl, sym, ap, ap₂, ◌∙◌}
use mathlib.Core.Logic.{◌≢◌, ◌⊎◌, inl, inr}
use mathlib.Core.Bool.{Bool, true, false}
use mathlib.Core.List.{List, ◌++◌}
use Prim.Native.Nat.{ℕ, zero, suc, ◌+◌, ◌-◌, ◌*◌, ◌≤◌, ◌<◌}
use native.Mathlib.Nat.{not-suc-le-zero, le_refl, eq-or-lt_of_le, le_of_suc-le-suc}
use native.Mathlib.Decide.{ℕ_discrete}
use native.Mathlib.Omega.{arith}
use lib.ListN.{length, get_or, take, length-append}
use lib.Seq.{get_or-take, length-take-le, take-take, take-append-le}
use Rattle.laws.specs.Faults.{Found, Nothing, Fault}
use Rattle.laws.specs.Search.{last_or}
use Rattle.laws.specs.Bytes.{number, number_same}
use Rattle.laws.specs.Chunks.{piece, piece_same}
use Rattle.laws.specs.Tests.{equal, below, at_most, every, pick, never, not_equal, below_iff, below_fails, at_most_iff, every_iff, ◌implies◌}
use Rattle.laws.specs.Faults.{first, ◌then◌, located, number_of, rule, first_prefix}
use Rattle.protocol.specs.declared.Parameters.{Parameters}
use Rattle.protocol.specs.declared.Due.TheVariants.{First, Ballot}
use Rattle.protocol.specs.Answers.{answer_of}
use Rattle.protocol.specs.Terms.{item}
use Rattle.protocol.specs.Layout.{first_width, at_ballot}
use Rattle.protocol.specs.Record.{parameters_of, id_of}
use Rattle.protocol.specs.Rules.{first_rules, ballot_rules, fault, fault_with}
use Rattle.protocol.specs.Judging.{found, found_with, ballot_faults}
use Rattle.protocol.specs.Results.{receipt_at, receipt_among, receipt_refusal, receipt_checked, ballots_read, lookup_refusal, looked_up}
use Rattle.protocol.proofs.Alike.{parameters_within}
use Rattle.protocol.proofs.Tested.{fault_iff}
use Rattle.protocol.proofs.Receipts.{Checkable, checkable_iff, ids_rise_lem, rising}

-- ---- how many ballots are read

module _ (p : Parameters) (r printed : List ℕ) where
  -- the id sought is larger than that of ballot i
  abbrev Smaller : ℕ → Type 0
  Smaller i = id_of p r i < number printed 0 4

  all_smaller : (n : ℕ) → ((i : ℕ) → i < n → Smaller i) → every (λ i. below (id_of p r i) (number printed 0 4)) n ≡ true
  all_smaller n h = (every_iff (λ i. below (id_of p r i) (number printed 0 4)) n).1 (λ i l. (below_iff (id_of p r i) (number printed 0 4)).1 (h i l))

  -- no ballot stops it: all are read
  pub reads_all : (n : ℕ) → ((i : ℕ) → i < n → Smaller i) → ballots_read p r printed n ≡ n
  unfolding ballots_read
  reads_all zero h = refl
  reads_all (suc n) h = rw (all_smaller n (λ i l. h i (omega arith)))

  -- ballot j is read where every ballot before it is smaller
  pub reads_past : (n j : ℕ) → j < n → ((i : ℕ) → i < j → Smaller i) → suc j ≤ ballots_read p r printed n
  unfolding ballots_read
  reads_past zero j l h = absurd (not-suc-le-zero l)
  reads_past (suc n) j l h = go (every (λ i. below (id_of p r i) (number printed 0 4)) n) refl (eq-or-lt_of_le (le_of_suc-le-suc l)) (λ k. reads_past n j k h)
    where
      go : (b : Bool) → every (λ i. below (id_of p r i) (number printed 0 4)) n ≡ b → (j ≡ n) ⊎ (j < n) → (j < n → suc j ≤ ballots_read p r printed n)
          → suc j ≤ pick b (suc n) (ballots_read p r printed n)
      go true e q ih = l
      go false e (inl q) ih = absurd (never (all_smaller n (λ i k. h i (rw q k))) e)
      go false e (inr k) ih = ih k

  -- .. and where it is not smaller itself, none behind it
  pub reads_to : (n j : ℕ) → j < n → ((i : ℕ) → i < j → Smaller i) → number printed 0 4 ≤ id_of p r j → ballots_read p r printed n ≡ suc j
  unfolding ballots_read
  reads_to zero j l h s = absurd (not-suc-le-zero l)
  reads_to (suc n) j l h s = go (every (λ i. below (id_of p r i) (number printed 0 4)) n) refl (eq-or-lt_of_le (le_of_suc-le-suc l)) (λ k. reads_to n j k h s)
    where
      go : (b : Bool) → every (λ i. below (id_of p r i) (number printed 0 4)) n ≡ b → (j ≡ n) ⊎ (j < n) → (j < n → ballots_read p r printed n ≡ suc j)
          → pick b (suc n) (ballots_read p r printed n) ≡ suc j
      go true e (inl q) ih = ap suc (sym q)
      go true e (inr k) ih = let small : Smaller j = (below_iff (id_of p r j) (number printed 0 4)).0 ((every_iff (λ i. below (id_of p r i) (number printed 0 4)) n).0 e j k) in absurd (omega arith)
      go false e (inl q) ih = absurd (never (all_smaller n (λ i k. h i (rw q k))) e)
      go false e (inr k) ih = ih k

  -- either no ballot stops it, or the last one read does
  pub data Stop (n : ℕ) : Type 0 where
    none : ((i : ℕ) → i < n → Smaller i) → ballots_read p r printed n ≡ n → Stop n
    stop : (j : ℕ) → j < n → ((i : ℕ) → i < j → Smaller i) → number printed 0 4 ≤ id_of p r j → ballots_read p r printed n ≡ suc j → Stop n

  pub stops : (n : ℕ) → Stop n
  stops zero = none (λ i l. absurd (not-suc-le-zero l)) (reads_all 0 (λ i l. absurd (not-suc-le-zero l)))
  stops (suc n) = go (stops n) (below (id_of p r n) (number printed 0 4)) refl
    where
      go : Stop n → (b : Bool) → below (id_of p r n) (number printed 0 4) ≡ b → Stop (suc n)
      go (none h e) true t = let all = last_or {P = Smaller} n h ((below_iff (id_of p r n) (number printed 0 4)).0 t) in none all (reads_all (suc n) all)
      go (none h e) false t = let s = (below_fails (id_of p r n) (number printed 0 4)).0 t in stop n (le_refl (suc n)) h s (reads_to (suc n) n (le_refl (suc n)) h s)
      go (stop j l h s e) b t = let k : j < suc n = omega arith in stop j k h s (reads_to (suc n) j k h s)

  pub reads_most : (n : ℕ) → ballots_read p r printed n ≤ n
  reads_most n = elim (stops n) [ none h e ↦ omega arith | stop j l h s e ↦ omega arith ]

  -- ballots whose id is not the one sought change no answer
  pub among_past : (m n : ℕ) → m ≤ n → ((i : ℕ) → m ≤ i → i < n → id_of p r i ≢ number printed 0 4) → receipt_among p r printed n ≡ receipt_among p r printed m
  unfolding receipt_among
  among_past m zero l h = let e : m ≡ 0 = omega arith in rw e
  among_past m (suc n) l h = go (eq-or-lt_of_le l) (λ k. among_past m n (le_of_suc-le-suc k) (λ i a b. h i a (omega arith)))
    where
      go : (m ≡ suc n) ⊎ (m < suc n) → (m < suc n → receipt_among p r printed n ≡ receipt_among p r printed m) → receipt_among p r printed (suc n) ≡ receipt_among p r printed m
      go (inl e) ih = ap (receipt_among p r printed) (sym e)
      go (inr k) ih = let t : equal (id_of p r n) (number printed 0 4) ≡ false = not_equal (h n (le_of_suc-le-suc k) (le_refl (suc n))) in rw t (ih k)

-- ---- beside the receipt check

-- a fault in front decides; where there is none, what is found behind it
same_then : (a b c : Found) → number_of (a then b) ≢ 0 → (b ≢ Nothing → c ≡ b) → a then c ≡ a then b
unfolding ◌then◌ number_of
same_then Nothing b c ne h = h (λ e. ne (ap number_of e))
same_then (Fault k at) b c ne h = refl

module _ (r printed : List ℕ) where
  -- how many ballots are read of this record
  abbrev pub read_of : ℕ
  read_of = ballots_read (parameters_of r) r printed (parameters_of r).ballots

  -- "Up to that ballot's last byte it refuses as the check does": what it refuses, the check refuses by the same number
  pub refused_alike : lookup_refusal r printed ≢ 0 → receipt_refusal r printed ≡ lookup_refusal r printed
  unfolding lookup_refusal receipt_refusal ballot_faults rule
  refused_alike ne = go (equal (length printed) 32) ne
    where
      go : (b : Bool) → rule 18 b (number_of (found false (parameters_of r) r First then first (λ j. found false (parameters_of r) r (Ballot j)) read_of)) ≢ 0
          → rule 18 b (number_of (found false (parameters_of r) r First then first (λ j. found false (parameters_of r) r (Ballot j)) (parameters_of r).ballots))
          ≡ rule 18 b (number_of (found false (parameters_of r) r First then first (λ j. found false (parameters_of r) r (Ballot j)) read_of))
      go true ne =
          ap number_of
          (same_then _ _ _ ne (first_prefix (λ j. found false (parameters_of r) r (Ballot j)) read_of (parameters_of r).ballots (reads_most (parameters_of r) r printed (parameters_of r).ballots)))
      go false ne = refl

  pub unrefused_too : receipt_refusal r printed ≡ 0 → lookup_refusal r printed ≡ 0
  unrefused_too e = go (ℕ_discrete (lookup_refusal r printed) 0)
    where
      go : Dec (lookup_refusal r printed ≡ 0) → lookup_refusal r printed ≡ 0
      go (yes z) = z
      go (no ne) = absurd (ne (sym (refused_alike ne) ∙ e))

  -- "Where parameters and ballots are well formed, it gives the same answer as the reading of all ballots, also for an id above the last."
  pub answers_alike : Checkable r printed → looked_up r printed ≡ receipt_checked r printed
  unfolding looked_up receipt_checked
  answers_alike c =
      let e : receipt_refusal r printed ≡ 0 = (checkable_iff r printed).1 c in
      let f : lookup_refusal r printed ≡ 0 = unrefused_too e in
      ap₂ answer_of (f ∙ sym e) (among (stops (parameters_of r) r printed (parameters_of r).ballots))
    where
      among : Stop (parameters_of r) r printed (parameters_of r).ballots → receipt_among (parameters_of r) r printed read_of ≡ receipt_among (parameters_of r) r printed (parameters_of r).ballots
      among (none h e) = ap (receipt_among (parameters_of r) r printed) e
      among (stop j l h s e) =
          ap (receipt_among (parameters_of r) r printed) e
          ∙ sym (among_past (parameters_of r) r printed (suc j) (parameters_of r).ballots l (λ i a b same. let up = rising (id_of (parameters_of r) r) (parameters_of r).ballots (ids_rise_lem r printed c) j i a b in omega arith))

-- ---- what it depends on

-- two records that are alike up to the last byte of the ballot at which the lookup in the first one stops, or of the last ballot where
-- none stops it; what stands behind differs as it likes
pub record Alike (r s printed : List ℕ) : Type 0 where
  pub long : at_ballot (parameters_of r) (read_of r printed) ≤ length r
  pub long' : at_ballot (parameters_of r) (read_of r printed) ≤ length s
  pub same : take (at_ballot (parameters_of r) (read_of r printed)) r ≡ take (at_ballot (parameters_of r) (read_of r printed)) s

module _ (r s printed : List ℕ) (h : Alike r s printed) where
  abbrev q : Parameters
  q = parameters_of r

  abbrev k : ℕ
  k = read_of r printed

  abbrev end : ℕ
  end = at_ballot (parameters_of r) (read_of r printed)

  byte_alike : (a : ℕ) → a < end → item r a ≡ item s a
  byte_alike a l = sym (get_or-take end r a 0 l) ∙ ap (λ (x : List ℕ). get_or x a 0) h.same ∙ get_or-take end s a 0 l

  parameters_alike : parameters_of s ≡ parameters_of r
  unfolding at_ballot
  parameters_alike = sym (parameters_within r s end h.same (omega arith))

  id_alike : (j : ℕ) → j < k → id_of q s j ≡ id_of q r j
  unfolding id_of at_ballot
  id_alike j l = sym (number_same r s end (first_width q + 197 * j + 1) 4 h.same (omega arith))

  read_alike : ballots_read q s printed q.ballots ≡ k
  read_alike = go (stops q r printed q.ballots)
    where
      go : Stop q r printed q.ballots → ballots_read q s printed q.ballots ≡ k
      go (none f e) = reads_all q s printed q.ballots (λ i l. omega (arith, id_alike i (omega arith), f i l)) ∙ sym e
      go (stop j l f g e) = reads_to q s printed q.ballots j l (λ i m. omega (arith, id_alike i (omega arith), f i m)) (omega (arith, id_alike j (omega arith))) ∙ sym e

  first_fault_alike : fault q s false First ≡ fault q r false First
  unfolding fault_with first_rules at_ballot
  first_fault_alike =
      let a : below 0 (length s) ≡ below 0 (length r) = (below_iff 0 (length s)).1 (omega (arith, h.long')) ∙ sym ((below_iff 0 (length r)).1 (omega (arith, h.long))) in
      let w : ℕ = 0 + first_width q in
      let b : at_most w (length s) ≡ at_most w (length r) = (at_most_iff w (length s)).1 (omega (arith, h.long')) ∙ sym ((at_most_iff w (length r)).1 (omega (arith, h.long))) in
      let c : item s 0 ≡ item r 0 = sym (byte_alike 0 (omega arith)) in
      rw (a, b, c, parameters_alike)

  ballot_fault_alike : (j : ℕ) → j < k → fault q s false (Ballot j) ≡ fault q r false (Ballot j)
  unfolding fault_with ballot_rules at_ballot ◌implies◌
  ballot_fault_alike j l =
      let at : ℕ = first_width q + 197 * j in
      let a : below at (length s) ≡ below at (length r) = (below_iff at (length s)).1 (omega (arith, h.long')) ∙ sym ((below_iff at (length r)).1 (omega (arith, h.long))) in
      let b : at_most (at + 197) (length s) ≡ at_most (at + 197) (length r) = (at_most_iff (at + 197) (length s)).1 (omega (arith, h.long')) ∙ sym ((at_most_iff (at + 197) (length r)).1 (omega (arith, h.long))) in
      let c : item s at ≡ item r at = sym (byte_alike at (omega arith)) in
      rw (a, b, c, id_alike j l, id_alike (j - 1) (omega arith))

  faults_alike : (n : ℕ) → n ≤ k → first (λ j. found false q s (Ballot j)) n ≡ first (λ j. found false q r (Ballot j)) n
  unfolding first found_with
  faults_alike zero l = refl
  faults_alike (suc n) l = ap₂ ◌then◌ (faults_alike n (omega arith)) (ap (located (at_ballot q n)) (ballot_fault_alike n l))

  among_alike : (n : ℕ) → n ≤ k → receipt_among q s printed n ≡ receipt_among q r printed n
  unfolding receipt_among receipt_at at_ballot
  among_alike zero l = refl
  among_alike (suc n) l =
      let a : id_of q s n ≡ id_of q r n = id_alike n l in
      let at : ℕ = first_width q + 197 * n in
      let b : piece s at 197 ≡ piece r at 197 = sym (piece_same r s end at 197 h.same (omega arith)) in
      rw (a, b, among_alike n (omega arith))

  -- the answer is the same, a refusal too
  pub prefix_decides : looked_up s printed ≡ looked_up r printed
  unfolding looked_up lookup_refusal ballot_faults found_with
  prefix_decides =
      rw (parameters_alike, read_alike)
      (ap₂ (λ (f : Found) (x : List ℕ). answer_of (rule 18 (equal (length printed) 32) (number_of f)) x)
      (ap₂ ◌then◌ (ap (located 0) first_fault_alike) (faults_alike k (le_refl k)))
      (among_alike k (le_refl k)))

-- ---- such records there are: whatever stands behind the stop, or nothing

module _ (r printed : List ℕ) (c : Checkable r printed) where
  -- the ballots read are there
  reaches : at_ballot (parameters_of r) (read_of r printed) ≤ length r
  unfolding at_ballot
  reaches = go (read_of r printed) (reads_most (parameters_of r) r printed (parameters_of r).ballots)
    where
      go : (n : ℕ) → n ≤ (parameters_of r).ballots → first_width (parameters_of r) + 197 * n ≤ length r
      go zero l = omega (arith, ((fault_iff false (parameters_of r) r First).0 c.first).1.0)
      go (suc n) l = omega (arith, ((fault_iff false (parameters_of r) r (Ballot n)).0 (c.ballots n l)).1.0)

  -- a record that is cut there, with any bytes behind
  pub whatever_follows : (rest : List ℕ) → looked_up (take (at_ballot (parameters_of r) (read_of r printed)) r ++ rest) printed ≡ receipt_checked r printed
  whatever_follows rest = prefix_decides r (take end r ++ rest) printed alike ∙ answers_alike r printed c
    where
      end : ℕ
      end = at_ballot (parameters_of r) (read_of r printed)

      front : length (take end r) ≡ end
      front = length-take-le end r reaches

      alike : Alike r (take end r ++ rest) printed
      alike = record {
        long = reaches;
        long' = omega (arith, front, length-append (take end r) rest);
        same = sym (take-append-le end (take end r) rest (omega (arith, front)) ∙ take-take end end r (omega arith));
      }
