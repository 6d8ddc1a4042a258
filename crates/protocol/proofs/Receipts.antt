-- What each answer of the receipt check means, for all records; and its answers on a record that begins with a part one written from
-- inputs that are not refused.
use mathlib.Core.Path.{◌≡◌, refl, sym, ap, ◌∙◌}
use mathlib.Core.Logic.Iff
use mathlib.Core.Logic.{◌↔◌, ◌≢◌, ◌⊎◌, inl, inr}
use mathlib.Core.Bool.{true, false}
use mathlib.Core.List.{List, ◌++◌, List-discrete}
use Prim.Native.Nat.{ℕ, zero, suc, ◌≤◌, ◌<◌}
use native.Mathlib.Nat.{not-suc-le-zero, eq-or-lt_of_le, le_of_suc-le-suc, le_refl}
use native.Mathlib.Decide.{ℕ_discrete}
use native.Mathlib.Omega.{arith}
use lib.ListN.{length, length-append}
use Rattle.laws.specs.Search.{find}
use Rattle.laws.specs.Tests.{equal, same, pick, is_equal, not_equal, equal_iff, same_iff, same_fails, never}
use Rattle.laws.specs.Faults.{number_of, ◌then◌, rule_kept, rules, Numbered, numbered}
use Rattle.laws.specs.Bytes.{number, bytes, length_bytes, number_left, number_bytes}
use Rattle.laws.specs.Chunks.{piece}
use Rattle.laws.specs.At.{At, at_left, at_whole, at_move, at_right, at_self}
use Rattle.laws.specs.Faults.{Found, Nothing}
use Rattle.sha3.specs.Sha3.{sha3_224}
use Rattle.sha3.proofs.Digest.{sha3_224_length}
use Rattle.protocol.specs.declared.Parameters.{Parameters}
use Rattle.protocol.specs.declared.Due.TheVariants.{First, Ballot}
use Rattle.protocol.specs.Answers.{Answer, done, refused, answer_of, as_printed, otherwise, not_posted}
use Rattle.protocol.specs.Terms.{item}
use Rattle.protocol.specs.Tablet.{ballot_command, receipt}
use Rattle.protocol.specs.Layout.{at_ballot, at_first_dice}
use Rattle.protocol.specs.Record.{first_command, parameters_of, id_of}
use Rattle.protocol.specs.Rules.{fault}
use Rattle.protocol.specs.Judging.{found, found_with, ballot_faults}
use Rattle.protocol.specs.Inputs.{Slices, inputs_of}
use Rattle.protocol.specs.Refusals.{part_one_refusal}
use Rattle.protocol.specs.Servers.{posted_board, first_part}
use Rattle.protocol.specs.Results.{receipt_at, receipt_among, receipt_refusal, receipt_checked}
use Rattle.protocol.proofs.Goodness.{FourBytes, Good}
use Rattle.protocol.proofs.Honesty.{length_commitment}
use Rattle.protocol.proofs.Unrefused.{unrefused, good_inputs}
use Rattle.protocol.proofs.Operands.{reads_byte, reads_number, reads_first, reads_parameters, ballot_id_lem}
use Rattle.protocol.proofs.Locating.{length_part_one, first_in}
use Rattle.protocol.proofs.Lengths.{first_inside, ballot_inside}
use Rattle.protocol.proofs.Tested.{fault_iff, first_tests, ballot_tests}
use Rattle.protocol.proofs.Tablets.{tablet, tablet_is, tablet_at, length_tablet, length_receipt}

-- ---- answers

-- an answer has the values of one of the three only
first_value : Answer → ℕ
first_value (done values) = item values 0
first_value (refused k) = k

one_value : {a : Answer} {v w : List ℕ} → a ≡ done v → a ≡ done w → item v 0 ≡ item w 0
unfolding first_value
one_value p q = ap first_value (sym p ∙ q)

-- where there are values no rule is broken
pub number_done : (k : ℕ) (v w : List ℕ) → answer_of k v ≡ done w → k ≡ 0
unfolding answer_of
number_done zero v w e = refl
number_done (suc k) v w e = cc

-- ---- the search among the ballots

-- what rises step by step rises
pub rising : (f : ℕ → ℕ) (n : ℕ) → ((j : ℕ) → suc j < n → f j < f (suc j)) → (i j : ℕ) → i < j → j < n → f i < f j
rising f n h i zero l k = absurd (not-suc-le-zero l)
rising f n h i (suc j) l k = go (eq-or-lt_of_le (le_of_suc-le-suc l)) (λ m. rising f n h i j m (omega arith))
  where
    go : (i ≡ j) ⊎ (i < j) → (i < j → f i < f j) → f i < f (suc j)
    go (inl e) ih = rw e (h j k)
    go (inr m) ih = omega (arith, ih m, h j k)

module _ (p : Parameters) (r printed : List ℕ) where
  -- the ballot with the printed id decides; ids that rise name one ballot
  among_at : (n : ℕ) → ((j : ℕ) → suc j < n → id_of p r j < id_of p r (suc j)) → (j : ℕ) → j < n → id_of p r j ≡ number printed 0 4
      → receipt_among p r printed n ≡ receipt_at p r printed j
  unfolding receipt_among
  among_at zero h j l e = absurd (not-suc-le-zero l)
  among_at (suc n) h j l e = go (eq-or-lt_of_le (le_of_suc-le-suc l)) (λ k. among_at n (λ i li. h i (omega arith)) j k e)
    where
      go : (j ≡ n) ⊎ (j < n) → (j < n → receipt_among p r printed n ≡ receipt_at p r printed j)
          → pick (equal (id_of p r n) (number printed 0 4)) (receipt_at p r printed n) (receipt_among p r printed n) ≡ receipt_at p r printed j
      go (inl q) ih = let t : equal (id_of p r n) (number printed 0 4) ≡ true = is_equal (rw q at e) in rw (t, q)
      go (inr k) ih =
          let up : id_of p r j < id_of p r n = rising (id_of p r) (suc n) h j n k (le_refl (suc n)) in
          let t : equal (id_of p r n) (number printed 0 4) ≡ false = not_equal (omega arith) in
          rw t (ih k)

  pub among_none : (n : ℕ) → ((j : ℕ) → j < n → id_of p r j ≢ number printed 0 4) → receipt_among p r printed n ≡ not_posted
  unfolding receipt_among
  among_none zero h = refl
  among_none (suc n) h =
      let t : equal (id_of p r n) (number printed 0 4) ≡ false = not_equal (h n (le_refl (suc n))) in
      rw t (among_none n (λ j l. h j (omega arith)))

  -- of one ballot: the printed hash is that of its posted command, or it is not
  at_same_hash : (j : ℕ) → piece printed 4 28 ≡ sha3_224 (piece r (at_ballot p j) 197) → receipt_at p r printed j ≡ as_printed
  unfolding receipt_at
  at_same_hash j e = let t = (same_iff (piece printed 4 28) (sha3_224 (piece r (at_ballot p j) 197))).1 e in rw t

  at_other_hash : (j : ℕ) → piece printed 4 28 ≢ sha3_224 (piece r (at_ballot p j) 197) → receipt_at p r printed j ≡ otherwise
  unfolding receipt_at
  at_other_hash j ne = let t = (same_fails (piece printed 4 28) (sha3_224 (piece r (at_ballot p j) 197))).1 ne in rw t

-- ---- what the answers mean

-- a receipt of 32 bytes, and a record whose parameters and ballots have no fault
pub record Checkable (r printed : List ℕ) : Type 0 where
  pub long : length printed ≡ 32
  pub first : fault (parameters_of r) r false First ≡ 0
  pub ballots : (j : ℕ) → j < (parameters_of r).ballots → fault (parameters_of r) r false (Ballot j) ≡ 0

-- ballot j has the printed id
pub record HasId (r printed : List ℕ) (j : ℕ) : Type 0 where
  pub below : j < (parameters_of r).ballots
  pub id : id_of (parameters_of r) r j ≡ number printed 0 4

-- the SHA3-224 of the posted command of ballot j, 197 bytes
abbrev pub posted_hash : List ℕ → ℕ → List ℕ
posted_hash r j = sha3_224 (piece r (at_ballot (parameters_of r) j) 197)

module _ (r printed : List ℕ) where
  faults : Found
  faults = found false (parameters_of r) r First then ballot_faults false (parameters_of r) r (parameters_of r).ballots

  faults_numbered : Numbered faults
  unfolding faults ballot_faults found_with
  faults_numbered = search numbered depth 12

  faults_iff : (faults ≡ Nothing)
      ↔ ((fault (parameters_of r) r false First ≡ 0) × ((j : ℕ) → j < (parameters_of r).ballots → fault (parameters_of r) r false (Ballot j) ≡ 0))
  unfolding faults ballot_faults found_with
  faults_iff = simp rules Iff.rfl

  -- "tests its receipt's length (18), then 1 to 5 as the judge"
  pub checkable_iff : (receipt_refusal r printed ≡ 0) ↔ Checkable r printed
  unfolding receipt_refusal faults number_of
  checkable_iff = (
    λ e.
        let t = (rule_kept 18 (equal (length printed) 32) (number_of faults) refl).0 e in
        let h = faults_iff.0 (faults_numbered.nothing t.1) in
        record { long = (equal_iff (length printed) 32).0 t.0; first = h.0; ballots = h.1 },
    λ c.
        let h : faults ≡ Nothing = faults_iff.1 (c.first, c.ballots) in
        (rule_kept 18 (equal (length printed) 32) (number_of faults) refl).1 ((equal_iff (length printed) 32).1 c.long, ap number_of h),
  )

  pub ids_rise_lem : Checkable r printed → (j : ℕ) → suc j < (parameters_of r).ballots → id_of (parameters_of r) r j < id_of (parameters_of r) r (suc j)
  ids_rise_lem c j l =
      let p = parameters_of r in
      ((ballot_tests false p r false (suc j)).0 ((fault_iff false p r (Ballot (suc j))).0 (c.ballots (suc j) l)).1.1).0 j refl

  -- where nothing is refused the search answers
  answers : Checkable r printed → receipt_checked r printed ≡ done (receipt_among (parameters_of r) r printed (parameters_of r).ballots)
  unfolding receipt_checked answer_of
  answers c = let z : receipt_refusal r printed ≡ 0 = checkable_iff.1 c in rw z

  is_as_printed : Checkable r printed → (j : ℕ) → HasId r printed j → piece printed 4 28 ≡ posted_hash r j → receipt_checked r printed ≡ done as_printed
  is_as_printed c j n e = answers c ∙ ap done (among_at (parameters_of r) r printed (parameters_of r).ballots (ids_rise_lem c) j n.below n.id ∙ at_same_hash (parameters_of r) r printed j e)

  is_otherwise : Checkable r printed → (j : ℕ) → HasId r printed j → piece printed 4 28 ≢ posted_hash r j → receipt_checked r printed ≡ done otherwise
  is_otherwise c j n e = answers c ∙ ap done (among_at (parameters_of r) r printed (parameters_of r).ballots (ids_rise_lem c) j n.below n.id ∙ at_other_hash (parameters_of r) r printed j e)

  is_not_posted : Checkable r printed → ((j : ℕ) → j < (parameters_of r).ballots → id_of (parameters_of r) r j ≢ number printed 0 4) → receipt_checked r printed ≡ done not_posted
  is_not_posted c h = answers c ∙ ap done (among_none (parameters_of r) r printed (parameters_of r).ballots h)

  -- no ballot has the printed id
  abbrev pub Unnamed : Type 0
  Unnamed = (j : ℕ) → j < (parameters_of r).ballots → id_of (parameters_of r) r j ≢ number printed 0 4

  -- a ballot has it, and the printed hash; a ballot has it, and another hash
  abbrev pub SameHash : Type 0
  SameHash = (j : ℕ) × (HasId r printed j × (piece printed 4 28 ≡ posted_hash r j))

  abbrev pub OtherHash : Type 0
  OtherHash = (j : ℕ) × (HasId r printed j × (piece printed 4 28 ≢ posted_hash r j))

  -- one of the three, with its answer
  abbrev Outcome : Type 0
  Outcome =
      ((receipt_checked r printed ≡ done as_printed) × SameHash)
      ⊎ (((receipt_checked r printed ≡ done otherwise) × OtherHash) ⊎ ((receipt_checked r printed ≡ done not_posted) × Unnamed))

  outcome : Checkable r printed → Outcome
  outcome c = go (find {P = λ j. id_of (parameters_of r) r j ≢ number printed 0 4} {Q = λ j. id_of (parameters_of r) r j ≡ number printed 0 4} (parameters_of r).ballots (λ j l. no_or (ℕ_discrete (id_of (parameters_of r) r j) (number printed 0 4))))
    where
      no_or : {A : Type 0} → Dec A → (¬ A) ⊎ A
      no_or (yes a) = inr a
      no_or (no f) = inl f

      at : (j : ℕ) → HasId r printed j → Dec (piece printed 4 28 ≡ posted_hash r j) → Outcome
      at j n (yes e) = inl (is_as_printed c j n e, (j, (n, e)))
      at j n (no ne) = inr (inl (is_otherwise c j n ne, (j, (n, ne))))

      go : Unnamed ⊎ ((j : ℕ) × (j < (parameters_of r).ballots) × (id_of (parameters_of r) r j ≡ number printed 0 4)) → Outcome
      go (inl h) = inr (inr (is_not_posted c h, h))
      go (inr (j, l, e)) = at j record { below = l; id = e } (List-discrete ℕ_discrete (piece printed 4 28) (posted_hash r j))

  -- a refusal is none of the three answers
  checkable : (values : List ℕ) → receipt_checked r printed ≡ done values → Checkable r printed
  unfolding receipt_checked
  checkable values e = checkable_iff.0 (number_done (receipt_refusal r printed) _ values e)

  -- posted as printed: a ballot has the printed id, and its posted command the printed hash
  pub as_printed_iff : (receipt_checked r printed ≡ done as_printed) ↔ (Checkable r printed × SameHash)
  as_printed_iff = (
    λ e.
        let c = checkable as_printed e in
        (c, elim (outcome c) [ inl t ↦ t.1 | inr (inl t) ↦ absurd (omega (arith, one_value e t.0)) | inr (inr t) ↦ absurd (omega (arith, one_value e t.0)) ]),
    λ t. is_as_printed t.0 t.1.0 t.1.1.0 t.1.1.1,
  )

  -- posted otherwise: a ballot has the printed id, and its posted command another hash
  pub otherwise_iff : (receipt_checked r printed ≡ done otherwise) ↔ (Checkable r printed × OtherHash)
  otherwise_iff = (
    λ e.
        let c = checkable otherwise e in
        (c, elim (outcome c) [ inl t ↦ absurd (omega (arith, one_value e t.0)) | inr (inl t) ↦ t.1 | inr (inr t) ↦ absurd (omega (arith, one_value e t.0)) ]),
    λ t. is_otherwise t.0 t.1.0 t.1.1.0 t.1.1.1,
  )

  -- not posted: no ballot has the printed id
  pub not_posted_iff : (receipt_checked r printed ≡ done not_posted) ↔ (Checkable r printed × Unnamed)
  not_posted_iff = (
    λ e.
        let c = checkable not_posted e in
        (c, elim (outcome c) [ inl t ↦ absurd (omega (arith, one_value e t.0)) | inr (inl t) ↦ absurd (omega (arith, one_value e t.0)) | inr (inr t) ↦ t.1 ]),
    λ t. is_not_posted t.0 t.1,
  )

-- ---- records that begin with a part one

-- what a receipt says
pub receipt_id : (id : ℕ) (command : List ℕ) → id < 4294967296 → number (receipt id command) 0 4 ≡ id
unfolding receipt
receipt_id id command h = number_left (bytes 4 id) (sha3_224 command) 0 4 (omega (arith, length_bytes 4 id)) ∙ number_bytes 4 id h

pub receipt_hash : (id : ℕ) (command : List ℕ) → piece (receipt id command) 4 28 ≡ sha3_224 command
unfolding receipt
receipt_hash id command = at_whole 4 28 (sha3_224_length command) (at_move (omega (arith, length_bytes 4 id)) (at_right (bytes 4 id) (at_self (sha3_224 command))))

-- part one, written from inputs that are not refused, with any bytes behind it
module _ (s : Slices) (out_long : ℕ) (unrefusing : part_one_refusal s out_long ≡ 0) (fit : FourBytes s) (rest : List ℕ) where
  good : Good (inputs_of s)
  unfolding part_one_refusal
  good = good_inputs s (unrefused s _ _ _ _ unrefusing) fit

  first_at : At (first_part s ++ rest) 0 (first_command (inputs_of s).parameters)
  unfolding first_part posted_board
  first_at = at_left rest (first_in (posted_board (inputs_of s)) (λ j q lj lq. length_commitment _ _ _) (λ l i q ll li lq. length_commitment _ _ _))

  ballot_at : (j : ℕ) → j < (inputs_of s).parameters.ballots → At (first_part s ++ rest) (at_ballot (inputs_of s).parameters j) (tablet s j)
  ballot_at j lj = at_left rest (tablet_at s j lj)

  pub begins_parameters : parameters_of (first_part s ++ rest) ≡ (inputs_of s).parameters
  begins_parameters =
      reads_parameters (inputs_of s).parameters first_at good.election_fits
      (omega (arith, good.modulus_high)) (omega (arith, good.ballots_high)) (omega (arith, good.compared_high))

  pub begins_id : (j : ℕ) → j < (inputs_of s).parameters.ballots → id_of (inputs_of s).parameters (first_part s ++ rest) j ≡ (inputs_of s).id j
  unfolding id_of posted_board
  begins_id j lj = reads_number 4 ((inputs_of s).id j) (rw (tablet_is s j) at (ballot_at j lj)) (ballot_id_lem _ _) (good.ids_fit j lj)

  pub begins_command : (j : ℕ) → j < (inputs_of s).parameters.ballots → piece (first_part s ++ rest) (at_ballot (inputs_of s).parameters j) 197 ≡ tablet s j
  begins_command j lj = at_whole (at_ballot (inputs_of s).parameters j) 197 (length_tablet s j) (ballot_at j lj)

  long : at_first_dice (inputs_of s).parameters ≤ length (first_part s ++ rest)
  unfolding first_part posted_board
  long =
      omega (
        arith,
        length-append (first_part s) rest,
        length_part_one (posted_board (inputs_of s)) (λ j q lj lq. length_commitment _ _ _) (λ l i q ll li lq. length_commitment _ _ _),
      )

  first_ok : fault (inputs_of s).parameters (first_part s ++ rest) false First ≡ 0
  first_ok =
      let r = first_part s ++ rest in
      let p = (inputs_of s).parameters in
      (fault_iff false p r First).1 (
        reads_first p first_at,
        (
          omega (arith, first_inside p, long),
          (first_tests false p r).1 (rw begins_parameters ((good.modulus_low, good.modulus_high), ((good.ballots_low, good.ballots_high), (good.compared_low, good.compared_high)))),
        ),
      )

  ballot_ok : (j : ℕ) → j < (inputs_of s).parameters.ballots → fault (inputs_of s).parameters (first_part s ++ rest) false (Ballot j) ≡ 0
  unfolding ballot_command
  ballot_ok j lj =
      let r = first_part s ++ rest in
      let p = (inputs_of s).parameters in
      (fault_iff false p r (Ballot j)).1 (
        reads_byte 2 (rw (tablet_is s j) at (ballot_at j lj)),
        (omega (arith, ballot_inside p j lj, long), (ballot_tests false p r false j).1 (λ i e. rw (← e) (rises i (rw (← e) at lj)), λ e. absurd (never e refl))),
      )
    where
      rises : (i : ℕ) → suc i < (inputs_of s).parameters.ballots → id_of (inputs_of s).parameters (first_part s ++ rest) i < id_of (inputs_of s).parameters (first_part s ++ rest) (suc i)
      rises i l = rw (begins_id i (omega arith), begins_id (suc i) l) (good.ids_rise i l)

  pub begins_checkable : (printed : List ℕ) → length printed ≡ 32 → Checkable (first_part s ++ rest) printed
  begins_checkable printed h = record { long = h; first = rw begins_parameters first_ok; ballots = rw begins_parameters ballot_ok }

  -- ballot j's id
  begins_named : (printed : List ℕ) (j : ℕ) → j < (inputs_of s).parameters.ballots → number printed 0 4 ≡ (inputs_of s).id j → HasId (first_part s ++ rest) printed j
  begins_named printed j lj e = record { below = rw begins_parameters lj; id = rw begins_parameters (begins_id j lj ∙ sym e) }

  begins_hash : (j : ℕ) → j < (inputs_of s).parameters.ballots → posted_hash (first_part s ++ rest) j ≡ sha3_224 (tablet s j)
  begins_hash j lj = rw begins_parameters (ap sha3_224 (begins_command j lj))

  -- the receipt that ballot j's tablet printed
  pub receipt_as_printed : (j : ℕ) → j < (inputs_of s).parameters.ballots → receipt_checked (first_part s ++ rest) (receipt ((inputs_of s).id j) (tablet s j)) ≡ done as_printed
  receipt_as_printed j lj =
      is_as_printed (first_part s ++ rest) (receipt ((inputs_of s).id j) (tablet s j)) (begins_checkable (receipt ((inputs_of s).id j) (tablet s j)) (length_receipt ((inputs_of s).id j) (tablet s j))) j
      (begins_named _ j lj (receipt_id ((inputs_of s).id j) (tablet s j) (good.ids_fit j lj)))
      (receipt_hash ((inputs_of s).id j) (tablet s j) ∙ sym (begins_hash j lj))

  -- the same id with any other hash
  pub receipt_otherwise : (printed : List ℕ) (j : ℕ) → length printed ≡ 32 → j < (inputs_of s).parameters.ballots
      → number printed 0 4 ≡ (inputs_of s).id j → piece printed 4 28 ≢ sha3_224 (tablet s j) → receipt_checked (first_part s ++ rest) printed ≡ done otherwise
  receipt_otherwise printed j h lj e ne =
      is_otherwise (first_part s ++ rest) printed (begins_checkable printed h) j (begins_named printed j lj e) (λ q. ne (q ∙ begins_hash j lj))

  -- an id that no ballot has
  pub receipt_not_posted : (printed : List ℕ) → length printed ≡ 32 → ((j : ℕ) → j < (inputs_of s).parameters.ballots → (inputs_of s).id j ≢ number printed 0 4)
      → receipt_checked (first_part s ++ rest) printed ≡ done not_posted
  receipt_not_posted printed h ne =
      is_not_posted (first_part s ++ rest) printed (begins_checkable printed h) (rw begins_parameters (λ j lj e. ne j lj (sym (begins_id j lj) ∙ e)))
