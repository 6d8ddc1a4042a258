-- There is an election of either form and of every size within the limits: for all M, n and m in them there are inputs that no call refuses, and so a record
-- that drawn judging accepts, as long as these parameters say, and three records as soundness supposes them. With 4,096 ballots and 24 lists
-- it has 37,371,979 bytes, or 4 more with an election's number. That no two of these ballots share a commitment (rule 21) rests on SHA3-256,
-- and no one has a proof of it for several ballots: if two do, then two different openings with one commitment are shown. One ballot needs
-- no such proviso.
use mathlib.Core.Path.{◌≡◌, refl, sym, ap, ◌∙◌}
use mathlib.Core.Logic.{◌≢◌, ◌⊎◌, inl, inr, ⊎_map}
use mathlib.Core.Bool.{Bool, true, false}
use mathlib.Core.List.{List}
use Prim.Native.Nat.{ℕ, zero, suc, ◌+◌, ◌-◌, ◌*◌, ◌/◌, ◌%◌, ◌≤◌, ◌<◌}
use native.Mathlib.Nat.{mul-le-mul_right, add-mul-mod_self_right, mod-eq_of_lt}
use native.Mathlib.Omega.{arith}
use lib.ListN.{length, replicate, length-replicate, get_or-replicate, get_or-append}
use Rattle.laws.specs.Bytes.{Below}
use Rattle.laws.specs.Tests.{equal, at_most, ◌and◌, every, choose, is_equal, unequal_iff}
use Rattle.laws.specs.Faults.{rules}
use Rattle.laws.specs.Chunks.{length_piece, get_piece}
use Rattle.laws.specs.Permutations.{Perm}
use Rattle.laws.specs.Tables.{tabulate, length_tabulate, get_tabulate}
use Rattle.protocol.specs.declared.Form.{Form}
use Rattle.protocol.specs.declared.Parameters.{Parameters}
use Rattle.protocol.specs.declared.Place.{Place}
use Rattle.protocol.specs.declared.Place.TheVariants.{InBallot}
use Rattle.protocol.specs.Answers.{accepted}
use Rattle.protocol.specs.Terms.{parameters, election_number, item, most_ballots, in_limits, modulus_in_limits, ballots_in_limits, lists_in_limits, opening, commitment}
use Rattle.protocol.specs.Layout.{number_width, lists, record_length, part_one_length, part_two_length, part_three_length}
use Rattle.protocol.specs.Record.{parameters_of}
use Rattle.protocol.specs.Rules.{fair_die, fair_dice}
use Rattle.protocol.specs.Judging.{judged}
use Rattle.protocol.specs.Inputs.{Slices, ballot_keys, inputs_of, list_permutations}
use Rattle.protocol.specs.Refusals.{due_lengths, ids_rise, all_permutations, all_original, refusal, part_one_refusal}
use Rattle.protocol.specs.Servers.{ballot_number, ballot_opening, posted_board}
use Rattle.protocol.specs.Election.{drawn, mask_in_shape, sides_due, sides_binary, election_refusal, election_record}
use Rattle.protocol.proofs.Goodness.{FourBytes}
use Rattle.protocol.proofs.Unrefused.{original_iff, tests}
use Rattle.protocol.specs.Demand3.{Triple}
use Rattle.protocol.proofs.Lengths.{record_length_lem}
use Rattle.protocol.proofs.Accepting.{accepts_drawn_iff}
use Rattle.protocol.proofs.Completeness.{written, none_refused, complete_parameters, complete_drawn}
use Rattle.protocol.proofs.Meetable.{low_mask, high_mask, triple}
use Rattle.protocol.proofs.Unfitting.{copied}

-- two different openings with one commitment
pub record Collision (p : Parameters) : Type 0 where
  pub place₁ : Place
  pub place₂ : Place
  pub opening₁ : List ℕ
  pub opening₂ : List ℕ
  pub differ : opening₁ ≢ opening₂
  pub same : commitment p place₁ opening₁ ≡ commitment p place₂ opening₂

-- byte k of the keys: those of ballot or list entry k / 192 say its number, two bytes over and over
unfoldable pub key_byte : ℕ → ℕ
key_byte k = choose (k % 2) (k / 192 / 256 % 256) (k / 192 % 256)

-- ids 0 to n - 1; all votes and numbers 0; no ballot moved; other keys in every ballot
abbrev pub plain : Parameters → Slices
plain p =
    let n = p.ballots in
    let mn = p.compared * p.ballots in
    record {
      parameters = p;
      ids = tabulate (λ j. j) n;
      votes = replicate n 0;
      numbers = replicate (5 * n + 18 * mn) 0;
      permutations = tabulate (λ k. k % n) (6 * mn);
      keys = tabulate key_byte (192 * n + 384 * mn);
    }

abbrev pub all_ones : List ℕ
all_ones = replicate 30 49

pub all_fair : fair_dice all_ones ≡ true
unfolding fair_dice fair_die every at_most ◌and◌
all_fair = refl

module _ (p : Parameters) where
  unmoved : (l c i : ℕ) → l < lists p → c < 3 → i < p.ballots → (inputs_of (plain p)).permutation l c i ≡ i
  unfolding inputs_of list_permutations
  unmoved l c i ll lc li =
      let n : ℕ = p.ballots in
      let at : ℕ = l * (3 * n) in
      let k : ℕ = c * n + i in
      let here : k < 3 * n = omega (arith, mul-le-mul_right {m = suc c} {n = 3} n lc) in
      let there : at + k < 6 * (p.compared * n) = omega (arith, here, mul-le-mul_right {m = suc l} {n = 2 * p.compared} (3 * n) ll) in
      let e : at + k ≡ i + (3 * l + c) * n = omega arith in
      get_piece (plain p).permutations at (3 * n) k here ∙ get_tabulate (λ (x : ℕ). x % n) (6 * (p.compared * n)) (at + k) there
      ∙ ap (λ (x : ℕ). x % n) e ∙ add-mul-mod_self_right i (3 * l + c) n ∙ mod-eq_of_lt li

  permuted : (l : ℕ) → l < lists p → (c : ℕ) → c < 3 → Perm p.ballots ((inputs_of (plain p)).permutation l c)
  permuted l ll c lc = record {
    below = λ i li. rw (unmoved l c i ll lc li) li;
    apart = λ i j li lj e. sym (unmoved l c i ll lc li) ∙ e ∙ unmoved l c j ll lc lj;
  }

  zeros_below : (k : ℕ) → 2 ≤ p.modulus → Below p.modulus (replicate k 0)
  zeros_below k h i l = rw (get_or-replicate {A = ℕ} k i 0 0 (rw (length-replicate {A = ℕ} k 0) at l)) (omega arith)

  -- the keys are bytes
  pub keys_small : Below 256 (plain p).keys
  unfolding key_byte choose
  keys_small k l = rw (get_tabulate key_byte _ k (rw (length_tabulate key_byte (192 * p.ballots + 384 * (p.compared * p.ballots))) at l)) (go (k % 2))
    where
      go : (b : ℕ) → choose b (k / 192 / 256 % 256) (k / 192 % 256) < 256
      go zero = omega arith
      go (suc b) = omega arith

  -- byte i of the key in slot q of ballot j
  key_byte_lem : (j q i : ℕ) → j < p.ballots → q < 6 → i < 32 → item ((inputs_of (plain p)).ballot_key j q) i ≡ key_byte (192 * j + 32 * q + i)
  unfolding inputs_of ballot_keys
  key_byte_lem j q i lj lq li =
      let e : 192 * j + (32 * q + i) ≡ 192 * j + 32 * q + i = omega arith in
      get_piece (ballot_keys (plain p) j) (32 * q) 32 i li ∙ get_piece (plain p).keys (192 * j) 192 (32 * q + i) (omega arith)
      ∙ get_tabulate key_byte _ (192 * j + (32 * q + i)) (omega arith) ∙ ap key_byte e

  key_long : (j q : ℕ) → j < p.ballots → q < 6 → length ((inputs_of (plain p)).ballot_key j q) ≡ 32
  unfolding inputs_of ballot_keys
  key_long j q lj lq =
      let n : ℕ = 192 * p.ballots + 384 * (p.compared * p.ballots) in
      let e : length (ballot_keys (plain p) j) ≡ 192 = length_piece (plain p).keys (192 * j) 192 (rw (length_tabulate key_byte n) (omega arith)) in
      length_piece (ballot_keys (plain p) j) (32 * q) 32 (rw e (omega arith))

  key_high : (j q : ℕ) → j ≤ 4096 → q < 6 → key_byte (192 * j + 32 * q + 0) ≡ j / 256
  unfolding key_byte choose
  key_high j q l lq =
      let e : (192 * j + 32 * q + 0) % 2 ≡ 0 = omega arith in
      let f : (192 * j + 32 * q + 0) / 192 ≡ j = omega arith in
      rw (e, f) (omega arith)

  key_low : (j q : ℕ) → q < 6 → key_byte (192 * j + 32 * q + 1) ≡ j % 256
  unfolding key_byte choose
  key_low j q lq =
      let e : (192 * j + 32 * q + 1) % 2 ≡ 1 = omega arith in
      let f : (192 * j + 32 * q + 1) / 192 ≡ j = omega arith in
      rw (e, f)

  -- mask and sides drawn from dice that all show 1
  abbrev pub plain_record : List ℕ
  plain_record = election_record (plain p) drawn all_ones drawn all_ones

  -- the record with a mask, on one side throughout
  abbrev pub plain_sample : ℕ → ℕ → List ℕ
  plain_sample mask b = written (plain p) all_ones mask all_ones (replicate p.ballots b)

  module _ (h : in_limits p ≡ true) (numbered : election_number p.form < 4294967296) where
    pub modulus_low : 2 ≤ p.modulus
    unfolding in_limits modulus_in_limits ballots_in_limits lists_in_limits
    modulus_low = (simp rules at h).0.0

    ballots_high : p.ballots ≤ most_ballots
    unfolding in_limits modulus_in_limits ballots_in_limits lists_in_limits
    ballots_high = (simp rules at h).1.0.1

    unrefused : {lengths fair shape binary : Bool} → all_original (plain p) ≡ true → lengths ≡ true → fair ≡ true → shape ≡ true → binary ≡ true
        → refusal (plain p) lengths fair shape binary ≡ 0
    unfolding refusal due_lengths ids_rise all_permutations
    unrefused original due dice mask sides =
        let n : ℕ = p.ballots in
        let mn : ℕ = p.compared * p.ballots in
        simp tests (
          h,
          (
            (
              (length_tabulate _ n, (length-replicate {A = ℕ} n 0, (length-replicate {A = ℕ} (5 * n + 18 * mn) 0, (length_tabulate _ (6 * mn), length_tabulate key_byte (192 * n + 384 * mn))))),
              due,
            ),
            (
              rise,
              (dice, (mask, ((zeros_below n modulus_low, zeros_below (5 * n + 18 * mn) modulus_low), (sides, (permuted, (original, refl)))))),
            ),
          ),
        )
      where
        rise : (j : ℕ) → j < p.ballots → equal j 0 ≡ false → item (tabulate (λ i. i) p.ballots) (j - 1) < item (tabulate (λ i. i) p.ballots) j
        rise j l e =
            let ne = (unequal_iff j 0).0 e in
            rw (get_tabulate (λ i. i) p.ballots (j - 1) (omega arith), get_tabulate (λ i. i) p.ballots j l) (omega (arith, ne))

    pub ids_small : Below 4294967296 (plain p).ids
    ids_small i l = rw (get_tabulate (λ j. j) p.ballots i (omega (arith, length_tabulate (λ j. j) p.ballots))) (omega (arith, length_tabulate (λ j. j) p.ballots, ballots_high))

    pub fits : FourBytes (plain p)
    fits = record { ids = ids_small; election = numbered }

    -- ---- where no ballot shares a commitment with an earlier one

    module _ (original : all_original (plain p) ≡ true) where
      pub none_refuses : election_refusal (plain p) drawn all_ones drawn all_ones (part_one_length p) (part_two_length p) (part_three_length p) (record_length p) ≡ 0
      unfolding election_refusal mask_in_shape sides_due sides_binary
      none_refuses = unrefused original (simp rules (refl, (refl, (refl, (refl, (refl, (refl, refl))))))) (simp rules (all_fair, all_fair)) refl refl

      pub accepted_drawn : judged true plain_record ≡ accepted
      accepted_drawn = complete_drawn (plain p) all_ones all_ones fits (none_refused (plain p) drawn all_ones drawn all_ones _ _ _ _ none_refuses)

      pub parameters_are : parameters_of plain_record ≡ p
      parameters_are = complete_parameters (plain p) drawn all_ones drawn all_ones fits (none_refused (plain p) drawn all_ones drawn all_ones _ _ _ _ none_refuses)

      pub long : length plain_record ≡ record_length p
      long = ((accepts_drawn_iff plain_record).0 accepted_drawn).0.laid.long ∙ rw parameters_are (sym (record_length_lem p))

      -- three records as soundness supposes them

      pub part_one_lem : part_one_refusal (plain p) (part_one_length p) ≡ 0
      unfolding part_one_refusal
      part_one_lem = unrefused original (is_equal refl) refl refl refl

      pub three_records : Triple (plain_sample (low_mask p.compared) 0) (plain_sample (low_mask p.compared) 1) (plain_sample (high_mask p.compared) 0)
      three_records = triple (plain p) (part_one_length p) fits part_one_lem

    -- ---- and where one does

    -- different ballots have different openings: their keys differ
    openings_apart : (i j s t : ℕ) → i < j → j < p.ballots → s < 6 → t < 6 → ballot_opening (inputs_of (plain p)) i s ≢ ballot_opening (inputs_of (plain p)) j t
    unfolding ballot_opening opening
    openings_apart i j s t l lj ls lt e = omega (arith, high, low, ballots_high)
      where
        from : (k j q : ℕ) → k < 32 → j < p.ballots → q < 6 → item (opening ((inputs_of (plain p)).ballot_key j q) (ballot_number (inputs_of (plain p)) j q)) k ≡ key_byte (192 * j + 32 * q + k)
        from k j q lk lj lq = get_or-append ((inputs_of (plain p)).ballot_key j q) _ 0 k (rw (key_long j q lj lq) lk) ∙ key_byte_lem j q k lj lq lk

        high : i / 256 ≡ j / 256
        high = sym (from 0 i s (omega arith) (omega arith) ls ∙ key_high i s (omega (arith, ballots_high)) ls) ∙ ap (λ (o : List ℕ). item o 0) e ∙ from 0 j t (omega arith) lj lt ∙ key_high j t (omega (arith, ballots_high)) lt

        low : i % 256 ≡ j % 256
        low = sym (from 1 i s (omega arith) (omega arith) ls ∙ key_low i s ls) ∙ ap (λ (o : List ℕ). item o 1) e ∙ from 1 j t (omega arith) lj lt ∙ key_low j t lt

    pub original_or : (all_original (plain p) ≡ true) ⊎ Collision p
    unfolding posted_board inputs_of
    original_or = go (all_original (plain p)) refl
      where
        go : (b : Bool) → all_original (plain p) ≡ b → (all_original (plain p) ≡ true) ⊎ Collision p
        go true e = inl e
        go false e =
            let (i, j, s, t, l, lj, ls, lt, q) = (copied (plain p)).0 e in
            inr record {
              place₁ = InBallot (item (plain p).ids i) s;
              place₂ = InBallot (item (plain p).ids j) t;
              opening₁ = ballot_opening (inputs_of (plain p)) i s;
              opening₂ = ballot_opening (inputs_of (plain p)) j t;
              differ = openings_apart i j s t l lj ls lt;
              same = q;
            }

    -- an election of this size is accepted, and there are three records of it as soundness supposes them
    pub accepted_or : (judged true plain_record ≡ accepted) ⊎ Collision p
    accepted_or = ⊎_map accepted_drawn (λ c. c) original_or

    pub three_or : Triple (plain_sample (low_mask p.compared) 0) (plain_sample (low_mask p.compared) 1) (plain_sample (high_mask p.compared) 0) ⊎ Collision p
    three_or = ⊎_map three_records (λ c. c) original_or

    -- of one ballot, without proviso
    pub one_original : p.ballots ≡ 1 → all_original (plain p) ≡ true
    unfolding posted_board inputs_of
    one_original e = (original_iff (plain p)).1 (record { apart = λ i j s t l lj. absurd (omega arith) })

-- as many ballots and lists as there may be, in either form and with any modulus
pub most_stands : (form : Form) (M : ℕ) → election_number form < 4294967296 → 2 ≤ M → M ≤ 4294967295
    → ((r : List ℕ) × (judged true r ≡ accepted) × (parameters_of r ≡ parameters form M 4096 12) × (length r ≡ 37371979 + number_width form))
    ⊎ Collision (parameters form M 4096 12)
unfolding in_limits modulus_in_limits ballots_in_limits lists_in_limits
most_stands form M numbered low high =
    let p = parameters form M 4096 12 in
    let h : in_limits p ≡ true = simp rules ((low, high), ((omega arith, omega arith), (omega arith, omega arith))) in
    ⊎_map
    (λ o. (plain_record p, accepted_drawn p h numbered o, parameters_are p h numbered o, omega (arith, long p h numbered o, record_length_lem p)))
    (λ c. c) (original_or p h numbered)
