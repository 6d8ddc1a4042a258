-- The bound is reached, for every k up to n, in every election in which all voted alike: by the better of two guesses.
use mathlib.Core.Path.{◌≡◌, sym, ap, ◌∙◌}
use mathlib.Core.Logic.{◌≢◌, ◌⊎◌, inl, inr, ⊎_map}
use mathlib.Core.Bool.{Bool, true}
use mathlib.Core.List.{List}
use Prim.Native.Nat.{ℕ, ◌+◌, ◌-◌, ◌*◌, ◌^◌, ◌≤◌, ◌<◌}
use native.Mathlib.Decide.{dec_lt, dec_le}
use native.Mathlib.Nat.{le_refl, le_of_eq, zero-add}
use native.Mathlib.Omega.{arith}
use lib.Dec.{eqb}
use lib.ListN.{replicate, get_or-replicate}
use borrow.Author.Tests.{eq-eqb, ne_eqb}
use Rattle.laws.specs.Tests.{pick, below, is_below, not_below}
use Rattle.laws.specs.Sums.{one_if, times, sum_same, sum_one}
use Rattle.laws.specs.Subsets.{below_first}
use Rattle.laws.specs.Distances.{distance}
use Rattle.laws.proofs.Distances.{distance_surplus}
use Rattle.protocol.specs.declared.Parameters.{Parameters}
use Rattle.protocol.specs.Terms.{item, election_number, in_limits}
use Rattle.protocol.specs.Layout.{part_one_length}
use Rattle.protocol.specs.Inputs.{Slices, inputs_of, ballot_numbers, list_numbers, list_permutations, ballot_keys, entry_keys}
use Rattle.protocol.specs.Refusals.{all_original}
use Rattle.protocol.specs.Servers.{posted_board}
use Rattle.protocol.specs.Stands.{Original}
use Rattle.protocol.specs.Record.{parameters_of}
use Rattle.protocol.specs.Throws.{Strategy, throws, choices, most_false, accepts_false, Family, Fits, AnswersTwice, Reached}
use Rattle.protocol.proofs.Goodness.{Good}
use Rattle.protocol.proofs.Meetable.{low_mask, low_shaped, good, original}
use Rattle.protocol.proofs.Sizes.{Collision, plain, all_ones, modulus_low, fits, part_one_lem, original_or, one_original}
use Rattle.protocol.proofs.Passing.{its_parameters}
use Rattle.protocol.proofs.Served.{ones_fair}
use Rattle.protocol.proofs.Guessing.{PassesFalsely, others, sides_guessed, mask_guessed}

-- how often a number is in a list of c + r that has it at its first c places, and another one behind
often : (a b c r : ℕ) (f : ℕ → ℕ) → a ≢ b → ((j : ℕ) → j < c → f j ≡ a) → ((j : ℕ) → c ≤ j → j < c + r → f j ≡ b) → times a f (c + r) ≡ c
often a b c r f ne early late =
    sum_same (λ j. one_if (eqb a (f j))) (λ j. one_if (below j c)) (c + r) (λ j l. ap one_if (at j l (dec_lt j c))) ∙ below_first c r
  where
    at : (j : ℕ) → j < c + r → Dec (j < c) → eqb a (f j) ≡ below j c
    at j l (yes k) = eq-eqb a (f j) (sym (early j k)) ∙ sym (is_below k)
    at j l (no k) = ne_eqb a (f j) (λ e. ne (e ∙ late j (omega arith) l)) ∙ sym (not_below (omega arith))

-- lists of which one has it n times and the other n - k times are k apart
apart : (M a n k : ℕ) (f g : ℕ → ℕ) → k ≤ n → a < M → ((j : ℕ) → j < n → f j < M) → times a f n ≡ n → times a g n ≡ n - k → k ≤ distance M f g n
apart M a n k f g lk la low hf hg = omega (arith, distance_surplus M f g n low, sum_one (λ x. times x f n - times x g n) M a la)

module _ (s : Slices) (g : Good (inputs_of s)) (original : Original (posted_board (inputs_of s))) (a b : ℕ) (ne : a ≢ b)
    (alike : (j : ℕ) → j < s.parameters.ballots → item s.votes j ≡ a) (low : b < s.parameters.modulus) where
  abbrev M : ℕ
  M = s.parameters.modulus

  abbrev n : ℕ
  n = s.parameters.ballots

  all_other : List ℕ
  all_other = replicate n b

  other_item : (j : ℕ) → j < n → item all_other j ≡ b
  unfolding all_other
  other_item j lj = get_or-replicate n j b 0 lj

  others_good : Good (inputs_of (others s all_other))
  unfolding inputs_of ballot_numbers list_numbers list_permutations ballot_keys entry_keys
  others_good = record {
    election_fits = g.election_fits;
    modulus_low = g.modulus_low;
    modulus_high = g.modulus_high;
    ballots_low = g.ballots_low;
    ballots_high = g.ballots_high;
    compared_low = g.compared_low;
    compared_high = g.compared_high;
    ids_fit = g.ids_fit;
    ids_rise = g.ids_rise;
    votes_below = λ j lj. rw (other_item j lj) low;
    x_below = g.x_below;
    y_below = g.y_below;
    first_halves_below = g.first_halves_below;
    offsets_below = g.offsets_below;
    entry_first_halves_below = g.entry_first_halves_below;
    permutations = g.permutations;
    ballot_keys = g.ballot_keys;
    entry_keys = g.entry_keys;
  }

  -- the votes cast, but for the last k, which are the other one
  changed : ℕ → ℕ → ℕ
  changed k j = pick (below j (n - k)) a b

  changed_early : (k j : ℕ) → j < n - k → changed k j ≡ a
  unfolding changed
  changed_early k j l = ap (λ (t : Bool). pick t a b) (is_below l)

  changed_late : (k j : ℕ) → n - k ≤ j → changed k j ≡ b
  unfolding changed
  changed_late k j l = ap (λ (t : Bool). pick t a b) (not_below l)

  cast_low : (j : ℕ) → j < n → item s.votes j < M
  unfolding inputs_of
  cast_low = g.votes_below

  changed_far : (k : ℕ) → k ≤ n → k ≤ distance M (item s.votes) (changed k) n
  unfolding inputs_of
  changed_far k lk =
      let e : n ≡ n - k + k = omega arith in
      let z : n ≡ n + 0 = omega arith in
      apart M a n k (item s.votes) (changed k) lk (rw (alike 0 g.ballots_low) at (cast_low 0 g.ballots_low)) cast_low
      (ap (times a (item s.votes)) z ∙ often a b n 0 (item s.votes) ne alike (λ j l m. absurd (omega arith)))
      (ap (times a (changed k)) e ∙ often a b (n - k) k (changed k) ne (changed_early k) (λ j l m. changed_late k j l))

  others_far : (k : ℕ) → k ≤ n → k ≤ distance M (item all_other) (item s.votes) n
  others_far k lk =
      let z : n ≡ n + 0 = omega arith in
      let far : n ≤ distance M (item all_other) (item s.votes) n =
      apart M b n n (item all_other) (item s.votes) (le_refl n) low (λ j lj. rw (other_item j lj) low)
      (ap (times b (item all_other)) z ∙ often b a n 0 (item all_other) (λ e. ne (sym e)) other_item (λ j l m. absurd (omega arith)))
      (ap (times b (item s.votes)) (sym (zero-add n)) ∙ often b a 0 n (item s.votes) (λ e. ne (sym e)) (λ j l. absurd (omega arith)) (λ j l m. alike j (rw (zero-add n) at m)) ∙ omega arith) in
      omega (arith, far)

  -- so many throws pass falsely for every k, by the better of two guesses
  pub reached : (k : ℕ) → k ≤ n → Reached s.parameters k
  unfolding most_false
  reached k lk = go (dec_le (choices s.parameters * 2 ^ (n - k)) (2 ^ n))
    where
      from : {board : List ℕ} {answer : Strategy} {votes : ℕ → ℕ} {count : ℕ} → PassesFalsely s.parameters board answer votes k count → count ≡ most_false s.parameters k → Reached s.parameters k
      from {board} {answer} {votes} t e =
          record { board = board; answer = answer; votes = votes; parameters = t.parameters; family = t.family; fits = t.fits; reached = t.counted ∙ e }

      go : Dec (choices s.parameters * 2 ^ (n - k) ≤ 2 ^ n) → Reached s.parameters k
      go (yes l) =
          let h = low_shaped s.parameters.compared in
          from (mask_guessed s g original (λ mask. all_ones) (λ mask sides. all_ones) (λ mask. ones_fair) (λ mask sides. ones_fair) all_other others_good
          (low_mask s.parameters.compared) h.mask_ones h.mask_below k (others_far k lk)) (omega arith)
      go (no l) =
          from (sides_guessed s g original (λ mask. all_ones) (λ mask sides. all_ones) (λ mask. ones_fair) (λ mask sides. ones_fair) k lk (changed k)
          (λ j lj. changed_early k j lj ∙ sym (alike j (omega arith))) (changed_far k lk)) (omega arith)

-- ---- at every size within the limits, in either form

module _ (p : Parameters) (h : in_limits p ≡ true) (numbered : election_number p.form < 4294967296) where
  plain_reached : all_original (plain p) ≡ true → (k : ℕ) → k ≤ p.ballots → Reached p k
  plain_reached o =
      reached (plain p) (good (plain p) (part_one_length p) (fits p h numbered) (part_one_lem p h numbered o))
      (original (plain p) (part_one_length p) (fits p h numbered) (part_one_lem p h numbered o)) 0 1 (λ e. omega (arith, e))
      (λ j lj. get_or-replicate p.ballots j 0 0 lj) (modulus_low p h numbered)

  pub reached_or : (k : ℕ) → k ≤ p.ballots → Reached p k ⊎ Collision p
  reached_or k lk = ⊎_map (λ o. plain_reached o k lk) (λ c. c) (original_or p h numbered)

  -- of one ballot, without proviso: C throws of 2 C
  pub reached_one : p.ballots ≡ 1 → Reached p 1
  reached_one e = plain_reached (one_original p h numbered e) 1 (le_of_eq (sym e))

  -- so a smaller bound does not hold, even if families that open a commitment in two ways are let off
  pub no_smaller : (k less : ℕ) → k ≤ p.ballots → less < most_false p k
      → ((board : List ℕ) (answer : Strategy) → parameters_of board ≡ p → Family board answer
      → ((votes : ℕ → ℕ) → Fits board answer votes → throws p (accepts_false p answer votes k) ≤ less) ⊎ AnswersTwice board answer)
      → Collision p
  no_smaller k less lk small claim = elim (reached_or k lk) [ inl t ↦ go t (claim t.board t.answer t.parameters t.family) | inr c ↦ c ]
    where
      twice : (t : Reached p k) → AnswersTwice t.board t.answer → Collision p
      twice t o =
          let e : parameters_of (t.answer o.mask₁ o.sides₁) ≡ p =
          its_parameters t.board t.answer t.family o.mask₁ o.sides₁ o.passed₁ ∙ t.parameters in
          record {
            place₁ = o.opened.place;
            place₂ = o.opened.place;
            opening₁ = o.opened.one;
            opening₂ = o.opened.other;
            differ = o.opened.differ;
            same = rw e at (o.opened.one_gives ∙ sym o.opened.other_gives);
          }

      go : (t : Reached p k)
          → ((votes : ℕ → ℕ) → Fits t.board t.answer votes → throws p (accepts_false p t.answer votes k) ≤ less) ⊎ AnswersTwice t.board t.answer
          → Collision p
      go t (inl few) = absurd (omega (arith, small, few t.votes t.fits, t.reached))
      go t (inr o) = twice t o
