-- What honest servers say fits the layout's widths and keeps every rule.
use mathlib.Core.Path.{◌≡◌, refl, sym, ap, ◌∙◌}
use mathlib.Core.List.{List}
use Prim.Native.Nat.{ℕ, suc, ◌+◌, ◌*◌, ◌%◌, ◌^◌, ◌≤◌, ◌<◌}
use native.Mathlib.Omega.{arith}
use lib.Count.{ones}
use lib.ListN.{length, length-append}
use lib.Pow.{pow_mono}
use Rattle.laws.specs.Bytes.{Below, bytes, length_bytes, number_bytes}
use Rattle.laws.specs.Masks.{bits_below}
use Rattle.laws.specs.At.{at_self, at_move, at_right, at_number}
use Rattle.laws.specs.Sums.{times, times_same}
use Rattle.laws.proofs.Permutations.{times_perm}
use Rattle.laws.specs.Tables.{tabulate, length_tabulate, get_tabulate}
use Rattle.laws.specs.Sorting.{count_sort, count_tabulate, times_list, length_sort, sort_sorted, sorted_rises, sort_below}
use Rattle.sha3.proofs.Digest.{sha3_256_length}
use Rattle.protocol.specs.declared.Parameters.{Parameters}
use Rattle.protocol.specs.declared.Place.{Place}
use Rattle.protocol.specs.declared.Place.TheVariants.{InBallot, InEntry}
use Rattle.protocol.specs.Terms.{item, opening, opened, commitment}
use Rattle.protocol.specs.Layout.{lists}
use Rattle.protocol.specs.Stands.{Valid}
use Rattle.protocol.specs.Inputs.{Inputs}
use Rattle.protocol.specs.Servers.{ballot_number, source_of, entry_number, link_position, link_shift, announced, ballot_opening, entry_opening, posted_board, posted_comparison, posted_disclosure}
use Rattle.protocol.proofs.Goodness.{Good}
use Rattle.protocol.proofs.Fitting.{Fits}
use Rattle.protocol.proofs.Mixing.{ballot_below, entry_below, shift_below, source_perm, position_perm, entry_value, first_agree, second_agree}

-- dice, mask and sides, given or drawn, that no writer refuses
pub record Chosen (s : Inputs) (dice₁ dice₂ : List ℕ) (mask : ℕ) (side : ℕ → ℕ) : Type 0 where
  pub first_long : length dice₁ ≡ 30
  pub first_fair : (i : ℕ) → i < 30 → (49 ≤ item dice₁ i) × (item dice₁ i ≤ 54)
  pub second_long : length dice₂ ≡ 30
  pub second_fair : (i : ℕ) → i < 30 → (49 ≤ item dice₂ i) × (item dice₂ i ≤ 54)
  pub mask_ones : ones mask ≡ s.parameters.compared
  pub mask_below : mask < 2 ^ lists s.parameters
  pub sides : (j : ℕ) → j < s.parameters.ballots → side j ≤ 1

-- ---- openings

pub length_commitment : (p : Parameters) (place : Place) (o : List ℕ) → length (commitment p place o) ≡ 32
unfolding commitment
length_commitment p place o = sha3_256_length _

pub length_opening : (key : List ℕ) (x : ℕ) → length key ≡ 32 → length (opening key x) ≡ 36
unfolding opening
length_opening key x e = omega (arith, length-append key (bytes 4 x), length_bytes 4 x)

-- the number in an opening is the one put there
opened_opening : (key : List ℕ) (x : ℕ) → length key ≡ 32 → x < 4294967296 → opened (opening key x) ≡ x
unfolding opened opening
opened_opening key x e h =
    at_number (at_move {b = 32} (omega arith) (at_right key (at_self (bytes 4 x)))) 0 4 (omega (arith, length_bytes 4 x)) ∙ number_bytes 4 x h

module _ (s : Inputs) (g : Good s) where
  length_ballot : (j q : ℕ) → j < s.parameters.ballots → q < 6 → length (ballot_opening s j q) ≡ 36
  unfolding ballot_opening
  length_ballot j q lj lq = length_opening (s.ballot_key j q) (ballot_number s j q) (g.ballot_keys j q lj lq)

  length_entry : (l i q : ℕ) → l < lists s.parameters → i < s.parameters.ballots → q < 6 → length (entry_opening s l i q) ≡ 36
  unfolding entry_opening
  length_entry l i q ll li lq = length_opening (s.entry_key l i q) (entry_number s l i q) (g.entry_keys l i q ll li lq)

  fits_four : (x : ℕ) → x < s.parameters.modulus → x < 4294967296
  fits_four x h = let k : s.parameters.modulus ≤ 4294967295 = g.modulus_high in omega arith

  pub opened_ballot : (j q : ℕ) → j < s.parameters.ballots → q < 6 → opened (ballot_opening s j q) ≡ ballot_number s j q
  unfolding ballot_opening
  opened_ballot j q lj lq =
      opened_opening (s.ballot_key j q) (ballot_number s j q) (g.ballot_keys j q lj lq) (fits_four (ballot_number s j q) (ballot_below s g j q lj lq))

  opened_entry : (l i q : ℕ) → l < lists s.parameters → i < s.parameters.ballots → q < 6 → opened (entry_opening s l i q) ≡ entry_number s l i q
  unfolding entry_opening
  opened_entry l i q ll li lq =
      opened_opening (s.entry_key l i q) (entry_number s l i q) (g.entry_keys l i q ll li lq) (fits_four (entry_number s l i q) (entry_below s g l i q ll li lq))

  -- ---- the announced votes

  length_announced : length (announced s) ≡ s.parameters.ballots
  unfolding announced
  length_announced = length_sort (tabulate s.vote s.parameters.ballots) ∙ length_tabulate s.vote s.parameters.ballots

  announced_below : (i : ℕ) → i < s.parameters.ballots → item (announced s) i < s.parameters.modulus
  unfolding announced
  announced_below i li = sort_below s.parameters.modulus votes small i (rw length_announced li)
    where
      votes : List ℕ
      votes = tabulate s.vote s.parameters.ballots

      small : Below s.parameters.modulus votes
      small j l =
          let lj : j < s.parameters.ballots = rw length_tabulate at l in
          rw (get_tabulate s.vote s.parameters.ballots j lj) (g.votes_below j lj)

  announced_rises : (i : ℕ) → suc i < s.parameters.ballots → item (announced s) i ≤ item (announced s) (suc i)
  unfolding announced
  announced_rises i li = sorted_rises (announced s) (sort_sorted (tabulate s.vote s.parameters.ballots)) i (rw length_announced li)

  -- each number is as often among the votes at a list's places as among those announced
  announced_times : (l : ℕ) → l < lists s.parameters → (x : ℕ)
      → times x (λ i. s.vote (source_of s l i)) s.parameters.ballots ≡ times x (item (announced s)) s.parameters.ballots
  unfolding announced
  announced_times l ll x =
      times_perm x s.vote (source_of s l) s.parameters.ballots (source_perm s g l ll)
      ∙ sym (count_tabulate x s.vote s.parameters.ballots) ∙ sym (count_sort (tabulate s.vote s.parameters.ballots) x)
      ∙ sym (times_list x (announced s)) ∙ ap (λ (k : ℕ). times x (item (announced s)) k) length_announced

  -- ---- sums of the numbers in openings

  value_shown : (l i : ℕ) → l < lists s.parameters → i < s.parameters.ballots
      → (opened (entry_opening s l i 0) + opened (entry_opening s l i 1) + opened (entry_opening s l i 2) + opened (entry_opening s l i 3) + opened (entry_opening s l i 4) + opened (entry_opening s l i 5)) % s.parameters.modulus
      ≡ s.vote (source_of s l i)
  value_shown l i ll li = rw (is 0 (omega arith), is 1 (omega arith), is 2 (omega arith), is 3 (omega arith), is 4 (omega arith), is 5 (omega arith)) (entry_value s g l i ll li)
    where
      is : (q : ℕ) → q < 6 → opened (entry_opening s l i q) ≡ entry_number s l i q
      is q lq = opened_entry l i q ll li lq

  module _ (l j : ℕ) (ll : l < lists s.parameters) (lj : j < s.parameters.ballots) where
    -- the numbers of ballot j, and of the entry that it is linked to
    ballot_is : (q : ℕ) → q < 6 → opened (ballot_opening s j q) ≡ ballot_number s j q
    ballot_is q lq = opened_ballot j q lj lq

    entry_is : (q : ℕ) → q < 6 → opened (entry_opening s l (link_position s l j) q) ≡ entry_number s l (link_position s l j) q
    entry_is q lq = opened_entry l (link_position s l j) q ll ((position_perm s g l ll).below j lj) lq

    first_shown : (opened (ballot_opening s j 0) + opened (ballot_opening s j 2) + opened (ballot_opening s j 4)) % s.parameters.modulus
        ≡ (opened (entry_opening s l (link_position s l j) 0) + opened (entry_opening s l (link_position s l j) 2) + opened (entry_opening s l (link_position s l j) 4) + link_shift s l j) % s.parameters.modulus
    first_shown =
        rw (ballot_is 0 (omega arith), ballot_is 2 (omega arith), ballot_is 4 (omega arith), entry_is 0 (omega arith), entry_is 2 (omega arith), entry_is 4 (omega arith))
        (first_agree s g l j)

    second_shown : (opened (ballot_opening s j 1) + opened (ballot_opening s j 3) + opened (ballot_opening s j 5) + link_shift s l j) % s.parameters.modulus
        ≡ (opened (entry_opening s l (link_position s l j) 1) + opened (entry_opening s l (link_position s l j) 3) + opened (entry_opening s l (link_position s l j) 5)) % s.parameters.modulus
    second_shown =
        rw (ballot_is 1 (omega arith), ballot_is 3 (omega arith), ballot_is 5 (omega arith), entry_is 1 (omega arith), entry_is 3 (omega arith), entry_is 5 (omega arith))
        (second_agree s g l j ll lj)

  -- ---- what is posted

  module _ {dice₁ dice₂ : List ℕ} {mask : ℕ} {side : ℕ → ℕ} (h : Chosen s dice₁ dice₂ mask side) where
    -- the slot that is opened of the pair c
    opened_slot : (j c : ℕ) → j < s.parameters.ballots → c < 3 → 2 * c + side j < 6
    opened_slot j c lj lc = omega (arith, h.sides j lj)

    pub honest_fits : Fits (posted_board s) (posted_comparison s dice₁ mask) (posted_disclosure s dice₂ side)
    unfolding posted_board posted_comparison posted_disclosure
    honest_fits = record {
      election = g.election_fits;
      modulus = omega (arith, g.modulus_high);
      ballots = omega (arith, g.ballots_high);
      compared = omega (arith, g.compared_high);
      ids = g.ids_fit;
      ballot_commitments = λ j q lj lq. length_commitment s.parameters (InBallot (s.id j) q) (ballot_opening s j q);
      entry_commitments = λ l i q ll li lq. length_commitment s.parameters (InEntry l i q) (entry_opening s l i q);
      first_dice = h.first_long;
      mask = omega (arith, h.mask_below, pow_mono {i = lists s.parameters} {j = 24} (omega (arith, g.compared_high)));
      mask_ones = h.mask_ones;
      mask_below = h.mask_below;
      positions = λ l j ll b lj. omega (arith, (position_perm s g l ll).below j lj, g.ballots_high);
      shifts = λ l j ll b lj. fits_four (link_shift s l j) (shift_below s g l j);
      second_dice = h.second_long;
      sides = λ j lj. omega (arith, h.sides j lj);
      ballot_openings = λ j c lj lc. length_ballot j (2 * c + side j) lj (opened_slot j c lj lc);
      list_openings = λ l j c ll b lj lc. length_entry l (link_position s l j) (2 * c + side j) ll ((position_perm s g l ll).below j lj) (opened_slot j c lj lc);
      votes = λ i li. fits_four (item (announced s) i) (announced_below i li);
      full_openings = λ l i q ll b li lq. length_entry l i q ll li lq;
    }

    pub honest_valid : Valid (posted_board s) (posted_comparison s dice₁ mask) (posted_disclosure s dice₂ side)
    unfolding posted_board posted_comparison posted_disclosure
    honest_valid = record {
      modulus_low = g.modulus_low;
      modulus_high = g.modulus_high;
      ballots_low = g.ballots_low;
      ballots_high = g.ballots_high;
      compared_low = g.compared_low;
      compared_high = g.compared_high;
      ids_rise = g.ids_rise;
      first_fair = h.first_fair;
      mask_ones = h.mask_ones;
      mask_bits = bits_below (lists s.parameters) mask h.mask_below;
      positions = λ l ll b. position_perm s g l ll;
      shifts = λ l j ll b lj. shift_below s g l j;
      second_fair = h.second_fair;
      sides = h.sides;
      ballot_numbers = λ j c lj lc. rw (opened_ballot j (2 * c + side j) lj (opened_slot j c lj lc)) (ballot_below s g j (2 * c + side j) lj (opened_slot j c lj lc));
      ballot_opens = λ j c lj lc. refl;
      list_numbers = λ l j c ll b lj lc.
          let li : link_position s l j < s.parameters.ballots = (position_perm s g l ll).below j lj in
          rw (opened_entry l (link_position s l j) (2 * c + side j) ll li (opened_slot j c lj lc)) (entry_below s g l (link_position s l j) (2 * c + side j) ll li (opened_slot j c lj lc));
      list_opens = λ l j c ll b lj lc. refl;
      first_halves_agree = λ l j ll b lj e. rw e (first_shown l j ll lj);
      second_halves_agree = λ l j ll b lj e. rw e (second_shown l j ll lj);
      votes_below = announced_below;
      votes_rise = announced_rises;
      full_numbers = λ l i q ll b li lq. rw (opened_entry l i q ll li lq) (entry_below s g l i q ll li lq);
      full_opens = λ l i q ll b li lq. refl;
      values = λ l ll b x. times_same x s.parameters.ballots (λ i li. value_shown l i ll li) ∙ announced_times l ll x;
    }
