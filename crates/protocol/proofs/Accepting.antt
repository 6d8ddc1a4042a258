-- What judging accepts is exactly what stands; as drawn, what stands and is drawn.
use mathlib.Core.Path.{◌≡◌, refl, sym, ◌∙◌}
use mathlib.Core.Logic.{◌↔◌, ◌≢◌}
use mathlib.Core.Bool.{Bool, true, false}
use mathlib.Core.List.{List}
use Prim.Native.Nat.{ℕ, suc, ◌+◌, ◌-◌, ◌≤◌, ◌<◌}
use native.Mathlib.Nat.{le_of_eq}
use native.Mathlib.Omega.{arith}
use lib.ListN.{length}
use Rattle.laws.specs.Masks.{bit, bit_small, bits_iff}
use Rattle.laws.specs.Permutations.{Perm}
use Rattle.laws.proofs.Permutations.{perm_of}
use Rattle.laws.specs.Tests.{never}
use Rattle.protocol.specs.declared.Due.{Due}
use Rattle.protocol.specs.declared.Due.TheVariants.{First, Ballot, Entry, FirstDice, Link, SecondDice, BallotHalf, ListHalf, Vote, FullOpening, End}
use Rattle.protocol.specs.Answers.{accepted}
use Rattle.protocol.specs.Terms.{item}
use Rattle.protocol.specs.Layout.{code, width, lists, at_end, record_length}
use Rattle.protocol.specs.Record.{parameters_of, mask_of, position_of, shift_of, side_of, board_of, comparison_of, disclosure_of}
use Rattle.protocol.specs.Rules.{ballot_rules, rules as rules_of, place_of, fault}
use Rattle.protocol.specs.Judging.{judged, judged_with}
use Rattle.protocol.specs.Stands.{Laid, Valid, Original, Stands, Drawn}
use Rattle.protocol.proofs.Lengths.{record_length_lem}
use Rattle.protocol.proofs.Within.{Shaped, laid_shaped, first_within, ballot_within, entry_within, first_dice_within, link_within, second_dice_within, ballot_half_within, list_half_within, vote_within, full_within, end_within}
use Rattle.protocol.proofs.Faultless.{Faultless, accepted_iff, judged_with_lem}
use Rattle.protocol.proofs.Tested.{fault_with_iff, fault_iff, first_tests, ballot_tests, entry_tests, first_dice_tests, link_tests, second_dice_tests, ballot_half_tests, list_half_tests, vote_tests, full_tests}

-- a bit that is not 0 is 1
set_differs : (b : ℕ) → b ≡ 1 → b ≢ 0
set_differs b e z = omega arith

differs_set : (b : ℕ) → b < 2 → b ≢ 0 → b ≡ 1
differs_set b h ne = omega arith

-- the last of n indices
last : (n : ℕ) → 1 ≤ n → n - 1 < n
last n h = omega arith

last_next : (n : ℕ) → 1 ≤ n → n - 1 + 1 ≡ n
last_next n h = omega arith

-- ---- nothing is found: the record stands

module _ (copies drawn : Bool) (r : List ℕ) (k : Faultless copies drawn (parameters_of r) r) where
  kept : (d : Due) → fault (parameters_of r) r drawn d ≡ 0 → rules_of (parameters_of r) r drawn d ≡ 0
  kept d e = ((fault_iff drawn (parameters_of r) r d).0 e).1.1

  ballot_kept : (j : ℕ) → j < (parameters_of r).ballots → ballot_rules (parameters_of r) r copies j ≡ 0
  ballot_kept j lj = ((fault_with_iff drawn (parameters_of r) r copies (Ballot j)).0 (k.ballots j lj)).1.1

  link_kept : (l j : ℕ) → l < lists (parameters_of r) → bit (mask_of (parameters_of r) r) l ≡ 1 → j < (parameters_of r).ballots
      → rules_of (parameters_of r) r drawn (Link l j) ≡ 0
  link_kept l j ll b lj = kept (Link l j) (k.links l ll (set_differs _ b) j lj)

  list_half_kept : (l j : ℕ) → l < lists (parameters_of r) → bit (mask_of (parameters_of r) r) l ≡ 1 → j < (parameters_of r).ballots
      → rules_of (parameters_of r) r drawn (ListHalf l j) ≡ 0
  list_half_kept l j ll b lj = kept (ListHalf l j) ((k.halves j lj).1 l ll (set_differs _ b))

  full_kept : (l i : ℕ) → l < lists (parameters_of r) → bit (mask_of (parameters_of r) r) l ≡ 0 → i < (parameters_of r).ballots
      → rules_of (parameters_of r) r drawn (FullOpening l i) ≡ 0
  full_kept l i ll b li = kept (FullOpening l i) (k.full_openings l ll b i li)

  side_low : (j : ℕ) → j < (parameters_of r).ballots → side_of (parameters_of r) r j ≤ 1
  side_low j lj = ((ballot_half_tests drawn (parameters_of r) r j).0 (kept (BallotHalf j) (k.halves j lj).0)).1.1.0

  shift_low : (l j : ℕ) → l < lists (parameters_of r) → bit (mask_of (parameters_of r) r) l ≡ 1 → j < (parameters_of r).ballots
      → shift_of (parameters_of r) r l j < (parameters_of r).modulus
  shift_low l j ll b lj = ((link_tests drawn (parameters_of r) r l j).0 (link_kept l j ll b lj)).1.1.1.1

  laid : Laid (parameters_of r) r
  laid =
      let p = parameters_of r in
      record {
        long =
            let high : length r ≤ record_length p = k.trailing in
            let low : at_end p + 1 ≤ length r = ((fault_iff drawn p r End).0 k.end).1.0 in
            let e : length r ≡ record_length p = omega arith in
            e ∙ record_length_lem p;
        first = ((fault_iff drawn p r First).0 k.first).0;
        ballots = λ j lj. ((fault_with_iff drawn p r copies (Ballot j)).0 (k.ballots j lj)).0;
        entries = λ l i ll li. let h = (fault_iff drawn p r (Entry l i)).0 (k.entries l ll i li) in (h.0, (entry_tests drawn p r l i).0 h.1.1);
        first_dice = ((fault_iff drawn p r FirstDice).0 k.first_dice).0;
        links = λ l j ll b lj.
            let h = (fault_iff drawn p r (Link l j)).0 (k.links l ll (set_differs _ b) j lj) in
            let t = (link_tests drawn p r l j).0 h.1.1 in
            (h.0, (t.0, t.1.0));
        second_dice = ((fault_iff drawn p r SecondDice).0 k.second_dice).0;
        ballot_halves = λ j lj.
            let h = (fault_iff drawn p r (BallotHalf j)).0 (k.halves j lj).0 in
            (h.0, ((ballot_half_tests drawn p r j).0 h.1.1).0);
        list_halves = λ l j ll b lj.
            let h = (fault_iff drawn p r (ListHalf l j)).0 ((k.halves j lj).1 l ll (set_differs _ b)) in
            let t = (list_half_tests drawn p r l j (side_low j lj) (shift_low l j ll b lj)).0 h.1.1 in
            (h.0, (t.0, t.1.0));
        votes = λ i li. let h = (fault_iff drawn p r (Vote i)).0 (k.votes i li) in (h.0, ((vote_tests drawn p r i).0 h.1.1).0);
        full_openings = λ l i ll b li.
            let h = (fault_iff drawn p r (FullOpening l i)).0 (k.full_openings l ll b i li) in
            let t = (full_tests drawn p r l i).0 h.1.1 in
            (h.0, (t.0, t.1.0));
        end = ((fault_iff drawn p r End).0 k.end).0;
      }

  valid : Valid (board_of r) (comparison_of r) (disclosure_of r)
  valid =
      let p = parameters_of r in
      let limits = (first_tests drawn p r).0 (kept First k.first) in
      let dice = (first_dice_tests drawn p r).0 (kept FirstDice k.first_dice) in
      record {
        modulus_low = limits.0.0;
        modulus_high = limits.0.1;
        ballots_low = limits.1.0.0;
        ballots_high = limits.1.0.1;
        compared_low = limits.1.1.0;
        compared_high = limits.1.1.1;
        ids_rise = λ j lj. ((ballot_tests drawn p r copies (suc j)).0 (ballot_kept (suc j) lj)).0 j refl;
        first_fair = dice.0;
        mask_ones = dice.1.0.0;
        mask_bits = (bits_iff (lists p) (mask_of p r)).0 dice.1.0.1;
        positions = λ l ll b. perm_of p.ballots (position_of p r l) (λ j lj. ((link_tests drawn p r l j).0 (link_kept l j ll b lj)).1.1.0) (λ j lj. ((link_tests drawn p r l j).0 (link_kept l j ll b lj)).1.1.1.0);
        shifts = shift_low;
        second_fair = (second_dice_tests drawn p r).0 (kept SecondDice k.second_dice);
        sides = side_low;
        ballot_numbers = λ j c lj. ((ballot_half_tests drawn p r j).0 (kept (BallotHalf j) (k.halves j lj).0)).1.0 c;
        ballot_opens = λ j c lj. ((ballot_half_tests drawn p r j).0 (kept (BallotHalf j) (k.halves j lj).0)).1.1.1.1 c;
        list_numbers = λ l j c ll b lj. ((list_half_tests drawn p r l j (side_low j lj) (shift_low l j ll b lj)).0 (list_half_kept l j ll b lj)).1.1.0 c;
        list_opens = λ l j c ll b lj. ((list_half_tests drawn p r l j (side_low j lj) (shift_low l j ll b lj)).0 (list_half_kept l j ll b lj)).1.1.1.0 c;
        first_halves_agree = λ l j ll b lj. ((list_half_tests drawn p r l j (side_low j lj) (shift_low l j ll b lj)).0 (list_half_kept l j ll b lj)).1.1.1.1.0;
        second_halves_agree = λ l j ll b lj. ((list_half_tests drawn p r l j (side_low j lj) (shift_low l j ll b lj)).0 (list_half_kept l j ll b lj)).1.1.1.1.1;
        votes_below = λ i li. ((vote_tests drawn p r i).0 (kept (Vote i) (k.votes i li))).1.0;
        votes_rise = λ i li. ((vote_tests drawn p r (suc i)).0 (kept (Vote (suc i)) (k.votes (suc i) li))).1.1 i refl;
        full_numbers = λ l i q ll b li. ((full_tests drawn p r l i).0 (full_kept l i ll b li)).1.1.0 q;
        full_opens = λ l i q ll b li. ((full_tests drawn p r l i).0 (full_kept l i ll b li)).1.1.1.0 q;
        values = λ l ll b. ((full_tests drawn p r l (p.ballots - 1)).0 (full_kept l (p.ballots - 1) ll b (last p.ballots limits.1.0.0))).1.1.1.1 (last_next p.ballots limits.1.0.0);
      }

  original : copies ≡ true → Original (board_of r)
  original e = record { apart = λ i j s t li lj ls lt. ((ballot_tests drawn (parameters_of r) r copies j).0 (ballot_kept j lj)).1 e i li s ls t lt }

  are_drawn : drawn ≡ true → Drawn (parameters_of r) r
  are_drawn e =
      let p = parameters_of r in
      record {
        mask = ((first_dice_tests drawn p r).0 (kept FirstDice k.first_dice)).1.1 e;
        sides = λ j lj. ((ballot_half_tests drawn p r j).0 (kept (BallotHalf j) (k.halves j lj).0)).1.1.1.0 e;
      }

-- ---- the record stands: nothing is found

-- all places differ: each from those before it
apart_before : {n : ℕ} {f : ℕ → ℕ} → Perm n f → (j : ℕ) → j < n → (i : ℕ) → i < j → f i ≢ f j
apart_before h j lj i li e = let z : i ≡ j = h.apart i j (omega arith) lj e in omega arith

module _ (copies drawn : Bool) (r : List ℕ) (due : Laid (parameters_of r) r) (v : Valid (board_of r) (comparison_of r) (disclosure_of r))
    (originals : copies ≡ true → Original (board_of r)) (are : drawn ≡ true → Drawn (parameters_of r) r) where
  -- a command that stands where it is due and lies inside of the record
  faultless_at : (d : Due) → item r (place_of (parameters_of r) r d) ≡ code (parameters_of r) d → place_of (parameters_of r) r d + width (parameters_of r) d ≤ length r
      → rules_of (parameters_of r) r drawn d ≡ 0 → fault (parameters_of r) r drawn d ≡ 0
  faultless_at d byte whole ok = (fault_iff drawn (parameters_of r) r d).1 (byte, (whole, ok))

  shaped : Shaped (parameters_of r) r
  shaped = laid_shaped due v

  set_at : (l : ℕ) → bit (mask_of (parameters_of r) r) l ≢ 0 → bit (mask_of (parameters_of r) r) l ≡ 1
  set_at l = differs_set (bit (mask_of (parameters_of r) r) l) (bit_small (mask_of (parameters_of r) r) l)

  link_ok : (l j : ℕ) → l < lists (parameters_of r) → bit (mask_of (parameters_of r) r) l ≡ 1 → j < (parameters_of r).ballots → fault (parameters_of r) r drawn (Link l j) ≡ 0
  link_ok l j ll b lj =
      let p = parameters_of r in
      let t = due.links l j ll b lj in
      let h = v.positions l ll b in
      faultless_at (Link l j) t.0 (link_within shaped l j ll b lj)
      ((link_tests drawn p r l j).1 (t.1.0, (t.1.1, (h.below j lj, (apart_before h j lj, v.shifts l j ll b lj)))))

  ballot_half_ok : (j : ℕ) → j < (parameters_of r).ballots → fault (parameters_of r) r drawn (BallotHalf j) ≡ 0
  ballot_half_ok j lj =
      let p = parameters_of r in
      let t = due.ballot_halves j lj in
      faultless_at (BallotHalf j) t.0 (ballot_half_within shaped j lj)
      ((ballot_half_tests drawn p r j).1 (t.1, (λ c lc. v.ballot_numbers j c lj lc, (v.sides j lj, (λ e. (are e).sides j lj, λ c lc. v.ballot_opens j c lj lc)))))

  list_half_ok : (l j : ℕ) → l < lists (parameters_of r) → bit (mask_of (parameters_of r) r) l ≡ 1 → j < (parameters_of r).ballots → fault (parameters_of r) r drawn (ListHalf l j) ≡ 0
  list_half_ok l j ll b lj =
      let p = parameters_of r in
      let t = due.list_halves l j ll b lj in
      faultless_at (ListHalf l j) t.0 (list_half_within shaped l j ll b lj)
      ((list_half_tests drawn p r l j (v.sides j lj) (v.shifts l j ll b lj)).1 (
        t.1.0,
        (
          t.1.1,
          (
            λ c lc. v.list_numbers l j c ll b lj lc,
            (λ c lc. v.list_opens l j c ll b lj lc, (v.first_halves_agree l j ll b lj, v.second_halves_agree l j ll b lj)),
          ),
        ),
      ))

  vote_ok : (i : ℕ) → i < (parameters_of r).ballots → fault (parameters_of r) r drawn (Vote i) ≡ 0
  vote_ok i li =
      let p = parameters_of r in
      let t = due.votes i li in
      faultless_at (Vote i) t.0 (vote_within shaped i li)
      ((vote_tests drawn p r i).1 (t.1, (v.votes_below i li, λ h e. rw (← e) (v.votes_rise h (rw (← e) at li)))))

  full_ok : (l i : ℕ) → l < lists (parameters_of r) → bit (mask_of (parameters_of r) r) l ≡ 0 → i < (parameters_of r).ballots → fault (parameters_of r) r drawn (FullOpening l i) ≡ 0
  full_ok l i ll b li =
      let p = parameters_of r in
      let t = due.full_openings l i ll b li in
      faultless_at (FullOpening l i) t.0 (full_within shaped l i ll b li)
      ((full_tests drawn p r l i).1
      (t.1.0, (t.1.1, (λ q lq. v.full_numbers l i q ll b li lq, (λ q lq. v.full_opens l i q ll b li lq, λ e. v.values l ll b)))))

  faultless : Faultless copies drawn (parameters_of r) r
  faultless =
      let p = parameters_of r in
      record {
        first =
            faultless_at First due.first (omega (arith, first_within shaped))
            ((first_tests drawn p r).1 ((v.modulus_low, v.modulus_high), ((v.ballots_low, v.ballots_high), (v.compared_low, v.compared_high))));
        ballots = λ j lj.
            (fault_with_iff drawn p r copies (Ballot j)).1 (
              due.ballots j lj,
              (
                ballot_within shaped j lj,
                (ballot_tests drawn p r copies j).1 (
                  λ i e. rw (← e) (v.ids_rise i (rw (← e) at lj)),
                  λ e i li a la b lb. (originals e).apart i j a b li lj la lb,
                ),
              ),
            );
        entries = λ l ll i li.
            faultless_at (Entry l i) (due.entries l i ll li).0 (entry_within shaped l i ll li)
            ((entry_tests drawn p r l i).1 (due.entries l i ll li).1);
        first_dice =
            faultless_at FirstDice due.first_dice (first_dice_within shaped)
            ((first_dice_tests drawn p r).1 (v.first_fair, ((v.mask_ones, shaped.mask_below), λ e. (are e).mask)));
        links = λ l ll b j lj. link_ok l j ll (set_at l b) lj;
        second_dice =
            faultless_at SecondDice due.second_dice (second_dice_within shaped) ((second_dice_tests drawn p r).1 v.second_fair);
        halves = λ j lj. (ballot_half_ok j lj, λ l ll b. list_half_ok l j ll (set_at l b) lj);
        votes = vote_ok;
        full_openings = λ l ll b i li. full_ok l i ll b li;
        end = faultless_at End due.end (end_within shaped) refl;
        trailing = le_of_eq shaped.long;
      }

-- ---- both ways

-- with or without rule 21
pub accepts_with_iff : (copies : Bool) (r : List ℕ)
    → (judged_with copies false r ≡ accepted) ↔ (Laid (parameters_of r) r × (Valid (board_of r) (comparison_of r) (disclosure_of r) × (copies ≡ true → Original (board_of r))))
accepts_with_iff copies r = (
  λ e. let k = (accepted_iff copies false r).0 e in (laid copies false r k, (valid copies false r k, original copies false r k)),
  λ s. (accepted_iff copies false r).1 (faultless copies false r s.0 s.1.0 s.1.1 (λ e. absurd (never e refl))),
)

pub accepts_iff : (r : List ℕ) → (judged false r ≡ accepted) ↔ Stands r
accepts_iff r = (
  λ e. let t = (accepts_with_iff true r).0 (sym (judged_with_lem false r) ∙ e) in record { laid = t.0; valid = t.1.0; original = t.1.1 refl },
  λ s. judged_with_lem false r ∙ (accepts_with_iff true r).1 (s.laid, (s.valid, λ e. s.original)),
)

pub accepts_drawn_iff : (r : List ℕ) → (judged true r ≡ accepted) ↔ (Stands r × Drawn (parameters_of r) r)
accepts_drawn_iff r = (
  λ e.
      let k = (accepted_iff true true r).0 (sym (judged_with_lem true r) ∙ e) in
      (record { laid = laid true true r k; valid = valid true true r k; original = original true true r k refl }, are_drawn true true r k refl),
  λ t. judged_with_lem true r ∙ (accepted_iff true true r).1 (faultless true true r t.0.laid t.0.valid (λ e. t.0.original) (λ e. t.1)),
)
