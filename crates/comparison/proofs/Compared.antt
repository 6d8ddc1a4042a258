-- The links of the compared lists: how long they are, that each finds room, and that with the dice before them they are part two.
use mathlib.Core.Path.{◌≡◌, ap, ap₂, ◌∙◌}
use mathlib.Core.Bool.{true}
use mathlib.Core.List.{List, []}
use Prim.Native.Nat.{ℕ, suc, ◌+◌, ◌*◌, ◌≤◌, ◌<◌}
use native.Mathlib.Nat.{le_refl}
use native.Mathlib.Omega.{arith}
use lib.ListN.{length, length-append}
use Rattle.laws.specs.Tests.{choose}
use Rattle.laws.specs.Masks.{bit, set_before, set_ones}
use Rattle.laws.specs.Modular.{minus}
use Rattle.laws.proofs.Permutations.{whence_of}
use Rattle.laws.specs.Chunks.{chunks, start, chunks_length, chunks_even, start_set}
use Rattle.laws.specs.Writing.{Went, go_on, whole, room}
use Rattle.protocol.specs.Layout.{lists, part_two_length}
use Rattle.protocol.specs.Record.{first_dice_command, link_command, part_two}
use Rattle.protocol.specs.Rules.{right_shape}
use Rattle.protocol.specs.Inputs.{Slices, inputs_of}
use Rattle.protocol.specs.Servers.{sum_of_halves, link_position, link_shift, posted_comparison, second_part}
use Rattle.protocol.proofs.Widths.{length_first_dice, length_link}
use Rattle.protocol.proofs.Unrefused.{shape_iff}
use Rattle.mixing.specs.Passed.{Passed}
use Rattle.mixing.proofs.Following.{source_perm}
use Rattle.mixing.proofs.Agreement as agreement

module _ (s : Slices) where
  -- the link of ballot j to list l, and those of all ballots
  abbrev pub link_of : ℕ → ℕ → List ℕ
  link_of l j = link_command l j (link_position (inputs_of s) l j) (link_shift (inputs_of s) l j)

  abbrev pub links_of : ℕ → List ℕ
  links_of l = chunks (link_of l) s.parameters.ballots

  -- a place that a link names is a place
  pub position_low : Passed s → (l j : ℕ) → l < lists s.parameters → j < s.parameters.ballots → link_position (inputs_of s) l j < s.parameters.ballots
  unfolding link_position inputs_of
  position_low t l j ll lj =
      (whence_of _ _ (source_perm (agreement.places s t.tests) ll) j lj).1

  -- what is written of the place that was worked out, and of its shift
  pub link_is : (l j i x : ℕ) → i ≡ link_position (inputs_of s) l j
      → x ≡ minus s.parameters.modulus (sum_of_halves (inputs_of s) ((inputs_of s).first_half j))
      (sum_of_halves (inputs_of s) ((inputs_of s).entry_first_half l i))
      → link_command l j i x ≡ link_of l j
  unfolding link_shift inputs_of
  link_is l j i x e h = ap₂ (link_command l j) e (rw e at h)

  module _ (mask : ℕ) where
    -- those of list l, where it is compared
    abbrev pub compared_links : ℕ → List ℕ
    compared_links l = choose (bit mask l) [] (links_of l)

    links_start : (l : ℕ) → l ≤ lists s.parameters → start compared_links l ≡ set_before mask l * (s.parameters.ballots * 10)
    links_start =
        start_set mask (s.parameters.ballots * 10) (lists s.parameters) links_of (λ l ll. chunks_even (link_of l) 10 s.parameters.ballots (λ j lj. length_link _ _ _ _))

    module _ (shape : right_shape s.parameters.compared mask ≡ true) where
      compared_length : length (chunks compared_links (lists s.parameters)) ≡ s.parameters.compared * (s.parameters.ballots * 10)
      compared_length =
          let (counted, small) = (shape_iff s.parameters.compared mask).0 shape in
          chunks_length compared_links (lists s.parameters) ∙ links_start (lists s.parameters) (le_refl (lists s.parameters))
          ∙ ap (λ (x : ℕ). x * (s.parameters.ballots * 10)) (set_ones (lists s.parameters) mask small ∙ counted)

      pub list_room : {before out : List ℕ} {at b l : ℕ} → l < lists s.parameters → Went before at (chunks compared_links l) out b
          → at + s.parameters.compared * (s.parameters.ballots * 10) ≤ length before → b + bit mask l * (s.parameters.ballots * 10) ≤ length out
      list_room {l} ll h fits =
          omega (arith, room compared_links l (lists s.parameters) h (omega (arith, compared_length)) ll, links_start l (omega arith), links_start (suc l) ll)

      -- the dice and the mask, and the links behind them
      pub part_written : (dice : List ℕ) {out first second : List ℕ} {a r : ℕ} → length dice ≡ 30 → length out ≡ part_two_length s.parameters
          → Went out 0 (first_dice_command dice mask) first a → Went first a (chunks compared_links (lists s.parameters)) second r → second ≡ second_part s dice mask
      unfolding second_part part_two posted_comparison inputs_of
      part_written dice is30 long f g =
          whole (go_on f g).wrote
          (omega (arith, length-append (first_dice_command dice mask) (chunks compared_links (lists s.parameters)), length_first_dice dice mask is30, compared_length, long))
