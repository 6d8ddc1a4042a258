-- Full openings of all lists that are not compared, with the room that they take.
use mathlib.Core.Path.{◌≡◌, sym, ap, ◌∙◌}
use mathlib.Core.Logic.{◌≢◌}
use mathlib.Core.List.{List, []}
use Prim.Native.Nat.{ℕ, suc, ◌+◌, ◌-◌, ◌*◌, ◌≤◌, ◌<◌}
use native.Mathlib.Nat.{le_refl}
use native.Mathlib.Omega.{arith}
use lib.ListN.{length}
use Rattle.laws.specs.Chunks.{chunks, chunks_even, chunks_length, start_clear}
use Rattle.laws.specs.Masks.{bit, clear_before, set_ones, set_clear}
use Rattle.laws.specs.Tests.{choose, choose_clear, choose_set}
use Rattle.laws.specs.Writing.{Went, go_same, room}
use Rattle.protocol.specs.Layout.{lists}
use Rattle.protocol.specs.Record.{full_command}
use Rattle.protocol.specs.Inputs.{Slices, inputs_of}
use Rattle.protocol.specs.Servers.{entry_opening}
use Rattle.mixing.specs.Passed.{Passed}
use Rattle.disclosure.specs.Disclosed.{Shaped}
use Rattle.disclosure.proofs.Openings.{full_long}

-- those of list l, all of them and where the list is not compared
abbrev pub full_of : Slices → ℕ → List ℕ
full_of s l = chunks (λ i. full_command l i (entry_opening (inputs_of s) l i)) s.parameters.ballots

abbrev pub opened_of : Slices → ℕ → ℕ → List ℕ
opened_of s mask l = choose (bit mask l) (full_of s l) []

list_long : (s : Slices) → Passed s → (l : ℕ) → l < lists s.parameters → length (full_of s l) ≡ s.parameters.ballots * 220
list_long s passed l ll = chunks_even _ 220 s.parameters.ballots (λ i li. full_long s passed l i ll li)

-- all of them, and room for those of list l
module _ (s : Slices) (mask : ℕ) (shaped : Shaped s mask) where
  before_list : (l : ℕ) → l ≤ lists s.parameters → length (chunks (opened_of s mask) l) ≡ clear_before mask l * (s.parameters.ballots * 220)
  before_list l h =
      chunks_length (opened_of s mask) l ∙ start_clear mask (s.parameters.ballots * 220) (lists s.parameters) (full_of s) (list_long s shaped.passed) l h

  pub opened_long : length (chunks (opened_of s mask) (lists s.parameters)) ≡ s.parameters.compared * (s.parameters.ballots * 220)
  opened_long =
      let m : ℕ = s.parameters.compared in
      let e : clear_before mask (2 * m) ≡ m = omega (arith, set_ones (2 * m) mask shaped.small, set_clear mask (2 * m), shaped.counted) in
      before_list (2 * m) (le_refl _) ∙ ap (λ (x : ℕ). x * (s.parameters.ballots * 220)) e

  pub opened_room : {before out : List ℕ} {a b l : ℕ} → Went before a (chunks (opened_of s mask) l) out b
      → a + s.parameters.compared * (s.parameters.ballots * 220) ≤ length before → l < lists s.parameters
      → b + (1 - bit mask l) * (s.parameters.ballots * 220) ≤ length out
  opened_room {l} h k i =
      let w : ℕ = s.parameters.ballots * 220 in
      omega (
        arith,
        room (opened_of s mask) l (lists s.parameters) h (omega (arith, opened_long)) i,
        start_clear mask w (lists s.parameters) (full_of s) (list_long s shaped.passed) l (omega arith),
        start_clear mask w (lists s.parameters) (full_of s) (list_long s shaped.passed) (suc l) (omega arith),
      )

-- .. which is all of it, where the bit is clear
pub opened_one : (b a w : ℕ) {m : ℕ} → b ≡ 0 → a + (1 - b) * w ≤ m → a + w ≤ m
opened_one b a w e h = let k = rw e at h in omega arith

-- what a writer that goes by a bit leaves, where the bit is clear and where it is set
module _ {before out : List ℕ} {a r : ℕ} (b : ℕ) (v w : List ℕ) where
  pub when_clear : b ≡ 0 → Went before a v out r → Went before a (choose b v w) out r
  when_clear e h = go_same h (sym (choose_clear b v w e))

  pub when_set : b ≢ 0 → Went before a w out r → Went before a (choose b v w) out r
  when_set e h = go_same h (sym (choose_set b v w e))
