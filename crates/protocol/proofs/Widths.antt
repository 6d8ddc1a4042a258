-- The length of each command, as written and by the layout.
use mathlib.Core.Path.{◌≡◌, refl, ap}
use mathlib.Core.List.{List, ◌∷◌, ◌++◌}
use Prim.Native.Nat.{ℕ, suc, ◌+◌, ◌*◌, ◌<◌}
use native.Mathlib.Omega.{arith}
use lib.ListN.{length, length-append}
use Rattle.laws.specs.Bytes.{bytes, length_bytes}
use Rattle.laws.specs.Chunks.{chunks, chunks_even}
use Rattle.laws.specs.Masks.{set_before}
use Rattle.protocol.specs.declared.Form.{Form}
use Rattle.protocol.specs.declared.Form.TheVariants.{Unnumbered, Numbered}
use Rattle.protocol.specs.declared.Parameters.{Parameters}
use Rattle.protocol.specs.declared.Due.{Due}
use Rattle.protocol.specs.declared.Due.TheVariants.{First, Ballot, Entry, FirstDice, Link, SecondDice, BallotHalf, ListHalf, Vote, FullOpening, End}
use Rattle.protocol.specs.Tablet.{ballot_command}
use Rattle.protocol.specs.Layout.{number_width, first_width, width, at_ballot, at_entry, at_link, at_ballot_half, at_list_half, at_vote, at_full_opening, record_length}
use Rattle.protocol.specs.Record.{mask_of, link_place, list_half_place, full_place, form_bytes, first_command, entry_command, first_dice_command, link_command, second_dice_command, ballot_half_command, list_half_command, vote_command, full_command}
use Rattle.protocol.specs.Rules.{place_of}

-- a head of h bytes and n pieces of w
joined : (head : List ℕ) (f : ℕ → List ℕ) (h w n : ℕ) → length head ≡ h → ((j : ℕ) → j < n → length (f j) ≡ w) → length (head ++ chunks f n) ≡ h + n * w
joined head f h w n e wide = omega (arith, length-append head (chunks f n), chunks_even f w n wide)

-- the first command's byte, and the election's number
pub length_form : (form : Form) → length (form_bytes form) ≡ 1 + number_width form
unfolding form_bytes number_width
length_form Unnumbered = refl
length_form (Numbered election) = ap (λ (k : ℕ). suc k) (length_bytes 4 election)

pub length_first : (p : Parameters) → length (first_command p) ≡ first_width p
unfolding first_command
length_first p = simp (length-append, length_bytes, length_form) (omega arith)

pub length_ballot : (id : ℕ) (c : ℕ → List ℕ) → ((q : ℕ) → q < 6 → length (c q) ≡ 32) → length (ballot_command id c) ≡ 197
unfolding ballot_command
length_ballot id c wide = joined (2 ∷ bytes 4 id) c 5 32 6 (simp length_bytes) wide

pub length_entry : (l i : ℕ) (c : ℕ → List ℕ) → ((q : ℕ) → q < 6 → length (c q) ≡ 32) → length (entry_command l i c) ≡ 196
unfolding entry_command
length_entry l i c wide = joined ((3 ∷ bytes 1 l) ++ bytes 2 i) c 4 32 6 (simp (length-append, length_bytes)) wide

pub length_first_dice : (dice : List ℕ) (mask : ℕ) → length dice ≡ 30 → length (first_dice_command dice mask) ≡ 35
unfolding first_dice_command
length_first_dice dice mask h = simp (length-append, length_bytes) (omega arith)

pub length_link : (l j position t : ℕ) → length (link_command l j position t) ≡ 10
unfolding link_command
length_link l j position t = simp (length-append, length_bytes)

pub length_second_dice : (dice : List ℕ) → length dice ≡ 30 → length (second_dice_command dice) ≡ 31
unfolding second_dice_command
length_second_dice dice h = omega arith

pub length_ballot_half : (j side : ℕ) (o : ℕ → List ℕ) → ((c : ℕ) → c < 3 → length (o c) ≡ 36) → length (ballot_half_command j side o) ≡ 112
unfolding ballot_half_command
length_ballot_half j side o wide = joined ((7 ∷ bytes 2 j) ++ bytes 1 side) o 4 36 3 (simp (length-append, length_bytes)) wide

pub length_list_half : (l position : ℕ) (o : ℕ → List ℕ) → ((c : ℕ) → c < 3 → length (o c) ≡ 36) → length (list_half_command l position o) ≡ 112
unfolding list_half_command
length_list_half l position o wide = joined ((8 ∷ bytes 1 l) ++ bytes 2 position) o 4 36 3 (simp (length-append, length_bytes)) wide

pub length_vote : (i vote : ℕ) → length (vote_command i vote) ≡ 7
unfolding vote_command
length_vote i vote = simp (length-append, length_bytes)

pub length_full : (l i : ℕ) (o : ℕ → List ℕ) → ((q : ℕ) → q < 6 → length (o q) ≡ 36) → length (full_command l i o) ≡ 220
unfolding full_command
length_full l i o wide = joined ((10 ∷ bytes 1 l) ++ bytes 2 i) o 4 36 6 (simp (length-append, length_bytes)) wide

-- ---- no gap: a command ends where the next one starts, in its row or in the row behind. No proof needs it; it stands to refuse a wrong width.

module _ (p : Parameters) (r : List ℕ) where
  unfoldable pub next_place : Due → ℕ
  next_place First = at_ballot p 0
  next_place (Ballot j) = at_ballot p (suc j)
  next_place (Entry l i) = at_entry p l (suc i)
  next_place FirstDice = at_link p 0 0
  next_place (Link l j) = link_place p r l (suc j)
  next_place SecondDice = at_ballot_half p 0
  next_place (BallotHalf j) = at_list_half p j 0
  next_place (ListHalf l j) = at_list_half p j (suc (set_before (mask_of p r) l))
  next_place (Vote i) = at_vote p (suc i)
  next_place (FullOpening l i) = full_place p r l (suc i)
  next_place End = record_length p

  pub no_gap : (d : Due) → place_of p r d + width p d ≡ next_place d
  unfolding next_place at_ballot at_entry at_link at_ballot_half at_list_half at_vote at_full_opening link_place list_half_place full_place
  no_gap First = omega arith
  no_gap (Ballot j) = omega arith
  no_gap (Entry l i) = omega arith
  no_gap FirstDice = omega arith
  no_gap (Link l j) = omega arith
  no_gap SecondDice = omega arith
  no_gap (BallotHalf j) = omega arith
  no_gap (ListHalf l j) = omega arith
  no_gap (Vote i) = omega arith
  no_gap (FullOpening l i) = omega arith
  no_gap End = omega arith
