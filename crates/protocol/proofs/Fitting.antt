-- What fits the widths of the layout: what is said can be read again from the bytes that say it.
use mathlib.Core.Path.{◌≡◌}
use Prim.Native.Nat.{ℕ, ◌^◌, ◌<◌}
use lib.Count.{ones}
use lib.ListN.{length}
use Rattle.laws.specs.Masks.{bit}
use Rattle.protocol.specs.Terms.{election_number}
use Rattle.protocol.specs.Layout.{lists}
use Rattle.protocol.specs.Record.{Board, Comparison, Disclosure}

pub record Fits (b : Board) (k : Comparison) (d : Disclosure) : Type 0 where
  pub election : election_number b.parameters.form < 4294967296
  pub modulus : b.parameters.modulus < 4294967296
  pub ballots : b.parameters.ballots < 65536
  pub compared : lists b.parameters < 256
  pub ids : (j : ℕ) → j < b.parameters.ballots → b.id j < 4294967296
  pub ballot_commitments : (j q : ℕ) → j < b.parameters.ballots → q < 6 → length (b.ballot_commitment j q) ≡ 32
  pub entry_commitments : (l i q : ℕ) → l < lists b.parameters → i < b.parameters.ballots → q < 6 → length (b.entry_commitment l i q) ≡ 32
  pub first_dice : length k.dice ≡ 30
  pub mask : k.mask < 4294967296
  pub mask_ones : ones k.mask ≡ b.parameters.compared
  pub mask_below : k.mask < 2 ^ lists b.parameters
  pub positions : (l j : ℕ) → l < lists b.parameters → bit k.mask l ≡ 1 → j < b.parameters.ballots → k.position l j < 65536
  pub shifts : (l j : ℕ) → l < lists b.parameters → bit k.mask l ≡ 1 → j < b.parameters.ballots → k.shift l j < 4294967296
  pub second_dice : length d.dice ≡ 30
  pub sides : (j : ℕ) → j < b.parameters.ballots → d.side j < 256
  pub ballot_openings : (j c : ℕ) → j < b.parameters.ballots → c < 3 → length (d.ballot_opening j c) ≡ 36
  pub list_openings : (l j c : ℕ) → l < lists b.parameters → bit k.mask l ≡ 1 → j < b.parameters.ballots → c < 3 → length (d.list_opening l j c) ≡ 36
  pub votes : (i : ℕ) → i < b.parameters.ballots → d.vote i < 4294967296
  pub full_openings : (l i q : ℕ) → l < lists b.parameters → bit k.mask l ≡ 0 → i < b.parameters.ballots → q < 6 → length (d.full_opening l i q) ≡ 36
