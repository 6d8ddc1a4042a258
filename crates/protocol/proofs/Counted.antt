-- Three proofs over one board, two of them with the same comparison: the third announces what the ballots commit, or shows another
-- opening of an entry than one of the two does.
use mathlib.Core.Path.{◌≡◌, sym, ◌∙◌}
use mathlib.Core.Logic.{◌⊎◌, inl, inr, ◌≢◌}
use mathlib.Core.List.{List, List-discrete}
use Prim.Native.Nat.{ℕ, zero, suc, ◌+◌, ◌*◌, ◌%◌, ◌^◌, ◌≤◌, ◌<◌}
use native.Mathlib.Nat.{le_of_eq}
use native.Mathlib.Decide.{ℕ_discrete}
use native.Mathlib.Omega.{arith}
use Rattle.laws.specs.Masks.{bit, Only, only, below_bits, set_before, set_ones, set_lt}
use Rattle.laws.proofs.Permutations.{times_perm}
use Rattle.laws.specs.Search.{all_or, ◌>>=◌}
use Rattle.laws.specs.Sums.{times, times_same}
use Rattle.protocol.specs.Terms.{Scheme}
use Rattle.protocol.specs.Layout.{lists}
use Rattle.protocol.specs.Record.{Board, Comparison, Disclosure}
use Rattle.protocol.specs.Stands.{ValidOver}
use Rattle.protocol.proofs.Committed.{six, both, both_one, both_other, Half, total}

-- ---- the mask

lt_pow : (x : ℕ) → x < 2 ^ x
lt_pow zero = omega arith
lt_pow (suc x) = omega (arith, lt_pow x)

pub mask_below : {commit : Scheme} {b : Board} {k : Comparison} {d : Disclosure} → ValidOver commit b k d → k.mask < 2 ^ lists b.parameters
mask_below {commit} {b} {k} v = below_bits k.mask (lists b.parameters) k.mask (lt_pow k.mask) v.mask_bits

-- fewer than m compared lists come before a compared list
pub rank_below : {commit : Scheme} {b : Board} {k : Comparison} {d : Disclosure} → ValidOver commit b k d → (l : ℕ) → l < lists b.parameters → bit k.mask l ≡ 1
    → set_before k.mask l < b.parameters.compared
rank_below {commit} {b} {k} v l ll set =
    let m : ℕ = lists b.parameters in
    let low : set_before k.mask l < set_before k.mask m = set_lt m k.mask l ll set in
    let all : set_before k.mask m ≡ b.parameters.compared = set_ones m k.mask (mask_below v) ∙ v.mask_ones in
    rw all at low

-- ---- an entry's opening

-- list l is compared by d and opened by d₃, and at the position of ballot j they show two openings
pub record Clash (b : Board) (k : Comparison) (d : Disclosure) (k₃ : Comparison) (d₃ : Disclosure) : Type 0 where
  pub list : ℕ
  pub ballot : ℕ
  pub slot : ℕ
  pub list_in : list < lists b.parameters
  pub set : bit k.mask list ≡ 1
  pub clear : bit k₃.mask list ≡ 0
  pub ballot_in : ballot < b.parameters.ballots
  pub slot_in : slot < 3
  pub differ : d.list_opening list ballot slot ≢ d₃.full_opening list (k.position list ballot) (2 * slot + d.side ballot)

-- every opening of list l that d shows is the one that d₃ shows
abbrev pub Alike : Board → Comparison → Disclosure → Disclosure → ℕ → Type 0
Alike b k d d₃ l = (j : ℕ) → j < b.parameters.ballots → Half (d₃.full_opening l (k.position l j)) (d.side j) (d.list_opening l j)

module _ {E : Type 0} (b : Board) (k : Comparison) (d : Disclosure) (k₃ : Comparison) (d₃ : Disclosure) (l : ℕ) where
  pub alike_or : l < lists b.parameters → bit k.mask l ≡ 1 → bit k₃.mask l ≡ 0 → (Clash b k d k₃ d₃ → E) → Alike b k d d₃ l ⊎ E
  alike_or ll set clear twice =
      all_or b.parameters.ballots (λ j lj. all_or 3 (λ c lc. at j lj c lc (List-discrete ℕ_discrete (mine j c) (third j c))))
    where
      mine : ℕ → ℕ → List ℕ
      mine j c = d.list_opening l j c

      third : ℕ → ℕ → List ℕ
      third j c = d₃.full_opening l (k.position l j) (2 * c + d.side j)

      at : (j : ℕ) → j < b.parameters.ballots → (c : ℕ) → c < 3 → Dec (mine j c ≡ third j c) → (mine j c ≡ third j c) ⊎ E
      at j lj c lc (yes e) = inl e
      at j lj c lc (no ne) =
          inr (twice record { list = l; ballot = j; slot = c; list_in = ll; set = set; clear = clear; ballot_in = lj; slot_in = lc; differ = ne })

-- ---- the votes

-- the value that d₃ opens at position i of list l
abbrev pub value : Board → Disclosure → ℕ → ℕ → ℕ
value b d₃ l i = six (d₃.full_opening l i) % b.parameters.modulus

module _ {commit : Scheme} (b : Board) (k : Comparison) (d₃ : Disclosure) (l : ℕ) (ll : l < lists b.parameters) (set : bit k.mask l ≡ 1) where
  -- the six openings o of ballot j, side 0 shown by d and side 1 by e
  ballot : (d e : Disclosure) → ValidOver commit b k d → ValidOver commit b k e → (o : ℕ → List ℕ) (j : ℕ) → j < b.parameters.ballots → d.side j ≡ 0 → e.side j ≡ 1
      → Half o (d.side j) (d.ballot_opening j) → Half o (e.side j) (e.ballot_opening j)
      → Alike b k d d₃ l → Alike b k e d₃ l → value b d₃ l (k.position l j) ≡ six o % b.parameters.modulus
  ballot d e v w o j lj sd se hd he ad ae =
      sym (total b.parameters.modulus (k.shift l j) o (d.ballot_opening j) (e.ballot_opening j) (d₃.full_opening l (k.position l j))
      (d.list_opening l j) (e.list_opening l j) (rw sd at hd) (rw se at he) (rw sd at (ad j lj)) (rw se at (ae j lj))
      (v.first_halves_agree l j ll set lj sd) (w.second_halves_agree l j ll set lj se))

  -- on whichever side d shows it
  pub either : (d e : Disclosure) → ValidOver commit b k d → ValidOver commit b k e → (o : ℕ → List ℕ) (j : ℕ) → j < b.parameters.ballots → d.side j ≢ e.side j
      → Half o (d.side j) (d.ballot_opening j) → Half o (e.side j) (e.ballot_opening j)
      → Alike b k d d₃ l → Alike b k e d₃ l → value b d₃ l (k.position l j) ≡ six o % b.parameters.modulus
  either d e v w o j lj ne hd he ad ae = go (v.sides j lj) (w.sides j lj) (ℕ_discrete (d.side j) 0)
    where
      go : d.side j ≤ 1 → e.side j ≤ 1 → Dec (d.side j ≡ 0) → value b d₃ l (k.position l j) ≡ six o % b.parameters.modulus
      go ld le (yes s) = ballot d e v w o j lj s (omega (arith, ld, le, ne)) hd he ad ae
      go ld le (no s) = ballot e d w v o j lj (omega (arith, ld, le, ne)) (omega (arith, ld, s)) he hd ae ad

-- the vote committed in ballot j
abbrev pub vote : Board → Disclosure → Disclosure → ℕ → ℕ
vote b d e j = six (both d e j) % b.parameters.modulus

module _ {commit : Scheme} (b : Board) (k : Comparison) (d e : Disclosure) (k₃ : Comparison) (d₃ : Disclosure) (v : ValidOver commit b k d) (w : ValidOver commit b k e)
    (z : ValidOver commit b k₃ d₃) (sides : (j : ℕ) → j < b.parameters.ballots → d.side j ≢ e.side j) where
  counts : (l : ℕ) → l < lists b.parameters → bit k.mask l ≡ 1 → bit k₃.mask l ≡ 0 → Alike b k d d₃ l → Alike b k e d₃ l
      → (x : ℕ) → times x d₃.vote b.parameters.ballots ≡ times x (vote b d e) b.parameters.ballots
  counts l ll set clear ad ae x =
      sym (z.values l ll clear x) ∙ sym (times_perm x (value b d₃ l) (k.position l) b.parameters.ballots (v.positions l ll set))
      ∙ times_same x b.parameters.ballots at
    where
      at : (j : ℕ) → j < b.parameters.ballots → value b d₃ l (k.position l j) ≡ vote b d e j
      at j lj =
          either b k d₃ l ll set d e v w (both d e j) j lj (sides j lj) (λ c lc. sym (both_one d e j c (v.sides j lj)))
          (λ c lc. sym (both_other d e j c (w.sides j lj) (sides j lj))) ad ae

  pub counted : k.mask ≢ k₃.mask
      → ((x : ℕ) → times x d₃.vote b.parameters.ballots ≡ times x (vote b d e) b.parameters.ballots) ⊎ (Clash b k d k₃ d₃ ⊎ Clash b k e k₃ d₃)
  counted masks = do
    ad ← alike_or b k d k₃ d₃ t.place t.below t.set t.clear inl
    ae ← alike_or b k e k₃ d₃ t.place t.below t.set t.clear inr
    inl (counts t.place t.below t.set t.clear ad ae)
    where
      m : ℕ
      m = lists b.parameters

      t : Only m k.mask k₃.mask
      t = only m k.mask k₃.mask (mask_below v) (mask_below z) (le_of_eq (z.mask_ones ∙ sym v.mask_ones)) masks
