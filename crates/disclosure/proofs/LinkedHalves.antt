-- The halves of ballots and of the entries linked to them, and the places of the latter.
use mathlib.Core.Path.{◌≡◌, refl, sym, ap, ◌∙◌}
use mathlib.Core.Logic.{◌≢◌}
use mathlib.Core.List.{List, [], ◌++◌}
use Prim.Native.Nat.{ℕ, zero, suc, ◌+◌, ◌*◌, ◌≤◌, ◌<◌}
use native.Mathlib.Nat.{le_refl, mul-le-mul_right}
use native.Mathlib.Decide.{ℕ_discrete}
use native.Mathlib.Omega.{arith}
use lib.ListN.{length, take, drop, length-append, get_or-append}
use lib.Seq.{length-take-le, get_or-take, get_or-append-add}
use Rattle.laws.specs.Chunks.{chunks, chunks_length, start_set}
use Rattle.laws.specs.Masks.{bit, set_before, set_ones, set_lt, set_rank, bit_small}
use Rattle.laws.proofs.Permutations.{perm_then, whence_of}
use Rattle.laws.specs.Tests.{choose}
use Rattle.laws.specs.Writing.{Went, lent, row_within, room}
use Rattle.protocol.specs.declared.Parameters.{Parameters}
use Rattle.protocol.specs.Terms.{item, most_ballots}
use Rattle.protocol.specs.Columns.{source}
use Rattle.protocol.specs.Layout.{lists}
use Rattle.protocol.specs.Record.{ballot_half_command, list_half_command, halves}
use Rattle.protocol.specs.Inputs.{Slices, Inputs, inputs_of}
use Rattle.protocol.specs.Servers.{source_of, link_position, ballot_opening, entry_opening, posted_disclosure}
use Rattle.mixing.specs.Passed.{Passed}
use Rattle.disclosure.specs.Disclosed.{Shaped, Placed}
use Rattle.disclosure.proofs.Openings.{ballot_half_long, list_half_long}

-- ---- places

position_inside : (s : Slices) → Passed s → (l j : ℕ) → l < lists s.parameters → j < s.parameters.ballots → link_position (inputs_of s) l j < s.parameters.ballots
unfolding link_position source_of source inputs_of
position_inside s passed l j ll lj =
    let perm = passed.tests.permutations in
    (whence_of s.parameters.ballots (source_of (inputs_of s) l) (perm_then (perm l 0 ll (omega arith)) (perm_then (perm l 1 ll (omega arith)) (perm l 2 ll (omega arith)))) j lj).1

module _ (s : Slices) (mask : ℕ) where
  -- no list was gone through
  pub none_placed : {places : List ℕ} → s.parameters.compared * s.parameters.ballots ≤ length places → Placed s mask 0 places
  none_placed h = record { long = h; is = λ k j lk b lj. absurd (omega arith) }

  -- list l is not compared
  pub list_passed : {l : ℕ} {places : List ℕ} → bit mask l ≡ 0 → Placed s mask l places → Placed s mask (l + 1) places
  list_passed {l} {places} clear h = record { long = h.long; is = λ k j lk b lj. h.is k j (below k lk b (ℕ_discrete k l)) b lj }
    where
      below : (k : ℕ) → k < l + 1 → bit mask k ≡ 1 → Dec (k ≡ l) → k < l
      below k lk b (yes e) = absurd (let f : bit mask l ≡ 1 = rw (← e) b in omega (arith, f, clear))
      below k lk b (no ne) = omega arith

-- the places of a compared list lie inside, behind those of the lists before
module _ (s : Slices) (mask : ℕ) (shaped : Shaped s mask) (l : ℕ) (ll : l < lists s.parameters) (set : bit mask l ≢ 0) where
  is_set : bit mask l ≡ 1
  is_set = omega (arith, bit_small mask l, set)

  pub rank_end : set_before mask l * s.parameters.ballots + s.parameters.ballots ≤ s.parameters.compared * s.parameters.ballots
  rank_end =
      row_within (set_before mask l) s.parameters.compared s.parameters.ballots (set_rank s.parameters.compared mask l shaped.counted shaped.small ll is_set)

  pub rank_near : s.parameters.compared * s.parameters.ballots ≤ 12 * most_ballots
  rank_near =
      omega (arith, mul-le-mul_right {m = s.parameters.compared} {n = 12} s.parameters.ballots shaped.passed.tests.compared_high, shaped.passed.tests.ballots_high)

  -- w is what is filled in
  module _ {places : List ℕ} (w : List ℕ) (from k : ℕ) (h : Placed s mask l places) (e : from ≡ set_before mask l * s.parameters.ballots) (wide : k ≡ s.parameters.ballots)
      (long : length w ≡ s.parameters.ballots) (filled : (j : ℕ) → j < s.parameters.ballots → item w j ≡ link_position (inputs_of s) l j) where
    before_long : length (take from places) ≡ from
    before_long = length-take-le from places (omega (arith, h.long, rank_end))

    -- before it all is as it was
    as_before : (i : ℕ) → i < from → item (take from places ++ (w ++ drop k (drop from places))) i ≡ item places i
    as_before i li = get_or-append (take from places) _ 0 i (omega (arith, before_long)) ∙ get_or-take from places i 0 li

    as_filled : (j : ℕ) → j < s.parameters.ballots → item (take from places ++ (w ++ drop k (drop from places))) (from + j) ≡ link_position (inputs_of s) l j
    as_filled j lj =
        ap (λ (x : ℕ). item (take from places ++ (w ++ drop k (drop from places))) (x + j)) (sym before_long)
        ∙ get_or-append-add (take from places) (w ++ drop k (drop from places)) j 0
        ∙ get_or-append w (drop k (drop from places)) 0 j (omega (arith, long))
        ∙ filled j lj

    pub list_placed : Placed s mask (l + 1) (take from places ++ (w ++ drop k (drop from places)))
    list_placed = record {
      long = let t = lent places from k {v = w} refl (omega (arith, long)) (omega (arith, h.long, rank_end)) in omega (arith, t.long, h.long);
      is = λ k j lk b lj. at_list k j lk b lj (ℕ_discrete k l);
    }
      where
        at_list : (i j : ℕ) → i < l + 1 → bit mask i ≡ 1 → j < s.parameters.ballots → Dec (i ≡ l)
            → item (take from places ++ (w ++ drop k (drop from places))) (set_before mask i * s.parameters.ballots + j) ≡ link_position (inputs_of s) i j
        at_list i j li b lj (yes q) = rw q (rw (← e) (as_filled j lj))
        at_list i j li b lj (no ne) =
            let lower : i < l = omega arith in
            as_before (set_before mask i * s.parameters.ballots + j)
            (omega (arith, e, row_within (set_before mask i) (set_before mask l) s.parameters.ballots (set_lt l mask i lower b)))
            ∙ h.is i j lower b lj

  -- the place of ballot j as it is looked up, r being the rank of list l
  module _ {places : List ℕ} (h : Placed s mask (lists s.parameters) places) (j r : ℕ) (lj : j < s.parameters.ballots) (e : r ≡ set_before mask l) where
    pub place_end : r * s.parameters.ballots + j < s.parameters.compared * s.parameters.ballots
    place_end = rw e (omega (arith, rank_end))

    pub place_is : item places (r * s.parameters.ballots + j) ≡ link_position (inputs_of s) l j
    place_is = rw e (h.is l j ll is_set lj)

    pub place_inside : item places (r * s.parameters.ballots + j) < s.parameters.ballots
    place_inside = rw place_is (position_inside s shaped.passed l j ll lj)

-- ---- halves

-- that of the entry that list l links to ballot j; where the list is compared
abbrev pub half_of : Slices → ℕ → ℕ → ℕ → List ℕ
half_of s j side l = let i = link_position (inputs_of s) l j in list_half_command l i (λ k. entry_opening (inputs_of s) l i (2 * k + side))

abbrev pub linked_of : Slices → ℕ → ℕ → ℕ → ℕ → List ℕ
linked_of s mask j side l = choose (bit mask l) [] (half_of s j side l)

module _ (s : Slices) (mask : ℕ) (shaped : Shaped s mask) (j side : ℕ) (lj : j < s.parameters.ballots) (ls : side ≤ 1) where
  half_long : (l : ℕ) → l < lists s.parameters → length (half_of s j side l) ≡ 112
  half_long l ll = list_half_long s shaped.passed l (link_position (inputs_of s) l j) side ll (position_inside s shaped.passed l j ll lj) ls

  linked_long : length (chunks (linked_of s mask j side) (lists s.parameters)) ≡ s.parameters.compared * 112
  linked_long =
      let k : ℕ = lists s.parameters in
      omega (
        arith,
        chunks_length (linked_of s mask j side) k,
        start_set mask 112 k (half_of s j side) half_long k (le_refl k),
        set_ones k mask shaped.small,
        shaped.counted,
      )

  -- room for that of list l
  pub linked_room : {before out : List ℕ} {a b l : ℕ} → Went before a (chunks (linked_of s mask j side) l) out b → a + s.parameters.compared * 112 ≤ length before → l < lists s.parameters
      → b + bit mask l * 112 ≤ length out
  linked_room {l} h k i =
      omega (
        arith,
        room (linked_of s mask j side) l (lists s.parameters) h (omega (arith, linked_long)) i,
        start_set mask 112 (lists s.parameters) (half_of s j side) half_long l (omega arith),
        start_set mask 112 (lists s.parameters) (half_of s j side) half_long (suc l) (omega arith),
      )

-- .. which is all of it, where the bit is set
pub linked_one : (b a w : ℕ) {m : ℕ} → b ≢ 0 → a + b * w ≤ m → a + w ≤ m
linked_one zero a w e h = absurd (e refl)
linked_one (suc b) a w e h = omega arith

-- all of a ballot: only its own side matters
pub one_side : (s : Inputs) (p : Parameters) (mask : ℕ) (side : ℕ → ℕ) (j : ℕ)
    → halves p mask (link_position s) (posted_disclosure s [] (λ _. side j)) j ≡ halves p mask (link_position s) (posted_disclosure s [] side) j
unfolding halves posted_disclosure
one_side s p mask side j = refl

pub halves_long : (s : Slices) (mask : ℕ) → Shaped s mask → (dice : List ℕ) (side : ℕ → ℕ) (j : ℕ) → j < s.parameters.ballots → side j ≤ 1
    → length (halves s.parameters mask (link_position (inputs_of s)) (posted_disclosure (inputs_of s) dice side) j) ≡ (s.parameters.compared + 1) * 112
unfolding halves posted_disclosure
halves_long s mask shaped dice side j lj ls =
    let half : List ℕ = ballot_half_command j (side j) (λ k. ballot_opening (inputs_of s) j (2 * k + side j)) in
    omega (
      arith,
      length-append half (chunks (linked_of s mask j (side j)) (lists s.parameters)),
      ballot_half_long s shaped.passed j (side j) lj ls,
      linked_long s mask shaped j (side j) lj ls,
    )
