-- The cells and lines of a runoff's page: what stands in them, how long they are at most, and what room is left behind them.
use mathlib.Core.Path.{◌≡◌, refl, sym, ap, ◌∙◌}
use mathlib.Core.Logic.{◌≢◌}
use mathlib.Core.Bool.{Bool, true, false}
use mathlib.Core.List.{List, [], ◌∷◌, ◌++◌}
use Prim.Native.Nat.{ℕ, zero, suc, ◌+◌, ◌*◌, ◌≤◌}
use native.Mathlib.Numerals.{add-one}
use native.Mathlib.Omega.{arith}
use lib.ListN.{length, length-append}
use Rattle.std.specs.Prelude.{Option, Some}
use Rattle.laws.specs.Tests.{equal, ◌or◌, pick, choose, is_equal, not_equal, or_go}
use Rattle.laws.specs.Chunks.{chunks}
use Rattle.laws.specs.Writing.{Went, go_same}
use Rattle.protocol.specs.Terms.{item, decimal}
use Rattle.decimals.proofs.Digits.{decimal_length}
use Rattle.runoff.specs.Page.{round_word, leaves_word, winner_word, none_word, dash, named, named_or, header_cell, count_cell, leaver_among, header_line, count_cells, round_line, winner_line, count_line}
use Rattle.runoff.specs.Rounds.{candidate}
use Rattle.runoff.specs.Told.{named_in}
use Rattle.runoff.specs.declared.Standings.{Standings}
use Rattle.runoff.proofs.Outcomes.{picked, unpicked}

-- behind at most k bytes there is the room that was there for more
pub room_behind : {l out v : List ℕ} {a r : ℕ} (k m : ℕ) → Went l a v out r → length v ≤ k → a + (k + m) ≤ length l → r + m ≤ length out
room_behind k m h short room = omega (arith, h.to, h.wrote.long)

-- what is written of a number that is known by another name
pub written_as : {l out : List ℕ} {a r j k : ℕ} (f : ℕ → List ℕ) → Went l a (f j) out r → j ≡ k → Went l a (f k) out r
written_as f w e = go_same w (ap f e)

-- ---- cells

pub named_length : (k : ℕ) → length (named k) ≤ 11
unfolding named
named_length k = omega (arith, length-append (35 ∷ []) (decimal k), decimal_length k)

-- somebody by number, or nobody
pub named_as : (word : List ℕ) (k : ℕ) → named_in word (candidate k) ≡ named_or word k
unfolding named_or choose
named_as word zero = refl
named_as word (suc k) = refl

pub named_by : (word : List ℕ) {l out : List ℕ} {a r : ℕ} {who : Option ℕ} (k : ℕ) → who ≡ candidate k → Went l a (named_in word who) out r → Went l a (named_or word k) out r
named_by word k e w = go_same w (ap (named_in word) e ∙ named_as word k)

pub named_or_length : (word : List ℕ) (k : ℕ) → length word ≤ 11 → length (named_or word k) ≤ 11
unfolding named_or choose
named_or_length word zero h = h
named_or_length word (suc k) h = named_length (suc k)

pub header_cell_length : (i : ℕ) → length (header_cell i) ≤ 12
unfolding header_cell
header_cell_length i = omega (arith, length-append (9 ∷ []) (named (i + 1)), named_length (i + 1))

-- who stands, who leaves in this round, and who has left before
module _ (round left count : ℕ) where
  pub cell_counts : (equal left 0 or equal left round) ≡ true → (9 ∷ []) ++ decimal count ≡ count_cell round left count
  unfolding count_cell
  cell_counts e = ap (λ (l : List ℕ). (9 ∷ []) ++ l) (sym (picked (decimal count) dash e))

  pub cell_gone : left ≢ 0 → left ≢ round → (9 ∷ []) ++ dash ≡ count_cell round left count
  unfolding count_cell
  cell_gone ne e = ap (λ (l : List ℕ). (9 ∷ []) ++ l) (sym (unpicked (decimal count) dash (sym (or_go _ _ (not_equal ne) (sym (not_equal e))))))

  pub count_cell_length : length (count_cell round left count) ≤ 12
  unfolding count_cell
  count_cell_length = go (equal left 0 or equal left round)
    where
      go : (b : Bool) → length ((9 ∷ []) ++ pick b (decimal count) dash) ≤ 12
      go true = omega (arith, length-append (9 ∷ []) (decimal count), decimal_length count)
      go false = omega arith

-- ---- who leaves

module _ (left : List ℕ) (round n : ℕ) where
  pub leaver_next : item left n ≡ round → Some (n + 1) ≡ candidate (leaver_among left round (n + 1))
  unfolding leaver_among
  leaver_next e = rw (add-one n) (ap candidate (sym (picked (suc n) (leaver_among left round n) (is_equal e))))

  pub leaver_before : item left n ≢ round → candidate (leaver_among left round n) ≡ candidate (leaver_among left round (n + 1))
  unfolding leaver_among
  leaver_before e = rw (add-one n) (ap candidate (sym (unpicked (suc n) (leaver_among left round n) (not_equal e))))

-- ---- lines

-- n pieces of at most w bytes
pub chunks_most : (f : ℕ → List ℕ) (w n : ℕ) → ((i : ℕ) → length (f i) ≤ w) → length (chunks f n) ≤ w * n
chunks_most f w zero h = omega arith
chunks_most f w (suc n) h = omega (arith, chunks_most f w n h, h n, length-append (chunks f n) (f n))

pub count_cells_length : (candidates : ℕ) (s : Standings) → length (count_cells candidates s) ≤ 12 * candidates
unfolding count_cells
count_cells_length candidates s = chunks_most _ 12 candidates (λ i. count_cell_length s.rounds (item s.left i) (item s.counts i))

module _ (candidates : ℕ) (few : candidates ≤ 9) where
  pub header_line_length : length (header_line candidates) ≤ 144
  unfolding header_line
  header_line_length =
      omega (
        arith,
        chunks_most header_cell 12 candidates header_cell_length,
        length-append round_word (chunks header_cell candidates),
        length-append (round_word ++ chunks header_cell candidates) leaves_word,
      )

  pub round_line_length : (s : Standings) → length (round_line candidates s) ≤ 144
  unfolding round_line
  round_line_length s =
      let cells = count_cells candidates s in
      let name = named_or dash (leaver_among s.left s.rounds candidates) in
      omega (
        arith,
        decimal_length s.rounds,
        count_cells_length candidates s,
        named_or_length dash (leaver_among s.left s.rounds candidates) (omega arith),
        length-append (decimal s.rounds) cells,
        length-append (9 ∷ []) name,
        length-append ((9 ∷ []) ++ name) (10 ∷ []),
        length-append (decimal s.rounds ++ cells) (((9 ∷ []) ++ name) ++ (10 ∷ [])),
      )

pub winner_line_length : (k : ℕ) → length (winner_line k) ≤ 144
unfolding winner_line
winner_line_length k =
    omega (
      arith,
      named_or_length none_word k (omega arith),
      length-append winner_word (named_or none_word k),
      length-append (winner_word ++ named_or none_word k) (10 ∷ []),
    )

pub count_line_length : (word : List ℕ) (count : ℕ) → length word ≤ 8 → length (count_line word count) ≤ 144
unfolding count_line
count_line_length word count short =
    omega (arith, decimal_length count, length-append word (decimal count), length-append (word ++ decimal count) (10 ∷ []))
