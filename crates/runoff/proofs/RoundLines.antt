-- The lines of the rounds one behind the other: what is written, with the lines still to come, is the whole.
use mathlib.Core.Path.{◌≡◌, refl, sym, ap, ap₂, ◌∙◌}
use mathlib.Core.Bool.{Bool, true, false}
use mathlib.Core.List.{List, [], ◌++◌, append_assoc, append-nil}
use Prim.Native.Nat.{ℕ, zero, suc, ◌+◌, ◌-◌, ◌*◌, ◌≤◌, ◌<◌}
use native.Mathlib.Omega.{arith}
use lib.ListN.{length, length-append, get_or-replicate}
use Rattle.laws.specs.Tests.{pick}
use Rattle.laws.specs.Tables.{get_tabulate}
use Rattle.laws.specs.Counting.{many_most}
use Rattle.laws.specs.Writing.{Went, go_on, go_same, start as nothing_yet}
use Rattle.protocol.specs.Terms.{item}
use Rattle.runoff.specs.Ranking.{standing}
use Rattle.runoff.specs.Rounds.{last_counts, support, start, next, onward, result, winner}
use Rattle.runoff.specs.Page.{round_line, round_lines, winner_line}
use Rattle.runoff.specs.declared.Standings.{Standings}
use Rattle.runoff.proofs.Outcomes.{picked, unpicked}
use Rattle.runoff.proofs.Onward.{started, one_on, over_on, end_on}
use Rattle.runoff.proofs.Lines.{round_line_length, winner_line_length}

module _ (candidates : ℕ) (votes : List ℕ) where
  -- ---- no count is more than there are votes

  abbrev pub Few : Standings → Type 0
  Few s = (i : ℕ) → i < 9 → item s.counts i ≤ length votes

  start_few : {s : Standings} → s ≡ start → Few s
  unfolding start
  start_few e i l = omega (arith, ap (λ (x : Standings). item x.counts i) e, get_or-replicate {A = ℕ} 9 i 0 0 l)

  last_few : (left counts : List ℕ) (count : ℕ → ℕ) (i : ℕ) → i < 9 → count (suc i) ≤ length votes → item counts i ≤ length votes
      → item (last_counts left count counts) i ≤ length votes
  unfolding last_counts
  last_few left counts count i l a b =
      rw (get_tabulate (λ i. pick (standing left (suc i)) (count (suc i)) (item counts i)) 9 i l) (go (standing left (suc i)))
    where
      go : (t : Bool) → pick t (count (suc i)) (item counts i) ≤ length votes
      go true = a
      go false = b

  pub next_few : (s : Standings) {t : Standings} → t ≡ next candidates votes s → Few s → Few t
  unfolding next support
  next_few s e few i l =
      omega (
        arith,
        ap (λ (x : Standings). item x.counts i) e,
        last_few s.left s.counts (support candidates votes s.left) i l (many_most _ votes) (few i l),
      )

  -- ---- the lines

  round_lines_length : candidates ≤ 9 → (n : ℕ) (s : Standings) → length (round_lines candidates votes n s) ≤ 144 * n
  unfolding round_lines
  round_lines_length most zero s = omega arith
  round_lines_length most (suc n) s = go s.over (next candidates votes s) (round_lines_length most n (next candidates votes s))
    where
      go : (b : Bool) (t : Standings) → length (round_lines candidates votes n t) ≤ 144 * n
          → length (pick b [] (round_line candidates t ++ round_lines candidates votes n t)) ≤ 144 * suc n
      go true t h = omega arith
      go false t h = omega (arith, round_line_length candidates most t, length-append (round_line candidates t) (round_lines candidates votes n t))

  pub rounds_length : candidates ≤ 9 → (k : ℕ) → length (round_lines candidates votes candidates start ++ winner_line k) ≤ 1440
  rounds_length most k =
      omega (
        arith,
        round_lines_length most candidates start,
        winner_line_length k,
        length-append (round_lines candidates votes candidates start) (winner_line k),
      )

  -- n rounds are done, and their lines are written
  pub record Lined (out₀ : List ℕ) (at : ℕ) (out : List ℕ) (to : ℕ) (s : Standings) (n : ℕ) : Type 0 where
    pub within : n ≤ candidates
    pub counted : s.rounds ≡ n
    pub goes : onward candidates votes (candidates - n) s ≡ result candidates votes
    pub few : Few s
    pub written : List ℕ
    pub went : Went out₀ at written out to
    pub short : length written ≤ 144 * n
    pub with_rest : written ++ round_lines candidates votes (candidates - n) s ≡ round_lines candidates votes candidates start

  pub none_lined : {s : Standings} (out : List ℕ) (at : ℕ) → s ≡ start → at ≤ length out → Lined out at out at s 0
  none_lined {s} out at e h =
      let z : candidates - 0 ≡ candidates = omega arith in record {
        within = omega arith;
        counted = (started candidates votes e).0;
        goes = (started candidates votes e).1;
        few = start_few e;
        written = [];
        went = nothing_yet out at h;
        short = omega arith;
        with_rest = ap₂ (λ (k : ℕ) (x : Standings). round_lines candidates votes k x) z e;
      }

  pub one_lined : {out₀ out out' : List ℕ} {at to to' n : ℕ} {s t : Standings} → candidates ≤ 9 → Lined out₀ at out to s n → n < candidates → s.over ≡ false
      → t ≡ next candidates votes s → Went out to (round_line candidates t) out' to' → Lined out₀ at out' to' t (n + 1)
  unfolding round_lines
  one_lined {n} {s} {t} most h l runs e w =
      let on = one_on candidates votes n s l runs h.counted h.goes e in
      let m : candidates - n ≡ suc (candidates - (n + 1)) = omega arith in
      let line = round_line candidates t in
      let rest : Standings → List ℕ = λ x. round_line candidates x ++ round_lines candidates votes (candidates - (n + 1)) x in
      record {
        within = omega arith;
        counted = on.0;
        goes = on.1;
        few = next_few s e h.few;
        written = h.written ++ line;
        went = go_on h.went w;
        short = omega (arith, h.short, round_line_length candidates most t, length-append h.written line);
        with_rest =
            append_assoc h.written line (round_lines candidates votes (candidates - (n + 1)) t)
            ∙ ap (λ (x : List ℕ). h.written ++ x)
            (ap rest e ∙ sym (ap (λ (k : ℕ). round_lines candidates votes k s) m ∙ unpicked [] (rest (next candidates votes s)) runs))
            ∙ h.with_rest;
      }

  -- the winner's line behind the last
  ended : {out₀ out out' : List ℕ} {at to r n : ℕ} {s : Standings} → Lined out₀ at out to s n → s ≡ result candidates votes
      → round_lines candidates votes (candidates - n) s ≡ [] → Went out to (winner_line s.winner) out' r
      → Went out₀ at (round_lines candidates votes candidates start ++ winner_line (winner candidates votes)) out' r
  unfolding winner
  ended h e none w =
      go_same (go_on h.went w)
      (ap₂ (λ (x : List ℕ) (t : Standings). x ++ winner_line t.winner)
      (sym (append-nil h.written) ∙ ap (λ (x : List ℕ). h.written ++ x) (sym none) ∙ h.with_rest) e)

  pub over_lined : {out₀ out out' : List ℕ} {at to r n : ℕ} {s : Standings} → Lined out₀ at out to s n → s.over ≡ true
      → Went out to (winner_line s.winner) out' r
      → Went out₀ at (round_lines candidates votes candidates start ++ winner_line (winner candidates votes)) out' r
  unfolding round_lines
  over_lined {n} {s} h e w = ended h (over_on candidates votes (candidates - n) s e h.goes) (no_more (candidates - n)) w
    where
      no_more : (k : ℕ) → round_lines candidates votes k s ≡ []
      no_more zero = refl
      no_more (suc k) = picked [] _ e

  pub all_lined : {out₀ out out' : List ℕ} {at to r n : ℕ} {s : Standings} → Lined out₀ at out to s n → n ≡ candidates
      → Went out to (winner_line s.winner) out' r
      → Went out₀ at (round_lines candidates votes candidates start ++ winner_line (winner candidates votes)) out' r
  unfolding round_lines
  all_lined {n} {s} h e w =
      let z : candidates - n ≡ 0 = omega arith in
      ended h (end_on candidates votes (candidates - n) s z h.goes) (ap (λ (k : ℕ). round_lines candidates votes k s) z) w
