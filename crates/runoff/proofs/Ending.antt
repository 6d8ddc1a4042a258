-- Document 02, item 2, over all rounds: the runoff ends, in at most as many rounds as there are candidates; who has left stays gone and is
-- counted no more; the winner has more than half; there is none exactly if no vote is valid; and what the table's two numbers say.
use mathlib.Core.Path.{◌≡◌, refl, sym, ap, ◌∙◌}
use mathlib.Core.Logic.{◌≢◌, ◌↔◌, ◌⊎◌, inl, inr}
use mathlib.Core.Bool.{Bool, true, false}
use mathlib.Core.List.{List}
use Prim.Native.Nat.{ℕ, zero, suc, ◌+◌, ◌-◌, ◌*◌, ◌≤◌, ◌<◌}
use native.Mathlib.Decide.{ℕ_discrete}
use native.Mathlib.Omega.{arith}
use lib.ListN.{length, set, replicate, get_or-replicate, length-set}
use lib.Seq.{get_or-set_same, get_or-set_other}
use Rattle.laws.specs.Tests.{pick, equal, differ, never, is_equal, not_equal, is_differ, not_differ, equal_iff, unequal_iff, differ_iff, or_iff, refuted}
use Rattle.laws.specs.Sums.{one_if}
use Rattle.laws.specs.Counting.{how_many, many_some, many_same}
use Rattle.laws.specs.Tables.{get_tabulate}
use Rattle.protocol.specs.Terms.{item}
use Rattle.runoff.specs.Ranking.{ranking, valid, standing, first_standing, counts_for}
use Rattle.runoff.specs.Rounds.{fewest_among, winner_among, last_counts, start, support, counting, round_winner, decided, left_after, next, onward, result, winner}
use Rattle.runoff.specs.declared.Standings.{Standings}
use Rattle.runoff.proofs.Outcomes.{picked, unpicked}
use Rattle.runoff.proofs.Rankings.{first_ranked}
use Rattle.runoff.proofs.Deciding.{Wins, NoneWins, winner_is, Leaves, leaves_one, counts_stands}
use Rattle.runoff.proofs.Leaving.{standing_of, some_standing, one_gone, support_most, wins_stands, wins_alone, counting_valid, leaver_is, left_is, still_counts}

-- ---- a round's table of last counts

module _ (left : List ℕ) (count : ℕ → ℕ) (counts : List ℕ) (k : ℕ) (from : 1 ≤ k) (to : k ≤ 9) where
  last_at : item (last_counts left count counts) (k - 1) ≡ pick (standing left k) (count k) (item counts (k - 1))
  unfolding last_counts
  last_at =
      let e : suc (k - 1) ≡ k = omega arith in
      get_tabulate (λ i. pick (standing left (suc i)) (count (suc i)) (item counts i)) 9 (k - 1) (omega arith)
      ∙ ap (λ (j : ℕ). pick (standing left j) (count j) (item counts (k - 1))) e

  last_standing : standing left k ≡ true → item (last_counts left count counts) (k - 1) ≡ count k
  last_standing s = last_at ∙ picked _ _ s

  last_gone : standing left k ≡ false → item (last_counts left count counts) (k - 1) ≡ item counts (k - 1)
  last_gone s = last_at ∙ unpicked _ _ s

-- ---- the rounds one behind the other

module _ (candidates : ℕ) (votes : List ℕ) where
  -- after n rounds, or fewer where it is over before; and who had left before round r
  abbrev pub after : ℕ → Standings
  after n = onward candidates votes n start

  abbrev pub before : ℕ → List ℕ
  before r = (onward candidates votes (r - 1) start).left

  onward_last : (n : ℕ) (s : Standings)
      → onward candidates votes (suc n) s
      ≡ pick (onward candidates votes n s).over (onward candidates votes n s) (next candidates votes (onward candidates votes n s))
  unfolding onward
  onward_last zero s = refl
  onward_last (suc n) s = go s.over refl (onward_last n (next candidates votes s))
    where
      go : (b : Bool) → s.over ≡ b
          → (let t = onward candidates votes n (next candidates votes s) in onward candidates votes (suc n) (next candidates votes s) ≡ pick t.over t (next candidates votes t))
          → (let t = pick b s (onward candidates votes n (next candidates votes s)) in
          pick b s (onward candidates votes (suc n) (next candidates votes s)) ≡ pick t.over t (next candidates votes t))
      go true e ih = sym (picked s _ e)
      go false e ih = ih

  after_over : (n : ℕ) → (after n).over ≡ true → after (suc n) ≡ after n
  after_over n e = onward_last n start ∙ picked _ _ e

  after_next : (n : ℕ) → (after n).over ≡ false → after (suc n) ≡ next candidates votes (after n)
  after_next n e = onward_last n start ∙ unpicked _ _ e

  over_on : (n m : ℕ) → (after n).over ≡ true → after (m + n) ≡ after n
  over_on n zero e = let z : 0 + n ≡ n = omega arith in rw z
  over_on n (suc m) e =
      let z : suc m + n ≡ suc (m + n) = omega arith in
      let h : after (m + n) ≡ after n = over_on n m e in
      rw z (after_over (m + n) (ap (λ (s : Standings). s.over) h ∙ e) ∙ h)

  -- what holds at the start, after each round, and where it is over, holds after n rounds
  along : (P : ℕ → Standings → Type 0) → P 0 start
      → ((n : ℕ) → (after n).over ≡ false → P n (after n) → P (suc n) (next candidates votes (after n)))
      → ((n : ℕ) → (after n).over ≡ true → P n (after n) → P (suc n) (after n))
      → (n : ℕ) → P n (after n)
  unfolding onward
  along P first more over zero = first
  along P first more over (suc n) = go (after n).over refl (along P first more over n)
    where
      go : (b : Bool) → (after n).over ≡ b → P n (after n) → P (suc n) (after (suc n))
      go true e ih = rw (after_over n e) (over n e ih)
      go false e ih = rw (after_next n e) (more n e ih)

  -- ---- who has left

  after_long : (left : List ℕ) (r : ℕ) → length (left_after candidates votes left r) ≡ length left
  unfolding left_after
  after_long left r = go (decided candidates votes left)
    where
      go : (b : Bool) → length (pick b left (set left (fewest_among left (support candidates votes left) candidates - 1) r)) ≡ length left
      go true = refl
      go false = length-set left (fewest_among left (support candidates votes left) candidates - 1) r

  over_left : (left : List ℕ) (r : ℕ) → decided candidates votes left ≡ true → left_after candidates votes left r ≡ left
  unfolding left_after
  over_left left r e = picked left _ e

  -- a round leaves everybody's entry as it is but that of the one who leaves
  other_entry : (left : List ℕ) (r k : ℕ) → 1 ≤ k → (decided candidates votes left ≡ false → k ≢ fewest_among left (support candidates votes left) candidates)
      → item (left_after candidates votes left r) (k - 1) ≡ item left (k - 1)
  other_entry left r k low other = go (decided candidates votes left) refl
    where
      go : (b : Bool) → decided candidates votes left ≡ b → item (left_after candidates votes left r) (k - 1) ≡ item left (k - 1)
      go true d = ap (λ (l : List ℕ). item l (k - 1)) (over_left left r d)
      go false d =
          ap (λ (l : List ℕ). item l (k - 1)) (left_is candidates votes left d r)
          ∙ get_or-set_other left _ (k - 1) r 0 (λ e. other d (omega (arith, (leaver_is candidates votes left d).from)))

  gone_entry : (left : List ℕ) (r k : ℕ) → 1 ≤ k → item left (k - 1) ≢ 0 → item (left_after candidates votes left r) (k - 1) ≡ item left (k - 1)
  unfolding standing
  gone_entry left r k low gone =
      other_entry left r k low (λ d e. gone (rw (← e) at ((equal_iff _ 0).0 (leaver_is candidates votes left d).stands)))

  stays : (n k : ℕ) → 1 ≤ k → item (after n).left (k - 1) ≢ 0 → item (after (suc n)).left (k - 1) ≡ item (after n).left (k - 1)
  unfolding next
  stays n k low gone = go (after n).over refl
    where
      go : (b : Bool) → (after n).over ≡ b → item (after (suc n)).left (k - 1) ≡ item (after n).left (k - 1)
      go true e = ap (λ (s : Standings). item s.left (k - 1)) (after_over n e)
      go false e = ap (λ (s : Standings). item s.left (k - 1)) (after_next n e) ∙ gone_entry (after n).left ((after n).rounds + 1) k low gone

  stays_on : (n m k : ℕ) → 1 ≤ k → item (after n).left (k - 1) ≢ 0 → item (after (m + n)).left (k - 1) ≡ item (after n).left (k - 1)
  stays_on n zero k low gone = let e : 0 + n ≡ n = omega arith in rw e
  stays_on n (suc m) k low gone =
      let e : suc m + n ≡ suc (m + n) = omega arith in
      let h : item (after (m + n)).left (k - 1) ≡ item (after n).left (k - 1) = stays_on n m k low gone in
      rw e (stays (m + n) k low (λ z. gone (sym h ∙ z)) ∙ h)

  -- ---- the number of rounds

  rounds_most : (n : ℕ) → (after n).rounds ≤ n
  unfolding start next
  rounds_most = along (λ n s. s.rounds ≤ n) (omega arith) (λ n e h. omega arith) (λ n e h. omega arith)

  -- in n rounds none of which is decided n candidates leave, and some vote still counts
  record Running (n : ℕ) (s : Standings) : Type 0 where
    pub counted : s.rounds ≡ n
    pub remain : standing_of s.left candidates + n ≡ candidates
    pub some : 1 ≤ n → counting candidates votes s.left ≢ 0

  record Stage (n : ℕ) (s : Standings) : Type 0 where
    pub long : length s.left ≡ 9
    pub running : s.over ≡ false → Running n s

  all_standing : (n : ℕ) → n ≤ 9 → standing_of (replicate 9 0) n ≡ n
  unfolding standing_of standing
  all_standing zero h = refl
  all_standing (suc n) h =
      let e : suc n - 1 ≡ n = omega arith in
      omega (
        arith,
        all_standing n (omega arith),
        ap (λ (i : ℕ). one_if (equal (item (replicate 9 0) i) 0)) e ∙ ap one_if (is_equal (get_or-replicate {A = ℕ} 9 n 0 0 (omega arith))),
      )

  stage_start : candidates ≤ 9 → Stage 0 start
  unfolding start
  stage_start few = record {
    long = refl;
    running = λ e. record { counted = refl; remain = omega (arith, all_standing candidates few); some = λ l. absurd (omega arith) };
  }

  stage_next : candidates ≤ 9 → (n : ℕ) (s : Standings) → s.over ≡ false → Stage n s → Stage (suc n) (next candidates votes s)
  unfolding next
  stage_next few n s e h = record {
    long = after_long s.left (s.rounds + 1) ∙ h.long;
    running = λ d. let l = leaver_is candidates votes s.left d in record {
      counted = omega (arith, (h.running e).counted);
      remain =
          omega (
            arith,
            (h.running e).remain,
            ap (λ (l : List ℕ). standing_of l candidates) (left_is candidates votes s.left d (s.rounds + 1)),
            one_gone s.left candidates _ (s.rounds + 1) l.from l.to (omega (arith, h.long, l.to)) (omega arith) l.stands,
          );
      some = λ low. still_counts candidates votes s.left d (s.rounds + 1);
    };
  }

  stage : candidates ≤ 9 → (n : ℕ) → Stage n (after n)
  stage few =
      along Stage (stage_start few) (λ n e h. stage_next few n (after n) e h)
      (λ n e h. record { long = h.long; running = λ f. absurd (never e f) })

  -- the last round's winner stands in the result, and the round was decided with those who stand in it
  record Settled (s : Standings) : Type 0 where
    pub won : s.winner ≡ round_winner candidates votes s.left
    pub closed : decided candidates votes s.left ≡ true

  settled : (n : ℕ) → (after n).over ≡ true → Settled (after n)
  unfolding start next
  settled =
      along (λ n s. s.over ≡ true → Settled s) (λ e. absurd (never e refl))
      (λ n e h d. let l = over_left (after n).left ((after n).rounds + 1) d in record {
        won = ap (round_winner candidates votes) (sym l);
        closed = ap (decided candidates votes) l ∙ d;
      })
      (λ n e h. h)

-- each round that is not decided makes one candidate leave, and some vote still counts for one who stands: so it is decided at the latest
-- in the round whose number is that of the candidates
pub ends : (candidates : ℕ) (votes : List ℕ) → 1 ≤ candidates → candidates ≤ 9 → (result candidates votes).over ≡ true
unfolding result counting
ends candidates votes low few = go (after candidates votes candidates).over refl
  where
    go : (b : Bool) → (after candidates votes candidates).over ≡ b → (after candidates votes candidates).over ≡ true
    go true e = e
    go false e =
        let run = (stage candidates votes few candidates).running e in
        let left = (after candidates votes candidates).left in
        let (vote, d) = many_some _ votes (run.some low) in
        let ((a, b), s) = counts_stands candidates left vote ((differ_iff _ 0).0 d) in
        absurd (omega (arith, run.remain, some_standing left candidates _ a b s))

-- rounds are numbered from 1, and there are at most as many as candidates
pub at_most : (candidates : ℕ) (votes : List ℕ) → (result candidates votes).rounds ≤ candidates
unfolding result
at_most candidates votes = rounds_most candidates votes candidates

-- the bound in `result` never stops a runoff that is not over: with more rounds it is the same
pub more_is_same : (candidates : ℕ) (votes : List ℕ) → 1 ≤ candidates → candidates ≤ 9 → (n : ℕ) → candidates ≤ n
    → onward candidates votes n start ≡ result candidates votes
unfolding result
more_is_same candidates votes low few n h =
    let e : n - candidates + candidates ≡ n = omega arith in
    rw e at (over_on candidates votes candidates (n - candidates) (ends candidates votes low few))

-- who has left stays gone, with the round of leaving
pub left_stays : (candidates : ℕ) (votes : List ℕ) → 1 ≤ candidates → candidates ≤ 9 → (k n : ℕ) → 1 ≤ k
    → item (onward candidates votes n start).left (k - 1) ≢ 0 → item (result candidates votes).left (k - 1) ≡ item (onward candidates votes n start).left (k - 1)
left_stays candidates votes low few k n from gone =
    ap (λ (s : Standings). item s.left (k - 1)) (sym (more_is_same candidates votes low few (candidates + n) (omega arith)))
    ∙ stays_on candidates votes n candidates k from gone

-- ---- which rounds are decided

module _ (candidates : ℕ) (votes : List ℕ) (few : candidates ≤ 9) where
  before_next : (n : ℕ) → (after candidates votes n).over ≡ false → before candidates votes ((after candidates votes n).rounds + 1) ≡ (after candidates votes n).left
  before_next n e =
      let q : (after candidates votes n).rounds + 1 - 1 ≡ n = omega (arith, ((stage candidates votes few n).running e).counted) in
      ap (λ (j : ℕ). (after candidates votes j).left) q

  decided_when : (n : ℕ) → (after candidates votes n).over ≡ true → decided candidates votes (before candidates votes (after candidates votes n).rounds) ≡ true
  unfolding start next
  decided_when =
      along candidates votes (λ n s. s.over ≡ true → decided candidates votes (before candidates votes s.rounds) ≡ true) (λ e. absurd (never e refl))
      (λ n e h d. rw (before_next n e) d) (λ n e h. h)

  open_when : (n r : ℕ) → 1 ≤ r → r ≤ (after candidates votes n).rounds → ((after candidates votes n).over ≡ true → r < (after candidates votes n).rounds)
      → decided candidates votes (before candidates votes r) ≡ false
  unfolding start next
  open_when =
      along candidates votes
      (λ n s. (r : ℕ) → 1 ≤ r → r ≤ s.rounds → (s.over ≡ true → r < s.rounds) → decided candidates votes (before candidates votes r) ≡ false)
      (λ r low high o. absurd (omega arith)) (λ n e h r low high o. go n e h r low high o (ℕ_discrete r ((after candidates votes n).rounds + 1))) (λ n e h. h)
    where
      go : (n : ℕ) → (after candidates votes n).over ≡ false
          → ((r : ℕ) → 1 ≤ r → r ≤ (after candidates votes n).rounds → ((after candidates votes n).over ≡ true → r < (after candidates votes n).rounds)
          → decided candidates votes (before candidates votes r) ≡ false)
          → (r : ℕ) → 1 ≤ r → r ≤ (after candidates votes n).rounds + 1
          → (decided candidates votes (after candidates votes n).left ≡ true → r < (after candidates votes n).rounds + 1)
          → Dec (r ≡ (after candidates votes n).rounds + 1) → decided candidates votes (before candidates votes r) ≡ false
      go n e h r low high o (yes q) =
          rw (q, before_next n e) (refuted _ (λ d. absurd (omega (arith, o d))))
      go n e h r low high o (no ne) = h r low (omega arith) (λ t. absurd (never t e))

-- the last round is decided and no other is: in the rounds before it some vote counts and nobody has more than half
pub last_decided : (candidates : ℕ) (votes : List ℕ) → 1 ≤ candidates → candidates ≤ 9
    → decided candidates votes (before candidates votes (result candidates votes).rounds) ≡ true
unfolding result
last_decided candidates votes low few = decided_when candidates votes few candidates (ends candidates votes low few)

pub open_before : (candidates : ℕ) (votes : List ℕ) → candidates ≤ 9 → (r : ℕ) → 1 ≤ r → r < (result candidates votes).rounds
    → decided candidates votes (before candidates votes r) ≡ false
unfolding result
open_before candidates votes few r low high = open_when candidates votes few candidates r low (omega arith) (λ e. high)

-- ---- the winner

-- "A candidate with more than half of the counting votes wins", and nobody else has so many
pub record Winning (candidates : ℕ) (votes : List ℕ) (w : ℕ) : Type 0 where
  -- the winner is a candidate
  pub from : 1 ≤ w
  pub to : w ≤ candidates
  -- who has not left
  pub stands : standing (result candidates votes).left w ≡ true
  -- and has more than half of the votes that count for those who stand in the end
  pub majority : counting candidates votes (result candidates votes).left < 2 * support candidates votes (result candidates votes).left w
  pub alone : (j : ℕ) → 1 ≤ j → j ≤ candidates
      → counting candidates votes (result candidates votes).left < 2 * support candidates votes (result candidates votes).left j → j ≡ w

pub winner_wins : (candidates : ℕ) (votes : List ℕ) → 1 ≤ candidates → candidates ≤ 9 → winner candidates votes ≢ 0
    → Winning candidates votes (winner candidates votes)
unfolding result winner round_winner
winner_wins candidates votes low few some = go (winner_is (counting candidates votes left) (support candidates votes left) candidates)
  where
    left : List ℕ
    left = (result candidates votes).left

    is : winner candidates votes ≡ winner_among (counting candidates votes left) (support candidates votes left) candidates
    is = (settled candidates votes candidates (ends candidates votes low few)).won

    go : Wins (counting candidates votes left) (support candidates votes left) candidates (winner_among (counting candidates votes left) (support candidates votes left) candidates)
        ⊎ NoneWins (counting candidates votes left) (support candidates votes left) candidates (winner_among (counting candidates votes left) (support candidates votes left) candidates)
        → Winning candidates votes (winner candidates votes)
    go (inr h) = absurd (some (is ∙ h.none))
    go (inl h) = rw is (record {
      from = h.from;
      to = h.to;
      stands = wins_stands candidates votes left h;
      majority = h.majority;
      alone = λ j a b m. wins_alone candidates votes left h j a m;
    })

-- in the first round every valid vote counts
valid_counts : (candidates vote : ℕ) → candidates ≤ 9 → differ (counts_for candidates (replicate 9 0) vote) 0 ≡ valid candidates vote
unfolding counts_for first_standing standing
valid_counts candidates vote few = go (valid candidates vote) refl
  where
    go : (b : Bool) → valid candidates vote ≡ b → differ (pick b (first_standing (replicate 9 0) (ranking vote)) 0) 0 ≡ valid candidates vote
    go true v =
        let (k, ks, r, low, high) = first_ranked candidates vote v in
        let f : first_standing (replicate 9 0) (ranking vote) ≡ k = rw r (picked k _ (is_equal (get_or-replicate {A = ℕ} 9 (k - 1) 0 0 (omega arith)))) in
        is_differ (omega arith) ∙ sym v
    go false v = not_differ refl ∙ sym v

first_counting : (candidates : ℕ) (votes : List ℕ) → candidates ≤ 9 → counting candidates votes (replicate 9 0) ≡ how_many (valid candidates) votes
unfolding counting
first_counting candidates votes few = many_same _ _ votes (λ vote. valid_counts candidates vote few)

-- and from then on some vote counts in each round, if any is valid
some_counts : (candidates : ℕ) (votes : List ℕ) → candidates ≤ 9 → how_many (valid candidates) votes ≢ 0 → (n : ℕ)
    → counting candidates votes (after candidates votes n).left ≢ 0
unfolding start next
some_counts candidates votes few some =
    along candidates votes (λ n s. counting candidates votes s.left ≢ 0) first
    (λ n e h. go (after candidates votes n).left ((after candidates votes n).rounds + 1) h (decided candidates votes (after candidates votes n).left) refl)
    (λ n e h. h)
  where
    first : counting candidates votes (replicate 9 0) ≢ 0
    first z = some (sym (first_counting candidates votes few) ∙ z)

    go : (left : List ℕ) (r : ℕ) → counting candidates votes left ≢ 0 → (b : Bool) → decided candidates votes left ≡ b → counting candidates votes (left_after candidates votes left r) ≢ 0
    go left r h true d = rw (over_left candidates votes left r d) h
    go left r h false d = still_counts candidates votes left d r

-- "If no vote counts there is no winner.": there is none exactly if no vote is valid
pub no_winner_iff : (candidates : ℕ) (votes : List ℕ) → 1 ≤ candidates → candidates ≤ 9 → (winner candidates votes ≡ 0) ↔ (how_many (valid candidates) votes ≡ 0)
unfolding result winner decided
no_winner_iff candidates votes low few = (λ e. to e (ℕ_discrete (how_many (valid candidates) votes) 0), λ z. from z (ℕ_discrete (winner candidates votes) 0))
  where
    left : List ℕ
    left = (result candidates votes).left

    to : winner candidates votes ≡ 0 → Dec (how_many (valid candidates) votes ≡ 0) → how_many (valid candidates) votes ≡ 0
    to e (yes z) = z
    to e (no some) =
        let s = settled candidates votes candidates (ends candidates votes low few) in
        let counts = some_counts candidates votes few some candidates in
        let wins : round_winner candidates votes left ≢ 0 = (differ_iff _ 0).0 ((or_iff (equal (counting candidates votes left) 0) _).0 s.closed (not_equal counts)) in
        absurd (wins (sym s.won ∙ e))

    from : how_many (valid candidates) votes ≡ 0 → Dec (winner candidates votes ≡ 0) → winner candidates votes ≡ 0
    from z (yes e) = e
    from z (no some) =
        let w = winner_wins candidates votes low few some in
        absurd (omega (arith, w.majority, support_most candidates votes left (winner candidates votes) w.from, counting_valid candidates votes left))

-- ---- the table

-- "that candidate's last count and round of leaving, from 1, or 0 if still standing": what s says of candidate k
pub record LastCount (candidates : ℕ) (votes : List ℕ) (s : Standings) (k : ℕ) : Type 0 where
  -- one of the rounds that there were
  pub round : ℕ
  pub from : 1 ≤ round
  pub to : round ≤ s.rounds
  -- in which the candidate stood
  pub stood : standing (before candidates votes round) k ≡ true
  -- the count is that of this round
  pub count : item s.counts (k - 1) ≡ support candidates votes (before candidates votes round) k
  -- in which the candidate left, or which was the last one
  pub outcome : (item s.left (k - 1) ≡ round) ⊎ ((item s.left (k - 1) ≡ 0) × (round ≡ s.rounds))
  -- "else the one standing with fewest leaves, of equals the highest number": who has left was that one in this round, and nobody won
  -- in it
  pub open_then : item s.left (k - 1) ≢ 0 → decided candidates votes (before candidates votes round) ≡ false
  pub fewest : item s.left (k - 1) ≢ 0
      → Leaves (before candidates votes round) (support candidates votes (before candidates votes round)) candidates k

module _ (candidates : ℕ) (votes : List ℕ) (few : candidates ≤ 9) (k : ℕ) (from : 1 ≤ k) (to : k ≤ 9) where
  -- who stands in a round leaves in it, as the one with fewest, or stands behind it
  abbrev Leaving : List ℕ → ℕ → Type 0
  Leaving left r =
      ((item (left_after candidates votes left r) (k - 1) ≡ r) × (decided candidates votes left ≡ false) × Leaves left (support candidates votes left) candidates k)
      ⊎ (item (left_after candidates votes left r) (k - 1) ≡ 0)

  stood_in : (left : List ℕ) (r : ℕ) → length left ≡ 9 → standing left k ≡ true → Leaving left r
  unfolding standing
  stood_in left r long s = go (decided candidates votes left) refl (ℕ_discrete k (fewest_among left (support candidates votes left) candidates))
    where
      zero_still : item left (k - 1) ≡ 0
      zero_still = (equal_iff _ 0).0 s

      go : (b : Bool) → decided candidates votes left ≡ b → Dec (k ≡ fewest_among left (support candidates votes left) candidates) → Leaving left r
      go true d q = inr (ap (λ (l : List ℕ). item l (k - 1)) (over_left candidates votes left r d) ∙ zero_still)
      go false d (no ne) = inr (other_entry candidates votes left r k from (λ d. ne) ∙ zero_still)
      go false d (yes e) =
          inl (
            ap (λ (l : List ℕ). item l (k - 1)) (left_is candidates votes left d r ∙ ap (λ (j : ℕ). set left (j - 1) r) (sym e))
                ∙ get_or-set_same left (k - 1) r 0 (omega arith),
            d,
            rw e (leaver_is candidates votes left d),
          )

  -- who stands before round n + 1
  counted_standing : (n : ℕ) → (after candidates votes n).over ≡ false → standing (after candidates votes n).left k ≡ true
      → LastCount candidates votes (next candidates votes (after candidates votes n)) k
  unfolding next
  counted_standing n e s = go (stood_in left r (stage candidates votes few n).long s)
    where
      left : List ℕ
      left = (after candidates votes n).left

      r : ℕ
      r = (after candidates votes n).rounds + 1

      here : before candidates votes (suc n) ≡ left
      here = let q : suc n - 1 ≡ n = omega arith in ap (λ (j : ℕ). (after candidates votes j).left) q

      last : suc n ≡ r
      last = omega (arith, ((stage candidates votes few n).running e).counted)

      go : Leaving left r → LastCount candidates votes (next candidates votes (after candidates votes n)) k
      go h = record {
        round = suc n;
        from = omega arith;
        to = omega (arith, last);
        stood = rw here s;
        count = last_standing left _ (after candidates votes n).counts k from to s ∙ ap (λ (l : List ℕ). support candidates votes l k) (sym here);
        outcome = elim h [ inl t ↦ inl (t.0 ∙ sym last) | inr z ↦ inr (z, last) ];
        open_then = λ ne. elim h [ inl t ↦ rw here t.1 | inr z ↦ absurd (ne z) ];
        fewest = λ ne. elim h [ inl t ↦ rw here t.2 | inr z ↦ absurd (ne z) ];
      }

  -- who left before keeps what was said
  counted_gone : (n : ℕ) → standing (after candidates votes n).left k ≡ false → LastCount candidates votes (after candidates votes n) k
      → LastCount candidates votes (next candidates votes (after candidates votes n)) k
  unfolding next standing
  counted_gone n gone h = record {
    round = h.round;
    from = h.from;
    to = omega (arith, h.to);
    stood = h.stood;
    count = last_gone (after candidates votes n).left _ (after candidates votes n).counts k from to gone ∙ h.count;
    outcome = elim h.outcome [ inl e ↦ inl (same ∙ e) | inr t ↦ absurd (some t.0) ];
    open_then = λ ne. h.open_then some;
    fewest = λ ne. h.fewest some;
  }
    where
      some : item (after candidates votes n).left (k - 1) ≢ 0
      some = (unequal_iff _ 0).0 gone

      same : item (left_after candidates votes (after candidates votes n).left ((after candidates votes n).rounds + 1)) (k - 1) ≡ item (after candidates votes n).left (k - 1)
      same = gone_entry candidates votes (after candidates votes n).left ((after candidates votes n).rounds + 1) k from some

  -- after a round: it was the first, or the one before it was the last, or not
  counted_next : (n : ℕ) → (after candidates votes n).over ≡ false
      → (standing (after candidates votes n).left k ≡ false → LastCount candidates votes (after candidates votes n) k)
      → LastCount candidates votes (next candidates votes (after candidates votes n)) k
  counted_next n e h = go (standing (after candidates votes n).left k) refl
    where
      go : (b : Bool) → standing (after candidates votes n).left k ≡ b → LastCount candidates votes (next candidates votes (after candidates votes n)) k
      go true s = counted_standing n e s
      go false s = counted_gone n s (h s)

  counted_from : (n : ℕ) → LastCount candidates votes (after candidates votes (suc n)) k
  unfolding onward start standing
  counted_from zero =
      rw (after_next candidates votes 0 refl) (counted_next 0 refl (λ s. absurd (never (is_equal (get_or-replicate {A = ℕ} 9 (k - 1) 0 0 (omega arith))) s)))
  counted_from (suc n) = go (after candidates votes (suc n)).over refl (counted_from n)
    where
      go : (b : Bool) → (after candidates votes (suc n)).over ≡ b → LastCount candidates votes (after candidates votes (suc n)) k
          → LastCount candidates votes (after candidates votes (suc (suc n))) k
      go true e h = rw (after_over candidates votes (suc n) e) h
      go false e h = rw (after_next candidates votes (suc n) e) (counted_next (suc n) e (λ s. h))

-- each entry of the table is the count in the last round in which the candidate stood, and the round of leaving
pub last_count : (candidates : ℕ) (votes : List ℕ) → candidates ≤ 9 → (k : ℕ) → 1 ≤ k → k ≤ candidates → LastCount candidates votes (result candidates votes) k
unfolding result
last_count candidates votes few k from to =
    let e : suc (candidates - 1) ≡ candidates = omega arith in
    rw e at (counted_from candidates votes few k from (omega arith) (candidates - 1))

-- ---- who leaves in a round

-- in round r one candidate leaves: "the one standing with fewest .., of equals the highest number"; the table has that round for that
-- candidate and for no other
pub record OneLeaves (candidates : ℕ) (votes : List ℕ) (r : ℕ) : Type 0 where
  pub candidate : ℕ
  pub fewest : Leaves (before candidates votes r) (support candidates votes (before candidates votes r)) candidates candidate
  pub entry : item (result candidates votes).left (candidate - 1) ≡ r
  pub only : (j : ℕ) → 1 ≤ j → j ≤ candidates → item (result candidates votes).left (j - 1) ≡ r → j ≡ candidate

-- so it is in each round but the last
pub one_leaves : (candidates : ℕ) (votes : List ℕ) → 1 ≤ candidates → candidates ≤ 9 → (r : ℕ) → 1 ≤ r → r < (result candidates votes).rounds
    → OneLeaves candidates votes r
unfolding next
one_leaves candidates votes low few r from to = record { candidate = k; fewest = l; entry = entry; only = only }
  where
    d : decided candidates votes (before candidates votes r) ≡ false
    d = open_before candidates votes few r from to

    k : ℕ
    k = fewest_among (before candidates votes r) (support candidates votes (before candidates votes r)) candidates

    l : Leaves (before candidates votes r) (support candidates votes (before candidates votes r)) candidates k
    l = leaver_is candidates votes (before candidates votes r) d

    -- it was not over before
    on : (b : Bool) → (after candidates votes (r - 1)).over ≡ b → (after candidates votes (r - 1)).over ≡ false
    on false e = e
    on true e =
        let same : after candidates votes (r - 1) ≡ result candidates votes =
        sym (over_on candidates votes (r - 1) candidates e) ∙ more_is_same candidates votes low few (candidates + (r - 1)) (omega arith) in
        absurd (omega (arith, ap (λ (s : Standings). s.rounds) same, rounds_most candidates votes (r - 1)))

    running : (after candidates votes (r - 1)).over ≡ false
    running = on (after candidates votes (r - 1)).over refl

    now : item (after candidates votes (suc (r - 1))).left (k - 1) ≡ r
    now =
        let round : ℕ = (after candidates votes (r - 1)).rounds + 1 in
        ap (λ (s : Standings). item s.left (k - 1)) (after_next candidates votes (r - 1) running)
        ∙ ap (λ (a : List ℕ). item a (k - 1)) (left_is candidates votes (before candidates votes r) d round)
        ∙ get_or-set_same (before candidates votes r) (k - 1) round 0 (omega (arith, l.from, l.to, (stage candidates votes few (r - 1)).long))
        ∙ omega (arith, ((stage candidates votes few (r - 1)).running running).counted)

    entry : item (result candidates votes).left (k - 1) ≡ r
    entry = left_stays candidates votes low few k (suc (r - 1)) l.from (λ z. absurd (omega (arith, now))) ∙ now

    only : (j : ℕ) → 1 ≤ j → j ≤ candidates → item (result candidates votes).left (j - 1) ≡ r → j ≡ k
    only j a b e = go (last_count candidates votes few j a b)
      where
        go : LastCount candidates votes (result candidates votes) j → j ≡ k
        go h = elim h.outcome [
          | inl q ↦
              let here : h.round ≡ r = sym q ∙ e in
              let left : Leaves (before candidates votes h.round) (support candidates votes (before candidates votes h.round)) candidates j = h.fewest (λ z. absurd (omega arith)) in
              leaves_one (rw here at left) l
          | inr t ↦ absurd (omega (arith, t.0))
        ]
