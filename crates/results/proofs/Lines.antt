-- The lines of a tally, read from the outputs that the tally filled.
use mathlib.Core.Path.{◌≡◌, refl, sym, ap, ap₂, ◌∙◌}
use mathlib.Core.Bool.{Bool, true, false}
use mathlib.Core.List.{List, [], ◌∷◌, ◌++◌, map}
use Prim.Native.Nat.{ℕ, zero, suc, ◌-◌, ◌≤◌, ◌<◌}
use native.Mathlib.Omega.{arith}
use lib.ListN.{length, drop, length-append, length-map, get_or-append}
use Rattle.laws.specs.Tests.{equal, differ, ◌or◌, pick}
use Rattle.laws.specs.Sums.{times}
use Rattle.laws.specs.Chunks.{chunks, chunks_same}
use Rattle.protocol.specs.Terms.{item, decimal}
use Rattle.protocol.specs.declared.Parameters.{Parameters}
use Rattle.protocol.proofs.Announced.{announced_length}
use Rattle.protocol.specs.Results.{announced_votes, fresh, distinct_votes, vote_counts, in_front, tally_line, tally_lines}
use Rattle.decimals.proofs.Digits.{decimal_length}
use Rattle.results.specs.Pages.{LinesReady, LinesRoom, AnnouncedRoom}
use Rattle.results.proofs.Distinct.{times_most}

pub line_length : (vote count : ℕ) → length (tally_line vote count) ≤ 22
unfolding tally_line
line_length vote count =
    omega (
      arith,
      decimal_length vote,
      decimal_length count,
      length-append (decimal vote ++ (32 ∷ [])) (decimal count ++ (10 ∷ [])),
      length-append (decimal vote) (32 ∷ []),
      length-append (decimal count) (10 ∷ []),
    )

-- ---- what the tally wrote, as it is read

-- no more distinct votes than votes
distinct_few : (votes : List ℕ) (n : ℕ) → length (chunks (fresh votes) n) ≤ n
unfolding fresh
distinct_few votes zero = omega arith
distinct_few votes (suc n) =
    omega (
      arith,
      distinct_few votes n,
      length-append (chunks (fresh votes) n) (fresh votes n),
      one (equal n 0 or differ (item votes (n - 1)) (item votes n)) (item votes n),
    )
  where
    one : (b : Bool) (x : ℕ) → length (pick b (x ∷ []) []) ≤ 1
    one true x = omega arith
    one false x = omega arith

item_map : (f : ℕ → ℕ) (l : List ℕ) (i : ℕ) → i < length l → item (map f l) i ≡ f (item l i)
item_map f [] i h = absurd (omega arith)
item_map f (x ∷ xs) zero h = refl
item_map f (x ∷ xs) (suc i) h = item_map f xs i (omega arith)

item_front : (v l : List ℕ) {out : List ℕ} (i : ℕ) → out ≡ in_front v l → i < length v → item out i ≡ item v i
unfolding in_front
item_front v l i e h = ap (λ (o : List ℕ). item o i) e ∙ get_or-append v (drop (length v) l) 0 i h

-- what stands in front of an output is no longer than it
pub front_length : (v l : List ℕ) {out : List ℕ} → out ≡ in_front v l → length v ≤ length out
unfolding in_front
front_length v l e = omega (arith, ap length e, length-append v (drop (length v) l))

module _ (votes values₀ counts₀ : List ℕ) {values counts : List ℕ} {pairs : ℕ} (v : values ≡ in_front (distinct_votes votes) values₀)
    (c : counts ≡ in_front (vote_counts votes) counts₀) (n : pairs ≡ length (distinct_votes votes)) where
  counts_long : length (vote_counts votes) ≡ length (distinct_votes votes)
  unfolding vote_counts
  counts_long = length-map (distinct_votes votes) _

  -- how often a vote was announced is at most the number of votes
  count_few : (i : ℕ) → i < pairs → item counts i ≤ length votes
  unfolding vote_counts
  count_few i h =
      let x = item (distinct_votes votes) i in
      let e = item_map (λ v. times v (item votes) (length votes)) (distinct_votes votes) i (omega arith) in
      omega (arith, item_front (vote_counts votes) counts₀ i c (omega (arith, counts_long)), e, times_most x (item votes) (length votes))

  pub lines_ready : {out_long at : ℕ} → LinesRoom votes (length values₀) (length counts₀) out_long at → LinesReady values counts pairs out_long at
  unfolding distinct_votes
  lines_ready r = record {
    values_long = omega (arith, front_length (distinct_votes votes) values₀ v);
    counts_long = omega (arith, front_length (vote_counts votes) counts₀ c, counts_long);
    counts_small = λ i h. omega (arith, count_few i h, r.few);
    room = omega (arith, r.room, distinct_few votes (length votes));
  }

  pub lines_are : chunks (λ i. tally_line (item values i) (item counts i)) pairs ≡ tally_lines votes
  unfolding tally_lines
  lines_are =
      let f : ℕ → List ℕ = λ i. tally_line (item (distinct_votes votes) i) (item (vote_counts votes) i) in
      chunks_same (λ i. tally_line (item values i) (item counts i)) f pairs
      (λ i h. ap₂ tally_line (item_front (distinct_votes votes) values₀ i v (omega arith)) (item_front (vote_counts votes) counts₀ i c (omega (arith, counts_long))))
      ∙ ap (chunks f) n

-- ---- the votes that a record announces

-- votes that were read are ready to be tallied, and their lines have room
pub lines_room : {p : Parameters} {r : List ℕ} {votes_long values_long counts_long out_long at : ℕ} {votes : List ℕ}
    → AnnouncedRoom p r votes_long values_long counts_long out_long at → votes ≡ announced_votes r → LinesRoom votes values_long counts_long out_long at
lines_room {p} {r} a e =
    let long : length (announced_votes r) ≡ p.ballots = announced_length r ∙ ap (λ (q : Parameters). q.ballots) (sym a.votes.is) in
    rw e (record {
      tally = record { values_long = omega (arith, a.values_long, long); counts_long = omega (arith, a.counts_long, long); rises = a.rises };
      few = omega (arith, long, a.votes.few.ballots);
      room = omega (arith, long, a.votes.few.ballots, a.room);
    })
