-- The lengths of the three parts, and where each command stands in the bytes that say it.
use mathlib.Core.Path.{◌≡◌, refl, sym, ap, ◌∙◌}
use mathlib.Core.List.{List, [], ◌∷◌, ◌++◌}
use Prim.Native.Nat.{ℕ, zero, suc, ◌+◌, ◌-◌, ◌*◌, ◌^◌, ◌≤◌, ◌<◌}
use native.Mathlib.Nat.{le_refl, le_of_lt}
use native.Mathlib.Omega.{arith}
use lib.Count.{ones}
use lib.ListN.{length, length-append}
use Rattle.laws.specs.Tests.{choose, choose_clear, choose_set}
use Rattle.laws.specs.Masks.{bit, set_before, clear_before, set_ones, set_clear, bit_small}
use Rattle.laws.specs.Chunks.{chunks, start, chunks_length, chunks_even, start_even, start_counted}
use Rattle.laws.specs.At.{At, at_self, at_move, at_same, at_left, at_right, at_chunk}
use Rattle.protocol.specs.declared.Parameters.{Parameters}
use Rattle.protocol.specs.Tablet.{ballot_command}
use Rattle.protocol.specs.Layout.{number_width, lists, at_ballot, at_entry, at_first_dice, at_link, at_second_dice, at_ballot_half, at_list_half, at_vote, at_full_opening, at_end, part_one_length, part_two_length, part_three_length}
use Rattle.protocol.specs.Record.{Board, Comparison, Disclosure, first_command, entry_command, first_dice_command, link_command, second_dice_command, ballot_half_command, list_half_command, vote_command, full_command, part_one, part_two, halves, part_three, encoding}
use Rattle.protocol.proofs.Fitting.{Fits}
use Rattle.protocol.proofs.Widths.{length_first, length_ballot, length_entry, length_first_dice, length_link, length_second_dice, length_ballot_half, length_list_half, length_vote, length_full}

-- ---- what is there for a set bit only, or for a clear one

set_long : (b w : ℕ) (l : List ℕ) → b < 2 → (b ≡ 1 → length l ≡ w) → length (choose b [] l) ≡ b * w
unfolding choose
set_long zero w l h e = omega arith
set_long (suc b) w l h e = let z : b ≡ 0 = omega arith in omega (arith, e (omega arith), ap (λ (x : ℕ). suc x * w) z)

clear_long : (b w : ℕ) (l : List ℕ) → b < 2 → (b ≡ 0 → length l ≡ w) → length (choose b l []) ≡ (1 - b) * w
unfolding choose
clear_long zero w l h e = omega (arith, e refl)
clear_long (suc b) w l h e = let z : b ≡ 0 = omega arith in rw z (omega arith)

module _ (mask w k : ℕ) (f : ℕ → List ℕ) where
  start_where_set : ((l : ℕ) → l < k → bit mask l ≡ 1 → length (f l) ≡ w) → (l : ℕ) → l ≤ k → start (λ l. choose (bit mask l) [] (f l)) l ≡ set_before mask l * w
  start_where_set wide = start_counted (λ l. choose (bit mask l) [] (f l)) (bit mask) w k (λ l h. set_long (bit mask l) w (f l) (bit_small mask l) (wide l h))

  start_where_clear : ((l : ℕ) → l < k → bit mask l ≡ 0 → length (f l) ≡ w) → (l : ℕ) → l ≤ k → start (λ l. choose (bit mask l) (f l) []) l ≡ clear_before mask l * w
  start_where_clear wide =
      start_counted (λ l. choose (bit mask l) (f l) []) (λ l. 1 - bit mask l) w k (λ l h. clear_long (bit mask l) w (f l) (bit_small mask l) (wide l h))

-- ---- part one

module _ (b : Board)
    (ballots : (j q : ℕ) → j < b.parameters.ballots → q < 6 → length (b.ballot_commitment j q) ≡ 32)
    (entries : (l i q : ℕ) → l < lists b.parameters → i < b.parameters.ballots → q < 6 → length (b.entry_commitment l i q) ≡ 32) where
  ballot_long : (j : ℕ) → j < b.parameters.ballots → length (ballot_command (b.id j) (b.ballot_commitment j)) ≡ 197
  ballot_long j lj = length_ballot (b.id j) (b.ballot_commitment j) (λ q lq. ballots j q lj lq)

  entry_long : (l i : ℕ) → l < lists b.parameters → i < b.parameters.ballots → length (entry_command l i (b.entry_commitment l i)) ≡ 196
  entry_long l i ll li = length_entry l i (b.entry_commitment l i) (λ q lq. entries l i q ll li lq)

  entries_long : (l : ℕ) → l < lists b.parameters → length (chunks (λ i. entry_command l i (b.entry_commitment l i)) b.parameters.ballots) ≡ b.parameters.ballots * 196
  entries_long l ll = chunks_even (λ i. entry_command l i (b.entry_commitment l i)) 196 b.parameters.ballots (λ i li. entry_long l i ll li)

  pub length_part_one : length (part_one b) ≡ part_one_length b.parameters
  unfolding part_one at_first_dice
  length_part_one =
      let n = b.parameters.ballots in
      let m = lists b.parameters in
      let ballot : ℕ → List ℕ = λ j. ballot_command (b.id j) (b.ballot_commitment j) in
      let entry : ℕ → List ℕ = λ l. chunks (λ i. entry_command l i (b.entry_commitment l i)) n in
      omega (
        arith,
        length-append (first_command b.parameters) (chunks ballot n ++ chunks entry m),
        length-append (chunks ballot n) (chunks entry m),
        length_first b.parameters,
        chunks_even ballot 197 n ballot_long,
        chunks_even entry (n * 196) m entries_long,
      )

  pub first_in : At (part_one b) 0 (first_command b.parameters)
  unfolding part_one
  first_in = at_left _ (at_self (first_command b.parameters))

  pub ballot_in : (j : ℕ) → j < b.parameters.ballots → At (part_one b) (at_ballot b.parameters j) (ballot_command (b.id j) (b.ballot_commitment j))
  unfolding part_one at_ballot
  ballot_in j lj =
      let n = b.parameters.ballots in
      let ballot : ℕ → List ℕ = λ j. ballot_command (b.id j) (b.ballot_commitment j) in
      at_move (omega (arith, length_first b.parameters, start_even ballot 197 n ballot_long j (le_of_lt lj)))
      (at_right (first_command b.parameters) (at_left _ (at_chunk ballot n j lj (at_self (ballot j)))))

  entry_in : (l i : ℕ) → l < lists b.parameters → i < b.parameters.ballots → At (part_one b) (at_entry b.parameters l i) (entry_command l i (b.entry_commitment l i))
  unfolding part_one at_entry
  entry_in l i ll li =
      let n = b.parameters.ballots in
      let ballot : ℕ → List ℕ = λ j. ballot_command (b.id j) (b.ballot_commitment j) in
      let entry : ℕ → ℕ → List ℕ = λ l i. entry_command l i (b.entry_commitment l i) in
      at_move (omega (
        arith,
        length_first b.parameters,
        chunks_even ballot 197 n ballot_long,
        start_even (λ l. chunks (entry l) n) (n * 196) (lists b.parameters) entries_long l (le_of_lt ll),
        start_even (entry l) 196 n (λ i li. entry_long l i ll li) i (le_of_lt li),
      ))
      (at_right (first_command b.parameters) (at_right (chunks ballot n)
      (at_chunk (λ l. chunks (entry l) n) (lists b.parameters) l ll (at_chunk (entry l) n i li (at_self (entry l i))))))

-- ---- part two

module _ (p : Parameters) (k : Comparison) (counted : ones k.mask ≡ p.compared) (small : k.mask < 2 ^ lists p) (fair : length k.dice ≡ 30) where
  links_long : (l : ℕ) → length (chunks (λ j. link_command l j (k.position l j) (k.shift l j)) p.ballots) ≡ p.ballots * 10
  links_long l = chunks_even (λ j. link_command l j (k.position l j) (k.shift l j)) 10 p.ballots (λ j lj. length_link l j (k.position l j) (k.shift l j))

  links_start : (l : ℕ) → l ≤ lists p
      → start (λ l. choose (bit k.mask l) [] (chunks (λ j. link_command l j (k.position l j) (k.shift l j)) p.ballots)) l ≡ set_before k.mask l * (p.ballots * 10)
  links_start =
      start_where_set k.mask (p.ballots * 10) (lists p) (λ l. chunks (λ j. link_command l j (k.position l j) (k.shift l j)) p.ballots) (λ l ll e. links_long l)

  pub length_part_two : length (part_two p k) ≡ part_two_length p
  unfolding part_two
  length_part_two =
      let links : ℕ → List ℕ = λ l. choose (bit k.mask l) [] (chunks (λ j. link_command l j (k.position l j) (k.shift l j)) p.ballots) in
      let all : set_before k.mask (lists p) ≡ p.compared = set_ones (lists p) k.mask small ∙ counted in
      omega (
        arith,
        length-append (first_dice_command k.dice k.mask) (chunks links (lists p)),
        length_first_dice k.dice k.mask fair,
        chunks_length links (lists p) ∙ links_start (lists p) (le_refl (lists p)) ∙ ap (λ (x : ℕ). x * (p.ballots * 10)) all,
      )

  first_dice_in : At (part_two p k) 0 (first_dice_command k.dice k.mask)
  unfolding part_two
  first_dice_in = at_left _ (at_self (first_dice_command k.dice k.mask))

  link_in : (l j : ℕ) → l < lists p → bit k.mask l ≡ 1 → j < p.ballots
      → At (part_two p k) (35 + 10 * (set_before k.mask l * p.ballots + j)) (link_command l j (k.position l j) (k.shift l j))
  unfolding part_two
  link_in l j ll e lj =
      let n = p.ballots in
      let link : ℕ → ℕ → List ℕ = λ l j. link_command l j (k.position l j) (k.shift l j) in
      at_move (omega (
        arith,
        length_first_dice k.dice k.mask fair,
        links_start l (le_of_lt ll),
        start_even (link l) 10 n (λ j lj. length_link l j (k.position l j) (k.shift l j)) j (le_of_lt lj),
      ))
      (at_right (first_dice_command k.dice k.mask) (at_chunk (λ l. choose (bit k.mask l) [] (chunks (link l) n)) (lists p) l ll
      (at_same (sym (choose_set (bit k.mask l) [] (chunks (link l) n) (omega arith))) (at_chunk (link l) n j lj (at_self (link l j))))))

-- ---- part three

module _ (p : Parameters) (mask : ℕ) (position : ℕ → ℕ → ℕ) (d : Disclosure)
    (counted : ones mask ≡ p.compared) (small : mask < 2 ^ lists p) (fair : length d.dice ≡ 30)
    (ballots : (j c : ℕ) → j < p.ballots → c < 3 → length (d.ballot_opening j c) ≡ 36)
    (entries : (l j c : ℕ) → l < lists p → bit mask l ≡ 1 → j < p.ballots → c < 3 → length (d.list_opening l j c) ≡ 36)
    (fulls : (l i q : ℕ) → l < lists p → bit mask l ≡ 0 → i < p.ballots → q < 6 → length (d.full_opening l i q) ≡ 36) where
  set_all : set_before mask (lists p) ≡ p.compared
  set_all = set_ones (lists p) mask small ∙ counted

  clear_all : clear_before mask (lists p) ≡ p.compared
  clear_all = omega (arith, set_clear mask (lists p), set_all)

  ballot_half_long : (j : ℕ) → j < p.ballots → length (ballot_half_command j (d.side j) (d.ballot_opening j)) ≡ 112
  ballot_half_long j lj = length_ballot_half j (d.side j) (d.ballot_opening j) (λ c lc. ballots j c lj lc)

  list_half_start : (j : ℕ) → j < p.ballots → (l : ℕ) → l ≤ lists p
      → start (λ l. choose (bit mask l) [] (list_half_command l (position l j) (d.list_opening l j))) l ≡ set_before mask l * 112
  list_half_start j lj =
      start_where_set mask 112 (lists p) (λ l. list_half_command l (position l j) (d.list_opening l j))
      (λ l ll e. length_list_half l (position l j) (d.list_opening l j) (λ c lc. entries l j c ll e lj lc))

  halves_long : (j : ℕ) → j < p.ballots → length (halves p mask position d j) ≡ 112 * (p.compared + 1)
  unfolding halves
  halves_long j lj =
      let part : ℕ → List ℕ = λ l. choose (bit mask l) [] (list_half_command l (position l j) (d.list_opening l j)) in
      omega (
        arith,
        length-append (ballot_half_command j (d.side j) (d.ballot_opening j)) (chunks part (lists p)),
        ballot_half_long j lj,
        chunks_length part (lists p) ∙ list_half_start j lj (lists p) (le_refl (lists p)),
        set_all,
      )

  full_long : (l : ℕ) → l < lists p → bit mask l ≡ 0 → (i : ℕ) → i < p.ballots → length (full_command l i (d.full_opening l i)) ≡ 220
  full_long l ll e i li = length_full l i (d.full_opening l i) (λ q lq. fulls l i q ll e li lq)

  fulls_start : (l : ℕ) → l ≤ lists p
      → start (λ l. choose (bit mask l) (chunks (λ i. full_command l i (d.full_opening l i)) p.ballots) []) l ≡ clear_before mask l * (p.ballots * 220)
  fulls_start =
      start_where_clear mask (p.ballots * 220) (lists p) (λ l. chunks (λ i. full_command l i (d.full_opening l i)) p.ballots)
      (λ l ll e. chunks_even (λ i. full_command l i (d.full_opening l i)) 220 p.ballots (full_long l ll e))

  all_halves : length (chunks (halves p mask position d) p.ballots) ≡ p.ballots * (112 * (p.compared + 1))
  all_halves = chunks_even (halves p mask position d) (112 * (p.compared + 1)) p.ballots halves_long

  all_votes : length (chunks (λ i. vote_command i (d.vote i)) p.ballots) ≡ p.ballots * 7
  all_votes = chunks_even (λ i. vote_command i (d.vote i)) 7 p.ballots (λ i li. length_vote i (d.vote i))

  all_fulls : length (chunks (λ l. choose (bit mask l) (chunks (λ i. full_command l i (d.full_opening l i)) p.ballots) []) (lists p)) ≡ p.compared * (p.ballots * 220)
  all_fulls =
      chunks_length (λ l. choose (bit mask l) (chunks (λ i. full_command l i (d.full_opening l i)) p.ballots) []) (lists p)
      ∙ fulls_start (lists p) (le_refl (lists p)) ∙ ap (λ (x : ℕ). x * (p.ballots * 220)) clear_all

  pub length_part_three : length (part_three p mask position d) ≡ part_three_length p
  unfolding part_three part_three_length
  length_part_three =
      let n = p.ballots in
      let half : List ℕ = chunks (halves p mask position d) n in
      let vote : List ℕ = chunks (λ i. vote_command i (d.vote i)) n in
      let full : List ℕ = chunks (λ l. choose (bit mask l) (chunks (λ i. full_command l i (d.full_opening l i)) n) []) (lists p) in
      omega (
        arith,
        length-append (second_dice_command d.dice) (half ++ (vote ++ (full ++ (11 ∷ [])))),
        length-append half (vote ++ (full ++ (11 ∷ []))),
        length-append vote (full ++ (11 ∷ [])),
        length-append full (11 ∷ []),
        length_second_dice d.dice fair,
        all_halves,
        all_votes,
        all_fulls,
      )

  second_dice_in : At (part_three p mask position d) 0 (second_dice_command d.dice)
  unfolding part_three
  second_dice_in = at_left _ (at_self (second_dice_command d.dice))

  -- in a ballot's half and what belongs to it
  halves_in_lem : {c : List ℕ} {a : ℕ} (j : ℕ) → j < p.ballots → At (halves p mask position d j) a c → At (part_three p mask position d) (31 + 112 * (j * (p.compared + 1)) + a) c
  unfolding part_three
  halves_in_lem j lj h =
      at_move (omega (arith, length_second_dice d.dice fair, start_even (halves p mask position d) (112 * (p.compared + 1)) p.ballots halves_long j (le_of_lt lj)))
      (at_right (second_dice_command d.dice) (at_left _ (at_chunk (halves p mask position d) p.ballots j lj h)))

  ballot_half_in : (j : ℕ) → j < p.ballots → At (part_three p mask position d) (31 + 112 * (j * (p.compared + 1))) (ballot_half_command j (d.side j) (d.ballot_opening j))
  unfolding halves
  ballot_half_in j lj = at_move (omega arith) (halves_in_lem j lj (at_left _ (at_self (ballot_half_command j (d.side j) (d.ballot_opening j)))))

  list_half_in : (l j : ℕ) → l < lists p → bit mask l ≡ 1 → j < p.ballots
      → At (part_three p mask position d) (31 + 112 * (j * (p.compared + 1)) + (112 + 112 * set_before mask l)) (list_half_command l (position l j) (d.list_opening l j))
  unfolding halves
  list_half_in l j ll e lj =
      let part : ℕ → List ℕ = λ l. list_half_command l (position l j) (d.list_opening l j) in
      halves_in_lem j lj
      (at_move (omega (arith, ballot_half_long j lj, list_half_start j lj l (le_of_lt ll)))
      (at_right (ballot_half_command j (d.side j) (d.ballot_opening j)) (at_chunk (λ l. choose (bit mask l) [] (part l)) (lists p) l ll
      (at_same (sym (choose_set (bit mask l) [] (part l) (omega arith))) (at_self (part l))))))

  vote_in : (i : ℕ) → i < p.ballots → At (part_three p mask position d) (31 + 112 * (p.ballots * (p.compared + 1)) + 7 * i) (vote_command i (d.vote i))
  unfolding part_three
  vote_in i li =
      let vote : ℕ → List ℕ = λ i. vote_command i (d.vote i) in
      at_move (omega (arith, length_second_dice d.dice fair, all_halves, start_even vote 7 p.ballots (λ i li. length_vote i (d.vote i)) i (le_of_lt li)))
      (at_right (second_dice_command d.dice) (at_right (chunks (halves p mask position d) p.ballots) (at_left _ (at_chunk vote p.ballots i li (at_self (vote i))))))

  -- behind the votes
  behind_votes : {c : List ℕ} {a : ℕ}
      → At (chunks (λ l. choose (bit mask l) (chunks (λ i. full_command l i (d.full_opening l i)) p.ballots) []) (lists p) ++ (11 ∷ [])) a c
      → At (part_three p mask position d) (31 + 112 * (p.ballots * (p.compared + 1)) + 7 * p.ballots + a) c
  unfolding part_three
  behind_votes h =
      at_move (omega (arith, length_second_dice d.dice fair, all_halves, all_votes))
      (at_right (second_dice_command d.dice) (at_right (chunks (halves p mask position d) p.ballots) (at_right (chunks (λ i. vote_command i (d.vote i)) p.ballots) h)))

  full_in : (l i : ℕ) → l < lists p → bit mask l ≡ 0 → i < p.ballots
      → At (part_three p mask position d) (31 + 112 * (p.ballots * (p.compared + 1)) + 7 * p.ballots + 220 * (clear_before mask l * p.ballots + i)) (full_command l i (d.full_opening l i))
  full_in l i ll e li =
      let n = p.ballots in
      let full : ℕ → ℕ → List ℕ = λ l i. full_command l i (d.full_opening l i) in
      behind_votes
      (at_move (omega (arith, fulls_start l (le_of_lt ll), start_even (full l) 220 n (full_long l ll e) i (le_of_lt li)))
      (at_left (11 ∷ []) (at_chunk (λ l. choose (bit mask l) (chunks (full l) n) []) (lists p) l ll
      (at_same (sym (choose_clear (bit mask l) (chunks (full l) n) [] e)) (at_chunk (full l) n i li (at_self (full l i)))))))

  end_in : At (part_three p mask position d) (31 + 112 * (p.ballots * (p.compared + 1)) + 7 * p.ballots + 220 * (p.compared * p.ballots)) (11 ∷ [])
  end_in =
      behind_votes
      (at_move (omega (arith, all_fulls))
      (at_right (chunks (λ l. choose (bit mask l) (chunks (λ i. full_command l i (d.full_opening l i)) p.ballots) []) (lists p)) (at_self (11 ∷ []))))

-- ---- the whole

module _ (b : Board) (k : Comparison) (d : Disclosure) (f : Fits b k d) where
  one_long : length (part_one b) ≡ at_first_dice b.parameters
  one_long = length_part_one b f.ballot_commitments f.entry_commitments

  two_long : length (part_two b.parameters k) ≡ part_two_length b.parameters
  two_long = length_part_two b.parameters k f.mask_ones f.mask_below f.first_dice

  three_long : length (part_three b.parameters k.mask k.position d) ≡ part_three_length b.parameters
  three_long =
      length_part_three b.parameters k.mask k.position d f.mask_ones f.mask_below f.second_dice f.ballot_openings f.list_openings f.full_openings

  pub length_two_parts : length (part_one b ++ part_two b.parameters k) ≡ at_second_dice b.parameters
  unfolding at_second_dice
  length_two_parts = omega (arith, length-append (part_one b) (part_two b.parameters k), one_long, two_long)

  -- "The whole is 75 + 316n + 734mn bytes.", or 4 bytes longer
  pub length_encoding : length (encoding b k d) ≡ 75 + number_width b.parameters.form + 316 * b.parameters.ballots + 734 * (b.parameters.compared * b.parameters.ballots)
  unfolding encoding at_first_dice part_three_length
  length_encoding =
      let two : List ℕ = part_two b.parameters k in
      let three : List ℕ = part_three b.parameters k.mask k.position d in
      omega (arith, length-append (part_one b) (two ++ three), length-append two three, one_long, two_long, three_long)

  -- in each of the parts
  in_one : {c : List ℕ} {a : ℕ} → At (part_one b) a c → At (encoding b k d) a c
  unfolding encoding
  in_one h = at_left (part_two b.parameters k ++ part_three b.parameters k.mask k.position d) h

  in_two : {c : List ℕ} {a : ℕ} → At (part_two b.parameters k) a c → At (encoding b k d) (at_first_dice b.parameters + a) c
  unfolding encoding
  in_two h = at_move (omega (arith, one_long)) (at_right (part_one b) (at_left (part_three b.parameters k.mask k.position d) h))

  in_three : {c : List ℕ} {a : ℕ} → At (part_three b.parameters k.mask k.position d) a c → At (encoding b k d) (at_second_dice b.parameters + a) c
  unfolding encoding at_second_dice
  in_three h = at_move (omega (arith, one_long, two_long)) (at_right (part_one b) (at_right (part_two b.parameters k) h))

  -- the commands
  pub at_first : At (encoding b k d) 0 (first_command b.parameters)
  at_first = in_one (first_in b f.ballot_commitments f.entry_commitments)

  pub at_ballot_lem : (j : ℕ) → j < b.parameters.ballots → At (encoding b k d) (at_ballot b.parameters j) (ballot_command (b.id j) (b.ballot_commitment j))
  at_ballot_lem j lj = in_one (ballot_in b f.ballot_commitments f.entry_commitments j lj)

  pub at_entry_lem : (l i : ℕ) → l < lists b.parameters → i < b.parameters.ballots
      → At (encoding b k d) (at_entry b.parameters l i) (entry_command l i (b.entry_commitment l i))
  at_entry_lem l i ll li = in_one (entry_in b f.ballot_commitments f.entry_commitments l i ll li)

  pub at_first_dice_lem : At (encoding b k d) (at_first_dice b.parameters) (first_dice_command k.dice k.mask)
  at_first_dice_lem = at_move (omega arith) (in_two (first_dice_in b.parameters k f.mask_ones f.mask_below f.first_dice))

  pub at_link_lem : (l j : ℕ) → l < lists b.parameters → bit k.mask l ≡ 1 → j < b.parameters.ballots
      → At (encoding b k d) (at_link b.parameters (set_before k.mask l) j) (link_command l j (k.position l j) (k.shift l j))
  unfolding at_link
  at_link_lem l j ll e lj = at_move (omega arith) (in_two (link_in b.parameters k f.mask_ones f.mask_below f.first_dice l j ll e lj))

  pub at_second_dice_lem : At (encoding b k d) (at_second_dice b.parameters) (second_dice_command d.dice)
  at_second_dice_lem =
      at_move (omega arith)
      (in_three (second_dice_in b.parameters k.mask k.position d f.mask_ones f.mask_below f.second_dice f.ballot_openings f.list_openings f.full_openings))

  pub at_ballot_half_lem : (j : ℕ) → j < b.parameters.ballots
      → At (encoding b k d) (at_ballot_half b.parameters j) (ballot_half_command j (d.side j) (d.ballot_opening j))
  unfolding at_ballot_half
  at_ballot_half_lem j lj =
      at_move (omega arith)
      (in_three (ballot_half_in b.parameters k.mask k.position d f.mask_ones f.mask_below f.second_dice f.ballot_openings f.list_openings f.full_openings j lj))

  pub at_list_half_lem : (l j : ℕ) → l < lists b.parameters → bit k.mask l ≡ 1 → j < b.parameters.ballots
      → At (encoding b k d) (at_list_half b.parameters j (set_before k.mask l)) (list_half_command l (k.position l j) (d.list_opening l j))
  unfolding at_list_half at_ballot_half
  at_list_half_lem l j ll e lj =
      at_move (omega arith)
      (in_three (list_half_in b.parameters k.mask k.position d f.mask_ones f.mask_below f.second_dice f.ballot_openings f.list_openings f.full_openings l j ll e lj))

  pub at_vote_lem : (i : ℕ) → i < b.parameters.ballots → At (encoding b k d) (at_vote b.parameters i) (vote_command i (d.vote i))
  unfolding at_vote at_ballot_half
  at_vote_lem i li =
      at_move (omega arith)
      (in_three (vote_in b.parameters k.mask k.position d f.mask_ones f.mask_below f.second_dice f.ballot_openings f.list_openings f.full_openings i li))

  pub at_full : (l i : ℕ) → l < lists b.parameters → bit k.mask l ≡ 0 → i < b.parameters.ballots
      → At (encoding b k d) (at_full_opening b.parameters (clear_before k.mask l) i) (full_command l i (d.full_opening l i))
  unfolding at_full_opening at_vote at_ballot_half
  at_full l i ll e li =
      at_move (omega arith)
      (in_three (full_in b.parameters k.mask k.position d f.mask_ones f.mask_below f.second_dice f.ballot_openings f.list_openings f.full_openings l i ll e li))

  pub at_end_lem : At (encoding b k d) (at_end b.parameters) (11 ∷ [])
  unfolding at_end at_vote at_ballot_half
  at_end_lem =
      at_move (omega arith)
      (in_three (end_in b.parameters k.mask k.position d f.mask_ones f.mask_below f.second_dice f.ballot_openings f.list_openings f.full_openings))
