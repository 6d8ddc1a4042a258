-- Of records written from one set of inputs the ballots commit the votes cast, and the third announces each as often: the first case of what is claimed
-- of three records.
use mathlib.Core.Path.{◌≡◌, refl, sym, ap, ◌∙◌}
use mathlib.Core.List.{List}
use Prim.Native.Nat.{ℕ, ◌+◌, ◌*◌, ◌%◌, ◌<◌}
use native.Mathlib.Nat.{mod-eq_of_lt}
use native.Mathlib.Omega.{arith}
use Rattle.laws.specs.Sums.{times, times_same}
use Rattle.laws.specs.Sorting.{count_sort, count_tabulate, times_list, length_sort}
use Rattle.laws.specs.Tables.{tabulate, length_tabulate}
use Rattle.protocol.specs.declared.Place.TheVariants.{InBallot}
use Rattle.protocol.specs.Terms.{item, opened, commitment}
use Rattle.protocol.specs.Record.{Board, Comparison, Disclosure, encoding}
use Rattle.protocol.specs.Inputs.{Inputs, Slices, inputs_of}
use Rattle.protocol.specs.Servers.{ballot_number, announced, ballot_opening, posted_board, posted_comparison, posted_disclosure}
use Rattle.protocol.specs.Demand3.{Commits, Announces}
use Rattle.protocol.proofs.Fitting.{Fits}
use Rattle.protocol.proofs.Goodness.{Good}
use Rattle.protocol.proofs.Mixing.{ballot_sum}
use Rattle.protocol.proofs.Honesty.{opened_ballot}
use Rattle.protocol.proofs.Reading.{read_parameters, read_id, read_ballot_commitment, read_side, read_ballot_opening, read_vote}
use Rattle.protocol.proofs.Completeness.{Taken, written, board, comparison, disclosure, is_encoding, fits}

-- six openings of each ballot, of which two records show three each, and the votes that they make
module _ (b : Board) (k₁ k₂ : Comparison) (d₁ d₂ : Disclosure) (f₁ : Fits b k₁ d₁) (f₂ : Fits b k₂ d₂) (openings : ℕ → ℕ → List ℕ)
    (shown₁ : (j c : ℕ) → j < b.parameters.ballots → c < 3 → openings j (2 * c + d₁.side j) ≡ d₁.ballot_opening j c)
    (shown₂ : (j c : ℕ) → j < b.parameters.ballots → c < 3 → openings j (2 * c + d₂.side j) ≡ d₂.ballot_opening j c)
    (gives : (j q : ℕ) → j < b.parameters.ballots → q < 6 → commitment b.parameters (InBallot (b.id j) q) (openings j q) ≡ b.ballot_commitment j q) where
  pub commits_at : (j vote : ℕ) → j < b.parameters.ballots
      → vote ≡ (opened (openings j 0) + opened (openings j 1) + opened (openings j 2) + opened (openings j 3) + opened (openings j 4) + opened (openings j 5)) % b.parameters.modulus
      → Commits (encoding b k₁ d₁) (encoding b k₂ d₂) j vote
  commits_at j vote lj sum = record {
    openings = openings j;
    shown₁ = λ c lc. rw (read_parameters b k₁ d₁ f₁, read_side b k₁ d₁ f₁ j lj, read_ballot_opening b k₁ d₁ f₁ j c lj lc) (shown₁ j c lj lc);
    shown₂ = λ c lc. rw (read_parameters b k₂ d₂ f₂, read_side b k₂ d₂ f₂ j lj, read_ballot_opening b k₂ d₂ f₂ j c lj lc) (shown₂ j c lj lc);
    gives = λ q lq. rw (read_parameters b k₁ d₁ f₁, read_id b k₁ d₁ f₁ j lj, read_ballot_commitment b k₁ d₁ f₁ j q lj lq) (gives j q lj lq);
    sum = rw (read_parameters b k₁ d₁ f₁) sum;
  }

  -- .. and a third record that announces each vote as often
  announces_them : (k₃ : Comparison) (d₃ : Disclosure) → Fits b k₃ d₃ → (vote : ℕ → ℕ)
      → ((j : ℕ) → j < b.parameters.ballots
      → vote j ≡ (opened (openings j 0) + opened (openings j 1) + opened (openings j 2) + opened (openings j 3) + opened (openings j 4) + opened (openings j 5)) % b.parameters.modulus)
      → ((x : ℕ) → times x d₃.vote b.parameters.ballots ≡ times x vote b.parameters.ballots) → Announces (encoding b k₁ d₁) (encoding b k₂ d₂) (encoding b k₃ d₃)
  announces_them k₃ d₃ f₃ vote sums often = record {
    committed = vote;
    commits = λ j lj. let l = rw (read_parameters b k₁ d₁ f₁) at lj in commits_at j (vote j) l (sums j l);
    as_often = λ x. rw (read_parameters b k₁ d₁ f₁, read_parameters b k₃ d₃ f₃) (times_same x b.parameters.ballots (read_vote b k₃ d₃ f₃) ∙ often x);
  }

-- the numbers in a ballot's six openings make its vote
module _ (s : Inputs) (g : Good s) where
  pub vote_is : (j : ℕ) → j < s.parameters.ballots
      → s.vote j ≡ (opened (ballot_opening s j 0) + opened (ballot_opening s j 1) + opened (ballot_opening s j 2) + opened (ballot_opening s j 3) + opened (ballot_opening s j 4) + opened (ballot_opening s j 5)) % s.parameters.modulus
  vote_is j lj =
      rw (
        opened_ballot s g j 0 lj (omega arith),
        opened_ballot s g j 1 lj (omega arith),
        opened_ballot s g j 2 lj (omega arith),
        opened_ballot s g j 3 lj (omega arith),
        opened_ballot s g j 4 lj (omega arith),
        opened_ballot s g j 5 lj (omega arith),
      )
      (sym (mod-eq_of_lt (g.votes_below j lj)) ∙ sym (ballot_sum s g j lj)
      ∙ ap (λ (x : ℕ). x % s.parameters.modulus) (regroup (ballot_number s j 0) (ballot_number s j 1) (ballot_number s j 2) (ballot_number s j 3) (ballot_number s j 4) (ballot_number s j 5)))
    where
      regroup : (a b c d e f : ℕ) → a + c + e + (b + d + f) ≡ a + b + c + d + e + f
      regroup a b c d e f = omega arith

  -- each vote is announced as often as it was cast
  pub announced_often : (x : ℕ) → times x (item (announced s)) s.parameters.ballots ≡ times x s.vote s.parameters.ballots
  unfolding announced
  announced_often x =
      ap (λ (n : ℕ). times x (item (announced s)) n) (sym (length_sort (tabulate s.vote s.parameters.ballots) ∙ length_tabulate s.vote s.parameters.ballots))
      ∙ times_list x (announced s) ∙ count_sort (tabulate s.vote s.parameters.ballots) x ∙ count_tabulate x s.vote s.parameters.ballots

-- two records of the same inputs, and a third
module _ (s : Slices) (g : Good (inputs_of s)) (dice₁ : List ℕ) (mask₁ : ℕ) (dice₂ sides₁ : List ℕ) (t₁ : Taken s dice₁ mask₁ dice₂ sides₁)
    (dice₃ : List ℕ) (mask₂ : ℕ) (dice₄ sides₂ : List ℕ) (t₂ : Taken s dice₃ mask₂ dice₄ sides₂) where
  -- the ballots commit the votes cast, and the third announces each as often
  pub written_announced : (dice₅ : List ℕ) (mask₃ : ℕ) (dice₆ sides₃ : List ℕ) → Taken s dice₅ mask₃ dice₆ sides₃
      → Announces (written s dice₁ mask₁ dice₂ sides₁) (written s dice₃ mask₂ dice₄ sides₂) (written s dice₅ mask₃ dice₆ sides₃)
  unfolding board comparison disclosure posted_board posted_comparison posted_disclosure
  written_announced dice₅ mask₃ dice₆ sides₃ t₃ =
      rw (is_encoding s g dice₁ mask₁ dice₂ sides₁ t₁, is_encoding s g dice₃ mask₂ dice₄ sides₂ t₂, is_encoding s g dice₅ mask₃ dice₆ sides₃ t₃)
      (announces_them _ _ _ _ _ (fits s g dice₁ mask₁ dice₂ sides₁ t₁) (fits s g dice₃ mask₂ dice₄ sides₂ t₂)
      (ballot_opening (inputs_of s)) (λ j c lj lc. refl) (λ j c lj lc. refl) (λ j q lj lq. refl)
      _ _ (fits s g dice₅ mask₃ dice₆ sides₃ t₃) (inputs_of s).vote (vote_is (inputs_of s) g) (announced_often (inputs_of s) g))
