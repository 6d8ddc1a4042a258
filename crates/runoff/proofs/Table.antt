-- The entries of the table, candidate by candidate.
use mathlib.Core.Path.{◌≡◌, refl, sym, ap, ap₂, ◌∙◌}
use mathlib.Core.List.{List, [], ◌∷◌, ◌++◌, append-nil}
use Prim.Native.Nat.{ℕ, zero, suc, ◌+◌, ◌≤◌, ◌<◌}
use native.Mathlib.Nat.{not-suc-le-zero}
use native.Mathlib.Numerals.{add-one}
use native.Mathlib.Omega.{arith}
use lib.ListN.{length, get_or, set, take, drop}
use lib.Seq.{drop-length}
use Rattle.laws.specs.Tests.{pick}
use Rattle.protocol.specs.Terms.{item}
use Rattle.runoff.specs.Ranking.{standing}
use Rattle.runoff.specs.Rounds.{entries}
use Rattle.runoff.specs.declared.Candidate.{Candidate}
use Rattle.runoff.proofs.Filled.{filled, filled_more, filled_all}

-- what stands in a table's entry before it is filled
abbrev pub nobody : Candidate
nobody = record { count = 0; left = 0 }

entry_at : (counts left : List ℕ) (i : ℕ) → i < length counts → length left ≡ length counts
    → get_or (entries counts left) i nobody ≡ record { count = item counts i; left = item left i }
unfolding entries
entry_at [] left i l e = absurd (not-suc-le-zero l)
entry_at (n ∷ counts) [] i l e = absurd (omega arith)
entry_at (n ∷ counts) (r ∷ left) zero l e = refl
entry_at (n ∷ counts) (r ∷ left) (suc i) l e = entry_at counts left i (omega arith) (omega arith)

-- a turn of the loop that stores them
pub stored_entry : (counts left : List ℕ) (before : List Candidate) {i : ℕ} {table : List Candidate} → table ≡ filled nobody (entries counts left) before i
    → i < length counts → length left ≡ length counts
    → set table i (record { count = item counts i; left = item left i }) ≡ filled nobody (entries counts left) before (i + 1)
stored_entry counts left before {i} e l h =
    ap₂ (λ (t : List Candidate) (x : Candidate). set t i x) e (sym (entry_at counts left i l h)) ∙ filled_more nobody (entries counts left) before i

-- a candidate's last count, as code has it
pub last_is : (left round counts : List ℕ) (i : ℕ) {r : ℕ} → r ≡ pick (standing left (i + 1)) (item round (i + 1)) (item counts i)
    → r ≡ pick (standing left (suc i)) (item round (suc i)) (item counts i)
last_is left round counts i e = rw (add-one i) at e

pub length_entries : (counts left : List ℕ) → length left ≡ length counts → length (entries counts left) ≡ length counts
unfolding entries
length_entries [] left e = refl
length_entries (n ∷ counts) [] e = absurd (omega arith)
length_entries (n ∷ counts) (r ∷ left) e = ap suc (length_entries counts left (omega arith))

pub table_filled : (counts left : List ℕ) (table : List Candidate) (i : ℕ) → length left ≡ length counts → length table ≤ length counts → i ≡ length table
    → filled nobody (entries counts left) table i ≡ take (length table) (entries counts left)
table_filled counts left table i e h l =
    filled_all nobody (entries counts left) table i (omega arith) (omega (arith, length_entries counts left e))
    ∙ ap₂ (λ (m n : ℕ). take m (entries counts left) ++ drop n table) l l
    ∙ ap (λ (d : List Candidate). take (length table) (entries counts left) ++ d) (drop-length table)
    ∙ append-nil (take (length table) (entries counts left))
