-- Which page follows from the record's length and its first fault.
use mathlib.Core.Path.{◌≡◌, refl, sym, ap, ◌∙◌}
use mathlib.Core.Bool.{true}
use mathlib.Core.List.{List, [], ◌∷◌, ◌++◌}
use Prim.Native.Nat.{ℕ, zero, suc, ◌≤◌, ◌<◌}
use native.Mathlib.Nat.{zero-add}
use native.Mathlib.Omega.{arith}
use lib.ListN.{length, drop, length-append}
use Rattle.laws.specs.Faults.{Nothing, Fault}
use Rattle.laws.specs.Faults.{number_of, nothing_fault}
use Rattle.laws.specs.Tests.{is_at_most, not_at_most}
use Rattle.laws.specs.Writing.{put, Went}
use Rattle.protocol.specs.declared.Form.{Form}
use Rattle.protocol.specs.declared.Form.TheVariants.{Unnumbered, Numbered}
use Rattle.protocol.specs.Answers.{answer_of}
use Rattle.protocol.specs.Terms.{decimal}
use Rattle.protocol.specs.Record.{parameters_of}
use Rattle.protocol.specs.Judging.{first_fault, judged}
use Rattle.protocol.specs.Results.{announced_votes, in_front, election_word, election_line, accepted_lines, refused_word, too_long_word, tally_lines, page_of, page}
use Rattle.decimals.proofs.Digits.{decimal_length}
use Rattle.protocol.proofs.Faultless.{judged_nothing}

-- what was written from the start on stands in front
pub front : {l out v w : List ℕ} {r : ℕ} → Went l 0 v out r → v ≡ w → (out ≡ in_front w l) × (r ≡ length w)
unfolding put in_front
front {l} {out} {v} {w} {r} h e =
    let g : Went l 0 w out r = rw e at h in
    (g.wrote.is ∙ ap (λ (k : ℕ). w ++ drop k l) (zero-add (length w)), g.to ∙ zero-add (length w))

-- the line of an election's number is at most 20 bytes long
pub election_length : (form : Form) → length (election_line form) ≤ 20
unfolding election_line
election_length Unnumbered = omega arith
election_length (Numbered election) =
    omega (arith, length-append election_word (decimal election ++ (10 ∷ [])), length-append (decimal election) (10 ∷ []), decimal_length election)

module _ (r : List ℕ) where
  page_is : {k : ℕ} → length r ≤ 65536 → number_of (first_fault true r) ≡ k → page_of k (parameters_of r).form (announced_votes r) ≡ page r
  unfolding page
  page_is h e = rw (is_at_most h) (ap (λ (k : ℕ). page_of k (parameters_of r).form (announced_votes r)) (sym e))

  module _ {l out : List ℕ} {n : ℕ} where
    pub too_long : 65536 < length r → Went l 0 (too_long_word ++ (10 ∷ [])) out n → (out ≡ in_front (page r) l) × (n ≡ length (page r))
    unfolding page
    too_long h w = rw (not_at_most h) (front w refl)

    pub accepted : length r ≤ 65536 → first_fault true r ≡ Nothing → Went l 0 (accepted_lines (parameters_of r).form ++ tally_lines (announced_votes r)) out n
        → (out ≡ in_front (page r) l) × (n ≡ length (page r))
    unfolding page_of number_of
    accepted h e w = front w (page_is h (ap number_of e))

    pub refused : (k : ℕ) {place : ℕ} → length r ≤ 65536 → first_fault true r ≡ Fault k place
        → Went l 0 (refused_word ++ (decimal k ++ (10 ∷ []))) out n → (out ≡ in_front (page r) l) × (n ≡ length (page r))
    unfolding page_of number_of judged answer_of
    refused zero h e w = absurd (nothing_fault ((judged_nothing true r).0 (ap (λ (x : ℕ). answer_of x []) (ap number_of e))) e)
    refused (suc k) h e w = front w (page_is h (ap number_of e))
