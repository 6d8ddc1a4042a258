-- Which page follows from the number of candidates, the record's length and its first fault.
use mathlib.Core.Path.{◌≡◌, refl, sym, ap, ◌∙◌}
use mathlib.Core.Logic.{◌≢◌}
use mathlib.Core.Bool.{true, false}
use mathlib.Core.List.{List, [], ◌∷◌, ◌++◌}
use Prim.Native.Nat.{ℕ, ◌≤◌, ◌<◌}
use lib.ListN.{length}
use Rattle.laws.specs.Faults.{Nothing, Fault}
use Rattle.laws.specs.Faults.{number_of, nothing_fault}
use Rattle.laws.specs.Tests.{equal, at_most, ◌and◌, choose_clear, choose_set, is_equal, not_equal, is_at_most, not_at_most, and_iff, and_stop, and_last_stop}
use Rattle.laws.specs.Writing.{Went}
use Rattle.protocol.specs.declared.Form.{Form}
use Rattle.protocol.specs.declared.Parameters.{Parameters}
use Rattle.protocol.specs.Answers.{answer_of}
use Rattle.protocol.specs.Terms.{decimal}
use Rattle.protocol.specs.Record.{parameters_of}
use Rattle.protocol.specs.Judging.{first_fault, judged}
use Rattle.protocol.specs.Results.{announced_votes, in_front, accepted_lines, refused_word, too_long_word, page}
use Rattle.protocol.proofs.Faultless.{judged_nothing}
use Rattle.results.proofs.Paging as paging
use Rattle.runoff.specs.Rounds.{runoff_refusal}
use Rattle.runoff.specs.Page.{runoff_lines, counted_page, runoff_page}

-- ---- of an accepted record

module _ (candidates : ℕ) (form : Form) (votes : List ℕ) {k : ℕ} (is : k ≡ runoff_refusal candidates candidates) where
  pub counted_refused : k ≢ 0 → refused_word ++ (decimal k ++ (10 ∷ [])) ≡ counted_page candidates form votes
  unfolding counted_page
  counted_refused h = rw (← is) (sym (choose_set k _ _ h))

  counted_lines : k ≡ 0 → accepted_lines form ++ runoff_lines candidates votes ≡ counted_page candidates form votes
  unfolding counted_page
  counted_lines h = sym (choose_clear _ _ _ (sym is ∙ h))

-- .. whose parameters were read
pub counted_read : (candidates : ℕ) (r : List ℕ) {p : Parameters} → 0 ≡ runoff_refusal candidates candidates → p ≡ parameters_of r
    → accepted_lines p.form ++ runoff_lines candidates (announced_votes r) ≡ counted_page candidates (parameters_of r).form (announced_votes r)
counted_read candidates r is e = rw e (counted_lines candidates (parameters_of r).form (announced_votes r) is refl)

-- ---- of what was read

module _ (candidates : ℕ) (r : List ℕ) where
  stands_not : (at_most (length r) 65536 and equal (number_of (first_fault true r)) 0) ≡ false → page r ≡ runoff_page candidates r
  unfolding runoff_page
  stands_not e = rw e

  as_page : (l : List ℕ) {out : List ℕ} {n : ℕ} → (out ≡ in_front (page r) l) × (n ≡ length (page r)) → page r ≡ runoff_page candidates r
      → (out ≡ in_front (runoff_page candidates r) l) × (n ≡ length (runoff_page candidates r))
  as_page l h e = rw (← e) h

  module _ {l out : List ℕ} {n : ℕ} where
    pub too_long : 65536 < length r → Went l 0 (too_long_word ++ (10 ∷ [])) out n
        → (out ≡ in_front (runoff_page candidates r) l) × (n ≡ length (runoff_page candidates r))
    too_long h w = as_page l (paging.too_long r h w) (stands_not (sym (and_stop _ _ (not_at_most h))))

    pub counted : length r ≤ 65536 → first_fault true r ≡ Nothing → Went l 0 (counted_page candidates (parameters_of r).form (announced_votes r)) out n
        → (out ≡ in_front (runoff_page candidates r) l) × (n ≡ length (runoff_page candidates r))
    unfolding runoff_page number_of
    counted h e w =
        let t : (at_most (length r) 65536 and equal (number_of (first_fault true r)) 0) ≡ true = (and_iff _ _).1 (is_at_most h, is_equal (ap number_of e)) in
        rw t (paging.front w refl)

    pub refused : (k : ℕ) {place : ℕ} → length r ≤ 65536 → first_fault true r ≡ Fault k place
        → Went l 0 (refused_word ++ (decimal k ++ (10 ∷ []))) out n
        → (out ≡ in_front (runoff_page candidates r) l) × (n ≡ length (runoff_page candidates r))
    unfolding judged answer_of
    refused k h e w =
        as_page l (paging.refused r k h e w)
        (stands_not (sym (and_last_stop _ _ (not_equal (λ z. nothing_fault ((judged_nothing true r).0 (ap (λ (x : ℕ). answer_of x []) z)) e)))))
