-- Which answer of the lookup follows from what is found of the ballots up to the one at which it stops.
use mathlib.Core.Path.{◌≡◌, refl, sym, ap, ◌∙◌}
use mathlib.Core.Logic.{◌≢◌}
use mathlib.Core.Bool.{true, false}
use mathlib.Core.List.{List}
use Prim.Native.Nat.{ℕ, suc, ◌≤◌, ◌<◌}
use native.Mathlib.Numerals.{add-one}
use native.Mathlib.Omega.{arith}
use lib.ListN.{length}
use Rattle.laws.specs.Faults.{Found, Nothing, Fault}
use Rattle.laws.specs.Bytes.{number}
use Rattle.laws.specs.Tests.{equal, pick, is_equal, not_equal}
use Rattle.laws.specs.Faults.{first, number_of, nothing_fault, rule_go, rule_stop, then_go, then_stop, first_more, row_stop, Numbered, numbered}
use Rattle.protocol.specs.declared.Parameters.{Parameters}
use Rattle.protocol.specs.declared.Due.TheVariants.{First, Ballot}
use Rattle.protocol.specs.Answers.{Answer, done, refused, answer_of, not_posted}
use Rattle.protocol.specs.Record.{parameters_of, id_of}
use Rattle.protocol.specs.Judging.{found, found_with, ballot_faults}
use Rattle.protocol.specs.Results.{receipt_at, receipt_among, ballots_read, lookup_refusal, looked_up}
use Rattle.protocol.proofs.Answered.{refused_is, done_is}
use Rattle.protocol.proofs.Receipts.{among_none}
use Rattle.protocol.proofs.Lookup.{reads_all, reads_past, reads_to}

module _ (p : Parameters) (r printed : List ℕ) where
  -- what is found of one ballot
  abbrev pub row : ℕ → Found
  row j = found false p r (Ballot j)

  -- every ballot before ballot j has a smaller id than the one sought
  abbrev pub Passed : ℕ → Type 0
  Passed j = (i : ℕ) → i < j → id_of p r i < number printed 0 4

  -- what the ballots read give
  abbrev pub answered : Answer
  answered =
      let read = ballots_read p r printed p.ballots in
      answer_of (number_of (ballot_faults false p r read)) (receipt_among p r printed read)

  none_named : (j : ℕ) → Passed j → receipt_among p r printed j ≡ not_posted
  none_named j h = among_none p r printed j (λ i l e. let s = h i l in omega arith)

  row_numbered : (n : ℕ) → Numbered (ballot_faults false p r n)
  unfolding ballot_faults found_with
  row_numbered n = search numbered depth 12

  -- a ballot with a fault
  pub looked_refused : (j : ℕ) {k place : ℕ} {f : Found} → j < p.ballots → first row j ≡ Nothing → Passed j → f ≡ row j → f ≡ Fault k place → refused k ≡ answered
  unfolding ballot_faults number_of
  looked_refused j {k} {place} l z h e w =
      let read = ballots_read p r printed p.ballots in
      let s : Fault k place ≡ first row read = sym w ∙ row_stop row read j (reads_past p r printed p.ballots j l h) z e w in
      refused_is k _ _ (ap number_of s) (λ q. nothing_fault ((row_numbered read).nothing (sym (ap number_of s) ∙ q)) (sym s))

  -- a ballot that stands, with the id sought or a larger one
  pub looked_stopped : (j : ℕ) {a : List ℕ} → j < p.ballots → first row j ≡ Nothing → Passed j → row j ≡ Nothing → number printed 0 4 ≤ id_of p r j
      → a ≡ pick (equal (id_of p r j) (number printed 0 4)) (receipt_at p r printed j) not_posted → done a ≡ answered
  unfolding ballot_faults receipt_among answer_of number_of
  looked_stopped j l z h e s t =
      let read : ballots_read p r printed p.ballots ≡ suc j = reads_to p r printed p.ballots j l h s in
      let clear : first row (suc j) ≡ Nothing = rw add-one at (first_more row j z e) in
      rw (read, clear) (ap done (t ∙ ap (pick (equal (id_of p r j) (number printed 0 4)) (receipt_at p r printed j)) (sym (none_named j h))))

  -- no ballot stops it
  pub looked_through : (j : ℕ) → j ≤ p.ballots → p.ballots ≤ j → first row j ≡ Nothing → Passed j → done not_posted ≡ answered
  unfolding ballot_faults number_of
  looked_through j l m z h =
      let e : j ≡ p.ballots = omega arith in
      let read : ballots_read p r printed p.ballots ≡ j = reads_all p r printed p.ballots (rw e at h) ∙ sym e in
      rw read (ap done (sym (none_named j h)) ∙ done_is 0 _ _ (sym (ap number_of z)) refl)

-- ---- the entry

module _ (r printed : List ℕ) where
  pub lookup_short : length printed ≢ 32 → refused 18 ≡ looked_up r printed
  unfolding looked_up lookup_refusal
  lookup_short ne = refused_is 18 _ _ (rule_stop 18 (equal (length printed) 32) _ (not_equal ne)) (λ z. omega arith)

  first_numbered : Numbered (found false (parameters_of r) r First)
  unfolding found_with
  first_numbered = search numbered depth 12

  pub lookup_refused : (k : ℕ) {place : ℕ} → length printed ≡ 32 → found false (parameters_of r) r First ≡ Fault k place → refused k ≡ looked_up r printed
  unfolding looked_up lookup_refusal number_of
  lookup_refused k l e =
      let ne : found false (parameters_of r) r First ≢ Nothing = λ z. nothing_fault z e in
      refused_is k _ _ (rule_go 18 (equal (length printed) 32) _ (is_equal l) (sym (ap number_of (then_stop (found false (parameters_of r) r First) _ ne ∙ e))))
      (λ z. ne (first_numbered.nothing (ap number_of e ∙ z)))

  pub lookup_answered : {p : Parameters} {a : Answer} → length printed ≡ 32 → found false (parameters_of r) r First ≡ Nothing → p ≡ parameters_of r → a ≡ answered p r printed
      → a ≡ looked_up r printed
  unfolding looked_up lookup_refusal
  lookup_answered {p} l e s h =
      let t : equal (length printed) 32 ≡ true = is_equal l in
      h ∙ ap (λ (q : Parameters). answered q r printed) s
      ∙ ap (λ (x : ℕ). answer_of x (receipt_among (parameters_of r) r printed (ballots_read (parameters_of r) r printed (parameters_of r).ballots)))
      (rule_go 18 (equal (length printed) 32) _ t (sym (ap number_of (then_go (found false (parameters_of r) r First) _ e))))
