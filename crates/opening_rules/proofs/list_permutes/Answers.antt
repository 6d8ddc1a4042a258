-- `opening_rules::list_permutes` meets its contract.
use mathlib.Core.Path.{◌≡◌, sym, ap, subst⁻¹, ◌∙◌}
use mathlib.Core.List.{List}
use Prim.Native.Nat.{ℕ}
use lib.ListN.{length, take, replicate}
use lib.Seq.{length-take-le}
use Rattle.laws.specs.Permuting.{permutes}
use Rattle.protocol.specs.Terms.{most_ballots}
use Rattle.opening_rules.specs.Opened.{PermutesReady}
use Rattle.opening_rules.proofs.list_permutes.Goals as goal
use Rattle.opening_rules.proofs.list_permutes.Goals.{Start}

abbrev zeros : List ℕ
zeros = replicate most_ballots 0

part : (s : Start) → length (take s.args.n zeros) ≡ s.args.n
part s = length-take-le s.args.n zeros s.requires.list.few

pub slice_bounds-permutes_with-end : goal.slice_bounds-permutes_with-end
slice_bounds-permutes_with-end c = sym (part (goal.at.slice_bounds-permutes_with-end c).Start)

pub slice_bounds-permutes_with-end-2 : goal.slice_bounds-permutes_with-end-2
slice_bounds-permutes_with-end-2 c = sym (part (goal.at.slice_bounds-permutes_with-end-2 c).Start)

pub permutes_with-requires : goal.permutes_with-requires
permutes_with-requires c =
    subst⁻¹ (λ (k : ℕ). PermutesReady c.args.bytes.now c.args.at c.args.announced c.args.modulus k k) (part (goal.at.permutes_with-requires c).Start) c.requires

pub returns : goal.returns
returns c = c.permutes_with.ensures ∙ ap (permutes _ _) (part (goal.at.returns c).Start)
