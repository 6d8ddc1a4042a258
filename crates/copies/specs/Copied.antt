-- Rule 21, by document 02, item 5: the ballots that have a commitment of an earlier one.
use Rattle.std.specs.Prelude.{List, ℕ}
use Rattle.laws.specs.Faults.{Found}
use Rattle.laws.specs.Faults.{kept, rule, located, first}
use Rattle.protocol.specs.declared.Parameters.{Parameters}
use Rattle.protocol.specs.Layout.{at_ballot}
use Rattle.protocol.specs.Record.{ballot_commitment_of}
use Rattle.protocol.specs.Rules.{original}

-- what rule 21 finds at ballot j
unfoldable pub copy_fault : Parameters → List ℕ → ℕ → Found
copy_fault p r j = located (at_ballot p j) (rule 21 (original (ballot_commitment_of p r) j) kept)

-- the first of k ballots that has a commitment of an earlier one
abbrev pub first_copy : Parameters → List ℕ → ℕ → Found
first_copy p r k = first (copy_fault p r) k
