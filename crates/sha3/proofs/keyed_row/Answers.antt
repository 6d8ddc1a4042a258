-- The state is the definition's, as each word that is read of the key is.
use mathlib.Core.Path.{ap, ◌∙◌}
use mathlib.Core.List.{List}
use Prim.Native.Nat.{ℕ}
use Rattle.keccak.specs.Keccak.{keccak_f}
use Rattle.keccak.specs.Rows.{row_at}
use Rattle.sha3.specs.Word.{keyed_row}
use Rattle.sha3.proofs.Keyed.{keyed_is}
use Rattle.sha3.proofs.keyed_row.Goals as goal

pub returns : goal.returns
unfolding keyed_row
returns c =
    let args = c.args in
    c.first_row.ensures
    ∙ ap (λ (l : List ℕ). row_at (keccak_f l) 0)
    (keyed_is args.key.now args.low args.high c.word-k0.ensures c.word-k1.ensures c.word-k2.ensures c.word-k3.ensures)
