-- The election's number, which a form holds as a `u32`, has 4 bytes.
use mathlib.Core.List.{List}
use Prim.Native.Nat.{◌<◌}
use native.Mathlib.Omega.{arith}
use mir.Val.{Val}
use denote.Laws.{Is}
use denote.Enum.Laws.{owed}
use Rattle.protocol.specs.declared.Form.{Form}
use Rattle.protocol.specs.declared.Form.TheVariants.{Unnumbered, Numbered}
use Rattle.protocol.specs.Terms.{election_number}
use Rattle.protocol.specs.contracts.Form.{the_row, the_type}
use Rattle.protocol.proofs.Form.TheLaws.{the_laws}

pub number_fits : (form : Form) (values : List Val) → Is the_row form values → election_number form < 4294967296
unfolding election_number
number_fits Unnumbered values is = omega arith
number_fits (Numbered election) values is = omega (arith, owed the_type the_laws (Numbered election) values is)
