-- What a commitment's hash takes behind the key: the number, and with 0C the election's number and the place.
use Rattle.std.specs.Prelude.{List, ◌++◌, ℕ}
use Rattle.laws.specs.Bytes.{bytes}
use Rattle.protocol.specs.declared.Form.{Form}
use Rattle.protocol.specs.declared.Form.TheVariants.{Unnumbered, Numbered}
use Rattle.protocol.specs.declared.Place.{Place}
use Rattle.protocol.specs.Terms.{place_bytes}

unfoldable pub behind_key : Form → Place → ℕ → List ℕ
behind_key Unnumbered place x = bytes 4 x
behind_key (Numbered election) place x = (bytes 4 x ++ bytes 4 election) ++ place_bytes place
