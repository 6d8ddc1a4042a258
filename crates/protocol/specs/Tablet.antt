-- Document 01, "Tablet": a vote in shares and halves, the ballot command, the receipt.
use Rattle.std.specs.Prelude.{List, ◌∷◌, ◌++◌, ℕ, zero, suc, ◌+◌, ◌*◌, ◌/◌, ◌%◌}
use Rattle.laws.specs.Tests.{equal, below, ◌and◌, choose}
use Rattle.laws.specs.Faults.{rule, kept}
use Rattle.laws.specs.Bytes.{bytes}
use Rattle.laws.specs.Chunks.{piece, chunks}
use Rattle.laws.specs.Modular.{minus}
use Rattle.sha3.specs.Sha3.{sha3_224}
use Rattle.protocol.specs.declared.Form.{Form}
use Rattle.protocol.specs.declared.Parameters.{Parameters}
use Rattle.protocol.specs.declared.Place.TheVariants.{InBallot}
use Rattle.protocol.specs.Terms.{parameters, commitment, opening, modulus_in_limits}

-- one of three, by its number
abbrev pub one_of_three : ℕ → ℕ → ℕ → ℕ → ℕ
one_of_three zero a b c = a
one_of_three (suc zero) a b c = b
one_of_three (suc (suc k)) a b c = c

-- "z = w − x − y": the three shares of vote w
unfoldable pub share : ℕ → ℕ → ℕ → ℕ → ℕ → ℕ
share M w x y k = one_of_three k x y (minus M (minus M w x) y)

-- "v1 = x − u1, v2 = y − u2, v3 = z − u3", "in the order u1, v1, u2, v2, u3, v3": slot q of three numbers, each split by its
-- first half. A list entry is split in the same way.
unfoldable pub slot : ℕ → (ℕ → ℕ) → (ℕ → ℕ) → ℕ → ℕ
slot M value first q = choose (q % 2) (first (q / 2)) (minus M (value (q / 2)) (first (q / 2)))

-- command 02: "id 4, six commitments 192"
unfoldable pub ballot_command : ℕ → (ℕ → List ℕ) → List ℕ
ballot_command id commitments = (2 ∷ bytes 4 id) ++ chunks commitments 6

-- what a tablet knows of the parameters: the form and the modulus
abbrev pub tablet_parameters : Form → ℕ → Parameters
tablet_parameters form M = parameters form M 0 0

-- "six commitments .., with six keys of 32 bytes in that order"
unfoldable pub tablet_command : Form → ℕ → ℕ → ℕ → ℕ → ℕ → ℕ → ℕ → ℕ → List ℕ → List ℕ
tablet_command form M id w x y u1 u2 u3 keys =
    let number = slot M (share M w x y) (λ k. one_of_three k u1 u2 u3) in
    ballot_command id (λ q. commitment (tablet_parameters form M) (InBallot id q) (opening (piece keys (32 * q) 32) (number q)))

-- "A receipt is 32 bytes: the ballot's id, then the SHA3-224 of its command (197 bytes)."
unfoldable pub receipt : ℕ → List ℕ → List ℕ
receipt id command = bytes 4 id ++ sha3_224 command

-- what a tablet refuses: 3 for its modulus, 18 for its keys and its two outputs, 10 for its numbers
unfoldable pub tablet_refusal : ℕ → ℕ → ℕ → ℕ → ℕ → ℕ → ℕ → ℕ → ℕ → ℕ → ℕ
tablet_refusal M w x y u1 u2 u3 keys_long command_long receipt_long =
    rule 3 (modulus_in_limits M)
    (rule 18 (equal keys_long 192 and equal command_long 197 and equal receipt_long 32)
    (rule 10 (below w M and below x M and below y M and below u1 M and below u2 M and below u3 M) kept))
