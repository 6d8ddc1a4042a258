-- `challenge::draw_hash` meets its contract: the digest of the digits, Q and the last character.
use mathlib.Core.Path.{◌≡◌, ap, ap₂, ◌∙◌}
use mathlib.Core.List.{List, [], ◌∷◌, ◌++◌}
use Prim.Native.Nat.{ℕ}
use native.Mathlib.Omega.{arith}
use lib.ListN.{length}
use Rattle.sha3.specs.Sha3.{digest, sha3_224}
use Rattle.protocol.specs.Drawing.{draw_hash}
use Rattle.decimals.proofs.Digits.{decimal_length}
use Rattle.challenge.proofs.Digits.{written}
use Rattle.challenge.proofs.draw_hash.Goals as goal

pub put_decimal-n-requires : goal.put_decimal-n-requires
put_decimal-n-requires c = omega (arith, decimal_length c.args.i)

pub slice_bounds-hash_parts-end : goal.slice_bounds-hash_parts-end
slice_bounds-hash_parts-end c = let d = c.put_decimal-n.ensures in omega (arith, ap length (written d), d.to)

pub returns : goal.returns
unfolding draw_hash sha3_224
returns c =
    let args = c.args in
    let long : length args.out.now ≡ 28 = omega arith in
    c.hash_parts.ensures
    ∙ ap₂ (λ (m : List ℕ) (d : ℕ). digest 144 d (m ++ (args.q.now ++ (args.last ∷ [])))) (written c.put_decimal-n.ensures) long
