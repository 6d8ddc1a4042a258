-- What the three calls ensure is the digest.
use mathlib.Core.Path.{ap, ◌∙◌}
use lib.ListN.{length}
use Rattle.sha3.specs.declared.Sponge.{Sponge}
use Rattle.sha3.specs.Sha3.{absorb_bytes, padded, squeeze, digest}
use Rattle.sha3.proofs.Taking.{start_fill}
use Rattle.sha3.proofs.hash.Goals as goal

pub absorb_into-n-requires : goal.absorb_into-n-requires
absorb_into-n-requires c =
    (c.requires.0, start_fill c.args.rate c.start-s.ensures c.requires.0)

pub returns : goal.returns
unfolding digest
returns c =
    let args = c.args in
    c.finish_into.ensures.1
    ∙ ap (λ (t : Sponge). squeeze (padded args.rate t) (length args.out.now))
    (c.absorb_into-n.ensures.0 ∙ ap (λ (t : Sponge). absorb_bytes args.rate t args.m.now) c.start-s.ensures)
