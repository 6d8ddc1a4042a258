-- What the calls ensure, one in the other, is the digest of the three parts joined.
use mathlib.Core.Path.{sym, ap, ◌∙◌}
use lib.ListN.{length}
use Rattle.sha3.specs.Sha3.{absorb_bytes, padded, squeeze}
use Rattle.sha3.proofs.Taking.{start_fill}
use Rattle.sha3.proofs.Digest.{digest_three}
use Rattle.sha3.proofs.hash_parts.Goals as goal

pub absorb_into-i-requires : goal.absorb_into-i-requires
absorb_into-i-requires c =
    (c.requires.0, start_fill c.args.rate c.start-s.ensures c.requires.0)

pub returns : goal.returns
returns c =
    let args = c.args in
    let rate = args.rate in
    let n = length args.out.now in
    c.finish_into.ensures.1
    ∙ ap (λ t. squeeze (padded rate t) n)
    (c.absorb_into-k.ensures.0
    ∙ ap (λ t. absorb_bytes rate t args.c.now)
    (c.absorb_into-j.ensures.0
    ∙ ap (λ t. absorb_bytes rate t args.b.now) (c.absorb_into-i.ensures.0 ∙ ap (λ t. absorb_bytes rate t args.a.now) c.start-s.ensures)))
    ∙ sym (digest_three rate n args.a.now args.b.now args.c.now)
