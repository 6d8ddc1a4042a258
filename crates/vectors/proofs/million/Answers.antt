-- A sponge has room at the start.
use borrow.Author.Rules.{rules}
use Rattle.sha3.proofs.Taking.{start_fill}
use Rattle.vectors.proofs.million.Goals as goal

pub feed-s-requires : goal.feed-s-requires
feed-s-requires c = (c.requires.0, (start_fill c.args.rate c.start.ensures c.requires.0, search rules))
