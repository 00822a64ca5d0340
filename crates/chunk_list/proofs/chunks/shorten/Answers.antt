use Rattle.chunk_list.proofs.Shortening.{whole_chunks}
use Rattle.chunk_list.proofs.chunks.shorten.Goals as goal

pub returns-then-count-eq0-clause-chunks : goal.returns-then-count-eq0-clause-chunks
returns-then-count-eq0-clause-chunks g c = rw c.truncate.ensures.items
    (whole_chunks c.args.chunks.now.items c.args.count c.requires.chunks c.requires.fewer c.if-count-eq0.true).1
