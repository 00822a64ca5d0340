use Rattle.std.proofs.Common.{◌≡◌, ◌+◌, ◌/◌, get_or, take, ap, ◌∙◌}
use Rattle.chunk_list.proofs.Shortening.{part_of_chunk}
use Rattle.chunk_list.proofs.chunks.shorten_last.Goals as goal

pub returns-clause-chunks : goal.returns-clause-chunks
returns-clause-chunks g c = rw c.truncate.ensures.items
    (part_of_chunk c.args.chunks.now.items c.args.count c.index_mut-chunk.result.now c.truncate-2.new.self
    c.requires.chunks
    c.requires.fewer c.requires.within
    (c.index_mut-chunk.ensures.value
    ∙ ap (λ cs. get_or cs (c.args.count / 1024) c.index_mut-chunk.result.now) c.truncate.ensures.items)
    c.truncate-2.ensures.items).1
