use Rattle.std.proofs.Common.{◌/◌}
use Rattle.chunk_list.proofs.Putting.{filled, refused}
use Rattle.chunk_list.proofs.chunks.fill_chunk.Goals as goal

pub returns-in_err-push-clause-chunks : goal.returns-in_err-push-clause-chunks
returns-in_err-push-clause-chunks g c =
    (refused c.args.chunks.now.items (c.args.count / 1024) c.index_mut-chunk.result.now c.push.new.self
    c.requires.chunks
    c.index_mut-chunk.ensures.value c.in_err-push.ensures.items).1

pub returns-clause-chunks : goal.returns-clause-chunks
returns-clause-chunks g c =
    (filled c.args.chunks.now.items c.args.count c.index_mut-chunk.result.now c.push.new.self c.args.value
    c.requires.chunks
    c.requires.counted c.requires.room c.index_mut-chunk.ensures.value c.in_ok-push.ensures.items).1
