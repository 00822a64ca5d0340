use Rattle.std.proofs.Common.{◌∷◌, ◌++◌, [], ap, ◌∙◌}
use Rattle.chunk_list.proofs.Putting.{opened}
use Rattle.chunk_list.proofs.chunks.open_chunk.Goals as goal

pub returns-clause-chunks : goal.returns-clause-chunks
returns-clause-chunks g c = rw c.in_ok-push-2.ensures.items
    (opened c.args.chunks.now.items c.args.count c.push.new.self c.args.value c.requires.chunks c.requires.counted
    c.requires.full (c.in_ok-push.ensures.items ∙ ap (λ l. l ++ c.args.value ∷ []) c.in_ok-chunk.ensures.items)).1
