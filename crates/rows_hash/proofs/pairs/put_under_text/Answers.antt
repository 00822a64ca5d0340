use Rattle.rows_hash.proofs.Put.{text_leaves}
use Rattle.rows_hash.proofs.pairs.put_under_text.Goals as goal

-- src/pairs.rt:34:1
pub returns : goal.returns
returns c = text_leaves c.args.heap.now c.put_pair.new.heap c.args.id c.args.key c.args.value c.put_pair.result c.requires
    c.put_pair.ensures.put c.put_pair.ensures.refused
