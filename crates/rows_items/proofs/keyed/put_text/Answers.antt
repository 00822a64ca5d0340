use Rattle.rows_items.proofs.Put.{text_leaves}
use Rattle.rows_items.proofs.keyed.put_text.Goals as goal

pub returns : goal.returns
returns c = text_leaves c.args.heap.now c.put_copied.new.heap c.args.id c.args.key c.args.value c.put_copied.result c.requires
    c.put_copied.ensures.put c.put_copied.ensures.refused
