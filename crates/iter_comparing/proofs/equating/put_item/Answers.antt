use Rattle.std.proofs.Common.{◌++◌, List, ap, sym, ◌∙◌, append-nil}
use Rattle.rb_value.specs.declared.hash.HashItem.{HashItem}
use Rattle.iter_comparing.specs.Hashes.{pairs}
use Rattle.iter_comparing.proofs.Items.{no_item}
use Rattle.iter_comparing.proofs.equating.put_item.Goals as goal

pub returns-in-None : goal.returns-in-None
returns-in-None c =
    let before = c.args.pairs.now.items in
    sym (append-nil before)
    ∙ ap (λ (vs : List HashItem). before ++ vs)
    (sym (no_item (pairs c.args.heap.now.store c.args.hash) c.args.place c.in-None.ensures))
