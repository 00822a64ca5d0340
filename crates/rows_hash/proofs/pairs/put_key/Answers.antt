use Rattle.std.proofs.Common.{◌++◌, List, ap, sym, ◌∙◌, append-nil}
use Rattle.rb_value.specs.declared.value.Value.{Value}
use Rattle.rows_hash.specs.Pairs.{pairs}
use Rattle.rows_hash.proofs.More.{no_key}
use Rattle.rows_hash.proofs.pairs.put_key.Goals as goal

pub returns-in-None : goal.returns-in-None
returns-in-None c =
    let before = c.args.keys.now.items in
    sym (append-nil before)
    ∙ ap (λ (vs : List Value). before ++ vs)
    (sym (no_key (pairs c.args.heap.now.store c.args.id) c.args.place c.in-None.ensures))
