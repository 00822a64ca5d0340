use Rattle.std.proofs.Common.{◌≡◌, rules, [], drop, arith}
use Rattle.std.proofs.lemmas.List.{drop_all}
use Rattle.ir_core.specs.Parts.{items}
use Rattle.ir_core.proofs.Lists.{items-end}
use Rattle.ir_builder.proofs.leaf.symbol_array.Goals as goal

pub returns : goal.returns
returns c =
    let none : drop c.loop-name.name-index c.args.names.now ≡ [] =
    drop_all c.loop-name.name-index c.args.names.now (omega arith) in
    let whole = items-end (items c.loop-name.items.items) in
    search (rules, none, whole)
