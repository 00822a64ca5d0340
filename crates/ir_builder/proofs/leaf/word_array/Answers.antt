use Rattle.std.proofs.Common.{◌≡◌, rules, [], drop, arith}
use Rattle.std.proofs.lemmas.List.{drop_all}
use Rattle.ir_core.specs.Parts.{items}
use Rattle.ir_core.proofs.Lists.{items-end}
use Rattle.ir_builder.proofs.leaf.word_array.Goals as goal

pub returns : goal.returns
returns c =
    let none : drop c.loop-word.word-index c.args.words.now ≡ [] =
    drop_all c.loop-word.word-index c.args.words.now (omega arith) in
    let whole = items-end (items c.loop-word.items.items) in
    search (rules, none, whole)
