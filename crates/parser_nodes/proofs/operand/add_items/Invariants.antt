use Rattle.std.proofs.Common.{◌≡◌, ◌++◌, map}
use Rattle.parser_nodes.specs.Nodes.{views}
use Rattle.parser_nodes.specs.Listed.{item_view}
use Rattle.parser_nodes.specs.Calls.{item_part}
use Rattle.parser_nodes.proofs.operand.add_items.Given as goal

abbrev pub invariant-loop-item : goal.invariant-loop-item
invariant-loop-item l = views l.parts ≡ views l.fn.parts ++ map item_part (map item_view l.yielded)
