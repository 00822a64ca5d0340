-- How many nodes a list has.
use Rattle.std.proofs.Common.{◌≡◌, List, [], ◌∷◌, length, map, refl, arith}
use Rattle.parser_tree.specs.Node.{Node, nodes}
use Rattle.lower_table.specs.Parts.{count}

pub count-map : {B : Type 0} (v : B → Node) (ys : List B) → count (nodes (map v ys)) ≡ length ys
count-map v [] = refl
count-map v (y ∷ ys) = let h : count (nodes (map v ys)) ≡ length ys = count-map v ys in omega arith

pub ruleset counted = count-map
