-- Whether a list has anything, before and after its nodes are read.
use Rattle.std.proofs.Common.{◌≡◌, ◌<◌, true, false, List, [], ◌∷◌, length, map, refl, arith}
use Rattle.parser_tree.specs.Node.{Node, nodes}
use Rattle.lower_table.specs.Parts.{is_none}

pub some-nodes : {A : Type 0} (v : A → Node) (xs : List A) → 0 < length xs → is_none (nodes (map v xs)) ≡ false
some-nodes v [] h = absurd (omega arith)
some-nodes v (x ∷ xs) h = refl

pub no-nodes : {A : Type 0} (v : A → Node) (xs : List A) → length xs ≡ 0 → is_none (nodes (map v xs)) ≡ true
no-nodes v [] h = refl
no-nodes v (x ∷ xs) h = absurd (omega arith)

pub ruleset empties = (some-nodes, no-nodes)
