-- The tree of a program:
--
--     def m(a, b = a, *c, &d)
--       begin
--         super
--         c.each { |(x, y)| break x unless y; yield x }
--       rescue => e
--         retry
--       end
--     end
--     for i in 1..2 do next i end
use Rattle.std.specs.Prelude.{pos, false, List, [], ◌∷◌, Some, None, codes}
use Rattle.parser_tree.specs.declared.tree.RestParameter.TheVariants.{Absent, Named}
use Rattle.parser_tree.specs.Node as node
use Rattle.parser_tree.specs.Node.{Name, Node, nodes, one}

abbrev pub pair : Node
pair = node.targets (nodes (node.local (codes "x") ∷ node.local (codes "y") ∷ [])) false node.none node.none

abbrev pub block : Node
block =
    node.definition 63 (one pair) node.none Absent node.none None node.none (codes "x" ∷ codes "y" ∷ [])
    (node.statements (nodes (
    node.unless_node (node.local (codes "y")) (node.break_node 71 (one (node.local (codes "x")))) node.none
    ∷ node.yield_node 92 (one (node.local (codes "x"))) ∷ [])))

abbrev pub attempt : Node
attempt =
    node.begin_node (node.statements (nodes (
    node.super_node 38 node.none node.none
    ∷ node.call (one (node.local (codes "c"))) (codes "each") node.none (one block) ∷ [])))
    (one (node.rescue_clause node.none (one (node.local (codes "e"))) (node.retry 120))) node.none node.none

abbrev pub definition : Node
definition =
    node.definition 0 (one (node.name_parameter (codes "a")))
    (one (node.optional_parameter (codes "b") (node.local (codes "a")))) (Named (codes "c")) node.none
    (Some (codes "d")) node.none (codes "e" ∷ []) attempt

abbrev pub tree : Node
tree =
    node.statements (nodes (
    node.define node.none (codes "m") definition
    ∷ node.for_node (one (node.local (codes "i"))) (node.range (node.integer (pos 1)) (node.integer (pos 2)) false 140)
    (node.next_node 150 (one (node.local (codes "i")))) ∷ []))

abbrev pub variables : List Name
variables = codes "i" ∷ []

-- a word that may not stand alone, and a local that nothing assigns
abbrev pub stray_word : Node
stray_word = node.break_node 0 node.none

abbrev pub stray_name : Node
stray_name = node.local (codes "x")
