-- The nodes of expressions: operators, conditionals, defined?, modifiers, literals with what is put in them, arrays, hashes, variables,
-- constants, indices, assignments, retry and parentheses.
use Rattle.std.specs.Prelude.{Bool, true, false, ◌&&◌, ◌||◌}
use Rattle.parser_tree.specs.Node as node
use Rattle.parser_tree.specs.Node.{Node, Nodes}
use Rattle.parser_laws.specs.Rules.{is_place}

-- a variable or a constant
abbrev pub is_variable : Node → Bool
is_variable (node.local x) = true
is_variable (node.instance_variable x) = true
is_variable (node.global_variable x) = true
is_variable (node.constant x) = true
is_variable n = false

-- what is a target and an expression
abbrev pub is_assigned : Node → Bool
is_assigned n = is_variable n || is_place n

-- all but statements in parentheses
abbrev pub is_bare : Node → Bool
is_bare (node.statements ns) = false
is_bare n = true

abbrev pub is_branch : Node → Bool
is_branch (node.branch t e) = true
is_branch n = false

abbrev pub is_none : Nodes → Bool
is_none node.none = true
is_none (node.more n ns) = false

abbrev pub is_one : Nodes → Bool
is_one node.none = false
is_one (node.more n ns) = is_none ns

-- one branch
abbrev pub is_one_branch : Nodes → Bool
is_one_branch node.none = false
is_one_branch (node.more n ns) = is_branch n && is_none ns

-- no node, or one that is no statements in parentheses
abbrev pub is_other : Nodes → Bool
is_other node.none = true
is_other (node.more n ns) = is_bare n && is_none ns

-- bytes of a literal
abbrev pub is_bytes : Node → Bool
is_bytes (node.piece x) = true
is_bytes n = false

-- the branches of a conditional, and what stands before a modifier with a test, are no statements in parentheses: with those the
-- node would be one of a form with sections; an item with a star, a pair and a branch, which stand within others alone, are said to
-- be expressions where their parts are
abbrev mutual
  pub is_expression : Node → Bool
  is_expression node.nil = true
  is_expression node.truth = true
  is_expression node.falsehood = true
  is_expression node.self_reference = true
  is_expression (node.integer n) = true
  is_expression (node.text ns) = are_pieces ns
  is_expression (node.symbol x) = true
  is_expression (node.symbol_text ns) = are_pieces ns
  is_expression (node.words xs) = true
  is_expression (node.symbols xs) = true
  is_expression (node.local x) = true
  is_expression (node.instance_variable x) = true
  is_expression (node.global_variable x) = true
  is_expression (node.constant x) = true
  is_expression (node.top_constant x) = true
  is_expression (node.retry at) = true
  is_expression (node.array is) = are_expressions is
  is_expression (node.splat e) = is_expression e
  is_expression (node.hash ps) = are_expressions ps
  is_expression (node.pair k v) = is_expression k && is_expression v
  is_expression (node.statements ns) = are_expressions ns
  is_expression (node.not_node e) = is_expression e
  is_expression (node.unary o e) = is_expression e
  is_expression (node.operation a o b) = is_expression a && is_expression b
  is_expression (node.and_node a b) = is_expression a && is_expression b
  is_expression (node.or_node a b) = is_expression a && is_expression b
  is_expression (node.range a b x at) = is_expression a && is_expression b
  is_expression (node.assign t e) = is_assignable t && is_expression e
  is_expression (node.operator_assign t o e) = is_assignable t && is_expression e
  is_expression (node.branch t e) = is_bare e && (is_expression t && is_expression e)
  is_expression (node.if_node bs o) = (is_one_branch bs && is_other o) && (are_expressions bs && are_expressions o)
  is_expression (node.unless_node t e o) = (is_bare e && is_none o) && (is_expression t && is_expression e)
  is_expression (node.while_node until first t e) = is_bare e && (is_expression t && is_expression e)
  is_expression (node.scoped_constant e x) = is_expression e
  is_expression (node.index e is) = is_expression e && are_expressions is
  is_expression (node.defined e) = is_expression e
  is_expression (node.rescue_modifier e o) = is_expression e && is_expression o
  is_expression n = false

  -- what may stand before an assignment: a variable, a constant, a constant of a value, an index, and a method of a value
  pub is_assignable : Node → Bool
  is_assignable (node.local x) = true
  is_assignable (node.instance_variable x) = true
  is_assignable (node.global_variable x) = true
  is_assignable (node.constant x) = true
  is_assignable (node.scoped_constant e x) = is_expression e
  is_assignable (node.index e is) = is_expression e && are_expressions is
  is_assignable (node.call r x a b) = (is_one r && are_expressions r) && (is_none a && is_none b)
  is_assignable n = false

  pub are_expressions : Nodes → Bool
  are_expressions node.none = true
  are_expressions (node.more n ns) = is_expression n && are_expressions ns

  -- the pieces of a literal: bytes, and expressions that are put in
  pub are_pieces : Nodes → Bool
  are_pieces node.none = true
  are_pieces (node.more n ns) = (is_bytes n || is_expression n) && are_pieces ns

-- one of these pieces
abbrev pub is_piece : Node → Bool
is_piece n = is_bytes n || is_expression n
