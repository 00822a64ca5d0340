-- A tree of the grammar, without where it lies in memory. A node's parts stand in the order of the text.
use Rattle.std.specs.Prelude.{ℕ, ℤ, Bool, List, [], ◌∷◌, Option}
use Rattle.rb_syntax.specs.declared.outside.Outside.{Outside}
use Rattle.parser_tree.specs.declared.operator.BinaryOperator.{BinaryOperator}
use Rattle.parser_tree.specs.declared.operator.UnaryOperator.{UnaryOperator}
use Rattle.parser_tree.specs.declared.operator.AssignmentOperator.{AssignmentOperator}
use Rattle.parser_tree.specs.declared.tree.RestParameter.{RestParameter}

-- a name, by its bytes
abbrev pub Name : Type 0
Name = List ℕ

mutual
  pub data Node : Type 0 where
    nil : Node
    truth : Node
    falsehood : Node
    self_reference : Node
    integer : ℤ → Node
    -- pieces
    text : Nodes → Node
    symbol : Name → Node
    symbol_text : Nodes → Node
    words : List Name → Node
    symbols : List Name → Node
    local : Name → Node
    instance_variable : Name → Node
    global_variable : Name → Node
    constant : Name → Node
    top_constant : Name → Node
    scoped_constant : Node → Name → Node
    -- items
    array : Nodes → Node
    -- pairs
    hash : Nodes → Node
    statements : Nodes → Node
    not_node : Node → Node
    unary : UnaryOperator → Node → Node
    operation : Node → BinaryOperator → Node → Node
    and_node : Node → Node → Node
    or_node : Node → Node → Node
    -- whether the end is left out, and the place of the dots
    range : Node → Node → Bool → ℕ → Node
    -- branches, and an other part or none
    if_node : Nodes → Nodes → Node
    unless_node : Node → Node → Nodes → Node
    -- whether it is until, whether the body is done first, the test, the body
    while_node : Bool → Bool → Node → Node → Node
    -- targets, what is walked over, the body
    for_node : Nodes → Node → Node → Node
    -- a subject or none, clauses, an other part or none
    case_node : Nodes → Nodes → Nodes → Node
    -- the body, clauses, the part for where nothing was raised or none, the ensure part or none
    begin_node : Node → Nodes → Nodes → Nodes → Node
    rescue_modifier : Node → Node → Node
    -- a receiver or none, the name, arguments or none, a block or none
    call : Nodes → Name → Nodes → Nodes → Node
    -- the value, and the items of the index
    index : Node → Nodes → Node
    -- the place of the word, arguments or none, a block or none
    super_node : ℕ → Nodes → Nodes → Node
    -- the place of the word, and items
    yield_node : ℕ → Nodes → Node
    defined : Node → Node
    -- a definition
    lambda : Node → Node
    -- the place of the word, and items
    return_node : ℕ → Nodes → Node
    break_node : ℕ → Nodes → Node
    next_node : ℕ → Nodes → Node
    -- the place of the word
    retry : ℕ → Node
    -- a target and its value
    assign : Node → Node → Node
    operator_assign : Node → AssignmentOperator → Node → Node
    -- targets, and the value
    multiple_assign : Node → Node → Node
    -- the targets before the star, whether there is a star, its target or none, and those behind it
    targets : Nodes → Bool → Nodes → Nodes → Node
    -- what the method is defined on or none, its name, and its definition
    define : Nodes → Name → Node → Node
    -- a scope, the name, a parent or none, the variables of the body, and the body
    class_node : Node → Name → Nodes → List Name → Node → Node
    singleton_class : Node → List Name → Node → Node
    module_node : Node → Name → List Name → Node → Node
    -- the new name, and the old one
    alias_node : Name → Name → Node
    undef_node : List Name → Node
    -- the construct, its place, and its parts
    outside : Outside → ℕ → Nodes → Node
    -- Parts of trees, which are no trees by themselves.
    -- an item: the elements of a value
    splat : Node → Node
    -- a key and a value of a Hash
    pair : Node → Node → Node
    -- bytes of a literal; what is put in is its statements
    piece : List ℕ → Node
    -- a test, and the body done where it is true
    branch : Node → Node → Node
    -- tests, and the body
    when_clause : Nodes → Node → Node
    -- classes, a target or none, the body
    rescue_clause : Nodes → Nodes → Node → Node
    -- items, and what follows & or none
    arguments : Nodes → Nodes → Node
    -- the place of the opening word, required, optional, the rest, those behind it, the name of the block or none, those
    -- outside the language, the other variables, and the body
    definition : ℕ → Nodes → Nodes → RestParameter → Nodes → Option Name → Nodes → List Name → Node → Node
    -- a required parameter by its name; a pattern is its targets
    name_parameter : Name → Node
    optional_parameter : Name → Node → Node
    -- the scopes of the constant of a class or module
    innermost : Node
    top : Node

  pub data Nodes : Type 0 where
    none : Nodes
    more : Node → Nodes → Nodes

abbrev pub nodes : List Node → Nodes
nodes [] = none
nodes (n ∷ ns) = more n (nodes ns)

abbrev pub one : Node → Nodes
one n = more n none
