-- The nodes of the parts of a tree, by the node of each tree in them.
use Rattle.std.specs.Prelude.{List, Option, Some, None, map, Box}
use Rattle.std.specs.declared.alloc.Global.{Global}
use Rattle.rb_syntax.specs.declared.core_form.Item.{Item}
use Rattle.rb_syntax.specs.declared.core_form.Item.TheVariants.{Plain, Splat}
use Rattle.rb_syntax.specs.declared.core_form.Pair.{Pair}
use Rattle.rb_syntax.specs.declared.core_form.Branch.{Branch}
use Rattle.parser_tree.specs.declared.tree.Piece.{Piece}
use Rattle.parser_tree.specs.declared.tree.Piece.TheVariants.{Text, Interpolation}
use Rattle.parser_tree.specs.declared.tree.Arguments.{Arguments}
use Rattle.parser_tree.specs.declared.tree.Parameter.{Parameter}
use Rattle.parser_tree.specs.declared.tree.Parameter.TheVariants as parameter
use Rattle.parser_tree.specs.declared.tree.OptionalParameter.{OptionalParameter}
use Rattle.parser_tree.specs.declared.tree.Definition.{Definition}
use Rattle.parser_tree.specs.declared.tree.RescueClause.{RescueClause}
use Rattle.parser_tree.specs.declared.tree.RescueBody.{RescueBody}
use Rattle.parser_tree.specs.declared.tree.WhenClause.{WhenClause}
use Rattle.parser_tree.specs.declared.tree.TargetList.{TargetList}
use Rattle.parser_tree.specs.declared.tree.Scope.{Scope}
use Rattle.parser_tree.specs.declared.tree.Scope.TheVariants.{Innermost, Top, In}
use Rattle.parser_tree.specs.Node as node
use Rattle.parser_tree.specs.Node.{Node, Nodes, nodes}

abbrev pub Boxed : Type 0 → Type 0
Boxed T = Box T Global

abbrev pub tree_by : {T : Type 0} → (T → Node) → Boxed T → Node
tree_by v b = v b.value

abbrev pub trees_by : {T : Type 0} → (T → Node) → List (Boxed T) → Nodes
trees_by v ts = nodes (map (tree_by v) ts)

abbrev pub item_by : {T : Type 0} → (T → Node) → Item (Boxed T) → Node
item_by v (Plain e) = tree_by v e
item_by v (Splat e) = node.splat (tree_by v e)

abbrev pub items_by : {T : Type 0} → (T → Node) → List (Item (Boxed T)) → Nodes
items_by v is = nodes (map (item_by v) is)

abbrev pub pair_by : {T : Type 0} → (T → Node) → Pair (Boxed T) → Node
pair_by v p = node.pair (tree_by v p.key) (tree_by v p.value)

abbrev pub pairs_by : {T : Type 0} → (T → Node) → List (Pair (Boxed T)) → Nodes
pairs_by v ps = nodes (map (pair_by v) ps)

abbrev pub branch_by : {T : Type 0} → (T → Node) → Branch (Boxed T) → Node
branch_by v b = node.branch (tree_by v b.test) (tree_by v b.body)

abbrev pub branches_by : {T : Type 0} → (T → Node) → List (Branch (Boxed T)) → Nodes
branches_by v bs = nodes (map (branch_by v) bs)

abbrev pub piece_by : {T : Type 0} → (T → Node) → Piece (Boxed T) → Node
piece_by v (Text bytes) = node.piece bytes
piece_by v (Interpolation e) = tree_by v e

abbrev pub pieces_by : {T : Type 0} → (T → Node) → List (Piece (Boxed T)) → Nodes
pieces_by v ps = nodes (map (piece_by v) ps)

abbrev pub boxed_by : {T : Type 0} → (T → Node) → Option (Boxed T) → Nodes
boxed_by v None = node.none
boxed_by v (Some t) = node.one (tree_by v t)

abbrev pub arguments_node_by : {T : Type 0} → (T → Node) → Arguments (Boxed T) → Node
arguments_node_by v a = node.arguments (items_by v a.items.items) (boxed_by v a.block)

abbrev pub arguments_by : {T : Type 0} → (T → Node) → Option (Arguments (Boxed T)) → Nodes
arguments_by v None = node.none
arguments_by v (Some a) = node.one (arguments_node_by v a)

abbrev pub parameter_by : {T : Type 0} → (T → Node) → Parameter (Boxed T) → Node
parameter_by v (parameter.Name x) = node.name_parameter x
parameter_by v (parameter.Pattern e) = tree_by v e

abbrev pub parameters_by : {T : Type 0} → (T → Node) → List (Parameter (Boxed T)) → Nodes
parameters_by v ps = nodes (map (parameter_by v) ps)

abbrev pub optional_by : {T : Type 0} → (T → Node) → OptionalParameter (Boxed T) → Node
optional_by v p = node.optional_parameter p.name (tree_by v p.value)

abbrev pub optionals_by : {T : Type 0} → (T → Node) → List (OptionalParameter (Boxed T)) → Nodes
optionals_by v ps = nodes (map (optional_by v) ps)

abbrev pub definition_by : {T : Type 0} → (T → Node) → Definition (Boxed T) → Node
definition_by v d =
    node.definition d.at (parameters_by v d.parameters.required.items) (optionals_by v d.parameters.optional.items)
    d.parameters.rest
    (parameters_by v d.parameters.post.items) d.parameters.block (trees_by v d.parameters.outside.items) d.locals
    (tree_by v d.body)

abbrev pub block_by : {T : Type 0} → (T → Node) → Option (Definition (Boxed T)) → Nodes
block_by v None = node.none
block_by v (Some d) = node.one (definition_by v d)

abbrev pub rescue_by : {T : Type 0} → (T → Node) → RescueClause (Boxed T) → Node
rescue_by v c = node.rescue_clause (trees_by v c.classes.items) (boxed_by v c.target) (tree_by v c.body)

abbrev pub rescues_by : {T : Type 0} → (T → Node) → List (RescueClause (Boxed T)) → Nodes
rescues_by v cs = nodes (map (rescue_by v) cs)

abbrev pub begin_by : {T : Type 0} → (T → Node) → RescueBody (Boxed T) → Node
begin_by v b = node.begin_node (tree_by v b.body) (rescues_by v b.clauses.items) (boxed_by v b.otherwise)
    (boxed_by v b.ensure)

abbrev pub when_by : {T : Type 0} → (T → Node) → WhenClause (Boxed T) → Node
when_by v c = node.when_clause (trees_by v c.tests.items) (tree_by v c.body)

abbrev pub whens_by : {T : Type 0} → (T → Node) → List (WhenClause (Boxed T)) → Nodes
whens_by v cs = nodes (map (when_by v) cs)

abbrev pub targets_by : {T : Type 0} → (T → Node) → TargetList (Boxed T) → Node
targets_by v t = node.targets (trees_by v t.before.items) t.star (boxed_by v t.rest) (trees_by v t.after.items)

abbrev pub scope_by : {T : Type 0} → (T → Node) → Scope (Boxed T) → Node
scope_by v Innermost = node.innermost
scope_by v Top = node.top
scope_by v (In t) = tree_by v t
