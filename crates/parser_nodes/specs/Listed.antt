-- The parts of a list, as nodes.
use Rattle.std.specs.Prelude.{ℕ, Bool, true, false, not, ◌&&◌, if◌then◌else◌, List, [], ◌∷◌, ◌++◌, map, Vec}
use Rattle.std.specs.declared.alloc.Global.{Global}
use Rattle.rb_syntax.specs.declared.core_form.Item.{Item}
use Rattle.rb_syntax.specs.declared.core_form.Item.TheVariants.{Plain, Splat}
use Rattle.rb_syntax.specs.declared.core_form.Pair.{Pair}
use Rattle.parser_tree.specs.declared.tree.Arguments.{Arguments}
use Rattle.parser_tree.specs.Node as node
use Rattle.parser_tree.specs.Node.{Node, Nodes, nodes, one}
use Rattle.parser_tree.specs.View.{Tree, view, items_of, pair_of}
use Rattle.parser_nodes.specs.Nodes.{boxed_view}
use Rattle.parser_tokens.specs.declared.starts.Jump.{Jump}
use Rattle.parser_tokens.specs.declared.starts.Jump.TheVariants as jumps
use Rattle.parser_nodes.specs.declared.listed.Part.{Part}
use Rattle.parser_nodes.specs.declared.listed.Part.TheVariants as parts
use Rattle.parser_nodes.specs.declared.listed.Listed.{Listed}
use Rattle.parser_nodes.specs.declared.listed.Phrase.{Phrase}
use Rattle.parser_nodes.specs.declared.listed.Sort.{Sort}
use Rattle.parser_nodes.specs.declared.listed.Sort.TheVariants as sorts

-- a part of a list
pub data PartNode : Type 0 where
  command_part : Node → PartNode
  plain_part : Node → PartNode
  splat_part : Node → PartNode
  pair_part : Node → Node → PartNode
  block_part : Node → PartNode

abbrev pub part_view : Part → PartNode
part_view (parts.Command t) = command_part (view t)
part_view (parts.Plain t) = plain_part (view t)
part_view (parts.Splat t) = splat_part (view t)
part_view (parts.Pair k v) = pair_part (view k) (view v)
part_view (parts.Block t) = block_part (view t)

abbrev pub item_view : Item Tree → Item Node
item_view (Plain t) = Plain (view t)
item_view (Splat t) = Splat (view t)

abbrev pub pair_view : Pair Tree → Pair Node
pair_view p = record { key = view p.key; value = view p.value }

abbrev pub items_view : Vec (Item Tree) Global → List (Item Node)
items_view v = map item_view v.items

abbrev pub pairs_view : Vec (Pair Tree) Global → List (Pair Node)
pairs_view v = map pair_view v.items

-- the parts that were read: items, pairs, what follows & or none, whether it is a command, and whether a comma ends it
pub record ListNode : Type 0 where
  pub items : List (Item Node)
  pub pairs : List (Pair Node)
  pub block : Nodes
  pub command : Bool
  pub comma : Bool

abbrev pub listed_view : Listed → ListNode
listed_view l =
    record {
      items = items_view l.items;
      pairs = pairs_view l.pairs;
      block = boxed_view l.block;
      command = l.command;
      comma = l.comma;
    }

abbrev pub nothing_listed : ListNode
nothing_listed = record { items = []; pairs = []; block = node.none; command = false; comma = false }

abbrev pub is_empty : {A : Type 0} → List A → Bool
is_empty [] = true
is_empty (x ∷ xs) = false

abbrev pub is_none : Nodes → Bool
is_none node.none = true
is_none (node.more n ns) = false

-- items, then pairs, then what follows &; a command stands alone
abbrev pub part_follows : PartNode → ListNode → Bool
part_follows (command_part n) l = is_empty l.items && is_empty l.pairs
part_follows (plain_part n) l = is_empty l.pairs
part_follows (splat_part n) l = is_empty l.pairs
part_follows (pair_part k v) l = true
part_follows (block_part n) l = true

abbrev pub may_follow : PartNode → ListNode → Bool
may_follow p l = not l.command && (is_none l.block && part_follows p l)

abbrev pub put : PartNode → ListNode → ListNode
put (command_part n) l = record l { items = l.items ++ Plain n ∷ []; command = true }
put (plain_part n) l = record l { items = l.items ++ Plain n ∷ [] }
put (splat_part n) l = record l { items = l.items ++ Splat n ∷ [] }
put (pair_part k v) l = record l { pairs = l.pairs ++ record { key = k; value = v } ∷ [] }
put (block_part n) l = record l { block = one n }

-- a comma stands behind the last part
abbrev pub with_comma : Bool → ListNode → ListNode
with_comma comma l = record l { comma = comma }

-- the items with the pairs as one Hash, the last
abbrev pub whole_items : List (Item Node) → List (Pair Node) → List (Item Node)
whole_items is [] = is
whole_items is (p ∷ ps) = is ++ Plain (node.hash (nodes (map pair_of (p ∷ ps)))) ∷ []

-- the arguments of a call: items, and what follows & or none
abbrev pub arguments_view : Arguments Tree → List (Item Node) × Nodes
arguments_view a = (items_view a.items, boxed_view a.block)

abbrev pub arguments_node : ListNode → List (Item Node) × Nodes
arguments_node l = (whole_items l.items l.pairs, l.block)

-- items alone, or a command, may stand on the right side of an assignment
abbrev pub is_right_side : ListNode → Bool
is_right_side l = not (is_empty l.items) && (is_empty l.pairs && (is_none l.block && not l.comma))

-- a node, and what it was read as
abbrev pub PhraseNode : Type 0
PhraseNode = Node × Sort

abbrev pub phrase_view : Phrase → PhraseNode
phrase_view p = (view p.tree, p.sort)

-- several items, or one with a star, are an Array
abbrev pub right_items : List (Item Node) → Bool → PhraseNode
right_items [] command = (node.array node.none, sorts.Statement)
right_items (Plain n ∷ []) command = (n, if command then sorts.Command else sorts.Argument)
right_items (Splat n ∷ []) command = (node.array (items_of (Splat n ∷ [])), sorts.Statement)
right_items (i ∷ j ∷ is) command = (node.array (items_of (i ∷ j ∷ is)), sorts.Statement)

abbrev pub right_side : ListNode → PhraseNode
right_side l = right_items l.items l.command

-- a jump whose word is at that place
abbrev pub jump_node : Jump → ℕ → List (Item Node) → Node
jump_node jumps.Return at is = node.return_node at (items_of is)
jump_node jumps.Break at is = node.break_node at (items_of is)
jump_node jumps.Next at is = node.next_node at (items_of is)
