-- The targets of a multiple assignment, as nodes.
use Rattle.std.specs.Prelude.{Bool, true, false, not, ◌||◌, if◌then◌else◌, List, [], ◌∷◌, ◌++◌, map, Option, Some, None}
use Rattle.parser_tree.specs.declared.tree.TargetList.{TargetList}
use Rattle.parser_tree.specs.Node as node
use Rattle.parser_tree.specs.Node.{Node, Nodes, nodes, one}
use Rattle.parser_tree.specs.Parts.{is_group, boxed}
use Rattle.parser_tree.specs.View.{Tree, view}
use Rattle.parser_form_nodes.specs.declared.targets.Target.{Target}
use Rattle.parser_form_nodes.specs.declared.targets.Target.TheVariants as targets
use Rattle.parser_form_nodes.specs.declared.targets.Targets.{Targets}

-- those before the star, whether there is one, its target or none, and those behind it
pub record TargetListNode : Type 0 where
  pub before : List Node
  pub star : Bool
  pub rest : Nodes
  pub after : List Node

abbrev pub target_list_view : TargetList Tree → TargetListNode
target_list_view t = record {
  before = map view t.before.items;
  star = t.star;
  rest = boxed t.rest;
  after =
      map view t.after.items;
}

abbrev pub list_node : TargetListNode → Node
list_node l = node.targets (nodes l.before) l.star l.rest (nodes l.after)

-- the targets that were read
pub record TargetsNode : Type 0 where
  pub list : TargetListNode
  pub several : Bool
  pub commas : Bool

abbrev pub targets_view : Targets → TargetsNode
targets_view t = record { list = target_list_view t.list; several = t.several; commas = t.commas }

pub data TargetNode : Type 0 where
  one_target : Node → TargetNode
  group_target : TargetListNode → TargetNode
  star_target : Option Node → TargetNode

abbrev pub option_view : Option Tree → Option Node
option_view None = None
option_view (Some t) = Some (view t)

abbrev pub target_view : Target → TargetNode
target_view (targets.One t) = one_target (view t)
target_view (targets.Group l) = group_target (target_list_view l)
target_view (targets.Star t) = star_target (option_view t)

abbrev pub no_targets : TargetsNode
no_targets = record {
  list = record { before = []; star = false; rest = node.none; after = [] };
  several = false;
  commas = false;
}

-- there is at most one star
abbrev pub may_follow : TargetNode → TargetsNode → Bool
may_follow (one_target n) t = true
may_follow (group_target l) t = true
may_follow (star_target n) t = not t.list.star

-- behind the star where there is one
abbrev pub with_target : Node → TargetListNode → TargetListNode
with_target n l = if l.star then (record l { after = l.after ++ n ∷ [] }) else
    (record l { before = l.before ++ n ∷ [] })

-- the target of the star is the one that was there where it has none
abbrev pub with_star : Option Node → TargetListNode → TargetListNode
with_star None l = record l { star = true }
with_star (Some n) l = record l { star = true; rest = one n }

abbrev pub put_list : TargetNode → TargetListNode → TargetListNode
put_list (one_target n) l = with_target n l
put_list (group_target g) l = with_target (list_node g) l
put_list (star_target n) l = with_star n l

abbrev pub is_several : TargetNode → Bool
is_several (one_target n) = false
is_several (group_target l) = true
is_several (star_target n) = true

-- a target behind the others, with a comma behind it or none
abbrev pub put : TargetNode → Bool → TargetsNode → TargetsNode
put x comma t = record {
  list = put_list x t.list;
  several = t.several || (is_several x || comma);
  commas =
      t.commas || comma;
}

abbrev pub alone_among : List Node → Node → Node
alone_among [] whole = whole
alone_among (n ∷ []) whole = if is_group n then n else whole
alone_among (n ∷ m ∷ ns) whole = whole

-- a group alone stands for its own targets
abbrev pub alone_node : TargetListNode → Node
alone_node l = alone_among l.before (list_node l)

-- the node of the targets of an assignment
abbrev pub targets_list : TargetsNode → Node
targets_list t = if t.commas || t.list.star then list_node t.list else alone_node t.list
