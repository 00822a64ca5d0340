-- The names of parameters, and whether two are one.
use Rattle.std.specs.Prelude.{◌==◌, Bool, true, false, not, ◌&&◌, if◌then◌else◌, List, [], ◌∷◌, ◌++◌, Option, Some, None}
use Rattle.text_set.specs.Sets.{is_among, with_text}
use Rattle.parser_tree.specs.declared.tree.RestParameter.{RestParameter}
use Rattle.parser_tree.specs.declared.tree.RestParameter.TheVariants.{Absent, Unnamed, Named}
use Rattle.parser_tree.specs.declared.tree.ParameterList.{ParameterList}
use Rattle.parser_tree.specs.PartsBy.{Boxed, optionals_by, parameters_by}
use Rattle.parser_tree.specs.Node as node
use Rattle.parser_tree.specs.Node.{Name, Node, Nodes}

-- the names that a parameter binds, those of a pattern in the order of the text
abbrev mutual
  pub bound : Node → List Name
  bound (node.name_parameter x) = x ∷ []
  bound (node.optional_parameter x e) = x ∷ []
  bound (node.local x) = x ∷ []
  bound (node.targets before star rest after) = all_bound before ++ (all_bound rest ++ all_bound after)
  bound n = []

  pub all_bound : Nodes → List Name
  all_bound node.none = []
  all_bound (node.more n ns) = bound n ++ all_bound ns

abbrev pub rest_bound : RestParameter → List Name
rest_bound Absent = []
rest_bound Unnamed = []
rest_bound (Named x) = x ∷ []

abbrev pub block_bound : Option Name → List Name
block_bound None = []
block_bound (Some x) = x ∷ []

abbrev pub names_of : Nodes → Nodes → RestParameter → Nodes → Option Name → List Name
names_of required optional rest post b =
    all_bound required ++ (all_bound optional ++ (rest_bound rest ++ (all_bound post ++ block_bound b)))

-- the names of parameters, by the node of each tree in them
abbrev pub names_by : {T : Type 0} → (T → Node) → ParameterList (Boxed T) → List Name
names_by v p =
    names_of (parameters_by v p.required.items) (optionals_by v p.optional.items) p.rest (parameters_by v p.post.items)
    p.block

abbrev pub begins_low : Name → Bool
begins_low [] = false
begins_low (b ∷ bs) = b == 95

-- no name stands after itself or among those before the list, but those that begin with `_` may
abbrev pub are_distinct : List Name → List Name → Bool
are_distinct before [] = true
are_distinct before (x ∷ xs) =
    if begins_low x then are_distinct before xs
    else not (is_among x before) && are_distinct (with_text before x) xs
