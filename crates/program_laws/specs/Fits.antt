-- Which trees fit where they stand: what leaves has where to go, each local that is named is known, and each optional
-- parameter is one. Where they stand is what parser_checks says of it, and the names that are known there.
use Rattle.std.specs.Prelude.{◌≡◌, Bool, true, false, ◌&&◌, List, [], ◌∷◌, ◌++◌, Option}
use Rattle.text_set.specs.Sets.{is_among}
use Rattle.parser_tree.specs.declared.tree.RestParameter.{RestParameter}
use Rattle.parser_tree.specs.Node as node
use Rattle.parser_tree.specs.Node.{Name, Node, Nodes}
use Rattle.parser_checks.specs.Doubled.{rest_bound, block_bound}
use Rattle.parser_checks.specs.Places.{program, within_loop, within_for, within_block, within_clause, method, class_body, place_of}
use Rattle.parser_checks.specs.declared.around.Around.{Around}

-- the name of a required parameter; those that a pattern assigns are among the other variables
abbrev pub required_name : Node → List Name
required_name (node.name_parameter x) = x ∷ []
required_name n = []

abbrev pub required_names : Nodes → List Name
required_names node.none = []
required_names (node.more n ns) = required_name n ++ required_names ns

abbrev pub optional_name : Node → List Name
optional_name (node.optional_parameter x e) = x ∷ []
optional_name n = []

abbrev pub optional_names : Nodes → List Name
optional_names node.none = []
optional_names (node.more n ns) = optional_name n ++ optional_names ns

-- the names that a definition binds: its parameters and its other variables
abbrev pub names_within : Nodes → Nodes → RestParameter → Nodes → Option Name → List Name → List Name
names_within required optional rest post b ls =
    required_names required ++ optional_names optional ++ rest_bound rest ++ required_names post ++ block_bound b ++ ls

abbrev pub is_optional : Node → Bool
is_optional (node.optional_parameter x e) = true
is_optional n = false

abbrev pub are_optional : Nodes → Bool
are_optional node.none = true
are_optional (node.more n ns) = is_optional n && are_optional ns

-- A tree or a part of one, among the names that are known where it stands.
abbrev mutual
  pub fits : Around → List Name → Node → Bool
  fits a xs (node.local x) = is_among x xs
  fits a xs (node.text ps) = all_fit a xs ps
  fits a xs (node.symbol_text ps) = all_fit a xs ps
  fits a xs (node.scoped_constant e x) = fits a xs e
  fits a xs (node.array is) = all_fit a xs is
  fits a xs (node.hash ps) = all_fit a xs ps
  fits a xs (node.statements es) = all_fit a xs es
  fits a xs (node.not_node e) = fits a xs e
  fits a xs (node.unary o e) = fits a xs e
  fits a xs (node.operation e o f) = fits a xs e && fits a xs f
  fits a xs (node.and_node e f) = fits a xs e && fits a xs f
  fits a xs (node.or_node e f) = fits a xs e && fits a xs f
  fits a xs (node.range e f x at) = fits a xs e && fits a xs f
  fits a xs (node.if_node bs o) = all_fit a xs bs && all_fit a xs o
  fits a xs (node.unless_node t b o) = fits a xs t && (fits a xs b && all_fit a xs o)
  fits a xs (node.while_node u f t b) = fits (within_loop a) xs t && fits (within_loop a) xs b
  fits a xs (node.for_node ts e b) = fits a xs e && (all_fit (within_for a) xs ts && fits (within_for a) xs b)
  fits a xs (node.case_node s cs o) = all_fit a xs s && (all_fit a xs cs && all_fit a xs o)
  fits a xs (node.begin_node b cs o e) = fits a xs b && (all_fit a xs cs && (all_fit a xs o && all_fit a xs e))
  fits a xs (node.rescue_modifier e f) = fits a xs e && fits (within_clause a) xs f
  fits a xs (node.call r x is b) = all_fit a xs r && (all_fit a xs is && all_fit (within_block a) xs b)
  fits a xs (node.index e is) = fits a xs e && all_fit a xs is
  fits a xs (node.super_node at is b) = a.in_method && (all_fit a xs is && all_fit (within_block a) xs b)
  fits a xs (node.yield_node at is) = a.in_method && all_fit a xs is
  fits a xs (node.defined e) = fits a xs e
  fits a xs (node.lambda d) = fits (within_block a) xs d
  fits a xs (node.return_node at is) = a.may_return && all_fit a xs is
  fits a xs (node.break_node at is) = a.in_loop && all_fit a xs is
  fits a xs (node.next_node at is) = a.in_loop && all_fit a xs is
  fits a xs (node.retry at) = a.in_clause
  fits a xs (node.assign t e) = fits a xs t && fits a xs e
  fits a xs (node.operator_assign t o e) = fits a xs t && fits a xs e
  fits a xs (node.multiple_assign t e) = fits a xs t && fits a xs e
  fits a xs (node.targets before star rest after) = all_fit a xs before && (all_fit a xs rest && all_fit a xs after)
  fits a xs (node.define s x d) = all_fit a xs s && fits (method (place_of d)) [] d
  fits a xs (node.class_node s x p ls b) = fits a xs s && (all_fit a xs p && fits (class_body a) ls b)
  fits a xs (node.singleton_class e ls b) = fits a xs e && fits (class_body a) ls b
  fits a xs (node.module_node s x ls b) = fits a xs s && fits (class_body a) ls b
  fits a xs (node.splat e) = fits a xs e
  fits a xs (node.pair e f) = fits a xs e && fits a xs f
  fits a xs (node.branch t b) = fits a xs t && fits a xs b
  fits a xs (node.when_clause ts b) = all_fit a xs ts && fits a xs b
  fits a xs (node.rescue_clause cs t b) =
      all_fit (within_clause a) xs cs && (all_fit (within_clause a) xs t && fits (within_clause a) xs b)
  fits a xs (node.arguments is b) = all_fit a xs is && all_fit a xs b
  fits a xs (node.definition at required optional rest post x outside ls b) =
      let ys = names_within required optional rest post x ls ++ xs in
      are_optional optional && (all_fit a ys required && (all_fit a ys optional && (all_fit a ys post && fits a ys b)))
  fits a xs (node.optional_parameter x e) = is_among x xs && fits a xs e
  fits a xs n = true

  pub all_fit : Around → List Name → Nodes → Bool
  all_fit a xs node.none = true
  all_fit a xs (node.more n ns) = fits a xs n && all_fit a xs ns

-- the tree of a program with these variables
abbrev pub IsFitting : List Name → Node → Type 0
IsFitting ls n = fits program ls n ≡ true
