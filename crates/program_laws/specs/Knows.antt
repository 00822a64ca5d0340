-- Which trees name no local but those that are known, and have the shape of trees: each optional parameter is one. What
-- stands in a definition with a parameter outside the language isn't asked, since it may name that.
use Rattle.std.specs.Prelude.{Bool, true, false, ◌&&◌, ◌||◌, List, [], ◌++◌}
use Rattle.text_set.specs.Sets.{is_among}
use Rattle.parser_tree.specs.Node as node
use Rattle.parser_tree.specs.Node.{Name, Node, Nodes}
use Rattle.program_laws.specs.Fits.{names_within, are_optional}

abbrev pub is_outside : Node → Bool
is_outside (node.outside o at es) = true
is_outside n = false

abbrev pub has_outside : Nodes → Bool
has_outside node.none = false
has_outside (node.more n ns) = is_outside n || has_outside ns

-- a tree or a part of one, where these names are known
abbrev mutual
  pub knows : List Name → Node → Bool
  knows xs (node.local x) = is_among x xs
  knows xs (node.text ps) = all_known xs ps
  knows xs (node.symbol_text ps) = all_known xs ps
  knows xs (node.scoped_constant e x) = knows xs e
  knows xs (node.array is) = all_known xs is
  knows xs (node.hash ps) = all_known xs ps
  knows xs (node.statements es) = all_known xs es
  knows xs (node.not_node e) = knows xs e
  knows xs (node.unary o e) = knows xs e
  knows xs (node.operation e o f) = knows xs e && knows xs f
  knows xs (node.and_node e f) = knows xs e && knows xs f
  knows xs (node.or_node e f) = knows xs e && knows xs f
  knows xs (node.range e f x at) = knows xs e && knows xs f
  knows xs (node.if_node bs o) = all_known xs bs && all_known xs o
  knows xs (node.unless_node t b o) = knows xs t && (knows xs b && all_known xs o)
  knows xs (node.while_node u f t b) = knows xs t && knows xs b
  knows xs (node.for_node ts e b) = knows xs e && (all_known xs ts && knows xs b)
  knows xs (node.case_node s cs o) = all_known xs s && (all_known xs cs && all_known xs o)
  knows xs (node.begin_node b cs o e) = knows xs b && (all_known xs cs && (all_known xs o && all_known xs e))
  knows xs (node.rescue_modifier e f) = knows xs e && knows xs f
  knows xs (node.call r x is b) = all_known xs r && (all_known xs is && all_known xs b)
  knows xs (node.index e is) = knows xs e && all_known xs is
  knows xs (node.super_node at is b) = all_known xs is && all_known xs b
  knows xs (node.yield_node at is) = all_known xs is
  knows xs (node.defined e) = knows xs e
  knows xs (node.lambda d) = knows xs d
  knows xs (node.return_node at is) = all_known xs is
  knows xs (node.break_node at is) = all_known xs is
  knows xs (node.next_node at is) = all_known xs is
  knows xs (node.assign t e) = knows xs t && knows xs e
  knows xs (node.operator_assign t o e) = knows xs t && knows xs e
  knows xs (node.multiple_assign t e) = knows xs t && knows xs e
  knows xs (node.targets before star rest after) = all_known xs before && (all_known xs rest && all_known xs after)
  knows xs (node.define s x d) = all_known xs s && knows [] d
  knows xs (node.class_node s x p ls b) = knows xs s && (all_known xs p && knows ls b)
  knows xs (node.singleton_class e ls b) = knows xs e && knows ls b
  knows xs (node.module_node s x ls b) = knows xs s && knows ls b
  knows xs (node.splat e) = knows xs e
  knows xs (node.pair e f) = knows xs e && knows xs f
  knows xs (node.branch t b) = knows xs t && knows xs b
  knows xs (node.when_clause ts b) = all_known xs ts && knows xs b
  knows xs (node.rescue_clause cs t b) = all_known xs cs && (all_known xs t && knows xs b)
  knows xs (node.arguments is b) = all_known xs is && all_known xs b
  knows xs (node.definition at rs os rest ps x outside ls b) =
      let ys = names_within rs os rest ps x ls ++ xs in
      has_outside outside
      || (are_optional os && (all_known ys rs && (all_known ys os && (all_known ys ps && knows ys b))))
  knows xs (node.optional_parameter x e) = is_among x xs && knows xs e
  knows xs n = true

  pub all_known : List Name → Nodes → Bool
  all_known xs node.none = true
  all_known xs (node.more n ns) = knows xs n && all_known xs ns
