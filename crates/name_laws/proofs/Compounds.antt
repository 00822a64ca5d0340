-- The nodes of compound forms name what their sections name.
use Rattle.std.proofs.Common.{Bool, true, false, List, [], ◌∷◌, map, nat_lt, length, Option, Some, None}
use Rattle.parser_tree.specs.Node as node
use Rattle.parser_tree.specs.Node.{Node, Nodes, nodes, one}
use Rattle.parser_ahead.specs.declared.sections.Compound.{Compound}
use Rattle.parser_ahead.specs.declared.sections.Compound.TheVariants as compounds
use Rattle.parser_nodes.specs.Nodes.{shape, condition_of, condition_node}
use Rattle.parser_nodes.specs.declared.nodes.Shape.{Shape}
use Rattle.parser_nodes.specs.declared.nodes.Shape.TheVariants as shapes
use Rattle.parser_form_nodes.specs.declared.sections.LastPart.{LastPart}
use Rattle.parser_form_nodes.specs.declared.sections.LastPart.TheVariants as parts
use Rattle.parser_form_nodes.specs.Sections.{SectionNode, is_part, last_of, before_last, body_if, part_body, has_part, before_part, test_or_nil, test_node, branch_of, when_of, rescue_of, if_node, unless_section, unless_by, unless_node, loop_section, loop_by, loop_node, first_or_nil, for_section, for_by, for_node, option_node, first_of, rest_of, case_section, case_by, case_node, body_or_nil, begin_of, otherwise_of, rescued_body, body_node, compound_node}
use Rattle.parser_forms.specs.Reading.{Names}
use Rattle.program_laws.proofs.Both.{either}
use Rattle.name_laws.proofs.Growing.{Knows, KnowsAll, KnowsEach}
use Rattle.name_laws.proofs.Keeping.{KnowsSection, KnowsSections}

module _ (names : Names) where
  -- a node that may be there
  abbrev pub MayKnow : Option Node → Type 0
  MayKnow None = Unit {0}
  MayKnow (Some n) = Knows names n

  abbrev MayHave : Option SectionNode → Type 0
  MayHave None = Unit {0}
  MayHave (Some s) = KnowsSection names s

  condition_known : (s : Shape) (n : Node) → Knows names n → Knows names (condition_of s n)
  condition_known (shapes.Range at) n h = tt
  condition_known shapes.Begin n h = h
  condition_known shapes.Target n h = h
  condition_known shapes.Other n h = h

  pub test_known : (n : Node) → Knows names n → Knows names (condition_node n)
  test_known n h = condition_known (shape n) n h

  last_node : (ns : List Node) → KnowsEach names ns → MayKnow (last_of ns)
  unfolding last_of
  last_node [] h = tt
  last_node (n ∷ []) h = h.0
  last_node (n ∷ m ∷ ns) h = last_node (m ∷ ns) h.1

  last_section : (ss : List SectionNode) → KnowsSections names ss → MayHave (last_of ss)
  unfolding last_of
  last_section [] h = tt
  last_section (s ∷ []) h = h.0
  last_section (s ∷ t ∷ ss) h = last_section (t ∷ ss) h.1

  before_last_known : (ss : List SectionNode) → KnowsSections names ss → KnowsSections names (before_last ss)
  unfolding before_last
  before_last_known [] h = tt
  before_last_known (s ∷ []) h = tt
  before_last_known (s ∷ t ∷ ss) h = (h.0, before_last_known (t ∷ ss) h.1)

  before_known : (p : LastPart) (ss : List SectionNode) → KnowsSections names ss → KnowsSections names
      (before_part p ss)
  unfolding before_part
  before_known p ss h =
      either (λ ts. KnowsSections names ts) (has_part p (last_of ss)) (before_last ss) ss (before_last_known ss h) h

  body_if_known : (p : LastPart) (s : Option SectionNode) → MayHave s → KnowsAll names (body_if p s)
  body_if_known p None h = tt
  body_if_known p (Some s) h = either (λ ns. KnowsAll names ns) (is_part p s.kind) (one s.body) node.none (h.1.1, tt) tt

  part_known : (p : LastPart) (ss : List SectionNode) → KnowsSections names ss → KnowsAll names (part_body p ss)
  unfolding part_body
  part_known p ss h = body_if_known p (last_of ss) (last_section ss h)

  by_test : (n : Option Node) → MayKnow n → Knows names (test_or_nil n)
  by_test None h = tt
  by_test (Some n) h = test_known n h

  heads_known : (ns : List Node) → KnowsEach names ns → Knows names (test_node ns)
  heads_known ns h = by_test (last_of ns) (last_node ns h)

  branches : (ss : List SectionNode) → KnowsSections names ss → KnowsAll names (nodes (map branch_of ss))
  unfolding branch_of
  branches [] h = tt
  branches (s ∷ ss) h = ((heads_known s.heads h.0.0, h.0.1.1), branches ss h.1)

  whens : (ss : List SectionNode) → KnowsSections names ss → KnowsAll names (nodes (map when_of ss))
  whens [] h = tt
  whens (s ∷ ss) h = ((h.0.0, h.0.1.1), whens ss h.1)

  rescues : (ss : List SectionNode) → KnowsSections names ss → KnowsAll names (nodes (map rescue_of ss))
  rescues [] h = tt
  rescues (s ∷ ss) h = ((h.0.0, (h.0.1.0, h.0.1.1)), rescues ss h.1)

  unless_known : (s : Option SectionNode) (o : Nodes) → MayHave s → KnowsAll names o → Knows names (unless_by s o)
  unfolding unless_by unless_section
  unless_known None o h k = tt
  unless_known (Some s) o h k = (heads_known s.heads h.0, (h.1.1, k))

  loop_known : (until : Bool) (s : Option SectionNode) → MayHave s → Knows names (loop_by until s)
  unfolding loop_by loop_section
  loop_known until None h = tt
  loop_known until (Some s) h = (heads_known s.heads h.0, h.1.1)

  first_known : (ns : Nodes) → KnowsAll names ns → Knows names (first_or_nil ns)
  first_known node.none h = tt
  first_known (node.more n ns) h = h.0

  for_known : (s : Option SectionNode) → MayHave s → Knows names (for_by s)
  unfolding for_by for_section
  for_known None h = tt
  for_known (Some s) h = (first_known s.target h.1.0, (h.0, h.1.1))

  first_section : (ss : List SectionNode) → KnowsSections names ss → MayHave (first_of ss)
  unfolding first_of
  first_section [] h = tt
  first_section (s ∷ ss) h = h.0

  rest_known : (ss : List SectionNode) → KnowsSections names ss → KnowsSections names (rest_of ss)
  unfolding rest_of
  rest_known [] h = tt
  rest_known (s ∷ ss) h = h.1

  option_known : (n : Option Node) → MayKnow n → KnowsAll names (option_node n)
  option_known None h = tt
  option_known (Some n) h = (h, tt)

  case_known : (s : Option SectionNode) (ss : List SectionNode) (o : Nodes) → MayHave s → KnowsSections names ss
      → KnowsAll names o → Knows names (case_by s ss o)
  unfolding case_by case_section
  case_known None ss o h k l = tt
  case_known (Some s) ss o h k l = (option_known (last_of s.heads) (last_node s.heads h.0), (whens ss k, l))

  body_or_nil_known : (s : Option SectionNode) → MayHave s → Knows names (body_or_nil s)
  body_or_nil_known None h = tt
  body_or_nil_known (Some s) h = h.1.1

  begin_known : (ss : List SectionNode) (o e : Nodes) → KnowsSections names ss → KnowsAll names o → KnowsAll names e
      → Knows names (begin_of ss o e)
  begin_known ss o e h k l =
      (body_or_nil_known (first_of ss) (first_section ss h), (rescues (rest_of ss) (rest_known ss h), (k, l)))

  otherwise_known : (ss : List SectionNode) (e : Nodes) → KnowsSections names ss → KnowsAll names e
      → Knows names (otherwise_of ss e)
  otherwise_known ss e h k =
      begin_known (before_part parts.Else ss) (part_body parts.Else ss) e (before_known parts.Else ss h)
      (part_known parts.Else ss h) k

  rescued_known : (ss : List SectionNode) → KnowsSections names ss → Knows names (rescued_body ss)
  unfolding rescued_body
  rescued_known ss h = otherwise_known (before_part parts.Ensure ss) (part_body parts.Ensure ss)
      (before_known parts.Ensure ss h) (part_known parts.Ensure ss h)

  pub body_known : (ss : List SectionNode) → KnowsSections names ss → Knows names (body_node ss)
  body_known ss h =
      either (λ n. Knows names n) (nat_lt 1 (length ss)) (rescued_body ss) (body_or_nil (last_of ss))
      (rescued_known ss h) (body_or_nil_known (last_of ss) (last_section ss h))

  pub compound_known : (c : Compound) (ss : List SectionNode) → KnowsSections names ss
      → Knows names (compound_node c ss)
  unfolding if_node unless_node loop_node for_node case_node
  compound_known compounds.If ss h =
      (branches (before_part parts.Else ss) (before_known parts.Else ss h), part_known parts.Else ss h)
  compound_known compounds.Unless ss h =
      let b = before_part parts.Else ss in
      unless_known (last_of b) (part_body parts.Else ss) (last_section b (before_known parts.Else ss h))
      (part_known parts.Else ss h)
  compound_known compounds.While ss h = loop_known false (last_of ss) (last_section ss h)
  compound_known compounds.Until ss h = loop_known true (last_of ss) (last_section ss h)
  compound_known compounds.For ss h = for_known (last_of ss) (last_section ss h)
  compound_known compounds.Case ss h =
      let b = before_part parts.Else ss in
      let g = before_known parts.Else ss h in
      case_known (first_of b) (rest_of b) (part_body parts.Else ss) (first_section b g) (rest_known b g)
      (part_known parts.Else ss h)
  compound_known compounds.Body ss h = rescued_known ss h
