-- The parts of what is an expression, and nodes that are none.
use Rattle.std.proofs.Common.{◌≡◌, ℕ, true, false, ◌&&◌, List, [], ◌∷◌, ◌++◌, Option, Some, None, refl, sym, subst}
use Rattle.std.proofs.lemmas.Bool.{and_parts}
use Rattle.parser_tree.specs.Node as node
use Rattle.parser_tree.specs.Node.{Node, nodes}
use Rattle.parser_tokens.specs.declared.operators.Assignment.{Assignment}
use Rattle.parser_tokens.specs.declared.operators.Assignment.TheVariants as signs
use Rattle.parser_tokens.specs.declared.operators.Infix.{Infix}
use Rattle.parser_tokens.specs.declared.operators.Infix.TheVariants as infixes
use Rattle.parser_tokens.specs.declared.operators.Junction.{Junction}
use Rattle.parser_tokens.specs.declared.operators.Junction.TheVariants as junctions_of
use Rattle.parser_tokens.specs.declared.operators.Prefix.{Prefix}
use Rattle.parser_tokens.specs.declared.operators.Prefix.TheVariants as prefixes
use Rattle.parser_tokens.specs.declared.word.Modifier.{Modifier}
use Rattle.parser_tokens.specs.declared.word.Modifier.TheVariants as kinds
use Rattle.parser_nodes.specs.Calls.{CalleeNode, name_callee, method_callee, super_callee, outside_callee, Given, call_node}
use Rattle.parser_nodes.specs.Nodes.{shape, prefix_node, infix_node, junction_node, assignment_node, condition_of, condition_node, choice_node, modified_node}
use Rattle.parser_nodes.specs.declared.nodes.Shape.{Shape}
use Rattle.parser_nodes.specs.declared.nodes.Shape.TheVariants as shapes
use Rattle.parser_form_nodes.specs.Definitions.{HeadNode, method_by, method_node}
use Rattle.parser_form_nodes.specs.Parameters.{BlockNode}
use Rattle.parser_laws.specs.Expressions.{is_bare, is_piece, are_pieces, is_assignable, is_expression}
use Rattle.parser_laws.proofs.Results.{both, clash, differs}

pub prefix_part : (o : Prefix) (n : Node) → is_expression (prefix_node o n) ≡ true → is_expression n ≡ true
prefix_part prefixes.Not n h = h
prefix_part (prefixes.Operation o) n h = h

pub infix_parts : (o : Infix) (at : ℕ) (a b : Node) → is_expression (infix_node o at a b) ≡ true
    → (is_expression a ≡ true) × (is_expression b ≡ true)
infix_parts (infixes.Operation o) at a b h = and_parts (is_expression a) (is_expression b) h
infix_parts infixes.And at a b h = and_parts (is_expression a) (is_expression b) h
infix_parts infixes.Or at a b h = and_parts (is_expression a) (is_expression b) h
infix_parts infixes.Range at a b h = and_parts (is_expression a) (is_expression b) h
infix_parts infixes.RangeExclusive at a b h = and_parts (is_expression a) (is_expression b) h
infix_parts infixes.Match at a b h = clash false h refl
infix_parts infixes.Ambiguous at a b h = clash false h refl

pub junction_parts : (j : Junction) (a b : Node) → is_expression (junction_node j a b) ≡ true → (is_expression a ≡ true)
    × (is_expression b ≡ true)
junction_parts junctions_of.And a b h = and_parts (is_expression a) (is_expression b) h
junction_parts junctions_of.Or a b h = and_parts (is_expression a) (is_expression b) h

pub assignment_parts : (a : Assignment) (t e : Node) → is_expression (assignment_node a t e) ≡ true
    → (is_assignable t ≡ true) × (is_expression e ≡ true)
assignment_parts signs.Plain t e h = and_parts (is_assignable t) (is_expression e) h
assignment_parts (signs.Operation o) t e h = and_parts (is_assignable t) (is_expression e) h

-- a condition that is an expression is what it was
condition_same : (n : Node) → is_expression (condition_node n) ≡ true → condition_node n ≡ n
condition_same n = by_shape (shape n)
  where
    by_shape : (s : Shape) → is_expression (condition_of s n) ≡ true → condition_of s n ≡ n
    by_shape (shapes.Range at) h = differs (sym h)
    by_shape shapes.Begin h = refl
    by_shape shapes.Target h = refl
    by_shape shapes.Other h = refl

condition_is : (n : Node) → is_expression (condition_node n) ≡ true → is_expression n ≡ true
condition_is n h = subst (λ m. is_expression m ≡ true) (condition_same n h) h

pub choice_parts : (test a b : Node) → is_expression (choice_node test a b) ≡ true → (is_expression test ≡ true)
    × (is_expression a ≡ true) × (is_expression b ≡ true)
choice_parts test a b h =
    let all = and_parts (is_bare b && true) _ h in
    let branches = and_parts ((is_bare a && (is_expression (condition_node test) && is_expression a)) && true)
    (is_expression b && true) all.1 in
    let branch = and_parts (is_bare a && (is_expression (condition_node test) && is_expression a)) true branches.0 in
    let chosen = and_parts (is_bare a) (is_expression (condition_node test) && is_expression a) branch.0 in
    let tested = and_parts (is_expression (condition_node test)) (is_expression a) chosen.1 in
    let other = and_parts (is_expression b) true branches.1 in
    (condition_is test tested.0, tested.1, other.0)

-- what stands before a modifier and behind it
pub modified_parts : (m : Modifier) (body part : Node) → is_expression (modified_node m body part) ≡ true → (is_expression body ≡ true) × (is_expression part ≡ true)
modified_parts kinds.If body part h =
    let branch = and_parts (is_bare body && (is_expression (condition_node part) && is_expression body)) true
    (and_parts (is_expression (node.branch (condition_node part) body) && true) true h).0 in
    let tested = and_parts (is_expression (condition_node part)) (is_expression body)
    (and_parts (is_bare body) _ branch.0).1 in
    (tested.1, condition_is part tested.0)
modified_parts kinds.Unless body part h =
    let tested = and_parts (is_expression (condition_node part)) (is_expression body)
    (and_parts (is_bare body && true) _ h).1 in
    (tested.1, condition_is part tested.0)
modified_parts kinds.While body part h =
    let tested = and_parts (is_expression (condition_node part)) (is_expression body) (and_parts (is_bare body) _ h).1
    in
    (tested.1, condition_is part tested.0)
modified_parts kinds.Until body part h =
    let tested = and_parts (is_expression (condition_node part)) (is_expression body) (and_parts (is_bare body) _ h).1
    in
    (tested.1, condition_is part tested.0)
modified_parts kinds.Rescue body part h = and_parts (is_expression body) (is_expression part) h

pub pieces_parts : (ns ms : List Node) → are_pieces (nodes (ns ++ ms)) ≡ true → (are_pieces (nodes ns) ≡ true)
    × (are_pieces (nodes ms) ≡ true)
pieces_parts [] ms h = (refl, h)
pieces_parts (n ∷ ns) ms h =
    let p = and_parts (is_piece n) (are_pieces (nodes (ns ++ ms))) h in
    let q = pieces_parts ns ms p.1 in
    (both (is_piece n) (are_pieces (nodes ns)) p.0 q.0, q.1)

-- a piece that is statements is an expression
pub piece_is : (n : Node) → is_bare n ≡ false → is_piece n ≡ true → is_expression n ≡ true
piece_is (node.piece x) group h = differs group
piece_is n group h = h

pub call_is_none : (c : CalleeNode) (given : Given) (block : _) → is_expression (call_node c given block) ≡ false
call_is_none (name_callee x i) given block = refl
call_is_none (method_callee r x s) given block = refl
call_is_none (super_callee at) given block = refl
call_is_none (outside_callee o at es) given block = refl

pub method_is_none : (h : HeadNode) (b : BlockNode) → is_expression (method_node h b) ≡ false
method_is_none h b = by_outside h.outside
  where
    by_outside : (o : Option ℕ) → is_expression (method_by o h b) ≡ false
    by_outside None = refl
    by_outside (Some at) = refl
