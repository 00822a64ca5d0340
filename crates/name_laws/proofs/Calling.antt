-- The nodes of calls, of targets and of operators name what their parts name.
use Rattle.std.proofs.Common.{ℕ, Bool, List, [], ◌∷◌, Option, Some, None}
use Rattle.rb_syntax.specs.declared.core_form.Item.{Item}
use Rattle.rb_syntax.specs.declared.core_form.Item.TheVariants.{Plain, Splat}
use Rattle.parser_tree.specs.Node.{Node}
use Rattle.parser_tree.specs.View.{items_of}
use Rattle.parser_tokens.specs.declared.word.Modifier.{Modifier}
use Rattle.parser_tokens.specs.declared.word.Modifier.TheVariants as modifiers
use Rattle.parser_tokens.specs.declared.starts.Jump.{Jump}
use Rattle.parser_tokens.specs.declared.starts.Jump.TheVariants as jumps
use Rattle.parser_tokens.specs.declared.operators.Infix.{Infix}
use Rattle.parser_tokens.specs.declared.operators.Infix.TheVariants as infixes
use Rattle.parser_tokens.specs.declared.operators.Prefix.{Prefix}
use Rattle.parser_tokens.specs.declared.operators.Prefix.TheVariants as prefixes
use Rattle.parser_tokens.specs.declared.operators.Assignment.{Assignment}
use Rattle.parser_tokens.specs.declared.operators.Assignment.TheVariants as assignment
use Rattle.parser_tokens.specs.declared.operators.Junction.{Junction}
use Rattle.parser_tokens.specs.declared.operators.Junction.TheVariants as junction
use Rattle.parser_nodes.specs.Nodes.{infix_node, prefix_node, junction_node, choice_node, modified_node, assignment_node}
use Rattle.parser_nodes.specs.Listed.{ListNode, right_items, right_side, jump_node}
use Rattle.parser_nodes.specs.Calls.{CalleeNode, name_callee, method_callee, super_callee, outside_callee, OperandNode, whole, callee, Given, Block, given_node, block_node, call_node, operand_node, target_node, target_names}
use Rattle.parser_forms.specs.Reading.{Names}
use Rattle.name_laws.proofs.Growing.{Grows, same, learns, learned_name, Knows, KnowsAll, still, all_still}
use Rattle.name_laws.proofs.Keeping.{KnowsItems, KnowsList, KnowsPhrase}
use Rattle.name_laws.proofs.Compounds.{test_known}
use Rattle.name_laws.proofs.Bracketed.{KnowsArguments}

abbrev pub KnowsCallee : Names → CalleeNode → Type 0
KnowsCallee names (name_callee x i) = Unit {0}
KnowsCallee names (method_callee r x s) = Knows names r
KnowsCallee names (super_callee at) = Unit {0}
KnowsCallee names (outside_callee o at es) = Unit {0}

abbrev pub KnowsOperand : Names → OperandNode → Type 0
KnowsOperand names (whole n) = Knows names n
KnowsOperand names (callee c) = KnowsCallee names c

abbrev pub KnowsGiven : Names → Given → Type 0
KnowsGiven names None = Unit {0}
KnowsGiven names (Some a) = KnowsArguments names a

abbrev MayBlock : Names → Option Block → Type 0
MayBlock names None = Unit {0}
MayBlock names (Some b) = Knows names b.0

pub callee_still : (a b : Names) (c : CalleeNode) → Grows a b → KnowsCallee a c → KnowsCallee b c
callee_still a b (name_callee x i) g h = tt
callee_still a b (method_callee r x s) g h = still a b r g h
callee_still a b (super_callee at) g h = tt
callee_still a b (outside_callee o at es) g h = tt

pub given_still : (a b : Names) (given : Given) → Grows a b → KnowsGiven a given → KnowsGiven b given
given_still a b None g h = tt
given_still a b (Some x) g h = (all_still a b (items_of x.0) g h.0, all_still a b x.1 g h.1)

given_known : (names : Names) (given : Given) → KnowsGiven names given → KnowsAll names (given_node given)
given_known names None h = tt
given_known names (Some a) h = (h, tt)

block_known : (names : Names) (b : Option Block) → MayBlock names b → KnowsAll names (block_node b)
block_known names None h = tt
block_known names (Some b) h = (h, tt)

pub call_known : (names : Names) (c : CalleeNode) (given : Given) (b : Option Block) → KnowsCallee names c
    → KnowsGiven names given → MayBlock names b → Knows names (call_node c given b)
call_known names (name_callee x i) given b h g k = (tt, (given_known names given g, block_known names b k))
call_known names (method_callee r x s) given b h g k =
    ((h, tt), (given_known names given g, block_known names b k))
call_known names (super_callee at) given b h g k = (given_known names given g, block_known names b k)
call_known names (outside_callee o at es) given b h g k = tt

pub operand_known : (names : Names) (o : OperandNode) → KnowsOperand names o → Knows names (operand_node o)
operand_known names (whole n) h = h
operand_known names (callee c) h = call_known names c None None h tt tt

-- a name alone that is a target is known from there on
pub target_grows : (names : Names) (o : OperandNode) → Grows names (target_names o names)
target_grows names (whole n) = same names
target_grows names (callee (name_callee x i)) = learns names x
target_grows names (callee (method_callee r x s)) = same names
target_grows names (callee (super_callee at)) = same names
target_grows names (callee (outside_callee o at es)) = same names

pub target_known : (names : Names) (o : OperandNode) → KnowsOperand names o
    → Knows (target_names o names) (target_node o)
target_known names (whole n) h = h
target_known names (callee (name_callee x i)) h = learned_name names x
target_known names (callee (method_callee r x s)) h = ((h, tt), (tt, tt))
target_known names (callee (super_callee at)) h = (tt, tt)
target_known names (callee (outside_callee o at es)) h = tt

pub prefix_known : (names : Names) (p : Prefix) (n : Node) → Knows names n → Knows names (prefix_node p n)
prefix_known names prefixes.Not n h = h
prefix_known names (prefixes.Operation o) n h = h

pub infix_known : (names : Names) (o : Infix) (at : ℕ) (m n : Node) → Knows names m → Knows names n
    → Knows names (infix_node o at m n)
infix_known names (infixes.Operation o) at m n h k = (h, k)
infix_known names infixes.And at m n h k = (h, k)
infix_known names infixes.Or at m n h k = (h, k)
infix_known names infixes.Range at m n h k = (h, k)
infix_known names infixes.RangeExclusive at m n h k = (h, k)
infix_known names infixes.Match at m n h k = tt
infix_known names infixes.Ambiguous at m n h k = tt

pub junction_known : (names : Names) (j : Junction) (m n : Node) → Knows names m → Knows names n
    → Knows names (junction_node j m n)
junction_known names junction.And m n h k = (h, k)
junction_known names junction.Or m n h k = (h, k)

pub assignment_known : (names : Names) (a : Assignment) (m n : Node) → Knows names m → Knows names n
    → Knows names (assignment_node a m n)
assignment_known names assignment.Plain m n h k = (h, k)
assignment_known names (assignment.Operation o) m n h k = (h, k)

pub choice_known : (names : Names) (t m n : Node) → Knows names t → Knows names m → Knows names n
    → Knows names (choice_node t m n)
choice_known names t m n h k l = (((test_known names t h, k), tt), (l, tt))

pub modified_known : (names : Names) (m : Modifier) (body part : Node) → Knows names body → Knows names part
    → Knows names (modified_node m body part)
modified_known names modifiers.If body part h k = (((test_known names part k, h), tt), tt)
modified_known names modifiers.Unless body part h k = (test_known names part k, (h, tt))
modified_known names modifiers.While body part h k = (test_known names part k, h)
modified_known names modifiers.Until body part h k = (test_known names part k, h)
modified_known names modifiers.Rescue body part h k = (h, k)

right_known : (names : Names) (is : List (Item Node)) (command : Bool) → KnowsItems names is
    → KnowsPhrase names (right_items is command)
right_known names [] command h = tt
right_known names (Plain n ∷ []) command h = h.0
right_known names (Splat n ∷ []) command h = h
right_known names (i ∷ j ∷ is) command h = h

pub right_side_known : (names : Names) (l : ListNode) → KnowsList names l → KnowsPhrase names (right_side l)
right_side_known names l h = right_known names l.items l.command h.0

pub jump_known : (names : Names) (j : Jump) (at : ℕ) (is : List (Item Node)) → KnowsItems names is
    → Knows names (jump_node j at is)
jump_known names jumps.Return at is h = h
jump_known names jumps.Break at is h = h
jump_known names jumps.Next at is h = h
