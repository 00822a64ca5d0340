-- Commands, assignments and values name known locals.
use Rattle.std.proofs.Common.{ℕ, true, false, Option, Some, None}
use Rattle.parser_tree.specs.Node.{Node}
use Rattle.parser_tokens.specs.Tokens.{first, behind, place_at}
use Rattle.parser_tokens.specs.Expect.{expect}
use Rattle.parser_tokens.specs.Operators.{assignment_at}
use Rattle.parser_tokens.specs.declared.expect.Wanted.TheVariants as wanted
use Rattle.parser_tokens.specs.declared.operators.Assignment.{Assignment}
use Rattle.parser_tokens.specs.declared.operators.Prefix.TheVariants as prefixes
use Rattle.parser_tokens.specs.declared.starts.Jump.{Jump}
use Rattle.parser_ahead.specs.Primary.{start_at, block_at, allows_command, of_value, in_command}
use Rattle.parser_ahead.specs.declared.primary.BlockStyle.{BlockStyle}
use Rattle.parser_ahead.specs.declared.primary.BlockStyle.TheVariants as styles
use Rattle.parser_ahead.specs.declared.primary.DoOwner.{DoOwner}
use Rattle.parser_ahead.specs.declared.primary.Place.{Place}
use Rattle.parser_ahead.specs.declared.primary.Place.TheVariants as places
use Rattle.parser_ahead.specs.declared.primary.Start.{Start}
use Rattle.parser_ahead.specs.declared.primary.Start.TheVariants as starts
use Rattle.parser_ahead.specs.declared.groups.TargetUse.TheVariants as uses
use Rattle.parser_nodes.specs.Nodes.{prefix_node}
use Rattle.parser_nodes.specs.Listed.{ListNode, is_none, is_right_side, arguments_node}
use Rattle.parser_nodes.specs.Calls.{CalleeNode, OperandNode, whole, callee, call_node, operand_node, is_target, target_node, target_names}
use Rattle.parser_nodes.specs.declared.listed.Sort.{Sort}
use Rattle.parser_form_nodes.specs.Targets.{TargetsNode, no_targets, one_target, put, targets_list}
use Rattle.parser_forms.specs.Reading.{Names, Tokens, Inside}
use Rattle.parser_operands.specs.Operands.{chain_from, operand}
use Rattle.parser_operands.specs.Operators.{value_from}
use Rattle.parser_phrases.specs.Targets.{targets}
use Rattle.parser_phrases.specs.Phrases.{takes_list, is_rescued, begins_several, may_command, is_command_there, list_node, jump_owner, right_hand, assigned_value, whole_value, assign, multiple, with_block, block_command, command_by, command, value_phrase, command_or_value, first_of_several, unassigned, target_phrase, phrase_from, negated_command, negated, jump_list, operand_phrase, defined, phrase_by, phrase, argument}
use Rattle.name_laws.proofs.Growing.{same, Knows, still}
use Rattle.name_laws.proofs.Keeping.{Keeps, later, step, skip, either, KnowsPhrase, KnowsBlock, KnowsList, list_still, KnowsTargets, KeepsNames}
use Rattle.name_laws.proofs.Bracketed.{list_known}
use Rattle.name_laws.proofs.Calling.{KnowsCallee, KnowsOperand, callee_still, call_known, operand_known, target_grows, target_known, prefix_known, assignment_known, right_side_known, jump_known}
use Rattle.name_laws.proofs.Operating.{chain_from_keeps, operand_keeps, rescued_keeps, value_from_keeps}
use Rattle.name_laws.proofs.Targeting.{put_known, targets_known, targets_keep}

list_node_known : (names : Names) (j : Option Jump) (at : ℕ) (l : ListNode) → KnowsList names l
    → Knows names (list_node j at l)
list_node_known names None at l h = list_known names l h
list_node_known names (Some j) at l h = jump_known names j at _ (list_known names l h)

module _ (i : Inside) (k : KeepsNames i) where
  right_hand_keeps : (names : Names) (ts : Tokens) (owner : DoOwner)
      → Keeps KnowsPhrase names (right_hand i names ts owner)
  right_hand_keeps names ts owner =
      step KnowsList KnowsPhrase names (i.list names ts owner) _ (k.list names ts owner)
      (λ r g h. either KnowsPhrase r.1 (is_right_side r.0) _ _ (same r.1, right_side_known r.1 r.0 h) tt)

  value_keeps : (names : Names) (ts : Tokens) (a : Assignment) (place : Place) (owner : DoOwner)
      → Keeps KnowsPhrase names (assigned_value i names ts a place owner)
  value_keeps names ts a place owner =
      either KnowsPhrase names (takes_list a place) _ _ (right_hand_keeps names ts owner)
      (k.phrase names ts (of_value place) owner)

  whole_keeps : (v : Node) (sort : Sort) (names : Names) (ts : Tokens) (owner : DoOwner) → Knows names v
      → Keeps Knows names (whole_value i v sort names ts owner)
  whole_keeps v sort names ts owner h =
      either Knows names (is_rescued sort ts) _ _ (rescued_keeps i k v names ts owner h) (same names, h)

  assign_keeps : (t : Node) (names : Names) (a : Assignment) (ts : Tokens) (place : Place) (owner : DoOwner)
      → Knows names t → Keeps KnowsPhrase names (assign i t names a ts place owner)
  unfolding assign
  assign_keeps t names a ts place owner h =
      step KnowsPhrase KnowsPhrase names (assigned_value i names ts a place owner) _
      (value_keeps names ts a place owner) (λ v g n.
      step Knows KnowsPhrase v.1 (whole_value i v.0.0 v.0.1 v.1 v.2 owner) _
      (whole_keeps v.0.0 v.0.1 v.1 v.2 owner n)
      (λ r f m. (same r.1, assignment_known r.1 a t r.0 (still v.1 r.1 t f (still names v.1 t g h)) m)))

  multiple_keeps : (found : TargetsNode) (names : Names) (ts : Tokens) (owner : DoOwner) → KnowsTargets names found
      → Keeps KnowsPhrase names (multiple i found names ts owner)
  unfolding multiple
  multiple_keeps found names ts owner f =
      step KnowsTargets KnowsPhrase names (targets i names found ts uses.Assignment) _
      (targets_keep i k names found ts uses.Assignment f) (λ r g h.
      either KnowsPhrase r.1 r.0.several _ _
      (skip KnowsPhrase r.1 (expect wanted.Assign r.2) _ (λ rest.
      step KnowsPhrase KnowsPhrase r.1 (right_hand i r.1 rest owner) _ (right_hand_keeps r.1 rest owner)
      (λ v e n. (same v.1, (still r.1 v.1 (targets_list r.0) e (targets_known r.1 r.0 h), n))))) tt)

  with_block_keeps : (style : BlockStyle) (c : CalleeNode) (l : ListNode) (names : Names) (ts : Tokens)
      → KnowsCallee names c → KnowsList names l → Keeps KnowsOperand names (with_block i style c l names ts)
  with_block_keeps style c l names ts h f =
      either KnowsOperand names (is_none l.block) _ _
      (step KnowsBlock KnowsOperand names (i.block names ts style) _ (k.block names ts style) (λ d g n.
      let f2 = list_still names d.1 l g f in (
        same d.1,
        call_known d.1 c (Some (arguments_node l)) (Some d.0) (callee_still names d.1 c g h)
            (list_known d.1 l f2, f2.1.1) n,
      ))) tt

  block_command_keeps : (style : BlockStyle) (c : CalleeNode) (l : ListNode) (names : Names) (ts : Tokens)
      (owner : DoOwner) → KnowsCallee names c → KnowsList names l
      → Keeps KnowsPhrase names (block_command i style c l names ts owner)
  block_command_keeps style c l names ts owner h f =
      step KnowsOperand KnowsPhrase names (with_block i style c l names ts) _
      (with_block_keeps style c l names ts h f) (λ d g n.
      step KnowsOperand KnowsPhrase d.1 (chain_from i d.0 d.1 d.2 false owner) _
      (chain_from_keeps i k d.0 d.1 d.2 false owner n) (λ o e m. (same o.1, operand_known o.1 o.0 m)))

  plain_known : (names : Names) (c : CalleeNode) (l : ListNode) → KnowsCallee names c → KnowsList names l
      → Knows names (call_node c (Some (arguments_node l)) None)
  plain_known names c l h f = call_known names c (Some (arguments_node l)) None h (list_known names l f, f.1.1) tt

  command_by_keeps : (style : Option BlockStyle) (c : CalleeNode) (l : ListNode) (names : Names) (ts : Tokens)
      (owner : DoOwner) → KnowsCallee names c → KnowsList names l
      → Keeps KnowsPhrase names (command_by i style c l names ts owner)
  command_by_keeps None c l names ts owner h f = (same names, plain_known names c l h f)
  command_by_keeps (Some styles.Brace) c l names ts owner h f = (same names, plain_known names c l h f)
  command_by_keeps (Some styles.Do) c l names ts owner h f = block_command_keeps styles.Do c l names ts owner h f

  command_keeps : (c : CalleeNode) (names : Names) (ts : Tokens) (owner : DoOwner) → KnowsCallee names c
      → Keeps KnowsPhrase names (command i c names ts owner)
  unfolding command
  command_keeps c names ts owner h =
      step KnowsList KnowsPhrase names (i.list names ts (in_command owner)) _ (k.list names ts (in_command owner))
      (λ r g f. command_by_keeps (block_at owner r.2) c r.0 r.1 r.2 owner (callee_still names r.1 c g h) f)

  value_phrase_keeps : (o : OperandNode) (names : Names) (ts : Tokens) (owner : DoOwner) → KnowsOperand names o
      → Keeps KnowsPhrase names (value_phrase i o names ts owner)
  value_phrase_keeps o names ts owner h =
      step Knows KnowsPhrase names (value_from i (operand_node o) names ts owner) _
      (value_from_keeps i k (operand_node o) names ts owner (operand_known names o h)) (λ r g n. (same r.1, n))

  command_or_value_keeps : (o : OperandNode) (names : Names) (ts : Tokens) (place : Place) (owner : DoOwner)
      → KnowsOperand names o → Keeps KnowsPhrase names (command_or_value i o names ts place owner)
  command_or_value_keeps (callee c) names ts place owner h =
      either KnowsPhrase names (may_command place (callee c) ts) _ _ (command_keeps c names ts owner h)
      (value_phrase_keeps (callee c) names ts owner h)
  command_or_value_keeps (whole n) names ts place owner h = value_phrase_keeps (whole n) names ts owner h

  first_keeps : (o : OperandNode) (names : Names) (ts : Tokens) (owner : DoOwner) → KnowsOperand names o
      → Keeps KnowsPhrase names (first_of_several i o names ts owner)
  first_keeps o names ts owner h =
      let known = target_names o names in
      later KnowsPhrase names known _ (target_grows names o)
      (multiple_keeps (put (one_target (target_node o)) true no_targets) known (behind ts) owner
      (put_known known (one_target (target_node o)) true no_targets (target_known names o h) (tt, (tt, tt))))

  unassigned_keeps : (o : OperandNode) (names : Names) (ts : Tokens) (place : Place) (owner : DoOwner)
      → KnowsOperand names o → Keeps KnowsPhrase names (unassigned i o names ts place owner)
  unassigned_keeps o names ts place owner h =
      either KnowsPhrase names (begins_several place ts) _ _ (first_keeps o names ts owner h)
      (command_or_value_keeps o names ts place owner h)

  target_phrase_keeps : (a : Option Assignment) (o : OperandNode) (names : Names) (ts : Tokens) (place : Place)
      (owner : DoOwner) → KnowsOperand names o → Keeps KnowsPhrase names (target_phrase i a o names ts place owner)
  target_phrase_keeps (Some a) o names ts place owner h =
      let known = target_names o names in
      later KnowsPhrase names known _ (target_grows names o)
      (assign_keeps (target_node o) known a (behind ts) place owner (target_known names o h))
  target_phrase_keeps None o names ts place owner h = unassigned_keeps o names ts place owner h

  phrase_from_keeps : (o : OperandNode) (names : Names) (ts : Tokens) (place : Place) (owner : DoOwner)
      → KnowsOperand names o → Keeps KnowsPhrase names (phrase_from i o names ts place owner)
  unfolding phrase_from
  phrase_from_keeps o names ts place owner h =
      either KnowsPhrase names (is_target o) _ _
      (target_phrase_keeps (assignment_at (first ts)) o names ts place owner h)
      (command_or_value_keeps o names ts place owner h)

  negated_command_keeps : (o : OperandNode) (names : Names) (ts : Tokens) (owner : DoOwner) → KnowsOperand names o
      → Keeps KnowsPhrase names (negated_command i o names ts owner)
  negated_command_keeps o names ts owner h =
      step KnowsPhrase KnowsPhrase names (phrase_from i o names ts places.Command owner) _
      (phrase_from_keeps o names ts places.Command owner h)
      (λ r g n. (same r.1, prefix_known r.1 prefixes.Not r.0.0 n))

  negated_keeps : (names : Names) (ts : Tokens) (owner : DoOwner) → Keeps KnowsPhrase names (negated i names ts owner)
  unfolding negated
  negated_keeps names ts owner =
      step KnowsOperand KnowsPhrase names (operand i names ts true owner) _ (operand_keeps i k names ts true owner)
      (λ o g h. either KnowsPhrase o.1 (is_command_there o.0 o.2) _ _ (negated_command_keeps o.0 o.1 o.2 owner h)
      (phrase_from_keeps (whole (prefix_node prefixes.Not (operand_node o.0))) o.1 o.2 places.Argument owner
      (prefix_known o.1 prefixes.Not (operand_node o.0) (operand_known o.1 o.0 h))))

  jump_list_keeps : (j : Option Jump) (at : ℕ) (names : Names) (ts : Tokens) (owner : DoOwner)
      → Keeps KnowsPhrase names (jump_list i j at names ts owner)
  unfolding jump_list
  jump_list_keeps j at names ts owner =
      step KnowsList KnowsPhrase names (i.list names ts (jump_owner j owner)) _ (k.list names ts (jump_owner j owner))
      (λ r g h. either KnowsPhrase r.1 (is_none r.0.block) _ _ (same r.1, list_node_known r.1 j at r.0 h) tt)

  operand_phrase_keeps : (names : Names) (ts : Tokens) (place : Place) (owner : DoOwner)
      → Keeps KnowsPhrase names (operand_phrase i names ts place owner)
  operand_phrase_keeps names ts place owner =
      step KnowsOperand KnowsPhrase names (operand i names ts (allows_command place) owner) _
      (operand_keeps i k names ts (allows_command place) owner) (λ o g h. phrase_from_keeps o.0 o.1 o.2 place owner h)

  defined_keeps : (names : Names) (ts : Tokens) (owner : DoOwner) → Keeps KnowsPhrase names (defined i names ts owner)
  defined_keeps names ts owner =
      step Knows KnowsPhrase names (i.argument names ts owner) _ (k.argument names ts owner) (λ r g h. (same r.1, h))

  phrase_by_keeps : (s : Start) (names : Names) (ts : Tokens) (place : Place) (owner : DoOwner)
      → Keeps KnowsPhrase names (phrase_by i s names ts place owner)
  unfolding phrase_by
  phrase_by_keeps starts.Defined names ts place owner = defined_keeps names (behind ts) owner
  phrase_by_keeps starts.Not names ts place owner = negated_keeps names (behind ts) owner
  phrase_by_keeps (starts.Jump j) names ts place owner = jump_list_keeps (Some j) (place_at ts) names (behind ts) owner
  phrase_by_keeps starts.Yield names ts place owner = jump_list_keeps None (place_at ts) names (behind ts) owner
  phrase_by_keeps starts.Targets names ts place owner = multiple_keeps no_targets names ts owner (tt, (tt, tt))
  phrase_by_keeps starts.Operand names ts place owner = operand_phrase_keeps names ts place owner

  pub phrase_keeps : (names : Names) (ts : Tokens) (place : Place) (owner : DoOwner)
      → Keeps KnowsPhrase names (phrase i names ts place owner)
  phrase_keeps names ts place owner = phrase_by_keeps (start_at place ts) names ts place owner

  pub argument_keeps : (names : Names) (ts : Tokens) (owner : DoOwner) → Keeps Knows names (argument i names ts owner)
  argument_keeps names ts owner =
      step KnowsPhrase Knows names (phrase i names ts places.Argument owner) _
      (phrase_keeps names ts places.Argument owner) (λ r g h. (same r.1, h))
