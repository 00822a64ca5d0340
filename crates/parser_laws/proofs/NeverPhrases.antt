-- Phrases that are no expressions: commands, jumps, multiple assignments, and values that begin with an operand that is none.
use Rattle.std.proofs.Common.{◌≡◌, ℕ, ◌+◌, false, length, Option, Some, None, refl}
use Rattle.parser_tree.specs.Node.{Node}
use Rattle.parser_tokens.specs.Tokens.{behind}
use Rattle.parser_tokens.specs.Expect.{expect}
use Rattle.parser_tokens.specs.declared.expect.Wanted.TheVariants as wanted
use Rattle.parser_tokens.specs.declared.starts.Jump.{Jump}
use Rattle.parser_tokens.specs.declared.starts.Jump.TheVariants as jumps
use Rattle.parser_ahead.specs.Primary.{block_at, in_command}
use Rattle.parser_ahead.specs.declared.groups.TargetUse.TheVariants as uses
use Rattle.parser_ahead.specs.declared.primary.BlockStyle.{BlockStyle}
use Rattle.parser_ahead.specs.declared.primary.BlockStyle.TheVariants as styles
use Rattle.parser_ahead.specs.declared.primary.DoOwner.{DoOwner}
use Rattle.parser_nodes.specs.Listed.{ListNode, PhraseNode, is_none}
use Rattle.parser_nodes.specs.Calls.{CalleeNode, OperandNode, operand_node, target_names}
use Rattle.parser_form_nodes.specs.Targets.{TargetsNode}
use Rattle.parser_operands.specs.Operands.{chain_from}
use Rattle.parser_phrases.specs.Targets.{targets}
use Rattle.parser_phrases.specs.Phrases.{right_hand, multiple, with_block, command_by, command, value_phrase, first_of_several, jump_list, jump_owner, list_node}
use Rattle.parser_forms.specs.Reading.{Names, Tokens, Inside}
use Rattle.parser_laws.specs.Expressions.{is_expression}
use Rattle.parser_laws.proofs.Results.{Never, never_bind, never_after, never_false, never_ok, never_error, never_if}
use Rattle.parser_laws.proofs.ExpressionParts.{call_is_none}
use Rattle.parser_laws.proofs.SoundPostfix.{chain_never}
use Rattle.parser_laws.proofs.SoundValues.{value_never}

abbrev pub its_node : PhraseNode → Node
its_node p = p.0

list_is_none : (j : Option Jump) (at : ℕ) (l : ListNode) → is_expression (list_node j at l) ≡ false
list_is_none None at l = refl
list_is_none (Some jumps.Return) at l = refl
list_is_none (Some jumps.Break) at l = refl
list_is_none (Some jumps.Next) at l = refl

module _ (i : Inside) where
  pub multiple_never : (found : TargetsNode) (names : Names) (ts : Tokens) (owner : DoOwner)
      → Never its_node (multiple i found names ts owner)
  unfolding multiple
  multiple_never found names ts owner =
      never_bind its_node (targets i names found ts uses.Assignment) _ (λ r. never_if its_node r.0.several _ _
      (never_bind its_node (expect wanted.Assign r.2) _
      (λ rest. never_bind its_node (right_hand i r.1 rest owner) _ (λ v. never_ok its_node _ v.1 v.2 refl)))
      (never_error its_node (length r.2)))

  block_never : (style : BlockStyle) (c : CalleeNode) (l : ListNode) (names : Names) (ts : Tokens)
      → Never operand_node (with_block i style c l names ts)
  block_never style c l names ts =
      never_if operand_node (is_none l.block) _ _
      (never_bind operand_node (i.block names ts style) _
      (λ d. never_ok operand_node _ d.1 d.2 (call_is_none c _ (Some d.0))))
      (never_error operand_node (length ts))

  command_by_never : (style : Option BlockStyle) (c : CalleeNode) (l : ListNode) (names : Names) (ts : Tokens)
      (owner : DoOwner) → Never its_node (command_by i style c l names ts owner)
  command_by_never None c l names ts owner = never_ok its_node _ names ts (call_is_none c _ None)
  command_by_never (Some styles.Brace) c l names ts owner = never_ok its_node _ names ts (call_is_none c _ None)
  command_by_never (Some styles.Do) c l names ts owner =
      never_after its_node (with_block i styles.Do c l names ts) _ (λ d k m h.
      never_after its_node (chain_from i d k m false owner) _ (λ o k' m' h'.
      never_ok its_node _ k' m' (never_false operand_node _ o k' m'
      (chain_never i (length m + 1) false owner d k m
      (never_false operand_node _ d k m (block_never styles.Do c l names ts) h)) h')))

  pub command_never : (c : CalleeNode) (names : Names) (ts : Tokens) (owner : DoOwner)
      → Never its_node (command i c names ts owner)
  unfolding command
  command_never c names ts owner = never_bind its_node (i.list names ts (in_command owner)) _
      (λ r. command_by_never (block_at owner r.2) c r.0 r.1 r.2 owner)

  pub value_phrase_never : (o : OperandNode) (names : Names) (ts : Tokens) (owner : DoOwner)
      → is_expression (operand_node o) ≡ false → Never its_node (value_phrase i o names ts owner)
  value_phrase_never o names ts owner other =
      never_after its_node _ _ (λ x k m h. never_ok its_node _ k m
      (never_false (λ n. n) _ x k m (value_never i owner (operand_node o) names ts other) h))

  pub several_never : (o : OperandNode) (names : Names) (ts : Tokens) (owner : DoOwner)
      → Never its_node (first_of_several i o names ts owner)
  several_never o names ts owner = multiple_never _ (target_names o names) (behind ts) owner

  pub jump_never : (j : Option Jump) (at : ℕ) (names : Names) (ts : Tokens) (owner : DoOwner)
      → Never its_node (jump_list i j at names ts owner)
  unfolding jump_list
  jump_never j at names ts owner =
      never_bind its_node (i.list names ts (jump_owner j owner)) _ (λ r.
      never_if its_node (is_none r.0.block) _ _ (never_ok its_node _ r.1 r.2 (list_is_none j at r.0))
      (never_error its_node (length ts)))
