-- Phrases: commands, assignments, and operators with their operands.
use Rattle.std.specs.Prelude.{ℕ, Bool, true, false, ◌&&◌, ◌||◌, if◌then◌else◌, List, length, Option, Some, None, is_some, Ok, Err}
use Rattle.rb_syntax.specs.declared.core_form.Item.{Item}
use Rattle.parser_tree.specs.Node as node
use Rattle.parser_tree.specs.Node.{Node}
use Rattle.parser_tree.specs.View.{items_of}
use Rattle.parser_tokens.specs.Tokens.{first, behind, place_at}
use Rattle.parser_tokens.specs.Expect.{expect}
use Rattle.parser_tokens.specs.Operators.{assignment_at}
use Rattle.parser_tokens.specs.Starts.{modifier_at}
use Rattle.parser_tokens.specs.declared.expect.Wanted.TheVariants as wanted
use Rattle.parser_tokens.specs.declared.operators.Assignment.{Assignment}
use Rattle.parser_tokens.specs.declared.operators.Assignment.TheVariants as assignments
use Rattle.parser_tokens.specs.declared.operators.Prefix.TheVariants as prefixes
use Rattle.parser_tokens.specs.declared.starts.Jump.{Jump}
use Rattle.parser_ahead.specs.Primary.{start_at, block_at, allows_command, is_statement, of_value, in_command, is_comma_word}
use Rattle.parser_ahead.specs.declared.primary.BlockStyle.{BlockStyle}
use Rattle.parser_ahead.specs.declared.primary.BlockStyle.TheVariants as styles
use Rattle.parser_ahead.specs.declared.primary.DoOwner.{DoOwner}
use Rattle.parser_ahead.specs.declared.primary.Place.{Place}
use Rattle.parser_ahead.specs.declared.primary.Place.TheVariants as places
use Rattle.parser_ahead.specs.declared.primary.Start.{Start}
use Rattle.parser_ahead.specs.declared.primary.Start.TheVariants as starts
use Rattle.parser_ahead.specs.declared.groups.TargetUse.TheVariants as uses
use Rattle.parser_nodes.specs.Nodes.{prefix_node, assignment_node, defined_node}
use Rattle.parser_nodes.specs.Listed.{ListNode, PhraseNode, is_none, is_right_side, right_side, whole_items, arguments_node, jump_node}
use Rattle.parser_nodes.specs.Calls.{CalleeNode, OperandNode, whole, callee, Block, call_node, operand_node, is_target, target_node, target_names}
use Rattle.parser_nodes.specs.declared.listed.Sort.{Sort}
use Rattle.parser_nodes.specs.declared.listed.Sort.TheVariants as sorts
use Rattle.parser_form_nodes.specs.Targets.{TargetsNode, no_targets, one_target, put, targets_list}
use Rattle.parser_forms.specs.Reading.{Names, Tokens, Read, Inside}
use Rattle.rb_base.specs.Result.{◌>>=◌}
use Rattle.parser_operands.specs.Operands.{begins_command, chain_from, operand}
use Rattle.parser_operands.specs.Operators.{is_rescue, rescued, value_from}
use Rattle.parser_phrases.specs.Targets.{targets}

abbrev pub is_plain : Assignment → Bool
is_plain assignments.Plain = true
is_plain (assignments.Operation o) = false

abbrev pub is_argument : Sort → Bool
is_argument sorts.Argument = true
is_argument sorts.Command = false
is_argument sorts.Statement = false

-- a value and a command may be assigned with a modifier rescue of theirs; a list is a whole statement
abbrev pub is_single : Sort → Bool
is_single sorts.Argument = true
is_single sorts.Command = true
is_single sorts.Statement = false

-- the value of an assignment may be a list
abbrev pub takes_list : Assignment → Place → Bool
takes_list a place = is_statement place && is_plain a

-- a modifier rescue at the front is of the value before it
abbrev pub is_rescued : Sort → Tokens → Bool
is_rescued sort ts = is_single sort && is_rescue (modifier_at (first ts))

-- the operand before these tokens is the first of several targets
abbrev pub begins_several : Place → Tokens → Bool
begins_several place ts = is_statement place && is_comma_word (first ts)

-- a command begins with this operand, where one is allowed
abbrev pub may_command : Place → OperandNode → Tokens → Bool
may_command place o ts = allows_command place && begins_command o ts

abbrev pub is_assigned : OperandNode → Tokens → Bool
is_assigned o ts = is_target o && is_some (assignment_at (first ts))

-- a command or an assignment begins with this operand
abbrev pub is_command_there : OperandNode → Tokens → Bool
is_command_there o ts = begins_command o ts || is_assigned o ts

-- the items of a list, with its pairs as the last
abbrev pub whole_list : ListNode → List (Item Node)
whole_list l = whole_items l.items l.pairs

-- the node of return, break or next at a place with a list, and of yield where it is no jump
abbrev pub list_node : Option Jump → ℕ → ListNode → Node
list_node None at l = node.yield_node at (items_of (whole_list l))
list_node (Some j) at l = jump_node j at (whole_list l)

abbrev pub multiple_node : TargetsNode → Node → Node
multiple_node targets value = node.multiple_assign (targets_list targets) value

-- a call with a list and a block
abbrev pub blocked : CalleeNode → ListNode → Block → OperandNode
blocked c l b = whole (call_node c (Some (arguments_node l)) (Some b))

-- a command without a block
abbrev pub plain_command : CalleeNode → ListNode → PhraseNode
plain_command c l = (call_node c (Some (arguments_node l)) None, sorts.Command)

abbrev pub jump_owner : Option Jump → DoOwner → DoOwner
jump_owner None owner = in_command owner
jump_owner (Some j) owner = owner

module _ (inside : Inside) where
  -- the right side of an assignment that is a statement
  abbrev pub right_hand : Names → Tokens → DoOwner → Read PhraseNode
  right_hand names ts owner =
      inside.list names ts owner >>= (λ r. if is_right_side r.0 then Ok (right_side r.0, r.1, r.2) else Err (length ts))

  abbrev pub assigned_value : Names → Tokens → Assignment → Place → DoOwner → Read PhraseNode
  assigned_value names ts a place owner =
      if takes_list a place then right_hand names ts owner else inside.phrase names ts (of_value place) owner

  -- an assigned value, with the modifier rescue that is of it
  abbrev pub whole_value : Node → Sort → Names → Tokens → DoOwner → Read Node
  whole_value value sort names ts owner = if is_rescued sort ts then rescued inside value names ts owner else Ok
      (value, names, ts)

  -- the value of an assignment, and the assignment
  unfoldable pub assign : Node → Names → Assignment → Tokens → Place → DoOwner → Read PhraseNode
  assign target names a ts place owner =
      assigned_value names ts a place owner >>= (λ v.
      whole_value v.0.0 v.0.1 v.1 v.2 owner >>= (λ r. Ok ((assignment_node a target r.0, v.0.1), r.1, r.2)))

  -- a multiple assignment, behind the targets that were read already
  unfoldable pub multiple : TargetsNode → Names → Tokens → DoOwner → Read PhraseNode
  multiple found names ts owner =
      targets inside names found ts uses.Assignment >>= (λ r.
      if r.0.several
      then (expect wanted.Assign r.2 >>= (λ rest. right_hand r.1 rest owner >>= (λ v.
      Ok ((multiple_node r.0 v.0.0, sorts.Statement), v.1, v.2))))
      else Err (length r.2))

  -- a command with a block
  abbrev pub with_block : BlockStyle → CalleeNode → ListNode → Names → Tokens → Read OperandNode
  with_block style c l names ts =
      if is_none l.block then (inside.block names ts style >>= (λ d. Ok (blocked c l d.0, d.1, d.2))) else Err
      (length ts)

  -- a command with a block, and what follows it
  abbrev pub block_command : BlockStyle → CalleeNode → ListNode → Names → Tokens → DoOwner → Read PhraseNode
  block_command style c l names ts owner =
      with_block style c l names ts >>= (λ d.
      chain_from inside d.0 d.1 d.2 false owner >>= (λ o. Ok ((operand_node o.0, sorts.Command), o.1, o.2)))

  abbrev pub command_by : Option BlockStyle → CalleeNode → ListNode → Names → Tokens → DoOwner → Read PhraseNode
  command_by None c l names ts owner = Ok (plain_command c l, names, ts)
  command_by (Some styles.Brace) c l names ts owner = Ok (plain_command c l, names, ts)
  command_by (Some styles.Do) c l names ts owner = block_command styles.Do c l names ts owner

  -- the arguments of a command, and its block, which is none in braces
  unfoldable pub command : CalleeNode → Names → Tokens → DoOwner → Read PhraseNode
  command c names ts owner = inside.list names ts (in_command owner) >>=
      (λ r. command_by (block_at owner r.2) c r.0 r.1 r.2 owner)

  abbrev pub value_phrase : OperandNode → Names → Tokens → DoOwner → Read PhraseNode
  value_phrase o names ts owner = value_from inside (operand_node o) names ts owner >>=
      (λ r. Ok ((r.0, sorts.Argument), r.1, r.2))

  -- a command of a name, else a value
  abbrev pub command_or_value : OperandNode → Names → Tokens → Place → DoOwner → Read PhraseNode
  command_or_value (callee c) names ts place owner =
      if may_command place (callee c) ts then command c names ts owner else value_phrase (callee c) names ts owner
  command_or_value (whole n) names ts place owner = value_phrase (whole n) names ts owner

  -- several targets, the first of which is an operand
  abbrev pub first_of_several : OperandNode → Names → Tokens → DoOwner → Read PhraseNode
  first_of_several o names ts owner = multiple (put (one_target (target_node o)) true no_targets) (target_names o names)
      (behind ts) owner

  -- a target without an assignment: the first of several, or a command or a value
  abbrev pub unassigned : OperandNode → Names → Tokens → Place → DoOwner → Read PhraseNode
  unassigned o names ts place owner =
      if begins_several place ts then first_of_several o names ts owner else command_or_value o names ts place owner

  -- an assignment to a target, or what it begins without one
  abbrev pub target_phrase : Option Assignment → OperandNode → Names → Tokens → Place → DoOwner → Read PhraseNode
  target_phrase (Some a) o names ts place owner =
      assign (target_node o) (target_names o names) a (behind ts) place owner
  target_phrase None o names ts place owner = unassigned o names ts place owner

  -- what an operand that was read begins
  unfoldable pub phrase_from : OperandNode → Names → Tokens → Place → DoOwner → Read PhraseNode
  phrase_from o names ts place owner =
      if is_target o then target_phrase (assignment_at (first ts)) o names ts place owner else command_or_value o names
      ts place owner

  -- a command or an assignment behind a !; the negation may stand where that may
  abbrev pub negated_command : OperandNode → Names → Tokens → DoOwner → Read PhraseNode
  negated_command o names ts owner =
      phrase_from o names ts places.Command owner >>=
      (λ r. Ok ((prefix_node prefixes.Not r.0.0, r.0.1), r.1, r.2))

  -- an operand behind a !, and what the negation begins
  abbrev pub negated_operand : OperandNode → Names → Tokens → DoOwner → Read PhraseNode
  negated_operand o names ts owner = phrase_from (whole (prefix_node prefixes.Not (operand_node o))) names ts
      places.Argument owner

  unfoldable pub negated : Names → Tokens → DoOwner → Read PhraseNode
  negated names ts owner =
      operand inside names ts true owner >>= (λ o.
      if is_command_there o.0 o.2 then negated_command o.0 o.1 o.2 owner else negated_operand o.0 o.1 o.2 owner)

  -- the list behind return, break, next or yield, which is at a place
  unfoldable pub jump_list : Option Jump → ℕ → Names → Tokens → DoOwner → Read PhraseNode
  jump_list j at names ts owner =
      inside.list names ts (jump_owner j owner) >>= (λ r.
      if is_none r.0.block then Ok ((list_node j at r.0, sorts.Command), r.1, r.2) else Err (length ts))

  -- what begins with an operand
  abbrev pub operand_phrase : Names → Tokens → Place → DoOwner → Read PhraseNode
  operand_phrase names ts place owner = operand inside names ts (allows_command place) owner >>=
      (λ o. phrase_from o.0 o.1 o.2 place owner)

  -- what stands behind a defined? without parentheses
  abbrev pub defined : Names → Tokens → DoOwner → Read PhraseNode
  defined names ts owner = inside.argument names ts owner >>= (λ r. Ok ((defined_node r.0, sorts.Argument), r.1, r.2))

  unfoldable pub phrase_by : Start → Names → Tokens → Place → DoOwner → Read PhraseNode
  phrase_by starts.Defined names ts place owner = defined names (behind ts) owner
  phrase_by starts.Not names ts place owner = negated names (behind ts) owner
  phrase_by (starts.Jump j) names ts place owner = jump_list (Some j) (place_at ts) names (behind ts) owner
  phrase_by starts.Yield names ts place owner = jump_list None (place_at ts) names (behind ts) owner
  phrase_by starts.Targets names ts place owner = multiple no_targets names ts owner
  phrase_by starts.Operand names ts place owner = operand_phrase names ts place owner

  -- a command, an assignment or a value, and at the start of a statement a multiple assignment
  abbrev pub phrase : Names → Tokens → Place → DoOwner → Read PhraseNode
  phrase names ts place owner = phrase_by (start_at place ts) names ts place owner

  -- a value without a command
  abbrev pub argument : Names → Tokens → DoOwner → Read Node
  argument names ts owner = phrase names ts places.Argument owner >>= (λ r. Ok (r.0.0, r.1, r.2))
