-- Operators between operands.
use Rattle.std.specs.Prelude.{ℕ, zero, suc, ◌+◌, Bool, true, false, if◌then◌else◌, length, Option, Some, None, Ok, Err}
use Rattle.rb_syntax.specs.declared.punctuator.Punctuator.TheVariants as marks
use Rattle.parser_tree.specs.Node.{Node}
use Rattle.parser_tokens.specs.Tokens.{first, behind, place_at}
use Rattle.parser_tokens.specs.Expect.{expect}
use Rattle.parser_tokens.specs.Operators.{assignment_at, infix_at, right_level, clashes}
use Rattle.parser_tokens.specs.Starts.{modifier_at}
use Rattle.parser_tokens.specs.declared.expect.Wanted.TheVariants as wanted
use Rattle.parser_tokens.specs.declared.operators.Assignment.{Assignment}
use Rattle.parser_tokens.specs.declared.operators.Infix.{Infix}
use Rattle.parser_tokens.specs.declared.word.Modifier.{Modifier}
use Rattle.parser_tokens.specs.declared.word.Modifier.TheVariants as modifiers
use Rattle.parser_tokens.specs.declared.word.Word.{Word}
use Rattle.parser_tokens.specs.declared.word.Word.TheVariants as words
use Rattle.parser_ahead.specs.declared.primary.DoOwner.{DoOwner}
use Rattle.parser_nodes.specs.Nodes.{assignment_node, choice_node, infix_node, rescued_node}
use Rattle.parser_nodes.specs.Calls.{OperandNode, is_target, operand_node, target_names, target_node}
use Rattle.parser_forms.specs.Reading.{Names, Tokens, Read, Inside}
use Rattle.rb_base.specs.Result.{◌>>=◌}
use Rattle.parser_operands.specs.Operands.{operand}

abbrev pub is_rescue : Option Modifier → Bool
is_rescue (Some modifiers.Rescue) = true
is_rescue (Some modifiers.If) = false
is_rescue (Some modifiers.Unless) = false
is_rescue (Some modifiers.While) = false
is_rescue (Some modifiers.Until) = false
is_rescue None = false

-- the assignment at the front, if this operand is a target
abbrev pub assignment_to : OperandNode → Tokens → Option Assignment
assignment_to o ts = if is_target o then assignment_at (first ts) else None

module _ (inside : Inside) where
  -- the value that a modifier rescue stands for where the value before it fails
  abbrev pub rescued : Node → Names → Tokens → DoOwner → Read Node
  rescued value names ts owner = inside.argument names (behind ts) owner >>=
      (λ other. Ok (rescued_node value other.0, other.1, other.2))

  -- a value without a command that is assigned, with the modifier rescue that is of it
  abbrev pub assigned_value : Names → Tokens → DoOwner → Read Node
  assigned_value names ts owner =
      inside.argument names ts owner >>= (λ v.
      if is_rescue (modifier_at (first v.2)) then rescued v.0 v.1 v.2 owner else Ok (v.0, v.1, v.2))

  -- an assignment of such a value
  unfoldable pub assigned : Node → Names → Assignment → Tokens → DoOwner → Read Node
  assigned target names a ts owner = assigned_value names ts owner >>=
      (λ r. Ok (assignment_node a target r.0, r.1, r.2))

  -- an operator with its right operand, and what follows, behind the left one
  abbrev pub operators_turn : Option Infix → (Node → Names → Tokens → Read Node) → Node → Names → Tokens → DoOwner
      → Read Node
  operators_turn None go left names ts owner = Ok (left, names, ts)
  operators_turn (Some o) go left names ts owner =
      inside.operation names (behind ts) (right_level o) owner
      >>= (λ r. if clashes o (first r.2) then Err (length r.2) else go (infix_node o (place_at ts) left r.0) r.1 r.2)

  -- at most n operators, none looser than this
  unfoldable pub operators_from : ℕ → ℕ → DoOwner → Node → Names → Tokens → Read Node
  operators_from zero loosest owner left names ts = Err 0
  operators_from (suc n) loosest owner left names ts =
      operators_turn (infix_at loosest (first ts)) (operators_from n loosest owner) left names ts owner

  abbrev pub operators : Node → Names → Tokens → ℕ → DoOwner → Read Node
  operators left names ts loosest owner = operators_from (length ts + 1) loosest owner left names ts

  abbrev pub operation_by : Option Assignment → OperandNode → Names → Tokens → ℕ → DoOwner → Read Node
  operation_by None o names ts loosest owner = operators (operand_node o) names ts loosest owner
  operation_by (Some a) o names ts loosest owner = assigned (target_node o) (target_names o names) a (behind ts) owner

  -- operands with operators between them; an assignment takes all that follows, so it is the last operand
  unfoldable pub operation : Names → Tokens → ℕ → DoOwner → Read Node
  operation names ts loosest owner = operand inside names ts false owner >>=
      (λ r. operation_by (assignment_to r.0 r.2) r.0 r.1 r.2 loosest owner)

  abbrev pub choice : Node → Names → Tokens → DoOwner → Read Node
  choice test names ts owner =
      inside.argument names ts owner >>= (λ chosen. expect wanted.Colon chosen.2 >>= (λ rest.
      inside.argument chosen.1 rest owner >>= (λ other. Ok (choice_node test chosen.0 other.0, other.1, other.2))))

  abbrev pub question_at : Word → Node → Names → Tokens → DoOwner → Read Node
  question_at (words.Mark marks.Question) test names ts owner = choice test names (behind ts) owner
  question_at _ test names ts owner = Ok (test, names, ts)

  -- the operators of every level behind a left operand, and a conditional
  unfoldable pub value_from : Node → Names → Tokens → DoOwner → Read Node
  value_from left names ts owner = operators left names ts 13 owner >>= (λ r. question_at (first r.2) r.0 r.1 r.2 owner)
