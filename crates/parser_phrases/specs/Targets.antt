-- The targets of multiple assignments.
use Rattle.std.specs.Prelude.{ℕ, zero, suc, ◌+◌, Bool, true, false, ◌&&◌, if◌then◌else◌, length, Some, None, Ok, Err}
use Rattle.rb_syntax.specs.declared.punctuator.Punctuator.TheVariants as marks
use Rattle.parser_tree.specs.Node as node
use Rattle.parser_tree.specs.Node.{Node, none}
use Rattle.parser_tokens.specs.Tokens.{first, behind, skip_if, bytes_at, place_at}
use Rattle.parser_tokens.specs.Expect.{expect_closing}
use Rattle.parser_tokens.specs.declared.expect.Wanted.TheVariants as wanted
use Rattle.parser_tokens.specs.declared.word.Word.{Word}
use Rattle.parser_tokens.specs.declared.word.Word.TheVariants as words
use Rattle.parser_ahead.specs.Names.{declared}
use Rattle.parser_ahead.specs.Groups.{begins_target, is_nested_group}
use Rattle.parser_ahead.specs.Primary.{is_comma_word}
use Rattle.parser_ahead.specs.declared.primary.DoOwner.TheVariants as owners
use Rattle.parser_ahead.specs.declared.groups.TargetUse.{TargetUse}
use Rattle.parser_ahead.specs.declared.groups.TargetUse.TheVariants as uses
use Rattle.parser_nodes.specs.Calls.{OperandNode, is_target, target_node, target_names}
use Rattle.parser_form_nodes.specs.Targets.{TargetNode, one_target, group_target, star_target, TargetsNode, no_targets, may_follow, put}
use Rattle.parser_forms.specs.Reading.{Names, Tokens, Read, Inside}
use Rattle.rb_base.specs.Result.{◌>>=◌}
use Rattle.parser_operands.specs.Operands.{chain}

abbrev pub is_star : Word → Bool
is_star (words.Mark marks.Star) = true
is_star _ = false

abbrev pub is_for : TargetUse → Bool
is_for uses.For = true
is_for uses.Assignment = false
is_for uses.Pattern = false

-- a target of a pattern: a variable that is new, and no parameter
abbrev pub pattern_at : Word → Names → Tokens → Read Node
pattern_at words.Identifier names ts = Ok (node.local (bytes_at ts), declared names (bytes_at ts) false, behind ts)
pattern_at (words.Other o) names ts = Ok (node.outside o (place_at ts) none, names, behind ts)
pattern_at _ names ts = Err (length ts)

abbrev pub operand_target : OperandNode → Names → Tokens → Tokens → Read Node
operand_target o names rest ts = if is_target o then Ok (target_node o, target_names o names, rest) else Err (length ts)

-- a target behind those that were found, and whether a comma stands behind it
abbrev pub put_target : TargetNode → TargetsNode → Names → Tokens → Tokens → Read (Bool × TargetsNode)
put_target t found names rest ts =
    if may_follow t found then Ok (
      (is_comma_word (first rest), put t (is_comma_word (first rest)) found),
      names,
      skip_if (is_comma_word (first rest)) rest,
    )
    else Err (length ts)

module _ (inside : Inside) where
  -- a place that may be assigned to
  abbrev pub place : Names → Tokens → Read Node
  place names ts = chain inside names ts false owners.Call >>= (λ r. operand_target r.0 r.1 r.2 ts)

  -- a target alone
  unfoldable pub alone : TargetUse → Names → Tokens → Read Node
  alone uses.Pattern names ts = pattern_at (first ts) names ts
  alone uses.Assignment names ts = place names ts
  alone uses.For names ts = place names ts

  abbrev pub starred : TargetUse → Names → Tokens → Read TargetNode
  starred u names ts =
      if begins_target u (first (behind ts)) then
      (alone u names (behind ts) >>= (λ r. Ok (star_target (Some r.0), r.1, r.2)))
      else Ok (star_target None, names, behind ts)

  abbrev pub grouped : TargetUse → Names → Tokens → Read TargetNode
  grouped u names ts =
      inside.targets names no_targets (behind ts) u
      >>= (λ r. if r.0.several then (expect_closing wanted.CloseParenthesis r.2 >>=
      (λ rest. Ok (group_target r.0.list, r.1, rest))) else Err (length r.2))

  -- a target, maybe with a star, or targets in parentheses
  unfoldable pub target : TargetUse → Names → Tokens → Read TargetNode
  target u names ts =
      if is_star (first ts) then (if is_for u then Err (length ts) else starred u names ts)
      else if is_nested_group u ts then grouped u names ts
      else (alone u names ts >>= (λ r. Ok (one_target r.0, r.1, r.2)))

  -- the next target, behind those that were found, and whether a comma stands behind it
  unfoldable pub next_target : TargetUse → TargetsNode → Names → Tokens → Read (Bool × TargetsNode)
  next_target u found names ts = target u names ts >>= (λ r. put_target r.0 found r.1 r.2 ts)

  -- at most n targets, the first of which may stand there where more may follow
  unfoldable pub targets_from : ℕ → TargetUse → Bool → TargetsNode → Names → Tokens → Read TargetsNode
  targets_from zero u more found names ts = Err 0
  targets_from (suc n) u more found names ts =
      if more && begins_target u (first ts) then
      (next_target u found names ts >>= (λ r. targets_from n u r.0.0 r.0.1 r.1 r.2))
      else if more && is_for u then Err (length ts)
      else Ok (found, names, ts)

  abbrev pub targets : Names → TargetsNode → Tokens → TargetUse → Read TargetsNode
  targets names found ts u = targets_from (length ts + 1) u true found names ts
