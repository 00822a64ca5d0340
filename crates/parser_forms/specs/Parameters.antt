-- Parameters.
use Rattle.std.specs.Prelude.{ℕ, zero, suc, ◌+◌, Bool, true, false, ◌&&◌, if◌then◌else◌, length, Result, Ok, Err}
use Rattle.rb_syntax.specs.declared.outside.Outside.{Outside}
use Rattle.rb_syntax.specs.declared.outside.Outside.TheVariants as outsides
use Rattle.rb_syntax.specs.declared.punctuator.Punctuator.{Punctuator}
use Rattle.rb_syntax.specs.declared.punctuator.Punctuator.TheVariants as marks
use Rattle.parser_tree.specs.View.{Tree}
use Rattle.parser_tree.specs.Node as node
use Rattle.parser_tree.specs.Node.{Node}
use Rattle.parser_tree.specs.declared.tree.RestParameter.TheVariants as rests
use Rattle.parser_tokens.specs.Tokens.{first, behind, bytes_at, place_at}
use Rattle.parser_tokens.specs.Expect.{expect, expect_closing}
use Rattle.parser_tokens.specs.Starts.{begins_value, is_open_parenthesis}
use Rattle.parser_tokens.specs.declared.expect.Wanted.TheVariants as wanted
use Rattle.parser_tokens.specs.declared.word.Word.{Word}
use Rattle.parser_tokens.specs.declared.word.Word.TheVariants as words
use Rattle.parser_ahead.specs.Names.{declared}
use Rattle.parser_ahead.specs.Primary.{is_comma_word}
use Rattle.parser_ahead.specs.declared.primary.DoOwner.TheVariants as owners
use Rattle.parser_ahead.specs.declared.groups.TargetUse.TheVariants as uses
use Rattle.parser_form_nodes.specs.Parameters.{ParameterNode, required, optional, rest_of, block_name, outside_parameter, ParameterNodes, no_parameters, may_follow, put_parameter, with_comma, begins_parameter, parameters_view}
use Rattle.parser_tree.specs.declared.tree.ParameterList.{ParameterList}
use Rattle.parser_form_nodes.specs.Targets.{no_targets, list_node}
use Rattle.parser_nodes.specs.Nodes.{outside_node}
use Rattle.parser_forms.specs.Reading.{Names, Tokens, Read, Inside}
use Rattle.rb_base.specs.Result.{◌>>=◌}

abbrev pub is_identifier : Word → Bool
is_identifier words.Identifier = true
is_identifier _ = false

abbrev pub is_assign : Word → Bool
is_assign (words.Mark marks.Assign) = true
is_assign _ = false

abbrev pub is_open_bar : Word → Bool
is_open_bar (words.Mark marks.OpenBar) = true
is_open_bar _ = false

abbrev pub is_semicolon : Word → Bool
is_semicolon words.Semicolon = true
is_semicolon _ = false

abbrev pub outside_alone : Outside → ℕ → Node
outside_alone o at = node.outside o at node.none

abbrev pub outside_alone_parameter : Outside → ℕ → ParameterNode
outside_alone_parameter o at = outside_parameter (outside_alone o at)

-- the parameters, and whether a comma stands behind the last
abbrev pub list_view : ParameterList Tree × Bool → ParameterNodes × Bool
list_view p = (parameters_view p.0, p.1)

-- a parameter with a mark, with its name
abbrev pub marked_name : Punctuator → Names → Tokens → Read ParameterNode
marked_name marks.Star names ts = Ok (
  rest_of (rests.Named (bytes_at (behind ts))),
  declared names (bytes_at (behind ts)) true,
  behind (behind ts),
)
marked_name marks.Ampersand names ts = Ok (
  block_name (bytes_at (behind ts)),
  declared names (bytes_at (behind ts)) true,
  behind (behind ts),
)
marked_name marks.StarStar names ts = Ok (
  outside_alone_parameter outsides.DoubleSplat (place_at ts),
  declared names (bytes_at (behind ts)) true,
  behind (behind ts),
)
marked_name _ names ts = Err (length ts)

-- the same without a name
abbrev pub marked_alone : Punctuator → Names → Tokens → Read ParameterNode
marked_alone marks.Star names ts = Ok (rest_of rests.Unnamed, names, behind ts)
marked_alone marks.StarStar names ts = Ok (outside_alone_parameter outsides.DoubleSplat (place_at ts), names, behind ts)
marked_alone _ names ts = Err (length ts)

abbrev pub mark_at : Punctuator → Names → Tokens → Read ParameterNode
mark_at p names ts = if is_identifier (first (behind ts)) then marked_name p names ts else marked_alone p names ts

abbrev pub outside_at : Outside → Names → Tokens → Read ParameterNode
outside_at o names ts = Ok (outside_alone_parameter o (place_at ts), names, behind ts)

-- the variables of a block or a lambda alone, at most n, each behind a semicolon or a comma
unfoldable pub locals_from : ℕ → Bool → Names → Tokens → Result (Names × Tokens) ℕ
locals_from zero more names ts = Err 0
locals_from (suc n) more names ts =
    if more
    then (if is_identifier (first (behind ts))
    then locals_from n (is_comma_word (first (behind (behind ts)))) (declared names (bytes_at (behind ts)) false)
    (behind (behind ts))
    else Err (length (behind ts)))
    else Ok (names, ts)

abbrev pub block_locals : Names → Tokens → Result (Names × Tokens) ℕ
block_locals names ts = locals_from (length ts + 1) (is_semicolon (first ts)) names ts

-- what a comma behind the parameters of a block makes of them
abbrev pub comma_rest : ParameterNodes × Bool → ParameterNodes
comma_rest p = if p.1 then with_comma p.0 else p.0

module _ (inside : Inside) where
  abbrev pub with_default : Names → Tokens → Read ParameterNode
  with_default names ts =
      inside.argument (declared names (bytes_at ts) true) (behind (behind ts)) owners.Call >>=
      (λ r. Ok (optional (bytes_at ts) r.0, r.1, r.2))

  -- a name, with a default or none
  abbrev pub named : Names → Tokens → Read ParameterNode
  named names ts =
      if is_assign (first (behind ts)) then with_default names ts
      else Ok (required (node.name_parameter (bytes_at ts)), declared names (bytes_at ts) true, behind ts)

  -- a label, with a default or none
  abbrev pub keyword : Names → Tokens → Read ParameterNode
  keyword names ts =
      let known = declared names (bytes_at ts) true in
      if begins_value (first (behind ts))
      then (inside.argument known (behind ts) owners.Call >>=
      (λ r. Ok (outside_parameter (outside_node outsides.KeywordParameter (place_at ts) r.0), r.1, r.2)))
      else Ok (outside_alone_parameter outsides.KeywordParameter (place_at ts), known, behind ts)

  -- a pattern in parentheses
  abbrev pub pattern : Names → Tokens → Read ParameterNode
  pattern names ts =
      inside.targets names no_targets (behind ts) uses.Pattern >>= (λ r.
      if r.0.several then (expect_closing wanted.CloseParenthesis r.2 >>=
      (λ rest. Ok (required (list_node r.0.list), r.1, rest))) else Err (length r.2))

  unfoldable pub parameter_at : Word → Names → Tokens → Read ParameterNode
  parameter_at words.Identifier names ts = named names ts
  parameter_at words.Label names ts = keyword names ts
  parameter_at (words.Mark marks.OpenParenthesis) names ts = pattern names ts
  parameter_at (words.Mark p) names ts = mark_at p names ts
  parameter_at (words.Other o) names ts = outside_at o names ts
  parameter_at _ names ts = Err (length ts)

  -- a parameter
  abbrev pub parameter : Names → Tokens → Read ParameterNode
  parameter names ts = parameter_at (first ts) names ts

  abbrev pub parameters_next : (Bool → ParameterNodes → Names → Tokens → Read (ParameterNodes × Bool)) → ParameterNodes
      → Names → Tokens → Read (ParameterNodes × Bool)
  parameters_next go found names ts = let comma = is_comma_word (first ts) in
      go comma found names (if comma then behind ts else ts)

  abbrev pub parameters_turn : (Bool → ParameterNodes → Names → Tokens → Read (ParameterNodes × Bool)) → ParameterNodes
      → Names → Tokens → Read (ParameterNodes × Bool)
  parameters_turn go found names ts =
      parameter names ts >>= (λ r. if may_follow r.0 found then parameters_next go (put_parameter r.0 found) r.1 r.2
      else Err (length ts))

  -- at most n parameters, and whether a comma stands behind the last
  unfoldable pub parameters_from : ℕ → Bool → Bool → ParameterNodes → Names → Tokens → Read (ParameterNodes × Bool)
  parameters_from zero more comma found names ts = Err 0
  parameters_from (suc n) more comma found names ts =
      if more && begins_parameter (first ts) then parameters_turn (λ c. parameters_from n c c) found names ts else Ok
      ((found, comma), names, ts)

  -- parameters with commas between them
  abbrev pub parameters : Names → Tokens → Read (ParameterNodes × Bool)
  parameters names ts = parameters_from (length ts + 1) true false no_parameters names ts

  abbrev pub barred : Names → Tokens → Read ParameterNodes
  barred names ts =
      parameters names (behind ts) >>= (λ r. block_locals r.1 r.2 >>=
      (λ l. expect wanted.CloseBar l.1 >>= (λ rest. Ok (comma_rest r.0, l.0, rest))))

  -- the parameters between bars, or none
  abbrev pub block_parameters : Names → Tokens → Read ParameterNodes
  block_parameters names ts = if is_open_bar (first ts) then barred names ts else Ok (no_parameters, names, ts)

  abbrev pub bare_parameters : Names → Tokens → Read ParameterNodes
  bare_parameters names ts = parameters names ts >>= (λ r. if r.0.1 then Err (length r.2) else Ok (r.0.0, r.1, r.2))

  abbrev pub closed_parameters : Names → Tokens → Read ParameterNodes
  closed_parameters names ts = bare_parameters names (behind ts) >>=
      (λ r. expect_closing wanted.CloseParenthesis r.2 >>= (λ rest. Ok (r.0, r.1, rest)))

  -- the parameters of a method: in parentheses, or alone
  unfoldable pub open_parameters : Names → Tokens → Read ParameterNodes
  open_parameters names ts = if is_open_parenthesis (first ts) then closed_parameters names ts else bare_parameters
      names ts

  -- in parentheses variables of a lambda alone may stand behind its parameters
  abbrev pub closed_lambda_parameters : Names → Tokens → Read ParameterNodes
  closed_lambda_parameters names ts =
      bare_parameters names (behind ts) >>= (λ r. block_locals r.1 r.2 >>=
      (λ l. expect_closing wanted.CloseParenthesis l.1 >>= (λ rest. Ok (r.0, l.0, rest))))

  -- the parameters of a lambda: in parentheses, or alone
  unfoldable pub lambda_parameters : Names → Tokens → Read ParameterNodes
  lambda_parameters names ts = if is_open_parenthesis (first ts) then closed_lambda_parameters names ts else
      bare_parameters names ts
