-- Statements and expressions.
use Rattle.std.specs.Prelude.{ℕ, zero, suc, ◌+◌, Bool, true, false, if◌then◌else◌, List, [], ◌∷◌, ◌++◌, length, Option, Some, None, Ok, Err}
use Rattle.rb_syntax.specs.declared.keyword.Keyword.TheVariants as keywords
use Rattle.rb_syntax.specs.declared.outside.Outside.{Outside}
use Rattle.rb_syntax.specs.declared.outside.Outside.TheVariants as outsides
use Rattle.parser_tree.specs.Node as node
use Rattle.parser_tree.specs.Node.{Node, nodes}
use Rattle.parser_tokens.specs.Tokens.{first, behind, place_at}
use Rattle.parser_tokens.specs.Expect.{expect, skip_separators}
use Rattle.parser_tokens.specs.Operators.{junction_at}
use Rattle.parser_tokens.specs.Starts.{ends_statement, ends_statements, modifier_at}
use Rattle.parser_tokens.specs.declared.expect.Wanted.TheVariants as wanted
use Rattle.parser_tokens.specs.declared.operators.Junction.{Junction}
use Rattle.parser_tokens.specs.declared.operators.Prefix.TheVariants as prefixes
use Rattle.parser_tokens.specs.declared.word.Modifier.{Modifier}
use Rattle.parser_tokens.specs.declared.word.Modifier.TheVariants as kinds
use Rattle.parser_tokens.specs.declared.word.Word.{Word}
use Rattle.parser_tokens.specs.declared.word.Word.TheVariants as words
use Rattle.parser_ahead.specs.declared.primary.DoOwner.{DoOwner}
use Rattle.parser_ahead.specs.declared.primary.DoOwner.TheVariants as owners
use Rattle.parser_ahead.specs.declared.primary.Place.{Place}
use Rattle.parser_ahead.specs.declared.primary.Place.TheVariants as places
use Rattle.parser_nodes.specs.Nodes.{prefix_node, junction_node, modified_node, outside_node}
use Rattle.parser_nodes.specs.Listed.{PhraseNode}
use Rattle.parser_nodes.specs.declared.listed.Sort.{Sort}
use Rattle.parser_nodes.specs.declared.listed.Sort.TheVariants as sorts
use Rattle.parser_form_nodes.specs.Definitions.{alias, undef}
use Rattle.parser_statements.specs.declared.statements.StatementStart.{StatementStart}
use Rattle.parser_statements.specs.declared.statements.StatementStart.TheVariants as beginnings
use Rattle.parser_forms.specs.Reading.{Names, Tokens, Read, Inside}
use Rattle.rb_base.specs.Result.{◌>>=◌}
use Rattle.parser_phrases.specs.Phrases.{phrase}

abbrev pub is_not : Word → Bool
is_not (words.Key keywords.Not) = true
is_not _ = false

abbrev pub is_statement_sort : Sort → Bool
is_statement_sort sorts.Statement = true
is_statement_sort sorts.Command = false
is_statement_sort sorts.Argument = false

-- what a statement begins with
abbrev pub statement_start : Word → StatementStart
statement_start (words.Key keywords.Alias) = beginnings.Alias
statement_start (words.Key keywords.Undef) = beginnings.Undef
statement_start (words.Key keywords.BeginBlock) = beginnings.BeginBlock
statement_start (words.Key keywords.EndBlock) = beginnings.EndBlock
statement_start _ = beginnings.Expression

-- what stands behind alias, whose word is at that place, and behind undef
abbrev pub aliased : ℕ → Names → Tokens → Read Node
aliased at names ts = alias at ts >>= (λ r. Ok (r.0, names, r.1))

abbrev pub undefined : Names → Tokens → Read Node
undefined names ts = undef ts >>= (λ r. Ok (r.0, names, r.1))

module _ (inside : Inside) where
  -- a phrase with not before it or none
  unfoldable pub negation : Names → Tokens → Place → DoOwner → Read PhraseNode
  negation names ts place owner =
      if is_not (first ts)
      then (inside.negation names (behind ts) places.Command owner >>=
      (λ r. Ok ((prefix_node prefixes.Not r.0.0, sorts.Command), r.1, r.2)))
      else phrase inside names ts place owner

  -- what stands behind and or or, joined with what stands before it
  unfoldable pub junction_with : Junction → Node → Names → Tokens → DoOwner → Read Node
  junction_with j left names ts owner = negation names (behind ts) places.Command owner >>=
      (λ r. Ok (junction_node j left r.0.0, r.1, r.2))

  abbrev pub junctions_turn : Option Junction → (Node → Names → Tokens → Read Node) → Node → Names → Tokens → DoOwner
      → Read Node
  junctions_turn None go left names ts owner = Ok (left, names, ts)
  junctions_turn (Some j) go left names ts owner = junction_with j left names ts owner >>= (λ r. go r.0 r.1 r.2)

  -- at most n and or or
  unfoldable pub junctions_from : ℕ → DoOwner → Node → Names → Tokens → Read Node
  junctions_from zero owner left names ts = Err 0
  junctions_from (suc n) owner left names ts =
      junctions_turn (junction_at (first ts)) (junctions_from n owner) left names ts owner

  abbrev pub junctions : Node → Names → Tokens → DoOwner → Read Node
  junctions left names ts owner = junctions_from (length ts + 1) owner left names ts

  abbrev pub joined : PhraseNode → Names → Tokens → DoOwner → Read Node
  joined p names ts owner = if is_statement_sort p.1 then Ok (p.0, names, ts) else junctions p.0 names ts owner

  -- phrases with and and or between them
  unfoldable pub expression : Names → Tokens → Place → DoOwner → Read Node
  expression names ts place owner = negation names ts place owner >>= (λ r. joined r.0 r.1 r.2 owner)

  -- the statements in braces behind BEGIN or END
  abbrev pub braced : Outside → ℕ → Names → Tokens → Read Node
  braced o at names ts =
      expect wanted.OpenBrace ts >>= (λ body. inside.statements names body >>= (λ r.
      expect wanted.CloseBrace r.2 >>= (λ rest. Ok (outside_node o at r.0, r.1, rest))))

  unfoldable pub base_by : StatementStart → Names → Tokens → Read Node
  base_by beginnings.Alias names ts = aliased (place_at ts) names (behind ts)
  base_by beginnings.Undef names ts = undefined names (behind ts)
  base_by beginnings.BeginBlock names ts = braced outsides.BeginBlock (place_at ts) names (behind ts)
  base_by beginnings.EndBlock names ts = braced outsides.EndBlock (place_at ts) names (behind ts)
  base_by beginnings.Expression names ts = expression names ts places.Statement owners.Call

  -- a statement without modifiers
  abbrev pub base : Names → Tokens → Read Node
  base names ts = base_by (statement_start (first ts)) names ts

  -- what stands behind a modifier
  abbrev pub modifier_part : Modifier → Names → Tokens → Read Node
  modifier_part kinds.Rescue names ts = base names ts
  modifier_part kinds.If names ts = expression names ts places.Command owners.Call
  modifier_part kinds.Unless names ts = expression names ts places.Command owners.Call
  modifier_part kinds.While names ts = expression names ts places.Command owners.Call
  modifier_part kinds.Until names ts = expression names ts places.Command owners.Call

  -- a statement with the modifier at the front
  unfoldable pub modified : Modifier → Node → Names → Tokens → Read Node
  modified m body names ts = modifier_part m names (behind ts) >>= (λ r. Ok (modified_node m body r.0, r.1, r.2))

  abbrev pub modifiers_turn : Option Modifier → (Node → Names → Tokens → Read Node) → Node → Names → Tokens → Read Node
  modifiers_turn None go body names ts = Ok (body, names, ts)
  modifiers_turn (Some m) go body names ts = modified m body names ts >>= (λ r. go r.0 r.1 r.2)

  -- at most n modifiers
  unfoldable pub modifiers_from : ℕ → Node → Names → Tokens → Read Node
  modifiers_from zero body names ts = Err 0
  modifiers_from (suc n) body names ts = modifiers_turn (modifier_at (first ts)) (modifiers_from n) body names ts

  -- the modifiers behind a statement
  abbrev pub modifiers : Node → Names → Tokens → Read Node
  modifiers body names ts = modifiers_from (length ts + 1) body names ts

  -- a statement with its modifiers
  unfoldable pub statement : Names → Tokens → Read Node
  statement names ts = base names ts >>= (λ r. modifiers r.0 r.1 r.2)

  -- a statement and the separators behind it
  unfoldable pub separated : Names → Tokens → Read Node
  separated names ts = statement names ts >>=
      (λ r. if ends_statement (first r.2) then Ok (r.0, r.1, skip_separators r.2) else Err (length r.2))

  -- a statement behind those that were found
  unfoldable pub with_statement : List Node → Names → Tokens → Read (List Node)
  with_statement found names ts = separated names ts >>= (λ r. Ok (found ++ r.0 ∷ [], r.1, r.2))

  -- at most n statements behind those that were found
  unfoldable pub statements_from : ℕ → List Node → Names → Tokens → Read (List Node)
  statements_from zero found names ts = Err 0
  statements_from (suc n) found names ts =
      if ends_statements (first ts) then Ok (found, names, ts)
      else (with_statement found names ts >>= (λ r. statements_from n r.0 r.1 r.2))

  -- statements, the first of which stands at the front
  abbrev pub statement_list : Names → Tokens → Read (List Node)
  statement_list names ts = statements_from (length ts + 1) [] names ts

  -- statements with separators between them, up to what ends them
  unfoldable pub statements : Names → Tokens → Read Node
  statements names ts = statement_list names (skip_separators ts) >>= (λ r. Ok (node.statements (nodes r.0), r.1, r.2))
