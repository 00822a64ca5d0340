-- Primaries with their postfixes.
use Rattle.std.specs.Prelude.{ℕ, zero, suc, ◌+◌, Bool, true, false, not, ◌&&◌, if◌then◌else◌, [], ◌∷◌, length, codes, Option, Some, None, Ok, Err}
use Rattle.rb_syntax.specs.declared.outside.Outside.TheVariants as outsides
use Rattle.parser_tree.specs.Node as node
use Rattle.parser_tree.specs.Node.{Name, Node, nodes}
use Rattle.parser_tree.specs.View.{items_of}
use Rattle.parser_tokens.specs.Tokens.{first, behind, bytes_at, place_at}
use Rattle.parser_tokens.specs.Expect.{expect, expect_closing}
use Rattle.parser_tree.specs.declared.operator.UnaryOperator.TheVariants as unary
use Rattle.parser_tokens.specs.Operators.{prefix_at}
use Rattle.parser_tokens.specs.Starts.{begins_argument, opens_arguments, is_open_parenthesis, postfix_at}
use Rattle.parser_tokens.specs.declared.expect.Wanted.TheVariants as wanted
use Rattle.parser_tokens.specs.declared.operators.Prefix.{Prefix}
use Rattle.parser_tokens.specs.declared.operators.Prefix.TheVariants as prefixes
use Rattle.parser_tokens.specs.declared.starts.Postfix.{Postfix}
use Rattle.parser_tokens.specs.declared.starts.Postfix.TheVariants as postfixes
use Rattle.parser_tokens.specs.declared.word.Word.{Word}
use Rattle.parser_tokens.specs.declared.word.Word.TheVariants as words
use Rattle.parser_ahead.specs.Primary.{primary_at, block_at, is_name_word}
use Rattle.parser_ahead.specs.declared.primary.DoOwner.{DoOwner}
use Rattle.parser_ahead.specs.declared.primary.DoOwner.TheVariants as owners
use Rattle.parser_ahead.specs.declared.primary.BlockStyle.{BlockStyle}
use Rattle.parser_ahead.specs.declared.primary.Place.TheVariants as places
use Rattle.parser_ahead.specs.declared.primary.Primary.{Primary}
use Rattle.parser_ahead.specs.declared.primary.Primary.TheVariants as primaries
use Rattle.parser_nodes.specs.Nodes.{prefix_node, defined_node}
use Rattle.parser_nodes.specs.Leaf.{leaf}
use Rattle.parser_nodes.specs.Listed.{is_none}
use Rattle.parser_nodes.specs.Calls.{CalleeNode, name_callee, method_callee, super_callee, outside_callee, OperandNode, whole, callee, Given, call_node, operand_node}
use Rattle.parser_forms.specs.Reading.{Names, Tokens, Read, Inside}
use Rattle.rb_base.specs.Result.{◌>>=◌}
use Rattle.parser_forms.specs.Literals.{pieces, string, strings, is_literal_end}
use Rattle.parser_forms.specs.Brackets.{call_arguments, elements, hash, yielded, sectioned}
use Rattle.parser_forms.specs.Definitions.{lambda, define, class_form, module_form}

-- the loosest operators in the operand behind a prefix
abbrev pub operand_level : Prefix → ℕ
operand_level prefixes.Not = 1
operand_level (prefixes.Operation unary.Plus) = 1
operand_level (prefixes.Operation unary.Complement) = 1
operand_level (prefixes.Operation unary.Minus) = 2

abbrev pub is_identifier : Word → Bool
is_identifier words.Identifier = true
is_identifier _ = false

abbrev pub is_constant : Word → Bool
is_constant words.Constant = true
is_constant _ = false

abbrev pub is_outside_name : Word → Bool
is_outside_name (words.Other outsides.NonAsciiName) = true
is_outside_name _ = false

-- an operand begins a command: it is a name, and arguments begin behind it
abbrev pub begins_command : OperandNode → Tokens → Bool
begins_command (callee c) ts = begins_argument ts
begins_command (whole n) ts = false

-- the postfix at the front, where it doesn't begin the arguments of a command
abbrev pub continues : OperandNode → Tokens → Bool → Option Postfix
continues o ts commands = if commands && begins_command o ts then None else postfix_at (first ts)

abbrev pub has_block : Given → Bool
has_block None = false
has_block (Some g) = not (is_none g.1)

-- a call without a block; a name alone may begin a command yet
abbrev pub unblocked : CalleeNode → Given → OperandNode
unblocked c None = callee c
unblocked c (Some g) = whole (call_node c (Some g) None)

abbrev pub scoped : Postfix → Bool
scoped postfixes.Scope = true
scoped postfixes.Dot = false
scoped postfixes.Safe = false
scoped postfixes.Index = false

-- a constant behind :: is one of its receiver, but a method where parentheses follow
abbrev pub is_scoped_constant : Postfix → Tokens → Bool
is_scoped_constant p ts = (scoped p && is_constant (first ts)) && not (opens_arguments (behind ts))

-- a method of a receiver
abbrev pub postfix_callee : Node → Name → Postfix → ℕ → CalleeNode
postfix_callee receiver name postfixes.Safe at = outside_callee outsides.SafeNavigation at (receiver ∷ [])
postfix_callee receiver name postfixes.Scope at = method_callee receiver name true
postfix_callee receiver name postfixes.Dot at = method_callee receiver name false
postfix_callee receiver name postfixes.Index at = method_callee receiver name false

-- a name behind a receiver that isn't of ASCII
abbrev pub outside_name : ℕ → Node → CalleeNode
outside_name at receiver = outside_callee outsides.NonAsciiName at (receiver ∷ [])

abbrev pub leaf_primary : Option (Node × Tokens) → Names → Tokens → Read Node
leaf_primary None names ts = Err (length ts)
leaf_primary (Some found) names ts = Ok (found.0, names, found.1)

module _ (inside : Inside) where
  abbrev pub with_block_at : Option BlockStyle → CalleeNode → Given → Names → Tokens → Read OperandNode
  with_block_at None c given names ts = Ok (unblocked c given, names, ts)
  with_block_at (Some style) c given names ts =
      if has_block given then Err (length ts)
      else (inside.block names ts style >>= (λ r. Ok (whole (call_node c given (Some r.0)), r.1, r.2)))

  -- the block directly behind a call
  abbrev pub with_block : CalleeNode → Given → Names → Tokens → DoOwner → Read OperandNode
  with_block c given names ts owner = with_block_at (block_at owner ts) c given names ts

  -- the arguments in parentheses and the block directly behind a name
  unfoldable pub suffix : CalleeNode → Names → Tokens → DoOwner → Read OperandNode
  suffix c names ts owner =
      if opens_arguments ts then (call_arguments inside names (behind ts) >>=
      (λ r. with_block c (Some r.0) r.1 r.2 owner))
      else with_block c None names ts owner

  -- a string, and those side by side with it
  abbrev pub text : Names → Tokens → Read Node
  text names ts =
      string inside [] names ts >>= (λ found. strings inside found.0 found.1 found.2 >>=
      (λ r. Ok (node.text (nodes r.0), r.1, r.2)))

  -- the pieces behind the begin of a symbol in quotes
  abbrev pub quoted_symbol : Names → Tokens → Read Node
  quoted_symbol names ts =
      pieces inside [] names ts >>= (λ r. if is_literal_end (first r.2) then Ok
      (node.symbol_text (nodes r.0), r.1, behind r.2) else Err (length r.2))

  -- statements behind an opening parenthesis
  abbrev pub group : Names → Tokens → Read Node
  group names ts = inside.statements names ts >>=
      (λ r. expect wanted.CloseParenthesis r.2 >>= (λ rest. Ok (r.0, r.1, rest)))

  -- the elements behind an opening bracket
  abbrev pub array : Names → Tokens → Read Node
  array names ts = elements inside names ts wanted.CloseBracket >>= (λ r. Ok (node.array (items_of r.0), r.1, r.2))

  -- the expression behind defined? and an opening parenthesis
  abbrev pub defined : Names → Tokens → Read Node
  defined names ts =
      inside.expression names ts places.Command owners.Call
      >>= (λ r. expect_closing wanted.CloseParenthesis r.2 >>= (λ rest. Ok (defined_node r.0, r.1, rest)))

  -- a primary that is no name
  unfoldable pub compound : Primary → Names → Tokens → DoOwner → Read Node
  compound primaries.Text names ts owner = text names ts
  compound primaries.QuotedSymbol names ts owner = quoted_symbol names (behind ts)
  compound primaries.Group names ts owner = group names (behind ts)
  compound primaries.Bracket names ts owner = array names (behind ts)
  compound primaries.Brace names ts owner = hash inside names (behind ts)
  compound primaries.Lambda names ts owner = lambda inside (place_at ts) names (behind ts) owner
  compound primaries.Defined names ts owner = defined names (behind (behind ts))
  compound (primaries.Compound form) names ts owner = sectioned inside names form (behind ts)
  compound primaries.Define names ts owner = define inside (place_at ts) names (behind ts)
  compound primaries.Class names ts owner = class_form inside names (behind ts)
  compound primaries.Module names ts owner = module_form inside names (behind ts)
  compound primaries.Yield names ts owner = yielded inside (place_at ts) names (behind ts)
  compound primaries.Leaf names ts owner = leaf_primary (leaf ts) names ts
  compound primaries.Local names ts owner = leaf_primary (leaf ts) names ts
  compound primaries.Name names ts owner = leaf_primary (leaf ts) names ts
  compound primaries.OutsideName names ts owner = leaf_primary (leaf ts) names ts
  compound primaries.Super names ts owner = leaf_primary (leaf ts) names ts

  abbrev pub wrapped : Read Node → Read OperandNode
  wrapped read = read >>= (λ r. Ok (whole r.0, r.1, r.2))

  unfoldable pub primary_by : Primary → Names → Tokens → DoOwner → Read OperandNode
  primary_by primaries.Local names ts owner = Ok (whole (node.local (bytes_at ts)), names, behind ts)
  primary_by primaries.Name names ts owner = suffix (name_callee (bytes_at ts) (is_identifier (first ts))) names
      (behind ts) owner
  primary_by primaries.OutsideName names ts owner =
      suffix (outside_callee outsides.NonAsciiName (place_at ts) []) names (behind ts) owner
  primary_by primaries.Super names ts owner = suffix (super_callee (place_at ts)) names
      (behind ts) owner
  primary_by p names ts owner = wrapped (compound p names ts owner)

  -- a primary; a name that is called has its arguments in parentheses and its block
  abbrev pub primary : Names → Tokens → DoOwner → Read OperandNode
  primary names ts owner = primary_by (primary_at names ts) names ts owner

  abbrev pub indexed : Node → Names → Tokens → Read OperandNode
  indexed receiver names ts =
      elements inside names (behind ts) wanted.CloseBracket >>=
      (λ r. Ok (whole (node.index receiver (items_of r.0)), r.1, r.2))

  -- .( calls the method call
  abbrev pub called : Node → Postfix → Names → Tokens → Read OperandNode
  called receiver p names ts =
      call_arguments inside names (behind (behind ts))
      >>= (λ r. Ok (
        whole (call_node (postfix_callee receiver (codes "call") p (place_at ts)) (Some r.0) None),
        r.1,
        r.2,
      ))

  -- the name behind . &. or ::, of ASCII
  abbrev pub plain_named : Node → Postfix → Names → Tokens → DoOwner → Read OperandNode
  plain_named receiver p names ts owner =
      if is_scoped_constant p (behind ts) then Ok
      (whole (node.scoped_constant receiver (bytes_at (behind ts))), names, behind (behind ts))
      else suffix (postfix_callee receiver (bytes_at (behind ts)) p (place_at ts)) names (behind (behind ts)) owner

  -- the name behind . &. or ::
  abbrev pub named : Node → Postfix → Names → Tokens → DoOwner → Read OperandNode
  named receiver p names ts owner =
      if is_outside_name (first (behind ts)) then suffix (outside_name (place_at (behind ts)) receiver) names
      (behind (behind ts)) owner
      else if is_name_word (first (behind ts)) then plain_named receiver p names ts owner else Err (length (behind ts))

  abbrev pub dotted : Node → Postfix → Names → Tokens → DoOwner → Read OperandNode
  dotted receiver p names ts owner =
      if not (scoped p) && is_open_parenthesis (first (behind ts)) then called receiver p names ts else named receiver p
      names ts owner

  -- a postfix behind its receiver
  unfoldable pub postfixed : Node → Postfix → Names → Tokens → DoOwner → Read OperandNode
  postfixed receiver postfixes.Index names ts owner = indexed receiver names ts
  postfixed receiver postfixes.Dot names ts owner = dotted receiver postfixes.Dot names ts owner
  postfixed receiver postfixes.Safe names ts owner = dotted receiver postfixes.Safe names ts owner
  postfixed receiver postfixes.Scope names ts owner = dotted receiver postfixes.Scope names ts owner

  abbrev pub chain_turn : Option Postfix → (OperandNode → Names → Tokens → Read OperandNode) → OperandNode → Names
      → Tokens → DoOwner → Read OperandNode
  chain_turn None go o names ts owner = Ok (o, names, ts)
  chain_turn (Some p) go o names ts owner = postfixed (operand_node o) p names ts owner >>= (λ r. go r.0 r.1 r.2)

  -- at most n postfixes behind a primary
  unfoldable pub chain_within : ℕ → Bool → DoOwner → OperandNode → Names → Tokens → Read OperandNode
  chain_within zero commands owner o names ts = Err 0
  chain_within (suc n) commands owner o names ts =
      chain_turn (continues o ts commands) (chain_within n commands owner) o names ts owner

  abbrev pub chain_from : OperandNode → Names → Tokens → Bool → DoOwner → Read OperandNode
  chain_from o names ts commands owner = chain_within (length ts + 1) commands owner o names ts

  -- a primary with its postfixes
  unfoldable pub chain : Names → Tokens → Bool → DoOwner → Read OperandNode
  chain names ts commands owner = primary names ts owner >>= (λ r. chain_from r.0 r.1 r.2 commands owner)

  abbrev pub operand_with : Option Prefix → Names → Tokens → Bool → DoOwner → Read OperandNode
  operand_with (Some o) names ts commands owner =
      inside.operation names (behind ts) (operand_level o) owner >>= (λ r. Ok (whole (prefix_node o r.0), r.1, r.2))
  operand_with None names ts commands owner = chain names ts commands owner

  -- a primary with its postfixes, and the operators before it
  unfoldable pub operand : Names → Tokens → Bool → DoOwner → Read OperandNode
  operand names ts commands owner = operand_with (prefix_at ts) names ts commands owner
