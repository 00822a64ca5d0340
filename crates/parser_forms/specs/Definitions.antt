-- Blocks, lambdas, methods, classes and modules.
use Rattle.std.specs.Prelude.{ℕ, Bool, true, false, if◌then◌else◌, List, [], ◌∷◌, ◌++◌, length, take, Option, Some, None, is_some, Result, Ok, Err}
use Rattle.rb_syntax.specs.declared.outside.Outside.TheVariants as outsides
use Rattle.rb_syntax.specs.declared.punctuator.Punctuator.TheVariants as marks
use Rattle.parser_tree.specs.Node as node
use Rattle.parser_tree.specs.Node.{Name, Node, Nodes, nodes, one, none}
use Rattle.parser_tokens.specs.Tokens.{first, behind, place_at}
use Rattle.parser_tokens.specs.Expect.{expect, expect_closing}
use Rattle.parser_tokens.specs.Starts.{is_open_parenthesis}
use Rattle.parser_tokens.specs.declared.expect.Wanted.TheVariants as wanted
use Rattle.parser_tokens.specs.declared.word.Word.{Word}
use Rattle.parser_tokens.specs.declared.word.Word.TheVariants as words
use Rattle.parser_ahead.specs.Names.{locals_from}
use Rattle.parser_ahead.specs.Primary.{lambda_block_at}
use Rattle.parser_ahead.specs.declared.primary.BlockStyle.{BlockStyle}
use Rattle.parser_ahead.specs.declared.primary.BlockStyle.TheVariants as styles
use Rattle.parser_ahead.specs.declared.primary.DoOwner.{DoOwner}
use Rattle.parser_ahead.specs.declared.primary.DoOwner.TheVariants as owners
use Rattle.parser_ahead.specs.declared.primary.Place.TheVariants as places
use Rattle.parser_ahead.specs.declared.sections.Compound.TheVariants as compounds
use Rattle.parser_form_nodes.specs.Parameters.{ParameterNodes, BlockNode, block_of}
use Rattle.parser_form_nodes.specs.Sections.{body_node}
use Rattle.parser_tree.specs.Parts.{PlainNode, class_path}
use Rattle.parser_form_nodes.specs.Definitions.{HeadNode, method_name, singleton_at, method_node}
use Rattle.parser_forms.specs.Reading.{Names, Tokens, Read, Inside}
use Rattle.rb_base.specs.Result.{◌>>=◌}
use Rattle.parser_forms.specs.Parameters.{block_parameters, lambda_parameters, open_parameters, is_assign}

-- the defaults of the optional parameters, which are nodes of their own
abbrev pub default_of : Node → List Node
default_of (node.optional_parameter x n) = n ∷ []
default_of _ = []

abbrev pub defaults : List Node → List Node
defaults [] = []
defaults (n ∷ ns) = default_of n ++ defaults ns

-- a method without an end, outside the language, with what its parameters hold
abbrev pub endless : ParameterNodes → ℕ → Node → Node
endless l at value = node.outside outsides.EndlessMethod at (nodes (l.outside ++ (defaults l.optional ++ value ∷ [])))

abbrev pub is_shift : Word → Bool
is_shift (words.Mark marks.ShiftLeft) = true
is_shift _ = false

abbrev pub is_less : Word → Bool
is_less (words.Mark marks.Less) = true
is_less _ = false

-- a definition whose opening word is at a place and whose names begin at the mark; they are forgotten behind it
abbrev pub defined : ℕ → ℕ → ParameterNodes → Node → Names → Tokens → Read BlockNode
defined at mark l body names ts = Ok (block_of at l (locals_from mark names) body, take mark names, ts)

abbrev pub headed : Nodes → Names → Tokens → Read HeadNode
headed singleton names ts = method_name singleton ts >>= (λ r. Ok (r.0, names, r.1))

abbrev pub head_by : Option Node → Names → Tokens → Read HeadNode
head_by None names ts = headed none names ts
head_by (Some n) names ts = headed (one n) names (behind (behind ts))

abbrev pub path_by : Option (Node × Name) → Names → Tokens → Tokens → Read (Node × Name)
path_by None names rest ts = Err (length ts)
path_by (Some p) names rest ts = Ok (p, names, rest)

module _ (inside : Inside) where
  abbrev pub braces : Names → Tokens → Read Node
  braces names ts = inside.statements names ts >>= (λ r. expect wanted.CloseBrace r.2 >>= (λ rest. Ok (r.0, r.1, rest)))

  abbrev pub body : Names → Tokens → Read Node
  body names ts = inside.sections names compounds.Body ts >>= (λ r. Ok (body_node r.0, r.1, r.2))

  abbrev pub body_by : BlockStyle → Names → Tokens → Read Node
  body_by styles.Brace names ts = braces names ts
  body_by styles.Do names ts = body names ts

  -- the statements of a block, to behind its end
  abbrev pub block_body : BlockStyle → ℕ → ℕ → ParameterNodes → Names → Tokens → Read BlockNode
  block_body style at mark l names ts = body_by style names ts >>= (λ r. defined at mark l r.0 r.1 r.2)

  -- the block at the front
  unfoldable pub block : Names → Tokens → BlockStyle → Read BlockNode
  block names ts style = block_parameters inside names (behind ts) >>=
      (λ r. block_body style (place_at ts) (length names) r.0 r.1 r.2)

  -- where no parameters stand behind the arrow, they may stand in the block
  abbrev pub lambda_body : Bool → BlockStyle → ℕ → ℕ → ParameterNodes → Names → Tokens → Read BlockNode
  lambda_body true style at mark l names ts = block_parameters inside names (behind ts) >>=
      (λ r. block_body style at mark r.0 r.1 r.2)
  lambda_body false style at mark l names ts = block_body style at mark l names (behind ts)

  abbrev pub lambda_by : Option BlockStyle → Bool → ℕ → ℕ → ParameterNodes → Names → Tokens → Read Node
  lambda_by None bare at mark l names ts = Err (length ts)
  lambda_by (Some style) bare at mark l names ts =
      lambda_body bare style at mark l names ts >>= (λ r. Ok (node.lambda r.0.0, r.1, r.2))

  -- what stands behind the arrow of a lambda, which is at a place
  unfoldable pub lambda : ℕ → Names → Tokens → DoOwner → Read Node
  lambda at names ts owner =
      lambda_parameters inside names ts
      >>= (λ r. lambda_by (lambda_block_at owner r.2) (is_some (lambda_block_at owner ts)) at (length names) r.0
      r.1 r.2)

  -- a method on the value of an expression in parentheses
  abbrev pub value_head : Names → Tokens → Read HeadNode
  value_head names ts =
      inside.expression names (behind ts) places.Command owners.Call >>=
      (λ r. expect_closing wanted.CloseParenthesis r.2 >>= (λ dot.
      expect wanted.Dot dot >>= (λ rest. headed (one r.0) r.1 rest)))

  -- what a method is defined on, and its name
  unfoldable pub method_head : Names → Tokens → Read HeadNode
  method_head names ts = if is_open_parenthesis (first ts) then value_head names ts else head_by (singleton_at names ts)
      names ts

  -- the rest of a method, in a scope of its own
  abbrev pub endless_method : ParameterNodes → Names → Tokens → Read Node
  endless_method l names ts = inside.argument names (behind ts) owners.Call >>=
      (λ r. Ok (endless l (place_at ts) r.0, r.1, r.2))

  abbrev pub whole_method : ℕ → HeadNode → ParameterNodes → Names → Tokens → Read Node
  whole_method at h l names ts = body names ts >>=
      (λ r. defined at 0 l r.0 r.1 r.2 >>= (λ d. Ok (method_node h d.0, d.1, d.2)))

  abbrev pub method_rest : ℕ → HeadNode → ParameterNodes → Names → Tokens → Read Node
  method_rest at h l names ts = if is_assign (first ts) then endless_method l names ts else whole_method at h l names ts

  -- what stands behind def, which is at a place
  unfoldable pub define : ℕ → Names → Tokens → Read Node
  define at names ts =
      method_head names ts >>= (λ h. open_parameters inside [] h.2 >>=
      (λ l. method_rest at h.0 l.0 l.1 l.2 >>= (λ r. Ok (r.0, h.1, r.2))))

  -- the body of a class or a module, which knows no names but those of its own text
  abbrev pub class_body : Tokens → Result (PlainNode × Tokens) ℕ
  class_body ts = body [] ts >>= (λ r. Ok ((locals_from 0 r.1, r.0), r.2))

  -- the path of a class or module
  abbrev pub path : Names → Tokens → Read (Node × Name)
  path names ts = inside.operation names ts 1 owners.Call >>= (λ r. path_by (class_path r.0) r.1 r.2 ts)

  -- the body behind the heading
  abbrev pub separated_body : Tokens → Result (PlainNode × Tokens) ℕ
  separated_body ts = expect wanted.Separator ts >>= (λ rest. class_body rest)

  abbrev pub singleton_class : Names → Tokens → Read Node
  singleton_class names ts =
      inside.expression names (behind ts) places.Command owners.Call
      >>= (λ r. separated_body r.2 >>= (λ b. Ok (node.singleton_class r.0 b.0.0 b.0.1, r.1, b.1)))

  -- the superclass of a class, or none
  abbrev pub parent : Names → Tokens → Read Nodes
  parent names ts =
      if is_less (first ts) then (inside.expression names (behind ts) places.Command owners.Call >>=
      (λ r. Ok (one r.0, r.1, r.2)))
      else Ok (none, names, ts)

  abbrev pub named_class : Names → Tokens → Read Node
  named_class names ts =
      path names ts >>= (λ p. parent p.1 p.2 >>=
      (λ s. separated_body s.2 >>= (λ b. Ok (node.class_node p.0.0 p.0.1 s.0 b.0.0 b.0.1, s.1, b.1))))

  -- what stands behind class
  unfoldable pub class_form : Names → Tokens → Read Node
  class_form names ts = if is_shift (first ts) then singleton_class names ts else named_class names ts

  -- what stands behind module; nothing but a new body follows its path
  unfoldable pub module_form : Names → Tokens → Read Node
  module_form names ts = path names ts >>= (λ p. class_body p.2 >>=
      (λ b. Ok (node.module_node p.0.0 p.0.1 b.0.0 b.0.1, p.1, b.1)))
