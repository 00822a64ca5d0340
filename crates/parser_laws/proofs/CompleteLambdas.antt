-- A lambda without parameters that is derived is read.
use Rattle.std.proofs.Common.{◌≡◌, ℕ, ◌+◌, ◌-◌, ◌<◌, ◌≤◌, Bool, true, false, length, take, Some, None, is_some, Ok, refl, sym, ap, subst, ◌∙◌, arith}
use Rattle.rb_syntax.specs.declared.punctuator.Punctuator.{Punctuator}
use Rattle.rb_syntax.specs.declared.punctuator.Punctuator.TheVariants as marks
use Rattle.parser_tree.specs.Node as node
use Rattle.parser_tree.specs.Node.{Node}
use Rattle.parser_tokens.specs.Tokens.{first, behind, place_at}
use Rattle.parser_tokens.specs.declared.word.Word.{Word}
use Rattle.parser_tokens.specs.declared.word.Word.TheVariants as words
use Rattle.parser_ahead.specs.Names.{locals_from}
use Rattle.parser_ahead.specs.Primary.{primary_at, block_of, lambda_takes, lambda_block_at}
use Rattle.parser_tokens.specs.Starts.{is_open_parenthesis}
use Rattle.parser_ahead.specs.declared.primary.BlockStyle.{BlockStyle}
use Rattle.parser_ahead.specs.declared.primary.BlockStyle.TheVariants as styles
use Rattle.parser_ahead.specs.declared.primary.DoOwner.{DoOwner}
use Rattle.parser_ahead.specs.declared.primary.Place.{Place}
use Rattle.parser_form_nodes.specs.Parameters.{ParameterNodes, BlockNode, no_parameters, definition_of, begins_parameter}
use Rattle.parser_forms.specs.Parameters.{parameters_from, block_parameters, lambda_parameters}
use Rattle.parser_forms.specs.Definitions.{block, body, body_by, lambda}
use Rattle.parser_forms.proofs.Turns.{parameters_step}
use Rattle.parser_operands.specs.Operands.{compound, primary_by}
use Rattle.parser_forms.specs.Reading.{Names, Tokens, Read, Inside}
use Rattle.rb_base.specs.Result.{◌>>=◌}
use Rattle.rb_parser.specs.Levels.{levels}
use Rattle.parser_laws.specs.Rules.{Statements, Block, LambdaParameters, Body, Primary as PrimaryRule, placed}
use Rattle.parser_laws.proofs.Results.{bind_ok, differs, same_read}
use Rattle.parser_laws.proofs.Facts.{Fact, levels_at, word_taken, behind_within, at_once}

mark_block : (takes : Bool) (p : Punctuator) (style : BlockStyle) → block_of takes (words.Mark p) ≡ Some style
    → (begins_parameter (words.Mark p) ≡ false) × (is_open_parenthesis (words.Mark p) ≡ false)
mark_block takes marks.OpenBrace style h = (refl, refl)
mark_block takes p style h = differs (sym (ap is_some h))

-- what begins a block begins no parameters
word_block : (takes : Bool) (w : Word) (style : BlockStyle) → block_of takes w ≡ Some style
    → (begins_parameter w ≡ false) × (is_open_parenthesis w ≡ false)
word_block takes (words.Mark p) style h = mark_block takes p style h
word_block takes (words.Key k) style h = (refl, refl)
word_block takes w style h = differs (sym (ap is_some h))

-- no parameters stand before a block
none_read : (i : Inside) (names : Names) (ts : Tokens) (owner : DoOwner) (style : BlockStyle)
    → lambda_block_at owner ts ≡ Some style → lambda_parameters i names ts ≡ Ok (no_parameters, names, ts)
unfolding lambda_parameters
none_read i names ts owner style there =
    let w = word_block (lambda_takes owner) (first ts) style there in
    let none : parameters_from i (length ts + 1) true false no_parameters names ts ≡ Ok
    ((no_parameters, false), names, ts) =
    parameters_step i (length ts + 1) true false no_parameters names ts (omega arith) ∙ rw w.0 refl in
    rw w.1 (rw none refl)

-- the block of a lambda, with the place of its arrow
lambda_read : (i : Inside) (at : ℕ) (names known : Names) (ts rest : Tokens) (owner : DoOwner) (style : BlockStyle)
    (b : BlockNode) → lambda_block_at owner ts ≡ Some style → block i names ts style ≡ Ok (b, known, rest)
    → lambda i at names ts owner ≡ Ok (node.lambda (placed at b.0), known, rest)
unfolding lambda block
lambda_read i at names known ts rest owner style b there read =
    let p = bind_ok (block_parameters i names (behind ts)) _ (b, known, rest) read in
    let q = bind_ok (body_by i style p.0.1 p.0.2) _ (b, known, rest) p.2 in
    let moved : same_read (Ok (
      node.lambda (definition_of at p.0.0 (locals_from (length names) q.0.1) q.0.0),
      take (length names) q.0.1,
      q.0.2,
    )) (Ok (node.lambda (placed at b.0), known, rest)) =
    ap (λ (r : Read BlockNode). r >>= (λ d. Ok (node.lambda (placed at d.0.0), d.1, d.2))) q.2 in
    rw (none_read i names ts owner style there) (rw there (rw p.1 (rw q.1 moved)))

pub lambda_fact : (place : Place) (owner : DoOwner) (style : BlockStyle) (names known : Names) (ts rest : Tokens)
    (b : BlockNode) → first ts ≡ words.Mark marks.LambdaArrow → lambda_block_at owner (behind ts) ≡ Some style
    → Fact (Block style b) names (behind ts) known rest
    → Fact (PrimaryRule place owner (node.lambda (placed (place_at ts) b.0))) names ts known rest
unfolding primary_at primary_by compound
lambda_fact place owner style names known ts rest b is there inner =
    let one = word_taken (words.Mark marks.LambdaArrow) ts is refl in
    let fewer = inner.0 in (
      omega arith,
      rw is refl,
      λ d room. at_once (levels d) place owner names known ts rest (node.lambda (placed (place_at ts) b.0)) (
          rw is (rw (lambda_read (levels d) (place_at ts) names known (behind ts) rest owner style b there
          (inner.2 d (omega arith))) refl)),
    )

module _ (place : Place) (owner : DoOwner) (names known later : Names) (ts rest more : Tokens) (l : ParameterNodes)
    (n : Node) (is : first ts ≡ words.Mark marks.LambdaArrow) (none : lambda_block_at owner (behind ts) ≡ None)
    (parameters : Fact (LambdaParameters l) names (behind ts) known rest) where
  parameters_read : (d : ℕ) → 0 < d → length (behind ts) ≤ d - 1
      → lambda_parameters (levels d) names (behind ts) ≡ Ok (l, known, rest)
  parameters_read d some room = subst (λ (i : Inside). lambda_parameters i names (behind ts) ≡ Ok (l, known, rest))
      (sym (levels_at d some)) (parameters.2 (d - 1) room)

  pub lambda_braces : first rest ≡ words.Mark marks.OpenBrace → Fact (Statements n) known (behind rest) later more
      → first more ≡ words.Mark marks.CloseBrace
      → Fact
      (PrimaryRule place owner (node.lambda (definition_of (place_at ts) l (locals_from (length names) later) n))) names ts
      (take (length names) later) (behind more)
  unfolding primary_at primary_by compound lambda
  lambda_braces brace inner closing =
      let one_less = word_taken (words.Mark marks.LambdaArrow) ts is refl in
      let two = word_taken (words.Mark marks.OpenBrace) rest brace refl in
      let last = word_taken (words.Mark marks.CloseBrace) more closing refl in
      let a = parameters.0 in
      let b = inner.0 in (
        omega arith,
        rw is refl,
        λ d room. at_once (levels d) place owner names (take (length names) later) ts (behind more)
            (node.lambda (definition_of (place_at ts) l (locals_from (length names) later) n)) (
            let below : (levels d).statements known (behind rest) ≡ Ok (n, later, more) =
            ap (λ (i : Inside). i.statements known (behind rest)) (levels_at d (omega arith))
            ∙ inner.2 (d - 1) (omega arith) in
            rw is (rw (parameters_read d (omega arith) (omega arith)) (rw (none, brace) (rw below (rw closing refl))))),
      )

  pub lambda_do : lambda_block_at owner rest ≡ Some styles.Do → Fact (Body n) known (behind rest) later more
      → Fact
      (PrimaryRule place owner (node.lambda (definition_of (place_at ts) l (locals_from (length names) later) n))) names ts
      (take (length names) later) more
  unfolding primary_at primary_by compound lambda
  lambda_do style inner =
      let one_less = word_taken (words.Mark marks.LambdaArrow) ts is refl in
      let two = behind_within rest in
      let a = parameters.0 in
      let b = inner.0 in (
        omega arith,
        rw is refl,
        λ d room. at_once (levels d) place owner names (take (length names) later) ts more
            (node.lambda (definition_of (place_at ts) l (locals_from (length names) later) n)) (
            let read : body (levels d) known (behind rest) ≡ Ok (n, later, more) =
            subst (λ (i : Inside). body i known (behind rest) ≡ Ok (n, later, more)) (sym (levels_at d (omega arith)))
            (inner.2 (d - 1) (omega arith)) in
            rw is (rw (parameters_read d (omega arith) (omega arith)) (rw (none, style) (rw read refl)))),
      )
