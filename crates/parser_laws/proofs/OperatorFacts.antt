-- What holds of the operators before operands and between them.
use Rattle.std.proofs.Common.{◌≡◌, ℕ, Bool, true, false, ◌&&◌, ◌||◌, Option, Some, None, is_some, if◌then◌else◌, refl, sym, ap}
use Rattle.rb_syntax.specs.declared.punctuator.Punctuator.{Punctuator}
use Rattle.rb_syntax.specs.declared.punctuator.Punctuator.TheVariants as marks
use Rattle.parser_tree.specs.Node.{Node}
use Rattle.parser_tree.specs.declared.operator.BinaryOperator.{BinaryOperator}
use Rattle.parser_tree.specs.declared.operator.BinaryOperator.TheVariants as binary
use Rattle.parser_tree.specs.declared.operator.UnaryOperator.TheVariants as unary
use Rattle.parser_tokens.specs.Tokens.{first, behind}
use Rattle.parser_tokens.specs.Operators.{assignment_at, operation_right, is_sign, prefix_at, prefix_of, right_level}
use Rattle.parser_tokens.specs.declared.operators.Assignment.{Assignment}
use Rattle.parser_tokens.specs.declared.operators.Infix.{Infix}
use Rattle.parser_tokens.specs.declared.operators.Infix.TheVariants as infixes
use Rattle.parser_tokens.specs.declared.operators.Prefix.{Prefix}
use Rattle.parser_tokens.specs.declared.operators.Prefix.TheVariants as prefixes
use Rattle.parser_tokens.specs.declared.word.Word.{Word}
use Rattle.parser_tokens.specs.declared.word.Word.TheVariants as words
use Rattle.parser_ahead.specs.Primary.{is_comma_word, is_statement}
use Rattle.parser_ahead.specs.declared.primary.Place.{Place}
use Rattle.parser_nodes.specs.Nodes.{infix_node, prefix_node, shape}
use Rattle.parser_nodes.specs.Calls.{OperandNode, whole, is_target}
use Rattle.parser_operands.specs.Operands as operands
use Rattle.parser_operands.specs.Operators.{assignment_to}
use Rattle.parser_phrases.specs.Phrases.{is_assigned}
use Rattle.parser_forms.specs.Reading.{Tokens}
use Rattle.parser_laws.specs.Rules.{is_inner, is_taken, operand_level, takes_target}
use Rattle.parser_laws.proofs.Results.{and_false, clash, differs}

pub same_level : (o : Prefix) → operands.operand_level o ≡ operand_level o
same_level prefixes.Not = refl
same_level (prefixes.Operation unary.Plus) = refl
same_level (prefixes.Operation unary.Complement) = refl
same_level (prefixes.Operation unary.Minus) = refl

-- the operators of an operand are tighter than those of a value
pub inner_level : (o : Prefix) → is_inner (operand_level o) ≡ true
inner_level prefixes.Not = refl
inner_level (prefixes.Operation unary.Plus) = refl
inner_level (prefixes.Operation unary.Complement) = refl
inner_level (prefixes.Operation unary.Minus) = refl

inner_operation : (o : BinaryOperator) → is_inner (operation_right o) ≡ true
inner_operation binary.Power = refl
inner_operation binary.Times = refl
inner_operation binary.Divide = refl
inner_operation binary.Modulo = refl
inner_operation binary.Plus = refl
inner_operation binary.Minus = refl
inner_operation binary.ShiftLeft = refl
inner_operation binary.ShiftRight = refl
inner_operation binary.BitAnd = refl
inner_operation binary.BitOr = refl
inner_operation binary.BitXor = refl
inner_operation binary.Greater = refl
inner_operation binary.GreaterEqual = refl
inner_operation binary.Less = refl
inner_operation binary.LessEqual = refl
inner_operation binary.Compare = refl
inner_operation binary.Equal = refl
inner_operation binary.CaseEqual = refl
inner_operation binary.NotEqual = refl

pub inner_right : (o : Infix) → is_inner (right_level o) ≡ true
inner_right (infixes.Operation o) = inner_operation o
inner_right infixes.Ambiguous = refl
inner_right infixes.Match = refl
inner_right infixes.And = refl
inner_right infixes.Or = refl
inner_right infixes.Range = refl
inner_right infixes.RangeExclusive = refl

pub prefix_not : (ts : Tokens) → first ts ≡ words.Mark marks.Not → prefix_at ts ≡ Some prefixes.Not
unfolding prefix_at
prefix_not ts there = rw there refl

abbrev is_not_prefix : Option Prefix → Bool
is_not_prefix (Some prefixes.Not) = true
is_not_prefix (Some (prefixes.Operation o)) = false
is_not_prefix None = false

sign_no_not : (b : Bool) → is_not_prefix (if b then None else Some (prefixes.Operation unary.Minus)) ≡ false
sign_no_not true = refl
sign_no_not false = refl

bang_mark : (p : Punctuator) (ts : Tokens) → prefix_of (words.Mark p) ts ≡ Some prefixes.Not
    → words.Mark p ≡ words.Mark marks.Not
bang_mark marks.Not ts h = refl
bang_mark marks.Minus ts h = clash (is_not_prefix (prefix_of (words.Mark marks.Minus) ts)) (ap is_not_prefix h)
    (sign_no_not (is_sign ts))
bang_mark p ts h = differs (sym (ap is_not_prefix h))

bang_of : (w : Word) (ts : Tokens) → prefix_of w ts ≡ Some prefixes.Not → w ≡ words.Mark marks.Not
bang_of (words.Mark p) ts h = bang_mark p ts h
bang_of w ts h = differs (sym (ap is_some h))

pub prefix_bang : (ts : Tokens) → prefix_at ts ≡ Some prefixes.Not → first ts ≡ words.Mark marks.Not
unfolding prefix_at
prefix_bang ts h = bang_of (first ts) (behind ts) h

-- what an operator makes is no target
pub prefix_no_target : (o : Prefix) (n : Node) → is_target (whole (prefix_node o n)) ≡ false
unfolding shape
prefix_no_target prefixes.Not n = refl
prefix_no_target (prefixes.Operation o) n = refl

pub infix_no_target : (o : Infix) (at : ℕ) (a b : Node) → is_target (whole (infix_node o at a b)) ≡ false
unfolding shape
infix_no_target (infixes.Operation o) at a b = refl
infix_no_target infixes.And at a b = refl
infix_no_target infixes.Or at a b = refl
infix_no_target infixes.Range at a b = refl
infix_no_target infixes.RangeExclusive at a b = refl
infix_no_target infixes.Match at a b = refl
infix_no_target infixes.Ambiguous at a b = refl

-- so no word behind it takes it
pub untaken : (place : Place) (n : Node) (ts : Tokens) → is_target (whole n) ≡ false
    → is_taken place n (first ts) ≡ false
untaken place n ts h = rw h refl

pub no_matter : (b x : Bool) → x ≡ false → (b && x) ≡ false
no_matter b x h = rw h (and_false b)

-- an operand that no assignment takes, where it is no first of several targets
pub calm_taken : (place : Place) (o : OperandNode) (ts : Tokens) → is_statement place ≡ false
    → is_assigned o ts ≡ false → (is_target o && takes_target place (first ts)) ≡ false
calm_taken place o ts plain calm = by_tests (is_target o) (is_some (assignment_at (first ts))) calm
  where
    by_tests : (b c : Bool) → (b && c) ≡ false → (b && (c || (is_statement place && is_comma_word (first ts)))) ≡ false
    by_tests false c h = refl
    by_tests true true h = differs h
    by_tests true false h = rw plain refl

pub unassigned : (o : OperandNode) (ts : Tokens) → assignment_to o ts ≡ None → is_assigned o ts ≡ false
unassigned o ts free = by_target (is_target o) free
  where
    by_target : (b : Bool) → (if b then assignment_at (first ts) else None) ≡ None
        → (b && is_some (assignment_at (first ts))) ≡ false
    by_target true h = rw h refl
    by_target false h = refl

pub targeted : (o : OperandNode) (ts : Tokens) (a : Assignment) → assignment_to o ts ≡ Some a
    → (is_target o ≡ true) × (assignment_at (first ts) ≡ Some a)
targeted o ts a there = by_target (is_target o) refl there
  where
    by_target : (b : Bool) → is_target o ≡ b → (if b then assignment_at (first ts) else None) ≡ Some a
        → (is_target o ≡ true) × (assignment_at (first ts) ≡ Some a)
    by_target true is h = (is, h)
    by_target false is h = differs (sym (ap is_some h))
