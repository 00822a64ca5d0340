-- What begins the arguments of a call and what may stand before an assignment, in the words of the grammar: the rules
-- ask it of the tables of the parser, and the law tables_agree says that the tables answer alike.
use Rattle.std.specs.Prelude.{◌≡◌, ◌≢◌, ℕ, ◌+◌, true, false, List}
use Rattle.rb_syntax.specs.declared.keyword.Keyword.TheVariants as keywords
use Rattle.rb_syntax.specs.declared.outside.Outside.{Outside}
use Rattle.rb_syntax.specs.declared.outside.Outside.TheVariants as outsides
use Rattle.rb_syntax.specs.declared.punctuator.Punctuator.TheVariants as marks
use Rattle.parser_tree.specs.Node as node
use Rattle.parser_tree.specs.Node.{Name, Node, Nodes}
use Rattle.parser_tokens.specs.Tokens.{first, behind, place_at, is_apart}
use Rattle.parser_tokens.specs.Starts.{begins_value}
use Rattle.parser_tokens.specs.declared.word.Word.{Word}
use Rattle.parser_tokens.specs.declared.word.Word.TheVariants as words
use Rattle.parser_nodes.specs.Calls.{OperandNode, whole, callee, name_callee, method_callee, outside_callee}
use Rattle.parser_laws.specs.Rules.{Tokens}

-- what begins an argument and can't go on with an expression, wherever it stands behind a name
pub data IsPlain : Tokens → Type 0 where
  Identifier : (ts : Tokens) → first ts ≡ words.Identifier → IsPlain ts
  Constant : (ts : Tokens) → first ts ≡ words.Constant → IsPlain ts
  -- a name with ? or ! at its end
  MethodName : (ts : Tokens) → first ts ≡ words.MethodName → IsPlain ts
  InstanceVariable : (ts : Tokens) → first ts ≡ words.InstanceVariable → IsPlain ts
  GlobalVariable : (ts : Tokens) → first ts ≡ words.GlobalVariable → IsPlain ts
  Integer : (ts : Tokens) → first ts ≡ words.Integer → IsPlain ts
  Nil : (ts : Tokens) → first ts ≡ words.Key keywords.Nil → IsPlain ts
  True : (ts : Tokens) → first ts ≡ words.Key keywords.True → IsPlain ts
  False : (ts : Tokens) → first ts ≡ words.Key keywords.False → IsPlain ts
  SelfReference : (ts : Tokens) → first ts ≡ words.Key keywords.SelfReference → IsPlain ts
  Lambda : (ts : Tokens) → first ts ≡ words.Mark marks.LambdaArrow → IsPlain ts
  -- a string whose opening is one byte, a quote
  Quoted : (ts : Tokens) → first ts ≡ words.StringBegin → place_at (behind ts) ≡ place_at ts + 1 → IsPlain ts

-- a mark that stands before an operand, and between two
pub data IsEither : Word → Type 0 where
  Plus : IsEither (words.Mark marks.Plus)
  Minus : IsEither (words.Mark marks.Minus)
  Star : IsEither (words.Mark marks.Star)
  StarStar : IsEither (words.Mark marks.StarStar)
  Ampersand : IsEither (words.Mark marks.Ampersand)
  ColonColon : IsEither (words.Mark marks.ColonColon)

-- the tokens behind a name begin the arguments of a command
pub data BeginsArgument : Tokens → Type 0 where
  Plainly : (ts : Tokens) → IsPlain ts → BeginsArgument ts
  -- behind white space a value, but none in braces; a mark that may stand between operands has no white space behind it
  Spaced : (ts : Tokens) → is_apart ts ≡ true → begins_value (first ts) ≡ true → first ts ≢ words.Mark marks.OpenBrace
      → (IsEither (first ts) → is_apart (behind ts) ≡ false) → BeginsArgument ts

-- the tokens behind a name make a call of it, be it that of a local or a constant
pub data MakesCall : Tokens → Type 0 where
  -- a parenthesis directly behind it
  Opened : (ts : Tokens) → first ts ≡ words.Mark marks.OpenParenthesis → is_apart ts ≡ false → MakesCall ts
  Called : (ts : Tokens) → IsPlain ts → MakesCall ts

-- an operand may stand before an assignment
pub data IsTarget : OperandNode → Type 0 where
  Local : (x : Name) → IsTarget (whole (node.local x))
  Instance : (x : Name) → IsTarget (whole (node.instance_variable x))
  Global : (x : Name) → IsTarget (whole (node.global_variable x))
  TheConstant : (x : Name) → IsTarget (whole (node.constant x))
  ScopedConstant : (e : Node) (x : Name) → IsTarget (whole (node.scoped_constant e x))
  Index : (e : Node) (is : Nodes) → IsTarget (whole (node.index e is))
  ClassVariable : (at : ℕ) (es : Nodes) → IsTarget (whole (node.outside outsides.ClassVariable at es))
  SpecialGlobal : (at : ℕ) (es : Nodes) → IsTarget (whole (node.outside outsides.SpecialGlobal at es))
  -- a name alone, which is a local from there on
  Named : (x : Name) → IsTarget (callee (name_callee x true))
  -- a method behind . without arguments
  Method : (r : Node) (x : Name) → IsTarget (callee (method_callee r x false))
  OutsideName : (o : Outside) (at : ℕ) (es : List Node) → IsTarget (callee (outside_callee o at es))
