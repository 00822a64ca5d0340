-- What follows of the first word of a value.
use Rattle.std.proofs.Common.{◌≡◌, ◌≢◌, ◌⊎◌, Bool, true, false, ◌&&◌, ◌||◌, Some, is_some, if◌then◌else◌, inl, inr, refl, sym, ap, subst, ◌∙◌}
use Rattle.std.proofs.lemmas.Bool.{and_parts}
use Rattle.rb_syntax.specs.declared.keyword.Keyword.{Keyword}
use Rattle.rb_syntax.specs.declared.keyword.Keyword.TheVariants as keywords
use Rattle.rb_syntax.specs.declared.outside.Outside.{Outside}
use Rattle.rb_syntax.specs.declared.outside.Outside.TheVariants as outsides
use Rattle.rb_syntax.specs.declared.punctuator.Punctuator.{Punctuator}
use Rattle.rb_syntax.specs.declared.punctuator.Punctuator.TheVariants as marks
use Rattle.parser_tokens.specs.Tokens.{first, behind}
use Rattle.parser_tokens.specs.Operators.{prefix_of, prefix_at}
use Rattle.parser_tokens.specs.declared.operators.Prefix.{Prefix}
use Rattle.parser_tokens.specs.declared.word.Word.{Word}
use Rattle.parser_tokens.specs.declared.word.Word.TheVariants as words
use Rattle.parser_ahead.specs.Groups.{is_target_group}
use Rattle.parser_ahead.specs.Primary.{allows_command, is_statement, command_or_jump, command_start, other_start, start_of, start_at, part_of, part_at}
use Rattle.parser_tokens.specs.Starts.{jump_at, begins_value, is_open_parenthesis, outside_begins_value}
use Rattle.parser_ahead.specs.declared.primary.PartStart.TheVariants as parts
use Rattle.parser_ahead.specs.declared.primary.Place.{Place}
use Rattle.parser_ahead.specs.declared.primary.Place.TheVariants as places
use Rattle.parser_ahead.specs.declared.primary.Start.{Start}
use Rattle.parser_ahead.specs.declared.primary.Start.TheVariants as starts
use Rattle.parser_statements.specs.declared.statements.StatementStart.TheVariants as beginnings
use Rattle.parser_statements.specs.Statements.{is_not, statement_start}
use Rattle.parser_forms.specs.Reading.{Tokens}
use Rattle.parser_laws.specs.Rules.{is_star, stands_alone, is_outside_variable, is_jump, begins_jump}
use Rattle.parser_laws.proofs.Facts.{is_head, is_variable, is_finish, is_defined, begins, opens}
use Rattle.parser_laws.proofs.Results.{differs}
use Rattle.parser_laws.proofs.Tests.{or_left}
use Rattle.parser_laws.proofs.Facts.{is_calm, is_head, is_variable, is_finish, is_defined, begins, opens}

or_cases : (a b : Bool) → (a || b) ≡ true → (a ≡ true) ⊎ (b ≡ true)
or_cases true b h = inl refl
or_cases false b h = inr h

the_defined : (w : Word) → is_defined w ≡ true → w ≡ words.Key keywords.Defined
the_defined (words.Key keywords.Defined) h = refl
the_defined w h = differs (sym h)

pub head_opens : (ts : Tokens) → is_head (first ts) ≡ true → opens ts ≡ true
head_opens ts h = or_left (is_head (first ts)) _ h

pub head_begins : (w : Word) → is_head w ≡ true → begins w ≡ true
head_begins w h = or_left (is_head w) (is_defined w) h

-- a word that begins an operand, or defined? before a parenthesis
opening : (ts : Tokens) → opens ts ≡ true → (is_head (first ts) ≡ true)
    ⊎ ((first ts ≡ words.Key keywords.Defined) × (is_open_parenthesis (first (behind ts)) ≡ true))
opening ts h =
    elim (or_cases (is_head (first ts)) (is_defined (first ts) && is_open_parenthesis (first (behind ts))) h) [
      | inl head ↦ inl head
      | inr both_there ↦ let p = and_parts (is_defined (first ts)) (is_open_parenthesis (first (behind ts))) both_there
          in inr (the_defined (first ts) p.0, p.1)
    ]

pub opens_begins : (ts : Tokens) → opens ts ≡ true → begins (first ts) ≡ true
opens_begins ts h = elim (opening ts h) [ inl head ↦ head_begins (first ts) head | inr defined ↦ rw defined.0 refl ]

pub head_not_finish : (w : Word) → is_head w ≡ true → is_finish w ≡ false
head_not_finish words.Finish h = differs (sym h)
head_not_finish w h = refl

key_no_not : (k : Keyword) → begins (words.Key k) ≡ true → is_not (words.Key k) ≡ false
key_no_not keywords.Not h = differs (sym h)
key_no_not k h = refl

pub head_no_not : (w : Word) → begins w ≡ true → is_not w ≡ false
head_no_not (words.Key k) h = key_no_not k h
head_no_not w h = refl

key_expression : (k : Keyword) → (begins (words.Key k) || (is_not (words.Key k) || is_star (words.Key k))) ≡ true
    → statement_start (words.Key k) ≡ beginnings.Expression
key_expression keywords.Alias h = differs (sym h)
key_expression keywords.Undef h = differs (sym h)
key_expression keywords.BeginBlock h = differs (sym h)
key_expression keywords.EndBlock h = differs (sym h)
key_expression k h = refl

pub head_expression : (w : Word) → (begins w || (is_not w || is_star w)) ≡ true
    → statement_start w ≡ beginnings.Expression
head_expression (words.Key k) h = key_expression k h
head_expression w h = refl

key_start : (k : Keyword) (ts : Tokens) → is_jump (words.Key k) ts ≡ false
    → command_or_jump (jump_at (words.Key k)) (words.Key k) ts ≡ starts.Operand
key_start keywords.Return ts h = rw h refl
key_start keywords.Break ts h = rw h refl
key_start keywords.Next ts h = rw h refl
key_start keywords.Yield ts h = rw h refl
key_start k ts h = refl

mark_start : (p : Punctuator) (ts : Tokens) → words.Mark p ≢ words.Mark marks.Not
    → command_or_jump (jump_at (words.Mark p)) (words.Mark p) ts ≡ starts.Operand
mark_start marks.Not ts other = absurd (other refl)
mark_start p ts other = refl

word_start : (w : Word) (ts : Tokens) → is_jump w ts ≡ false → w ≢ words.Mark marks.Not
    → command_or_jump (jump_at w) w ts ≡ starts.Operand
word_start (words.Key k) ts h other = key_start k ts h
word_start (words.Mark p) ts h other = mark_start p ts other
word_start w ts h other = refl

mark_part : (p : Punctuator) (ts : Tokens) → is_calm (words.Mark p) ≡ true → part_of (words.Mark p) ts ≡ parts.Value
mark_part marks.Star ts h = differs (sym h)
mark_part marks.StarStar ts h = differs (sym h)
mark_part marks.Ampersand ts h = differs (sym h)
mark_part p ts h = refl

word_part : (w : Word) (ts : Tokens) → is_calm w ≡ true → part_of w ts ≡ parts.Value
word_part (words.Mark p) ts h = mark_part p ts h
word_part words.Label ts h = differs (sym h)
word_part words.StringBegin ts h = differs (sym h)
word_part w ts h = refl

-- what begins a value is no key, and where a command may stand and it doesn't begin with ! no jump takes what is behind it
abbrev pub Front : Place → Tokens → Type 0
Front place ts = (part_at ts ≡ parts.Value) ×
    (allows_command place ≡ true → first ts ≢ words.Mark marks.Not → command_start ts ≡ starts.Operand)

pub calm_part : (ts : Tokens) → is_calm (first ts) ≡ true → part_at ts ≡ parts.Value
unfolding part_at
calm_part ts h = word_part (first ts) ts h

-- what begins a value, with no jump and its list
pub jump_front : (place : Place) (ts : Tokens) → part_at ts ≡ parts.Value → begins_jump place ts ≡ false
    → Front place ts
unfolding command_start
jump_front place ts part none = (
  part,
  λ may other. word_start (first ts) (behind ts)
      (subst (λ b. (b && is_jump (first ts) (behind ts)) ≡ false) may none) other,
)

pub variable_calm : (w : Word) → is_variable w ≡ true → is_calm w ≡ true
variable_calm words.Identifier h = refl
variable_calm words.Constant h = refl
variable_calm words.InstanceVariable h = refl
variable_calm words.GlobalVariable h = refl
variable_calm (words.Other o) h = h
variable_calm w h = differs (sym h)

key_begins : (k : Keyword) → begins (words.Key k) ≡ true → begins_value (words.Key k) ≡ true
key_begins keywords.Defined h = refl
key_begins keywords.Nil h = refl
key_begins keywords.True h = refl
key_begins keywords.False h = refl
key_begins keywords.SelfReference h = refl
key_begins keywords.FileName h = refl
key_begins keywords.LineNumber h = refl
key_begins keywords.EncodingName h = refl
key_begins keywords.Redo h = refl
key_begins keywords.Retry h = refl
key_begins keywords.Return h = refl
key_begins keywords.Break h = refl
key_begins keywords.Next h = refl
key_begins keywords.Yield h = refl
key_begins keywords.Super h = refl
key_begins keywords.If h = refl
key_begins keywords.Unless h = refl
key_begins keywords.While h = refl
key_begins keywords.Until h = refl
key_begins keywords.For h = refl
key_begins keywords.Case h = refl
key_begins keywords.Begin h = refl
key_begins keywords.Def h = refl
key_begins keywords.Class h = refl
key_begins keywords.Module h = refl
key_begins k h = differs (sym h)

mark_begins : (p : Punctuator) → begins (words.Mark p) ≡ true → begins_value (words.Mark p) ≡ true
mark_begins marks.OpenParenthesis h = refl
mark_begins marks.OpenBracket h = refl
mark_begins marks.OpenBrace h = refl
mark_begins marks.ColonColon h = refl
mark_begins marks.LambdaArrow h = refl
mark_begins marks.Not h = refl
mark_begins marks.Tilde h = refl
mark_begins marks.Plus h = refl
mark_begins marks.Minus h = refl
mark_begins p h = differs (sym h)

-- a token outside the language that is a primary begins a value
pub alone_begins : (o : Outside) → stands_alone o ≡ true → outside_begins_value o ≡ true
alone_begins outsides.Ambiguous h = differs (sym h)
alone_begins outsides.QuotedLabel h = differs (sym h)
alone_begins o h = refl

-- a variable outside the language does
pub variable_begins : (o : Outside) → is_outside_variable o ≡ true → outside_begins_value o ≡ true
variable_begins outsides.ClassVariable h = refl
variable_begins outsides.SpecialGlobal h = refl
variable_begins o h = differs (sym h)

other_begins : (o : Outside) → begins (words.Other o) ≡ true → begins_value (words.Other o) ≡ true
other_begins outsides.Ambiguous h = differs (sym h)
other_begins outsides.QuotedLabel h = differs (sym h)
other_begins o h = refl

-- what begins a value of the rules begins a value
pub word_begins : (w : Word) → begins w ≡ true → begins_value w ≡ true
word_begins (words.Key k) h = key_begins k h
word_begins (words.Mark p) h = mark_begins p h
word_begins (words.Other o) h = other_begins o h
word_begins words.Identifier h = refl
word_begins words.Constant h = refl
word_begins words.MethodName h = refl
word_begins words.InstanceVariable h = refl
word_begins words.GlobalVariable h = refl
word_begins words.Integer h = refl
word_begins words.Symbol h = refl
word_begins words.Character h = refl
word_begins words.StringBegin h = refl
word_begins words.SymbolBegin h = refl
word_begins words.WordsBegin h = refl
word_begins words.SymbolsBegin h = refl
word_begins w h = differs (sym h)

by_tests : (b c : Bool) (s : Start) → b ≡ false → s ≡ starts.Operand
    → (if b then starts.Targets else (if c then s else starts.Operand)) ≡ starts.Operand
by_tests true c s h e = differs h
by_tests false true s h e = e
by_tests false false s h e = refl

operand_other : (place : Place) (ts : Tokens) → command_start ts ≡ starts.Operand
    → (is_statement place && is_target_group ts) ≡ false → other_start place ts ≡ starts.Operand
operand_other place ts start free =
    by_tests (is_statement place && is_target_group ts) (allows_command place) (command_start ts) free start

key_of : (k : Keyword) (place : Place) (ts : Tokens) → is_head (words.Key k) ≡ true
    → start_of (words.Key k) place ts ≡ other_start place ts
key_of keywords.Defined place ts h = differs (sym h)
key_of k place ts h = refl

mark_of : (p : Punctuator) (place : Place) (ts : Tokens) → is_head (words.Mark p) ≡ true
    → start_of (words.Mark p) place ts ≡ other_start place ts
mark_of marks.Star place ts h = differs (sym h)
mark_of p place ts h = refl

start_is_other : (w : Word) (place : Place) (ts : Tokens) → is_head w ≡ true
    → start_of w place ts ≡ other_start place ts
start_is_other (words.Key k) place ts h = key_of k place ts h
start_is_other (words.Mark p) place ts h = mark_of p place ts h
start_is_other w place ts h = refl

-- a value in which no jump takes what is behind it begins with an operand
pub operand_start : (place : Place) (ts : Tokens) → opens ts ≡ true → command_start ts ≡ starts.Operand
    → (is_statement place && is_target_group ts) ≡ false → start_at place ts ≡ starts.Operand
unfolding start_at
operand_start place ts h start free =
    elim (opening ts h) [
      | inl head ↦ start_is_other (first ts) place ts head ∙ operand_other place ts start free
      | inr defined ↦ rw (defined.0, defined.1) refl
    ]

bang_tests : (b c : Bool) (s : Start) → b ≡ false → c ≡ true → s ≡ starts.Not
    → (if b then starts.Targets else (if c then s else starts.Operand)) ≡ starts.Not
bang_tests true c s h e f = differs h
bang_tests false true s h e f = f
bang_tests false false s h e f = differs (sym e)

bang_word : (w : Word) (ts : Tokens) → w ≡ words.Mark marks.Not → command_or_jump (jump_at w) w ts ≡ starts.Not
bang_word w ts e = rw e refl

-- with ! begins a negation where a command may stand
pub not_start : (place : Place) (ts : Tokens) → first ts ≡ words.Mark marks.Not
    → (is_statement place && is_target_group ts) ≡ false → allows_command place ≡ true → start_at place ts ≡ starts.Not
unfolding start_at command_start
not_start place ts there free may =
    start_is_other (first ts) place ts (subst (λ w. is_head w ≡ true) (sym there) refl)
    ∙ bang_tests (is_statement place && is_target_group ts) (allows_command place) (command_start ts) free may
    (bang_word (first ts) (behind ts) there)

-- an operand begins a value where no command may stand, with ! too
pub plain_start : (ts : Tokens) → opens ts ≡ true → start_at places.Argument ts ≡ starts.Operand
unfolding start_at
plain_start ts h = elim (opening ts h) [
  | inl head ↦ start_is_other (first ts) places.Argument ts head
  | inr defined ↦
      rw (defined.0, defined.1) refl
]

-- what begins a value, and doesn't begin with !, begins with an operand
pub front_start : (place : Place) (ts : Tokens) → opens ts ≡ true → Front place ts → first ts ≢ words.Mark marks.Not
    → (is_statement place && is_target_group ts) ≡ false → start_at place ts ≡ starts.Operand
front_start places.Argument ts h front other free = plain_start ts h
front_start places.Command ts h front other free = operand_start places.Command ts h (front.1 refl other) free
front_start places.Statement ts h front other free = operand_start places.Statement ts h (front.1 refl other) free

is_prefix_mark : (p : Punctuator) (ts : Tokens) (o : Prefix) → prefix_of (words.Mark p) ts ≡ Some o
    → is_calm (words.Mark p) ≡ true
is_prefix_mark marks.Not ts o h = refl
is_prefix_mark marks.Tilde ts o h = refl
is_prefix_mark marks.Plus ts o h = refl
is_prefix_mark marks.Minus ts o h = refl
is_prefix_mark p ts o h = differs (sym (ap is_some h))

is_prefix_word : (w : Word) (ts : Tokens) (o : Prefix) → prefix_of w ts ≡ Some o → is_calm w ≡ true
is_prefix_word (words.Mark p) ts o h = is_prefix_mark p ts o h
is_prefix_word w ts o h = differs (sym (ap is_some h))

pub prefix_calm : (ts : Tokens) (o : Prefix) → prefix_at ts ≡ Some o → is_calm (first ts) ≡ true
unfolding prefix_at
prefix_calm ts o h = is_prefix_word (first ts) (behind ts) o h

pub calm_head : (w : Word) → is_calm w ≡ true → is_head w ≡ true
calm_head w h = or_left (is_calm w) _ h

pub prefix_head : (ts : Tokens) (o : Prefix) → prefix_at ts ≡ Some o → is_head (first ts) ≡ true
prefix_head ts o h = calm_head (first ts) (prefix_calm ts o h)

pub variable_head : (w : Word) → is_variable w ≡ true → is_head w ≡ true
variable_head w h = calm_head w (variable_calm w h)
