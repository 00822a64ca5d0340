-- What begins an argument begins a value, and no block.
use Rattle.std.proofs.Common.{◌≡◌, true, false, not, inl, inr, refl, sym}
use Rattle.std.proofs.lemmas.Bool.{cases_Bool}
use Rattle.rb_syntax.specs.declared.keyword.Keyword.{Keyword}
use Rattle.rb_syntax.specs.declared.keyword.Keyword.TheVariants as keywords
use Rattle.rb_syntax.specs.declared.punctuator.Punctuator.TheVariants as marks
use Rattle.parser_tokens.specs.Tokens.{first, is_apart}
use Rattle.parser_tokens.specs.Starts.{begins_value, begins_argument, is_open_brace, is_open_parenthesis, is_plain_keyword, is_plain_start, is_plain_word, is_quoted, is_spaced_start, is_string_begin, makes_call, opens_arguments}
use Rattle.parser_tokens.specs.declared.word.Word.{Word}
use Rattle.parser_tokens.specs.declared.word.Word.TheVariants as words
use Rattle.parser_forms.specs.Reading.{Tokens}
use Rattle.parser_laws.proofs.Results.{clash, differs}
use Rattle.parser_laws.proofs.Tests.{and_parts, or_rest}

-- a word that begins a value and isn't {
abbrev Begins : Word → Type 0
Begins w = (not (is_open_brace w) ≡ true) × (begins_value w ≡ true)

key_begins : (k : Keyword) → is_plain_keyword k ≡ true → Begins (words.Key k)
key_begins keywords.Nil h = (refl, refl)
key_begins keywords.True h = (refl, refl)
key_begins keywords.False h = (refl, refl)
key_begins keywords.SelfReference h = (refl, refl)
key_begins k h = differs (sym h)

word_begins : (w : Word) → is_plain_word w ≡ true → Begins w
word_begins words.Identifier h = (refl, refl)
word_begins words.Constant h = (refl, refl)
word_begins words.MethodName h = (refl, refl)
word_begins words.InstanceVariable h = (refl, refl)
word_begins words.GlobalVariable h = (refl, refl)
word_begins words.Integer h = (refl, refl)
word_begins (words.Key k) h = key_begins k h
word_begins (words.Mark marks.LambdaArrow) h = (refl, refl)
word_begins w h = differs (sym h)

string_begins : (w : Word) → is_string_begin w ≡ true → Begins w
string_begins words.StringBegin h = (refl, refl)
string_begins w h = differs (sym h)

pub plain_begins : (ts : Tokens) → is_plain_start ts ≡ true → Begins (first ts)
unfolding is_plain_start
plain_begins ts h = elim (cases_Bool (is_plain_word (first ts))) [
  | inl plain ↦ word_begins (first ts) plain
  | inr other ↦
      string_begins (first ts) (and_parts (is_string_begin (first ts)) _ (or_rest (is_plain_word (first ts))
      (is_quoted ts) other h)).0
]

spaced_begins : (ts : Tokens) → is_spaced_start ts ≡ true → Begins (first ts)
unfolding is_spaced_start
spaced_begins ts h =
    let a = and_parts (not (is_open_brace (first ts))) _ h in
    let b = and_parts (is_apart ts) _ a.1 in
    (a.0, (and_parts (begins_value (first ts)) _ b.1).0)

pub argument_begins : (ts : Tokens) → begins_argument ts ≡ true → Begins (first ts)
unfolding begins_argument
argument_begins ts h = elim (cases_Bool (is_plain_start ts)) [
  | inl plain ↦ plain_begins ts plain
  | inr other ↦ spaced_begins ts (or_rest (is_plain_start ts) (is_spaced_start ts) other h)
]

-- where no value begins, no argument does
pub no_plain : (ts : Tokens) → begins_value (first ts) ≡ false → is_plain_start ts ≡ false
no_plain ts h = elim (cases_Bool (is_plain_start ts)) [
  | inl plain ↦ clash (begins_value (first ts)) (plain_begins ts plain).1 h
  | inr other ↦ other
]

pub no_argument : (ts : Tokens) → begins_value (first ts) ≡ false → begins_argument ts ≡ false
no_argument ts h = elim (cases_Bool (begins_argument ts)) [
  | inl begun ↦ clash (begins_value (first ts)) (argument_begins ts begun).1 h
  | inr other ↦ other
]

pub no_arguments : (ts : Tokens) → is_open_parenthesis (first ts) ≡ false → opens_arguments ts ≡ false
unfolding opens_arguments
no_arguments ts h = rw h refl

-- nothing makes a call of a name
pub no_call : (ts : Tokens) → is_open_parenthesis (first ts) ≡ false → begins_value (first ts) ≡ false
    → makes_call ts ≡ false
unfolding makes_call
no_call ts closed h = rw (no_arguments ts closed, no_plain ts h) refl
