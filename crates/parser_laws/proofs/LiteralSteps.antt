-- Literals that begin and end between tokens, a word at a time.
use Rattle.std.proofs.Common.{◌≡◌, ℕ, zero, suc, ◌+◌, ◌-◌, ◌<◌, Bool, true, false, nat_eq, if◌then◌else◌, length, [], ◌∷◌, Some, is_some, refl, sym, ap, ◌∙◌, arith}
use Rattle.std.proofs.lemmas.Bool.{and_parts}
use Rattle.rb_syntax.specs.declared.outside.Outside.{Outside}
use Rattle.rb_syntax.specs.declared.outside.Outside.TheVariants as outsides
use Rattle.parser_tokens.specs.Tokens.{first, behind}
use Rattle.parser_tokens.specs.Expect.{separators_from, newlines_from}
use Rattle.parser_tokens.specs.Operators.{infix_at, is_integer, is_sign, prefix_of, prefix_at, assignment_at, junction_at}
use Rattle.parser_tokens.specs.Starts.{is_separator, is_newline, modifier_at}
use Rattle.parser_tokens.specs.declared.operators.Assignment.{Assignment}
use Rattle.parser_tokens.specs.declared.operators.Infix.{Infix}
use Rattle.parser_tokens.specs.declared.operators.Junction.{Junction}
use Rattle.parser_tokens.specs.declared.operators.Prefix.{Prefix}
use Rattle.parser_tokens.specs.declared.word.Modifier.{Modifier}
use Rattle.parser_tokens.specs.declared.word.Word.{Word}
use Rattle.parser_tokens.specs.declared.word.Word.TheVariants as words
use Rattle.parser_ahead.specs.Groups.{literal_step, literal_end, is_quoted_label, is_quoted_key}
use Rattle.parser_ahead.specs.Primary.{is_name_word}
use Rattle.parser_ahead.proofs.Turns.{literal_more, literal_stop}
use Rattle.parser_forms.specs.Reading.{Tokens}
use Rattle.parser_laws.proofs.Results.{differs}
use Rattle.parser_laws.proofs.Facts.{is_finish, word_taken}

-- each literal that begins between these tokens ends there, and none that was open before
abbrev pub Closes : Tokens → Tokens → Type 0
Closes ts rest = (n : ℕ) → 0 < n → literal_end n ts ≡ literal_end n rest

-- no literal begins or ends with a word
abbrev pub keeps : Word → Bool
keeps words.StringBegin = false
keeps words.SymbolBegin = false
keeps words.WordsBegin = false
keeps words.SymbolsBegin = false
keeps words.LiteralEnd = false
keeps (words.Other outsides.QuotedLabel) = false
keeps _ = true

abbrev pub begins_literal : Word → Bool
begins_literal words.StringBegin = true
begins_literal words.SymbolBegin = true
begins_literal words.WordsBegin = true
begins_literal words.SymbolsBegin = true
begins_literal _ = false

other_count : (o : Outside) (n : ℕ) → keeps (words.Other o) ≡ true → literal_step (words.Other o) n ≡ n
unfolding literal_step
other_count outsides.QuotedLabel n h = differs (sym h)
other_count o n h = refl

kept_count : (w : Word) (n : ℕ) → keeps w ≡ true → literal_step w n ≡ n
unfolding literal_step
kept_count words.StringBegin n h = differs (sym h)
kept_count words.SymbolBegin n h = differs (sym h)
kept_count words.WordsBegin n h = differs (sym h)
kept_count words.SymbolsBegin n h = differs (sym h)
kept_count words.LiteralEnd n h = differs (sym h)
kept_count (words.Other o) n h = other_count o n h
kept_count w n h = refl

begun_count : (w : Word) (n : ℕ) → begins_literal w ≡ true → literal_step w n ≡ n + 1
unfolding literal_step
begun_count words.StringBegin n h = refl
begun_count words.SymbolBegin n h = refl
begun_count words.WordsBegin n h = refl
begun_count words.SymbolsBegin n h = refl
begun_count w n h = differs (sym h)

ended_count : (n : ℕ) → literal_step words.LiteralEnd (n + 1) ≡ n
unfolding literal_step
ended_count n =
    let fewer : (n + 1) - 1 ≡ n = omega arith in
    fewer

some_open : (n : ℕ) → 0 < n → nat_eq n 0 ≡ false
some_open n some = grind arith

-- behind a word with which a literal stays open
steps : (ts : Tokens) (n m : ℕ) → 0 < length ts → literal_step (first ts) n ≡ m → 0 < m
    → literal_end n ts ≡ literal_end m (behind ts)
steps ts n m some step still =
    literal_more n ts some (ap (λ k. nat_eq k 0) step ∙ some_open m still) ∙ ap (λ k. literal_end k (behind ts)) step

pub passes : (ts : Tokens) → keeps (first ts) ≡ true → Closes ts (behind ts)
unfolding behind
passes [] h n some = refl
passes (t ∷ ts) h n some = steps (t ∷ ts) n n (omega arith) (kept_count (first (t ∷ ts)) n h) some

pub passes_word : (w : Word) (ts : Tokens) → first ts ≡ w → keeps w ≡ true → Closes ts (behind ts)
passes_word w ts is h = passes ts (ap keeps is ∙ h)

-- behind the first and the last word of a literal
pub enters : (w : Word) (ts : Tokens) (n : ℕ) → first ts ≡ w → begins_literal w ≡ true → is_finish w ≡ false
    → literal_end n ts ≡ literal_end (n + 1) (behind ts)
enters w ts n is begins other =
    let taken = word_taken w ts is other in
    steps ts n (n + 1) (omega arith) (ap (λ v. literal_step v n) is ∙ begun_count w n begins) (omega arith)

pub leaves : (ts : Tokens) (n : ℕ) → first ts ≡ words.LiteralEnd → 0 < n
    → literal_end (n + 1) ts ≡ literal_end n (behind ts)
leaves ts n is some =
    let taken = word_taken words.LiteralEnd ts is refl in
    steps ts (n + 1) n (omega arith) (ap (λ v. literal_step v (n + 1)) is ∙ ended_count n) some

pub encloses : (w : Word) (ts rest : Tokens) → first ts ≡ w → begins_literal w ≡ true → is_finish w ≡ false
    → first rest ≡ words.LiteralEnd → Closes (behind ts) rest → Closes ts (behind rest)
encloses w ts rest is begins other closing inner n some = enters w ts n is begins other ∙ inner (n + 1) (omega arith)
    ∙ leaves rest n closing some

-- a string that ends with the end of a literal is no key
pub string_is_no_key : (ts rest : Tokens) → first ts ≡ words.StringBegin → first rest ≡ words.LiteralEnd
    → Closes (behind ts) rest → is_quoted_key ts ≡ false
string_is_no_key ts rest is closing inner =
    let last = word_taken words.LiteralEnd rest closing refl in
    let one : literal_end 0 ts ≡ literal_end 1 (behind ts) = enters words.StringBegin ts 0 is refl refl in
    let closed : literal_step (first rest) 1 ≡ 0 = ap (λ w. literal_step w 1) closing ∙ ended_count 0 in
    let none : nat_eq (literal_step (first rest) 1) 0 ≡ true = ap (λ k. nat_eq k 0) closed in
    let stops : literal_end 1 rest ≡ first rest = literal_stop 1 rest (omega arith) none in
    let all : literal_end 0 ts ≡ words.LiteralEnd = one ∙ inner 1 (omega arith) ∙ stops ∙ closing in
    ap is_quoted_label all

pub character_is_no_key : (ts : Tokens) → first ts ≡ words.Character → is_quoted_key ts ≡ false
character_is_no_key ts is =
    let taken = word_taken words.Character ts is refl in
    let closed : literal_step (first ts) 0 ≡ 0 = ap (λ w. literal_step w 0) is ∙ kept_count words.Character 0 refl in
    let none : nat_eq (literal_step (first ts) 0) 0 ≡ true = ap (λ k. nat_eq k 0) closed in
    let stops : literal_end 0 ts ≡ first ts = literal_stop 0 ts (omega arith) none in
    ap is_quoted_label (stops ∙ is)

skips : (b : Bool) (ts rest : Tokens) → (b ≡ true → Closes ts rest) → Closes ts (if b then rest else ts)
skips true ts rest more n some = more refl n some
skips false ts rest more n some = refl

separator_keeps : (w : Word) → is_separator w ≡ true → keeps w ≡ true
separator_keeps words.Newline h = refl
separator_keeps words.Semicolon h = refl
separator_keeps w h = differs (sym h)

newline_keeps : (w : Word) → is_newline w ≡ true → keeps w ≡ true
newline_keeps words.Newline h = refl
newline_keeps w h = differs (sym h)

pub passes_separators : (m : ℕ) (ts : Tokens) → Closes ts (separators_from m ts)
unfolding separators_from
passes_separators zero ts = λ n some. refl
passes_separators (suc m) ts =
    skips (is_separator (first ts)) ts (separators_from m (behind ts))
    (λ is n some. passes ts (separator_keeps (first ts) is) n some ∙ passes_separators m (behind ts) n some)

pub passes_newlines : (m : ℕ) (ts : Tokens) → Closes ts (newlines_from m ts)
unfolding newlines_from
passes_newlines zero ts = λ n some. refl
passes_newlines (suc m) ts =
    skips (is_newline (first ts)) ts (newlines_from m (behind ts))
    (λ is n some. passes ts (newline_keeps (first ts) is) n some ∙ passes_newlines m (behind ts) n some)

-- no literal begins or ends with what stands between or before operands, values and statements
pub modifier_keeps : (w : Word) (m : Modifier) → modifier_at w ≡ Some m → keeps w ≡ true
modifier_keeps (words.Modifier x) m h = refl
modifier_keeps w m h = differs (sym (ap is_some h))

pub junction_keeps : (w : Word) (j : Junction) → junction_at w ≡ Some j → keeps w ≡ true
junction_keeps (words.Key k) j h = refl
junction_keeps w j h = differs (sym (ap is_some h))

pub assignment_keeps : (w : Word) (a : Assignment) → assignment_at w ≡ Some a → keeps w ≡ true
assignment_keeps (words.Mark p) a h = refl
assignment_keeps w a h = differs (sym (ap is_some h))

other_keeps : (loosest : ℕ) (x : Outside) (o : Infix) → infix_at loosest (words.Other x) ≡ Some o
    → keeps (words.Other x) ≡ true
unfolding infix_at
other_keeps loosest outsides.QuotedLabel o h = differs (sym (ap is_some h))
other_keeps loosest x o h = refl

pub infix_keeps : (loosest : ℕ) (w : Word) (o : Infix) → infix_at loosest w ≡ Some o → keeps w ≡ true
unfolding infix_at
infix_keeps loosest (words.Mark p) o h = refl
infix_keeps loosest (words.Other x) o h = other_keeps loosest x o h
infix_keeps loosest w o h = differs (sym (ap is_some h))

prefix_word_keeps : (w : Word) (ts : Tokens) (o : Prefix) → prefix_of w ts ≡ Some o → keeps w ≡ true
prefix_word_keeps (words.Mark p) ts o h = refl
prefix_word_keeps w ts o h = differs (sym (ap is_some h))

pub prefix_keeps : (ts : Tokens) (o : Prefix) → prefix_at ts ≡ Some o → keeps (first ts) ≡ true
unfolding prefix_at
prefix_keeps ts o h = prefix_word_keeps (first ts) (behind ts) o h

pub name_keeps : (w : Word) → is_name_word w ≡ true → keeps w ≡ true
name_keeps words.Identifier h = refl
name_keeps words.Constant h = refl
name_keeps words.MethodName h = refl
name_keeps w h = differs (sym h)

integer_keeps : (w : Word) → is_integer w ≡ true → keeps w ≡ true
integer_keeps words.Integer h = refl
integer_keeps w h = differs (sym h)

pub sign_keeps : (ts : Tokens) → is_sign ts ≡ true → keeps (first ts) ≡ true
unfolding is_sign
sign_keeps ts h = integer_keeps (first ts) (and_parts (is_integer (first ts)) _ h).0
