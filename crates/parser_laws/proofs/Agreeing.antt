-- The tables of the parser answer as the grammar says.
use Rattle.std.proofs.Common.{◌≡◌, ◌≢◌, ℕ, ◌+◌, Bool, true, false, not, ◌||◌, nat_eq, inl, inr, refl, sym, ap}
use Rattle.std.proofs.lemmas.Bool.{cases_Bool, eq-eqb, eqb-true}
use Rattle.rb_syntax.specs.declared.keyword.Keyword.{Keyword}
use Rattle.rb_syntax.specs.declared.keyword.Keyword.TheVariants as keywords
use Rattle.rb_syntax.specs.declared.outside.Outside.{Outside}
use Rattle.rb_syntax.specs.declared.outside.Outside.TheVariants as outsides
use Rattle.rb_syntax.specs.declared.punctuator.Punctuator.{Punctuator}
use Rattle.rb_syntax.specs.declared.punctuator.Punctuator.TheVariants as marks
use Rattle.parser_tree.specs.Node as node
use Rattle.parser_tree.specs.Node.{Node, Nodes}
use Rattle.parser_tokens.specs.Tokens.{first, behind, place_at, is_apart}
use Rattle.parser_tokens.specs.Starts.{begins_argument, begins_value, is_open_brace, is_open_parenthesis, is_plain_keyword, is_plain_start, is_plain_word, is_quoted, is_spaced_start, is_string_begin, makes_call, opens_arguments, wants_tight}
use Rattle.parser_tokens.specs.declared.word.Word.{Word}
use Rattle.parser_tokens.specs.declared.word.Word.TheVariants as words
use Rattle.parser_nodes.specs.Nodes.{shape}
use Rattle.parser_nodes.specs.Calls.{OperandNode, whole, callee, name_callee, method_callee, super_callee, outside_callee, is_target}
use Rattle.parser_laws.specs.Rules.{Tokens}
use Rattle.parser_laws.specs.Arguments as arguments
use Rattle.parser_laws.specs.Arguments.{IsPlain, IsEither, BeginsArgument, MakesCall, IsTarget}
use Rattle.parser_laws.proofs.Results.{clash, differs, not_true}
use Rattle.parser_laws.proofs.Tests.{and_parts, or_left, or_right, or_rest}
use Rattle.parser_laws.proofs.SoundPrimary.{an_open}

plain_key : (ts : Tokens) (k : Keyword) → first ts ≡ words.Key k → is_plain_keyword k ≡ true → IsPlain ts
plain_key ts keywords.Nil is h = arguments.Nil ts is
plain_key ts keywords.True is h = arguments.True ts is
plain_key ts keywords.False is h = arguments.False ts is
plain_key ts keywords.SelfReference is h = arguments.SelfReference ts is
plain_key ts k is h = differs (sym h)

plain_mark : (ts : Tokens) (p : Punctuator) → first ts ≡ words.Mark p → is_plain_word (words.Mark p) ≡ true
    → IsPlain ts
plain_mark ts marks.LambdaArrow is h = arguments.Lambda ts is
plain_mark ts p is h = differs (sym h)

plain_word : (ts : Tokens) (w : Word) → first ts ≡ w → is_plain_word w ≡ true → IsPlain ts
plain_word ts words.Identifier is h = arguments.Identifier ts is
plain_word ts words.Constant is h = arguments.Constant ts is
plain_word ts words.MethodName is h = arguments.MethodName ts is
plain_word ts words.InstanceVariable is h = arguments.InstanceVariable ts is
plain_word ts words.GlobalVariable is h = arguments.GlobalVariable ts is
plain_word ts words.Integer is h = arguments.Integer ts is
plain_word ts (words.Key k) is h = plain_key ts k is h
plain_word ts (words.Mark p) is h = plain_mark ts p is h
plain_word ts w is h = differs (sym h)

a_string : (w : Word) → is_string_begin w ≡ true → w ≡ words.StringBegin
a_string words.StringBegin h = refl
a_string w h = differs (sym h)

quoted : (ts : Tokens) → is_quoted ts ≡ true → IsPlain ts
quoted ts h =
    let p = and_parts (is_string_begin (first ts)) (nat_eq (place_at (behind ts)) (place_at ts + 1)) h in
    arguments.Quoted ts (a_string (first ts) p.0) (eqb-true (place_at (behind ts)) (place_at ts + 1) p.1)

plain_of : (ts : Tokens) → is_plain_start ts ≡ true → IsPlain ts
unfolding is_plain_start
plain_of ts h = elim (cases_Bool (is_plain_word (first ts))) [
  | inl plain ↦ plain_word ts (first ts) refl plain
  | inr other ↦ quoted ts (or_rest (is_plain_word (first ts)) (is_quoted ts) other h)
]

plain_back : (ts : Tokens) → IsPlain ts → is_plain_start ts ≡ true
unfolding is_plain_start
plain_back _ (arguments.Identifier ts is) = rw is refl
plain_back _ (arguments.Constant ts is) = rw is refl
plain_back _ (arguments.MethodName ts is) = rw is refl
plain_back _ (arguments.InstanceVariable ts is) = rw is refl
plain_back _ (arguments.GlobalVariable ts is) = rw is refl
plain_back _ (arguments.Integer ts is) = rw is refl
plain_back _ (arguments.Nil ts is) = rw is refl
plain_back _ (arguments.True ts is) = rw is refl
plain_back _ (arguments.False ts is) = rw is refl
plain_back _ (arguments.SelfReference ts is) = rw is refl
plain_back _ (arguments.Lambda ts is) = rw is refl
plain_back _ (arguments.Quoted ts is next) = rw is (eq-eqb (place_at (behind ts)) (place_at ts + 1) next)

no_brace : (w : Word) → not (is_open_brace w) ≡ true → w ≢ words.Mark marks.OpenBrace
no_brace w h e = clash (is_open_brace w) (ap is_open_brace e) (not_true (is_open_brace w) h)

the_brace : (w : Word) → is_open_brace w ≡ true → w ≡ words.Mark marks.OpenBrace
the_brace (words.Mark marks.OpenBrace) h = refl
the_brace w h = differs (sym h)

other_brace : (w : Word) → w ≢ words.Mark marks.OpenBrace → is_open_brace w ≡ false
other_brace w other = elim (cases_Bool (is_open_brace w)) [ inl is ↦ absurd (other (the_brace w is)) | inr none ↦ none ]

wants : (w : Word) → IsEither w → not (wants_tight w) ≡ false
wants _ arguments.Plus = refl
wants _ arguments.Minus = refl
wants _ arguments.Star = refl
wants _ arguments.StarStar = refl
wants _ arguments.Ampersand = refl
wants _ arguments.ColonColon = refl

either_mark : (p : Punctuator) → wants_tight (words.Mark p) ≡ true → IsEither (words.Mark p)
either_mark marks.Plus h = arguments.Plus
either_mark marks.Minus h = arguments.Minus
either_mark marks.Star h = arguments.Star
either_mark marks.StarStar h = arguments.StarStar
either_mark marks.Ampersand h = arguments.Ampersand
either_mark marks.ColonColon h = arguments.ColonColon
either_mark p h = differs (sym h)

either : (w : Word) → wants_tight w ≡ true → IsEither w
either (words.Mark p) h = either_mark p h
either w h = differs (sym h)

tight : (w : Word) (apart : Bool) → (not (wants_tight w) || not apart) ≡ true → IsEither w → apart ≡ false
tight w apart h is = not_true apart (or_rest (not (wants_tight w)) (not apart) (wants w is) h)

tight_back : (w : Word) (apart : Bool) → (IsEither w → apart ≡ false) → (not (wants_tight w) || not apart) ≡ true
tight_back w apart is = elim (cases_Bool (wants_tight w)) [
  | inl asked ↦ or_right (not (wants_tight w)) (not apart) (rw (is (either w asked)) refl)
  | inr calm ↦ or_left (not (wants_tight w)) (not apart) (rw calm refl)
]

spaced_of : (ts : Tokens) → is_spaced_start ts ≡ true → BeginsArgument ts
unfolding is_spaced_start
spaced_of ts h =
    let a = and_parts (not (is_open_brace (first ts))) _ h in
    let b = and_parts (is_apart ts) _ a.1 in
    let c = and_parts (begins_value (first ts)) _ b.1 in
    arguments.Spaced ts b.0 c.0 (no_brace (first ts) a.0) (tight (first ts) (is_apart (behind ts)) c.1)

spaced_back : (ts : Tokens) → is_apart ts ≡ true → begins_value (first ts) ≡ true
    → first ts ≢ words.Mark marks.OpenBrace → (IsEither (first ts) → is_apart (behind ts) ≡ false)
    → is_spaced_start ts ≡ true
unfolding is_spaced_start
spaced_back ts apart begins brace is =
    rw (other_brace (first ts) brace, apart, begins) (tight_back (first ts) (is_apart (behind ts)) is)

argument_of : (ts : Tokens) → begins_argument ts ≡ true → BeginsArgument ts
unfolding begins_argument
argument_of ts h = elim (cases_Bool (is_plain_start ts)) [
  | inl plain ↦ arguments.Plainly ts (plain_of ts plain)
  | inr other ↦ spaced_of ts (or_rest (is_plain_start ts) (is_spaced_start ts) other h)
]

argument_back : (ts : Tokens) → BeginsArgument ts → begins_argument ts ≡ true
unfolding begins_argument
argument_back _ (arguments.Plainly ts plain) = or_left (is_plain_start ts) (is_spaced_start ts) (plain_back ts plain)
argument_back _ (arguments.Spaced ts apart begins brace is) =
    or_right (is_plain_start ts) (is_spaced_start ts) (spaced_back ts apart begins brace is)

pub argument_agrees : (ts : Tokens) → (begins_argument ts ≡ true → BeginsArgument ts)
    × (BeginsArgument ts → begins_argument ts ≡ true)
argument_agrees ts = (argument_of ts, argument_back ts)

opened_of : (ts : Tokens) → opens_arguments ts ≡ true → MakesCall ts
unfolding opens_arguments
opened_of ts h =
    let p = and_parts (is_open_parenthesis (first ts)) (not (is_apart ts)) h in
    arguments.Opened ts (an_open (first ts) p.0) (not_true (is_apart ts) p.1)

opened_back : (ts : Tokens) → first ts ≡ words.Mark marks.OpenParenthesis → is_apart ts ≡ false
    → opens_arguments ts ≡ true
unfolding opens_arguments
opened_back ts is directly = rw (is, directly) refl

call_of : (ts : Tokens) → makes_call ts ≡ true → MakesCall ts
unfolding makes_call
call_of ts h = elim (cases_Bool (opens_arguments ts)) [
  | inl opened ↦ opened_of ts opened
  | inr closed ↦ arguments.Called ts (plain_of ts (or_rest (opens_arguments ts) (is_plain_start ts) closed h))
]

call_back : (ts : Tokens) → MakesCall ts → makes_call ts ≡ true
unfolding makes_call
call_back _ (arguments.Opened ts is directly) = or_left (opens_arguments ts) (is_plain_start ts) (opened_back ts is
    directly)
call_back _ (arguments.Called ts plain) = or_right (opens_arguments ts) (is_plain_start ts) (plain_back ts plain)

pub call_agrees : (ts : Tokens) → (makes_call ts ≡ true → MakesCall ts) × (MakesCall ts → makes_call ts ≡ true)
call_agrees ts = (call_of ts, call_back ts)

outside_target : (o : Outside) (at : ℕ) (es : Nodes) → is_target (whole (node.outside o at es)) ≡ true
    → IsTarget (whole (node.outside o at es))
unfolding shape
outside_target outsides.ClassVariable at es h = arguments.ClassVariable at es
outside_target outsides.SpecialGlobal at es h = arguments.SpecialGlobal at es
outside_target o at es h = differs (sym h)

whole_target : (n : Node) → is_target (whole n) ≡ true → IsTarget (whole n)
unfolding shape
whole_target (node.local x) h = arguments.Local x
whole_target (node.instance_variable x) h = arguments.Instance x
whole_target (node.global_variable x) h = arguments.Global x
whole_target (node.constant x) h = arguments.TheConstant x
whole_target (node.scoped_constant e x) h = arguments.ScopedConstant e x
whole_target (node.index e is) h = arguments.Index e is
whole_target (node.outside o at es) h = outside_target o at es h
whole_target n h = differs (sym h)

target_of : (o : OperandNode) → is_target o ≡ true → IsTarget o
target_of (whole n) h = whole_target n h
target_of (callee (name_callee x true)) h = arguments.Named x
target_of (callee (name_callee x false)) h = differs (sym h)
target_of (callee (method_callee r x true)) h = differs (sym h)
target_of (callee (method_callee r x false)) h = arguments.Method r x
target_of (callee (super_callee at)) h = differs (sym h)
target_of (callee (outside_callee o at es)) h = arguments.OutsideName o at es

target_back : (o : OperandNode) → IsTarget o → is_target o ≡ true
unfolding shape
target_back _ (arguments.Local x) = refl
target_back _ (arguments.Instance x) = refl
target_back _ (arguments.Global x) = refl
target_back _ (arguments.TheConstant x) = refl
target_back _ (arguments.ScopedConstant e x) = refl
target_back _ (arguments.Index e is) = refl
target_back _ (arguments.ClassVariable at es) = refl
target_back _ (arguments.SpecialGlobal at es) = refl
target_back _ (arguments.Named x) = refl
target_back _ (arguments.Method r x) = refl
target_back _ (arguments.OutsideName o at es) = refl

pub target_agrees : (o : OperandNode) → (is_target o ≡ true → IsTarget o) × (IsTarget o → is_target o ≡ true)
target_agrees o = (target_of o, target_back o)
