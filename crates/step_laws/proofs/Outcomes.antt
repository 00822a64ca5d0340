-- What the operators, `puts` and `to_s` come to on nil, true, false and integers: a value or an exception. The objects
-- that were there stay, no symbol is new, and nothing is written.
use Rattle.std.proofs.Common.{◌≡◌, ℕ, ℤ, List, [], ◌∷◌, ◌++◌, refl, sym, ap, ◌∙◌, subst, length, get_or, Bool, true, false, true≢false, append_assoc}
use Rattle.std.specs.Prelude.{◌&&◌, nat_eq, nat_le, codes, if◌then◌else◌, Option, Some, None, Result, Ok, Err}
use Rattle.std.proofs.lemmas.List.{append-nil}
use Rattle.rb_value.specs.Object.{Object}
use Rattle.rb_value.specs.declared.value.ObjId.{ObjId}
use Rattle.rb_value.specs.declared.value.SymId.{SymId}
use Rattle.rb_value.specs.declared.value.Value.{Value}
use Rattle.rb_value.specs.declared.value.Value.TheVariants.{Nil, True, False, Int, Sym, Obj}
use Rattle.rb_value.specs.Value.{truth}
use Rattle.rb_value.specs.declared.method.Method.{Method}
use Rattle.rb_value.specs.declared.method.Method.TheVariants as method
use Rattle.rb_value.specs.declared.method.Visibility.{Visibility}
use Rattle.rb_value.specs.declared.method.Visibility.TheVariants.{Public, Private, Protected}
use Rattle.rb_value.specs.declared.outcome.Outcome.{Outcome}
use Rattle.rb_value.specs.declared.outcome.Outcome.TheVariants as outcome
use Rattle.rb_integer.specs.declared.failure.IntegerFailure.{IntegerFailure}
use Rattle.row_answer.specs.declared.answer.Plain.TheVariants as plain
use Rattle.row_table.specs.declared.line.CoreRow.{CoreRow}
use Rattle.row_table.specs.declared.line.CoreRow.TheVariants as core_row
use Rattle.row_table.specs.declared.line.Line.{Line}
use Rattle.row_table.specs.RowTable.{line_at}
use Rattle.row_table.specs.declared.integer.IntegerMethod.{IntegerMethod}
use Rattle.row_table.specs.declared.integer.IntegerMethod.TheVariants as integer
use Rattle.row_table.specs.declared.truth.TruthMethod.{TruthMethod}
use Rattle.row_table.specs.declared.truth.TruthMethod.TheVariants as truth_method
use Rattle.def_core.specs.declared.cause.Cause.{Cause}
use Rattle.def_core.specs.declared.cause.Cause.TheVariants as cause
use Rattle.def_core.specs.declared.found.Found.{Found}
use Rattle.def_core.specs.Store.{Store, Done, with_object}
use Rattle.def_core.specs.Classes.{class_of, plain_class_of}
use Rattle.def_core.specs.Find.{same_value, find, may_call, allowed}
use Rattle.def_core.specs.Changes.{fails, Interned}
use Rattle.rb_store.specs.Opening.{main_object}
use Rattle.def_rows.specs.declared.answer.Answer as row_answers
use Rattle.def_rows.specs.Answers.{finish_plain, finish, answer_of, called}
use Rattle.def_rows.specs.Checking.{check}
use Rattle.def_rows.specs.IntegerRows as integers
use Rattle.def_rows.specs.Rows.{gives as row_gives, by_line, prim}
use Rattle.ir_core.specs.CoreForm.{Name}
use Rattle.def_calls.specs.World.{World, Answer, Result as Given, gives, raises, Activation, core_method, answer, answer_in, exception_object, fail, with_store}
use Rattle.def_calls.specs.Plain.{outright as outright_row}
use Rattle.def_calls.specs.Plans.{Iteration, begun, handing, putting, putting_text, printing, printing_text, inspecting, inspecting_text, raising, looping, visiting, counting, initializing, messaging, telling, telling_text, reporting, reported}
use Rattle.def_calls.specs.Rows
use Rattle.def_calls.specs.Rows.{Row, of_table, outright, iterates, PlainRow, StarRow, row_at, method_missing_row}
use Rattle.def_calls.specs.Calls.{Entry, answers, enters, begins, by_name, main_activation, enter_kind, enter_row, enter_method, enter_found, enter_missing, missing_by, missing_named, missing, forbidden, enter_allowed, find_for, enter_unchecked, is_asked, send_by_core, call}
use Rattle.def_eval.specs.Source.{Source}
use Rattle.step_laws.specs.Site.{opening_store, number}
use Rattle.step_laws.specs.Simple.{IsOperator}
use Rattle.step_laws.proofs.Symbols.{IsCoreName, the_symbol, number_is, interned_core}
use Rattle.step_laws.proofs.Unasked.{failure_unasked}
use Rattle.eval_laws.specs.Procs.{HasProc}
use Rattle.step_laws.proofs.Procless.{are_bodiless, has_none, both_bodiless, opening_bodiless}
use Rattle.step_laws.proofs.Found.{is_arithmetic, is_sameness, is_plain_row, is_plain_line, is_plain_of, is_number_text, is_truth_text, is_text_row, is_text_line, is_text_of, is_open, is_core, passes, is_plain, is_text, none_or, grown, both_true, operator_known, FindsAll, finds_all, is_missing, Missing, missing_all, Texts, texts_all, is_writer, writes_row, is_puts, writing}

-- nil, true, false and integers
abbrev pub IsImmediate : Value → Type 0
IsImmediate Nil = Unit {0}
IsImmediate True = Unit {0}
IsImmediate False = Unit {0}
IsImmediate (Int z) = Unit {0}
IsImmediate (Sym s) = ⊥
IsImmediate (Obj id) = ⊥

abbrev pub AreImmediate : List Value → Type 0
AreImmediate [] = Unit {0}
AreImmediate (v ∷ vs) = IsImmediate v × AreImmediate vs

-- iterations of `puts`
abbrev pub IsWriting : StarRow → Type 0
IsWriting r = is_writer r ≡ true

abbrev pub IsOfPuts : Iteration → Type 0
IsOfPuts (begun row recv args block) = IsWriting row × AreImmediate args
IsOfPuts handing = ⊥
IsOfPuts (putting vs) = AreImmediate vs
IsOfPuts (putting_text vs) = AreImmediate vs
IsOfPuts (printing vs) = ⊥
IsOfPuts (printing_text vs) = ⊥
IsOfPuts (inspecting vs us) = ⊥
IsOfPuts (inspecting_text vs us) = ⊥
IsOfPuts raising = ⊥
IsOfPuts (looping p) = ⊥
IsOfPuts (visiting a i p) = ⊥
IsOfPuts (counting z i p) = ⊥
IsOfPuts (initializing v) = ⊥
IsOfPuts (messaging v) = ⊥
IsOfPuts (telling v) = ⊥
IsOfPuts (telling_text v) = ⊥
IsOfPuts (reporting v) = ⊥
IsOfPuts (reported v) = ⊥

-- a world with the symbols and the classes of the opening one
pub record Kept (s : Source) (w : World) : Type 0 where
  pub symbols : w.store.symbols ≡ (opening_store s).symbols
  pub more : List Object
  pub objects : w.store.objects ≡ grown more
  pub none : are_bodiless more ≡ true
  pub others : List Activation
  pub activations : w.activations ≡ main_activation ∷ others

-- Outcomes.

-- a value, or what fails
abbrev pub OutcomeIs : (Value → Type 0) → Store → Done → Outcome → Type 0
OutcomeIs Is st d (outcome.Value v) = Is v
OutcomeIs Is st d (outcome.Raise f) = (c : Cause) × (d ≡ fails st c)

pub record DoneIs (Is : Value → Type 0) (st : Store) (d : Done) : Type 0 where
  pub more : List Object
  pub objects : d.store.objects ≡ st.objects ++ more
  pub none : are_bodiless more ≡ true
  pub symbols : d.store.symbols ≡ st.symbols
  pub outcome : OutcomeIs Is st d d.outcome

-- a value, or an exception that isn't asked for its message
abbrev pub GivenIs : (Value → Type 0) → World → Given → Type 0
GivenIs Is w (gives v) = Is v
GivenIs Is w (raises e) = is_asked w e ≡ false

pub record AnswerIs (s : Source) (Is : Value → Type 0) (w : World) (a : Answer) : Type 0 where
  pub kept : Kept s a.world
  pub activations : a.world.activations ≡ w.activations
  pub out : a.world.out ≡ w.out
  pub result : GivenIs Is a.world a.result

abbrev pub EntryIs : Source → (Value → Type 0) → World → Entry → Type 0
EntryIs s Is w (answers a) = AnswerIs s Is w a
EntryIs s Is w (enters o u) = ⊥
EntryIs s Is w (begins it a u) = IsOfPuts it × (a.runs ≡ core_method) × (u ≡ w)

-- none of its Procs has a body
pub kept_none : (s : Source) (w : World) → Kept s w → (b : ℕ) (ns : List ℕ) → HasProc w.store.objects b ns → ⊥
kept_none s w k b ns is =
    has_none (grown k.more) b ns (both_bodiless Rows.opening.objects k.more opening_bodiless k.none)
    (subst (λ (os : List Object). HasProc os b ns) k.objects is)

-- more objects behind
pub kept_more : (s : Source) (w : World) (st : Store) (more : List Object) → Kept s w
    → st.objects ≡ w.store.objects ++ more → are_bodiless more ≡ true → st.symbols ≡ w.store.symbols
    → Kept s (with_store w st)
kept_more s w st more k e none f = record {
  symbols = f ∙ k.symbols;
  more = k.more ++ more;
  objects = e ∙ ap (λ (os : List Object). os ++ more) k.objects ∙ append_assoc Rows.opening.objects k.more more;
  none = both_bodiless k.more more k.none none;
  others = k.others;
  activations = k.activations;
}

-- what fails isn't asked for its message
failure_given : (s : Source) (Is : Value → Type 0) (w : World) → Kept s w → (c : Cause)
    → GivenIs Is (answer w (fails w.store c)).world (answer w (fails w.store c)).result
unfolding fails
failure_given s Is w k c = failure_unasked s w k.more k.symbols k.objects c

raised_given : (s : Source) (Is : Value → Type 0) (w : World) (d : Done) → Kept s w → (x : Outcome) → d.outcome ≡ x
    → (c : Cause) → d ≡ fails w.store c → GivenIs Is (answer_in w d.store x).world (answer_in w d.store x).result
raised_given s Is w d k x e c f =
    subst (λ (y : Outcome). GivenIs Is (answer_in w d.store y).world (answer_in w d.store y).result) e
    (subst (λ (b : Done). GivenIs Is (answer w b).world (answer w b).result) (sym f) (failure_given s Is w k c))

pub answered_as : (s : Source) (Is : Value → Type 0) (w : World) (d : Done) → Kept s w → DoneIs Is w.store d
    → AnswerIs s Is w (answer w d)
answered_as s Is w d k g = by d.outcome refl g.outcome
  where
    by : (x : Outcome) → d.outcome ≡ x → OutcomeIs Is w.store d x → AnswerIs s Is w (answer_in w d.store x)
    by (outcome.Value v) e is = record {
      kept = kept_more s w d.store g.more k g.objects g.none g.symbols;
      activations = refl;
      out = refl;
      result = is;
    }
    by (outcome.Raise f) e is =
        let exception = exception_object f in
        record {
          kept = kept_more s w (with_object d.store exception) (g.more ++ exception ∷ []) k
              (ap (λ (os : List Object). os ++ exception ∷ []) g.objects
              ∙ append_assoc w.store.objects g.more (exception ∷ [])) (both_bodiless g.more (exception ∷ []) g.none refl)
              g.symbols;
          activations = refl;
          out = refl;
          result = raised_given s Is w d k (outcome.Raise f) e is.0 is.1;
        }

fails_done : (Is : Value → Type 0) (st : Store) (c : Cause) → DoneIs Is st (fails st c)
unfolding fails
fails_done Is st c = record { more = _; objects = refl; none = refl; symbols = refl; outcome = (c, refl) }

pub failed : (s : Source) (Is : Value → Type 0) (w : World) (c : Cause) → Kept s w → AnswerIs s Is w (fail w c)
unfolding fail
failed s Is w c k = answered_as s Is w (fails w.store c) k (fails_done Is w.store c)

gives_done : (Is : Value → Type 0) (st : Store) (v : Value) → Is v → DoneIs Is st (record { outcome = outcome.Value v; store = st })
gives_done Is st v is = record { more = []; objects = sym (append-nil st.objects); none = refl; symbols = refl; outcome = is }

-- Rows.

number_done : (st : Store) (recv : Value) (r : Result ℤ IntegerFailure)
    → DoneIs IsImmediate st (finish_plain st recv (integers.number r))
number_done st recv (Ok z) = gives_done IsImmediate st (Int z) tt
number_done st recv (Err f) = fails_done IsImmediate st _

truth_is : (b : Bool) → IsImmediate (truth b)
truth_is true = tt
truth_is false = tt

truth_done : (st : Store) (recv : Value) (b : Bool) → DoneIs IsImmediate st (finish_plain st recv (plain.Truth b))
truth_done st recv b = gives_done IsImmediate st (truth b) (truth_is b)

arithmetic_done : (st : Store) (recv : Value) (args : List Value) (m : IntegerMethod) → is_arithmetic m ≡ true
    → DoneIs IsImmediate st (finish_plain st recv (integers.gives m recv args))
arithmetic_done st recv args integer.Plus e = number_done st recv _
arithmetic_done st recv args integer.Minus e = number_done st recv _
arithmetic_done st recv args integer.Times e = number_done st recv _
arithmetic_done st recv args integer.Divide e = number_done st recv _
arithmetic_done st recv args integer.Percent e = absurd (true≢false (sym e))
arithmetic_done st recv args integer.Power e = absurd (true≢false (sym e))
arithmetic_done st recv args integer.Div e = absurd (true≢false (sym e))
arithmetic_done st recv args integer.Modulo e = absurd (true≢false (sym e))
arithmetic_done st recv args integer.Divmod e = absurd (true≢false (sym e))
arithmetic_done st recv args integer.Negate e = absurd (true≢false (sym e))
arithmetic_done st recv args integer.Itself e = absurd (true≢false (sym e))
arithmetic_done st recv args integer.Complement e = absurd (true≢false (sym e))
arithmetic_done st recv args integer.And e = absurd (true≢false (sym e))
arithmetic_done st recv args integer.Or e = absurd (true≢false (sym e))
arithmetic_done st recv args integer.Xor e = absurd (true≢false (sym e))
arithmetic_done st recv args integer.Left e = absurd (true≢false (sym e))
arithmetic_done st recv args integer.Right e = absurd (true≢false (sym e))
arithmetic_done st recv args integer.Equal e = truth_done st recv _
arithmetic_done st recv args integer.Order e = absurd (true≢false (sym e))
arithmetic_done st recv args integer.Less e = truth_done st recv _
arithmetic_done st recv args integer.AtMost e = truth_done st recv _
arithmetic_done st recv args integer.Greater e = truth_done st recv _
arithmetic_done st recv args integer.AtLeast e = truth_done st recv _
arithmetic_done st recv args integer.Absolute e = absurd (true≢false (sym e))
arithmetic_done st recv args integer.Successor e = absurd (true≢false (sym e))
arithmetic_done st recv args integer.Next e = absurd (true≢false (sym e))
arithmetic_done st recv args integer.Predecessor e = absurd (true≢false (sym e))
arithmetic_done st recv args integer.Character e = absurd (true≢false (sym e))
arithmetic_done st recv args integer.Ordinal e = absurd (true≢false (sym e))
arithmetic_done st recv args integer.ToInteger e = absurd (true≢false (sym e))
arithmetic_done st recv args integer.ToText e = absurd (true≢false (sym e))
arithmetic_done st recv args integer.Inspect e = absurd (true≢false (sym e))
arithmetic_done st recv args integer.IsZero e = absurd (true≢false (sym e))
arithmetic_done st recv args integer.IsEven e = absurd (true≢false (sym e))
arithmetic_done st recv args integer.IsOdd e = absurd (true≢false (sym e))
arithmetic_done st recv args integer.IsPositive e = absurd (true≢false (sym e))
arithmetic_done st recv args integer.IsNegative e = absurd (true≢false (sym e))
arithmetic_done st recv args integer.IsBetween e = absurd (true≢false (sym e))
arithmetic_done st recv args integer.Clamp e = absurd (true≢false (sym e))

plain_row_done : (st : Store) (recv : Value) (args : List Value) (r : CoreRow) → is_plain_row r ≡ true
    → DoneIs IsImmediate st (finish st recv (row_gives r st recv args))
plain_row_done st recv args (core_row.Integer m) e = arithmetic_done st recv args m e
plain_row_done st recv args (core_row.Range m) e = absurd (true≢false (sym e))
plain_row_done st recv args (core_row.RangeClass m) e = absurd (true≢false (sym e))
plain_row_done st recv args (core_row.String m) e = absurd (true≢false (sym e))
plain_row_done st recv args (core_row.StringClass m) e = absurd (true≢false (sym e))
plain_row_done st recv args (core_row.Symbol m) e = absurd (true≢false (sym e))
plain_row_done st recv args (core_row.Nil m) e = absurd (true≢false (sym e))
plain_row_done st recv args (core_row.True m) e = absurd (true≢false (sym e))
plain_row_done st recv args (core_row.False m) e = absurd (true≢false (sym e))

-- a call that the row's check refuses, and one that it doesn't
checked_done : (Is : Value → Type 0) (st : Store) (recv : Value) (a : row_answers.Answer) (o : Option Cause)
    → DoneIs Is st (finish st recv a) → DoneIs Is st (finish st recv (answer_of o a))
checked_done Is st recv a None d = d
checked_done Is st recv a (Some c) d = fails_done Is st c

line_done : (st : Store) (recv : Value) (args : List Value) (block : Option ObjId) (o : Option Line)
    → is_plain_line o ≡ true → DoneIs IsImmediate st (by_line o recv args block st)
unfolding called
line_done st recv args block None e = absurd (true≢false (sym e))
line_done st recv args block (Some l) e =
    checked_done IsImmediate st recv (row_gives l.row st recv args) (check l.signature st.objects recv args block)
    (plain_row_done st recv args l.row e)

-- the text of an integer and of a truth value
text_made : (st : Store) (recv : Value) (bytes : List ℕ)
    → DoneIs (λ v. Unit {0}) st (finish_plain st recv (plain.Text bytes))
text_made st recv bytes = record { more = _; objects = refl; none = refl; symbols = refl; outcome = tt }

number_text : (st : Store) (recv : Value) (m : IntegerMethod) → is_number_text m ≡ true
    → DoneIs (λ v. Unit {0}) st (finish_plain st recv (integers.gives m recv []))
number_text st recv integer.Plus e = absurd (true≢false (sym e))
number_text st recv integer.Minus e = absurd (true≢false (sym e))
number_text st recv integer.Times e = absurd (true≢false (sym e))
number_text st recv integer.Divide e = absurd (true≢false (sym e))
number_text st recv integer.Percent e = absurd (true≢false (sym e))
number_text st recv integer.Power e = absurd (true≢false (sym e))
number_text st recv integer.Div e = absurd (true≢false (sym e))
number_text st recv integer.Modulo e = absurd (true≢false (sym e))
number_text st recv integer.Divmod e = absurd (true≢false (sym e))
number_text st recv integer.Negate e = absurd (true≢false (sym e))
number_text st recv integer.Itself e = absurd (true≢false (sym e))
number_text st recv integer.Complement e = absurd (true≢false (sym e))
number_text st recv integer.And e = absurd (true≢false (sym e))
number_text st recv integer.Or e = absurd (true≢false (sym e))
number_text st recv integer.Xor e = absurd (true≢false (sym e))
number_text st recv integer.Left e = absurd (true≢false (sym e))
number_text st recv integer.Right e = absurd (true≢false (sym e))
number_text st recv integer.Equal e = absurd (true≢false (sym e))
number_text st recv integer.Order e = absurd (true≢false (sym e))
number_text st recv integer.Less e = absurd (true≢false (sym e))
number_text st recv integer.AtMost e = absurd (true≢false (sym e))
number_text st recv integer.Greater e = absurd (true≢false (sym e))
number_text st recv integer.AtLeast e = absurd (true≢false (sym e))
number_text st recv integer.Absolute e = absurd (true≢false (sym e))
number_text st recv integer.Successor e = absurd (true≢false (sym e))
number_text st recv integer.Next e = absurd (true≢false (sym e))
number_text st recv integer.Predecessor e = absurd (true≢false (sym e))
number_text st recv integer.Character e = absurd (true≢false (sym e))
number_text st recv integer.Ordinal e = absurd (true≢false (sym e))
number_text st recv integer.ToInteger e = absurd (true≢false (sym e))
number_text st recv integer.ToText e = text_made st recv _
number_text st recv integer.Inspect e = absurd (true≢false (sym e))
number_text st recv integer.IsZero e = absurd (true≢false (sym e))
number_text st recv integer.IsEven e = absurd (true≢false (sym e))
number_text st recv integer.IsOdd e = absurd (true≢false (sym e))
number_text st recv integer.IsPositive e = absurd (true≢false (sym e))
number_text st recv integer.IsNegative e = absurd (true≢false (sym e))
number_text st recv integer.IsBetween e = absurd (true≢false (sym e))
number_text st recv integer.Clamp e = absurd (true≢false (sym e))

true_text : (st : Store) (recv : Value) (m : TruthMethod) → is_truth_text m ≡ true
    → DoneIs (λ v. Unit {0}) st (finish st recv (row_gives (core_row.True m) st recv []))
true_text st recv truth_method.ToText e = text_made st recv _
true_text st recv truth_method.Inspect e = absurd (true≢false (sym e))
true_text st recv truth_method.And e = absurd (true≢false (sym e))
true_text st recv truth_method.Or e = absurd (true≢false (sym e))
true_text st recv truth_method.Xor e = absurd (true≢false (sym e))

false_text : (st : Store) (recv : Value) (m : TruthMethod) → is_truth_text m ≡ true
    → DoneIs (λ v. Unit {0}) st (finish st recv (row_gives (core_row.False m) st recv []))
false_text st recv truth_method.ToText e = text_made st recv _
false_text st recv truth_method.Inspect e = absurd (true≢false (sym e))
false_text st recv truth_method.And e = absurd (true≢false (sym e))
false_text st recv truth_method.Or e = absurd (true≢false (sym e))
false_text st recv truth_method.Xor e = absurd (true≢false (sym e))

text_row_done : (st : Store) (recv : Value) (r : CoreRow) → is_text_row r ≡ true
    → DoneIs (λ v. Unit {0}) st (finish st recv (row_gives r st recv []))
text_row_done st recv (core_row.Integer m) e = number_text st recv m e
text_row_done st recv (core_row.Range m) e = absurd (true≢false (sym e))
text_row_done st recv (core_row.RangeClass m) e = absurd (true≢false (sym e))
text_row_done st recv (core_row.String m) e = absurd (true≢false (sym e))
text_row_done st recv (core_row.StringClass m) e = absurd (true≢false (sym e))
text_row_done st recv (core_row.Symbol m) e = absurd (true≢false (sym e))
text_row_done st recv (core_row.Nil m) e = absurd (true≢false (sym e))
text_row_done st recv (core_row.True m) e = true_text st recv m e
text_row_done st recv (core_row.False m) e = false_text st recv m e

text_line_done : (st : Store) (recv : Value) (block : Option ObjId) (o : Option Line) → is_text_line o ≡ true
    → DoneIs (λ v. Unit {0}) st (by_line o recv [] block st)
unfolding called
text_line_done st recv block None e = absurd (true≢false (sym e))
text_line_done st recv block (Some l) e =
    checked_done (λ v. Unit {0}) st recv (row_gives l.row st recv []) (check l.signature st.objects recv [] block)
    (text_row_done st recv l.row e)

-- whether two values are the same
same_done : (st : Store) (recv : Value) (args : List Value) (block : Option ObjId) (p : PlainRow)
    → is_sameness p ≡ true → DoneIs IsImmediate st (outright_row p st recv args block)
same_done st recv args block Rows.initialize_object e = absurd (true≢false (sym e))
same_done st recv args block Rows.method_missing e = absurd (true≢false (sym e))
same_done st recv args block Rows.object_text e = absurd (true≢false (sym e))
same_done st recv args block Rows.object_inspection e = absurd (true≢false (sym e))
same_done st recv args block Rows.same_object e = by (nat_le 1 (length args) && nat_le (length args) 1)
  where
    by : (b : Bool) → DoneIs IsImmediate st (if b
        then (record { outcome = outcome.Value (truth (same_value recv (get_or args 0 Nil))); store = st })
        else fails st (cause.WrongCount (length args) 1 (Some 1)))
    by true = gives_done IsImmediate st _ (truth_is (same_value recv (get_or args 0 Nil)))
    by false = fails_done IsImmediate st _
same_done st recv args block Rows.negation e = absurd (true≢false (sym e))
same_done st recv args block Rows.class_of_object e = absurd (true≢false (sym e))
same_done st recv args block Rows.exit_program e = absurd (true≢false (sym e))
same_done st recv args block Rows.proc_of_block e = absurd (true≢false (sym e))
same_done st recv args block Rows.lambda_of_block e = absurd (true≢false (sym e))
same_done st recv args block Rows.proc_of_symbol e = absurd (true≢false (sym e))
same_done st recv args block Rows.array_push e = absurd (true≢false (sym e))
same_done st recv args block Rows.array_length e = absurd (true≢false (sym e))
same_done st recv args block Rows.array_element e = absurd (true≢false (sym e))
same_done st recv args block Rows.has_ancestor e = absurd (true≢false (sym e))
same_done st recv args block Rows.class_text e = absurd (true≢false (sym e))
same_done st recv args block Rows.method_of_block e = absurd (true≢false (sym e))
same_done st recv args block Rows.initialize_exception e = absurd (true≢false (sym e))
same_done st recv args block Rows.exception_text e = absurd (true≢false (sym e))
same_done st recv args block Rows.new_fiber e = absurd (true≢false (sym e))
same_done st recv args block Rows.is_alive e = absurd (true≢false (sym e))

-- Entries.

plain_entry : (s : Source) (w : World) (r : ℕ) (recv : Value) (args : List Value) → Kept s w → (row : Row)
    → is_plain_of r row ≡ true → EntryIs s IsImmediate w (enter_kind w r row recv args None)
unfolding prim
plain_entry s w r recv args k of_table e =
    answered_as s IsImmediate w (prim r recv args None w.store) k (line_done w.store recv args None (line_at r) e)
plain_entry s w r recv args k (outright q) e =
    answered_as s IsImmediate w (outright_row q w.store recv args None) k (same_done w.store recv args None q e)
plain_entry s w r recv args k (iterates q) e = absurd (true≢false (sym e))

text_entry : (s : Source) (w : World) (r : ℕ) (recv : Value) → Kept s w → (row : Row) → is_text_of r row ≡ true
    → EntryIs s (λ v. Unit {0}) w (enter_kind w r row recv [] None)
unfolding prim
text_entry s w r recv k of_table e =
    answered_as s (λ v. Unit {0}) w (prim r recv [] None w.store) k (text_line_done w.store recv None (line_at r) e)
text_entry s w r recv k (outright q) e = absurd (true≢false (sym e))
text_entry s w r recv k (iterates q) e = absurd (true≢false (sym e))

puts_entry : (s : Source) (Is : Value → Type 0) (w : World) (r : ℕ) (recv : Value) (args : List Value)
    → AreImmediate args → (row : Row)
    → writes_row row ≡ true → EntryIs s Is w (enter_kind w r row recv args None)
puts_entry s Is w r recv args all of_table e = absurd (true≢false (sym e))
puts_entry s Is w r recv args all (outright q) e = absurd (true≢false (sym e))
puts_entry s Is w r recv args all (iterates q) e = ((e, all), refl, refl)

public_is : (v : Visibility) → is_open v ≡ true → v ≡ Public
public_is Public e = refl
public_is Private e = absurd (true≢false (sym e))
public_is Protected e = absurd (true≢false (sym e))

-- a core method whose row passes
core_is : (s : Source) (Is : Value → Type 0) (w : World) (f : ℕ → Bool) (owner : ObjId) (name : SymId) (recv : Value)
    (args : List Value) → ((r : ℕ) → f r ≡ true → EntryIs s Is w (enter_row w r recv args None)) → (d : Method)
    → is_core f d ≡ true → EntryIs s Is w (enter_method w owner name d recv args None)
unfolding enter_method
core_is s Is w f owner name recv args each (method.Body b k) e = absurd (true≢false (sym e))
core_is s Is w f owner name recv args each (method.Core r) e = each r e
core_is s Is w f owner name recv args each (method.Reader n) e = absurd (true≢false (sym e))
core_is s Is w f owner name recv args each (method.Writer n) e = absurd (true≢false (sym e))
core_is s Is w f owner name recv args each (method.Block p) e = absurd (true≢false (sym e))
core_is s Is w f owner name recv args each method.Undefined e = absurd (true≢false (sym e))

-- what is found and passes is entered
found_entry : (s : Source) (Is : Value → Type 0) (w : World) (f : ℕ → Bool) (caller : Value) (name : SymId) (c : Cause)
    (recv : Value) (args : List Value) → ((r : ℕ) → f r ≡ true → EntryIs s Is w (enter_row w r recv args None))
    → (d : Found) → passes f (Some d) ≡ true
    → EntryIs s Is w (enter_allowed w caller name c recv args None (Some d))
unfolding allowed
found_entry s Is w f caller name c recv args each d e =
    let two = both_true (is_open d.visibility) (is_core f d.method) e in
    subst (λ (v : Visibility). EntryIs s Is w (if may_call w.store.objects caller recv d.owner v
    then enter_found w name d recv args None
    else missing w name (forbidden d.visibility name (plain_class_of w.store.objects recv))
    recv args None)) (sym (public_is d.visibility two.0))
    (core_is s Is w f d.owner name recv args each d.method two.1)

-- where nothing is found the core's method_missing fails
missing_core : (s : Source) (Is : Value → Type 0) (w : World) (name : SymId) (c : Cause) (called_by : SymId) (f : Found)
    (recv : Value) (args : List Value) → Kept s w → (d : Method) → is_core (λ r. nat_eq r method_missing_row) d ≡ true
    → EntryIs s Is w (enter_missing w name c called_by f recv args None d)
missing_core s Is w name c called_by f recv args k (method.Body b n) e = absurd (true≢false (sym e))
missing_core s Is w name c called_by f recv args k (method.Core r) e =
    subst (λ (b : Bool). EntryIs s Is w (if b then answers (fail w c)
    else enter_row w r recv (Sym name ∷ args) None)) (sym e) (failed s Is w c k)
missing_core s Is w name c called_by f recv args k (method.Reader n) e = absurd (true≢false (sym e))
missing_core s Is w name c called_by f recv args k (method.Writer n) e = absurd (true≢false (sym e))
missing_core s Is w name c called_by f recv args k (method.Block p) e = absurd (true≢false (sym e))
missing_core s Is w name c called_by f recv args k method.Undefined e = absurd (true≢false (sym e))

missing_found : (s : Source) (Is : Value → Type 0) (w : World) (name : SymId) (c : Cause) (called_by : SymId)
    (recv : Value) (args : List Value) → Kept s w → (o : Option Found) → is_missing o ≡ true
    → EntryIs s Is w (missing_by w name c called_by recv args None o)
missing_found s Is w name c called_by recv args k None e = absurd (true≢false (sym e))
missing_found s Is w name c called_by recv args k (Some f) e =
    missing_core s Is w name c called_by f recv args k f.method e

missing_entry : (s : Source) (Is : Value → Type 0) (w : World) (name : SymId) (c : Cause) (recv : Value)
    (args : List Value) → Kept s w
    → is_missing (find w.store.objects (class_of w.store.objects recv) (the_symbol (codes "method_missing"))) ≡ true
    → IsCoreName (codes "method_missing") → EntryIs s Is w (missing w name c recv args None)
unfolding missing
missing_entry s Is w name c recv args k e known =
    subst (λ (n : Interned). EntryIs s Is w (missing_named w name c recv args None n))
    (sym (interned_core s w.store (codes "method_missing") k.symbols known))
    (missing_found s Is w name c (the_symbol (codes "method_missing")) recv args k
    (find w.store.objects (class_of w.store.objects recv) (the_symbol (codes "method_missing"))) e)

allowed_entry : (s : Source) (w : World) (caller : Value) (name : SymId) (c : Cause) (recv : Value) (args : List Value)
    → Kept s w → EntryIs s IsImmediate w (missing w name c recv args None) → (o : Option Found) → none_or o ≡ true
    → EntryIs s IsImmediate w (enter_allowed w caller name c recv args None o)
allowed_entry s w caller name c recv args k m None e = m
allowed_entry s w caller name c recv args k m (Some d) e =
    found_entry s IsImmediate w is_plain caller name c recv args
    (λ r g. plain_entry s w r recv args k (row_at r) g) d e

-- what is found on an immediate value
finds : (more : List Object) (x : Name) (recv : Value) → IsImmediate recv → FindsAll more x
    → none_or (find (grown more) (class_of (grown more) recv) (the_symbol x)) ≡ true
unfolding class_of
finds more x Nil i f = f.of_nil
finds more x True i f = f.of_true
finds more x False i f = f.of_false
finds more x (Int z) i f = f.of_integer
finds more x (Sym y) i f = absurd i
finds more x (Obj id) i f = absurd i

misses : (more : List Object) (recv : Value) → IsImmediate recv → Missing more
    → is_missing (find (grown more) (class_of (grown more) recv) (the_symbol (codes "method_missing"))) ≡ true
unfolding class_of
misses more Nil i f = f.of_nil
misses more True i f = f.of_true
misses more False i f = f.of_false
misses more (Int z) i f = f.of_integer
misses more (Sym y) i f = absurd i
misses more (Obj id) i f = absurd i

-- An operator on an immediate value.
pub operator_entry : (s : Source) (w : World) (a : Activation) (x : Name) (recv : Value) (args : List Value) → Kept s w
    → IsOperator x → IsImmediate recv → EntryIs s IsImmediate w (call w a (by_name (number s x)) recv args None)
unfolding call
operator_entry s w a x recv args k is i =
    let name : number s x ≡ the_symbol x = number_is s x (operator_known x is) in
    let found : none_or (find_for w recv (number s x)) ≡ true =
    ap (λ (os : List Object). none_or (find os (class_of os recv) (number s x))) k.objects
    ∙ ap (λ (n : SymId). none_or (find (grown k.more) (class_of (grown k.more) recv) n)) name
    ∙ finds k.more x recv i (finds_all k.more x is) in
    let all = missing_all k.more in
    let none : is_missing (find w.store.objects (class_of w.store.objects recv) (the_symbol (codes "method_missing")))
    ≡ true =
    ap (λ (os : List Object). is_missing (find os (class_of os recv) (the_symbol (codes "method_missing")))) k.objects
    ∙ misses k.more recv i all in
    let c = cause.UndefinedMethod (number s x) (plain_class_of w.store.objects recv) in
    allowed_entry s w a.self (number s x) c recv args k
    (missing_entry s IsImmediate w (number s x) c recv args k none all.known) (find_for w recv (number s x)) found

-- `puts` of immediate values.
some_found : (s : Source) (Is : Value → Type 0) (w : World) (f : ℕ → Bool) (caller : Value) (name : SymId) (c : Cause)
    (recv : Value) (args : List Value) → ((r : ℕ) → f r ≡ true → EntryIs s Is w (enter_row w r recv args None))
    → (o : Option Found) → passes f o ≡ true → EntryIs s Is w (enter_allowed w caller name c recv args None o)
some_found s Is w f caller name c recv args each None e = absurd (true≢false (sym e))
some_found s Is w f caller name c recv args each (Some d) e = found_entry s Is w f caller name c recv args each d e

pub puts_called : (s : Source) (w : World) (a : Activation) (args : List Value) → Kept s w → AreImmediate args
    → EntryIs s IsImmediate w (call w a (by_name (number s (codes "puts"))) (Obj main_object) args None)
unfolding call
puts_called s w a args k all =
    let wr = writing k.more in
    let name : number s (codes "puts") ≡ the_symbol (codes "puts") = number_is s (codes "puts") wr.known in
    let found : passes is_puts (find_for w (Obj main_object) (number s (codes "puts"))) ≡ true =
    ap (λ (os : List Object). passes is_puts (find os (class_of os (Obj main_object)) (number s (codes "puts")))) k.objects
    ∙ ap (λ (n : SymId). passes is_puts (find (grown k.more) (class_of (grown k.more) (Obj main_object)) n)) name
    ∙ wr.of_main in
    some_found s IsImmediate w is_puts a.self (number s (codes "puts"))
    (cause.UndefinedMethod (number s (codes "puts"))
    (plain_class_of w.store.objects (Obj main_object)))
    (Obj main_object) args (λ r g. puts_entry s IsImmediate w r (Obj main_object) args all (row_at r) g)
    (find_for w (Obj main_object) (number s (codes "puts"))) found

-- The text of true, false and an integer.
unchecked : (s : Source) (w : World) (name : SymId) (recv : Value) → Kept s w → (o : Option Found)
    → passes is_text o ≡ true → EntryIs s (λ v. Unit {0}) w (enter_unchecked w name recv [] None o)
unchecked s w name recv k None e = absurd (true≢false (sym e))
unchecked s w name recv k (Some d) e =
    let two = both_true (is_open d.visibility) (is_core is_text d.method) e in
    core_is s (λ v. Unit {0}) w is_text d.owner name recv [] (λ r g. text_entry s w r recv k (row_at r) g) d.method two.1

text_found : (more : List Object) (recv : Value) → IsImmediate recv → (recv ≡ Nil → ⊥) → Texts more
    → passes is_text (find (grown more) (class_of (grown more) recv) (the_symbol (codes "to_s"))) ≡ true
unfolding class_of
text_found more Nil i isnt f = absurd (isnt refl)
text_found more True i isnt f = f.of_true
text_found more False i isnt f = f.of_false
text_found more (Int z) i isnt f = f.of_integer
text_found more (Sym y) i isnt f = absurd i
text_found more (Obj id) i isnt f = absurd i

pub text_sent : (s : Source) (w : World) (recv : Value) → Kept s w → IsImmediate recv → (recv ≡ Nil → ⊥)
    → EntryIs s (λ v. Unit {0}) w (send_by_core w recv (the_symbol (codes "to_s")) [] None false)
unfolding send_by_core
text_sent s w recv k i isnt =
    unchecked s w (the_symbol (codes "to_s")) recv k (find_for w recv (the_symbol (codes "to_s")))
    (ap (λ (os : List Object). passes is_text (find os (class_of os recv) (the_symbol (codes "to_s")))) k.objects
    ∙ text_found k.more recv i isnt (texts_all k.more))
