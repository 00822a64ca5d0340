-- The rows of the table keep a world fine.
use Rattle.std.proofs.Common.{◌≡◌, ℕ, ◌≤◌, List, length, map, Bool, true, refl, ap, ◌∙◌, arith}
use Rattle.std.specs.Prelude.{Option, Some, None, IfSome}
use Rattle.std.proofs.lemmas.List.{length-map}
use Rattle.rb_value.specs.declared.value.Value.{Value}
use Rattle.rb_value.specs.declared.value.Value.TheVariants.{Nil, Int, Sym}
use Rattle.rb_value.specs.declared.value.ObjId.{ObjId}
use Rattle.rb_value.specs.declared.kind.Kind.TheVariants as kind
use Rattle.rb_value.specs.declared.kind.Sort.{Sort}
use Rattle.rb_value.specs.declared.kind.Sort.TheVariants as sort
use Rattle.rb_value.specs.contracts.kind.SortPartialEq.TheImpl as sorts
use Rattle.rb_value.specs.Value.{truth}
use Rattle.def_core.specs.declared.cause.Cause.{Cause}
use Rattle.def_core.specs.Store.{Store, Done, fresh, sort_at}
use Rattle.def_core.specs.Changes.{gives as done, intern}
use Rattle.def_core.specs.Sound.{Census, census, Any, Array, Is, IsValue, AllAre, plays}
use Rattle.def_core.proofs.Good.{is_good, has_role, sort_found}
use Rattle.rb_store.proofs.Start.{interned_symbol}
use Rattle.rb_raise.specs.Causes.{SoundCause}
use Rattle.row_answer.specs.declared.answer.Fault.{Fault}
use Rattle.row_answer.specs.declared.answer.Fault.TheVariants as fault
use Rattle.row_answer.specs.declared.answer.Plain.{Plain}
use Rattle.row_answer.specs.declared.answer.Plain.TheVariants as plain
use Rattle.row_table.specs.declared.line.Line.{Line}
use Rattle.row_table.specs.RowTable.{line_at}
use Rattle.def_rows.specs.declared.answer.Answer.{Answer}
use Rattle.def_rows.specs.declared.answer.Answer.TheVariants as answer
use Rattle.def_rows.specs.Operands.{place_of}
use Rattle.def_rows.specs.Checking.{check}
use Rattle.def_rows.specs.Answers.{cause_of, text_object, numbered, with_texts, makes_texts, appended, rewritten, appends, finish_plain, pushed, replaced, pushes, finish, answer_of, called}
use Rattle.def_rows.specs.Rows.{gives as row_gives, by_line, prim}
use Rattle.core_rows.specs.Belonging.{SoundAnswer}
use Rattle.core_rows.proofs.Places.{by_place}
use Rattle.core_rows.proofs.Checked.{check_sound}
use Rattle.core_rows.proofs.Texts.{numbered_are}
use Rattle.core_methods.proofs.Belongs.{gives_belongs}
use Rattle.run_values.proofs.Splatting as splatting
use Rattle.run_values.proofs.RangeMade.{made_sound}
use Rattle.def_rows.specs.RangeRows.{item_of, kept_ends}
use Rattle.def_calls.specs.World.{World, with_store}
use Rattle.def_calls.specs.Values.{make_range}
use Rattle.world_laws.specs.Fine.{Bodies, HasSort, Fine, Keeps}
use Rattle.world_laws.specs.Outcomes.{AnswerIs, DoneIs}
use Rattle.world_laws.proofs.Growing.{value_stays}
use Rattle.world_laws.proofs.Standing.{keeps_then}
use Rattle.world_laws.proofs.Stores.{keeps_objects, keeps_interned}
use Rattle.world_laws.proofs.Answers.{done_gives, done_gives_in, done_makes, done_makes_text, done_makes_items, done_fails, answers_done}
use Rattle.world_laws.proofs.Changing.{keeps_elements, keeps_more, keeps_text}
use Rattle.world_laws.proofs.Checking.{truth_is}
use Rattle.world_laws.proofs.Values.{texts_hold_nothing}

-- a sort that passes the test is the one that is asked for

is_string : (s : Sort) → sorts.ghosts.eq s sort.String ≡ true → s ≡ sort.String
is_string s h = grind (arith, h)

is_array : (s : Sort) → sorts.ghosts.eq s sort.Array ≡ true → s ≡ sort.Array
is_array s h = grind (arith, h)

fault_is : (k : Census) (f : Fault) → SoundCause k (cause_of f)
fault_is k fault.NegativeExponent = tt
fault_is k fault.NegativeCount = tt
fault_is k fault.BadBase = tt
fault_is k fault.BadRange = tt
fault_is k fault.InvalidInteger = tt
fault_is k fault.ComparisonFailed = tt
fault_is k fault.TooFewItems = tt
fault_is k fault.ArrayTooBig = tt
fault_is k fault.StringTooLong = tt
fault_is k fault.IntegerOverflow = tt
fault_is k fault.DividedByZero = tt
fault_is k (fault.IndexOutOfRange z) = tt
fault_is k (fault.CharOutOfRange z) = tt

-- an outcome that comes after another
pub done_then : (b : Bodies) (w : World) (st : Store) (d : Done) → Keeps b w (with_store w st)
    → DoneIs b (with_store w st) d → DoneIs b w d
done_then b w st d k h = record {
  keeps = keeps_then b w (with_store w st) (with_store w d.store) k h.keeps;
  outcome = h.outcome;
  raisable = h.raisable;
}

module _ (b : Bodies) (w : World) (fine : Fine b w) where
  string_there : (id : ObjId) → Is (census w.store) Any id
      → sorts.ghosts.eq (sort_at w.store.objects id) sort.String ≡ true → HasSort (census w.store) sort.String id
  string_there id is test = sort_found w.store id (is_good w.store Any id is)
      ∙ ap Some (is_string (sort_at w.store.objects id) test)

  array_there : (id : ObjId) → Is (census w.store) Any id
      → sorts.ghosts.eq (sort_at w.store.objects id) sort.Array ≡ true → Is (census w.store) Array id
  array_there id is test = has_role w.store Array id (is_good w.store Any id is)
      (ap (plays Array) (is_array (sort_at w.store.objects id) test))

  texts_made : (texts : List (List ℕ)) → DoneIs b w (makes_texts w.store texts)
  texts_made texts =
      let st : Store = with_texts w.store texts in
      let v : World = with_store w st in
      let k = keeps_objects b w fine (map text_object texts)
      (splatting.texts_sound w.store fine.store texts (map text_object texts) refl) (texts_hold_nothing b w texts) in
      let longer : length texts ≤ length (map text_object texts) = omega (arith, length-map texts text_object) in
      done_then b w st _ k
      (done_makes_items b v k.fine (numbered (length w.store.objects) (length texts))
      (numbered_are w.store (map text_object texts) (length texts) longer))

  module _ (recv : Value) (is : IsValue (census w.store) recv) where
    -- what the receiver becomes where it is a String, and what the call gives
    rewritten_is : (bytes : List ℕ) (x : Value) → IsValue (census w.store) x
        → DoneIs b w (done x (rewritten w.store bytes (place_of w.store.objects sort.String recv)))
    rewritten_is bytes x value = by_place w.store sort.String recv (λ p. DoneIs b w (done x (rewritten w.store bytes p))) is
        (done_gives b w fine x value)
        (λ id e there test.
        let k = keeps_text b w fine id bytes (string_there id there test) in
        done_gives_in b w fine _ x k (value_stays w _ k.extends x value))

    appended_is : (more : List ℕ) → DoneIs b w (appends w.store recv more)
    appended_is more = by_place w.store sort.String recv (λ p. DoneIs b w (done recv (appended w.store more p))) is
        (done_gives b w fine recv is)
        (λ id e there test.
        let k = keeps_text b w fine id _ (string_there id there test) in
        done_gives_in b w fine _ recv k (value_stays w _ k.extends recv is))

    pushed_is : (more : List Value) → AllAre (IsValue (census w.store)) more → DoneIs b w (pushes w.store recv more)
    pushed_is more all = by_place w.store sort.Array recv (λ p. DoneIs b w (done recv (pushed w.store more p))) is
        (done_gives b w fine recv is)
        (λ id e there test.
        let k = keeps_more b w fine id more (array_there id there test) all in
        done_gives_in b w fine _ recv k (value_stays w _ k.extends recv is))

    replaced_is : (xs : List Value) → AllAre (IsValue (census w.store)) xs
        → DoneIs b w (finish w.store recv (answer.Replace xs))
    replaced_is xs all = by_place w.store sort.Array recv (λ p. DoneIs b w (done recv (replaced w.store xs p))) is
        (done_gives b w fine recv is)
        (λ id e there test.
        let k = keeps_elements b w fine id xs (array_there id there test) all in
        done_gives_in b w fine _ recv k (value_stays w _ k.extends recv is))

    plain_is : (a : Plain) → DoneIs b w (finish_plain w.store recv a)
    plain_is plain.Nil = done_gives b w fine Nil tt
    plain_is (plain.Truth c) = done_gives b w fine (truth c) (truth_is (census w.store) c)
    plain_is (plain.Int z) = done_gives b w fine (Int z) tt
    plain_is plain.Receiver = done_gives b w fine recv is
    plain_is (plain.Text bytes) = done_makes_text b w fine bytes
    plain_is (plain.Symbol name) = done_gives_in b w fine (intern w.store name).store (Sym (intern w.store name).symbol)
        (keeps_interned b w fine name) (interned_symbol w.store name)
    plain_is (plain.Texts texts) = texts_made texts
    plain_is (plain.Numbers zs) =
        done_makes_items b w fine (map Int zs) (splatting.integers_are (census w.store) zs)
    plain_is (plain.Append more) = appended_is more
    plain_is (plain.Replace bytes) = rewritten_is bytes recv is
    plain_is (plain.Fail f) = done_fails b w fine (cause_of f) (fault_is (census w.store) f)

    -- what an answer that belongs to the store gives and leaves
    pub finish_is : (a : Answer) → SoundAnswer (census w.store) a → DoneIs b w (finish w.store recv a)
    finish_is (answer.Plain a) h = plain_is a
    finish_is (answer.Value x) h = done_gives b w fine x h
    finish_is (answer.Items xs) h = done_makes_items b w fine xs h
    finish_is (answer.Range c r) h = done_makes b w fine (fresh c (kind.Range r))
        (record { class = h; singleton = tt; variables = tt; kind = tt }) tt
    finish_is (answer.String c bytes) h = done_makes b w fine (fresh c (kind.String bytes))
        (record { class = h; singleton = tt; variables = tt; kind = tt }) tt
    finish_is (answer.Put bytes x) h = rewritten_is bytes x h
    finish_is (answer.Push more) h = pushed_is more h
    finish_is (answer.Replace xs) h = replaced_is xs h
    finish_is (answer.Fail c) h = done_fails b w fine c h

  refused_is : (o : Option Cause) (a : Answer) → IfSome o (SoundCause (census w.store)) → SoundAnswer (census w.store) a
      → SoundAnswer (census w.store) (answer_of o a)
  refused_is None a h g = g
  refused_is (Some c) a h g = h

  line_is : (o : Option Line) (recv : Value) (args : List Value) (block : Option ObjId)
      → IsValue (census w.store) recv → AllAre (IsValue (census w.store)) args
      → DoneIs b w (by_line o recv args block w.store)
  unfolding called
  line_is None recv args block is all = done_gives b w fine Nil tt
  line_is (Some line) recv args block is all =
      finish_is recv is
      (answer_of (check line.signature w.store.objects recv args block) (row_gives line.row w.store recv args))
      (refused_is (check line.signature w.store.objects recv args block) (row_gives line.row w.store recv args)
      (check_sound w.store fine.store line.signature recv args block (is, all))
      (gives_belongs w.store line.row recv args fine.store (is, all)))

  -- the row of each number
  pub prim_is : (row : ℕ) (recv : Value) (args : List Value) (block : Option ObjId) → IsValue (census w.store) recv
      → AllAre (IsValue (census w.store)) args → DoneIs b w (prim row recv args block w.store)
  unfolding prim
  prim_is row recv args block is all = line_is (line_at row) recv args block is all

  pub make_range_is : (x y : Value) (exclusive : Bool) → AnswerIs b w (make_range w x y exclusive)
  unfolding make_range
  make_range_is x y exclusive = answers_done b w fine _ (finish_is Nil tt _
      (made_sound w.store fine.store exclusive (kept_ends (item_of w.store.objects x) (item_of w.store.objects y))))
