-- `step` of a Range of bytes; and walks over such Ranges, left.
use Rattle.std.proofs.Common.{◌≡◌, ℕ, suc, ◌<◌, ◌≤◌, ◌+◌, ◌-◌, ◌^◌, refl, sym, ap, subst, ◌∙◌, List, [], ◌∷◌, ◌++◌, length, arith, lt-ltb, ltb-true, ltb-false}
use Rattle.std.specs.Prelude.{ℤ, pos, negsuc, int_lt, map, nat_lt, option_map, Bool, true, false, if◌then◌else◌, Option, Some, None, Ok}
use Rattle.rb_value.specs.declared.value.Value.{Value}
use Rattle.rb_value.specs.declared.value.Value.TheVariants.{Nil, Obj}
use Rattle.rb_value.specs.declared.value.ObjId.{ObjId}
use Rattle.rb_value.specs.declared.kind.RangeContents.{RangeContents}
use Rattle.rb_value.specs.declared.core_class.CoreClass.TheVariants as class
use Rattle.rb_integer.specs.Exact.{fits}
use Rattle.def_core.specs.Store.{next_number}
use Rattle.def_calls.specs.Views.{kind_in}
use Rattle.rb_store.specs.Held.{Held}
use Rattle.heap.specs.Reading.{range_in}
use Rattle.core_calls.specs.Checks.{integer}
use Rattle.core_calls.specs.declared.beat.Beat.{Beat}
use Rattle.def_plans.specs.Plan.{Planned, gives, wanted}
use Rattle.iter_items.specs.Sources.{byte_of}
use Rattle.run_rows.specs.declared.row.StarRow.TheVariants as row
use Rattle.run_rows.specs.declared.row.VisitRow.TheVariants as visit
use Rattle.core_iter.specs.declared.counting.Count.{Count}
use Rattle.core_iter.specs.declared.iteration.Iteration.TheVariants as state
use Rattle.core_iter.specs.Counting as counting
use Rattle.core_iter.specs.Sending.{Beaten, goes_on, with_one}
use Rattle.core_iter.specs.Stage.{Stage}
use Rattle.items_laws.specs.Beginning.{IsBeginning, Leaves}
use Rattle.items_laws.specs.ByteSteps.{StepsOnBytes}
use Rattle.items_laws.specs.Items.{IsValue, call_of, calls_of, last_heap}
use Rattle.items_laws.specs.Numbers.{is_past, numbers_from}
use Rattle.items_laws.specs.Read.{heaps_before}
use Rattle.items_laws.specs.Run.{Turn, Runs, Gives, waiting}
use Rattle.items_laws.specs.Texts.{HandsOnBytes, bytes_before, bytes_to, texts_made}
use Rattle.items_laws.proofs.Beginning.{Begun, Finite, begun_walk, cut_from, is_beginning, to_the_end}
use Rattle.items_laws.proofs.ByteRanges.{byte_course, bytes_go, one_less, over_bytes, text_with}
use Rattle.items_laws.proofs.Counting.{due_is, none_before, past_over, unfit_over}
use Rattle.items_laws.proofs.Course.{given}
use Rattle.items_laws.proofs.Small.{none_some, some_none}
use Rattle.items_laws.proofs.Stepped.{begun_so}
use Rattle.items_laws.proofs.Walks.{Called, Done, Walks, one_same, walks}

-- from a byte on, where there is one, to the last one by steps
abbrev stepping : Value → ObjId → Option ℤ → ℕ → ℕ → Count
stepping recv b o last m =
    record { next = o; last = pos last; by = pos m; of_bytes = true; block = b; gives = recv }

-- steps that go up
abbrev Up : ℕ → Type 0
Up m = int_lt (pos 0) (pos m) ≡ true

past_is : (last m n : ℕ) → Up m → is_past (pos last) (pos m) (pos n) ≡ nat_lt last n
past_is last m n up = ap (λ (c : Bool). if c then int_lt (pos last) (pos n) else int_lt (pos n) (pos last)) up

no_further : (last m n : ℕ) → Up m → is_past (pos last) (pos m) (pos n) ≡ false → n ≤ last
no_further last m n up e = ltb-false last n (sym (past_is last m n up) ∙ e)

-- what comes where a byte is due

abbrev next_beat : Held → Value → ObjId → ℕ → ℕ → ℕ → Beaten Count
next_beat held recv b n last m = record {
  beat = Some (with_one b (Obj (next_number held.store)));
  state = stepping recv b (counting.within (pos (n + m))) last m;
  held = text_with held n;
}

abbrev shown_if : Held → Value → ObjId → ℕ → ℕ → ℕ → Bool → Beaten Count
shown_if held recv b n last m c = counting.beat_of (stepping recv b (Some (pos n)) last m) (pos n) (if c
    then record { value = Obj (next_number held.store); held = text_with held n }
    else record { value = Nil; held = held })

beats : (held : Held) (recv : Value) (b : ObjId) (n last m : ℕ) → last < 256 → Up m
    → is_past (pos last) (pos m) (pos n) ≡ false
    → counting.count_beat held (stepping recv b (Some (pos n)) last m) ≡ next_beat held recv b n last m
beats held recv b n last m small up e =
    ap (λ (o : Option ℤ). counting.beat_by held (stepping recv b (Some (pos n)) last m) o)
    (due_is (stepping recv b (Some (pos n)) last m) (pos n) false refl e)
    ∙ ap (λ (c : Bool). shown_if held recv b n last m c)
    (lt-ltb n 256 (within_bytes n last (no_further last m n up e) small))
  where
    within_bytes : (n last : ℕ) → n ≤ last → last < 256 → n < 256
    within_bytes n last most small = omega (arith, most, small)

none_due : (held : Held) (recv : Value) (b : ObjId) (n last m : ℕ) → is_past (pos last) (pos m) (pos n) ≡ true
    → counting.count_beat held (stepping recv b (Some (pos n)) last m)
    ≡ record { beat = None; state = stepping recv b (Some (pos n)) last m; held = held }
none_due held recv b n last m e =
    ap (λ (o : Option ℤ). counting.beat_by held (stepping recv b (Some (pos n)) last m) o)
    (due_is (stepping recv b (Some (pos n)) last m) (pos n) true refl e)

-- The bytes of a walk.

abbrev StepsBy : Option ℕ → Held → ObjId → ℕ → ℕ → List Turn → Type 0
StepsBy None held b last m ts = ts ≡ []
StepsBy (Some n) held b last m ts = StepsOnBytes held (pos n) (pos last) (pos m) b ts

abbrev StepRest : List Turn → Value → Held → Type 0
StepRest ts r after = (held : Held) (recv : Value) (b : ObjId) (o : Option ℕ) (last m : ℕ) → last < 256 → Up m
    → Walks over_bytes ts held (stepping recv b (option_map pos o) last m) r after
    → StepsBy o held b last m ts × IsValue (last_heap held ts) recv r after

end_by : (held : Held) (recv : Value) (b : ObjId) (n last m : ℕ) (r : Value) (after : Held) (p : Bool) → last < 256
    → Up m → is_past (pos last) (pos m) (pos n) ≡ p
    → Done over_bytes held (stepping recv b (Some (pos n)) last m) r after
    → StepsOnBytes held (pos n) (pos last) (pos m) b [] × IsValue held recv r after
end_by held recv b n last m r after true small up past d = (
  record { called = refl; made = refl; within = refl; over = past_over (pos last) (pos m) (pos n) past },
  record { value = d.value; left = d.left ∙ ap (λ (x : Beaten Count). x.held) (none_due held recv b n last m past) },
)
end_by held recv b n last m r after false small up past d =
    absurd (some_none (with_one b (Obj (next_number held.store)))
    (sym (ap (λ (x : Beaten Count). x.beat) (beats held recv b n last m small up past)) ∙ d.none))

step_end : (held : Held) (recv : Value) (b : ObjId) (o : Option ℕ) (last m : ℕ) (r : Value) (after : Held) → last < 256
    → Up m → Done over_bytes held (stepping recv b (option_map pos o) last m) r after
    → StepsBy o held b last m [] × IsValue held recv r after
step_end held recv b None last m r after small up d = (refl, record { value = d.value; left = d.left })
step_end held recv b (Some n) last m r after small up d =
    end_by held recv b n last m r after (is_past (pos last) (pos m) (pos n)) small up refl d

byte_is : (n : ℕ) → n < 256 → byte_of (pos n) ≡ n
byte_is n small = ap (λ (c : Bool). if c then n else 0) (lt-ltb n 256 small)

-- with a byte before those of the other turns
one_byte : (held : Held) (b : ObjId) (n last m : ℕ) (t : Turn) (ts : List Turn) → n < 256
    → is_past (pos last) (pos m) (pos n) ≡ false
    → call_of t.wanted.plan ≡ Some (b, Obj (next_number held.store) ∷ []) → t.wanted.held ≡ text_with held n
    → StepsOnBytes t.held (pos (n + m)) (pos last) (pos m) b ts
    → StepsOnBytes held (pos n) (pos last) (pos m) b (t ∷ ts)
one_byte held b n last m t ts small before call asked rest = record {
  called = ap (λ (x : Option (ObjId × List Value)). x ∷ calls_of ts) call
      ∙ ap (λ (xs : List (Option (ObjId × List Value))). Some (b, Obj (next_number held.store) ∷ []) ∷ xs) rest.called;
  made = ap (λ (h : Held). h ∷ map (λ t. t.wanted.held) ts) asked
      ∙ ap (λ (hs : List Held). text_with held n ∷ hs) rest.made
      ∙ ap (λ (k : ℕ). text_with held k ∷ texts_made
      (map (λ z. byte_of z ∷ []) (numbers_from (pos (n + m)) (pos m) (length ts))) (heaps_before t.held ts))
      (sym (byte_is n small));
  within = none_before (pos last) (pos m) (pos n) (numbers_from (pos (n + m)) (pos m) (length ts)) before rest.within;
  over = rest.over;
}

alone_byte : (held : Held) (b : ObjId) (n last m : ℕ) (t : Turn) → n < 256
    → is_past (pos last) (pos m) (pos n) ≡ false → fits (pos (n + m)) ≡ false
    → call_of t.wanted.plan ≡ Some (b, Obj (next_number held.store) ∷ []) → t.wanted.held ≡ text_with held n
    → StepsOnBytes held (pos n) (pos last) (pos m) b (t ∷ [])
alone_byte held b n last m t small before unfit call asked = record {
  called = ap (λ (x : Option (ObjId × List Value)). x ∷ []) call;
  made = ap (λ (h : Held). h ∷ []) asked ∙ ap (λ (k : ℕ). text_with held k ∷ []) (sym (byte_is n small));
  within = none_before (pos last) (pos m) (pos n) [] before refl;
  over = unfit_over (pos last) (pos m) (pos (n + m)) unfit;
}

turn_on : (held : Held) (recv : Value) (b : ObjId) (n last m : ℕ) (t : Turn) (ts : List Turn) (r : Value) (after : Held)
    (f : Bool) → last < 256 → Up m → n < 256 → is_past (pos last) (pos m) (pos n) ≡ false → StepRest ts r after
    → call_of t.wanted.plan ≡ Some (b, Obj (next_number held.store) ∷ []) → t.wanted.held ≡ text_with held n
    → fits (pos (n + m)) ≡ f
    → Walks over_bytes ts t.held (stepping recv b (if f then Some (pos (n + m)) else None) last m) r after
    → StepsOnBytes held (pos n) (pos last) (pos m) b (t ∷ ts) × IsValue (last_heap t.held ts) recv r after
turn_on held recv b n last m t ts r after true small up byte before rest call asked fit walk =
    let more = rest t.held recv b (Some (n + m)) last m small up walk in
    (one_byte held b n last m t ts byte before call asked more.0, more.1)
turn_on held recv b n last m t ts r after false small up byte before rest call asked fit walk =
    let more = rest t.held recv b None last m small up walk in (
      subst (λ (us : List Turn). StepsOnBytes held (pos n) (pos last) (pos m) b (t ∷ us)) (sym more.0)
          (alone_byte held b n last m t byte before fit call asked),
      more.1,
    )

turn_by : (held : Held) (recv : Value) (b : ObjId) (n last m : ℕ) (t : Turn) (ts : List Turn) (r : Value) (after : Held)
    (p : Bool) → last < 256 → Up m → is_past (pos last) (pos m) (pos n) ≡ p → StepRest ts r after
    → Called over_bytes held (stepping recv b (Some (pos n)) last m) t (Walks over_bytes ts t.held
    (counting.count_beat held (stepping recv b (Some (pos n)) last m)).state r after)
    → StepsOnBytes held (pos n) (pos last) (pos m) b (t ∷ ts) × IsValue (last_heap t.held ts) recv r after
turn_by held recv b n last m t ts r after true small up past rest k = absurd (none_some k.call
    (sym (ap (λ (x : Beaten Count). x.beat) (none_due held recv b n last m past)) ∙ k.there))
turn_by held recv b n last m t ts r after false small up past rest k =
    let seen = beats held recv b n last m small up past in
    let call = sym (ap (λ (x : Beaten Count). x.beat) seen) ∙ k.there in
    turn_on held recv b n last m t ts r after (fits (pos (n + m))) small up
    (byte_within n last (no_further last m n up past) small) past rest
    (k.called ∙ one_same b (Obj (next_number held.store)) k.call call) (k.asked ∙ ap (λ (x : Beaten Count). x.held) seen)
    refl (subst (λ (x : Beaten Count). Walks over_bytes ts t.held x.state r after) seen k.rest)
  where
    byte_within : (n last : ℕ) → n ≤ last → last < 256 → n < 256
    byte_within n last most small = omega (arith, most, small)

step_turn : (held : Held) (recv : Value) (b : ObjId) (o : Option ℕ) (last m : ℕ) (t : Turn) (ts : List Turn) (r : Value)
    (after : Held) → last < 256 → Up m → StepRest ts r after
    → Called over_bytes held (stepping recv b (option_map pos o) last m) t (Walks over_bytes ts t.held
    (counting.count_beat held (stepping recv b (option_map pos o) last m)).state r after)
    → StepsBy o held b last m (t ∷ ts) × IsValue (last_heap t.held ts) recv r after
step_turn held recv b None last m t ts r after small up rest k = absurd (none_some k.call k.there)
step_turn held recv b (Some n) last m t ts r after small up rest k =
    turn_by held recv b n last m t ts r after (is_past (pos last) (pos m) (pos n)) small up refl rest k

step_course : (ts : List Turn) (r : Value) (after : Held) → StepRest ts r after
step_course [] r after = λ held recv b o last m small up d. step_end held recv b o last m r after small up d
step_course (t ∷ ts) r after = λ held recv b o last m small up k.
    step_turn held recv b o last m t ts r after small up (step_course ts r after) k

-- How the methods begin.

abbrev before_by : Value → ObjId → ℕ → ℕ → ℤ → Option ℤ → Count
before_by recv b a z by o = counting.before_end (counting.up_to_end (bytes_before a z) recv b by) o

ends_before : (recv : Value) (b : ObjId) (a z m : ℕ) → z < 2 ^ 63
    → counting.numbers_of (bytes_before a (suc z)) recv b (pos m) ≡ stepping recv b (Some (pos a)) z m
ends_before recv b a z m small =
    ap (λ (n : ℤ). before_by recv b a (suc z) (pos m) (counting.within n)) (one_less z)
    ∙ ap (λ (c : Bool). before_by recv b a (suc z) (pos m) (if c then Some (pos z) else None)) (lt-ltb z (2 ^ 63) small)

still_small : (z : ℕ) → z < 256 → z < 2 ^ 63
still_small z small = omega (arith, small)

first_before : (held : Held) (recv size : Value) (a z m : ℕ) (b : ObjId) → z < 256
    → range_in (kind_in held.store.objects recv) ≡ Some (bytes_before a (suc z))
    → integer held.store size ≡ Ok (pos m) → Up m
    → counting.begin_range_step held recv (size ∷ []) b ≡ counting.count_next held (stepping recv b (Some (pos a)) z m)
first_before held recv size a z m b small is sized up = begun_so held (bytes_before a (suc z)) recv size (pos m) b is sized up
    ∙ ap (counting.count_next held) (ends_before recv b a z m (still_small z small))

stepped_from : (held after : Held) (recv v : Value) (a z m : ℕ) (b : ObjId) (first : Planned Stage) (ts : List Turn)
    → z < 256 → Up m → first ≡ counting.count_next held (stepping recv b (Some (pos a)) z m)
    → Runs first ts (gives after v)
    → StepsOnBytes held (pos a) (pos z) (pos m) b ts × IsValue (last_heap held ts) recv v after
stepped_from held after recv v a z m b first ts small up begins runs =
    step_course ts v after held recv b (Some a) z m small up
    (walks over_bytes bytes_go ts held (stepping recv b (Some (pos a)) z m) v after tt
    (subst (λ (q : Planned Stage). Runs q ts (gives after v)) begins runs))

pub bytes_stepped : (held after : Held) (recv size v : Value) (a z : ℕ) (by : ℤ) (b : ObjId) (ts : List Turn) → z < 256
    → range_in (kind_in held.store.objects recv) ≡ Some (bytes_to a z)
    → integer held.store size ≡ Ok by → int_lt (pos 0) by ≡ true
    → Gives (row.Visit visit.StepOfRange) held recv (size ∷ []) (Some b) ts v after
    → StepsOnBytes held (pos a) (pos z) by b ts × IsValue (last_heap held ts) recv v after
bytes_stepped held after recv size v a z (pos m) b ts small is sized up run =
    stepped_from held after recv v a z m b run.first ts small up
    (run.starts ∙ begun_so held (bytes_to a z) recv size (pos m) b is sized up) run.runs
bytes_stepped held after recv size v a z (negsuc m) b ts small is sized up run = absurd (cc)

pub bytes_stepped_before : (held after : Held) (recv size v : Value) (a z : ℕ) (by : ℤ) (b : ObjId) (ts : List Turn)
    → z < 256 → range_in (kind_in held.store.objects recv) ≡ Some (bytes_before a (suc z))
    → integer held.store size ≡ Ok by → int_lt (pos 0) by ≡ true
    → Gives (row.Visit visit.StepOfRange) held recv (size ∷ []) (Some b) ts v after
    → StepsOnBytes held (pos a) (pos z) by b ts × IsValue (last_heap held ts) recv v after
bytes_stepped_before held after recv size v a z (pos m) b ts small is sized up run =
    stepped_from held after recv v a z m b run.first ts small up
    (run.starts ∙ first_before held recv size a z m b small is sized up) run.runs
bytes_stepped_before held after recv size v a z (negsuc m) b ts small is sized up run = absurd (cc)

-- where the last end is the first byte of all there is none before it

pub none_before_first : (held : Held) (recv : Value) (b : ObjId) (a : ℕ) (by : ℤ) → int_lt (pos 0) by ≡ true
    → counting.count_next held (counting.numbers_of (bytes_before a 0) recv b by) ≡ gives held recv
none_before_first held recv b a by up =
    let c = counting.numbers_of (bytes_before a 0) recv b by in
    ap (λ (o : Option ℤ). goes_on (λ x. state.Counting x) recv (counting.beat_by held c o))
    (due_is c (pos a) true refl (ap (λ (d : Bool). if d then int_lt (negsuc 0) (pos a) else int_lt (pos a) (negsuc 0)) up))

pub no_byte_stepped : (held after : Held) (recv size v : Value) (a : ℕ) (by : ℤ) (b : ObjId) (ts : List Turn)
    → range_in (kind_in held.store.objects recv) ≡ Some (bytes_before a 0)
    → integer held.store size ≡ Ok by → int_lt (pos 0) by ≡ true
    → Gives (row.Visit visit.StepOfRange) held recv (size ∷ []) (Some b) ts v after
    → (ts ≡ []) × IsValue held recv v after
no_byte_stepped held after recv size v a by b ts is sized up run =
    let end = given ts held recv v after (subst (λ (q : Planned Stage). Runs q ts (gives after v))
    (run.starts ∙ begun_so held (bytes_before a 0) recv size by b is sized up ∙ none_before_first held recv b a by up)
    run.runs) in
    (end.0, record { value = end.1; left = end.2 })

-- Fewer and fewer bytes are left.

record Steps (c : Count) : Type 0 where
  recv : Value
  block : ObjId
  from : Option ℕ
  last : ℕ
  steps : ℕ
  same : c ≡ stepping recv block (option_map pos from) last steps
  small : last < 256
  up : Up steps

abbrev left_by : Option ℤ → ℤ → ℕ
left_by None z = 0
left_by (Some (pos n)) (pos z) = suc z - n
left_by (Some (pos n)) (negsuc z) = 0
left_by (Some (negsuc n)) z = 0

abbrev left_of : Count → ℕ
left_of c = left_by c.next c.last

within_steps : (recv : Value) (b : ObjId) (n last m : ℕ) (f : Bool) → last < 256 → Up m
    → Steps (stepping recv b (if f then Some (pos n) else None) last m)
within_steps recv b n last m true small up = record {
  recv = recv;
  block = b;
  from = Some n;
  last = last;
  steps = m;
  same = refl;
  small = small;
  up = up;
}
within_steps recv b n last m false small up = record {
  recv = recv;
  block = b;
  from = None;
  last = last;
  steps = m;
  same = refl;
  small = small;
  up = up;
}

steps_by : (held : Held) (recv : Value) (b : ObjId) (n last m : ℕ) (p : Bool) → last < 256 → Up m
    → is_past (pos last) (pos m) (pos n) ≡ p
    → Steps (counting.count_beat held (stepping recv b (Some (pos n)) last m)).state
steps_by held recv b n last m true small up past = subst (λ (x : Beaten Count). Steps x.state)
    (sym (none_due held recv b n last m past)) (within_steps recv b n last m true small up)
steps_by held recv b n last m false small up past = subst (λ (x : Beaten Count). Steps x.state)
    (sym (beats held recv b n last m small up past)) (within_steps recv b (n + m) last m (fits (pos (n + m))) small up)

steps_at : (held : Held) (recv : Value) (b : ObjId) (o : Option ℕ) (last m : ℕ) → last < 256 → Up m
    → Steps (counting.count_beat held (stepping recv b (option_map pos o) last m)).state
steps_at held recv b None last m small up = within_steps recv b 0 last m false small up
steps_at held recv b (Some n) last m small up =
    steps_by held recv b n last m (is_past (pos last) (pos m) (pos n)) small up refl

above_zero : (m : ℕ) → Up m → 0 < m
above_zero m up = ltb-true 0 m up

fewer_if : (recv : Value) (b : ObjId) (n last m : ℕ) (f : Bool) → n ≤ last → 0 < m
    → suc (left_of (stepping recv b (if f then Some (pos (n + m)) else None) last m)) ≤ suc last - n
fewer_if recv b n last m true most some = omega (arith, most, some)
fewer_if recv b n last m false most some = omega (arith, most)

fewer_by : (held : Held) (recv : Value) (b : ObjId) (n last m : ℕ) (c : Beat) (p : Bool) → last < 256 → Up m
    → is_past (pos last) (pos m) (pos n) ≡ p
    → (counting.count_beat held (stepping recv b (Some (pos n)) last m)).beat ≡ Some c
    → suc (left_of (counting.count_beat held (stepping recv b (Some (pos n)) last m)).state) ≤ suc last - n
fewer_by held recv b n last m c true small up past there =
    absurd (none_some c (sym (ap (λ (x : Beaten Count). x.beat) (none_due held recv b n last m past)) ∙ there))
fewer_by held recv b n last m c false small up past there =
    subst (λ (x : Beaten Count). suc (left_of x.state) ≤ suc last - n) (sym (beats held recv b n last m small up past))
    (fewer_if recv b n last m (fits (pos (n + m))) (no_further last m n up past) (above_zero m up))

fewer_at : (held : Held) (recv : Value) (b : ObjId) (o : Option ℕ) (last m : ℕ) (c : Beat) → last < 256 → Up m
    → (counting.count_beat held (stepping recv b (option_map pos o) last m)).beat ≡ Some c
    → suc (left_of (counting.count_beat held (stepping recv b (option_map pos o) last m)).state)
    ≤ left_of (stepping recv b (option_map pos o) last m)
fewer_at held recv b None last m c small up there = absurd (none_some c there)
fewer_at held recv b (Some n) last m c small up there =
    fewer_by held recv b n last m c (is_past (pos last) (pos m) (pos n)) small up refl there

abbrev finite : Finite over_bytes
finite = record {
  holds = λ c. Steps c;
  left = left_of;
  stays = λ held h c a s. subst (λ (x : Count). Steps (counting.count_beat held x).state) (sym s.same)
      (steps_at held s.recv s.block s.from s.last s.steps s.small s.up);
  fewer = λ held h c a k s there.
      subst (λ (x : Count). suc (left_of (counting.count_beat held x).state) ≤ left_of x) (sym s.same)
      (fewer_at held s.recv s.block s.from s.last s.steps k s.small s.up
      (subst (λ (x : Count). (counting.count_beat held x).beat ≡ Some k) s.same there));
}

begun_from : (held : Held) (recv : Value) (a z m : ℕ) (b : ObjId) (ts : List Turn) (first last : Planned Stage)
    (stage : Stage) → z < 256 → Up m → waiting last.plan ≡ Some stage
    → first ≡ counting.count_next held (stepping recv b (Some (pos a)) z m) → Runs first ts last
    → Begun over_bytes ts held (stepping recv b (Some (pos a)) z m) last
begun_from held recv a z m b ts first last stage small up waits begins runs =
    let c = stepping recv b (Some (pos a)) z m in
    begun_walk over_bytes (to_the_end over_bytes finite) ts held c last (within_steps recv b a z m true small up)
    (cut_from over_bytes bytes_go held c ts first last stage tt waits begins runs)

abbrev StepsAll : Held → Value → ℕ → ℕ → ℤ → ObjId → List Turn → Value → Held → Type 0
StepsAll held recv a z by b us v after =
    StepsOnBytes held (pos a) (pos z) by b us × IsValue (last_heap held us) recv v after

steps_begun : (held : Held) (recv : Value) (a z m : ℕ) (b : ObjId) (ts : List Turn) (first last : Planned Stage)
    (stage : Stage) → z < 256 → Up m → waiting last.plan ≡ Some stage
    → first ≡ counting.count_next held (stepping recv b (Some (pos a)) z m) → Runs first ts last
    → IsBeginning (StepsAll held recv a z (pos m) b) ts last
steps_begun held recv a z m b ts first last stage small up waits begins runs =
    let c = stepping recv b (Some (pos a)) z m in
    let g = begun_from held recv a z m b ts first last stage small up waits begins runs in
    is_beginning over_bytes (StepsAll held recv a z (pos m) b) ts held c last g
    (step_course (ts ++ g.turn ∷ g.further) g.value g.after held recv b (Some a) z m small up g.walk)

pub steps_left : (held : Held) (recv size : Value) (a z : ℕ) (by : ℤ) (b : ObjId) (ts : List Turn)
    (last : Planned Stage) → z < 256 → range_in (kind_in held.store.objects recv) ≡ Some (bytes_to a z)
    → integer held.store size ≡ Ok by → int_lt (pos 0) by ≡ true
    → Leaves (row.Visit visit.StepOfRange) held recv (size ∷ []) (Some b) ts last
    → IsBeginning (λ us v after. StepsOnBytes held (pos a) (pos z) by b us × IsValue (last_heap held us) recv v after) ts
    last
steps_left held recv size a z (pos m) b ts last small is sized up run =
    steps_begun held recv a z m b ts run.first last run.stage small up run.waits
    (run.starts ∙ begun_so held (bytes_to a z) recv size (pos m) b is sized up) run.runs
steps_left held recv size a z (negsuc m) b ts last small is sized up run = absurd (cc)

pub steps_left_before : (held : Held) (recv size : Value) (a z : ℕ) (by : ℤ) (b : ObjId) (ts : List Turn)
    (last : Planned Stage) → z < 256 → range_in (kind_in held.store.objects recv) ≡ Some (bytes_before a (suc z))
    → integer held.store size ≡ Ok by → int_lt (pos 0) by ≡ true
    → Leaves (row.Visit visit.StepOfRange) held recv (size ∷ []) (Some b) ts last
    → IsBeginning (λ us v after. StepsOnBytes held (pos a) (pos z) by b us × IsValue (last_heap held us) recv v after) ts
    last
steps_left_before held recv size a z (pos m) b ts last small is sized up run =
    steps_begun held recv a z m b ts run.first last run.stage small up run.waits
    (run.starts ∙ first_before held recv size a z m b small is sized up) run.runs
steps_left_before held recv size a z (negsuc m) b ts last small is sized up run = absurd (cc)

-- `each`

each_begun : (held : Held) (recv : Value) (a z : ℕ) (b : ObjId) (ts : List Turn) (first last : Planned Stage)
    (stage : Stage) → z < 256 → waiting last.plan ≡ Some stage
    → first ≡ counting.count_next held (stepping recv b (Some (pos a)) z 1) → Runs first ts last
    → IsBeginning (λ us v after. HandsOnBytes held a z b us recv v after) ts last
each_begun held recv a z b ts first last stage small waits begins runs =
    let c = stepping recv b (Some (pos a)) z 1 in
    let g = begun_from held recv a z 1 b ts first last stage small refl waits begins runs in
    is_beginning over_bytes (λ us v after. HandsOnBytes held a z b us recv v after) ts held c last g
    (byte_course (ts ++ g.turn ∷ g.further) g.value g.after held recv b a z small g.walk)

pub each_left : (held : Held) (recv : Value) (a z : ℕ) (b : ObjId) (ts : List Turn) (last : Planned Stage) → z < 256
    → range_in (kind_in held.store.objects recv) ≡ Some (bytes_to a z)
    → Leaves (row.Visit visit.EachOfRange) held recv [] (Some b) ts last
    → IsBeginning (λ us v after. HandsOnBytes held a z b us recv v after) ts last
each_left held recv a z b ts last small is run =
    each_begun held recv a z b ts run.first last run.stage small run.waits
    (run.starts ∙ ap (λ (o : Option RangeContents). wanted held class.Range recv o
    (λ r. counting.count_next held (counting.numbers_of r recv b (pos 1)))) is) run.runs

pub each_left_before : (held : Held) (recv : Value) (a z : ℕ) (b : ObjId) (ts : List Turn) (last : Planned Stage)
    → z < 256 → range_in (kind_in held.store.objects recv) ≡ Some (bytes_before a (suc z))
    → Leaves (row.Visit visit.EachOfRange) held recv [] (Some b) ts last
    → IsBeginning (λ us v after. HandsOnBytes held a z b us recv v after) ts last
each_left_before held recv a z b ts last small is run =
    each_begun held recv a z b ts run.first last run.stage small run.waits
    (run.starts ∙ ap (λ (o : Option RangeContents). wanted held class.Range recv o
    (λ r. counting.count_next held (counting.numbers_of r recv b (pos 1)))) is
    ∙ ap (counting.count_next held) (ends_before recv b a z 1 (still_small z small))) run.runs
