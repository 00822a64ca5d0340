-- Numbers that a block is called with.
use Rattle.std.proofs.Common.{◌≡◌, refl, sym, ap, subst, ◌∙◌, List, [], ◌∷◌, length}
use Rattle.std.specs.Prelude.{ℤ, pos, negsuc, ◌-ℤ◌, ◌+ℤ◌, Bool, true, false, if◌then◌else◌, Option, Some, None, Result, Ok}
use Rattle.rb_value.specs.declared.value.Value.{Value}
use Rattle.rb_value.specs.declared.value.Value.TheVariants.{Int}
use Rattle.rb_value.specs.declared.value.ObjId.{ObjId}
use Rattle.rb_value.specs.declared.kind.RangeContents.{RangeContents}
use Rattle.rb_value.specs.declared.core_class.CoreClass.TheVariants as class
use Rattle.rb_integer.specs.Exact.{fits}
use Rattle.def_core.specs.declared.cause.Cause.{Cause}
use Rattle.def_calls.specs.Views.{kind_in}
use Rattle.rb_store.specs.Held.{Held}
use Rattle.heap.specs.Reading.{range_in}
use Rattle.core_calls.specs.Checks.{integer}
use Rattle.def_plans.specs.Plan.{Planned, gives, wanted}
use Rattle.rows_items.specs.Told.{and_then}
use Rattle.run_rows.specs.declared.row.StarRow.TheVariants as row
use Rattle.run_rows.specs.declared.row.VisitRow.TheVariants as visit
use Rattle.core_iter.specs.declared.counting.Count.{Count}
use Rattle.core_iter.specs.declared.iteration.Iteration.TheVariants as state
use Rattle.core_iter.specs.Counting as counting
use Rattle.core_iter.specs.Sending.{with_one}
use Rattle.core_iter.specs.Stage.{Stage}
use Rattle.items_laws.specs.Run.{Turn, Runs, Gives}
use Rattle.items_laws.specs.Items.{IsValue, call_of, calls_of, last_heap}
use Rattle.items_laws.specs.Numbers.{Counts, numbers_from, is_past, any_past, is_over, integers}
use Rattle.items_laws.proofs.Walks.{Walk, as_left, Walks, Called, Done, Goes, walks, one_same}
use Rattle.items_laws.proofs.Small.{none_some, some_none}

abbrev pub counting_up : Walk Count
counting_up = record {
  fits = λ c. c.of_bytes ≡ false;
  as_state = λ c. state.Counting c;
  beat = λ held c. counting.count_beat held c;
  later = λ held c a. c;
  left = as_left;
  ending = λ c. c.gives;
}

stays_by : (held : Held) (c : Count) (o : Option ℤ) → c.of_bytes ≡ false
    → (counting.beat_by held c o).state.of_bytes ≡ false
stays_by held c None same = same
stays_by held c (Some z) same = same

pub counting_goes : Goes counting_up
counting_goes = record {
  goes = λ h c a p same e. e;
  beats = λ h c same. stays_by h c (counting.due c) same;
  later = λ h c a same. same;
}

-- which number is due

abbrev due_of : Bool → ℤ → Option ℤ
due_of true z = None
due_of false z = Some z

pub due_is : (c : Count) (z : ℤ) (d : Bool) → c.next ≡ Some z → is_past c.last c.by z ≡ d → counting.due c ≡ due_of d z
due_is c z d there past = ap (λ (o : Option ℤ). counting.due_by c o) there ∙ by_past d past
  where
    by_past : (d : Bool) → is_past c.last c.by z ≡ d
        → (if is_past c.last c.by z then None else Some z) ≡ due_of d z
    by_past true past = rw past refl
    by_past false past = rw past refl

-- one that is past is over
pub past_over : (last by z : ℤ) → is_past last by z ≡ true → is_over last by z ≡ true
past_over last by z past = over_by (fits z)
  where
    over_by : (f : Bool) → (if f then is_past last by z else true) ≡ true
    over_by true = past
    over_by false = refl

pub unfit_over : (last by z : ℤ) → fits z ≡ false → is_over last by z ≡ true
unfit_over last by z unfit = rw unfit refl

pub none_before : (last by z : ℤ) (zs : List ℤ) → is_past last by z ≡ false → any_past last by zs ≡ false
    → any_past last by (z ∷ zs) ≡ false
none_before last by z zs before none = rw before none

-- the numbers of a walk

abbrev CountedBy : Option ℤ → Count → List Turn → Type 0
CountedBy None c ts = ts ≡ []
CountedBy (Some z) c ts = Counts z c.last c.by c.block ts

abbrev CountRest : List Turn → Value → Held → Type 0
CountRest ts r after = (held : Held) (c : Count) → c.of_bytes ≡ false → Walks counting_up ts held c r after
    → CountedBy c.next c ts × IsValue (last_heap held ts) c.gives r after

-- none is due

none_due : (held : Held) (c : Count) (r : Value) (after : Held) → counting.due c ≡ None → Done counting_up held c r after
    → IsValue held c.gives r after
none_due held c r after none d = record {
  value = d.value;
  left = d.left ∙ ap (λ (o : Option ℤ). (counting.beat_by held c o).held) none;
}

pub no_call : (held : Held) (c : Count) (t : Turn) (Rest : Type 0) → counting.due c ≡ None
    → Called counting_up held c t Rest → ⊥
no_call held c t Rest none k = none_some k.call
    (subst (λ (o : Option ℤ). (counting.beat_by held c o).beat ≡ Some k.call) none k.there)

no_end : (held : Held) (c : Count) (z : ℤ) (r : Value) (after : Held) → counting.due c ≡ Some z
    → Done counting_up held c r after → ⊥
no_end held c z r after due d = some_none (with_one c.block (counting.shown held z c.of_bytes).value)
    (subst (λ (o : Option ℤ). (counting.beat_by held c o).beat ≡ None) due d.none)

end_by : (held : Held) (c : Count) (r : Value) (after : Held) (o : Option ℤ) → c.next ≡ o
    → Done counting_up held c r after → CountedBy o c [] × IsValue held c.gives r after
end_by held c r after None there d = (refl, none_due held c r after (ap (λ (o : Option ℤ). counting.due_by c o) there) d)
end_by held c r after (Some z) there d = past_by (is_past c.last c.by z) refl
  where
    past_by : (p : Bool) → is_past c.last c.by z ≡ p → Counts z c.last c.by c.block [] × IsValue held c.gives r after
    past_by true past = (
      record { called = refl; within = refl; over = past_over c.last c.by z past },
      none_due held c r after (due_is c z true there past) d,
    )
    past_by false past = absurd (no_end held c z r after (due_is c z false there past) d)

-- a number is due

abbrev pub counted_on : Count → ℤ → Count
counted_on c z = record c { next = counting.within (z +ℤ c.by) }

pub number_called : (held : Held) (c : Count) (z : ℤ) (t : Turn) (Rest : Type 0) → c.of_bytes ≡ false
    → counting.due c ≡ Some z → Called counting_up held c t Rest
    → call_of t.wanted.plan ≡ Some (c.block, Int z ∷ [])
number_called held c z t Rest bytes due k =
    k.called ∙ one_same c.block (Int z) k.call
    (subst (λ (d : Bool). Some (with_one c.block (counting.shown held z d).value) ≡ Some k.call) bytes
    (subst (λ (o : Option ℤ). (counting.beat_by held c o).beat ≡ Some k.call) due k.there))

number_held : (held : Held) (c : Count) (z : ℤ) → c.of_bytes ≡ false → counting.due c ≡ Some z
    → (counting.count_beat held c).held ≡ held
number_held held c z bytes due = ap (λ (o : Option ℤ). (counting.beat_by held c o).held) due
    ∙ ap (λ (d : Bool). (counting.shown held z d).held) bytes

more_by : (c : Count) (z : ℤ) (t : Turn) (ts : List Turn) (f : Bool) → is_past c.last c.by z ≡ false
    → call_of t.wanted.plan ≡ Some (c.block, Int z ∷ []) → fits (z +ℤ c.by) ≡ f
    → CountedBy (if f then Some (z +ℤ c.by) else None) (counted_on c z) ts → Counts z c.last c.by c.block (t ∷ ts)
more_by c z t ts true before call fit more = record {
  called = ap (λ (x : Option (ObjId × List Value)). x ∷ calls_of ts) call
      ∙ ap (λ (xs : List (Option (ObjId × List Value))). Some (c.block, Int z ∷ []) ∷ xs) more.called;
  within = none_before c.last c.by z (numbers_from (z +ℤ c.by) c.by (length ts)) before more.within;
  over = more.over;
}
more_by c z t ts false before call fit more =
    subst (λ (us : List Turn). Counts z c.last c.by c.block (t ∷ us)) (sym more) (record {
      called = ap (λ (x : Option (ObjId × List Value)). x ∷ []) call;
      within = none_before c.last c.by z [] before refl;
      over = unfit_over c.last c.by (z +ℤ c.by) fit;
    })

turn_by : (t : Turn) (ts : List Turn) (r : Value) (after held : Held) (c : Count) (o : Option ℤ) → c.next ≡ o
    → c.of_bytes ≡ false → CountRest ts r after
    → Called counting_up held c t (Walks counting_up ts t.held (counting.count_beat held c).state r after)
    → CountedBy o c (t ∷ ts) × IsValue (last_heap t.held ts) c.gives r after
turn_by t ts r after held c None there bytes rest k = absurd (no_call held c t
    (Walks counting_up ts t.held (counting.count_beat held c).state r after)
    (ap (λ (o : Option ℤ). counting.due_by c o) there) k)
turn_by t ts r after held c (Some z) there bytes rest k = past_by (is_past c.last c.by z) refl
  where
    past_by : (p : Bool) → is_past c.last c.by z ≡ p
        → Counts z c.last c.by c.block (t ∷ ts) × IsValue (last_heap t.held ts) c.gives r after
    past_by true past = absurd (no_call held c t
        (Walks counting_up ts t.held (counting.count_beat held c).state r after) (due_is c z true there past) k)
    past_by false past =
        let due = due_is c z false there past in
        let call = number_called held c z t (Walks counting_up ts t.held (counting.count_beat held c).state r after) bytes
        due k in
        let more = rest t.held (counted_on c z) bytes
        (subst (λ (o : Option ℤ). Walks counting_up ts t.held (counting.beat_by held c o).state r after) due k.rest) in
        (more_by c z t ts (fits (z +ℤ c.by)) past call refl more.0, more.1)

count_course : (ts : List Turn) (r : Value) (after : Held) → CountRest ts r after
count_course [] r after = λ held c bytes d. end_by held c r after c.next refl d
count_course (t ∷ ts) r after = λ held c bytes k.
    turn_by t ts r after held c c.next refl bytes (count_course ts r after) k

-- from a plan that counts
pub counts_from : (held : Held) (c : Count) (p : Planned Stage) (ts : List Turn) (r : Value) (after : Held)
    → c.of_bytes ≡ false → p ≡ counting.count_next held c → Runs p ts (gives after r)
    → CountedBy c.next c ts × IsValue (last_heap held ts) c.gives r after
counts_from held c p ts r after bytes begins runs = count_course ts r after held c bytes
    (walks counting_up counting_goes ts held c r after bytes
    (subst (λ (q : Planned Stage). Runs q ts (gives after r)) begins runs))

-- `times`, `upto` and `downto`

pub times : (held after : Held) (recv v : Value) (z : ℤ) (b : ObjId) (ts : List Turn)
    → integer held.store recv ≡ Ok z → Gives (row.Visit visit.Times) held recv [] (Some b) ts v after
    → Counts (pos 0) (counting.one_less z) (pos 1) b ts × IsValue (last_heap held ts) recv v after
times held after recv v z b ts is run =
    counts_from held (counting.from_to recv b (pos 0) (counting.one_less z) (pos 1)) run.first ts v after refl
    (run.starts ∙ ap (λ (x : Result ℤ Cause). counting.count_or held (and_then x
    (λ n. counting.integers_of visit.Times held.store recv [] b n))) is) run.runs

pub upto : (held after : Held) (recv limit v : Value) (z last : ℤ) (b : ObjId) (ts : List Turn)
    → integer held.store recv ≡ Ok z → integer held.store limit ≡ Ok last
    → Gives (row.Visit visit.Upto) held recv (limit ∷ []) (Some b) ts v after
    → Counts z last (pos 1) b ts × IsValue (last_heap held ts) recv v after
upto held after recv limit v z last b ts is limited run =
    counts_from held (counting.from_to recv b z last (pos 1)) run.first ts v after refl
    (run.starts ∙ ap (λ (x : Result ℤ Cause). counting.count_or held (and_then x
    (λ n. counting.integers_of visit.Upto held.store recv (limit ∷ []) b n))) is
    ∙ ap (λ (x : Result ℤ Cause). counting.count_or held (and_then x
    (λ n. Ok (counting.from_to recv b z n (pos 1))))) limited) run.runs

pub downto : (held after : Held) (recv limit v : Value) (z last : ℤ) (b : ObjId) (ts : List Turn)
    → integer held.store recv ≡ Ok z → integer held.store limit ≡ Ok last
    → Gives (row.Visit visit.Downto) held recv (limit ∷ []) (Some b) ts v after
    → Counts z last (negsuc 0) b ts × IsValue (last_heap held ts) recv v after
downto held after recv limit v z last b ts is limited run =
    counts_from held (counting.from_to recv b z last (negsuc 0)) run.first ts v after refl
    (run.starts ∙ ap (λ (x : Result ℤ Cause). counting.count_or held (and_then x
    (λ n. counting.integers_of visit.Downto held.store recv (limit ∷ []) b n))) is
    ∙ ap (λ (x : Result ℤ Cause). counting.count_or held (and_then x
    (λ n. Ok (counting.from_to recv b z n (negsuc 0))))) limited) run.runs

-- `step` of an Integer, by a step that isn't 0
pub step : (held after : Held) (recv limit size v : Value) (z last by : ℤ) (b : ObjId) (ts : List Turn)
    → integer held.store recv ≡ Ok z → integer held.store limit ≡ Ok last → integer held.store size ≡ Ok by
    → counting.by_steps recv b z last by ≡ Ok (counting.from_to recv b z last by)
    → Gives (row.Visit visit.Step) held recv (limit ∷ size ∷ []) (Some b) ts v after
    → Counts z last by b ts × IsValue (last_heap held ts) recv v after
step held after recv limit size v z last by b ts is limited sized moves run =
    counts_from held (counting.from_to recv b z last by) run.first ts v after refl
    (run.starts ∙ ap (λ (x : Result ℤ Cause). counting.count_or held (and_then x
    (λ n. counting.integers_of visit.Step held.store recv (limit ∷ size ∷ []) b n))) is
    ∙ ap (λ (x : Result ℤ Cause). counting.count_or held (and_then x
    (λ n. and_then (integer held.store size) (λ m. counting.by_steps recv b z n m)))) limited
    ∙ ap (λ (x : Result ℤ Cause). counting.count_or held (and_then x
    (λ m. counting.by_steps recv b z last m))) sized
    ∙ ap (λ (x : Result Count Cause). counting.count_or held x) moves) run.runs

-- `each` of a Range of Integers

pub range_each : (held after : Held) (recv v : Value) (a z : ℤ) (b : ObjId) (ts : List Turn)
    → range_in (kind_in held.store.objects recv) ≡ Some (integers a z false)
    → Gives (row.Visit visit.EachOfRange) held recv [] (Some b) ts v after
    → Counts a z (pos 1) b ts × IsValue (last_heap held ts) recv v after
range_each held after recv v a z b ts is run =
    counts_from held (counting.numbers_of (integers a z false) recv b (pos 1)) run.first ts v after refl
    (run.starts ∙ ap (λ (o : Option RangeContents). wanted held class.Range recv o
    (λ r. counting.count_next held (counting.numbers_of r recv b (pos 1)))) is) run.runs

abbrev up_to : Value → ObjId → ℤ → ℤ → Count
up_to recv b a z = counting.up_to_end (integers a z true) recv b (pos 1)

pub range_each_before : (held after : Held) (recv v : Value) (a z : ℤ) (b : ObjId) (ts : List Turn)
    → range_in (kind_in held.store.objects recv) ≡ Some (integers a z true) → fits (z -ℤ pos 1) ≡ true
    → Gives (row.Visit visit.EachOfRange) held recv [] (Some b) ts v after
    → Counts a (z -ℤ pos 1) (pos 1) b ts × IsValue (last_heap held ts) recv v after
range_each_before held after recv v a z b ts is fit run =
    counts_from held (record (up_to recv b a z) { last = z -ℤ pos 1 }) run.first ts v after refl
    (run.starts ∙ ap (λ (o : Option RangeContents). wanted held class.Range recv o
    (λ r. counting.count_next held (counting.numbers_of r recv b (pos 1)))) is
    ∙ ap (λ (c : Bool). counting.count_next held (counting.before_end (up_to recv b a z)
    (if c then Some (z -ℤ pos 1) else None))) fit) run.runs
