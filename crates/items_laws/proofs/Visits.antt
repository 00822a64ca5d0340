-- Visits of items put together of their turns.
use Rattle.std.proofs.Common.{◌≡◌, refl, sym, ap, subst, ◌∙◌, List, [], ◌∷◌}
use Rattle.std.specs.Prelude.{ℕ, length, Option, Some, None, map, nat_eq, slice_get, Bool, true, false, if◌then◌else◌}
use Rattle.rb_value.specs.declared.value.Value.{Value}
use Rattle.rb_value.specs.declared.value.ObjId.{ObjId}
use Rattle.rb_value.specs.declared.hash.HashItem.{HashItem}
use Rattle.def_core.specs.Parts.{elements_at}
use Rattle.rb_store.specs.Held.{Held, one_more}
use Rattle.heap.specs.Made.{array_given, with_array}
use Rattle.core_calls.specs.declared.beat.Passed.{Passed}
use Rattle.core_calls.specs.declared.beat.Passed.TheVariants.{One}
use Rattle.iter_items.specs.declared.source.Source.{Source}
use Rattle.iter_items.specs.declared.source.Source.TheVariants as source
use Rattle.iter_items.specs.declared.visit.Visit.{Visit}
use Rattle.iter_items.specs.declared.wish.Wish.{Wish}
use Rattle.iter_items.specs.declared.wish.Wish.TheVariants as wish
use Rattle.iter_items.specs.Asking.{Wished}
use Rattle.iter_items.specs.Driving.{IsLeft, ends}
use Rattle.iter_items.specs.Sources.{next, previous, pair_passed, element_before, pair_before, place_before, no_more, passes, without_first, without_last, number_item}
use Rattle.items_laws.specs.Run.{Turn}
use Rattle.items_laws.proofs.Course.{Settled}
use Rattle.items_laws.specs.Items.{Passing, Visits, IsArrayOf, IsValue, answers, last_heap, left_of, call_of, calls_of, Until, UntilBy}
use Rattle.items_laws.proofs.Small.{some_same}

-- the block gets the item alone
abbrev pub one : Visit → Passed
one v = One v.item

pub visits_none : (pass : Passing) (held : Held) (s : Source) (b : ObjId) (End : List Value → Type 0 → Type 0)
    (passed : List Value → List (List Value)) (Result : Held → List Value → Type 0)
    → (pass held s).item ≡ None → End [] ((pass held s).item ≡ None) → passed [] ≡ [] → Result held []
    → Visits pass held s b End passed [] Result
visits_none pass held s b End passed Result none ended empty result = record {
  items = [];
  handed = tt;
  called = ap (λ (xs : List (List Value)). map (λ args. Some (b, args)) xs) (sym empty);
  ended = ended;
  result = result;
}

pub visits_more : (pass : Passing) (held : Held) (s : Source) (b : ObjId) (End : List Value → Type 0 → Type 0)
    (passed later : List Value → List (List Value)) (t : Turn) (ts : List Turn) (x : Value) (args : List Value)
    (Later Result : Held → List Value → Type 0)
    → (pass held s).item ≡ Some x → call_of t.wanted.plan ≡ Some (b, args) → t.wanted.held ≡ (pass held s).held
    → Visits pass t.held (pass held s).source b End later ts Later
    → ((NoneLeft : Type 0) → End (answers ts) NoneLeft → End (t.answer ∷ answers ts) NoneLeft)
    → ((xs : List Value) → passed (x ∷ xs) ≡ args ∷ later xs)
    → ((h : Held) (xs : List Value) → Later h xs → Result h (x ∷ xs))
    → Visits pass held s b End passed (t ∷ ts) Result
visits_more pass held s b End passed later t ts x args Later Result there called asked rest ended first more = record {
  items = x ∷ rest.items;
  handed = (there, asked, rest.handed);
  called = ap (λ (c : Option (ObjId × List Value)). c ∷ calls_of ts) called
      ∙ ap (λ (cs : List (Option (ObjId × List Value))). Some (b, args) ∷ cs) rest.called
      ∙ ap (λ (xs : List (List Value)). map (λ args. Some (b, args)) xs) (sym (first rest.items));
  ended = ended ((pass (last_heap t.held ts) (left_of pass t.held (pass held s).source ts)).item ≡ None) rest.ended;
  result = more (last_heap t.held ts) rest.items rest.result;
}

-- the last turn of one that stops
pub visits_last : (pass : Passing) (held : Held) (s : Source) (b : ObjId) (End : List Value → Type 0 → Type 0)
    (passed : List Value → List (List Value)) (t : Turn) (ts : List Turn) (x : Value) (args : List Value)
    (Result : Held → List Value → Type 0)
    → (pass held s).item ≡ Some x → call_of t.wanted.plan ≡ Some (b, args) → t.wanted.held ≡ (pass held s).held
    → ts ≡ [] → ((NoneLeft : Type 0) → End (t.answer ∷ []) NoneLeft) → passed (x ∷ []) ≡ args ∷ []
    → Result t.held (x ∷ []) → Visits pass held s b End passed (t ∷ ts) Result
visits_last pass held s b End passed t ts x args Result there called asked last ended first result =
    subst (λ (us : List Turn). Visits pass held s b End passed (t ∷ us) Result) (sym last) (record {
      items = x ∷ [];
      handed = (there, asked, tt);
      called = ap (λ (c : Option (ObjId × List Value)). c ∷ []) called
          ∙ ap (λ (xs : List (List Value)). map (λ args. Some (b, args)) xs) (sym first);
      ended = ended ((pass t.held (pass held s).source).item ≡ None);
      result = result;
    })

-- by the test of an answer

pub until_no : (stops : Value → Bool) (a : Value) (us : List Value) (NoneLeft : Type 0) → stops a ≡ false
    → Until stops us NoneLeft → Until stops (a ∷ us) NoneLeft
until_no stops a us NoneLeft untrue until =
    subst (λ (c : Bool). UntilBy c us (Until stops us NoneLeft)) (sym untrue) until

pub until_yes : (stops : Value → Bool) (a : Value) (NoneLeft : Type 0) → stops a ≡ true
    → Until stops (a ∷ []) NoneLeft
until_yes stops a NoneLeft true_there = subst (λ (c : Bool). UntilBy c [] (Until stops [] NoneLeft)) (sym true_there) refl

-- where there is no item the heap stays

pair_held : (held : Held) (s : Source) (o : Option HashItem) → (pair_passed held s o).item ≡ None
    → (pair_passed held s o).held ≡ held
pair_held held s None none = refl
pair_held held s (Some p) none = absurd (cc)

pub next_held : (held : Held) (s : Source) → (next held s).item ≡ None → (next held s).held ≡ held
next_held held (source.Elements a n) none = refl
next_held held (source.Pairs ps n) none = pair_held held (source.Pairs ps (one_more n)) (slice_get ps n) none
next_held held (source.Numbers n) none = number_held (nat_eq n.left 0) none
  where
    number_held : (b : Bool)
        → (if b then no_more held n else passes (without_first n) (number_item held n.as_bytes n.first)).item ≡ None
        → (if b then no_more held n else passes (without_first n) (number_item held n.as_bytes n.first)).held ≡ held
    number_held true none = refl
    number_held false none = absurd (cc)

element_held : (held : Held) (a : ObjId) (n : ℕ) (o : Option ℕ) → (element_before held a n o).held ≡ held
element_held held a n None = refl
element_held held a n (Some k) = refl

pair_before_held : (held : Held) (ps : List HashItem) (n : ℕ) (o : Option ℕ) → (pair_before held ps n o).item ≡ None
    → (pair_before held ps n o).held ≡ held
pair_before_held held ps n None none = refl
pair_before_held held ps n (Some k) none = pair_held held (source.Pairs ps k) (slice_get ps k) none

pub previous_held : (held : Held) (s : Source) → (previous held s).item ≡ None → (previous held s).held ≡ held
previous_held held (source.Elements a n) none =
    element_held held a n (place_before n (length (elements_at held.store.objects a)))
previous_held held (source.Pairs ps n) none = pair_before_held held ps n (place_before n (length ps)) none
previous_held held (source.Numbers n) none = number_held (nat_eq n.left 0) none
  where
    number_held : (b : Bool)
        → (if b then no_more held n else passes (without_last n) (number_item held n.as_bytes n.last)).item ≡ None
        → (if b then no_more held n else passes (without_last n) (number_item held n.as_bytes n.last)).held ≡ held
    number_held true none = refl
    number_held false none = absurd (cc)

-- what a method ends with

pub settled_as : (w u : Wish) → w ≡ u → Settled u → Settled w
settled_as w u e s = subst Settled (sym e) s

-- an end that is known is one
pub settled_by : (held later : Held) (v u : Visit) (x : Value) (w : Wish) → IsLeft (ends held v x) w u later → Settled w
settled_by held later v u x w e =
    settled_as w (wish.Ends x) (sym (some_same (wish.Ends x) w (ap (λ (a : Wished). a.wish) e))) tt

-- and gives that value, and leaves that heap
pub ended_by : (held later : Held) (v u : Visit) (x r : Value) → IsLeft (ends held v x) (wish.Ends r) u later
    → (r ≡ x) × (later ≡ held)
ended_by held later v u x r e =
    let w = some_same (wish.Ends x) (wish.Ends r) (ap (λ (a : Wished). a.wish) e) in
    (sym (ends_same x r w), sym (ap (λ (a : Wished). a.held) e))
  where
    ends_same : (x r : Value) → wish.Ends x ≡ wish.Ends r → x ≡ r
    ends_same x r e = cc

pub array_by : (held after : Held) (v u : Visit) (vs : List Value) (r : Value)
    → IsLeft (ends (with_array held vs) v (array_given held.store vs)) (wish.Ends r) u after → IsArrayOf held vs r after
array_by held after v u vs r e =
    let k = ended_by (with_array held vs) after v u (array_given held.store vs) r e in
    record { value = k.0; left = k.1 }

pub value_by : (held after : Held) (v u : Visit) (x r : Value) → IsLeft (ends held v x) (wish.Ends r) u after
    → IsValue held x r after
value_by held after v u x r e = let k = ended_by held after v u x r e in record { value = k.0; left = k.1 }
