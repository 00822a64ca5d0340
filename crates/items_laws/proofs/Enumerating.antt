-- Methods of Enumerators and Yielders.
use Rattle.std.proofs.Common.{◌≡◌, refl, ap, subst, ◌∙◌, List, [], ◌∷◌}
use Rattle.std.specs.Prelude.{Bool, true, false, if◌then◌else◌, Option, Some, None}
use Rattle.rb_value.specs.declared.value.Value.{Value}
use Rattle.rb_value.specs.declared.value.Value.TheVariants.{Obj}
use Rattle.rb_value.specs.declared.value.ObjId.{ObjId}
use Rattle.rb_value.specs.declared.value.SymId.{SymId}
use Rattle.rb_value.specs.declared.kind.EnumeratorSource.{EnumeratorSource}
use Rattle.rb_value.specs.declared.kind.EnumeratorSource.TheVariants as enumerator_source
use Rattle.rb_value.specs.declared.core_class.CoreClass.TheVariants as class
use Rattle.def_core.specs.declared.cause.Cause.TheVariants as cause
use Rattle.def_core.specs.Store.{next_number, object_at}
use Rattle.def_calls.specs.Views.{kind_in}
use Rattle.heap.specs.Changes.{pushed, with_cursor}
use Rattle.heap.specs.Made.{number_for, with_yielder}
use Rattle.heap.specs.Reading.{source_in, yielder_in}
use Rattle.heap.specs.declared.enumerators.Cursor.{Cursor}
use Rattle.rb_store.specs.Held.{Held}
use Rattle.def_plans.specs.Plan.{Planned, calls, gives, wanted}
use Rattle.iter_enumerators.specs.declared.row.EnumeratorRow.{EnumeratorRow}
use Rattle.iter_enumerators.specs.declared.row.EnumeratorRow.TheVariants as enumerator_row
use Rattle.iter_enumerators.specs.declared.state.EnumeratorState.{EnumeratorState}
use Rattle.iter_enumerators.specs.declared.state.EnumeratorState.TheVariants as enumerator_state
use Rattle.iter_enumerators.specs.Items as enumerating
use Rattle.iter_enumerators.specs.Items.{cursor_at, item_at, passed, with_begun}
use Rattle.iter_enumerators.specs.Rows as enumerators
use Rattle.iter_enumerators.specs.Rows.{an_enumerator}
use Rattle.iter_enumerators.specs.Sources as sources
use Rattle.iter_enumerators.specs.Sources.{alone}
use Rattle.iter_items.specs.declared.row.ItemsRow.TheVariants as items_row
use Rattle.iter_items.specs.Moved.{as_moved}
use Rattle.iter_items.specs.Rows as over_rows
use Rattle.iter_items.specs.Stage as over_items
use Rattle.run_rows.specs.declared.row.StarRow.TheVariants as row
use Rattle.core_iter.specs.Stage.{Stage, items}
use Rattle.items_laws.specs.Enumerated.{TakesItem, rewound, with_source}
use Rattle.items_laws.specs.Handed.{HandsOn, always_that, as_answered, call_in, message_in, resumed_in}
use Rattle.items_laws.specs.Items.{IsValue}
use Rattle.items_laws.specs.Run.{Turn, Runs, Gives}
use Rattle.items_laws.proofs.Course.{given, refused}
use Rattle.items_laws.proofs.Handing.{Handing, once}
use Rattle.items_laws.proofs.Inversion.{not_given, unmoved}
use Rattle.items_laws.proofs.Speaking.{stepped}

abbrev lifted : Planned EnumeratorState → Planned Stage
lifted p = as_moved items (as_moved over_items.enumerates p)

-- the plan that comes first
record First (q : Planned EnumeratorState) (ts : List Turn) (v : Value) (after : Held) : Type 0 where
  runs : Runs (lifted q) ts (gives after v)

first_of : (r : EnumeratorRow) (held after : Held) (recv v : Value) (args : List Value) (block : Option ObjId)
    (ts : List Turn) (q : Planned EnumeratorState) → enumerators.start r held recv args block ≡ q
    → Gives (row.Items (items_row.Enumerates r)) held recv args block ts v after → First q ts v after
first_of r held after recv v args block ts q same run =
    let k = unmoved items (over_rows.Starts (items_row.Enumerates r) held recv args block) run.first run.starts in
    record {
      runs = subst (λ (p : Planned Stage). Runs p ts (gives after v))
          (k.same ∙ ap (λ (x : Planned over_items.Stage). as_moved items x) k.meant ∙ ap lifted same) run.runs;
    }

-- a value that is given at once
at_once : (held after : Held) (x v : Value) (ts : List Turn) → First (gives held x) ts v after
    → (ts ≡ []) × IsValue held x v after
at_once held after x v ts f =
    let end = given ts held x v after f.runs in
    (end.0, record { value = end.1; left = end.2 })

-- `next` and `peek`: an item that is held back

abbrev next_at : Held → ObjId → Bool → Option Cursor → Planned EnumeratorState
next_at held e leaves o = enumerating.next_by held e leaves o

item_held : (held : Held) (e : ObjId) (c : Cursor) (leaves : Bool) (x : Value) → cursor_at held e ≡ Some c
    → item_at held c ≡ Some x → enumerating.next_item held e leaves ≡ enumerating.give held e c x leaves
item_held held e c leaves x there item = ap (next_at held e leaves) there
    ∙ ap (λ (o : Option Value). enumerating.next_from held e c leaves o) item

pub next_held : (held after : Held) (recv v x : Value) (e : ObjId) (c : Cursor) (block : Option ObjId) (ts : List Turn)
    → an_enumerator held.store.objects recv ≡ Some e → cursor_at held e ≡ Some c → item_at held c ≡ Some x
    → Gives (row.Items (items_row.Enumerates enumerator_row.Next)) held recv [] block ts v after
    → (ts ≡ []) × IsValue (with_cursor held e (passed c)) x v after
next_held held after recv v x e c block ts is there item run =
    at_once (with_cursor held e (passed c)) after x v ts (first_of enumerator_row.Next held after recv v [] block ts
    (gives (with_cursor held e (passed c)) x) (ap (λ (o : Option ObjId). wanted held class.Enumerator recv o
    (enumerators.of_it enumerator_row.Next held block)) is ∙ item_held held e c true x there item) run)

pub peek_held : (held after : Held) (recv v x : Value) (e : ObjId) (c : Cursor) (block : Option ObjId) (ts : List Turn)
    → an_enumerator held.store.objects recv ≡ Some e → cursor_at held e ≡ Some c → item_at held c ≡ Some x
    → Gives (row.Items (items_row.Enumerates enumerator_row.Peek)) held recv [] block ts v after
    → (ts ≡ []) × IsValue held x v after
peek_held held after recv v x e c block ts is there item run =
    at_once held after x v ts (first_of enumerator_row.Peek held after recv v [] block ts (gives held x)
    (ap (λ (o : Option ObjId). wanted held class.Enumerator recv o (enumerators.of_it enumerator_row.Peek held block)) is
    ∙ item_held held e c false x there item) run)

-- an item that the fiber gives

give_given : (held after : Held) (e : ObjId) (c : Cursor) (a v : Value) (leaves : Bool) (ts : List Turn)
    → Runs (lifted (enumerating.give held e c a leaves)) ts (gives after v)
    → (ts ≡ []) × (v ≡ a) × (after ≡ (enumerating.give held e c a leaves).held)
give_given held after e c a v true ts runs = given ts (with_cursor held e (passed c)) a v after runs
give_given held after e c a v false ts runs = given ts held a v after runs

unended_given : (held after : Held) (e : ObjId) (c : Cursor) (a v : Value) (leaves : Bool) (ts : List Turn)
    (o : Option Value)
    → Runs (lifted (enumerating.unless_ended held o (enumerating.give (pushed held c.items a) e c a leaves))) ts
    (gives after v)
    → (ts ≡ []) × (v ≡ a)
    × (after ≡ (enumerating.unless_ended held o (enumerating.give (pushed held c.items a) e c a leaves)).held)
unended_given held after e c a v leaves ts None runs = give_given (pushed held c.items a) after e c a v leaves ts runs
unended_given held after e c a v leaves ts (Some r) runs =
    absurd (refused ts held (cause.IterationEnd r) v after runs)

abbrev taken_if : Held → ObjId → Cursor → Value → Bool → Bool → Planned EnumeratorState
taken_if held e c a leaves same = if same
    then enumerating.unless_ended held c.result (enumerating.give (pushed held c.items a) e c a leaves) else gives held a

same_given : (held after : Held) (e : ObjId) (c : Cursor) (a v : Value) (leaves same : Bool) (ts : List Turn)
    → Runs (lifted (taken_if held e c a leaves same)) ts (gives after v)
    → (ts ≡ []) × (v ≡ a) × (after ≡ (taken_if held e c a leaves same).held)
same_given held after e c a v leaves true ts runs = unended_given held after e c a v leaves ts c.result runs
same_given held after e c a v leaves false ts runs = given ts held a v after runs

taken_given : (held after : Held) (e fiber : ObjId) (a v : Value) (leaves : Bool) (ts : List Turn) (o : Option Cursor)
    → Runs (lifted (enumerating.taken_by held e fiber leaves a o)) ts (gives after v)
    → (ts ≡ []) × (v ≡ a) × (after ≡ (enumerating.taken_by held e fiber leaves a o).held)
taken_given held after e fiber a v leaves ts None runs = given ts held a v after runs
taken_given held after e fiber a v leaves ts (Some c) runs =
    same_given held after e c a v leaves (enumerating.is_same c.fiber (Some fiber)) ts runs

takes : (held after : Held) (e fiber : ObjId) (v : Value) (leaves : Bool) (ts : List Turn)
    → First (enumerating.resumed held e leaves (Some fiber)) ts v after → TakesItem held e fiber leaves ts v after
takes held after e fiber v leaves [] f =
    absurd (not_given (lifted (enumerating.resumed held e leaves (Some fiber))) after v refl f.runs)
takes held after e fiber v leaves (t ∷ ts) f =
    let plan = lifted (enumerating.resumed held e leaves (Some fiber)) in
    let s = over_items.enumerates (enumerator_state.Waits e fiber leaves) in
    let k = stepped plan plan (items s) t ts (gives after v) refl refl f.runs in
    let u = unmoved items (over_rows.GoesOn t.held s t.answer) k.next k.goes in
    let next = u.same ∙ ap (λ (x : Planned over_items.Stage). as_moved items x) u.meant in
    let end = taken_given t.held after e fiber t.answer v leaves ts (cursor_at t.held e)
    (subst (λ (p : Planned Stage). Runs p ts (gives after v)) next k.runs) in
    record {
      turn = t;
      alone = ap (λ (us : List Turn). t ∷ us) end.0;
      wanted = ap (λ (p : Planned Stage). resumed_in p.plan) k.wanted;
      heap = ap (λ (p : Planned Stage). p.held) k.wanted;
      value = end.1;
      left = end.2;
    }

-- the plan where no item is held back, and the end hasn't been reached
wakes : (held : Held) (e : ObjId) (c : Cursor) (leaves : Bool) → cursor_at held e ≡ Some c → item_at held c ≡ None
    → c.result ≡ None
    → enumerating.next_item held e leaves ≡ enumerating.wake held e c leaves c.fiber
wakes held e c leaves there none unended = ap (next_at held e leaves) there
    ∙ ap (λ (o : Option Value). enumerating.next_from held e c leaves o) none
    ∙ ap (λ (o : Option Value). enumerating.unless_ended held o (enumerating.wake held e c leaves c.fiber)) unended

goes_on : (held : Held) (e fiber : ObjId) (c : Cursor) (leaves : Bool) → c.fiber ≡ Some fiber
    → enumerating.wake held e c leaves c.fiber ≡ enumerating.resumed held e leaves (Some fiber)
goes_on held e fiber c leaves runs = ap (λ (o : Option ObjId). enumerating.wake held e c leaves o) runs

begins : (held : Held) (e fiber : ObjId) (c : Cursor) (leaves : Bool) → c.fiber ≡ None
    → number_for (with_source held e).store (next_number held.store) ≡ Some fiber
    → enumerating.wake held e c leaves c.fiber
    ≡ enumerating.resumed (with_begun (with_source held e) e c (next_number held.store)) e leaves (Some fiber)
begins held e fiber c leaves none number = ap (λ (o : Option ObjId). enumerating.wake held e c leaves o) none
    ∙ ap (λ (o : Option ObjId).
    enumerating.resumed (with_begun (with_source held e) e c (next_number held.store)) e leaves o) number

pub next_goes_on : (held after : Held) (recv v : Value) (e fiber : ObjId) (c : Cursor) (block : Option ObjId)
    (ts : List Turn) → an_enumerator held.store.objects recv ≡ Some e → cursor_at held e ≡ Some c → item_at held c ≡ None
    → c.result ≡ None → c.fiber ≡ Some fiber
    → Gives (row.Items (items_row.Enumerates enumerator_row.Next)) held recv [] block ts v after
    → TakesItem held e fiber true ts v after
next_goes_on held after recv v e fiber c block ts is there none unended runs run = takes held after e fiber v true ts
    (first_of enumerator_row.Next held after recv v [] block ts (enumerating.resumed held e true (Some fiber))
    (ap (λ (o : Option ObjId). wanted held class.Enumerator recv o (enumerators.of_it enumerator_row.Next held block)) is
    ∙ wakes held e c true there none unended ∙ goes_on held e fiber c true runs) run)

pub peek_goes_on : (held after : Held) (recv v : Value) (e fiber : ObjId) (c : Cursor) (block : Option ObjId)
    (ts : List Turn) → an_enumerator held.store.objects recv ≡ Some e → cursor_at held e ≡ Some c → item_at held c ≡ None
    → c.result ≡ None → c.fiber ≡ Some fiber
    → Gives (row.Items (items_row.Enumerates enumerator_row.Peek)) held recv [] block ts v after
    → TakesItem held e fiber false ts v after
peek_goes_on held after recv v e fiber c block ts is there none unended runs run = takes held after e fiber v false ts
    (first_of enumerator_row.Peek held after recv v [] block ts (enumerating.resumed held e false (Some fiber))
    (ap (λ (o : Option ObjId). wanted held class.Enumerator recv o (enumerators.of_it enumerator_row.Peek held block)) is
    ∙ wakes held e c false there none unended ∙ goes_on held e fiber c false runs) run)

pub next_begins : (held after : Held) (recv v : Value) (e fiber : ObjId) (c : Cursor) (block : Option ObjId)
    (ts : List Turn) → an_enumerator held.store.objects recv ≡ Some e → cursor_at held e ≡ Some c → item_at held c ≡ None
    → c.result ≡ None → c.fiber ≡ None
    → number_for (with_source held e).store (next_number held.store) ≡ Some fiber
    → Gives (row.Items (items_row.Enumerates enumerator_row.Next)) held recv [] block ts v after
    → TakesItem (with_begun (with_source held e) e c (next_number held.store)) e fiber true ts v after
next_begins held after recv v e fiber c block ts is there none unended no_fiber number run =
    let begun = with_begun (with_source held e) e c (next_number held.store) in
    takes begun after e fiber v true ts
    (first_of enumerator_row.Next held after recv v [] block ts (enumerating.resumed begun e true (Some fiber))
    (ap (λ (o : Option ObjId). wanted held class.Enumerator recv o (enumerators.of_it enumerator_row.Next held block)) is
    ∙ wakes held e c true there none unended ∙ begins held e fiber c true no_fiber number) run)

pub peek_begins : (held after : Held) (recv v : Value) (e fiber : ObjId) (c : Cursor) (block : Option ObjId)
    (ts : List Turn) → an_enumerator held.store.objects recv ≡ Some e → cursor_at held e ≡ Some c → item_at held c ≡ None
    → c.result ≡ None → c.fiber ≡ None
    → number_for (with_source held e).store (next_number held.store) ≡ Some fiber
    → Gives (row.Items (items_row.Enumerates enumerator_row.Peek)) held recv [] block ts v after
    → TakesItem (with_begun (with_source held e) e c (next_number held.store)) e fiber false ts v after
peek_begins held after recv v e fiber c block ts is there none unended no_fiber number run =
    let begun = with_begun (with_source held e) e c (next_number held.store) in
    takes begun after e fiber v false ts
    (first_of enumerator_row.Peek held after recv v [] block ts (enumerating.resumed begun e false (Some fiber))
    (ap (λ (o : Option ObjId). wanted held class.Enumerator recv o (enumerators.of_it enumerator_row.Peek held block)) is
    ∙ wakes held e c false there none unended ∙ begins held e fiber c false no_fiber number) run)

-- `rewind`

pub rewinds : (held after : Held) (recv v : Value) (e : ObjId) (block : Option ObjId) (ts : List Turn)
    → an_enumerator held.store.objects recv ≡ Some e
    → Gives (row.Items (items_row.Enumerates enumerator_row.Rewind)) held recv [] block ts v after
    → (ts ≡ []) × IsValue (rewound held e) (Obj e) v after
rewinds held after recv v e block ts is run = at_once (rewound held e) after (Obj e) v ts
    (first_of enumerator_row.Rewind held after recv v [] block ts (gives (rewound held e) (Obj e))
    (ap (λ (o : Option ObjId). wanted held class.Enumerator recv o (enumerators.of_it enumerator_row.Rewind held block))
    is) run)

-- `each`, and the methods of a Yielder

hands_it : Handing (items (over_items.enumerates enumerator_state.Hands)) as_answered
hands_it = record {
  goes = λ held a p e.
      let k = unmoved items (over_rows.GoesOn held (over_items.enumerates enumerator_state.Hands) a) p e in
      k.same ∙ ap (λ (x : Planned over_items.Stage). as_moved items x) k.meant;
}

gives_it : (w : Value) → Handing (items (over_items.enumerates (enumerator_state.Gives w))) (always_that w)
gives_it w = record {
  goes = λ held a p e.
      let k = unmoved items (over_rows.GoesOn held (over_items.enumerates (enumerator_state.Gives w)) a) p e in
      k.same ∙ ap (λ (x : Planned over_items.Stage). as_moved items x) k.meant;
}

each_by : (held after : Held) (recv v : Value) (e b : ObjId) (s : EnumeratorSource) (ts : List Turn)
    → an_enumerator held.store.objects recv ≡ Some e → source_in (object_at held.store.objects e).kind ≡ Some s
    → Gives (row.Items (items_row.Enumerates enumerator_row.Each)) held recv [] (Some b) ts v after
    → First (sources.source_called held enumerator_state.Hands b s) ts v after
each_by held after recv v e b s ts is there run = first_of enumerator_row.Each held after recv v [] (Some b) ts
    (sources.source_called held enumerator_state.Hands b s)
    (ap (λ (o : Option ObjId). wanted held class.Enumerator recv o
    (enumerators.of_it enumerator_row.Each held (Some b))) is
    ∙ ap (λ (o : Option EnumeratorSource). wanted held class.Enumerator (Obj e) o
    (sources.source_called held enumerator_state.Hands b)) there) run

pub each_of_block : (held after : Held) (recv v : Value) (e b p : ObjId) (ts : List Turn)
    → an_enumerator held.store.objects recv ≡ Some e
    → source_in (object_at held.store.objects e).kind ≡ Some (enumerator_source.Block p)
    → Gives (row.Items (items_row.Enumerates enumerator_row.Each)) held recv [] (Some b) ts v after
    → HandsOn (λ q. call_in q ≡ Some (p, alone (number_for held.store b), None)) (with_yielder held b).store as_answered ts
    v after
each_of_block held after recv v e b p ts is there run =
    once (λ q. call_in q ≡ Some (p, alone (number_for held.store b), None))
    (items (over_items.enumerates enumerator_state.Hands)) as_answered hands_it ts v after
    (lifted (sources.source_called held enumerator_state.Hands b (enumerator_source.Block p))) refl refl
    (each_by held after recv v e b (enumerator_source.Block p) ts is there run).runs

pub each_of_method : (held after : Held) (recv v x : Value) (e b : ObjId) (name : SymId) (args : List Value)
    (ts : List Turn) → an_enumerator held.store.objects recv ≡ Some e
    → source_in (object_at held.store.objects e).kind ≡ Some (enumerator_source.Call x name args)
    → Gives (row.Items (items_row.Enumerates enumerator_row.Each)) held recv [] (Some b) ts v after
    → HandsOn (λ q. message_in q ≡ Some (x, name, args, Some b, false)) held.store as_answered ts v after
each_of_method held after recv v x e b name args ts is there run =
    once (λ q. message_in q ≡ Some (x, name, args, Some b, false))
    (items (over_items.enumerates enumerator_state.Hands)) as_answered hands_it ts v after
    (lifted (sources.source_called held enumerator_state.Hands b (enumerator_source.Call x name args))) refl refl
    (each_by held after recv v e b (enumerator_source.Call x name args) ts is there run).runs

pub puts_one : (held after : Held) (recv x v : Value) (p : ObjId) (block : Option ObjId) (ts : List Turn)
    → yielder_in (kind_in held.store.objects recv) ≡ Some p
    → Gives (row.Items (items_row.Enumerates enumerator_row.Put)) held recv (x ∷ []) block ts v after
    → HandsOn (λ q. call_in q ≡ Some (p, x ∷ [], None)) held.store (always_that recv) ts v after
puts_one held after recv x v p block ts is run =
    let plan : Planned EnumeratorState =
    record { plan = calls (enumerator_state.Gives recv) p (x ∷ []) None; held = held } in
    once (λ q. call_in q ≡ Some (p, x ∷ [], None)) (items (over_items.enumerates (enumerator_state.Gives recv)))
    (always_that recv) (gives_it recv) ts v after (lifted plan) refl refl
    (first_of enumerator_row.Put held after recv v (x ∷ []) block ts plan
    (ap (λ (o : Option ObjId). wanted held class.Yielder recv o
    (λ y. record { plan = calls (enumerator_state.Gives recv) y (x ∷ []) None; held = held })) is) run).runs

pub yields_all : (held after : Held) (recv v : Value) (p : ObjId) (args : List Value) (block : Option ObjId)
    (ts : List Turn) → yielder_in (kind_in held.store.objects recv) ≡ Some p
    → Gives (row.Items (items_row.Enumerates enumerator_row.Yield)) held recv args block ts v after
    → HandsOn (λ q. call_in q ≡ Some (p, args, None)) held.store as_answered ts v after
yields_all held after recv v p args block ts is run =
    let plan : Planned EnumeratorState = record { plan = calls enumerator_state.Hands p args None; held = held } in
    once (λ q. call_in q ≡ Some (p, args, None)) (items (over_items.enumerates enumerator_state.Hands)) as_answered hands_it
    ts v after (lifted plan) refl refl (first_of enumerator_row.Yield held after recv v args block ts plan
    (ap (λ (o : Option ObjId). wanted held class.Yielder recv o
    (λ y. record { plan = calls enumerator_state.Hands y args None; held = held })) is) run).runs
