-- Rows whose first answer ends them, which are left before that comes.
use Rattle.std.proofs.Common.{◌≡◌, refl, sym, ap, subst, ◌∙◌, List, [], ◌∷◌, length}
use Rattle.std.specs.Prelude.{ℤ, pos, negsuc, codes, get_or, option_map, slice_get, Bool, true, false, if◌then◌else◌, Option, Some, None, Result, Ok, Err}
use Rattle.rb_value.specs.declared.value.Value.{Value}
use Rattle.rb_value.specs.declared.value.Value.TheVariants.{Nil, True, False, Int, Sym, Obj}
use Rattle.rb_value.specs.declared.value.ObjId.{ObjId}
use Rattle.rb_value.specs.declared.key.Key.{Key}
use Rattle.rb_value.specs.declared.hash.HashItem.{HashItem}
use Rattle.rb_value.specs.declared.core_class.CoreClass.{CoreClass}
use Rattle.rb_value.specs.declared.core_class.CoreClass.TheVariants as class
use Rattle.def_core.specs.declared.cause.Cause.{Cause}
use Rattle.def_core.specs.Changes.{intern}
use Rattle.def_core.specs.Parts.{hash_at, pair_of}
use Rattle.def_core.specs.Store.{Store}
use Rattle.def_calls.specs.Values.{key_of}
use Rattle.def_calls.specs.Views.{a_hash, an_array}
use Rattle.heap.specs.Changes.{pushed, with_absent}
use Rattle.heap.specs.Operands.{own}
use Rattle.heap.specs.declared.enumerators.Cursor.{Cursor}
use Rattle.rb_store.specs.Held.{Held}
use Rattle.run_values.specs.declared.given.Given.{Given}
use Rattle.run_values.specs.declared.given.Given.TheVariants.{Gives, Raises}
use Rattle.core_calls.specs.Checks.{integer, miscounted}
use Rattle.def_plans.specs.Plan.{Plan, Planned, finishes, fails, raises, sends, calls, writes, reads, resumes, yields, gives, wanted}
use Rattle.iter_comparing.specs.declared.ordering.Order.{Order}
use Rattle.iter_comparing.specs.declared.row.ComparingRow.{ComparingRow}
use Rattle.iter_comparing.specs.declared.row.ComparingRow.TheVariants as comparing_row
use Rattle.iter_comparing.specs.declared.row.OrderRow.{OrderRow}
use Rattle.iter_comparing.specs.declared.row.OrderRow.TheVariants as order_row
use Rattle.iter_comparing.specs.Equal.{Settles, negated, stage}
use Rattle.iter_comparing.specs.Fetching as fetching
use Rattle.iter_comparing.specs.Ordering as ordering
use Rattle.iter_comparing.specs.Outright.{outright}
use Rattle.iter_comparing.specs.Repeating as repeating
use Rattle.iter_comparing.specs.Rows as comparing
use Rattle.iter_comparing.specs.Stage as over_values
use Rattle.iter_enumerators.specs.declared.state.EnumeratorState.{EnumeratorState}
use Rattle.iter_enumerators.specs.declared.state.EnumeratorState.TheVariants as enumerator_state
use Rattle.iter_enumerators.specs.Items as enumerating
use Rattle.iter_enumerators.specs.Rows as enumerators
use Rattle.iter_items.specs.declared.row.ItemsRow.{ItemsRow}
use Rattle.iter_items.specs.declared.row.ItemsRow.TheVariants as items_row
use Rattle.iter_items.specs.Moved.{as_moved, moved}
use Rattle.iter_items.specs.Rows as over_rows
use Rattle.iter_items.specs.Stage as over_items
use Rattle.run_rows.specs.declared.row.StarRow.{StarRow}
use Rattle.run_rows.specs.declared.row.StarRow.TheVariants as row
use Rattle.run_rows.specs.declared.row.VisitRow.{VisitRow}
use Rattle.run_rows.specs.declared.row.VisitRow.TheVariants as visit
use Rattle.core_iter.specs.Filling as filling
use Rattle.core_iter.specs.Rows.{GoesOn, Starts, refused_by_visit}
use Rattle.core_iter.specs.Stage.{Stage, items}
use Rattle.items_laws.specs.Beginning.{Leaves}
use Rattle.items_laws.specs.Run.{Turn, waiting}
use Rattle.items_laws.specs.Once.{compares_once, wants_once}
use Rattle.items_laws.proofs.Inversion.{unmoved}
use Rattle.items_laws.proofs.Sent.{lifted}
use Rattle.items_laws.proofs.Small.{none_some, some_same}
use Rattle.items_laws.proofs.Sole.{EndsSoon, over, sole, soon, unless}

-- where a plan stands while it waits
abbrev waits_in : {S : Type 0} → Plan S → Option S
waits_in (finishes v) = None
waits_in (fails c) = None
waits_in (raises e) = None
waits_in (sends s v name args block public) = Some s
waits_in (calls s p args block) = Some s
waits_in (writes s bytes) = Some s
waits_in (reads s) = Some s
waits_in (resumes s f args) = Some s
waits_in (yields s args) = Some s

waits_so : {S : Type 0} (as_stage : S → over_items.Stage) (p : Plan S)
    → waiting (moved items (moved as_stage p)) ≡ option_map (λ s. items (as_stage s)) (waits_in p)
waits_so as_stage (finishes v) = refl
waits_so as_stage (fails c) = refl
waits_so as_stage (raises e) = refl
waits_so as_stage (sends s v name args block public) = refl
waits_so as_stage (calls s p args block) = refl
waits_so as_stage (writes s bytes) = refl
waits_so as_stage (reads s) = refl
waits_so as_stage (resumes s f args) = refl
waits_so as_stage (yields s args) = refl

-- Methods of Enumerators and Yielders: no answer is followed by a call.

given_off : (held : Held) (e : ObjId) (c : Cursor) (v : Value) (leaves : Bool)
    → waits_in (enumerating.give held e c v leaves).plan ≡ None
given_off held e c v true = refl
given_off held e c v false = refl

unended_off : (held : Held) (o : Option Value) (p : Planned EnumeratorState) → waits_in p.plan ≡ None
    → waits_in (enumerating.unless_ended held o p).plan ≡ None
unended_off held None p none = none
unended_off held (Some v) p none = refl

taken_if : (held : Held) (e : ObjId) (v : Value) (c : Cursor) (leaves same : Bool) (p : Planned EnumeratorState)
    → waits_in p.plan ≡ None → waits_in (if same then p else gives held v).plan ≡ None
taken_if held e v c leaves true p none = none
taken_if held e v c leaves false p none = refl

taken_off : (held : Held) (e fiber : ObjId) (leaves : Bool) (v : Value) (o : Option Cursor)
    → waits_in (enumerating.taken_by held e fiber leaves v o).plan ≡ None
taken_off held e fiber leaves v None = refl
taken_off held e fiber leaves v (Some c) =
    let further = enumerating.give (pushed held c.items v) e c v leaves in
    taken_if held e v c leaves (enumerating.is_same c.fiber (Some fiber)) (enumerating.unless_ended held c.result further)
    (unended_off held c.result further (given_off (pushed held c.items v) e c v leaves))

enumerator_off : (held : Held) (s : EnumeratorState) (a : Value) → waits_in (enumerators.next held s a).plan ≡ None
enumerator_off held (enumerator_state.Waits e fiber leaves) a =
    taken_off held e fiber leaves a (enumerating.cursor_at held e)
enumerator_off held (enumerator_state.Runs e fiber) a = refl
enumerator_off held enumerator_state.Hands a = refl
enumerator_off held (enumerator_state.Gives v) a = refl

enumerator_next : (held : Held) (s : EnumeratorState) (a : Value) (q : Planned Stage)
    → GoesOn held (items (over_items.enumerates s)) a q → waiting q.plan ≡ None
enumerator_next held s a q goes =
    let k = unmoved items (over_rows.GoesOn held (over_items.enumerates s) a) q goes in
    let p = enumerators.next held s a in
    ap (λ (x : Planned Stage). waiting x.plan) (k.same ∙ ap (λ (x : Planned over_items.Stage). as_moved items x) k.meant)
    ∙ waits_so over_items.enumerates p.plan
    ∙ ap (λ (o : Option EnumeratorState). option_map (λ s. items (over_items.enumerates s)) o) (enumerator_off held s a)

enumerator_by : (p : Plan EnumeratorState) (o : Option EnumeratorState) (s : Stage) → waits_in p ≡ o
    → option_map (λ s. items (over_items.enumerates s)) o ≡ Some s → (h : Held) (a : Value) (q : Planned Stage)
    → GoesOn h s a q → waiting q.plan ≡ None
enumerator_by p None s there is h a q goes = absurd (none_some s is)
enumerator_by p (Some u) s there is h a q goes = enumerator_next h u a q
    (subst (λ (x : Stage). GoesOn h x a q) (some_same s (items (over_items.enumerates u)) (sym is)) goes)

enumerator_soon : (p : Planned EnumeratorState) (q : Planned Stage) → q ≡ as_moved items (as_moved over_items.enumerates p)
    → EndsSoon q
enumerator_soon p q is = λ s waits h a r goes. enumerator_by p.plan (waits_in p.plan) s refl
    (sym (waits_so over_items.enumerates p.plan) ∙ sym (ap (λ (x : Planned Stage). waiting x.plan) is) ∙ waits) h a r goes

-- Methods that compare: a plan at which whatever comes next ends.

abbrev pub EndsAt : over_values.Stage → Type 0
EndsAt s = (h : Held) (a : Value) (p : Planned over_values.Stage) → comparing.GoesOn h s a p → waits_in p.plan ≡ None

abbrev EndsIn : Planned over_values.Stage → Type 0
EndsIn p = (s : over_values.Stage) → waits_in p.plan ≡ Some s → EndsAt s

pub compared_next : (s : over_values.Stage) → EndsAt s → (h : Held) (a : Value) (q : Planned Stage)
    → GoesOn h (items (over_items.compares s)) a q → waiting q.plan ≡ None
compared_next s ends h a q goes =
    let outer = unmoved items (over_rows.GoesOn h (over_items.compares s) a) q goes in
    let inner = unmoved over_items.compares (comparing.GoesOn h s a) outer.inner outer.meant in
    ap (λ (x : Planned Stage). waiting x.plan)
    (outer.same ∙ ap (λ (x : Planned over_items.Stage). as_moved items x) inner.same)
    ∙ waits_so over_items.compares inner.inner.plan
    ∙ ap (λ (o : Option over_values.Stage). option_map (λ s. items (over_items.compares s)) o)
    (ends h a inner.inner inner.meant)

compared_by : (p : Planned over_values.Stage) → EndsIn p → (o : Option over_values.Stage) (s : Stage)
    → waits_in p.plan ≡ o → option_map (λ s. items (over_items.compares s)) o ≡ Some s → (h : Held) (a : Value)
    (q : Planned Stage) → GoesOn h s a q → waiting q.plan ≡ None
compared_by p ends None s there is h a q goes = absurd (none_some s is)
compared_by p ends (Some u) s there is h a q goes = compared_next u (ends u there) h a q
    (subst (λ (x : Stage). GoesOn h x a q) (some_same s (items (over_items.compares u)) (sym is)) goes)

compared_soon : (p : Planned over_values.Stage) → EndsIn p → EndsSoon (lifted p)
compared_soon p ends = λ s waits h a q goes. compared_by p ends (waits_in p.plan) s refl
    (sym (waits_so over_items.compares p.plan) ∙ waits) h a q goes

ends_there : (p : Planned over_values.Stage) → waits_in p.plan ≡ None → EndsIn p
ends_there p none = λ s is. absurd (none_some s (sym none ∙ is))

waits_there : (p : Planned over_values.Stage) (u : over_values.Stage) → waits_in p.plan ≡ Some u → EndsAt u → EndsIn p
waits_there p u waits ends = λ s is. subst EndsAt (some_same u s (sym waits ∙ is)) ends

same_ends : (p q : Planned over_values.Stage) → p ≡ q → EndsIn q → EndsIn p
same_ends p q same ends = subst EndsIn (sym same) ends

by_plan : (p : Planned over_values.Stage) (q : Plan over_values.Stage) → p.plan ≡ q → waits_in q ≡ None → EndsIn p
by_plan p q same none = ends_there p (ap waits_in same ∙ none)

-- `!=` and `===`

stage_ends : (c : Bool) → EndsAt (stage c)
stage_ends true = λ h a p goes. ap (λ (q : Planned over_values.Stage). waits_in q.plan) goes
stage_ends false = λ h a p goes. ap (λ (q : Planned over_values.Stage). waits_in q.plan) goes

settled : (held : Held) (c : Bool) (recv : Value) (args : List Value) (p : Planned over_values.Stage)
    (o : Option Given × Store) → Settles held c recv args (intern held.store (codes "==")) o p → EndsIn p
settled held c recv args p (None, st) is =
    waits_there p (stage c) (ap (λ (q : Planned over_values.Stage). waits_in q.plan) is) (stage_ends c)
settled held c recv args p (Some (Gives v), st) is = by_plan p (finishes (negated c v)) is.0 refl
settled held c recv args p (Some (Raises e), st) is = by_plan p (raises e) is.0 refl

-- Comparable

pub order_ends : (o : Order) → ((h : Held) (z : ℤ) → waits_in (ordering.decided h o (ordering.told o z)).plan ≡ None)
    → ((h : Held) → waits_in (ordering.refused_by o.row h o).plan ≡ None) → EndsAt (over_values.orders o)
order_ends o tells refuses_so = λ h a p goes.
    ap (λ (q : Planned over_values.Stage). waits_in q.plan) goes ∙ by_answer h a
  where
    by_answer : (h : Held) (a : Value) → waits_in (ordering.answered h o a).plan ≡ None
    by_answer h Nil = refuses_so h
    by_answer h True = refuses_so h
    by_answer h False = refuses_so h
    by_answer h (Int z) = tells h z
    by_answer h (Sym s) = refuses_so h
    by_answer h (Obj id) = refuses_so h

begun_if : (held : Held) (o : Order) (c : Bool) → EndsAt (over_values.orders o)
    → EndsIn (if c then gives held True else ordering.ask held o)
begun_if held o true ends = ends_there (gives held True) refl
begun_if held o false ends = waits_there (ordering.ask held o) (over_values.orders o) refl ends

ordered : (held : Held) (r : OrderRow) (recv : Value) (args : List Value) (p : Planned over_values.Stage)
    → EndsAt (over_values.orders (ordering.order r recv args)) → p ≡ ordering.begun held r recv args → EndsIn p
ordered held r recv args p ends is = same_ends p (ordering.begun held r recv args) is
    (begun_if held (ordering.order r recv args) (ordering.is_itself r recv (get_or args 0 Nil)) ends)

-- `[]` and `fetch` of a Hash

handing : EndsAt over_values.hands
handing h a p goes = ap (λ (q : Planned over_values.Stage). waits_in q.plan) goes

missing : EndsAt over_values.missing
missing h a p goes = ap (λ (q : Planned over_values.Stage). waits_in q.plan) goes

found : (held : Held) (absent : Planned over_values.Stage) (o : Option HashItem) → EndsIn absent
    → EndsIn (fetching.of_pair held absent o)
found held absent None ends = ends
found held absent (Some i) ends = ends_there (gives held i.value) refl

looked : (held : Held) (h : ObjId) (absent : Planned over_values.Stage) (o : Option Key) → EndsIn absent
    → EndsIn (fetching.under held h absent o)
looked held h absent None ends = ends_there (fetching.under held h absent None) refl
looked held h absent (Some k) ends = found held absent (pair_of held.store.objects h k) ends

default : (held : Held) (h : ObjId) (key v : Value) (o : Option ObjId) → EndsIn (fetching.default_by held h key v o)
default held h key v None = ends_there (gives held v) refl
default held h key v (Some p) = waits_there (fetching.called held p (Obj h ∷ key ∷ [])) over_values.hands refl handing

second : (held : Held) (key : Value) (o : Option Value) → EndsIn (fetching.second_or_failure held key o)
second held key (Some v) = ends_there (gives held v) refl
second held key None = waits_there (fetching.second_or_failure held key None) over_values.missing refl missing

absent : (held : Held) (args : List Value) (o : Option ObjId) → EndsIn (fetching.absent_by held args o)
absent held args (Some p) =
    waits_there (fetching.called held p (get_or args 0 Nil ∷ [])) over_values.hands refl handing
absent held args None = second held (get_or args 0 Nil) (slice_get args 1)

-- of a receiver of another class nothing is asked
of_class : (held : Held) (c : CoreClass) (recv : Value) (o : Option ObjId) (Further : ObjId → Type 0)
    (p : Planned over_values.Stage) → ((x : ObjId) → Further x → EndsIn p) → comparing.Of held c recv o Further p
    → EndsIn p
of_class held c recv None Further p ends is =
    ends_there p (ap (λ (q : Planned over_values.Stage). waits_in q.plan) is)
of_class held c recv (Some x) Further p ends is = ends x is

element : (held : Held) (recv : Value) (args : List Value) (block : Option ObjId) (p : Planned over_values.Stage)
    → comparing.OfHash comparing_row.HashElement held recv args block p → EndsIn p
element held recv args block p is = of_class held class.Hash recv (a_hash held.store.objects recv)
    (λ h. comparing.ForHash comparing_row.HashElement held h args block p) p
    (λ h e. let key = get_or args 0 Nil in
    same_ends p (fetching.element held h key) e
    (looked held h (fetching.default_of held h key) (key_of held.store.objects (own held.store key))
    (default held h key (hash_at held.store.objects h).default (hash_at held.store.objects h).block))) is

fetch : (held : Held) (recv : Value) (args : List Value) (block : Option ObjId) (p : Planned over_values.Stage)
    → comparing.OfHash comparing_row.HashFetch held recv args block p → EndsIn p
fetch held recv args block p is = of_class held class.Hash recv (a_hash held.store.objects recv)
    (λ h. comparing.ForHash comparing_row.HashFetch held h args block p) p
    (λ h e. let key = get_or args 0 Nil in
    same_ends p (fetching.fetch held h args block) e
    (looked held h (fetching.absent_by held args block) (key_of held.store.objects (own held.store key))
    (absent held args block))) is

-- `*` of an Array

times : (held : Held) (a : ObjId) (r : Result ℤ Cause) → waits_in (repeating.repeat_by held a r).plan ≡ None
times held a (Ok (pos n)) = refl
times held a (Ok (negsuc n)) = refl
times held a (Err c) = refl

repeats : (held : Held) (recv : Value) (args : List Value) (p : Planned over_values.Stage)
    → comparing.OfArray comparing_row.ArrayRepeat held recv args p → EndsIn p
repeats held recv args p is = of_class held class.Array recv (an_array held.store.objects recv)
    (λ a. comparing.ForArray comparing_row.ArrayRepeat held a args p) p
    (λ a e. same_ends p (repeating.repeat held a (get_or args 0 Nil)) e
    (ends_there (repeating.repeat held a (get_or args 0 Nil)) (times held a (integer held.store (get_or args 0 Nil))))) is

-- Row by row.

counted : (o : Option Cause) (held : Held) (p : Planned over_values.Stage) (Further : Type 0) → (Further → EndsIn p)
    → comparing.Unless o held p Further → EndsIn p
counted None held p Further ends is = ends is
counted (Some c) held p Further ends is =
    ends_there p (ap (λ (q : Planned over_values.Stage). waits_in q.plan) is)

by_order : (held : Held) (r : OrderRow) (recv : Value) (args : List Value) (p : Planned over_values.Stage)
    → compares_once (comparing_row.Order r) ≡ true → p ≡ ordering.begun held r recv args → EndsIn p
by_order held order_row.Less recv args p so is = ordered held order_row.Less recv args p
    (order_ends (ordering.order order_row.Less recv args) (λ h z. refl) (λ h. refl)) is
by_order held order_row.AtMost recv args p so is = ordered held order_row.AtMost recv args p
    (order_ends (ordering.order order_row.AtMost recv args) (λ h z. refl) (λ h. refl)) is
by_order held order_row.Greater recv args p so is = ordered held order_row.Greater recv args p
    (order_ends (ordering.order order_row.Greater recv args) (λ h z. refl) (λ h. refl)) is
by_order held order_row.AtLeast recv args p so is = ordered held order_row.AtLeast recv args p
    (order_ends (ordering.order order_row.AtLeast recv args) (λ h z. refl) (λ h. refl)) is
by_order held order_row.Equal recv args p so is = ordered held order_row.Equal recv args p
    (order_ends (ordering.order order_row.Equal recv args) (λ h z. refl) (λ h. refl)) is
by_order held order_row.Between recv args p so is = absurd (cc)
by_order held order_row.Clamp recv args p so is = absurd (cc)

abbrev asked_by : Held → Value → List Value → Option Given × Store
asked_by held recv args =
    outright (intern held.store (codes "==")).store recv (intern held.store (codes "==")).symbol args

by_row : (held : Held) (r : ComparingRow) (recv : Value) (args : List Value) (block : Option ObjId)
    (p : Planned over_values.Stage) → compares_once r ≡ true → comparing.Counted r held recv args block p → EndsIn p
by_row held comparing_row.Differs recv args block p so is =
    settled held true recv args p (asked_by held recv args) is
by_row held comparing_row.Matches recv args block p so is =
    settled held false recv args p (asked_by held recv args) is
by_row held comparing_row.ArrayEquality recv args block p so is = absurd (cc)
by_row held comparing_row.ArrayOrder recv args block p so is = absurd (cc)
by_row held comparing_row.ArrayIndex recv args block p so is = absurd (cc)
by_row held comparing_row.ArrayIncludes recv args block p so is = absurd (cc)
by_row held comparing_row.ArrayDelete recv args block p so is = absurd (cc)
by_row held comparing_row.ArrayDifference recv args block p so is = absurd (cc)
by_row held comparing_row.ArrayIntersection recv args block p so is = absurd (cc)
by_row held comparing_row.ArrayUnion recv args block p so is = absurd (cc)
by_row held comparing_row.ArrayRepeat recv args block p so is = repeats held recv args p is
by_row held comparing_row.ArrayJoin recv args block p so is = absurd (cc)
by_row held comparing_row.ArrayText recv args block p so is = absurd (cc)
by_row held comparing_row.HashElement recv args block p so is = element held recv args block p is
by_row held comparing_row.HashFetch recv args block p so is = fetch held recv args block p is
by_row held comparing_row.HashHasValue recv args block p so is = absurd (cc)
by_row held comparing_row.HashKeyOf recv args block p so is = absurd (cc)
by_row held comparing_row.HashEquality recv args block p so is = absurd (cc)
by_row held comparing_row.HashText recv args block p so is = absurd (cc)
by_row held (comparing_row.Order r) recv args block p so is = by_order held r recv args p so is

compared : (held : Held) (r : ComparingRow) (recv : Value) (args : List Value) (block : Option ObjId) (p : Planned Stage)
    → compares_once r ≡ true → Starts (row.Items (items_row.Compares r)) held recv args block p → EndsSoon p
compared held r recv args block p so starts =
    let outer = unmoved items (over_rows.Starts (items_row.Compares r) held recv args block) p starts in
    let inner = unmoved over_items.compares (comparing.Starts r held recv args block) outer.inner outer.meant in
    subst EndsSoon
    (sym (outer.same ∙ ap (λ (x : Planned over_items.Stage). as_moved items x) inner.same))
    (compared_soon inner.inner (counted (miscounted (length args) (comparing.counts r).0 (Some (comparing.counts r).1)) held
    inner.inner (comparing.Counted r held recv args block inner.inner)
    (λ is. by_row held r recv args block inner.inner so is) inner.meant))

over_items_soon : (held : Held) (r : ItemsRow) (recv : Value) (args : List Value) (block : Option ObjId)
    (p : Planned Stage) → wants_once (row.Items r) ≡ true → Starts (row.Items r) held recv args block p → EndsSoon p
over_items_soon held (items_row.Visits t) recv args block p so starts = absurd (cc)
over_items_soon held (items_row.Compares r) recv args block p so starts = compared held r recv args block p so starts
over_items_soon held (items_row.Enumerates r) recv args block p so starts =
    let k = unmoved items (over_rows.Starts (items_row.Enumerates r) held recv args block) p starts in
    enumerator_soon (enumerators.start r held recv args block) p
    (k.same ∙ ap (λ (x : Planned over_items.Stage). as_moved items x) k.meant)
over_items_soon held (items_row.Gathers r) recv args block p so starts = absurd (cc)

hash_made : (held : Held) (recv : Value) (args : List Value) (block : Option ObjId) (o : Option ObjId)
    → waiting (wanted held class.Hash recv o
    (λ h. gives (with_absent held h (get_or args 0 Nil) block) recv)).plan ≡ None
hash_made held recv args block None = refl
hash_made held recv args block (Some h) = refl

visit_soon : (held : Held) (r : VisitRow) (recv : Value) (args : List Value) (block : Option ObjId) (p : Planned Stage)
    → wants_once (row.Visit r) ≡ true → Starts (row.Visit r) held recv args block p → EndsSoon p
visit_soon held visit.Times recv args block p so starts = absurd (cc)
visit_soon held visit.Upto recv args block p so starts = absurd (cc)
visit_soon held visit.Downto recv args block p so starts = absurd (cc)
visit_soon held visit.Step recv args block p so starts = absurd (cc)
visit_soon held visit.EachCharacter recv args block p so starts = absurd (cc)
visit_soon held visit.EachByte recv args block p so starts = absurd (cc)
visit_soon held visit.EachLine recv args block p so starts = absurd (cc)
visit_soon held visit.InitializeArray recv args block p so starts = absurd (cc)
visit_soon held visit.EachElement recv args block p so starts = absurd (cc)
visit_soon held visit.EachIndex recv args block p so starts = absurd (cc)
visit_soon held visit.MapInPlace recv args block p so starts = absurd (cc)
visit_soon held visit.DeleteElements recv args block p so starts = absurd (cc)
visit_soon held visit.InitializeHash recv args block p so starts =
    unless (refused_by_visit visit.InitializeHash (length args)) held p (p ≡ filling.begin_hash held recv args block)
    (λ is. over p (ap (λ (q : Planned Stage). waiting q.plan) is
    ∙ hash_made held recv args block (a_hash held.store.objects recv))) starts
visit_soon held visit.EachPair recv args block p so starts = absurd (cc)
visit_soon held visit.EachKey recv args block p so starts = absurd (cc)
visit_soon held visit.EachValue recv args block p so starts = absurd (cc)
visit_soon held visit.DeletePairs recv args block p so starts = absurd (cc)
visit_soon held visit.EachOfRange recv args block p so starts = absurd (cc)
visit_soon held visit.StepOfRange recv args block p so starts = absurd (cc)

row_soon : (held : Held) (r : StarRow) (recv : Value) (args : List Value) (block : Option ObjId) (p : Planned Stage)
    → wants_once r ≡ true → Starts r held recv args block p → EndsSoon p
row_soon held (row.Kernel r) recv args block p so starts = soon held recv r args block p so starts
row_soon held (row.Visit r) recv args block p so starts = visit_soon held r recv args block p so starts
row_soon held (row.Items r) recv args block p so starts = over_items_soon held r recv args block p so starts

pub once_awaited : (r : StarRow) (held : Held) (recv : Value) (args : List Value) (block : Option ObjId) (ts : List Turn)
    (last : Planned Stage) → wants_once r ≡ true → Leaves r held recv args block ts last
    → (ts ≡ []) × Starts r held recv args block last
once_awaited r held recv args block ts last so run =
    let e = sole ts run.first last run.stage (row_soon held r recv args block run.first so run.starts) run.runs run.waits in
    (e.0, subst (λ (p : Planned Stage). Starts r held recv args block p) (sym e.1) run.starts)
