-- `each_slice`
use Rattle.std.proofs.Common.{◌≡◌, ℕ, zero, suc, ◌<◌, ◌+◌, ◌^◌, refl, sym, ap, subst, ◌∙◌, List, [], ◌∷◌, take, drop, arith}
use Rattle.std.specs.Prelude.{slice_get, Option, Some, None, Result, Ok}
use Rattle.rb_value.specs.declared.value.Value.{Value}
use Rattle.rb_value.specs.declared.value.ObjId.{ObjId}
use Rattle.def_core.specs.declared.cause.Cause.{Cause}
use Rattle.def_core.specs.Parts.{elements_at}
use Rattle.heap.specs.declared.finding.Site.{Site}
use Rattle.heap.specs.Made.{array_given, with_array}
use Rattle.rb_store.specs.Held.{Held, one_more}
use Rattle.core_calls.specs.declared.beat.Passed.TheVariants.{One}
use Rattle.def_plans.specs.Plan.{Planned, gives, calls}
use Rattle.iter_items.specs.declared.row.Task.TheVariants as task
use Rattle.iter_items.specs.declared.source.Source.{Source}
use Rattle.iter_items.specs.declared.source.Source.TheVariants as source
use Rattle.iter_items.specs.declared.visit.Visit.{Visit}
use Rattle.iter_items.specs.declared.wish.Wish.{Wish}
use Rattle.iter_items.specs.declared.wish.Wish.TheVariants as wish
use Rattle.iter_items.specs.Asking.{Taken, taken, after as after_item, slice_by, wishes}
use Rattle.iter_items.specs.Checks.{arguments, size_of, with_size}
use Rattle.iter_items.specs.Driving.{WantsOf, Comes, at_site, Begins, begins, visit_of}
use Rattle.iter_items.specs.Moved.{as_moved}
use Rattle.iter_items.specs.Sources as sources
use Rattle.iter_items.specs.Sources.{next}
use Rattle.iter_items.specs.Stage as over_items
use Rattle.core_iter.specs.Stage.{Stage, items}
use Rattle.items_laws.specs.Run.{Turn, Leads, Runs}
use Rattle.items_laws.specs.Items.{Visits, Iterates, IsRunOf, IsValue, Whole, call_of}
use Rattle.items_laws.specs.Lists.{alone}
use Rattle.items_laws.specs.Slices.{as_slice, slices}
use Rattle.items_laws.proofs.Begun.{begun_so}
use Rattle.items_laws.proofs.Course.{ended, waits_for, heard_of}
use Rattle.items_laws.proofs.Inversion.{begun, gone, Calling, arrives, comes_of, not_given}
use Rattle.items_laws.proofs.Reading.{counted}
use Rattle.items_laws.proofs.Pairs.{behind_one, none_behind}
use Rattle.items_laws.proofs.Small.{not_cons, tail_same}
use Rattle.items_laws.proofs.Visits.{visits_none, visits_more, next_held}

abbrev pub sized : ObjId → ℕ → Visit → Visit
sized b n v = record v { task = task.EachSlice; block = Some b; size = n; wish = None }

abbrev pub lifted : Planned over_items.Stage → Planned Stage
lifted p = as_moved items p

-- where nothing was taken the heap stays

taken_none : (n : ℕ) (held : Held) (s : Source) → (taken n held s).items ≡ [] → (taken n held s).held ≡ held
taken_none zero held s none = refl
taken_none (suc n) held s none = by_item (next held s).item refl none
  where
    by_item : (o : Option Value) → (next held s).item ≡ o
        → (after_item o (next held s) (taken n (next held s).held (next held s).source)).items ≡ []
        → (after_item o (next held s) (taken n (next held s).held (next held s).source)).held ≡ held
    by_item None e none = next_held held s e
    by_item (Some x) e none = absurd (cc)

-- the visit behind the items that were taken
abbrev pub behind : ObjId → ℕ → Visit → Taken → Visit
behind b n v t = sized b n (record v { source = t.source })

abbrev SlicesOf : ObjId → ℕ → List Turn → Held → Visit → Value → Held → Type 0
SlicesOf b n ts held v r after =
    Visits (slices n) held v.source b Whole alone ts (λ h xs. IsValue h v.receiver r after)

abbrev Recursion : ObjId → ℕ → List Turn → Value → Held → Type 0
Recursion b n ts r after = (held : Held) (v : Visit) (p : Planned over_items.Stage) → Begins held (sized b n v) p
    → Runs (lifted p) ts (gives after r) → SlicesOf b n ts held v r after

-- nothing is left

none_taken : (b : ObjId) (n : ℕ) (ts : List Turn) (r : Value) (after : Held) (held : Held) (v : Visit)
    (w : Wish) (u : Visit) (later : Held) (p : Planned over_items.Stage) → (taken n held v.source).items ≡ []
    → WantsOf (slice_by (behind b n v (taken n held v.source)) (taken n held v.source).held []) w u later
    → Comes later u w p → Runs (lifted p) ts (gives after r) → SlicesOf b n ts held v r after
none_taken b n ts r after held v w u later p none wants comes runs =
    let t = taken n held v.source in
    let m = behind b n v t in
    let end = ended ts t.held m v.receiver r after p
    (comes_of (wishes t.held m (wish.Ends v.receiver)) later u w p wants comes) runs in
    let item = ap (λ (xs : List Value). (as_slice xs t).item) none in
    subst (λ (us : List Turn). SlicesOf b n us held v r after) (sym end.0)
    (visits_none (slices n) held v.source b Whole alone (λ h xs. IsValue h v.receiver r after) item item refl
    (record { value = end.1; left = end.2 ∙ taken_none n held v.source none }))

-- a new Array of items is handed on

abbrev pub called_with : ObjId → ℕ → Visit → Taken → Value → List Value → Site → Planned Stage
called_with b n v t x xs site = record {
  plan = calls (items (over_items.visits (at_site (behind b n v t) site))) b
      (array_given t.held.store (x ∷ xs) ∷ []) None;
  held = with_array t.held (x ∷ xs);
}

slice_handed : (b : ObjId) (n : ℕ) (c : Turn) (ts : List Turn) (r : Value) (after : Held) (held : Held) (v : Visit)
    (x : Value) (xs : List Value) (site : Site) → Recursion b n ts r after
    → (taken n held v.source).items ≡ x ∷ xs
    → c.wanted ≡ called_with b n v (taken n held v.source) x xs site
    → Leads c (λ next. Runs next ts (gives after r)) → SlicesOf b n (c ∷ ts) held v r after
slice_handed b n c ts r after held v x xs site rest some same leads =
    let t = taken n held v.source in
    let m = at_site (behind b n v t) site in
    let slice = array_given t.held.store (x ∷ xs) in
    let is = ap (λ (ys : List Value). as_slice ys t) some in
    let stage = waits_for c (called_with b n v t x xs site) (items (over_items.visits m)) leads.stage same refl
    leads.waits in
    let next = heard_of c.held m c.answer leads.next leads.stage refl stage leads.follows in
    let g = gone c.held m c.answer next.inner next.meant in
    let more = rest c.held (at_site (record v { source = t.source }) site) next.inner
    (begins c.held g.later m g.visit g.wish next.inner g.hears g.comes)
    (subst (λ (q : Planned Stage). Runs q ts (gives after r)) next.same leads.further) in
    visits_more (slices n) held v.source b Whole alone alone c ts slice (slice ∷ [])
    (λ h xs. IsValue h v.receiver r after) (λ h xs. IsValue h v.receiver r after)
    (ap (λ (p : sources.Passed Source). p.item) is)
    (ap (λ (q : Planned Stage). call_of q.plan) same)
    (ap (λ (q : Planned Stage). q.held) same ∙ sym (ap (λ (p : sources.Passed Source). p.held) is))
    (subst (λ (p : sources.Passed Source).
    Visits (slices n) c.held p.source b Whole alone ts (λ h xs. IsValue h v.receiver r after)) (sym is) more)
    (λ NoneLeft e. e) (λ xs. refl) (λ h xs is. is)

some_taken : (b : ObjId) (n : ℕ) (ts : List Turn) (r : Value) (after : Held)
    → ((c : Turn) (us : List Turn) → ts ≡ c ∷ us → Recursion b n us r after) → (held : Held) (v : Visit)
    (x : Value) (xs : List Value) (p : Planned over_items.Stage) → (taken n held v.source).items ≡ x ∷ xs
    → Calling (with_array (taken n held v.source).held (x ∷ xs)) (behind b n v (taken n held v.source))
    (record { callee = b; passed = One (array_given (taken n held v.source).held.store (x ∷ xs)) }) p
    → Runs (lifted p) ts (gives after r) → SlicesOf b n ts held v r after
some_taken b n [] r after rest held v x xs p some k runs = absurd (not_given
    (called_with b n v (taken n held v.source) x xs k.site) after r refl (ap lifted (sym k.same) ∙ runs))
some_taken b n (c ∷ ts) r after rest held v x xs p some k runs =
    slice_handed b n c ts r after held v x xs k.site (rest c ts refl) some (runs.0 ∙ ap lifted k.same) runs.1

by_taken : (b : ObjId) (n : ℕ) (ts : List Turn) (r : Value) (after : Held)
    → ((c : Turn) (us : List Turn) → ts ≡ c ∷ us → Recursion b n us r after) → (held : Held) (v : Visit)
    (xs : List Value) (w : Wish) (u : Visit) (later : Held) (p : Planned over_items.Stage)
    → (taken n held v.source).items ≡ xs
    → WantsOf (slice_by (behind b n v (taken n held v.source)) (taken n held v.source).held xs) w u later
    → Comes later u w p → Runs (lifted p) ts (gives after r) → SlicesOf b n ts held v r after
by_taken b n ts r after rest held v [] w u later p are wants comes runs =
    none_taken b n ts r after held v w u later p are wants comes runs
by_taken b n ts r after rest held v (x ∷ xs) w u later p are wants comes runs =
    let t = taken n held v.source in
    let m = behind b n v t in
    let k = with_array t.held (x ∷ xs) in
    let call : Wish = wish.Calls (record { callee = b; passed = One (array_given t.held.store (x ∷ xs)) }) in
    some_taken b n ts r after rest held v x xs p are
    (arrives k m call p (comes_of (wishes k m call) later u w p wants comes)) runs

slice_step : (b : ObjId) (n : ℕ) (ts : List Turn) (r : Value) (after : Held)
    → ((c : Turn) (us : List Turn) → ts ≡ c ∷ us → Recursion b n us r after) → Recursion b n ts r after
slice_step b n ts r after rest = λ held v p comes runs.
    let g = begun held (sized b n v) p comes in
    by_taken b n ts r after rest held v (taken n held v.source).items g.wish g.visit g.later p refl g.wants g.comes runs

slice_course : (b : ObjId) (n : ℕ) (ts : List Turn) (r : Value) (after : Held) → Recursion b n ts r after
slice_course b n [] r after = slice_step b n [] r after (λ c us e. absurd (not_cons c us (sym e)))
slice_course b n (c ∷ ts) r after = slice_step b n (c ∷ ts) r after
    (λ d us e. subst (λ (xs : List Turn). Recursion b n xs r after) (tail_same c d ts us e)
    (slice_course b n ts r after))

pub sliced : (held after : Held) (recv size v : Value) (n : ℕ) (s : Source) (b : ObjId) (ts : List Turn)
    → size_of held.store size ≡ Ok n → IsRunOf task.EachSlice held recv s (size ∷ []) b ts v after
    → Iterates (slices n) held s b Whole alone ts (λ h items. IsValue h recv v after)
sliced held after recv size v n s b ts is_size is =
    let st = begun_so task.EachSlice held recv s (size ∷ []) b None None n ts v after
    (ap (λ (x : Result ℕ Cause). with_size x) is_size) is in
    record {
      begun = st.begun;
      same = st.same;
      visits = slice_course b n ts v after st.begun
          (visit_of task.EachSlice recv s None (arguments None None n) (Some b)) st.first st.begins st.runs;
    }

-- the items that are taken of an Array

one_taken : (held : Held) (a : ObjId) (n k : ℕ) (o : Option Value)
    → slice_get (elements_at held.store.objects a) k ≡ o → one_more k ≡ k + 1
    → (taken n held (source.Elements a (k + 1))).items ≡ take n (drop (k + 1) (elements_at held.store.objects a))
    → (after_item o (next held (source.Elements a k)) (taken n held (source.Elements a (one_more k)))).items
    ≡ take (suc n) (drop k (elements_at held.store.objects a))
one_taken held a n k None e one rest =
    ap (λ (xs : List Value). take (suc n) xs) (sym (none_behind (elements_at held.store.objects a) k e))
one_taken held a n k (Some x) e one rest =
    let xs = elements_at held.store.objects a in
    ap (λ (m : ℕ). x ∷ (taken n held (source.Elements a m)).items) one
    ∙ ap (λ (ys : List Value). x ∷ ys) rest ∙ ap (λ (m : ℕ). x ∷ take n (drop m xs)) (more k)
    ∙ ap (λ (ys : List Value). take (suc n) ys) (sym (behind_one xs k x e))
  where
    more : (k : ℕ) → k + 1 ≡ suc k
    more k = omega arith

pub slice_of_array : (held : Held) (a : ObjId) (n k : ℕ) → k + n < 2 ^ 64
    → (taken n held (source.Elements a k)).items ≡ take n (drop k (elements_at held.store.objects a))
slice_of_array held a zero k less = refl
slice_of_array held a (suc n) k less = one_taken held a n k (slice_get (elements_at held.store.objects a) k) refl
    (counted k (omega (arith, less))) (slice_of_array held a n (k + 1) (omega (arith, less)))
