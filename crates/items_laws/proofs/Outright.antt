-- `any?`, `all?` and `none?` without a block, and `count` without a block and a value: nothing is called.
use Rattle.std.proofs.Common.{◌≡◌, ℕ, zero, suc, ◌<◌, ◌≤◌, ◌+◌, ◌-◌, ◌^◌, refl, sym, ap, subst, ◌∙◌, List, [], ◌∷◌, length, drop, arith}
use Rattle.std.specs.Prelude.{slice_get, not, Bool, true, false, Option, Some, None}
use Rattle.std.proofs.lemmas.List.{at_drop_all}
use Rattle.rb_value.specs.declared.value.Value.{Value}
use Rattle.rb_value.specs.declared.value.ObjId.{ObjId}
use Rattle.rb_value.specs.Value.{is_true, truth}
use Rattle.def_core.specs.Parts.{elements_at}
use Rattle.def_core.specs.Store.{Store}
use Rattle.def_calls.specs.Views.{an_array}
use Rattle.rb_store.specs.Held.{Held, one_more}
use Rattle.def_plans.specs.Plan.{Planned, gives}
use Rattle.iter_items.specs.declared.row.Task.{Task}
use Rattle.iter_items.specs.declared.row.Task.TheVariants as task
use Rattle.iter_items.specs.declared.row.ItemsRow.TheVariants as items_row
use Rattle.iter_items.specs.declared.source.Source.TheVariants as source
use Rattle.iter_items.specs.declared.visit.Visit.{Visit}
use Rattle.iter_items.specs.declared.wish.Wish.{Wish}
use Rattle.iter_items.specs.declared.wish.Wish.TheVariants as wish
use Rattle.iter_items.specs.Asking.{Wished, asked, decides, is_any, tested, tested_from, tested_on, wishes}
use Rattle.iter_items.specs.Checks.{arguments}
use Rattle.iter_items.specs.Driving.{Begins, WantsBy, WantsOf, visit_of}
use Rattle.iter_items.specs.Moved.{as_moved}
use Rattle.iter_items.specs.Sources as sources
use Rattle.iter_items.specs.Sources.{of_array, source_of}
use Rattle.iter_items.specs.Stage as over_items
use Rattle.run_rows.specs.declared.row.StarRow.TheVariants as row
use Rattle.core_iter.specs.Stage.{items}
use Rattle.items_laws.specs.Run.{Turn, Runs, Gives}
use Rattle.items_laws.specs.Lists.{any_of, is_untrue}
use Rattle.items_laws.proofs.Begun.{started}
use Rattle.items_laws.proofs.Course.{ended}
use Rattle.items_laws.proofs.Inversion.{begun, comes_of}
use Rattle.items_laws.proofs.Pairs.{behind_one, none_left}
use Rattle.items_laws.proofs.Reading.{counted}

abbrev elements : Held → ObjId → List Value
elements held a = elements_at held.store.objects a

-- what is told where some element decides, or none does
abbrev pub answer_of : Task → Bool → Value
answer_of t true = truth (is_any t)
answer_of t false = truth (not (is_any t))

record Tells (x : Wished) (v : Value) (held : Held) : Type 0 where
  wish_is : x.wish ≡ Some (wish.Ends v)
  same : x.held ≡ held

abbrev at_place : Task → ObjId → ℕ → Visit → Visit
at_place t a k v = record v { task = t; block = None; source = source.Elements a k }

-- the elements from a place on

none_further : (t : Task) (held : Held) (a : ObjId) (k : ℕ) (v : Visit) → length (elements held a) ≤ k
    → Tells (tested_from zero held (at_place t a k v)) (answer_of t (any_of (decides t) (drop k (elements held a)))) held
none_further t held a k v past = record {
  wish_is = ap (λ (xs : List Value). Some (wish.Ends (answer_of t (any_of (decides t) xs))))
      (sym (at_drop_all (λ ys. ys) (elements held a) k past));
  same = refl;
}

abbrev element_by : Task → Held → ObjId → ℕ → Visit → Wished → Option Value → Wished
element_by t held a k v rest o = tested_on (at_place t a k v) o (sources.gives held (source.Elements a (one_more k)) o) rest

decided : (t : Task) (held : Held) (a : ObjId) (k : ℕ) (v : Visit) (x : Value) (xs : List Value) (rest : Wished) (c : Bool)
    → decides t x ≡ c → Tells rest (answer_of t (any_of (decides t) xs)) held
    → Tells (element_by t held a k v rest (Some x)) (answer_of t (any_of (decides t) (x ∷ xs))) held
decided t held a k v x xs rest true decides_so tells = rw decides_so (record { wish_is = refl; same = refl })
decided t held a k v x xs rest false decides_so tells = rw decides_so tells

abbrev FromPlace : Task → Held → ObjId → ℕ → ℕ → Visit → Type 0
FromPlace t held a n k v = Tells (tested_from n held (at_place t a k v))
    (answer_of t (any_of (decides t) (drop k (elements held a)))) held

by_element : (t : Task) (held : Held) (a : ObjId) (n k : ℕ) (v : Visit) (o : Option Value)
    → length (elements held a) < 2 ^ 64 → k + suc n ≡ length (elements held a) → slice_get (elements held a) k ≡ o
    → (one_more k + n ≡ length (elements held a) → FromPlace t held a n (one_more k) v) → FromPlace t held a (suc n) k v
by_element t held a n k v None less sum there rest =
    absurd (omega (arith, sum, none_left (elements held a) k there))
by_element t held a n k v (Some x) less sum there rest =
    let one = counted k (omega (arith, less, sum)) in
    let next_place : one_more k ≡ suc k = omega (arith, one) in
    let more = rest (omega (arith, sum, one)) in
    let further = tested_from n held (at_place t a (one_more k) v) in
    let tells = subst (λ (j : ℕ). Tells further (answer_of t (any_of (decides t) (drop j (elements held a)))) held)
    next_place more in
    subst (λ (ys : List Value). Tells (tested_from (suc n) held (at_place t a k v))
    (answer_of t (any_of (decides t) ys)) held) (sym (behind_one (elements held a) k x there))
    (subst (λ (o : Option Value). Tells (element_by t held a k v further o)
    (answer_of t (any_of (decides t) (x ∷ drop (suc k) (elements held a)))) held) (sym there)
    (decided t held a k v x (drop (suc k) (elements held a)) further (decides t x) refl tells))

tested_so : (t : Task) (held : Held) (a : ObjId) (n k : ℕ) (v : Visit) → length (elements held a) < 2 ^ 64
    → k + n ≡ length (elements held a) → FromPlace t held a n k v
tested_so t held a zero k v less sum = none_further t held a k v (omega (arith, sum))
tested_so t held a (suc n) k v less sum = by_element t held a n k v (slice_get (elements held a) k) less sum refl
    (λ more. tested_so t held a n (one_more k) v less more)

-- a run of such a method

told : (t : Task) (held : Held) (a : ObjId) (u : Visit) (p : Planned over_items.Stage) (ts : List Turn) (v : Value)
    (after : Held) → asked held (at_place t a 0 u) ≡ tested held (at_place t a 0 u)
    → length (elements held a) < 2 ^ 64 → Begins held (at_place t a 0 u) p → Runs (as_moved items p) ts (gives after v)
    → (ts ≡ []) × (v ≡ answer_of t (any_of (decides t) (elements held a))) × (after ≡ held)
told t held a u p ts v after asks less beginning runs =
    let g = begun held (at_place t a 0 u) p beginning in
    let x = tested held (at_place t a 0 u) in
    let tells = tested_so t held a (length (elements held a) - 0) 0 u less (omega arith) in
    let r = answer_of t (any_of (decides t) (elements held a)) in
    let wants = subst (λ (o : Option Wish). WantsBy x.held x.visit o g.wish g.visit g.later) tells.wish_is
    (subst (λ (y : Wished). WantsOf y g.wish g.visit g.later) asks g.wants) in
    let e = ended ts x.held x.visit r v after p
    (comes_of (wishes x.held x.visit (wish.Ends r)) g.later g.visit g.wish p wants g.comes) runs in
    (e.0, e.1, e.2 ∙ tells.same)

abbrev first_visit : Task → Value → ObjId → Visit
first_visit t recv a = visit_of t recv (source.Elements a 0) None (arguments None None 0) None

over_array : (held : Held) (recv : Value) (a : ObjId) → an_array held.store.objects recv ≡ Some a
    → source_of held.store recv false ≡ Some (source.Elements a 0)
over_array held recv a array = ap (λ (o : Option ObjId). of_array held.store recv false o) array

-- the store is that in which the method was called
abbrev Told : Held → ObjId → List Turn → (List Value → Value) → Value → Held → Type 0
Told held a ts answer v after =
    (ts ≡ []) × (v ≡ answer (elements held a)) × (after.store ≡ held.store)

told_from : (t : Task) (held h : Held) (a : ObjId) (ts : List Turn) (v : Value) (after : Held) (answer : List Value → Value)
    → ((xs : List Value) → answer_of t (any_of (decides t) xs) ≡ answer xs) → h.store ≡ held.store
    → (ts ≡ []) × (v ≡ answer_of t (any_of (decides t) (elements h a))) × (after ≡ h) → Told held a ts answer v after
told_from t held h a ts v after answer is same e = (
  e.0,
  e.1 ∙ is (elements h a) ∙ ap (λ (st : Store). answer (elements_at st.objects a)) same,
  ap (λ (k : Held). k.store) e.2 ∙ same,
)

shorter : (held h : Held) (a : ObjId) → h.store ≡ held.store → length (elements held a) < 2 ^ 64
    → length (elements h a) < 2 ^ 64
shorter held h a same less = subst (λ (st : Store). length (elements_at st.objects a) < 2 ^ 64) (sym same) less

pub any_is : (c : Bool) → answer_of task.Any c ≡ truth c
any_is true = refl
any_is false = refl

pub all_is : (c : Bool) → answer_of task.All c ≡ truth (not c)
all_is true = refl
all_is false = refl

pub none_is : (c : Bool) → answer_of task.Never c ≡ truth (not c)
none_is true = refl
none_is false = refl

pub any_outright : (held after : Held) (recv v : Value) (a : ObjId) (ts : List Turn)
    → length (elements held a) < 2 ^ 64 → an_array held.store.objects recv ≡ Some a
    → Gives (row.Items (items_row.Visits task.Any)) held recv [] None ts v after
    → Told held a ts (λ xs. truth (any_of is_true xs)) v after
any_outright held after recv v a ts less array run =
    let st = started task.Any held recv (source.Elements a 0) [] None None 0 None ts v after refl
    (over_array held recv a array) run in
    told_from task.Any held st.begun a ts v after (λ xs. truth (any_of is_true xs))
    (λ xs. any_is (any_of is_true xs)) st.same
    (told task.Any st.begun a (first_visit task.Any recv a) st.first ts v after refl
    (shorter held st.begun a st.same less) st.begins st.runs)

pub all_outright : (held after : Held) (recv v : Value) (a : ObjId) (ts : List Turn)
    → length (elements held a) < 2 ^ 64 → an_array held.store.objects recv ≡ Some a
    → Gives (row.Items (items_row.Visits task.All)) held recv [] None ts v after
    → Told held a ts (λ xs. truth (not (any_of is_untrue xs))) v after
all_outright held after recv v a ts less array run =
    let st = started task.All held recv (source.Elements a 0) [] None None 0 None ts v after refl
    (over_array held recv a array) run in
    told_from task.All held st.begun a ts v after (λ xs. truth (not (any_of is_untrue xs)))
    (λ xs. all_is (any_of is_untrue xs)) st.same
    (told task.All st.begun a (first_visit task.All recv a) st.first ts v after refl
    (shorter held st.begun a st.same less) st.begins st.runs)

pub none_outright : (held after : Held) (recv v : Value) (a : ObjId) (ts : List Turn)
    → length (elements held a) < 2 ^ 64 → an_array held.store.objects recv ≡ Some a
    → Gives (row.Items (items_row.Visits task.Never)) held recv [] None ts v after
    → Told held a ts (λ xs. truth (not (any_of is_true xs))) v after
none_outright held after recv v a ts less array run =
    let st = started task.Never held recv (source.Elements a 0) [] None None 0 None ts v after refl
    (over_array held recv a array) run in
    told_from task.Never held st.begun a ts v after (λ xs. truth (not (any_of is_true xs)))
    (λ xs. none_is (any_of is_true xs)) st.same
    (told task.Never st.begun a (first_visit task.Never recv a) st.first ts v after refl
    (shorter held st.begun a st.same less) st.begins st.runs)
