-- `[]` and `fetch` of a Hash, `*` of an Array, and what new Arrays and Hashes hold.
use Rattle.std.proofs.Common.{◌≡◌, ℕ, zero, suc, refl, sym, ap, subst, ◌∙◌, List, [], ◌∷◌, ◌++◌, length}
use Rattle.std.specs.Prelude.{ℤ, pos, codes, get_or, slice_get, Bool, true, false, ◌&&◌, Option, Some, None, option_map, Result, Ok}
use Rattle.rb_value.specs.declared.value.Value.{Value}
use Rattle.rb_value.specs.declared.value.Value.TheVariants.{Nil, True, False, Int, Sym, Obj}
use Rattle.rb_value.specs.declared.value.ObjId.{ObjId}
use Rattle.rb_value.specs.declared.key.Key.{Key}
use Rattle.rb_value.specs.declared.hash.HashItem.{HashItem}
use Rattle.rb_value.specs.declared.hash.HashContents.{HashContents}
use Rattle.rb_value.specs.declared.kind.Kind.{Kind}
use Rattle.rb_value.specs.declared.kind.Kind.TheVariants as kind
use Rattle.rb_value.specs.declared.core_class.CoreClass.TheVariants as class
use Rattle.rb_value.specs.Object.{Object}
use Rattle.rb_value.specs.Sort.{sort_of}
use Rattle.def_core.specs.declared.cause.Cause.{Cause}
use Rattle.def_core.specs.declared.cause.Cause.TheVariants as cause
use Rattle.def_core.specs.Parts.{elements_at, hash_at, hash_in, pair_of}
use Rattle.def_core.specs.Parts as parts
use Rattle.def_core.specs.Store.{Store, next_number, object_at}
use Rattle.def_calls.specs.Values.{key_of}
use Rattle.def_calls.specs.Views.{a_hash, an_array, hash_of, if_there}
use Rattle.rb_store.specs.Held.{Held}
use Rattle.heap.specs.Changes.{with_absent, with_elements}
use Rattle.heap.specs.Made.{array_given, with_array}
use Rattle.heap.specs.Operands.{has, has_all, is_hash, own, own_block}
use Rattle.core_calls.specs.Checks.{integer, miscounted}
use Rattle.def_plans.specs.Plan.{Planned, gives, refuses, wanted}
use Rattle.iter_comparing.specs.declared.row.ComparingRow.{ComparingRow}
use Rattle.iter_comparing.specs.declared.row.ComparingRow.TheVariants as comparing_row
use Rattle.iter_comparing.specs.Fetching as fetching
use Rattle.iter_comparing.specs.Repeating as repeating
use Rattle.iter_comparing.specs.Repeating.{repeated}
use Rattle.iter_comparing.specs.Rows as comparing
use Rattle.iter_comparing.specs.Stage as over_values
use Rattle.iter_items.specs.declared.row.ItemsRow.TheVariants as items_row
use Rattle.iter_items.specs.Moved.{as_moved}
use Rattle.iter_items.specs.Rows as over_rows
use Rattle.iter_items.specs.Stage as over_items
use Rattle.run_rows.specs.declared.row.StarRow.TheVariants as row
use Rattle.run_rows.specs.declared.row.VisitRow.TheVariants as visit
use Rattle.core_iter.specs.Filling as filling
use Rattle.core_iter.specs.Filling.{size_in}
use Rattle.core_iter.specs.Rows.{Unless, refused_by_visit}
use Rattle.core_iter.specs.Stage.{Stage, items}
use Rattle.items_laws.specs.Run.{Turn, Runs, Gives}
use Rattle.items_laws.specs.Handed.{HandsOn, as_answered, call_in}
use Rattle.items_laws.specs.Items.{IsArrayOf, IsValue}
use Rattle.items_laws.specs.Output.{IsAsked}
use Rattle.items_laws.specs.Raised.{IsRefused}
use Rattle.items_laws.specs.Stored.{IsLacking, looked_up}
use Rattle.items_laws.proofs.Course.{given, refused}
use Rattle.items_laws.proofs.Handing.{Handing, once}
use Rattle.items_laws.proofs.Held.{array_there, changed_if, elements_are, holds_these, kind_at, set_there}
use Rattle.items_laws.proofs.Inversion.{unmoved}
use Rattle.items_laws.proofs.Raising.{cause_in, stands}
use Rattle.items_laws.proofs.Sent.{lifted, opening}
use Rattle.items_laws.proofs.Small.{none_some, some_same}
use Rattle.items_laws.proofs.Speaking.{stepped}

-- a plan that comes first, of a Hash

record Comes (q : Planned over_values.Stage) (ts : List Turn) (last : Planned Stage) : Type 0 where
  runs : Runs (lifted q) ts last

of_hash : (r : ComparingRow) (held : Held) (recv : Value) (args : List Value) (block : Option ObjId) (h : ObjId)
    (first : Planned over_values.Stage) → a_hash held.store.objects recv ≡ Some h
    → comparing.OfHash r held recv args block first → comparing.ForHash r held h args block first
of_hash r held recv args block h first is starts = subst (λ (o : Option ObjId). comparing.Of held class.Hash recv o
    (λ x. comparing.ForHash r held x args block first) first) is starts

comes_so : (first q : Planned over_values.Stage) (ts : List Turn) (last : Planned Stage) → first ≡ q
    → Runs (lifted first) ts last → Comes q ts last
comes_so first q ts last is runs =
    record { runs = subst (λ (p : Planned over_values.Stage). Runs (lifted p) ts last) is runs }

-- `fetch` takes one argument or two
fetches : (held after : Held) (recv v : Value) (args : List Value) (block : Option ObjId) (h : ObjId) (ts : List Turn)
    (first : Planned over_values.Stage) (o : Option Cause) → a_hash held.store.objects recv ≡ Some h
    → comparing.Unless o held first (comparing.OfHash comparing_row.HashFetch held recv args block first)
    → Runs (lifted first) ts (gives after v) → Comes (fetching.fetch held h args block) ts (gives after v)
fetches held after recv v args block h ts first None is starts runs =
    comes_so first (fetching.fetch held h args block) ts (gives after v)
    (of_hash comparing_row.HashFetch held recv args block h first is starts) runs
fetches held after recv v args block h ts first (Some c) is starts runs =
    absurd (refused ts held c v after (comes_so first (refuses held c) ts (gives after v) starts runs).runs)

-- what is found under a key

found_by : (held : Held) (h : ObjId) (absent : Planned over_values.Stage) (o : Option Key) (q : Option HashItem)
    → option_map (pair_of held.store.objects h) o ≡ Some q
    → fetching.under held h absent o ≡ fetching.of_pair held absent q
found_by held h absent None q e = absurd (cc)
found_by held h absent (Some k) q e =
    ap (fetching.of_pair held absent) (some_same (pair_of held.store.objects h k) q e)

found : (held : Held) (h : ObjId) (key : Value) (absent : Planned over_values.Stage) (q : Option HashItem)
    → looked_up held.store h key ≡ Some q → fetching.look held h key absent ≡ fetching.of_pair held absent q
found held h key absent q e = found_by held h absent (key_of held.store.objects (own held.store key)) q e

-- a value that is given at once
at_once : (held after : Held) (x v : Value) (ts : List Turn) (q : Planned over_values.Stage) → q ≡ gives held x
    → Comes q ts (gives after v) → (ts ≡ []) × IsValue held x v after
at_once held after x v ts q is comes =
    let end = given ts held x v after
    (subst (λ (p : Planned over_values.Stage). Runs (lifted p) ts (gives after v)) is comes.runs) in
    (end.0, record { value = end.1; left = end.2 })

-- a Proc whose answer is given

hands_it : Handing (items (over_items.compares over_values.hands)) as_answered
hands_it = record {
  goes = λ held a p e.
      let outer = unmoved items (over_rows.GoesOn held (over_items.compares over_values.hands) a) p e in
      let inner = unmoved over_items.compares (comparing.GoesOn held over_values.hands a) outer.inner outer.meant in
      outer.same ∙ ap (λ (q : Planned over_items.Stage). as_moved items q) inner.same
      ∙ ap (λ (q : Planned over_values.Stage). lifted q) inner.meant;
}

by_block : (held after : Held) (b : ObjId) (args : List Value) (v : Value) (ts : List Turn)
    (q : Planned over_values.Stage) → q ≡ fetching.called held b args → Comes q ts (gives after v)
    → HandsOn (λ p. call_in p ≡ Some (b, args, None)) held.store as_answered ts v after
by_block held after b args v ts q is comes =
    once (λ p. call_in p ≡ Some (b, args, None)) (items (over_items.compares over_values.hands)) as_answered hands_it ts v
    after (lifted (fetching.called held b args)) refl refl
    (subst (λ (p : Planned over_values.Stage). Runs (lifted p) ts (gives after v)) is comes.runs)

-- `[]`

looks : (held after : Held) (recv key v : Value) (h : ObjId) (q : Option HashItem) (block : Option ObjId)
    (ts : List Turn) → a_hash held.store.objects recv ≡ Some h → looked_up held.store h key ≡ Some q
    → Gives (row.Items (items_row.Compares comparing_row.HashElement)) held recv (key ∷ []) block ts v after
    → Comes (fetching.of_pair held (fetching.default_of held h key) q) ts (gives after v)
looks held after recv key v h q block ts is there run =
    let b = opening comparing_row.HashElement held recv (key ∷ []) block ts run.first (gives after v) run.starts run.runs in
    comes_so b.first (fetching.of_pair held (fetching.default_of held h key) q) ts (gives after v)
    (of_hash comparing_row.HashElement held recv (key ∷ []) block h b.first is b.starts
    ∙ found held h key (fetching.default_of held h key) q there) b.runs

pub element_there : (held after : Held) (recv key v : Value) (h : ObjId) (item : HashItem) (block : Option ObjId)
    (ts : List Turn) → a_hash held.store.objects recv ≡ Some h → looked_up held.store h key ≡ Some (Some item)
    → Gives (row.Items (items_row.Compares comparing_row.HashElement)) held recv (key ∷ []) block ts v after
    → (ts ≡ []) × IsValue held item.value v after
element_there held after recv key v h item block ts is there run =
    at_once held after item.value v ts (gives held item.value) refl
    (looks held after recv key v h (Some item) block ts is there run)

pub element_default : (held after : Held) (recv key v : Value) (h : ObjId) (block : Option ObjId) (ts : List Turn)
    → a_hash held.store.objects recv ≡ Some h → looked_up held.store h key ≡ Some None
    → (hash_at held.store.objects h).block ≡ None
    → Gives (row.Items (items_row.Compares comparing_row.HashElement)) held recv (key ∷ []) block ts v after
    → (ts ≡ []) × IsValue held (hash_at held.store.objects h).default v after
element_default held after recv key v h block ts is absent none run =
    let default = (hash_at held.store.objects h).default in
    at_once held after default v ts (fetching.default_of held h key)
    (ap (λ (o : Option ObjId). fetching.default_by held h key default o) none)
    (looks held after recv key v h None block ts is absent run)

pub element_by_block : (held after : Held) (recv key v : Value) (h b : ObjId) (block : Option ObjId) (ts : List Turn)
    → a_hash held.store.objects recv ≡ Some h → looked_up held.store h key ≡ Some None
    → (hash_at held.store.objects h).block ≡ Some b
    → Gives (row.Items (items_row.Compares comparing_row.HashElement)) held recv (key ∷ []) block ts v after
    → HandsOn (λ p. call_in p ≡ Some (b, Obj h ∷ key ∷ [], None)) held.store as_answered ts v after
element_by_block held after recv key v h b block ts is absent some run =
    let default = (hash_at held.store.objects h).default in
    by_block held after b (Obj h ∷ key ∷ []) v ts (fetching.default_of held h key)
    (ap (λ (o : Option ObjId). fetching.default_by held h key default o) some)
    (looks held after recv key v h None block ts is absent run)

-- `fetch`

fetched : (held after : Held) (recv key v : Value) (more : List Value) (h : ObjId) (q : Option HashItem)
    (block : Option ObjId) (ts : List Turn) → a_hash held.store.objects recv ≡ Some h
    → looked_up held.store h key ≡ Some q
    → Gives (row.Items (items_row.Compares comparing_row.HashFetch)) held recv (key ∷ more) block ts v after
    → Comes (fetching.of_pair held (fetching.absent_by held (key ∷ more) block) q) ts (gives after v)
fetched held after recv key v more h q block ts is there run =
    let b = opening comparing_row.HashFetch held recv (key ∷ more) block ts run.first (gives after v) run.starts run.runs in
    let comes = fetches held after recv v (key ∷ more) block h ts b.first (miscounted (length (key ∷ more)) 1 (Some 2)) is
    b.starts b.runs in
    comes_so (fetching.fetch held h (key ∷ more) block)
    (fetching.of_pair held (fetching.absent_by held (key ∷ more) block) q) ts (gives after v)
    (found held h key (fetching.absent_by held (key ∷ more) block) q there) comes.runs

pub fetch_there : (held after : Held) (recv key v : Value) (more : List Value) (h : ObjId) (item : HashItem)
    (block : Option ObjId) (ts : List Turn) → a_hash held.store.objects recv ≡ Some h
    → looked_up held.store h key ≡ Some (Some item)
    → Gives (row.Items (items_row.Compares comparing_row.HashFetch)) held recv (key ∷ more) block ts v after
    → (ts ≡ []) × IsValue held item.value v after
fetch_there held after recv key v more h item block ts is there run =
    at_once held after item.value v ts (gives held item.value) refl
    (fetched held after recv key v more h (Some item) block ts is there run)

pub fetch_by_block : (held after : Held) (recv key v : Value) (more : List Value) (h b : ObjId) (ts : List Turn)
    → a_hash held.store.objects recv ≡ Some h → looked_up held.store h key ≡ Some None
    → Gives (row.Items (items_row.Compares comparing_row.HashFetch)) held recv (key ∷ more) (Some b) ts v after
    → HandsOn (λ p. call_in p ≡ Some (b, key ∷ [], None)) held.store as_answered ts v after
fetch_by_block held after recv key v more h b ts is absent run =
    by_block held after b (key ∷ []) v ts (fetching.absent_by held (key ∷ more) (Some b)) refl
    (fetched held after recv key v more h None (Some b) ts is absent run)

pub fetch_second : (held after : Held) (recv key y v : Value) (h : ObjId) (ts : List Turn)
    → a_hash held.store.objects recv ≡ Some h → looked_up held.store h key ≡ Some None
    → Gives (row.Items (items_row.Compares comparing_row.HashFetch)) held recv (key ∷ y ∷ []) None ts v after
    → (ts ≡ []) × IsValue held y v after
fetch_second held after recv key y v h ts is absent run =
    at_once held after y v ts (gives held y) refl
    (fetched held after recv key v (y ∷ []) h None None ts is absent run)

-- and where the key isn't there

abbrev asking : Held → Value → Planned Stage
asking held key = lifted (fetching.second_or_failure held key None)

lacks : (held after : Held) (key : Value) (c : Cause) (ts : List Turn) → Runs (asking held key) ts (refuses after c)
    → IsLacking held key ts c after
lacks held after key c [] runs = absurd (none_some c (ap (λ (p : Planned Stage). cause_in p.plan) runs))
lacks held after key c (t ∷ ts) runs =
    let waits = items (over_items.compares over_values.missing) in
    let k = stepped (asking held key) (asking held key) waits t ts (refuses after c) refl refl runs in
    let outer = unmoved items (over_rows.GoesOn t.held (over_items.compares over_values.missing) t.answer) k.next k.goes in
    let inner = unmoved over_items.compares (comparing.GoesOn t.held over_values.missing t.answer) outer.inner outer.meant in
    let fails = lifted (fetching.fail_absent t.held t.answer) in
    let next : k.next ≡ fails = outer.same ∙ ap (λ (q : Planned over_items.Stage). as_moved items q) inner.same
    ∙ ap (λ (q : Planned over_values.Stage). lifted q) inner.meant in
    let end = stands ts k.next fails (refuses after c) next refl k.runs in
    record {
      turn = t;
      alone = ap (λ (us : List Turn). t ∷ us) end.0;
      asks = subst (λ (p : Planned Stage). IsAsked (codes "inspect") held key p) (sym k.wanted)
          (record { message = refl; heap = refl });
      why = some_same c (cause.KeyNotFound (next_number t.held.store))
          (ap (λ (p : Planned Stage). cause_in p.plan) end.1);
      left = ap (λ (p : Planned Stage). p.held) end.1;
    }

pub fetch_fails : (held after : Held) (recv key : Value) (h : ObjId) (c : Cause) (ts : List Turn)
    → a_hash held.store.objects recv ≡ Some h → looked_up held.store h key ≡ Some None
    → IsRefused (row.Items (items_row.Compares comparing_row.HashFetch)) held recv (key ∷ []) None ts c after
    → IsLacking held key ts c after
fetch_fails held after recv key h c ts is absent run =
    let b = opening comparing_row.HashFetch held recv (key ∷ []) None ts run.first (refuses after c) run.starts run.runs in
    lacks held after key c ts (comes_so b.first (fetching.second_or_failure held key None) ts (refuses after c)
    (of_hash comparing_row.HashFetch held recv (key ∷ []) None h b.first is b.starts
    ∙ found held h key (fetching.absent_by held (key ∷ []) None) None absent) b.runs).runs

-- `*` of an Array

pub repeats : (held after : Held) (recv y v : Value) (a : ObjId) (n : ℕ) (block : Option ObjId) (ts : List Turn)
    → an_array held.store.objects recv ≡ Some a → integer held.store y ≡ Ok (pos n)
    → Gives (row.Items (items_row.Compares comparing_row.ArrayRepeat)) held recv (y ∷ []) block ts v after
    → (ts ≡ []) × IsArrayOf held (repeated n (elements_at held.store.objects a)) v after
repeats held after recv y v a n block ts is times run =
    let vs = repeated n (elements_at held.store.objects a) in
    let b = opening comparing_row.ArrayRepeat held recv (y ∷ []) block ts run.first (gives after v) run.starts run.runs in
    let starts = subst (λ (o : Option ObjId). comparing.Of held class.Array recv o
    (λ x. comparing.ForArray comparing_row.ArrayRepeat held x (y ∷ []) b.first) b.first) is b.starts in
    let comes = comes_so b.first (repeating.made held vs) ts (gives after v)
    (starts ∙ ap (λ (r : Result ℤ Cause). repeating.repeat_by held a r) times) b.runs in
    let end = given ts (with_array held vs) (array_given held.store vs) v after comes.runs in
    (end.0, record { value = end.1; left = end.2 })

-- New Arrays.

has_more : (st : Store) (vs us : List Value) → has_all st vs ≡ true → has_all st us ≡ true → has_all st (vs ++ us) ≡ true
has_more st [] us all others = others
has_more st (v ∷ vs) us all others = both (has st v) (has_all st vs) (has_all st (vs ++ us)) all
    (λ rest. has_more st vs us rest others)
  where
    both : (a b c : Bool) → (a && b) ≡ true → (b ≡ true → c ≡ true) → (a && c) ≡ true
    both true b c e f = f e
    both false b c e f = absurd (cc)

has_copies : (st : Store) (n : ℕ) (x : Value) → has st x ≡ true → has_all st (filling.copies n x) ≡ true
has_copies st zero x is = refl
has_copies st (suc n) x is = has_more st (filling.copies n x) (x ∷ []) (has_copies st n x is) (one (has st x) is)
  where
    one : (c : Bool) → c ≡ true → (c && true) ≡ true
    one c e = ap (λ (b : Bool). b && true) e

abbrev filled_with : Held → ObjId → ℕ → Value → Planned Stage
filled_with held a n x = filling.filled held a n x

new_array : (held after : Held) (a : ObjId) (n : ℕ) (x v : Value) (ts : List Turn) (first : Planned Stage)
    → first ≡ filled_with held a n x → Runs first ts (gives after v)
    → (ts ≡ []) × (v ≡ Obj a) × (after ≡ with_elements held a (repeated n (x ∷ [])))
new_array held after a n x v ts first is runs =
    let end = given ts (with_elements held a (repeated n (x ∷ []))) (Obj a) v after
    (subst (λ (p : Planned Stage). Runs p ts (gives after v)) is runs) in
    (end.0, end.1, end.2)

pub new_empty : (held after : Held) (recv v : Value) (a : ObjId) (block : Option ObjId) (ts : List Turn)
    → an_array held.store.objects recv ≡ Some a
    → Gives (row.Visit visit.InitializeArray) held recv [] block ts v after
    → (ts ≡ []) × (v ≡ Obj a) × (elements_at after.store.objects a ≡ [])
new_empty held after recv v a block ts is run =
    let end = new_array held after a 0 Nil v ts run.first (run.starts ∙ ap (λ (o : Option ObjId). wanted held class.Array recv o
    (λ x. filling.array_by held x [] block None)) is) run.runs in
    let there = array_there held.store.objects recv a is in (
      end.0,
      end.1,
      ap (λ (h : Held). elements_at h.store.objects a) end.2
          ∙ elements_are (with_elements held a []) a [] (holds_these held a there.elements [] refl there.is),
    )

new_sized : (held after : Held) (recv size v x : Value) (args : List Value) (a : ObjId) (n : ℕ) (ts : List Turn)
    (first : Planned Stage) → an_array held.store.objects recv ≡ Some a → size_in held.store size ≡ Ok n
    → get_or args 1 Nil ≡ x → slice_get args 0 ≡ Some size → has held.store x ≡ true
    → first ≡ filling.begin_array held recv args None → Runs first ts (gives after v)
    → (ts ≡ []) × (v ≡ Obj a) × (elements_at after.store.objects a ≡ repeated n (x ∷ []))
new_sized held after recv size v x args a n ts first is sized second there_first has_it starts runs =
    let end = new_array held after a n x v ts first (starts ∙ ap (λ (o : Option ObjId). wanted held class.Array recv o
    (λ y. filling.array_by held y args None (slice_get args 0))) is
    ∙ ap (λ (o : Option Value). filling.array_by held a args None o) there_first
    ∙ ap (λ (r : Result ℕ Cause). filling.sized held a args None r) sized
    ∙ ap (λ (y : Value). filled_with held a n y) second) runs in
    let there = array_there held.store.objects recv a is in
    let vs = repeated n (x ∷ []) in (
      end.0,
      end.1,
      ap (λ (h : Held). elements_at h.store.objects a) end.2
          ∙ elements_are (with_elements held a vs) a vs
          (holds_these held a there.elements vs (has_copies held.store n x has_it) there.is),
    )

pub new_of_nil : (held after : Held) (recv size v : Value) (a : ObjId) (n : ℕ) (ts : List Turn)
    → an_array held.store.objects recv ≡ Some a → size_in held.store size ≡ Ok n
    → Gives (row.Visit visit.InitializeArray) held recv (size ∷ []) None ts v after
    → (ts ≡ []) × (v ≡ Obj a) × (elements_at after.store.objects a ≡ repeated n (Nil ∷ []))
new_of_nil held after recv size v a n ts is sized run =
    new_sized held after recv size v Nil (size ∷ []) a n ts run.first is sized refl refl refl run.starts run.runs

pub new_of_one : (held after : Held) (recv size x v : Value) (a : ObjId) (n : ℕ) (ts : List Turn)
    → an_array held.store.objects recv ≡ Some a → size_in held.store size ≡ Ok n → has held.store x ≡ true
    → Gives (row.Visit visit.InitializeArray) held recv (size ∷ x ∷ []) None ts v after
    → (ts ≡ []) × (v ≡ Obj a) × (elements_at after.store.objects a ≡ repeated n (x ∷ []))
new_of_one held after recv size x v a n ts is sized has_it run =
    new_sized held after recv size v x (size ∷ x ∷ []) a n ts run.first is sized refl refl has_it run.starts run.runs

-- New Hashes.

record OfHash (k : Kind) : Type 0 where
  contents : HashContents
  is : k ≡ kind.Hash contents

hash_kind : (k : Kind) (i h : ObjId) → if_there (hash_of k) (Obj i) ≡ Some h → OfHash k × (i ≡ h)
hash_kind kind.Plain i h e = absurd (cc)
hash_kind (kind.Class c) i h e = absurd (cc)
hash_kind (kind.String s) i h e = absurd (cc)
hash_kind (kind.Array xs) i h e = absurd (cc)
hash_kind (kind.Hash x) i h e = (record { contents = x; is = refl }, some_same i h e)
hash_kind (kind.Range r) i h e = absurd (cc)
hash_kind (kind.Proc p) i h e = absurd (cc)
hash_kind (kind.CoreProc r k) i h e = absurd (cc)
hash_kind (kind.Fiber b c) i h e = absurd (cc)
hash_kind (kind.Exception m d) i h e = absurd (cc)
hash_kind (kind.Enumerator s) i h e = absurd (cc)
hash_kind (kind.Yielder b) i h e = absurd (cc)

hash_there : (objects : List Object) (recv : Value) (h : ObjId) → a_hash objects recv ≡ Some h
    → OfHash (object_at objects h).kind
hash_there objects Nil h e = absurd (cc)
hash_there objects True h e = absurd (cc)
hash_there objects False h e = absurd (cc)
hash_there objects (Int n) h e = absurd (cc)
hash_there objects (Sym s) h e = absurd (cc)
hash_there objects (Obj i) h e =
    let k = hash_kind (object_at objects i).kind i h e in
    subst (λ (j : ObjId). OfHash (object_at objects j).kind) k.1 k.0

no_hash : (x : HashContents) → kind.Plain ≡ kind.Hash x → ⊥
no_hash x e = cc

absent_kind : (held : Held) (h : ObjId) (default : Value) (block : Option ObjId) → OfHash (kind_at held h)
    → kind_at (with_absent held h default block) h ≡ kind.Hash (record (hash_at held.store.objects h) {
      default = own held.store default;
      block = own_block held.store block;
    })
absent_kind held h default block there =
    let objects = parts.with_absent held.store.objects h (own held.store default) (own_block held.store block) in
    ap (λ (k : Kind). kind_at (changed_if held objects (is_hash (sort_of k))) h) there.is
    ∙ set_there held.store.objects h (kind.Hash (record (hash_at held.store.objects h) {
      default = own held.store default;
      block = own_block held.store block;
    })) (kind.Hash there.contents) (no_hash there.contents) there.is

hash_begun : (held after : Held) (recv v : Value) (args : List Value) (h : ObjId) (block : Option ObjId)
    (ts : List Turn) (first : Planned Stage) (o : Option Cause) → a_hash held.store.objects recv ≡ Some h
    → Unless o held first (first ≡ filling.begin_hash held recv args block) → Runs first ts (gives after v)
    → (ts ≡ []) × (v ≡ recv) × (after ≡ with_absent held h (get_or args 0 Nil) block)
hash_begun held after recv v args h block ts first None is starts runs =
    given ts (with_absent held h (get_or args 0 Nil) block) recv v after
    (subst (λ (p : Planned Stage). Runs p ts (gives after v))
    (starts ∙ ap (λ (o : Option ObjId). wanted held class.Hash recv o
    (λ x. gives (with_absent held x (get_or args 0 Nil) block) recv)) is) runs)
hash_begun held after recv v args h block ts first (Some c) is starts runs =
    absurd (refused ts held c v after (subst (λ (p : Planned Stage). Runs p ts (gives after v)) starts runs))

pub new_hash : (held after : Held) (recv v : Value) (args : List Value) (h : ObjId) (block : Option ObjId)
    (ts : List Turn) → a_hash held.store.objects recv ≡ Some h
    → Gives (row.Visit visit.InitializeHash) held recv args block ts v after
    → (ts ≡ []) × (v ≡ recv) × (hash_at after.store.objects h ≡ record (hash_at held.store.objects h) {
      default = own held.store (get_or args 0 Nil);
      block = own_block held.store block;
    })
new_hash held after recv v args h block ts is run =
    let end = hash_begun held after recv v args h block ts run.first (refused_by_visit visit.InitializeHash (length args)) is
    run.starts run.runs in (
      end.0,
      end.1,
      ap (λ (k : Held). hash_at k.store.objects h) end.2
          ∙ ap (λ (k : Kind). hash_in k)
          (absent_kind held h (get_or args 0 Nil) block (hash_there held.store.objects recv h is)),
    )
