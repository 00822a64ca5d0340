-- What an iteration wants next keeps a world fine.
use Rattle.std.proofs.Common.{ℕ, ℤ, zero, suc, ◌+◌, List, [], ◌∷◌, ◌++◌, length, get_or, drop, Bool, true, false, refl, if◌then◌else◌}
use Rattle.std.specs.Prelude.{Option, Some, None, pos, nat_lt, codes}
use Rattle.rb_value.specs.declared.value.Value.{Value}
use Rattle.rb_value.specs.declared.value.Value.TheVariants.{Nil, Int, Obj}
use Rattle.rb_value.specs.declared.value.ObjId.{ObjId}
use Rattle.rb_value.specs.declared.kind.Kind.{Kind}
use Rattle.rb_value.specs.declared.kind.Kind.TheVariants as kind
use Rattle.rb_value.specs.declared.kind.Sort.TheVariants as sort
use Rattle.rb_value.specs.declared.core_class.CoreClass.{CoreClass}
use Rattle.rb_value.specs.declared.core_class.CoreClass.TheVariants as class
use Rattle.def_core.specs.declared.cause.Cause.{Cause}
use Rattle.def_core.specs.declared.cause.Cause.TheVariants as cause
use Rattle.def_core.specs.Store.{core, fresh, next_number, with_object}
use Rattle.def_core.specs.Classes.{lineage, is_member, plain_class_of}
use Rattle.def_core.specs.Bind.{elements_in}
use Rattle.def_core.specs.Parts.{no_pairs}
use Rattle.def_core.specs.Texts.{class_name}
use Rattle.def_core.specs.Changes.{intern, is_class_sort, object_of_sort}
use Rattle.def_core.specs.Sound.{Census, census, Any, Class, Array, Proc, Fiber, Is, IsSymbol, IsValue, OptionIs, AllAre, SoundKind, SoundObject}
use Rattle.def_core.proofs.Grows.{core_is_class}
use Rattle.def_core.proofs.Good.{role_object}
use Rattle.def_core.proofs.PartsSound.{all_more, all_rest}
use Rattle.rb_store.proofs.Start.{interned_symbol}
use Rattle.rb_raise.specs.Causes.{SoundCause}
use Rattle.class_model.proofs.Lineages.{any_of}
use Rattle.def_rows.specs.Answers.{items_object, text_object}
use Rattle.run_values.proofs.Made.{new_is, items_sound, text_sound}
use Rattle.def_calls.specs.World.{World, with_store}
use Rattle.def_calls.specs.Views.{object_in, integer_in, symbol_in, present, kind_in, string_of, detail_of, an_array, a_proc, a_fiber, an_exception}
use Rattle.def_calls.specs.Checks.{counted, with_block, wanted}
use Rattle.def_calls.specs.Values.{text_of_value, shown}
use Rattle.def_calls.specs.Rows as rows
use Rattle.def_calls.specs.Plans.{Iteration, begun, handing, putting, putting_text, printing, printing_text, inspecting, inspecting_text, raising, looping, visiting, counting, initializing, messaging, telling, telling_text, reporting, reported, Plan, finishes, fails, raises, sends, calls, writes, reads, resumes, yields, Planned, plans, refuse, sends_named, both, all_flat, flat_by, flattened, line, puts_value, puts_next, puts_flat, puts_all, print_next, gives_all, inspect_next, raise_text, with_another, raise_by, raise_value, raise_all, raise_made, elements, visit_next, steps_up, count_next, kind_by, new_kinds, kind_for, initialize_new, new_of, ask, ask_exception, other_object, is_it, messaging_by, give_message, inspected, told, tell, text_or_nil, send_to, start, next, result_if_stop, caught}
use Rattle.world_laws.specs.Fine.{Bodies, Extends, IsException, KindIs, Fine}
use Rattle.world_laws.specs.Outcomes.{StateIs, PlanIs, PlannedIs}
use Rattle.world_laws.proofs.Growing.{sort_stays, role_stays, value_stays, option_stays, all_stay}
use Rattle.world_laws.proofs.Standing.{keeps_itself, keeps_then}
use Rattle.world_laws.proofs.Stores.{keeps_object, keeps_interned}
use Rattle.world_laws.proofs.Answers.{new_sort}
use Rattle.world_laws.proofs.Changing.{has_any, keeps_message}
use Rattle.world_laws.proofs.Holding.{object_is, symbol_is, class_is, array_is, proc_is, fiber_is, exception_is, exception_itself, elements_are, detail_is, present_is}
use Rattle.world_laws.proofs.Searching.{plain_class_is}
use Rattle.world_laws.proofs.Values.{value_at}
use Rattle.world_laws.proofs.Checking.{anything, counted_is, block_is, wanted_is}

-- What an iteration keeps is right in later worlds.

module _ (w v : World) (e : Extends w v) where
  pub values_stay : (xs : List Value) → AllAre (IsValue (census w.store)) xs → AllAre (IsValue (census v.store)) xs
  values_stay xs all = all_stay (IsValue (census w.store)) (IsValue (census v.store)) (value_stays w v e) xs all

  pub block_stays : (o : Option ObjId) → OptionIs (Is (census w.store) Proc) o → OptionIs (Is (census v.store) Proc) o
  block_stays o h = option_stays (Is (census w.store) Proc) (Is (census v.store) Proc) (role_stays w v e Proc) o h

  pub state_stays : (it : Iteration) → StateIs (census w.store) it → StateIs (census v.store) it
  state_stays (begun row recv args block) h =
      (value_stays w v e recv h.0, values_stay args h.1, block_stays block h.2)
  state_stays handing h = tt
  state_stays (putting xs) h = values_stay xs h
  state_stays (putting_text xs) h = values_stay xs h
  state_stays (printing xs) h = values_stay xs h
  state_stays (printing_text xs) h = values_stay xs h
  state_stays (inspecting xs ys) h = (values_stay xs h.0, values_stay ys h.1)
  state_stays (inspecting_text xs ys) h = (values_stay xs h.0, values_stay ys h.1)
  state_stays raising h = tt
  state_stays (looping p) h = role_stays w v e Proc p h
  state_stays (visiting a i p) h = (role_stays w v e Array a h.0, role_stays w v e Proc p h.1)
  state_stays (counting z i p) h = role_stays w v e Proc p h
  state_stays (initializing x) h = value_stays w v e x h
  state_stays (messaging x) h = value_stays w v e x h
  state_stays (telling x) h = value_stays w v e x h
  state_stays (telling_text x) h = value_stays w v e x h
  state_stays (reporting x) h = sort_stays w v e sort.Exception x h
  state_stays (reported x) h = sort_stays w v e sort.Exception x h

-- The elements of nested Arrays.

both_are : (k : Census) (o p : Option (List Value)) → OptionIs (AllAre (IsValue k)) o → OptionIs (AllAre (IsValue k)) p
    → OptionIs (AllAre (IsValue k)) (both o p)
both_are k None p h g = tt
both_are k (Some xs) None h g = tt
both_are k (Some xs) (Some ys) h g = all_more (IsValue k) xs ys h g

all_flat_are : (k : Census) (flat : Value → Option (List Value))
    → ((v : Value) → IsValue k v → OptionIs (AllAre (IsValue k)) (flat v)) → (vs : List Value) → AllAre (IsValue k) vs
    → OptionIs (AllAre (IsValue k)) (all_flat flat vs)
all_flat_are k flat f [] all = tt
all_flat_are k flat f (v ∷ vs) all =
    both_are k (flat v) (all_flat flat vs) (f v all.0) (all_flat_are k flat f vs all.1)

flat_by_is : (k : Census) (flat : Value → Option (List Value))
    → ((v : Value) → IsValue k v → OptionIs (AllAre (IsValue k)) (flat v)) → (v : Value) (o : Option (List Value))
    → IsValue k v → OptionIs (AllAre (IsValue k)) o → OptionIs (AllAre (IsValue k)) (flat_by flat v o)
flat_by_is k flat f v None is h = (is, tt)
flat_by_is k flat f v (Some vs) is h = all_flat_are k flat f vs h

elements_or_none : (k : Census) (o : Option (List Value)) → OptionIs (AllAre (IsValue k)) o
    → AllAre (IsValue k) (elements o)
elements_or_none k None h = tt
elements_or_none k (Some xs) h = h

-- What an object of a new class is made with holds nothing.

new_kind : (P : Kind → Type 0) → P kind.Plain → (ks : List (CoreClass × Option Kind))
    → AllAre (λ x. OptionIs P x.1) ks → (above : List ObjId) → OptionIs P (kind_by ks above)
new_kind P plain [] all above = plain
new_kind P plain (x ∷ xs) all above = by (is_member above (core x.0)) (new_kind P plain xs all.1 above)
  where
    by : (c : Bool) → OptionIs P (kind_by xs above) → OptionIs P (if c then x.1 else kind_by xs above)
    by true rest = all.0
    by false rest = rest

kind_for_sound : (k : Census) (n : ℕ) (w : World) (c : ObjId)
    → OptionIs (SoundKind k n) (kind_for w.store.objects c)
unfolding kind_for
kind_for_sound k n w c = new_kind (SoundKind k n) tt new_kinds (
  (tt, tt),
  (
    tt,
    (
      tt,
      (
        record { pairs = tt; default = tt; block = tt },
        (tt, (tt, (tt, (tt, (tt, (tt, (tt, (tt, (tt, (tt, (tt, tt))))))))))),
      ),
    ),
  ),
)
    (lineage w.store.objects c)

kind_for_is : (b : Bodies) (w : World) (c : ObjId) → OptionIs (KindIs b w) (kind_for w.store.objects c)
unfolding kind_for
kind_for_is b w c = new_kind (KindIs b w) tt new_kinds
    (tt, (tt, (tt, (tt, (tt, (tt, (tt, (tt, (tt, (tt, (tt, (tt, (tt, (tt, (tt, tt)))))))))))))))
    (lineage w.store.objects c)

module _ (b : Bodies) (w : World) (fine : Fine b w) where
  stays : (p : Plan) → PlanIs (census w.store) p → PlannedIs b w (plans w.store p)
  stays p is = record { keeps = keeps_itself b w fine; plan = is }

  refused : (c : Cause) → SoundCause (census w.store) c → PlannedIs b w (refuse w.store c)
  refused c is = stays (fails c) is

  -- a call by a name of the language
  named_is : (it : Iteration) (recv : Value) (args : List Value) (block : Option ObjId) (name : List ℕ)
      → StateIs (census w.store) it → IsValue (census w.store) recv → AllAre (IsValue (census w.store)) args
      → OptionIs (Is (census w.store) Proc) block
      → PlannedIs b w (sends_named it recv args block (intern w.store name))
  named_is it recv args block name state is all proc =
      let v : World = with_store w (intern w.store name).store in
      let k = keeps_interned b w fine name in
      record {
        keeps = k;
        plan = (
          state_stays w v k.extends it state,
          value_stays w v k.extends recv is,
          interned_symbol w.store name,
          values_stay w v k.extends args all,
          block_stays w v k.extends block proc,
        );
      }

  flattened_are : (n : ℕ) (x : Value) → IsValue (census w.store) x
      → OptionIs (AllAre (IsValue (census w.store))) (flattened n w.store.objects x)
  unfolding flattened
  flattened_are zero x is = flat_by_is (census w.store) (λ u. None) (λ u h. tt) x (elements_in w.store.objects x) is
      (elements_are w.store fine.store x is)
  flattened_are (suc n) x is = flat_by_is (census w.store) (λ u. flattened n w.store.objects u)
      (λ u h. flattened_are n u h) x (elements_in w.store.objects x) is (elements_are w.store fine.store x is)

  -- puts, print and p

  puts_value_is : (o : Option Value) (rest : List Value) → OptionIs (IsValue (census w.store)) o
      → AllAre (IsValue (census w.store)) rest → PlannedIs b w (puts_value w.store o rest)
  puts_value_is None rest is all = stays (writes (putting rest) (line [])) all
  puts_value_is (Some x) rest is all = named_is (putting_text rest) x [] None (codes "to_s") all is tt tt

  puts_next_is : (xs : List Value) → AllAre (IsValue (census w.store)) xs → PlannedIs b w (puts_next w.store xs)
  puts_next_is [] all = stays (finishes Nil) tt
  puts_next_is (x ∷ xs) all = puts_value_is (present x) xs (present_is w.store fine.store x all.0) all.1

  puts_flat_is : (o : Option (List Value)) → OptionIs (AllAre (IsValue (census w.store))) o
      → PlannedIs b w (puts_flat w.store o)
  puts_flat_is None all = refused cause.StackTooDeep tt
  puts_flat_is (Some xs) all = puts_next_is xs all

  puts_all_is : (xs : List Value) → AllAre (IsValue (census w.store)) xs → PlannedIs b w (puts_all w.store xs)
  puts_all_is [] all = stays (writes (putting []) (line [])) tt
  puts_all_is (x ∷ xs) all = puts_flat_is (all_flat (λ u. flattened 9999 w.store.objects u) (x ∷ xs))
      (all_flat_are (census w.store) (λ u. flattened 9999 w.store.objects u) (λ u h. flattened_are 9999 u h) (x ∷ xs) all)

  print_next_is : (xs : List Value) → AllAre (IsValue (census w.store)) xs → PlannedIs b w (print_next w.store xs)
  print_next_is [] all = stays (finishes Nil) tt
  print_next_is (x ∷ xs) all = named_is (printing_text xs) x [] None (codes "to_s") all.1 all.0 tt tt

  gives_all_is : (xs : List Value) → AllAre (IsValue (census w.store)) xs → PlannedIs b w (gives_all w.store xs)
  gives_all_is [] all = stays (finishes Nil) tt
  gives_all_is (x ∷ []) all = stays (finishes x) all.0
  gives_all_is (x ∷ y ∷ ys) all = record {
    keeps = keeps_object b w fine (items_object (x ∷ y ∷ ys)) (items_sound w.store fine.store (x ∷ y ∷ ys) all) tt;
    plan = new_is w.store (items_object (x ∷ y ∷ ys));
  }

  inspect_next_is : (xs ys : List Value) → AllAre (IsValue (census w.store)) xs → AllAre (IsValue (census w.store)) ys
      → PlannedIs b w (inspect_next w.store xs ys)
  inspect_next_is [] ys all more = gives_all_is ys more
  inspect_next_is (x ∷ xs) ys all more =
      named_is (inspecting_text xs ys) x [] None (codes "inspect") (all.1, more) all.0 tt tt

  -- raise

  raise_text_is : (id : ObjId) (o : Option (List ℕ)) → Is (census w.store) Any id
      → PlannedIs b w (raise_text w.store id o)
  raise_text_is id None is = refused cause.NotException tt
  raise_text_is id (Some bytes) is = record {
    keeps = keeps_object b w fine (fresh (core class.RuntimeError) (kind.Exception (Obj id) Nil))
        (record {
          class = core_is_class w.store fine.store class.RuntimeError refl;
          singleton = tt;
          variables = tt;
          kind = (is, tt);
        }) tt;
    plan = new_sort w.store (fresh (core class.RuntimeError) (kind.Exception (Obj id) Nil));
  }

  another_sound : (id : ObjId) (m : Value) → Is (census w.store) Any id → IsValue (census w.store) m
      → SoundObject (census w.store) (length w.store.objects) (with_another w.store.objects id m)
  another_sound id m is value =
      let o = role_object w.store fine.store Any id is in
      record {
        class = o.class;
        singleton = tt;
        variables = o.variables;
        kind = (value, detail_is w.store fine.store (Obj id) is);
      }

  raise_by_is : (id : ObjId) (more : List Value) (c e : Option ObjId) → Is (census w.store) Any id
      → AllAre (IsValue (census w.store)) more → OptionIs (λ _. IsException (census w.store) id) e
      → PlannedIs b w (raise_by w.store id more c e)
  raise_by_is id more (Some c) e is all h = named_is raising (Obj id) more None (codes "new") tt is all tt
  raise_by_is id [] None (Some e) is all h = stays (raises id) h
  raise_by_is id [] None None is all h = raise_text_is id (string_of (kind_in w.store.objects (Obj id))) is
  raise_by_is id (m ∷ ms) None None is all h = refused cause.NotException tt
  raise_by_is id (m ∷ []) None (Some e) is all h = record {
    keeps = keeps_object b w fine (with_another w.store.objects id m) (another_sound id m is all.0) tt;
    plan = new_sort w.store (with_another w.store.objects id m);
  }
  raise_by_is id (m ∷ n ∷ ms) None (Some e) is all h = refused cause.NotException tt

  raise_value_is : (more : List Value) (o : Option ObjId) → AllAre (IsValue (census w.store)) more
      → OptionIs (Is (census w.store) Any) o → PlannedIs b w (raise_value w.store more o)
  raise_value_is more None all is = refused cause.NotException tt
  raise_value_is more (Some id) all is =
      raise_by_is id more (object_of_sort is_class_sort w.store.objects (Obj id))
      (an_exception w.store.objects (Obj id)) is all (exception_itself w.store fine.store id is)

  raise_all_is : (xs : List Value) → AllAre (IsValue (census w.store)) xs → PlannedIs b w (raise_all w.store xs)
  raise_all_is [] all = refused cause.Unhandled tt
  raise_all_is (x ∷ more) all = raise_value_is more (object_in x) all.1 (object_is w.store fine.store x all.0)

  raise_made_is : (o : Option ObjId) → OptionIs (IsException (census w.store)) o → PlannedIs b w (raise_made w.store o)
  raise_made_is None h = refused cause.NotException tt
  raise_made_is (Some e) h = stays (raises e) h

  -- each and times

  visit_next_is : (a : ObjId) (i : ℕ) (p : ObjId) → Is (census w.store) Array a → Is (census w.store) Proc p
      → PlannedIs b w (visit_next w.store a i p)
  visit_next_is a i p array run = by (nat_lt i (length (elements (elements_in w.store.objects (Obj a)))))
    where
      by : (c : Bool) → PlannedIs b w (plans w.store
          (if c then calls (visiting a (i + 1) p) p (get_or (elements (elements_in w.store.objects (Obj a))) i Nil ∷ [])
          None else finishes (Obj a)))
      by true = stays
          (calls (visiting a (i + 1) p) p (get_or (elements (elements_in w.store.objects (Obj a))) i Nil ∷ []) None) (
            (array, run),
            run,
            (
              value_at (census w.store) (elements (elements_in w.store.objects (Obj a))) i
                  (elements_or_none (census w.store) (elements_in w.store.objects (Obj a))
                  (elements_are w.store fine.store (Obj a) (any_of w.store Array a array))),
              tt,
            ),
            tt,
          )
      by false = stays (finishes (Obj a)) (any_of w.store Array a array)

  count_next_is : (z : ℤ) (i : ℕ) (p : ObjId) → Is (census w.store) Proc p → PlannedIs b w (count_next w.store z i p)
  count_next_is z i p run = by (nat_lt i (steps_up z))
    where
      by : (c : Bool) → PlannedIs b w (plans w.store
          (if c then calls (counting z (i + 1) p) p (Int (pos i) ∷ []) None else finishes (Int z)))
      by true = stays (calls (counting z (i + 1) p) p (Int (pos i) ∷ []) None) (run, run, (tt, tt), tt)
      by false = stays (finishes (Int z)) tt

  send_to_is : (recv name : Value) (args : List Value) (block : Option ObjId) (public : Bool)
      → IsValue (census w.store) recv → IsValue (census w.store) name → AllAre (IsValue (census w.store)) args
      → OptionIs (Is (census w.store) Proc) block → PlannedIs b w (send_to w.store recv name args block public)
  send_to_is recv name args block public is called all proc =
      wanted_is w.store fine.store (refuse w.store) (PlannedIs b w) refused (IsSymbol (census w.store)) class.Symbol name
      (symbol_in name) (λ s. plans w.store (sends handing recv s args block public)) called
      (symbol_is w.store fine.store name called)
      (λ s symbol. stays (sends handing recv s args block public) (tt, is, symbol, all, proc))

  -- messages of exceptions

  asks : (it : Iteration) (x : Value) → StateIs (census w.store) it → IsValue (census w.store) x
      → PlannedIs b w (ask w.store it x)
  asks it x state is = named_is it x [] None (codes "to_s") state is tt tt

  asks_exception : (it : Iteration) (x : Value) → StateIs (census w.store) it → IsValue (census w.store) x
      → PlannedIs b w (ask_exception w.store it x)
  asks_exception it x state is =
      wanted_is w.store fine.store (refuse w.store) (PlannedIs b w) refused (λ _. Unit {0}) class.Exception x
      (an_exception w.store.objects x) (λ id. ask w.store it x) is (anything (an_exception w.store.objects x))
      (λ id _. asks it x state is)

  messaging_is : (e : Value) (o : Option Value) → IsValue (census w.store) e
      → StateIs (census w.store) (messaging_by e o)
  messaging_is e None is = tt
  messaging_is e (Some o) is = is

  message_given : (e x : Value) → IsValue (census w.store) x → PlannedIs b w (give_message w.store e x)
  message_given e x is = by (is_it (other_object w.store e) x)
    where
      by : (c : Bool) → PlannedIs b w (if c then ask w.store handing x else plans w.store (finishes x))
      by true = asks handing x tt is
      by false = stays (finishes x) is

  is_told : (e x : Value) → PlannedIs b w (told w.store e x)
  is_told e x =
      let o = text_object (inspected (class_name w.store (plain_class_of w.store.objects e)) (shown w.store x)) in
      record {
        keeps = keeps_object b w fine o (text_sound w.store fine.store _) tt;
        plan = new_is w.store o;
      }

  tells : (e x : Value) → IsValue (census w.store) e → IsValue (census w.store) x → PlannedIs b w (tell w.store e x)
  tells e x exception is = by (is_it (other_object w.store e) x)
    where
      by : (c : Bool) → PlannedIs b w (if c then ask w.store (telling_text e) x else told w.store e x)
      by true = asks (telling_text e) x exception is
      by false = is_told e x

  text_or_nil_is : (x : Value) (o : Option (List ℕ)) → IsValue (census w.store) x
      → IsValue (census w.store) (text_or_nil x o)
  text_or_nil_is x None is = tt
  text_or_nil_is x (Some bytes) is = is

  message_kept : (e : ObjId) (x : Value) → IsException (census w.store) e → IsValue (census w.store) x
      → PlannedIs b w (next (reported e) x w.store)
  unfolding next
  message_kept e x exception is =
      let m : Value = text_or_nil x (string_of (kind_in w.store.objects x)) in
      let k = keeps_message b w fine e m exception (text_or_nil_is x (string_of (kind_in w.store.objects x)) is) in
      record { keeps = k; plan = sort_stays w _ k.extends sort.Exception e exception }

-- Class#new: the object, and then its method `initialize`
module _ (b : Bodies) (w : World) (fine : Fine b w) (c : ObjId) (args : List Value) (block : Option ObjId)
    (is : Is (census w.store) Class c) (all : AllAre (IsValue (census w.store)) args)
    (proc : OptionIs (Is (census w.store) Proc) block) where
  new_by : (o : Option Kind) → OptionIs (SoundKind (census w.store) (length w.store.objects)) o
      → OptionIs (KindIs b w) o → PlannedIs b w (new_of w.store c args block o)
  new_by None sound has =
      let v : World = with_store w (intern w.store (codes "new")).store in
      let k = keeps_interned b w fine (codes "new") in
      record {
        keeps = k;
        plan = (
          interned_symbol w.store (codes "new"),
          plain_class_is v.store k.fine.store (Obj c) (value_stays w v k.extends (Obj c) (any_of w.store Class c is)),
        );
      }
  new_by (Some x) sound has =
      let v : World = with_store w (with_object w.store (fresh c x)) in
      let made = keeps_object b w fine (fresh c x)
      (record { class = is; singleton = tt; variables = tt; kind = sound }) has in
      let there = new_is w.store (fresh c x) in
      let h = named_is b v made.fine (initializing (Obj (next_number w.store))) (Obj (next_number w.store)) args block
      (codes "initialize") there there (values_stay w v made.extends args all) (block_stays w v made.extends block proc) in
      record { keeps = keeps_then b w v _ made h.keeps; plan = h.plan }

  new_is_planned : PlannedIs b w (new_of w.store c args block (kind_for w.store.objects c))
  new_is_planned = new_by (kind_for w.store.objects c) (kind_for_sound (census w.store) (length w.store.objects) w c)
      (kind_for_is b w c)

module _ (b : Bodies) (w : World) (fine : Fine b w) where
  module _ (recv : Value) (args : List Value) (block : Option ObjId) (is : IsValue (census w.store) recv)
      (all : AllAre (IsValue (census w.store)) args) (proc : OptionIs (Is (census w.store) Proc) block) where
    count : (least : ℕ) (most : Option ℕ) (p : Planned) → PlannedIs b w p
        → PlannedIs b w (counted (refuse w.store) least most args p)
    count least most p h =
        counted_is w.store fine.store (refuse w.store) (PlannedIs b w) (refused b w fine) least most args p h

    with_a_block : (further : ObjId → Planned) → ((p : ObjId) → Is (census w.store) Proc p → PlannedIs b w (further p))
        → PlannedIs b w (with_block (refuse w.store) block further)
    with_a_block further h =
        block_is w.store fine.store (refuse w.store) (PlannedIs b w) (refused b w fine) block further proc h

    want : {A : Type 0} (P : A → Type 0) (c : CoreClass) (v : Value) (o : Option A) (further : A → Planned)
        → IsValue (census w.store) v → OptionIs P o → ((x : A) → P x → PlannedIs b w (further x))
        → PlannedIs b w (wanted (refuse w.store) w.store.objects c v o further)
    want P c v o further value found h =
        wanted_is w.store fine.store (refuse w.store) (PlannedIs b w) (refused b w fine) P c v o further value found h

    first_is : IsValue (census w.store) (get_or args 0 Nil)
    first_is = value_at (census w.store) args 0 all

    rest_are : AllAre (IsValue (census w.store)) (drop 1 args)
    rest_are = all_rest (IsValue (census w.store)) 1 args all

    pub start_is : (row : rows.StarRow) → PlannedIs b w (start row recv args block w.store)
    unfolding start
    start_is rows.puts = puts_all_is b w fine args all
    start_is rows.print = print_next_is b w fine args all
    start_is rows.p = inspect_next_is b w fine args args all all
    start_is rows.gets = count 0 (Some 0) _ (stays b w fine (reads handing) tt)
    start_is rows.raise_exception = count 0 (Some 2) _ (raise_all_is b w fine args all)
    start_is rows.loop = count 0 (Some 0) _
        (with_a_block _ (λ p run. stays b w fine (calls (looping p) p [] None) (run, run, tt, tt)))
    start_is rows.send = count 1 None _
        (send_to_is b w fine recv (get_or args 0 Nil) (drop 1 args) block false is first_is rest_are proc)
    start_is rows.public_send = count 1 None _
        (send_to_is b w fine recv (get_or args 0 Nil) (drop 1 args) block true is first_is rest_are proc)
    start_is rows.each_element = count 0 (Some 0) _
        (with_a_block _
        (λ p run.
        want (Is (census w.store) Array) class.Array recv (an_array w.store.objects recv) _ is
        (array_is w.store fine.store recv is) (λ a array. visit_next_is b w fine a 0 p array run)))
    start_is rows.count_up = count 0 (Some 0) _
        (with_a_block _
        (λ p run.
        want (λ _. Unit {0}) class.Integer recv (integer_in recv) _ is (anything (integer_in recv))
        (λ z _. count_next_is b w fine z 0 p run)))
    start_is rows.new_object =
        want (Is (census w.store) Class) class.Class recv (object_of_sort is_class_sort w.store.objects recv) _ is
        (class_is w.store fine.store recv is) (λ c plain. new_is_planned b w fine c args block plain all proc)
    start_is rows.call_proc =
        want (Is (census w.store) Proc) class.Proc recv (a_proc w.store.objects recv) _ is
        (proc_is w.store fine.store recv is) (λ p run. stays b w fine (calls handing p args block) (tt, run, all, proc))
    start_is rows.resume =
        want (Is (census w.store) Fiber) class.Fiber recv (a_fiber w.store.objects recv) _ is
        (fiber_is w.store fine.store recv is) (λ f fiber. stays b w fine (resumes handing f args) (tt, fiber, all))
    start_is rows.yield = stays b w fine (yields handing args) (tt, all)
    start_is rows.send_kept = count 1 None _
        (send_to_is b w fine (get_or args 0 Nil) recv (drop 1 args) block false first_is is rest_are proc)
    start_is rows.exception_message = count 0 (Some 0) _
        (asks_exception b w fine (messaging_by recv (other_object w.store recv)) recv
        (messaging_is b w fine recv (other_object w.store recv) is) is)
    start_is rows.exception_inspection = count 0 (Some 0) _ (asks_exception b w fine (telling recv) recv is is)

  -- the next plan, with the answer to the one before
  pub next_is : (it : Iteration) (x : Value) → StateIs (census w.store) it → IsValue (census w.store) x
      → PlannedIs b w (next it x w.store)
  unfolding next
  next_is (begun row recv args block) x h is = start_is recv args block h.0 h.1 h.2 row
  next_is handing x h is = stays b w fine (finishes x) is
  next_is (putting xs) x h is = puts_next_is b w fine xs h
  next_is (putting_text xs) x h is = stays b w fine (writes (putting xs) (line (text_of_value w.store x))) h
  next_is (printing xs) x h is = print_next_is b w fine xs h
  next_is (printing_text xs) x h is = stays b w fine (writes (printing xs) (text_of_value w.store x)) h
  next_is (inspecting xs ys) x h is = inspect_next_is b w fine xs ys h.0 h.1
  next_is (inspecting_text xs ys) x h is =
      stays b w fine (writes (inspecting xs ys) (text_of_value w.store x ++ 10 ∷ [])) h
  next_is raising x h is = raise_made_is b w fine (an_exception w.store.objects x) (exception_is w.store fine.store x is)
  next_is (looping p) x h is = stays b w fine (calls (looping p) p [] None) (h, h, tt, tt)
  next_is (visiting a i p) x h is = visit_next_is b w fine a i p h.0 h.1
  next_is (counting z i p) x h is = count_next_is b w fine z i p h
  next_is (initializing o) x h is = stays b w fine (finishes o) h
  next_is (messaging e) x h is = message_given b w fine e x is
  next_is (telling e) x h is = tells b w fine e x h is
  next_is (telling_text e) x h is = is_told b w fine e x
  next_is (reporting e) x h is = named_is b w fine (reported e) (Obj e) [] None (codes "message") h
      (has_any w.store sort.Exception e h) tt tt
  next_is (reported e) x h is = message_kept b w fine e x h is

  stop_is : (e : ObjId) → Is (census w.store) Any e → OptionIs (IsValue (census w.store)) (result_if_stop w.store e)
  stop_is e is = by (is_member (lineage w.store.objects (plain_class_of w.store.objects (Obj e))) (core class.StopIteration))
    where
      by : (c : Bool) → OptionIs (IsValue (census w.store))
          (if c then Some (detail_of (kind_in w.store.objects (Obj e))) else None)
      by true = detail_is w.store fine.store (Obj e) is
      by false = tt

  -- the value with which an iteration ends where it stops an exception
  pub caught_is : (it : Iteration) (e : ObjId) → Is (census w.store) Any e
      → OptionIs (IsValue (census w.store)) (caught it e w.store)
  unfolding caught
  caught_is (begun row recv args block) e is = tt
  caught_is handing e is = tt
  caught_is (putting xs) e is = tt
  caught_is (putting_text xs) e is = tt
  caught_is (printing xs) e is = tt
  caught_is (printing_text xs) e is = tt
  caught_is (inspecting xs ys) e is = tt
  caught_is (inspecting_text xs ys) e is = tt
  caught_is raising e is = tt
  caught_is (looping p) e is = stop_is e is
  caught_is (visiting a i p) e is = tt
  caught_is (counting z i p) e is = tt
  caught_is (initializing o) e is = tt
  caught_is (messaging x) e is = tt
  caught_is (telling x) e is = tt
  caught_is (telling_text x) e is = tt
  caught_is (reporting x) e is = tt
  caught_is (reported x) e is = tt
