-- And so does `puts`, plan by plan.
use Rattle.std.proofs.Common.{◌≡◌, ℕ, List, [], ◌∷◌, refl, sym, ap, subst, true, false, true≢false}
use Rattle.std.specs.Prelude.{codes, Option, Some, None}
use Rattle.rb_value.specs.Object.{Object}
use Rattle.rb_value.specs.declared.value.ObjId.{ObjId}
use Rattle.rb_value.specs.declared.value.Value.{Value}
use Rattle.rb_value.specs.declared.value.Value.TheVariants.{Nil, True, False, Int, Sym, Obj}
use Rattle.def_core.specs.Store.{Store}
use Rattle.def_core.specs.Changes.{Interned}
use Rattle.def_calls.specs.World.{World, with_store, write}
use Rattle.def_calls.specs.Calls.{is_asked, send_by_core}
use Rattle.def_calls.specs.Plans.{Iteration, begun, handing, putting, putting_text, printing, printing_text, inspecting, inspecting_text, raising, looping, visiting, counting, initializing, messaging, telling, telling_text, reporting, reported, Plan, Planned, finishes, writes, sends, both as both_flat, all_flat, flattened, puts_value, puts_next, puts_flat, sends_named, start, next as next_plan, line, caught}
use Rattle.def_calls.specs.Plans as plans
use Rattle.def_calls.specs.Rows
use Rattle.def_eval.specs.Source.{Source}
use Rattle.def_eval.specs.Configuration.{Place, raise, Item, iteration, give, Memory, with_world, Run}
use Rattle.def_eval.specs.Giving.{returned, carry_out, do_give}
use Rattle.def_eval.specs.Exits.{travel_caught, do_travel}
use Rattle.step_laws.specs.Site.{opening_store}
use Rattle.step_laws.proofs.Symbols.{the_symbol, interned_core}
use Rattle.step_laws.proofs.Found.{texts_all, is_writer}
use Rattle.step_laws.proofs.Outcomes.{IsImmediate, AreImmediate, IsOfPuts, Kept, text_sent}
use Rattle.step_laws.proofs.Tame.{ScopesAre, IsCoreAt, ItemsAre, Fine, quiet_given, given_to, same_grows, core_grows, items_grow, core_closed, entry_fine, raised}

data PlanIs (p : Plan) : Type 0 where
  finishing : (v : Value) → p ≡ finishes v → IsImmediate v → PlanIs p
  writing_out : (it : Iteration) (bytes : List ℕ) → p ≡ writes it bytes → IsOfPuts it → PlanIs p
  sending : (it : Iteration) (v : Value) → p ≡ sends it v (the_symbol (codes "to_s")) [] None false → IsOfPuts it
      → IsImmediate v → (v ≡ Nil → ⊥) → PlanIs p

record PlannedIs (st : Store) (p : Planned) : Type 0 where
  pub plan : PlanIs p.plan
  pub store : p.store ≡ st

flat_is : (os : List Object) (vs : List Value) → AreImmediate vs
    → all_flat (λ u. flattened 9999 os u) vs ≡ Some vs
unfolding flattened
flat_is os [] all = refl
flat_is os (Nil ∷ vs) all = ap (both_flat (Some (Nil ∷ []))) (flat_is os vs all.1)
flat_is os (True ∷ vs) all = ap (both_flat (Some (True ∷ []))) (flat_is os vs all.1)
flat_is os (False ∷ vs) all = ap (both_flat (Some (False ∷ []))) (flat_is os vs all.1)
flat_is os (Int z ∷ vs) all = ap (both_flat (Some (Int z ∷ []))) (flat_is os vs all.1)
flat_is os (Sym y ∷ vs) all = absurd all.0
flat_is os (Obj id ∷ vs) all = absurd all.0

module _ (s : Source) (st : Store) (symbols : st.symbols ≡ (opening_store s).symbols) (more : List Object) where
  asked : (v : Value) (vs : List Value) → IsImmediate v → (v ≡ Nil → ⊥) → AreImmediate vs
      → PlannedIs st (puts_value st (Some v) vs)
  asked v vs i isnt all =
      subst (λ (n : Interned). PlannedIs st (sends_named (putting_text vs) v [] None n))
      (sym (interned_core s st (codes "to_s") symbols (texts_all more).known))
      (record { plan = sending (putting_text vs) v refl all i isnt; store = refl })

  next_is : (vs : List Value) → AreImmediate vs → PlannedIs st (puts_next st vs)
  next_is [] all = record { plan = finishing Nil refl tt; store = refl }
  next_is (Nil ∷ vs) all = record { plan = writing_out (putting vs) (line []) refl all.1; store = refl }
  next_is (True ∷ vs) all = asked True vs tt (λ e. absurd (cc e)) all.1
  next_is (False ∷ vs) all = asked False vs tt (λ e. absurd (cc e)) all.1
  next_is (Int z ∷ vs) all = asked (Int z) vs tt (λ e. absurd (cc e)) all.1
  next_is (Sym y ∷ vs) all = absurd all.0
  next_is (Obj id ∷ vs) all = absurd all.0

  begun_is : (row : Rows.StarRow) (recv : Value) (args : List Value) (given : Option ObjId) → is_writer row ≡ true
      → AreImmediate args → PlannedIs st (start row recv args given st)
  unfolding start
  begun_is Rows.puts recv [] given e all =
      record { plan = writing_out (putting []) (line []) refl tt; store = refl }
  begun_is Rows.puts recv (v ∷ vs) given e all =
      subst (λ (o : Option (List Value)). PlannedIs st (puts_flat st o)) (sym (flat_is st.objects (v ∷ vs) all))
      (next_is (v ∷ vs) all)
  begun_is Rows.print recv args given e all = absurd (true≢false (sym e))
  begun_is Rows.p recv args given e all = absurd (true≢false (sym e))
  begun_is Rows.gets recv args given e all = absurd (true≢false (sym e))
  begun_is Rows.raise_exception recv args given e all = absurd (true≢false (sym e))
  begun_is Rows.loop recv args given e all = absurd (true≢false (sym e))
  begun_is Rows.send recv args given e all = absurd (true≢false (sym e))
  begun_is Rows.public_send recv args given e all = absurd (true≢false (sym e))
  begun_is Rows.each_element recv args given e all = absurd (true≢false (sym e))
  begun_is Rows.count_up recv args given e all = absurd (true≢false (sym e))
  begun_is Rows.new_object recv args given e all = absurd (true≢false (sym e))
  begun_is Rows.call_proc recv args given e all = absurd (true≢false (sym e))
  begun_is Rows.resume recv args given e all = absurd (true≢false (sym e))
  begun_is Rows.yield recv args given e all = absurd (true≢false (sym e))
  begun_is Rows.send_kept recv args given e all = absurd (true≢false (sym e))
  begun_is Rows.exception_message recv args given e all = absurd (true≢false (sym e))
  begun_is Rows.exception_inspection recv args given e all = absurd (true≢false (sym e))

  plan_is : (it : Iteration) (v : Value) → IsOfPuts it → PlannedIs st (plans.next it v st)
  unfolding next_plan
  plan_is (begun row recv args given) v is = begun_is row recv args given is.0 is.1
  plan_is handing v is = absurd is
  plan_is (putting vs) v is = next_is vs is
  plan_is (putting_text vs) v is = record { plan = writing_out (putting vs) _ refl is; store = refl }
  plan_is (printing vs) v is = absurd is
  plan_is (printing_text vs) v is = absurd is
  plan_is (inspecting vs us) v is = absurd is
  plan_is (inspecting_text vs us) v is = absurd is
  plan_is raising v is = absurd is
  plan_is (looping p) v is = absurd is
  plan_is (visiting a i p) v is = absurd is
  plan_is (counting z i p) v is = absurd is
  plan_is (initializing u) v is = absurd is
  plan_is (messaging u) v is = absurd is
  plan_is (telling u) v is = absurd is
  plan_is (telling_text u) v is = absurd is
  plan_is (reporting u) v is = absurd is
  plan_is (reported u) v is = absurd is

module _ (s : Source) (ks : List Item) (m : Memory) (kept : Kept s m.world) (all : ScopesAre m.scopes)
    (alone : m.fibers.resumer ≡ None) (a : ℕ) (core : IsCoreAt m.world a) (place : Place)
    (under : ItemsAre s m.world ks place) where
  -- back at the place of the caller
  back_fine : (v : Value) → IsImmediate v → Fine s m (Run (give v) ks (returned m a place))
  back_fine v i =
      subst (λ (w : World). Fine s m (Run (give v) ks (record m { place = place; world = w })))
      (sym (core_closed m.world a core.runs)) (
        record { kept = kept; scopes = all; alone = alone; focus = given_to v ks i; items = under },
        (refl, quiet_given v ks m (record m { place = place }) refl, same_grows m.world m.world refl),
      )

  carried_fine : (p : Plan) → PlanIs p → Fine s m (carry_out s p a place ks m)
  carried_fine p (finishing v e i) = subst (λ (q : Plan). Fine s m (carry_out s q a place ks m)) (sym e) (back_fine v i)
  carried_fine p (writing_out it bytes e is) =
      subst (λ (q : Plan). Fine s m (carry_out s q a place ks m)) (sym e) (
        record {
          kept = record {
            symbols = kept.symbols;
            more = kept.more;
            objects = kept.objects;
            none = kept.none;
            others = kept.others;
            activations = kept.activations;
          };
          scopes = all;
          alone = alone;
          focus = tt;
          items = (
            is,
            core_grows m.world (write m.world bytes) a (same_grows m.world (write m.world bytes) refl) core,
            items_grow s m.world (write m.world bytes) ks place (same_grows m.world (write m.world bytes) refl) under,
          );
        },
        (refl, tt, same_grows m.world (write m.world bytes) refl),
      )
  carried_fine p (sending it v e is i isnt) =
      subst (λ (q : Plan). Fine s m (carry_out s q a place ks m)) (sym e)
      (entry_fine s (λ u. Unit {0}) m m (iteration a it place ∷ ks)
      (send_by_core m.world v (the_symbol (codes "to_s")) [] None false) (text_sent s m.world v kept i isnt) kept refl refl
      refl all alone (is, core, under) (λ u t. tt))

  pub iteration_fine : (it : Iteration) (v : Value) → IsOfPuts it
      → Fine s m (do_give s v (iteration a it place ∷ ks) m)
  unfolding do_give
  iteration_fine it v is =
      let p = plan_is s m.world.store kept.symbols kept.more it v is in
      subst (λ (st : Store). Fine s m (carry_out s (plans.next it v m.world.store).plan a place ks
      (with_world m (with_store m.world st)))) (sym p.store)
      (carried_fine (plans.next it v m.world.store).plan p.plan)

  -- no iteration of `puts` takes an exception
  not_caught : (it : Iteration) (e : ObjId) (st : Store) → IsOfPuts it → caught it e st ≡ None
  unfolding caught
  not_caught (begun row recv args given) e st is = refl
  not_caught handing e st is = absurd is
  not_caught (putting vs) e st is = refl
  not_caught (putting_text vs) e st is = refl
  not_caught (printing vs) e st is = absurd is
  not_caught (printing_text vs) e st is = absurd is
  not_caught (inspecting vs us) e st is = absurd is
  not_caught (inspecting_text vs us) e st is = absurd is
  not_caught raising e st is = absurd is
  not_caught (looping p) e st is = absurd is
  not_caught (visiting b i p) e st is = absurd is
  not_caught (counting z i p) e st is = absurd is
  not_caught (initializing u) e st is = absurd is
  not_caught (messaging u) e st is = absurd is
  not_caught (telling u) e st is = absurd is
  not_caught (telling_text u) e st is = absurd is
  not_caught (reporting u) e st is = absurd is
  not_caught (reported u) e st is = absurd is

  pub left_by : (it : Iteration) (e : ObjId) → IsOfPuts it → is_asked m.world e ≡ false
      → Fine s m (do_travel (raise e) (iteration a it place ∷ ks) m)
  unfolding do_travel
  left_by it e is quiet =
      subst (λ (w : World). Fine s m (travel_caught e (caught it e w.store) ks (record m { place = place; world = w })))
      (sym (core_closed m.world a core.runs))
      (subst (λ (o : Option Value). Fine s m (travel_caught e o ks (record m { place = place })))
      (sym (not_caught it e m.world.store is)) (
        record { kept = kept; scopes = all; alone = alone; focus = raised e refl quiet; items = under },
        (refl, refl, same_grows m.world m.world refl),
      ))
