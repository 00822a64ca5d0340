-- And so do ends and exits.
use Rattle.std.proofs.Common.{◌≡◌, ℕ, List, [], ◌∷◌, refl, sym, ap, ◌∙◌, subst, Bool, true, false}
use Rattle.std.specs.Prelude.{if◌then◌else◌, Option, None}
use Rattle.rb_value.specs.declared.value.ObjId.{ObjId}
use Rattle.rb_value.specs.declared.value.Value.{Value}
use Rattle.def_calls.specs.Seen.{Ended, Uncaught}
use Rattle.def_calls.specs.World.{World}
use Rattle.def_calls.specs.Calls.{close, is_asked, unrescued, Unrescued}
use Rattle.def_calls.specs.Fibers.{Onward, back_to, finish}
use Rattle.def_eval.specs.Source.{Source}
use Rattle.def_eval.specs.Configuration.{raise, leave_loop, next, Part, operands, receiver, items, block, elements, hash_key, hash_value, pieces, rest, test, chosen, and_then, or_else, loop_test, loop_body, rescued, clause_class, clause_target, clause_body, ensured, stop_of, Item, part, activation, iteration, ensuring, Kept as KeptFiber, give, travel, Memory, Run, Halt}
use Rattle.def_eval.specs.Giving.{end_fiber}
use Rattle.def_eval.specs.Exits.{travel_part, end_by, end_or_ask, leave_fiber, do_travel}
use Rattle.step_laws.proofs.Outcomes.{IsImmediate, Kept}
use Rattle.step_laws.proofs.Tame.{ScopesAre, PartIs, ItemsAre, Fine, quiet_given, given_to, same_grows, core_closed, main_closed, raised, left, anew}
use Rattle.step_laws.proofs.CalmForms.{value_fine, form_fine}
use Rattle.step_laws.proofs.CalmPuts.{left_by}

pub no_more : (m : Memory) → m.fibers.resumer ≡ None → finish m.fibers ≡ None
unfolding finish
no_more m e = ap (back_to m.fibers.others) e

ended_fine : (s : Source) (m : Memory) (u : Unrescued) (out : List ℕ) → Fine s m (end_by u out)
ended_fine s m u out = by u.exits
  where
    by : (b : Bool)
        → Fine s m (if b then Halt (Ended out u.status) else Halt (Uncaught out u.class u.message))
    by true = (tt, tt)
    by false = (tt, tt)

passed_part : (s : Source) (p : Part) (e : ObjId) (ks : List Item) (m : Memory) → PartIs s p
    → travel_part (raise e) (stop_of p) ks m ≡ Run (travel (raise e)) ks m
passed_part s (operands j a vs es) e ks m at = refl
passed_part s (receiver j x is b) e ks m at = refl
passed_part s (items j k recv vs is b) e ks m at = refl
passed_part s (block k recv vs) e ks m at = absurd at
passed_part s (elements j g o q is) e ks m at = absurd at
passed_part s (hash_key j o v ps) e ks m at = absurd at
passed_part s (hash_value j o v ps) e ks m at = absurd at
passed_part s (pieces j o es) e ks m at = absurd at
passed_part s (rest j es) e ks m at = refl
passed_part s (test j b bs o) e ks m at = refl
passed_part s chosen e ks m at = refl
passed_part s (and_then j f) e ks m at = refl
passed_part s (or_else j f) e ks m at = refl
passed_part s (loop_test j t b) e ks m at = refl
passed_part s (loop_body j t b) e ks m at = refl
passed_part s (rescued j b cs o) e ks m at = absurd at
passed_part s (clause_class j f es t b cs r) e ks m at = absurd at
passed_part s (clause_target j f b r) e ks m at = absurd at
passed_part s (clause_body r) e ks m at = absurd at
passed_part s (ensured j f) e ks m at = absurd at

pub travel_fine : (s : Source) (e : ObjId) (ks : List Item) (m : Memory) → Kept s m.world → ScopesAre m.scopes
    → m.fibers.resumer ≡ None → is_asked m.world e ≡ false → ItemsAre s m.world ks m.place
    → Fine s m (do_travel (raise e) ks m)
unfolding do_travel
travel_fine s e [] m kept all alone quiet under =
    subst (λ (o : Option (Onward KeptFiber)). Fine s m (leave_fiber e o m)) (sym (no_more m alone))
    (subst (λ (b : Bool). Fine s m (end_or_ask b e m)) (sym quiet)
    (ended_fine s m (unrescued m.world.store e) m.world.out))
travel_fine s e (part p ∷ ks) m kept all alone quiet under =
    subst (Fine s m) (sym (passed_part s p e ks m under.0)) (
      record { kept = kept; scopes = all; alone = alone; focus = raised e refl quiet; items = under.2 },
      (refl, refl, same_grows m.world m.world refl),
    )
travel_fine s e (activation a p ∷ ks) m kept all alone quiet under =
    subst (λ (w : World). Fine s m (Run (travel (raise e)) ks (record m { place = p; world = w })))
    (sym (ap (close m.world) under.0 ∙ main_closed s m.world kept)) (
      record { kept = kept; scopes = all; alone = alone; focus = raised e refl quiet; items = under.1 },
      (refl, refl, same_grows m.world m.world refl),
    )
travel_fine s e (iteration a it p ∷ ks) m kept all alone quiet under =
    left_by s ks m kept all alone a under.1 p under.2 it e under.0 quiet
travel_fine s e (ensuring o ∷ ks) m kept all alone quiet under = absurd under

-- an exit of a loop passes a part, or comes to its loop
module _ (s : Source) (ks : List Item) (m : Memory) (kept : Kept s m.world) (all : ScopesAre m.scopes)
    (alone : m.fibers.resumer ≡ None) (v : Value) (i : IsImmediate v) where
  -- a break
  left_on : ItemsAre s m.world ks m.place → Fine s m (Run (travel (leave_loop v)) ks m)
  left_on under = (
    record { kept = kept; scopes = all; alone = alone; focus = left v refl i; items = under },
    (refl, refl, same_grows m.world m.world refl),
  )

  left_part : (p : Part) → PartIs s p → m.place.activation ≡ 1 → ItemsAre s m.world ks m.place
      → Fine s m (travel_part (leave_loop v) (stop_of p) ks m)
  left_part (operands j a vs es) at here under = left_on under
  left_part (receiver j x is b) at here under = left_on under
  left_part (items j k recv vs is b) at here under = left_on under
  left_part (block k recv vs) at here under = absurd at
  left_part (elements j g o q is) at here under = absurd at
  left_part (hash_key j o u ps) at here under = absurd at
  left_part (hash_value j o u ps) at here under = absurd at
  left_part (pieces j o es) at here under = absurd at
  left_part (rest j es) at here under = left_on under
  left_part (test j b bs o) at here under = left_on under
  left_part chosen at here under = left_on under
  left_part (and_then j f) at here under = left_on under
  left_part (or_else j f) at here under = left_on under
  left_part (loop_test j t b) at here under = value_fine s ks m kept all alone v i under
  left_part (loop_body j t b) at here under = value_fine s ks m kept all alone v i under
  left_part (rescued j b cs o) at here under = absurd at
  left_part (clause_class j f es t b cs r) at here under = absurd at
  left_part (clause_target j f b r) at here under = absurd at
  left_part (clause_body r) at here under = absurd at
  left_part (ensured j f) at here under = absurd at

  -- a next
  begun_on : ItemsAre s m.world ks m.place → Fine s m (Run (travel (next v)) ks m)
  begun_on under = (
    record { kept = kept; scopes = all; alone = alone; focus = anew v refl i; items = under },
    (refl, refl, same_grows m.world m.world refl),
  )

  begun_part : (p : Part) → PartIs s p → m.place.activation ≡ 1 → ItemsAre s m.world ks m.place
      → Fine s m (travel_part (next v) (stop_of p) ks m)
  begun_part (operands j a vs es) at here under = begun_on under
  begun_part (receiver j x is b) at here under = begun_on under
  begun_part (items j k recv vs is b) at here under = begun_on under
  begun_part (block k recv vs) at here under = absurd at
  begun_part (elements j g o q is) at here under = absurd at
  begun_part (hash_key j o u ps) at here under = absurd at
  begun_part (hash_value j o u ps) at here under = absurd at
  begun_part (pieces j o es) at here under = absurd at
  begun_part (rest j es) at here under = begun_on under
  begun_part (test j b bs o) at here under = begun_on under
  begun_part chosen at here under = begun_on under
  begun_part (and_then j f) at here under = begun_on under
  begun_part (or_else j f) at here under = begun_on under
  begun_part (loop_test j t b) at here under = form_fine s ks m kept all alone j t (loop_test j t b) at.0 at here under
  begun_part (loop_body j t b) at here under = form_fine s ks m kept all alone j t (loop_test j t b) at.0 at here under
  begun_part (rescued j b cs o) at here under = absurd at
  begun_part (clause_class j f es t b cs r) at here under = absurd at
  begun_part (clause_target j f b r) at here under = absurd at
  begun_part (clause_body r) at here under = absurd at
  begun_part (ensured j f) at here under = absurd at

-- an exit of a loop goes through the items
pub loop_left_fine : (s : Source) (v : Value) (ks : List Item) (m : Memory) → IsImmediate v → Kept s m.world
    → ScopesAre m.scopes → m.fibers.resumer ≡ None → ItemsAre s m.world ks m.place
    → Fine s m (do_travel (leave_loop v) ks m)
unfolding do_travel
loop_left_fine s v [] m i kept all alone under =
    subst (λ (o : Option (Onward KeptFiber)). Fine s m (end_fiber (give v) o m)) (sym (no_more m alone)) (tt, tt)
loop_left_fine s v (part p ∷ ks) m i kept all alone under =
    left_part s ks m kept all alone v i p under.0 under.1 under.2
loop_left_fine s v (activation a p ∷ ks) m i kept all alone under =
    subst (λ (w : World). Fine s m (Run (travel (leave_loop v)) ks (record m { place = p; world = w })))
    (sym (ap (close m.world) under.0 ∙ main_closed s m.world kept)) (
      record { kept = kept; scopes = all; alone = alone; focus = left v refl i; items = under.1 },
      (refl, refl, same_grows m.world m.world refl),
    )
loop_left_fine s v (iteration a it p ∷ ks) m i kept all alone under =
    subst (λ (w : World). Fine s m (Run (travel (leave_loop v)) ks (record m { place = p; world = w })))
    (sym (core_closed m.world a under.1.runs)) (
      record { kept = kept; scopes = all; alone = alone; focus = left v refl i; items = under.2 },
      (refl, refl, same_grows m.world m.world refl),
    )
loop_left_fine s v (ensuring o ∷ ks) m i kept all alone under = absurd under

pub round_left_fine : (s : Source) (v : Value) (ks : List Item) (m : Memory) → IsImmediate v → Kept s m.world
    → ScopesAre m.scopes → m.fibers.resumer ≡ None → ItemsAre s m.world ks m.place
    → Fine s m (do_travel (next v) ks m)
unfolding do_travel
round_left_fine s v [] m i kept all alone under =
    subst (λ (o : Option (Onward KeptFiber)). Fine s m (end_fiber (give v) o m)) (sym (no_more m alone)) (tt, tt)
round_left_fine s v (part p ∷ ks) m i kept all alone under =
    begun_part s ks m kept all alone v i p under.0 under.1 under.2
round_left_fine s v (activation a p ∷ ks) m i kept all alone under =
    subst (λ (w : World). Fine s m (Run (give v) ks (record m { place = p; world = w })))
    (sym (ap (close m.world) under.0 ∙ main_closed s m.world kept)) (
      record { kept = kept; scopes = all; alone = alone; focus = given_to v ks i; items = under.1 },
      (refl, quiet_given v ks m (record m { place = p }) refl, same_grows m.world m.world refl),
    )
round_left_fine s v (iteration a it p ∷ ks) m i kept all alone under =
    subst (λ (w : World). Fine s m (Run (give v) ks (record m { place = p; world = w })))
    (sym (core_closed m.world a under.1.runs)) (
      record { kept = kept; scopes = all; alone = alone; focus = given_to v ks i; items = under.2 },
      (refl, quiet_given v ks m (record m { place = p }) refl, same_grows m.world m.world refl),
    )
round_left_fine s v (ensuring o ∷ ks) m i kept all alone under = absurd under
