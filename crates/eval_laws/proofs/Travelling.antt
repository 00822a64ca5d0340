-- Where exits go fits: each leads to an item that is there, so none but an exception gets past the last.
use Rattle.std.proofs.Common.{◌≡◌, ℕ, ◌+◌, List, [], ◌∷◌, Bool, true, false, nat_eq, refl, sym, ◌∙◌, subst, true≢false}
use Rattle.std.specs.Prelude.{Option, Some, None, ◌||◌}
use Rattle.std.proofs.lemmas.Bool.Decides.{Decides-eqb}
use Rattle.rb_value.specs.declared.value.Value.{Value}
use Rattle.rb_value.specs.declared.value.Value.TheVariants.{Obj}
use Rattle.rb_value.specs.declared.value.ObjId.{ObjId}
use Rattle.rb_value.specs.declared.kind.Sort.TheVariants as sort
use Rattle.def_core.specs.Sound.{Census, census, IsValue, OptionIs}
use Rattle.ir_core.specs.CoreForm.{CoreForm}
use Rattle.ir_core.specs.Program.{Around, within_loop}
use Rattle.def_calls.specs.Calls.{core_activation, Unrescued, is_asked, asking, unrescued, close}
use Rattle.def_calls.specs.Plans.{Iteration, reporting, caught}
use Rattle.def_calls.specs.Fibers.{Onward}
use Rattle.def_calls.specs.Fibers as fibers
use Rattle.def_calls.specs.Seen.{Ended, Uncaught}
use Rattle.def_eval.specs.Source.{Source, span}
use Rattle.def_eval.specs.Configuration as eval
use Rattle.def_eval.specs.Configuration.{Exit, Rescue, Part, Stop, Item, Kept, Memory, stop_of, Config, Run, Halt}
use Rattle.def_eval.specs.Scopes.{is_there}
use Rattle.def_eval.specs.Forms.{is_loop, in_loop, is_under_way}
use Rattle.def_eval.specs.Giving.{returned}
use Rattle.def_eval.specs.Exits.{travel_loop, travel_rescue, travel_clause, travel_part, reach, travel_activation, travel_caught, travel_iteration, end_by, end_or_ask, leave_fiber, travel_out, do_travel}
use Rattle.world_laws.specs.Fine.{IsException}
use Rattle.world_laws.specs.Outcomes.{OnwardIs}
use Rattle.world_laws.proofs.Growing.{sort_stays}
use Rattle.world_laws.proofs.Changing.{has_any}
use Rattle.world_laws.proofs.Entering.{report_begins}
use Rattle.world_laws.proofs.Plans.{caught_is}
use Rattle.eval_laws.specs.Standing.{FormStands, ClausesStand}
use Rattle.eval_laws.specs.Fits.{Past, begins_anew, in_clause, ExitFits, PartStands, RescueStands, KeptFits, MemoryFits, Fits, bodies}
use Rattle.eval_laws.proofs.Tests.{either}
use Rattle.eval_laws.proofs.Staying.{exit_stays}
use Rattle.eval_laws.proofs.Going.{Under, Text, goes}
use Rattle.eval_laws.proofs.Entered.{iteration_opens}
use Rattle.eval_laws.proofs.Forming.{loop_done}
use Rattle.eval_laws.proofs.Clauses.{clauses_done, rescue_begun}
use Rattle.eval_laws.proofs.Giving.{ensure_done}
use Rattle.eval_laws.proofs.Iterating.{closed, back_under, fiber_ended, finish_fits}

-- What a part is for an exit stands in the source.
abbrev StopStands : Source → Around → Stop → Type 0
StopStands s a eval.passes = Unit {0}
StopStands s a (eval.loops n t b) = FormStands s (within_loop a) n t × FormStands s (within_loop a) (n + span t) b
StopStands s a (eval.rescues n r) = ClausesStand s a n r.clauses × RescueStands s a r
StopStands s a (eval.assigns e r) = RescueStands s a r
StopStands s a (eval.retries r) = RescueStands s a r
StopStands s a (eval.ensures n e) = FormStands s a n e

stop_stands : (s : Source) (k : Census) (a : Around) (p : Part) → PartStands s k a p → StopStands s a (stop_of p)
stop_stands s k a (eval.operands n action vs es) h = tt
stop_stands s k a (eval.receiver n x is b) h = tt
stop_stands s k a (eval.items n sending recv vs is b) h = tt
stop_stands s k a (eval.block sending recv vs) h = tt
stop_stands s k a (eval.elements n g id splat is) h = tt
stop_stands s k a (eval.hash_key n id e ps) h = tt
stop_stands s k a (eval.hash_value n id key ps) h = tt
stop_stands s k a (eval.pieces n id es) h = tt
stop_stands s k a (eval.rest n es) h = tt
stop_stands s k a (eval.test n b bs o) h = tt
stop_stands s k a eval.chosen h = tt
stop_stands s k a (eval.and_then n e) h = tt
stop_stands s k a (eval.or_else n e) h = tt
stop_stands s k a (eval.loop_test n t b) h = h
stop_stands s k a (eval.loop_body n t b) h = h
stop_stands s k a (eval.rescued n b cs o) h = (h.1, h)
stop_stands s k a (eval.clause_class n e es t b cs r) h = h.5
stop_stands s k a (eval.clause_target n e b r) h = h.2
stop_stands s k a (eval.clause_body r) h = h
stop_stands s k a (eval.ensured n e) h = h

-- the exit leads to what the part is, or to one of the items below it
abbrev Leads : Census → List Item → Stop → Exit → Type 0
Leads k ks stop (eval.raise e) = IsException k e
Leads k ks stop (eval.return a v) = (is_under_way ks a ≡ true) × IsValue k v
Leads k ks stop (eval.break a v) = (is_under_way ks a ≡ true) × IsValue k v
Leads k ks stop (eval.leave_loop v) = ((is_loop stop || in_loop ks) ≡ true) × IsValue k v
Leads k ks stop (eval.next v) = IsValue k v
Leads k ks stop eval.begin_anew = (begins_anew stop || in_clause ks) ≡ true

leads_over : (k : Census) (ks : List Item) (p : Part) (x : Exit) → ExitFits k (eval.part p ∷ ks) x
    → Leads k ks (stop_of p) x
leads_over k ks p (eval.raise e) h = h
leads_over k ks p (eval.return a v) h = h
leads_over k ks p (eval.break a v) h = h
leads_over k ks p (eval.leave_loop v) h = h
leads_over k ks p (eval.next v) h = h.1
leads_over k ks p eval.begin_anew h = h

-- past a part that is neither a loop nor a clause
leads_on : (k : Census) (ks : List Item) (stop : Stop) (x : Exit) → is_loop stop ≡ false → begins_anew stop ≡ false
    → is_there ks ≡ true → Leads k ks stop x → ExitFits k ks x
leads_on k ks stop (eval.raise e) l b t h = h
leads_on k ks stop (eval.return a v) l b t h = h
leads_on k ks stop (eval.break a v) l b t h = h
leads_on k ks stop (eval.leave_loop v) l b t h = (subst (λ c. (c || in_loop ks) ≡ true) l h.0, h.1)
leads_on k ks stop (eval.next v) l b t h = (t, h)
leads_on k ks stop eval.begin_anew l b t h = subst (λ c. (c || in_clause ks) ≡ true) b h

module _ (s : Source) (early : Past) (ks : List Item) (m : Memory) (a : Around) (t : Text s early ks m a) where
  abbrev k : Census
  k = census m.world.store

  goes_out : (x : Exit) → ExitFits k ks x → Fits s early (Run (eval.travel x) ks m)
  goes_out x h = goes s early (eval.travel x) ks m t.under h

  loop_left : (x : Exit) (n : ℕ) (e b : CoreForm) → StopStands s a (eval.loops n e b) → Leads k ks (eval.loops n e b) x
      → Fits s early (travel_loop x n e b ks m)
  loop_left (eval.leave_loop v) n e b h l = goes s early (eval.give v) ks m t.under l.1
  loop_left (eval.next v) n e b h l = loop_done s early n false e b ks m a t h.0 h.1
  loop_left (eval.raise x) n e b h l = goes_out (eval.raise x) l
  loop_left (eval.return i v) n e b h l = goes_out (eval.return i v) l
  loop_left (eval.break i v) n e b h l = goes_out (eval.break i v) l
  loop_left eval.begin_anew n e b h l = goes_out eval.begin_anew l

  rescue_met : (x : Exit) (n : ℕ) (r : Rescue) → StopStands s a (eval.rescues n r) → Leads k ks (eval.rescues n r) x
      → Fits s early (travel_rescue x n r ks m)
  rescue_met (eval.raise e) n r h l = clauses_done s early ks m a t n e r.clauses r l h.0 h.1
  rescue_met (eval.return i v) n r h l = goes_out (eval.return i v) l
  rescue_met (eval.break i v) n r h l = goes_out (eval.break i v) l
  rescue_met (eval.leave_loop v) n r h l = goes_out (eval.leave_loop v) l
  rescue_met (eval.next v) n r h l = goes_out (eval.next v) (t.there, l)
  rescue_met eval.begin_anew n r h l = goes_out eval.begin_anew l

  clause_left : (x : Exit) (r : Rescue) → RescueStands s a r → Leads k ks (eval.retries r) x
      → Fits s early (travel_clause x r ks m)
  clause_left eval.begin_anew r h l = rescue_begun s early ks m a t r h
  clause_left (eval.raise e) r h l = goes_out (eval.raise e) l
  clause_left (eval.return i v) r h l = goes_out (eval.return i v) l
  clause_left (eval.break i v) r h l = goes_out (eval.break i v) l
  clause_left (eval.leave_loop v) r h l = goes_out (eval.leave_loop v) l
  clause_left (eval.next v) r h l = goes_out (eval.next v) (t.there, l)

  -- for an exit the assignment of an exception is what its clause is
  assigned : (e : ObjId) (r : Rescue) (x : Exit) → Leads k ks (eval.assigns e r) x → Leads k ks (eval.retries r) x
  assigned e r (eval.raise y) l = l
  assigned e r (eval.return i v) l = l
  assigned e r (eval.break i v) l = l
  assigned e r (eval.leave_loop v) l = l
  assigned e r (eval.next v) l = l
  assigned e r eval.begin_anew l = l

  part_left : (x : Exit) (stop : Stop) → StopStands s a stop → Leads k ks stop x
      → Fits s early (travel_part x stop ks m)
  part_left x eval.passes h l = goes_out x (leads_on k ks eval.passes x refl refl t.there l)
  part_left x (eval.loops n e b) h l = loop_left x n e b h l
  part_left x (eval.rescues n r) h l = rescue_met x n r h l
  part_left x (eval.assigns e r) h l = clause_left x r h (assigned e r x l)
  part_left x (eval.retries r) h l = clause_left x r h l
  part_left x (eval.ensures n e) h l =
      ensure_done s early ks m a t n e (eval.exit x) h (leads_on k ks (eval.ensures n e) x refl refl t.there l)

-- Activations and iterations.

equal_back : (a b : ℕ) → nat_eq b a ≡ true → nat_eq a b ≡ true
equal_back a b h = (Decides-eqb a b).1 (sym ((Decides-eqb b a).0 h))

-- an exit for another activation is for one below
for_below : (a b : ℕ) (u : Bool) → (nat_eq b a || u) ≡ true → nat_eq a b ≡ false → u ≡ true
for_below a b u h other = by (nat_eq b a) refl h
  where
    by : (t : Bool) → nat_eq b a ≡ t → (t || u) ≡ true → u ≡ true
    by true e g = absurd (true≢false (sym (equal_back a b e) ∙ other))
    by false e g = g

module _ (s : Source) (early : Past) (ks : List Item) (m : Memory) (u : Under s early ks m) where
  abbrev c : Census
  c = census m.world.store

  reached : (t : Bool) (x : Exit) (v : Value) → IsValue c v → (t ≡ false → ExitFits c ks x)
      → Fits s early (reach t x v ks m)
  reached true x v is out = goes s early (eval.give v) ks m u is
  reached false x v is out = goes s early (eval.travel x) ks m u (out refl)

  activation_left : (x : Exit) (a : ℕ) (back : _) → ExitFits c (eval.activation a back ∷ ks) x
      → Fits s early (travel_activation x a ks m)
  activation_left (eval.return b v) a back h =
      by (nat_eq a b) refl
    where
      by : (t : Bool) → nat_eq a b ≡ t → Fits s early (reach t (eval.return b v) v ks m)
      by t e = reached t (eval.return b v) v h.1 (λ g. (for_below a b (is_under_way ks b) h.0 (e ∙ g), h.1))
  activation_left (eval.break b v) a back h =
      by (nat_eq a b) refl
    where
      by : (t : Bool) → nat_eq a b ≡ t → Fits s early (reach t (eval.break b v) v ks m)
      by t e = reached t (eval.break b v) v h.1 (λ g. (for_below a b (is_under_way ks b) h.0 (e ∙ g), h.1))
  activation_left (eval.next v) a back h = goes s early (eval.give v) ks m u h.1
  activation_left (eval.raise e) a back h = goes s early (eval.travel (eval.raise e)) ks m u h
  activation_left (eval.leave_loop v) a back h = absurd (true≢false (sym h.0))
  activation_left eval.begin_anew a back h = absurd (true≢false (sym h))

  caught_or : (e : ObjId) (o : Option Value) → IsException c e → OptionIs (IsValue c) o
      → Fits s early (travel_caught e o ks m)
  caught_or e None is h = goes s early (eval.travel (eval.raise e)) ks m u is
  caught_or e (Some v) is h = goes s early (eval.give v) ks m u h

  iteration_left : (x : Exit) (a : ℕ) (it : Iteration) (back : _) → ExitFits c (eval.iteration a it back ∷ ks) x
      → Fits s early (travel_iteration x a it ks m)
  iteration_left (eval.raise e) a it back h =
      caught_or e (caught it e m.world.store) h
      (caught_is (bodies s early.Known m.scopes) m.world u.memory.world it e (has_any m.world.store sort.Exception e h))
  iteration_left (eval.return b v) a it back h =
      by (nat_eq a b) refl
    where
      by : (t : Bool) → nat_eq a b ≡ t → Fits s early (reach t (eval.return b v) v ks m)
      by t e = reached t (eval.return b v) v h.1 (λ g. (for_below a b (is_under_way ks b) h.0 (e ∙ g), h.1))
  iteration_left (eval.break b v) a it back h =
      by (nat_eq a b) refl
    where
      by : (t : Bool) → nat_eq a b ≡ t → Fits s early (reach t (eval.break b v) v ks m)
      by t e = reached t (eval.break b v) v h.1 (λ g. (for_below a b (is_under_way ks b) h.0 (e ∙ g), h.1))
  iteration_left (eval.next v) a it back h = goes s early (eval.give v) ks m u h.1
  iteration_left (eval.leave_loop v) a it back h = absurd (true≢false (sym h.0))
  iteration_left eval.begin_anew a it back h = absurd (true≢false (sym h))

-- Past the last item.

module _ (s : Source) (early : Past) (m : Memory) (h : MemoryFits s early m) where
  exception_leaves : (e : ObjId) (o : Option (Onward Kept)) → IsException (census m.world.store) e
      → OptionIs (OnwardIs (census m.world.store) (KeptFits s m.world m.scopes)) o → Fits s early (leave_fiber e o m)
  exception_leaves e None is out = asked (is_asked m.world e)
    where
      ends : (x : Unrescued) → Fits s early (end_by x m.world.out)
      ends x = either (Fits s early) x.exits (Halt (Ended m.world.out x.status))
          (Halt (Uncaught m.world.out x.class x.message)) tt tt

      asked : (c : Bool) → Fits s early (end_or_ask c e m)
      asked true =
          let r = report_begins (bodies s early.Known m.scopes) m.world h.world e is in
          iteration_opens s early (reporting e) (core_activation m.world (Obj e)) [] m (record {
            memory =
                h;
            items = tt;
          })
          (asking m.world) r.keeps r.state r.activation r.core
      asked false = ends (unrescued m.world.store e)
  exception_leaves e (Some o) is out =
      fiber_ended s early (eval.travel (eval.raise e)) (Some o) m h out
      (λ i w k. sort_stays m.world w k.extends sort.Exception e is)

  last_left : (x : Exit) → ExitFits (census m.world.store) [] x → Fits s early (travel_out x m)
  last_left (eval.raise e) is = exception_leaves e (fibers.finish m.fibers) is (finish_fits s early m h)
  last_left (eval.return a v) is = absurd (true≢false (sym is.0))
  last_left (eval.break a v) is = absurd (true≢false (sym is.0))
  last_left (eval.leave_loop v) is = absurd (true≢false (sym is.0))
  last_left (eval.next v) is = absurd (true≢false (sym is.0))
  last_left eval.begin_anew is = absurd (true≢false (sym is))

-- past an ensure part
leads_behind : (k : Census) (ks : List Item) (o : _) (x : Exit) → is_there ks ≡ true
    → ExitFits k (eval.ensuring o ∷ ks) x → ExitFits k ks x
leads_behind k ks o (eval.raise e) t h = h
leads_behind k ks o (eval.return a v) t h = h
leads_behind k ks o (eval.break a v) t h = h
leads_behind k ks o (eval.leave_loop v) t h = h
leads_behind k ks o (eval.next v) t h = (t, h.1)
leads_behind k ks o eval.begin_anew t h = h

pub exit_done : (s : Source) (early : Past) (x : Exit) (ks : List Item) (m : Memory) → Under s early ks m
    → ExitFits (census m.world.store) ks x → Fits s early (do_travel x ks m)
unfolding do_travel
exit_done s early x [] m u h = last_left s early m u.memory x h
exit_done s early x (eval.part p ∷ ks) m u h =
    let g = u.items.0 in
    part_left s early ks m g.0
    (record { under = record { memory = u.memory; items = u.items.2 }; there = u.items.1; around = g.1 }) x (stop_of p)
    (stop_stands s (census m.world.store) g.0 p g.2) (leads_over (census m.world.store) ks p x h)
exit_done s early x (eval.activation a back ∷ ks) m u h =
    let k = closed s early m a u.memory in
    activation_left s early ks (returned m a back) (back_under s early ks m a back u.memory u.items.1 u.items.2) x a back
    (exit_stays s m.world (close m.world a) k.extends (eval.activation a back ∷ ks) x h)
exit_done s early x (eval.iteration a it back ∷ ks) m u h =
    let k = closed s early m a u.memory in
    iteration_left s early ks (returned m a back) (back_under s early ks m a back u.memory u.items.2 u.items.3) x a it back
    (exit_stays s m.world (close m.world a) k.extends (eval.iteration a it back ∷ ks) x h)
exit_done s early x (eval.ensuring o ∷ ks) m u h =
    goes s early (eval.travel x) ks m (record { memory = u.memory; items = u.items.2 })
    (leads_behind (census m.world.store) ks o x u.items.1 h)
