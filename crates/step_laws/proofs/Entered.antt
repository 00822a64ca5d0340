-- What a call enters, on both sides: an answer, the body of a method or a block, or an iteration.
use Rattle.std.proofs.Common.{◌≡◌, ◌⊎◌, inl, inr, ℕ, zero, suc, ◌+◌, ◌<◌, List, [], ◌∷◌, refl, sym, ap, ◌∙◌, subst, arith, length, length-append, Bool, true, false}
use Rattle.std.specs.Prelude.{if◌then◌else◌, Option, Some, None}
use Rattle.rb_value.specs.declared.value.Value.TheVariants.{Nil}
use Rattle.rb_value.specs.declared.value.ObjId.{ObjId}
use Rattle.rb_value.specs.Object.{Object}
use Rattle.def_core.specs.declared.bound.Bound.{Bound}
use Rattle.def_core.specs.declared.bound.Bound.TheVariants.{Values, Wrong}
use Rattle.def_core.specs.declared.cause.Cause.TheVariants as cause
use Rattle.def_core.specs.Bind.{bind}
use Rattle.rite_code.specs.Code.{Program}
use Rattle.ir_core.specs.CoreForm.{CoreForm, Forms, none, more, Body}
use Rattle.def_calls.specs.World.{World, Activation, Answer, Result, gives, raises, fail, next_activation, with_activation, with_store}
use Rattle.def_calls.specs.Calls.{Entry, answers, enters, begins, Opening, is_full, settle}
use Rattle.def_eval.specs.Source.{Source, span, parameters_of, locals_of, body_at, form_of}
use Rattle.def_eval.specs.Configuration as source
use Rattle.def_eval.specs.Configuration.{Item, activation, Config}
use Rattle.def_eval.specs.Scopes.{shape_of, first_variables}
use Rattle.def_eval.specs.Entering.{after_result, depth, do_all, do_from, forms_in, begin_body, first_of, count_failure, begin_bound, in_new_scope, open_body, open_iteration, enter}
use Rattle.def_eval.specs.Transition.{go}
use Rattle.def_machine.specs.State as machine
use Rattle.def_machine.specs.State.{Level, On}
use Rattle.def_machine.specs.Entering.{answer_result, open_frame, enter as enter_machine}
use Rattle.def_machine.specs.Turn.{turn}
use Rattle.step_laws.specs.Calm.{Quiet, Still}
use Rattle.step_laws.specs.Bodies.{OpensBody, EntersBody, CallsBodies}
use Rattle.step_laws.specs.Relation.{Waits, Ground, over_levels, Alike}
use Rattle.step_laws.proofs.Untouched.{same_world}
use Rattle.step_laws.proofs.Matching.{Soon, soon_one}
use Rattle.step_laws.proofs.Calling.{depth_is, Origin, Worlds, Falls, answered}
use Rattle.step_laws.proofs.Entering.{enters_body}

-- what is told of the objects of a world tells what an entry is
pub then_enters : {A : Type 0} (s : Source) (p : Program) (before objects : List Object) (e : Entry)
    → (CallsBodies s p before objects → EntersBody s p before e) → A ⊎ CallsBodies s p before objects
    → A ⊎ EntersBody s p before e
then_enters s p before objects e to (inl still) = inl still
then_enters s p before objects e to (inr calls) = inr (to calls)

-- Nothing but a body opens a scope.

quiet_all : (m : source.Memory) (n : ℕ) (es : Forms) (ks : List Item) (l : source.Memory) → Still m (do_all n es ks l)
    → length l.scopes ≡ length m.scopes
quiet_all m n none ks l q = q
quiet_all m n (more e es) ks l q = q

quiet_from : (m : source.Memory) (k n : ℕ) (es : Forms) (ks : List Item) (l : source.Memory)
    → Still m (do_from k n es ks l) → length l.scopes ≡ length m.scopes
quiet_from m zero n es ks l q = quiet_all m n es ks l q
quiet_from m (suc k) n none ks l q = quiet_all m n none ks l q
quiet_from m (suc k) n (more e es) ks l q = quiet_from m k (n + span e) es ks l q

quiet_body : (m : source.Memory) (k n : ℕ) (e : CoreForm) (ks : List Item) (l : source.Memory)
    → Still m (begin_body k n e ks l) → length l.scopes ≡ length m.scopes
quiet_body m zero n e ks l q = q
quiet_body m (suc k) n e ks l q = quiet_from m (suc k) n (forms_in e) ks l q

quiet_answer : (m : source.Memory) (x : Result) (w : World) (ks : List Item) (l : source.Memory)
    → Still m (after_result x w ks l) → length l.scopes ≡ length m.scopes
quiet_answer m (gives v) w ks l q = q
quiet_answer m (raises e) w ks l q = q

opens_scope : (m : source.Memory) (o : Opening) (b : Body) (x : Bound) (ks : List Item) (l : source.Memory) (w : World)
    → Still m (begin_bound o b x ks l w) → length l.scopes < length m.scopes
opens_scope m o b (Values list filled) ks l w q =
    let scope : source.Scope = record {
      parent = first_of o.scopes;
      variables = first_variables (parameters_of b) (locals_of b) list o.block;
    } in
    let all = quiet_body m filled (o.body + 1) (form_of b) (activation (next_activation w) l.place ∷ ks)
    (in_new_scope l w scope o.activation) q in
    omega (arith, all, length-append l.scopes (scope ∷ []))
opens_scope m o b (Wrong given) ks l w q =
    let scope : source.Scope = record {
      parent = first_of o.scopes;
      variables = first_variables (parameters_of b) (locals_of b) [] None;
    } in
    let inside = in_new_scope l w scope o.activation in
    let failure = count_failure inside.world (shape_of (parameters_of b)) given in
    let all = quiet_answer m failure.result failure.world (activation (next_activation w) l.place ∷ ks) inside q in
    omega (arith, all, length-append l.scopes (scope ∷ []))

opens : (m : source.Memory) (s : Source) (o : Opening) (ks : List Item) (l : source.Memory) (w : World)
    → Still m (open_body s o ks l w) → length l.scopes < length m.scopes
opens m s o ks l w q =
    let b = body_at s o.body in
    let bound = bind w.store (shape_of (parameters_of b)) o.arguments o.binds in
    opens_scope m o b bound.bound ks l (with_store w bound.store) q

-- What is settled of a block changes no activation.

settled : (w : World) (b : Option ObjId) (t : Option ℕ) → (settle w b t).activations ≡ w.activations
unfolding settle
settled w None t = refl
settled w (Some q) t = refl

opens_settled : (s : Source) (p : Program) (before : List Object) (w : World) (b : Option ObjId) (t : Option ℕ)
    (o : Opening) → OpensBody s p before w o → OpensBody s p before (settle w b t) o
opens_settled s p before w b t o is = record {
  code = is.code;
  called = is.called;
  home = λ r e. is.home r e ∙ ap (λ (all : List Activation). length all + 1) (sym (settled w b t));
}

-- What a call enters: no body where no scope is opened, and else one with code.
pub entered : (s : Source) (p : Program) (c : Config) (ls : List Level) (k : machine.Memory) (m : source.Memory)
    → Origin s c ls k m → (e : Entry) (block : Option ObjId) (ks : List Item) (m' : source.Memory) (g : Ground)
    (gs : List Level) (k' : machine.Memory) → go s c ≡ enter s e block ks m'
    → turn p (On ls k) ≡ enter_machine p e block gs k'
    → Falls gs ks m' c → length m'.scopes ≡ length m.scopes → Worlds s p (over_levels g gs) m m' k'
    → Waits g.sites g.fiber k'.lists ks m'.place gs → (Still m (go s c) ⊎ EntersBody s p m.world.store.objects e)
    → Soon s p c (On ls k)
unfolding enter enter_machine
entered s p c ls k m from (answers a) block ks m' g gs k' goes turns less scopes both waits calls =
    answered s p c ls k m from a.result (settle a.world block None) ks m' g gs k' goes turns less both waits
entered s p c ls k m from (enters o w) block ks m' g gs k' goes turns less scopes both waits calls =
    at (is_full (depth ks)) refl
  where
    failure : Answer
    failure = fail (settle w block None) cause.StackTooDeep

    -- the world in which the block is settled
    u : World
    u = settle w block (Some (next_activation w))

    at : (b : Bool) → is_full (depth ks) ≡ b → Soon s p c (On ls k)
    at true e =
        let goes' = goes ∙ ap (λ (t : Bool). if t then after_result failure.result failure.world ks m'
        else open_body s o ks m' u) e in
        let turns' = turns ∙ ap (λ (t : Bool). if t
        then answer_result p failure.result gs (machine.with_world k' failure.world)
        else open_frame p o u gs k')
        (ap is_full (sym (depth_is g.sites g.fiber k'.lists ks m'.place gs waits)) ∙ e) in
        answered s p c ls k m from failure.result failure.world ks m' g gs k' goes' turns' less both waits
    at false e =
        let goes' = goes ∙ ap (λ (t : Bool). if t then after_result failure.result failure.world ks m'
        else open_body s o ks m' u) e in
        let turns' = turns ∙ ap (λ (t : Bool). if t
        then answer_result p failure.result gs (machine.with_world k' failure.world)
        else open_frame p o u gs k')
        (ap is_full (sym (depth_is g.sites g.fiber k'.lists ks m'.place gs waits)) ∙ e) in
        by goes' turns' calls
      where
        by : go s c ≡ open_body s o ks m' u → turn p (On ls k) ≡ open_frame p o u gs k'
            → (Still m (go s c) ⊎ OpensBody s p m.world.store.objects w o) → Soon s p c (On ls k)
        by goes' turns' (inl still) =
            let more = opens m s o ks m' u (subst (Still m) goes' still) in
            absurd (omega (arith, more, scopes))
        by goes' turns' (inr is) =
            let sites = (both m.world (same_world m.world)).sites in
            enters_body s p c ls k m from o u ks m' g gs k' goes' turns'
            (opens_settled s p m.world.store.objects w block (Some (next_activation w)) o is) both waits
            (omega (arith, sites.scopes, sites.lists))
entered s p c ls k m from (begins it a w) block ks m' g gs k' goes turns less scopes both waits calls =
    at (is_full (depth ks)) refl
  where
    failure : Answer
    failure = fail (settle w block None) cause.StackTooDeep

    -- the world in which the block is settled
    u : World
    u = settle w block (Some (next_activation w))

    turned_to : (b : Bool) → is_full (depth ks) ≡ b → turn p (On ls k)
        ≡ (if b then answer_result p failure.result gs (machine.with_world k' failure.world)
        else On (machine.iteration (next_activation u) it Nil ∷ gs) (machine.with_world k' (with_activation u a)))
    turned_to b e = turns ∙ ap (λ (t : Bool). if t
        then answer_result p failure.result gs (machine.with_world k' failure.world)
        else On (machine.iteration (next_activation u) it Nil ∷ gs) (machine.with_world k' (with_activation u a)))
        (ap is_full (sym (depth_is g.sites g.fiber k'.lists ks m'.place gs waits)) ∙ e)

    at : (b : Bool) → is_full (depth ks) ≡ b → Soon s p c (On ls k)
    at true e =
        let goes' = goes ∙ ap (λ (t : Bool). if t then after_result failure.result failure.world ks m'
        else open_iteration it a ks m' u) e in
        answered s p c ls k m from failure.result failure.world ks m' g gs k' goes' (turned_to true e) less both waits
    at false e =
        let goes' = goes ∙ ap (λ (t : Bool). if t then after_result failure.result failure.world ks m'
        else open_iteration it a ks m' u) e in
        let quiet = subst (Quiet m) goes' from.quiet in
        let all = both (with_activation u a) quiet.1 in
        soon_one s p c (On ls k) _ from.alike (turned_to false e)
        (subst (λ (d : Config). Alike s p d (On (machine.iteration (next_activation u) it Nil ∷ gs)
        (machine.with_world k' (with_activation u a)))) (sym goes') (record {
          g = over_levels g gs;
          is = refl;
          both = record { world = all.world; sites = all.sites; fibers = all.fibers; apart = all.apart };
          waits = waits;
        }))
