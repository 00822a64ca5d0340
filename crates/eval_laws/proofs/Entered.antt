-- What a call or an iteration enters fits, and so does the body of a class.
use Rattle.std.proofs.Common.{◌-◌, get_or, ◌≡◌, ◌<◌, ℕ, zero, suc, ◌+◌, List, [], ◌∷◌, ◌++◌, length, false, refl, sym, ap, ◌∙◌, subst, arith, length-append, true≢false, ⊎_elim}
use Rattle.std.specs.Prelude.{Option, Some, None}
use Rattle.rb_value.specs.declared.value.Value.{Value}
use Rattle.rb_value.specs.declared.value.Value.TheVariants.{Nil}
use Rattle.rb_value.specs.declared.value.ObjId.{ObjId}
use Rattle.def_core.specs.declared.bound.Bound.{Bound}
use Rattle.def_core.specs.declared.bound.Bound.TheVariants as bound
use Rattle.def_core.specs.declared.cause.Cause.TheVariants as cause
use Rattle.def_core.specs.Store.{Store}
use Rattle.def_core.specs.Bind.{bind}
use Rattle.def_core.specs.Sound.{Census, census, ClassOrModule, Proc, Any, Is, IsValue, OptionIs, AllAre}
use Rattle.def_core.proofs.Good.{is_good}
use Rattle.ir_core.specs.CoreForm as form
use Rattle.ir_core.specs.CoreForm.{Local, CoreForm, Body, body, Forms, none, more, Parameters}
use Rattle.ir_core.specs.Program.{Around, within_block, within_method, within_class}
use Rattle.def_calls.specs.World.{no_activation, activation_at, core_method, World, Result, gives, raises, Activation, next_activation, with_activation, with_store, fail}
use Rattle.def_calls.specs.Calls.{Entry, answers, enters, begins, Opening, is_full, settle, with_class_body}
use Rattle.def_calls.specs.Plans.{Iteration}
use Rattle.def_eval.specs.Source.{Source, body_at, form_of, parameters_of, locals_of, span}
use Rattle.def_eval.specs.Configuration as eval
use Rattle.def_eval.specs.Configuration.{Place, Scope, Item, Memory, Config, Run, all_nil}
use Rattle.def_eval.specs.Scopes.{scopes_around, shape_of, with_values, all_of, block_value, first_variables, running}
use Rattle.def_eval.specs.Entering.{after, depth, do_all, do_from, forms_in, begin_body, first_of, in_new_scope, count_failure, begin_bound, open_body, open_iteration, enter, begin_class, run_class}
use Rattle.world_laws.specs.Fine.{Keeps, Extends, IsActivation}
use Rattle.world_laws.specs.Outcomes.{ResultIs, BoundIs, OpensIn, OpeningIs, StateIs, EntryIs}
use Rattle.world_laws.proofs.Growing.{extends_both, role_stays, sort_stays, value_stays, option_stays}
use Rattle.rb_value.specs.declared.kind.Sort.TheVariants as sort
use Rattle.world_laws.proofs.Standing.{keeps_then}
use Rattle.world_laws.proofs.Worlds.{keeps_activation}
use Rattle.world_laws.proofs.Answers.{fails_with, answer_then}
use Rattle.world_laws.proofs.Binding.{bind_is}
use Rattle.world_laws.proofs.Entering.{opening_stays, opens_stays}
use Rattle.world_laws.proofs.Ending.{settle_keeps, class_body_keeps}
use Rattle.world_laws.proofs.Plans.{state_stays}
use Rattle.eval_laws.specs.Standing.{FormStands, FormsStand, BlockStands, MethodStands, ClassStands}
use Rattle.eval_laws.specs.Fits.{Past, IsCore, ScopeFits, SceneFits, Fits, bodies}
use Rattle.eval_laws.proofs.Tests.{either}
use Rattle.eval_laws.proofs.Scopes.{Values, Parents, parents_of, later_more, later_itself, scopes_more}
use Rattle.eval_laws.proofs.Staying.{place_stays, items_stay, memories_stay, names_stay, fine_later}
use Rattle.eval_laws.proofs.Scenes.{values_with, values_nil, values_both, scene_method, scene_block, scene_class}
use Rattle.eval_laws.proofs.Going.{Under, Text, scopes_stay, running_is, goes, after_fits, does, does_part}

-- Bodies by their parts.

method_parts : (s : Source) (n : ℕ) (f : Body) → MethodStands s n f
    → FormStands s (within_method (parameters_of f) (locals_of f)) (n + 1) (form_of f)
method_parts s n (body p ls e) h = h.2

block_parts : (s : Source) (a : Around) (n : ℕ) (f : Body) → BlockStands s a n f
    → FormStands s (within_block a (parameters_of f) (locals_of f)) (n + 1) (form_of f)
block_parts s a n (body p ls e) h = h.2

class_parts : (s : Source) (n : ℕ) (f : Body) → ClassStands s n f
    → FormStands s (within_class (locals_of f)) (n + 1) (form_of f)
class_parts s n (body p ls e) h = h.1

-- The variables of a body at its start.

block_is : (k : Census) (b : Option ObjId) → OptionIs (Is k Any) b → IsValue k (block_value b)
block_is k None h = tt
block_is k (Some p) h = h

first_are : (k : Census) (p : Parameters) (ls : List Local) (vs : List Value) (b : Option ObjId)
    → AllAre (IsValue k) vs → OptionIs (Is k Any) b → Values k (first_variables p ls vs b)
unfolding first_variables
first_are k p ls vs b all is =
    let blocks = with_values p.block (block_value b ∷ []) in
    values_both k (with_values (all_of p) vs ++ blocks) (all_nil ls)
    (values_both k (with_values (all_of p) vs) blocks (values_with k (all_of p) vs all)
    (values_with k p.block (block_value b ∷ []) (block_is k b is, tt)))
    (values_nil k ls)

any_of : (st : Store) (b : Option ObjId) → OptionIs (Is (census st) Proc) b → OptionIs (Is (census st) Any) b
any_of st None h = tt
any_of st (Some p) h = (is_good st Proc p h).there

first_around : (cs : List Scope) (n : ℕ) → first_of (scopes_around cs n) ≡ Some n
unfolding scopes_around
first_around cs n = refl

-- what stands behind the others
last_is : (xs : List Activation) (x d : Activation) (n : ℕ) → n ≡ length xs → get_or (xs ++ x ∷ []) n d ≡ x
last_is [] x d zero e = refl
last_is [] x d (suc n) e = absurd (omega (arith, e))
last_is (y ∷ xs) x d zero e = absurd (omega (arith, e))
last_is (y ∷ xs) x d (suc n) e = last_is xs x d n (omega (arith, e))

module _ (s : Source) (early : Past) where
  -- The forms of a body.

  pub all_done : (n : ℕ) (es : Forms) (ks : List Item) (m : Memory) (a : Around) → Text s early ks m a
      → FormsStand s a n es
      → Fits s early (do_all n es ks m)
  all_done n none ks m a t h = goes s early (eval.give Nil) ks m t.under tt
  all_done n (more e es) ks m a t h = does_part s early (eval.rest (n + span e) es) n e ks m a t h.1 h.0

  from_done : (k n : ℕ) (es : Forms) (ks : List Item) (m : Memory) (a : Around) → Text s early ks m a
      → FormsStand s a n es
      → Fits s early (do_from k n es ks m)
  from_done zero n es ks m a t h = all_done n es ks m a t h
  from_done (suc k) n none ks m a t h = all_done n none ks m a t h
  from_done (suc k) n (more e es) ks m a t h = from_done k (n + span e) es ks m a t h.1

  stand_in : (a : Around) (n : ℕ) (e : CoreForm) → FormStands s a n e → FormsStand s a n (forms_in e)
  stand_in a n (form.seq es) h = h
  stand_in a n e h = (h, tt)

  body_done : (k n : ℕ) (e : CoreForm) (ks : List Item) (m : Memory) (a : Around) → Text s early ks m a
      → FormStands s a n e → Fits s early (begin_body k n e ks m)
  body_done zero n e ks m a t h = does s early n e ks m a t h
  body_done (suc k) n e ks m a t h = from_done (suc k) n (forms_in e) ks m a t (stand_in a n e h)

  -- A new scope in a later world, for the activation of that number.
  module _ (ks : List Item) (m : Memory) (u : Under s early ks m) (w : World) (k : Keeps (bodies s early.Known m.scopes) m.world w)
      (i : ℕ) (is : IsActivation w i) where
    p : Parents m.scopes
    p = parents_of (census m.world.store) m.scopes u.memory.scopes

    module _ (c : Scope) (fits : ScopeFits (census w.store) (length m.scopes) c) where
      abbrev inside : Memory
      inside = record m {
        place = record { activation = i; scope = length m.scopes };
        scopes = m.scopes ++ c ∷ [];
        world = w;
      }

      under_new : Under s early (eval.activation i m.place ∷ ks) inside
      under_new =
          let l = later_more m.scopes c in
          let e = k.extends in
          let ds = m.scopes ++ c ∷ [] in
          record {
            memory = record {
              place = record { activation = is; scope = rw length-append (omega arith) };
              scopes = scopes_more (census w.store) m.scopes c
                  (scopes_stay s early m.world w m.scopes e u.memory.scopes) fits;
              world = fine_later s early.Known m.scopes ds p l w k.fine;
              names = names_stay s m.world w e u.memory.names;
              fibers = memories_stay s m.world w e m.scopes ds p l m.fibers u.memory.fibers;
              since = extends_both early.world m.world w u.memory.since e;
              out = k.out ∙ u.memory.out;
            };
            items = (
              refl,
              place_stays s m.world w e m.scopes ds p l m.place u.memory.place,
              items_stay s m.world w e m.scopes ds p l m.place ks u.memory.place.scope u.items,
            );
          }

      text_new : (a : Around) → SceneFits (m.scopes ++ c ∷ []) (length m.scopes) a → a.target ≡ false
          → a.clause ≡ false → Text s early (eval.activation i m.place ∷ ks) inside a
      text_new a scene t r = record {
        under = under_new;
        there = refl;
        around = record {
          scene = scene;
          target = λ e. absurd (true≢false (sym e ∙ t));
          clause = λ e. absurd (true≢false (sym e ∙ r));
        };
      }

    -- and an iteration in the same scope
    under_iteration : (it : Iteration) → IsCore w i → StateIs (census w.store) it
        → Under s early (eval.iteration i it m.place ∷ ks)
        (record m { place = record m.place { activation = i }; world = w })
    under_iteration it core state =
        let l = later_itself m.scopes in
        let e = k.extends in
        record {
          memory = record {
            place = record { activation = is; scope = u.memory.place.scope };
            scopes = scopes_stay s early m.world w m.scopes e u.memory.scopes;
            world = k.fine;
            names = names_stay s m.world w e u.memory.names;
            fibers = memories_stay s m.world w e m.scopes m.scopes p l m.fibers u.memory.fibers;
            since = extends_both early.world m.world w u.memory.since e;
            out = k.out ∙ u.memory.out;
          };
          items = (
            (refl, core),
            state,
            place_stays s m.world w e m.scopes m.scopes p l m.place u.memory.place,
            items_stay s m.world w e m.scopes m.scopes p l m.place ks u.memory.place.scope u.items,
          );
        }

  -- the number of an activation that is opened
  opened_number : (w : World) (a : Activation) → IsActivation (with_activation w a) (next_activation w)
  opened_number w a = (omega arith, rw length-append (omega arith))

  core_opened : (w : World) (a : Activation) → a.runs ≡ core_method
      → IsCore (with_activation w a) (next_activation w)
  unfolding activation_at
  core_opened w a core = record {
    there = opened_number w a;
    runs = ap (λ (x : Activation). x.runs) (last_is w.activations a no_activation (next_activation w - 1) (omega arith)) ∙ core;
  }

  -- What is entered with its arguments bound.
  module _ (ks : List Item) (m : Memory) (u : Under s early ks m) (w : World) (k : Keeps (bodies s early.Known m.scopes) m.world w)
      (o : Opening) (h : OpeningIs (bodies s early.Known m.scopes) w o) where
    abbrev after_world : World
    after_world = with_activation w o.activation

    after_keeps : Keeps (bodies s early.Known m.scopes) m.world after_world
    after_keeps = keeps_then (bodies s early.Known m.scopes) m.world w after_world k
        (keeps_activation (bodies s early.Known m.scopes) w k.fine o.activation h.activation)

    abbrev the_body : Body
    the_body = body_at s o.body

    abbrev scope_for : List Value → Option ObjId → Scope
    scope_for vs b = record {
      parent = first_of o.scopes;
      variables = first_variables (parameters_of the_body) (locals_of the_body) vs b;
    }

    first_within : OptionIs (λ n. n < length m.scopes) (first_of o.scopes)
    unfolding bodies
    first_within = ⊎_elim
        (λ x. subst (λ ns. OptionIs (λ n. n < length m.scopes) (first_of ns)) (sym x.1) tt)
        (λ x. subst (λ ns. OptionIs (λ n. n < length m.scopes) (first_of ns)) (sym (x.1).scopes ∙ x.3)
        (subst (OptionIs (λ n. n < length m.scopes)) (sym (first_around m.scopes (x.1).scope)) (x.1).within)) h.body

    scope_fits : (vs : List Value) (b : Option ObjId) → AllAre (IsValue (census w.store)) vs
        → OptionIs (Is (census w.store) Proc) b → ScopeFits (census w.store) (length m.scopes) (scope_for vs b)
    scope_fits vs b all is = record {
      parent = first_within;
      variables = first_are (census w.store) (parameters_of the_body) (locals_of the_body) vs b all
          (any_of w.store b is);
    }

    bound_fits : (x : Bound) → BoundIs (census w.store) x → Fits s early (begin_bound o the_body x ks m w)
    unfolding bodies
    bound_fits (bound.Values vs filled) all =
        let c = scope_for vs o.block in
        let fits = scope_fits vs o.block all h.block in
        let i = next_activation w in
        let is = opened_number w o.activation in
        ⊎_elim
        (λ x. body_done filled (o.body + 1) (form_of the_body) (eval.activation i m.place ∷ ks)
        (in_new_scope m w c o.activation) (within_method (parameters_of the_body) (locals_of the_body))
        (text_new ks m u after_world after_keeps i is c fits
        (within_method (parameters_of the_body) (locals_of the_body))
        (scene_method m.scopes (parents_of (census m.world.store) m.scopes u.memory.scopes) c (parameters_of the_body)
        (locals_of the_body) vs o.block refl (ap first_of x.1)) refl refl)
        (method_parts s o.body the_body (x.0).body))
        (λ x.
        let q = x.1 in
        let stands : BlockStands s q.around o.body (body_at s o.body) =
        subst (λ n. BlockStands s q.around n (body_at s n)) x.2 q.body in
        let a = within_block q.around (parameters_of the_body) (locals_of the_body) in
        body_done filled (o.body + 1) (form_of the_body) (eval.activation i m.place ∷ ks)
        (in_new_scope m w c o.activation) a
        (text_new ks m u after_world after_keeps i is c fits a
        (scene_block m.scopes (parents_of (census m.world.store) m.scopes u.memory.scopes) c (parameters_of the_body)
        (locals_of the_body) vs o.block refl q.around q.scope q.within
        (ap first_of (sym x.3 ∙ q.scopes) ∙ first_around m.scopes q.scope) q.scene) refl refl)
        (block_parts s q.around o.body the_body stands)) h.body
    bound_fits (bound.Wrong given) all =
        let c = scope_for [] None in
        let inside = in_new_scope m w c o.activation in
        let i = next_activation w in
        let v = under_new ks m u after_world after_keeps i (opened_number w o.activation) c (scope_fits [] None tt tt) in
        after_fits s early (count_failure inside.world (shape_of (parameters_of the_body)) given)
        (eval.activation i m.place ∷ ks) inside v
        (fails_with (bodies s early.Known inside.scopes) inside.world v.memory.world (cause.WrongCount given _ _) tt)

  -- Entries.

  result_stays : (w v : World) → Extends w v → (r : Result) → ResultIs (census w.store) r → ResultIs (census v.store) r
  result_stays w v e (gives x) h = value_stays w v e x h
  result_stays w v e (raises x) h = sort_stays w v e sort.Exception x h

  opening_settled : (cs : List Scope) (w : World) (o : Opening) (block : Option ObjId) (t : Option ℕ)
      → Extends w (settle w block t) → OpeningIs (bodies s early.Known cs) w o → OpeningIs (bodies s early.Known cs) (settle w block t) o
  unfolding settle
  opening_settled cs w o None t e h = h
  opening_settled cs w o (Some p) t e h = opening_stays (bodies s early.Known cs) w _ o e h

  opens_settled : (w : World) (a : Activation) (block : Option ObjId) (t : Option ℕ) → Extends w (settle w block t)
      → OpensIn w a → OpensIn (settle w block t) a
  unfolding settle
  opens_settled w a None t e h = h
  opens_settled w a (Some p) t e h = opens_stays w _ a e h

  -- an iteration begins in a later world
  pub iteration_opens : (it : Iteration) (a : Activation) (ks : List Item) (m : Memory) → Under s early ks m
      → (w : World)
      → Keeps (bodies s early.Known m.scopes) m.world w → StateIs (census w.store) it → OpensIn w a → a.runs ≡ core_method
      → Fits s early (open_iteration it a ks m w)
  iteration_opens it a ks m u w keeps state opens core =
      let x = with_activation w a in
      let k = keeps_activation (bodies s early.Known m.scopes) w keeps.fine a opens in
      goes s early (eval.give Nil) (eval.iteration (next_activation w) it m.place ∷ ks)
      (record m { place = record m.place { activation = next_activation w }; world = x })
      (under_iteration ks m u x (keeps_then (bodies s early.Known m.scopes) m.world w x keeps k) (next_activation w)
      (opened_number w a) it (core_opened w a core) (state_stays w x k.extends it state)) tt

  module _ (block : Option ObjId) (ks : List Item) (m : Memory) (u : Under s early ks m)
      (is : OptionIs (Is (census m.world.store) Proc) block) where
    settled : (w : World) → Keeps (bodies s early.Known m.scopes) m.world w → (t : Option ℕ)
        → Keeps (bodies s early.Known m.scopes) w (settle w block t)
    settled w k t = settle_keeps (bodies s early.Known m.scopes) w k.fine block t
        (option_stays (Is (census m.world.store) Proc) (Is (census w.store) Proc) (role_stays m.world w k.extends Proc)
        block is)

    settled_then : (w : World) → Keeps (bodies s early.Known m.scopes) m.world w → (t : Option ℕ)
        → Keeps (bodies s early.Known m.scopes) m.world (settle w block t)
    settled_then w k t = keeps_then (bodies s early.Known m.scopes) m.world w (settle w block t) k (settled w k t)

    too_deep : (w : World) → Keeps (bodies s early.Known m.scopes) m.world w
        → Fits s early (after (fail (settle w block None) cause.StackTooDeep) ks m)
    too_deep w k =
        let v = settle w block None in
        after_fits s early (fail v cause.StackTooDeep) ks m u
        (answer_then (bodies s early.Known m.scopes) m.world v (fail v cause.StackTooDeep) (settled_then w k None)
        (fails_with (bodies s early.Known m.scopes) v (settled w k None).fine cause.StackTooDeep tt))

    bound_opens : (o : Opening) (w : World) → Keeps (bodies s early.Known m.scopes) m.world w → OpeningIs (bodies s early.Known m.scopes) w o
        → Fits s early (open_body s o ks m w)
    bound_opens o w k h =
        let x = bind w.store (shape_of (parameters_of (body_at s o.body))) o.arguments o.binds in
        let g = bind_is (bodies s early.Known m.scopes) w k.fine (shape_of (parameters_of (body_at s o.body))) o.arguments o.binds
        h.arguments in
        bound_fits ks m u (with_store w x.store)
        (keeps_then (bodies s early.Known m.scopes) m.world w (with_store w x.store) k g.keeps) o
        (opening_stays (bodies s early.Known m.scopes) w x.store o g.keeps.extends h) x.bound g.bound

    -- whatever a call or an iteration enters
    pub entry_fits : (e : Entry) → EntryIs (bodies s early.Known m.scopes) m.world e → Fits s early (enter s e block ks m)
    unfolding enter
    entry_fits (answers a) h =
        let k = settled a.world h.keeps None in
        after_fits s early (record a { world = settle a.world block None }) ks m u (record {
          keeps = settled_then a.world h.keeps None;
          result = result_stays a.world (settle a.world block None) k.extends a.result h.result;
        })
    entry_fits (enters o w) h =
        let t = Some (next_activation w) in
        either (Fits s early) (is_full (depth ks)) (after (fail (settle w block None) cause.StackTooDeep) ks m)
        (open_body s o ks m (settle w block t)) (too_deep w h.keeps)
        (bound_opens o (settle w block t) (settled_then w h.keeps t)
        (opening_settled m.scopes w o block t (settled w h.keeps t).extends h.opening))
    entry_fits (begins it a w) h =
        let t = Some (next_activation w) in
        let v = settle w block t in
        let e = (settled w h.keeps t).extends in
        either (Fits s early) (is_full (depth ks)) (after (fail (settle w block None) cause.StackTooDeep) ks m)
        (open_iteration it a ks m v) (too_deep w h.keeps)
        (iteration_opens it a ks m u v (settled_then w h.keeps t) (state_stays w v e it h.state)
        (opens_settled w a block t e h.activation) h.core)

  -- The bodies of classes.

  module _ (n : ℕ) (c : ObjId) (ks : List Item) (m : Memory) (u : Under s early ks m)
      (is : Is (census m.world.store) ClassOrModule c) (h : ClassStands s n (body_at s n)) where
    class_begins : Fits s early (begin_class n (body_at s n) c ks m)
    unfolding with_class_body
    class_begins =
        let b = body_at s n in
        let own = running_is s early m u.memory in
        let w = with_class_body m.world (running m) c in
        let k = class_body_keeps (bodies s early.Known m.scopes) m.world u.memory.world (running m) c own is in
        let x = first_variables (parameters_of b) (locals_of b) [] None in
        let scope : Scope = record { parent = None; variables = x } in
        let fits : ScopeFits (census w.store) (length m.scopes) scope = record {
          parent = tt;
          variables = first_are (census w.store) (parameters_of b) (locals_of b) [] None tt tt;
        } in
        let i = next_activation m.world in
        let number : IsActivation w i = (omega arith, rw length-append (omega arith)) in
        does s early (n + 1) (form_of b) (eval.activation i m.place ∷ ks) (inside ks m u w k i number scope fits)
        (within_class (locals_of b))
        (text_new ks m u w k i number scope fits (within_class (locals_of b))
        (scene_class m.scopes (parents_of (census m.world.store) m.scopes u.memory.scopes) scope (parameters_of b)
        (locals_of b) [] None refl refl) refl refl)
        (class_parts s n b h)

    pub class_fits : Fits s early (run_class s n (Some c) ks m)
    class_fits =
        either (Fits s early) (is_full (depth ks)) (after (fail m.world cause.StackTooDeep) ks m)
        (begin_class n (body_at s n) c ks m)
        (after_fits s early (fail m.world cause.StackTooDeep) ks m u
        (fails_with (bodies s early.Known m.scopes) m.world u.memory.world cause.StackTooDeep tt))
        class_begins
