-- What each form does first fits.
use Rattle.std.proofs.Common.{◌≡◌, ◌≤◌, ℕ, ◌+◌, List, [], ◌∷◌, Bool, true, false, refl, sym, ap, subst, arith}
use Rattle.std.specs.Prelude.{Some, slice_get}
use Rattle.std.proofs.lemmas.Option.{get_or_from_slice_get}
use Rattle.rb_syntax.specs.declared.core_form.DefinedKind.{DefinedKind}
use Rattle.rb_value.specs.declared.value.Value.TheVariants.{Nil, True, False, Int, Sym, Obj}
use Rattle.rb_value.specs.declared.value.ObjId.{ObjId}
use Rattle.rb_value.specs.declared.kind.Kind.TheVariants as kind
use Rattle.rb_value.specs.declared.kind.Sort.TheVariants as sort
use Rattle.rb_value.specs.declared.core_class.CoreClass.TheVariants as class
use Rattle.def_core.specs.Store.{core, fresh, next_number, with_object}
use Rattle.def_core.specs.Parts as parts
use Rattle.def_core.specs.Sound.{census, ClassOrModule, IsValue}
use Rattle.def_core.proofs.Good.{is_good}
use Rattle.def_core.proofs.Grows.{core_is_class}
use Rattle.def_rows.specs.Answers.{text_object}
use Rattle.run_values.proofs.Made.{text_sound}
use Rattle.ir_core.specs.CoreForm as form
use Rattle.ir_core.specs.CoreForm.{Name, CoreForm, Body, body, Maybe, absent, there, Forms, none, more, Pairs, no_pairs, pair, Branches, no_branches, branch, Clauses}
use Rattle.ir_core.specs.Program.{Around, within_loop}
use Rattle.def_calls.specs.World.{World, class_around, with_store, make}
use Rattle.def_calls.specs.Calls.{to_super}
use Rattle.def_eval.specs.Source.{Source, body_at, parameters_of, span, span_maybe, span_clauses}
use Rattle.def_eval.specs.Configuration as eval
use Rattle.def_eval.specs.Configuration.{Place, Scope, Action, Item, Memory, Stop, Part, stop_of, with_world, Config, Run}
use Rattle.def_eval.specs.Scopes.{variable, own_variable, running, scopes_around, shape_of}
use Rattle.def_eval.specs.Entering.{symbol, make_proc}
use Rattle.def_eval.specs.Forms.{self_of, next_pair, next_piece, next_branch, do_loop, with_ensure, do_begin, exception_or, exception_in, tell_alone, one, two, any, in_scope, do_defined, do_form}
use Rattle.world_laws.specs.Outcomes.{AnswerIs}
use Rattle.world_laws.proofs.Stores.{keeps_object}
use Rattle.world_laws.proofs.Answers.{new_sort, makes_object, makes_text}
use Rattle.world_laws.proofs.Changing.{has_any}
use Rattle.world_laws.proofs.Values.{instance_variable_is}
use Rattle.world_laws.proofs.Classes.{define_method_is, alias_method_is, undefine_method_is}
use Rattle.world_laws.proofs.Constants.{global_is, class_around_is, get_constant_is, get_constant_in_is}
use Rattle.eval_laws.specs.Standing.{IsAsked, FormStands, MaybeStands, FormsStand, PairsStand, BranchesStand, BlockStands, MethodStands, ClassStands, past_branches}
use Rattle.eval_laws.specs.Procs.{literal_form}
use Rattle.eval_laws.specs.Fits.{Past, wanted, IsHash, IsText, PartFits, ItemsFit, ActionFits, BeginStands, Fits, bodies}
use Rattle.eval_laws.proofs.Going.{Text, text_then, running_is, symbol_is, variable_is, own_is, goes, after_fits, does, over_part, does_part}
use Rattle.eval_laws.proofs.Entered.{all_done}
use Rattle.eval_laws.proofs.Finishing.{operands_done, told_alone}
use Rattle.eval_laws.proofs.Calling.{gather_done, call_done, receiver_done, yield_done}

-- Bodies where their numbers say.

pub body_from : (s : Source) (n : ℕ) (f : Body) → slice_get s n ≡ Some f → body_at s n ≡ f
unfolding body_at
body_from s n f h = get_or_from_slice_get s n f _ h

pub block_there : (s : Source) (a : Around) (n : ℕ) (f : Body) → BlockStands s a n f → body_at s n ≡ f
block_there s a n (body p ls e) h = body_from s n (body p ls e) h.0

method_there : (s : Source) (n : ℕ) (f : Body) → MethodStands s n f → body_at s n ≡ f
method_there s n (body p ls e) h = body_from s n (body p ls e) h.0

class_there : (s : Source) (n : ℕ) (f : Body) → ClassStands s n f → body_at s n ≡ f
class_there s n (body p ls e) h = body_from s n (body p ls e) h.0

method_at : (s : Source) (n : ℕ) (f : Body) → MethodStands s n f → MethodStands s n (body_at s n)
method_at s n f h = subst (MethodStands s n) (sym (method_there s n f h)) h

class_at : (s : Source) (n : ℕ) (f : Body) → ClassStands s n f → ClassStands s n (body_at s n)
class_at s n f h = subst (ClassStands s n) (sym (class_there s n f h)) h

-- nothing stands in what is absent
pub behind_absent : (s : Source) (n : ℕ) (P : ℕ → Type 0) → P (n + 0) → P n
behind_absent s n P h = let e : n + 0 ≡ n = omega arith in subst P e h

-- The exception of a clause.

module _ (s : Source) (w : World) (cs : List Scope) where
  exception_by : (n : ℕ) (ks : List Item) (p : Part) → PartFits s (census w.store) cs n ks p
      → IsValue (census w.store) (exception_in ks) → IsValue (census w.store) (exception_or (stop_of p) (exception_in ks))
  exception_by n ks (eval.operands i action vs es) g k = k
  exception_by n ks (eval.receiver i x is b) g k = k
  exception_by n ks (eval.items i sending recv vs is b) g k = k
  exception_by n ks (eval.block sending recv vs) g k = k
  exception_by n ks (eval.elements i y id splat is) g k = k
  exception_by n ks (eval.hash_key i id e ps) g k = k
  exception_by n ks (eval.hash_value i id key ps) g k = k
  exception_by n ks (eval.pieces i id es) g k = k
  exception_by n ks (eval.rest i es) g k = k
  exception_by n ks (eval.test i b bs o) g k = k
  exception_by n ks eval.chosen g k = k
  exception_by n ks (eval.and_then i e) g k = k
  exception_by n ks (eval.or_else i e) g k = k
  exception_by n ks (eval.loop_test i t b) g k = k
  exception_by n ks (eval.loop_body i t b) g k = k
  exception_by n ks (eval.rescued i b cs o) g k = k
  exception_by n ks (eval.clause_class i e es t b cs r) g k = k
  exception_by n ks (eval.clause_target i e b r) g k = has_any w.store sort.Exception e g.2.0
  exception_by n ks (eval.clause_body r) g k = k
  exception_by n ks (eval.ensured i e) g k = k

  exception_is : (place : Place) (ks : List Item) → ItemsFit s w cs place ks → IsValue (census w.store) (exception_in ks)
  exception_is place [] h = tt
  exception_is place (eval.part p ∷ ks) h = exception_by place.scope ks p h.0 (exception_is place ks h.2)
  exception_is place (eval.activation a back ∷ ks) h = exception_is back ks h.2
  exception_is place (eval.iteration a it back ∷ ks) h = exception_is back ks h.3
  exception_is place (eval.ensuring o ∷ ks) h = exception_is place ks h.2

module _ (s : Source) (early : Past) where
  -- Hashes and texts.

  pub pairs_done : (n : ℕ) (id : ObjId) (ps : Pairs) (ks : List Item) (m : Memory) (a : Around) → Text s early ks m a
      → IsHash (census m.world.store) id → PairsStand s a n ps → Fits s early (next_pair n id ps ks m)
  pairs_done n id no_pairs ks m a t is stands =
      goes s early (eval.give (Obj id)) ks m t.under (has_any m.world.store sort.Hash id is)
  pairs_done n id (pair e f ps) ks m a t is stands =
      does_part s early (eval.hash_key (n + span e) id f ps) n e ks m a t (is, stands.1, stands.2) stands.0

  pub pieces_done : (n : ℕ) (id : ObjId) (es : Forms) (ks : List Item) (m : Memory) (a : Around) → Text s early ks m a
      → IsText (census m.world.store) id → FormsStand s a n es → Fits s early (next_piece n id es ks m)
  pieces_done n id none ks m a t is stands =
      goes s early (eval.give (Obj id)) ks m t.under (has_any m.world.store sort.String id is)
  pieces_done n id (more e es) ks m a t is stands =
      does_part s early (eval.pieces (n + span e) id es) n e ks m a t (is, stands.1) stands.0

  -- Conditions and loops.

  pub branches_done : (n : ℕ) (bs : Branches) (o : CoreForm) (ks : List Item) (m : Memory) (a : Around)
      → Text s early ks m a
      → BranchesStand s a n bs → FormStands s a (past_branches n bs) o → Fits s early (next_branch n bs o ks m)
  branches_done n no_branches o ks m a t stands last = does s early n o ks m a t last
  branches_done n (branch e b bs) o ks m a t stands last =
      does_part s early (eval.test (n + span e) b bs o) n e ks m a t (stands.1, stands.2, last) stands.0

  -- inside of a loop
  text_loop : (ks : List Item) (m : Memory) (a : Around) → Text s early ks m a → Text s early ks m (within_loop a)
  text_loop ks m a t = record {
    under = t.under;
    there = t.there;
    around = record {
      scene = record { sees = t.around.scene.sees; owns = t.around.scene.owns };
      target = t.around.target;
      clause = t.around.clause;
    };
  }

  pub loop_done : (n : ℕ) (first : Bool) (e b : CoreForm) (ks : List Item) (m : Memory) (a : Around)
      → Text s early ks m a
      → FormStands s (within_loop a) n e → FormStands s (within_loop a) (n + span e) b
      → Fits s early (do_loop n first e b ks m)
  loop_done n false e b ks m a t stands inside =
      let p = eval.loop_test n e b in
      does s early n e (eval.part p ∷ ks) m (within_loop a)
      (text_loop (eval.part p ∷ ks) m a (over_part s early p ks m a t (stands, inside))) stands
  loop_done n true e b ks m a t stands inside =
      let p = eval.loop_body n e b in
      does s early (n + span e) b (eval.part p ∷ ks) m (within_loop a)
      (text_loop (eval.part p ∷ ks) m a (over_part s early p ks m a t (stands, inside))) inside

  -- Begin forms.

  text_ensured : (n : ℕ) (e : Maybe) (ks : List Item) (m : Memory) (a : Around) → Text s early ks m a
      → MaybeStands s a n e → Text s early (with_ensure n e ks) m a
  text_ensured n absent ks m a t h = t
  text_ensured n (there e) ks m a t h = over_part s early (eval.ensured n e) ks m a t h

  begin_done : (n : ℕ) (b : CoreForm) (cs : Clauses) (o e : Maybe) (ks : List Item) (m : Memory) (a : Around)
      → Text s early ks m a → BeginStands s a n b cs o
      → MaybeStands s a (n + span b + span_maybe o + span_clauses cs) e → Fits s early (do_begin n b cs o e ks m)
  begin_done n b cs o e ks m a t h ensures =
      let i = n + span b + span_maybe o + span_clauses cs in
      does_part s early (eval.rescued n b cs o) n b (with_ensure i e ks) m a (text_ensured i e ks m a t ensures) h h.0

  -- A Proc.

  proc_made : (n : ℕ) (f : Body) (lambda : Bool) (ks : List Item) (m : Memory) (a : Around) → Text s early ks m a
      → BlockStands s a n f → early.Known n (scopes_around m.scopes m.place.scope)
      → AnswerIs (bodies s early.Known m.scopes) m.world (make_proc m n f lambda)
  unfolding make_proc bodies
  proc_made n f lambda ks m a t h known =
      let own = running_is s early m t.under.memory in
      let there = block_there s a n f h in
      makes_object (bodies s early.Known m.scopes) m.world t.under.memory.world _
      (record {
        class = core_is_class m.world.store t.under.memory.world.store class.Proc refl;
        singleton = tt;
        variables = tt;
        kind = record { receiver = own.self; owner = own.owner; name = own.name; block = own.block };
      })
      (record {
        around = a;
        scope = m.place.scope;
        within = t.under.memory.place.scope;
        scopes = refl;
        scene = t.around.scene;
        body = subst (BlockStands s a n) (sym there) h;
        shape = ap (λ (g : Body). shape_of (parameters_of g)) (sym there);
        known = known;
        home = own.home;
        classes = own.classes;
      })

  scoped : (n : ℕ) (action : Action) (c : Maybe) (es : Forms) (ks : List Item) (m : Memory) (a : Around)
      → Text s early ks m a
      → wanted action ≤ 1 → ActionFits s action → MaybeStands s a n c → FormsStand s a (n + span_maybe c) es
      → Fits s early (in_scope s n action c es ks m)
  scoped n action absent es ks m a t enough h stands others =
      operands_done s early ks m a t n action (Obj (class_around m.world (running m).classes) ∷ []) es (omega (arith, enough)) h (
        (is_good m.world.store ClassOrModule _
            (class_around_is (bodies s early.Known m.scopes) m.world t.under.memory.world (running m).classes)).there,
        tt,
      )
      (behind_absent s n (λ i. FormsStand s a i es) others)
  scoped n action (there e) es ks m a t enough h stands others =
      operands_done s early ks m a t n action [] (more e es) (omega (arith, enough)) h tt (stands, others)

  any_stand : (n : ℕ) (e : Maybe) (a : Around) → MaybeStands s a n e → FormsStand s a n (any e)
  any_stand n absent a h = tt
  any_stand n (there e) a h = (h, tt)

  defined_done : (n : ℕ) (k : DefinedKind) (x : Name) (e : Maybe) (ks : List Item) (m : Memory) (a : Around)
      → Text s early ks m a → IsAsked s k x → MaybeStands s a n e → Fits s early (do_defined s n k x e ks m)
  defined_done n k x absent ks m a t h stands =
      after_fits s early (tell_alone k x m) ks m t.under (told_alone s early ks m t.under k x)
  defined_done n k x (there e) ks m a t h stands =
      operands_done s early ks m a t n (eval.tell k x) [] (one e) (omega arith) h tt (stands, tt)

  -- a new Hash and a new String
  new_hash_done : (n : ℕ) (ps : Pairs) (ks : List Item) (m : Memory) (a : Around) → Text s early ks m a
      → PairsStand s a n ps
      → Fits s early (next_pair n (next_number m.world.store) ps ks (with_world m (with_store m.world
      (with_object m.world.store (fresh (core class.Hash) (kind.Hash parts.no_pairs))))))
  new_hash_done n ps ks m a t h =
      let o = fresh (core class.Hash) (kind.Hash parts.no_pairs) in
      let keeps = keeps_object (bodies s early.Known m.scopes) m.world t.under.memory.world o (record {
        class = core_is_class m.world.store t.under.memory.world.store class.Hash refl;
        singleton = tt;
        variables = tt;
        kind = record { pairs = tt; default = tt; block = tt };
      }) tt in
      let w = with_store m.world (with_object m.world.store o) in
      pairs_done n (next_number m.world.store) ps ks (with_world m w) a (text_then s early ks m a w t keeps)
      (new_sort m.world.store o) h

  new_text_done : (n : ℕ) (es : Forms) (ks : List Item) (m : Memory) (a : Around) → Text s early ks m a
      → FormsStand s a n es
      → Fits s early (next_piece n (next_number m.world.store) es ks (with_world m (with_store m.world
      (with_object m.world.store (text_object [])))))
  new_text_done n es ks m a t h =
      let o = text_object [] in
      let keeps = keeps_object (bodies s early.Known m.scopes) m.world t.under.memory.world o
      (text_sound m.world.store t.under.memory.world.store []) tt in
      let w = with_store m.world (with_object m.world.store o) in
      pieces_done n (next_number m.world.store) es ks (with_world m w) a (text_then s early ks m a w t keeps)
      (new_sort m.world.store o) h

  -- Every form.

  pub form_done : (n : ℕ) (e : CoreForm) (ks : List Item) (m : Memory) (a : Around) → Text s early ks m a
      → FormStands s a n e
      → ((b : ℕ) (ns : List ℕ) → literal_form n (scopes_around m.scopes m.place.scope) e ≡ Some (b, ns) → early.Known b ns)
      → Fits s early (do_form s n e ks m)
  unfolding do_form bodies
  form_done n form.nil ks m a t h made = goes s early (eval.give Nil) ks m t.under tt
  form_done n form.truth ks m a t h made = goes s early (eval.give True) ks m t.under tt
  form_done n form.falsehood ks m a t h made = goes s early (eval.give False) ks m t.under tt
  form_done n form.self_ref ks m a t h made =
      goes s early (eval.give (self_of m)) ks m t.under (running_is s early m t.under.memory).self
  form_done n (form.int z) ks m a t h made = goes s early (eval.give (Int z)) ks m t.under tt
  form_done n (form.str bytes) ks m a t h made =
      after_fits s early (make m.world (text_object bytes)) ks m t.under
      (makes_text (bodies s early.Known m.scopes) m.world t.under.memory.world bytes)
  form_done n (form.sym x) ks m a t h made =
      goes s early (eval.give (Sym (symbol m x))) ks m t.under (symbol_is s early m t.under.memory x h)
  form_done n (form.local x) ks m a t h made =
      goes s early (eval.give (variable m x)) ks m t.under (variable_is s early m t.under.memory x)
  form_done n (form.own x) ks m a t h made =
      goes s early (eval.give (own_variable m x)) ks m t.under (own_is s early m t.under.memory x)
  form_done n form.exception ks m a t h made =
      goes s early (eval.give (exception_in ks)) ks m t.under
      (exception_is s m.world m.scopes m.place ks t.under.items)
  form_done n (form.set_local x e) ks m a t h made =
      operands_done s early ks m a t n (eval.assign x) [] (one e) (omega arith) tt tt (h.1, tt)
  form_done n (form.ivar x) ks m a t h made =
      goes s early (eval.give _) ks m t.under
      (instance_variable_is (bodies s early.Known m.scopes) m.world t.under.memory.world (self_of m) (symbol m x)
      (running_is s early m t.under.memory).self)
  form_done n (form.set_ivar x e) ks m a t h made =
      operands_done s early ks m a t n (eval.assign_ivar x) [] (one e) (omega arith) h.0 tt (h.1, tt)
  form_done n (form.gvar x) ks m a t h made =
      goes s early (eval.give _) ks m t.under (global_is (bodies s early.Known m.scopes) m.world t.under.memory.world (symbol m x))
  form_done n (form.set_gvar x e) ks m a t h made =
      operands_done s early ks m a t n (eval.assign_gvar x) [] (one e) (omega arith) h.0 tt (h.1, tt)
  form_done n (form.constant x) ks m a t h made =
      after_fits s early _ ks m t.under (get_constant_is (bodies s early.Known m.scopes) m.world t.under.memory.world
      (running m).classes (symbol m x) (symbol_is s early m t.under.memory x h))
  form_done n (form.top_constant x) ks m a t h made =
      after_fits s early _ ks m t.under (get_constant_in_is (bodies s early.Known m.scopes) m.world t.under.memory.world
      (core class.Object) (symbol m x) (class_around_is (bodies s early.Known m.scopes) m.world t.under.memory.world 0)
      (symbol_is s early m t.under.memory x h))
  form_done n (form.in_constant e x) ks m a t h made =
      operands_done s early ks m a t n (eval.constant_in x) [] (one e) (omega arith) h.0 tt (h.1, tt)
  form_done n (form.set_constant x e) ks m a t h made =
      operands_done s early ks m a t n (eval.assign_constant x) [] (one e) (omega arith) h.0 tt (h.1, tt)
  form_done n (form.set_in_constant c x e) ks m a t h made =
      operands_done s early ks m a t n (eval.assign_constant_in x) [] (two c e) (omega arith) h.0 tt (h.1, (h.2, tt))
  form_done n (form.array is) ks m a t h made = gather_done s early n eval.an_array is ks m a t tt h
  form_done n (form.hash ps) ks m a t h made = new_hash_done n ps ks m a t h
  form_done n (form.range e f x) ks m a t h made =
      operands_done s early ks m a t n (eval.make_range x) [] (two e f) (omega arith) tt tt (h.0, (h.1, tt))
  form_done n (form.text es) ks m a t h made = new_text_done n es ks m a t h
  form_done n (form.intern e) ks m a t h made =
      operands_done s early ks m a t n eval.make_symbol [] (one e) (omega arith) tt tt (h, tt)
  form_done n (form.seq es) ks m a t h made = all_done s early n es ks m a t h
  form_done n (form.cond bs o) ks m a t h made = branches_done n bs o ks m a t h.0 h.1
  form_done n (form.and_form e f) ks m a t h made = does_part s early (eval.and_then (n + span e) f) n e ks m a t h.1 h.0
  form_done n (form.or_form e f) ks m a t h made = does_part s early (eval.or_else (n + span e) f) n e ks m a t h.1 h.0
  form_done n (form.while_form first e b) ks m a t h made = loop_done n first e b ks m a t h.0 h.1
  form_done n (form.call r x is b) ks m a t h made = receiver_done s early n r x is b ks m a t h.0 h.1 h.2 h.3
  form_done n (form.yield_form is) ks m a t h made =
      yield_done s early n (running m).block is ks m a t (running_is s early m t.under.memory).block h
  form_done n (form.super_form is b) ks m a t h made =
      call_done s early n to_super (self_of m) is b ks m a t tt (running_is s early m t.under.memory).self h.0 h.1
  form_done n (form.function f) ks m a t h made =
      after_fits s early (make_proc m n f false) ks m t.under (proc_made n f false ks m a t h (made n (scopes_around m.scopes m.place.scope) refl))
  form_done n (form.lambda f) ks m a t h made =
      after_fits s early (make_proc m n f true) ks m t.under (proc_made n f true ks m a t h (made n (scopes_around m.scopes m.place.scope) refl))
  form_done n (form.begin_form b cs o e) ks m a t h made = begin_done n b cs o e ks m a t (h.0, h.1, h.2) h.3
  form_done n (form.return_form e) ks m a t h made =
      operands_done s early ks m a t n eval.leave_method [] (one e) (omega arith) tt tt (h, tt)
  form_done n (form.break_form e) ks m a t h made =
      operands_done s early ks m a t n eval.leave_call [] (one e) (omega arith) tt tt (h, tt)
  form_done n (form.next_form e) ks m a t h made =
      operands_done s early ks m a t n eval.leave_round [] (one e) (omega arith) tt tt (h, tt)
  form_done n form.retry ks m a t h made = goes s early (eval.travel eval.begin_anew) ks m t.under (t.around.clause h)
  form_done n (form.define x f) ks m a t h made =
      let own = running_is s early m t.under.memory in
      after_fits s early _ ks m t.under
      (define_method_is (bodies s early.Known m.scopes) m.world t.under.memory.world (class_around m.world (running m).classes)
      (symbol m x) n (running m).classes
      (class_around_is (bodies s early.Known m.scopes) m.world t.under.memory.world (running m).classes)
      (symbol_is s early m t.under.memory x h.0) (record { body = method_at s n f h.1; classes = own.classes }))
  form_done n (form.define_on e x f) ks m a t h made =
      operands_done s early ks m a t n (eval.define_on x (n + span e)) [] (one e) (omega arith) (h.0, method_at s (n + span e) f h.2) tt
      (h.1, tt)
  form_done n (form.class_form c x p f) ks m a t h made =
      let i = n + span_maybe c + span_maybe p in
      scoped n (eval.open_class x i) c (any p) ks m a t (omega arith) (h.0, class_at s i f h.3) h.1
      (any_stand (n + span_maybe c) p a h.2)
  form_done n (form.module_form c x f) ks m a t h made =
      scoped n (eval.open_module x (n + span_maybe c)) c none ks m a t (omega arith) (h.0, class_at s (n + span_maybe c) f h.2) h.1 tt
  form_done n (form.singleton_class e f) ks m a t h made =
      operands_done s early ks m a t n (eval.open_singleton (n + span e)) [] (one e) (omega arith) (class_at s (n + span e) f h.1) tt
      (h.0, tt)
  form_done n (form.alias_form new old) ks m a t h made =
      after_fits s early _ ks m t.under
      (alias_method_is (bodies s early.Known m.scopes) m.world t.under.memory.world (class_around m.world (running m).classes)
      (symbol m new) (symbol m old)
      (class_around_is (bodies s early.Known m.scopes) m.world t.under.memory.world (running m).classes)
      (symbol_is s early m t.under.memory new h.0) (symbol_is s early m t.under.memory old h.1))
  form_done n (form.undef_form x) ks m a t h made =
      after_fits s early _ ks m t.under
      (undefine_method_is (bodies s early.Known m.scopes) m.world t.under.memory.world (class_around m.world (running m).classes)
      (symbol m x) (class_around_is (bodies s early.Known m.scopes) m.world t.under.memory.world (running m).classes)
      (symbol_is s early m t.under.memory x h))
  form_done n (form.defined k x e) ks m a t h made = defined_done n k x e ks m a t h.0 h.1
  form_done n (form.item e k) ks m a t h made =
      operands_done s early ks m a t n (eval.element k) [] (one e) (omega arith) tt tt (h, tt)
  form_done n (form.rest_of e from post) ks m a t h made =
      operands_done s early ks m a t n (eval.elements_between from post) [] (one e) (omega arith) tt tt (h, tt)
  form_done n (form.tail_of e from count) ks m a t h made =
      operands_done s early ks m a t n (eval.last_elements from count) [] (one e) (omega arith) tt tt (h, tt)
