-- The step law, by cases on the focus, and the theorem for a main program.
use Rattle.std.proofs.Common.{◌≡◌, ◌<◌, ℕ, zero, suc, List, [], ◌∷◌, refl, sym, ap, ◌∙◌, subst, arith, length, length-set, get_or, get_or-set_same, get_or-set_other, replicate, Bool, true, false, true≢false}
use Rattle.std.specs.Prelude.{Option, Some, None, unwrap_or, if◌then◌else◌, slice_get}
use Rattle.std.proofs.lemmas.List.{length-replicate}
use Rattle.rb_value.specs.declared.value.Value.{Value}
use Rattle.rb_value.specs.declared.value.Value.TheVariants.{Nil, Obj}
use Rattle.rb_value.specs.declared.value.ObjId.{ObjId}
use Rattle.rb_value.specs.declared.exit.Slot.TheVariants.{V}
use Rattle.rb_value.specs.Slot.{read}
use Rattle.rb_store.specs.Opening.{main_object}
use Rattle.rite_code.specs.Code.{Program}
use Rattle.ir_core.specs.CoreForm as form
use Rattle.path_eval.specs.Steps.{StepLaw, Matched}
use Rattle.path_eval.proofs.Induction.{follows}
use Rattle.def_core.specs.declared.bound.BindKind.TheVariants as bind
use Rattle.gen_parts.specs.declared.line.Line.TheVariants as line
use Rattle.rite_code.specs.declared.operation.Operation.TheVariants as op
use Rattle.gen_forms.specs.declared.context.Loop.{Loop}
use Rattle.gen_forms.specs.Gen.{gen, first_spot}
use Rattle.def_calls.specs.Seen.{Going, Over, over}
use Rattle.def_calls.specs.Calls.{main_activation, opening_world}
use Rattle.def_eval.specs.Source.{Source, body_at, form_of, locals_of, all_names}
use Rattle.def_eval.specs.Scopes.{same_local, value_in}
use Rattle.def_eval.specs.Configuration as source
use Rattle.def_eval.specs.Configuration.{Exit, Part, operands, receiver, items, block, elements, hash_key, hash_value, pieces, rest, test, chosen, and_then, or_else, loop_test, loop_body, rescued, clause_class, clause_target, clause_body, ensured, Item, part, activation, iteration, ensuring, Focus, perform, give, travel, Config, Run, Halt, all_nil, opening, seen}
use Rattle.def_eval.specs.Transition.{go}
use Rattle.def_machine.specs.State as machine
use Rattle.def_machine.specs.State.{Level, State, On, Off, Stuck, start, shown, frame}
use Rattle.rb_value.specs.declared.exit.Exit.{Exit as Thrown}
use Rattle.rb_value.specs.declared.exit.Exit.TheVariants.{Return, Jump}
use Rattle.def_machine.specs.Unwind.{throw}
use Rattle.def_machine.specs.Turn.{turn}
use Rattle.def_core.specs.Sound.{OptionIs}
use Rattle.eval_laws.specs.Procs.{HasProc}
use Rattle.step_laws.proofs.Bared.{site_of}
use Rattle.step_laws.proofs.Symbols.{opening_objects}
use Rattle.step_laws.proofs.Procless.{are_bodiless, has_none, opening_bodiless}
use Rattle.scope_resolver.specs.declared.seek.Search.TheVariants.{Past}
use Rattle.scope_resolver.specs.Layout.{Scopes, named_slots, seek}
use Rattle.step_laws.specs.Around.{is_found, first_slots, further_slots}
use Rattle.step_laws.proofs.Parameters.{sought, lined_nils}
use Rattle.step_laws.proofs.Begun.{mirrored_by}
use Rattle.step_laws.specs.Site.{bare, Site, at_line, LineAt, register, opening_store}
use Rattle.step_laws.specs.Covers.{Covers}
use Rattle.step_laws.specs.Calm.{IsCalm, StaysCalm}
use Rattle.step_laws.specs.Measure.{measure}
use Rattle.step_laws.specs.Implements.{main_site, IsCodeOf, Implements}
use Rattle.step_laws.specs.Behind.{Static, GatheringBehind, in_literal, in_call}
use Rattle.step_laws.specs.Relation.{Same, Common, Doing, GivesIn, raised, leaping, returning, going_far, Step, stops, Ground, SiteIs, Linked, SitesAre, Both, Running, Alike, Advances, Shared, Throwing, Leaps, GoesHome, GoesFar, Travels}
use Rattle.step_laws.proofs.Placed.{high, Stands, Rest, frame_at}
use Rattle.step_laws.proofs.Focused.{DoesOne, does_form, does_block, does_one, GivesOne, gives_form, gives_block, gives_one}
use Rattle.step_laws.proofs.Matching.{state_at}
use Rattle.step_laws.proofs.Literals.{aligned, do_nil, do_truth, do_falsehood, do_self, do_int}
use Rattle.step_laws.proofs.Tops.{do_top_constant}
use Rattle.step_laws.proofs.Answers.{do_symbol, do_gvar, do_ivar, do_str, do_constant}
use Rattle.step_laws.proofs.Locals.{do_local, do_set_local}
use Rattle.step_laws.proofs.Globals.{do_set_gvar}
use Rattle.step_laws.proofs.Operands.{do_set_ivar, do_in_constant, do_set_constant, do_set_in_constant, do_range, do_intern, do_item, do_rest_of, do_tail_of, give_operand}
use Rattle.step_laws.proofs.Aliases.{do_alias, do_undef}
use Rattle.step_laws.proofs.Arrays.{do_array, give_element}
use Rattle.step_laws.proofs.Defined.{do_defined, do_defined_of}
use Rattle.step_laws.proofs.Hashes.{do_hash, give_key, give_pair}
use Rattle.step_laws.proofs.Texts.{do_text, give_piece}
use Rattle.step_laws.proofs.Sequences.{do_seq, give_rest}
use Rattle.step_laws.proofs.Bare.{do_call_bare}
use Rattle.step_laws.proofs.Branches.{do_cond, give_test, give_chosen, do_and, do_or, give_and, give_or}
use Rattle.step_laws.proofs.Begins.{do_begin, give_body}
use Rattle.step_laws.proofs.Jumps.{do_break, do_next, leap_on}
use Rattle.step_laws.proofs.Definitions.{do_define}
use Rattle.step_laws.proofs.Receivers.{do_define_on}
use Rattle.step_laws.proofs.Classes.{do_class, do_module, do_singleton}
use Rattle.step_laws.proofs.Returns.{do_return, passes_on, comes_home}
use Rattle.step_laws.proofs.Outward.{far_at_end, far_at_part, far_at_activation, far_at_iteration}
use Rattle.step_laws.proofs.Loops.{do_while, give_loop_test, give_loop_body}
use Rattle.step_laws.proofs.Blocks.{do_function, do_lambda, give_block}
use Rattle.step_laws.proofs.Yields.{do_yield}
use Rattle.step_laws.proofs.Supers.{do_super, do_super_alone}
use Rattle.step_laws.proofs.Spreading.{give_argument}
use Rattle.step_laws.proofs.Handing.{do_handing, give_handed}
use Rattle.step_laws.proofs.Calls.{do_call_to, do_call_to_with, do_call_self, do_call_self_with, give_receiver, give_item}
use Rattle.step_laws.proofs.Iterations.{give_iteration}
use Rattle.step_laws.proofs.Exits.{give_end, give_activation, travel_end, travel_part_on, travel_activation_on, travel_iteration_on}
use Rattle.def_core.specs.Store.{Store}
use Rattle.def_calls.specs.World.{World, activation_at}
use Rattle.def_calls.specs.Fibers as fibers

module _ (g : Ground) (h : Site) (static : Static h) (ks : List Item) (m : source.Memory) (ls : List Level) (k : machine.Memory)
    (both : Common g h m (aligned k m)) where
  form_matched : (j : ℕ) (e : form.CoreForm) → IsCalm h.source h.program (Run (perform j e) ks m)
      → (d : Doing g h j e ks m.place ls k.lists)
      → Step h (Run (perform j e) ks m) (state_at g h d.x d.n (aligned k m))
  form_matched j form.nil c d = do_nil g h static j ks m ls k both d
  form_matched j form.truth c d = do_truth g h static j ks m ls k both d
  form_matched j form.falsehood c d = do_falsehood g h static j ks m ls k both d
  form_matched j form.self_ref c d = do_self g h static j ks m ls k both d
  form_matched j (form.int z) c d = do_int g h static j ks m ls k both z d
  form_matched j (form.str t) c d = do_str g h static j ks m ls k both t d c.3.quiet
  form_matched j (form.sym x) c d = do_symbol g h static j ks m ls k both x d
  form_matched j (form.local x) c d = do_local g h static ks m ls k both j x d
  form_matched j (form.own x) c d = absurd d.covered
  form_matched j form.exception c d = absurd d.covered
  form_matched j (form.set_local x e) c d = do_set_local g h static ks m ls k both j x e d
  form_matched j (form.ivar x) c d = do_ivar g h static j ks m ls k both x d
  form_matched j (form.set_ivar x e) c d = do_set_ivar g h static j ks m ls k both c.0 x e d
  form_matched j (form.gvar x) c d = do_gvar g h static j ks m ls k both x d
  form_matched j (form.set_gvar x e) c d = do_set_gvar g h static ks m ls k both j x e d
  form_matched j (form.constant x) c d = do_constant g h static j ks m ls k both x d c.3.quiet
  form_matched j (form.top_constant x) c d = do_top_constant g h static j ks m ls k both x d c.1.1 c.3.quiet
  form_matched j (form.in_constant e x) c d = do_in_constant g h static j ks m ls k both c.0 e x d
  form_matched j (form.set_constant x e) c d = do_set_constant g h static j ks m ls k both c.0 x e d
  form_matched j (form.set_in_constant e x v) c d = do_set_in_constant g h static j ks m ls k both c.0 e x v d
  form_matched j (form.array is) c d = do_array g h static j ks m ls k both is d c.3.quiet
  form_matched j (form.hash ps) c d = do_hash g h static ks m ls k both j ps d c.3.quiet
  form_matched j (form.range a b x) c d = do_range g h static j ks m ls k both c.0 a b x d
  form_matched j (form.text es) c d = do_text g h static ks m ls k both j es d c.3.quiet
  form_matched j (form.intern e) c d = do_intern g h static j ks m ls k both c.0 e d
  form_matched j (form.seq es) c d = do_seq g h static ks m ls k both j es d
  form_matched j (form.cond bs o) c d = do_cond g h static ks m ls k both j bs o d
  form_matched j (form.and_form a b) c d = do_and g h static ks m ls k both j a b d
  form_matched j (form.or_form a b) c d = do_or g h static ks m ls k both j a b d
  form_matched j (form.while_form first t b) c d = do_while g h static ks m ls k both j first t b d
  form_matched j (form.call (form.to e) x is form.absent) c d = do_call_to g h static ks m ls k both c.0 j e x is d
  form_matched j (form.call (form.to e) x is (form.there b)) c d = do_call_to_with g h static ks m ls k both c.0 j e x is b d
  form_matched j (form.call form.on_self x is form.absent) c d =
      do_call_self g h static ks m ls k both c.0 j x is d c.3
  form_matched j (form.call form.on_self x is (form.there b)) c d =
      do_call_self_with g h static ks m ls k both c.0 j x is b d c.3
  form_matched j (form.call form.bare x form.no_items form.absent) c d = do_call_bare g h static ks m ls k both c.0 j x d c.3
  form_matched j (form.call form.bare x form.no_items (form.there b)) c d = absurd d.covered
  form_matched j (form.call form.bare x (form.plain e is) b) c d = absurd d.covered
  form_matched j (form.call form.bare x (form.splat e is) b) c d = absurd d.covered
  form_matched j (form.yield_form is) c d = do_yield g h static ks m ls k both c.0 j is d c.3
  form_matched j (form.super_form is form.absent) c d = do_super_alone g h static ks m ls k both c.0 j is d c.3
  form_matched j (form.super_form is (form.there b)) c d = do_super g h static ks m ls k both c.0 j is b d c.3
  form_matched j (form.function f) c d = do_function g h static ks m ls k both j f d c.3.quiet
  form_matched j (form.lambda f) c d = do_lambda g h static ks m ls k both j f d c.3.quiet
  form_matched j (form.begin_form b form.no_clauses o form.absent) c d = do_begin g h ks m ls k both j b o d
  form_matched j (form.begin_form b form.no_clauses o (form.there e)) c d = absurd d.covered
  form_matched j (form.begin_form b (form.clause es t f cs) o e) c d = absurd d.covered
  form_matched j (form.return_form e) c d = do_return g h static ks m ls k both j e d
  form_matched j (form.break_form e) c d = do_break g h static ks m ls k both j e d
  form_matched j (form.next_form e) c d = do_next g h static ks m ls k both j e d
  form_matched j form.retry c d = absurd d.covered
  form_matched j (form.define x f) c d = do_define g h static ks m ls k both c.0 j x f d c.1.0 c.3.quiet
  form_matched j (form.define_on e x f) c d = do_define_on g h static ks m ls k both j e x f d
  form_matched j (form.class_form s x p f) c d = do_class g h static ks m ls k both j s x p f d c.3 c.4
  form_matched j (form.module_form s x f) c d = do_module g h static ks m ls k both j s x f d c.3 c.4
  form_matched j (form.singleton_class e f) c d = do_singleton g h static ks m ls k both j e f d
  form_matched j (form.alias_form x y) c d = do_alias g h static ks m ls k both j x y d c.3.quiet
  form_matched j (form.undef_form x) c d = do_undef g h static ks m ls k both j x d c.3.quiet
  form_matched j (form.defined q x form.absent) c d = do_defined g h static ks m ls k both c.0 j q x d c.3.quiet
  form_matched j (form.defined q x (form.there e)) c d = do_defined_of g h static ks m ls k both c.0 j q x e d
  form_matched j (form.item e i) c d = do_item g h static j ks m ls k both c.0 e i d
  form_matched j (form.rest_of e from post) c d = do_rest_of g h static j ks m ls k both c.0 e from post d
  form_matched j (form.tail_of e from count) c d = do_tail_of g h static j ks m ls k both c.0 e from count d

  element_matched : (v : Value) (j : ℕ) (q : source.Gathering) (o : ObjId) (t : Bool) (is : form.Items)
      → IsCalm h.source h.program (Run (give v) (part (elements j q o t is) ∷ ks) m)
      → (d : GivesIn g h v (part (elements j q o t is) ∷ ks) m.place ls k.lists)
      → GatheringBehind h k.lists j q o t is d.next.low d.n d.r d.next.end d.loop
      → Step h (Run (give v) (part (elements j q o t is) ∷ ks) m) (state_at g h d.x d.n (aligned k m))
  element_matched v j q o t is c d (in_literal b) =
      give_element g h static j ks m ls k both v j q o t is d b c.1 c.3.quiet
  element_matched v j q o t is c d (in_call b) = give_argument g h static ks m ls k both c.0 v j q o t is d b c.1 c.3

  part_matched : (v : Value) (p : Part) → IsCalm h.source h.program (Run (give v) (part p ∷ ks) m)
      → (d : GivesIn g h v (part p ∷ ks) m.place ls k.lists)
      → Step h (Run (give v) (part p ∷ ks) m) (state_at g h d.x d.n (aligned k m))
  part_matched v (operands j a vs es) c d = give_operand g h static j ks m ls k both c.0 v j a vs es d c.3 c.4
  part_matched v (receiver j x is b) c d = give_receiver g h static ks m ls k both c.0 v j x is b d c.3
  part_matched v (items j s recv vs is b) c d = give_item g h static ks m ls k both c.0 v j s recv vs is b d c.3
  part_matched v (block s recv vs) c d = give_block g h static ks m ls k both c.0 v s recv vs d c.3
  part_matched v (elements j q o s is) c d = element_matched v j q o s is c d d.next.behind
  part_matched v (hash_key j o e ps) c d = give_key g h static ks m ls k both v j o e ps d
  part_matched v (hash_value j o u ps) c d = give_pair g h static ks m ls k both v j o u ps d c.1 c.3.quiet
  part_matched v (pieces j o es) c d = give_piece g h static ks m ls k both v j o es d c.1 c.3.quiet
  part_matched v (rest j es) c d = give_rest g h static ks m ls k both v j es d
  part_matched v (test j b bs o) c d = give_test g h static ks m ls k both v j b bs o d
  part_matched v chosen c d = give_chosen g h static ks m ls k both v d
  part_matched v (and_then j e) c d = give_and g h static ks m ls k both v j e d
  part_matched v (or_else j e) c d = give_or g h static ks m ls k both v j e d
  part_matched v (loop_test j t b) c d = give_loop_test g h static ks m ls k both v j t b d
  part_matched v (loop_body j t b) c d = give_loop_body g h static ks m ls k both v j t b d
  part_matched v (rescued j b form.no_clauses o) c d = give_body g h ks m ls k both v j b o d
  part_matched v (rescued j b (form.clause es t f cs) o) c d = absurd d.next.behind
  part_matched v (clause_class j e es t b cs q) c d = absurd d.next.behind
  part_matched v (clause_target j e b q) c d = absurd d.next.behind
  part_matched v (clause_body q) c d = absurd d.next.behind
  part_matched v (ensured j e) c d = absurd d.next.behind

-- The state with the world of the evaluation is the state itself.
realigned : (s : Source) (p : Program) (f : Focus) (ks : List Item) (m : source.Memory) (ls : List Level)
    (k : machine.Memory) → k.world ≡ m.world → Advances s p (Run f ks m) (On ls (aligned k m))
    → Advances s p (Run f ks m) (On ls k)
realigned s p f ks m ls k e a =
    subst (λ (w : World). Advances s p (Run f ks m) (On ls (machine.with_world k w))) (sym e) a

aligned_both : (s : Source) (p : Program) (g : Ground) (m : source.Memory) (k : machine.Memory) → Both s p g m k
    → Both s p g m (aligned k m)
aligned_both s p g m k b = record { world = refl; sites = b.sites; fibers = b.fibers; apart = b.apart }

-- What holds of the source and the code of a site holds of those of all sites.
of_site : (s : Source) (p : Program) (h : Site) → h.source ≡ s → h.program ≡ p → (P : Source → Program → Type 0)
    → P h.source h.program → P s p
of_site s p h e f P x = subst (λ (q : Source). P q p) e (subst (λ (q : Program). P h.source q) f x)

module _ (s : Source) (p : Program) (ks : List Item) (m : source.Memory) (ls : List Level) (k : machine.Memory) where
  -- by the site of the frame that runs
  in_frame : (f : Focus) (g : Ground) (h : Site) → Running s p g h m k
      → (Static h → Common g h m (aligned k m) → IsCalm h.source h.program (Run f ks m) → Step h (Run f ks m) (On ls (aligned k m)))
      → IsCalm s p (Run f ks m) → Advances s p (Run f ks m) (On ls k)
  in_frame f g h b by calm =
      let i = b.all.sites.each h b.site in
      let b' : Running s p g h m (aligned k m) =
      record { all = aligned_both s p g m k b.all; site = b.site; free = b.free } in
      realigned s p f ks m ls k b.all.world
      (of_site s p h i.source i.program (λ (t : Source) (q : Program). Running t q g h m (aligned k m)
      → IsCalm t q (Run f ks m) → Advances t q (Run f ks m) (On ls (aligned k m))) (by i.static) b' calm)

  on_levels : (f : Focus) (h : Site) (gs : List Level) → ls ≡ gs → Step h (Run f ks m) (On gs (aligned k m))
      → Step h (Run f ks m) (On ls (aligned k m))
  on_levels f h gs e a = subst (λ (is : List Level). Step h (Run f ks m) (On is (aligned k m))) (sym e) a

-- an exit, thrown or at a jump
thrown_on : (s : Source) (p : Program) (x : Exit) (ks : List Item) (m : source.Memory) (ls : List Level)
    (k : machine.Memory) → Throwing s p x ks m ls k → IsCalm s p (Run (travel x) ks m)
    → Advances s p (Run (travel x) ks m) (On ls k)
thrown_on s p x [] m ls k z calm = travel_end s p m ls k x z calm.3.quiet
thrown_on s p x (part q ∷ ks) m ls k z calm = travel_part_on s p m ls k x q ks z
thrown_on s p x (activation a q ∷ ks) m ls k z calm = travel_activation_on s p m ls k x a q ks z calm.3.quiet
thrown_on s p x (iteration a it q ∷ ks) m ls k z calm = travel_iteration_on s p m ls k x a it q ks z calm.2 calm.3.quiet
thrown_on s p x (ensuring y ∷ ks) m ls k z calm = absurd z.leaving

-- what a turn throws, in the world of the evaluation
thrown_aligned : (p : Program) (x : Thrown) (ls : List Level) (m : source.Memory) (k : machine.Memory)
    → k.world ≡ m.world → turn p (On ls k) ≡ throw p x ls k → turn p (On ls (aligned k m)) ≡ throw p x ls (aligned k m)
thrown_aligned p x ls m k same t =
    subst (λ (w : World). turn p (On ls (machine.with_world k w)) ≡ throw p x ls (machine.with_world k w)) same t

leapt_on : (s : Source) (p : Program) (x : Exit) (ks : List Item) (m : source.Memory) (ls : List Level)
    (k : machine.Memory) → Leaps s p x ks m ls k → IsCalm s p (Run (travel x) ks m)
    → Advances s p (Run (travel x) ks m) (On ls k)
leapt_on s p x [] m ls k z calm = absurd z.way
leapt_on s p x (part q ∷ ks) m ls k z calm =
    in_frame s p (part q ∷ ks) m ls k (travel x) z.g z.h z.both (λ static both here.
    on_levels s p (part q ∷ ks) m ls k (travel x) z.h (frame (frame_at z.h z.x z.n) ∷ z.g.below) z.is
    (leap_on z.g z.h static ks m ls k both x q
    (record {
      x = z.x;
      n = z.n;
      there = z.there;
      to = z.to;
      throws = thrown_aligned z.h.program (Jump z.h.activation (at_line z.h z.to)) (frame (frame_at z.h z.x z.n) ∷ z.g.below) m k
          z.both.all.world z.throws;
      guarded = z.guarded;
      target = z.target;
      by = z.by;
      way = z.way;
    }))) calm
leapt_on s p x (activation a q ∷ ks) m ls k z calm = absurd z.way
leapt_on s p x (iteration a it q ∷ ks) m ls k z calm = absurd z.way
leapt_on s p x (ensuring y ∷ ks) m ls k z calm = absurd z.way

returned_on : (s : Source) (p : Program) (x : Exit) (ks : List Item) (m : source.Memory) (ls : List Level)
    (k : machine.Memory) → GoesHome s p x ks m ls k → IsCalm s p (Run (travel x) ks m)
    → Advances s p (Run (travel x) ks m) (On ls k)
returned_on s p x [] m ls k z calm = absurd z.home
returned_on s p x (part q ∷ ks) m ls k z calm =
    in_frame s p (part q ∷ ks) m ls k (travel x) z.g z.h z.both (λ static both here.
    on_levels s p (part q ∷ ks) m ls k (travel x) z.h (frame (frame_at z.h z.x z.n) ∷ z.g.below) z.is
    (passes_on z.g z.h static ks m ls k both x q (record {
      x = z.x;
      n = z.n;
      value = z.value;
      round = z.round;
      exit = z.exit;
      throws = thrown_aligned z.h.program (Return z.h.activation z.value) (frame (frame_at z.h z.x z.n) ∷ z.g.below) m k
          z.both.all.world z.throws;
      guarded = z.guarded;
      home = z.home;
    }))) calm
returned_on s p x (activation a q ∷ ks) m ls k z calm =
    in_frame s p (activation a q ∷ ks) m ls k (travel x) z.g z.h z.both (λ static both here.
    on_levels s p (activation a q ∷ ks) m ls k (travel x) z.h (frame (frame_at z.h z.x z.n) ∷ z.g.below) z.is
    (comes_home z.g z.h static ks m ls k both x a q (record {
      x = z.x;
      n = z.n;
      value = z.value;
      round = z.round;
      exit = z.exit;
      throws = thrown_aligned z.h.program (Return z.h.activation z.value) (frame (frame_at z.h z.x z.n) ∷ z.g.below) m k
          z.both.all.world z.throws;
      guarded = z.guarded;
      home = z.home;
    }) here.3.quiet)) calm
returned_on s p x (iteration a it q ∷ ks) m ls k z calm = absurd z.home
returned_on s p x (ensuring y ∷ ks) m ls k z calm = absurd z.home

far_on : (s : Source) (p : Program) (x : Exit) (ks : List Item) (m : source.Memory) (ls : List Level)
    (k : machine.Memory) → GoesFar s p x ks m ls k → IsCalm s p (Run (travel x) ks m)
    → Advances s p (Run (travel x) ks m) (On ls k)
far_on s p x [] m ls k z calm = far_at_end s p m ls k x z
far_on s p x (part q ∷ ks) m ls k z calm = far_at_part s p m ls k x q ks z
far_on s p x (activation a q ∷ ks) m ls k z calm = far_at_activation s p m ls k x a q ks z calm.3.quiet
far_on s p x (iteration a it q ∷ ks) m ls k z calm = far_at_iteration s p m ls k x a it q ks z calm.2 calm.3.quiet
far_on s p x (ensuring y ∷ ks) m ls k z calm = absurd z.leaving

travel_on : (s : Source) (p : Program) (x : Exit) (ks : List Item) (m : source.Memory) (ls : List Level)
    (k : machine.Memory) → Travels s p x ks m ls k → IsCalm s p (Run (travel x) ks m)
    → Advances s p (Run (travel x) ks m) (On ls k)
travel_on s p x ks m ls k (raised z) calm = thrown_on s p x ks m ls k z calm
travel_on s p x ks m ls k (leaping z) calm = leapt_on s p x ks m ls k z calm
travel_on s p x ks m ls k (returning z) calm = returned_on s p x ks m ls k z calm
travel_on s p x ks m ls k (going_far z) calm = far_on s p x ks m ls k z calm

-- a form, and the block of a call whose arguments stand in an Array
performed_on : (s : Source) (p : Program) (j : ℕ) (e : form.CoreForm) (ks : List Item) (m : source.Memory)
    (ls : List Level) (k : machine.Memory) → DoesOne s p j e ks m ls k → IsCalm s p (Run (perform j e) ks m)
    → Advances s p (Run (perform j e) ks m) (On ls k)
performed_on s p j e ks m ls k (does_form r) calm =
    in_frame s p ks m ls k (perform j e) r.0 r.1 r.2 (λ static both here.
    on_levels s p ks m ls k (perform j e) r.1 (frame (frame_at r.1 r.3.x r.3.n) ∷ r.0.below) r.3.is
    (form_matched r.0 r.1 static ks m ls k both j e here r.3)) calm
performed_on s p j e ks m ls k (does_block q recv vs js same r) calm =
    subst (λ (is : List Item). IsCalm s p (Run (perform j e) is m) → Advances s p (Run (perform j e) is m) (On ls k)) (sym same)
    (λ calm'. in_frame s p (part (block q recv vs) ∷ js) m ls k (perform j e) r.0 r.1 r.2 (λ static both here.
    on_levels s p (part (block q recv vs) ∷ js) m ls k (perform j e) r.1 (frame (frame_at r.1 r.3.x r.3.n) ∷ r.0.below) r.3.is
    (do_handing r.0 r.1 static js m ls k both q recv vs j e r.3 here.3.quiet)) calm') calm

given_on : (s : Source) (p : Program) (v : Value) (q : Part) (ks : List Item) (m : source.Memory) (ls : List Level)
    (k : machine.Memory) → GivesOne s p v q ks m ls k → IsCalm s p (Run (give v) (part q ∷ ks) m)
    → Advances s p (Run (give v) (part q ∷ ks) m) (On ls k)
given_on s p v q ks m ls k (gives_form r) calm =
    in_frame s p (part q ∷ ks) m ls k (give v) r.0 r.1 r.2 (λ static both here.
    on_levels s p (part q ∷ ks) m ls k (give v) r.1 (frame (frame_at r.1 r.3.x r.3.n) ∷ r.0.below) r.3.is
    (part_matched r.0 r.1 static ks m ls k both v q here r.3)) calm
given_on s p v q ks m ls k (gives_block f recv vs same r) calm =
    subst (λ (i : Part). IsCalm s p (Run (give v) (part i ∷ ks) m) → Advances s p (Run (give v) (part i ∷ ks) m) (On ls k))
    (sym same)
    (λ calm'. in_frame s p (part (block f recv vs) ∷ ks) m ls k (give v) r.0 r.1 r.2 (λ static both here.
    on_levels s p (part (block f recv vs) ∷ ks) m ls k (give v) r.1 (frame (frame_at r.1 r.3.x r.3.n) ∷ r.0.below) r.3.is
    (give_handed r.0 r.1 static ks m ls k both f recv vs here.0 v r.3 here.3)) calm') calm

matched : (s : Source) (p : Program) (c : Config) (t : State) → Alike s p c t → IsCalm s p c → over (seen c) ≡ false
    → Advances s p c t
unfolding seen
matched s p (Halt v) (Off d) r calm o = absurd (true≢false o)
matched s p (Halt v) (On ls k) r calm o = absurd r
matched s p (Halt v) (Stuck out) r calm o = absurd r
matched s p (Run f ks m) (Off d) r calm o = absurd r
matched s p (Run f ks m) (Stuck out) r calm o = absurd r
matched s p (Run (perform j e) ks m) (On ls k) r calm o =
    performed_on s p j e ks m ls k (does_one s p j e ks m ls k r) calm
matched s p (Run (give v) [] m) (On ls k) r calm o = give_end s p v m ls k r calm.3.quiet
matched s p (Run (give v) (part q ∷ ks) m) (On ls k) r calm o =
    given_on s p v q ks m ls k (gives_one s p v q ks m ls k r) calm
matched s p (Run (give v) (activation a q ∷ ks) m) (On ls k) r calm o =
    in_frame s p (activation a q ∷ ks) m ls k (give v) r.0 r.1 r.2 (λ static both here.
    on_levels s p (activation a q ∷ ks) m ls k (give v) r.1 (frame (frame_at r.1 r.3.x r.3.n) ∷ r.0.below) r.3.is
    (give_activation r.0 r.1 static ks m k both v a q ls r.3 here.3.quiet)) calm
matched s p (Run (give v) (iteration a it q ∷ ks) m) (On ls k) r calm o =
    realigned s p (give v) (iteration a it q ∷ ks) m ls k r.both.world
    (subst (λ (gs : List Level). Advances s p (Run (give v) (iteration a it q ∷ ks) m) (On gs (aligned k m))) (sym r.is)
    (give_iteration s p v a it q ks m r.g k (aligned_both s p r.g m k r.both) r.waits calm.3))
matched s p (Run (give v) (ensuring x ∷ ks) m) (On ls k) r calm o = absurd r
matched s p (Run (travel x) ks m) (On ls k) r calm o = travel_on s p x ks m ls k r calm

-- both sides have one world
world_of_form : (s : Source) (p : Program) (j : ℕ) (e : form.CoreForm) (ks : List Item) (m : source.Memory)
    (ls : List Level) (k : machine.Memory) → DoesOne s p j e ks m ls k → k.world ≡ m.world
world_of_form s p j e ks m ls k (does_form r) = r.2.all.world
world_of_form s p j e ks m ls k (does_block q recv vs js same r) = r.2.all.world

world_of_value : (s : Source) (p : Program) (v : Value) (q : Part) (ks : List Item) (m : source.Memory) (ls : List Level)
    (k : machine.Memory) → GivesOne s p v q ks m ls k → k.world ≡ m.world
world_of_value s p v q ks m ls k (gives_form r) = r.2.all.world
world_of_value s p v q ks m ls k (gives_block f recv vs same r) = r.2.all.world

alike : (s : Source) (p : Program) (c : Config) (t : State) → Alike s p c t → shown t ≡ seen c
unfolding shown seen
alike s p (Halt v) (Off d) r = ap Over r
alike s p (Halt v) (On ls k) r = absurd r
alike s p (Halt v) (Stuck out) r = absurd r
alike s p (Run f ks m) (Off d) r = absurd r
alike s p (Run f ks m) (Stuck out) r = absurd r
alike s p (Run (perform j e) ks m) (On ls k) r =
    ap (λ (w : World). Going w.out) (world_of_form s p j e ks m ls k (does_one s p j e ks m ls k r))
alike s p (Run (give v) [] m) (On ls k) r = ap Going r.out
alike s p (Run (give v) (part q ∷ ks) m) (On ls k) r =
    ap (λ (w : World). Going w.out) (world_of_value s p v q ks m ls k (gives_one s p v q ks m ls k r))
alike s p (Run (give v) (activation a q ∷ ks) m) (On ls k) r = ap (λ (w : World). Going w.out) r.2.all.world
alike s p (Run (give v) (iteration a it q ∷ ks) m) (On ls k) r = ap (λ (w : World). Going w.out) r.both.world
alike s p (Run (give v) (ensuring x ∷ ks) m) (On ls k) r = absurd r
alike s p (Run (travel x) ks m) (On ls k) (raised r) = ap Going r.out
alike s p (Run (travel x) ks m) (On ls k) (leaping r) = ap (λ (w : World). Going w.out) r.both.all.world
alike s p (Run (travel x) ks m) (On ls k) (returning r) = ap (λ (w : World). Going w.out) r.both.all.world
alike s p (Run (travel x) ks m) (On ls k) (going_far r) = ap Going r.out

ended : (s : Source) (c : Config) → over (seen c) ≡ true → go s c ≡ c
unfolding seen
ended s (Halt v) o = refl
ended s (Run f ks m) o = absurd (true≢false (sym o))

stopped : (p : Program) (s : State) → over (shown s) ≡ true → turn p s ≡ s
unfolding shown
stopped p (Off v) o = refl
stopped p (On ls k) o = absurd (true≢false (sym o))
stopped p (Stuck out) o = absurd (true≢false (sym o))

shared_step : (s : Source) (p : Program) (c : Config) (t : State) → StaysCalm s p c → Advances s p c t
    → Matched (go s) (turn p) seen shown measure (Shared s p) c t
shared_step s p c t calm a = record {
  turns = a.turns;
  few = a.few;
  related = (a.related, λ n. calm (suc n));
  between = a.between;
  falls = a.falls;
}

-- The step law: from a configuration and a state that are alike, whatever waits below and in other fibers, a transition
-- is matched by few turns.
pub step_law : (s : Source) (p : Program) → StepLaw (go s) (turn p) seen shown over measure (Shared s p)
step_law s p = record {
  alike = λ c t r. alike s p c t r.0;
  ended = ended s;
  stopped = stopped p;
  matched = λ c t r o. shared_step s p c t r.1 (matched s p c t r.0 (r.1 0) o);
}

-- The opening configuration and the opening state.

all_nils : (xs : List form.Local) (x : form.Local) → unwrap_or (value_in (all_nil xs) x) Nil ≡ Nil
all_nils [] x = refl
all_nils (y ∷ ys) x = at (all_nils ys x) (same_local x y)
  where
    at : unwrap_or (value_in (all_nil ys) x) Nil ≡ Nil → (b : Bool)
        → unwrap_or (if b then Some Nil else value_in (all_nil ys) x) Nil ≡ Nil
    at further true = refl
    at further false = further

nil_at : (n i : ℕ) → get_or (replicate n (V Nil)) i (V Nil) ≡ V Nil
nil_at zero i = refl
nil_at (suc n) zero = refl
nil_at (suc n) (suc i) = nil_at n i

module _ (s : Source) (p : Program) (input : List ℕ) (c : IsCodeOf s p) where
  abbrev h : Site
  h = main_site s p c.wide c.at c.context c.first

  abbrev registers : ℕ
  registers = (machine.body_at p 0).registers

  static : Static h
  static = record {
    apart = c.apart;
    some = c.some;
    low = c.low;
    room = c.room;
  }

  abbrev first_rest : Rest
  first_rest = record { after = 0; waits = 0; arguments = []; block = None; binds = bind.Method }

  opening_same : Same h
      (record { parent = None; variables = all_nil (locals_of (body_at s 0)) } ∷ [])
      (machine.fresh_registers (machine.body_at p 0) None (Obj main_object) ∷ [])
  unfolding machine.slot_at
  opening_same =
      let nils = replicate registers (V Nil) in
      let long : length nils ≡ registers = length-replicate registers (V Nil) in
      record {
        scope = omega arith;
        mirrors = λ x is.
            mirrored_by x (λ i. Nil) (all_nil (locals_of (body_at s 0)))
            (seek x (named_slots (locals_of (body_at s 0))) (Past 1))
            (sought x (named_slots (locals_of (body_at s 0))) 1 (λ i. Nil) (all_nil (locals_of (body_at s 0)))
            (lined_nils (locals_of (body_at s 0)) 1 (λ i. Nil) (λ i le. refl)))
            ∙ sym (ap (λ (z : Scopes). is_found (seek x (first_slots z) (Past 1))) c.scopes);
        present = omega arith;
        long = length-set nils 0 (V (Obj main_object)) ∙ long;
        self = ap read (get_or-set_same nils 0 (V (Obj main_object)) (V Nil) (omega (arith, long, c.some, c.room)));
        alike = λ x k.
            all_nils (locals_of (body_at s 0)) x
            ∙ sym (ap read (get_or-set_other nils 0 (register h x) (V (Obj main_object)) (V Nil)
            (omega (arith, k.behind_self)) ∙ nil_at registers (register h x)));
      }

  -- the fiber of the main program alone
  abbrev ground : Ground
  ground = record { sites = h ∷ []; fiber = fibers.root; below = [] }

  opening_sites : SitesAre s p (h ∷ [])
      (record { parent = None; variables = all_nil (locals_of (body_at s 0)) } ∷ [])
      (machine.fresh_registers (machine.body_at p 0) None (Obj main_object) ∷ []) (opening_world (all_names s) input)
  unfolding activation_at opening_store
  opening_sites = record {
    scopes = refl;
    lists = refl;
    around = refl;
    each = λ d is. at d d.list is;
    linked = λ d is. alone d d.list is;
    below = λ d is. nothing d.list;
    procs = λ b ns has. absurd (has_none (opening_store s).objects b ns
        (ap are_bodiless (opening_objects s) ∙ opening_bodiless) (stored b ns has));
  }
    where
      stored : (b : ℕ) (ns : List ℕ) → HasProc (opening_world (all_names s) input).store.objects b ns
          → HasProc (opening_store s).objects b ns
      stored b ns has = has

      nothing : (n : ℕ) → OptionIs (λ i. i < n) (get_or (None ∷ []) n None)
      nothing zero = tt
      nothing (suc n) = tt

      alone : (d : Site) (n : ℕ) → slice_get (h ∷ []) n ≡ Some (bare d)
          → Linked (h ∷ []) (further_slots d.context.scopes) (get_or (None ∷ []) n None)
      alone d zero e = subst (λ (q : Site). further_slots q.context.scopes ≡ [])
          (ap (λ (o : Option Site). unwrap_or o h) e) (ap further_slots c.scopes)
      alone d (suc n) e = absurd (cc e)

      main : SiteIs s p h (record { parent = None; variables = all_nil (locals_of (body_at s 0)) } ∷ [])
          (machine.fresh_registers (machine.body_at p 0) None (Obj main_object) ∷ []) (opening_world (all_names s) input)
      main = record {
        source = refl;
        program = refl;
        static = static;
        same = opening_same;
        from_one = omega arith;
        opened = omega arith;
        self = refl;
        runs = refl;
        home = λ e. refl;
      }

      at : (d : Site) (n : ℕ) → slice_get (h ∷ []) n ≡ Some (bare d)
          → SiteIs s p d (record { parent = None; variables = all_nil (locals_of (body_at s 0)) } ∷ [])
          (machine.fresh_registers (machine.body_at p 0) None (Obj main_object) ∷ []) (opening_world (all_names s) input)
      at d zero e = site_of s p d (record { parent = None; variables = all_nil (locals_of (body_at s 0)) } ∷ [])
          (machine.fresh_registers (machine.body_at p 0) None (Obj main_object) ∷ []) (opening_world (all_names s) input)
          (subst (λ (q : Site). SiteIs s p q
          (record { parent = None; variables = all_nil (locals_of (body_at s 0)) } ∷ [])
          (machine.fresh_registers (machine.body_at p 0) None (Obj main_object) ∷ []) (opening_world (all_names s) input))
          (ap (λ (o : Option Site). unwrap_or o h) e) main)
      at d (suc n) e = absurd (cc e)

  pub opening_related : Alike s p (opening s input) (start p input)
  unfolding opening start Stands high
  opening_related =
      let q = gen c.context (first_spot 0) c.first (form_of (body_at s 0)) in (
        ground,
        h,
        record {
          all = record {
            world = ap (λ (st : Store). record {
              store = st;
              globals = [];
              enclosing = [];
              activations = main_activation ∷ [];
              input = input;
              out = [];
              asked = false;
            }) (sym c.names);
            sites = opening_sites;
            fibers = record { running = refl; running_too = refl; resumer = refl; rooted = λ e. refl; others = tt };
            apart = λ n. omega arith;
          };
          site = refl;
          free = omega arith;
        },
        record {
          x = first_rest;
          n = 0;
          r = c.first;
          is = ap (λ (i : ℕ). machine.frame (record machine.main_frame { place = i }) ∷ []) (sym c.begins);
          there = refl;
          loop = c.context.loop;
          s = first_spot 0;
          here = refl;
          covered = subst (λ (o : Option Loop). Covers h o c.first (first_spot 0) 1 (form_of (body_at s 0))) (sym c.outside)
              c.covered;
          above = omega arith;
          code = c.code;
          next = (
            record {
              is = refl;
              by = stops (subst (λ (i : ℕ). LineAt h i (line.Does op.Stop)) (omega arith) c.stop) refl refl refl refl;
            },
            c.outside,
            refl,
          );
        },
      )

  pub implements : StaysCalm s p (opening s input) → Implements s p input
  implements calm =
      follows (go s) (turn p) seen shown over measure (Shared s p) (step_law s p) (opening s input) (start p input)
      (opening_related, calm)
