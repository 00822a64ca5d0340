-- Bodies of classes and modules: the scope and the parent, what opens the class with them, and what runs its body.
use Rattle.std.proofs.Common.{◌≡◌, ℕ, ◌+◌, ◌<◌, ◌≤◌, List, [], ◌∷◌, ◌++◌, refl, sym, ap, ◌∙◌, subst, arith, length, length-append, get_or}
use Rattle.std.specs.Prelude.{Option}
use Rattle.rb_value.specs.declared.value.Value.{Value}
use Rattle.rb_value.specs.declared.value.Value.TheVariants.{Nil, Obj}
use Rattle.rb_value.specs.declared.value.ObjId.{ObjId}
use Rattle.rb_value.specs.declared.exit.Slot.{Slot}
use Rattle.rb_value.specs.declared.exit.Slot.TheVariants.{V}
use Rattle.rb_value.specs.Slot.{read}
use Rattle.rite_code.specs.declared.code.Irep.{Irep}
use Rattle.rite_code.specs.declared.operation.Operation.{Operation}
use Rattle.rite_code.specs.declared.operation.Operation.TheVariants as op
use Rattle.ir_core.specs.CoreForm.{Name, CoreForm, class_form, module_form, singleton_class as singleton_form, Body, Maybe, absent, there, Forms, none, more}
use Rattle.scope_resolver.specs.declared.body_kind.BodyKind.TheVariants as kind
use Rattle.gen_parts.specs.declared.line.Line.TheVariants as line
use Rattle.gen_parts.specs.declared.emitter.Spot.{Spot}
use Rattle.gen_parts.specs.Pieces.{Piece, past, does, makes, ◌⊕◌}
use Rattle.gen_forms.specs.declared.context.Loop.{Loop}
use Rattle.gen_forms.specs.Gen.{gen, gen_scope, gen_parent, body_code, symbol as entry_of}
use Rattle.def_calls.specs.World.{activation_at, class_around}
use Rattle.def_calls.specs.Definitions as definitions
use Rattle.def_eval.specs.Source.{span, span_maybe}
use Rattle.def_eval.specs.Configuration as source
use Rattle.def_eval.specs.Configuration.{Place, Action, open_class, open_module, open_singleton, operands, Item, part, perform, give, Config, Run}
use Rattle.def_eval.specs.Entering.{symbol}
use Rattle.def_eval.specs.Forms.{next_operand, open_after, finish, do_form}
use Rattle.def_eval.specs.Giving.{give_part, do_give}
use Rattle.def_eval.specs.Transition.{go}
use Rattle.def_machine.specs.State as machine
use Rattle.def_machine.specs.State.{Level, frame, slot_at, value_at}
use Rattle.step_laws.specs.Site.{Site, within, place_in, LineAt, Room}
use Rattle.step_laws.specs.Covers.{past_class, past_module, past_singleton, RunsBody, Covers}
use Rattle.step_laws.specs.Calm.{Peace}
use Rattle.step_laws.specs.Spaces.{GivesSpace, OpensSpace, Opening}
use Rattle.step_laws.specs.Measure.{size, measure}
use Rattle.step_laws.proofs.Placed.{high, high-both, high-puts, line-past, Stands, moved, KeepsWithin, Keeps, past_here, left, right, right_at, the_line, frame_at, turned}
use Rattle.step_laws.proofs.Guards.{within_both, within_puts, within_makes, within_moved}
use Rattle.step_laws.proofs.Within.{keeps_both, keeps_ends, keeps, scope_keeps, parent_keeps}
use Rattle.step_laws.specs.Behind.{Static, Opens, a_class, a_module, a_singleton, OpensAt, OpenBehind, ScopeBehind, ParentBehind, opens_space, opens_without, opens_under}
use Rattle.step_laws.specs.Relation.{Ground, InFrame, Common, Doing, GivesIn, Related, Step}
use Rattle.step_laws.proofs.Registers.{keeps_above, slot_same, slot_other}
use Rattle.step_laws.proofs.Untouched.{put_only, frame_kept, same_here, written_here}
use Rattle.step_laws.proofs.Matching.{by_none, by_one, going, state_at, written}
use Rattle.step_laws.proofs.Calling.{From}
use Rattle.step_laws.proofs.Literals.{aligned}
use Rattle.step_laws.proofs.Calls.{holds_more}
use Rattle.step_laws.proofs.Strict.{holds_first, holds_second}
use Rattle.step_laws.proofs.Definitions.{made_line, high_made}
use Rattle.step_laws.proofs.Midway.{few_before, begins_first}
use Rattle.step_laws.proofs.Spaces.{class_opened, module_opened, opens_now}

-- the code that runs a body behind what opens its class, whose last line stands at n
abbrev opening_at : (h : Site) (a : Action) (count r n j s : ℕ) (o : Operation) (q : Piece) (t : Spot)
    (bodies : List Irep)
    → Opens h r a j o count → Room h r → RunsBody h t j → LineAt h n (line.Does o) → n + 1 ≡ s + high q
    → KeepsWithin s q → Stands h s (q ⊕ makes (op.Exec r t.child) t.body bodies)
    → OpensAt h a count r n (s + high (q ⊕ makes (op.Exec r t.child) t.body bodies))
opening_at h a count r n j s o q t bodies by room runs at here kept code =
    let e = op.Exec r t.child in
    let made = makes e t.body bodies in
    record {
      body = j;
      o = o;
      by = by;
      room = room;
      opens = at;
      child = t.child;
      makes = runs.child;
      kind = runs.kind;
      runs = subst (λ (i : ℕ). LineAt h i (line.Does e)) (sym here)
          (made_line h (s + high q) t.body e bodies (right h s q made kept code));
      ends = omega (arith, here, high-both q made, high_made e t.body bodies);
    }

-- at another line, and of another count
abbrev opening_moved : (h : Site) (a : Action) (count r n i end : ℕ) → n ≡ i → OpensAt h a count r n end
    → OpensAt h a count r i end
opening_moved h a count r n i end e b = record {
  body = b.body;
  o = b.o;
  by = b.by;
  room = b.room;
  opens = subst (λ (j : ℕ). LineAt h j (line.Does b.o)) e b.opens;
  child = b.child;
  makes = b.makes;
  kind = b.kind;
  runs = subst (λ (j : ℕ). LineAt h (j + 1) (line.Does (op.Exec r b.child))) e b.runs;
  ends = omega (arith, e, b.ends);
}

of_count : (h : Site) (a : Action) (i j r n end : ℕ) → i ≡ j → OpensAt h a i r n end → OpensAt h a j r n end
of_count h a i j r n end e b = subst (λ (c : ℕ). OpensAt h a c r n end) e b

module _ (g : Ground) (h : Site) (static : Static h) (ks : List Item) (m : source.Memory) (ls : List Level)
    (k : machine.Memory) (both : Common g h m (aligned k m)) where
  -- a register above the locals gets a value
  abbrev keeping : machine.Memory → ℕ → Value → machine.Memory
  keeping l r v = written h (aligned l m) r v

  module _ (l : machine.Memory) (b : Common g h m (aligned l m)) (r : ℕ) (v : Value) (room : Room h r) where
    kept_both : Common g h m (aligned (keeping l r v) m)
    kept_both = written_here g h m (aligned l m) b r v room.above

    kept_frame : (n low : ℕ) (around : Option Loop) → low ≤ r → InFrame g h l.lists ks n low around
        → InFrame g h (keeping l r v).lists ks n low around
    kept_frame n low around le next =
        let s = same_here g h m (aligned l m) b in
        frame_kept g h l.lists (keeping l r v).lists ks n low around (keeps_above h l.lists low r (V v) s.present le)
        (put_only l.lists h.list r v) (omega (arith, b.free)) next

    kept_value : value_at (keeping l r v).lists h.list r ≡ v
    kept_value =
        let s = same_here g h m (aligned l m) b in
        ap read (slot_same l.lists h.list r (V v) s.present (omega (arith, s.long, room.within)))

    other_value : (i : ℕ) (u : Value) → i < r → value_at l.lists h.list i ≡ u
        → value_at (keeping l r v).lists h.list i ≡ u
    other_value i u lt e =
        let s = same_here g h m (aligned l m) b in
        ap read (slot_other l.lists h.list r i (V v) s.present (omega (arith, lt))) ∙ e

  -- An operand of what opens a class or a module.
  module _ (v : Value) (j : ℕ) (a : Action) (vs : List Value) (es : Forms)
      (d : GivesIn g h v (part (operands j a vs es) ∷ ks) m.place ls k.lists)
      (peace : Peace h.source h.program (give v) (part (operands j a vs es) ∷ ks) m)
      (opening : Opening (give v) (part (operands j a vs es) ∷ ks) m) where
    abbrev conf : Config
    conf = Run (give v) (part (operands j a vs es) ∷ ks) m

    abbrev low : ℕ
    low = d.next.low

    from : (l : machine.Memory) (n : ℕ) → From h conf (frame (frame_at h d.x n) ∷ g.below) (aligned l m) m
    from l n = record {
      alike = going (give v) (part (operands j a vs es) ∷ ks) m (frame (frame_at h d.x n) ∷ g.below) (aligned l m) refl;
      out = refl;
      quiet = peace.quiet;
    }

    goes : (us : List Value) (fs : Forms) → vs ≡ us → es ≡ fs
        → go h.source conf ≡ next_operand h.source j a (us ++ v ∷ []) fs ks m
    unfolding do_give give_part
    goes us fs e f =
        ap (λ (ws : List Value). next_operand h.source j a (ws ++ v ∷ []) es ks m) e
        ∙ ap (λ (gs : Forms). next_operand h.source j a (us ++ v ∷ []) gs ks m) f

    space : OpensSpace a (get_or (vs ++ v ∷ []) 0 Nil) (get_or (vs ++ v ∷ []) 1 Nil) m
    space = opening.by_operands v j a vs es ks refl refl

    -- the last one
    pub give_last : OpenBehind h k.lists a vs es low d.n d.r d.next.end
        → Step h conf (state_at g h d.x d.n (aligned k m))
    give_last b =
        let all = length-append vs (v ∷ []) in
        let held = holds_more k.lists h.list low d.r vs v b.held b.row d.stands in
        (opens_now g h static ks m k both d.there conf d.x d.n low d.next.end d.next.outer a (length vs + 1) b.opening
        (from k d.n) peace.calls (omega arith) d.next.next (get_or (vs ++ v ∷ []) 0 Nil) (get_or (vs ++ v ∷ []) 1 Nil)
        (goes vs none refl b.last) (holds_first k.lists h.list low (vs ++ v ∷ []) held (omega (arith, all)))
        (λ two. holds_second k.lists h.list low (vs ++ v ∷ []) held (omega (arith, all, two))) space).advances

    -- the scope of a class without a parent, which is nil
    pub give_scope : ScopeBehind h a vs es low d.n d.r d.next.end → Step h conf (state_at g h d.x d.n (aligned k m))
    give_scope b =
        let l = keeping k (low + 1) Nil in
        let e = op.LoadNil (low + 1) in
        let first = ap (λ (i : ℕ). value_at k.lists h.list i) b.at ∙ ap read d.stands in
        (few_before 4 h.source h.program conf (state_at g h d.x d.n (aligned k m))
        (state_at g h d.x (d.n + 1) (aligned l m))
        (omega arith) (from k d.n).alike (turned h d.x d.n e g.below (aligned k m) b.parent)
        (opens_now g h static ks m l (kept_both k both (low + 1) Nil b.further) d.there conf d.x (d.n + 1) low
        d.next.end
        d.next.outer a 2 b.opening (from l (d.n + 1)) peace.calls (omega arith)
        (kept_frame k both (low + 1) Nil b.further d.next.end low d.next.outer (omega arith) d.next.next) v Nil
        (goes [] none b.first b.last) (other_value k both (low + 1) Nil b.further low v (omega arith) first)
        (λ two. kept_value k both (low + 1) Nil b.further)
        (subst (λ (us : List Value). OpensSpace a (get_or (us ++ v ∷ []) 0 Nil) (get_or (us ++ v ∷ []) 1 Nil) m) b.first
        space))).advances

    -- and that of one with a parent, which is done next
    pub give_under : ParentBehind h j a vs es low d.n d.r d.next.end d.loop
        → Step h conf (state_at g h d.x d.n (aligned k m))
    give_under b =
        let here : go h.source conf ≡ Run (perform j b.e) (part (operands (j + span b.e) a (v ∷ []) none) ∷ ks) m =
        goes [] (more b.e none) b.first b.last in
        let light : measure conf ≡ measure (Run (give v) (part (operands j a vs (more b.e none)) ∷ ks) m) =
        ap (λ (fs : Forms). measure (Run (give v) (part (operands j a vs fs) ∷ ks) m)) b.last in
        by_none h conf (state_at g h d.x d.n (aligned k m))
        (subst (λ (c : Config). measure c < measure conf) (sym here) (omega (arith, light)))
        (subst (λ (c : Config). Related h c (state_at g h d.x d.n (aligned k m))) (sym here) (
          g,
          h,
          both,
          record {
            x = d.x;
            n = d.n;
            r = low + 1;
            is = refl;
            there = d.there;
            loop = d.loop;
            s = b.s;
            here = b.here;
            covered = b.covered;
            above = b.further.above;
            code = b.code;
            next = record {
              low = low;
              end = d.next.end;
              above = d.next.above;
              below = omega arith;
              behind = opens_space (record {
                row = omega arith;
                held = (ap slot_of b.at ∙ d.stands, tt);
                last = refl;
                opening = of_count h a 2 (length (v ∷ []) + 1) low
                    (d.n + high (gen (within h d.loop) b.s (low + 1) b.e)) d.next.end (omega arith) b.opening;
              });
              outer = d.next.outer;
              inner = d.next.inner;
              next = d.next.next;
            };
          },
        ))
      where
        slot_of : ℕ → Slot
        slot_of i = slot_at k.lists h.list i

  -- the class around the text, which is the scope of a class or a module without one
  abbrev text_class : Place → ObjId
  text_class q = class_around m.world (activation_at m.world q.activation).classes

  -- A class: its scope, its parent, and what opens it.
  module _ (j : ℕ) (scope : Maybe) (x : Name) (parent : Maybe) (f : Body)
      (d : Doing g h j (class_form scope x parent f) ks m.place ls k.lists) where
    abbrev p : Piece
    p = gen_scope (within h d.loop) d.s d.r scope

    abbrev q : Piece
    q = gen_parent (within h d.loop) (past d.s p) (d.r + 1) parent

    abbrev o : Operation
    o = op.Class d.r (entry_of h.context x)

    abbrev t : Spot
    t = past_class h d.loop d.r d.s scope x parent

    abbrev bodies : List Irep
    bodies = body_code kind.Class h.context.scopes t.body f

    abbrev number : ℕ
    number = j + span_maybe scope + span_maybe parent

    abbrev end : ℕ
    end = d.n + high (gen (within h d.loop) d.s d.r (class_form scope x parent f))

    scope_kept : Keeps d.s p
    scope_kept = scope_keeps scope (within h d.loop) d.s d.r

    parent_kept : Keeps (past d.s p) q
    parent_kept = parent_keeps parent (within h d.loop) (past d.s p) (d.r + 1)

    parent_kept_there : KeepsWithin (d.n + high p) q
    parent_kept_there =
        within_moved (past d.s p).line (d.n + high p) q (past_here d.s p d.n d.here) parent_kept

    front : Stands h d.n (p ⊕ q ⊕ does o)
    front = left h d.n (p ⊕ q ⊕ does o) (makes (op.Exec d.r t.child) t.body bodies) (within_makes _ _ _ _) d.code

    scope_stands : Stands h d.n p
    scope_stands =
        left h d.n p (q ⊕ does o) (within_both _ q (does o) parent_kept_there (within_puts _ _)) front

    behind_scope : Stands h (d.n + high p) (q ⊕ does o)
    behind_scope = right_at h d.n d.s p (q ⊕ does o) d.here scope_kept front

    parent_stands : Stands h (d.n + high p) q
    parent_stands = left h (d.n + high p) q (does o) (within_puts _ _) behind_scope

    abbrev opens_there : OpensAt h (open_class x number) 2 d.r (d.n + high p + high q) end
    opens_there =
        opening_at h (open_class x number) 2 d.r (d.n + high p + high q) number d.n o (p ⊕ q ⊕ does o) t bodies
        (a_class x refl refl d.covered.4 refl) d.covered.0 d.covered.5
        (the_line h (d.n + high p + high q) (line.Does o)
        (right h (d.n + high p) q (does o) parent_kept_there behind_scope))
        (omega (arith, high-both p (q ⊕ does o), high-both q (does o), high-puts (line.Does o)))
        (within_moved d.s.line d.n (p ⊕ q ⊕ does o) d.here
        (keeps_both d.s p (q ⊕ does o) scope_kept (keeps_ends (past d.s p) q (line.Does o) parent_kept))) d.code

  -- A form whose one operand is what opens a module or a singleton class.
  operand_opens : (j : ℕ) (e' e : CoreForm) (a : Action) (i : ℕ) (o : Operation) (t : Spot) (bodies : List Irep)
      (d : Doing g h j e' ks m.place ls k.lists)
      → go h.source (Run (perform j e') ks m) ≡ Run (perform j e) (part (operands (j + span e) a [] none) ∷ ks) m
      → 2 + size e + 0 ≤ size e' → Covers h d.loop d.r d.s j e → Opens h d.r a i o 1 → Room h d.r → RunsBody h t i
      → gen (within h d.loop) d.s d.r e'
      ≡ (gen (within h d.loop) d.s d.r e ⊕ does o) ⊕ makes (op.Exec d.r t.child) t.body bodies
      → Step h (Run (perform j e') ks m) (state_at g h d.x d.n (aligned k m))
  operand_opens j e' e a i o t bodies d goes less covered by room runs is =
      let p = gen (within h d.loop) d.s d.r e in
      let whole = (p ⊕ does o) ⊕ makes (op.Exec d.r t.child) t.body bodies in
      let code = subst (Stands h d.n) is d.code in
      let front = left h d.n (p ⊕ does o) (makes (op.Exec d.r t.child) t.body bodies) (within_makes _ _ _ _) code in
      let kept : Keeps d.s p = keeps e (within h d.loop) d.s d.r in
      begins_first g h ks m ls k both j (j + span e) e' e a none d goes less covered (left h d.n p (does o) (within_puts _ _) front)
      (opens_space (record {
        row = omega arith;
        held = tt;
        last = refl;
        opening = of_count h a 1 (0 + 1) d.r (d.n + high p) (d.n + high (gen (within h d.loop) d.s d.r e'))
            (omega arith) (subst (λ (q : Piece). OpensAt h a 1 d.r (d.n + high p) (d.n + high q)) (sym is)
            (opening_at h a 1 d.r (d.n + high p) i d.n o (p ⊕ does o) t bodies by room runs
            (the_line h (d.n + high p) (line.Does o) (right_at h d.n d.s p (does o) d.here kept front))
            (omega (arith, high-both p (does o), high-puts (line.Does o)))
            (within_moved d.s.line d.n (p ⊕ does o) d.here (keeps_ends d.s p (line.Does o) kept)) code));
      }))

  -- without both it is opened in the transition
  class_alone : (j : ℕ) (x : Name) (f : Body) (d : Doing g h j (class_form absent x absent f) ks m.place ls k.lists)
      → Peace h.source h.program (perform j (class_form absent x absent f)) ks m
      → Opening (perform j (class_form absent x absent f)) ks m
      → Step h (Run (perform j (class_form absent x absent f)) ks m) (state_at g h d.x d.n (aligned k m))
  unfolding do_form finish
  class_alone j x f d peace opening =
      let conf = Run (perform j (class_form absent x absent f)) ks m in
      let r = d.r in
      let v = Obj (text_class (place_in h)) in
      let tclass = op.TClass r in
      let load = op.LoadNil (r + 1) in
      let b = opens_there j absent x absent f d in
      let one = high-puts (line.Does tclass) in
      let two = high-puts (line.Does load) in
      let l = keeping k r v in
      let l' = keeping l (r + 1) Nil in
      let first = kept_both k both r v d.covered.0 in
      let from : (w : machine.Memory) (n : ℕ) → From h conf (frame (frame_at h d.x n) ∷ g.below) (aligned w m) m =
      λ w n. record {
        alike = going (perform j (class_form absent x absent f)) ks m (frame (frame_at h d.x n) ∷ g.below)
            (aligned w m) refl;
        out = refl;
        quiet = peace.quiet;
      } in
      let at = opening_moved h (open_class x (j + 0 + 0)) 2 r (d.n + high (does tclass) + high (does load))
      (d.n + 1 + 1)
      (end j absent x absent f d) (omega (arith, one, two)) b in
      (few_before 5 h.source h.program conf (state_at g h d.x d.n (aligned k m))
      (state_at g h d.x (d.n + 1) (aligned l m))
      (omega arith) (from k d.n).alike
      (turned h d.x d.n tclass g.below (aligned k m) (the_line h d.n (line.Does tclass)
      (scope_stands j absent x absent f d)))
      (few_before 4 h.source h.program conf (state_at g h d.x (d.n + 1) (aligned l m))
      (state_at g h d.x (d.n + 1 + 1) (aligned l' m)) (omega arith) (from l (d.n + 1)).alike
      (turned h d.x (d.n + 1) load g.below (aligned l m) (subst (λ (i : ℕ). LineAt h i (line.Does load))
      (omega (arith, one))
      (the_line h (d.n + high (does tclass)) (line.Does load) (parent_stands j absent x absent f d))))
      (class_opened g h static ks m l' (kept_both l first (r + 1) Nil d.covered.1) d.there conf d.x (d.n + 1 + 1) r
      (end j absent x absent f d) d.loop (open_class x (j + 0 + 0)) 2 at (from l' (d.n + 1 + 1)) peace.calls
      (omega arith)
      (kept_frame l first (r + 1) Nil d.covered.1 (end j absent x absent f d) r d.loop (omega arith)
      (kept_frame k both r v d.covered.0 (end j absent x absent f d) r d.loop (omega arith) d.next)) x v Nil refl
      d.covered.4 (other_value l first (r + 1) Nil d.covered.1 r v (omega arith) (kept_value k both r v d.covered.0))
      (kept_value l first (r + 1) Nil d.covered.1)
      (ap (λ (z : Place). open_after h.source (j + 0 + 0) (definitions.open_class m.world (Obj (text_class z))
      (symbol m x)
      Nil) ks m) d.there)
      (subst (λ (z : Place). GivesSpace (definitions.open_class m.world (Obj (text_class z)) (symbol m x) Nil)) d.there
      (opening.a_class j x f refl))))).advances

  -- without a scope the parent is done next
  class_under : (j : ℕ) (x : Name) (e : CoreForm) (f : Body)
      (d : Doing g h j (class_form absent x (there e) f) ks m.place ls k.lists)
      → Step h (Run (perform j (class_form absent x (there e) f)) ks m) (state_at g h d.x d.n (aligned k m))
  unfolding do_form
  class_under j x e f d =
      let conf = Run (perform j (class_form absent x (there e) f)) ks m in
      let r = d.r in
      let v = Obj (text_class (place_in h)) in
      let a = open_class x (j + 0 + span e) in
      let tclass = op.TClass r in
      let q = gen (within h d.loop) (past d.s (does tclass)) (r + 1) e in
      let one = high-puts (line.Does tclass) in
      let l = keeping k r v in
      let s = same_here g h m (aligned k m) both in
      let last = end j absent x (there e) f d in
      let goes : go h.source conf ≡ Run (perform j e) (part (operands (j + span e) a (v ∷ []) none) ∷ ks) m =
      ap (λ (z : Place). Run (perform j e) (part (operands (j + span e) a (Obj (text_class z) ∷ []) none) ∷ ks) m)
      d.there in
      by_one h conf (state_at g h d.x d.n (aligned k m)) (state_at g h d.x (d.n + 1) (aligned l m))
      (going (perform j (class_form absent x (there e) f)) ks m (frame (frame_at h d.x d.n) ∷ g.below) (aligned k m)
      refl)
      (turned h d.x d.n tclass g.below (aligned k m)
      (the_line h d.n (line.Does tclass) (scope_stands j absent x (there e) f d)))
      (subst (λ (c : Config). Related h c (state_at g h d.x (d.n + 1) (aligned l m))) (sym goes) (
        g,
        h,
        kept_both k both r v d.covered.0,
        record {
          x = d.x;
          n = d.n + 1;
          r = r + 1;
          is = refl;
          there = d.there;
          loop = d.loop;
          s = past d.s (does tclass);
          here = omega (arith, line-past d.s (does tclass), one, d.here);
          covered = subst (λ (i : ℕ). Covers h d.loop (r + 1) (past d.s (does tclass)) i e) (omega arith) d.covered.3;
          above = d.covered.1.above;
          code = moved h (d.n + high (does tclass)) (d.n + 1) q (omega (arith, one))
              (parent_stands j absent x (there e) f d);
          next = record {
            low = r;
            end = last;
            above = d.covered.0.above;
            below = omega arith;
            behind = opens_space (record {
              row = omega arith;
              held = (slot_same k.lists h.list r (V v) s.present (omega (arith, s.long, d.covered.0.within)), tt);
              last = refl;
              opening = of_count h a 2 (length (v ∷ []) + 1) r (d.n + 1 + high q) last (omega arith)
                  (opening_moved h a 2 r (d.n + high (does tclass) + high q) (d.n + 1 + high q) last
                  (omega (arith, one))
                  (opens_there j absent x (there e) f d));
            });
            outer = d.loop;
            inner = refl;
            next = kept_frame k both r v d.covered.0 last r d.loop (omega arith) d.next;
          };
        },
      ))

  -- a scope is done first
  class_in : (j : ℕ) (x : Name) (e : CoreForm) (parent : Maybe) (f : Body)
      (d : Doing g h j (class_form (there e) x parent f) ks m.place ls k.lists)
      → Step h (Run (perform j (class_form (there e) x parent f)) ks m) (state_at g h d.x d.n (aligned k m))
  unfolding do_form
  class_in j x e absent f d =
      let a = open_class x (j + span e + 0) in
      let load = op.LoadNil (d.r + 1) in
      let p' = gen (within h d.loop) d.s d.r e in
      let last = end j (there e) x absent f d in
      begins_first g h ks m ls k both j (j + span e) (class_form (there e) x absent f) e a none d refl (omega arith)
      d.covered.2 (scope_stands j (there e) x absent f d) (opens_without (record {
        at = refl;
        first = refl;
        last = refl;
        further = d.covered.1;
        parent = the_line h (d.n + high p') (line.Does load) (parent_stands j (there e) x absent f d);
        opening = subst (λ (i : ℕ). OpensAt h a 2 d.r i last) (omega (arith, high-puts (line.Does load)))
            (opens_there j (there e) x absent f d);
      }))
  class_in j x e (there u) f d =
      let a = open_class x (j + span e + span u) in
      let p' = gen (within h d.loop) d.s d.r e in
      begins_first g h ks m ls k both j (j + span e) (class_form (there e) x (there u) f) e a (more u none) d refl
      (omega arith) d.covered.2 (scope_stands j (there e) x (there u) f d) (opens_under (record {
        at = refl;
        first = refl;
        e = u;
        last = refl;
        further = d.covered.1;
        s = past d.s p';
        here = line-past d.s p' ∙ ap (λ (i : ℕ). i + high p') d.here;
        covered = d.covered.3;
        code = parent_stands j (there e) x (there u) f d;
        opening = opens_there j (there e) x (there u) f d;
      }))

  pub do_class : (j : ℕ) (scope : Maybe) (x : Name) (parent : Maybe) (f : Body)
      (d : Doing g h j (class_form scope x parent f) ks m.place ls k.lists)
      → Peace h.source h.program (perform j (class_form scope x parent f)) ks m
      → Opening (perform j (class_form scope x parent f)) ks m
      → Step h (Run (perform j (class_form scope x parent f)) ks m) (state_at g h d.x d.n (aligned k m))
  do_class j absent x absent f d peace opening = class_alone j x f d peace opening
  do_class j absent x (there e) f d peace opening = class_under j x e f d
  do_class j (there e) x parent f d peace opening = class_in j x e parent f d

  -- A module.
  pub do_module : (j : ℕ) (scope : Maybe) (x : Name) (f : Body)
      (d : Doing g h j (module_form scope x f) ks m.place ls k.lists)
      → Peace h.source h.program (perform j (module_form scope x f)) ks m
      → Opening (perform j (module_form scope x f)) ks m
      → Step h (Run (perform j (module_form scope x f)) ks m) (state_at g h d.x d.n (aligned k m))
  unfolding do_form finish
  do_module j absent x f d peace opening =
      let conf = Run (perform j (module_form absent x f)) ks m in
      let r = d.r in
      let v = Obj (text_class (place_in h)) in
      let tclass = op.TClass r in
      let o = op.Module r (entry_of h.context x) in
      let t = past_module h d.loop r d.s absent x in
      let bodies = body_code kind.Class h.context.scopes t.body f in
      let two = does tclass ⊕ does o in
      let last = d.n + high (gen (within h d.loop) d.s r (module_form absent x f)) in
      let front = left h d.n two (makes (op.Exec r t.child) t.body bodies) (within_makes _ _ _ _) d.code in
      let one = high-puts (line.Does tclass) in
      let l = keeping k r v in
      let from : (w : machine.Memory) (n : ℕ) → From h conf (frame (frame_at h d.x n) ∷ g.below) (aligned w m) m =
      λ w n. record {
        alike = going (perform j (module_form absent x f)) ks m (frame (frame_at h d.x n) ∷ g.below) (aligned w m) refl;
        out = refl;
        quiet = peace.quiet;
      } in
      let at = opening_at h (open_module x (j + 0)) 1 r (d.n + 1) (j + 0) d.n o two t bodies
      (a_module x refl refl d.covered.2 refl) d.covered.0 d.covered.3
      (subst (λ (i : ℕ). LineAt h i (line.Does o)) (omega (arith, one))
      (the_line h (d.n + high (does tclass)) (line.Does o) (right h d.n (does tclass) (does o) (within_puts _ _) front)))
      (omega (arith, high-both (does tclass) (does o), one, high-puts (line.Does o)))
      (within_both d.n (does tclass) (does o) (within_puts _ _) (within_puts _ _)) d.code in
      (few_before 4 h.source h.program conf (state_at g h d.x d.n (aligned k m))
      (state_at g h d.x (d.n + 1) (aligned l m))
      (omega arith) (from k d.n).alike
      (turned h d.x d.n tclass g.below (aligned k m)
      (the_line h d.n (line.Does tclass) (left h d.n (does tclass) (does o) (within_puts _ _) front)))
      (module_opened g h static ks m l (kept_both k both r v d.covered.0) d.there conf d.x (d.n + 1) r last d.loop
      (open_module x (j + 0)) 1 at (from l (d.n + 1)) peace.calls (omega arith)
      (kept_frame k both r v d.covered.0 last r d.loop (omega arith) d.next) x v refl d.covered.2
      (kept_value k both r v d.covered.0)
      (ap (λ (z : Place). open_after h.source (j + 0) (definitions.open_module m.world (Obj (text_class z))
      (symbol m x)) ks m)
      d.there)
      (subst (λ (z : Place). GivesSpace (definitions.open_module m.world (Obj (text_class z)) (symbol m x))) d.there
      (opening.a_module j x f refl)))).advances
  do_module j (there e) x f d peace opening =
      let a = open_module x (j + span e) in
      let o = op.Module d.r (entry_of h.context x) in
      let t = past_module h d.loop d.r d.s (there e) x in
      operand_opens j (module_form (there e) x f) e a (j + span e) o t
      (body_code kind.Class h.context.scopes t.body f) d refl (omega arith) d.covered.1
      (a_module x refl refl d.covered.2 refl) d.covered.0 d.covered.3 refl

  pub do_singleton : (j : ℕ) (e : CoreForm) (f : Body) (d : Doing g h j (singleton_form e f) ks m.place ls k.lists)
      → Step h (Run (perform j (singleton_form e f)) ks m) (state_at g h d.x d.n (aligned k m))
  unfolding do_form
  do_singleton j e f d =
      let a = open_singleton (j + span e) in
      let o = op.SClass d.r in
      let t = past_singleton h d.loop d.r d.s e in
      operand_opens j (singleton_form e f) e a (j + span e) o t (body_code kind.Class h.context.scopes t.body f) d refl
      (omega arith) d.covered.1 (a_singleton refl refl refl) d.covered.0 d.covered.2 refl
