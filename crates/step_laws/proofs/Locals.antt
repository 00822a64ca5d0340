-- Local variables.
use Rattle.std.proofs.Common.{◌≡◌, ◌≢◌, ◌≤◌, ℕ, suc, ◌+◌, ◌-◌, List, [], ◌∷◌, ◌++◌, refl, sym, ap, ◌∙◌, subst, arith}
use Rattle.std.specs.Prelude.{nat_eq, if◌then◌else◌, Bool, Option}
use Rattle.code_laws.proofs.Checking.{not_zero}
use Rattle.rb_value.specs.declared.value.Value.{Value}
use Rattle.rb_value.specs.declared.exit.Slot.TheVariants.{V}
use Rattle.rb_value.specs.Slot.{read as read_slot}
use Rattle.rite_code.specs.declared.operation.Operation.{Operation}
use Rattle.rite_code.specs.declared.operation.Operation.TheVariants as op
use Rattle.ir_core.specs.CoreForm.{Local, CoreForm, local, set_local, Forms, none}
use Rattle.scope_resolver.specs.Layout.{place_of}
use Rattle.gen_forms.specs.declared.context.Loop.{Loop}
use Rattle.gen_parts.specs.declared.line.Line.TheVariants as line
use Rattle.gen_parts.specs.Pieces.{does, ◌⊕◌}
use Rattle.gen_forms.specs.Gen.{gen, read, write}
use Rattle.def_eval.specs.Source.{span}
use Rattle.def_eval.specs.Configuration as source
use Rattle.def_eval.specs.Configuration.{Action, assign, operands, Item, part, perform, give, Config, Run}
use Rattle.def_eval.specs.Scopes.{variable, with_variable}
use Rattle.def_eval.specs.Forms.{finish, next_operand, do_form}
use Rattle.def_eval.specs.Giving.{give_part, do_give}
use Rattle.def_eval.specs.Transition.{go}
use Rattle.def_machine.specs.State as machine
use Rattle.def_machine.specs.State.{Registers, Level, frame, slot_at, value_at, list_out, put}
use Rattle.def_machine.specs.Turn.{act}
use Rattle.step_laws.specs.Site.{Site, place_in, within, at_line, LineAt, register, Known, Reaches, of_the_body, of_one_around}
use Rattle.step_laws.proofs.Placed.{Rest, high, high-puts, heights, within_puts, left, right_at, the_line, frame_at, turned}
use Rattle.step_laws.proofs.Within.{keeps}
use Rattle.step_laws.specs.Behind.{Static, LocalBehind, OuterBehind, OperandBehind, to_local, to_outer}
use Rattle.step_laws.specs.Relation.{Ground, InFrame, Common, Doing, GivesIn, Related, Step}
use Rattle.step_laws.proofs.Registers.{slot_other, keeps_local, named_is}
use Rattle.step_laws.proofs.Untouched.{put_only, frame_kept, same_here, assigned_here, assigned_out, frame_out, slot_out}
use Rattle.step_laws.proofs.Reaching.{outer_of, outer_value}
use Rattle.step_laws.proofs.Seen.{outer_seen}
use Rattle.step_laws.proofs.Matching.{by_none, by_one, going, state_at, written, stays}
use Rattle.step_laws.proofs.Literals.{aligned, written_by}

-- the instructions of a local of the body
pub read_is : (h : Site) (r : ℕ) (x : Local) → Known h x
    → read r (place_of h.context.scopes x) ≡ op.Move r (register h x)
read_is h r x k = ap (λ (d : ℕ). if nat_eq d 0 then op.Move r (register h x)
    else op.GetUpVar r (register h x) ((place_of h.context.scopes x).levels - 1)) k.level

write_is : (h : Site) (r : ℕ) (x : Local) → Known h x
    → write r (place_of h.context.scopes x) ≡ op.Move (register h x) r
write_is h r x k = ap (λ (d : ℕ). if nat_eq d 0 then op.Move (register h x) r
    else op.SetUpVar r (register h x) ((place_of h.context.scopes x).levels - 1)) k.level

-- and those of one of a body around
read_out : (h : Site) (r : ℕ) (x : Local) (b : ℕ) → (place_of h.context.scopes x).levels ≡ suc b
    → read r (place_of h.context.scopes x) ≡ op.GetUpVar r (register h x) b
read_out h r x b e =
    let one : suc b - 1 ≡ b = omega arith in
    ap (λ (d : ℕ). if nat_eq d 0 then op.Move r (register h x) else op.GetUpVar r (register h x) (d - 1)) e
    ∙ ap (λ (t : Bool). if t then op.Move r (register h x) else op.GetUpVar r (register h x) (suc b - 1))
    (not_zero (suc b) (omega arith))
    ∙ ap (op.GetUpVar r (register h x)) one

write_out : (h : Site) (r : ℕ) (x : Local) (b : ℕ) → (place_of h.context.scopes x).levels ≡ suc b
    → write r (place_of h.context.scopes x) ≡ op.SetUpVar r (register h x) b
write_out h r x b e =
    let one : suc b - 1 ≡ b = omega arith in
    ap (λ (d : ℕ). if nat_eq d 0 then op.Move (register h x) r else op.SetUpVar r (register h x) (d - 1)) e
    ∙ ap (λ (t : Bool). if t then op.Move (register h x) r else op.SetUpVar r (register h x) (suc b - 1))
    (not_zero (suc b) (omega arith))
    ∙ ap (op.SetUpVar r (register h x)) one

-- the code behind the value of an assignment
behind_write : (h : Site) (l : List Registers) (i : ℕ) (x : Local) → Reaches h x → (n r end : ℕ) (around : Option Loop)
    → LineAt h n (line.Does (write r (place_of h.context.scopes x))) → n + 1 ≡ end
    → OperandBehind h l i (assign x) [] none r n r end around
behind_write h l i x (of_the_body known) n r end around at ends = to_local (record {
  at = refl;
  name = x;
  action = refl;
  first = refl;
  last = refl;
  known = known;
  move = subst (λ (q : Operation). LineAt h n (line.Does q)) (write_is h r x known) at;
  ends = ends;
})
behind_write h l i x (of_one_around b level low) n r end around at ends = to_outer (record {
  at = refl;
  name = x;
  action = refl;
  first = refl;
  last = refl;
  between = b;
  level = level;
  there = low;
  sets = subst (λ (q : Operation). LineAt h n (line.Does q)) (write_out h r x b level) at;
  ends = ends;
})

module _ (g : Ground) (h : Site) (static : Static h) (ks : List Item) (m : source.Memory) (ls : List Level)
    (k : machine.Memory) (both : Common g h m (aligned k m)) where
  -- what a local of a body around reads as
  read_value : (y : Local) (b : ℕ) → m.place ≡ place_in h → (place_of h.context.scopes y).levels ≡ suc b
      → 1 ≤ register h y
      → variable m y ≡ value_at k.lists (list_out (b + 1) k.lists h.list) (register h y)
  read_value y b there level low =
      let one : suc b ≡ b + 1 = omega arith in
      outer_value h.source h.program g.sites m.scopes k.lists m.world both.all.sites y
      (outer_seen h.context.scopes y b level) m h (suc b) refl there both.site level low
      ∙ ap (λ (d : ℕ). value_at k.lists (list_out d k.lists h.list) (register h y)) one

  -- a turn reads the value of a local
  pub local_read : (x : Local) (rest : Rest) (n r : ℕ) → m.place ≡ place_in h → Reaches h x
      → act h.program (read r (place_of h.context.scopes x)) (at_line h (n + 1)) (frame_at h rest n) g.below (aligned k m)
      ≡ state_at g h rest (n + 1) (written h (aligned k m) r (variable m x))
  local_read x rest n r there (of_the_body known) =
      ap (λ (q : Operation). act h.program q (at_line h (n + 1)) (frame_at h rest n) g.below (aligned k m))
      (read_is h r x known)
      ∙ ap (λ (v : Value). state_at g h rest (n + 1) (written h (aligned k m) r v))
      (sym (named_is h m k.lists x there (same_here g h m (aligned k m) both) known))
  local_read x rest n r there (of_one_around b level low) =
      ap (λ (q : Operation). act h.program q (at_line h (n + 1)) (frame_at h rest n) g.below (aligned k m))
      (read_out h r x b level)
      ∙ ap (λ (v : Value). state_at g h rest (n + 1) (written h (aligned k m) r v)) (sym (read_value x b there level low))

  pub do_local : (j : ℕ) (y : Local) (d : Doing g h j (local y) ks m.place ls k.lists)
      → Step h (Run (perform j (local y)) ks m) (state_at g h d.x d.n (aligned k m))
  unfolding do_form
  do_local j x d =
      written_by g h static (Run (perform j (local x)) ks m) (variable m x) ks m d.x k d.n d.r
      (read d.r (place_of h.context.scopes x)) d.loop
      (going (perform j (local x)) ks m (frame (frame_at h d.x d.n) ∷ g.below) (aligned k m) refl) refl
      (the_line h d.n (line.Does (read d.r (place_of h.context.scopes x))) d.code) (local_read x d.x d.n d.r d.there d.covered.1)
      both d.there d.covered.0
      (subst (λ (i : ℕ). InFrame g h k.lists ks (d.n + i) d.r d.loop)
      (high-puts (line.Does (read d.r (place_of h.context.scopes x)))) d.next)

  pub do_set_local : (j : ℕ) (y : Local) (e : CoreForm) (d : Doing g h j (set_local y e) ks m.place ls k.lists)
      → Step h (Run (perform j (set_local y e)) ks m) (state_at g h d.x d.n (aligned k m))
  unfolding do_form
  do_set_local j x e d =
      let p = gen (within h d.loop) d.s d.r e in
      let o = write d.r (place_of h.context.scopes x) in
      let l = the_line h (d.n + high p) (line.Does o)
      (right_at h d.n d.s p (does o) d.here (keeps e (within h d.loop) d.s d.r) d.code) in
      by_none h (Run (perform j (set_local x e)) ks m) (state_at g h d.x d.n (aligned k m)) (omega arith) (
        g,
        h,
        both,
        record {
          x = d.x;
          n = d.n;
          r = d.r;
          is = refl;
          there = d.there;
          loop = d.loop;
          s = d.s;
          here = d.here;
          covered = d.covered.0;
          above = d.above;
          code = left h d.n p (does o) (within_puts _ _) d.code;
          next = record {
            low = d.r;
            end = d.n + high (p ⊕ does o);
            above = d.above;
            below = omega arith;
            behind = behind_write h k.lists (j + span e) x d.covered.1 (d.n + high p) d.r (d.n + high (p ⊕ does o)) d.loop l
                (simp heights (omega arith));
            outer = d.loop;
            inner = refl;
            next = d.next;
          };
        },
      )

  -- the value of an assignment, which is the last of its operands
  pub give_local : (v : Value) (j : ℕ) (a : Action) (vs : List Value) (es : Forms)
      (d : GivesIn g h v (part (operands j a vs es) ∷ ks) m.place ls k.lists)
      → LocalBehind h a vs es d.next.low d.n d.r d.next.end
      → Step h (Run (give v) (part (operands j a vs es) ∷ ks) m) (state_at g h d.x d.n (aligned k m))
  unfolding do_give give_part finish with_variable
  give_local v j a vs es d b =
      let c = Run (give v) (part (operands j a vs es) ∷ ks) m in
      let goes : go h.source c ≡ Run (give v) ks (with_variable m b.name v) =
      ap (λ (x : Action). next_operand h.source j x (vs ++ v ∷ []) es ks m) b.action
      ∙ ap (λ (us : List Value). next_operand h.source j (assign b.name) (us ++ v ∷ []) es ks m) b.first
      ∙ ap (λ (fs : Forms). next_operand h.source j (assign b.name) (v ∷ []) fs ks m) b.last in
      let k' = written h (aligned k m) (register h b.name) v in
      let stands : slot_at k.lists h.list d.next.low ≡ V v =
      subst (λ (i : ℕ). slot_at k.lists h.list i ≡ V v) (sym b.at) d.stands in
      let s = same_here g h m (aligned k m) both in
      let b' = assigned_here g h m (aligned k m) both b.name v d.there b.known in
      let apart : d.next.low ≢ register h b.name = omega (arith, d.next.above, b.known.low) in
      by_one h c (state_at g h d.x d.n (aligned k m)) (state_at g h d.x (d.n + 1) k')
      (going (give v) (part (operands j a vs es) ∷ ks) m (frame (frame_at h d.x d.n) ∷ g.below) (aligned k m) refl)
      (turned h d.x d.n (op.Move (register h b.name) d.next.low) g.below (aligned k m) b.move
      ∙ ap (λ (u : Value). state_at g h d.x (d.n + 1) (written h (aligned k m) (register h b.name) u))
      (ap read_slot stands))
      (subst (λ (q : Config). Related h q (state_at g h d.x (d.n + 1) k')) (sym goes)
      (stays g h v ks (with_variable m b.name v) d.x k' (d.n + 1) d.next.low d.next.outer b' d.there
      (slot_other k.lists h.list (register h b.name) d.next.low (V v) s.present apart ∙ stands)
      (subst (λ (i : ℕ). InFrame g h k'.lists ks i d.next.low d.next.outer) (sym b.ends)
      (frame_kept g h k.lists k'.lists ks d.next.end d.next.low d.next.outer
      (keeps_local h k.lists d.next.low (register h b.name) (V v) s.present b.known.low)
      (put_only k.lists h.list (register h b.name) v) (omega (arith, both.free)) d.next.next))))

  -- and one of a body around
  pub give_outer : (v : Value) (j : ℕ) (a : Action) (vs : List Value) (es : Forms)
      (d : GivesIn g h v (part (operands j a vs es) ∷ ks) m.place ls k.lists)
      → OuterBehind h a vs es d.next.low d.n d.r d.next.end
      → Step h (Run (give v) (part (operands j a vs es) ∷ ks) m) (state_at g h d.x d.n (aligned k m))
  unfolding do_give give_part finish with_variable
  give_outer v j a vs es d b =
      let c = Run (give v) (part (operands j a vs es) ∷ ks) m in
      let y = b.name in
      let goes : go h.source c ≡ Run (give v) ks (with_variable m y v) =
      ap (λ (x : Action). next_operand h.source j x (vs ++ v ∷ []) es ks m) b.action
      ∙ ap (λ (us : List Value). next_operand h.source j (assign y) (us ++ v ∷ []) es ks m) b.first
      ∙ ap (λ (fs : Forms). next_operand h.source j (assign y) (v ∷ []) fs ks m) b.last in
      let r = outer_of h.source h.program g.sites m.scopes k.lists m.world both.all.sites y
      (outer_seen h.context.scopes y b.between b.level) m h (suc b.between) refl d.there both.site b.level b.there in
      let k' : machine.Memory = record (aligned k m) { lists = put k.lists r.g.list (register r.g y) (V v) } in
      let stands : slot_at k.lists h.list d.next.low ≡ V v =
      subst (λ (i : ℕ). slot_at k.lists h.list i ≡ V v) (sym b.at) d.stands in
      let one : b.between + 1 ≡ suc b.between = omega arith in
      let b' = assigned_out g h r.g m (aligned k m) both y v r.site r.known r.found in
      by_one h c (state_at g h d.x d.n (aligned k m)) (state_at g h d.x (d.n + 1) k')
      (going (give v) (part (operands j a vs es) ∷ ks) m (frame (frame_at h d.x d.n) ∷ g.below) (aligned k m) refl)
      (turned h d.x d.n (op.SetUpVar d.next.low (register h y) b.between) g.below (aligned k m) b.sets
      ∙ ap (λ (i : ℕ). state_at g h d.x (d.n + 1) (record (aligned k m) {
        lists = put k.lists (list_out i k.lists h.list) (register h y) (V (value_at k.lists h.list d.next.low));
      })) one
      ∙ ap (λ (n : ℕ). state_at g h d.x (d.n + 1) (record (aligned k m) {
        lists = put k.lists n (register h y) (V (value_at k.lists h.list d.next.low));
      })) r.list
      ∙ ap (λ (i : ℕ). state_at g h d.x (d.n + 1) (record (aligned k m) {
        lists = put k.lists r.g.list i (V (value_at k.lists h.list d.next.low));
      })) (sym r.same)
      ∙ ap (λ (u : Value). state_at g h d.x (d.n + 1) (record (aligned k m) {
        lists = put k.lists r.g.list (register r.g y) (V u);
      })) (ap read_slot stands))
      (subst (λ (q : Config). Related h q (state_at g h d.x (d.n + 1) k')) (sym goes)
      (stays g h v ks (with_variable m y v) d.x k' (d.n + 1) d.next.low d.next.outer b' d.there
      (slot_out g h r.g m (aligned k m) both y v r.site r.known d.next.low d.next.above ∙ stands)
      (subst (λ (i : ℕ). InFrame g h k'.lists ks i d.next.low d.next.outer) (sym b.ends)
      (frame_out g h r.g m (aligned k m) both y v r.site r.known ks d.next.end d.next.low d.next.outer d.next.next))))
