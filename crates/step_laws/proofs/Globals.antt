-- Global variables that are set: the instruction leaves its value in the register.
use Rattle.std.proofs.Common.{◌≡◌, ℕ, ◌+◌, List, [], ◌∷◌, ◌++◌, refl, sym, ap, ◌∙◌, subst, arith}
use Rattle.rb_value.specs.declared.value.Value.{Value}
use Rattle.rb_value.specs.declared.value.SymId.{SymId}
use Rattle.rb_value.specs.declared.exit.Slot.{Slot}
use Rattle.rb_value.specs.declared.exit.Slot.TheVariants.{V}
use Rattle.rb_value.specs.Slot.{read}
use Rattle.rite_code.specs.declared.operation.Operation.TheVariants as op
use Rattle.ir_core.specs.CoreForm.{Name, CoreForm, set_gvar, Forms}
use Rattle.gen_parts.specs.declared.line.Line.TheVariants as line
use Rattle.gen_parts.specs.Pieces.{does, ◌⊕◌}
use Rattle.gen_forms.specs.Gen.{gen, symbol as entry_of}
use Rattle.def_calls.specs.World.{with_global}
use Rattle.def_eval.specs.Configuration as source
use Rattle.def_eval.specs.Configuration.{Action, assign_gvar, operands, Item, part, perform, give, Config, Run}
use Rattle.def_eval.specs.Entering.{symbol}
use Rattle.def_eval.specs.Forms.{next_operand, finish, do_form}
use Rattle.def_eval.specs.Giving.{give_part, do_give}
use Rattle.def_eval.specs.Transition.{go}
use Rattle.def_machine.specs.State as machine
use Rattle.def_machine.specs.State.{Level, frame, slot_at, value_at}
use Rattle.step_laws.specs.Site.{Site, within}
use Rattle.step_laws.proofs.Placed.{high, high-both, high-puts, within_puts, left, right_at, the_line, frame_at, turned}
use Rattle.step_laws.proofs.Within.{keeps}
use Rattle.step_laws.specs.Behind.{Static, GlobalBehind, to_global}
use Rattle.step_laws.specs.Relation.{Ground, InFrame, Common, Doing, GivesIn, Related, Step}
use Rattle.step_laws.proofs.Untouched.{same_activations}
use Rattle.step_laws.proofs.Matching.{by_none, by_one, going, state_at, stays}
use Rattle.step_laws.proofs.Literals.{aligned, with_worlds}
use Rattle.step_laws.proofs.Answers.{symbols_same}

module _ (g : Ground) (h : Site) (static : Static h) (ks : List Item) (m : source.Memory) (ls : List Level)
    (k : machine.Memory) (both : Common g h m (aligned k m)) where
  pub do_set_gvar : (j : ℕ) (x : Name) (e : CoreForm) (d : Doing g h j (set_gvar x e) ks m.place ls k.lists)
      → Step h (Run (perform j (set_gvar x e)) ks m) (state_at g h d.x d.n (aligned k m))
  unfolding do_form
  do_set_gvar j x e d =
      let p = gen (within h d.loop) d.s d.r e in
      let o = op.SetGv d.r (entry_of h.context x) in
      by_none h (Run (perform j (set_gvar x e)) ks m) (state_at g h d.x d.n (aligned k m)) (omega arith) (
        g,
        h,
        both,
        record {
          x = d.x;
          n = d.n;
          r = d.r;
          is = refl;
          there = d.there;
          loop = d.loop;
          s = d.s;
          here = d.here;
          covered = d.covered.0;
          above = d.above;
          code = left h d.n p (does o) (within_puts _ _) d.code;
          next = record {
            low = d.r;
            end = d.n + high (p ⊕ does o);
            above = d.above;
            below = omega arith;
            behind = to_global (record {
              at = refl;
              name = x;
              action = refl;
              first = refl;
              last = refl;
              named = d.covered.1;
              sets = the_line h (d.n + high p) (line.Does o)
                  (right_at h d.n d.s p (does o) d.here (keeps e (within h d.loop) d.s d.r) d.code);
              ends = omega (arith, high-both p (does o), high-puts (line.Does o));
            });
            outer = d.loop;
            inner = refl;
            next = d.next;
          };
        },
      )

  pub give_global : (v : Value) (j : ℕ) (a : Action) (vs : List Value) (es : Forms)
      (d : GivesIn g h v (part (operands j a vs es) ∷ ks) m.place ls k.lists)
      → GlobalBehind h a vs es d.next.low d.n d.r d.next.end
      → Step h (Run (give v) (part (operands j a vs es) ∷ ks) m) (state_at g h d.x d.n (aligned k m))
  unfolding do_give give_part finish
  give_global v j a vs es d b =
      let c = Run (give v) (part (operands j a vs es) ∷ ks) m in
      let w = with_global m.world (symbol m b.name) v in
      let goes : go h.source c ≡ Run (give v) ks (source.with_world m w) =
      ap (λ (x : Action). next_operand h.source j x (vs ++ v ∷ []) es ks m) b.action
      ∙ ap (λ (us : List Value). next_operand h.source j (assign_gvar b.name) (us ++ v ∷ []) es ks m) b.first
      ∙ ap (λ (fs : Forms). next_operand h.source j (assign_gvar b.name) (v ∷ []) fs ks m) b.last in
      let k' = machine.with_world k w in
      let stands : slot_at k.lists h.list d.next.low ≡ V v =
      subst (λ (i : ℕ). slot_at k.lists h.list i ≡ V v) (sym b.at) d.stands in
      by_one h c (state_at g h d.x d.n (aligned k m)) (state_at g h d.x (d.n + 1) k')
      (going (give v) (part (operands j a vs es) ∷ ks) m (frame (frame_at h d.x d.n) ∷ g.below) (aligned k m) refl)
      (turned h d.x d.n (op.SetGv d.next.low (entry_of h.context b.name)) g.below (aligned k m) b.sets
      ∙ ap (λ (y : SymId). state_at g h d.x (d.n + 1)
      (machine.with_world k (with_global m.world y (value_at k.lists h.list d.next.low))))
      (symbols_same h d.x d.n k m b.name b.named)
      ∙ ap (λ (u : Slot). state_at g h d.x (d.n + 1)
      (machine.with_world k (with_global m.world (symbol m b.name) (read u)))) stands)
      (subst (λ (q : Config). Related h q (state_at g h d.x (d.n + 1) k')) (sym goes)
      (stays g h v ks (source.with_world m w) d.x k' (d.n + 1) d.next.low d.next.outer
      (with_worlds g h m k both w (same_activations m.world w refl (λ b ns is. is))) d.there stands
      (subst (λ (i : ℕ). InFrame g h k.lists ks i d.next.low d.next.outer) (sym b.ends) d.next.next)))
