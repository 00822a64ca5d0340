-- Sequences.
use Rattle.std.proofs.Common.{◌≡◌, ℕ, ◌+◌, List, ◌∷◌, refl, sym, ap, ◌∙◌, subst, arith}
use Rattle.rb_value.specs.declared.value.Value.{Value}
use Rattle.rb_value.specs.declared.value.Value.TheVariants.{Nil}
use Rattle.rb_value.specs.declared.exit.Slot.TheVariants.{V}
use Rattle.rite_code.specs.declared.operation.Operation.TheVariants as op
use Rattle.ir_core.specs.CoreForm.{seq, Forms, none, more}
use Rattle.gen_parts.specs.declared.line.Line.TheVariants as line
use Rattle.gen_parts.specs.Pieces.{past, ◌⊕◌}
use Rattle.gen_forms.specs.Gen.{gen, others_in_turn}
use Rattle.def_eval.specs.Configuration as source
use Rattle.def_eval.specs.Configuration.{rest, Item, part, perform, give, Run}
use Rattle.def_eval.specs.Forms.{do_form}
use Rattle.def_eval.specs.Giving.{give_part, do_give}
use Rattle.def_machine.specs.State as machine
use Rattle.def_machine.specs.State.{Level, frame, slot_at}
use Rattle.step_laws.specs.Site.{Site, within}
use Rattle.step_laws.proofs.Placed.{high, high-both, high-puts, high-nothing, heights, line-past, left_at, right_at, the_line, frame_at}
use Rattle.step_laws.proofs.Within.{keeps, others_keep}
use Rattle.step_laws.specs.Measure.{poise}
use Rattle.step_laws.specs.Behind.{Static}
use Rattle.step_laws.specs.Relation.{Ground, InFrame, Common, Doing, GivesIn, Step}
use Rattle.step_laws.proofs.Matching.{by_none, going, given_light, state_at, stays}
use Rattle.step_laws.proofs.Literals.{aligned, written_by}

module _ (g : Ground) (h : Site) (static : Static h) (ks : List Item) (m : source.Memory) (ls : List Level)
    (k : machine.Memory) (both : Common g h m (aligned k m)) where
  pub do_seq : (j : ℕ) (es : Forms) (d : Doing g h j (seq es) ks m.place ls k.lists)
      → Step h (Run (perform j (seq es)) ks m) (state_at g h d.x d.n (aligned k m))
  unfolding do_form
  do_seq j none d =
      let o = op.LoadNil d.r in
      written_by g h static (Run (perform j (seq none)) ks m) Nil ks m d.x k d.n d.r o d.loop
      (going (perform j (seq none)) ks m (frame (frame_at h d.x d.n) ∷ g.below) (aligned k m) refl) refl
      (the_line h d.n (line.Does o) d.code) refl both d.there d.covered.0
      (subst (λ (i : ℕ). InFrame g h k.lists ks (d.n + i) d.r d.loop) (high-puts (line.Does o)) d.next)
  do_seq j (more e es) d =
      let p = gen (within h d.loop) d.s d.r e in
      let q = others_in_turn (within h d.loop) (past d.s p) d.r es in
      by_none h (Run (perform j (seq (more e es))) ks m) (state_at g h d.x d.n (aligned k m)) (omega arith) (
        g,
        h,
        both,
        record {
          x = d.x;
          n = d.n;
          r = d.r;
          is = refl;
          there = d.there;
          loop = d.loop;
          s = d.s;
          here = d.here;
          covered = d.covered.1.0;
          above = d.above;
          code = left_at h d.n d.s p q d.here (others_keep es (within h d.loop) (past d.s p) d.r) d.code;
          next = record {
            low = d.r;
            end = d.n + high (p ⊕ q);
            above = d.above;
            below = omega arith;
            behind = record {
              at = refl;
              s = past d.s p;
              here = line-past d.s p ∙ ap (λ (i : ℕ). i + high p) d.here;
              covered = d.covered.1.1;
              code = right_at h d.n d.s p q d.here (keeps e (within h d.loop) d.s d.r) d.code;
              ends = simp heights (omega arith);
            };
            outer = d.loop;
            inner = refl;
            next = d.next;
          };
        },
      )

  pub give_rest : (v : Value) (j : ℕ) (es : Forms) (d : GivesIn g h v (part (rest j es) ∷ ks) m.place ls k.lists)
      → Step h (Run (give v) (part (rest j es) ∷ ks) m) (state_at g h d.x d.n (aligned k m))
  unfolding do_give give_part
  give_rest v j none d =
      let b = d.next.behind in
      let light : poise (give v) ks ≡ 1 =
      given_light g h k.lists ks d.next.end d.next.low d.next.outer v d.next.next in
      by_none h (Run (give v) (part (rest j none) ∷ ks) m) (state_at g h d.x d.n (aligned k m)) (omega (arith, light))
      (stays g h v ks m d.x (aligned k m) d.n d.next.low d.next.outer both d.there
      (subst (λ (i : ℕ). slot_at k.lists h.list i ≡ V v) (sym b.at) d.stands)
      (subst (λ (i : ℕ). InFrame g h k.lists ks i d.next.low d.next.outer) (sym (omega (arith, high-nothing, b.ends))) d.next.next))
  give_rest v j (more e es) d =
      let b = d.next.behind in
      let p = gen (within h d.loop) b.s d.next.low e in
      let q = others_in_turn (within h d.loop) (past b.s p) d.next.low es in
      by_none h (Run (give v) (part (rest j (more e es)) ∷ ks) m) (state_at g h d.x d.n (aligned k m)) (omega arith) (
        g,
        h,
        both,
        record {
          x = d.x;
          n = d.n;
          r = d.next.low;
          is = refl;
          there = d.there;
          loop = d.loop;
          s = b.s;
          here = b.here;
          covered = b.covered.0;
          above = d.next.above;
          code = left_at h d.n b.s p q b.here (others_keep es (within h d.loop) (past b.s p) d.next.low) b.code;
          next = record {
            low = d.next.low;
            end = d.next.end;
            above = d.next.above;
            below = omega arith;
            behind = record {
              at = refl;
              s = past b.s p;
              here = line-past b.s p ∙ ap (λ (i : ℕ). i + high p) b.here;
              covered = b.covered.1;
              code = right_at h d.n b.s p q b.here (keeps e (within h d.loop) b.s d.next.low) b.code;
              ends = omega (arith, high-both p q, b.ends);
            };
            outer = d.next.outer;
            inner = d.next.inner;
            next = d.next.next;
          };
        },
      )
