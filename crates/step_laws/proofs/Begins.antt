-- A body without clauses, and what is done behind it.
use Rattle.std.proofs.Common.{◌≡◌, ℕ, ◌+◌, List, ◌∷◌, refl, sym, subst, arith, inr}
use Rattle.rb_value.specs.declared.value.Value.{Value}
use Rattle.rb_value.specs.declared.exit.Slot.TheVariants.{V}
use Rattle.ir_core.specs.CoreForm.{CoreForm, begin_form, Maybe, absent, there, no_clauses}
use Rattle.gen_parts.specs.Pieces.{past, nothing, ◌⊕◌}
use Rattle.gen_forms.specs.Gen.{gen}
use Rattle.def_eval.specs.Configuration as source
use Rattle.def_eval.specs.Configuration.{rescued, chosen, Item, part, perform, give, Run}
use Rattle.def_eval.specs.Forms.{do_form}
use Rattle.def_eval.specs.Giving.{give_part, do_give}
use Rattle.def_machine.specs.State as machine
use Rattle.def_machine.specs.State.{Level, slot_at}
use Rattle.step_laws.specs.Site.{Site, within}
use Rattle.step_laws.specs.Measure.{poise}
use Rattle.step_laws.specs.Relation.{Ground, Common, Doing, GivesIn, Related, Step}
use Rattle.step_laws.proofs.Placed.{high, high-both, high-nothing, past_here, left, left_at, right_at}
use Rattle.step_laws.proofs.Guards.{within_nothing}
use Rattle.step_laws.proofs.Within.{keeps}
use Rattle.step_laws.proofs.Matching.{by_none, given_light, state_at, stays}
use Rattle.step_laws.proofs.Literals.{aligned}

module _ (g : Ground) (h : Site) (ks : List Item) (m : source.Memory) (ls : List Level) (k : machine.Memory)
    (both : Common g h m (aligned k m)) where
  pub do_begin : (j : ℕ) (b : CoreForm) (e : Maybe) (d : Doing g h j (begin_form b no_clauses e absent) ks m.place ls k.lists)
      → Step h (Run (perform j (begin_form b no_clauses e absent)) ks m) (state_at g h d.x d.n (aligned k m))
  unfolding do_form
  do_begin j b absent d =
      let p = gen (within h d.loop) d.s d.r b in
      by_none h (Run (perform j (begin_form b no_clauses absent absent)) ks m) (state_at g h d.x d.n (aligned k m))
      (omega arith) (
        g,
        h,
        both,
        record {
          x = d.x;
          n = d.n;
          r = d.r;
          is = refl;
          there = d.there;
          loop = d.loop;
          s = d.s;
          here = d.here;
          covered = d.covered.0;
          above = d.above;
          code = left h d.n p nothing (within_nothing _) d.code;
          next = record {
            low = d.r;
            end = d.n + high (p ⊕ nothing);
            above = d.above;
            below = omega arith;
            behind = record { at = refl; ends = omega (arith, high-both p nothing, high-nothing) };
            outer = d.loop;
            inner = refl;
            next = d.next;
          };
        },
      )
  do_begin j b (there e) d =
      let p = gen (within h d.loop) d.s d.r b in
      let q = gen (within h d.loop) (past d.s p) d.r e in
      by_none h (Run (perform j (begin_form b no_clauses (there e) absent)) ks m) (state_at g h d.x d.n (aligned k m))
      (omega arith) (
        g,
        h,
        both,
        record {
          x = d.x;
          n = d.n;
          r = d.r;
          is = refl;
          there = d.there;
          loop = d.loop;
          s = d.s;
          here = d.here;
          covered = d.covered.0;
          above = d.above;
          code = left_at h d.n d.s p q d.here (keeps e (within h d.loop) (past d.s p) d.r) d.code;
          next = record {
            low = d.r;
            end = d.n + high (p ⊕ q);
            above = d.above;
            below = omega arith;
            behind = record {
              at = refl;
              s = past d.s p;
              here = past_here d.s p d.n d.here;
              covered = d.covered.1;
              code = right_at h d.n d.s p q d.here (keeps b (within h d.loop) d.s d.r) d.code;
              ends = omega (arith, high-both p q);
            };
            outer = d.loop;
            inner = refl;
            next = d.next;
          };
        },
      )

  pub give_body : (v : Value) (j : ℕ) (b : CoreForm) (e : Maybe)
      (d : GivesIn g h v (part (rescued j b no_clauses e) ∷ ks) m.place ls k.lists)
      → Step h (Run (give v) (part (rescued j b no_clauses e) ∷ ks) m) (state_at g h d.x d.n (aligned k m))
  unfolding do_give give_part
  give_body v j b absent d =
      let y = d.next.behind in
      let light : poise (give v) ks ≡ 1 =
      given_light g h k.lists ks d.next.end d.next.low d.next.outer v d.next.next in
      by_none h (Run (give v) (part (rescued j b no_clauses absent) ∷ ks) m) (state_at g h d.x d.n (aligned k m))
      (omega (arith, light))
      (subst (λ (i : ℕ). Related h (Run (give v) ks m) (state_at g h d.x i (aligned k m))) (sym y.ends)
      (stays g h v ks m d.x (aligned k m) d.next.end d.next.low d.next.outer both d.there
      (subst (λ (i : ℕ). slot_at k.lists h.list i ≡ V v) (sym y.at) d.stands) d.next.next))
  give_body v j b (there e) d =
      let y = d.next.behind in
      by_none h (Run (give v) (part (rescued j b no_clauses (there e)) ∷ ks) m) (state_at g h d.x d.n (aligned k m))
      (omega arith) (
        g,
        h,
        both,
        record {
          x = d.x;
          n = d.n;
          r = d.next.low;
          is = refl;
          there = d.there;
          loop = d.loop;
          s = y.s;
          here = y.here;
          covered = y.covered;
          above = d.next.above;
          code = y.code;
          next = record {
            low = d.next.low;
            end = d.next.end;
            above = d.next.above;
            below = omega arith;
            behind = record { at = refl; jump = inr y.ends };
            outer = d.next.outer;
            inner = d.next.inner;
            next = d.next.next;
          };
        },
      )
