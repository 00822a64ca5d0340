-- Loops.
use Rattle.std.proofs.Common.{◌≡◌, ◌⊎◌, ℕ, ◌+◌, List, ◌∷◌, refl, sym, ap, ◌∙◌, subst, inl, inr, arith, Bool, true, false}
use Rattle.std.specs.Prelude.{if◌then◌else◌, Option, Some}
use Rattle.rb_value.specs.declared.value.Value.{Value}
use Rattle.rb_value.specs.declared.value.Value.TheVariants.{Nil}
use Rattle.rb_value.specs.declared.exit.Slot.TheVariants.{V}
use Rattle.rb_value.specs.Value.{is_true}
use Rattle.rite_code.specs.declared.operation.Operation.TheVariants as op
use Rattle.ir_core.specs.CoreForm.{CoreForm, while_form}
use Rattle.gen_parts.specs.declared.line.Line.TheVariants as line
use Rattle.gen_parts.specs.declared.emitter.Spot.{Spot}
use Rattle.gen_parts.specs.Pieces.{past, behind, puts, does, ◌⊕◌, jump, jump_if}
use Rattle.gen_forms.specs.declared.context.Loop.{Loop}
use Rattle.gen_forms.specs.Gen.{gen, loop as loop_code}
use Rattle.def_eval.specs.Source.{span}
use Rattle.def_eval.specs.Configuration as source
use Rattle.def_eval.specs.Configuration.{loop_test, loop_body, Item, part, perform, give, Run}
use Rattle.def_eval.specs.Forms.{do_form}
use Rattle.def_eval.specs.Giving.{turn_loop, give_part, do_give}
use Rattle.def_machine.specs.State as machine
use Rattle.def_machine.specs.State.{Level, frame, slot_at}
use Rattle.def_machine.specs.Turn.{turn}
use Rattle.step_laws.specs.Site.{Site, within, place_in, LineAt}
use Rattle.step_laws.specs.Covers.{Covers}
use Rattle.step_laws.proofs.Placed.{high, high-both, high-puts, line-past, line-behind, Stands, moved, KeepsWithin, left, right, the_line, Rest, frame_at, turned, jumped}
use Rattle.step_laws.specs.Behind.{Static, LoopAt}
use Rattle.step_laws.specs.Relation.{Ground, InFrame, Common, Doing, GivesIn, Related, Step}
use Rattle.step_laws.proofs.Outside.{first_stays}
use Rattle.step_laws.proofs.Guards.{within_both, within_puts, within_moved}
use Rattle.step_laws.proofs.Within.{keeps}
use Rattle.step_laws.proofs.Matching.{by_none, by_one, by_two, going, state_at, written, writes}
use Rattle.step_laws.proofs.Literals.{aligned}
use Rattle.step_laws.proofs.Branches.{jumped_not, jumped_if}

-- The line where a loop is entered.
abbrev pub entry : Bool → {h : Site} {r j : ℕ} {t b : CoreForm} {end : ℕ} → LoopAt h r j t b end → ℕ
entry false l = l.test_spot.line
entry true l = l.body_spot.line

pub record Entered (first : Bool) (h : Site) (n r j : ℕ) (t b : CoreForm) (end : ℕ) : Type 0 where
  pub loop : LoopAt h r j t b end
  pub enters : LineAt h n (line.Jump (entry first loop))

module _ (h : Site) (n r end j : ℕ) (o : Option Loop) (s : Spot) (t b : CoreForm) (here : s.line ≡ n) where
  -- the jump out of the loop leads to its end
  leads : (at out to : ℕ) → at ≡ out → to ≡ end → LineAt h at (line.Jump to) → LineAt h out (line.Jump end)
  leads at out to e f l = subst (λ (i : ℕ). LineAt h i (line.Jump end)) e (subst (λ (i : ℕ). LineAt h at (line.Jump i)) f l)

  test_first : Covers h o r s j (while_form false t b)
      → Stands h n (loop_code false (λ d u i. gen d u i t) (λ d u i. gen d u i b) (within h o) s r)
      → n + high (loop_code false (λ d u i. gen d u i t) (λ d u i. gen d u i b) (within h o) s r) ≡ end
      → Entered false h n r j t b end
  test_first covers code ends =
      let start = behind (behind s) in
      let target : Loop = record { value = r; out = (behind s).line; round = start.line } in
      let inside : Option Loop = Some target in
      let p = gen (within h inside) start r t in
      let v = behind (past start p) in
      let q = gen (within h inside) v r b in
      let back = jump start.line in
      let body = q ⊕ back in
      let z = (past v body).line in
      let skip = puts (line.JumpNot r z) in
      let load = does (op.LoadNil r) in
      let whole = (p ⊕ skip ⊕ body) ⊕ load in
      let out = puts (line.Jump (past start whole).line) in
      let enter = jump start.line in
      let e1 : high enter ≡ 1 = high-puts (line.Jump start.line) in
      let e2 : high out ≡ 1 = high-puts (line.Jump (past start whole).line) in
      let e3 : high skip ≡ 1 = high-puts (line.JumpNot r z) in
      let e4 : high back ≡ 1 = high-puts (line.Jump start.line) in
      let e5 : high load ≡ 1 = high-puts (line.Does (op.LoadNil r)) in
      let begins : start.line ≡ n + 2 = omega (arith, line-behind (behind s), line-behind s, here) in
      let body_line : v.line ≡ start.line + high p + 1 = omega (arith, line-behind (past start p), line-past start p) in
      let z_line : z ≡ start.line + high p + 1 + high q + 1 =
      omega (arith, line-past v body, body_line, high-both q back, e4) in
      let kept_test : KeepsWithin start.line p = keeps t (within h inside) start r in
      let kept_body : KeepsWithin v.line q = keeps b (within h inside) v r in
      let kept_back : KeepsWithin (start.line + high p + high skip) body =
      within_moved v.line (start.line + high p + high skip) body (omega (arith, e3, body_line))
      (within_both v.line q back kept_body (within_puts _ _)) in
      let kept_rest : KeepsWithin (start.line + high p) (skip ⊕ body) =
      within_both (start.line + high p) skip body (within_puts _ _) kept_back in
      let kept_all : KeepsWithin start.line (p ⊕ skip ⊕ body) =
      within_both start.line p (skip ⊕ body) kept_test kept_rest in
      let kept_whole : KeepsWithin (n + high enter + high out) whole =
      within_moved start.line (n + high enter + high out) whole (omega (arith, e1, e2, begins))
      (within_both start.line (p ⊕ skip ⊕ body) load kept_all (within_puts _ _)) in
      let rest = right h n enter (out ⊕ whole) (within_puts _ _) code in
      let inner = moved h (n + high enter + high out) start.line whole (omega (arith, e1, e2, begins))
      (right h (n + high enter) out whole (within_puts _ _) rest) in
      let tests = left h start.line (p ⊕ skip ⊕ body) load (within_puts _ _) inner in
      let behind_test = right h start.line p (skip ⊕ body) kept_test tests in
      let at_body = moved h (start.line + high p + high skip) v.line body (omega (arith, e3, body_line))
      (right h (start.line + high p) skip body (within_puts _ _) behind_test) in
      let load_line = moved h (start.line + high (p ⊕ skip ⊕ body)) z load
      (omega (arith, z_line, high-both p (skip ⊕ body), high-both skip body, high-both q back, e3, e4))
      (right h start.line (p ⊕ skip ⊕ body) load kept_all inner) in
      record {
        loop = record {
          loop = inside;
          target = target;
          is = refl;
          value = refl;
          leads_out = leads (n + high enter) (behind s).line (past start whole).line (omega (arith, e1, line-behind s, here))
              (omega (arith, ends, high-both enter (out ⊕ whole), high-both out whole, e1, e2, line-past start whole, begins))
              (the_line h (n + high enter) (line.Jump (past start whole).line)
              (left h (n + high enter) out whole kept_whole rest));
          test_spot = start;
          body_spot = v;
          room = covers.0;
          test_covered = covers.1;
          body_covered = covers.2;
          test = left h start.line p (skip ⊕ body) kept_rest tests;
          body = left h v.line q back (within_puts _ _) at_body;
          out = z;
          branches = inl (
            the_line h (start.line + high p) (line.JumpNot r z)
                (left h (start.line + high p) skip body kept_back behind_test),
            body_line,
          );
          back = inl (the_line h (v.line + high q) (line.Jump start.line) (right h v.line q back kept_body at_body));
          load = the_line h z (line.Does (op.LoadNil r)) load_line;
          round = inl refl;
          stays = first_stays h start.line (p ⊕ skip ⊕ body)
              (omega (arith, high-both p (skip ⊕ body), high-both skip body, e3)) tests;
          ends = omega (
            arith,
            ends,
            high-both enter (out ⊕ whole),
            high-both out whole,
            high-both (p ⊕ skip ⊕ body) load,
            high-both p (skip ⊕ body),
            high-both skip body,
            high-both q back,
            e1,
            e2,
            e3,
            e4,
            e5,
            begins,
            z_line,
          );
        };
        enters = the_line h n (line.Jump start.line)
            (left h n enter (out ⊕ whole)
            (within_both (n + high enter) out whole (within_puts _ _) kept_whole) code);
      }

  body_first : Covers h o r s j (while_form true t b)
      → Stands h n (loop_code true (λ d u i. gen d u i t) (λ d u i. gen d u i b) (within h o) s r)
      → n + high (loop_code true (λ d u i. gen d u i t) (λ d u i. gen d u i b) (within h o) s r) ≡ end
      → Entered true h n r j t b end
  body_first covers code ends =
      let round = behind (behind s) in
      let target : Loop = record { value = r; out = (behind s).line; round = round.line } in
      let inside : Option Loop = Some target in
      let v = behind round in
      let q = gen (within h inside) v r b in
      let leap = puts (line.Jump (past v q).line) in
      let w = past round (leap ⊕ q) in
      let p = gen (within h inside) w r t in
      let again = jump_if r v.line in
      let load = does (op.LoadNil r) in
      let whole = ((leap ⊕ q) ⊕ p ⊕ again) ⊕ load in
      let out = puts (line.Jump (past round whole).line) in
      let enter = jump v.line in
      let e1 : high enter ≡ 1 = high-puts (line.Jump v.line) in
      let e2 : high out ≡ 1 = high-puts (line.Jump (past round whole).line) in
      let e3 : high leap ≡ 1 = high-puts (line.Jump (past v q).line) in
      let e4 : high again ≡ 1 = high-puts (line.JumpIf r v.line) in
      let e5 : high load ≡ 1 = high-puts (line.Does (op.LoadNil r)) in
      let begins : round.line ≡ n + 2 = omega (arith, line-behind (behind s), line-behind s, here) in
      let body_line : v.line ≡ round.line + 1 = line-behind round in
      let test_line : w.line ≡ v.line + high q =
      omega (arith, line-past round (leap ⊕ q), high-both leap q, e3, body_line) in
      let kept_body : KeepsWithin (round.line + high leap) q =
      within_moved v.line (round.line + high leap) q (omega (arith, e3, body_line)) (keeps b (within h inside) v r) in
      let kept_test : KeepsWithin w.line p = keeps t (within h inside) w r in
      let kept_bodies : KeepsWithin round.line (leap ⊕ q) =
      within_both round.line leap q (within_puts _ _) kept_body in
      let kept_tests : KeepsWithin (round.line + high (leap ⊕ q)) (p ⊕ again) =
      within_moved w.line (round.line + high (leap ⊕ q)) (p ⊕ again)
      (omega (arith, test_line, high-both leap q, e3, body_line))
      (within_both w.line p again kept_test (within_puts _ _)) in
      let kept_all : KeepsWithin round.line ((leap ⊕ q) ⊕ p ⊕ again) =
      within_both round.line (leap ⊕ q) (p ⊕ again) kept_bodies kept_tests in
      let kept_whole : KeepsWithin (n + high enter + high out) whole =
      within_moved round.line (n + high enter + high out) whole (omega (arith, e1, e2, begins))
      (within_both round.line ((leap ⊕ q) ⊕ p ⊕ again) load kept_all (within_puts _ _)) in
      let rest = right h n enter (out ⊕ whole) (within_puts _ _) code in
      let inner = moved h (n + high enter + high out) round.line whole (omega (arith, e1, e2, begins))
      (right h (n + high enter) out whole (within_puts _ _) rest) in
      let parts = left h round.line ((leap ⊕ q) ⊕ p ⊕ again) load (within_puts _ _) inner in
      let bodies = left h round.line (leap ⊕ q) (p ⊕ again) kept_tests parts in
      let tests = moved h (round.line + high (leap ⊕ q)) w.line (p ⊕ again)
      (omega (arith, test_line, high-both leap q, e3, body_line)) (right h round.line (leap ⊕ q) (p ⊕ again) kept_bodies parts) in
      let z = w.line + high p + 1 in
      let load_line = moved h (round.line + high ((leap ⊕ q) ⊕ p ⊕ again)) z load
      (omega (arith, high-both (leap ⊕ q) (p ⊕ again), high-both leap q, high-both p again, e3, e4, test_line, body_line))
      (right h round.line ((leap ⊕ q) ⊕ p ⊕ again) load kept_all inner) in
      record {
        loop = record {
          loop = inside;
          target = target;
          is = refl;
          value = refl;
          leads_out = leads (n + high enter) (behind s).line (past round whole).line (omega (arith, e1, line-behind s, here))
              (omega (arith, ends, high-both enter (out ⊕ whole), high-both out whole, e1, e2, line-past round whole, begins))
              (the_line h (n + high enter) (line.Jump (past round whole).line)
              (left h (n + high enter) out whole kept_whole rest));
          test_spot = w;
          body_spot = v;
          room = covers.0;
          test_covered = covers.1;
          body_covered = covers.2;
          test = left h w.line p again (within_puts _ _) tests;
          body = moved h (round.line + high leap) v.line q (omega (arith, e3, body_line))
              (right h round.line leap q (within_puts _ _) bodies);
          out = z;
          branches = inr (the_line h (w.line + high p) (line.JumpIf r v.line) (right h w.line p again kept_test tests), refl);
          back = inr test_line;
          load = the_line h z (line.Does (op.LoadNil r)) load_line;
          round = inr (subst (λ (i : ℕ). LineAt h round.line (line.Jump i)) (omega (arith, line-past v q, test_line))
              (the_line h round.line (line.Jump (past v q).line) (left h round.line leap q kept_body bodies)));
          stays = first_stays h round.line (leap ⊕ q) (omega (arith, high-both leap q, e3)) bodies;
          ends = omega (
            arith,
            ends,
            high-both enter (out ⊕ whole),
            high-both out whole,
            high-both ((leap ⊕ q) ⊕ p ⊕ again) load,
            high-both (leap ⊕ q) (p ⊕ again),
            high-both leap q,
            high-both p again,
            e1,
            e2,
            e3,
            e4,
            e5,
            begins,
            body_line,
            test_line,
          );
        };
        enters = the_line h n (line.Jump v.line)
            (left h n enter (out ⊕ whole)
            (within_both (n + high enter) out whole (within_puts _ _) kept_whole) code);
      }

module _ (g : Ground) (h : Site) (static : Static h) (ks : List Item) (m : source.Memory) (ls : List Level)
    (k : machine.Memory) (both : Common g h m (aligned k m)) where
  -- the test is about to be done, and the body
  pub at_test : (x : Rest) (r end : ℕ) (outer : Option Loop) (j : ℕ) (t b : CoreForm) (l : LoopAt h r j t b end)
      → m.place ≡ place_in h → InFrame g h k.lists ks end r outer
      → Related h (Run (perform j t) (part (loop_test j t b) ∷ ks) m) (state_at g h x l.test_spot.line (aligned k m))
  at_test x r end outer j t b l there next = (
    g,
    h,
    both,
    record {
      x = x;
      n = l.test_spot.line;
      r = r;
      is = refl;
      there = there;
      loop = l.loop;
      s = l.test_spot;
      here = refl;
      covered = l.test_covered;
      above = l.room.above;
      code = l.test;
      next = record {
        low = r;
        end = end;
        above = l.room.above;
        below = omega arith;
        behind = record { at = refl; loop = l; inside = refl; here = refl };
        outer = outer;
        inner = tt;
        next = next;
      };
    },
  )

  at_body : (x : Rest) (r end : ℕ) (outer : Option Loop) (j : ℕ) (t b : CoreForm) (l : LoopAt h r j t b end)
      → m.place ≡ place_in h → InFrame g h k.lists ks end r outer
      → Related h (Run (perform (j + span t) b) (part (loop_body j t b) ∷ ks) m) (state_at g h x l.body_spot.line (aligned k m))
  at_body x r end outer j t b l there next = (
    g,
    h,
    both,
    record {
      x = x;
      n = l.body_spot.line;
      r = r;
      is = refl;
      there = there;
      loop = l.loop;
      s = l.body_spot;
      here = refl;
      covered = l.body_covered;
      above = l.room.above;
      code = l.body;
      next = record {
        low = r;
        end = end;
        above = l.room.above;
        below = omega arith;
        behind = record { at = refl; loop = l; inside = refl; here = refl };
        outer = outer;
        inner = tt;
        next = next;
      };
    },
  )

  pub do_while : (j : ℕ) (first : Bool) (t b : CoreForm) (d : Doing g h j (while_form first t b) ks m.place ls k.lists)
      → Step h (Run (perform j (while_form first t b)) ks m) (state_at g h d.x d.n (aligned k m))
  unfolding do_form
  do_while j false t b d =
      let whole = loop_code false (λ c u i. gen c u i t) (λ c u i. gen c u i b) (within h d.loop) d.s d.r in
      let e = test_first h d.n d.r (d.n + high whole) j d.loop d.s t b d.here d.covered d.code refl in
      by_one h (Run (perform j (while_form false t b)) ks m) (state_at g h d.x d.n (aligned k m))
      (state_at g h d.x e.loop.test_spot.line (aligned k m))
      (going (perform j (while_form false t b)) ks m (frame (frame_at h d.x d.n) ∷ g.below) (aligned k m) refl)
      (jumped h d.x d.n e.loop.test_spot.line g.below (aligned k m) e.enters)
      (at_test d.x d.r (d.n + high whole) d.loop j t b e.loop d.there d.next)
  do_while j true t b d =
      let whole = loop_code true (λ c u i. gen c u i t) (λ c u i. gen c u i b) (within h d.loop) d.s d.r in
      let e = body_first h d.n d.r (d.n + high whole) j d.loop d.s t b d.here d.covered d.code refl in
      by_one h (Run (perform j (while_form true t b)) ks m) (state_at g h d.x d.n (aligned k m))
      (state_at g h d.x e.loop.body_spot.line (aligned k m))
      (going (perform j (while_form true t b)) ks m (frame (frame_at h d.x d.n) ∷ g.below) (aligned k m) refl)
      (jumped h d.x d.n e.loop.body_spot.line g.below (aligned k m) e.enters)
      (at_body d.x d.r (d.n + high whole) d.loop j t b e.loop d.there d.next)

  -- where the test leads to
  tested_to : (v : Value) (x : Rest) (r end j : ℕ) (t b : CoreForm) (l : LoopAt h r j t b end)
      → slot_at k.lists h.list r ≡ V v → (u : Bool) → is_true v ≡ u
      → turn h.program (state_at g h x (l.test_spot.line + high (gen (within h l.loop) l.test_spot r t)) (aligned k m))
      ≡ state_at g h x (if u then l.body_spot.line else l.out) (aligned k m)
  tested_to v x r end j t b l stands u e = by l.branches u e
    where
      n : ℕ
      n = l.test_spot.line + high (gen (within h l.loop) l.test_spot r t)

      by : (LineAt h n (line.JumpNot r l.out) × (l.body_spot.line ≡ n + 1))
          ⊎ (LineAt h n (line.JumpIf r l.body_spot.line) × (l.out ≡ n + 1)) → (u : Bool) → is_true v ≡ u
          → turn h.program (state_at g h x n (aligned k m))
          ≡ state_at g h x (if u then l.body_spot.line else l.out) (aligned k m)
      by (inl q) true e =
          jumped_not g h x n r l.out (aligned k m) v true q.0 stands e
          ∙ ap (λ (i : ℕ). state_at g h x i (aligned k m)) (sym q.1)
      by (inl q) false e = jumped_not g h x n r l.out (aligned k m) v false q.0 stands e
      by (inr q) true e = jumped_if g h x n r l.body_spot.line (aligned k m) v true q.0 stands e
      by (inr q) false e =
          jumped_if g h x n r l.body_spot.line (aligned k m) v false q.0 stands e
          ∙ ap (λ (i : ℕ). state_at g h x i (aligned k m)) (sym q.1)

  test_by : (v : Value) (j : ℕ) (t b : CoreForm) (d : GivesIn g h v (part (loop_test j t b) ∷ ks) m.place ls k.lists)
      → (u : Bool) → is_true v ≡ u
      → Step h (Run (give v) (part (loop_test j t b) ∷ ks) m) (state_at g h d.x d.n (aligned k m))
  unfolding do_give give_part
  test_by v j t b d true e =
      let l = d.next.behind.loop in
      let r = d.next.low in
      let stands = subst (λ (i : ℕ). slot_at k.lists h.list i ≡ V v) (sym d.next.behind.at) d.stands in
      by_one h (Run (give v) (part (loop_test j t b) ∷ ks) m) (state_at g h d.x d.n (aligned k m))
      (state_at g h d.x l.body_spot.line (aligned k m))
      (going (give v) (part (loop_test j t b) ∷ ks) m (frame (frame_at h d.x d.n) ∷ g.below) (aligned k m) refl)
      (ap (λ (i : ℕ). turn h.program (state_at g h d.x i (aligned k m))) (sym d.next.behind.here)
      ∙ tested_to v d.x r d.next.end j t b l stands true e)
      (subst (λ (u : Bool). Related h (turn_loop u j t b ks m) (state_at g h d.x l.body_spot.line (aligned k m))) (sym e)
      (at_body d.x r d.next.end d.next.outer j t b l d.there d.next.next))
  test_by v j t b d false e =
      let l = d.next.behind.loop in
      let r = d.next.low in
      let o = op.LoadNil r in
      let stands = subst (λ (i : ℕ). slot_at k.lists h.list i ≡ V v) (sym d.next.behind.at) d.stands in
      by_two h (Run (give v) (part (loop_test j t b) ∷ ks) m) (state_at g h d.x d.n (aligned k m))
      (state_at g h d.x l.out (aligned k m)) (state_at g h d.x (l.out + 1) (written h (aligned k m) r Nil))
      (going (give v) (part (loop_test j t b) ∷ ks) m (frame (frame_at h d.x d.n) ∷ g.below) (aligned k m) refl)
      (ap (λ (i : ℕ). turn h.program (state_at g h d.x i (aligned k m))) (sym d.next.behind.here)
      ∙ tested_to v d.x r d.next.end j t b l stands false e)
      (going (give v) (part (loop_test j t b) ∷ ks) m (frame (frame_at h d.x l.out) ∷ g.below) (aligned k m) refl)
      (turned h d.x l.out o g.below (aligned k m) l.load)
      (subst (λ (u : Bool). Related h (turn_loop u j t b ks m)
      (state_at g h d.x (l.out + 1) (written h (aligned k m) r Nil))) (sym e)
      (writes g h static Nil ks m d.x (aligned k m) (l.out + 1) r d.next.outer both d.there l.room
      (subst (λ (i : ℕ). InFrame g h k.lists ks i r d.next.outer) (sym l.ends) d.next.next)))

  pub give_loop_test : (v : Value) (j : ℕ) (t b : CoreForm)
      (d : GivesIn g h v (part (loop_test j t b) ∷ ks) m.place ls k.lists)
      → Step h (Run (give v) (part (loop_test j t b) ∷ ks) m) (state_at g h d.x d.n (aligned k m))
  give_loop_test v j t b d = test_by v j t b d (is_true v) refl

  pub give_loop_body : (v : Value) (j : ℕ) (t b : CoreForm)
      (d : GivesIn g h v (part (loop_body j t b) ∷ ks) m.place ls k.lists)
      → Step h (Run (give v) (part (loop_body j t b) ∷ ks) m) (state_at g h d.x d.n (aligned k m))
  unfolding do_give give_part
  give_loop_body v j t b d = by d.next.behind.loop.back
    where
      l : LoopAt h d.next.low j t b d.next.end
      l = d.next.behind.loop

      n : ℕ
      n = l.body_spot.line + high (gen (within h l.loop) l.body_spot d.next.low b)

      by : LineAt h n (line.Jump l.test_spot.line) ⊎ (l.test_spot.line ≡ n)
          → Step h (Run (give v) (part (loop_body j t b) ∷ ks) m) (state_at g h d.x d.n (aligned k m))
      by (inl q) =
          by_one h (Run (give v) (part (loop_body j t b) ∷ ks) m) (state_at g h d.x d.n (aligned k m))
          (state_at g h d.x l.test_spot.line (aligned k m))
          (going (give v) (part (loop_body j t b) ∷ ks) m (frame (frame_at h d.x d.n) ∷ g.below) (aligned k m) refl)
          (ap (λ (i : ℕ). turn h.program (state_at g h d.x i (aligned k m))) (sym d.next.behind.here)
          ∙ jumped h d.x n l.test_spot.line g.below (aligned k m) q)
          (at_test d.x d.next.low d.next.end d.next.outer j t b l d.there d.next.next)
      by (inr q) =
          by_none h (Run (give v) (part (loop_body j t b) ∷ ks) m) (state_at g h d.x d.n (aligned k m)) (omega arith)
          (subst (λ (i : ℕ). Related h (Run (perform j t) (part (loop_test j t b) ∷ ks) m) (state_at g h d.x i (aligned k m)))
          (q ∙ d.next.behind.here) (at_test d.x d.next.low d.next.end d.next.outer j t b l d.there d.next.next))
