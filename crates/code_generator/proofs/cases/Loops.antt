-- Loops.
use Rattle.std.proofs.Common.{◌≡◌, ℕ, ◌+◌, List, ◌∷◌, refl, sym, ap, ◌∙◌, subst, arith, Bool, true, false, if◌then◌else◌}
use Rattle.path_core.specs.Form.{Form, while_form}
use Rattle.path_value.specs.Value.{is_true}
use Rattle.path_value.specs.declared.value.Value.{Value}
use Rattle.path_value.specs.declared.value.Value.TheVariants.{Nil}
use Rattle.rite_code.specs.Code.{Program}
use Rattle.rite_code.specs.declared.operation.Operation.TheVariants.{LoadNil, Jmp, JmpNot}
use Rattle.path_eval.specs.Configuration.{Source, loop_test, loop_body, Item, inside, perform, give, World, Run}
use Rattle.path_eval.specs.Transition.{turn_loop}
use Rattle.path_turns.specs.State.{Slot, value, read, slot_at, Frame, Memory, On}
use Rattle.path_turns.specs.Turn.{turn, goto, write, target}
use Rattle.code_generator.proofs.Stands.{Ins}
use Rattle.code_generator.proofs.Relation.{Related, Focused, Given, Step}
use Rattle.code_generator.proofs.Matching.{turned, by_none, by_one, by_two, going, gives}

pub do_while : (q : Source) (p : Program) (t b : Form) (ks : List Item) (w : World) (f : Frame) (fs : List Frame)
    (m : Memory) → Focused q p (perform (while_form t b)) ks w f fs m
    → Step q p (Run (perform (while_form t b)) ks w) (On f fs m)
do_while q p t b ks w f fs m r =
    by_none q p _ _ (omega arith) (record {
      same = r.same;
      h = r.h;
      names = r.names;
      r = r.r;
      above = r.above;
      end = r.code.tested;
      code = r.code.test;
      next = record {
        low = r.r;
        kept_below = omega arith;
        locals_below = r.above;
        held = tt;
        end = r.end;
        behind =
            record { start = f.pc; loop = r.code; is = refl };
        next = r.next;
      };
    })

loop_by : (q : Source) (p : Program) (v : Value) (t b : Form) (ks : List Item) (w : World) (f : Frame) (fs : List Frame)
    (m : Memory) (r : Given q p v (loop_test t b) ks w f fs m) (o : Bool) → is_true v ≡ o
    → turn p (On f fs m) ≡ On (goto f (if o then r.behind.loop.tested + 4 else target (r.behind.loop.tested + 4)
    r.behind.loop.d)) fs m → Step q p (Run (give v) (inside (loop_test t b) ∷ ks) w) (On f fs m)
loop_by q p v t b ks w f fs m r true e turns =
    let l = r.behind.loop in
    by_one q p _ _ _ (going r.same) turns (subst
    (λ (o : Bool). Related q p (turn_loop o t b ks w) (On (goto f (l.tested + 4)) fs m)) (sym e) (record {
      same = r.same;
      h = r.h;
      names = r.names;
      r = r.r;
      above = r.above;
      end = l.mid;
      code = l.body;
      next = record {
        low = r.r;
        kept_below = omega arith;
        locals_below = r.above;
        held = tt;
        end = r.end;
        behind =
            record { start = r.behind.start; loop = l; is = refl };
        next = r.next;
      };
    }))
loop_by q p v t b ks w f fs m r false e turns =
    let l = r.behind.loop in
    by_two q p _ _ _ _ (going r.same) (turns ∙ ap (λ (n : ℕ). On (goto f n) fs m) l.aim) (going r.same)
    (turned p (LoadNil r.r) (goto f (l.mid + 3)) fs m l.load)
    (subst (λ (o : Bool). Related q p (turn_loop o t b ks w) (On (goto f (l.mid + 3 + 2)) fs (write m f.list r.r Nil)))
    (sym e) (gives q p Nil ks w f fs m r.h r.r (l.mid + 3 + 2) r.end r.same r.names l.room r.next l.ends))

pub give_test : (q : Source) (p : Program) (v : Value) (t b : Form) (ks : List Item) (w : World) (f : Frame)
    (fs : List Frame) (m : Memory) → Given q p v (loop_test t b) ks w f fs m
    → Step q p (Run (give v) (inside (loop_test t b) ∷ ks) w) (On f fs m)
give_test q p v t b ks w f fs m r =
    let l = r.behind.loop in
    let e : r.r + 0 ≡ r.r = omega arith in
    let stands : slot_at m.lists f.list r.r ≡ value v =
    subst (λ (n : ℕ). slot_at m.lists f.list n ≡ value v) e r.held.0 in
    loop_by q p v t b ks w f fs m r (is_true v) refl
    (turned p (JmpNot r.r l.d) f fs m (subst (λ (n : ℕ). Ins p f.body n (JmpNot r.r l.d)) r.behind.is l.skip)
    ∙ ap (λ (u : Slot). On (goto f (if is_true (read u) then f.pc + 4 else target (f.pc + 4) l.d)) fs m) stands
    ∙ ap (λ (n : ℕ). On (goto f (if is_true v then n + 4 else target (n + 4) l.d)) fs m) (sym r.behind.is))

pub give_body : (q : Source) (p : Program) (v : Value) (t b : Form) (ks : List Item) (w : World) (f : Frame)
    (fs : List Frame) (m : Memory) → Given q p v (loop_body t b) ks w f fs m
    → Step q p (Run (give v) (inside (loop_body t b) ∷ ks) w) (On f fs m)
give_body q p v t b ks w f fs m r =
    let l = r.behind.loop in
    by_one q p _ _ _ (going r.same) (turned p (Jmp l.d') f fs m
    (subst (λ (n : ℕ). Ins p f.body n (Jmp l.d')) r.behind.is l.jump)
    ∙ ap (λ (n : ℕ). On (goto f (target (n + 3) l.d')) fs m) (sym r.behind.is)
    ∙ ap (λ (n : ℕ). On (goto f n) fs m) l.back)
    (record {
      same = r.same;
      h = r.h;
      names = r.names;
      r = r.r;
      above = r.above;
      end = l.tested;
      code = l.test;
      next = record {
        low = r.r;
        kept_below = omega arith;
        locals_below = r.above;
        held = tt;
        end = r.end;
        behind =
            record { start = r.behind.start; loop = l; is = refl };
        next = r.next;
      };
    })
