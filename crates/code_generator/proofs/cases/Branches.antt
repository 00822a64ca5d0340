-- Branches.
use Rattle.std.proofs.Common.{◌≡◌, ◌⊎◌, ℕ, ◌+◌, ℤ, List, ◌∷◌, refl, sym, ap, ◌∙◌, subst, inl, inr, arith, Bool, true, false, if◌then◌else◌}
use Rattle.path_core.specs.Form.{Form, cond}
use Rattle.path_value.specs.Value.{is_true}
use Rattle.path_value.specs.declared.value.Value.{Value}
use Rattle.rite_code.specs.Code.{Program}
use Rattle.rite_code.specs.declared.operation.Operation.TheVariants.{Jmp, JmpNot}
use Rattle.path_eval.specs.Configuration.{Source, branch, chosen, Item, inside, perform, give, World, Run}
use Rattle.path_eval.specs.Transition.{choose}
use Rattle.path_turns.specs.State.{Slot, value, read, slot_at, Frame, Memory, On}
use Rattle.path_turns.specs.Turn.{turn, goto, target}
use Rattle.code_generator.proofs.Stands.{Ins}
use Rattle.code_generator.proofs.Relation.{Related, Focused, Given, Awaits, Step}
use Rattle.code_generator.proofs.Matching.{turned, by_none, by_one, going}

pub do_cond : (q : Source) (p : Program) (t a b : Form) (ks : List Item) (w : World) (f : Frame) (fs : List Frame)
    (m : Memory) → Focused q p (perform (cond t a b)) ks w f fs m
    → Step q p (Run (perform (cond t a b)) ks w) (On f fs m)
do_cond q p t a b ks w f fs m r =
    by_none q p _ _ (omega arith) (record {
      same = r.same;
      h = r.h;
      names = r.names;
      r = r.r;
      above = r.above;
      end = r.code.tested;
      code = r.code.test;
      next = record {
        low = r.r;
        kept_below = omega arith;
        locals_below = r.above;
        held = tt;
        end = r.end;
        behind = record {
          d = r.code.d;
          skip = r.code.skip;
          mid = r.code.mid;
          first = r.code.first;
          d' = r.code.d';
          jump = r.code.jump;
          aim = r.code.aim;
          second = r.code.second;
          aim' = r.code.aim';
        };
        next = r.next;
      };
    })

branch_by : (q : Source) (p : Program) (v : Value) (a b : Form) (ks : List Item) (w : World) (f : Frame)
    (fs : List Frame) (m : Memory) (r : Given q p v (branch a b) ks w f fs m) (o : Bool) → is_true v ≡ o
    → turn p (On f fs m) ≡ On (goto f (if o then f.pc + 4 else target (f.pc + 4) r.behind.d)) fs m
    → Step q p (Run (give v) (inside (branch a b) ∷ ks) w) (On f fs m)
branch_by q p v a b ks w f fs m r true e t =
    by_one q p _ _ _ (going r.same) t (subst (λ (o : Bool). Related q p (choose o a b ks w)
    (On (goto f (f.pc + 4)) fs m)) (sym e) (record {
      same = r.same;
      h = r.h;
      names = r.names;
      r = r.r;
      above = r.above;
      end = r.behind.mid;
      code = r.behind.first;
      next = record {
        low = r.r;
        kept_below = omega arith;
        locals_below = r.above;
        held = tt;
        end = r.end;
        behind =
            inr (record { d = r.behind.d'; jump = r.behind.jump; aim = r.behind.aim' });
        next = r.next;
      };
    }))
branch_by q p v a b ks w f fs m r false e t =
    by_one q p _ _ _ (going r.same) (t ∙ ap (λ (n : ℕ). On (goto f n) fs m) r.behind.aim)
    (subst (λ (o : Bool). Related q p (choose o a b ks w) (On (goto f (r.behind.mid + 3)) fs m)) (sym e) (record {
      same = r.same;
      h = r.h;
      names = r.names;
      r = r.r;
      above = r.above;
      end = r.end;
      code = r.behind.second;
      next = record {
        low = r.r;
        kept_below = omega arith;
        locals_below = r.above;
        held = tt;
        end = r.end;
        behind =
            inl refl;
        next = r.next;
      };
    }))

pub give_branch : (q : Source) (p : Program) (v : Value) (a b : Form) (ks : List Item) (w : World) (f : Frame)
    (fs : List Frame) (m : Memory) → Given q p v (branch a b) ks w f fs m
    → Step q p (Run (give v) (inside (branch a b) ∷ ks) w) (On f fs m)
give_branch q p v a b ks w f fs m r =
    let e : r.r + 0 ≡ r.r = omega arith in
    let stands : slot_at m.lists f.list r.r ≡ value v =
    subst (λ (n : ℕ). slot_at m.lists f.list n ≡ value v) e r.held.0 in
    branch_by q p v a b ks w f fs m r (is_true v) refl
    (turned p (JmpNot r.r r.behind.d) f fs m r.behind.skip
    ∙ ap (λ (u : Slot). On (goto f (if is_true (read u) then f.pc + 4 else target (f.pc + 4) r.behind.d)) fs m)
    stands)

pub give_chosen : (q : Source) (p : Program) (v : Value) (ks : List Item) (w : World) (f : Frame) (fs : List Frame)
    (m : Memory) → Given q p v chosen ks w f fs m → Step q p (Run (give v) (inside chosen ∷ ks) w) (On f fs m)
give_chosen q p v ks w f fs m r = by_way r.behind
  where
    stands : slot_at m.lists f.list r.r ≡ value v
    stands = let e : r.r + 0 ≡ r.r = omega arith in subst (λ (n : ℕ). slot_at m.lists f.list n ≡ value v) e r.held.0

    by_way : (f.pc ≡ r.end) ⊎ record { d : ℤ; jump : Ins p f.body f.pc (Jmp d); aim : target (f.pc + 3) d ≡ r.end }
        → Step q p (Run (give v) (inside chosen ∷ ks) w) (On f fs m)
    by_way (inl e) = by_none q p _ _ (omega arith)
        (record {
          same = r.same;
          h = r.h;
          names = r.names;
          r = r.r;
          stands = stands;
          next =
              subst (λ (n : ℕ). Awaits q p m.lists ks r.h f.body f.list fs n r.r) (sym e) r.next;
        })
    by_way (inr j) = by_one q p _ _ _ (going r.same) (turned p (Jmp j.d) f fs m j.jump)
        (record {
          same = r.same;
          h = r.h;
          names = r.names;
          r = r.r;
          stands = stands;
          next =
              subst (λ (n : ℕ). Awaits q p m.lists ks r.h f.body f.list fs n r.r) (sym j.aim) r.next;
        })
