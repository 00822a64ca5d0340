-- How a transition is matched by no turn, one turn and two.
use Rattle.std.proofs.Common.{◌≡◌, ◌⊎◌, ℕ, zero, suc, ◌+◌, ◌<◌, List, [], ◌∷◌, ◌++◌, sym, ap, ◌∙◌, subst, inl, arith, Option, length}
use Rattle.path_value.specs.declared.value.Value.{Value}
use Rattle.rite_code.specs.Code.{Program}
use Rattle.rite_code.specs.declared.operation.Operation.{Operation}
use Rattle.rite_code.specs.Instruction.{Instruction}
use Rattle.rite_code.specs.Shape.{size_of}
use Rattle.path_eval.specs.Seen.{Going}
use Rattle.path_eval.specs.Steps.{times}
use Rattle.path_eval.specs.Configuration as source
use Rattle.path_eval.specs.Configuration.{Source, Part, Item, inside, Focus, give, World, Config, Run, seen}
use Rattle.path_eval.specs.Transition.{go}
use Rattle.path_eval.specs.Measure.{measure}
use Rattle.path_turns.specs.State.{Slot, value, Registers, slot_at, Frame, Memory, State, On, shown}
use Rattle.path_turns.specs.Turn.{turn, turn_by, act, goto, write}
use Rattle.code_generator.proofs.Stands.{Around, Ins, Room, spared, kept}
use Rattle.code_generator.proofs.Relation.{Holds, Related, Focused, Given, Awaits, Same, Step}
use Rattle.code_generator.proofs.Registers.{slot_same, same_above}
use Rattle.code_generator.proofs.Keeping.{awaits_fits, awaits_keeps, keeps_above, Keeps}

-- one turn, by the instruction that stands there
pub turned : (p : Program) (o : Operation) (f : Frame) (fs : List Frame) (m : Memory) → Ins p f.body f.pc o
    → turn p (On f fs m) ≡ act p o (f.pc + size_of o) f fs m
turned p o f fs m ins = ap (λ (i : Option (Instruction × ℕ)). turn_by p i f fs m) ins.here

pub by_none : (q : Source) (p : Program) (c : Config) (s : State) → measure (go q c) < measure c
    → Related q p (go q c) s → Step q p c s
by_none q p c s lt r = record {
  turns = 0;
  few = omega arith;
  related = r;
  between = λ j l. absurd (omega arith);
  falls = λ e. lt;
}

pub by_one : (q : Source) (p : Program) (c : Config) (s t : State) → shown s ≡ seen c → turn p s ≡ t
    → Related q p (go q c) t → Step q p c s
by_one q p c s t e one r = record {
  turns = 1;
  few = omega arith;
  related = subst (Related q p (go q c)) (sym one) r;
  between = between;
  falls = λ e. absurd (omega arith);
}
  where
    between : (j : ℕ) → j < 1 → (shown (times j (turn p) s) ≡ seen c) ⊎ (shown (times j (turn p) s) ≡ seen (go q c))
    between zero l = inl e
    between (suc j) l = absurd (omega arith)

pub by_two : (q : Source) (p : Program) (c : Config) (s t u : State) → shown s ≡ seen c → turn p s ≡ t
    → shown t ≡ seen c → turn p t ≡ u → Related q p (go q c) u → Step q p c s
by_two q p c s t u e one e' two r = record {
  turns = 2;
  few = omega arith;
  related = subst (Related q p (go q c)) (sym (ap (turn p) one ∙ two)) r;
  between = between;
  falls = λ e. absurd (omega arith);
}
  where
    between : (j : ℕ) → j < 2 → (shown (times j (turn p) s) ≡ seen c) ⊎ (shown (times j (turn p) s) ≡ seen (go q c))
    between zero l = inl e
    between (suc zero) l = inl (ap shown one ∙ e')
    between (suc (suc j)) l = absurd (omega arith)

-- the output is the same
pub going : {q : Source} {w : World} {n : ℕ} {m : Memory} → Same q w n m → Going m.out ≡ Going w.out
going s = ap Going (sym s.out)

-- the value of a form is written to its register, and the items go on
pub gives : (q : Source) (p : Program) (v : Value) (ks : List Item) (w : World) (f : Frame) (fs : List Frame)
    (m : Memory) (h : Around) (r next end : ℕ) → Same q w f.list m → h.names ≡ (source.body_at q f.body).names
    → Room p f.body r → Awaits q p m.lists ks h f.body f.list fs end r → next ≡ end
    → Focused q p (give v) ks w (goto f next) fs (write m f.list r v)
gives q p v ks w f fs m h r next end same names room a e =
    let fits = awaits_fits q p m.lists ks h f.body f.list fs end r a in
    record {
      same = same_above q p w f.body f.list m r (value v) fits room.above same;
      h = h;
      names = names;
      r = r;
      stands = slot_same m.lists f.list r (value v) fits.present (omega (arith, fits.long, room.within));
      next = subst (λ (n : ℕ). Awaits q p (write m f.list r v).lists ks h f.body f.list fs n r) (sym e)
          (awaits_keeps q p m.lists (write m f.list r v).lists ks h f.body f.list fs end r
          (keeps_above q p m.lists f.body f.list r r (value v) fits.present (omega arith)) a);
    }

-- the value stays in the register of its form, and the items go on
pub keeps_value : (q : Source) (p : Program) (v : Value) (ks : List Item) (w : World) (f : Frame) (fs : List Frame)
    (m m' : Memory) (h : Around) (r next end : ℕ) → Same q w f.list m' → h.names ≡ (source.body_at q f.body).names
    → slot_at m'.lists f.list r ≡ value v → Keeps q p m.lists m'.lists f.body f.list r
    → Awaits q p m.lists ks h f.body f.list fs end r → next ≡ end → Focused q p (give v) ks w (goto f next) fs m'
keeps_value q p v ks w f fs m m' h r next end same names stands keep a e = record {
  same = same;
  h = h;
  names = names;
  r = r;
  stands = stands;
  next = subst (λ (n : ℕ). Awaits q p m'.lists ks h f.body f.list fs n r) (sym e)
      (awaits_keeps q p m.lists m'.lists ks h f.body f.list fs end r keep a);
}

holds_more : (ls : List Registers) (n low r : ℕ) (vs : List Slot) (v : Slot) → Holds ls n low vs → low + length vs ≡ r
    → slot_at ls n r ≡ v → Holds ls n low (vs ++ v ∷ [])
holds_more ls n low r [] v h e q = let e' : low ≡ r = omega arith in (ap (slot_at ls n) e' ∙ q, tt)
holds_more ls n low r (u ∷ vs) v h e q = (h.0, holds_more ls n (low + 1) r vs v h.1 (omega arith) q)

-- a value given to a part, with the values that the part kept
pub given_of : (q : Source) (p : Program) (v : Value) (k : Part) (ks : List Item) (w : World) (f : Frame)
    (fs : List Frame) (m : Memory) → Focused q p (give v) (inside k ∷ ks) w f fs m → Given q p v k ks w f fs m
given_of q p v k ks w f fs m r =
    let a = r.next in
    record {
      same = r.same;
      h = r.h;
      names = r.names;
      r = a.low;
      above = a.locals_below;
      held = holds_more m.lists f.list (a.low + spared k) r.r (kept k) (value v) a.held a.kept_below r.stands;
      end = a.end;
      behind = a.behind;
      next = a.next;
      fits = awaits_fits q p m.lists ks r.h f.body f.list fs a.end a.low a.next;
    }
