-- Sequences.
use Rattle.std.proofs.Common.{◌≡◌, ℕ, ◌+◌, List, ◌∷◌, sym, subst, arith}
use Rattle.path_core.specs.Form.{seq, Forms, none, more}
use Rattle.path_value.specs.declared.value.Value.{Value}
use Rattle.path_value.specs.declared.value.Value.TheVariants.{Nil}
use Rattle.rite_code.specs.Code.{Program}
use Rattle.rite_code.specs.declared.operation.Operation.TheVariants.{LoadNil}
use Rattle.path_eval.specs.Configuration.{Source, rest, Item, inside, perform, give, World, Run}
use Rattle.path_turns.specs.State.{value, slot_at, Frame, Memory, On}
use Rattle.code_generator.proofs.Relation.{Focused, Given, Awaits, Step}
use Rattle.code_generator.proofs.Matching.{turned, by_none, by_one, going, gives}

pub do_seq : (q : Source) (p : Program) (es : Forms) (ks : List Item) (w : World) (f : Frame) (fs : List Frame)
    (m : Memory) → Focused q p (perform (seq es)) ks w f fs m → Step q p (Run (perform (seq es)) ks w) (On f fs m)
do_seq q p none ks w f fs m r =
    by_one q p _ _ _ (going r.same) (turned p (LoadNil r.r) f fs m r.code.load)
    (gives q p Nil ks w f fs m r.h r.r (f.pc + 2) r.end r.same r.names r.code.room r.next r.code.ends)
do_seq q p (more e es) ks w f fs m r =
    by_none q p _ _ (omega arith) (record {
      same = r.same;
      h = r.h;
      names = r.names;
      r = r.r;
      above = r.above;
      end = r.code.mid;
      code = r.code.first;
      next = record {
        low = r.r;
        kept_below = omega arith;
        locals_below = r.above;
        held = tt;
        end = r.end;
        behind =
            r.code.others;
        next = r.next;
      };
    })

pub give_rest : (q : Source) (p : Program) (v : Value) (es : Forms) (ks : List Item) (w : World) (f : Frame)
    (fs : List Frame) (m : Memory) → Given q p v (rest es) ks w f fs m
    → Step q p (Run (give v) (inside (rest es) ∷ ks) w) (On f fs m)
give_rest q p v none ks w f fs m r =
    let e : r.r + 0 ≡ r.r = omega arith in
    by_none q p _ _ (omega arith) (record {
      same = r.same;
      h = r.h;
      names = r.names;
      r = r.r;
      stands = subst (λ (n : ℕ). slot_at m.lists f.list n ≡ value v) e r.held.0;
      next = subst (λ (n : ℕ). Awaits q p m.lists ks r.h f.body f.list fs n r.r) (sym r.behind) r.next;
    })
give_rest q p v (more e es) ks w f fs m r =
    by_none q p _ _ (omega arith) (record {
      same = r.same;
      h = r.h;
      names = r.names;
      r = r.r;
      above = r.above;
      end = r.behind.mid;
      code = r.behind.first;
      next = record {
        low = r.r;
        kept_below = omega arith;
        locals_below = r.above;
        held = tt;
        end = r.end;
        behind =
            r.behind.others;
        next = r.next;
      };
    })
