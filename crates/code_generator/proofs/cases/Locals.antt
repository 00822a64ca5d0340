-- Reading and assigning a local variable.
use Rattle.std.proofs.Common.{◌≡◌, ℕ, ◌+◌, ◌<◌, List, ◌∷◌, sym, ap, ◌∙◌, subst, arith}
use Rattle.path_core.specs.Form.{Name, Form, local, set_local}
use Rattle.path_value.specs.declared.value.Value.{Value}
use Rattle.rite_code.specs.Code.{Program}
use Rattle.rite_code.specs.declared.operation.Operation.TheVariants.{Move}
use Rattle.path_eval.specs.Configuration as source
use Rattle.path_eval.specs.Configuration.{Source, Part, operands, rest, branch, chosen, loop_test, loop_body, assign, Item, inside, activation, Exit, raise, Focus, perform, give, travel, World, Config, Run, Halt, named, local_of, with_local, seen}
use Rattle.path_turns.specs.State.{Slot, value, read, body_at, slot_at, value_at, Frame, Memory, On}
use Rattle.path_turns.specs.Turn.{goto, write}
use Rattle.code_generator.specs.Gen.{register_of}
use Rattle.code_generator.proofs.Stands.{Around}
use Rattle.code_generator.proofs.Relation.{Focused, Given, Step}
use Rattle.code_generator.proofs.Registers.{slot_other, named_is, same_local}
use Rattle.code_generator.proofs.Keeping.{awaits_fits, keeps_local}
use Rattle.code_generator.proofs.Matching.{turned, by_none, by_one, going, gives, keeps_value}

-- a register of the surroundings is the register of the names of the body
local_register : (q : Source) (b : ℕ) (h : Around) (x : Name) → h.names ≡ (source.body_at q b).names
    → register_of h.names x ≡ register_of (source.body_at q b).names x
local_register q b h x e = ap (λ (ns : List Name). register_of ns x) e

pub do_local : (q : Source) (p : Program) (x : Name) (ks : List Item) (w : World) (f : Frame) (fs : List Frame)
    (m : Memory) → Focused q p (perform (local x)) ks w f fs m → Step q p (Run (perform (local x)) ks w) (On f fs m)
do_local q p x ks w f fs m r =
    let fits = awaits_fits q p m.lists ks r.h f.body f.list fs r.end r.r r.next in
    let reg = local_register q f.body r.h x r.names in
    let e = named_is q p w f.body f.list m x fits (omega (arith, reg, r.code.is_local)) r.same in
    by_one q p _ _ _ (going r.same)
    (turned p (Move r.r (register_of r.h.names x)) f fs m r.code.move
    ∙ ap (λ (n : ℕ). On (goto f (f.pc + 3)) fs (write m f.list r.r (value_at m.lists f.list n))) reg
    ∙ ap (λ (v : Value). On (goto f (f.pc + 3)) fs (write m f.list r.r v)) (sym e))
    (gives q p (named q w x) ks w f fs m r.h r.r (f.pc + 3) r.end r.same r.names r.code.room r.next r.code.ends)

pub do_set_local : (q : Source) (p : Program) (x : Name) (e : Form) (ks : List Item) (w : World) (f : Frame)
    (fs : List Frame) (m : Memory) → Focused q p (perform (set_local x e)) ks w f fs m
    → Step q p (Run (perform (set_local x e)) ks w) (On f fs m)
do_set_local q p x e ks w f fs m r =
    by_none q p _ _ (omega arith) (record {
      same = r.same;
      h = r.h;
      names = r.names;
      r = r.r;
      above = r.above;
      end = r.code.mid;
      code = r.code.assigned;
      next = record {
        low = r.r;
        kept_below = omega arith;
        locals_below = r.above;
        held = tt;
        end = r.end;
        behind =
            record { move = r.code.move; is_local = r.code.is_local; ends = r.code.ends };
        next = r.next;
      };
    })

pub give_assign : (q : Source) (p : Program) (v : Value) (x : Name) (ks : List Item) (w : World) (f : Frame)
    (fs : List Frame) (m : Memory) → Given q p v (assign x) ks w f fs m
    → Step q p (Run (give v) (inside (assign x) ∷ ks) w) (On f fs m)
give_assign q p v x ks w f fs m r =
    let reg = local_register q f.body r.h x r.names in
    let own = register_of (source.body_at q f.body).names x in
    let there : own < (body_at p f.body).locals = omega (arith, reg, r.behind.is_local) in
    let zero_off : r.r + 0 ≡ r.r = omega arith in
    let stands : slot_at m.lists f.list r.r ≡ value v =
    subst (λ (n : ℕ). slot_at m.lists f.list n ≡ value v) zero_off r.held.0 in
    by_one q p _ _ _ (going r.same)
    (turned p (Move (register_of r.h.names x) r.r) f fs m r.behind.move
    ∙ ap (λ (n : ℕ). On (goto f (f.pc + 3)) fs (write m f.list n (value_at m.lists f.list r.r))) reg
    ∙ ap (λ (u : Slot). On (goto f (f.pc + 3)) fs (write m f.list own (read u))) stands)
    (keeps_value q p v ks (with_local w (local_of q w x) v) f fs m (write m f.list own v) r.h r.r (f.pc + 3) r.end
    (same_local q p w f.body f.list m x v r.fits there r.same) r.names
    (slot_other m.lists f.list own r.r (value v) r.fits.present (omega (arith, r.above, there)) ∙ stands)
    (keeps_local q p m.lists f.body f.list r.r own (value v) r.fits.present there) r.next r.behind.ends)
