-- What a literal gathers into: an object in a register, which an instruction with the value behind it changes.
use Rattle.std.proofs.Common.{◌≡◌, ℕ, List, arith}
use Rattle.rb_value.specs.declared.value.Value.{Value}
use Rattle.rb_value.specs.declared.exit.Slot.TheVariants.{V}
use Rattle.std.specs.Prelude.{Option}
use Rattle.gen_forms.specs.declared.context.Loop.{Loop}
use Rattle.def_calls.specs.World.{World}
use Rattle.def_eval.specs.Configuration as source
use Rattle.def_eval.specs.Configuration.{Item}
use Rattle.def_machine.specs.State as machine
use Rattle.def_machine.specs.State.{slot_at}
use Rattle.step_laws.specs.Site.{Site, Room}
use Rattle.step_laws.specs.Behind.{Static}
use Rattle.step_laws.specs.Relation.{Ground, InFrame, Common}
use Rattle.step_laws.specs.Calm.{Grows}
use Rattle.step_laws.proofs.Registers.{slot_same, keeps_above}
use Rattle.step_laws.proofs.Untouched.{put_only, frame_kept, same_here, written_here}
use Rattle.step_laws.proofs.Matching.{written}
use Rattle.step_laws.proofs.Literals.{aligned, with_worlds}

-- what holds after a value is written to register low, in another world
pub record Kept (g : Ground) (h : Site) (ks : List Item) (m : source.Memory) (k : machine.Memory) (w : World) (v : Value)
    (end low : ℕ) (around : Option Loop) : Type 0 where
  pub common : Common g h (source.with_world m w) (written h (machine.with_world k w) low v)
  pub held : slot_at (written h (machine.with_world k w) low v).lists h.list low ≡ V v
  pub next : InFrame g h (written h (machine.with_world k w) low v).lists ks end low around

pub kept : (g : Ground) (h : Site) → Static h → (ks : List Item) (m : source.Memory) (k : machine.Memory)
    → Common g h m (aligned k m) → (w : World) → Grows m.world w → (v : Value) (end low : ℕ) (around : Option Loop)
    → Room h low → InFrame g h k.lists ks end low around → Kept g h ks m k w v end low around
kept g h static ks m k both w grows v end low around room next =
    let s = same_here g h m (aligned k m) both in
    let b = with_worlds g h m k both w grows in
    record {
      common = written_here g h (source.with_world m w) (machine.with_world k w) b low v room.above;
      held = slot_same k.lists h.list low (V v) s.present (omega (arith, s.long, room.within));
      next = frame_kept g h k.lists (written h (machine.with_world k w) low v).lists ks end low around
          (keeps_above h k.lists low low (V v) s.present (omega arith)) (put_only k.lists h.list low v)
          (omega (arith, both.free)) next;
    }
