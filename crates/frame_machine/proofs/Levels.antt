-- The innermost level wakes, from what each step leaves.
use Rattle.std.proofs.Common.{◌≡◌, refl, sym, subst}
use Rattle.std.specs.Prelude.{Option, Some, None}
use Rattle.core_calls.specs.declared.beat.Beat.{Beat}
use Rattle.vm_acts.specs.Parts.below.frames.{Frame}
use Rattle.vm_acts.specs.Parts.{Flow}
use Rattle.vm_acts.specs.Parts.{Loaded}
use Rattle.vm_acts.specs.Parts.beside.{Beside}
use Rattle.vm_acts.specs.Parts.calling.{CallsWith}
use Rattle.frame_machine.specs.Waking.{BeatsIn, CallsIf, CallsInPlace, iteration_in}

-- a block is called in place, or nothing is done
pub calls_here : (c : Loaded) (b left : Beside) (f g : Frame) (after : Beside) (o : Option Beat) (beat : Beat)
    (next : Flow) → BeatsIn (iteration_in b) b o left → CallsWith c left f beat.callee beat.passed next g after
    → o ≡ Some beat → CallsInPlace c b f (Some next) g after
calls_here c b left f g after o beat next beats calls is = record {
  beat = o;
  left = left;
  beats = beats;
  calls = subst (λ (x : Option Beat). CallsIf x c left f (Some next) g after) (sym is) calls;
}

pub calls_not : (c : Loaded) (b left : Beside) (f : Frame) (o : Option Beat) → BeatsIn (iteration_in b) b o left
    → o ≡ None → CallsInPlace c b f None f left
calls_not c b left f o beats is = record {
  beat = o;
  left = left;
  beats = beats;
  calls = subst (λ (x : Option Beat). CallsIf x c left f None f left) (sym is) (refl, (refl, refl));
}
