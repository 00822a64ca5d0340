-- A call of a Proc without a body, for which nothing was opened.
use Rattle.std.specs.Prelude.{ℕ, Bool, true, false, Option, Some, None, is_some, Result, Ok, Err, IfOk}
use Rattle.std.specs.declared.alloc.AllocError.{AllocError}
use Rattle.std.proofs.Common.{◌≡◌, true≢false, sym, subst, refl}
use Rattle.rb_value.specs.declared.value.ObjId.{ObjId}
use Rattle.rb_value.specs.declared.procs.ProcContents.{ProcContents}
use Rattle.fiber_switch.specs.Frames.{Arguments, Frame}
use Rattle.vm_parts.specs.declared.flow.Flow.{Flow}
use Rattle.vm_parts.specs.declared.loaded.Loaded.{Loaded}
use Rattle.vm_parts.specs.Beside.{Beside}
use Rattle.vm_parts.specs.Calling.{When, CallsOther, CallsProc, CallsWithRoom}
use Rattle.vm_parts.specs.Entering.{proc_of, proc_frame, proc_opened}

-- what is opened of such a one is the frame and what is beside it as they were
unopened_of : (c : Loaded) (b m : Beside) (f h : Frame) (n : ℕ) (id : ObjId) (block : Option ObjId) (args : Arguments)
    (o : Option ProcContents) (Proc : Flow → Type 0) (r : Result Flow AllocError) (g : Frame) (after : Beside)
    → is_some o ≡ false → h ≡ proc_frame c b f n id block args o → m ≡ proc_opened c b n id o
    → IfOk r (λ flow. CallsOther c m h id block args flow g after)
    → IfOk r (λ flow. When (is_some o) (Proc flow) (CallsOther c b f id block args flow g after))
unopened_of c b m f h n id block args (Some p) Proc r g after is frame opened other = absurd (true≢false is)
unopened_of c b m f h n id block args None Proc (Err e) g after is frame opened other = tt
unopened_of c b m f h n id block args None Proc (Ok flow) g after is frame opened other =
    subst (λ (x : Beside). CallsOther c x f id block args flow g after) opened
    (subst (λ (x : Frame). CallsOther c m x id block args flow g after) frame other)

pub unopened : (c : Loaded) (b m : Beside) (f h : Frame) (n : ℕ) (id : ObjId) (block : Option ObjId) (args : Arguments)
    (r : Result Flow AllocError) (g : Frame) (after : Beside)
    → is_some (proc_of b id) ≡ false → h ≡ proc_frame c b f n id block args (proc_of b id)
    → m ≡ proc_opened c b n id (proc_of b id) → IfOk r (λ flow. CallsOther c m h id block args flow g after)
    → IfOk r (λ flow. CallsWithRoom c b f id block args flow g after)
unopened c b m f h n id block args r g after is frame opened other =
    unopened_of c b m f h n id block args (proc_of b id) (λ flow. CallsProc c b f id block args flow g after) r g after is
    frame opened other
