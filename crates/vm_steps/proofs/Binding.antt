-- What binding the arguments gave, and what comes of it.
use Rattle.std.proofs.Common.{◌≡◌, List, ap, subst, ◌∙◌}
use Rattle.std.specs.Prelude.{Result, Ok, Err, IfOk}
use Rattle.std.specs.declared.alloc.AllocError.{AllocError}
use Rattle.rb_value.specs.declared.value.Value.{Value}
use Rattle.rb_value.specs.declared.method.Shape.{Shape}
use Rattle.def_core.specs.declared.bound.Bound.{Bound}
use Rattle.def_core.specs.Bind.{Binding}
use Rattle.rite_code.specs.declared.operation.Parameters.{Parameters}
use Rattle.vm_parts.specs.declared.flow.Flow.{Flow}
use Rattle.vm_parts.specs.declared.loaded.Loaded.{Loaded}
use Rattle.vm_parts.specs.Below.{Held}
use Rattle.vm_parts.specs.Below.frames.{Frame}
use Rattle.vm_parts.specs.Below.heap_rows.{bound}
use Rattle.vm_parts.specs.Beside.{Beside}
use Rattle.vm_steps.specs.Answering.{with_heap}
use Rattle.vm_steps.specs.Parameters.{Enters, EntersWith, arguments, binding, shape_of}

-- o is what binding gives, and heap what it leaves
pub bound_enters : (c : Loaded) (b : Beside) (f : Frame) (p : Parameters) (s : Shape) (vs : List Value) (heap : Held)
    (o : Bound) (r : Result Flow AllocError) (g : Frame) (after : Beside) → s ≡ shape_of p → vs ≡ arguments b f
    → heap.store ≡ (bound b.heap.store s vs f.binds).store → o ≡ (bound b.heap.store s vs f.binds).bound
    → IfOk r (λ flow. EntersWith c (with_heap b heap) f p o flow g after) → IfOk r (λ flow. Enters c b f p flow g after)
bound_enters c b f p s vs heap o r g after shaped given store is enters = by r enters
  where
    same : bound b.heap.store s vs f.binds ≡ binding b f p
    same = ap (λ (z : Shape). bound b.heap.store z vs f.binds) shaped
        ∙ ap (λ (z : List Value). bound b.heap.store (shape_of p) z f.binds) given

    by : (r : Result Flow AllocError) → IfOk r (λ flow. EntersWith c (with_heap b heap) f p o flow g after)
        → IfOk r (λ flow. Enters c b f p flow g after)
    by (Ok flow) enters = record {
      heap = heap;
      bound_in = store ∙ ap (λ (z : Binding). z.store) same;
      enters = subst (λ (z : Bound). EntersWith c (with_heap b heap) f p z flow g after)
          (is ∙ ap (λ (z : Binding). z.bound) same) enters;
    }
    by (Err x) enters = tt
