-- What is told where something holds.
use Rattle.std.proofs.Common.{◌≡◌, List, ℕ, subst}
use Rattle.std.specs.Prelude.{Bool, Result, IfOk}
use Rattle.std.specs.declared.alloc.AllocError.{AllocError}
use Rattle.vm_parts.specs.Answering.{Given, Follows}
use Rattle.vm_parts.specs.Answering.definitions as definitions
use Rattle.vm_parts.specs.Below.{Held}

pub told_if : (h after : Held) (r : Result Given AllocError) (text : List ℕ) (holds set : Bool) → holds ≡ set
    → IfOk r (λ given. Follows (λ w. definitions.text_if w text holds) h given after)
    → IfOk r (λ given. Follows (λ w. definitions.text_if w text set) h given after)
told_if h after r text holds set is told =
    subst (λ (z : Bool). IfOk r (λ given. Follows (λ w. definitions.text_if w text z) h given after)) is told
