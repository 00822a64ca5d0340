-- A text that the front refuses has no core.
use Rattle.std.proofs.Common.{◌≡◌, ◌≢◌, ℕ, List, Some, sym, ◌∙◌}
use Rattle.ir_core.specs.CoreForm.{Body}
use Rattle.rb_front.specs.Front.{Refuses, core_of}
use Rattle.rb_front.specs.declared.error.FrontError.{FrontError}
use Rattle.rb_front.specs.declared.error.FrontError.TheVariants.{NoMemory}
use Rattle.rb_front.proofs.Refusals.{refused_core}

pub refused_has_none : (text : List ℕ) (e : FrontError) (c : Body) → e ≢ NoMemory → Refuses text e
    → core_of text ≡ Some c → ⊥
refused_has_none text e c other refuses is = absurd (cc (sym (refused_core text e other refuses) ∙ is))
