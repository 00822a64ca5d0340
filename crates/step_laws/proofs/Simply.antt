-- Code of simple forms implements them.
use Rattle.std.proofs.Common.{ℕ, List}
use Rattle.rite_code.specs.Code.{Program}
use Rattle.def_eval.specs.Source.{Source, body_at, form_of}
use Rattle.step_laws.specs.Simple.{IsSimple}
use Rattle.step_laws.specs.Implements.{IsCodeOf, Implements}
use Rattle.step_laws.proofs.Whole.{implements}
use Rattle.step_laws.proofs.Calms.{stays_calm}

pub simply : (s : Source) (p : Program) (input : List ℕ) → IsSimple (form_of (body_at s 0)) → IsCodeOf s p
    → Implements s p input
simply s p input is c = implements s p input c (stays_calm s p input is)
