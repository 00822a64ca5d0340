-- The laws of turns.
use Rattle.std.proofs.Common.{◌≡◌, ℕ, List, [], subst}
use Rattle.rite_code.specs.Code.{Program, IsWhole}
use Rattle.code_verifier.specs.Verified.{IsVerified}
use Rattle.def_machine.specs.State.{State, Stuck, start, all_symbols}
use Rattle.def_machine.specs.Turn.{turn, turns}
use Rattle.def_machine.specs.Fits.{Fits}
use Rattle.def_machine.proofs.Start.{has_main, opening_fits}
use Rattle.world_laws.proofs.Opening.{opening_is}
use Rattle.machine_laws.proofs.Codes.{begins}
use Rattle.machine_laws.proofs.Turns.{turned, turned_often}
use Rattle.machine_laws.proofs.Worlds.{bodies}

pub turn_keeps : (p : Program) (s : State) → IsWhole p → IsVerified p → Fits p s → Fits p (turn p s)
turn_keeps p s whole verified h = turned p whole verified s h

pub turns_keep : (p : Program) (n : ℕ) (s : State) → IsWhole p → IsVerified p → Fits p s → Fits p (turns n p s)
turns_keep p n s whole verified h = turned_often p whole verified n s h

-- From the start.

module _ (p : Program) (input : List ℕ) (whole : IsWhole p) (verified : IsVerified p) where
  pub start_fits : Fits p (start p input)
  start_fits =
      opening_fits p input whole (begins p whole verified 0 (has_main p whole))
      (opening_is (bodies p []) (all_symbols p.bodies) input).store

  pub run_fits : (n : ℕ) → Fits p (turns n p (start p input))
  run_fits n = turns_keep p n (start p input) whole verified start_fits

  pub never_stuck : (n : ℕ) (out : List ℕ) → turns n p (start p input) ≡ Stuck out → ⊥
  never_stuck n out e = subst (Fits p) e (run_fits n)
