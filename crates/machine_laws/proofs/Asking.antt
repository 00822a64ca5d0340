-- What `defined?` tells.
use Rattle.std.proofs.Common.{Bool, true, false}
use Rattle.std.specs.Prelude.{ℕ, nat_eq, if◌then◌else◌}
use Rattle.rb_value.specs.declared.value.SymId.{SymId}
use Rattle.def_calls.specs.World.{World, Answer}
use Rattle.rite_code.specs.Code.{Program}
use Rattle.def_machine.specs.State.{Frame, Memory}
use Rattle.def_machine.specs.Turn.{reg, running, told}
use Rattle.world_laws.specs.Fine.{Bodies, Fine}
use Rattle.world_laws.specs.Outcomes.{AnswerIs}
use Rattle.world_laws.proofs.Classes.{instance_variable_told_is, global_told_is, constant_told_is, constant_in_told_is, method_told_is, yield_told_is, super_told_is}
use Rattle.machine_laws.proofs.Worlds.{bodies}

-- one of two answers
either : (b : Bodies) (w : World) (t : Bool) (x y : Answer) → AnswerIs b w x → AnswerIs b w y
    → AnswerIs b w (if t then x else y)
either b w true x y h k = h
either b w false x y h k = k

pub tells : (p : Program) (a b : ℕ) (s : SymId) (f : Frame) (m : Memory) → Fine (bodies p m.lists) m.world
    → AnswerIs (bodies p m.lists) m.world (told p a b s f m)
tells p a b s f m fine =
    let k = bodies p m.lists in
    let w = m.world in
    either k w (nat_eq b 0) _ _ (instance_variable_told_is k w fine (reg f m 0) s)
    (either k w (nat_eq b 1) _ _ (global_told_is k w fine s)
    (either k w (nat_eq b 2) _ _ (constant_told_is k w fine (running f m).classes s)
    (either k w (nat_eq b 3) _ _ (constant_in_told_is k w fine (reg f m a) s)
    (either k w (nat_eq b 4) _ _ (method_told_is k w fine (reg f m 0) (reg f m 0) s)
    (either k w (nat_eq b 5) _ _ (method_told_is k w fine (reg f m 0) (reg f m a) s)
    (either k w (nat_eq b 6) _ _ (yield_told_is k w fine (running f m))
    (super_told_is k w fine (running f m))))))))
