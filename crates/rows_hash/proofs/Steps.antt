-- Steps, one after another.
use Rattle.std.proofs.Common.{◌≡◌, ℕ, zero, suc, ◌-◌, ◌<◌, ◌≤◌, ap, arith}
use Rattle.std.specs.Prelude.{None, Result}
use Rattle.def_core.specs.declared.cause.Cause.{Cause}
use Rattle.rb_store.specs.Held.{Held}
use Rattle.rows_hash.specs.Merging.{go_on, step_by_step}

-- one more
pub steps_more : (step : ℕ → Held → Result Held Cause) (count place : ℕ) (held : Held) → place < count
    → step_by_step step (count - place) place held
    ≡ go_on held (step place held) (step_by_step step (count - suc place) (suc place))
steps_more step count place held lt =
    let e : count - place ≡ suc (count - suc place) = omega (arith, lt) in
    ap (λ (n : ℕ). step_by_step step n place held) e

-- no more
pub steps_end : (step : ℕ → Held → Result Held Cause) (count place : ℕ) (held : Held) → count ≤ place
    → step_by_step step (count - place) place held ≡ record { held = held; refused = None }
steps_end step count place held le =
    let e : count - place ≡ zero = omega (arith, le) in ap (λ (n : ℕ). step_by_step step n place held) e
