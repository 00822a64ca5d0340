-- The loop of targets, a turn at a time, and what a phrase begins with.
use Rattle.std.proofs.Common.{◌≡◌, ◌≢◌, ℕ, zero, suc, ◌-◌, ◌<◌, ◌&&◌, Bool, [], ◌∷◌, Ok, Err, if◌then◌else◌, length, refl, arith}
use Rattle.parser_tree.proofs.Views.{view-MultipleAssign}
use Rattle.parser_tokens.specs.Tokens.{first, behind}
use Rattle.parser_ahead.specs.Primary.{start_at, command_start}
use Rattle.parser_ahead.specs.declared.primary.Place.{Place}
use Rattle.parser_ahead.specs.declared.primary.Place.TheVariants.{Statement, Command, Argument}
use Rattle.parser_ahead.specs.declared.primary.Start.TheVariants.{Operand}
use Rattle.parser_ahead.specs.Groups.{begins_target}
use Rattle.parser_ahead.specs.declared.groups.TargetUse.{TargetUse}
use Rattle.parser_form_nodes.specs.Targets.{TargetsNode}
use Rattle.parser_forms.specs.Reading.{Names, Tokens, Inside}
use Rattle.rb_base.specs.Result.{◌>>=◌}
use Rattle.parser_phrases.specs.Targets.{is_for, next_target, targets_from}

module _ (i : Inside) where
  pub targets_step : (n : ℕ) (u : TargetUse) (more : Bool) (found : TargetsNode) (names : Names) (ts : Tokens) → 0 < n
      → targets_from i n u more found names ts
      ≡ (if more && begins_target u (first ts) then
      (next_target i u found names ts >>= (λ r. targets_from i (n - 1) u r.0.0 r.0.1 r.1 r.2))
      else if more && is_for u then Err (length ts)
      else Ok (found, names, ts))
  unfolding targets_from
  targets_step zero u more found names ts some = absurd (omega arith)
  targets_step (suc n) u more found names ts some = let less : suc n - 1 ≡ n = omega arith in rw less

pub ruleset target_turns = targets_step

-- all but an operand begin with a token
pub start_there : (place : Place) (ts : Tokens) → start_at place ts ≢ Operand → length (behind ts) < length ts
unfolding start_at command_start first behind
start_there Statement [] other = absurd (other refl)
start_there Command [] other = absurd (other refl)
start_there Argument [] other = absurd (other refl)
start_there place (t ∷ ts) other = omega arith

pub ruleset multiple_views = view-MultipleAssign
