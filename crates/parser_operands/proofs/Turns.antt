-- The loops of operands, a turn at a time.
use Rattle.std.proofs.Common.{◌≡◌, ◌≢◌, ℕ, zero, suc, ◌-◌, ◌<◌, Bool, [], ◌∷◌, length, refl, arith}
use Rattle.parser_tree.specs.Node.{Node}
use Rattle.parser_tokens.specs.Tokens.{first, behind}
use Rattle.parser_ahead.specs.Primary.{primary_at}
use Rattle.parser_ahead.specs.declared.primary.Primary.TheVariants.{Leaf}
use Rattle.parser_tokens.specs.Operators.{infix_at}
use Rattle.parser_ahead.specs.declared.primary.DoOwner.{DoOwner}
use Rattle.parser_nodes.specs.Calls.{OperandNode}
use Rattle.parser_forms.specs.Reading.{Names, Tokens, Inside}
use Rattle.parser_operands.specs.Operands.{continues, chain_turn, chain_within}
use Rattle.parser_operands.specs.Operators.{operators_turn, operators_from}

pub primary_there : (names : Names) (ts : Tokens) → primary_at names ts ≢ Leaf → length (behind ts) < length ts
unfolding primary_at first behind
primary_there names [] other = absurd (other refl)
primary_there names (t ∷ ts) other = omega arith

module _ (i : Inside) where
  pub chain_step : (n : ℕ) (commands : Bool) (owner : DoOwner) (o : OperandNode) (names : Names) (ts : Tokens) → 0 < n
      → chain_within i n commands owner o names ts ≡ chain_turn i (continues o ts commands)
      (chain_within i (n - 1) commands owner) o names ts owner
  unfolding chain_within
  chain_step zero commands owner o names ts some = absurd (omega arith)
  chain_step (suc n) commands owner o names ts some = let less : suc n - 1 ≡ n = omega arith in rw less

  pub operators_step : (n loosest : ℕ) (owner : DoOwner) (left : Node) (names : Names) (ts : Tokens) → 0 < n
      → operators_from i n loosest owner left names ts ≡ operators_turn i (infix_at loosest (first ts))
      (operators_from i (n - 1) loosest owner) left names ts owner
  unfolding operators_from
  operators_step zero loosest owner left names ts some = absurd (omega arith)
  operators_step (suc n) loosest owner left names ts some = let less : suc n - 1 ≡ n = omega arith in rw less

pub ruleset chain_turns = chain_step

pub ruleset operator_turns = operators_step
