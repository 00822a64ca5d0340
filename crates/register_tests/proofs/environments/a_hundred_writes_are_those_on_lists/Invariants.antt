use Rattle.std.proofs.Common.{◌≡◌, ◌<◌, length}
use Rattle.vm_env.specs.Env.{Lies, contents, env}
use Rattle.register_tests.proofs.environments.a_hundred_writes_are_those_on_lists.Given as goal

-- the windows lie within live stacks, and the lists have ten values
abbrev pub invariant-loop-step : goal.invariant-loop-step
invariant-loop-step g l = record {
  low_there : l.low.0 < length l.envs;
  high_there : l.high.0 < length l.envs;
  other_there : l.other.0 < length l.envs;
  low_lies : Lies l.bank (env l.envs l.low.0);
  high_lies : Lies l.bank (env l.envs l.high.0);
  other_lies : Lies l.bank (env l.envs l.other.0);
  low_size : length (contents l.bank (env l.envs l.low.0)) ≡ 10;
  high_size : length (contents l.bank (env l.envs l.high.0)) ≡ 10;
  other_size : length (contents l.bank (env l.envs l.other.0)) ≡ 10;
}
