use Rattle.std.proofs.Common.{◌≡◌, ◌++◌}
use Rattle.sample_source.specs.Sample as sample
use Rattle.sample_source.proofs.lines.add_calls.Given as goal

abbrev pub invariant-calls : goal.invariant-calls
invariant-calls l = l.text.items ≡ l.fn.text.items ++ sample.lines sample.call_line l.before
