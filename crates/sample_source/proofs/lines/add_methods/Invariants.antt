use Rattle.std.proofs.Common.{◌≡◌, ◌++◌}
use Rattle.sample_source.specs.Sample as sample
use Rattle.sample_source.proofs.lines.add_methods.Given as goal

abbrev pub invariant-methods : goal.invariant-methods
invariant-methods l = l.text.items ≡ l.fn.text.items ++ sample.lines sample.method_line l.before
