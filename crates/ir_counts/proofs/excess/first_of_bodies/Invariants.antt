use Rattle.std.proofs.Common.{◌≡◌, None, map, drop}
use Rattle.rb_syntax.specs.declared.count.Count.TheVariants.{File}
use Rattle.ir_walk.specs.Steps.{body}
use Rattle.ir_counts.specs.Counts.{counts}
use Rattle.ir_counts.specs.Limits.{past, of_bodies, bytes, file}
use Rattle.ir_counts.proofs.excess.first_of_bodies.Given as goal

abbrev pub invariant-loop-body : goal.invariant-loop-body
invariant-loop-body l = record {
  whole : bytes 64 (map counts (map body l.bodies)) ≡ bytes l.bytes
      (map counts (map body (drop l.body-index l.bodies)));
  within : of_bodies (map counts (map body l.bodies))
      (past File (file (map counts (map body l.bodies))) 4294967295 None)
      ≡ of_bodies (map counts (map body (drop l.body-index l.bodies)))
      (past File (file (map counts (map body l.bodies))) 4294967295 None);
}
