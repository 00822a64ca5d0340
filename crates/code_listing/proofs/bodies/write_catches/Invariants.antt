use Rattle.std.proofs.Common.{drop, flat_map}
use Rattle.code_listing.specs.Listing as texts
use Rattle.rb_refusal.proofs.Progress.{Progress}
use Rattle.code_listing.proofs.bodies.write_catches.Given as goal

abbrev pub invariant-entries : goal.invariant-entries
invariant-entries g l = record {
  progress : Progress (record {
    taken = g.O.Sink.taken l.initial.out;
    faults = g.O.Sink.faults l.initial.out;
  })
      (record { taken = g.O.Sink.taken l.out; faults = g.O.Sink.faults l.out }) (flat_map texts.catch_line l.entries)
      (flat_map texts.catch_line (drop l.entry-index l.entries));
}
