use Rattle.std.proofs.Common.{drop}
use Rattle.code_listing.specs.Listing as texts
use Rattle.rb_refusal.proofs.Progress.{Progress}
use Rattle.code_listing.proofs.bodies.write_bodies.Given as goal

abbrev pub invariant-bodies : goal.invariant-bodies
invariant-bodies g l = record {
  progress : Progress (record {
    taken = g.O.Sink.taken l.initial.out;
    faults = g.O.Sink.faults l.initial.out;
  })
      (record {
        taken = g.O.Sink.taken l.out;
        faults = g.O.Sink.faults l.out;
      }) (texts.numbered (texts.body_lines l.version) 0 l.bodies)
      (texts.numbered (texts.body_lines l.version) l.number (drop l.number l.bodies));
}
