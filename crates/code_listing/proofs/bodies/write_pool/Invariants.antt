use Rattle.std.proofs.Common.{drop}
use Rattle.code_listing.specs.Listing as texts
use Rattle.rb_refusal.proofs.Progress.{Progress}
use Rattle.code_listing.proofs.bodies.write_pool.Given as goal

abbrev pub invariant-items : goal.invariant-items
invariant-items g l = record {
  progress : Progress (record {
    taken = g.O.Sink.taken l.initial.out;
    faults = g.O.Sink.faults l.initial.out;
  })
      (record {
        taken = g.O.Sink.taken l.out;
        faults = g.O.Sink.faults l.out;
      }) (texts.numbered texts.pool_line 0 l.items)
      (texts.numbered texts.pool_line l.number (drop l.number l.items));
}
