use Rattle.std.proofs.Common.{drop}
use Rattle.code_listing.specs.Listing as texts
use Rattle.rb_refusal.proofs.Progress.{Progress}
use Rattle.code_listing.proofs.bodies.write_symbols.Given as goal

abbrev pub invariant-names : goal.invariant-names
invariant-names g l = record {
  progress : Progress (record {
    taken = g.O.Sink.taken l.initial.out;
    faults = g.O.Sink.faults l.initial.out;
  })
      (record {
        taken = g.O.Sink.taken l.out;
        faults = g.O.Sink.faults l.out;
      }) (texts.numbered texts.symbol_line 0 l.names)
      (texts.numbered texts.symbol_line l.number (drop l.number l.names));
}
