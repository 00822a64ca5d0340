use Rattle.std.proofs.Common.{flat_map, length}
use Rattle.code_listing.specs.Info as texts
use Rattle.rb_refusal.proofs.Progress.{Progress}
use Rattle.code_listing.proofs.informing.write_sections.Given as goal

abbrev pub invariant-sections : goal.invariant-sections
invariant-sections g l = record {
  progress : Progress (record {
    taken = g.O.Sink.taken l.initial.out;
    faults = g.O.Sink.faults l.initial.out;
  })
      (record {
        taken = g.O.Sink.taken l.out;
        faults = g.O.Sink.faults l.out;
      }) (flat_map texts.section_line (texts.fitting l.initial.sections))
      (flat_map texts.section_line (texts.fitting l.sections));
}

abbrev pub decreases-sections : goal.decreases-sections
decreases-sections g l = length l.sections
