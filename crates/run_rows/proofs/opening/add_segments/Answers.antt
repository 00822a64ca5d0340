use Rattle.std.proofs.Common.{refl, ap, sym, ◌∙◌}
use Rattle.def_core.specs.Store.{Store}
use Rattle.run_rows.specs.Opening.{with_segment, with_segments}
use Rattle.run_rows.proofs.Opened.{more_segments}
use Rattle.run_rows.proofs.opening.add_segments.Goals as goal

pub segments-init : goal.segments-init
unfolding with_segments
segments-init c = refl

pub segments-preserved : goal.segments-preserved
segments-preserved c =
    c.in_ok-add_segment.ensures
    ∙ ap (λ (st : Store). with_segment st c.segments.segment) c.segments.invariant
    ∙ sym (more_segments c.args.heap.now.store c.segments.segment)
