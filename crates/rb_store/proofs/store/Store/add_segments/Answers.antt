use Rattle.std.proofs.Common.{◌<◌, length, arith, sym, ◌∙◌}
use Rattle.rb_store.proofs.Rows.{segments_step, segments_end, held_still, held_at}
use Rattle.rb_store.proofs.store.Store.add_segments.Goals as goal

pub add_segment-requires : goal.add_segment-requires
add_segment-requires c =
    let within : c.segments.segment-index < length c.args.segments.now = omega arith in
    held_still _ _ _ c.segments.invariant.sorts (held_at _ c.args.segments.now _ _ c.requires within)

pub segments-preserved : goal.segments-preserved
segments-preserved c =
    let within : c.segments.segment-index < length c.args.segments.now = omega arith in
    record {
      same = rw c.in_ok-add_segment.ensures.ok (segments_step _ _ c.args.segments.now _ within ∙ c.segments.invariant.same);
      sorts = c.in_ok-add_segment.ensures.objects ∙ c.segments.invariant.sorts;
    }

pub returns : goal.returns
returns c = sym (segments_end _ _ c.args.segments.now (omega arith)) ∙ c.segments.invariant.same
