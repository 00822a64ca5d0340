use Rattle.std.proofs.Common.{sym, ◌∙◌}
use Rattle.run_rows.specs.Opening.{at}
use Rattle.run_rows.proofs.Opened.{segment_some, of_class}
use Rattle.run_rows.proofs.opening.add_segment.Goals as goal

pub returns : goal.returns
returns c =
    sym (segment_some c.args.heap.now.store c.args.segment c.in_ok-holder.field-0
    (at c.holder.new.heap.store c.first_number.result) _ _
    (sym c.has_none.ensures ∙ c.if-has_none.false) c.in_ok-holder.ensures c.first_number.ensures
    c.in_ok-add_plain.ensures.added
    (of_class _ _ _ _ _ c.in_ok-add_plain.ensures.class c.in_ok-add_star.ensures.added))
