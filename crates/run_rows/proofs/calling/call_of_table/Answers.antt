use Rattle.std.proofs.Common.{ap, ◌∙◌}
use Rattle.std.specs.Prelude.{Option}
use Rattle.rb_value.specs.declared.value.Value.{Value}
use Rattle.run_rows.proofs.Called.{calls_so}
use Rattle.run_rows.proofs.calling.call_of_table.Goals as goal

pub returns-in-None : goal.returns-in-None
returns-in-None c =
    calls_so c.args.row c.args.heap.now c.straight_on.new.heap _ c.args.number c.args.call.receiver c.args.call.args.now
    c.args.call.block c.call_row.result
    (c.in_ok-value.ensures ∙ ap (λ (v : Option Value). (v, c.straight_on.new.heap)) c.in-None.is)
    c.call_row.ensures.answers
