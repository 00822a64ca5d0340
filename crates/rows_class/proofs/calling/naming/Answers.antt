use Rattle.std.proofs.Common.{sym, ◌∙◌}
use Rattle.rows_object.proofs.Passing.{named_follows}
use Rattle.rows_class.specs.Rows.{by_name}
use Rattle.rows_class.proofs.calling.naming.Goals as goal

pub returns-in-Ok : goal.returns-in-Ok
returns-in-Ok c =
    named_follows c.args.heap.now c.name_in.new.heap c.named.new.heap c.named.result c.args.first c.in-Ok.name
    (λ n. by_name c.args.row c.args.space n c.args.second c.args.block)
    (sym c.in-Ok.is ∙ c.in_ok-name.ensures.name) c.in_ok-name.ensures.store c.named.ensures
