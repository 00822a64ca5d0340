use Rattle.std.proofs.Common.{ap, sym}
use Rattle.std.specs.Prelude.{Option}
use Rattle.rb_value.specs.declared.value.ObjId.{ObjId}
use Rattle.def_calls.specs.World.{with_store}
use Rattle.rows_object.proofs.Passing.{same_follows}
use Rattle.rows_class.specs.Rows.{acting, acting_on, counted}
use Rattle.rows_class.proofs.calling.acting.Goals as goal

pub returns-in-Some : goal.returns-in-Some
returns-in-Some c =
    let row = c.args.row in
    let recv = c.args.call.receiver in
    let args = c.args.call.args.now in
    let block = c.args.call.block in
    let st = c.args.heap.now.store in
    same_follows c.args.heap.now c.counted.new.heap c.counted.result
    (counted row c.in-Some.space args block) (acting row recv args block)
    (λ w. ap (λ (o : Option ObjId). acting_on row recv args block o (with_store w st)) (sym c.in-Some.ensures))
    c.counted.ensures
