use Rattle.std.proofs.Common.{ap, sym}
use Rattle.std.specs.Prelude.{Option}
use Rattle.rb_value.specs.declared.value.ObjId.{ObjId}
use Rattle.rb_value.specs.declared.kind.EnumeratorSource.TheVariants as source
use Rattle.def_calls.specs.World.{with_store}
use Rattle.rows_object.specs.Enumerators.{enumerator, of_block, of_block_in}
use Rattle.rows_object.proofs.Passing.{same_follows}
use Rattle.rows_object.proofs.enumerators.of_block.Goals as goal

pub returns-in-Some : goal.returns-in-Some
returns-in-Some c =
    let v = c.args.receiver in
    let st = c.args.heap.now.store in
    same_follows c.args.heap.now c.give_enumerator.new.heap c.give_enumerator.result
    (enumerator c.in-Some.class (source.Block c.args.block)) (of_block v c.args.block)
    (λ w. ap (λ (o : Option ObjId). of_block_in v c.args.block o (with_store w st)) (sym c.in-Some.ensures))
    c.give_enumerator.ensures
