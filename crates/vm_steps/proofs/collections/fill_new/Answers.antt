use Rattle.vm_steps.proofs.Pairing.{filled_new}
use Rattle.vm_steps.proofs.collections.fill_new.Goals as goal

pub returns-in-Obj : goal.returns-in-Obj
returns-in-Obj c = filled_new c.args.heap.now c.make_hash.new.self _ c.in-Obj.id c.in_ok-other.other c.args.values.now
    c.fill.result c.in_ok-other.ensures.value c.in-Obj.is c.in_ok-other.ensures.made c.fill.ensures
