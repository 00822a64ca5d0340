use Rattle.std.proofs.Common.{◌≡◌, length, arith}
use Rattle.std.proofs.lemmas.Bool.Decides.{nat_tests}
use Rattle.core_calls.proofs.Flat.{ended}
use Rattle.core_calls.proofs.flattening.Walk.finish.Goals as goal

pub returns : goal.returns
returns c =
    let none : length c.elements.self.levels.items ≡ 0 = grind (arith, nat_tests) in
    ended c.args.heap.now.store.objects c.args.self.now c.elements.self c.elements.invariant.0 c.elements.invariant.1
    none
