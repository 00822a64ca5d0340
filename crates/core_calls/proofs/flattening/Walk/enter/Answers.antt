use Rattle.std.proofs.Common.{◌≡◌, ◌<◌, length, refl, arith}
use Rattle.std.proofs.lemmas.Bool.Decides.{nat_tests}
use Rattle.core_calls.specs.Flat.{levels}
use Rattle.core_calls.proofs.Flat.{enters_empty, enters_more}
use Rattle.core_calls.proofs.flattening.Walk.enter.Goals as goal

pub returns-then-is_empty : goal.returns-then-is_empty
returns-then-is_empty c =
    let none : length c.elements.result.now ≡ 0 = grind (arith, nat_tests) in
    enters_empty c.args.heap.now.store.objects c.args.self.now c.pass_empty.new.self c.args.value c.args.array
    c.elements.result.now c.pass_empty.result c.elements.ensures none c.pass_empty.ensures

pub returns : goal.returns
returns c =
    let some : 0 < length c.elements.result.now = grind (arith, nat_tests) in
    let few : length c.args.self.now.levels.items < levels = grind (arith, nat_tests) in
    enters_more c.args.heap.now.store.objects c.args.self.now
    (record {
      empty = c.args.self.now.empty;
      values = c.args.self.now.values;
      levels = c.push.new.self;
    }) c.args.value c.args.array c.elements.result.now c.elements.ensures some few refl refl
    c.in_ok-push.ensures.items
