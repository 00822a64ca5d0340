use Rattle.std.proofs.Common.{◌≡◌, length, refl, arith}
use Rattle.std.proofs.lemmas.Bool.Decides.{nat_tests}
use Rattle.rb_value.specs.declared.value.Value.TheVariants.{Nil}
use Rattle.core_calls.proofs.Flat.{steps_none, steps_end, steps_more}
use Rattle.core_calls.proofs.flattening.Walk.step.Goals as goal

pub returns-in_default : goal.returns-in_default
returns-in_default c =
    let none : length c.args.self.now.levels.items ≡ 0 = grind (arith, nat_tests) in
    let left : length c.pop.new.self.items ≡ 0 = grind (arith, nat_tests) in
    steps_none c.args.heap.now.store.objects c.args.self.now
    (record { empty = c.args.self.now.empty; values = c.args.self.now.values; levels = c.pop.new.self }) none left refl
    refl

pub returns-then-level-elements : goal.returns-then-level-elements
returns-then-level-elements c = steps_end c.args.heap.now.store.objects c.args.self.now
    (record { empty = c.args.self.now.empty; values = c.args.self.now.values; levels = c.pop.new.self })
    c.in-Some.level c.elements-elements.result.now c.in-Some.ensures.items refl refl c.elements-elements.ensures
    c.if-level-elements.true

pub returns : goal.returns
returns c = steps_more c.args.heap.now.store.objects c.args.self.now
    (record { empty = c.args.self.now.empty; values = c.args.self.now.values; levels = c.push.new.self })
    c.in-Some.level c.pop.new.self.items c.elements-elements.result.now Nil c.in-Some.ensures.items
    c.in_ok-push.ensures.items refl refl c.elements-elements.ensures c.if-level-elements.false
