use Rattle.std.proofs.Common.{◌≤◌, length, arith}
use Rattle.rb_value.specs.declared.value.Value.TheVariants.{Nil}
use Rattle.core_calls.proofs.Flat.{walked, passed_too_deep, too_deep_within, walked_all}
use Rattle.core_calls.proofs.flattening.flattened.Goals as goal

pub returns-then-not-branch : goal.returns-then-not-branch
returns-then-not-branch c = passed_too_deep c.args.empty c.args.heap.now.store.objects c.values.walk c.pass.new.self
    c.args.values.now c.values.value-index Nil c.in_ok-pass.field-0 c.values-test.true c.values.invariant
    c.in_ok-pass.ensures c.if-not-branch.true

pub returns-then-not-branch-2 : goal.returns-then-not-branch-2
returns-then-not-branch-2 c = too_deep_within c.args.empty c.args.heap.now.store.objects c.values.walk
    c.pass.new.self c.finish.new.self c.args.values.now c.values.value-index Nil c.in_ok-pass.field-0
    c.in_ok-finish.field-0 c.values-test.true c.values.invariant c.in_ok-pass.ensures c.if-not-branch.false
    c.in_ok-finish.ensures c.if-not-branch-2.true

pub values-preserved : goal.values-preserved
values-preserved c = walked c.args.empty c.args.heap.now.store.objects c.values.walk c.pass.new.self
    c.finish.new.self c.args.values.now c.values.value-index Nil c.in_ok-pass.field-0 c.in_ok-finish.field-0
    c.values-test.true c.values.invariant c.in_ok-pass.ensures c.if-not-branch.false c.in_ok-finish.ensures
    c.if-not-branch-2.false

pub returns : goal.returns
returns c =
    let all : length c.args.values.now ≤ c.values.value-index = omega (arith, c.values-test.false) in
    walked_all c.args.empty c.args.heap.now.store.objects c.values.walk c.args.values.now c.values.value-index all
    c.values.invariant.0
