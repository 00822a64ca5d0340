use Rattle.std.proofs.Common.{◌<◌, ◌≤◌, List, length, subst}
use Rattle.rb_value.specs.declared.value.Value.{Value}
use Rattle.def_core.specs.Sound.{census}
use Rattle.run_values.proofs.Steps.{left_comes, left_walk, deep_comes, passed_comes}
use Rattle.run_values.proofs.key_parts.Walk.step.Goals as goal

pub returns-then-self-elements-clause-comes : goal.returns-then-self-elements-clause-comes
returns-then-self-elements-clause-comes c =
    left_comes c.args.st.now.store.objects c.leave.result c.args.self.now c.leave.new.self
    (subst (λ (vs : List Value). length vs ≤ c.args.self.now.level.at) c.elements.ensures c.if-self-elements.true)
    c.leave.ensures

pub returns-then-self-elements-clause-walk : goal.returns-then-self-elements-clause-walk
returns-then-self-elements-clause-walk c =
    left_walk c.args.st.now.store.objects (census c.args.st.now.store) c.leave.result c.args.self.now c.leave.new.self
    c.requires.walk c.leave.ensures

pub returns-then-self-eq0-clause-comes : goal.returns-then-self-eq0-clause-comes
returns-then-self-eq0-clause-comes c =
    deep_comes c.args.st.now.store.objects c.args.self.now c.args.self.now
    (subst (λ (vs : List Value). c.args.self.now.level.at < length vs) c.elements.ensures c.if-self-elements.false)
    c.if-self-eq0.true

pub returns-clause-comes : goal.returns-clause-comes
returns-clause-comes c =
    passed_comes c.args.st.now.store.objects c.args.self.now c.next-value.new.self c.pass.new.self c.next-value.result
    (subst (λ (vs : List Value). c.args.self.now.level.at < length vs) c.elements.ensures c.if-self-elements.false)
    c.next-value.ensures.value c.next-value.ensures.walk c.in_ok-pass.ensures.whole c.in_ok-pass.ensures.steps
