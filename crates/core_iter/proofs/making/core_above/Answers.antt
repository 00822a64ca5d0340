use Rattle.std.proofs.Common.{◌≡◌, ◌-◌, ◌+◌, false, sym, ◌∙◌, arith}
use Rattle.std.proofs.lemmas.Bool.Decides.{nat_tests}
use Rattle.std.specs.Prelude.{nat_lt}
use Rattle.core_iter.specs.Making.{core_count, near}
use Rattle.core_iter.proofs.Above.{core_none, core_more, core_out}
use Rattle.core_iter.proofs.making.core_above.Goals as goal

pub returns-in-None : goal.returns-in-None
returns-in-None c =
    let far : nat_lt c.classes.above.0 core_count ≡ false = grind (arith, nat_tests) in
    sym (c.classes.invariant ∙ core_none (near - c.classes._taken) c.args.heap.now.store c.args.class c.classes.above
    (omega (arith, c.classes-test.true)) far (sym c.superclass_of.ensures ∙ c.in-None.is))

pub classes-preserved : goal.classes-preserved
classes-preserved c =
    let far : nat_lt c.classes.above.0 core_count ≡ false = grind (arith, nat_tests) in
    c.classes.invariant ∙ core_more (near - c.classes._taken) (near - (c.classes._taken + 1)) c.args.heap.now.store
    c.args.class c.classes.above c.in-Some.next (omega (arith, c.classes-test.true)) far
    (sym c.superclass_of.ensures ∙ c.in-Some.is)

pub returns : goal.returns
returns c = sym (c.classes.invariant ∙ core_out (near - c.classes._taken) c.args.heap.now.store c.args.class
    c.classes.above (omega (arith, c.classes-test.false)))
