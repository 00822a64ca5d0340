use Rattle.std.proofs.Common.{◌≡◌, ◌+◌, arith, rules, sym}
use Rattle.heap.proofs.Scanned.{one_more, all_taken, has_all_taken}
use Rattle.heap.proofs.testing.are_own.Goals as goal

pub returns-clause-belong : goal.returns-clause-belong
returns-clause-belong c = λ _. all_taken _ _ _ c.values.invariant.good (omega (arith, c.values-test.false))

pub returns-clause-all : goal.returns-clause-all
returns-clause-all c = sym (has_all_taken c.args.st.now.store c.args.values.now c.values.at c.values.invariant.own
    (omega (arith, c.values-test.false)))
