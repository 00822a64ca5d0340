use Rattle.method_lookup.proofs.Binds.{keeps_rest, values_without_rest, values_with_rest}
use Rattle.method_lookup.proofs.binding.bind.Goals as goal

pub returns-then-not-shape-clause-values : goal.returns-then-not-shape-clause-values
returns-then-not-shape-clause-values c =
    values_without_rest c.args.st.now.store c.requires.sound c.args.shape c.args.kind c.args.args.now _ _
    c.requires.args c.of-given.ensures.all c.in_ok-list.ensures

pub returns-clause-keeps : goal.returns-clause-keeps
returns-clause-keeps c = keeps_rest c.args.st.now _ c.requires.sound c.args.shape c.args.kind c.args.args.now _ _
    c.requires.args c.of-given.ensures.all c.in_ok-others.ensures c.in_ok-add_array.ensures.ok
    c.in_ok-add_array.ensures.changes

pub returns-clause-values : goal.returns-clause-values
returns-clause-values c =
    let list = rw c.len.ensures.count at c.in_ok-list-2.ensures in
    values_with_rest c.args.st.now.store c.requires.sound _ c.args.shape c.args.kind c.args.args.now _ _ _
    c.requires.args c.of-given.ensures.all list c.in_ok-add_array.ensures.ok
