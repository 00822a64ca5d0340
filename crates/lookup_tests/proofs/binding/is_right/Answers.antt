use Rattle.lookup_tests.proofs.binding.is_right.Goals as goal

pub binds-requires-clause-args : goal.binds-requires-clause-args
binds-requires-clause-args c = c.numbers-args.ensures _

pub new_array-requires-clause-elements : goal.new_array-requires-clause-elements
new_array-requires-clause-elements c = c.numbers-args.ensures _
