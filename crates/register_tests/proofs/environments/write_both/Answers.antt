use Rattle.vm_env.proofs.Keeping.{write_keeps_lies, write_keeps_length, write_keeps_count}
use Rattle.register_tests.proofs.environments.write_both.Goals as goal

pub returns-clause-count : goal.returns-clause-count
returns-clause-count c = write_keeps_count _ _ _ _ c.args.e.0 c.args.i c.args.value c.write.ensures.place

pub returns-clause-lie : goal.returns-clause-lie
returns-clause-lie c = λ other lies. write_keeps_lies _ _ _ _ c.args.e.0 c.args.i other c.args.value
    c.write.ensures.place lies

pub returns-clause-lengths : goal.returns-clause-lengths
returns-clause-lengths c = λ other. write_keeps_length _ _ _ _ c.args.e.0 c.args.i other c.args.value
    c.write.ensures.one
