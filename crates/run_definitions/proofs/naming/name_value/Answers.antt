use Rattle.std.proofs.Common.{ap, ◌∙◌}
use Rattle.def_calls.specs.Constants.{with_name_of}
use Rattle.run_definitions.proofs.naming.name_value.Goals as goal

pub returns-in_ok-name_class-in-Some-clause-ok : goal.returns-in_ok-name_class-in-Some-clause-ok
returns-in_ok-name_class-in-Some-clause-ok c = c.in_ok-name_class-in-Some.ensures.ok
    ∙ ap (with_name_of c.args.st.now.store c.args.scope c.args.name) c.in-Some.ensures.space

pub returns-in-None-clause-ok : goal.returns-in-None-clause-ok
returns-in-None-clause-ok c =
    ap (with_name_of c.args.st.now.store c.args.scope c.args.name) c.in-None.ensures.space
