use Rattle.std.proofs.Common.{ap, sym}
use Rattle.def_calls.specs.World.{with_store}
use Rattle.def_calls.specs.Constants.{get_constant_in, constant_or_fail}
use Rattle.run_values.proofs.Answered.{answers_alike}
use Rattle.run_definitions.proofs.constants.get_constant_in.Goals as goal

pub returns : goal.returns
returns c = answers_alike c.args.st.now c.constant_or_fail.new.st c.constant_or_fail.result
    (λ w. constant_or_fail w c.args.class c.args.name c.constant_within-constant.result)
    (λ w. get_constant_in w c.args.class c.args.name)
    (λ w. ap (constant_or_fail (with_store w c.args.st.now.store) c.args.class c.args.name)
    (sym (c.constant_within-constant.ensures.constant w))) c.constant_or_fail.ensures
