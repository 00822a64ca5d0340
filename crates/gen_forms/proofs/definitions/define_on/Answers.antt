use Rattle.ir_core.specs.PartsBy.{core_by, body_by}
use Rattle.gen_forms.specs.Around.{context_of}
use Rattle.gen_forms.proofs.Chains.{on-ok}
use Rattle.gen_forms.proofs.Making.{singleton-by}
use Rattle.gen_forms.proofs.definitions.define_on.Goals as goal

pub returns : goal.returns
returns g c =
    let v = g.T.Emits.form in
    on-ok c.define.result (λ last. singleton-by (context_of c.args.context.now) c.args.a
    (core_by v c.args.core.now) c.args.name.now (body_by v c.args.body.now.value) c.args.code.now c.then_do.new.code
    c.define.new.code c.in_ok-then_do.ensures last) c.define.ensures
