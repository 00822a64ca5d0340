use Rattle.ir_core.specs.PartsBy.{body_by}
use Rattle.gen_forms.specs.Around.{context_of}
use Rattle.gen_forms.proofs.Chains.{on-ok}
use Rattle.gen_forms.proofs.Making.{method-by}
use Rattle.gen_forms.proofs.definitions.method.Goals as goal

pub returns : goal.returns
returns g c =
    let v = g.T.Emits.form in
    on-ok c.define.result (λ last. method-by (context_of c.args.context.now) c.args.a c.args.name.now
    (body_by v c.args.body.now.value) c.args.code.now c.does.new.self c.define.new.code c.in_ok-does.ensures last)
    c.define.ensures
