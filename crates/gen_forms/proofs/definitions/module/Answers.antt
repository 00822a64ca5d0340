use Rattle.ir_core.specs.PartsBy.{boxed_by, body_by}
use Rattle.gen_forms.specs.Around.{context_of}
use Rattle.gen_forms.proofs.Chains.{on-ok}
use Rattle.gen_forms.proofs.Making.{module-by}
use Rattle.gen_forms.proofs.definitions.module.Goals as goal

pub returns : goal.returns
returns g c =
    let v = g.T.Emits.form in
    on-ok c.make.result (λ last. module-by (context_of c.args.context.now) c.args.a c.in_ok-b.b
    (boxed_by v c.args.around.now) c.args.name.now (body_by v c.args.body.now.value) c.args.code.now c.scope.new.code
    c.does.new.self c.make.new.code c.in_ok-b.ensures c.in_ok-scope.ensures c.in_ok-does.ensures last) c.make.ensures
