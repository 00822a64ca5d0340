use Rattle.ir_core.specs.PartsBy.{core_by, body_by}
use Rattle.gen_forms.specs.Around.{context_of}
use Rattle.gen_forms.proofs.Chains.{on-ok}
use Rattle.gen_forms.proofs.Making.{opened-by}
use Rattle.gen_forms.proofs.definitions.singleton_class.Goals as goal

pub returns : goal.returns
returns g c =
    let v = g.T.Emits.form in
    on-ok c.make.result (λ last. opened-by (context_of c.args.context.now) c.args.a (core_by v c.args.core.now)
    (body_by v c.args.body.now.value) c.args.code.now c.then_do.new.code c.make.new.code c.in_ok-then_do.ensures last)
    c.make.ensures
