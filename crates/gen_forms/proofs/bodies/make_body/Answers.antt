use Rattle.ir_core.specs.PartsBy.{body_by}
use Rattle.gen_forms.specs.Around.{context_of}
use Rattle.gen_forms.proofs.Chains.{on-ok}
use Rattle.gen_forms.proofs.Making.{made-so}
use Rattle.gen_forms.proofs.bodies.make_body.Goals as goal

pub returns : goal.returns
returns g c =
    on-ok c.put_into.result (λ last. made-so c.args.maker (context_of c.args.context.now) c.args.a
    (body_by g.T.Emits.form c.args.body.now) c.in_ok-spot.spot c.kind.result c.operation.result
    c.in_ok-bodies.bodies c.args.code.now c.put_into.new.code c.in_ok-spot.ensures c.kind.ensures
    c.in_ok-bodies.ensures c.operation.ensures last) c.put_into.ensures
