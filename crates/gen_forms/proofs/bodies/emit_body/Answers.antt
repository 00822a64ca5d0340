use Rattle.ir_core.specs.PartsBy.{body_by}
use Rattle.gen_forms.specs.Around.{context_of}
use Rattle.gen_forms.proofs.Wholes.{emitted}
use Rattle.gen_forms.proofs.bodies.emit_body.Goals as goal

pub returns : goal.returns
returns g c =
    emitted (context_of c.args.context.now) c.args.a c.args.number c.in_ok-first.first c.args.kind
    (body_by g.T.Emits.form c.args.body.now) c.end.result c.new-code.result c.enter.new.code c.does.new.self
    c.in_ok-first.ensures c.new-code.ensures c.in_ok-enter.ensures c.end.ensures c.in_ok-does.ensures
