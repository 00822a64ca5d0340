use Rattle.ir_core.specs.PartsBy.{core_by}
use Rattle.gen_forms.proofs.Chains.{if-ok}
use Rattle.gen_forms.proofs.Wholes.{slots-within}
use Rattle.gen_forms.proofs.bodies.slots_of_body.Goals as goal

pub returns : goal.returns
returns g c =
    let b = c.args.body.now in
    if-ok c.new.result (λ slots h. slots-within c.args.kind b.parameters b.locals.items
    (core_by g.T.Emits.form b.form) c.scope_of-scope.result slots
    c.scope_of-scope.ensures.kind c.scope_of-scope.ensures.parameters c.scope_of-scope.ensures.locals h)
    c.new.ensures
