use Rattle.std.proofs.Common.{◌≡◌, subst}
use Rattle.std.specs.Prelude.{IfOk}
use Rattle.ir_core.specs.PartsBy.{core_by}
use Rattle.gen_forms.specs.declared.layout.Layout.{Layout}
use Rattle.gen_forms.proofs.Wholes.{laid-within}
use Rattle.gen_forms.proofs.bodies.body_layout.Goals as goal

pub returns : goal.returns
returns g c =
    let b = c.args.body.now in
    let same = laid-within c.args.kind b.parameters b.locals.items (core_by g.T.Emits.form b.form)
    c.scope_of-scope.result c.args.tally.now c.in_ok-registers.registers c.scope_of-scope.ensures.kind
    c.scope_of-scope.ensures.parameters c.scope_of-scope.ensures.locals c.in_ok-registers.ensures in
    subst (λ (k : Layout). IfOk c.layout_of.result (λ l. l ≡ k)) same c.layout_of.ensures
