use Rattle.std.proofs.Common.{ℕ, ap, ◌∙◌}
use Rattle.ir_core.specs.PartsBy.{body_by}
use Rattle.gen_parts.specs.Emission.{with_piece, here}
use Rattle.gen_forms.specs.declared.bodies.Maker.TheVariants as maker
use Rattle.gen_forms.specs.Open.{made}
use Rattle.gen_forms.specs.Around.{context_of}
use Rattle.gen_forms.proofs.Chains.{on-ok}
use Rattle.gen_forms.proofs.bodies.define.Goals as goal

pub returns : goal.returns
returns g c =
    let e = c.args.code.now in
    on-ok c.make.result (λ last. last ∙ ap (λ (n : ℕ). with_piece e (made (maker.Method n)
    (context_of c.args.context.now) (here e) c.args.a (body_by g.T.Emits.form c.args.body.now.value)))
    c.in_ok-method.ensures) c.make.ensures
