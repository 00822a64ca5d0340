use Rattle.ir_core.specs.PartsBy.{boxed_by, body_by}
use Rattle.gen_forms.specs.Around.{context_of}
use Rattle.gen_forms.proofs.Chains.{on-ok}
use Rattle.gen_forms.proofs.Making.{class-by}
use Rattle.gen_forms.proofs.definitions.class.Goals as goal

pub returns : goal.returns
returns g c =
    let v = g.T.Emits.form in
    on-ok c.make.result (λ last. class-by (context_of c.args.context.now) c.args.a c.in_ok-b.b c.in_ok-next.next
    (boxed_by v c.args.around.now) c.args.name.now (boxed_by v c.args.superclass.now) (body_by v c.args.body.now.value)
    c.args.code.now c.scope.new.code c.parent.new.code c.does.new.self c.make.new.code c.in_ok-b.ensures
    c.in_ok-scope.ensures c.in_ok-next.ensures c.in_ok-parent.ensures c.in_ok-does.ensures last) c.make.ensures
