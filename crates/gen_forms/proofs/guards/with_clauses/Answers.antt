use Rattle.std.proofs.Common.{ap, ◌∙◌}
use Rattle.ir_core.specs.PartsBy.{core_by, clauses_by, boxed_by}
use Rattle.gen_parts.specs.Emission.{with_piece, here}
use Rattle.gen_forms.specs.Gen.{handle}
use Rattle.gen_forms.specs.Around.{context_of}
use Rattle.gen_forms.proofs.Chains.{on-ok}
use Rattle.gen_forms.proofs.Guarding.{rescuing}
use Rattle.gen_forms.proofs.guards.with_clauses.Goals as goal

pub returns : goal.returns
returns g c =
    let v = g.T.Emits.form in
    let begin = c.args.begin.now in
    let inside = context_of c.within_clause-inside.result in
    let before = c.does.new.self in
    let handled = c.in_ok-handle.ensures
    ∙ ap (λ cs. with_piece before (handle inside (here before) c.args.a (clauses_by v cs))) c.as_slice.ensures.value in
    on-ok c.land.result (λ last. rescuing (context_of c.args.context.now) inside c.args.a c.in_ok-exception.exception
    c.in_ok-start.start c.in_ok-end.end c.in_ok-target.target c.in_ok-entry.entry c.in_ok-over.over
    (core_by v begin.body) (clauses_by v begin.clauses.items) (boxed_by v begin.otherwise) c.args.code.now
    c.hold_catch.new.self c.body_and_otherwise.new.code c.hold.new.self c.land_catch.new.self before
    c.handle.new.code c.land.new.self c.in_ok-start.ensures c.in_ok-entry.ensures.number c.in_ok-entry.ensures.taken
    c.in_ok-end.ensures.code c.in_ok-end.ensures.end c.in_ok-over.ensures.number c.in_ok-over.ensures.taken
    c.in_ok-target.ensures c.land_catch.ensures c.in_ok-exception.ensures c.in_ok-does.ensures
    c.within_clause-inside.ensures handled last) c.land.ensures
