use Rattle.std.proofs.Common.{◌≡◌, List, ◌∷◌, ap, subst, ◌∙◌}
use Rattle.std.specs.Prelude.{IfOk}
use Rattle.rite_code.specs.declared.code.Irep.{Irep}
use Rattle.ir_core.specs.PartsBy.{body_by}
use Rattle.scope_resolver.specs.Layout.{Slots, seen_around}
use Rattle.gen_forms.specs.Around.{context_of}
use Rattle.gen_forms.proofs.Wholes.{assembled-coded, opening-seen}
use Rattle.gen_forms.proofs.bodies.bodies_of.Goals as goal

pub returns : goal.returns
returns g c =
    let b = body_by g.T.Emits.form c.args.body.now in
    let around = c.args.scopes.now in
    let tally = c.in_ok-tally.tally in
    let layout = c.in_ok-layout.layout in
    let context = context_of c.opening-context.result in
    let opens = opening-seen c.args.kind b around c.in_ok-seen.seen.items
    c.as_slice.result.now tally context c.opening-context.ensures
    c.as_slice.ensures.value
    (c.in_ok-seen.ensures ∙ ap (λ (z : Slots). z ∷ seen_around c.args.kind around) c.in_ok-own.ensures) in
    let same = assembled-coded c.args.kind around c.args.number b tally layout context c.in_ok-code.code.piece
    c.in_ok-tally.ensures c.in_ok-layout.ensures opens c.in_ok-code.ensures in
    subst (λ (k : List Irep). IfOk c.finished.result (λ bodies. bodies ≡ k)) same c.finished.ensures
