use Rattle.std.proofs.Common.{◌≡◌, ℕ, length, ap, ◌∙◌, sym}
use Rattle.std.proofs.lemmas.List.{length-map}
use Rattle.rite_code.specs.declared.operation.Operation.TheVariants as op
use Rattle.ir_core.specs.PartsBy.{core_by}
use Rattle.ir_core.specs.View.{local_of, parameters_of}
use Rattle.gen_parts.specs.declared.emitter.Spot.{Spot}
use Rattle.gen_parts.specs.declared.line.Line.TheVariants as line
use Rattle.gen_parts.specs.Pieces.{behind, does}
use Rattle.gen_parts.specs.Emission.{with_piece, here}
use Rattle.gen_parts.proofs.Laws.{here-with, past-puts}
use Rattle.gen_forms.specs.Gen.{parameters}
use Rattle.gen_forms.specs.Open.{with_defaults}
use Rattle.gen_forms.specs.Around.{context_of}
use Rattle.gen_forms.proofs.Chains.{on-ok}
use Rattle.gen_forms.proofs.Turns.{ok-then}
use Rattle.gen_forms.proofs.bodies.with_parameters.Goals as goal

pub returns : goal.returns
returns g c =
    let v = g.T.Emits.form in
    let around = context_of c.args.context.now in
    let e = c.args.code.now in
    let f = c.does.new.self in
    let r = c.args.a in
    let listed = parameters_of c.args.body.now.parameters in
    let enters = op.Enter (parameters listed) in
    let form = core_by v c.args.body.now.form in
    let first : f ≡ with_piece e (does enters) =
    c.in_ok-does.ensures ∙ ap (λ p. with_piece e (does (op.Enter p))) c.in_ok-parameters.ensures in
    let at : here f ≡ behind (here e) =
    ap here first ∙ (here-with e (does enters) ∙ past-puts (here e) (line.Does enters)) in
    ok-then c.with_defaults.result e f c.with_defaults.new.code (does enters)
    (with_defaults around (behind (here e)) r (length listed.optional) form) first
    (on-ok c.with_defaults.result (λ last. last
    ∙ (ap (λ (s : Spot). with_piece f (with_defaults around s r c.len-optional.result form)) at
    ∙ ap (λ (n : ℕ). with_piece f (with_defaults around (behind (here e)) r n form)) (c.len-optional.ensures
    ∙ (c.args.body.now.parameters.optional.ok.0
    ∙ sym (length-map c.args.body.now.parameters.optional.items local_of)))))
    c.with_defaults.ensures)
