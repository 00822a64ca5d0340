use Rattle.std.proofs.Common.{◌++◌, ap, ◌∙◌}
use Rattle.ir_core.specs.PartsBy.{core_by}
use Rattle.gen_parts.specs.Emission.{with_piece, here}
use Rattle.gen_forms.specs.Gen.{in_turn, starts}
use Rattle.gen_forms.specs.Open.{forms_in}
use Rattle.gen_forms.specs.Around.{context_of}
use Rattle.gen_forms.proofs.Chains.{on-ok}
use Rattle.gen_forms.proofs.Marking.{jumps-led}
use Rattle.gen_forms.proofs.bodies.with_jumps.Goals as goal

pub returns : goal.returns
returns g c =
    let v = g.T.Emits.form in
    let around = context_of c.args.context.now in
    let held = c.hold_jumps.new.code in
    let r = c.args.a in
    let jumps = c.in_ok-jumps.jumps in
    let taken = c.in_ok-emit_started.ensures.code
    ∙ ap (λ x. with_piece held (in_turn around (here held) r (forms_in (v x)))) c.deref.ensures in
    let marked = c.in_ok-emit_started.ensures.starts
    ∙ ap (λ x. c.new-starts.result.items ++ starts around (here held) r jumps (forms_in (v x))) c.deref.ensures in
    on-ok c.lead.result (λ last. jumps-led around r c.args.optional jumps c.in_ok-first.first
    (core_by v c.args.core.now) c.new-starts.result.items c.emit_started.new.starts.items c.as_slice.result.now
    c.args.code.now held c.emit_started.new.code c.lead.new.self c.requires c.in_ok-jumps.ensures
    c.in_ok-first.ensures c.new-starts.ensures.items c.in_ok-hold_jumps.ensures taken marked
    c.as_slice.ensures.value last) c.lead.ensures
