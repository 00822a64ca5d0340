use Rattle.std.proofs.Common.{ap, ◌∙◌}
use Rattle.ir_core.specs.PartsBy.{core_by, items_by, receiver_by}
use Rattle.gen_parts.specs.Emission.{with_piece, here}
use Rattle.gen_forms.specs.Gen.{gen}
use Rattle.gen_forms.specs.Around.{context_of}
use Rattle.gen_forms.proofs.Chains.{on-ok}
use Rattle.gen_forms.proofs.Calling.{block-called}
use Rattle.gen_forms.proofs.calls.block_call.Goals as goal

pub returns : goal.returns
returns g c =
    let v = g.T.Emits.form in
    let around = context_of c.args.context.now in
    let given = c.pass.new.code in
    let register = c.in_ok-block_register.field-0 in
    on-ok c.does.result (λ last. block-called around c.args.a register c.in_ok-symbol.field-0
    (receiver_by v c.args.receiver.now) c.args.name.now (items_by v c.args.items.now.items)
    (core_by v c.args.block.now) c.in_ok-passing.passing c.args.code.now c.receive.new.code given c.emit.new.code
    c.does.new.self c.send_block.result c.in_ok-passing.ensures c.in_ok-receive.ensures c.in_ok-pass.ensures
    c.in_ok-block_register.ensures
    (c.in_ok-emit.ensures ∙ ap (λ t. with_piece given (gen around (here given) register (v t))) c.deref.ensures)
    c.in_ok-symbol.ensures c.send_block.ensures last) c.does.ensures
