use Rattle.std.proofs.Common.{refl, ◌∙◌, ap, sym, ◌≡◌, ℕ, arith, length}
use Rattle.std.specs.Prelude.{Some, None, Option, slice_get}
use Rattle.std.proofs.lemmas.Option.{slice_get-get_or, slice_get_past}
use Rattle.std.proofs.lemmas.Bool.{ltb-true, ltb-false}
use Rattle.rite_code.specs.Table.{opcode_of, opcodes}
use Rattle.rite_code.proofs.opcode.Opcode.from_number.Goals as goal

pub returns-then-index-lt73 : goal.returns-then-index-lt73
unfolding opcode_of opcodes
returns-then-index-lt73 c = sym (ap (λ (n : ℕ). slice_get opcodes n) (sym c.from-index.ensures)
    ∙ slice_get-get_or opcodes c.from-index.result _ (omega (arith, c.if-index-lt73.true)))

pub returns-else-index-lt73 : goal.returns-else-index-lt73
unfolding opcode_of opcodes
returns-else-index-lt73 c = sym (ap (λ (n : ℕ). slice_get opcodes n) (sym c.from-index.ensures)
    ∙ slice_get_past opcodes c.from-index.result (omega (arith, c.if-index-lt73.false)))
