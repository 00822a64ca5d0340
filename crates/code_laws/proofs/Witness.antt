-- In the code of a `break` that has nowhere to go a check fails.
use Rattle.std.proofs.Common.{◌≡◌, true, refl}
use Rattle.std.specs.Prelude.{is_some}
use Rattle.rite_code.specs.Code.{program}
use Rattle.rite_code.specs.Spelling.{encoding, decode_wide_at, front, wide_front, narrow_front}
use Rattle.rite_code.specs.Table.{opcodes, opcode_of}
use Rattle.code_outline.specs.Layout.{standings, layout, end_of}
use Rattle.code_outline.specs.Makers.{made_in, made_from, first_maker, maker_of}
use Rattle.code_verifier.specs.Checks.{first, cause_of, body_bad, bodies_bad, first_bad}
use Rattle.gen_parts.specs.Pieces.{both, puts}
use Rattle.gen_parts.specs.Assembly.{assembled, instruction_before}
use Rattle.gen_forms.specs.Open.{coded}
use Rattle.gen_forms.specs.Making.{coded_program}
use Rattle.code_laws.specs.Example as example

pub stray_fails : is_some (first_bad (program 2 (coded_program example.stray_word))) ≡ true
unfolding coded first_bad bodies_bad body_bad first cause_of layout standings end_of maker_of made_from made_in
    first_maker assembled both puts instruction_before encoding decode_wide_at front wide_front narrow_front opcodes
    opcode_of
stray_fails = refl
