use Rattle.std.proofs.Common.{◌∙◌}
use Rattle.rb_refusal.proofs.Writing.{says_same}
use Rattle.code_listing.proofs.instructions.write_instruction.Goals as goal

pub returns : goal.returns
returns g c = says_same _ _ _ _ _ (c.as_slice.ensures ∙ c.put_instruction.ensures) c.write_text.ensures
