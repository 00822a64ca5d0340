use Rattle.std.proofs.Common.{append_assoc}
use Rattle.rb_refusal.proofs.Writing.{says_same}
use Rattle.rite_tool.proofs.sampling.tell_sample.Goals as goal

pub returns : goal.returns
returns g c = says_same _ _ _ _ _ (simp append_assoc (cc)) c.write_pieces.ensures
