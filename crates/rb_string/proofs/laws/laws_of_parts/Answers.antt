use Rattle.rb_string.proofs.PartLaws.{joined_parts, plain_expansion, rejoined_parts}
use Rattle.rb_string.proofs.laws.laws_of_parts.Goals as goal

pub returns : goal.returns
returns c = record {
  rejoined = rejoined_parts;
  substituted = joined_parts;
  plain = plain_expansion;
}
