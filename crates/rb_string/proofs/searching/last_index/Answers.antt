use Rattle.rb_string.proofs.Searches.{last_value}
use Rattle.rb_string.proofs.searching.last_index.Goals as goal

pub returns-clause-value : goal.returns-clause-value
returns-clause-value c = last_value c.args.text.now c.args.other.now c.rfind.result c.rfind.ensures
