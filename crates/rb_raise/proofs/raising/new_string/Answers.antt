use Rattle.std.proofs.Common.{rules}
use Rattle.rb_raise.proofs.Strings.{keeps_string}
use Rattle.rb_raise.proofs.raising.new_string.Goals as goal

pub returns-clause-keeps : goal.returns-clause-keeps
returns-clause-keeps c = keeps_string c.args.st.now _ c.args.bytes c.requires (search rules) (search rules)
