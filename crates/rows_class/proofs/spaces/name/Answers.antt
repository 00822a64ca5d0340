use Rattle.std.proofs.Common.{ap}
use Rattle.std.specs.Prelude.{Option}
use Rattle.rb_value.specs.declared.value.SymId.{SymId}
use Rattle.rows_class.specs.Spaces.{name, name_by, text}
use Rattle.rows_class.proofs.Answering.{same_answer}
use Rattle.rows_class.proofs.spaces.name.Goals as goal

pub returns-in-Some : goal.returns-in-Some
returns-in-Some c =
    same_answer c.args.heap.now c.text.new.heap c.text.result (text c.args.space) (name c.args.space)
    (ap (λ (n : Option SymId). name_by c.args.space c.args.heap.now.store n) c.in-Some.ensures) c.text.ensures
