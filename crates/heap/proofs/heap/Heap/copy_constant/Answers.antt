use Rattle.std.proofs.Common.{ap, ◌∙◌}
use Rattle.std.specs.Prelude.{Option}
use Rattle.rb_value.specs.declared.value.SymId.{SymId}
use Rattle.rb_value.specs.declared.value.Value.{Value}
use Rattle.heap.specs.Copies.{with_constant}
use Rattle.heap.proofs.Copied.{store_left}
use Rattle.heap.proofs.heap.Heap.copy_constant.Goals as goal

pub returns : goal.returns
returns c = store_left c.args.self.now c.set_constant_in.new.self _ _ c.in_ok-set_constant_in.ensures.answers
    ∙ ap (λ (constant : Option (SymId × Value)). with_constant c.args.self.now.store c.args.made constant) c.in-Some.ensures
