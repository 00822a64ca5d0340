use Rattle.code_laws.proofs.Binding.{main_knows, class_knows, method_knows, block_knows}
use Rattle.code_laws.proofs.Knowing.{form_known}
use Rattle.code_laws.proofs.names_are_bound.Goals as goal

pub returns : goal.returns
returns c = record {
  forms = form_known;
  main = main_knows;
  class = class_knows;
  method = method_knows;
  block = block_knows;
}
