use Rattle.local_laws.proofs.Keeping.{main_begun, class_begun, method_begun, block_begun, assigned}
use Rattle.local_laws.proofs.laws_of_variables.Goals as goal

pub returns : goal.returns
returns c = record {
  main = main_begun;
  class = class_begun;
  method = method_begun;
  block = block_begun;
  kept = assigned;
}
