use Rattle.parser_laws.proofs.Witness.{example_derived, method_derived}
use Rattle.parser_laws.proofs.ListWitness.{list_example_derived}
use Rattle.parser_laws.proofs.CommandWitness.{command_example_derived}
use Rattle.parser_laws.proofs.ChainWitness.{chain_example_derived}
use Rattle.parser_laws.proofs.JumpWitness.{jump_example_derived}
use Rattle.parser_laws.proofs.a_text_is_derived.Goals as goal

pub returns : goal.returns
returns c = record {
  assignment = example_derived;
  method = method_derived;
  several = list_example_derived;
  command =
      command_example_derived;
  chain = chain_example_derived;
  jump = jump_example_derived;
}
