-- The program with an `else` is a plain one, and its two runs.
use Rattle.std.proofs.Common.{refl}
use Rattle.gen_parts.specs.Pieces.{past, behind, nothing, both, puts, makes}
use Rattle.gen_parts.specs.Assembly.{assembled, instruction_before}
use Rattle.gen_forms.specs.Open.{coded}
use Rattle.def_eval.proofs.Running.{run as run_source}
use Rattle.def_machine.proofs.Running.{run as run_code}
use Rattle.step_laws.specs.Otherwise.{leaver, IsElseWitness}

pub leaves_it : IsElseWitness leaver
unfolding coded assembled both puts makes past behind nothing instruction_before run_source run_code
leaves_it = record {
  program = refl;
  within = refl;
  plain = (tt, (tt, (((tt, tt), tt, tt), (tt, tt))));
  evaluates = refl;
  runs = refl;
}
