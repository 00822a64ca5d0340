-- The programs, and their two runs.
use Rattle.std.proofs.Common.{refl}
use Rattle.gen_parts.specs.Pieces.{past, behind, nothing, both, puts}
use Rattle.gen_parts.specs.Assembly.{assembled, instruction_before}
use Rattle.gen_forms.specs.Open.{coded}
use Rattle.def_eval.proofs.Running.{run as run_source}
use Rattle.def_machine.proofs.Running.{run as run_code}
use Rattle.step_laws.specs.Example.{countdown, gatherer, IsWitness, IsPlainWitness}

pub witness : IsWitness countdown
unfolding coded assembled both puts past behind nothing instruction_before run_source run_code
witness = record {
  program = refl;
  within = refl;
  simple = ((tt, tt), (((tt, (tt, tt), refl, refl), (((tt, tt), refl, refl), (((tt, (tt, tt), refl, refl), tt), tt))), tt));
  evaluates = refl;
  runs = refl;
}

pub gathers : IsPlainWitness gatherer
unfolding coded assembled both puts past behind nothing instruction_before run_source run_code
gathers = record {
  program = refl;
  within = refl;
  plain = (
    (tt, ((tt, tt), tt)),
    (
      (tt, tt, tt),
      (
        (tt, tt),
        (
          (tt, ((tt, (tt, tt), tt, tt), ((((tt, (tt, tt), tt, tt), tt, tt), tt), (tt, tt)))),
          (
            (((tt, (tt, tt), tt, tt), (tt, ((tt, (tt, tt)), tt))), tt, tt),
            ((tt, (tt, tt), tt, tt), tt),
          ),
        ),
      ),
    ),
  );
  evaluates = refl;
  runs = refl;
}
