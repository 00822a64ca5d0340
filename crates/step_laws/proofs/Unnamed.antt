-- The program with parameters that have no name is a plain one, and its two runs.
use Rattle.std.proofs.Common.{refl, arith}
use Rattle.gen_parts.specs.Pieces.{past, behind, nothing, both, puts, makes}
use Rattle.gen_parts.specs.Assembly.{assembled, instruction_before}
use Rattle.gen_forms.specs.Open.{coded}
use Rattle.def_eval.proofs.Running.{run as run_source}
use Rattle.def_machine.proofs.Running.{run as run_code}
use Rattle.ir_core.specs.CoreForm.{form_of}
use Rattle.step_laws.specs.Plain.{IsPlainBody, IsPlain, IsPlainProgram}
use Rattle.step_laws.specs.Unnamed.{showing_each, last, adding_all, walker, IsUnnamedWitness}

shows : IsPlainBody showing_each
shows = record {
  single = record { one_rest = omega arith; one_block = omega arith };
  defaults = refl;
  seen = (tt, tt);
}

lasts : IsPlainBody last
lasts = record {
  single = record { one_rest = omega arith; one_block = omega arith };
  defaults = refl;
  seen = (tt, (tt, tt));
}

adds : IsPlainBody adding_all
adds = record {
  single = record { one_rest = omega arith; one_block = omega arith };
  defaults = refl;
  seen = (tt, (tt, (tt, (tt, tt))));
}

shows_plain : IsPlain (form_of showing_each)
shows_plain = (tt, (((tt, tt), tt, tt), tt))

adds_plain : IsPlain (form_of adding_all)
adds_plain = (
  (tt, (tt, (tt, (tt, tt)))),
  (((((tt, (tt, tt), tt, tt), (tt, tt), tt, tt), tt), tt, tt), tt),
)

walker_plain : IsPlainProgram walker
walker_plain = (
  ((tt, (tt, tt)), tt, tt, (shows, shows_plain)),
  (
    (lasts, tt),
    (
      ((((tt, (tt, tt)), (tt, tt)), tt), tt, tt, (adds, adds_plain)),
      (((((tt, (tt, tt)), tt, tt), tt), tt, tt), tt),
    ),
  ),
)

pub walks : IsUnnamedWitness walker
unfolding coded assembled both puts makes past behind nothing instruction_before run_source run_code
walks = record {
  program = refl;
  within = refl;
  plain = walker_plain;
  evaluates = refl;
  runs = refl;
}
