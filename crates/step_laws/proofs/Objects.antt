-- The program of classes and modules is a plain one, and its two runs.
use Rattle.std.proofs.Common.{refl, arith}
use Rattle.gen_parts.specs.Pieces.{past, behind, nothing, both, puts, makes}
use Rattle.gen_parts.specs.Assembly.{assembled, instruction_before}
use Rattle.gen_forms.specs.Open.{coded}
use Rattle.def_eval.proofs.Running.{run as run_source}
use Rattle.def_machine.proofs.Running.{run as run_code}
use Rattle.step_laws.specs.Plain.{IsPlainBody, IsPlain, IsPlainProgram}
use Rattle.step_laws.specs.Example.{printer}
use Rattle.step_laws.specs.Objects.{keeping, kit, making, side, square, squares, IsObjectWitness, handing, side_above, box, cube, cubes, IsInheritingWitness}

keeps : IsPlainBody keeping
keeps = record {
  single = record { one_rest = omega arith; one_block = omega arith };
  defaults = refl;
  seen = (tt, tt);
}

builds : IsPlainBody making
builds = record {
  single = record { one_rest = omega arith; one_block = omega arith };
  defaults = refl;
  seen = (tt, tt);
}

yields : IsPlainBody side
yields = record {
  single = record { one_rest = omega arith; one_block = omega arith };
  defaults = refl;
  seen = tt;
}

prints : IsPlainBody printer
prints = record {
  single = record { one_rest = omega arith; one_block = omega arith };
  defaults = refl;
  seen = (tt, tt);
}

kit_plain : IsPlain kit
kit_plain = (tt, (tt, tt, (keeps, tt)))

square_plain : IsPlain square
square_plain = (tt, tt, ((tt, builds, ((tt, tt), tt, tt)), ((yields, (tt, tt)), tt)))

squares_plain : IsPlainProgram squares
squares_plain = (
  kit_plain,
  (square_plain, (((tt, (tt, tt), tt, tt), tt, tt, (prints, ((tt, tt), tt, tt))), tt)),
)

pub has_objects : IsObjectWitness squares
unfolding coded assembled both puts makes past behind nothing instruction_before run_source run_code
has_objects = record {
  program = refl;
  within = refl;
  plain = squares_plain;
  evaluates = refl;
  runs = refl;
}

hands : IsPlainBody handing
hands = record {
  single = record { one_rest = omega arith; one_block = omega arith };
  defaults = refl;
  seen = (tt, tt);
}

asks : IsPlainBody side_above
asks = record {
  single = record { one_rest = omega arith; one_block = omega arith };
  defaults = refl;
  seen = tt;
}

box_plain : IsPlain box
box_plain = (tt, tt, ((keeps, tt), ((yields, (tt, tt)), tt)))

cube_plain : IsPlain cube
cube_plain = (tt, tt, ((hands, (refl, (tt, tt))), ((asks, (refl, tt)), tt)))

cubes_plain : IsPlainProgram cubes
cubes_plain = (
  box_plain,
  (cube_plain, (((tt, (tt, tt), tt, tt), tt, tt, (prints, ((tt, tt), tt, tt))), tt)),
)

pub inherits : IsInheritingWitness cubes
unfolding coded assembled both puts makes past behind nothing instruction_before run_source run_code
inherits = record {
  program = refl;
  within = refl;
  plain = cubes_plain;
  evaluates = refl;
  runs = refl;
}
