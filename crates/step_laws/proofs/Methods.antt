-- The programs with methods and blocks: they are such programs, and their two runs.
use Rattle.std.proofs.Common.{refl, arith}
use Rattle.std.specs.Prelude.{codes}
use Rattle.gen_parts.specs.Pieces.{past, behind, nothing, both, puts, makes}
use Rattle.gen_parts.specs.Assembly.{assembled, instruction_before}
use Rattle.gen_forms.specs.Open.{coded}
use Rattle.def_eval.proofs.Running.{run as run_source}
use Rattle.def_machine.proofs.Running.{run as run_code}
use Rattle.ir_core.specs.CoreForm.{form_of}
use Rattle.step_laws.specs.Passed.{a_literal, a_local, a_symbol}
use Rattle.step_laws.specs.Plain.{IsPlainBody, IsPlain, IsPlainProgram}
use Rattle.step_laws.specs.Example.{chooser, IsMethodWitness, least, after, teller, hand, showing, visitor, IsBlockWitness, passer, pass, printer, yielder, IsYieldWitness, finder, stopper, seek, seeker, IsExitWitness, adder, defaulter, IsDefaultWitness, doubler, one_alone, keeper, IsValueWitness, step, summing, counting, IsClosureWitness, keep, counter, twice, doubling, nester, IsNestingWitness, adding, pick, picker, IsLambdaWitness, over, hander, IsHandingWitness, h, each_of, through, total, spreader, IsSpreadWitness, putter, overrider, IsSuperWitness}

least_body : IsPlainBody least
least_body = record {
  single = record { one_rest = omega arith; one_block = omega arith };
  defaults = refl;
  seen = (tt, (tt, tt));
}

after_body : IsPlainBody after
after_body = record {
  single = record { one_rest = omega arith; one_block = omega arith };
  defaults = refl;
  seen = (tt, (tt, (tt, tt)));
}

least_plain : IsPlain (form_of least)
least_plain = ((((tt, (tt, tt), tt, tt), tt, tt), tt), (tt, tt))

after_plain : IsPlain (form_of after)
after_plain = (((tt, (tt, tt)), tt, tt), ((tt, (tt, tt), tt, tt), tt), tt, tt)

chooser_plain : IsPlainProgram chooser
chooser_plain =
    ((least_body, least_plain), ((after_body, after_plain), (((((tt, (tt, (tt, tt))), tt, tt), tt), tt, tt), tt)))

pub chooses : IsMethodWitness chooser
unfolding coded assembled both puts makes past behind nothing instruction_before run_source run_code
chooses = record {
  program = refl;
  within = refl;
  plain = chooser_plain;
  evaluates = refl;
  runs = refl;
}

told : IsPlainBody teller
told = record {
  single = record { one_rest = omega arith; one_block = omega arith };
  defaults = refl;
  seen = (tt, (tt, tt));
}

told_plain : IsPlain (form_of teller)
told_plain = ((tt, (tt, tt), tt, tt), (((tt, tt), tt, tt), tt))

-- a block in a block
shown : IsPlainBody showing
shown = record {
  single = record { one_rest = omega arith; one_block = omega arith };
  defaults = refl;
  seen = (tt, tt);
}

shown_plain : IsPlain (form_of showing)
shown_plain = ((tt, (tt, tt)), tt, tt, (told, told_plain))

handed : IsPlainBody hand
handed = record {
  single = record { one_rest = omega arith; one_block = omega arith };
  defaults = refl;
  seen = (tt, (tt, tt));
}

visitor_plain : IsPlainProgram visitor
visitor_plain = (
  (handed, (tt, (tt, tt), tt, tt)),
  (
    ((tt, tt), tt, (told, told_plain)),
    (((tt, tt), tt, tt, (shown, shown_plain)), tt),
  ),
)

pub visits : IsBlockWitness visitor
unfolding coded assembled both puts makes past behind nothing instruction_before run_source run_code
visits = record {
  program = refl;
  within = refl;
  plain = visitor_plain;
  evaluates = refl;
  runs = refl;
}

-- a block that yields in a method that yields
passes : IsPlainBody passer
passes = record {
  single = record { one_rest = omega arith; one_block = omega arith };
  defaults = refl;
  seen = (tt, tt);
}

passing : IsPlainBody pass
passing = record {
  single = record { one_rest = omega arith; one_block = omega arith };
  defaults = refl;
  seen = (tt, tt);
}

prints : IsPlainBody printer
prints = record {
  single = record { one_rest = omega arith; one_block = omega arith };
  defaults = refl;
  seen = (tt, tt);
}

pass_plain : IsPlain (form_of pass)
pass_plain = (tt, (((tt, tt), tt, tt, (passes, (tt, tt))), tt))

yielder_plain : IsPlainProgram yielder
yielder_plain =
    ((passing, pass_plain), (((tt, tt), tt, (prints, ((tt, tt), tt, tt))), tt))

pub hands_on : IsYieldWitness yielder
unfolding coded assembled both puts makes past behind nothing instruction_before run_source run_code
hands_on = record {
  program = refl;
  within = refl;
  plain = yielder_plain;
  evaluates = refl;
  runs = refl;
}

-- blocks that a next, a return and a break leave
finds : IsPlainBody finder
finds = record {
  single = record { one_rest = omega arith; one_block = omega arith };
  defaults = refl;
  seen = (tt, tt);
}

stops : IsPlainBody stopper
stops = record {
  single = record { one_rest = omega arith; one_block = omega arith };
  defaults = refl;
  seen = (tt, tt);
}

sought : IsPlainBody seek
sought = record {
  single = record { one_rest = omega arith; one_block = omega arith };
  defaults = refl;
  seen = tt;
}

finds_plain : IsPlain (form_of finder)
finds_plain = ((((tt, (tt, tt), tt, tt), tt, tt), tt), (tt, tt))

stops_plain : IsPlain (form_of stopper)
stops_plain = (((tt, tt), tt, tt), (tt, tt))

seeker_plain : IsPlainProgram seeker
seeker_plain = (
  (sought, ((tt, (tt, (tt, tt))), tt, tt, (finds, finds_plain))),
  (
    (((tt, tt, tt), tt), tt, tt),
    (((tt, (tt, tt)), tt, tt, (stops, stops_plain)), tt),
  ),
)

pub seeks : IsExitWitness seeker
unfolding coded assembled both puts makes past behind nothing instruction_before run_source run_code
seeks = record {
  program = refl;
  within = refl;
  plain = seeker_plain;
  evaluates = refl;
  runs = refl;
}

-- a method whose second parameter is optional
added : IsPlainBody adder
added = record {
  single = record { one_rest = omega arith; one_block = omega arith };
  defaults = refl;
  seen = (tt, (tt, tt));
}

defaulter_plain : IsPlainProgram defaulter
defaulter_plain = (
  (added, (tt, ((tt, (tt, tt), tt, tt), tt))),
  (
    ((((tt, tt), tt, tt), tt), tt, tt),
    (((((tt, (tt, tt)), tt, tt), tt), tt, tt), tt),
  ),
)

pub takes_defaults : IsDefaultWitness defaulter
unfolding coded assembled both puts makes past behind nothing instruction_before run_source run_code
takes_defaults = record {
  program = refl;
  within = refl;
  plain = defaulter_plain;
  evaluates = refl;
  runs = refl;
}

-- what calls with blocks give is assigned and returned
doubles : IsPlainBody doubler
doubles = record {
  single = record { one_rest = omega arith; one_block = omega arith };
  defaults = refl;
  seen = (tt, tt);
}

alone : IsPlainBody one_alone
alone = record {
  single = record { one_rest = omega arith; one_block = omega arith };
  defaults = refl;
  seen = (tt, tt);
}

keeper_plain : IsPlainProgram keeper
keeper_plain = (
  (alone, ((tt, tt), tt, tt, (doubles, (tt, (tt, tt), tt, tt)))),
  (
    ((tt, tt), tt, tt, (doubles, (tt, (tt, tt), tt, tt))),
    (((tt, (((tt, tt), tt, tt), tt)), tt, tt), tt),
  ),
)

pub keeps_values : IsValueWitness keeper
unfolding coded assembled both puts makes past behind nothing instruction_before run_source run_code
keeps_values = record {
  program = refl;
  within = refl;
  plain = keeper_plain;
  evaluates = refl;
  runs = refl;
}

-- blocks that read and set locals of the bodies around them
steps : IsPlainBody step
steps = record {
  single = record { one_rest = omega arith; one_block = omega arith };
  defaults = refl;
  seen = tt;
}

sums : IsPlainBody summing
sums = record {
  single = record { one_rest = omega arith; one_block = omega arith };
  defaults = refl;
  seen = (tt, tt);
}

kept : IsPlainBody keep
kept = record {
  single = record { one_rest = omega arith; one_block = omega arith };
  defaults = refl;
  seen = (tt, tt);
}

counted : IsPlainBody counter
counted = record {
  single = record { one_rest = omega arith; one_block = omega arith };
  defaults = refl;
  seen = (tt, tt);
}

counter_plain : IsPlain (form_of counter)
counter_plain = (tt, ((tt, tt, (steps, (tt, (tt, tt), tt, tt))), tt))

counting_plain : IsPlainProgram counting
counting_plain = (
  (kept, tt),
  (
    (counted, counter_plain),
    (
      (tt, tt, tt),
      (
        (tt, tt, tt, tt),
        (
          tt,
          (
            ((tt, (tt, tt)), tt, tt, (sums, (tt, (tt, tt), tt, tt))),
            (((tt, ((tt, tt, tt, tt), tt)), tt, tt), tt),
          ),
        ),
      ),
    ),
  ),
)

pub counts : IsClosureWitness counting
unfolding coded assembled both puts makes past behind nothing instruction_before run_source run_code
counts = record {
  program = refl;
  within = refl;
  plain = counting_plain;
  evaluates = refl;
  runs = refl;
}

-- a block in an argument of a call and a definition, within branches of a loop
twice_body : IsPlainBody twice
twice_body = record {
  single = record { one_rest = omega arith; one_block = omega arith };
  defaults = refl;
  seen = (tt, tt);
}

walks : IsPlainBody doubling
walks = record {
  single = record { one_rest = omega arith; one_block = omega arith };
  defaults = refl;
  seen = (tt, tt);
}

nester_plain : IsPlainProgram nester
nester_plain = (
  tt,
  (
    (
      (tt, (tt, tt), tt, tt),
      (
        (
          (
            (tt, (tt, tt), tt, tt),
            (
              (((tt, (tt, tt)), tt, tt, (walks, ((((tt, tt), tt, tt), tt), tt, tt))), tt),
              tt,
              tt,
            ),
            tt,
          ),
          (twice_body, (tt, (tt, tt), tt, tt)),
        ),
        ((tt, (tt, tt), tt, tt), tt),
      ),
    ),
    tt,
  ),
)

pub nests : IsNestingWitness nester
unfolding coded assembled both puts makes past behind nothing instruction_before run_source run_code
nests = record {
  program = refl;
  within = refl;
  plain = nester_plain;
  evaluates = refl;
  runs = refl;
}

-- a lambda that a return leaves, and one that is called with a wrong count
adds : IsPlainBody adding
adds = record {
  single = record { one_rest = omega arith; one_block = omega arith };
  defaults = refl;
  seen = (tt, tt);
}

picks : IsPlainBody pick
picks = record {
  single = record { one_rest = omega arith; one_block = omega arith };
  defaults = refl;
  seen = (tt, (tt, tt));
}

pick_plain : IsPlain (form_of pick)
pick_plain = ((adds, ((tt, (tt, tt), tt, tt), (tt, tt))), (((tt, (tt, tt), tt, tt), (tt, tt), tt, tt), tt))

picker_plain : IsPlainProgram picker
picker_plain = (
  (picks, pick_plain),
  (
    ((((tt, tt), tt, tt), tt), tt, tt),
    (
      ((prints, ((tt, tt), tt, tt)), tt, tt, tt),
      tt,
    ),
  ),
)

pub calls_lambdas : IsLambdaWitness picker
unfolding coded assembled both puts makes past behind nothing instruction_before run_source run_code
calls_lambdas = record {
  program = refl;
  within = refl;
  plain = picker_plain;
  evaluates = refl;
  runs = refl;
}

-- a block that is handed on
overs : IsPlainBody over
overs = record {
  single = record { one_rest = omega arith; one_block = omega arith };
  defaults = refl;
  seen = (tt, tt);
}

hander_plain : IsPlainProgram hander
hander_plain = (
  (handed, (tt, (tt, tt), tt, tt)),
  (
    (overs, ((tt, tt), tt, tt, tt)),
    ((tt, tt, (prints, ((tt, tt), tt, tt))), (((((tt, tt), tt, tt), tt), tt, tt), tt)),
  ),
)

pub hands_blocks_on : IsHandingWitness hander
unfolding coded assembled both puts makes past behind nothing instruction_before run_source run_code
hands_blocks_on = record {
  program = refl;
  within = refl;
  plain = hander_plain;
  evaluates = refl;
  runs = refl;
}

-- arguments with splats, with and without a block
each_of_body : IsPlainBody each_of
each_of_body = record {
  single = record { one_rest = omega arith; one_block = omega arith };
  defaults = refl;
  seen = (tt, tt);
}

through_body : IsPlainBody through
through_body = record {
  single = record { one_rest = omega arith; one_block = omega arith };
  defaults = refl;
  seen = (tt, (tt, tt));
}

totals : IsPlainBody total
totals = record {
  single = record { one_rest = omega arith; one_block = omega arith };
  defaults = refl;
  seen = (tt, (tt, (tt, tt)));
}

total_plain : IsPlain (form_of total)
total_plain = ((((tt, (tt, tt), tt, tt), (tt, tt), tt, tt), tt), tt, tt)

spreader_plain : IsPlainProgram spreader
spreader_plain = (
  (each_of_body, (tt, tt)),
  (
    (through_body, ((tt, (tt, tt)), a_local h, tt)),
    (
      ((tt, ((tt, tt), tt)), a_literal total, (totals, total_plain)),
      (
        (
          (((tt, tt), tt), tt, tt),
          ((handed, (tt, (tt, tt), tt, tt)), ((((((tt, tt), tt), a_symbol (codes "to_s"), tt), tt), tt, tt), tt)),
        ),
        tt,
      ),
    ),
  ),
)

pub spreads : IsSpreadWitness spreader
unfolding coded assembled both puts makes past behind nothing instruction_before run_source run_code
spreads = record {
  program = refl;
  within = refl;
  plain = spreader_plain;
  evaluates = refl;
  runs = refl;
}

-- a method that calls the one above it
putters : IsPlainBody putter
putters = record {
  single = record { one_rest = omega arith; one_block = omega arith };
  defaults = refl;
  seen = (tt, (tt, tt));
}

overrider_plain : IsPlainProgram overrider
overrider_plain = ((putters, ((tt, (tt, tt)), a_local h, tt)), (((tt, tt), tt, tt), tt))

pub calls_above : IsSuperWitness overrider
unfolding coded assembled both puts makes past behind nothing instruction_before run_source run_code
calls_above = record {
  program = refl;
  within = refl;
  plain = overrider_plain;
  evaluates = refl;
  runs = refl;
}
