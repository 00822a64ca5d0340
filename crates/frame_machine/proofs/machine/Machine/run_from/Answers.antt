use Rattle.std.proofs.Common.{refl, ◌∙◌, arith}
use Rattle.frame_machine.specs.declared.machine.Standing.TheVariants as stands
use Rattle.frame_machine.proofs.Runs.{begins, goes_on}
use Rattle.frame_machine.proofs.machine.Machine.run_from.Goals as goal

pub pauses-init : goal.pauses-init
pauses-init g c = record {
  apart = (refl, refl);
  goes = begins c.args.self.now c.args.at c.args.budget (g.O.Sink.taken c.args.out.now);
  fewer = omega arith;
}

pub pauses-preserved : goal.pauses-preserved
pauses-preserved g c = record {
  apart = (
    c.in_ok-standing.ensures.apart.0 ∙ c.pauses.invariant.apart.0,
    c.in_ok-standing.ensures.apart.1 ∙ c.pauses.invariant.apart.1,
  );
  goes = goes_on c.args.self.now c.pauses.self c.go_on.new.self c.args.at c.pauses.at c.args.budget
      c.pauses.left c.in_ok-standing.rest c.in_ok-standing.standing (stands.At c.in-At.next) (g.O.Sink.taken c.args.out.now)
      (g.O.Sink.taken c.pauses.out) (g.O.Sink.taken c.go_on.new.out) c.pauses.invariant.goes
      c.in_ok-standing.ensures.goes c.in-At.is;
  fewer = omega (
    arith,
    c.in_ok-standing.ensures.fewer,
    c.pauses.invariant.fewer,
    c.pauses-test.true,
    c.if-left-eq0.false,
  );
}

pub returns-in_default : goal.returns-in_default
returns-in_default g c = record {
  apart = (
    c.in_ok-standing.ensures.apart.0 ∙ c.pauses.invariant.apart.0,
    c.in_ok-standing.ensures.apart.1 ∙ c.pauses.invariant.apart.1,
  );
  goes = goes_on c.args.self.now c.pauses.self c.go_on.new.self c.args.at c.pauses.at c.args.budget
      c.pauses.left c.in_ok-standing.rest c.in_ok-standing.standing c.in_ok-standing.standing (g.O.Sink.taken c.args.out.now)
      (g.O.Sink.taken c.pauses.out) (g.O.Sink.taken c.go_on.new.out) c.pauses.invariant.goes
      c.in_ok-standing.ensures.goes refl;
  spends = λ at is. absurd (c.in_default.not-At at is);
}
