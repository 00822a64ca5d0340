use Rattle.std.proofs.Common.{◌<◌, ◌∙◌, sym, length, get_or, arith}
use Rattle.scope_leaps.specs.declared.leap.Leap.{Leap}
use Rattle.scope_leaps.proofs.Levels.{none_left, one_level, over_two}
use Rattle.scope_leaps.proofs.leap.leap_of.Goals as goal

pub returns-in_default-clause-leads : goal.returns-in_default-clause-leads
returns-in_default-clause-leads c = λ outers all e. none_left outers 0 c.args.number (omega arith)

pub returns-then-near-far-clause-leads : goal.returns-then-near-far-clause-leads
returns-then-near-far-clause-leads c = λ outers all e.
    let none : Leap = record { levels = 0; body = 0 } in
    let outer = c.in-Some.outer in
    let near = get_or c.args.leaps.now outer none in
    let far = get_or c.args.leaps.now near.body none in
    let before : outer < c.args.number = rw c.in-Some.is at c.requires.before in
    let there : outer < length c.args.leaps.now = omega (arith, before, c.requires.number) in
    let low = c.requires.low outer none there in
    let nearer : near.body < length c.args.leaps.now = omega (arith, low, there) in
    over_two outers c.args.number outer near far (sym e ∙ c.in-Some.is) (all outer none there)
    (all near.body none nearer)

pub returns-else-near-far-clause-leads : goal.returns-else-near-far-clause-leads
returns-else-near-far-clause-leads c = λ outers all e.
    one_level outers c.args.number ∙ sym e ∙ c.in-Some.is
