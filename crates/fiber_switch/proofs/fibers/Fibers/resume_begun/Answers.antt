use Rattle.std.proofs.Common.{rules, ◌≡◌, ◌<◌, length, refl, ap, sym}
use Rattle.std.specs.Prelude.{Some}
use Rattle.std.specs.List.{slice_get}
use Rattle.std.proofs.lemmas.Option.{slice_get_read}
use Rattle.vm_unwind.specs.Levels as seen
use Rattle.fiber_switch.specs.Switching.{of, goes_on}
use Rattle.fiber_switch.proofs.Staying.{same_item, stays, lines_stay}
use Rattle.fiber_switch.proofs.fibers.Fibers.resume_begun.Goals as goal

pub returns-in-Running-clause-answer : goal.returns-in-Running-clause-answer
returns-in-Running-clause-answer c =
    let within : c.args.number < length c.args.self.now.begun.items = search rules in
    let there : slice_get c.args.self.now.begun.items c.args.number ≡ Some c.in-Some.fiber.now
    = slice_get_read _ _ c.args.number _ refl within c.in-Some.ensures.value in
    rw (there, c.in-Running.is) refl

pub returns-in-Running-clause-fibers : goal.returns-in-Running-clause-fibers
returns-in-Running-clause-fibers c =
    let within : c.args.number < length c.args.self.now.begun.items = search rules in
    let there : slice_get c.args.self.now.begun.items c.args.number ≡ Some c.in-Some.fiber.now
    = slice_get_read _ _ c.args.number _ refl within c.in-Some.ensures.value in
    rw (same_item c.args.self.now.begun.items c.args.number c.in-Some.fiber.now c.in-Some.ensures.value)
    (sym (stays (of c.args.self.now) c.args.number c.in-Some.fiber.now _ there (ap goes_on c.in-Running.is)))

pub returns-in-Running-clause-lines : goal.returns-in-Running-clause-lines
returns-in-Running-clause-lines c =
    let within : c.args.number < length c.args.self.now.begun.items = search rules in
    let there : slice_get c.args.self.now.begun.items c.args.number ≡ Some c.in-Some.fiber.now
    = slice_get_read _ _ c.args.number _ refl within c.in-Some.ensures.value in
    sym (lines_stay (seen.of c.args.frames.now) (of c.args.self.now) c.args.number c.in-Some.fiber.now _ there
    (ap goes_on c.in-Running.is))

pub returns-in-Resuming-clause-answer : goal.returns-in-Resuming-clause-answer
returns-in-Resuming-clause-answer c =
    let within : c.args.number < length c.args.self.now.begun.items = search rules in
    let there : slice_get c.args.self.now.begun.items c.args.number ≡ Some c.in-Some.fiber.now
    = slice_get_read _ _ c.args.number _ refl within c.in-Some.ensures.value in
    rw (there, c.in-Resuming.is) refl

pub returns-in-Resuming-clause-fibers : goal.returns-in-Resuming-clause-fibers
returns-in-Resuming-clause-fibers c =
    let within : c.args.number < length c.args.self.now.begun.items = search rules in
    let there : slice_get c.args.self.now.begun.items c.args.number ≡ Some c.in-Some.fiber.now
    = slice_get_read _ _ c.args.number _ refl within c.in-Some.ensures.value in
    rw (same_item c.args.self.now.begun.items c.args.number c.in-Some.fiber.now c.in-Some.ensures.value)
    (sym (stays (of c.args.self.now) c.args.number c.in-Some.fiber.now _ there (ap goes_on c.in-Resuming.is)))

pub returns-in-Resuming-clause-lines : goal.returns-in-Resuming-clause-lines
returns-in-Resuming-clause-lines c =
    let within : c.args.number < length c.args.self.now.begun.items = search rules in
    let there : slice_get c.args.self.now.begun.items c.args.number ≡ Some c.in-Some.fiber.now
    = slice_get_read _ _ c.args.number _ refl within c.in-Some.ensures.value in
    sym (lines_stay (seen.of c.args.frames.now) (of c.args.self.now) c.args.number c.in-Some.fiber.now _ there
    (ap goes_on c.in-Resuming.is))

pub returns-in-Ended-clause-answer : goal.returns-in-Ended-clause-answer
returns-in-Ended-clause-answer c =
    let within : c.args.number < length c.args.self.now.begun.items = search rules in
    let there : slice_get c.args.self.now.begun.items c.args.number ≡ Some c.in-Some.fiber.now
    = slice_get_read _ _ c.args.number _ refl within c.in-Some.ensures.value in
    rw (there, c.in-Ended.is) refl

pub returns-in-Ended-clause-fibers : goal.returns-in-Ended-clause-fibers
returns-in-Ended-clause-fibers c =
    let within : c.args.number < length c.args.self.now.begun.items = search rules in
    let there : slice_get c.args.self.now.begun.items c.args.number ≡ Some c.in-Some.fiber.now
    = slice_get_read _ _ c.args.number _ refl within c.in-Some.ensures.value in
    rw (same_item c.args.self.now.begun.items c.args.number c.in-Some.fiber.now c.in-Some.ensures.value)
    (sym (stays (of c.args.self.now) c.args.number c.in-Some.fiber.now _ there (ap goes_on c.in-Ended.is)))

pub returns-in-Ended-clause-lines : goal.returns-in-Ended-clause-lines
returns-in-Ended-clause-lines c =
    let within : c.args.number < length c.args.self.now.begun.items = search rules in
    let there : slice_get c.args.self.now.begun.items c.args.number ≡ Some c.in-Some.fiber.now
    = slice_get_read _ _ c.args.number _ refl within c.in-Some.ensures.value in
    sym (lines_stay (seen.of c.args.frames.now) (of c.args.self.now) c.args.number c.in-Some.fiber.now _ there
    (ap goes_on c.in-Ended.is))
