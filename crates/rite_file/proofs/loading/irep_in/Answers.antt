use Rattle.std.proofs.Common.{◌≡◌, ◌∙◌, sym, ap, None, Ok, Err, Some, Option, Result}
use Rattle.std.specs.Prelude.{slice_get}
use Rattle.std.proofs.lemmas.Result.{err_from_is_err_and}
use Rattle.rite_file.specs.declared.front.Section.{Section}
use Rattle.rite_file.specs.declared.error.LoadError.{LoadError}
use Rattle.rite_file.specs.Loaded as specs
use Rattle.rite_file.specs.Front.{sections_of}
use Rattle.rite_file.proofs.Walking.{walk_err, walk_none, walk_skip, walk_irep, walk_no_irep, walk_end, walk_no_end}
use Rattle.rite_file.proofs.loading.irep_in.Goals as goal

abbrev first : Result Section LoadError → Option (Result Section LoadError)
first x = Some x

pub returns-in_err-section : goal.returns-in_err-section
returns-in_err-section c =
    let p = err_from_is_err_and c.from_residual.result c.from_residual.ensures.1 in
    let popped : slice_get c.sections.sections 0 ≡ Some (Err c.in_err-section.field-0.0) = sym c.in-Some.ensures.value
    ∙ ap first c.in_err-section.was in
    let e = walk_err c.args.bytes.now c.sections.found c.sections.sections
    (specs.irep_in c.args.bytes.now None (sections_of c.args.bytes.now)) c.in_err-section.field-0.0
    c.sections.invariant popped in
    p.1 ∙ ap Err p.2 ∙ sym e

pub returns-then-not-is_irep : goal.returns-then-not-is_irep
returns-then-not-is_irep c =
    let popped : slice_get c.sections.sections 0 ≡ Some (Ok c.in_ok-section.section) = sym c.in-Some.ensures.value
    ∙ ap first c.in_ok-section.was in
    let e = walk_no_irep c.args.bytes.now c.sections.sections
    (specs.irep_in c.args.bytes.now None (sections_of c.args.bytes.now)) c.in_ok-section.section
    (rw c.in-None.is at c.sections.invariant) popped (sym c.is_skipped.ensures ∙ c.if-not-is_skipped.true)
    (sym c.is_irep.ensures ∙ c.if-not-is_irep.true) in
    ap Err c.bad_section.ensures ∙ sym e

pub sections-preserved-in-None : goal.sections-preserved-in-None
sections-preserved-in-None c =
    let popped : slice_get c.sections.sections 0 ≡ Some (Ok c.in_ok-section.section) = sym c.in-Some.ensures.value
    ∙ ap first c.in_ok-section.was in
    rw c.in-Some.ensures.rest
    (walk_irep c.args.bytes.now c.sections.sections
    (specs.irep_in c.args.bytes.now None (sections_of c.args.bytes.now)) c.in_ok-section.section
    (rw c.in-None.is at c.sections.invariant) popped (sym c.is_skipped.ensures ∙ c.if-not-is_skipped.true)
    (sym c.is_irep.ensures ∙ c.if-not-is_irep.false))

pub returns-then-not-is_end : goal.returns-then-not-is_end
returns-then-not-is_end c =
    let popped : slice_get c.sections.sections 0 ≡ Some (Ok c.in_ok-section.section) = sym c.in-Some.ensures.value
    ∙ ap first c.in_ok-section.was in
    let e = walk_no_end c.args.bytes.now c.in-Some-found.irep c.sections.sections
    (specs.irep_in c.args.bytes.now None (sections_of c.args.bytes.now)) c.in_ok-section.section
    (rw c.in-Some-found.is at c.sections.invariant) popped (sym c.is_skipped.ensures ∙ c.if-not-is_skipped.true)
    (sym c.is_end.ensures ∙ c.if-not-is_end.true) in
    ap Err c.bad_section-then-not-is_end.ensures ∙ sym e

pub returns-in-Some-found : goal.returns-in-Some-found
returns-in-Some-found c =
    let popped : slice_get c.sections.sections 0 ≡ Some (Ok c.in_ok-section.section) = sym c.in-Some.ensures.value
    ∙ ap first c.in_ok-section.was in
    sym (walk_end c.args.bytes.now c.in-Some-found.irep c.sections.sections
    (specs.irep_in c.args.bytes.now None (sections_of c.args.bytes.now)) c.in_ok-section.section
    (rw c.in-Some-found.is at c.sections.invariant) popped (sym c.is_skipped.ensures ∙ c.if-not-is_skipped.true)
    (sym c.is_end.ensures ∙ c.if-not-is_end.false))

pub sections-preserved : goal.sections-preserved
sections-preserved c =
    let popped : slice_get c.sections.sections 0 ≡ Some (Ok c.in_ok-section.section) = sym c.in-Some.ensures.value
    ∙ ap first c.in_ok-section.was in
    rw c.in-Some.ensures.rest (walk_skip c.args.bytes.now c.sections.found c.sections.sections
    (specs.irep_in c.args.bytes.now None (sections_of c.args.bytes.now)) c.in_ok-section.section
    c.sections.invariant popped (sym c.is_skipped.ensures ∙ c.if-not-is_skipped.false))

pub returns : goal.returns
returns c =
    sym (walk_none c.args.bytes.now c.sections.found c.sections.sections
    (specs.irep_in c.args.bytes.now None (sections_of c.args.bytes.now)) c.sections.invariant
    (sym c.in_default.ensures.value))
