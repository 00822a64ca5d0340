use Rattle.std.proofs.Common.{◌∙◌, ap, sym, arith, Ok}
use Rattle.std.proofs.lemmas.Result.{err_from_is_err_and}
use Rattle.rite_code.specs.Code.{program}
use Rattle.rite_file.specs.Loaded.{records_in, loaded}
use Rattle.rite_file.proofs.Listing.{fails_as, fails_with}
use Rattle.rite_file.proofs.Law.{checks_fail, records_fail, records_few, loaded_from, loaded_steps, only, canonical_fits}
use Rattle.rite_file.proofs.load.Goals as goal

pub returns-in_err-version-clause-exact : goal.returns-in_err-version-clause-exact
returns-in_err-version-clause-exact c =
    let p = err_from_is_err_and c.from_residual.result c.from_residual.ensures.1 in
    rw (p.1, p.2) (fails_as c.in_err-version.field-0.0 (loaded c.args.bytes.now)
    (checks_fail c.args.bytes.now c.in_err-version.field-0.0 (sym c.in_err-version.ensures.value)))

pub returns-in_err-version-clause-only : goal.returns-in_err-version-clause-only
returns-in_err-version-clause-only c = only c.from_residual.result (returns-in_err-version-clause-exact c)

pub returns-in_err-records-clause-exact : goal.returns-in_err-records-clause-exact
returns-in_err-records-clause-exact c =
    let p = err_from_is_err_and c.from_residual-in_err-records.result c.from_residual-in_err-records.ensures.1 in
    let fail = fails_with c.in_err-records.field-0.0
    (records_in c.in_ok-version.version c.args.bytes.now c.in_ok-version.section) (loaded c.args.bytes.now)
    (λ e. records_fail c.args.bytes.now (c.in_ok-version.version, c.in_ok-version.section) c.in_err-records.field-0.0
    (sym c.in_ok-version.ensures.value) e)
    c.in_err-records.ensures in
    rw (p.1, p.2) fail

pub returns-in_err-records-clause-only : goal.returns-in_err-records-clause-only
returns-in_err-records-clause-only c = only c.from_residual-in_err-records.result
    (returns-in_err-records-clause-exact c)

pub numbered-requires : goal.numbered-requires
numbered-requires c = records_few c.args.bytes.now (c.in_ok-version.version, c.in_ok-version.section)
    c.in_ok-records.records (λ i. omega (arith, c.type_inv.bytes i)) (sym c.in_ok-version.ensures.value)
    c.in_ok-records.ensures

pub new-requires : goal.new-requires
new-requires c =
    let all = loaded_from c.args.bytes.now (c.in_ok-version.version, c.in_ok-version.section) c.in_ok-records.records
    (λ i. omega (arith, c.type_inv.bytes i)) (sym c.in_ok-version.ensures.value) c.in_ok-records.ensures in
    rw c.in_ok-bodies.ensures all.whole

pub returns-clause-exact : goal.returns-clause-exact
returns-clause-exact c =
    loaded_steps c.args.bytes.now (c.in_ok-version.version, c.in_ok-version.section) c.in_ok-records.records
    (sym c.in_ok-version.ensures.value) c.in_ok-records.ensures
    ∙ ap (λ b. Ok (program c.in_ok-version.version b)) (sym c.in_ok-bodies.ensures) ∙ ap Ok (sym c.new.ensures)

pub returns-clause-spelled : goal.returns-clause-spelled
returns-clause-spelled c =
    let all = loaded_from c.args.bytes.now (c.in_ok-version.version, c.in_ok-version.section) c.in_ok-records.records
    (λ i. omega (arith, c.type_inv.bytes i)) (sym c.in_ok-version.ensures.value) c.in_ok-records.ensures in
    rw (c.new.ensures, c.in_ok-bodies.ensures) all.spells

pub returns-clause-only : goal.returns-clause-only
returns-clause-only c = only (Ok c.new.result) (returns-clause-exact c)

pub returns-clause-small : goal.returns-clause-small
returns-clause-small c = canonical_fits c.args.bytes.now c.new.result (returns-clause-spelled c)
