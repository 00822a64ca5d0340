use Rattle.std.proofs.Common.{◌≡◌, ◌∙◌, ◌++◌, ◌∷◌, ◌+◌, ◌-◌, ap, [], arith, length, length-append}
use Rattle.std.proofs.lemmas.Result.{err_from_is_err_and}
use Rattle.rite_file.specs.Record as specs
use Rattle.rite_file.proofs.Walking.{records_done, records_full, records_go_on, records_fail}
use Rattle.rite_file.proofs.records.records_at.Goals as goal

pub returns-then-len-eq-MOST_BODIES-clause-value : goal.returns-then-len-eq-MOST_BODIES-clause-value
returns-then-len-eq-MOST_BODIES-clause-value c =
    let full = records_full 65536 (length c.records.records) c.args.version c.records.records c.records.awaited
    c.args.bytes.now c.records.next (specs.records_at 65536 c.args.version [] 1 c.args.bytes.now c.args.at)
    (omega (arith, c.len.ensures)) (omega arith) c.records.invariant.same in
    rw c.bad.ensures full

pub returns-in_err-record-clause-value : goal.returns-in_err-record-clause-value
returns-in_err-record-clause-value c =
    let p = err_from_is_err_and c.from_residual.result c.from_residual.ensures.1 in
    rw (p.1, p.2) (records_fail 65536 (length c.records.records) c.args.version c.records.records c.records.awaited
    c.args.bytes.now c.records.next c.in_err-record.field-0.0
    (specs.records_at 65536 c.args.version [] 1 c.args.bytes.now c.args.at) (omega (arith, c.len.ensures))
    (omega arith) c.in_err-record.ensures.value c.records.invariant.same)

pub records-preserved : goal.records-preserved
records-preserved c =
    let pushed : c.push.new.self ≡ c.records.records ++ c.in_ok-record.record ∷ [] = c.in_ok-push.ensures.ok in
    let len : length c.push.new.self ≡ length c.records.records + 1 = ap length pushed
    ∙ omega (arith, length-append c.records.records (c.in_ok-record.record ∷ [])) in
    let more = records_go_on 65536 (length c.records.records) c.args.version c.records.records c.push.new.self
    c.records.awaited c.args.bytes.now c.records.next c.in_ok-record.record c.in_ok-record.after
    (specs.records_at 65536 c.args.version [] 1 c.args.bytes.now c.args.at) (omega (arith, c.len.ensures))
    (omega arith) c.in_ok-record.ensures.value pushed c.records.invariant.same in
    record {
      within = c.in_ok-record.ensures.within;
      count = omega (arith, len, c.len.ensures);
      few = grind (arith, len, c.from.ensures, c.records.invariant.few);
      same = rw (len, c.from.ensures) more;
    }

pub returns-clause-value : goal.returns-clause-value
returns-clause-value c = records_done (65536 - length c.records.records) c.args.version c.records.records
    c.records.awaited c.args.bytes.now c.records.next
    (specs.records_at 65536 c.args.version [] 1 c.args.bytes.now c.args.at) (omega arith) c.records.invariant.same
