use Rattle.std.proofs.Common.{sym, arith}
use Rattle.rite_file.proofs.Law.{checked_from, room_is}
use Rattle.rite_file.proofs.loading.checked.Goals as goal

pub returns-clause-long : goal.returns-clause-long
returns-clause-long c =
    let found = checked_from c.args.bytes.now c.in_ok-header.header c.in_ok-sized.field-0 c.in_ok-version.version
    c.in_ok-section.section (sym c.in_ok-header.ensures.value) (sym c.in_ok-version.ensures)
    (sym c.in_ok-sized.ensures.value) (sym c.in_ok-section.ensures) in
    (room_is c.args.bytes.now (c.in_ok-version.version, c.in_ok-section.section)
    (λ i. omega (arith, c.type_inv.bytes i)) found).long

pub returns-clause-within : goal.returns-clause-within
returns-clause-within c =
    let found = checked_from c.args.bytes.now c.in_ok-header.header c.in_ok-sized.field-0 c.in_ok-version.version
    c.in_ok-section.section (sym c.in_ok-header.ensures.value) (sym c.in_ok-version.ensures)
    (sym c.in_ok-sized.ensures.value) (sym c.in_ok-section.ensures) in
    (room_is c.args.bytes.now (c.in_ok-version.version, c.in_ok-section.section)
    (λ i. omega (arith, c.type_inv.bytes i)) found).within
