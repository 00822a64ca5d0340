use Rattle.std.proofs.Common.{◌≡◌, ◌<◌, ◌^◌, ◌++◌, ◌∙◌, All, ap, sym, subst, arith, length}
use Rattle.std.specs.List.{flat_map}
use Rattle.rite_file.specs.File.{record_of, end_section, Spells, IsHeld}
use Rattle.rite_file.specs.Written.{front}
use Rattle.rite_file.proofs.CanonicalParts.{length-canonical, canonical_parts}
use Rattle.rite_file.proofs.Law.{canonical_is}
use Rattle.rite_file.proofs.write.Goals as goal

pub put_records-requires-clause-small : goal.put_records-requires-clause-small
put_records-requires-clause-small c =
    let n = length-canonical c.args.code.now in
    let small : length (flat_map record_of c.args.code.now.bodies) < 2 ^ 32 = omega (arith, n, c.requires) in
    subst (λ b. length (flat_map record_of b) < 2 ^ 32) (sym c.bodies.ensures.value) small

pub overflow_cast-len : goal.overflow_cast-len
overflow_cast-len c =
    let put = rw c.new-records.ensures.items at c.in_ok-put_records.ensures.bytes in
    omega (
      arith,
      c.len.ensures,
      ap length put,
      ap (λ b. length (flat_map record_of b)) c.bodies.ensures.value,
      length-canonical c.args.code.now,
      c.requires,
    )

pub put_front-requires-clause-small : goal.put_front-requires-clause-small
put_front-requires-clause-small c =
    let put = rw c.new-records.ensures.items at c.in_ok-put_records.ensures.bytes in
    omega (
      arith,
      c.len.ensures,
      ap length put,
      ap (λ b. length (flat_map record_of b)) c.bodies.ensures.value,
      length-canonical c.args.code.now,
      c.requires,
    )

pub returns-clause-value : goal.returns-clause-value
returns-clause-value c =
    let put : c.put_records.new.out.items ≡ flat_map record_of c.args.code.now.bodies =
    (rw c.new-records.ensures.items at c.in_ok-put_records.ensures.bytes)
    ∙ ap (flat_map record_of) c.bodies.ensures.value in
    let len : c.len.result ≡ length (flat_map record_of c.args.code.now.bodies) =
    omega (arith, c.len.ensures, ap length put) in
    let first : c.put_front.new.out.items ≡ front c.args.code.now.version
    (length (flat_map record_of c.args.code.now.bodies)) =
    (rw c.new-out.ensures.items at c.in_ok-put_front.ensures)
    ∙ ap (λ v. front v c.len.result) c.version-version.ensures.value ∙ ap (front c.args.code.now.version) len in
    let records : c.deref.result.now ≡ flat_map record_of c.args.code.now.bodies = c.deref.ensures.value ∙ put in
    c.in_ok-extend_from_slice-2.ensures.items
    ∙ ap (λ t. t ++ end_section) (c.in_ok-extend_from_slice.ensures.items ∙ ap (λ t. t ++ c.deref.result.now) first
    ∙ ap (λ t. front c.args.code.now.version (length (flat_map record_of c.args.code.now.bodies)) ++ t) records)
    ∙ canonical_parts c.args.code.now

pub returns-clause-spelled : goal.returns-clause-spelled
returns-clause-spelled c =
    let held = subst (λ b. All IsHeld b) c.bodies.ensures.value c.in_ok-put_records.ensures.held in
    subst (λ t. Spells t c.args.code.now) (sym (returns-clause-value c)) (canonical_is c.args.code.now held c.requires)
