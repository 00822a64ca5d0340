-- What the limits of the generator say together.
use Rattle.std.proofs.Common.{◌≡◌, true, [], length, nat_le}
use Rattle.std.proofs.lemmas.Bool.{and_parts, leb-true}
use Rattle.path_core.specs.Form.{Form}
use Rattle.code_generator.specs.Names.{names_of}
use Rattle.code_generator.specs.Limits.{is_plain, is_scoped, has_short_sums, IsWithin}
use Rattle.code_generator.specs.Built.{is_within}

pub is_within_means : (f : Form) → is_within f ≡ true → IsWithin f
is_within_means f e =
    let one = and_parts (is_plain f) _ e in
    let two = and_parts (is_scoped [] f) _ one.1 in
    let three = and_parts (has_short_sums f) _ two.1 in
    let four = and_parts (nat_le (length (names_of f)) 50) _ three.1 in
    record {
      plain = one.0;
      scoped = two.0;
      short = three.0;
      few_names = leb-true _ 50 four.0;
      few_parts = leb-true _ 4001 four.1;
    }
