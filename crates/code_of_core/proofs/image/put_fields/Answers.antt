use Rattle.std.proofs.Common.{◌≡◌, ℕ, List, ◌++◌, append_assoc}
use Rattle.std.specs.List.{flat_map}
use Rattle.rite_file.specs.File.{counts, counted, text, catch_entry, pool_item}
use Rattle.code_of_core.proofs.image.put_fields.Goals as goal

five : (o a b c d e : List ℕ) → ((((o ++ a) ++ b) ++ c) ++ d) ++ e ≡ o ++ (a ++ (b ++ (c ++ (d ++ e))))
five o a b c d e = simp append_assoc

pub returns : goal.returns
returns c = rw (
  c.in_ok-put_symbols.ensures,
  c.in_ok-put_pool.ensures,
  c.in_ok-put_entries.ensures,
  c.in_ok-put_text.ensures,
  c.in_ok-put_counts.ensures,
  c.as_slice.ensures,
  c.as_slice-2.ensures,
  c.as_slice-3.ensures,
)
    (five c.args.out.now.items (counts c.args.body.now) (text c.args.body.now.code)
    (flat_map catch_entry c.args.body.now.catches) (counted pool_item c.args.body.now.pool)
    (counted text c.args.body.now.symbols))
