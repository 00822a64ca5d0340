use Rattle.std.proofs.Common.{length}
use Rattle.std.specs.List.{flat_map}
use Rattle.std.specs.Int.{to_be_bytes, w16}
use Rattle.rite_file.specs.File.{text, counts, catch_entry, pool_item}
use Rattle.rite_file.proofs.Pieces.{seven}
use Rattle.rite_file.proofs.writing.put_fields.Goals as goal

pub returns-clause-bytes : goal.returns-clause-bytes
returns-clause-bytes c = rw (
  c.in_ok-put_texts.ensures,
  c.in_ok-put_u16-2.ensures.bytes,
  c.in_ok-put_items.ensures.bytes,
  c.in_ok-put_u16.ensures.bytes,
  c.in_ok-put_entries.ensures.bytes,
  c.in_ok-put_text.ensures,
  c.in_ok-put_counts.ensures.bytes,
  c.as_slice.ensures,
  c.as_slice-2.ensures,
  c.as_slice-3.ensures,
  c.as_slice-4.ensures,
  c.len.ensures,
  c.len-2.ensures,
)
    (seven c.args.out.now.items (counts c.args.body.now) (text c.args.body.now.code)
    (flat_map catch_entry c.args.body.now.catches) (to_be_bytes w16 (length c.args.body.now.pool))
    (flat_map pool_item c.args.body.now.pool) (to_be_bytes w16 (length c.args.body.now.symbols))
    (flat_map text c.args.body.now.symbols))
