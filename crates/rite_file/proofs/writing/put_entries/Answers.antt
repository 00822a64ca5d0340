use Rattle.std.proofs.Common.{refl, get_or, false}
use Rattle.std.proofs.lemmas.List.Elements.{All-more}
use Rattle.rite_code.specs.declared.code.CatchEntry.{CatchEntry}
use Rattle.rite_file.specs.File.{catch_entry, IsHeldEntry}
use Rattle.rite_file.proofs.Pieces.{puts_more}
use Rattle.rite_file.proofs.writing.put_entries.Goals as goal

no_entry : CatchEntry
no_entry = record { rescue = false; begin = 0; end = 0; target = 0 }

pub loop-entry-preserved : goal.loop-entry-preserved
unfolding no_entry
loop-entry-preserved c = record {
  bytes = puts_more catch_entry c.args.out.now.items c.loop-entry.out.items c.put_entry.new.out.items
      c.args.entries.now c.loop-entry.entry-index (get_or c.args.entries.now c.loop-entry.entry-index no_entry)
      no_entry c.loop-entry-test.true refl c.loop-entry.invariant.bytes c.in_ok-put_entry.ensures.bytes;
  held = All-more IsHeldEntry c.args.entries.now c.loop-entry.entry-index no_entry c.loop-entry-test.true
      c.loop-entry.invariant.held c.in_ok-put_entry.ensures.held;
}
