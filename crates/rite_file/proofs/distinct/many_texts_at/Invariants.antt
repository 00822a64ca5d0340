use Rattle.std.proofs.Common.{◌≡◌, ◌≤◌, ◌-◌, [], length}
use Rattle.std.specs.Str.{bytes_eq}
use Rattle.rite_file.specs.Record.{list_at, is_new, text_at}
use Rattle.rite_file.proofs.distinct.many_texts_at.Given as goal

abbrev pub invariant-entries : goal.invariant-entries
invariant-entries l = record {
  within : l.next ≤ length l.bytes;
  same : list_at (is_new bytes_eq) text_at l.texts (l.count - l.counter) l.bytes l.next ≡ list_at (is_new bytes_eq)
      text_at [] l.count l.bytes l.at;
  seen : l.seen ≡ l.texts;
}
