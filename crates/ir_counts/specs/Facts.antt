-- What the facts of a form say.
use Rattle.std.specs.Option.{option_copied}
use Rattle.ir_counts.specs.Tables.{Added}
use Rattle.ir_counts.specs.declared.facts.Facts.{Facts}

abbrev pub view : Facts → Added
view f = record {
  kind = f.kind;
  hidden = f.hidden;
  code = f.code;
  handlers = f.handlers;
  children = f.children;
  name = option_copied f.name;
  old_name = option_copied f.old_name;
  text = option_copied f.text;
  integer = f.integer;
}
