-- `each_char`, `each_byte` and `each_line` of a String (ISO/IEC 30170:2012, 15.2.10).
use Rattle.std.specs.Prelude.{ℕ, ◌+◌, pos, List, [], ◌∷◌, drop, length, slice_get, slice_range, nat_eq, nat_lt, nat_le, ◌&&◌, if◌then◌else◌, Option, Some, None}
use Rattle.rb_value.specs.declared.value.Value.{Value}
use Rattle.rb_value.specs.declared.value.Value.TheVariants.{Int, Obj}
use Rattle.rb_value.specs.declared.value.ObjId.{ObjId}
use Rattle.rb_value.specs.declared.kind.Kind.TheVariants as kind
use Rattle.rb_value.specs.declared.core_class.CoreClass.TheVariants as class
use Rattle.def_core.specs.Store.{Store, core, next_number}
use Rattle.def_core.specs.Parts.{text_at}
use Rattle.def_calls.specs.Views.{a_string}
use Rattle.rb_store.specs.Held.{Held, one_more}
use Rattle.heap.specs.Made.{with_new}
use Rattle.def_plans.specs.Plan.{Planned, wanted}
use Rattle.run_rows.specs.declared.row.VisitRow.{VisitRow}
use Rattle.run_rows.specs.declared.row.VisitRow.TheVariants as row
use Rattle.core_iter.specs.declared.iteration.Iteration.TheVariants as state
use Rattle.core_iter.specs.declared.strings.TextWalk.{TextWalk}
use Rattle.core_iter.specs.declared.strings.ByteWalk.{ByteWalk}
use Rattle.core_iter.specs.Sending.{Beaten, with_one, goes_on}
use Rattle.core_iter.specs.Stage.{Stage}
use Rattle.core_iter.specs.Writing.{newline}

-- Characters and lines are new Strings of the text as it was at the start.

abbrev pub part_made : Held → TextWalk → ℕ → Beaten TextWalk
part_made held w end = record {
  beat = Some (with_one w.block (Obj (next_number held.store)));
  state = record w { place = end };
  held = with_new held (core class.String) (kind.String (slice_range w.text w.place end));
}

abbrev pub part : Held → TextWalk → ℕ → Beaten TextWalk
part held w end = if nat_le w.place end && nat_le end (length w.text) then part_made held w end
    else record { beat = None; state = w; held = held }

-- a character is a byte
abbrev pub character_beat : Held → TextWalk → Beaten TextWalk
character_beat held w = part held w (one_more w.place)

abbrev pub character_next : Held → TextWalk → Planned Stage
character_next held w = goes_on state.Characters (Obj w.string) (character_beat held w)

-- the end of a line, whose bytes stand from that place on: behind its newline
unfoldable pub line_end : ℕ → List ℕ → ℕ
line_end at [] = at
line_end at (b ∷ bytes) = if nat_eq b newline then at + 1 else line_end (at + 1) bytes

abbrev pub line_beat : Held → TextWalk → Beaten TextWalk
line_beat held w = if nat_lt w.place (length w.text) then part held w (line_end w.place (drop w.place w.text))
    else record { beat = None; state = w; held = held }

abbrev pub line_next : Held → TextWalk → Planned Stage
line_next held w = goes_on state.Lines (Obj w.string) (line_beat held w)

-- bytes are numbers, and are read anew each time

abbrev pub byte_by : Held → ByteWalk → Option ℕ → Beaten ByteWalk
byte_by held w None = record { beat = None; state = w; held = held }
byte_by held w (Some b) = record {
  beat = Some (with_one w.block (Int (pos b)));
  state = record w { place = one_more w.place };
  held = held;
}

abbrev pub byte_beat : Held → ByteWalk → Beaten ByteWalk
byte_beat held w = byte_by held w (slice_get (text_at held.store.objects w.string) w.place)

abbrev pub byte_next : Held → ByteWalk → Planned Stage
byte_next held w = goes_on state.Bytes (Obj w.string) (byte_beat held w)

-- how each of them begins

abbrev pub text_walk : Store → ObjId → ObjId → TextWalk
text_walk st s block = record { text = text_at st.objects s; place = 0; block = block; string = s }

abbrev pub begun : VisitRow → Held → ObjId → ObjId → Planned Stage
begun row.EachByte held s block = byte_next held (record { string = s; place = 0; block = block })
begun row.EachLine held s block = line_next held (text_walk held.store s block)
begun _ held s block = character_next held (text_walk held.store s block)

abbrev pub begin : VisitRow → Held → Value → ObjId → Planned Stage
begin r held recv block =
    wanted held class.String recv (a_string held.store.objects recv) (λ s. begun r held s block)
