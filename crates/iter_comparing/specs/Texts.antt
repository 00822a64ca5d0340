-- `inspect` and `join`: texts that are made piece by piece (ISO/IEC 30170:2012, 15.2.12 and 15.2.13).
use Rattle.std.specs.Prelude.{ℕ, ◌+◌, ◌/◌, ◌%◌, ◌^◌, List, [], ◌∷◌, ◌++◌, length, drop, slice_get, codes, nat_eq, nat_lt, Bool, if◌then◌else◌, Option, Some, None, option_map}
use Rattle.rb_value.specs.declared.value.Value.{Value}
use Rattle.rb_value.specs.declared.value.Value.TheVariants.{Obj}
use Rattle.rb_value.specs.declared.value.ObjId.{ObjId}
use Rattle.rb_value.specs.declared.hash.HashItem.{HashItem}
use Rattle.rb_value.specs.declared.kind.Kind.TheVariants as kind
use Rattle.rb_value.specs.declared.core_class.CoreClass.TheVariants as class
use Rattle.def_core.specs.declared.cause.Cause.TheVariants as cause
use Rattle.def_core.specs.Store.{Store, core, next_number}
use Rattle.def_core.specs.Parts.{elements_at}
use Rattle.def_calls.specs.Views.{an_array, string_of, kind_in}
use Rattle.def_calls.specs.Values.{text_of_value}
use Rattle.rb_store.specs.Held.{Held, one_more}
use Rattle.heap.specs.Made.{with_new}
use Rattle.heap.specs.Operands.{own}
use Rattle.iter_comparing.specs.declared.showing.Shown.{Shown}
use Rattle.iter_comparing.specs.declared.showing.Shown.TheVariants.{Elements, Pairs}
use Rattle.iter_comparing.specs.declared.showing.Showing.{Showing}
use Rattle.iter_comparing.specs.declared.joining.Joining.{Joining}
use Rattle.iter_comparing.specs.declared.questions.Question.{Question}
use Rattle.iter_comparing.specs.declared.questions.Question.TheVariants.{Ends, Fails}
use Rattle.iter_comparing.specs.Questions.{Asked, asked, show}

-- a text is a new String, and none is longer than 2^28 bytes
abbrev pub is_too_long : List ℕ → Bool
is_too_long text = nat_lt (2 ^ 28) (length text)

abbrev pub text_question : Held → List ℕ → Question
text_question held text =
    if is_too_long text then Fails cause.StringTooLong else Ends (Obj (next_number held.store))

abbrev pub text_made : Held → List ℕ → Held
text_made held text = if is_too_long text then held else with_new held (core class.String) (kind.String text)

abbrev pub text_ends : {W : Type 0} → Held → W → List ℕ → Asked W
text_ends held w text = asked (text_made held text) w (text_question held text)

-- the bytes that stand for a value
abbrev pub bytes_of : Store → Value → List ℕ
bytes_of st v = text_of_value st (own st v)

-- What stands before the value at a place, which is shown; each pair has a place for its key and one for its value.

abbrev pub before_element : ℕ → Value → Value × List ℕ
before_element n v = (v, if nat_eq n 0 then codes "[" else codes ", ")

abbrev pub before_part : ℕ → HashItem → Value × List ℕ
before_part n p = if nat_eq (n % 2) 1 then (p.value, codes "=>")
    else (p.shown, if nat_eq n 0 then codes "{" else codes ", ")

abbrev pub part : Store → Shown → ℕ → Option (Value × List ℕ)
part st (Elements a) n = option_map (before_element n) (slice_get (elements_at st.objects a) n)
part st (Pairs ps) n = option_map (before_part n) (slice_get ps (n / 2))

abbrev pub last : Shown → ℕ → List ℕ
last (Elements a) n = if nat_eq n 0 then codes "[]" else codes "]"
last (Pairs ps) n = if nat_eq n 0 then codes "{}" else codes "}"

abbrev pub shown_by : Held → Showing → Option (Value × List ℕ) → Asked Showing
shown_by held w (Some p) = asked held (record w { text = w.text ++ p.1 }) (show p.0)
shown_by held w None = text_ends held (record w { text = [] }) (w.text ++ last w.shown w.place)

abbrev pub shown : Held → Showing → Asked Showing
shown held w = shown_by held w (part held.store w.shown w.place)

abbrev pub shown_heard : Store → Showing → Value → Showing
shown_heard st w v = record w { text = w.text ++ bytes_of st v; place = one_more w.place }

-- A separator stands between pieces; a String is a text itself, an Array is none, and another value is asked for one.

abbrev pub separated : Joining → List ℕ
separated w = if nat_lt (one_more w.place) (length w.pieces) then w.text ++ w.separator else w.text

abbrev pub passed : Joining → Joining
passed w = record w { place = one_more w.place; text = separated w }

abbrev pub with_text : Joining → List ℕ → Joining
with_text w bytes = record w { text = w.text ++ bytes }

-- the text that a piece is itself: an Array among the pieces is one that had no elements
abbrev pub text_by : Option (List ℕ) → Option ObjId → Option (List ℕ)
text_by (Some bytes) a = Some bytes
text_by None (Some a) = Some []
text_by None None = None

abbrev pub own_text : Store → Value → Option (List ℕ)
own_text st v = text_by (string_of (kind_in st.objects v)) (an_array st.objects v)

-- the value that has to be asked before its piece is put into the text
abbrev pub asks_by : Value → Option (List ℕ) → Option Value
asks_by v None = Some v
asks_by v (Some bytes) = None

abbrev pub asks_piece : Store → Value → Option Value
asks_piece st v = asks_by v (own_text st v)

abbrev pub pieced_by : Joining → Option (List ℕ) → Joining
pieced_by w None = w
pieced_by w (Some bytes) = passed (with_text w bytes)

abbrev pub pieced : Store → Joining → Value → Joining
pieced st w v = pieced_by w (own_text st v)

abbrev pub joined_by : Held → Joining → Option Value → Asked Joining → Asked Joining
joined_by held w (Some v) further = asked held w (show v)
joined_by held w None further = further

abbrev pub joined_from : Held → Joining → List Value → Asked Joining
joined_from held w [] = text_ends held (record w { text = [] }) w.text
joined_from held w (p ∷ ps) =
    joined_by held w (asks_piece held.store p) (joined_from held (pieced held.store w p) ps)

abbrev pub joined : Held → Joining → Asked Joining
joined held w = joined_from held w (drop w.place w.pieces)

abbrev pub joined_heard : Store → Joining → Value → Joining
joined_heard st w v = passed (with_text w (bytes_of st v))
