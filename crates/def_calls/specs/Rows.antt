-- The core methods that are rows of no table yet: those that the language itself stands on. Each has its number after
-- those of its segment in the table of rows.
use Rattle.std.specs.Prelude.{ℕ, ◌+◌, ◌-◌, ◌*◌, ◌/◌, ◌%◌, List, [], ◌∷◌, map, length, slice_get, nat_eq, codes, Bool, true, false, Option, Some, None, if◌then◌else◌}
use Rattle.rb_value.specs.declared.value.Value.TheVariants.{Obj}
use Rattle.rb_value.specs.declared.value.ObjId.{ObjId}
use Rattle.rb_value.specs.declared.core_class.CoreClass.{CoreClass}
use Rattle.rb_value.specs.declared.core_class.CoreClass.TheVariants as class
use Rattle.rb_value.specs.CoreClass.{core_classes, number_of}
use Rattle.def_core.specs.Store.{Store, core}
use Rattle.def_core.specs.Classes.{class_of}
use Rattle.def_core.specs.Changes.{with_singleton}
use Rattle.def_core.specs.Parts.{with_objects}
use Rattle.row_table.specs.declared.line.Line.{Line}
use Rattle.row_table.specs.RowTable.{line_at}
use Rattle.row_table.specs.Segments.{of_class, of_class_object}
use Rattle.row_table.specs.Names.{names}
use Rattle.rb_store.specs.Opening.{with_rows}
use Rattle.rb_store.specs.Opening as store

-- what gives its outcome at once
pub data PlainRow : Type 0 where
  initialize_object : PlainRow
  method_missing : PlainRow
  object_text : PlainRow
  object_inspection : PlainRow
  same_object : PlainRow
  negation : PlainRow
  class_of_object : PlainRow
  exit_program : PlainRow
  proc_of_block : PlainRow
  lambda_of_block : PlainRow
  proc_of_symbol : PlainRow
  array_push : PlainRow
  array_length : PlainRow
  array_element : PlainRow
  has_ancestor : PlainRow
  class_text : PlainRow
  method_of_block : PlainRow
  initialize_exception : PlainRow
  exception_text : PlainRow
  new_fiber : PlainRow
  is_alive : PlainRow

-- what calls others, reads, writes, or moves between fibers
pub data StarRow : Type 0 where
  puts : StarRow
  print : StarRow
  p : StarRow
  gets : StarRow
  raise_exception : StarRow
  loop : StarRow
  send : StarRow
  public_send : StarRow
  each_element : StarRow
  count_up : StarRow
  new_object : StarRow
  call_proc : StarRow
  resume : StarRow
  yield : StarRow
  send_kept : StarRow
  exception_message : StarRow
  exception_inspection : StarRow

-- what the row of a number is
pub data Row : Type 0 where
  -- one of the table, or none, which gives nil
  of_table : Row
  outright : PlainRow → Row
  iterates : StarRow → Row

-- the rows of a class, or of its class object
pub record Segment : Type 0 where
  pub class : CoreClass
  pub singleton : Bool
  pub rows : List (List ℕ × Row)

abbrev pub methods_of : CoreClass → List (List ℕ × Row) → Segment
methods_of c rows = record { class = c; singleton = false; rows = rows }

abbrev pub own_methods_of : CoreClass → List (List ℕ × Row) → Segment
own_methods_of c rows = record { class = c; singleton = true; rows = rows }

unfoldable pub segments : List Segment
segments =
    methods_of class.Object
    ((codes "initialize", outright initialize_object) ∷ (codes "method_missing", outright method_missing)
    ∷ (codes "to_s", outright object_text) ∷ (codes "inspect", outright object_inspection)
    ∷ (codes "==", outright same_object) ∷ (codes "!", outright negation)
    ∷ (codes "class", outright class_of_object) ∷ [])
    ∷ methods_of class.Kernel
    ((codes "exit", outright exit_program) ∷ (codes "proc", outright proc_of_block)
    ∷ (codes "lambda", outright lambda_of_block) ∷ (codes "puts", iterates puts)
    ∷ (codes "print", iterates print) ∷ (codes "p", iterates p) ∷ (codes "gets", iterates gets)
    ∷ (codes "raise", iterates raise_exception) ∷ (codes "loop", iterates loop) ∷ (codes "send", iterates send)
    ∷ (codes "__send__", iterates send) ∷ (codes "public_send", iterates public_send) ∷ [])
    ∷ methods_of class.Module
    ((codes "===", outright has_ancestor) ∷ (codes "to_s", outright class_text)
    ∷ (codes "define_method", outright method_of_block) ∷ [])
    ∷ methods_of class.Class
    ((codes "new", iterates new_object) ∷ [])
    ∷ methods_of class.Integer
    ((codes "times", iterates count_up) ∷ [])
    ∷ methods_of class.Symbol
    ((codes "to_proc", outright proc_of_symbol) ∷ [])
    ∷ methods_of class.Array
    ((codes "<<", outright array_push) ∷ (codes "length", outright array_length)
    ∷ (codes "[]", outright array_element) ∷ (codes "each", iterates each_element) ∷ [])
    ∷ methods_of class.Proc
    ((codes "call", iterates call_proc) ∷ (codes "[]", iterates call_proc) ∷ (codes "yield", iterates call_proc)
    ∷ (codes "===", iterates call_proc) ∷ [])
    ∷ methods_of class.Fiber
    ((codes "alive?", outright is_alive) ∷ (codes "resume", iterates resume) ∷ [])
    ∷ own_methods_of class.Fiber
    ((codes "new", outright new_fiber) ∷ (codes "yield", iterates yield) ∷ [])
    ∷ methods_of class.Exception
    ((codes "initialize", outright initialize_exception) ∷ (codes "message", iterates exception_message)
    ∷ (codes "to_s", outright exception_text) ∷ (codes "inspect", iterates exception_inspection) ∷ [])
    ∷ []

-- rows that no name leads to, only Procs that keep them
unfoldable pub hidden : List StarRow
hidden = send_kept ∷ []

abbrev pub number_in : Segment → ℕ
number_in g = if g.singleton then of_class_object g.class else of_class g.class

-- the hidden ones have a segment of their own after those of all classes
abbrev pub hidden_number : ℕ
hidden_number = 2 * length core_classes

-- the row of the Procs that Symbol#to_proc makes: it sends the kept name to the first argument
abbrev pub send_kept_row : ℕ
send_kept_row = 256 * hidden_number

-- Object#method_missing
abbrev pub method_missing_row : ℕ
method_missing_row = 256 * of_class class.Object + 1

abbrev pub own_row : Option (List ℕ × Row) → Row
own_row None = of_table
own_row (Some r) = r.1

abbrev pub hidden_row : Option StarRow → Row
hidden_row None = of_table
hidden_row (Some s) = iterates s

abbrev pub row_in : List Segment → ℕ → ℕ → Row
row_in [] s k = if nat_eq s hidden_number then hidden_row (slice_get hidden k) else of_table
row_in (g ∷ gs) s k =
    if nat_eq s (number_in g) then own_row (slice_get g.rows (k - length (names s))) else row_in gs s k

abbrev pub row_by : ℕ → Option Line → Row
row_by n (Some line) = of_table
row_by n None = row_in segments (n / 256) (n % 256)

unfoldable pub row_at : ℕ → Row
row_at n = row_by n (line_at n)

-- The opening store, with the methods of all rows.

-- Kernel holds the methods that every object has, so that what Object itself is given comes before them
abbrev pub home : CoreClass → CoreClass
home c = if nat_eq (number_of c) (number_of class.Object) then class.Kernel else c

-- the class, or the singleton class of the class object
abbrev pub holder : Store → Segment → ObjId
holder st g = if g.singleton then class_of st.objects (Obj (core g.class)) else core (home g.class)

abbrev pub with_holder : Store → Segment → Store
with_holder st g = if g.singleton then with_objects st (with_singleton st.objects (core g.class)) else st

abbrev pub with_segment : Store → Segment → Store
with_segment st g =
    with_rows st (holder st g) (256 * number_in g + length (names (number_in g))) (map (λ r. r.0) g.rows)

abbrev pub with_segments : Store → List Segment → Store
with_segments st [] = st
with_segments st (g ∷ gs) = with_segments (with_segment (with_holder st g) g) gs

unfoldable pub opening : Store
opening = with_segments store.opening segments
