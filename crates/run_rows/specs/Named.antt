-- The methods of all segments by their names, in the order of their numbers: those of the table, and behind them those
-- of each crate of rows.
use Rattle.std.specs.Prelude.{ℕ, List, [], ◌∷◌, ◌++◌, map, codes, nat_eq, Some, if◌then◌else◌}
use Rattle.row_table.specs.declared.line.Line.{Line}
use Rattle.row_table.specs.Names as table
use Rattle.row_table.specs.RowTable.{segment}
use Rattle.rows_object.specs.Named as of_objects
use Rattle.rows_class.specs.Named as of_classes
use Rattle.rows_items.specs.Named as of_items
use Rattle.rows_array.specs.Named as of_arrays
use Rattle.rows_hash.specs.Named as of_hashes
use Rattle.iter_items.specs.Named as over_items
use Rattle.iter_items.specs.Named.{each_is}
use Rattle.run_rows.specs.declared.row.KernelRow.{KernelRow}
use Rattle.run_rows.specs.declared.row.KernelRow.TheVariants as kernel_row
use Rattle.run_rows.specs.declared.row.VisitRow.{VisitRow}
use Rattle.run_rows.specs.declared.row.VisitRow.TheVariants as visit_row
use Rattle.run_rows.specs.declared.row.PlainRow.{PlainRow}
use Rattle.run_rows.specs.declared.row.PlainRow.TheVariants as plain_row
use Rattle.run_rows.specs.declared.row.StarRow.{StarRow}
use Rattle.run_rows.specs.declared.row.StarRow.TheVariants as star_row
use Rattle.run_rows.specs.declared.row.Row.{Row}
use Rattle.run_rows.specs.declared.row.Row.TheVariants.{OfTable, Plain, Star}

-- What writes, reads, sends, makes objects, calls Procs, moves between fibers or asks exceptions.

-- of Kernel
unfoldable pub kernel_rows : List (List ℕ × KernelRow)
kernel_rows =
    (codes "puts", kernel_row.Puts) ∷
    (codes "print", kernel_row.Print) ∷
    (codes "p", kernel_row.Inspect) ∷
    (codes "gets", kernel_row.Gets) ∷
    (codes "raise", kernel_row.Raise) ∷
    (codes "loop", kernel_row.Loop) ∷
    (codes "send", kernel_row.Send) ∷
    (codes "__send__", kernel_row.Send) ∷
    (codes "public_send", kernel_row.PublicSend) ∷
    (codes "tap", kernel_row.Tap) ∷
    (codes "then", kernel_row.Then) ∷
    []

-- of Class
unfoldable pub class_rows : List (List ℕ × KernelRow)
class_rows =
    (codes "new", kernel_row.NewObject) ∷
    []

-- of Proc
unfoldable pub proc_rows : List (List ℕ × KernelRow)
proc_rows =
    (codes "call", kernel_row.CallProc) ∷
    (codes "[]", kernel_row.CallProc) ∷
    (codes "yield", kernel_row.CallProc) ∷
    (codes "===", kernel_row.CallProc) ∷
    []

-- of Fiber
unfoldable pub fiber_rows : List (List ℕ × KernelRow)
fiber_rows =
    (codes "resume", kernel_row.Resume) ∷
    []

-- of the class object Fiber
unfoldable pub fiber_class_rows : List (List ℕ × KernelRow)
fiber_class_rows =
    (codes "yield", kernel_row.Yield) ∷
    []

-- of Exception
unfoldable pub exception_rows : List (List ℕ × KernelRow)
exception_rows =
    (codes "message", kernel_row.Message) ∷
    (codes "inspect", kernel_row.InspectException) ∷
    []

abbrev pub kernel : ℕ → List (List ℕ × KernelRow)
kernel s = if nat_eq s 2 then kernel_rows
    else (if nat_eq s 6 then class_rows
    else (if nat_eq s 32 then proc_rows
    else (if nat_eq s 34 then fiber_rows
    else (if nat_eq s 35 then fiber_class_rows
    else (if nat_eq s 40 then exception_rows
    else ([]))))))

-- What calls a block for each item, or fills a new object.

-- of Integer
unfoldable pub integer_rows : List (List ℕ × VisitRow)
integer_rows =
    (codes "times", visit_row.Times) ∷
    (codes "upto", visit_row.Upto) ∷
    (codes "downto", visit_row.Downto) ∷
    (codes "step", visit_row.Step) ∷
    []

-- of String
unfoldable pub string_rows : List (List ℕ × VisitRow)
string_rows =
    (codes "each_char", visit_row.EachCharacter) ∷
    (codes "each_byte", visit_row.EachByte) ∷
    (codes "each_line", visit_row.EachLine) ∷
    []

-- of Array
unfoldable pub array_rows : List (List ℕ × VisitRow)
array_rows =
    (codes "initialize", visit_row.InitializeArray) ∷
    (codes "each", visit_row.EachElement) ∷
    (codes "each_index", visit_row.EachIndex) ∷
    (codes "map!", visit_row.MapInPlace) ∷
    (codes "delete_if", visit_row.DeleteElements) ∷
    []

-- of Hash
unfoldable pub hash_rows : List (List ℕ × VisitRow)
hash_rows =
    (codes "initialize", visit_row.InitializeHash) ∷
    (codes "each", visit_row.EachPair) ∷
    (codes "each_pair", visit_row.EachPair) ∷
    (codes "each_key", visit_row.EachKey) ∷
    (codes "each_value", visit_row.EachValue) ∷
    (codes "delete_if", visit_row.DeletePairs) ∷
    []

-- of Range
unfoldable pub range_rows : List (List ℕ × VisitRow)
range_rows =
    (codes "each", visit_row.EachOfRange) ∷
    (codes "step", visit_row.StepOfRange) ∷
    []

abbrev pub visits : ℕ → List (List ℕ × VisitRow)
visits s = if nat_eq s 14 then integer_rows
    else (if nat_eq s 22 then string_rows
    else (if nat_eq s 26 then array_rows
    else (if nat_eq s 28 then hash_rows
    else (if nat_eq s 30 then range_rows
    else ([])))))

-- Those beyond the table.

-- what gives its outcome at once
abbrev pub plain : ℕ → List (List ℕ × PlainRow)
plain s = each_is plain_row.Object (of_objects.rows s)
    ++ (each_is plain_row.Class (of_classes.rows s)
    ++ (each_is plain_row.Item (of_items.rows s)
    ++ (each_is plain_row.Array (of_arrays.rows s)
    ++ each_is plain_row.Hash (of_hashes.rows s))))

-- what calls others
abbrev pub star : ℕ → List (List ℕ × StarRow)
star s = each_is star_row.Kernel (kernel s)
    ++ (each_is star_row.Visit (visits s)
    ++ each_is star_row.Items (over_items.rows s))

abbrev pub beyond : ℕ → List (List ℕ × Row)
beyond s = each_is Plain (plain s) ++ each_is Star (star s)

-- All of them.

abbrev pub of_line : Line → Row
of_line line = OfTable (Some line.row)

-- the rows of the table under their names
unfoldable pub under : List (List ℕ) → List Line → List (List ℕ × Row)
under [] lines = []
under (name ∷ names) [] = []
under (name ∷ names) (line ∷ lines) = (name, of_line line) ∷ under names lines

-- the segment of the rows that no name leads to, only Procs that keep their numbers
abbrev pub hidden : ℕ
hidden = 76

unfoldable pub hidden_rows : List (List ℕ × Row)
hidden_rows =
    ([], Star (star_row.Kernel kernel_row.SendKept)) ∷
    ([], Plain plain_row.Collect) ∷
    ([], Star (star_row.Kernel kernel_row.Yield)) ∷
    []

abbrev pub first : ℕ → List (List ℕ × Row)
first s = if nat_eq s hidden then hidden_rows else under (table.names s) (segment s)

-- those of a segment: the number of a row is 256 times its segment, and its place here
abbrev pub methods : ℕ → List (List ℕ × Row)
methods s = first s ++ beyond s
