-- `step` of a Range of Integers.
use Rattle.std.proofs.Common.{◌≡◌, refl, ap, ◌∙◌, List, [], ◌∷◌}
use Rattle.std.specs.Prelude.{ℤ, pos, ◌-ℤ◌, int_lt, Bool, true, false, if◌then◌else◌, Option, Some, None, Result, Ok}
use Rattle.rb_value.specs.declared.value.Value.{Value}
use Rattle.rb_value.specs.declared.value.ObjId.{ObjId}
use Rattle.rb_value.specs.declared.kind.RangeContents.{RangeContents}
use Rattle.rb_value.specs.declared.core_class.CoreClass.TheVariants as class
use Rattle.rb_integer.specs.Exact.{fits}
use Rattle.def_core.specs.declared.cause.Cause.{Cause}
use Rattle.def_core.specs.declared.cause.Cause.TheVariants as cause
use Rattle.def_calls.specs.Views.{kind_in}
use Rattle.rb_store.specs.Held.{Held}
use Rattle.heap.specs.Reading.{range_in}
use Rattle.core_calls.specs.Checks.{integer}
use Rattle.def_plans.specs.Plan.{Planned, refuses, wanted}
use Rattle.run_rows.specs.declared.row.StarRow.TheVariants as row
use Rattle.run_rows.specs.declared.row.VisitRow.TheVariants as visit
use Rattle.core_iter.specs.declared.counting.Count.{Count}
use Rattle.core_iter.specs.Counting as counting
use Rattle.core_iter.specs.Stage.{Stage}
use Rattle.items_laws.specs.Run.{Turn, Gives}
use Rattle.items_laws.specs.Items.{IsValue, last_heap}
use Rattle.items_laws.specs.Numbers.{Counts, integers}
use Rattle.items_laws.proofs.Counting.{counts_from}

-- the numbers that are counted, where the step is above 0
abbrev counted_if : Bool → Held → RangeContents → Value → ObjId → ℤ → Planned Stage
counted_if c held r recv b by =
    if c then counting.count_next held (counting.numbers_of r recv b by) else refuses held cause.NegativeCount

pub begun_so : (held : Held) (r : RangeContents) (recv size : Value) (by : ℤ) (b : ObjId)
    → range_in (kind_in held.store.objects recv) ≡ Some r → integer held.store size ≡ Ok by → int_lt (pos 0) by ≡ true
    → counting.begin_range_step held recv (size ∷ []) b ≡ counting.count_next held (counting.numbers_of r recv b by)
begun_so held r recv size by b is sized above =
    ap (λ (o : Option RangeContents). wanted held class.Range recv o
    (λ x. counting.range_by held x recv b (integer held.store size))) is
    ∙ ap (λ (o : Result ℤ Cause). counting.range_by held r recv b o) sized
    ∙ ap (λ (c : Bool). counted_if c held r recv b by) above

pub stepped : (held after : Held) (recv size v : Value) (a z by : ℤ) (b : ObjId) (ts : List Turn)
    → range_in (kind_in held.store.objects recv) ≡ Some (integers a z false)
    → integer held.store size ≡ Ok by → int_lt (pos 0) by ≡ true
    → Gives (row.Visit visit.StepOfRange) held recv (size ∷ []) (Some b) ts v after
    → Counts a z by b ts × IsValue (last_heap held ts) recv v after
stepped held after recv size v a z by b ts is sized above run =
    counts_from held (counting.numbers_of (integers a z false) recv b by) run.first ts v after refl
    (run.starts ∙ begun_so held (integers a z false) recv size by b is sized above) run.runs

abbrev up_to : Value → ObjId → ℤ → ℤ → ℤ → Count
up_to recv b a z by = counting.up_to_end (integers a z true) recv b by

pub stepped_before : (held after : Held) (recv size v : Value) (a z by : ℤ) (b : ObjId) (ts : List Turn)
    → range_in (kind_in held.store.objects recv) ≡ Some (integers a z true) → fits (z -ℤ pos 1) ≡ true
    → integer held.store size ≡ Ok by → int_lt (pos 0) by ≡ true
    → Gives (row.Visit visit.StepOfRange) held recv (size ∷ []) (Some b) ts v after
    → Counts a (z -ℤ pos 1) by b ts × IsValue (last_heap held ts) recv v after
stepped_before held after recv size v a z by b ts is fit sized above run =
    counts_from held (record (up_to recv b a z by) { last = z -ℤ pos 1 }) run.first ts v after refl
    (run.starts ∙ begun_so held (integers a z true) recv size by b is sized above
    ∙ ap (λ (c : Bool). counting.count_next held (counting.before_end (up_to recv b a z by)
    (if c then Some (z -ℤ pos 1) else None))) fit) run.runs
