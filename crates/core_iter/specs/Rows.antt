-- What each row that calls others wants first, and next with the answer to what it wanted before.
use Rattle.std.specs.Prelude.{◌≡◌, ℕ, List, ◌∷◌, length, get_or, true, false, if◌then◌else◌, Option, Some, None}
use Rattle.rb_value.specs.declared.value.Value.{Value}
use Rattle.rb_value.specs.declared.value.Value.TheVariants.{Nil, Obj}
use Rattle.rb_value.specs.declared.value.ObjId.{ObjId}
use Rattle.rb_value.specs.declared.core_class.CoreClass.TheVariants as class
use Rattle.def_core.specs.declared.cause.Cause.{Cause}
use Rattle.def_core.specs.Classes.{plain_class_of}
use Rattle.def_core.specs.Store.{Store, core, object_at}
use Rattle.def_calls.specs.Views.{detail_of}
use Rattle.rb_store.specs.Held.{Held}
use Rattle.heap.specs.Operands.{own as own_value, is_in_chain}
use Rattle.core_calls.specs.Checks.{miscounted}
use Rattle.core_calls.specs.declared.beat.Beat.{Beat}
use Rattle.core_calls.specs.declared.beat.Passed.TheVariants.{Nothing}
use Rattle.def_plans.specs.Plan.{Planned, reads, gives, refuses}
use Rattle.iter_items.specs.Moved.{Moved}
use Rattle.iter_items.specs.Rows as over_items
use Rattle.iter_items.specs.Stage as items_stage
use Rattle.iter_items.specs.declared.state.ItemsState.{ItemsState}
pub use Rattle.run_rows.specs.Above as rows
use Rattle.run_rows.specs.declared.row.KernelRow.{KernelRow}
use Rattle.run_rows.specs.declared.row.KernelRow.TheVariants as kernel
use Rattle.run_rows.specs.declared.row.VisitRow.{VisitRow}
use Rattle.run_rows.specs.declared.row.VisitRow.TheVariants as visit
use Rattle.run_rows.specs.declared.row.StarRow.{StarRow}
use Rattle.run_rows.specs.declared.row.StarRow.TheVariants as row
use Rattle.core_iter.specs.declared.iteration.Iteration.{Iteration}
use Rattle.core_iter.specs.declared.iteration.Iteration.TheVariants as state
use Rattle.core_iter.specs.Stage.{Stage, own, items}
use Rattle.core_iter.specs.Sending as sending
use Rattle.core_iter.specs.Writing as writing
use Rattle.core_iter.specs.Raising as raising
use Rattle.core_iter.specs.Telling as telling
use Rattle.core_iter.specs.Making as making
use Rattle.core_iter.specs.Counting as counting
use Rattle.core_iter.specs.Strings as strings
use Rattle.core_iter.specs.Pairs as pairs
use Rattle.core_iter.specs.Filling as filling
use Rattle.core_iter.specs.Visiting as visiting

-- why a row can't take so many arguments

abbrev pub refused_by_kernel : KernelRow → ℕ → Option Cause
refused_by_kernel kernel.Gets n = miscounted n 0 (Some 0)
refused_by_kernel kernel.Loop n = miscounted n 0 (Some 0)
refused_by_kernel kernel.Tap n = miscounted n 0 (Some 0)
refused_by_kernel kernel.Then n = miscounted n 0 (Some 0)
refused_by_kernel kernel.Message n = miscounted n 0 (Some 0)
refused_by_kernel kernel.InspectException n = miscounted n 0 (Some 0)
refused_by_kernel kernel.Raise n = miscounted n 0 (Some 2)
refused_by_kernel kernel.Send n = miscounted n 1 None
refused_by_kernel kernel.PublicSend n = miscounted n 1 None
refused_by_kernel kernel.SendKept n = miscounted n 1 None
refused_by_kernel _ n = None

abbrev pub refused_by_visit : VisitRow → ℕ → Option Cause
refused_by_visit visit.Upto n = miscounted n 1 (Some 1)
refused_by_visit visit.Downto n = miscounted n 1 (Some 1)
refused_by_visit visit.StepOfRange n = miscounted n 1 (Some 1)
refused_by_visit visit.Step n = miscounted n 2 (Some 2)
refused_by_visit visit.InitializeArray n = miscounted n 0 (Some 2)
refused_by_visit visit.InitializeHash n = miscounted n 0 (Some 1)
refused_by_visit _ n = miscounted n 0 (Some 0)

-- `loop`, `tap` and `then`

abbrev pub by_block : KernelRow → Held → Value → ObjId → Planned Stage
by_block kernel.Tap held recv p = sending.call_with held (own (state.Giving recv)) p recv
by_block kernel.Then held recv p = sending.call_with held (own state.Handing) p recv
by_block _ held recv p = sending.looped held p

abbrev pub with_block : KernelRow → Held → Value → Option ObjId → Planned Stage
with_block r held recv None = sending.blockless held
with_block r held recv (Some p) = by_block r held recv p

-- rows of Kernel, Class, Proc and Fiber
abbrev pub StartsKernel : KernelRow → Held → Value → List Value → Option ObjId → Planned Stage → Type 0
StartsKernel kernel.Puts held recv args block p = p ≡ writing.put_all held args
StartsKernel kernel.Print held recv args block p = p ≡ writing.print_next held (writing.all_of args)
StartsKernel kernel.Inspect held recv args block p = p ≡ writing.inspect_next held (writing.all_of args)
StartsKernel kernel.Gets held recv args block p = p ≡ record { plan = reads (own state.Handing); held = held }
StartsKernel kernel.Raise held recv args block p = raising.Raises held args p
StartsKernel kernel.Loop held recv args block p = p ≡ with_block kernel.Loop held recv block
StartsKernel kernel.Tap held recv args block p = p ≡ with_block kernel.Tap held recv block
StartsKernel kernel.Then held recv args block p = p ≡ with_block kernel.Then held recv block
StartsKernel kernel.Send held recv args block p = sending.Sends held recv (get_or args 0 Nil) args block false p
StartsKernel kernel.PublicSend held recv args block p = sending.Sends held recv (get_or args 0 Nil) args block true p
StartsKernel kernel.SendKept held recv args block p = sending.Sends held (get_or args 0 Nil) recv args block false p
StartsKernel kernel.NewObject held recv args block p = p ≡ making.new held recv args block
StartsKernel kernel.CallProc held recv args block p = p ≡ sending.call held recv args block
StartsKernel kernel.Resume held recv args block p = p ≡ sending.resume held recv args
StartsKernel kernel.Yield held recv args block p = p ≡ sending.yields_all held args
StartsKernel kernel.Message held recv args block p = p ≡ telling.begin_message held recv
StartsKernel kernel.InspectException held recv args block p =
    p ≡ telling.ask_message held (own (state.Telling recv)) recv

-- rows that visit with a block
abbrev pub visiting_with : VisitRow → Held → Value → List Value → ObjId → Planned Stage
visiting_with visit.Times held recv args p = counting.begin_integers visit.Times held recv args p
visiting_with visit.Upto held recv args p = counting.begin_integers visit.Upto held recv args p
visiting_with visit.Downto held recv args p = counting.begin_integers visit.Downto held recv args p
visiting_with visit.Step held recv args p = counting.begin_integers visit.Step held recv args p
visiting_with visit.EachCharacter held recv args p = strings.begin visit.EachCharacter held recv p
visiting_with visit.EachByte held recv args p = strings.begin visit.EachByte held recv p
visiting_with visit.EachLine held recv args p = strings.begin visit.EachLine held recv p
visiting_with visit.EachOfRange held recv args p = counting.begin_range held recv p
visiting_with visit.StepOfRange held recv args p = counting.begin_range_step held recv args p
visiting_with visit.EachPair held recv args p = pairs.begin visit.EachPair held recv p
visiting_with visit.EachKey held recv args p = pairs.begin visit.EachKey held recv p
visiting_with visit.EachValue held recv args p = pairs.begin visit.EachValue held recv p
visiting_with visit.DeletePairs held recv args p = pairs.begin visit.DeletePairs held recv p
visiting_with r held recv args p = visiting.begin r held recv p

abbrev pub visiting_by : VisitRow → Held → Value → List Value → Option ObjId → Planned Stage
visiting_by r held recv args None = sending.blockless held
visiting_by r held recv args (Some p) = visiting_with r held recv args p

-- or that fill a new object
abbrev pub visited : VisitRow → Held → Value → List Value → Option ObjId → Planned Stage
visited visit.InitializeArray held recv args block = filling.begin_array held recv args block
visited visit.InitializeHash held recv args block = filling.begin_hash held recv args block
visited r held recv args block = visiting_by r held recv args block

abbrev pub Unless : Option Cause → Held → Planned Stage → Type 0 → Type 0
Unless None held p Further = Further
Unless (Some c) held p Further = p ≡ refuses held c

-- the number of arguments is checked first
abbrev pub Starts : StarRow → Held → Value → List Value → Option ObjId → Planned Stage → Type 0
Starts (row.Kernel r) held recv args block p =
    Unless (refused_by_kernel r (length args)) held p (StartsKernel r held recv args block p)
Starts (row.Visit r) held recv args block p =
    Unless (refused_by_visit r (length args)) held p (p ≡ visited r held recv args block)
Starts (row.Items r) held recv args block p = Moved items (over_items.Starts r held recv args block) p

-- what comes next by an answer
abbrev pub GoesOn : Held → Stage → Value → Planned Stage → Type 0
GoesOn held (items s) a p = Moved items (over_items.GoesOn held s a) p
GoesOn held (own (state.Items s)) a p = Moved items (over_items.GoesOn held (items_stage.stage_of s) a) p
GoesOn held (own state.Handing) a p = p ≡ gives held a
GoesOn held (own (state.Giving v)) a p = p ≡ gives held v
GoesOn held (own (state.Putting r)) a p = p ≡ writing.put_next held r
GoesOn held (own (state.PuttingText r)) a p = p ≡ writing.put_text held r a
GoesOn held (own (state.Printing r)) a p = p ≡ writing.print_next held r
GoesOn held (own (state.PrintingText r)) a p = p ≡ writing.print_text held r a
GoesOn held (own (state.Inspecting r)) a p = p ≡ writing.inspect_next held r
GoesOn held (own (state.InspectingText r)) a p = p ≡ writing.inspect_text held r a
GoesOn held (own state.Raising) a p = p ≡ raising.made held a
GoesOn held (own (state.Messaging e)) a p = p ≡ telling.give_message held e a
GoesOn held (own (state.Telling e)) a p = p ≡ telling.tell held e a
GoesOn held (own (state.TellingText e)) a p = p ≡ telling.told held e a
GoesOn held (own (state.Reporting e)) a p = p ≡ telling.report held e
GoesOn held (own (state.Reported e)) a p = p ≡ telling.reported held e a
GoesOn held (own (state.Looping b)) a p = p ≡ sending.looped held b
GoesOn held (own (state.Counting c)) a p = p ≡ counting.count_next held c
GoesOn held (own (state.Characters w)) a p = p ≡ strings.character_next held w
GoesOn held (own (state.Lines w)) a p = p ≡ strings.line_next held w
GoesOn held (own (state.Bytes w)) a p = p ≡ strings.byte_next held w
GoesOn held (own (state.Visiting w)) a p = p ≡ visiting.visit_next held w
GoesOn held (own (state.Indexing w)) a p = p ≡ visiting.index_next held w
GoesOn held (own (state.Replacing w)) a p = p ≡ visiting.replace_then held w a
GoesOn held (own (state.Deleting w)) a p = p ≡ visiting.delete_then held w a
GoesOn held (own (state.Filling f)) a p = p ≡ filling.fill_then held f a
GoesOn held (own (state.Pairs w)) a p = p ≡ pairs.pair_then held w a

-- The call of a block that comes next, made in place, with the state and the heap that are left. Where none is made the
-- next plan says what comes.

abbrev pub Makes : {S : Type 0} → (S → Iteration) → sending.Beaten S → Held → Iteration → Option Beat → Type 0
Makes as_state b after s beat = (beat ≡ b.beat) × (s ≡ as_state b.state) × (after ≡ b.held)

abbrev pub MakesItems : Held → ItemsState → Value → Held → Iteration → Option Beat → Type 0
MakesItems held t a after (state.Items u) beat = over_items.Beats held t a after u beat
MakesItems held t a after s beat = ⊥

abbrev pub Beats : Held → Iteration → Value → Held → Iteration → Option Beat → Type 0
Beats held (state.Looping p) a after s beat =
    (beat ≡ Some (record { callee = p; passed = Nothing })) × (s ≡ state.Looping p) × (after ≡ held)
Beats held (state.Counting c) a after s beat = Makes state.Counting (counting.count_beat held c) after s beat
Beats held (state.Visiting w) a after s beat = Makes state.Visiting (visiting.element_beat held w) after s beat
Beats held (state.Indexing w) a after s beat = Makes state.Indexing (visiting.index_beat held w) after s beat
Beats held (state.Replacing w) a after s beat = Makes state.Replacing (visiting.replace_beat held w a) after s beat
Beats held (state.Filling f) a after s beat = Makes state.Filling (filling.fill_beat held f a) after s beat
Beats held (state.Characters w) a after s beat = Makes state.Characters (strings.character_beat held w) after s beat
Beats held (state.Lines w) a after s beat = Makes state.Lines (strings.line_beat held w) after s beat
Beats held (state.Bytes w) a after s beat = Makes state.Bytes (strings.byte_beat held w) after s beat
Beats held (state.Pairs w) a after s beat = Makes state.Pairs (pairs.pair_beat held w a) after s beat
Beats held (state.Items t) a after s beat = MakesItems held t a after s beat
Beats held t a after s beat = (beat ≡ None) × (s ≡ t) × (after ≡ held)

-- `loop` ends by a StopIteration with its result; no other iteration stops an exception
abbrev pub caught : Store → Iteration → ObjId → Option Value
caught st (state.Looping p) e =
    if is_in_chain st (plain_class_of st.objects (own_value st (Obj e))) (core class.StopIteration)
    then Some (detail_of (object_at st.objects e).kind) else None
caught st _ e = None
