-- Blocks of calls, and what a break of one ends.
use Rattle.std.specs.Prelude.{ℕ, Option, Some, None}
use Rattle.rb_value.specs.declared.value.Value.{Value}
use Rattle.rb_value.specs.declared.value.Value.TheVariants.{Nil, True, False, Int, Sym, Obj}
use Rattle.rb_value.specs.declared.value.ObjId.{ObjId}
use Rattle.rb_value.specs.declared.procs.ProcContents.{ProcContents}
use Rattle.rb_value.specs.Sending as sending
use Rattle.def_core.specs.Store.{Store, next_number, object_at}
use Rattle.rows_object.specs.Procs.{send_kept_row}
use Rattle.def_calls.specs.Views.{a_proc}
use Rattle.rb_store.specs.Held.{Held}
use Rattle.heap.specs.Changes.{with_sent}
use Rattle.heap.specs.Made.{with_core_proc}
use Rattle.heap.specs.Reading.{proc_in}
use Rattle.run_calls.specs.declared.blocks.BlockArgument.{BlockArgument}
use Rattle.run_calls.specs.declared.blocks.BlockArgument.TheVariants.{NoBlock, BlockOf, NotABlock}
use Rattle.run_calls.specs.declared.activation.Runs.{Runs}
use Rattle.run_calls.specs.declared.activation.Runs.TheVariants as runs

-- The value of a block argument: nil, a Proc, or a Symbol, whose Proc sends it to its first argument.

abbrev pub proc_or_not : Option ObjId → BlockArgument
proc_or_not None = NotABlock
proc_or_not (Some p) = BlockOf p

abbrev pub passed : Store → Value → BlockArgument
passed st Nil = NoBlock
passed st True = NotABlock
passed st False = NotABlock
passed st (Int n) = NotABlock
passed st (Sym s) = BlockOf (next_number st)
passed st (Obj id) = proc_or_not (a_proc st.objects (Obj id))

abbrev pub with_passed : Held → Value → Held
with_passed h Nil = h
with_passed h True = h
with_passed h False = h
with_passed h (Int n) = h
with_passed h (Sym s) = with_core_proc h send_kept_row (Sym s)
with_passed h (Obj id) = h

-- the first call that passes a Proc as its block settles what a break of it ends
abbrev pub settled : Held → Option ObjId → Option ℕ → Held
settled h None target = h
settled h (Some block) target = with_sent h block target

abbrev pub target_in : Option ProcContents → Option ℕ
target_in None = None
target_in (Some c) = sending.break_target c.sending

-- the activation that a break ends in the activation of that number
abbrev pub break_target : Store → ℕ → Runs → Option ℕ
break_target st n runs.MainProgram = None
break_target st n runs.MethodBody = None
break_target st n (runs.BlockBody block) = target_in (proc_in (object_at st.objects block).kind)
break_target st n runs.LambdaBody = Some n
break_target st n runs.ClassBody = None
