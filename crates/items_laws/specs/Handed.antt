-- Methods that want one thing alone, and hand on what comes of it.
use Rattle.std.specs.Prelude.{◌≡◌, List, [], ◌∷◌, Bool, true, false, Option, Some, None}
use Rattle.rb_value.specs.declared.value.Value.{Value}
use Rattle.rb_value.specs.declared.value.ObjId.{ObjId}
use Rattle.rb_value.specs.declared.value.SymId.{SymId}
use Rattle.def_core.specs.Store.{Store}
use Rattle.rb_store.specs.Held.{Held}
use Rattle.def_plans.specs.Plan.{Plan, finishes, fails, raises, sends, calls, writes, reads, resumes, yields}
use Rattle.run_rows.specs.declared.row.KernelRow.{KernelRow}
use Rattle.run_rows.specs.declared.row.KernelRow.TheVariants as kernel
use Rattle.core_iter.specs.Stage.{Stage}
use Rattle.items_laws.specs.Run.{Turn}

-- the Proc that is called, with what, and with which block
abbrev pub call_in : Plan Stage → Option (ObjId × List Value × Option ObjId)
call_in (finishes v) = None
call_in (fails c) = None
call_in (raises e) = None
call_in (sends s v name args block public) = None
call_in (calls s p args block) = Some (p, args, block)
call_in (writes s bytes) = None
call_in (reads s) = None
call_in (resumes s f args) = None
call_in (yields s args) = None

-- the message that is sent to a value, with what, and with which block; and whether its method has to be public
abbrev pub message_in : Plan Stage → Option (Value × SymId × List Value × Option ObjId × Bool)
message_in (finishes v) = None
message_in (fails c) = None
message_in (raises e) = None
message_in (sends s v name args block public) = Some (v, name, args, block, public)
message_in (calls s p args block) = None
message_in (writes s bytes) = None
message_in (reads s) = None
message_in (resumes s f args) = None
message_in (yields s args) = None

-- the fiber that is resumed, and with what
abbrev pub resumed_in : Plan Stage → Option (ObjId × List Value)
resumed_in (finishes v) = None
resumed_in (fails c) = None
resumed_in (raises e) = None
resumed_in (sends s v name args block public) = None
resumed_in (calls s p args block) = None
resumed_in (writes s bytes) = None
resumed_in (reads s) = None
resumed_in (resumes s f args) = Some (f, args)
resumed_in (yields s args) = None

-- what a fiber yields
abbrev pub yielded_in : Plan Stage → Option (List Value)
yielded_in (finishes v) = None
yielded_in (fails c) = None
yielded_in (raises e) = None
yielded_in (sends s v name args block public) = None
yielded_in (calls s p args block) = None
yielded_in (writes s bytes) = None
yielded_in (reads s) = None
yielded_in (resumes s f args) = None
yielded_in (yields s args) = Some args

-- whether a line is read
abbrev pub is_read : Plan Stage → Bool
is_read (finishes v) = false
is_read (fails c) = false
is_read (raises e) = false
is_read (sends s v name args block public) = false
is_read (calls s p args block) = false
is_read (writes s bytes) = false
is_read (reads s) = true
is_read (resumes s f args) = false
is_read (yields s args) = false

-- the methods that want one thing alone; of `raise` that is `new` of a class
abbrev pub wants_one : KernelRow → Bool
wants_one kernel.Puts = false
wants_one kernel.Print = false
wants_one kernel.Inspect = false
wants_one kernel.Gets = true
wants_one kernel.Raise = true
wants_one kernel.Loop = false
wants_one kernel.Send = true
wants_one kernel.PublicSend = true
wants_one kernel.SendKept = true
wants_one kernel.Tap = true
wants_one kernel.Then = true
wants_one kernel.NewObject = true
wants_one kernel.CallProc = true
wants_one kernel.Resume = true
wants_one kernel.Yield = true
wants_one kernel.Message = false
wants_one kernel.InspectException = false

-- One thing is wanted, in the heap with that store; its answer ends the run, and the value is by that.
pub record HandsOn (IsWanted : Plan Stage → Type 0) (st : Store) (result : Value → Value) (ts : List Turn) (v : Value)
    (after : Held) : Type 0 where
  pub turn : Turn
  pub alone : ts ≡ turn ∷ []
  pub wanted : IsWanted turn.wanted.plan
  pub heap : turn.wanted.held.store ≡ st
  pub value : v ≡ result turn.answer
  pub left : after ≡ turn.held

-- the answer itself
abbrev pub as_answered : Value → Value
as_answered a = a

-- whatever the answer
abbrev pub always_that : Value → Value → Value
always_that v a = v
