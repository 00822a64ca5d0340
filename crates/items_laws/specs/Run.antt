-- The run of an iteration: what it wants, one thing after another, and what comes of each.
use Rattle.std.specs.Prelude.{◌≡◌, List, [], ◌∷◌, Option, Some, None}
use Rattle.rb_value.specs.declared.value.Value.{Value}
use Rattle.rb_value.specs.declared.value.ObjId.{ObjId}
use Rattle.rb_store.specs.Held.{Held}
use Rattle.def_plans.specs.Plan.{Plan, Planned, finishes, fails, raises, sends, calls, writes, reads, resumes, yields, gives}
use Rattle.run_rows.specs.declared.row.StarRow.{StarRow}
use Rattle.core_iter.specs.Stage.{Stage}
use Rattle.core_iter.specs.Rows.{Starts, GoesOn}

-- what it wants, with the heap that it leaves; and the answer, with the heap as it is then, whatever the program did to it
-- in between
pub record Turn : Type 0 where
  pub wanted : Planned Stage
  pub answer : Value
  pub held : Held

-- where it stands while it waits for the answer
abbrev pub waiting : Plan Stage → Option Stage
waiting (finishes v) = None
waiting (fails c) = None
waiting (raises e) = None
waiting (sends s v name args block public) = Some s
waiting (calls s p args block) = Some s
waiting (writes s bytes) = Some s
waiting (reads s) = Some s
waiting (resumes s f args) = Some s
waiting (yields s args) = Some s

-- by the answer comes the next plan, and of that what further comes
pub record Leads (t : Turn) (Further : Planned Stage → Type 0) : Type 0 where
  pub stage : Stage
  pub next : Planned Stage
  pub waits : waiting t.wanted.plan ≡ Some stage
  pub follows : GoesOn t.held stage t.answer next
  pub further : Further next

-- from a plan over these turns to another
abbrev pub Runs : Planned Stage → List Turn → Planned Stage → Type 0
Runs p [] last = p ≡ last
Runs p (t ∷ ts) last = (t.wanted ≡ p) × Leads t (λ next. Runs next ts last)

-- the whole run of a row over these turns, which gives a value and leaves that heap
pub record Gives (r : StarRow) (held : Held) (recv : Value) (args : List Value) (block : Option ObjId) (ts : List Turn)
    (v : Value) (after : Held) : Type 0 where
  pub first : Planned Stage
  pub starts : Starts r held recv args block first
  pub runs : Runs first ts (gives after v)
