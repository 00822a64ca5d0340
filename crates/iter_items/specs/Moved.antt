-- Plans of the methods below, which go on as methods over items.
use Rattle.def_plans.specs.Plan.{Plan, Planned, finishes, fails, raises, sends, calls, writes, reads, resumes, yields}

abbrev pub moved : {S T : Type 0} → (S → T) → Plan S → Plan T
moved as_other (finishes v) = finishes v
moved as_other (fails c) = fails c
moved as_other (raises e) = raises e
moved as_other (sends s v name args block public) = sends (as_other s) v name args block public
moved as_other (calls s p args block) = calls (as_other s) p args block
moved as_other (writes s bytes) = writes (as_other s) bytes
moved as_other (reads s) = reads (as_other s)
moved as_other (resumes s f args) = resumes (as_other s) f args
moved as_other (yields s args) = yields (as_other s) args

abbrev pub as_moved : {S T : Type 0} → (S → T) → Planned S → Planned T
as_moved as_other p = record { plan = moved as_other p.plan; held = p.held }

-- a plan that is meant, moved
pub data Moved {S T : Type 0} (as_other : S → T) (Meant : Planned S → Type 0) : Planned T → Type 0 where
  moves : (p : Planned S) → Meant p → Moved as_other Meant (as_moved as_other p)
