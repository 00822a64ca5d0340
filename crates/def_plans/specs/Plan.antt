-- What a core method that calls others wants next, and what it leaves.
use Rattle.std.specs.Prelude.{◌≡◌, ℕ, List, Bool, false, Option, Some, None, Result, Ok, Err}
use Rattle.std.specs.declared.alloc.AllocError.{AllocError}
use Rattle.rb_value.specs.declared.value.Value.{Value}
use Rattle.rb_value.specs.declared.value.ObjId.{ObjId}
use Rattle.rb_value.specs.declared.value.SymId.{SymId}
use Rattle.rb_value.specs.declared.core_class.CoreClass.{CoreClass}
use Rattle.def_core.specs.declared.cause.Cause.{Cause}
use Rattle.def_core.specs.declared.cause.Cause.TheVariants as cause
use Rattle.def_core.specs.Store.{core}
use Rattle.def_core.specs.Classes.{plain_class_of}
use Rattle.def_core.specs.Changes.{intern, Interned}
use Rattle.rb_store.specs.Held.{Held}
use Rattle.core_calls.specs.Checks.{own}
use Rattle.core_calls.specs.declared.plan.Plan as code
use Rattle.core_calls.specs.declared.plan.Plan.TheVariants as wants

-- it finishes with a value, fails or raises; or it calls, writes, reads, resumes or yields, and then stands there
pub data Plan (S : Type 0) : Type 0 where
  finishes : Value → Plan S
  fails : Cause → Plan S
  raises : ObjId → Plan S
  -- the method of that name, which has to be public or not
  sends : S → Value → SymId → List Value → Option ObjId → Bool → Plan S
  calls : S → ObjId → List Value → Option ObjId → Plan S
  writes : S → List ℕ → Plan S
  reads : S → Plan S
  resumes : S → ObjId → List Value → Plan S
  yields : S → List Value → Plan S

-- a plan whose states stand for these
abbrev pub plan_of : {S T : Type 0} → (S → T) → code.Plan S → Plan T
plan_of seen (wants.Finishes v) = finishes v
plan_of seen (wants.Fails c) = fails c
plan_of seen (wants.Raises e) = raises e
plan_of seen (wants.Sends s v name args block public) = sends (seen s) v name args.items block public
plan_of seen (wants.Calls s p args block) = calls (seen s) p args.items block
plan_of seen (wants.Writes s bytes) = writes (seen s) bytes.items
plan_of seen (wants.Reads s) = reads (seen s)
plan_of seen (wants.Resumes s f args) = resumes (seen s) f args.items
plan_of seen (wants.Yields s args) = yields (seen s) args.items

-- a plan, and the heap that is left
pub record Planned (S : Type 0) : Type 0 where
  pub plan : Plan S
  pub held : Held

-- the method wants what is defined and leaves that heap; memory may run out
abbrev pub Plans : {S T : Type 0} → (S → T) → Held → Result (code.Plan S) AllocError → Planned T → Type 0
Plans seen after (Ok p) defined = defined ≡ record { plan = plan_of seen p; held = after }
Plans seen after (Err e) defined = Unit {0}

-- Plans that end.

abbrev pub gives : {S : Type 0} → Held → Value → Planned S
gives held v = record { plan = finishes v; held = held }

abbrev pub refuses : {S : Type 0} → Held → Cause → Planned S
refuses held c = record { plan = fails c; held = held }

-- what comes where nothing is refused
abbrev pub unless : {S : Type 0} → Held → Option Cause → Planned S → Planned S
unless held (Some c) further = refuses held c
unless held None further = further

-- a value of a core class was expected
abbrev pub expected : Held → CoreClass → Value → Cause
expected held core_class v = cause.Expected (core core_class) (plain_class_of held.store.objects (own held.store v))

-- the value is wanted as one of the class, which it is where something is found in it
abbrev pub wanted : {A S : Type 0} → Held → CoreClass → Value → Option A → (A → Planned S) → Planned S
wanted held core_class v None further = refuses held (expected held core_class v)
wanted held core_class v (Some x) further = further x

-- a call by a name of the language, which is a symbol then
abbrev pub sends_by : {S : Type 0} → Held → S → Value → List Value → Interned → Planned S
sends_by held then recv args named = record {
  plan = sends then recv named.symbol args None false;
  held = record held { store = named.store };
}

abbrev pub sends_named : {S : Type 0} → Held → S → Value → List ℕ → List Value → Planned S
sends_named held then recv name args = sends_by held then recv args (intern held.store name)

-- the method wants one of the plans that are meant, and leaves its heap
abbrev pub Meets : {S T : Type 0} → (S → T) → Held → Result (code.Plan S) AllocError → (Planned T → Type 0) → Type 0
Meets seen after (Ok p) Meant = Meant (record { plan = plan_of seen p; held = after })
Meets seen after (Err e) Meant = Unit {0}
