-- Methods that want one thing alone.
use Rattle.std.proofs.Common.{◌≡◌, ℕ, suc, refl, sym, ap, subst, ◌∙◌, List, [], ◌∷◌, length, arith}
use Rattle.std.specs.Prelude.{codes, nat_le, Bool, true, false, ◌&&◌, if◌then◌else◌, Option, Some, None, Result, Ok}
use Rattle.std.proofs.lemmas.Bool.Decides.{nat_tests}
use Rattle.rb_value.specs.declared.value.Value.{Value}
use Rattle.rb_value.specs.declared.value.Value.TheVariants.{Obj}
use Rattle.rb_value.specs.declared.value.ObjId.{ObjId}
use Rattle.rb_value.specs.declared.value.SymId.{SymId}
use Rattle.rb_value.specs.declared.kind.Sort.{Sort}
use Rattle.rb_value.specs.declared.kind.Sort.TheVariants as sort
use Rattle.rb_value.specs.declared.core_class.CoreClass.TheVariants as class
use Rattle.def_core.specs.declared.cause.Cause.{Cause}
use Rattle.def_core.specs.declared.cause.Cause.TheVariants as cause
use Rattle.def_core.specs.Store.{Store, next_number}
use Rattle.def_calls.specs.Views.{a_fiber, a_proc}
use Rattle.rb_store.specs.Held.{Held}
use Rattle.heap.specs.declared.making.Blank.{Blank}
use Rattle.heap.specs.Made.{with_blank}
use Rattle.heap.specs.Reading.{sort_of_value}
use Rattle.core_calls.specs.Checks.{miscounted, name_in}
use Rattle.def_plans.specs.Plan.{Plan, Planned, calls, sends, reads, resumes, yields, gives, wanted}
use Rattle.run_rows.specs.declared.row.KernelRow.TheVariants as kernel
use Rattle.run_rows.specs.declared.row.StarRow.TheVariants as row
use Rattle.core_iter.specs.declared.iteration.Iteration.TheVariants as state
use Rattle.core_iter.specs.Making as making
use Rattle.core_iter.specs.Rows.{GoesOn, Unless}
use Rattle.core_iter.specs.Sending as sending
use Rattle.core_iter.specs.Stage.{Stage, own}
use Rattle.items_laws.specs.Run.{Turn, Runs, Gives, waiting}
use Rattle.items_laws.specs.Asked.{symbol, with_symbol}
use Rattle.items_laws.specs.Handed.{HandsOn, always_that, as_answered, call_in, is_read, message_in, resumed_in, yielded_in}
use Rattle.items_laws.proofs.Course.{given}
use Rattle.items_laws.proofs.Small.{none_some, some_same}

-- where it stands while it waits, and what it gives by the answer
pub record Handing (s : Stage) (result : Value → Value) : Type 0 where
  pub goes : (held : Held) (a : Value) (p : Planned Stage) → GoesOn held s a p → p ≡ gives held (result a)

hands : Handing (own state.Handing) as_answered
hands = record { goes = λ held a p e. e }

gives_it : (v : Value) → Handing (own (state.Giving v)) (always_that v)
gives_it v = record { goes = λ held a p e. e }

pub once : (IsWanted : Plan Stage → Type 0) (s : Stage) (result : Value → Value) → Handing s result → (ts : List Turn)
    (v : Value) (after : Held) (first : Planned Stage) → waiting first.plan ≡ Some s → IsWanted first.plan
    → Runs first ts (gives after v) → HandsOn IsWanted first.held.store result ts v after
once IsWanted s result h [] v after first waits is runs =
    absurd (none_some s (sym (ap (λ (p : Planned Stage). waiting p.plan) runs) ∙ waits))
once IsWanted s result h (t ∷ ts) v after first waits is runs =
    let same = runs.0 in
    let leads = runs.1 in
    let stage = some_same leads.stage s (sym leads.waits ∙ ap (λ (p : Planned Stage). waiting p.plan) same ∙ waits) in
    let next = h.goes t.held t.answer leads.next
    (subst (λ (x : Stage). GoesOn t.held x t.answer leads.next) stage leads.follows) in
    let end = given ts t.held (result t.answer) v after
    (subst (λ (p : Planned Stage). Runs p ts (gives after v)) next leads.further) in
    record {
      turn = t;
      alone = ap (λ (l : List Turn). t ∷ l) end.0;
      wanted = subst (λ (p : Planned Stage). IsWanted p.plan) (sym same) is;
      heap = ap (λ (p : Planned Stage). p.held.store) same;
      value = end.1;
      left = end.2;
    }

-- by the plan and the store that come first
by_first : (IsWanted : Plan Stage → Type 0) (s : Stage) (result : Value → Value) → Handing s result → (st : Store)
    (ts : List Turn) (v : Value) (after : Held) (first : Planned Stage) (plan : Plan Stage) → first.plan ≡ plan
    → first.held.store ≡ st → waiting plan ≡ Some s → IsWanted plan → Runs first ts (gives after v)
    → HandsOn IsWanted st result ts v after
by_first IsWanted s result h st ts v after first plan same store waits is runs =
    subst (λ (x : Store). HandsOn IsWanted x result ts v after) store
    (once IsWanted s result h ts v after first (ap waiting same ∙ waits) (subst IsWanted (sym same) is) runs)

pub calls_proc : (held after : Held) (recv v : Value) (p : ObjId) (args : List Value) (block : Option ObjId)
    (ts : List Turn) → a_proc held.store.objects recv ≡ Some p
    → Gives (row.Kernel kernel.CallProc) held recv args block ts v after
    → HandsOn (λ q. call_in q ≡ Some (p, args, block)) held.store as_answered ts v after
calls_proc held after recv v p args block ts is run =
    let first = run.starts ∙ ap (λ (o : Option ObjId). wanted held class.Proc recv o
    (λ x. record { plan = calls (own state.Handing) x args block; held = held })) is in
    by_first (λ q. call_in q ≡ Some (p, args, block)) (own state.Handing) as_answered hands held.store ts v after run.first
    (calls (own state.Handing) p args block) (ap (λ (q : Planned Stage). q.plan) first)
    (ap (λ (q : Planned Stage). q.held.store) first) refl refl run.runs

pub taps : (held after : Held) (recv v : Value) (b : ObjId) (ts : List Turn)
    → Gives (row.Kernel kernel.Tap) held recv [] (Some b) ts v after
    → HandsOn (λ q. call_in q ≡ Some (b, recv ∷ [], None)) held.store (always_that recv) ts v after
taps held after recv v b ts run =
    by_first (λ q. call_in q ≡ Some (b, recv ∷ [], None)) (own (state.Giving recv)) (always_that recv) (gives_it recv)
    held.store ts v after run.first (calls (own (state.Giving recv)) b (recv ∷ []) None)
    (ap (λ (q : Planned Stage). q.plan) run.starts) (ap (λ (q : Planned Stage). q.held.store) run.starts) refl refl run.runs

pub thens : (held after : Held) (recv v : Value) (b : ObjId) (ts : List Turn)
    → Gives (row.Kernel kernel.Then) held recv [] (Some b) ts v after
    → HandsOn (λ q. call_in q ≡ Some (b, recv ∷ [], None)) held.store as_answered ts v after
thens held after recv v b ts run =
    by_first (λ q. call_in q ≡ Some (b, recv ∷ [], None)) (own state.Handing) as_answered hands held.store ts v after
    run.first (calls (own state.Handing) b (recv ∷ []) None) (ap (λ (q : Planned Stage). q.plan) run.starts)
    (ap (λ (q : Planned Stage). q.held.store) run.starts) refl refl run.runs

-- `send` and its kin

enough : (k : ℕ) → nat_le 1 (suc k) ≡ true
enough k = grind (arith, nat_tests)

counted : (k : ℕ) → miscounted (suc k) 1 None ≡ None
counted k = ap (λ (c : Bool). if c && true then None else Some (cause.WrongCount (suc k) 1 None)) (enough k)

abbrev Sending : Held → Value → Value → Bool → List Value → Option ObjId → SymId → List Turn → Value → Held → Type 0
Sending held recv n public args block name ts v after =
    HandsOn (λ q. message_in q ≡ Some (recv, name, args, block, public)) (name_in held.store n).store as_answered ts v after

sending_so : (held after : Held) (recv n x v : Value) (public : Bool) (args : List Value) (block : Option ObjId)
    (name : SymId) (ts : List Turn) (first : Planned Stage) → (name_in held.store n).name ≡ Ok name
    → sending.Sends held recv n (x ∷ args) block public first → Runs first ts (gives after v)
    → Sending held recv n public args block name ts v after
sending_so held after recv n x v public args block name ts first named starts runs =
    by_first (λ q. message_in q ≡ Some (recv, name, args, block, public)) (own state.Handing) as_answered hands
    (name_in held.store n).store ts v after first (sends (own state.Handing) recv name args block public)
    (starts.0 ∙ ap (λ (o : Result SymId Cause). sending.sent recv (x ∷ args) block public o) named) starts.1 refl refl runs

pub sends_on : (held after : Held) (recv n v : Value) (args : List Value) (block : Option ObjId) (name : SymId)
    (ts : List Turn) → (name_in held.store n).name ≡ Ok name
    → Gives (row.Kernel kernel.Send) held recv (n ∷ args) block ts v after
    → HandsOn (λ q. message_in q ≡ Some (recv, name, args, block, false)) (name_in held.store n).store as_answered ts v after
sends_on held after recv n v args block name ts named run =
    sending_so held after recv n n v false args block name ts run.first named
    (subst (λ (o : Option Cause). Unless o held run.first (sending.Sends held recv n (n ∷ args) block false run.first))
    (counted (length args)) run.starts) run.runs

pub sends_publicly : (held after : Held) (recv n v : Value) (args : List Value) (block : Option ObjId) (name : SymId)
    (ts : List Turn) → (name_in held.store n).name ≡ Ok name
    → Gives (row.Kernel kernel.PublicSend) held recv (n ∷ args) block ts v after
    → HandsOn (λ q. message_in q ≡ Some (recv, name, args, block, true)) (name_in held.store n).store as_answered ts v after
sends_publicly held after recv n v args block name ts named run =
    sending_so held after recv n n v true args block name ts run.first named
    (subst (λ (o : Option Cause). Unless o held run.first (sending.Sends held recv n (n ∷ args) block true run.first))
    (counted (length args)) run.starts) run.runs

-- `new`
pub makes_new : (held after : Held) (c : ObjId) (v : Value) (k : Blank) (args : List Value) (block : Option ObjId)
    (ts : List Turn) → sort_of_value held.store (Obj c) ≡ Some sort.Class → making.blank_for held.store c ≡ Some k
    → Gives (row.Kernel kernel.NewObject) held (Obj c) args block ts v after
    → HandsOn (λ q. message_in q
    ≡ Some (Obj (next_number held.store), symbol (codes "initialize") (with_blank held c k), args, block, false))
    (with_symbol (codes "initialize") (with_blank held c k)).store (always_that (Obj (next_number held.store))) ts v after
makes_new held after c v k args block ts is_class holds run =
    let new_object = Obj (next_number held.store) in
    let name = symbol (codes "initialize") (with_blank held c k) in
    let first = run.starts ∙ ap (λ (o : Option Sort). making.of_sort held c args block o) is_class
    ∙ ap (λ (o : Option Blank). making.new_by held c args block o) holds in
    by_first (λ q. message_in q ≡ Some (new_object, name, args, block, false)) (own (state.Giving new_object))
    (always_that new_object) (gives_it new_object) (with_symbol (codes "initialize") (with_blank held c k)).store ts v after
    run.first (sends (own (state.Giving new_object)) new_object name args block false)
    (ap (λ (q : Planned Stage). q.plan) first) (ap (λ (q : Planned Stage). q.held.store) first) refl refl run.runs

-- the Proc of a Symbol
pub sends_kept : (held after : Held) (recv x v : Value) (args : List Value) (block : Option ObjId) (name : SymId)
    (ts : List Turn) → (name_in held.store recv).name ≡ Ok name
    → Gives (row.Kernel kernel.SendKept) held recv (x ∷ args) block ts v after
    → HandsOn (λ q. message_in q ≡ Some (x, name, args, block, false)) (name_in held.store recv).store as_answered ts v after
sends_kept held after recv x v args block name ts named run =
    sending_so held after x recv x v false args block name ts run.first named
    (subst (λ (o : Option Cause). Unless o held run.first (sending.Sends held x recv (x ∷ args) block false run.first))
    (counted (length args)) run.starts) run.runs

-- fibers, and a line

pub resumes_it : (held after : Held) (recv v : Value) (f : ObjId) (args : List Value) (block : Option ObjId)
    (ts : List Turn) → a_fiber held.store.objects recv ≡ Some f
    → Gives (row.Kernel kernel.Resume) held recv args block ts v after
    → HandsOn (λ q. resumed_in q ≡ Some (f, args)) held.store as_answered ts v after
resumes_it held after recv v f args block ts is run =
    let first = run.starts ∙ ap (λ (o : Option ObjId). wanted held class.Fiber recv o
    (λ x. record { plan = resumes (own state.Handing) x args; held = held })) is in
    by_first (λ q. resumed_in q ≡ Some (f, args)) (own state.Handing) as_answered hands held.store ts v after run.first
    (resumes (own state.Handing) f args) (ap (λ (q : Planned Stage). q.plan) first)
    (ap (λ (q : Planned Stage). q.held.store) first) refl refl run.runs

pub yields_them : (held after : Held) (recv v : Value) (args : List Value) (block : Option ObjId) (ts : List Turn)
    → Gives (row.Kernel kernel.Yield) held recv args block ts v after
    → HandsOn (λ q. yielded_in q ≡ Some args) held.store as_answered ts v after
yields_them held after recv v args block ts run =
    by_first (λ q. yielded_in q ≡ Some args) (own state.Handing) as_answered hands held.store ts v after run.first
    (yields (own state.Handing) args) (ap (λ (q : Planned Stage). q.plan) run.starts)
    (ap (λ (q : Planned Stage). q.held.store) run.starts) refl refl run.runs

pub reads_line : (held after : Held) (recv v : Value) (block : Option ObjId) (ts : List Turn)
    → Gives (row.Kernel kernel.Gets) held recv [] block ts v after
    → HandsOn (λ q. is_read q ≡ true) held.store as_answered ts v after
reads_line held after recv v block ts run =
    by_first (λ q. is_read q ≡ true) (own state.Handing) as_answered hands held.store ts v after run.first
    (reads (own state.Handing)) (ap (λ (q : Planned Stage). q.plan) run.starts)
    (ap (λ (q : Planned Stage). q.held.store) run.starts) refl refl run.runs
