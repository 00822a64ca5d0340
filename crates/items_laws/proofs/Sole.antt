-- Methods that want one thing alone, which never comes.
use Rattle.std.proofs.Common.{◌≡◌, refl, sym, ap, subst, ◌∙◌, List, [], ◌∷◌, length}
use Rattle.std.specs.Prelude.{get_or, Bool, true, false, Option, Some, None, Result, Ok, Err}
use Rattle.rb_value.specs.declared.value.Value.{Value}
use Rattle.rb_value.specs.declared.value.Value.TheVariants.{Nil, True, False, Int, Sym, Obj}
use Rattle.rb_value.specs.declared.value.ObjId.{ObjId}
use Rattle.rb_value.specs.declared.value.SymId.{SymId}
use Rattle.rb_value.specs.declared.kind.Sort.{Sort}
use Rattle.rb_value.specs.declared.kind.Sort.TheVariants as sort
use Rattle.rb_value.specs.declared.core_class.CoreClass.{CoreClass}
use Rattle.rb_value.specs.declared.core_class.CoreClass.TheVariants as class
use Rattle.def_core.specs.declared.cause.Cause.{Cause}
use Rattle.def_core.specs.Store.{next_number}
use Rattle.def_calls.specs.Views.{a_fiber, a_proc, an_exception}
use Rattle.rb_store.specs.Held.{Held}
use Rattle.heap.specs.declared.making.Blank.{Blank}
use Rattle.heap.specs.Copies.{copy_left, copy_of}
use Rattle.heap.specs.Reading.{sort_of_value}
use Rattle.core_calls.specs.Checks.{name_in}
use Rattle.def_plans.specs.Plan.{Planned, calls, reads, resumes, wanted}
use Rattle.run_rows.specs.declared.row.KernelRow.{KernelRow}
use Rattle.run_rows.specs.declared.row.KernelRow.TheVariants as kernel
use Rattle.run_rows.specs.declared.row.StarRow.TheVariants as row
use Rattle.core_iter.specs.declared.iteration.Iteration.TheVariants as state
use Rattle.core_iter.specs.Making as making
use Rattle.core_iter.specs.Raising as raising
use Rattle.core_iter.specs.Rows.{GoesOn, Starts, Unless, refused_by_kernel, with_block}
use Rattle.core_iter.specs.Sending as sending
use Rattle.core_iter.specs.Stage.{Stage, own}
use Rattle.items_laws.specs.Run.{Turn, Runs, waiting}
use Rattle.items_laws.specs.Handed.{wants_one}
use Rattle.items_laws.proofs.Cut.{dead}
use Rattle.items_laws.proofs.Small.{none_some, some_same}

-- whatever a plan waits for, its answer ends the run
abbrev pub EndsSoon : Planned Stage → Type 0
EndsSoon p = (s : Stage) → waiting p.plan ≡ Some s → (h : Held) (a : Value) (q : Planned Stage) → GoesOn h s a q
    → waiting q.plan ≡ None

pub sole : (ts : List Turn) (first last : Planned Stage) (s : Stage) → EndsSoon first → Runs first ts last
    → waiting last.plan ≡ Some s → (ts ≡ []) × (last ≡ first)
sole [] first last s ends runs waits = (refl, sym runs)
sole (t ∷ ts) first last s ends runs waits =
    let leads = runs.1 in
    let at = ap (λ (p : Planned Stage). waiting p.plan) (sym runs.0) ∙ leads.waits in
    absurd (dead leads.next last ts s (ends leads.stage at t.held t.answer leads.next leads.follows) waits leads.further)

-- Plans that end, and stages whose answer does.

pub over : (p : Planned Stage) → waiting p.plan ≡ None → EndsSoon p
over p none = λ s is h a q goes. absurd (none_some s (sym none ∙ is))

ended_by : (p q : Planned Stage) → p ≡ q → waiting q.plan ≡ None → EndsSoon p
ended_by p q is none = over p (ap (λ (x : Planned Stage). waiting x.plan) is ∙ none)

abbrev EndsAt : Stage → Type 0
EndsAt s = (h : Held) (a : Value) (q : Planned Stage) → GoesOn h s a q → waiting q.plan ≡ None

waits_at : (p : Planned Stage) (at : Stage) → waiting p.plan ≡ Some at → EndsAt at → EndsSoon p
waits_at p at waits ends = λ s is h a q goes.
    ends h a q (subst (λ (x : Stage). GoesOn h x a q) (some_same s at (sym is ∙ waits)) goes)

waits_so : (p q : Planned Stage) (at : Stage) → p ≡ q → waiting q.plan ≡ Some at → EndsAt at → EndsSoon p
waits_so p q at is waits ends = waits_at p at (ap (λ (x : Planned Stage). waiting x.plan) is ∙ waits) ends

handing : EndsAt (own state.Handing)
handing h a q goes = ap (λ (x : Planned Stage). waiting x.plan) goes

giving : (v : Value) → EndsAt (own (state.Giving v))
giving v h a q goes = ap (λ (x : Planned Stage). waiting x.plan) goes

made_ends : (h : Held) (o : Option ObjId) → waiting (raising.made_by h o).plan ≡ None
made_ends h (Some e) = refl
made_ends h None = refl

raised : EndsAt (own state.Raising)
raised h a q goes =
    ap (λ (x : Planned Stage). waiting x.plan) goes ∙ made_ends h (an_exception h.store.objects a)

-- what isn't refused for the number of its arguments
pub unless : (o : Option Cause) (held : Held) (p : Planned Stage) (Further : Type 0) → (Further → EndsSoon p)
    → Unless o held p Further → EndsSoon p
unless None held p Further ends starts = ends starts
unless (Some c) held p Further ends starts = over p (ap (λ (x : Planned Stage). waiting x.plan) starts)

-- Row by row.

tapped : (held : Held) (recv : Value) (block : Option ObjId) (p : Planned Stage)
    → p ≡ with_block kernel.Tap held recv block → EndsSoon p
tapped held recv None p is = ended_by p (sending.blockless held) is refl
tapped held recv (Some b) p is = waits_so p (with_block kernel.Tap held recv (Some b)) (own (state.Giving recv)) is refl
    (giving recv)

handed : (held : Held) (recv : Value) (block : Option ObjId) (p : Planned Stage)
    → p ≡ with_block kernel.Then held recv block → EndsSoon p
handed held recv None p is = ended_by p (sending.blockless held) is refl
handed held recv (Some b) p is = waits_so p (with_block kernel.Then held recv (Some b)) (own state.Handing) is refl handing

sent_by : (recv : Value) (args : List Value) (block : Option ObjId) (public : Bool) (name : Result SymId Cause)
    (p : Planned Stage) → p.plan ≡ sending.sent recv args block public name → EndsSoon p
sent_by recv args block public (Ok name) p is = waits_at p (own state.Handing) (ap waiting is) handing
sent_by recv args block public (Err c) p is = over p (ap waiting is)

sends : (held : Held) (recv n : Value) (args : List Value) (block : Option ObjId) (public : Bool) (p : Planned Stage)
    → sending.Sends held recv n args block public p → EndsSoon p
sends held recv n args block public p is = sent_by recv args block public (name_in held.store n).name p is.0

called : (held : Held) (recv : Value) (c : CoreClass) (o : Option ObjId) (further : ObjId → Planned Stage)
    (p : Planned Stage) → ((x : ObjId) → waiting (further x).plan ≡ Some (own state.Handing))
    → p ≡ wanted held c recv o further → EndsSoon p
called held recv c None further p waits is = ended_by p (wanted held c recv None further) is refl
called held recv c (Some x) further p waits is = waits_so p (further x) (own state.Handing) is (waits x) handing

made_by : (held : Held) (c : ObjId) (args : List Value) (block : Option ObjId) (o : Option Blank) (p : Planned Stage)
    → p ≡ making.new_by held c args block o → EndsSoon p
made_by held c args block (Some b) p is = waits_so p (making.new_by held c args block (Some b))
    (own (state.Giving (Obj (next_number held.store)))) is refl (giving (Obj (next_number held.store)))
made_by held c args block None p is = ended_by p (making.new_by held c args block None) is refl

made_of : (held : Held) (c : ObjId) (args : List Value) (block : Option ObjId) (s : Option Sort) (p : Planned Stage)
    → p ≡ making.of_sort held c args block s → EndsSoon p
made_of held c args block None p is = ended_by p (making.of_sort held c args block None) is refl
made_of held c args block (Some sort.Plain) p is =
    ended_by p (making.of_sort held c args block (Some sort.Plain)) is refl
made_of held c args block (Some sort.Class) p is = made_by held c args block (making.blank_for held.store c) p is
made_of held c args block (Some sort.Singleton) p is =
    ended_by p (making.of_sort held c args block (Some sort.Singleton)) is refl
made_of held c args block (Some sort.Module) p is =
    ended_by p (making.of_sort held c args block (Some sort.Module)) is refl
made_of held c args block (Some sort.String) p is =
    ended_by p (making.of_sort held c args block (Some sort.String)) is refl
made_of held c args block (Some sort.Array) p is =
    ended_by p (making.of_sort held c args block (Some sort.Array)) is refl
made_of held c args block (Some sort.Hash) p is =
    ended_by p (making.of_sort held c args block (Some sort.Hash)) is refl
made_of held c args block (Some sort.Range) p is =
    ended_by p (making.of_sort held c args block (Some sort.Range)) is refl
made_of held c args block (Some sort.Proc) p is =
    ended_by p (making.of_sort held c args block (Some sort.Proc)) is refl
made_of held c args block (Some sort.Fiber) p is =
    ended_by p (making.of_sort held c args block (Some sort.Fiber)) is refl
made_of held c args block (Some sort.Exception) p is =
    ended_by p (making.of_sort held c args block (Some sort.Exception)) is refl
made_of held c args block (Some sort.Enumerator) p is =
    ended_by p (making.of_sort held c args block (Some sort.Enumerator)) is refl
made_of held c args block (Some sort.Yielder) p is =
    ended_by p (making.of_sort held c args block (Some sort.Yielder)) is refl

made : (held : Held) (recv : Value) (args : List Value) (block : Option ObjId) (p : Planned Stage)
    → p ≡ making.new held recv args block → EndsSoon p
made held Nil args block p is = ended_by p (making.new held Nil args block) is refl
made held True args block p is = ended_by p (making.new held True args block) is refl
made held False args block p is = ended_by p (making.new held False args block) is refl
made held (Int z) args block p is = ended_by p (making.new held (Int z) args block) is refl
made held (Sym s) args block p is = ended_by p (making.new held (Sym s) args block) is refl
made held (Obj c) args block p is = made_of held c args block (sort_of_value held.store (Obj c)) p is

-- `raise`

again_ends : (h : Held) (o : Option ObjId) (m : Value) → waiting (raising.again_by h o m).plan ≡ None
again_ends h (Some e) m = refl
again_ends h None m = refl

again : (held : Held) (x : Value) (more : List Value) (p : Planned Stage)
    → raising.Object held x (Some sort.Exception) more p → EndsSoon p
again held x [] p is = over p (ap (λ (q : Planned Stage). waiting q.plan) is
    ∙ made_ends held (an_exception held.store.objects x))
again held x (m ∷ []) p is = over p (ap (λ (q : Planned Stage). waiting q.plan) is ∙ again_ends (copy_left held x)
    (an_exception (copy_left held x).store.objects (copy_of held.store x)) m)
again held x (m ∷ d ∷ more) p is = over p (ap (λ (q : Planned Stage). waiting q.plan) is)

text : (held : Held) (x : Value) (more : List Value) (p : Planned Stage)
    → raising.Object held x (Some sort.String) more p → EndsSoon p
text held x [] p is = over p (ap (λ (q : Planned Stage). waiting q.plan) is)
text held x (m ∷ more) p is = over p (ap (λ (q : Planned Stage). waiting q.plan) is)

by_new : (held : Held) (x : Value) (more : List Value) (p : Planned Stage) → p ≡ raising.new held x more → EndsSoon p
by_new held x more p is = waits_so p (raising.new held x more) (own state.Raising) is refl raised

first_of : (held : Held) (x : Value) (s : Option Sort) (more : List Value) (p : Planned Stage)
    → raising.First held x s more p → EndsSoon p
first_of held x None more p is = over p (ap (λ (q : Planned Stage). waiting q.plan) is)
first_of held x (Some sort.Plain) more p is = over p (ap (λ (q : Planned Stage). waiting q.plan) is)
first_of held x (Some sort.Class) more p is = by_new held x more p is
first_of held x (Some sort.Singleton) more p is = by_new held x more p is
first_of held x (Some sort.Module) more p is = over p (ap (λ (q : Planned Stage). waiting q.plan) is)
first_of held x (Some sort.String) more p is = text held x more p is
first_of held x (Some sort.Array) more p is = over p (ap (λ (q : Planned Stage). waiting q.plan) is)
first_of held x (Some sort.Hash) more p is = over p (ap (λ (q : Planned Stage). waiting q.plan) is)
first_of held x (Some sort.Range) more p is = over p (ap (λ (q : Planned Stage). waiting q.plan) is)
first_of held x (Some sort.Proc) more p is = over p (ap (λ (q : Planned Stage). waiting q.plan) is)
first_of held x (Some sort.Fiber) more p is = over p (ap (λ (q : Planned Stage). waiting q.plan) is)
first_of held x (Some sort.Exception) more p is = again held x more p is
first_of held x (Some sort.Enumerator) more p is = over p (ap (λ (q : Planned Stage). waiting q.plan) is)
first_of held x (Some sort.Yielder) more p is = over p (ap (λ (q : Planned Stage). waiting q.plan) is)

raises_it : (held : Held) (args : List Value) (p : Planned Stage) → raising.Raises held args p → EndsSoon p
raises_it held [] p is = over p (ap (λ (q : Planned Stage). waiting q.plan) is)
raises_it held (x ∷ more) p is = first_of held x (sort_of_value held.store x) more p is

-- what comes first is the only thing
pub soon : (held : Held) (recv : Value) (r : KernelRow) (args : List Value) (block : Option ObjId) (p : Planned Stage)
    → wants_one r ≡ true → Starts (row.Kernel r) held recv args block p → EndsSoon p
soon held recv kernel.Puts args block p so starts = absurd (cc)
soon held recv kernel.Print args block p so starts = absurd (cc)
soon held recv kernel.Inspect args block p so starts = absurd (cc)
soon held recv kernel.Gets args block p so starts =
    unless (refused_by_kernel kernel.Gets (length args)) held p (p ≡ record { plan = reads (own state.Handing); held = held }) (λ is. waits_so p (record { plan = reads (own state.Handing); held = held }) (own state.Handing) is refl handing) starts
soon held recv kernel.Raise args block p so starts =
    unless (refused_by_kernel kernel.Raise (length args)) held p (raising.Raises held args p) (λ is. raises_it held args p is) starts
soon held recv kernel.Loop args block p so starts = absurd (cc)
soon held recv kernel.Tap args block p so starts =
    unless (refused_by_kernel kernel.Tap (length args)) held p (p ≡ with_block kernel.Tap held recv block) (λ is. tapped held recv block p is) starts
soon held recv kernel.Then args block p so starts =
    unless (refused_by_kernel kernel.Then (length args)) held p (p ≡ with_block kernel.Then held recv block) (λ is. handed held recv block p is) starts
soon held recv kernel.Send args block p so starts =
    unless (refused_by_kernel kernel.Send (length args)) held p (sending.Sends held recv (get_or args 0 Nil) args block false p) (λ is. sends held recv (get_or args 0 Nil) args block false p is) starts
soon held recv kernel.PublicSend args block p so starts =
    unless (refused_by_kernel kernel.PublicSend (length args)) held p (sending.Sends held recv (get_or args 0 Nil) args block true p) (λ is. sends held recv (get_or args 0 Nil) args block true p is) starts
soon held recv kernel.SendKept args block p so starts =
    unless (refused_by_kernel kernel.SendKept (length args)) held p (sending.Sends held (get_or args 0 Nil) recv args block false p) (λ is. sends held (get_or args 0 Nil) recv args block false p is) starts
soon held recv kernel.NewObject args block p so starts = made held recv args block p starts
soon held recv kernel.CallProc args block p so starts = called held recv class.Proc (a_proc held.store.objects recv)
    (λ x. record { plan = calls (own state.Handing) x args block; held = held }) p (λ x. refl) starts
soon held recv kernel.Resume args block p so starts = called held recv class.Fiber (a_fiber held.store.objects recv)
    (λ x. record { plan = resumes (own state.Handing) x args; held = held }) p (λ x. refl) starts
soon held recv kernel.Yield args block p so starts =
    waits_so p (sending.yields_all held args) (own state.Handing) starts refl handing
soon held recv kernel.Message args block p so starts = absurd (cc)
soon held recv kernel.InspectException args block p so starts = absurd (cc)

-- all of them
pub first_awaited : (held : Held) (recv : Value) (r : KernelRow) (args : List Value) (block : Option ObjId)
    (ts : List Turn) (first last : Planned Stage) (s : Stage) → wants_one r ≡ true
    → Starts (row.Kernel r) held recv args block first → Runs first ts last → waiting last.plan ≡ Some s
    → (ts ≡ []) × (last ≡ first)
first_awaited held recv r args block ts first last s so starts runs waits =
    sole ts first last s (soon held recv r args block first so starts) runs waits
