-- `raise`.
use Rattle.std.proofs.Common.{◌≡◌, refl, sym, ap, subst, ◌∙◌, List, [], ◌∷◌, length}
use Rattle.std.specs.Prelude.{Option, Some, None}
use Rattle.rb_value.specs.declared.value.Value.{Value}
use Rattle.rb_value.specs.declared.value.Value.TheVariants.{Nil, True, False, Int, Sym, Obj}
use Rattle.rb_value.specs.declared.value.ObjId.{ObjId}
use Rattle.rb_value.specs.declared.kind.Sort.{Sort}
use Rattle.rb_value.specs.declared.kind.Sort.TheVariants as sort
use Rattle.rb_value.specs.declared.core_class.CoreClass.TheVariants as class
use Rattle.def_core.specs.declared.cause.Cause.{Cause}
use Rattle.def_core.specs.declared.cause.Cause.TheVariants as cause
use Rattle.def_core.specs.Store.{core, next_number}
use Rattle.def_calls.specs.Views.{an_exception, exception_of, if_there, kind_in}
use Rattle.rb_store.specs.Held.{Held}
use Rattle.heap.specs.Changes.{with_message}
use Rattle.heap.specs.Copies.{copy_left, copy_of}
use Rattle.heap.specs.Made.{with_exception}
use Rattle.heap.specs.Reading.{sort_of_value}
use Rattle.def_plans.specs.Plan.{Plan, Planned, finishes, fails, raises, sends, calls, writes, reads, resumes, yields, gives, refuses}
use Rattle.run_rows.specs.declared.row.KernelRow.TheVariants as kernel
use Rattle.run_rows.specs.declared.row.StarRow.TheVariants as row
use Rattle.core_iter.specs.declared.iteration.Iteration.TheVariants as state
use Rattle.core_iter.specs.Raising as raising
use Rattle.core_iter.specs.Rows.{Unless, refused_by_kernel}
use Rattle.core_iter.specs.Stage.{Stage, own}
use Rattle.items_laws.specs.Run.{Turn, Runs, Gives, waiting}
use Rattle.items_laws.specs.Handed.{message_in}
use Rattle.items_laws.specs.Raised.{AtOnce, IsAgain, IsAnswered, IsMade, IsRefused, Throws}
use Rattle.items_laws.proofs.Course.{no_turn}
use Rattle.items_laws.proofs.Inversion.{not_given}
use Rattle.items_laws.proofs.Small.{none_some, some_none, some_same}
use Rattle.items_laws.proofs.Speaking.{stepped}

-- Plans that end.

abbrev raised_in : Plan Stage → Option ObjId
raised_in (finishes v) = None
raised_in (fails c) = None
raised_in (raises e) = Some e
raised_in (sends s v name args block public) = None
raised_in (calls s p args block) = None
raised_in (writes s bytes) = None
raised_in (reads s) = None
raised_in (resumes s f args) = None
raised_in (yields s args) = None

abbrev pub cause_in : Plan Stage → Option Cause
cause_in (finishes v) = None
cause_in (fails c) = Some c
cause_in (raises e) = None
cause_in (sends s v name args block public) = None
cause_in (calls s p args block) = None
cause_in (writes s bytes) = None
cause_in (reads s) = None
cause_in (resumes s f args) = None
cause_in (yields s args) = None

abbrev throwing : Held → ObjId → Planned Stage
throwing held e = record { plan = raises e; held = held }

pub stands : (ts : List Turn) (p q last : Planned Stage) → p ≡ q → waiting q.plan ≡ None → Runs p ts last
    → (ts ≡ []) × (last ≡ q)
stands [] p q last is none runs = (refl, sym runs ∙ is)
stands (t ∷ ts) p q last is none runs = absurd (no_turn t p (λ next. Runs next ts last)
    (ap (λ (x : Planned Stage). waiting x.plan) is ∙ none) runs.0 runs.1)

-- one that raises has raised that exception
thrown : (ts : List Turn) (p : Planned Stage) (e f : ObjId) (left after : Held) → p ≡ throwing left e
    → Runs p ts (throwing after f) → AtOnce ts f e after left
thrown ts p e f left after is runs =
    let s = stands ts p (throwing left e) (throwing after f) is refl runs in
    (s.0, some_same f e (ap (λ (q : Planned Stage). raised_in q.plan) s.1), ap (λ (q : Planned Stage). q.held) s.1)

-- and one that has failed raises none
not_thrown : (ts : List Turn) (p : Planned Stage) (c : Cause) (f : ObjId) (left after : Held) → p ≡ refuses left c
    → Runs p ts (throwing after f) → ⊥
not_thrown ts p c f left after is runs =
    let s = stands ts p (refuses left c) (throwing after f) is refl runs in
    some_none f (ap (λ (q : Planned Stage). raised_in q.plan) s.1)

-- Exceptions.

object_same : (o : Option (Value × Value)) (e f : ObjId) → if_there o (Obj e) ≡ Some f → f ≡ e
object_same None e f is = absurd (none_some f is)
object_same (Some x) e f is = sym (some_same e f is)

object_is : (o : Option (Value × Value)) (v : Value) (f : ObjId) → if_there o v ≡ Some f → v ≡ Obj f
object_is None v f is = absurd (none_some f is)
object_is (Some x) Nil f is = absurd (none_some f is)
object_is (Some x) True f is = absurd (none_some f is)
object_is (Some x) False f is = absurd (none_some f is)
object_is (Some x) (Int z) f is = absurd (none_some f is)
object_is (Some x) (Sym s) f is = absurd (none_some f is)
object_is (Some x) (Obj e) f is = ap (λ (i : ObjId). Obj i) (some_same e f is)

-- The value that is raised, where the arguments are as many as there may be.

record Began (held : Held) (x : Value) (more : List Value) (s : Option Sort) (first : Planned Stage) : Type 0 where
  comes : raising.First held x s more first

began_by : (held after : Held) (x : Value) (more : List Value) (s : Option Sort) (ts : List Turn) (f : ObjId)
    (first : Planned Stage) (o : Option Cause) → sort_of_value held.store x ≡ s
    → Unless o held first (raising.First held x (sort_of_value held.store x) more first)
    → Runs first ts (throwing after f) → Began held x more s first
began_by held after x more s ts f first None is starts runs =
    record { comes = subst (λ (o : Option Sort). raising.First held x o more first) is starts }
began_by held after x more s ts f first (Some c) is starts runs = absurd (not_thrown ts first c f held after starts runs)

began : (held after : Held) (recv x : Value) (more : List Value) (block : Option ObjId) (s : Option Sort)
    (ts : List Turn) (f : ObjId) → sort_of_value held.store x ≡ s
    → (run : Throws (row.Kernel kernel.Raise) held recv (x ∷ more) block ts f after) → Began held x more s run.first
began held after recv x more block s ts f is run =
    began_by held after x more s ts f run.first (refused_by_kernel kernel.Raise (length (x ∷ more))) is run.starts run.runs

-- an exception itself

made_so : (held after : Held) (v : Value) (ts : List Turn) (f : ObjId) (first : Planned Stage) (o : Option ObjId)
    → an_exception held.store.objects v ≡ o → first ≡ raising.made held v → Runs first ts (throwing after f)
    → (o ≡ Some f) × (ts ≡ []) × (after ≡ held)
made_so held after v ts f first None is comes runs =
    absurd (not_thrown ts first cause.NotException f held after (comes ∙ ap (raising.made_by held) is) runs)
made_so held after v ts f first (Some e) is comes runs =
    let t = thrown ts first e f held after (comes ∙ ap (raising.made_by held) is) runs in
    (ap (λ (i : ObjId). Some i) (sym t.1), t.0, t.2)

pub raised_itself : (held after : Held) (recv : Value) (e f : ObjId) (block : Option ObjId) (ts : List Turn)
    → sort_of_value held.store (Obj e) ≡ Some sort.Exception
    → Throws (row.Kernel kernel.Raise) held recv (Obj e ∷ []) block ts f after → AtOnce ts f e after held
raised_itself held after recv e f block ts is run =
    let b = began held after recv (Obj e) [] block (Some sort.Exception) ts f is run in
    let o = an_exception held.store.objects (Obj e) in
    let m = made_so held after (Obj e) ts f run.first o refl b.comes run.runs in
    (m.1, object_same (exception_of (kind_in held.store.objects (Obj e))) e f m.0, m.2)

-- a copy with another message

again_so : (held after : Held) (x m : Value) (ts : List Turn) (f : ObjId) (first : Planned Stage) (o : Option ObjId)
    → an_exception (copy_left held x).store.objects (copy_of held.store x) ≡ o → first ≡ raising.again held x m
    → Runs first ts (throwing after f) → (o ≡ Some f) × (ts ≡ []) × (after ≡ with_message (copy_left held x) f m)
again_so held after x m ts f first None is comes runs =
    absurd (not_thrown ts first cause.NotException f (copy_left held x) after
    (comes ∙ ap (λ (o : Option ObjId). raising.again_by (copy_left held x) o m) is) runs)
again_so held after x m ts f first (Some e) is comes runs =
    let t = thrown ts first e f (with_message (copy_left held x) e m) after
    (comes ∙ ap (λ (o : Option ObjId). raising.again_by (copy_left held x) o m) is) runs in (
      ap (λ (i : ObjId). Some i) (sym t.1),
      t.0,
      t.2 ∙ ap (λ (i : ObjId). with_message (copy_left held x) i m) (sym t.1),
    )

pub raised_again : (held after : Held) (recv x m : Value) (f : ObjId) (block : Option ObjId) (ts : List Turn)
    → sort_of_value held.store x ≡ Some sort.Exception
    → Throws (row.Kernel kernel.Raise) held recv (x ∷ m ∷ []) block ts f after → IsAgain held x m ts f after
raised_again held after recv x m f block ts is run =
    let b = began held after recv x (m ∷ []) block (Some sort.Exception) ts f is run in
    let objects = (copy_left held x).store.objects in
    let a = again_so held after x m ts f run.first (an_exception objects (copy_of held.store x)) refl b.comes run.runs in
    record {
      none = a.1;
      copy = object_is (exception_of (kind_in objects (copy_of held.store x))) (copy_of held.store x) f a.0;
      left = a.2;
    }

-- a text

pub raised_text : (held after : Held) (recv x : Value) (f : ObjId) (block : Option ObjId) (ts : List Turn)
    → sort_of_value held.store x ≡ Some sort.String
    → Throws (row.Kernel kernel.Raise) held recv (x ∷ []) block ts f after
    → AtOnce ts f (next_number held.store) after (with_exception held (core class.RuntimeError) x Nil)
raised_text held after recv x f block ts is run =
    let b = began held after recv x [] block (Some sort.String) ts f is run in
    thrown ts run.first (next_number held.store) f (with_exception held (core class.RuntimeError) x Nil) after b.comes run.runs

-- what `new` of a class gives

answered_so : (held after : Held) (x : Value) (more : List Value) (ts : List Turn) (f : ObjId) (first : Planned Stage)
    → first ≡ raising.new held x more → Runs first ts (throwing after f) → IsMade held x more ts (IsAnswered f after)
answered_so held after x more [] f first comes runs =
    absurd (none_some f (ap (λ (q : Planned Stage). raised_in q.plan) (sym comes ∙ runs)))
answered_so held after x more (t ∷ ts) f first comes runs =
    let last = throwing after f in
    let k = stepped (raising.new held x more) first (own state.Raising) t ts last comes refl runs in
    let objects = t.held.store.objects in
    let m = made_so t.held after t.answer ts f k.next (an_exception objects t.answer) refl k.goes k.runs in
    record {
      turn = t;
      alone = ap (λ (us : List Turn). t ∷ us) m.1;
      message = ap (λ (q : Planned Stage). message_in q.plan) k.wanted;
      heap = ap (λ (q : Planned Stage). q.held) k.wanted;
      result = record {
        value = object_is (exception_of (kind_in objects t.answer)) t.answer f m.0;
        exception = m.0;
        left = m.2;
      };
    }

pub raised_by_new : (held after : Held) (recv x : Value) (more : List Value) (f : ObjId) (block : Option ObjId)
    (ts : List Turn) → sort_of_value held.store x ≡ Some sort.Class
    → Throws (row.Kernel kernel.Raise) held recv (x ∷ more) block ts f after
    → IsMade held x more ts (IsAnswered f after)
raised_by_new held after recv x more f block ts is run =
    let b = began held after recv x more block (Some sort.Class) ts f is run in
    answered_so held after x more ts f run.first b.comes run.runs

-- without arguments

pub unhandled : (held after : Held) (recv : Value) (block : Option ObjId) (c : Cause) (ts : List Turn)
    → IsRefused (row.Kernel kernel.Raise) held recv [] block ts c after
    → (ts ≡ []) × (c ≡ cause.Unhandled) × (after ≡ held)
unhandled held after recv block c ts run =
    let s = stands ts run.first (refuses held cause.Unhandled) (refuses after c) run.starts refl run.runs in
    (s.0, some_same c cause.Unhandled (ap (λ (q : Planned Stage). cause_in q.plan) s.1), ap (λ (q : Planned Stage). q.held) s.1)

-- `raise` gives no value.

not_given_so : (ts : List Turn) (p : Planned Stage) (e : ObjId) (left after : Held) (v : Value) → p ≡ throwing left e
    → Runs p ts (gives after v) → ⊥
not_given_so ts p e left after v is runs =
    some_none e (ap (λ (q : Planned Stage). raised_in q.plan)
    (sym (stands ts p (throwing left e) (gives after v) is refl runs).1))

failed : (ts : List Turn) (p : Planned Stage) (c : Cause) (left after : Held) (v : Value) → p ≡ refuses left c
    → Runs p ts (gives after v) → ⊥
failed ts p c left after v is runs =
    some_none c (ap (λ (q : Planned Stage). cause_in q.plan)
    (sym (stands ts p (refuses left c) (gives after v) is refl runs).1))

made_gives_none : (held after : Held) (x v : Value) (ts : List Turn) (p : Planned Stage) (o : Option ObjId)
    → an_exception held.store.objects x ≡ o → p ≡ raising.made held x → Runs p ts (gives after v) → ⊥
made_gives_none held after x v ts p None is comes runs =
    failed ts p cause.NotException held after v (comes ∙ ap (raising.made_by held) is) runs
made_gives_none held after x v ts p (Some e) is comes runs =
    not_given_so ts p e held after v (comes ∙ ap (raising.made_by held) is) runs

again_gives_none : (held after : Held) (x m v : Value) (ts : List Turn) (p : Planned Stage) (o : Option ObjId)
    → an_exception (copy_left held x).store.objects (copy_of held.store x) ≡ o → p ≡ raising.again held x m
    → Runs p ts (gives after v) → ⊥
again_gives_none held after x m v ts p None is comes runs =
    failed ts p cause.NotException (copy_left held x) after v
    (comes ∙ ap (λ (o : Option ObjId). raising.again_by (copy_left held x) o m) is) runs
again_gives_none held after x m v ts p (Some e) is comes runs =
    not_given_so ts p e (with_message (copy_left held x) e m) after v
    (comes ∙ ap (λ (o : Option ObjId). raising.again_by (copy_left held x) o m) is) runs

new_gives_none : (held after : Held) (x v : Value) (more : List Value) (ts : List Turn) (p : Planned Stage)
    → p ≡ raising.new held x more → Runs p ts (gives after v) → ⊥
new_gives_none held after x v more [] p comes runs = not_given (raising.new held x more) after v refl (sym comes ∙ runs)
new_gives_none held after x v more (t ∷ ts) p comes runs =
    let k = stepped (raising.new held x more) p (own state.Raising) t ts (gives after v) comes refl runs in
    made_gives_none t.held after t.answer v ts k.next (an_exception t.held.store.objects t.answer) refl k.goes k.runs

exception_gives_none : (held after : Held) (x v : Value) (more : List Value) (ts : List Turn) (p : Planned Stage)
    → raising.Object held x (Some sort.Exception) more p → Runs p ts (gives after v) → ⊥
exception_gives_none held after x v [] ts p comes runs =
    made_gives_none held after x v ts p (an_exception held.store.objects x) refl comes runs
exception_gives_none held after x v (m ∷ []) ts p comes runs =
    again_gives_none held after x m v ts p (an_exception (copy_left held x).store.objects (copy_of held.store x)) refl comes runs
exception_gives_none held after x v (m ∷ d ∷ more) ts p comes runs =
    failed ts p cause.NotException held after v comes runs

text_gives_none : (held after : Held) (x v : Value) (more : List Value) (ts : List Turn) (p : Planned Stage)
    → raising.Object held x (Some sort.String) more p → Runs p ts (gives after v) → ⊥
text_gives_none held after x v [] ts p comes runs =
    not_given_so ts p (next_number held.store) (with_exception held (core class.RuntimeError) x Nil) after v comes runs
text_gives_none held after x v (m ∷ more) ts p comes runs = failed ts p cause.NotException held after v comes runs

first_gives_none : (held after : Held) (x v : Value) (s : Option Sort) (more : List Value) (ts : List Turn)
    (p : Planned Stage) → raising.First held x s more p → Runs p ts (gives after v) → ⊥
first_gives_none held after x v None more ts p comes runs = failed ts p cause.NotException held after v comes runs
first_gives_none held after x v (Some sort.Plain) more ts p comes runs = failed ts p cause.NotException held after v comes runs
first_gives_none held after x v (Some sort.Class) more ts p comes runs = new_gives_none held after x v more ts p comes runs
first_gives_none held after x v (Some sort.Singleton) more ts p comes runs =
    new_gives_none held after x v more ts p comes runs
first_gives_none held after x v (Some sort.Module) more ts p comes runs = failed ts p cause.NotException held after v comes runs
first_gives_none held after x v (Some sort.String) more ts p comes runs = text_gives_none held after x v more ts p comes runs
first_gives_none held after x v (Some sort.Array) more ts p comes runs = failed ts p cause.NotException held after v comes runs
first_gives_none held after x v (Some sort.Hash) more ts p comes runs = failed ts p cause.NotException held after v comes runs
first_gives_none held after x v (Some sort.Range) more ts p comes runs = failed ts p cause.NotException held after v comes runs
first_gives_none held after x v (Some sort.Proc) more ts p comes runs = failed ts p cause.NotException held after v comes runs
first_gives_none held after x v (Some sort.Fiber) more ts p comes runs = failed ts p cause.NotException held after v comes runs
first_gives_none held after x v (Some sort.Exception) more ts p comes runs =
    exception_gives_none held after x v more ts p comes runs
first_gives_none held after x v (Some sort.Enumerator) more ts p comes runs =
    failed ts p cause.NotException held after v comes runs
first_gives_none held after x v (Some sort.Yielder) more ts p comes runs =
    failed ts p cause.NotException held after v comes runs

some_gives_none : (held after : Held) (x v : Value) (more : List Value) (ts : List Turn) (p : Planned Stage)
    (o : Option Cause) → Unless o held p (raising.First held x (sort_of_value held.store x) more p)
    → Runs p ts (gives after v) → ⊥
some_gives_none held after x v more ts p None starts runs =
    first_gives_none held after x v (sort_of_value held.store x) more ts p starts runs
some_gives_none held after x v more ts p (Some c) starts runs = failed ts p c held after v starts runs

pub raise_gives_none : (held after : Held) (recv v : Value) (args : List Value) (block : Option ObjId) (ts : List Turn)
    → Gives (row.Kernel kernel.Raise) held recv args block ts v after → ⊥
raise_gives_none held after recv v [] block ts run =
    failed ts run.first cause.Unhandled held after v run.starts run.runs
raise_gives_none held after recv v (x ∷ more) block ts run =
    some_gives_none held after x v more ts run.first (refused_by_kernel kernel.Raise (length (x ∷ more))) run.starts run.runs
