-- `message` and `inspect` of an exception.
use Rattle.std.proofs.Common.{◌≡◌, refl, sym, ap, subst, ◌∙◌, List, [], ◌∷◌}
use Rattle.std.specs.Prelude.{codes, is_some, Bool, true, false, ◌&&◌, if◌then◌else◌, Option, Some, None}
use Rattle.rb_value.specs.declared.value.Value.{Value}
use Rattle.rb_value.specs.declared.value.Value.TheVariants.{Obj}
use Rattle.rb_value.specs.declared.value.ObjId.{ObjId}
use Rattle.rb_value.specs.declared.kind.Kind.TheVariants as kind
use Rattle.rb_value.specs.declared.core_class.CoreClass.TheVariants as class
use Rattle.def_core.specs.Store.{core, next_number}
use Rattle.def_calls.specs.Views.{an_exception}
use Rattle.rb_store.specs.Held.{Held}
use Rattle.heap.specs.Made.{with_new}
use Rattle.def_plans.specs.Plan.{Planned, expected, gives, wanted}
use Rattle.run_rows.specs.Calls.{inspection}
use Rattle.run_rows.specs.declared.row.KernelRow.TheVariants as kernel
use Rattle.run_rows.specs.declared.row.StarRow.TheVariants as row
use Rattle.core_iter.specs.declared.iteration.Iteration.TheVariants as state
use Rattle.core_iter.specs.Rows.{GoesOn, Starts}
use Rattle.core_iter.specs.Sending.{ask}
use Rattle.core_iter.specs.Stage.{Stage, own}
use Rattle.core_iter.specs.Telling as telling
use Rattle.core_iter.specs.Telling.{is_it, other_object}
use Rattle.items_laws.specs.Run.{Turn, Runs, Gives, waiting}
use Rattle.items_laws.specs.Output.{IsAsked}
use Rattle.items_laws.specs.Raised.{IsInspected, IsTold, IsUntold, by_its_object, by_itself, in_its_objects, in_its_text}
use Rattle.items_laws.proofs.Course.{given, refused}
use Rattle.items_laws.proofs.Cut.{dead}
use Rattle.items_laws.proofs.Inversion.{not_given}
use Rattle.items_laws.proofs.Speaking.{asked_so, stepped}

-- whether what an exception answered is the object that it was made with
abbrev again : Bool → Held → Value → Value → Bool
again may h e a = may && is_it (other_object h.store e) a

-- Where such a method stands while the exception is asked, and while its object is, and what comes then: it gives a value by
-- what was said, and leaves a heap.
record Teller (may : Bool) (e : Value) (left : Held → Value → Held) (result : Held → Value → Value) : Type 0 where
  first : Stage
  second : Stage
  heard : (h : Held) (a : Value) (p : Planned Stage) → GoesOn h first a p
      → p ≡ (if again may h e a then ask h second a (codes "to_s") else gives (left h a) (result h a))
  told : (h : Held) (a : Value) (p : Planned Stage) → GoesOn h second a p → p ≡ gives (left h a) (result h a)

record Told (may : Bool) (held : Held) (e : Value) (left : Held → Value → Held) (result : Held → Value → Value)
    (ts : List Turn) (v : Value) (after : Held) : Type 0 where
  said : Value
  last : Held
  told : IsTold may held e ts said last
  value : v ≡ result last said
  leaves : after ≡ left last said

told_at_once : (may : Bool) (held : Held) (e : Value) (left : Held → Value → Held) (result : Held → Value → Value)
    (t : Turn) (ts : List Turn) (v : Value) (after : Held) (p : Planned Stage) → IsAsked (codes "to_s") held e t.wanted
    → again may t.held e t.answer ≡ false → p ≡ gives (left t.held t.answer) (result t.held t.answer)
    → Runs p ts (gives after v) → Told may held e left result (t ∷ ts) v after
told_at_once may held e left result t ts v after p asks is comes runs =
    let end = given ts (left t.held t.answer) (result t.held t.answer) v after
    (subst (λ (q : Planned Stage). Runs q ts (gives after v)) comes runs) in
    record {
      said = t.answer;
      last = t.held;
      told = subst (λ (us : List Turn). IsTold may held e (t ∷ us) t.answer t.held) (sym end.0) (by_itself t asks is);
      value = end.1;
      leaves = end.2;
    }

told_further : (may : Bool) (held : Held) (e : Value) (left : Held → Value → Held) (result : Held → Value → Value)
    (m : Teller may e left result) (t : Turn) (ts : List Turn) (v : Value) (after : Held) (p : Planned Stage)
    → IsAsked (codes "to_s") held e t.wanted → again may t.held e t.answer ≡ true
    → p ≡ ask t.held m.second t.answer (codes "to_s") → Runs p ts (gives after v)
    → Told may held e left result (t ∷ ts) v after
told_further may held e left result m t [] v after p asks is comes runs =
    absurd (not_given (ask t.held m.second t.answer (codes "to_s")) after v refl (sym comes ∙ runs))
told_further may held e left result m t (u ∷ ts) v after p asks is comes runs =
    let k = stepped (ask t.held m.second t.answer (codes "to_s")) p m.second u ts (gives after v) comes refl runs in
    let end = given ts (left u.held u.answer) (result u.held u.answer) v after
    (subst (λ (q : Planned Stage). Runs q ts (gives after v)) (m.told u.held u.answer k.next k.goes) k.runs) in
    record {
      said = u.answer;
      last = u.held;
      told = subst (λ (us : List Turn). IsTold may held e (t ∷ u ∷ us) u.answer u.held) (sym end.0)
          (by_its_object t u asks is (asked_so (codes "to_s") t.held m.second t.answer u.wanted k.wanted));
      value = end.1;
      leaves = end.2;
    }

abbrev heard_by : Bool → Held → Value → Stage → (Held → Value → Held) → (Held → Value → Value) → Planned Stage
heard_by c h a s left result = if c then ask h s a (codes "to_s") else gives (left h a) (result h a)

told_by : (may : Bool) (held : Held) (e : Value) (left : Held → Value → Held) (result : Held → Value → Value)
    (m : Teller may e left result) (t : Turn) (ts : List Turn) (v : Value) (after : Held) (p : Planned Stage) (c : Bool)
    → IsAsked (codes "to_s") held e t.wanted → again may t.held e t.answer ≡ c
    → p ≡ heard_by (again may t.held e t.answer) t.held t.answer m.second left result → Runs p ts (gives after v)
    → Told may held e left result (t ∷ ts) v after
told_by may held e left result m t ts v after p true asks is comes runs =
    told_further may held e left result m t ts v after p asks is
    (comes ∙ ap (λ (c : Bool). heard_by c t.held t.answer m.second left result) is) runs
told_by may held e left result m t ts v after p false asks is comes runs =
    told_at_once may held e left result t ts v after p asks is
    (comes ∙ ap (λ (c : Bool). heard_by c t.held t.answer m.second left result) is) runs

told_of : (may : Bool) (held : Held) (e : Value) (left : Held → Value → Held) (result : Held → Value → Value)
    (m : Teller may e left result) (ts : List Turn) (v : Value) (after : Held) (p : Planned Stage)
    → p ≡ ask held m.first e (codes "to_s") → Runs p ts (gives after v) → Told may held e left result ts v after
told_of may held e left result m [] v after p comes runs =
    absurd (not_given (ask held m.first e (codes "to_s")) after v refl (sym comes ∙ runs))
told_of may held e left result m (t ∷ ts) v after p comes runs =
    let k = stepped (ask held m.first e (codes "to_s")) p m.first t ts (gives after v) comes refl runs in
    told_by may held e left result m t ts v after k.next (again may t.held e t.answer)
    (asked_so (codes "to_s") held m.first e t.wanted k.wanted) refl (m.heard t.held t.answer k.next k.goes) k.runs

-- the value is an exception, or it is refused
told_if : (may : Bool) (held : Held) (e : Value) (left : Held → Value → Held) (result : Held → Value → Value)
    (m : Teller may e left result) (ts : List Turn) (v : Value) (after : Held) (p : Planned Stage) (o : Option ObjId)
    → p ≡ wanted held class.Exception e o (λ x. ask held m.first e (codes "to_s")) → Runs p ts (gives after v)
    → Told may held e left result ts v after
told_if may held e left result m ts v after p None comes runs =
    absurd (refused ts held (expected held class.Exception e) v after
    (subst (λ (q : Planned Stage). Runs q ts (gives after v)) comes runs))
told_if may held e left result m ts v after p (Some x) comes runs =
    told_of may held e left result m ts v after p comes runs

-- `message`

abbrev as_said : Held → Value → Value
as_said h a = a

abbrev as_it_is : Held → Value → Held
as_it_is h a = h

abbrev messages : (e : Value) (o : Option Value) → Teller (is_some o) e as_it_is as_said
messages e None = record {
  first = own state.Handing;
  second = own state.Handing;
  heard = λ h a p is. is;
  told = λ h a p is. is;
}
messages e (Some x) = record {
  first = own (state.Messaging e);
  second = own state.Handing;
  heard = λ h a p is. is;
  told = λ h a p is. is;
}

first_is : (e : Value) (o : Option Value) → telling.then_by e o ≡ (messages e o).first
first_is e None = refl
first_is e (Some x) = refl

pub message_told : (held after : Held) (recv v : Value) (block : Option ObjId) (ts : List Turn)
    → Gives (row.Kernel kernel.Message) held recv [] block ts v after
    → IsTold (is_some (other_object held.store recv)) held recv ts v after
message_told held after recv v block ts run =
    let other = other_object held.store recv in
    let k = told_if (is_some other) held recv as_it_is as_said (messages recv other) ts v after run.first
    (an_exception held.store.objects recv)
    (run.starts ∙ ap (λ (s : Stage). telling.ask_message held s recv) (first_is recv other)) run.runs in
    subst (λ (h : Held). IsTold (is_some other) held recv ts v h) (sym k.leaves)
    (subst (λ (u : Value). IsTold (is_some other) held recv ts u k.last) (sym k.value) k.told)

-- `inspect`

abbrev shown : Value → Held → Value → Value
shown e h a = Obj (next_number h.store)

abbrev with_shown : Value → Held → Value → Held
with_shown e h a = with_new h (core class.String) (kind.String (inspection h.store e a))

abbrev inspects : (e : Value) → Teller true e (with_shown e) (shown e)
inspects e = record {
  first = own (state.Telling e);
  second = own (state.TellingText e);
  heard = λ h a p is. is;
  told = λ h a p is. is;
}

pub inspect_told : (held after : Held) (recv v : Value) (block : Option ObjId) (ts : List Turn)
    → Gives (row.Kernel kernel.InspectException) held recv [] block ts v after → IsInspected held recv ts v after
inspect_told held after recv v block ts run =
    let k = told_if true held recv (with_shown recv) (shown recv) (inspects recv) ts v after run.first
    (an_exception held.store.objects recv) run.starts run.runs in
    record { said = k.said; last = k.last; told = k.told; value = k.value; left = k.leaves }

-- Where one that is asked never answers.

untold_further : (may : Bool) (held : Held) (e : Value) (left : Held → Value → Held) (result : Held → Value → Value)
    (m : Teller may e left result) (t : Turn) (ts : List Turn) (last p : Planned Stage) (s : Stage)
    → waiting last.plan ≡ Some s → IsAsked (codes "to_s") held e t.wanted → again may t.held e t.answer ≡ true
    → p ≡ ask t.held m.second t.answer (codes "to_s") → Runs p ts last → IsUntold may held e (t ∷ ts) last
untold_further may held e left result m t [] last p s waits asks is comes runs =
    in_its_objects t last asks is (asked_so (codes "to_s") t.held m.second t.answer last (sym runs ∙ comes))
untold_further may held e left result m t (u ∷ ts) last p s waits asks is comes runs =
    let k = stepped (ask t.held m.second t.answer (codes "to_s")) p m.second u ts last comes refl runs in
    absurd (dead k.next last ts s (ap (λ (q : Planned Stage). waiting q.plan) (m.told u.held u.answer k.next k.goes)) waits
    k.runs)

untold_by : (may : Bool) (held : Held) (e : Value) (left : Held → Value → Held) (result : Held → Value → Value)
    (m : Teller may e left result) (t : Turn) (ts : List Turn) (last p : Planned Stage) (s : Stage) (c : Bool)
    → waiting last.plan ≡ Some s → IsAsked (codes "to_s") held e t.wanted → again may t.held e t.answer ≡ c
    → p ≡ heard_by (again may t.held e t.answer) t.held t.answer m.second left result → Runs p ts last
    → IsUntold may held e (t ∷ ts) last
untold_by may held e left result m t ts last p s true waits asks is comes runs =
    untold_further may held e left result m t ts last p s waits asks is
    (comes ∙ ap (λ (c : Bool). heard_by c t.held t.answer m.second left result) is) runs
untold_by may held e left result m t ts last p s false waits asks is comes runs =
    absurd (dead p last ts s (ap (λ (q : Planned Stage). waiting q.plan)
    (comes ∙ ap (λ (c : Bool). heard_by c t.held t.answer m.second left result) is)) waits runs)

untold_of : (may : Bool) (held : Held) (e : Value) (left : Held → Value → Held) (result : Held → Value → Value)
    (m : Teller may e left result) (ts : List Turn) (last p : Planned Stage) (s : Stage) → waiting last.plan ≡ Some s
    → p ≡ ask held m.first e (codes "to_s") → Runs p ts last → IsUntold may held e ts last
untold_of may held e left result m [] last p s waits comes runs =
    in_its_text last (asked_so (codes "to_s") held m.first e last (sym runs ∙ comes))
untold_of may held e left result m (t ∷ ts) last p s waits comes runs =
    let k = stepped (ask held m.first e (codes "to_s")) p m.first t ts last comes refl runs in
    untold_by may held e left result m t ts last k.next s (again may t.held e t.answer) waits
    (asked_so (codes "to_s") held m.first e t.wanted k.wanted) refl (m.heard t.held t.answer k.next k.goes) k.runs

untold_if : (may : Bool) (held : Held) (e : Value) (left : Held → Value → Held) (result : Held → Value → Value)
    (m : Teller may e left result) (ts : List Turn) (last p : Planned Stage) (s : Stage) (o : Option ObjId)
    → waiting last.plan ≡ Some s → p ≡ wanted held class.Exception e o (λ x. ask held m.first e (codes "to_s"))
    → Runs p ts last → IsUntold may held e ts last
untold_if may held e left result m ts last p s None waits comes runs =
    absurd (dead p last ts s (ap (λ (q : Planned Stage). waiting q.plan) comes) waits runs)
untold_if may held e left result m ts last p s (Some x) waits comes runs =
    untold_of may held e left result m ts last p s waits comes runs

pub message_untold : (held : Held) (recv : Value) (block : Option ObjId) (ts : List Turn) (first last : Planned Stage)
    (s : Stage) → Starts (row.Kernel kernel.Message) held recv [] block first → Runs first ts last
    → waiting last.plan ≡ Some s → IsUntold (is_some (other_object held.store recv)) held recv ts last
message_untold held recv block ts first last s starts runs waits =
    let other = other_object held.store recv in
    untold_if (is_some other) held recv as_it_is as_said (messages recv other) ts last first s
    (an_exception held.store.objects recv) waits
    (starts ∙ ap (λ (s : Stage). telling.ask_message held s recv) (first_is recv other)) runs

pub inspect_untold : (held : Held) (recv : Value) (block : Option ObjId) (ts : List Turn) (first last : Planned Stage)
    (s : Stage) → Starts (row.Kernel kernel.InspectException) held recv [] block first → Runs first ts last
    → waiting last.plan ≡ Some s → IsUntold true held recv ts last
inspect_untold held recv block ts first last s starts runs waits =
    untold_if true held recv (with_shown recv) (shown recv) (inspects recv) ts last first s
    (an_exception held.store.objects recv) waits starts runs
