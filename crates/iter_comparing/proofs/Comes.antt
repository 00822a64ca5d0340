-- What a work comes to, by what its question is.
use Rattle.std.proofs.Common.{◌≡◌, true, refl, ap, sym, ◌∙◌, subst}
use Rattle.std.specs.Prelude.{Option, Some, None}
use Rattle.rb_value.specs.declared.value.Value.{Value}
use Rattle.rb_value.specs.declared.value.Value.TheVariants.{Nil}
use Rattle.rb_value.specs.declared.value.SymId.{SymId}
use Rattle.rb_value.specs.declared.value.ObjId.{ObjId}
use Rattle.def_core.specs.declared.cause.Cause.{Cause}
use Rattle.def_core.specs.Store.{Store}
use Rattle.rb_store.specs.Held.{Held}
use Rattle.run_values.specs.declared.given.Given.{Given}
use Rattle.run_values.specs.declared.given.Given.TheVariants.{Gives, Raises}
use Rattle.def_plans.specs.Plan.{Planned, raises, gives, refuses}
use Rattle.iter_comparing.specs.declared.questions.Question.{Question}
use Rattle.iter_comparing.specs.declared.questions.Question.TheVariants.{Ends, Fails, Asks}
use Rattle.iter_comparing.specs.declared.state.Work.{Work}
use Rattle.iter_comparing.specs.declared.asking.Turn.{Turn}
use Rattle.iter_comparing.specs.declared.asking.Turn.TheVariants as turn
use Rattle.iter_comparing.specs.Questions.{Asked}
use Rattle.iter_comparing.specs.Asking.{Comes, stops, asks_nil, raises_at_once, ends_at_once, goes_on_at_once, question, hear, told, told_by, at_once, stopped, stopped_by, sending, knows, knows_by, is_known}
use Rattle.iter_comparing.specs.Turns.{Steps, ended}
use Rattle.iter_comparing.specs.Stage.{Stage}

pub comes_as : (name : SymId) (held : Held) (w : Work) (p q : Planned Stage) → Comes name held w p → p ≡ q
    → Comes name held w q
comes_as name held w p q c e = subst (λ (x : Planned Stage). Comes name held w x) e c

stopped_as : (name : SymId) (a : Asked Work) (q : Question) (left : Work) (after : Held)
    → q ≡ a.question → left ≡ a.work → after ≡ a.held → stopped name a ≡ stopped_by name after left q
stopped_as name a q left after e f g = ap (λ (x : Question). stopped_by name a.held a.work x) (sym e)
    ∙ ap (λ (x : Work). stopped_by name a.held x q) (sym f)
    ∙ ap (λ (x : Held). stopped_by name x left q) (sym g)

stops_at : (name : SymId) (held after : Held) (w left : Work) (q : Question)
    → q ≡ (question held w).question → left ≡ (question held w).work → after ≡ (question held w).held
    → Comes name held w (stopped_by name after left q)
stops_at name held after w left q e f g = comes_as name held w (stopped name (question held w)) _ (stops held w)
    (stopped_as name (question held w) q left after e f g)

pub ends_here : (name : SymId) (held after : Held) (w : Work) (v : Value)
    → Ends v ≡ (question held w).question → after ≡ (question held w).held → Comes name held w (gives after v)
ends_here name held after w v e g = stops_at name held after w (question held w).work (Ends v) e refl g

pub fails_here : (name : SymId) (held after : Held) (w : Work) (c : Cause)
    → Fails c ≡ (question held w).question → after ≡ (question held w).held → Comes name held w (refuses after c)
fails_here name held after w c e g = stops_at name held after w (question held w).work (Fails c) e refl g

pub asks_here : (name : SymId) (held after : Held) (w left : Work) (recv : Value) (argument : Option Value)
    → Asks recv argument ≡ (question held w).question → left ≡ (question held w).work → after ≡ (question held w).held
    → Comes name held w (sending name after left recv argument)
asks_here name held after w left recv argument e f g = stops_at name held after w left (Asks recv argument) e f g

pub asks_still : (name : SymId) (held mid after : Held) (w left still : Work) (recv : Value) (argument : Option Value)
    → Asks recv argument ≡ (question held w).question → left ≡ (question held w).work → mid ≡ (question held w).held
    → after ≡ mid → still ≡ left → Comes name held w (sending name after still recv argument)
asks_still name held mid after w left still recv argument e f g a l =
    asks_here name held after w still recv argument e (l ∙ f) (a ∙ g)

knows_as : (a : Asked Work) (q : Question) (left : Work) → q ≡ a.question → left ≡ a.work
    → knows_by left q ≡ knows a
knows_as a q left e f = ap (λ (x : Work). knows_by x q) f ∙ ap (λ (x : Question). knows_by a.work x) e

pub nil_asked : (name : SymId) (held after : Held) (w left : Work) (recv : Value) (argument : Option Value)
    → Asks recv argument ≡ (question held w).question → left ≡ (question held w).work → after ≡ (question held w).held
    → is_known left recv argument ≡ true → Comes name held w (sending name after left Nil (Some Nil))
nil_asked name held after w left recv argument e f g k = comes_as name held w _ _
    (asks_nil held w (sym (knows_as (question held w) (Asks recv argument) left e f) ∙ k))
    (ap (λ (x : Work). sending name (question held w).held x Nil (Some Nil)) (sym f)
    ∙ ap (λ (x : Held). sending name x left Nil (Some Nil)) (sym g))

told_as : (name : SymId) (a : Asked Work) (mid : Held) (left : Work) (q : Question)
    → q ≡ a.question → left ≡ a.work → mid ≡ a.held → told_by name mid.store left q ≡ told name a
told_as name a mid left q e f g = ap (λ (x : Held). told_by name x.store left q) g
    ∙ ap (λ (x : Work). told_by name a.held.store x q) f
    ∙ ap (λ (x : Question). told_by name a.held.store a.work x) e

pub raised_at_once : (name : SymId) (held mid after : Held) (w left : Work) (recv : Value) (argument : Option Value)
    (e : ObjId)
    → Asks recv argument ≡ (question held w).question → left ≡ (question held w).work → mid ≡ (question held w).held
    → (Some (Raises e), after.store) ≡ at_once mid.store name left recv argument
    → Comes name held w (record { plan = raises e; held = after })
raised_at_once name held mid after w left recv argument e q f g t = raises_at_once held after w e
    (sym (t ∙ told_as name (question held w) mid left (Asks recv argument) q f g))

heard_steps : (name : SymId) (held after : Held) (w left more : Work) (v : Value) (ends : Option Value)
    → left ≡ (question held w).work
    → told name (question held w) ≡ (Some (Gives v), after.store)
    → (hear after.store left v).ends ≡ ends → more ≡ (hear after.store left v).work
    → Steps name held w after more (ended ends)
heard_steps name held after w left more v (Some u) f t e m =
    ends_at_once held after w v u t (ap (λ (x : Work). (hear after.store x v).ends) (sym f) ∙ e)
heard_steps name held after w left more v None f t e m = λ p c.
    goes_on_at_once held after w v p t (ap (λ (x : Work). (hear after.store x v).ends) (sym f) ∙ e)
    (subst (λ (x : Work). Comes name after x p)
    (m ∙ ap (λ (x : Work). (hear after.store x v).work) f) c)

pub answered_at_once : (name : SymId) (held mid after : Held) (w left still more : Work) (recv : Value)
    (argument : Option Value) (v : Value) (t : Option Turn)
    → Asks recv argument ≡ (question held w).question → left ≡ (question held w).work → mid ≡ (question held w).held
    → (Some (Gives v), after.store) ≡ at_once mid.store name left recv argument → still ≡ left
    → t ≡ ended (hear after.store still v).ends → more ≡ (hear after.store still v).work
    → Steps name held w after more t
answered_at_once name held mid after w left still more recv argument v t q f g a l e m =
    subst (λ (x : Option Turn). Steps name held w after more x) (sym e)
    (heard_steps name held after w still more v (hear after.store still v).ends (l ∙ f)
    (sym (a ∙ told_as name (question held w) mid left (Asks recv argument) q f g)) refl m)
