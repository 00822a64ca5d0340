-- The Procs of a world, by the body and the scopes of each, and the one that a transition may make.
use Rattle.std.specs.Prelude.{◌≡◌, ◌⊎◌, ℕ, List, [], ◌∷◌, Option, Some, None}
use Rattle.rb_value.specs.Object.{Object}
use Rattle.ir_core.specs.CoreForm as form
use Rattle.ir_core.specs.CoreForm.{CoreForm}
use Rattle.def_calls.specs.Views.{Callable, by_body, by_row, callable_of}
use Rattle.def_eval.specs.Configuration.{Focus, perform, give, travel, Memory, Config, Run, Halt}
use Rattle.def_eval.specs.Scopes.{scopes_around}

abbrev pub IsProcOf : Option Callable → ℕ → List ℕ → Type 0
IsProcOf None b ns = ⊥
IsProcOf (Some (by_row r v)) b ns = ⊥
IsProcOf (Some (by_body c)) b ns = (c.code ≡ b) × (c.scopes ≡ ns)

-- one of these objects is a Proc of that body in these scopes
abbrev pub HasProc : List Object → ℕ → List ℕ → Type 0
HasProc [] b ns = ⊥
HasProc (o ∷ os) b ns = IsProcOf (callable_of o.kind) b ns ⊎ HasProc os b ns

-- the Proc that a block literal or a lambda makes in these scopes
abbrev pub literal_form : ℕ → List ℕ → CoreForm → Option (ℕ × List ℕ)
literal_form n ns form.nil = None
literal_form n ns form.truth = None
literal_form n ns form.falsehood = None
literal_form n ns form.self_ref = None
literal_form n ns (form.int z) = None
literal_form n ns (form.str b) = None
literal_form n ns (form.sym x) = None
literal_form n ns (form.local x) = None
literal_form n ns (form.own x) = None
literal_form n ns form.exception = None
literal_form n ns (form.set_local x e) = None
literal_form n ns (form.ivar x) = None
literal_form n ns (form.set_ivar x e) = None
literal_form n ns (form.gvar x) = None
literal_form n ns (form.set_gvar x e) = None
literal_form n ns (form.constant x) = None
literal_form n ns (form.top_constant x) = None
literal_form n ns (form.in_constant e x) = None
literal_form n ns (form.set_constant x e) = None
literal_form n ns (form.set_in_constant c x e) = None
literal_form n ns (form.array is) = None
literal_form n ns (form.hash ps) = None
literal_form n ns (form.range e f x) = None
literal_form n ns (form.text es) = None
literal_form n ns (form.intern e) = None
literal_form n ns (form.seq es) = None
literal_form n ns (form.cond bs o) = None
literal_form n ns (form.and_form e f) = None
literal_form n ns (form.or_form e f) = None
literal_form n ns (form.while_form first t b) = None
literal_form n ns (form.call r x is b) = None
literal_form n ns (form.yield_form is) = None
literal_form n ns (form.super_form is b) = None
literal_form n ns (form.function f) = Some (n, ns)
literal_form n ns (form.lambda f) = Some (n, ns)
literal_form n ns (form.begin_form b cs o e) = None
literal_form n ns (form.return_form e) = None
literal_form n ns (form.break_form e) = None
literal_form n ns (form.next_form e) = None
literal_form n ns form.retry = None
literal_form n ns (form.define x f) = None
literal_form n ns (form.define_on e x f) = None
literal_form n ns (form.class_form c x p f) = None
literal_form n ns (form.module_form c x f) = None
literal_form n ns (form.singleton_class e f) = None
literal_form n ns (form.alias_form x y) = None
literal_form n ns (form.undef_form x) = None
literal_form n ns (form.defined k x e) = None
literal_form n ns (form.item e k) = None
literal_form n ns (form.rest_of e from post) = None
literal_form n ns (form.tail_of e from count) = None

abbrev pub literal : Focus → Memory → Option (ℕ × List ℕ)
literal (perform n e) m = literal_form n (scopes_around m.scopes m.place.scope) e
literal (give v) m = None
literal (travel x) m = None

-- a Proc that was there, or the one that is made
abbrev pub IsKnown : Focus → Memory → ℕ → List ℕ → Type 0
IsKnown f m b ns = HasProc m.world.store.objects b ns ⊎ (literal f m ≡ Some (b, ns))

-- each Proc of the world is such a one, as long as the evaluation goes on
abbrev pub ProcsAreKnown : Focus → Memory → Config → Type 0
ProcsAreKnown f m (Run g ks l) = (b : ℕ) (ns : List ℕ) → HasProc l.world.store.objects b ns → IsKnown f m b ns
ProcsAreKnown f m (Halt e) = Unit {0}
