-- The core form that a core stands for.
use Rattle.std.specs.Prelude.{List, [], ◌∷◌, Option, Some, None, map, Box}
use Rattle.std.specs.declared.alloc.Global.{Global}
use Rattle.rb_syntax.specs.declared.core_form.Item.{Item}
use Rattle.rb_syntax.specs.declared.core_form.Item.TheVariants.{Plain, Splat}
use Rattle.rb_syntax.specs.declared.core_form.Pair.{Pair}
use Rattle.rb_syntax.specs.declared.core_form.Branch.{Branch}
use Rattle.ir_core.specs.declared.local.Local as variable
use Rattle.ir_core.specs.declared.local.Local.TheVariants as variables
use Rattle.ir_core.specs.declared.local.Parameters as listed
use Rattle.ir_core.specs.declared.term.Term.{Term, fold-Term}
use Rattle.ir_core.specs.declared.term.Term.TheOpen.{Term-F}
use Rattle.ir_core.specs.declared.term.Body as made
use Rattle.ir_core.specs.declared.term.Clause.{Clause}
use Rattle.ir_core.specs.declared.term.BeginForm.{BeginForm}
use Rattle.ir_core.specs.declared.term.Receiver as sent
use Rattle.ir_core.specs.declared.term.Receiver.TheVariants.{To, OnSelf, Bare}
use Rattle.ir_core.specs.CoreForm as form
use Rattle.ir_core.specs.CoreForm.{Local, Parameters, CoreForm, Body, Maybe, Forms, Items, Pairs, Branches, Clauses, Receiver, forms}

abbrev pub local_of : variable.Local → Local
local_of (variables.Named x) = form.named x
local_of (variables.Hidden d) = form.hidden d
local_of (variables.Pattern k) = form.pattern k
local_of variables.Rest = form.rest

abbrev pub locals_of : List variable.Local → List Local
locals_of ls = map local_of ls

-- a local that may be there
abbrev pub maybe_local : Option variable.Local → List Local
maybe_local None = []
maybe_local (Some l) = local_of l ∷ []

abbrev pub parameters_of : listed.Parameters → Parameters
parameters_of p = record {
  required = locals_of p.required.items;
  optional = locals_of p.optional.items;
  rest = maybe_local p.rest;
  post = locals_of p.post.items;
  block = maybe_local p.block;
}

-- the form of a part, as a step over the parts of a core holds it
abbrev pub Held : Type 0
Held = Box CoreForm Global

abbrev pub held : Held → CoreForm
held b = b.value

abbrev pub all_held : List Held → Forms
all_held bs = forms (map held bs)

-- a form that may be there
abbrev pub boxed : Option Held → Maybe
boxed None = form.absent
boxed (Some b) = form.there b.value

abbrev pub item_then : Item Held → Items → Items
item_then (Plain b) is = form.plain b.value is
item_then (Splat b) is = form.splat b.value is

abbrev pub items_of : List (Item Held) → Items
items_of [] = form.no_items
items_of (i ∷ is) = item_then i (items_of is)

abbrev pub pairs_of : List (Pair Held) → Pairs
pairs_of [] = form.no_pairs
pairs_of (p ∷ ps) = form.pair p.key.value p.value.value (pairs_of ps)

abbrev pub branches_of : List (Branch Held) → Branches
branches_of [] = form.no_branches
branches_of (b ∷ bs) = form.branch b.test.value b.body.value (branches_of bs)

abbrev pub clauses_of : List (Clause Held) → Clauses
clauses_of [] = form.no_clauses
clauses_of (c ∷ cs) = form.clause (all_held c.classes.items) (boxed c.target) c.body.value (clauses_of cs)

abbrev pub begin_of : BeginForm Held → CoreForm
begin_of b = form.begin_form b.body.value (clauses_of b.clauses.items) (boxed b.otherwise) (boxed b.ensure)

abbrev pub receiver_of : sent.Receiver Held → Receiver
receiver_of (To r) = form.to r.value
receiver_of OnSelf = form.on_self
receiver_of Bare = form.bare

abbrev pub body_of : made.Body Held → Body
body_of b = form.body (parameters_of b.parameters) (locals_of b.locals.items) b.form.value

abbrev pub term_step : Term-F CoreForm → CoreForm
term_step Term-F.Nil = form.nil
term_step Term-F.True = form.truth
term_step Term-F.False = form.falsehood
term_step Term-F.SelfRef = form.self_ref
term_step (Term-F.Int n) = form.int n
term_step (Term-F.Str s) = form.str s
term_step (Term-F.Sym x) = form.sym x
term_step (Term-F.Local x) = form.local (local_of x)
term_step (Term-F.Own x) = form.own (local_of x)
term_step Term-F.Exception = form.exception
term_step (Term-F.SetLocal x e) = form.set_local (local_of x) e.value
term_step (Term-F.Ivar x) = form.ivar x
term_step (Term-F.SetIvar x e) = form.set_ivar x e.value
term_step (Term-F.Gvar x) = form.gvar x
term_step (Term-F.SetGvar x e) = form.set_gvar x e.value
term_step (Term-F.Const x) = form.constant x
term_step (Term-F.TopConst x) = form.top_constant x
term_step (Term-F.InConst e x) = form.in_constant e.value x
term_step (Term-F.SetConst x e) = form.set_constant x e.value
term_step (Term-F.SetInConst s x e) = form.set_in_constant s.value x e.value
term_step (Term-F.Array is) = form.array (items_of is.items)
term_step (Term-F.Hash ps) = form.hash (pairs_of ps.items)
term_step (Term-F.Range a b x) = form.range a.value b.value x
term_step (Term-F.Text ps) = form.text (all_held ps.items)
term_step (Term-F.Intern e) = form.intern e.value
term_step (Term-F.Seq es) = form.seq (all_held es.items)
term_step (Term-F.Cond bs o) = form.cond (branches_of bs.items) o.value
term_step (Term-F.And a b) = form.and_form a.value b.value
term_step (Term-F.Or a b) = form.or_form a.value b.value
term_step (Term-F.While first t b) = form.while_form first t.value b.value
term_step (Term-F.Call r x is) = form.call (receiver_of r) x (items_of is.items) form.absent
term_step (Term-F.BlockCall r x is b) = form.call (receiver_of r) x (items_of is.items) (form.there b.value)
term_step (Term-F.Yield is) = form.yield_form (items_of is.items)
term_step (Term-F.Super is b) = form.super_form (items_of is.items) (boxed b)
term_step (Term-F.Fn f) = form.function (body_of f.value)
term_step (Term-F.Lambda f) = form.lambda (body_of f.value)
term_step (Term-F.Begin b) = begin_of b.value
term_step (Term-F.Return e) = form.return_form e.value
term_step (Term-F.Break e) = form.break_form e.value
term_step (Term-F.Next e) = form.next_form e.value
term_step Term-F.Retry = form.retry
term_step (Term-F.Def x f) = form.define x (body_of f.value)
term_step (Term-F.DefOn e x f) = form.define_on e.value x (body_of f.value)
term_step (Term-F.Class s x p b) = form.class_form (boxed s) x (boxed p) (body_of b.value)
term_step (Term-F.Module s x b) = form.module_form (boxed s) x (body_of b.value)
term_step (Term-F.SingletonClass e b) = form.singleton_class e.value (body_of b.value)
term_step (Term-F.Alias x y) = form.alias_form x y
term_step (Term-F.Undef x) = form.undef_form x
term_step (Term-F.Defined k x e) = form.defined k x (boxed e)
term_step (Term-F.Item e k) = form.item e.value k
term_step (Term-F.Rest e from post) = form.rest_of e.value from post
term_step (Term-F.Tail e from count) = form.tail_of e.value from count

abbrev pub term_view : Term → CoreForm
term_view = fold-Term CoreForm term_step

abbrev pub Core : Type 0
Core = Box Term Global

abbrev pub core_view : Core → CoreForm
core_view c = term_view c.value

-- the body of a part, and of a whole source
abbrev pub body_view : made.Body Core → Body
body_view b = form.body (parameters_of b.parameters) (locals_of b.locals.items) (core_view b.form)
