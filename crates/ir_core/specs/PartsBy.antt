-- The forms of the parts of a core, by the form of each core in them.
use Rattle.std.specs.Prelude.{Bool, true, false, List, [], ◌∷◌, Option, Some, None, map, Box}
use Rattle.std.specs.declared.alloc.Global.{Global}
use Rattle.rb_syntax.specs.declared.core_form.Item.{Item}
use Rattle.rb_syntax.specs.declared.core_form.Item.TheVariants.{Plain, Splat}
use Rattle.rb_syntax.specs.declared.core_form.Pair.{Pair}
use Rattle.rb_syntax.specs.declared.core_form.Branch.{Branch}
use Rattle.ir_core.specs.declared.term.Body as made
use Rattle.ir_core.specs.declared.term.Clause.{Clause}
use Rattle.ir_core.specs.declared.term.BeginForm.{BeginForm}
use Rattle.ir_core.specs.declared.term.Receiver as sent
use Rattle.ir_core.specs.declared.term.Receiver.TheVariants.{To, OnSelf, Bare}
use Rattle.ir_core.specs.CoreForm as form
use Rattle.ir_core.specs.CoreForm.{CoreForm, Body, Maybe, Forms, Items, Pairs, Branches, Clauses, Receiver, forms}
use Rattle.ir_core.specs.View.{locals_of, parameters_of}

abbrev pub Boxed : Type 0 → Type 0
Boxed T = Box T Global

abbrev pub core_by : {T : Type 0} → (T → CoreForm) → Boxed T → CoreForm
core_by v b = v b.value

abbrev pub cores_by : {T : Type 0} → (T → CoreForm) → List (Boxed T) → Forms
cores_by v cs = forms (map (core_by v) cs)

abbrev pub item_by : {T : Type 0} → (T → CoreForm) → Item (Boxed T) → Items → Items
item_by v (Plain c) is = form.plain (core_by v c) is
item_by v (Splat c) is = form.splat (core_by v c) is

-- whether an item is plain, and the form of its value
abbrev pub is_plain : {A : Type 0} → Item A → Bool
is_plain (Plain x) = true
is_plain (Splat x) = false

abbrev pub value_by : {T : Type 0} → (T → CoreForm) → Item (Boxed T) → CoreForm
value_by v (Plain c) = core_by v c
value_by v (Splat c) = core_by v c

abbrev pub items_by : {T : Type 0} → (T → CoreForm) → List (Item (Boxed T)) → Items
items_by v [] = form.no_items
items_by v (i ∷ is) = item_by v i (items_by v is)

abbrev pub pairs_by : {T : Type 0} → (T → CoreForm) → List (Pair (Boxed T)) → Pairs
pairs_by v [] = form.no_pairs
pairs_by v (p ∷ ps) = form.pair (core_by v p.key) (core_by v p.value) (pairs_by v ps)

abbrev pub branches_by : {T : Type 0} → (T → CoreForm) → List (Branch (Boxed T)) → Branches
branches_by v [] = form.no_branches
branches_by v (b ∷ bs) = form.branch (core_by v b.test) (core_by v b.body) (branches_by v bs)

abbrev pub boxed_by : {T : Type 0} → (T → CoreForm) → Option (Boxed T) → Maybe
boxed_by v None = form.absent
boxed_by v (Some c) = form.there (core_by v c)

abbrev pub clauses_by : {T : Type 0} → (T → CoreForm) → List (Clause (Boxed T)) → Clauses
clauses_by v [] = form.no_clauses
clauses_by v (c ∷ cs) =
    form.clause (cores_by v c.classes.items) (boxed_by v c.target) (core_by v c.body) (clauses_by v cs)

abbrev pub begin_by : {T : Type 0} → (T → CoreForm) → BeginForm (Boxed T) → CoreForm
begin_by v b = form.begin_form (core_by v b.body) (clauses_by v b.clauses.items) (boxed_by v b.otherwise)
    (boxed_by v b.ensure)

abbrev pub receiver_by : {T : Type 0} → (T → CoreForm) → sent.Receiver (Boxed T) → Receiver
receiver_by v (To c) = form.to (core_by v c)
receiver_by v OnSelf = form.on_self
receiver_by v Bare = form.bare

abbrev pub body_by : {T : Type 0} → (T → CoreForm) → made.Body (Boxed T) → Body
body_by v b = form.body (parameters_of b.parameters) (locals_of b.locals.items) (core_by v b.form)
