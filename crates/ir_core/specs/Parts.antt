-- The forms that the parts of a core stand for.
use Rattle.std.specs.Prelude.{List, Option}
use Rattle.rb_syntax.specs.declared.core_form.Item.{Item}
use Rattle.rb_syntax.specs.declared.core_form.Pair.{Pair}
use Rattle.rb_syntax.specs.declared.core_form.Branch.{Branch}
use Rattle.ir_core.specs.declared.term.Body as made
use Rattle.ir_core.specs.declared.term.Clause.{Clause}
use Rattle.ir_core.specs.declared.term.BeginForm.{BeginForm}
use Rattle.ir_core.specs.declared.term.Receiver as sent
use Rattle.ir_core.specs.CoreForm.{CoreForm, Body, Maybe, Forms, Items, Pairs, Branches, Clauses, Receiver}
use Rattle.ir_core.specs.View.{Core, term_view}
use Rattle.ir_core.specs.PartsBy.{cores_by, item_by, value_by, items_by, pairs_by, branches_by, boxed_by, clauses_by, begin_by, receiver_by, body_by}

abbrev pub cores : List Core → Forms
cores cs = cores_by term_view cs

abbrev pub item_then : Item Core → Items → Items
item_then i is = item_by term_view i is

abbrev pub value_of : Item Core → CoreForm
value_of i = value_by term_view i

abbrev pub items : List (Item Core) → Items
items is = items_by term_view is

abbrev pub pairs : List (Pair Core) → Pairs
pairs ps = pairs_by term_view ps

abbrev pub branches : List (Branch Core) → Branches
branches bs = branches_by term_view bs

abbrev pub boxed : Option Core → Maybe
boxed c = boxed_by term_view c

abbrev pub clauses : List (Clause Core) → Clauses
clauses cs = clauses_by term_view cs

abbrev pub begin_form : BeginForm Core → CoreForm
begin_form b = begin_by term_view b

abbrev pub receiver_form : sent.Receiver Core → Receiver
receiver_form r = receiver_by term_view r

abbrev pub body_form : made.Body Core → Body
body_form b = body_by term_view b
