-- Core forms that several rows of the table of lowering make.
use Rattle.std.specs.Prelude.{Bool, true, false}
use Rattle.rb_syntax.specs.declared.core_form.DefinedKind.{DefinedKind}
use Rattle.ir_core.specs.CoreForm as form
use Rattle.ir_core.specs.CoreForm.{Name, CoreForm, Forms, none, more, one, Items, no_items, plain, splat, Pairs, no_pairs, pair, Branches, no_branches, branch, Clauses, no_clauses, clause}

abbrev pub append : Forms → Forms → Forms
append none gs = gs
append (more f fs) gs = more f (append fs gs)

-- an item more before others, plain or a splat
abbrev pub item_if : Bool → CoreForm → Items → Items
item_if true f is = plain f is
item_if false f is = splat f is

abbrev pub append_items : Items → Items → Items
append_items no_items js = js
append_items (plain f is) js = plain f (append_items is js)
append_items (splat f is) js = splat f (append_items is js)

abbrev pub append_pairs : Pairs → Pairs → Pairs
append_pairs no_pairs qs = qs
append_pairs (pair k v ps) qs = pair k v (append_pairs ps qs)

abbrev pub append_branches : Branches → Branches → Branches
append_branches no_branches cs = cs
append_branches (branch t f bs) cs = branch t f (append_branches bs cs)

abbrev pub append_clauses : Clauses → Clauses → Clauses
append_clauses no_clauses ds = ds
append_clauses (clause cs t f more_clauses) ds = clause cs t f (append_clauses more_clauses ds)

-- the first of some forms, and another where there is none
abbrev pub first_or : CoreForm → Forms → CoreForm
first_or other none = other
first_or other (more f fs) = f

-- statements
abbrev pub sequence : Forms → CoreForm
sequence none = form.nil
sequence (more f none) = f
sequence (more f (more g gs)) = form.seq (more f (more g gs))

-- a form with some before it
abbrev pub after : Forms → CoreForm → CoreForm
after none f = f
after (more g gs) f = form.seq (more g (append gs (one f)))

abbrev pub send_form : CoreForm → Name → Items → CoreForm
send_form r x is = form.call (form.to r) x is form.absent

-- the test of while or until
abbrev pub loop_test : Bool → CoreForm → CoreForm
loop_test true t = form.cond (form.branch t form.falsehood form.no_branches) form.truth
loop_test false t = t

-- a form, and another where a StandardError is raised
abbrev pub rescued : CoreForm → CoreForm → CoreForm
rescued f g = form.begin_form f (form.clause none form.absent g form.no_clauses) form.absent form.absent

abbrev pub nil_on_error : CoreForm → CoreForm
nil_on_error f = rescued f form.nil

abbrev pub asks_form : DefinedKind → Name → CoreForm
asks_form k x = form.defined k x form.absent

abbrev pub asks_of_form : DefinedKind → Name → CoreForm → CoreForm
asks_of_form k x r = nil_on_error (form.defined k x (form.there r))
