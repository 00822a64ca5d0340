-- Lists of forms.
use Rattle.std.proofs.Common.{◌≡◌, ◌<◌, List, [], ◌∷◌, ◌++◌, length, refl, ap, arith}
use Rattle.std.proofs.lemmas.List.{drop_all, drop_more}
use Rattle.rb_syntax.specs.declared.core_form.Item.{Item}
use Rattle.rb_syntax.specs.declared.core_form.Item.TheVariants.{Plain, Splat}
use Rattle.rb_syntax.specs.declared.core_form.Pair.{Pair}
use Rattle.rb_syntax.specs.declared.core_form.Branch.{Branch}
use Rattle.ir_core.specs.declared.term.Clause.{Clause}
use Rattle.ir_core.specs.CoreForm as form
use Rattle.ir_core.specs.CoreForm.{CoreForm, Forms, Items, Pairs, Branches, Clauses, more, one}
use Rattle.ir_core.specs.View.{Core, core_view}
use Rattle.ir_core.specs.Forms.{append, append_items, item_if, append_pairs, append_branches, append_clauses, sequence, after}
use Rattle.ir_core.specs.Parts.{cores, boxed, item_then, value_of, items, pairs, branches, clauses}
use Rattle.ir_core.specs.PartsBy.{Boxed, is_plain, item_by, value_by}

pub cores-push : (fs : List Core) (f : Core) → cores (fs ++ f ∷ []) ≡ append (cores fs) (one (core_view f))
cores-push [] f = refl
cores-push (g ∷ fs) f = ap (more (core_view g)) (cores-push fs f)

-- some forms and one after them
pub after-push : (fs : List Core) (f : Core) → 0 < length fs
    → form.seq (cores (fs ++ f ∷ [])) ≡ after (cores fs) (core_view f)
after-push [] f some = absurd (omega arith)
after-push (g ∷ fs) f some = ap (λ gs. form.seq (more (core_view g) gs)) (cores-push fs f)

pub sequence-push : (fs : List Core) (f : Core) → 0 < length fs
    → form.seq (cores (fs ++ f ∷ [])) ≡ sequence (cores (fs ++ f ∷ []))
sequence-push [] f some = absurd (omega arith)
sequence-push (g ∷ []) f some = refl
sequence-push (g ∷ (h ∷ fs)) f some = refl

pub ruleset form_lists = (after-push, sequence-push)

-- the last of some statements, and those before it
pub sequence-last : (fs : List Core) (f : Core) → sequence (cores (fs ++ f ∷ [])) ≡ after (cores fs) (core_view f)
sequence-last [] f = refl
sequence-last (g ∷ []) f = refl
sequence-last (g ∷ (h ∷ fs)) f = ap (λ hs. form.seq (more (core_view g) hs)) (cores-push (h ∷ fs) f)

pub ruleset statement_lists = sequence-last

pub cores-append : (fs gs : List Core) → cores (fs ++ gs) ≡ append (cores fs) (cores gs)
cores-append [] gs = refl
cores-append (f ∷ fs) gs = ap (more (core_view f)) (cores-append fs gs)

pub items-push : (is : List (Item Core)) (i : Item Core)
    → items (is ++ i ∷ []) ≡ append_items (items is) (item_then i form.no_items)
items-push [] i = refl
items-push (Plain f ∷ is) i = ap (form.plain (core_view f)) (items-push is i)
items-push (Splat f ∷ is) i = ap (form.splat (core_view f)) (items-push is i)

pub ruleset item_lists = items-push

-- an item more, with others after it
pub items-then : (is : List (Item Core)) (i : Item Core) (js : Items)
    → append_items (items (is ++ i ∷ [])) js ≡ append_items (items is) (item_then i js)
items-then [] (Plain f) js = refl
items-then [] (Splat f) js = refl
items-then (Plain g ∷ is) i js = ap (form.plain (core_view g)) (items-then is i js)
items-then (Splat g ∷ is) i js = ap (form.splat (core_view g)) (items-then is i js)

-- the same by whether it is plain and its value
pub items-put : (is : List (Item Core)) (i : Item Core) (js : Items)
    → append_items (items (is ++ i ∷ [])) js ≡ append_items (items is) (item_if (is_plain i) (value_of i) js)
items-put [] (Plain f) js = refl
items-put [] (Splat f) js = refl
items-put (Plain g ∷ is) i js = ap (form.plain (core_view g)) (items-put is i js)
items-put (Splat g ∷ is) i js = ap (form.splat (core_view g)) (items-put is i js)

-- no others after them
pub items-end : (is : Items) → append_items is form.no_items ≡ is
items-end form.no_items = refl
items-end (form.plain f is) = ap (form.plain f) (items-end is)
items-end (form.splat f is) = ap (form.splat f) (items-end is)

pub ruleset item_turns = (items-then, items-end, drop_more, drop_all)

pub ruleset item_puts = (items-put, items-end, drop_more, drop_all)

pub item-parts : {T : Type 0} (v : T → CoreForm) (i : Item (Boxed T)) (is : Items)
    → item_by v i is ≡ item_if (is_plain i) (value_by v i) is
item-parts v (Plain c) is = refl
item-parts v (Splat c) is = refl

-- the same of forms, pairs, branches and clauses: one more with others after it, and no others after them
pub forms-then : (fs : List Core) (f : Core) (gs : Forms)
    → append (cores (fs ++ f ∷ [])) gs ≡ append (cores fs) (more (core_view f) gs)
forms-then [] f gs = refl
forms-then (g ∷ fs) f gs = ap (more (core_view g)) (forms-then fs f gs)

pub forms-end : (fs : Forms) → append fs form.none ≡ fs
forms-end form.none = refl
forms-end (more f fs) = ap (more f) (forms-end fs)

pub ruleset form_turns = (forms-then, forms-end, drop_more, drop_all)

pub pairs-then : (ps : List (Pair Core)) (p : Pair Core) (qs : Pairs)
    → append_pairs (pairs (ps ++ p ∷ [])) qs
    ≡ append_pairs (pairs ps) (form.pair (core_view p.key) (core_view p.value) qs)
pairs-then [] p qs = refl
pairs-then (o ∷ ps) p qs = ap (form.pair (core_view o.key) (core_view o.value)) (pairs-then ps p qs)

pub pairs-end : (ps : Pairs) → append_pairs ps form.no_pairs ≡ ps
pairs-end form.no_pairs = refl
pairs-end (form.pair k v ps) = ap (form.pair k v) (pairs-end ps)

pub ruleset pair_turns = (pairs-then, pairs-end, drop_more, drop_all)

pub branches-then : (bs : List (Branch Core)) (b : Branch Core) (cs : Branches)
    → append_branches (branches (bs ++ b ∷ [])) cs
    ≡ append_branches (branches bs) (form.branch (core_view b.test) (core_view b.body) cs)
branches-then [] b cs = refl
branches-then (a ∷ bs) b cs = ap (form.branch (core_view a.test) (core_view a.body)) (branches-then bs b cs)

pub branches-end : (bs : Branches) → append_branches bs form.no_branches ≡ bs
branches-end form.no_branches = refl
branches-end (form.branch t f bs) = ap (form.branch t f) (branches-end bs)

pub ruleset branch_turns = (branches-then, branches-end, drop_more, drop_all)

pub clauses-then : (cs : List (Clause Core)) (c : Clause Core) (ds : Clauses)
    → append_clauses (clauses (cs ++ c ∷ [])) ds
    ≡ append_clauses (clauses cs) (form.clause (cores c.classes.items) (boxed c.target) (core_view c.body) ds)
clauses-then [] c ds = refl
clauses-then (b ∷ cs) c ds =
    ap (form.clause (cores b.classes.items) (boxed b.target) (core_view b.body)) (clauses-then cs c ds)

pub clauses-end : (cs : Clauses) → append_clauses cs form.no_clauses ≡ cs
clauses-end form.no_clauses = refl
clauses-end (form.clause cs t f more_clauses) = ap (form.clause cs t f) (clauses-end more_clauses)

pub ruleset clause_turns = (clauses-then, clauses-end, drop_more, drop_all)
