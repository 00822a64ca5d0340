-- Methods that ask one value, which never replies.
use Rattle.std.proofs.Common.{◌≡◌, refl, sym, ap, subst, ◌∙◌, List, [], ◌∷◌}
use Rattle.std.specs.Prelude.{ℕ, ℤ, pos, int_lt, int_le, codes, Bool, true, false, Option, Some, None}
use Rattle.rb_value.specs.declared.value.Value.{Value}
use Rattle.rb_value.specs.declared.value.Value.TheVariants.{Nil, True, False, Int, Sym, Obj}
use Rattle.rb_value.specs.declared.value.ObjId.{ObjId}
use Rattle.def_core.specs.Changes.{intern}
use Rattle.def_core.specs.Store.{Store}
use Rattle.rb_store.specs.Held.{Held}
use Rattle.run_values.specs.declared.given.Given.{Given}
use Rattle.run_values.specs.declared.given.Given.TheVariants.{Gives as GivesValue, Raises}
use Rattle.def_plans.specs.Plan.{Plan, Planned, finishes, raises}
use Rattle.iter_comparing.specs.declared.row.ComparingRow.TheVariants as comparing_row
use Rattle.iter_comparing.specs.declared.row.OrderRow.{OrderRow}
use Rattle.iter_comparing.specs.declared.row.OrderRow.TheVariants as order_row
use Rattle.iter_comparing.specs.Equal.{Settles, negated, stage}
use Rattle.iter_comparing.specs.Outright.{outright}
use Rattle.iter_comparing.specs.Rows as comparing
use Rattle.iter_comparing.specs.Stage as over_values
use Rattle.iter_items.specs.Moved.{as_moved, moved}
use Rattle.iter_items.specs.Rows as over_rows
use Rattle.iter_items.specs.Stage as over_items
use Rattle.core_iter.specs.Stage.{Stage, items}
use Rattle.items_laws.specs.Run.{Turn, Runs, waiting}
use Rattle.items_laws.specs.Asked.{symbol, with_symbol}
use Rattle.items_laws.specs.CutAsked.{IsAbandoned, IsAwaited, is_sent}
use Rattle.items_laws.specs.Sums.{send_of}
use Rattle.items_laws.proofs.Cut.{dead}
use Rattle.items_laws.proofs.Inversion.{unmoved}
use Rattle.items_laws.proofs.Replied.{Ordered, Refuses, negated_next, order}
use Rattle.items_laws.proofs.Sent.{lifted, opening, sending}
use Rattle.items_laws.proofs.Speaking.{stepped}

-- what comes by an answer ends it
abbrev Ending : over_values.Stage → Type 0
Ending s = (h : Held) (a : Value) (p : Planned over_values.Stage) → comparing.GoesOn h s a p
    → waiting (lifted p).plan ≡ None

abbrev asking : List ℕ → Held → over_values.Stage → Value → Value → Planned Stage
asking name held s x y = lifted (sending s (with_symbol name held) x (symbol name held) (y ∷ []))

sole : (name : List ℕ) (held : Held) (s : over_values.Stage) (x y : Value) (ts : List Turn) (last : Planned Stage)
    (waits_in : Stage) → Ending s → waiting last.plan ≡ Some waits_in → Runs (asking name held s x y) ts last
    → IsAwaited name held x y ts last
sole name held s x y [] last waits_in ends waits runs = record {
  none = refl;
  wanted = is_sent (ap (λ (p : Planned Stage). p.held) (sym runs)) (ap (λ (p : Planned Stage). send_of p.plan) (sym runs));
}
sole name held s x y (t ∷ ts) last waits_in ends waits runs =
    let first = asking name held s x y in
    let k = stepped first first (items (over_items.compares s)) t ts last refl refl runs in
    let outer = unmoved items (over_rows.GoesOn t.held (over_items.compares s) t.answer) k.next k.goes in
    let inner = unmoved over_items.compares (comparing.GoesOn t.held s t.answer) outer.inner outer.meant in
    let same : k.next ≡ lifted inner.inner =
    outer.same ∙ ap (λ (p : Planned over_items.Stage). as_moved items p) inner.same in
    absurd (dead k.next last ts waits_in (ap (λ (p : Planned Stage). waiting p.plan) same
    ∙ ends t.held t.answer inner.inner inner.meant) waits k.runs)

-- `!=` and `===`

stage_ends : (c : Bool) → Ending (stage c)
stage_ends c = λ h a p goes.
    ap (λ (q : Planned over_values.Stage). waiting (lifted q).plan) (negated_next c h a p goes)

-- a plan that ends
moved_none : (p q : Plan over_values.Stage) → p ≡ q → waiting (moved items (moved over_items.compares q)) ≡ None
    → waiting (moved items (moved over_items.compares p)) ≡ None
moved_none p q same none =
    ap (λ (x : Plan over_values.Stage). waiting (moved items (moved over_items.compares x))) same ∙ none

settled_off : (c : Bool) (held : Held) (x y : Value) (ts : List Turn) (last : Planned Stage) (waits_in : Stage)
    (p : Planned over_values.Stage) (o : Option Given × Store) → waiting last.plan ≡ Some waits_in
    → Settles held c x (y ∷ []) (intern held.store (codes "==")) o p → Runs (lifted p) ts last
    → IsAwaited (codes "==") held x y ts last
settled_off c held x y ts last waits_in p (None, st) waits settles runs =
    sole (codes "==") held (stage c) x y ts last waits_in (stage_ends c) waits
    (subst (λ (q : Planned over_values.Stage). Runs (lifted q) ts last) settles runs)
settled_off c held x y ts last waits_in p (Some (GivesValue a), st) waits settles runs =
    absurd (dead (lifted p) last ts waits_in (moved_none p.plan (finishes (negated c a)) settles.0 refl) waits runs)
settled_off c held x y ts last waits_in p (Some (Raises e), st) waits settles runs =
    absurd (dead (lifted p) last ts waits_in (moved_none p.plan (raises e) settles.0 refl) waits runs)

pub differing_cut : (held : Held) (recv y : Value) (block : Option ObjId) (ts : List Turn) (last : Planned Stage)
    → IsAbandoned comparing_row.Differs held recv (y ∷ []) block ts last → IsAwaited (codes "==") held recv y ts last
differing_cut held recv y block ts last run =
    let f = opening comparing_row.Differs held recv (y ∷ []) block ts run.first last run.starts run.runs in
    settled_off true held recv y ts last run.stage f.first
    (outright (with_symbol (codes "==") held).store recv (symbol (codes "==") held) (y ∷ [])) run.waits f.starts f.runs

pub matching_cut : (held : Held) (recv y : Value) (block : Option ObjId) (ts : List Turn) (last : Planned Stage)
    → IsAbandoned comparing_row.Matches held recv (y ∷ []) block ts last → IsAwaited (codes "==") held recv y ts last
matching_cut held recv y block ts last run =
    let f = opening comparing_row.Matches held recv (y ∷ []) block ts run.first last run.starts run.runs in
    settled_off false held recv y ts last run.stage f.first
    (outright (with_symbol (codes "==") held).store recv (symbol (codes "==") held) (y ∷ [])) run.waits f.starts f.runs

-- Comparable

order_ends : (r : OrderRow) (test : ℤ → Bool) → Ordered r test → Refuses r → (x y : Value) → Ending (order r x y)
order_ends r test tells refuses_so x y = λ h a p goes. by_answer h a p goes
  where
    by_answer : Ending (order r x y)
    by_answer h (Int z) p goes =
        ap (λ (q : Planned over_values.Stage). waiting (lifted q).plan) (tells h x y z p goes)
    by_answer h Nil p goes =
        ap (λ (q : Planned over_values.Stage). waiting (lifted q).plan) (goes ∙ refuses_so h x y)
    by_answer h True p goes =
        ap (λ (q : Planned over_values.Stage). waiting (lifted q).plan) (goes ∙ refuses_so h x y)
    by_answer h False p goes =
        ap (λ (q : Planned over_values.Stage). waiting (lifted q).plan) (goes ∙ refuses_so h x y)
    by_answer h (Sym s) p goes =
        ap (λ (q : Planned over_values.Stage). waiting (lifted q).plan) (goes ∙ refuses_so h x y)
    by_answer h (Obj o) p goes =
        ap (λ (q : Planned over_values.Stage). waiting (lifted q).plan) (goes ∙ refuses_so h x y)

ordering_cut : (r : OrderRow) (test : ℤ → Bool) → Ordered r test → Refuses r → (held : Held) (recv y : Value)
    (ts : List Turn) (last : Planned Stage) (waits_in : Stage) (p : Planned over_values.Stage)
    → waiting last.plan ≡ Some waits_in
    → p ≡ sending (order r recv y) (with_symbol (codes "<=>") held) recv (symbol (codes "<=>") held) (y ∷ [])
    → Runs (lifted p) ts last → IsAwaited (codes "<=>") held recv y ts last
ordering_cut r test tells refuses_so held recv y ts last waits_in p waits first runs =
    sole (codes "<=>") held (order r recv y) recv y ts last waits_in (order_ends r test tells refuses_so recv y) waits
    (subst (λ (q : Planned over_values.Stage). Runs (lifted q) ts last) first runs)

abbrev Cuts : OrderRow → Type 0
Cuts r = (held : Held) (recv y : Value) (block : Option ObjId) (ts : List Turn) (last : Planned Stage)
    → IsAbandoned (comparing_row.Order r) held recv (y ∷ []) block ts last
    → IsAwaited (codes "<=>") held recv y ts last

pub less_cut : Cuts order_row.Less
less_cut held recv y block ts last run =
    let f = opening (comparing_row.Order order_row.Less) held recv (y ∷ []) block ts run.first last run.starts run.runs in
    ordering_cut order_row.Less (λ z. int_lt z (pos 0)) (λ h x u z p goes. goes) (λ h x u. refl) held recv y ts last run.stage
    f.first run.waits f.starts f.runs

pub at_most_cut : Cuts order_row.AtMost
at_most_cut held recv y block ts last run =
    let f = opening (comparing_row.Order order_row.AtMost) held recv (y ∷ []) block ts run.first last run.starts run.runs in
    ordering_cut order_row.AtMost (λ z. int_le z (pos 0)) (λ h x u z p goes. goes) (λ h x u. refl) held recv y ts last
    run.stage f.first run.waits f.starts f.runs

pub greater_cut : Cuts order_row.Greater
greater_cut held recv y block ts last run =
    let f = opening (comparing_row.Order order_row.Greater) held recv (y ∷ []) block ts run.first last run.starts run.runs in
    ordering_cut order_row.Greater (λ z. int_lt (pos 0) z) (λ h x u z p goes. goes) (λ h x u. refl) held recv y ts last
    run.stage f.first run.waits f.starts f.runs

pub at_least_cut : Cuts order_row.AtLeast
at_least_cut held recv y block ts last run =
    let f = opening (comparing_row.Order order_row.AtLeast) held recv (y ∷ []) block ts run.first last run.starts run.runs in
    ordering_cut order_row.AtLeast (λ z. int_le (pos 0) z) (λ h x u z p goes. goes) (λ h x u. refl) held recv y ts last
    run.stage f.first run.waits f.starts f.runs
