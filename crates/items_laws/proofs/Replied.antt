-- `!=` and `===`, and the comparisons of Comparable: one value is asked.
use Rattle.std.proofs.Common.{◌≡◌, refl, sym, ap, subst, ◌∙◌, List, [], ◌∷◌}
use Rattle.std.specs.Prelude.{ℕ, ℤ, pos, int_lt, int_le, codes, not, Bool, true, false, Option, Some, None}
use Rattle.rb_value.specs.declared.value.Value.{Value}
use Rattle.rb_value.specs.declared.value.Value.TheVariants.{Nil, True, False, Int, Sym, Obj}
use Rattle.rb_value.specs.declared.value.ObjId.{ObjId}
use Rattle.rb_value.specs.Value.{is_true, truth}
use Rattle.def_core.specs.declared.cause.Cause.TheVariants as cause
use Rattle.def_core.specs.Classes.{plain_class_of}
use Rattle.def_core.specs.Changes.{intern}
use Rattle.def_core.specs.Store.{Store}
use Rattle.rb_store.specs.Held.{Held}
use Rattle.heap.specs.Operands.{own}
use Rattle.run_values.specs.declared.given.Given.{Given}
use Rattle.run_values.specs.declared.given.Given.TheVariants.{Gives as GivesValue, Raises}
use Rattle.def_plans.specs.Plan.{Plan, Planned, finishes, raises, gives}
use Rattle.iter_comparing.specs.declared.row.ComparingRow.TheVariants as comparing_row
use Rattle.iter_comparing.specs.declared.row.OrderRow.{OrderRow}
use Rattle.iter_comparing.specs.declared.row.OrderRow.TheVariants as order_row
use Rattle.iter_comparing.specs.Equal.{Settles, negated, stage}
use Rattle.iter_comparing.specs.Ordering as ordering
use Rattle.iter_comparing.specs.Outright.{outright}
use Rattle.iter_comparing.specs.Rows as comparing
use Rattle.iter_comparing.specs.Stage as over_values
use Rattle.iter_items.specs.declared.row.ItemsRow.TheVariants as items_row
use Rattle.run_rows.specs.declared.row.StarRow.TheVariants as row
use Rattle.core_iter.specs.Stage.{Stage}
use Rattle.items_laws.specs.Run.{Turn, Runs, Gives}
use Rattle.items_laws.specs.Asked.{Replies, told, asked, symbol, with_symbol, IsReply, IsSign}
use Rattle.items_laws.proofs.Course.{given, refused}
use Rattle.items_laws.proofs.Sent.{Sent, first_of, lifted, sending, sent}
use Rattle.items_laws.proofs.Summed.{raised}

-- the answer is the last one
answered : (name : List ℕ) (held : Held) (s : over_values.Stage) (x y u : Value) (ts : List Turn) (r : Value)
    (after : Held) (Result : Value → Type 0)
    → (k : Sent s (with_symbol name held) x (symbol name held) (y ∷ []) ts r after)
    → k.next ≡ gives k.turn.held u → (r ≡ u → Result k.turn.answer) → IsReply name held x y ts Result after
answered name held s x y u ts r after Result k same result =
    let end = given k.further k.turn.held u r after
    (subst (λ (p : Planned over_values.Stage). Runs (lifted p) k.further (gives after r)) same k.runs) in
    let one = k.same ∙ ap (λ (us : List Turn). k.turn ∷ us) end.0 in
    record {
      reply = k.turn.answer;
      replies = subst (λ (us : List Turn). Replies false (symbol name held) (with_symbol name held) x (y ∷ []) us
          k.turn.answer after) (sym one)
          (subst (λ (h : Held). Replies false (symbol name held) (with_symbol name held) x (y ∷ []) (k.turn ∷ [])
          k.turn.answer h) (sym end.2) (asked k.turn k.wanted k.message));
      result = result end.1;
    }

-- `!=` and `===`

pub negated_next : (c : Bool) (h : Held) (a : Value) (p : Planned over_values.Stage) → comparing.GoesOn h (stage c) a p
    → p ≡ gives h (negated c a)
negated_next true h a p goes = goes
negated_next false h a p goes = goes

at_once : (p : Planned over_values.Stage) (q : Plan over_values.Stage) → p.plan ≡ q
    → lifted p ≡ lifted (record { plan = q; held = p.held })
at_once p q same = ap (λ (x : Plan over_values.Stage). lifted (record { plan = x; held = p.held })) same

settled : (c : Bool) (held : Held) (x y : Value) (ts : List Turn) (r : Value) (after : Held)
    (p : Planned over_values.Stage) (o : Option Given × Store)
    → outright (with_symbol (codes "==") held).store x (symbol (codes "==") held) (y ∷ []) ≡ o
    → Settles held c x (y ∷ []) (intern held.store (codes "==")) o p → Runs (lifted p) ts (gives after r)
    → IsReply (codes "==") held x y ts (λ a. r ≡ negated c a) after
settled c held x y ts r after p (None, st) once settles runs =
    let k = sent (stage c) (with_symbol (codes "==") held) x (symbol (codes "==") held) (y ∷ []) ts r after
    (subst (λ (q : Planned over_values.Stage). Runs (lifted q) ts (gives after r)) settles runs) in
    answered (codes "==") held (stage c) x y (negated c k.turn.answer) ts r after (λ a. r ≡ negated c a) k
    (negated_next c k.turn.held k.turn.answer k.next k.goes) (λ same. same)
settled c held x y ts r after p (Some (GivesValue a), st) once settles runs =
    let end = given ts p.held (negated c a) r after
    (subst (λ (q : Planned Stage). Runs q ts (gives after r)) (at_once p (finishes (negated c a)) settles.0) runs) in
    let left = sym settles.1 ∙ ap (λ (h : Held). h.store) (sym end.2) in
    record {
      reply = a;
      replies = subst (λ (us : List Turn). Replies false (symbol (codes "==") held) (with_symbol (codes "==") held) x
          (y ∷ []) us a after) (sym end.0)
          (told a after refl (once ∙ ap (λ (z : Store). (Some (GivesValue a), z)) left));
      result = end.1;
    }
settled c held x y ts r after p (Some (Raises e), st) once settles runs = absurd (raised ts p.held e r after
    (subst (λ (q : Planned Stage). Runs q ts (gives after r)) (at_once p (raises e) settles.0) runs))

pub differs : (held after : Held) (recv y v : Value) (block : Option ObjId) (ts : List Turn)
    → Gives (row.Items (items_row.Compares comparing_row.Differs)) held recv (y ∷ []) block ts v after
    → IsReply (codes "==") held recv y ts (λ a. v ≡ truth (not (is_true a))) after
differs held after recv y v block ts run =
    let f = first_of comparing_row.Differs held recv (y ∷ []) block ts v after run in
    settled true held recv y ts v after f.first
    (outright (with_symbol (codes "==") held).store recv (symbol (codes "==") held) (y ∷ [])) refl f.starts f.runs

pub matches : (held after : Held) (recv y v : Value) (block : Option ObjId) (ts : List Turn)
    → Gives (row.Items (items_row.Compares comparing_row.Matches)) held recv (y ∷ []) block ts v after
    → IsReply (codes "==") held recv y ts (λ a. v ≡ truth (is_true a)) after
matches held after recv y v block ts run =
    let f = first_of comparing_row.Matches held recv (y ∷ []) block ts v after run in
    settled false held recv y ts v after f.first
    (outright (with_symbol (codes "==") held).store recv (symbol (codes "==") held) (y ∷ [])) refl f.starts f.runs

-- Comparable

abbrev pub order : OrderRow → Value → Value → over_values.Stage
order r x y = over_values.orders (ordering.order r x (y ∷ []))

-- where the answer isn't an Integer the method fails, and else it tells
abbrev pub Ordered : OrderRow → (ℤ → Bool) → Type 0
Ordered r test = (h : Held) (x y : Value) (z : ℤ) (p : Planned over_values.Stage) → comparing.GoesOn h (order r x y) (Int z) p
    → p ≡ gives h (truth (test z))

abbrev pub Refuses : OrderRow → Type 0
Refuses r = (h : Held) (x y : Value) → ordering.refused_by r h (ordering.order r x (y ∷ []))
    ≡ ordering.incomparable h (ordering.order r x (y ∷ []))

-- no value comes of a method that fails
unordered : (r : OrderRow) → Refuses r → (held : Held) (x y : Value) (ts : List Turn) (v : Value) (after : Held)
    → (k : Sent (order r x y) (with_symbol (codes "<=>") held) x (symbol (codes "<=>") held) (y ∷ []) ts v after)
    → k.next ≡ ordering.refused_by r k.turn.held (ordering.order r x (y ∷ [])) → ⊥
unordered r refuses_so held x y ts v after k same = refused k.further k.turn.held
    (cause.Incomparable (plain_class_of k.turn.held.store.objects (own k.turn.held.store x))
    (plain_class_of k.turn.held.store.objects (own k.turn.held.store y))) v after
    (subst (λ (p : Planned over_values.Stage). Runs (lifted p) k.further (gives after v))
    (same ∙ refuses_so k.turn.held x y) k.runs)

ordered_by : (r : OrderRow) (test : ℤ → Bool) → Ordered r test → Refuses r → (held : Held) (x y : Value) (ts : List Turn)
    (v : Value) (after : Held)
    → (k : Sent (order r x y) (with_symbol (codes "<=>") held) x (symbol (codes "<=>") held) (y ∷ []) ts v after)
    → (a : Value) → k.turn.answer ≡ a → comparing.GoesOn k.turn.held (order r x y) a k.next
    → IsReply (codes "<=>") held x y ts (IsSign test v) after
ordered_by r test tells refuses_so held x y ts v after k (Int z) is goes =
    answered (codes "<=>") held (order r x y) x y (truth (test z)) ts v after (IsSign test v) k
    (tells k.turn.held x y z k.next goes) (λ same. record { sign = z; same = is; value = same })
ordered_by r test tells refuses_so held x y ts v after k Nil is goes = absurd (unordered r refuses_so held x y ts v after k goes)
ordered_by r test tells refuses_so held x y ts v after k True is goes = absurd (unordered r refuses_so held x y ts v after k goes)
ordered_by r test tells refuses_so held x y ts v after k False is goes = absurd (unordered r refuses_so held x y ts v after k goes)
ordered_by r test tells refuses_so held x y ts v after k (Sym s) is goes = absurd (unordered r refuses_so held x y ts v after k goes)
ordered_by r test tells refuses_so held x y ts v after k (Obj id) is goes = absurd (unordered r refuses_so held x y ts v after k goes)

compared : (r : OrderRow) (test : ℤ → Bool) → Ordered r test → Refuses r → (held after : Held) (recv y v : Value)
    (ts : List Turn) (p : Planned over_values.Stage)
    → p ≡ sending (order r recv y) (with_symbol (codes "<=>") held) recv (symbol (codes "<=>") held) (y ∷ [])
    → Runs (lifted p) ts (gives after v) → IsReply (codes "<=>") held recv y ts (IsSign test v) after
compared r test tells refuses_so held after recv y v ts p first runs =
    let k = sent (order r recv y) (with_symbol (codes "<=>") held) recv (symbol (codes "<=>") held) (y ∷ []) ts v after
    (subst (λ (q : Planned over_values.Stage). Runs (lifted q) ts (gives after v)) first runs) in
    ordered_by r test tells refuses_so held recv y ts v after k k.turn.answer refl k.goes

abbrev Compares : OrderRow → (ℤ → Bool) → Type 0
Compares r test = (held after : Held) (recv y v : Value) (block : Option ObjId) (ts : List Turn)
    → Gives (row.Items (items_row.Compares (comparing_row.Order r))) held recv (y ∷ []) block ts v after
    → IsReply (codes "<=>") held recv y ts (IsSign test v) after

pub is_less : Compares order_row.Less (λ z. int_lt z (pos 0))
is_less held after recv y v block ts run =
    let f = first_of (comparing_row.Order order_row.Less) held recv (y ∷ []) block ts v after run in
    compared order_row.Less (λ z. int_lt z (pos 0)) (λ h x u z p goes. goes) (λ h x u. refl) held after recv y v ts f.first
    f.starts f.runs

pub is_at_most : Compares order_row.AtMost (λ z. int_le z (pos 0))
is_at_most held after recv y v block ts run =
    let f = first_of (comparing_row.Order order_row.AtMost) held recv (y ∷ []) block ts v after run in
    compared order_row.AtMost (λ z. int_le z (pos 0)) (λ h x u z p goes. goes) (λ h x u. refl) held after recv y v ts f.first
    f.starts f.runs

pub is_greater : Compares order_row.Greater (λ z. int_lt (pos 0) z)
is_greater held after recv y v block ts run =
    let f = first_of (comparing_row.Order order_row.Greater) held recv (y ∷ []) block ts v after run in
    compared order_row.Greater (λ z. int_lt (pos 0) z) (λ h x u z p goes. goes) (λ h x u. refl) held after recv y v ts f.first
    f.starts f.runs

pub is_at_least : Compares order_row.AtLeast (λ z. int_le (pos 0) z)
is_at_least held after recv y v block ts run =
    let f = first_of (comparing_row.Order order_row.AtLeast) held recv (y ∷ []) block ts v after run in
    compared order_row.AtLeast (λ z. int_le (pos 0) z) (λ h x u z p goes. goes) (λ h x u. refl) held after recv y v ts f.first
    f.starts f.runs
