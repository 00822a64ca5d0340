-- `between?` and `clamp` of Comparable, in which the receiver never replies.
use Rattle.std.proofs.Common.{◌≡◌, refl, sym, ap, subst, ◌∙◌, List, [], ◌∷◌}
use Rattle.std.specs.Prelude.{ℤ, pos, negsuc, int_lt, ◌≤ℤ◌, codes, Bool, true, false, Option, Some, None}
use Rattle.rb_value.specs.declared.value.Value.{Value}
use Rattle.rb_value.specs.declared.value.Value.TheVariants.{Nil, True, False, Int, Sym, Obj}
use Rattle.rb_value.specs.declared.value.ObjId.{ObjId}
use Rattle.rb_store.specs.Held.{Held}
use Rattle.def_plans.specs.Plan.{Planned}
use Rattle.iter_comparing.specs.declared.row.ComparingRow.TheVariants as comparing_row
use Rattle.iter_comparing.specs.declared.row.OrderRow.{OrderRow}
use Rattle.iter_comparing.specs.declared.row.OrderRow.TheVariants as order_row
use Rattle.iter_comparing.specs.Ordering as ordering
use Rattle.iter_comparing.specs.Rows as comparing
use Rattle.iter_comparing.specs.Stage as over_values
use Rattle.iter_items.specs.Moved.{as_moved}
use Rattle.iter_items.specs.Rows as over_rows
use Rattle.iter_items.specs.Stage as over_items
use Rattle.core_iter.specs.Stage.{Stage, items}
use Rattle.items_laws.specs.Beginning.{IsBeginning}
use Rattle.items_laws.specs.Run.{Turn, Runs, waiting}
use Rattle.items_laws.specs.Asked.{Replies, asked, symbol, with_symbol}
use Rattle.items_laws.specs.CutAsked.{IsAbandoned}
use Rattle.items_laws.specs.Placed.{IsPlaced, Ranks, is_below, is_within}
use Rattle.items_laws.specs.Sums.{send_of}
use Rattle.items_laws.proofs.Cut.{dead}
use Rattle.items_laws.proofs.Inversion.{unmoved}
use Rattle.items_laws.proofs.Once.{EndsAt, compared_next, order_ends}
use Rattle.items_laws.proofs.Placed.{Placing, compared_with, held_within, less, lies, not_less, waits}
use Rattle.items_laws.proofs.Sent.{lifted, opening}
use Rattle.items_laws.proofs.Speaking.{stepped}

abbrev Begins : Held → Value → Value → Value → Value → Value → Value → List Turn → Planned Stage → Type 0
Begins held x low high below within above ts last =
    IsBeginning (λ us v after. IsPlaced held x low high below within above us v after) ts last

abbrev asking : Held → OrderRow → Value → Value → Value → Bool → Planned Stage
asking held r x low high second = lifted (ordering.ask held (compared_with r x low high second))

-- a turn that asks, with a reply that is an Integer
ranked : (held : Held) (r : OrderRow) (x low high y : Value) (second : Bool) (z : ℤ) (t : Turn)
    → ordering.other (compared_with r x low high second) ≡ y → t.wanted ≡ asking held r x low high second
    → t.answer ≡ Int z → Ranks held x y (t ∷ []) z t.held
ranked held r x low high y second z t arg wants is = subst (λ (a : Value). Replies false (symbol (codes "<=>") held)
    (with_symbol (codes "<=>") held) x (y ∷ []) (t ∷ []) a t.held) is
    (asked t (ap (λ (p : Planned Stage). p.held) wants)
    (ap (λ (p : Planned Stage). send_of p.plan) wants
    ∙ ap (λ (u : Value). Some (x, symbol (codes "<=>") held, u ∷ [])) arg))

-- the turn that isn't answered, as if it were
abbrev as_answered : Planned Stage → Value → Turn
as_answered last a = record { wanted = last; answer = a; held = last.held }

-- 0 is at most 0
not_above : pos 0 ≤ℤ pos 0
not_above = not_less (pos 0) refl

-- The second value.
second_off : (r : OrderRow) (x low high below within above : Value) → EndsAt (waits r x low high true) → (held : Held)
    (first : Turn) (z : ℤ) (us : List Turn) (last : Planned Stage) (stage : Stage) → waiting last.plan ≡ Some stage
    → Ranks held x low (first ∷ []) z first.held → pos 0 ≤ℤ z → Runs (asking first.held r x low high true) us last
    → Begins held x low high below within above (first ∷ us) last
second_off r x low high below within above ends held first z [] last stage waits_so before least runs =
    let t = as_answered last (Int (pos 0)) in
    record {
      turn = t;
      further = [];
      value = within;
      after = last.held;
      wanted = refl;
      whole = is_within first.held last.held z (pos 0) (first ∷ []) (t ∷ []) before least
          (ranked first.held r x low high high true (pos 0) t refl (sym runs) refl) not_above;
    }
second_off r x low high below within above ends held first z (t ∷ us) last stage waits_so before least runs =
    let plan = asking first.held r x low high true in
    let k = stepped plan plan (items (over_items.compares (waits r x low high true))) t us last refl refl runs in
    absurd (dead k.next last us stage (compared_next (waits r x low high true) ends t.held t.answer k.next k.goes) waits_so
    k.runs)

-- what comes by the first reply
record Went (r : OrderRow) (x low high : Value) (t : Turn) (us : List Turn) (last : Planned Stage) : Type 0 where
  next : Planned over_values.Stage
  goes : next ≡ ordering.answered t.held (compared_with r x low high false) t.answer
  runs : Runs (lifted next) us last

ended_by : (r : OrderRow) (x low high : Value) (t : Turn) (us : List Turn) (last : Planned Stage) (stage : Stage)
    (q : Planned over_values.Stage) → waiting last.plan ≡ Some stage → (k : Went r x low high t us last) → k.next ≡ q
    → waiting (lifted q).plan ≡ None → ⊥
ended_by r x low high t us last stage q waits_so k same none = dead (lifted q) last us stage none waits_so
    (subst (λ (p : Planned over_values.Stage). Runs (lifted p) us last) same k.runs)

by_sign : (r : OrderRow) (x low high below within above : Value) → Placing r x low high below within above
    → EndsAt (waits r x low high true) → (held : Held) (t : Turn) (z : ℤ) (us : List Turn) (last : Planned Stage)
    (stage : Stage) → waiting last.plan ≡ Some stage → t.wanted ≡ asking held r x low high false
    → (k : Went r x low high t us last) → t.answer ≡ Int z
    → k.next ≡ ordering.decided t.held (compared_with r x low high false)
    (ordering.told (compared_with r x low high false) z) → (c : Bool) → int_lt z (pos 0) ≡ c
    → Begins held x low high below within above (t ∷ us) last
by_sign r x low high below within above m ends held t z us last stage waits_so wants k is goes true e =
    absurd (ended_by r x low high t us last stage
    (ordering.decided t.held (compared_with r x low high false) (Some below)) waits_so k
    (goes ∙ ap (λ (o : Option Value). ordering.decided t.held (compared_with r x low high false) o) (m.below_first z e))
    refl)
by_sign r x low high below within above m ends held t z us last stage waits_so wants k is goes false e =
    second_off r x low high below within above ends held t z us last stage waits_so
    (ranked held r x low high low false z t refl wants is) (not_less z e)
    (subst (λ (p : Planned over_values.Stage). Runs (lifted p) us last)
    (goes ∙ ap (λ (o : Option Value). ordering.decided t.held (compared_with r x low high false) o) (m.not_below z e)) k.runs)

by_answer : (r : OrderRow) (x low high below within above : Value) → Placing r x low high below within above
    → EndsAt (waits r x low high true) → (held : Held) (t : Turn) (us : List Turn) (last : Planned Stage)
    (stage : Stage) → waiting last.plan ≡ Some stage → t.wanted ≡ asking held r x low high false
    → (k : Went r x low high t us last) → (a : Value) → t.answer ≡ a
    → Begins held x low high below within above (t ∷ us) last
by_answer r x low high below within above m ends held t us last stage waits_so wants k (Int z) is =
    by_sign r x low high below within above m ends held t z us last stage waits_so wants k is
    (k.goes ∙ ap (λ (a : Value). ordering.answered t.held (compared_with r x low high false) a) is) (int_lt z (pos 0)) refl
by_answer r x low high below within above m ends held t us last stage waits_so wants k Nil is =
    absurd (ended_by r x low high t us last stage
    (ordering.incomparable t.held (compared_with r x low high false)) waits_so k
    (k.goes ∙ ap (λ (a : Value). ordering.answered t.held (compared_with r x low high false) a) is ∙ m.refuses t.held false)
    refl)
by_answer r x low high below within above m ends held t us last stage waits_so wants k True is =
    absurd (ended_by r x low high t us last stage
    (ordering.incomparable t.held (compared_with r x low high false)) waits_so k
    (k.goes ∙ ap (λ (a : Value). ordering.answered t.held (compared_with r x low high false) a) is ∙ m.refuses t.held false)
    refl)
by_answer r x low high below within above m ends held t us last stage waits_so wants k False is =
    absurd (ended_by r x low high t us last stage
    (ordering.incomparable t.held (compared_with r x low high false)) waits_so k
    (k.goes ∙ ap (λ (a : Value). ordering.answered t.held (compared_with r x low high false) a) is ∙ m.refuses t.held false)
    refl)
by_answer r x low high below within above m ends held t us last stage waits_so wants k (Sym s) is =
    absurd (ended_by r x low high t us last stage
    (ordering.incomparable t.held (compared_with r x low high false)) waits_so k
    (k.goes ∙ ap (λ (a : Value). ordering.answered t.held (compared_with r x low high false) a) is ∙ m.refuses t.held false)
    refl)
by_answer r x low high below within above m ends held t us last stage waits_so wants k (Obj id) is =
    absurd (ended_by r x low high t us last stage
    (ordering.incomparable t.held (compared_with r x low high false)) waits_so k
    (k.goes ∙ ap (λ (a : Value). ordering.answered t.held (compared_with r x low high false) a) is ∙ m.refuses t.held false)
    refl)

placed_off : (r : OrderRow) (x low high below within above : Value) → Placing r x low high below within above
    → EndsAt (waits r x low high true) → (held : Held) (ts : List Turn) (first : Planned over_values.Stage)
    (last : Planned Stage) (stage : Stage) → waiting last.plan ≡ Some stage
    → first ≡ ordering.ask held (compared_with r x low high false) → Runs (lifted first) ts last
    → Begins held x low high below within above ts last
placed_off r x low high below within above m ends held [] first last stage waits_so begins runs =
    let t = as_answered last (Int (negsuc 0)) in
    record {
      turn = t;
      further = [];
      value = below;
      after = last.held;
      wanted = refl;
      whole = is_below last.held (negsuc 0) (t ∷ [])
          (ranked held r x low high low false (negsuc 0) t refl
          (sym runs ∙ ap (λ (p : Planned over_values.Stage). lifted p) begins) refl) (less (negsuc 0) refl);
    }
placed_off r x low high below within above m ends held (t ∷ us) first last stage waits_so begins runs =
    let plan = asking held r x low high false in
    let s = waits r x low high false in
    let k = stepped plan (lifted first) (items (over_items.compares s)) t us last
    (ap (λ (p : Planned over_values.Stage). lifted p) begins) refl runs in
    let outer = unmoved items (over_rows.GoesOn t.held (over_items.compares s) t.answer) k.next k.goes in
    let inner = unmoved over_items.compares (comparing.GoesOn t.held s t.answer) outer.inner outer.meant in
    by_answer r x low high below within above m ends held t us last stage waits_so k.wanted (record {
      next = inner.inner;
      goes = inner.meant;
      runs = subst (λ (p : Planned Stage). Runs p us last)
          (outer.same ∙ ap (λ (p : Planned over_items.Stage). as_moved items p) inner.same) k.runs;
    }) t.answer refl

pub lies_cut : (held : Held) (recv low high : Value) (block : Option ObjId) (ts : List Turn) (last : Planned Stage)
    → IsAbandoned (comparing_row.Order order_row.Between) held recv (low ∷ high ∷ []) block ts last
    → IsBeginning (λ us v after. IsPlaced held recv low high False True False us v after) ts last
lies_cut held recv low high block ts last run =
    let f = opening (comparing_row.Order order_row.Between) held recv (low ∷ high ∷ []) block ts run.first last run.starts
    run.runs in
    placed_off order_row.Between recv low high False True False (lies recv low high)
    (order_ends (compared_with order_row.Between recv low high true) (λ h z. refl) (λ h. refl)) held ts f.first last
    run.stage run.waits f.starts f.runs

pub clamped_cut : (held : Held) (recv low high : Value) (block : Option ObjId) (ts : List Turn) (last : Planned Stage)
    → IsAbandoned (comparing_row.Order order_row.Clamp) held recv (low ∷ high ∷ []) block ts last
    → IsBeginning (λ us v after. IsPlaced held recv low high low recv high us v after) ts last
clamped_cut held recv low high block ts last run =
    let f = opening (comparing_row.Order order_row.Clamp) held recv (low ∷ high ∷ []) block ts run.first last run.starts
    run.runs in
    placed_off order_row.Clamp recv low high low recv high (held_within recv low high)
    (order_ends (compared_with order_row.Clamp recv low high true) (λ h z. refl) (λ h. refl)) held ts f.first last
    run.stage run.waits f.starts f.runs
