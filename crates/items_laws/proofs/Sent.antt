-- How a method that asks values begins, and a message of it that is answered.
use Rattle.std.proofs.Common.{◌≡◌, refl, ap, subst, ◌∙◌, List, [], ◌∷◌}
use Rattle.std.specs.Prelude.{false, Option, Some, None}
use Rattle.rb_value.specs.declared.value.Value.{Value}
use Rattle.rb_value.specs.declared.value.ObjId.{ObjId}
use Rattle.rb_value.specs.declared.value.SymId.{SymId}
use Rattle.rb_store.specs.Held.{Held}
use Rattle.def_plans.specs.Plan.{Planned, sends, gives}
use Rattle.iter_comparing.specs.declared.row.ComparingRow.{ComparingRow}
use Rattle.iter_comparing.specs.Rows as comparing
use Rattle.iter_comparing.specs.Stage as over_values
use Rattle.iter_items.specs.Moved.{as_moved}
use Rattle.iter_items.specs.Rows as over_rows
use Rattle.iter_items.specs.Stage as over_items
use Rattle.iter_items.specs.declared.row.ItemsRow.TheVariants as items_row
use Rattle.run_rows.specs.declared.row.StarRow.TheVariants as row
use Rattle.core_iter.specs.Rows.{GoesOn as FollowsOf, Starts}
use Rattle.core_iter.specs.Stage.{Stage, items}
use Rattle.items_laws.specs.Run.{Turn, Leads, Runs, Gives}
use Rattle.items_laws.specs.Sums.{send_of}
use Rattle.items_laws.proofs.Course.{waits_for}
use Rattle.items_laws.proofs.Inversion.{unmoved, not_given}

abbrev pub lifted : Planned over_values.Stage → Planned Stage
lifted p = as_moved items (as_moved over_items.compares p)

-- how a row begins, whatever its last plan

pub record Opening (r : ComparingRow) (held : Held) (recv : Value) (args : List Value) (block : Option ObjId)
    (ts : List Turn) (last : Planned Stage) : Type 0 where
  pub first : Planned over_values.Stage
  pub starts : comparing.Starts r held recv args block first
  pub runs : Runs (lifted first) ts last

pub opening : (r : ComparingRow) (held : Held) (recv : Value) (args : List Value) (block : Option ObjId) (ts : List Turn)
    (p last : Planned Stage) → Starts (row.Items (items_row.Compares r)) held recv args block p → Runs p ts last
    → Opening r held recv args block ts last
opening r held recv args block ts p last starts runs =
    let outer = unmoved items (over_rows.Starts (items_row.Compares r) held recv args block) p starts in
    let inner = unmoved over_items.compares (comparing.Starts r held recv args block) outer.inner outer.meant in
    record {
      first = inner.inner;
      starts = inner.meant;
      runs = subst (λ (p : Planned Stage). Runs p ts last)
          (outer.same ∙ ap (λ (p : Planned over_items.Stage). as_moved items p) inner.same) runs;
    }

-- and where it gives a value

pub record First (r : ComparingRow) (held : Held) (recv : Value) (args : List Value) (block : Option ObjId) (ts : List Turn)
    (v : Value) (after : Held) : Type 0 where
  pub first : Planned over_values.Stage
  pub starts : comparing.Starts r held recv args block first
  pub runs : Runs (lifted first) ts (gives after v)

pub first_of : (r : ComparingRow) (held : Held) (recv : Value) (args : List Value) (block : Option ObjId) (ts : List Turn)
    (v : Value) (after : Held) → Gives (row.Items (items_row.Compares r)) held recv args block ts v after
    → First r held recv args block ts v after
first_of r held recv args block ts v after run =
    let o = opening r held recv args block ts run.first (gives after v) run.starts run.runs in
    record { first = o.first; starts = o.starts; runs = o.runs }

-- a message that is answered

abbrev pub sending : over_values.Stage → Held → Value → SymId → List Value → Planned over_values.Stage
sending s h x name args = record { plan = sends s x name args None false; held = h }

pub record Sent (s : over_values.Stage) (h : Held) (x : Value) (name : SymId) (args : List Value) (ts : List Turn) (r : Value)
    (after : Held) : Type 0 where
  pub turn : Turn
  pub further : List Turn
  pub same : ts ≡ turn ∷ further
  pub wanted : turn.wanted.held ≡ h
  pub message : send_of turn.wanted.plan ≡ Some (x, name, args)
  pub next : Planned over_values.Stage
  pub goes : comparing.GoesOn turn.held s turn.answer next
  pub runs : Runs (lifted next) further (gives after r)

sent_by : (s : over_values.Stage) (h : Held) (x : Value) (name : SymId) (args : List Value) (t : Turn) (ts : List Turn)
    (r : Value) (after : Held) → t.wanted ≡ lifted (sending s h x name args)
    → Leads t (λ next. Runs next ts (gives after r)) → Sent s h x name args (t ∷ ts) r after
sent_by s h x name args t ts r after same leads =
    let at = waits_for t (lifted (sending s h x name args)) (items (over_items.compares s)) leads.stage same refl
    leads.waits in
    let outer = unmoved items (over_rows.GoesOn t.held (over_items.compares s) t.answer) leads.next
    (subst (λ (z : Stage). FollowsOf t.held z t.answer leads.next) at leads.follows) in
    let inner = unmoved over_items.compares (comparing.GoesOn t.held s t.answer) outer.inner outer.meant in
    record {
      turn = t;
      further = ts;
      same = refl;
      wanted = ap (λ (p : Planned Stage). p.held) same;
      message = ap (λ (p : Planned Stage). send_of p.plan) same;
      next = inner.inner;
      goes = inner.meant;
      runs = subst (λ (p : Planned Stage). Runs p ts (gives after r))
          (outer.same ∙ ap (λ (p : Planned over_items.Stage). as_moved items p) inner.same) leads.further;
    }

pub sent : (s : over_values.Stage) (h : Held) (x : Value) (name : SymId) (args : List Value) (ts : List Turn) (r : Value)
    (after : Held) → Runs (lifted (sending s h x name args)) ts (gives after r) → Sent s h x name args ts r after
sent s h x name args [] r after runs = absurd (not_given (lifted (sending s h x name args)) after r refl runs)
sent s h x name args (t ∷ ts) r after runs = sent_by s h x name args t ts r after runs.0 runs.1
