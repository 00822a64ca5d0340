-- `any?`, `all?`, `none?` and `count` without a block and a value call nothing, and so aren't left.
use Rattle.std.proofs.Common.{◌≡◌, refl, subst, List, []}
use Rattle.std.specs.Prelude.{codes, Option, Some, None}
use Rattle.rb_value.specs.declared.value.Value.{Value}
use Rattle.rb_store.specs.Held.{Held}
use Rattle.def_plans.specs.Plan.{Planned}
use Rattle.iter_items.specs.declared.row.Task.{Task}
use Rattle.iter_items.specs.declared.row.Task.TheVariants as task
use Rattle.iter_items.specs.declared.source.Source.{Source}
use Rattle.iter_items.specs.declared.wish.Wish.{Wish}
use Rattle.iter_items.specs.declared.wish.Wish.TheVariants as wish
use Rattle.iter_items.specs.Asking.{Wished, asked, taken, tally_value, tested, wishes}
use Rattle.iter_items.specs.Checks.{arguments}
use Rattle.iter_items.specs.Driving.{Begins, WantsBy, WantsOf, visit_of}
use Rattle.iter_items.specs.Moved.{as_moved}
use Rattle.iter_items.specs.Sources.{left}
use Rattle.iter_items.specs.Stage as over_items
use Rattle.core_iter.specs.Stage.{Stage, items}
use Rattle.items_laws.specs.Asked.{symbol}
use Rattle.items_laws.specs.Cut.{IsLeftBy}
use Rattle.items_laws.specs.Run.{Turn, Runs, waiting}
use Rattle.items_laws.proofs.Cut.{dead, leaving_by, stands}
use Rattle.items_laws.proofs.Decided.{first_visit, tells_so, told_of}
use Rattle.items_laws.proofs.Inversion.{begun, comes_of}

tested_over : (t : Task) (held : Held) (recv : Value) (s : Source) (ts : List Turn) (last : Planned Stage)
    (stage : Stage) (p : Planned over_items.Stage)
    → ((h : Held) → asked h (first_visit t recv s) ≡ tested h (first_visit t recv s)) → waiting last.plan ≡ Some stage
    → Begins held (first_visit t recv s) p → Runs (as_moved items p) ts last → ⊥
tested_over t held recv s ts last stage p asks waits beginning runs =
    let u = first_visit t recv s in
    let g = begun held u p beginning in
    let x = tested held u in
    let tells = tells_so t (left held.store s) held s u in
    let r = told_of t (taken (left held.store s) held s).items in
    let wants = subst (λ (o : Option Wish). WantsBy x.held x.visit o g.wish g.visit g.later) tells.wish_is
    (subst (λ (y : Wished). WantsOf y g.wish g.visit g.later) (asks held) g.wants) in
    dead (as_moved items p) last ts stage (stands x.held x.visit (wish.Ends r) p tt
    (comes_of (wishes x.held x.visit (wish.Ends r)) g.later g.visit g.wish p wants g.comes)) waits runs

pub any_unawaited : (held : Held) (recv : Value) (s : Source) (ts : List Turn) (last : Planned Stage)
    → IsLeftBy task.Any held recv s [] None ts last → ⊥
any_unawaited held recv s ts last is =
    let l = leaving_by task.Any held recv s [] None None 0 None ts last refl is in
    tested_over task.Any l.start.begun recv s ts last l.stage l.start.first (λ h. refl) l.waits l.start.begins l.start.runs

pub all_unawaited : (held : Held) (recv : Value) (s : Source) (ts : List Turn) (last : Planned Stage)
    → IsLeftBy task.All held recv s [] None ts last → ⊥
all_unawaited held recv s ts last is =
    let l = leaving_by task.All held recv s [] None None 0 None ts last refl is in
    tested_over task.All l.start.begun recv s ts last l.stage l.start.first (λ h. refl) l.waits l.start.begins l.start.runs

pub none_unawaited : (held : Held) (recv : Value) (s : Source) (ts : List Turn) (last : Planned Stage)
    → IsLeftBy task.Never held recv s [] None ts last → ⊥
none_unawaited held recv s ts last is =
    let l = leaving_by task.Never held recv s [] None None 0 None ts last refl is in
    tested_over task.Never l.start.begun recv s ts last l.stage l.start.first (λ h. refl) l.waits l.start.begins
    l.start.runs

pub count_unawaited : (held : Held) (recv : Value) (s : Source) (ts : List Turn) (last : Planned Stage)
    → IsLeftBy task.Count held recv s [] None ts last → ⊥
count_unawaited held recv s ts last is =
    let name = symbol (codes "==") held in
    let l = leaving_by task.Count held recv s [] None (Some name) 0 None ts last refl is in
    let u = visit_of task.Count recv s None (arguments None (Some name) 0) None in
    let m = record u { tally = left l.start.begun.store s } in
    let g = begun l.start.begun u l.start.first l.start.begins in
    dead (as_moved items l.start.first) last ts l.stage (stands l.start.begun m (wish.Ends (tally_value m)) l.start.first tt
    (comes_of (wishes l.start.begun m (wish.Ends (tally_value m))) g.later g.visit g.wish l.start.first g.wants g.comes))
    l.waits l.start.runs
