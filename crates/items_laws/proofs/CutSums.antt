-- `sum` that is left while its block is called, or while a sum is asked for.
use Rattle.std.proofs.Common.{◌≡◌, refl, sym, ap, subst, ◌∙◌, List, [], ◌∷◌, ◌++◌}
use Rattle.std.specs.Prelude.{pos, Option, Some, None}
use Rattle.rb_value.specs.declared.value.Value.{Value}
use Rattle.rb_value.specs.declared.value.Value.TheVariants.{Int}
use Rattle.rb_value.specs.declared.value.ObjId.{ObjId}
use Rattle.rb_value.specs.declared.value.SymId.{SymId}
use Rattle.heap.specs.declared.finding.Site.{Site}
use Rattle.rb_store.specs.Held.{Held}
use Rattle.core_calls.specs.declared.beat.Passed.TheVariants.{One}
use Rattle.def_plans.specs.Plan.{Planned}
use Rattle.iter_items.specs.declared.row.Task.TheVariants as task
use Rattle.iter_items.specs.declared.source.Source.{Source}
use Rattle.iter_items.specs.declared.visit.Visit.{Visit}
use Rattle.iter_items.specs.declared.wish.Wish.{Wish}
use Rattle.iter_items.specs.declared.wish.Wish.TheVariants as wish
use Rattle.iter_items.specs.Asking.{Wished, wishes, with_item, with_source}
use Rattle.iter_items.specs.Checks.{arguments}
use Rattle.iter_items.specs.Driving.{WantsOf, Hears, Comes, stops, raises_at_once, goes_on, at_site, planned, Begins, begins, visit_of}
use Rattle.iter_items.specs.Sources.{next}
use Rattle.iter_items.specs.Stage as over_items
use Rattle.core_iter.specs.Stage.{Stage, items}
use Rattle.items_laws.specs.Run.{Turn, Leads, Runs, waiting}
use Rattle.items_laws.specs.Items.{call_of}
use Rattle.items_laws.specs.Cut.{IsLeft, SumsOff, in_the_block, in_the_sum, one_further, CutsSums}
use Rattle.items_laws.specs.Sums.{Told, Added, at_once as told_at_once, when_asked, answered, send_of, plus, with_plus}
use Rattle.items_laws.proofs.Course.{waits_for, heard_of}
use Rattle.items_laws.proofs.Cut.{dead, stands, Leaving, leaving}
use Rattle.items_laws.proofs.Inversion.{begun, gone, Calling, arrives, comes_of}
use Rattle.items_laws.proofs.Small.{not_cons, tail_same}
use Rattle.items_laws.proofs.Summed.{lifted, summing, IsAsked, planned_by, once_by, message, raising, at_next, in_block, called_with}

-- A value is added: what tells the sum is the last thing, or others follow.
data Tells (name : SymId) (b : ObjId) (held : Held) (s : Source) (x y : Value) : List Turn → Planned Stage → Type 0 where
  untold : (last : Planned Stage) → send_of last.plan ≡ Some (x, name, y ∷ []) → last.held ≡ held
      → Tells name b held s x y [] last
  told_so : (left : Held) (sum : Value) (ws us : List Turn) (last : Planned Stage) → Told name held x y ws sum left
      → SumsOff name b left s sum us last → Tells name b held s x y (ws ++ us) last

record Summing (b : ObjId) (name : SymId) (ts : List Turn) (last : Planned Stage) : Type 0 where
  begins_so : (held : Held) (v : Visit) (x : Value) (p : Planned over_items.Stage)
      → Begins held (summing (Some b) name x v) p → Runs (lifted p) ts last → SumsOff name b held v.source x ts last
  asks_so : (h : Held) (u : Visit) (w : Wish) (p : Planned over_items.Stage) → Comes h u w p → Runs (lifted p) ts last
      → (held : Held) (v : Visit) (x y : Value) → IsAsked (Some b) name held v x y h u w
      → Tells name b held v.source x y ts last

abbrev Behind : ObjId → SymId → List Turn → Planned Stage → Type 0
Behind b name ts last = (t : Turn) (us : List Turn) → ts ≡ t ∷ us → Summing b name us last

-- the message

told_by_turn : (b : ObjId) (name : SymId) (t : Turn) (ts : List Turn) (last : Planned Stage) → Summing b name ts last
    → (held : Held) (v : Visit) (x y : Value) (site : Site) → t.wanted ≡ message (Some b) name held v x y site
    → Leads t (λ next. Runs next ts last) → Tells name b held v.source x y (t ∷ ts) last
told_by_turn b name t ts last rest held v x y site same leads =
    let u = at_site (summing (Some b) name x v) site in
    let stage = waits_for t (message (Some b) name held v x y site) (items (over_items.visits u)) leads.stage same refl
    leads.waits in
    let next = heard_of t.held u t.answer leads.next leads.stage refl stage leads.follows in
    let g = gone t.held u t.answer next.inner next.meant in
    let later = at_site v site in
    told_so t.held t.answer (t ∷ []) ts last
    (when_asked t (ap (λ (q : Planned Stage). q.held) same) (ap (λ (q : Planned Stage). send_of q.plan) same))
    (rest.begins_so t.held later t.answer next.inner
    (begins t.held g.later (summing (Some b) name t.answer later) g.visit g.wish next.inner g.hears g.comes)
    (subst (λ (q : Planned Stage). Runs q ts last) next.same leads.further))

by_message : (b : ObjId) (name : SymId) (ts : List Turn) (last : Planned Stage) → Behind b name ts last → (held : Held)
    (v : Visit) (x y : Value) (site : Site) (p : Planned Stage) → p ≡ message (Some b) name held v x y site
    → Runs p ts last → Tells name b held v.source x y ts last
by_message b name [] last rest held v x y site p same runs =
    let is = sym runs ∙ same in
    untold last (ap (λ (q : Planned Stage). send_of q.plan) is) (ap (λ (q : Planned Stage). q.held) is)
by_message b name (t ∷ ts) last rest held v x y site p same runs =
    told_by_turn b name t ts last (rest t ts refl) held v x y site (runs.0 ∙ same) runs.1

-- the block

abbrev SumsTo : ObjId → SymId → List Turn → Planned Stage → Held → Visit → Value → Type 0
SumsTo b name ts last held v x = SumsOff name b held v.source x ts last

-- with an item before the others, which the block answered
added_on : (b : ObjId) (name : SymId) (t : Turn) (ts : List Turn) (last : Planned Stage) (held : Held) (s : Source)
    (x i : Value) → (next held s).item ≡ Some i → Added (next held s).held i (Some b) (t ∷ []) t.answer t.held
    → Tells name b t.held (next held s).source x t.answer ts last → SumsOff name b held s x (t ∷ ts) last
added_on b name t ts last held s x i there added (untold q message left) =
    in_the_sum held t.held s x i t.answer (t ∷ []) q there added message left
added_on b name t ts last held s x i there added (told_so left sum ws us q told sums) =
    one_further held t.held left s x i t.answer sum (t ∷ []) ws us q there added told sums

answer_added : (c : ObjId) (name : SymId) (t : Turn) (ts : List Turn) (last : Planned Stage) → Summing c name ts last
    → (held : Held) (v : Visit) (x i : Value) (site : Site) → (next held v.source).item ≡ Some i
    → t.wanted ≡ called_with c name held v x i site → Leads t (λ next. Runs next ts last)
    → SumsTo c name (t ∷ ts) last held v x
answer_added c name t ts last rest held v x i site there same leads =
    let u = at_site (in_block c name held v x i) site in
    let stage = waits_for t (called_with c name held v x i site) (items (over_items.visits u)) leads.stage same refl
    leads.waits in
    let next = heard_of t.held u t.answer leads.next leads.stage refl stage leads.follows in
    let g = gone t.held u t.answer next.inner next.meant in
    let tell = rest.asks_so g.later g.visit g.wish next.inner g.comes
    (subst (λ (q : Planned Stage). Runs q ts last) next.same leads.further)
    t.held (at_site (at_next held v i) site) x t.answer g.hears in
    added_on c name t ts last held v.source x i there
    (answered c t (ap (λ (q : Planned Stage). q.held) same) (ap (λ (q : Planned Stage). call_of q.plan) same)) tell

by_block : (c : ObjId) (name : SymId) (ts : List Turn) (last : Planned Stage) → Behind c name ts last → (held : Held)
    (v : Visit) (x i : Value) (p : Planned over_items.Stage) → (next held v.source).item ≡ Some i
    → Calling (next held v.source).held (in_block c name held v x i) (record { callee = c; passed = One i }) p
    → Runs (lifted p) ts last → SumsTo c name ts last held v x
by_block c name [] last rest held v x i p there k runs =
    let same = sym (ap lifted k.same) ∙ runs in
    in_the_block held v.source x i last there (ap (λ (q : Planned Stage). call_of q.plan) (sym same))
    (ap (λ (q : Planned Stage). q.held) (sym same))
by_block c name (t ∷ ts) last rest held v x i p there k runs = answer_added c name t ts last (rest t ts refl) held v x i
    k.site there (runs.0 ∙ ap lifted k.same) runs.1

by_item : (c : ObjId) (name : SymId) (ts : List Turn) (last : Planned Stage) (stage : Stage)
    → waiting last.plan ≡ Some stage → Behind c name ts last → (held : Held) (v : Visit) (x : Value) (o : Option Value)
    (w : Wish) (u : Visit) (later : Held) (p : Planned over_items.Stage) → (next held v.source).item ≡ o
    → WantsOf (with_item (next held v.source).held (with_source (summing (Some c) name x v) (next held v.source)) o) w u
    later → Comes later u w p → Runs (lifted p) ts last → SumsTo c name ts last held v x
by_item c name ts last stage waits rest held v x None w u later p there wants comes runs =
    let k = (next held v.source).held in
    let m = with_source (summing (Some c) name x v) (next held v.source) in
    absurd (dead (lifted p) last ts stage (stands k m (wish.Ends x) p tt
    (comes_of (wishes k m (wish.Ends x)) later u w p wants comes)) waits runs)
by_item c name ts last stage waits rest held v x (Some i) w u later p there wants comes runs =
    let k = (next held v.source).held in
    let m = in_block c name held v x i in
    let call : Wish = wish.Calls (record { callee = c; passed = One i }) in
    by_block c name ts last rest held v x i p there
    (arrives k m call p (comes_of (wishes k m call) later u w p wants comes)) runs

-- The wish for a sum.

by_wish : (c : ObjId) (name : SymId) (ts : List Turn) (last : Planned Stage) (stage : Stage)
    → waiting last.plan ≡ Some stage → Behind c name ts last → (h : Held) (u : Visit) (w : Wish)
    (p : Planned over_items.Stage) → Comes h u w p → Runs (lifted p) ts last → (held : Held) (v : Visit) (x y : Value)
    → IsAsked (Some c) name held v x y h u w → Tells name c held v.source x y ts last
by_wish c name ts last stage waits rest h u w p (stops k m site z) runs = λ held v x y is.
    by_message c name ts last rest held v x y site (lifted (planned k (at_site m site) z))
    (ap lifted (sym (ap (λ (a : Wished). planned_by site a.held a.visit a.wish) is))) runs
by_wish c name ts last stage waits rest h u w p (raises_at_once k left m recv argument e once) runs = λ held v x y is.
    absurd (dead (raising left e) last ts stage refl waits runs)
by_wish c name ts last stage waits rest h u w p (goes_on k left later m n site recv argument answer z q once hears comes) runs =
    λ held v x y is.
    let heard = subst (λ (o : Visit). Hears left (at_site o site) answer z n later)
    (sym (ap (λ (a : Wished). a.visit) is)) hears in
    let on = at_site v site in
    told_so left answer [] ts last (told_at_once left answer (ap (λ (a : Wished). once_by a.held a.visit a.wish) is ∙ once))
    (by_item c name ts last stage waits rest left on answer (next left v.source).item z n later q refl heard comes runs)

summing_step : (c : ObjId) (name : SymId) (ts : List Turn) (last : Planned Stage) (stage : Stage)
    → waiting last.plan ≡ Some stage → Behind c name ts last → Summing c name ts last
summing_step c name ts last stage waits rest = record {
  begins_so = λ held v x p begin runs.
      let g = begun held (summing (Some c) name x v) p begin in
      by_item c name ts last stage waits rest held v x (next held v.source).item g.wish g.visit g.later p refl g.wants
      g.comes runs;
  asks_so = λ h u w p comes runs. by_wish c name ts last stage waits rest h u w p comes runs;
}

all_summed : (c : ObjId) (name : SymId) (ts : List Turn) (last : Planned Stage) (stage : Stage)
    → waiting last.plan ≡ Some stage → Summing c name ts last
all_summed c name [] last stage waits =
    summing_step c name [] last stage waits (λ t us e. absurd (not_cons t us (sym e)))
all_summed c name (t ∷ ts) last stage waits = summing_step c name (t ∷ ts) last stage waits
    (λ u us e. subst (λ (xs : List Turn). Summing c name xs last) (tail_same t u ts us e)
    (all_summed c name ts last stage waits))

-- From the beginning.

of_leaving : (b : ObjId) (held : Held) (recv : Value) (s : Source) (x : Value) (ts : List Turn) (last : Planned Stage)
    → Leaving task.Sum (with_plus held) recv s (Some x) (Some (plus held)) 0 b ts last → CutsSums held s b x ts last
of_leaving b held recv s x ts last l = record {
  begun = l.start.begun;
  same = l.start.same;
  sums = (all_summed b (plus held) ts last l.stage l.waits).begins_so l.start.begun
      (visit_of task.Sum recv s None (arguments (Some x) (Some (plus held)) 0) (Some b)) x l.start.first l.start.begins
      l.start.runs;
}

pub sums_cut : (held : Held) (recv : Value) (s : Source) (b : ObjId) (ts : List Turn) (last : Planned Stage)
    → IsLeft task.Sum held recv s [] b ts last → CutsSums held s b (Int (pos 0)) ts last
sums_cut held recv s b ts last is = of_leaving b held recv s (Int (pos 0)) ts last
    (leaving task.Sum held recv s [] (Some (Int (pos 0))) (Some (plus held)) 0 b ts last refl is)

pub sums_cut_from : (held : Held) (recv first : Value) (s : Source) (b : ObjId) (ts : List Turn) (last : Planned Stage)
    → IsLeft task.Sum held recv s (first ∷ []) b ts last → CutsSums held s b first ts last
sums_cut_from held recv first s b ts last is = of_leaving b held recv s first ts last
    (leaving task.Sum held recv s (first ∷ []) (Some first) (Some (plus held)) 0 b ts last refl is)
