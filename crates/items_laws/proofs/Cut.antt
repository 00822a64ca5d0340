-- Runs that are left while their block is called.
use Rattle.std.proofs.Common.{◌≡◌, refl, sym, ap, subst, ◌∙◌, List, [], ◌∷◌, ◌++◌}
use Rattle.std.specs.Prelude.{ℕ, map, Bool, true, false, Option, Some, None, Ok}
use Rattle.rb_value.specs.declared.value.Value.{Value}
use Rattle.rb_value.specs.declared.value.ObjId.{ObjId}
use Rattle.rb_value.specs.declared.value.SymId.{SymId}
use Rattle.heap.specs.declared.finding.Site.{Site}
use Rattle.rb_store.specs.Held.{Held}
use Rattle.core_calls.specs.Passing.{args_of}
use Rattle.def_plans.specs.Plan.{Planned}
use Rattle.iter_items.specs.declared.row.Task.{Task}
use Rattle.iter_items.specs.declared.source.Source.{Source}
use Rattle.iter_items.specs.declared.source.Source.TheVariants.{Elements}
use Rattle.iter_items.specs.declared.visit.Visit.{Visit}
use Rattle.iter_items.specs.declared.wish.Wish.{Wish}
use Rattle.iter_items.specs.declared.wish.Wish.TheVariants as wish
use Rattle.iter_items.specs.Sources as sources
use Rattle.iter_items.specs.Sources.{place_for}
use Rattle.iter_items.specs.Asking.{Wished, wishes, with_item, with_source, is_backwards}
use Rattle.iter_items.specs.Checks.{given, arguments}
use Rattle.iter_items.specs.Hearing.{Heard}
use Rattle.iter_items.specs.Driving.{WantsOf, HearsOf, Comes, Begins, begins, GoesOn, makes_hash}
use Rattle.iter_items.specs.Moved.{as_moved}
use Rattle.iter_items.specs.Stage as over_items
use Rattle.core_iter.specs.Stage.{Stage, items}
use Rattle.items_laws.specs.Run.{Turn, Leads, Runs, waiting}
use Rattle.items_laws.specs.Items.{call_of, calls_of, with_arguments, with_arguments_by}
use Rattle.items_laws.specs.Cut.{IsLeft, IsLeftBy, left_itself, left_by_each, Cut, IsCut}
use Rattle.items_laws.proofs.Begun.{Opened, opened, gathered, BeginsFor}
use Rattle.items_laws.proofs.Course.{Settled, at_item, called_with, no_turn, waits_for, heard_of}
use Rattle.items_laws.proofs.Inversion.{begun, gone, Calling, arrives, comes_of}
use Rattle.items_laws.proofs.Methods.{Shape, Method, fit, first_of_all, pass_of}
use Rattle.items_laws.proofs.Small.{none_some, not_cons, tail_same}
use Rattle.items_laws.proofs.Visits.{settled_by}

-- how such a run begins
pub record LeavingBy (t : Task) (held : Held) (recv : Value) (s : Source) (value : Option Value) (name : Option SymId)
    (size : ℕ) (block : Option ObjId) (ts : List Turn) (last : Planned Stage) : Type 0 where
  pub start : Opened t held recv s value name size block ts last
  pub stage : Stage
  pub waits : waiting last.plan ≡ Some stage

pub leaving_by : (t : Task) (held : Held) (recv : Value) (s : Source) (args : List Value) (value : Option Value)
    (name : Option SymId) (size : ℕ) (block : Option ObjId) (ts : List Turn) (last : Planned Stage)
    → (given t held args block).arguments ≡ Ok (arguments value name size) → IsLeftBy t held recv s args block ts last
    → LeavingBy t (with_arguments_by t held args block) recv s value name size block ts last
leaving_by t held recv s args value name size block ts last read (left_itself first stage starts_so over runs waits) = record {
  start = opened t held recv s args value name size block ts first last read over starts_so runs;
  stage = stage;
  waits = waits;
}
leaving_by t held recv s args value name size block ts last read (left_by_each before first stage each collected a starts_so by_each same array there runs waits) =
    record {
      start = subst (λ (x : Source). Opened t (with_arguments_by t held args block) recv x value name size block ts last)
          (sym there) (subst (λ (h : Held). Opened t (with_arguments_by t h args block) recv
          (Elements a (place_for (is_backwards t))) value name size block ts last) (sym same)
          (gathered t recv args block each collected a value name size ts first last runs by_each array
          (subst (λ (h : Held). (given t h args block).arguments ≡ Ok (arguments value name size)) same read)));
      stage = stage;
      waits = waits;
    }

-- with a block

abbrev pub Leaving : Task → Held → Value → Source → Option Value → Option SymId → ℕ → ObjId → List Turn → Planned Stage
    → Type 0
Leaving t held recv s value name size b ts last = LeavingBy t held recv s value name size (Some b) ts last

pub leaving : (t : Task) (held : Held) (recv : Value) (s : Source) (args : List Value) (value : Option Value)
    (name : Option SymId) (size : ℕ) (b : ObjId) (ts : List Turn) (last : Planned Stage)
    → (given t held args (Some b)).arguments ≡ Ok (arguments value name size) → IsLeft t held recv s args b ts last
    → Leaving t (with_arguments t held args b) recv s value name size b ts last
leaving t held recv s args value name size b ts last read is =
    leaving_by t held recv s args value name size (Some b) ts last read is

-- the values of a call that is the last
abbrev pub Single : Shape → Type 0
Single g = (v : Visit) (p : sources.Passed Source) (x : Value)
    → g.calls_with v [] (x ∷ []) ≡ args_of (g.with_values (fit g (record (with_source v p) { item = x }))) ∷ []

abbrev lifted : Planned over_items.Stage → Planned Stage
lifted p = as_moved items p

abbrev CutOf : Shape → List Turn → Held → Visit → Source → Planned Stage → Type 0
CutOf g ns held v s last = Cut (pass_of g.task) held s g.block (g.calls_with v ns) ns last

-- A plan that ends leads to none that waits.

pub dead : (q last : Planned Stage) (ts : List Turn) (stage : Stage) → waiting q.plan ≡ None
    → waiting last.plan ≡ Some stage → Runs q ts last → ⊥
dead q last [] stage none waits runs =
    none_some stage (sym none ∙ ap (λ (p : Planned Stage). waiting p.plan) runs ∙ waits)
dead q last (t ∷ ts) stage none waits runs = no_turn t q (λ next. Runs next ts last) none runs.0 runs.1

pub stands : (k : Held) (u : Visit) (w : Wish) (p : Planned over_items.Stage) → Settled w → Comes k u w p
    → waiting (lifted p).plan ≡ None
stands k u (wish.Ends x) p settled comes =
    ap (λ (q : Planned over_items.Stage). waiting (lifted q).plan) (arrives k u (wish.Ends x) p comes)
stands k u (wish.Fails c) p settled comes =
    ap (λ (q : Planned over_items.Stage). waiting (lifted q).plan) (arrives k u (wish.Fails c) p comes)
stands k u (wish.Raises e) p settled comes = absurd settled
stands k u (wish.Calls b) p settled comes = absurd settled
stands k u (wish.Asks recv argument) p settled comes = absurd settled

-- the call that isn't answered
cut_last : (g : Shape) → Single g → (held : Held) (v : Visit) (x : Value) (site : Site) (last : Planned Stage)
    → (pass_of g.task held v.source).item ≡ Some x
    → called_with g.block g.with_values (fit g v) (pass_of g.task held v.source) x site ≡ last
    → CutOf g [] held v v.source last
cut_last g single held v x site last there same = record {
  items = [];
  item = x;
  handed = tt;
  there = there;
  called = ap (λ (q : Planned Stage). call_of q.plan ∷ []) (sym same)
      ∙ ap (λ (xs : List (List Value)). map (λ args. Some (g.block, args)) xs)
      (sym (single v (pass_of g.task held v.source) x));
  left = ap (λ (q : Planned Stage). q.held) (sym same);
}

-- one that is answered, before the others
cut_on : (g : Shape) (m : Method g) (held : Held) (v : Visit) (n : Turn) (ns : List Turn) (x : Value) (site : Site)
    (last : Planned Stage) → (pass_of g.task held v.source).item ≡ Some x
    → n.wanted ≡ called_with g.block g.with_values (fit g v) (pass_of g.task held v.source) x site
    → CutOf g ns n.held (g.step n.held (at_item v (pass_of g.task held v.source) x site) n.answer)
    (pass_of g.task held v.source).source last
    → CutOf g (n ∷ ns) held v v.source last
cut_on g m held v n ns x site last there same rest =
    let p = pass_of g.task held v.source in
    let args = args_of (g.with_values (fit g (record (with_source v p) { item = x }))) in
    record {
      items = x ∷ rest.items;
      item = rest.item;
      handed = (there, ap (λ (q : Planned Stage). q.held) same, rest.handed);
      there = rest.there;
      called = ap (λ (q : Planned Stage). call_of q.plan ∷ (calls_of ns ++ call_of last.plan ∷ [])) same
          ∙ ap (λ (cs : List (Option (ObjId × List Value))). Some (g.block, args) ∷ cs) rest.called
          ∙ ap (λ (xs : List (List Value)). map (λ args. Some (g.block, args)) xs)
          (sym (m.more_args v p site n ns x (rest.items ++ rest.item ∷ [])));
      left = rest.left;
    }

abbrev Recursion : Shape → List Turn → Planned Stage → Type 0
Recursion g ns last = (held : Held) (v : Visit) (p : Planned over_items.Stage) → Begins held (fit g v) p
    → Runs (lifted p) ns last → CutOf g ns held v v.source last

abbrev Behind : Shape → List Turn → Planned Stage → Type 0
Behind g ts last = (t : Turn) (us : List Turn) → ts ≡ t ∷ us → Recursion g us last

-- what an answer comes to: where it stops the method nothing waits any more
cut_heard : (g : Shape) (m : Method g) (n : Turn) (ns : List Turn) (last : Planned Stage) (stage : Stage)
    → waiting last.plan ≡ Some stage → Recursion g ns last → (u : Visit) (p : Planned over_items.Stage) (c : Bool)
    → g.stops n.answer ≡ c → GoesOn n.held (fit g u) n.answer p → Runs (lifted p) ns last
    → CutOf g ns n.held (g.step n.held u n.answer) u.source last
cut_heard g m n ns last stage waits rest u p true e on runs =
    let k = gone n.held (fit g u) n.answer p on in
    let h = m.halts n.held u n.answer e in
    let made = g.stopped n.held u in
    let hears = subst (λ (y : Heard). HearsOf y k.wish k.visit k.later) h.same k.hears in
    absurd (dead (lifted p) last ns stage (stands k.later k.visit k.wish p
    (settled_by made.held k.later h.visit k.visit made.value k.wish hears) k.comes) waits runs)
cut_heard g m n ns last stage waits rest u p false e on runs =
    let k = gone n.held (fit g u) n.answer p on in
    let w = g.step n.held u n.answer in
    let hears = subst (λ (y : Heard). HearsOf y k.wish k.visit k.later) (m.goes n.held u n.answer e) k.hears in
    subst (λ (s : Source). CutOf g ns n.held w s last) (m.same_source n.held u n.answer)
    (rest n.held w p (begins n.held k.later (fit g w) k.visit k.wish p hears k.comes) runs)

cut_turn : (g : Shape) (m : Method g) (n : Turn) (ns : List Turn) (last : Planned Stage) (stage : Stage)
    → waiting last.plan ≡ Some stage → Recursion g ns last → (held : Held) (v : Visit) (x : Value) (site : Site)
    → (pass_of g.task held v.source).item ≡ Some x
    → n.wanted ≡ called_with g.block g.with_values (fit g v) (pass_of g.task held v.source) x site
    → Leads n (λ next. Runs next ns last) → CutOf g (n ∷ ns) held v v.source last
cut_turn g m n ns last stage waits rest held v x site there same leads =
    let p = pass_of g.task held v.source in
    let u = at_item v p x site in
    let at = waits_for n (called_with g.block g.with_values (fit g v) p x site) (items (over_items.visits (fit g u)))
    leads.stage same refl leads.waits in
    let next = heard_of n.held (fit g u) n.answer leads.next leads.stage refl at leads.follows in
    cut_on g m held v n ns x site last there same (cut_heard g m n ns last stage waits rest u next.inner
    (g.stops n.answer) refl next.meant (subst (λ (q : Planned Stage). Runs q ns last) next.same leads.further))

by_call : (g : Shape) (m : Method g) → Single g → (ts : List Turn) (last : Planned Stage) (stage : Stage)
    → waiting last.plan ≡ Some stage → Behind g ts last → (held : Held) (v : Visit) (x : Value)
    (p : Planned over_items.Stage) → (pass_of g.task held v.source).item ≡ Some x
    → Calling (pass_of g.task held v.source).held (fit g (record (with_source v (pass_of g.task held v.source)) { item = x }))
    (record { callee = g.block; passed = g.with_values (fit g (record (with_source v (pass_of g.task held v.source)) { item = x })) }) p
    → Runs (lifted p) ts last → CutOf g ts held v v.source last
by_call g m single [] last stage waits rest held v x p there c runs =
    cut_last g single held v x c.site last there (sym (ap lifted c.same) ∙ runs)
by_call g m single (n ∷ ns) last stage waits rest held v x p there c runs =
    cut_turn g m n ns last stage waits (rest n ns refl) held v x c.site there (runs.0 ∙ ap lifted c.same) runs.1

by_item : (g : Shape) (m : Method g) → Single g → (ts : List Turn) (last : Planned Stage) (stage : Stage)
    → waiting last.plan ≡ Some stage → Behind g ts last → (held : Held) (v : Visit) (o : Option Value) (w : Wish)
    (u : Visit) (later : Held) (p : Planned over_items.Stage) → (pass_of g.task held v.source).item ≡ o
    → WantsOf (with_item (pass_of g.task held v.source).held (with_source (fit g v) (pass_of g.task held v.source)) o) w u
    later → Comes later u w p → Runs (lifted p) ts last → CutOf g ts held v v.source last
by_item g m single ts last stage waits rest held v None w u later p there wants comes runs =
    let q = pass_of g.task held v.source in
    absurd (dead (lifted p) last ts stage
    (stands later u w p (m.ends q.held (with_source v q) w u later wants) comes) waits runs)
by_item g m single ts last stage waits rest held v (Some x) w u later p there wants comes runs =
    let q = pass_of g.task held v.source in
    let at = record (with_source v q) { item = x } in
    let call : Wish = wish.Calls (record { callee = g.block; passed = g.with_values (fit g at) }) in
    by_call g m single ts last stage waits rest held v x p there (arrives q.held (fit g at) call p
    (comes_of (wishes q.held (fit g at) call) later u w p
    (subst (λ (a : Wished). WantsOf a w u later) (m.calls q.held at) wants) comes)) runs

cut_step : (g : Shape) (m : Method g) → Single g → (ts : List Turn) (last : Planned Stage) (stage : Stage)
    → waiting last.plan ≡ Some stage → Behind g ts last → Recursion g ts last
cut_step g m single ts last stage waits rest = λ held v p comes runs.
    let k = begun held (fit g v) p comes in
    by_item g m single ts last stage waits rest held v (pass_of g.task held v.source).item k.wish k.visit k.later p refl
    (subst (λ (a : Wished). WantsOf a k.wish k.visit k.later) (m.asks held v) k.wants) k.comes runs

pub cut_course : (g : Shape) (m : Method g) → Single g → (ts : List Turn) (last : Planned Stage) (stage : Stage)
    → waiting last.plan ≡ Some stage → Recursion g ts last
cut_course g m single [] last stage waits =
    cut_step g m single [] last stage waits (λ t us e. absurd (not_cons t us (sym e)))
cut_course g m single (t ∷ ts) last stage waits = cut_step g m single (t ∷ ts) last stage waits
    (λ u us e. subst (λ (xs : List Turn). Recursion g xs last) (tail_same t u ts us e)
    (cut_course g m single ts last stage waits))

pub cut_by : (g : Shape) (m : Method g) → Single g → (held : Held) (recv : Value) (s : Source) (args : List Value)
    (value : Option Value) (name : Option SymId) (size : ℕ) (ts : List Turn) (last : Planned Stage)
    → first_of_all g recv s value name size ≡ fit g (first_of_all g recv s value name size)
    → (given g.task held args (Some g.block)).arguments ≡ Ok (arguments value name size)
    → makes_hash g.task s ≡ false → IsLeft g.task held recv s args g.block ts last
    → IsCut (pass_of g.task) (with_arguments g.task held args g.block) s g.block
    (g.calls_with (first_of_all g recv s value name size) ts) ts last
cut_by g m single held recv s args value name size ts last fitting read no_hash is =
    let v = first_of_all g recv s value name size in
    let l = leaving g.task held recv s args value name size g.block ts last read is in
    let o = l.start in
    let begins_so = subst (λ (c : Bool). BeginsFor c o.begun g.task recv s value name size g.block o.first) no_hash o.begins in
    record {
      begun = o.begun;
      same = o.same;
      cut = cut_course g m single ts last l.stage l.waits o.begun v o.first
          (subst (λ (u : Visit). Begins o.begun u o.first) fitting begins_so) o.runs;
    }
