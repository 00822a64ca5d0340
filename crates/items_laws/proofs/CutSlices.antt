-- `each_slice` that is left while its block is called.
use Rattle.std.proofs.Common.{◌≡◌, ℕ, refl, sym, ap, subst, ◌∙◌, List, [], ◌∷◌}
use Rattle.std.specs.Prelude.{Some, None, Result, Ok}
use Rattle.rb_value.specs.declared.value.Value.{Value}
use Rattle.rb_value.specs.declared.value.ObjId.{ObjId}
use Rattle.def_core.specs.declared.cause.Cause.{Cause}
use Rattle.heap.specs.declared.finding.Site.{Site}
use Rattle.heap.specs.Made.{array_given, with_array}
use Rattle.rb_store.specs.Held.{Held}
use Rattle.core_calls.specs.declared.beat.Passed.TheVariants.{One}
use Rattle.def_plans.specs.Plan.{Planned}
use Rattle.iter_items.specs.declared.row.Task.TheVariants as task
use Rattle.iter_items.specs.declared.source.Source.{Source}
use Rattle.iter_items.specs.declared.visit.Visit.{Visit}
use Rattle.iter_items.specs.declared.wish.Wish.{Wish}
use Rattle.iter_items.specs.declared.wish.Wish.TheVariants as wish
use Rattle.iter_items.specs.Asking.{taken, slice_by, wishes}
use Rattle.iter_items.specs.Checks.{arguments, size_of, with_size}
use Rattle.iter_items.specs.Driving.{WantsOf, Comes, at_site, Begins, begins, visit_of}
use Rattle.iter_items.specs.Sources as sources
use Rattle.iter_items.specs.Stage as over_items
use Rattle.core_iter.specs.Stage.{Stage, items}
use Rattle.items_laws.specs.Run.{Turn, Leads, Runs, waiting}
use Rattle.items_laws.specs.Items.{call_of}
use Rattle.items_laws.specs.Lists.{alone}
use Rattle.items_laws.specs.Cut.{IsLeft, Cut, IsCut}
use Rattle.items_laws.specs.Slices.{as_slice, slices}
use Rattle.items_laws.proofs.Course.{waits_for, heard_of}
use Rattle.items_laws.proofs.Cut.{dead, stands, leaving}
use Rattle.items_laws.proofs.CutWalks.{cut_none, cut_more}
use Rattle.items_laws.proofs.Inversion.{begun, gone, Calling, arrives, comes_of}
use Rattle.items_laws.proofs.Sliced.{sized, lifted, behind, called_with}
use Rattle.items_laws.proofs.Small.{not_cons, tail_same}

abbrev CutOf : ObjId → ℕ → List Turn → Held → Visit → Planned Stage → Type 0
CutOf b n ts held v last = Cut (slices n) held v.source b alone ts last

abbrev Recursion : ObjId → ℕ → List Turn → Planned Stage → Type 0
Recursion b n ts last = (held : Held) (v : Visit) (p : Planned over_items.Stage) → Begins held (sized b n v) p
    → Runs (lifted p) ts last → CutOf b n ts held v last

-- the call that isn't answered
slice_last : (b : ObjId) (n : ℕ) (last : Planned Stage) (held : Held) (v : Visit) (x : Value) (xs : List Value) (site : Site)
    → (taken n held v.source).items ≡ x ∷ xs → called_with b n v (taken n held v.source) x xs site ≡ last
    → CutOf b n [] held v last
slice_last b n last held v x xs site some same =
    let t = taken n held v.source in
    let is = ap (λ (ys : List Value). as_slice ys t) some in
    cut_none (slices n) held v.source b (array_given t.held.store (x ∷ xs)) last
    (ap (λ (p : sources.Passed Source). p.item) is) (ap (λ (q : Planned Stage). call_of q.plan) (sym same))
    (ap (λ (q : Planned Stage). q.held) (sym same) ∙ sym (ap (λ (p : sources.Passed Source). p.held) is))

-- one that is answered
slice_on : (b : ObjId) (n : ℕ) (c : Turn) (ts : List Turn) (last : Planned Stage) (held : Held) (v : Visit) (x : Value)
    (xs : List Value) (site : Site) → Recursion b n ts last → (taken n held v.source).items ≡ x ∷ xs
    → c.wanted ≡ called_with b n v (taken n held v.source) x xs site → Leads c (λ next. Runs next ts last)
    → CutOf b n (c ∷ ts) held v last
slice_on b n c ts last held v x xs site rest some same leads =
    let t = taken n held v.source in
    let m = at_site (behind b n v t) site in
    let is = ap (λ (ys : List Value). as_slice ys t) some in
    let at = waits_for c (called_with b n v t x xs site) (items (over_items.visits m)) leads.stage same refl leads.waits in
    let next = heard_of c.held m c.answer leads.next leads.stage refl at leads.follows in
    let g = gone c.held m c.answer next.inner next.meant in
    let more = rest c.held (at_site (record v { source = t.source }) site) next.inner
    (begins c.held g.later m g.visit g.wish next.inner g.hears g.comes)
    (subst (λ (q : Planned Stage). Runs q ts last) next.same leads.further) in
    cut_more (slices n) held v.source b c ts (array_given t.held.store (x ∷ xs)) last
    (ap (λ (p : sources.Passed Source). p.item) is) (ap (λ (q : Planned Stage). call_of q.plan) same)
    (ap (λ (q : Planned Stage). q.held) same ∙ sym (ap (λ (p : sources.Passed Source). p.held) is))
    (subst (λ (p : sources.Passed Source). Cut (slices n) c.held p.source b alone ts last) (sym is) more)

some_taken : (b : ObjId) (n : ℕ) (ts : List Turn) (last : Planned Stage)
    → ((c : Turn) (us : List Turn) → ts ≡ c ∷ us → Recursion b n us last) → (held : Held) (v : Visit)
    (x : Value) (xs : List Value) (p : Planned over_items.Stage) → (taken n held v.source).items ≡ x ∷ xs
    → Calling (with_array (taken n held v.source).held (x ∷ xs)) (behind b n v (taken n held v.source))
    (record { callee = b; passed = One (array_given (taken n held v.source).held.store (x ∷ xs)) }) p
    → Runs (lifted p) ts last → CutOf b n ts held v last
some_taken b n [] last rest held v x xs p some k runs =
    slice_last b n last held v x xs k.site some (sym (ap lifted k.same) ∙ runs)
some_taken b n (c ∷ ts) last rest held v x xs p some k runs =
    slice_on b n c ts last held v x xs k.site (rest c ts refl) some (runs.0 ∙ ap lifted k.same) runs.1

by_taken : (b : ObjId) (n : ℕ) (ts : List Turn) (last : Planned Stage) (stage : Stage) → waiting last.plan ≡ Some stage
    → ((c : Turn) (us : List Turn) → ts ≡ c ∷ us → Recursion b n us last) → (held : Held) (v : Visit)
    (xs : List Value) (w : Wish) (u : Visit) (later : Held) (p : Planned over_items.Stage)
    → (taken n held v.source).items ≡ xs
    → WantsOf (slice_by (behind b n v (taken n held v.source)) (taken n held v.source).held xs) w u later
    → Comes later u w p → Runs (lifted p) ts last → CutOf b n ts held v last
by_taken b n ts last stage waits rest held v [] w u later p are wants comes runs =
    let t = taken n held v.source in
    let m = behind b n v t in
    absurd (dead (lifted p) last ts stage (stands t.held m (wish.Ends v.receiver) p tt
    (comes_of (wishes t.held m (wish.Ends v.receiver)) later u w p wants comes)) waits runs)
by_taken b n ts last stage waits rest held v (x ∷ xs) w u later p are wants comes runs =
    let t = taken n held v.source in
    let m = behind b n v t in
    let k = with_array t.held (x ∷ xs) in
    let call : Wish = wish.Calls (record { callee = b; passed = One (array_given t.held.store (x ∷ xs)) }) in
    some_taken b n ts last rest held v x xs p are
    (arrives k m call p (comes_of (wishes k m call) later u w p wants comes)) runs

slice_step : (b : ObjId) (n : ℕ) (ts : List Turn) (last : Planned Stage) (stage : Stage) → waiting last.plan ≡ Some stage
    → ((c : Turn) (us : List Turn) → ts ≡ c ∷ us → Recursion b n us last) → Recursion b n ts last
slice_step b n ts last stage waits rest = λ held v p comes runs.
    let g = begun held (sized b n v) p comes in
    by_taken b n ts last stage waits rest held v (taken n held v.source).items g.wish g.visit g.later p refl g.wants g.comes
    runs

slice_course : (b : ObjId) (n : ℕ) (ts : List Turn) (last : Planned Stage) (stage : Stage)
    → waiting last.plan ≡ Some stage → Recursion b n ts last
slice_course b n [] last stage waits = slice_step b n [] last stage waits (λ c us e. absurd (not_cons c us (sym e)))
slice_course b n (c ∷ ts) last stage waits = slice_step b n (c ∷ ts) last stage waits
    (λ d us e. subst (λ (xs : List Turn). Recursion b n xs last) (tail_same c d ts us e)
    (slice_course b n ts last stage waits))

pub slices_cut : (held : Held) (recv size : Value) (n : ℕ) (s : Source) (b : ObjId) (ts : List Turn) (last : Planned Stage)
    → size_of held.store size ≡ Ok n → IsLeft task.EachSlice held recv s (size ∷ []) b ts last
    → IsCut (slices n) held s b alone ts last
slices_cut held recv size n s b ts last is_size is =
    let l = leaving task.EachSlice held recv s (size ∷ []) None None n b ts last
    (ap (λ (x : Result ℕ Cause). with_size x) is_size) is in
    record {
      begun = l.start.begun;
      same = l.start.same;
      cut = slice_course b n ts last l.stage l.waits l.start.begun
          (visit_of task.EachSlice recv s None (arguments None None n) (Some b)) l.start.first l.start.begins l.start.runs;
    }
