-- `each_cons`
use Rattle.std.proofs.Common.{◌≡◌, ℕ, suc, ◌<◌, refl, sym, ap, subst, ◌∙◌, List, [], ◌∷◌, ◌++◌, length, take, drop, arith, append_assoc}
use Rattle.std.specs.Prelude.{map, nat_eq, ℤ, pos, negsuc, Bool, true, false, if◌then◌else◌, Option, Some, None, Result, Ok, Err}
use Rattle.std.proofs.lemmas.Bool.{eqb-true, eq-eqb}
use Rattle.rb_value.specs.declared.value.Value.{Value}
use Rattle.rb_value.specs.declared.value.ObjId.{ObjId}
use Rattle.def_core.specs.declared.cause.Cause.{Cause}
use Rattle.def_core.specs.declared.cause.Cause.TheVariants as cause
use Rattle.heap.specs.declared.finding.Site.{Site}
use Rattle.heap.specs.Made.{array_given, with_array}
use Rattle.rb_store.specs.Held.{Held}
use Rattle.core_calls.specs.declared.beat.Passed.TheVariants.{One}
use Rattle.core_calls.specs.Checks.{integer}
use Rattle.def_plans.specs.Plan.{Planned, gives, calls}
use Rattle.iter_items.specs.declared.row.Task.TheVariants as task
use Rattle.iter_items.specs.declared.source.Source.{Source}
use Rattle.iter_items.specs.declared.visit.Visit.{Visit}
use Rattle.iter_items.specs.declared.wish.Wish.{Wish}
use Rattle.iter_items.specs.declared.wish.Wish.TheVariants as wish
use Rattle.iter_items.specs.Asking.{Taken, taken, Window, first_window, slid, slid_by, group_called, nothing, window_called, wishes}
use Rattle.iter_items.specs.Checks.{arguments, and_then, size_in, size_of, with_size}
use Rattle.iter_items.specs.Driving.{WantsOf, Comes, at_site, Begins, begins, visit_of}
use Rattle.iter_items.specs.Moved.{as_moved}
use Rattle.iter_items.specs.Sources.{next}
use Rattle.iter_items.specs.Stage as over_items
use Rattle.core_iter.specs.Stage.{Stage, items}
use Rattle.items_laws.specs.Run.{Turn, Leads, Runs}
use Rattle.items_laws.specs.Items.{IsRunOf, IsValue, call_of, calls_of, last_heap}
use Rattle.items_laws.specs.Neighbours.{neighbours, items_in, heaps_in, arrays_given, arrays_made, heaps_behind, Slides, HandsNeighbours}
use Rattle.items_laws.proofs.Begun.{begun_so}
use Rattle.items_laws.proofs.Course.{ended, waits_for, heard_of}
use Rattle.items_laws.proofs.Inversion.{begun, gone, Calling, arrives, comes_of, not_given}
use Rattle.items_laws.proofs.Ranges.{above_zero, is_zero}
use Rattle.items_laws.proofs.Small.{not_both, not_cons, tail_same}
use Rattle.items_laws.proofs.Visits.{next_held}

-- Lists of neighbours.

first_taken : (xs ys : List Value) → take (length xs) (xs ++ ys) ≡ xs
first_taken [] ys = refl
first_taken (x ∷ xs) ys = ap (λ (zs : List Value). x ∷ zs) (first_taken xs ys)

one_dropped : (xs ys : List Value) → 0 < length xs → drop 1 (xs ++ ys) ≡ drop 1 xs ++ ys
one_dropped [] ys some = absurd (omega (arith, some))
one_dropped (x ∷ xs) ys some = refl

-- the first of them, and the others
pub neighbours_more : (n k : ℕ) (w later : List Value) → 0 < n → length w ≡ n
    → neighbours n (suc k) (w ++ later) ≡ w ∷ neighbours n k (drop 1 w ++ later)
neighbours_more n k w later some long =
    ap (λ (m : ℕ). take m (w ++ later) ∷ neighbours n k (drop 1 (w ++ later))) (sym long)
    ∙ ap (λ (xs : List Value). xs ∷ neighbours n k (drop 1 (w ++ later))) (first_taken w later)
    ∙ ap (λ (xs : List Value). w ∷ neighbours n k xs) (one_dropped w later (subst (λ (m : ℕ). 0 < m) (sym long) some))

-- the others with one more item
pub neighbours_behind : (n k : ℕ) (w later : List Value) (x : Value) → 0 < n → length (slid w x) ≡ n
    → neighbours n (suc k) (drop 1 w ++ x ∷ later) ≡ slid w x ∷ neighbours n k (drop 1 (slid w x) ++ later)
neighbours_behind n k w later x some long =
    ap (λ (xs : List Value). neighbours n (suc k) xs) (sym (append_assoc (drop 1 w) (x ∷ []) later))
    ∙ neighbours_more n k (slid w x) later some long

one_longer : (ys : List Value) (x : Value) → length (ys ++ x ∷ []) ≡ suc (length ys)
one_longer [] x = refl
one_longer (y ∷ ys) x = ap (λ (m : ℕ). suc m) (one_longer ys x)

pub as_long : (n : ℕ) (w : List Value) (x : Value) → 0 < n → length w ≡ n → length (slid w x) ≡ n
as_long n [] x some long = absurd (omega (arith, some, long))
as_long n (y ∷ ys) x some long = one_longer ys x ∙ long

-- A window is handed on.

-- the visit with what its last window is
abbrev pub windowed : ObjId → ℕ → List Value → Visit → Visit
windowed b n w v = record v { task = task.EachCons; block = Some b; size = n; kept = w; wish = None }

abbrev pub lifted : Planned over_items.Stage → Planned Stage
lifted p = as_moved items p

abbrev pub called_with : ObjId → ℕ → List Value → Held → Visit → Site → Planned Stage
called_with b n w k v site = record {
  plan = calls (items (over_items.visits (at_site (windowed b n w v) site))) b (array_given k.store w ∷ []) None;
  held = with_array k w;
}

pub record Opened (b : ObjId) (n : ℕ) (w : List Value) (k : Held) (v : Visit) (ts : List Turn) (last : Planned Stage)
    : Type 0 where
  pub turn : Turn
  pub further : List Turn
  pub same : ts ≡ turn ∷ further
  pub called : call_of turn.wanted.plan ≡ Some (b, array_given k.store w ∷ [])
  pub asked : turn.wanted.held ≡ with_array k w
  pub site : Site
  pub next : Planned over_items.Stage
  pub begins_so : Begins turn.held (windowed b n w (at_site v site)) next
  pub runs : Runs (lifted next) further last

pub opened_by : (b : ObjId) (n : ℕ) (w : List Value) (k : Held) (v : Visit) (t : Turn) (ts : List Turn)
    (last : Planned Stage) (site : Site) → t.wanted ≡ called_with b n w k v site
    → Leads t (λ next. Runs next ts last) → Opened b n w k v (t ∷ ts) last
opened_by b n w k v t ts last site same leads =
    let m = at_site (windowed b n w v) site in
    let stage = waits_for t (called_with b n w k v site) (items (over_items.visits m)) leads.stage same refl leads.waits in
    let next = heard_of t.held m t.answer leads.next leads.stage refl stage leads.follows in
    let g = gone t.held m t.answer next.inner next.meant in
    record {
      turn = t;
      further = ts;
      same = refl;
      called = ap (λ (q : Planned Stage). call_of q.plan) same;
      asked = ap (λ (q : Planned Stage). q.held) same;
      site = site;
      next = next.inner;
      begins_so = begins t.held g.later m g.visit g.wish next.inner g.hears g.comes;
      runs = subst (λ (q : Planned Stage). Runs q ts last) next.same leads.further;
    }

opened : (b : ObjId) (n : ℕ) (w : List Value) (k : Held) (v : Visit) (ts : List Turn) (r : Value) (after : Held)
    (p : Planned over_items.Stage)
    → Calling (with_array k w) (windowed b n w v) (record { callee = b; passed = One (array_given k.store w) }) p
    → Runs (lifted p) ts (gives after r) → Opened b n w k v ts (gives after r)
opened b n w k v [] r after p c runs =
    absurd (not_given (called_with b n w k v c.site) after r refl (ap lifted (sym c.same) ∙ runs))
opened b n w k v (t ∷ ts) r after p c runs =
    opened_by b n w k v t ts (gives after r) c.site (runs.0 ∙ ap lifted c.same) runs.1

-- the call that comes of a window
pub group_calls : (b : ObjId) (n : ℕ) (w : List Value) (k : Held) (v : Visit) (wanted : Wish) (u : Visit) (later : Held)
    (p : Planned over_items.Stage) → WantsOf (group_called k (windowed b n w v) w) wanted u later → Comes later u wanted p
    → Calling (with_array k w) (windowed b n w v) (record { callee = b; passed = One (array_given k.store w) }) p
group_calls b n w k v wanted u later p wants comes =
    let m = windowed b n w v in
    let call : Wish = wish.Calls (record { callee = b; passed = One (array_given k.store w) }) in
    arrives (with_array k w) m call p (comes_of (wishes (with_array k w) m call) later u wanted p wants comes)

group_opened : (b : ObjId) (n : ℕ) (w : List Value) (k : Held) (v : Visit) (ts : List Turn) (r : Value) (after : Held)
    (wanted : Wish) (u : Visit) (later : Held) (p : Planned over_items.Stage)
    → WantsOf (group_called k (windowed b n w v) w) wanted u later → Comes later u wanted p
    → Runs (lifted p) ts (gives after r) → Opened b n w k v ts (gives after r)
group_opened b n w k v ts r after wanted u later p wants comes runs =
    opened b n w k v ts r after p (group_calls b n w k v wanted u later p wants comes) runs

-- no window is left
closed : (b : ObjId) (n : ℕ) (w : List Value) (k : Held) (v : Visit) (ts : List Turn) (r : Value) (after : Held)
    (wanted : Wish) (u : Visit) (later : Held) (p : Planned over_items.Stage)
    → WantsOf (nothing k (windowed b n w v)) wanted u later → Comes later u wanted p
    → Runs (lifted p) ts (gives after r) → (ts ≡ []) × (r ≡ v.receiver) × (after ≡ k)
closed b n w k v ts r after wanted u later p wants comes runs =
    let m = windowed b n w v in
    ended ts k m v.receiver r after p (comes_of (wishes k m (wish.Ends v.receiver)) later u wanted p wants comes) runs

-- The windows behind one.

abbrev pub calls_with : ObjId → List Value → List (Option (ObjId × List Value))
calls_with b xs = map (λ x. Some (b, x ∷ [])) xs

record Slid (n : ℕ) (w : List Value) (s : Source) (b : ObjId) (held : Held) (ts : List Turn) (recv v : Value)
    (after : Held) : Type 0 where
  later : List Value
  came : items_in s (held ∷ heaps_behind ts) ≡ map Some later ++ None ∷ []
  called : calls_of ts ≡ calls_with b (arrays_given (neighbours n (length ts) (drop 1 w ++ later))
      (heaps_in s (held ∷ heaps_behind ts)))
  made : map (λ t. t.wanted.held) ts ≡ arrays_made (neighbours n (length ts) (drop 1 w ++ later))
      (heaps_in s (held ∷ heaps_behind ts))
  result : IsValue (last_heap held ts) recv v after

slid_end : (n : ℕ) (w : List Value) (s : Source) (b : ObjId) (held : Held) (recv v : Value) (after : Held)
    → (next held s).item ≡ None → IsValue held recv v after → Slid n w s b held [] recv v after
slid_end n w s b held recv v after none is = record {
  later = [];
  came = ap (λ (o : Option Value). o ∷ []) none;
  called = refl;
  made = refl;
  result = is;
}

slid_on : (n : ℕ) (w : List Value) (s : Source) (b : ObjId) (held : Held) (t : Turn) (ts : List Turn) (x recv v : Value)
    (after : Held) → 0 < n → length (slid w x) ≡ n → (next held s).item ≡ Some x
    → call_of t.wanted.plan ≡ Some (b, array_given (next held s).held.store (slid w x) ∷ [])
    → t.wanted.held ≡ with_array (next held s).held (slid w x)
    → Slid n (slid w x) (next held s).source b t.held ts recv v after → Slid n w s b held (t ∷ ts) recv v after
slid_on n w s b held t ts x recv v after some long there call asked rest =
    let k = (next held s).held in
    let hs = heaps_in (next held s).source (t.held ∷ heaps_behind ts) in
    let windows = neighbours_behind n (length ts) w rest.later x some long in
    record {
      later = x ∷ rest.later;
      came = ap (λ (o : Option Value). o ∷ items_in (next held s).source (t.held ∷ heaps_behind ts)) there
          ∙ ap (λ (os : List (Option Value)). Some x ∷ os) rest.came;
      called = ap (λ (c : Option (ObjId × List Value)). c ∷ calls_of ts) call
          ∙ ap (λ (cs : List (Option (ObjId × List Value))). Some (b, array_given k.store (slid w x) ∷ []) ∷ cs) rest.called
          ∙ ap (λ (lists : List (List Value)). calls_with b (arrays_given lists (k ∷ hs))) (sym windows);
      made = ap (λ (h : Held). h ∷ map (λ t. t.wanted.held) ts) asked
          ∙ ap (λ (l : List Held). with_array k (slid w x) ∷ l) rest.made
          ∙ ap (λ (lists : List (List Value)). arrays_made lists (k ∷ hs)) (sym windows);
      result = rest.result;
    }

abbrev Recursion : ObjId → ℕ → List Turn → Value → Held → Type 0
Recursion b n ts r after = (held : Held) (w : List Value) (v : Visit) (p : Planned over_items.Stage) → length w ≡ n
    → Begins held (windowed b n w v) p → Runs (lifted p) ts (gives after r)
    → Slid n w v.source b held ts v.receiver r after

-- of the turns behind the first
abbrev Behind : ObjId → ℕ → List Turn → Value → Held → Type 0
Behind b n ts r after = (t : Turn) (us : List Turn) → ts ≡ t ∷ us → Recursion b n us r after

abbrev pub with_rest : Visit → Source → Visit
with_rest v s = record v { source = s }

slid_by_item : (b : ObjId) (n : ℕ) (ts : List Turn) (r : Value) (after : Held) → 0 < n → Behind b n ts r after
    → (held : Held) (w : List Value) (v : Visit) (o : Option Value) (wanted : Wish) (u : Visit) (later : Held)
    (p : Planned over_items.Stage) → length w ≡ n → (next held v.source).item ≡ o
    → WantsOf (window_called (slid_by (windowed b n w v) (next held v.source) o)) wanted u later → Comes later u wanted p
    → Runs (lifted p) ts (gives after r) → Slid n w v.source b held ts v.receiver r after
slid_by_item b n ts r after some rest held w v None wanted u later p long there wants comes runs =
    let k = (next held v.source).held in
    let end = closed b n w k (with_rest v (next held v.source).source) ts r after wanted u later p wants comes runs in
    subst (λ (us : List Turn). Slid n w v.source b held us v.receiver r after) (sym end.0)
    (slid_end n w v.source b held v.receiver r after there
    (record { value = end.1; left = end.2 ∙ next_held held v.source there }))
slid_by_item b n ts r after some rest held w v (Some x) wanted u later p long there wants comes runs =
    let k = (next held v.source).held in
    let m = with_rest v (next held v.source).source in
    let long2 = as_long n w x some long in
    let o = group_opened b n (slid w x) k m ts r after wanted u later p wants comes runs in
    subst (λ (us : List Turn). Slid n w v.source b held us v.receiver r after) (sym o.same)
    (slid_on n w v.source b held o.turn o.further x v.receiver r after some long2 there o.called o.asked
    (rest o.turn o.further o.same o.turn.held (slid w x) (at_site m o.site) o.next long2 o.begins_so o.runs))

-- what is wanted next, whether there is a window or not
abbrev pub wanted_by : Bool → Held → Visit → Window
wanted_by c held v = if c then first_window held v else slid_by v (next held v.source) (next held v.source).item

not_zero : (m : ℕ) (c : Bool) → nat_eq m 0 ≡ c → 0 < m → nat_eq m 0 ≡ false
not_zero m true is some = absurd (omega (arith, is_zero m is, some))
not_zero m false is some = is

pub not_empty : (n : ℕ) (w : List Value) → 0 < n → length w ≡ n → nat_eq (length w) 0 ≡ false
not_empty n w some long =
    not_zero (length w) (nat_eq (length w) 0) refl (subst (λ (m : ℕ). 0 < m) (sym long) some)

slid_step : (b : ObjId) (n : ℕ) (ts : List Turn) (r : Value) (after : Held) → 0 < n → Behind b n ts r after
    → Recursion b n ts r after
slid_step b n ts r after some rest = λ held w v p long comes runs.
    let g = begun held (windowed b n w v) p comes in
    slid_by_item b n ts r after some rest held w v (next held v.source).item g.wish g.visit g.later p long refl
    (subst (λ (c : Bool). WantsOf (window_called (wanted_by c held (windowed b n w v))) g.wish g.visit g.later)
    (not_empty n w some long) g.wants) g.comes runs

slid_course : (b : ObjId) (n : ℕ) (ts : List Turn) (r : Value) (after : Held) → 0 < n → Recursion b n ts r after
slid_course b n [] r after some = slid_step b n [] r after some (λ t us e. absurd (not_cons t us (sym e)))
slid_course b n (t ∷ ts) r after some = slid_step b n (t ∷ ts) r after some
    (λ u us e. subst (λ (xs : List Turn). Recursion b n xs r after) (tail_same t u ts us e)
    (slid_course b n ts r after some))

-- The first window.

not_few : (n m : ℕ) → m ≡ n → m < n → ⊥
not_few n m same few = omega (arith, same, few)

slides_first : (b : ObjId) (n : ℕ) (first : Taken) (t : Turn) (ts : List Turn) (recv r : Value) (after : Held) → 0 < n
    → length first.items ≡ n → call_of t.wanted.plan ≡ Some (b, array_given first.held.store first.items ∷ [])
    → t.wanted.held ≡ with_array first.held first.items
    → Slid n first.items first.source b t.held ts recv r after → Slides n first b (t ∷ ts) recv r after
slides_first b n first t ts recv r after some long call asked rest =
    let k = first.held in
    let hs = heaps_in first.source (t.held ∷ heaps_behind ts) in
    let windows = neighbours_more n (length ts) first.items rest.later some long in
    record {
      later = rest.later;
      few = λ e. absurd (not_few n (length first.items) long e);
      came = λ e. rest.came;
      called = ap (λ (c : Option (ObjId × List Value)). c ∷ calls_of ts) call
          ∙ ap (λ (cs : List (Option (ObjId × List Value))). Some (b, array_given k.store first.items ∷ []) ∷ cs) rest.called
          ∙ ap (λ (lists : List (List Value)). calls_with b (arrays_given lists (k ∷ hs))) (sym windows);
      made = ap (λ (h : Held). h ∷ map (λ t. t.wanted.held) ts) asked
          ∙ ap (λ (l : List Held). with_array k first.items ∷ l) rest.made
          ∙ ap (λ (lists : List (List Value)). arrays_made lists (k ∷ hs)) (sym windows);
      result = rest.result;
    }

slides_none : (b : ObjId) (n : ℕ) (first : Taken) (ts : List Turn) (recv r : Value) (after : Held)
    → nat_eq (length first.items) n ≡ false → (ts ≡ []) × (r ≡ recv) × (after ≡ first.held)
    → Slides n first b ts recv r after
slides_none b n first ts recv r after not_long end =
    subst (λ (us : List Turn). Slides n first b us recv r after) (sym end.0) (record {
      later = [];
      few = λ e. refl;
      came = λ e. absurd (not_both (nat_eq (length first.items) n) (eq-eqb (length first.items) n e) not_long);
      called = refl;
      made = refl;
      result = record { value = end.1; left = end.2 };
    })

abbrev pub first_by : Bool → Visit → Taken → Window
first_by c v t = record { whole = c; visit = record v { kept = t.items; source = t.source }; held = t.held }

slides_by : (b : ObjId) (n : ℕ) (ts : List Turn) (r : Value) (after : Held) → 0 < n → (held : Held) (v : Visit) (c : Bool)
    (wanted : Wish) (u : Visit) (later : Held) (p : Planned over_items.Stage)
    → nat_eq (length (taken n held v.source).items) n ≡ c
    → WantsOf (window_called (first_by c (windowed b n [] v) (taken n held v.source))) wanted u later
    → Comes later u wanted p → Runs (lifted p) ts (gives after r)
    → Slides n (taken n held v.source) b ts v.receiver r after
slides_by b n ts r after some held v false wanted u later p long wants comes runs =
    let first = taken n held v.source in
    slides_none b n first ts v.receiver r after long
    (closed b n first.items first.held (with_rest v first.source) ts r after wanted u later p wants comes runs)
slides_by b n ts r after some held v true wanted u later p long wants comes runs =
    let first = taken n held v.source in
    let m = with_rest v first.source in
    let many = eqb-true (length first.items) n long in
    let o = group_opened b n first.items first.held m ts r after wanted u later p wants comes runs in
    subst (λ (us : List Turn). Slides n first b us v.receiver r after) (sym o.same)
    (slides_first b n first o.turn o.further v.receiver r after some many o.called o.asked
    (slid_course b n o.further r after some o.turn.held first.items (at_site m o.site) o.next many o.begins_so o.runs))

slides_so : (b : ObjId) (n : ℕ) (ts : List Turn) (r : Value) (after : Held) → 0 < n → (held : Held) (v : Visit)
    (p : Planned over_items.Stage) → Begins held (windowed b n [] v) p → Runs (lifted p) ts (gives after r)
    → Slides n (taken n held v.source) b ts v.receiver r after
slides_so b n ts r after some held v p comes runs =
    let g = begun held (windowed b n [] v) p comes in
    slides_by b n ts r after some held v (nat_eq (length (taken n held v.source).items) n) g.wish g.visit g.later p refl
    g.wants g.comes runs

-- From the beginning: a size is above 0.

abbrev as_size : ℕ → Result ℕ Cause
as_size n = Ok n

ok_same : (m n : ℕ) → as_size m ≡ as_size n → m ≡ n
ok_same m n e = cc

above_if : (m n : ℕ) (c : Bool) → nat_eq m 0 ≡ c → (if c then Err cause.NegativeCount else as_size m) ≡ as_size n → 0 < n
above_if m n true is e = absurd (cc)
above_if m n false is e = subst (λ (k : ℕ). 0 < k) (ok_same m n e) (above_zero m is)

size_above : (z : ℤ) (n : ℕ) → size_in z ≡ as_size n → 0 < n
size_above (pos m) n e = above_if m n (nat_eq m 0) refl e
size_above (negsuc m) n e = absurd (cc)

pub size_some : (o : Result ℤ Cause) (n : ℕ) → and_then o size_in ≡ as_size n → 0 < n
size_some (Ok z) n e = size_above z n e
size_some (Err c) n e = absurd (cc)

pub slides : (held after : Held) (recv size v : Value) (n : ℕ) (s : Source) (b : ObjId) (ts : List Turn)
    → size_of held.store size ≡ Ok n → IsRunOf task.EachCons held recv s (size ∷ []) b ts v after
    → HandsNeighbours n held s b ts recv v after
slides held after recv size v n s b ts is_size is =
    let st = begun_so task.EachCons held recv s (size ∷ []) b None None n ts v after
    (ap (λ (x : Result ℕ Cause). with_size x) is_size) is in
    record {
      begun = st.begun;
      same = st.same;
      slides = slides_so b n ts v after (size_some (integer held.store size) n is_size) st.begun
          (visit_of task.EachCons recv s None (arguments None None n) (Some b)) st.first st.begins st.runs;
    }
