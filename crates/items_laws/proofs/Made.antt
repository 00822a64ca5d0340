-- Methods that make a Hash.
use Rattle.std.proofs.Common.{◌≡◌, ℕ, ◌+◌, ◌-◌, refl, sym, ap, subst, ◌∙◌, List, [], drop, arith}
use Rattle.std.specs.Prelude.{slice_get, Bool, if◌then◌else◌, Option, Some, None, Result, Ok, Err}
use Rattle.std.proofs.lemmas.Bool.{ne_eqb}
use Rattle.rb_value.specs.declared.value.Value.{Value}
use Rattle.rb_value.specs.declared.value.Value.TheVariants.{Obj}
use Rattle.rb_value.specs.declared.value.ObjId.{ObjId}
use Rattle.rb_value.specs.declared.hash.HashItem.{HashItem}
use Rattle.def_core.specs.declared.cause.Cause.{Cause}
use Rattle.rb_store.specs.Held.{Held, one_more}
use Rattle.rows_items.specs.Keyed as keyed
use Rattle.iter_items.specs.declared.row.Task.{Task}
use Rattle.iter_items.specs.declared.source.Source.{Source}
use Rattle.iter_items.specs.declared.source.Source.TheVariants as source
use Rattle.iter_items.specs.declared.visit.Visit.{Visit}
use Rattle.iter_items.specs.declared.wish.Wish.{Wish}
use Rattle.iter_items.specs.declared.wish.Wish.TheVariants as wish
use Rattle.iter_items.specs.Asking.{Wished, wishes, nothing, with_source, ask_of, asked, visited}
use Rattle.iter_items.specs.Driving.{Ends}
use Rattle.iter_items.specs.Hearing.{Heard, going, failing, heard, put}
use Rattle.iter_items.specs.Sources.{next, pair_passed, passed_pair, pair_behind}
use Rattle.items_laws.specs.Run.{Turn}
use Rattle.items_laws.specs.Items.{IsValue}
use Rattle.items_laws.proofs.Course.{Plain, Settled, Keeps, Further, OrEnds, at_item}
use Rattle.items_laws.proofs.Pairs.{none_behind}
use Rattle.items_laws.proofs.Visits.{one}

-- The visits of such a method.

abbrev pub with_made : Task → ObjId → ObjId → Visit → Visit
with_made t b h v = record v { task = t; block = Some b; made = Some h; wish = None }

pub record Making (t : Task) (b h : ObjId) (v : Visit) : Type 0 where
  pub inner : Visit
  pub same : v ≡ with_made t b h inner

pub makes : (t : Task) (b h : ObjId) (v : Visit) → Making t b h (with_made t b h v)
makes t b h v = record { inner = v; same = refl }

-- what was heard leaves the visit as it is once that is done, or fails
abbrev pub Does : (Held → Type 0) → Visit → Heard → Type 0
Does Done v (going a) = (a ≡ nothing a.held v) × Done a.held
Does Done v (failing c k) = Unit {0}

-- the method calls its block with the item alone, and gives the Hash
pub record Maker (t : Task) (b h : ObjId) : Type 0 where
  pub asks : (held : Held) (v : Visit) → asked held (with_made t b h v) ≡ visited held (with_made t b h v)
  pub calls : (held : Held) (v : Visit) → ask_of t held (with_made t b h v) v.item
      ≡ wishes held (with_made t b h v) (wish.Calls (record { callee = b; passed = one v }))
  pub hears : (held : Held) (v : Visit) (a : Value) → Keeps (Making t b h) (heard held (with_made t b h v) a)
  pub settles : (held : Held) (v : Visit) (w : Wish) (u : Visit) (later : Held)
      → Ends t held (with_made t b h v) w u later → Settled w
  pub gives : (held : Held) (v : Visit) (r : Value) (u : Visit) (after : Held)
      → Ends t held (with_made t b h v) (wish.Ends r) u after → IsValue held (Obj h) r after

pub plain : (t : Task) (b h : ObjId) → Maker t b h → Plain (Making t b h) b one
plain t b h m = record {
  unasked = λ v f. ap (λ (u : Visit). u.wish) f.same;
  asks = λ held v f. subst (λ (u : Visit). asked held u ≡ visited held u) (sym f.same) (m.asks held f.inner);
  calls = λ held v p x f. subst (λ (y : Visit). ask_of y.task held (record (with_source y p) { item = x }) x
      ≡ wishes held (record (with_source y p) { item = x })
      (wish.Calls (record { callee = b; passed = one (record (with_source y p) { item = x }) })))
      (sym f.same) (m.calls held (record (with_source f.inner p) { item = x }));
  hears = λ held v p x site a f. subst (λ (y : Visit). Keeps (Making t b h) (heard held (at_item y p x site) a))
      (sym f.same) (m.hears held (at_item f.inner p x site) a);
  ends = λ held v p w u later f e. m.settles held (with_source f.inner p) w u later
      (subst (λ (y : Visit). Ends y.task held (with_source y p) w u later) f.same e);
}

-- once that is done the visit goes on from the heap that is left
pub record Going (Rest : Held → Visit → Type 0) (Done : Held → Type 0) (v : Visit) : Type 0 where
  pub after : Held
  pub done : Done after
  pub rest : Rest after v

pub going_by : (Rest : Held → Visit → Type 0) (ts : List Turn) (r : Value) (after : Held) (Done : Held → Type 0)
    (v : Visit) (x : Heard) → Does Done v x → Further Rest ts r after x → Going Rest Done v
going_by Rest ts r after Done v (going a) does further = record {
  after = a.held;
  done = does.1;
  rest = subst (λ (y : Wished). OrEnds Rest ts r after y y.wish) does.0 further;
}
going_by Rest ts r after Done v (failing c k) does further = absurd further

-- the same turn, with another heap behind its answer
abbrev pub settled_in : Turn → Held → Turn
settled_in t k = record t { held = k }

-- what `put` leads to
pub put_does : (held : Held) (h : ObjId) (shown value : Value) (v : Visit) (x : Result Held Cause) (k : Held)
    → keyed.put held h shown value ≡ x → Does (λ after. keyed.put held h shown value ≡ Ok after) v (put v k x)
put_does held h shown value v (Ok after) k e = (refl, e)
put_does held h shown value v (Err c) k e = tt

pub put_keeps : (t : Task) (b h : ObjId) (v : Visit) (x : Result Held Cause) (k : Held)
    → Keeps (Making t b h) (put (with_made t b h v) k x)
put_keeps t b h v (Ok after) k = makes t b h v
put_keeps t b h v (Err c) k = tt

-- The pairs of a Hash.

-- the pair that an item was made of
pub record AtPair (ps : List HashItem) (n : ℕ) (s : Source) : Type 0 where
  pub pair : HashItem
  pub there : slice_get ps n ≡ Some pair
  pub behind : s ≡ source.Pairs ps (one_more n)

pair_by : (held : Held) (ps : List HashItem) (n : ℕ) (x : Value) (o : Option HashItem) → slice_get ps n ≡ o
    → (pair_passed held (source.Pairs ps (one_more n)) o).item ≡ Some x
    → AtPair ps n (pair_passed held (source.Pairs ps (one_more n)) o).source
pair_by held ps n x None e there = absurd (cc)
pair_by held ps n x (Some p) e there = record { pair = p; there = e; behind = refl }

pub at_pair : (held : Held) (s : Source) (ps : List HashItem) (n : ℕ) (x : Value) → s ≡ source.Pairs ps n
    → (next held s).item ≡ Some x → AtPair ps n (next held s).source
at_pair held s ps n x e there = subst (λ (y : Source). AtPair ps n (next held y).source) (sym e)
    (pair_by held ps n x (slice_get ps n) refl
    (subst (λ (y : Source). (next held y).item ≡ Some x) e there))

none_at : (held : Held) (ps : List HashItem) (n : ℕ) (o : Option HashItem) → slice_get ps n ≡ o
    → (pair_passed held (source.Pairs ps (one_more n)) o).item ≡ None → slice_get ps n ≡ None
none_at held ps n None e none = e
none_at held ps n (Some p) e none = absurd (cc)

pub none_left : (held : Held) (s : Source) (ps : List HashItem) (n : ℕ) → s ≡ source.Pairs ps n
    → (next held s).item ≡ None → drop n ps ≡ []
none_left held s ps n e none = none_behind ps n (none_at held ps n (slice_get ps n) refl
    (subst (λ (y : Source). (next held y).item ≡ None) e none))

-- the pair before a place

abbrev found_if : List HashItem → ℕ → Bool → Option HashItem
found_if ps m c = if c then None else slice_get ps m

not_first : (n k : ℕ) → k ≡ n + 1 → k ≡ 0 → ⊥
not_first n k e none = omega (arith, e, none)

one_before : (n k : ℕ) → k ≡ n + 1 → k - 1 ≡ n
one_before n k e = omega (arith, e)

pair_before : (ps : List HashItem) (n k : ℕ) → k ≡ n + 1 → pair_behind ps k ≡ slice_get ps n
pair_before ps n k e = ap (found_if ps (k - 1)) (ne_eqb k 0 (not_first n k e))
    ∙ ap (λ (m : ℕ). slice_get ps m) (one_before n k e)

pub is_behind : (ps : List HashItem) (n : ℕ) (p : HashItem) (s : Source) → one_more n ≡ n + 1
    → slice_get ps n ≡ Some p → s ≡ source.Pairs ps (one_more n) → passed_pair s ≡ Some p
is_behind ps n p s step there e = ap passed_pair e ∙ pair_before ps n (one_more n) step ∙ there
