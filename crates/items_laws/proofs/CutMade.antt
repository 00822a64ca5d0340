-- `drop_while`, and methods that make a Hash, that are left while their block is called.
use Rattle.std.proofs.Common.{◌≡◌, ℕ, suc, ◌<◌, ◌+◌, ◌^◌, refl, sym, ap, subst, ◌∙◌, List, [], ◌∷◌, ◌++◌, length, take, drop, arith}
use Rattle.std.specs.Prelude.{map, slice_get, Bool, true, false, Option, Some, None}
use Rattle.rb_value.specs.declared.value.Value.{Value}
use Rattle.rb_value.specs.declared.value.ObjId.{ObjId}
use Rattle.rb_value.specs.declared.hash.HashItem.{HashItem}
use Rattle.rb_value.specs.Value.{is_true}
use Rattle.def_core.specs.Store.{next_number}
use Rattle.def_calls.specs.Values.{key_of}
use Rattle.rb_store.specs.Held.{Held, one_more}
use Rattle.heap.specs.Operands.{own}
use Rattle.rows_items.specs.Keyed as keyed
use Rattle.def_plans.specs.Plan.{Planned}
use Rattle.iter_items.specs.declared.row.Task.{Task}
use Rattle.iter_items.specs.declared.row.Task.TheVariants as task
use Rattle.iter_items.specs.declared.source.Source.{Source}
use Rattle.iter_items.specs.declared.source.Source.TheVariants as source
use Rattle.iter_items.specs.declared.visit.Visit.{Visit}
use Rattle.iter_items.specs.Asking.{Wished}
use Rattle.iter_items.specs.Checks.{arguments}
use Rattle.iter_items.specs.Driving.{visit_of}
use Rattle.iter_items.specs.Hearing.{Heard, going, failing, heard}
use Rattle.iter_items.specs.Sources.{Passed, next}
use Rattle.core_iter.specs.Stage.{Stage}
use Rattle.items_laws.specs.Run.{Turn}
use Rattle.items_laws.specs.Items.{call_of, calls_of}
use Rattle.items_laws.specs.Lists.{alone, is_untrue}
use Rattle.items_laws.specs.Cut.{IsLeft, Cut, IsCut, CutsGroups, CutsPairs}
use Rattle.items_laws.specs.Made.{Joins, PutsPicked}
use Rattle.items_laws.specs.Settled.{Settles}
use Rattle.items_laws.proofs.Course.{at_item}
use Rattle.items_laws.proofs.Cut.{leaving}
use Rattle.items_laws.proofs.CutPlain.{GoesBy, Goes, CutCourse, cut_plain}
use Rattle.items_laws.proofs.CutWalks.{cut_none, cut_more}
use Rattle.items_laws.proofs.Dropped.{drops, heard_if}
use Rattle.items_laws.proofs.Fitted.{fitted, Fits}
use Rattle.items_laws.proofs.Grouping.{group_makes, under_does}
use Rattle.items_laws.proofs.Made.{with_made, Making, makes, Does, Going, plain, settled_in, is_behind}
use Rattle.items_laws.proofs.Methods.{as_it_is, pass_of}
use Rattle.items_laws.proofs.Pairs.{behind_one}
use Rattle.items_laws.proofs.Reading.{counted}
use Rattle.items_laws.proofs.Sifting.{Sifts, selects, rejects, at_turn}
use Rattle.items_laws.proofs.Visits.{one}

-- `drop_while`

abbrev dropping : ObjId → Visit → Visit
dropping b v = fitted task.DropWhile b as_it_is as_it_is v

drop_on : (b : ObjId) (t : Turn) (ts : List Turn) (last : Planned Stage) (held : Held) (v u : Visit) (x : Value) (c : Bool)
    → u.source ≡ (next held v.source).source → (next held v.source).item ≡ Some x
    → call_of t.wanted.plan ≡ Some (b, x ∷ []) → t.wanted.held ≡ (next held v.source).held
    → ((w : Visit) → CutCourse b one ts t.held (dropping b w) last → Cut next t.held w.source b alone ts last)
    → Goes (λ h w. CutCourse b one ts h w last) (heard_if t.held (dropping b u) c)
    → Cut next held v.source b alone (t ∷ ts) last
drop_on b t ts last held v u x true source there called asked rest c =
    cut_more next held v.source b t ts x last there called asked
    (subst (λ (s : Source). Cut next t.held s b alone ts last) source (rest u c))
drop_on b t ts last held v u x false source there called asked rest c = absurd c

drop_cut : (b : ObjId) (ts : List Turn) (last : Planned Stage) (held : Held) (v : Visit)
    → CutCourse b one ts held (dropping b v) last → Cut next held v.source b alone ts last
drop_cut b [] last held v c = cut_none next held v.source b c.item last c.there c.called c.left
drop_cut b (t ∷ ts) last held v c = drop_on b t ts last held v (at_item v (next held v.source) c.item c.site) c.item
    (is_true t.answer) refl c.there c.called c.asked (λ w k. drop_cut b ts last t.held w k) c.rest

pub drops_cut : (held : Held) (recv : Value) (s : Source) (b : ObjId) (ts : List Turn) (last : Planned Stage)
    → IsLeft task.DropWhile held recv s [] b ts last → IsCut next held s b alone ts last
drops_cut held recv s b ts last is =
    let l = leaving task.DropWhile held recv s [] None None 0 b ts last refl is in
    let u : Visit = visit_of task.DropWhile recv s None (arguments None None 0) (Some b) in
    let fit : Fits task.DropWhile b as_it_is as_it_is u = record { inner = u; same = refl } in
    record {
      begun = l.start.begun;
      same = l.start.same;
      cut = drop_cut b ts last l.start.begun u (cut_plain (Fits task.DropWhile b as_it_is as_it_is) b one (drops b) ts last
          l.stage l.waits l.start.begun u l.start.first fit l.start.begins l.start.runs);
    }

-- Once an answer has changed the Hash the visit goes on.
going_on : (Rest : Held → Visit → Type 0) (Done : Held → Type 0) (v : Visit) (x : Heard) → Does Done v x → Goes Rest x
    → Going Rest Done v
going_on Rest Done v (going a) does further = record {
  after = a.held;
  done = does.1;
  rest = subst (λ (y : Wished). GoesBy Rest y y.wish) does.0 further;
}
going_on Rest Done v (failing c k) does further = absurd further

-- the calls of turns, with one before them
one_called : (b : ObjId) (t : Turn) (k : Held) (us : List Turn) (last : Planned Stage) (x : Value) (xs : List Value)
    → call_of t.wanted.plan ≡ Some (b, x ∷ [])
    → calls_of us ++ call_of last.plan ∷ [] ≡ map (λ args. Some (b, args)) (alone xs)
    → calls_of (settled_in t k ∷ us) ++ call_of last.plan ∷ [] ≡ map (λ args. Some (b, args)) (alone (x ∷ xs))
one_called b t k us last x xs called rest =
    ap (λ (c : Option (ObjId × List Value)). c ∷ (calls_of us ++ call_of last.plan ∷ [])) called
    ∙ ap (λ (cs : List (Option (ObjId × List Value))). Some (b, x ∷ []) ∷ cs) rest

-- `group_by`

record Grouped (b h : ObjId) (held : Held) (s : Source) (ts : List Turn) (last : Planned Stage) : Type 0 where
  settled : List Turn
  cut : Cut next held s b alone settled last
  joined : Settles (Joins h) cut.items ts settled

group_cut : (b h : ObjId) (ts : List Turn) (last : Planned Stage) (held : Held) (v : Visit)
    → CutCourse b one ts held (with_made task.GroupBy b h v) last → Grouped b h held v.source ts last
group_cut b h [] last held v c = record {
  settled = [];
  cut = record {
    items = [];
    item = c.item;
    handed = tt;
    there = c.there;
    called = ap (λ (x : Option (ObjId × List Value)). x ∷ []) c.called;
    left = c.left;
  };
  joined = tt;
}
group_cut b h (n ∷ ts) last held v c =
    let u : Visit = at_item v (next held v.source) c.item c.site in
    let m = with_made task.GroupBy b h u in
    let g = going_on (λ k w. CutCourse b one ts k w last) (λ k. Joins h c.item n.answer n.held k) m (heard n.held m n.answer)
    (under_does n.held m h n.answer (key_of n.held.store.objects (own n.held.store n.answer))) c.rest in
    let more = group_cut b h ts last g.after u g.rest in
    record {
      settled = settled_in n g.after ∷ more.settled;
      cut = record {
        items = c.item ∷ more.cut.items;
        item = more.cut.item;
        handed = (c.there, c.asked, more.cut.handed);
        there = more.cut.there;
        called = one_called b n g.after more.settled last c.item (more.cut.items ++ more.cut.item ∷ []) c.called
            more.cut.called;
        left = more.cut.left;
      };
      joined = (refl, g.done, more.joined);
    }

pub groups_cut : (held : Held) (recv : Value) (s : Source) (b : ObjId) (ts : List Turn) (last : Planned Stage)
    → IsLeft task.GroupBy held recv s [] b ts last → CutsGroups held s b ts last
groups_cut held recv s b ts last is =
    let l = leaving task.GroupBy held recv s [] None None 0 b ts last refl is in
    let h = next_number l.start.begun.store in
    let u = visit_of task.GroupBy recv s (Some h) (arguments None None 0) (Some b) in
    let k = group_cut b h ts last (keyed.with_hash l.start.begun) u (cut_plain (Making task.GroupBy b h) b one
    (plain task.GroupBy b h (group_makes b h)) ts last l.stage l.waits (keyed.with_hash l.start.begun) u l.start.first
    (makes task.GroupBy b h u) l.start.begins l.start.runs) in
    record { begun = l.start.begun; same = l.start.same; settled = k.settled; cut = k.cut; joined = k.joined }

-- `select` and `reject` of a Hash

record Picked (test : Value → Bool) (b h : ObjId) (held : Held) (s : Source) (ps : List HashItem) (ts : List Turn)
    (last : Planned Stage) : Type 0 where
  settled : List Turn
  puts : Settles (PutsPicked test h) (take (length ts) ps) ts settled
  cut : Cut next held s b alone settled last

-- the pair of a turn, before those that come
pairs_settled : (test : Value → Bool) (h : ObjId) (ps : List HashItem) (n : ℕ) (p : HashItem) (t : Turn) (k : Held)
    (ts us : List Turn) → slice_get ps n ≡ Some p → one_more n ≡ n + 1 → PutsPicked test h p t.answer t.held k
    → Settles (PutsPicked test h) (take (length ts) (drop (one_more n) ps)) ts us
    → Settles (PutsPicked test h) (take (length (t ∷ ts)) (drop n ps)) (t ∷ ts) (settled_in t k ∷ us)
pairs_settled test h ps n p t k ts us there one done rest =
    subst (λ (qs : List HashItem). Settles (PutsPicked test h) (take (suc (length ts)) qs) (t ∷ ts) (settled_in t k ∷ us))
    (sym (behind_one ps n p there))
    (refl, done, subst (λ (m : ℕ). Settles (PutsPicked test h) (take (length ts) (drop m ps)) ts us) (one ∙ plus n) rest)
  where
    plus : (n : ℕ) → n + 1 ≡ suc n
    plus n = omega arith

abbrev PicksSo : (Value → Bool) → Task → ObjId → ObjId → List Turn → Planned Stage → Type 0
PicksSo test t b h ts last = (held : Held) (v : Visit) (ps : List HashItem) (n : ℕ) → v.source ≡ source.Pairs ps n
    → n + length ts < 2 ^ 64 → CutCourse b one ts held (with_made t b h v) last
    → Picked test b h held v.source (drop n ps) ts last

pick_cut : (test : Value → Bool) (t : Task) (b h : ObjId) (m : Sifts test t b h) (ts : List Turn) (last : Planned Stage)
    → PicksSo test t b h ts last
pick_cut test t b h m [] last = λ held v ps n e less c.
    let same = m.forwards held v.source in
    record {
      settled = [];
      puts = none_put test h (drop n ps);
      cut = cut_none next held v.source b c.item last (subst (λ (p : Passed Source). p.item ≡ Some c.item) same c.there)
          c.called (subst (λ (p : Passed Source). last.held ≡ p.held) same c.left);
    }
  where
    none_put : (test : Value → Bool) (h : ObjId) (qs : List HashItem) → Settles (PutsPicked test h) (take 0 qs) [] []
    none_put test h qs = tt
pick_cut test t b h m (each ∷ ts) last = λ held v ps n e less c.
    let p = pass_of t held v.source in
    let same = m.forwards held v.source in
    let u : Visit = at_item v p c.item c.site in
    let pair = at_turn test t b h m held v.source ps n c.item e c.there in
    let one_is = counted n (omega (arith, less)) in
    let still : one_more n + length ts < 2 ^ 64 = omega (arith, less, one_is) in
    let g = going_on (λ k w. CutCourse b one ts k w last) (λ k. PutsPicked test h pair.pair each.answer each.held k)
    (with_made t b h u) (heard each.held (with_made t b h u) each.answer)
    (m.does each.held u each.answer pair.pair (is_behind ps n pair.pair p.source one_is pair.there pair.behind)) c.rest in
    let more = pick_cut test t b h m ts last g.after u ps (one_more n) pair.behind still g.rest in
    record {
      settled = settled_in each g.after ∷ more.settled;
      puts = pairs_settled test h ps n pair.pair each g.after ts more.settled pair.there one_is g.done more.puts;
      cut = cut_more next held v.source b (settled_in each g.after) more.settled c.item last
          (subst (λ (q : Passed Source). q.item ≡ Some c.item) same c.there) c.called
          (subst (λ (q : Passed Source). each.wanted.held ≡ q.held) same c.asked)
          (subst (λ (q : Passed Source). Cut next g.after q.source b alone more.settled last) same more.cut);
    }

picked_cut : (test : Value → Bool) (t : Task) → ((b h : ObjId) → Sifts test t b h) → (held : Held) (ps : List HashItem)
    (b : ObjId) (ts : List Turn) (last : Planned Stage) (begun : Held) → begun.store ≡ held.store → length ts < 2 ^ 64
    → (v : Visit) → v.source ≡ source.Pairs ps 0
    → CutCourse b one ts (keyed.with_hash begun) (with_made t b (next_number begun.store) v) last
    → CutsPairs test held ps b ts last
picked_cut test t m held ps b ts last begun same less v e c =
    let h = next_number begun.store in
    let k = pick_cut test t b h (m b h) ts last (keyed.with_hash begun) v ps 0 e (omega (arith, less)) c in
    record {
      begun = begun;
      same = same;
      settled = k.settled;
      puts = k.puts;
      cut = subst (λ (s : Source). Cut next (keyed.with_hash begun) s b alone k.settled last) e k.cut;
    }

pub select_cut : (held : Held) (recv : Value) (ps : List HashItem) (b : ObjId) (ts : List Turn) (last : Planned Stage)
    → length ts < 2 ^ 64 → IsLeft task.Select held recv (source.Pairs ps 0) [] b ts last
    → CutsPairs is_true held ps b ts last
select_cut held recv ps b ts last less is =
    let l = leaving task.Select held recv (source.Pairs ps 0) [] None None 0 b ts last refl is in
    let h = next_number l.start.begun.store in
    let u = visit_of task.Select recv (source.Pairs ps 0) (Some h) (arguments None None 0) (Some b) in
    picked_cut is_true task.Select (λ b h. selects b h) held ps b ts last l.start.begun l.start.same less u refl
    (cut_plain (Making task.Select b h) b one (plain task.Select b h (selects b h).maker) ts last l.stage l.waits
    (keyed.with_hash l.start.begun) u l.start.first (makes task.Select b h u) l.start.begins l.start.runs)

pub reject_cut : (held : Held) (recv : Value) (ps : List HashItem) (b : ObjId) (ts : List Turn) (last : Planned Stage)
    → length ts < 2 ^ 64 → IsLeft task.Reject held recv (source.Pairs ps 0) [] b ts last
    → CutsPairs is_untrue held ps b ts last
reject_cut held recv ps b ts last less is =
    let l = leaving task.Reject held recv (source.Pairs ps 0) [] None None 0 b ts last refl is in
    let h = next_number l.start.begun.store in
    let u = visit_of task.Reject recv (source.Pairs ps 0) (Some h) (arguments None None 0) (Some b) in
    picked_cut is_untrue task.Reject (λ b h. rejects b h) held ps b ts last l.start.begun l.start.same less u refl
    (cut_plain (Making task.Reject b h) b one (plain task.Reject b h (rejects b h).maker) ts last l.stage l.waits
    (keyed.with_hash l.start.begun) u l.start.first (makes task.Reject b h u) l.start.begins l.start.runs)
