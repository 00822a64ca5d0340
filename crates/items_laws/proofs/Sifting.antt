-- `select` and `reject` of a Hash.
use Rattle.std.proofs.Common.{◌≡◌, ℕ, suc, ◌<◌, ◌+◌, ◌^◌, refl, sym, subst, ◌∙◌, List, [], ◌∷◌, length, drop, arith}
use Rattle.std.specs.Prelude.{slice_get, Bool, true, false, not, if◌then◌else◌, Option, Some, None}
use Rattle.rb_value.specs.declared.value.Value.{Value}
use Rattle.rb_value.specs.declared.value.Value.TheVariants.{Obj}
use Rattle.rb_value.specs.declared.value.ObjId.{ObjId}
use Rattle.rb_value.specs.declared.hash.HashItem.{HashItem}
use Rattle.rb_value.specs.Value.{is_true}
use Rattle.def_core.specs.Store.{next_number}
use Rattle.rb_store.specs.Held.{Held, one_more}
use Rattle.rows_items.specs.Keyed as keyed
use Rattle.iter_items.specs.declared.row.Task.{Task}
use Rattle.iter_items.specs.declared.row.Task.TheVariants as task
use Rattle.iter_items.specs.declared.source.Source.{Source}
use Rattle.iter_items.specs.declared.source.Source.TheVariants as source
use Rattle.iter_items.specs.declared.visit.Visit.{Visit}
use Rattle.iter_items.specs.Asking.{with_source}
use Rattle.iter_items.specs.Checks.{arguments}
use Rattle.iter_items.specs.Driving.{visit_of}
use Rattle.iter_items.specs.Hearing.{Heard, heard, onward, keep_pair, keeping}
use Rattle.iter_items.specs.Sources.{Passed, next, passed_pair}
use Rattle.items_laws.specs.Run.{Turn}
use Rattle.items_laws.specs.Items.{Visits, IsRunOf, IsValue, Whole}
use Rattle.items_laws.specs.Lists.{alone, is_untrue}
use Rattle.items_laws.specs.Made.{PutIf, PutsPicked, PicksPairs}
use Rattle.items_laws.specs.Settled.{Settles}
use Rattle.items_laws.proofs.Begun.{begun_so}
use Rattle.items_laws.proofs.Course.{Course, Keeps, at_item, course}
use Rattle.items_laws.proofs.Made.{with_made, Making, makes, Does, Maker, plain, going_by, settled_in, put_does, put_keeps, AtPair, at_pair, none_left, is_behind}
use Rattle.items_laws.proofs.Methods.{pass_of, pass_held}
use Rattle.items_laws.proofs.Pairs.{behind_one}
use Rattle.items_laws.proofs.Reading.{counted}
use Rattle.items_laws.proofs.Visits.{one, settled_by, value_by, visits_none, visits_more}

-- The pairs whose answers pass are put into the Hash.

pub record Sifts (test : Value → Bool) (t : Task) (b h : ObjId) : Type 0 where
  pub maker : Maker t b h
  pub forwards : (held : Held) (s : Source) → pass_of t held s ≡ next held s
  pub does : (held : Held) (v : Visit) (a : Value) (p : HashItem) → passed_pair v.source ≡ Some p
      → Does (λ after. PutsPicked test h p a held after) (with_made t b h v) (heard held (with_made t b h v) a)

record Sifted (test : Value → Bool) (t : Task) (held : Held) (s : Source) (ps : List HashItem) (b h : ObjId)
    (ts : List Turn) (r : Value) (after : Held) : Type 0 where
  settled : List Turn
  puts : Settles (PutsPicked test h) ps ts settled
  visits : Visits (pass_of t) held s b Whole alone settled (λ k xs. IsValue k (Obj h) r after)

abbrev Sifting : (Value → Bool) → Task → ObjId → ObjId → List Turn → Value → Held → Type 0
Sifting test t b h ts r after = (held : Held) (v : Visit) (ps : List HashItem) (n : ℕ) → v.source ≡ source.Pairs ps n
    → n + length ts < 2 ^ 64 → Course b one ts held (with_made t b h v) r after
    → Sifted test t held v.source (drop n ps) b h ts r after

-- the pair of the turn
pub at_turn : (test : Value → Bool) (t : Task) (b h : ObjId) (m : Sifts test t b h) (held : Held) (s : Source)
    (ps : List HashItem) (n : ℕ) (x : Value) → s ≡ source.Pairs ps n → (pass_of t held s).item ≡ Some x
    → AtPair ps n (pass_of t held s).source
at_turn test t b h m held s ps n x e there =
    subst (λ (p : Passed Source). AtPair ps n p.source) (sym (m.forwards held s)) (at_pair held s ps n x e
    (subst (λ (p : Passed Source). p.item ≡ Some x) (m.forwards held s) there))

none_at_end : (test : Value → Bool) (t : Task) (b h : ObjId) (m : Sifts test t b h) (held : Held) (s : Source)
    (ps : List HashItem) (n : ℕ) → s ≡ source.Pairs ps n → (pass_of t held s).item ≡ None → drop n ps ≡ []
none_at_end test t b h m held s ps n e none =
    none_left held s ps n e (subst (λ (p : Passed Source). p.item ≡ None) (m.forwards held s) none)

one_settled : (test : Value → Bool) (h : ObjId) (ps : List HashItem) (n : ℕ) (p : HashItem) (t : Turn) (k : Held)
    (ts us : List Turn) → slice_get ps n ≡ Some p → one_more n ≡ n + 1 → PutsPicked test h p t.answer t.held k
    → Settles (PutsPicked test h) (drop (one_more n) ps) ts us
    → Settles (PutsPicked test h) (drop n ps) (t ∷ ts) (settled_in t k ∷ us)
one_settled test h ps n p t k ts us there one done rest =
    subst (λ (qs : List HashItem). Settles (PutsPicked test h) qs (t ∷ ts) (settled_in t k ∷ us))
    (sym (behind_one ps n p there))
    (refl, done, subst (λ (m : ℕ). Settles (PutsPicked test h) (drop m ps) ts us) (one ∙ plus n) rest)
  where
    plus : (n : ℕ) → n + 1 ≡ suc n
    plus n = omega arith

sift_course : (test : Value → Bool) (t : Task) (b h : ObjId) (m : Sifts test t b h) (ts : List Turn) (r : Value)
    (after : Held) → Sifting test t b h ts r after
sift_course test t b h m [] r after = λ held v ps n e less c.
    let p = pass_of t held v.source in
    record {
      settled = [];
      puts = subst (λ (qs : List HashItem). Settles (PutsPicked test h) qs [] [])
          (sym (none_at_end test t b h m held v.source ps n e c.none)) tt;
      visits = visits_none (pass_of t) held v.source b Whole alone (λ k xs. IsValue k (Obj h) r after) c.none c.none refl
          (subst (λ (k : Held). IsValue k (Obj h) r after) (pass_held t held v.source c.none)
          (m.maker.gives p.held (with_source v p) r c.last after c.ends));
    }
sift_course test t b h m (each ∷ ts) r after = λ held v ps n e less c.
    let p = pass_of t held v.source in
    let u : Visit = at_item v p c.item c.site in
    let pair = at_turn test t b h m held v.source ps n c.item e c.there in
    let one_is = counted n (omega (arith, less)) in
    let still : one_more n + length ts < 2 ^ 64 = omega (arith, less, one_is) in
    let g = going_by (λ k w. Course b one ts k w r after) ts r after (λ k. PutsPicked test h pair.pair each.answer each.held k)
    (with_made t b h u) (heard each.held (with_made t b h u) each.answer)
    (m.does each.held u each.answer pair.pair (is_behind ps n pair.pair p.source one_is pair.there pair.behind)) c.rest in
    let more = sift_course test t b h m ts r after g.after u ps (one_more n) pair.behind still g.rest in
    record {
      settled = settled_in each g.after ∷ more.settled;
      puts = one_settled test h ps n pair.pair each g.after ts more.settled pair.there one_is g.done more.puts;
      visits = visits_more (pass_of t) held v.source b Whole alone alone (settled_in each g.after) more.settled c.item
          (c.item ∷ []) (λ k xs. IsValue k (Obj h) r after) (λ k xs. IsValue k (Obj h) r after) c.there c.called c.asked
          more.visits (λ NoneLeft e. e) (λ xs. refl) (λ k xs is. is);
    }

-- `select` and `reject`

abbrev kept : Held → Visit → ObjId → Bool → Option HashItem → Heard
kept held v h c o = if c then keep_pair held v (Some h) o else onward held v

kept_keeps : (t : Task) (b h : ObjId) (held : Held) (v : Visit) (c : Bool) (o : Option HashItem)
    → Keeps (Making t b h) (kept held (with_made t b h v) h c o)
kept_keeps t b h held v true None = makes t b h (keeping v (v.item ∷ []))
kept_keeps t b h held v true (Some p) = put_keeps t b h v (keyed.put held h p.shown p.value) held
kept_keeps t b h held v false o = makes t b h v

kept_does : (t : Task) (b h : ObjId) (held : Held) (v : Visit) (c : Bool) (p : HashItem)
    → Does (λ after. PutIf c h p held after) (with_made t b h v) (kept held (with_made t b h v) h c (Some p))
kept_does t b h held v true p =
    put_does held h p.shown p.value (with_made t b h v) (keyed.put held h p.shown p.value) held refl
kept_does t b h held v false p = (refl, refl)

-- of one that keeps the others
abbrev others : Held → Visit → ObjId → Bool → Option HashItem → Heard
others held v h c o = if c then onward held v else keep_pair held v (Some h) o

others_kept : (held : Held) (v : Visit) (h : ObjId) (c : Bool) (o : Option HashItem)
    → others held v h c o ≡ kept held v h (not c) o
others_kept held v h true o = refl
others_kept held v h false o = refl

select_makes : (b h : ObjId) → Maker task.Select b h
select_makes b h = record {
  asks = λ held v. refl;
  calls = λ held v. refl;
  hears = λ held v a. kept_keeps task.Select b h held v (is_true a) (passed_pair v.source);
  settles = λ held v w u later e. settled_by held later (with_made task.Select b h v) u (Obj h) w e;
  gives = λ held v r u after e. value_by held after (with_made task.Select b h v) u (Obj h) r e;
}

reject_makes : (b h : ObjId) → Maker task.Reject b h
reject_makes b h = record {
  asks = λ held v. refl;
  calls = λ held v. refl;
  hears = λ held v a. subst (λ (x : Heard). Keeps (Making task.Reject b h) x)
      (sym (others_kept held (with_made task.Reject b h v) h (is_true a) (passed_pair v.source)))
      (kept_keeps task.Reject b h held v (is_untrue a) (passed_pair v.source));
  settles = λ held v w u later e. settled_by held later (with_made task.Reject b h v) u (Obj h) w e;
  gives = λ held v r u after e. value_by held after (with_made task.Reject b h v) u (Obj h) r e;
}

pub selects : (b h : ObjId) → Sifts is_true task.Select b h
selects b h = record {
  maker = select_makes b h;
  forwards = λ held s. refl;
  does = λ held v a p e. subst (λ (o : Option HashItem). Does (λ after. PutsPicked is_true h p a held after)
      (with_made task.Select b h v) (kept held (with_made task.Select b h v) h (is_true a) o)) (sym e)
      (kept_does task.Select b h held v (is_true a) p);
}

pub rejects : (b h : ObjId) → Sifts is_untrue task.Reject b h
rejects b h = record {
  maker = reject_makes b h;
  forwards = λ held s. refl;
  does = λ held v a p e. subst (λ (o : Option HashItem). Does (λ after. PutsPicked is_untrue h p a held after)
      (with_made task.Reject b h v) (others held (with_made task.Reject b h v) h (is_true a) o)) (sym e)
      (subst (λ (x : Heard). Does (λ after. PutsPicked is_untrue h p a held after) (with_made task.Reject b h v) x)
      (sym (others_kept held (with_made task.Reject b h v) h (is_true a) (Some p)))
      (kept_does task.Reject b h held v (is_untrue a) p));
}

pub hash_selected : (held after : Held) (recv v : Value) (ps : List HashItem) (b : ObjId) (ts : List Turn)
    → length ts < 2 ^ 64 → IsRunOf task.Select held recv (source.Pairs ps 0) [] b ts v after
    → PicksPairs is_true held ps b ts v after
hash_selected held after recv v ps b ts less is =
    let st = begun_so task.Select held recv (source.Pairs ps 0) [] b None None 0 ts v after refl is in
    let h = next_number st.begun.store in
    let u = visit_of task.Select recv (source.Pairs ps 0) (Some h) (arguments None None 0) (Some b) in
    let c = course (Making task.Select b h) b one (plain task.Select b h (select_makes b h)) ts v after
    (keyed.with_hash st.begun) u st.first (makes task.Select b h u) st.begins st.runs in
    let k = sift_course is_true task.Select b h (selects b h) ts v after (keyed.with_hash st.begun) u ps 0 refl
    (omega (arith, less)) c in
    record { begun = st.begun; same = st.same; settled = k.settled; puts = k.puts; visits = k.visits }

pub hash_rejected : (held after : Held) (recv v : Value) (ps : List HashItem) (b : ObjId) (ts : List Turn)
    → length ts < 2 ^ 64 → IsRunOf task.Reject held recv (source.Pairs ps 0) [] b ts v after
    → PicksPairs is_untrue held ps b ts v after
hash_rejected held after recv v ps b ts less is =
    let st = begun_so task.Reject held recv (source.Pairs ps 0) [] b None None 0 ts v after refl is in
    let h = next_number st.begun.store in
    let u = visit_of task.Reject recv (source.Pairs ps 0) (Some h) (arguments None None 0) (Some b) in
    let c = course (Making task.Reject b h) b one (plain task.Reject b h (reject_makes b h)) ts v after
    (keyed.with_hash st.begun) u st.first (makes task.Reject b h u) st.begins st.runs in
    let k = sift_course is_untrue task.Reject b h (rejects b h) ts v after (keyed.with_hash st.begun) u ps 0 refl
    (omega (arith, less)) c in
    record { begun = st.begun; same = st.same; settled = k.settled; puts = k.puts; visits = k.visits }
