-- `group_by`.
use Rattle.std.proofs.Common.{refl, subst, List, [], ◌∷◌}
use Rattle.std.specs.Prelude.{Option, Some, None}
use Rattle.rb_value.specs.declared.value.Value.{Value}
use Rattle.rb_value.specs.declared.value.Value.TheVariants.{Obj}
use Rattle.rb_value.specs.declared.value.ObjId.{ObjId}
use Rattle.rb_value.specs.declared.key.Key.{Key}
use Rattle.rb_value.specs.declared.hash.HashItem.{HashItem}
use Rattle.def_core.specs.Parts.{pair_of}
use Rattle.def_core.specs.Store.{next_number}
use Rattle.def_calls.specs.Values.{key_of}
use Rattle.def_calls.specs.Views.{an_array}
use Rattle.rb_store.specs.Held.{Held}
use Rattle.heap.specs.Made.{array_given, with_array}
use Rattle.heap.specs.Operands.{own}
use Rattle.rows_items.specs.Keyed as keyed
use Rattle.iter_items.specs.declared.row.Task.TheVariants as task
use Rattle.iter_items.specs.declared.source.Source.{Source}
use Rattle.iter_items.specs.declared.visit.Visit.{Visit}
use Rattle.iter_items.specs.Asking.{with_source}
use Rattle.iter_items.specs.Checks.{arguments}
use Rattle.iter_items.specs.Driving.{visit_of}
use Rattle.iter_items.specs.Hearing.{heard, into_group, group_beside, group_under}
use Rattle.items_laws.specs.Run.{Turn}
use Rattle.items_laws.specs.Items.{Visits, IsRunOf, IsValue, Whole}
use Rattle.items_laws.specs.Lists.{alone}
use Rattle.items_laws.specs.Made.{JoinsAt, JoinsBeside, JoinsUnder, Joins, Groups}
use Rattle.items_laws.specs.Settled.{Settles}
use Rattle.items_laws.proofs.Begun.{begun_so}
use Rattle.items_laws.proofs.Course.{Course, Keeps, at_item, course}
use Rattle.items_laws.proofs.Made.{with_made, Making, makes, Does, Maker, plain, going_by, settled_in, put_does, put_keeps}
use Rattle.items_laws.proofs.Methods.{pass_of, pass_held}
use Rattle.items_laws.proofs.Visits.{one, settled_by, value_by, visits_none, visits_more}

-- What an answer leads to.

into_does : (held : Held) (v : Visit) (o : Option ObjId)
    → Does (λ after. JoinsAt held v.item o after) v (into_group held v o)
into_does held v None = (refl, refl)
into_does held v (Some group) = (refl, refl)

beside_does : (held : Held) (v : Visit) (h : ObjId) (a : Value) (o : Option HashItem)
    → Does (λ after. JoinsBeside h v.item a held o after) v (group_beside held v h a o)
beside_does held v h a (Some p) = into_does held v (an_array held.store.objects p.value)
beside_does held v h a None =
    let made = with_array held (v.item ∷ []) in
    let group = array_given held.store (v.item ∷ []) in
    put_does made h a group v (keyed.put made h a group) made refl

pub under_does : (held : Held) (v : Visit) (h : ObjId) (a : Value) (o : Option Key)
    → Does (λ after. JoinsUnder h v.item a held o after) v (group_under held v h a o)
under_does held v h a None = tt
under_does held v h a (Some k) = beside_does held v h a (pair_of held.store.objects h k)

into_keeps : (b h : ObjId) (held : Held) (v : Visit) (o : Option ObjId)
    → Keeps (Making task.GroupBy b h) (into_group held (with_made task.GroupBy b h v) o)
into_keeps b h held v None = makes task.GroupBy b h v
into_keeps b h held v (Some group) = makes task.GroupBy b h v

beside_keeps : (b h : ObjId) (held : Held) (v : Visit) (a : Value) (o : Option HashItem)
    → Keeps (Making task.GroupBy b h) (group_beside held (with_made task.GroupBy b h v) h a o)
beside_keeps b h held v a (Some p) = into_keeps b h held v (an_array held.store.objects p.value)
beside_keeps b h held v a None =
    let made = with_array held (v.item ∷ []) in
    put_keeps task.GroupBy b h v (keyed.put made h a (array_given held.store (v.item ∷ []))) made

under_keeps : (b h : ObjId) (held : Held) (v : Visit) (a : Value) (o : Option Key)
    → Keeps (Making task.GroupBy b h) (group_under held (with_made task.GroupBy b h v) h a o)
under_keeps b h held v a None = tt
under_keeps b h held v a (Some k) = beside_keeps b h held v a (pair_of held.store.objects h k)

pub group_makes : (b h : ObjId) → Maker task.GroupBy b h
group_makes b h = record {
  asks = λ held v. refl;
  calls = λ held v. refl;
  hears = λ held v a. under_keeps b h held v a (key_of held.store.objects (own held.store a));
  settles = λ held v w u later e. settled_by held later (with_made task.GroupBy b h v) u (Obj h) w e;
  gives = λ held v r u after e. value_by held after (with_made task.GroupBy b h v) u (Obj h) r e;
}

-- The run.

record Grouped (held : Held) (s : Source) (b h : ObjId) (ts : List Turn) (r : Value) (after : Held) : Type 0 where
  settled : List Turn
  visits : Visits (pass_of task.GroupBy) held s b Whole alone settled
      (λ k xs. Settles (Joins h) xs ts settled × IsValue k (Obj h) r after)

group_course : (b h : ObjId) (ts : List Turn) (r : Value) (after : Held) (held : Held) (v : Visit)
    → Course b one ts held (with_made task.GroupBy b h v) r after → Grouped held v.source b h ts r after
group_course b h [] r after held v c =
    let p = pass_of task.GroupBy held v.source in
    record {
      settled = [];
      visits = visits_none (pass_of task.GroupBy) held v.source b Whole alone
          (λ k xs. Settles (Joins h) xs [] [] × IsValue k (Obj h) r after) c.none c.none refl (
            tt,
            subst (λ (k : Held). IsValue k (Obj h) r after) (pass_held task.GroupBy held v.source c.none)
                (value_by p.held after (with_made task.GroupBy b h (with_source v p)) c.last (Obj h) r c.ends),
          );
    }
group_course b h (n ∷ ts) r after held v c =
    let p = pass_of task.GroupBy held v.source in
    let u : Visit = at_item v p c.item c.site in
    let m = with_made task.GroupBy b h u in
    let g = going_by (λ k w. Course b one ts k w r after) ts r after (λ k. Joins h c.item n.answer n.held k)
    m (heard n.held m n.answer) (under_does n.held m h n.answer (key_of n.held.store.objects (own n.held.store n.answer)))
    c.rest in
    let more = group_course b h ts r after g.after u g.rest in
    record {
      settled = settled_in n g.after ∷ more.settled;
      visits = visits_more (pass_of task.GroupBy) held v.source b Whole alone alone (settled_in n g.after) more.settled
          c.item (c.item ∷ []) (λ k xs. Settles (Joins h) xs ts more.settled × IsValue k (Obj h) r after)
          (λ k xs. Settles (Joins h) xs (n ∷ ts) (settled_in n g.after ∷ more.settled) × IsValue k (Obj h) r after)
          c.there c.called c.asked more.visits (λ NoneLeft e. e) (λ xs. refl)
          (λ k xs is. ((refl, g.done, is.0), is.1));
    }

pub grouped : (held after : Held) (recv v : Value) (s : Source) (b : ObjId) (ts : List Turn)
    → IsRunOf task.GroupBy held recv s [] b ts v after → Groups held s b ts v after
grouped held after recv v s b ts is =
    let st = begun_so task.GroupBy held recv s [] b None None 0 ts v after refl is in
    let h = next_number st.begun.store in
    let u = visit_of task.GroupBy recv s (Some h) (arguments None None 0) (Some b) in
    let c = course (Making task.GroupBy b h) b one (plain task.GroupBy b h (group_makes b h)) ts v after
    (keyed.with_hash st.begun) u st.first (makes task.GroupBy b h u) st.begins st.runs in
    let k = group_course b h ts v after (keyed.with_hash st.begun) u c in
    record { begun = st.begun; same = st.same; settled = k.settled; visits = k.visits }
