-- `inject` that begins with its first item.
use Rattle.std.proofs.Common.{◌≡◌, refl, ap, subst, ◌∙◌, List, [], ◌∷◌}
use Rattle.std.specs.Prelude.{Bool, true, false, if◌then◌else◌, nat_eq, slice_get, Option, Some, None}
use Rattle.rb_value.specs.declared.value.Value.{Value}
use Rattle.rb_value.specs.declared.value.ObjId.{ObjId}
use Rattle.rb_value.specs.declared.hash.HashItem.{HashItem}
use Rattle.def_core.specs.Parts.{elements_at}
use Rattle.def_core.specs.Store.{Store}
use Rattle.rb_store.specs.Held.{Held, one_more}
use Rattle.def_plans.specs.Plan.{Planned}
use Rattle.iter_items.specs.declared.row.Task.TheVariants as task
use Rattle.iter_items.specs.declared.source.Source.{Source}
use Rattle.iter_items.specs.declared.source.Source.TheVariants as source
use Rattle.iter_items.specs.declared.visit.Visit.{Visit}
use Rattle.iter_items.specs.Asking.{visited}
use Rattle.iter_items.specs.Driving.{WantsOf, Begins, begins}
use Rattle.iter_items.specs.Sources.{next, pair_passed, no_more, passes, without_first, number_item}
use Rattle.iter_items.specs.Stage as over_items
use Rattle.items_laws.specs.Run.{Turn}
use Rattle.items_laws.specs.Items.{IsRunOf, IsValue, answers}
use Rattle.items_laws.specs.Lists.{in_turn, last_of}
use Rattle.items_laws.specs.Firsts.{FoldsOn}
use Rattle.items_laws.proofs.Begun.{begun_so}
use Rattle.items_laws.proofs.Course.{course}
use Rattle.items_laws.proofs.Fitted.{Fits, fits}
use Rattle.items_laws.proofs.Folded.{injecting, injects}
use Rattle.items_laws.proofs.Inversion.{begun}
use Rattle.items_laws.proofs.Methods.{first_of_all, plain, visits_so, whole_visits}

-- the next item is the same in heaps of the same store

pair_same : (h k : Held) (s : Source) (o : Option HashItem) → h.store ≡ k.store
    → (pair_passed h s o).item ≡ (pair_passed k s o).item
pair_same h k s None same = refl
pair_same h k s (Some p) same = ap (λ (st : Store). (pair_passed (record h { store = st }) s (Some p)).item) same

pub next_same : (h k : Held) (s : Source) → h.store ≡ k.store → (next h s).item ≡ (next k s).item
next_same h k (source.Elements a n) same = ap (λ (st : Store). slice_get (elements_at st.objects a) n) same
next_same h k (source.Pairs ps n) same = pair_same h k (source.Pairs ps (one_more n)) (slice_get ps n) same
next_same h k (source.Numbers n) same =
    ap (λ (st : Store). (next (record h { store = st }) (source.Numbers n)).item) same ∙ counted (nat_eq n.left 0)
  where
    bytes : (c : Bool) → (number_item (record h { store = k.store }) c n.first).value ≡ (number_item k c n.first).value
    bytes true = refl
    bytes false = refl

    counted : (c : Bool)
        → (if c then no_more (record h { store = k.store }) n
        else passes (without_first n) (number_item (record h { store = k.store }) n.as_bytes n.first)).item
        ≡ (if c then no_more k n else passes (without_first n) (number_item k n.as_bytes n.first)).item
    counted true = refl
    counted false = ap (λ (x : Value). Some x) (bytes n.as_bytes)

-- the visit behind the first item

abbrev pub behind_first : Held → Source → Value → Visit → Visit
behind_first held s first v = record v { value = Some first; source = (next held s).source }

pub begins_behind : (held : Held) (recv : Value) (s : Source) (b : ObjId) (first : Value) (p : Planned over_items.Stage)
    → (next held s).item ≡ Some first
    → Begins held (first_of_all (injecting b) recv s None None 0) p
    → Begins (next held s).held (behind_first held s first (first_of_all (injecting b) recv s None None 0)) p
begins_behind held recv s b first p there beginning =
    let v : Visit = first_of_all (injecting b) recv s None None 0 in
    let g = begun held v p beginning in
    begins (next held s).held g.later (behind_first held s first v) g.visit g.wish p
    (subst (λ (o : Option Value).
    WantsOf (visited (next held s).held (record v { value = o; source = (next held s).source })) g.wish g.visit g.later)
    there g.wants) g.comes

pub folded_on : (held after : Held) (recv v first : Value) (s : Source) (b : ObjId) (ts : List Turn)
    → (next held s).item ≡ Some first → IsRunOf task.Inject held recv s [] b ts v after
    → FoldsOn held s b ts first v after
folded_on held after recv v first s b ts there is =
    let st = begun_so task.Inject held recv s [] b None None 0 ts v after refl is in
    let item = next_same st.begun held s st.same ∙ there in
    let u : Visit = behind_first st.begun s first (first_of_all (injecting b) recv s None None 0) in
    let beginning = begins_behind st.begun recv s b first st.first item st.begins in
    record {
      begun = st.begun;
      same = st.same;
      there = item;
      visits = whole_visits next (next st.begun s).held (next st.begun s).source b (in_turn (first ∷ answers ts)) ts
          (λ h items. IsValue h (last_of first (answers ts)) v after)
          (visits_so (injecting b) (injects b) ts (next st.begun s).held v after u
          (course (Fits task.Inject b (injecting b).values (injecting b).names) b (injecting b).with_values (plain (injecting b) (injects b)) ts v after
          (next st.begun s).held u st.first (fits task.Inject b (injecting b).values (injecting b).names u) beginning
          st.runs));
    }
