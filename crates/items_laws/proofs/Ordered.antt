-- Methods that order their items by the answers, or part them.
use Rattle.std.proofs.Common.{◌≡◌, refl, sym, ap, subst, List, [], ◌∷◌, ◌++◌, append_assoc, append-nil}
use Rattle.std.specs.Prelude.{Bool, true, false, not, if◌then◌else◌, None, Result, Ok, Err}
use Rattle.rb_value.specs.declared.value.Value.{Value}
use Rattle.rb_value.specs.declared.value.ObjId.{ObjId}
use Rattle.rb_store.specs.Held.{Held}
use Rattle.iter_items.specs.declared.row.Task.TheVariants as task
use Rattle.iter_items.specs.declared.source.Source.{Source}
use Rattle.iter_items.specs.declared.visit.Visit.{Visit}
use Rattle.items_laws.specs.Run.{Turn}
use Rattle.rb_value.specs.Value.{is_true}
use Rattle.def_core.specs.declared.cause.Cause.{Cause}
use Rattle.heap.specs.Made.{array_given, with_array}
use Rattle.rows_items.specs.declared.sorting.Extreme.{Extreme}
use Rattle.rows_items.specs.declared.sorting.Extreme.TheVariants.{Least, Greatest}
use Rattle.iter_items.specs.declared.wish.Wish.{Wish}
use Rattle.iter_items.specs.declared.wish.Wish.TheVariants as wish
use Rattle.iter_items.specs.Asking.{Wished, wishes}
use Rattle.iter_items.specs.Driving.{IsLeft, IsSorted, ended_by, extreme, parts, with_parts}
use Rattle.iter_items.specs.Hearing.{keeping, setting_aside, keyed_by, onward}
use Rattle.iter_items.specs.Keyed.{extreme_item}
use Rattle.iter_items.specs.Sources.{next}
use Rattle.items_laws.specs.Items.{Iterates, IsRunOf, Whole, answers}
use Rattle.items_laws.specs.Lists.{alone, picked, is_untrue}
use Rattle.items_laws.specs.Keys.{IsExtreme, IsSortedBy, ArePartsOf}
use Rattle.items_laws.proofs.Course.{Settled, at_item}
use Rattle.items_laws.proofs.Fitted.{fitted}
use Rattle.items_laws.proofs.Methods.{Shape, Method, iterates_so, whole, never, nowhere, fit, as_it_is}
use Rattle.items_laws.proofs.Visits.{one, settled_by, settled_as, value_by}
use Rattle.items_laws.proofs.Small.{some_same}

-- `min_by` and `max_by`

ends_settled : (x : Result Value Cause) → Settled (ended_by x)
ends_settled (Ok u) = tt
ends_settled (Err c) = tt

ends_of : (x : Result Value Cause) (r : Value) → ended_by x ≡ wish.Ends r → x ≡ Ok r
ends_of (Ok u) r e = ap Ok (ends_same u r e)
  where
    ends_same : (u r : Value) → wish.Ends u ≡ wish.Ends r → u ≡ r
    ends_same u r e = cc
ends_of (Err c) r e = absurd (cc)

extreme_settled : (held later : Held) (v u : Visit) (x : Extreme) (w : Wish) → IsLeft (extreme held v x) w u later → Settled w
extreme_settled held later v u x w e = settled_as w (ended_by (extreme_item held.store v.kept v.others x))
    (sym (some_same (ended_by (extreme_item held.store v.kept v.others x)) w (ap (λ (a : Wished). a.wish) e)))
    (ends_settled (extreme_item held.store v.kept v.others x))

extreme_by : (held after : Held) (v u : Visit) (x : Extreme) (r : Value) → IsLeft (extreme held v x) (wish.Ends r) u after
    → IsExtreme x held v.kept v.others r after
extreme_by held after v u x r e = record {
  item = ends_of (extreme_item held.store v.kept v.others x) r
      (some_same (ended_by (extreme_item held.store v.kept v.others x)) (wish.Ends r) (ap (λ (a : Wished). a.wish) e));
  left = sym (ap (λ (a : Wished). a.held) e);
}

-- what holds of the items and keys so far and those to come

none_more : (Of : List Value → List Value → Type 0) (vs us : List Value) → Of vs us → Of (vs ++ []) (us ++ [])
none_more Of vs us is = subst (λ (xs : List Value). Of xs (us ++ [])) (sym (append-nil vs))
    (subst (λ (xs : List Value). Of vs xs) (sym (append-nil us)) is)

one_further : (Of : List Value → List Value → Type 0) (vs us xs ys : List Value) (x y : Value)
    → Of ((vs ++ x ∷ []) ++ xs) ((us ++ y ∷ []) ++ ys) → Of (vs ++ x ∷ xs) (us ++ y ∷ ys)
one_further Of vs us xs ys x y is =
    subst (λ (zs : List Value). Of zs (us ++ y ∷ ys)) (append_assoc vs (x ∷ []) xs)
    (subst (λ (zs : List Value). Of ((vs ++ x ∷ []) ++ xs) zs) (append_assoc us (y ∷ []) ys) is)

abbrev pub seeking_least : ObjId → Shape
seeking_least b = record {
  task = task.MinBy;
  block = b;
  values = as_it_is;
  names = as_it_is;
  with_values = one;
  stops = never;
  step = λ held v a. keyed_by v a;
  stopped = nowhere;
  calls_with = λ v ns xs. alone xs;
  holds = λ v ns xs r after h. IsExtreme Least h (v.kept ++ xs) (v.others ++ answers ns) r after;
}

pub seeks_least : (b : ObjId) → Method (seeking_least b)
seeks_least b = record {
  asks = λ held v. refl;
  calls = λ held v. refl;
  ends = λ held v w u later e. extreme_settled held later (fit (seeking_least b) v) u Least w e;
  goes = λ held v a e. refl;
  halts = λ held v a e. absurd (cc);
  same_source = λ held v a. refl;
  no_args = λ v. refl;
  more_args = λ v p site n ns x xs. refl;
  last = λ held v p r u after e. none_more (λ vs us. IsExtreme Least held vs us r after) v.kept v.others (extreme_by held after (record (fit (seeking_least b) v) { source = p.source }) u Least r e);
  stop = λ v p site n x e. absurd (cc);
  further = λ v p site n ns x xs r after h e is. one_further (λ vs us. IsExtreme Least h vs us r after) v.kept v.others xs (answers ns) x n.answer is;
}

pub least : (held after : Held) (recv v : Value) (s : Source) (b : ObjId) (ts : List Turn)
    → IsRunOf task.MinBy held recv s [] b ts v after
    → Iterates next held s b Whole alone ts (λ h items. IsExtreme Least h items (answers ts) v after)
least held after recv v s b ts is =
    whole next held s b alone ts (λ h items. IsExtreme Least h items (answers ts) v after)
    (iterates_so (seeking_least b) (seeks_least b) held recv s [] None None 0 ts v after refl refl refl is)

abbrev pub seeking_greatest : ObjId → Shape
seeking_greatest b = record {
  task = task.MaxBy;
  block = b;
  values = as_it_is;
  names = as_it_is;
  with_values = one;
  stops = never;
  step = λ held v a. keyed_by v a;
  stopped = nowhere;
  calls_with = λ v ns xs. alone xs;
  holds = λ v ns xs r after h. IsExtreme Greatest h (v.kept ++ xs) (v.others ++ answers ns) r after;
}

pub seeks_greatest : (b : ObjId) → Method (seeking_greatest b)
seeks_greatest b = record {
  asks = λ held v. refl;
  calls = λ held v. refl;
  ends = λ held v w u later e. extreme_settled held later (fit (seeking_greatest b) v) u Greatest w e;
  goes = λ held v a e. refl;
  halts = λ held v a e. absurd (cc);
  same_source = λ held v a. refl;
  no_args = λ v. refl;
  more_args = λ v p site n ns x xs. refl;
  last = λ held v p r u after e. none_more (λ vs us. IsExtreme Greatest held vs us r after) v.kept v.others (extreme_by held after (record (fit (seeking_greatest b) v) { source = p.source }) u Greatest r e);
  stop = λ v p site n x e. absurd (cc);
  further = λ v p site n ns x xs r after h e is. one_further (λ vs us. IsExtreme Greatest h vs us r after) v.kept v.others xs (answers ns) x n.answer is;
}

pub greatest : (held after : Held) (recv v : Value) (s : Source) (b : ObjId) (ts : List Turn)
    → IsRunOf task.MaxBy held recv s [] b ts v after
    → Iterates next held s b Whole alone ts (λ h items. IsExtreme Greatest h items (answers ts) v after)
greatest held after recv v s b ts is =
    whole next held s b alone ts (λ h items. IsExtreme Greatest h items (answers ts) v after)
    (iterates_so (seeking_greatest b) (seeks_greatest b) held recv s [] None None 0 ts v after refl refl refl is)

-- `sort_by`

sorted_settled : (held later : Held) (v u : Visit) (w : Wish) → IsSorted held v w u later → Settled w
sorted_settled held later v u (wish.Ends x) e = tt
sorted_settled held later v u (wish.Fails c) e = tt
sorted_settled held later v u (wish.Raises e) f = f
sorted_settled held later v u (wish.Calls b) f = f
sorted_settled held later v u (wish.Asks recv argument) f = f

abbrev pub sorting : ObjId → Shape
sorting b = record {
  task = task.SortBy;
  block = b;
  values = as_it_is;
  names = as_it_is;
  with_values = one;
  stops = never;
  step = λ held v a. keyed_by v a;
  stopped = nowhere;
  calls_with = λ v ns xs. alone xs;
  holds = λ v ns xs r after h. IsSortedBy h (v.kept ++ xs) (v.others ++ answers ns) r after;
}

pub sorts : (b : ObjId) → Method (sorting b)
sorts b = record {
  asks = λ held v. refl;
  calls = λ held v. refl;
  ends = λ held v w u later e. sorted_settled held later (fit (sorting b) v) u w e;
  goes = λ held v a e. refl;
  halts = λ held v a e. absurd (cc);
  same_source = λ held v a. refl;
  no_args = λ v. refl;
  more_args = λ v p site n ns x xs. refl;
  last = λ held v p r u after e. none_more (λ vs us. IsSortedBy held vs us r after) v.kept v.others e.1;
  stop = λ v p site n x e. absurd (cc);
  further = λ v p site n ns x xs r after h e is. one_further (λ vs us. IsSortedBy h vs us r after) v.kept v.others xs (answers ns) x n.answer is;
}

pub ordered : (held after : Held) (recv v : Value) (s : Source) (b : ObjId) (ts : List Turn)
    → IsRunOf task.SortBy held recv s [] b ts v after
    → Iterates next held s b Whole alone ts (λ h items. IsSortedBy h items (answers ts) v after)
ordered held after recv v s b ts is =
    whole next held s b alone ts (λ h items. IsSortedBy h items (answers ts) v after)
    (iterates_so (sorting b) (sorts b) held recv s [] None None 0 ts v after refl refl refl is)

-- `partition`

abbrev part_by : Bool → Visit → Visit
part_by true v = keeping v (v.item ∷ [])
part_by false v = setting_aside v (v.item ∷ [])

part_source : (v : Visit) (c : Bool) → (part_by c v).source ≡ v.source
part_source v true = refl
part_source v false = refl

parts_so : (b : ObjId) (held : Held) (v : Visit) (c : Bool)
    → onward held (if c then keeping (fitted task.Partition b as_it_is as_it_is v) (v.item ∷ [])
    else setting_aside (fitted task.Partition b as_it_is as_it_is v) (v.item ∷ []))
    ≡ onward held (fitted task.Partition b as_it_is as_it_is (part_by c v))
parts_so b held v true = refl
parts_so b held v false = refl

parted_by : (v : Visit) (xs ys : List Value) (r : Value) (after h : Held) (c : Bool)
    → ArePartsOf h ((part_by c v).kept ++ xs) ((part_by c v).others ++ ys) r after
    → ArePartsOf h (v.kept ++ (if c then v.item ∷ xs else xs)) (v.others ++ (if not c then v.item ∷ ys else ys)) r after
parted_by v xs ys r after h true is = subst (λ (vs : List Value). ArePartsOf h vs (v.others ++ ys) r after)
    (append_assoc v.kept (v.item ∷ []) xs) is
parted_by v xs ys r after h false is = subst (λ (vs : List Value). ArePartsOf h (v.kept ++ xs) vs r after)
    (append_assoc v.others (v.item ∷ []) ys) is

parts_by : (held later : Held) (v u : Visit) (vs us : List Value) (r : Value)
    → IsLeft (wishes (with_array (with_parts held vs us) (parts held vs us)) v
    (wish.Ends (array_given (with_parts held vs us).store (parts held vs us)))) (wish.Ends r) u later
    → ArePartsOf held vs us r later
parts_by held later v u vs us r e =
    let k = value_by (with_array (with_parts held vs us) (parts held vs us)) later v u
    (array_given (with_parts held vs us).store (parts held vs us)) r e in
    record { value = k.value; left = k.left }

abbrev pub parting : ObjId → Shape
parting b = record {
  task = task.Partition;
  block = b;
  values = as_it_is;
  names = as_it_is;
  with_values = one;
  stops = never;
  step = λ held v a. part_by (is_true a) v;
  stopped = nowhere;
  calls_with = λ v ns xs. alone xs;
  holds = λ v ns xs r after h. ArePartsOf h (v.kept ++ picked is_true xs (answers ns)) (v.others ++ picked is_untrue xs (answers ns)) r after;
}

pub parts_items : (b : ObjId) → Method (parting b)
parts_items b = record {
  asks = λ held v. refl;
  calls = λ held v. refl;
  ends = λ held v w u later e. settled_by (with_array (with_parts held v.kept v.others) (parts held v.kept v.others)) later (record (fit (parting b) v) { kept = []; others = [] }) u (array_given (with_parts held v.kept v.others).store (parts held v.kept v.others)) w e;
  goes = λ held v a e. parts_so b held v (is_true a);
  halts = λ held v a e. absurd (cc);
  same_source = λ held v a. part_source v (is_true a);
  no_args = λ v. refl;
  more_args = λ v p site n ns x xs. refl;
  last = λ held v p r u after e. none_more (λ vs us. ArePartsOf held vs us r after) v.kept v.others (parts_by held after (record (fit (parting b) v) { source = p.source; kept = []; others = [] }) u v.kept v.others r e);
  stop = λ v p site n x e. absurd (cc);
  further = λ v p site n ns x xs r after h e is. parted_by (at_item v p x site) (picked is_true xs (answers ns)) (picked is_untrue xs (answers ns)) r after h (is_true n.answer) is;
}

pub parted : (held after : Held) (recv v : Value) (s : Source) (b : ObjId) (ts : List Turn)
    → IsRunOf task.Partition held recv s [] b ts v after
    → Iterates next held s b Whole alone ts (λ h items.
    ArePartsOf h (picked is_true items (answers ts)) (picked is_untrue items (answers ts)) v after)
parted held after recv v s b ts is =
    whole next held s b alone ts (λ h items.
    ArePartsOf h (picked is_true items (answers ts)) (picked is_untrue items (answers ts)) v after)
    (iterates_so (parting b) (parts_items b) held recv s [] None None 0 ts v after refl refl refl is)
