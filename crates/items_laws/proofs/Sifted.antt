-- Methods that keep the items by their answers.
use Rattle.std.proofs.Common.{◌≡◌, refl, sym, subst, List, [], ◌∷◌, ◌++◌, append_assoc, append-nil}
use Rattle.std.specs.Prelude.{Bool, true, false, not, if◌then◌else◌, None}
use Rattle.rb_value.specs.declared.value.Value.{Value}
use Rattle.rb_value.specs.declared.value.ObjId.{ObjId}
use Rattle.rb_store.specs.Held.{Held}
use Rattle.iter_items.specs.declared.row.Task.TheVariants as task
use Rattle.iter_items.specs.declared.source.Source.{Source}
use Rattle.iter_items.specs.declared.visit.Visit.{Visit}
use Rattle.items_laws.specs.Run.{Turn}
use Rattle.rb_value.specs.Value.{is_true}
use Rattle.heap.specs.Made.{array_given, with_array}
use Rattle.iter_items.specs.Hearing.{keeping, onward}
use Rattle.iter_items.specs.Sources.{next, is_pairs}
use Rattle.items_laws.specs.Items.{Iterates, IsRunOf, IsArrayOf, Whole, answers}
use Rattle.items_laws.specs.Lists.{alone, picked, is_untrue}
use Rattle.items_laws.proofs.Course.{at_item}
use Rattle.items_laws.proofs.Fitted.{fitted}
use Rattle.items_laws.proofs.Methods.{Shape, Method, iterates_so, whole, never, nowhere, fit, as_it_is}
use Rattle.items_laws.proofs.Visits.{one, settled_by, array_by}

-- the item is kept, or not

abbrev kept_if : Bool → Visit → Visit
kept_if true v = keeping v (v.item ∷ [])
kept_if false v = v

abbrev sifting : (Value → Bool) → Visit → Value → Visit
sifting test v a = kept_if (test a) v

source_by : (v : Visit) (c : Bool) → (kept_if c v).source ≡ v.source
source_by v true = refl
source_by v false = refl

kept_by : (v : Visit) (xs : List Value) (r : Value) (after h : Held) (c : Bool)
    → IsArrayOf h ((kept_if c v).kept ++ xs) r after
    → IsArrayOf h (v.kept ++ (if c then v.item ∷ xs else xs)) r after
kept_by v xs r after h true is =
    subst (λ (vs : List Value). IsArrayOf h vs r after) (append_assoc v.kept (v.item ∷ []) xs) is
kept_by v xs r after h false is = is

stays_if : (b : ObjId) (held : Held) (v : Visit) (c : Bool)
    → (if c then onward held (keeping (fitted task.Select b as_it_is as_it_is v) (v.item ∷ [])) else onward held (fitted task.Select b as_it_is as_it_is v))
    ≡ onward held (fitted task.Select b as_it_is as_it_is (kept_if c v))
stays_if b held v true = refl
stays_if b held v false = refl

goes_if : (b : ObjId) (held : Held) (v : Visit) (c : Bool)
    → (if c then onward held (fitted task.Reject b as_it_is as_it_is v) else onward held (keeping (fitted task.Reject b as_it_is as_it_is v) (v.item ∷ [])))
    ≡ onward held (fitted task.Reject b as_it_is as_it_is (kept_if (not c) v))
goes_if b held v true = refl
goes_if b held v false = refl

-- `select`

abbrev pub selecting : ObjId → Shape
selecting b = record {
  task = task.Select;
  block = b;
  values = as_it_is;
  names = as_it_is;
  with_values = one;
  stops = never;
  step = λ held v a. sifting is_true v a;
  stopped = nowhere;
  calls_with = λ v ns xs. alone xs;
  holds = λ v ns xs r after h. IsArrayOf h (v.kept ++ picked is_true xs (answers ns)) r after;
}

pub selects : (b : ObjId) → Method (selecting b)
selects b = record {
  asks = λ held v. refl;
  calls = λ held v. refl;
  ends = λ held v w u later e. settled_by (with_array held v.kept) later (record (fit (selecting b) v) { kept = [] }) u
      (array_given held.store v.kept) w e;
  goes = λ held v a e. stays_if b held v (is_true a);
  halts = λ held v a e. absurd (cc);
  same_source = λ held v a. source_by v (is_true a);
  no_args = λ v. refl;
  more_args = λ v p site n ns x xs. refl;
  last = λ held v p r u after e. subst (λ (vs : List Value). IsArrayOf held vs r after) (sym (append-nil v.kept))
      (array_by held after (record (fit (selecting b) v) { source = p.source; kept = [] }) u v.kept r e);
  stop = λ v p site n x e. absurd (cc);
  further = λ v p site n ns x xs r after h e is. kept_by (at_item v p x site) (picked is_true xs (answers ns)) r after h
      (is_true n.answer) is;
}

pub selected : (held after : Held) (recv v : Value) (s : Source) (b : ObjId) (ts : List Turn)
    → is_pairs s ≡ false → IsRunOf task.Select held recv s [] b ts v after
    → Iterates next held s b Whole alone ts (λ h items. IsArrayOf h (picked is_true items (answers ts)) v after)
selected held after recv v s b ts no_hash is =
    whole next held s b alone ts (λ h items. IsArrayOf h (picked is_true items (answers ts)) v after)
    (iterates_so (selecting b) (selects b) held recv s [] None None 0 ts v after refl refl no_hash is)

-- `reject`

abbrev pub rejecting : ObjId → Shape
rejecting b = record {
  task = task.Reject;
  block = b;
  values = as_it_is;
  names = as_it_is;
  with_values = one;
  stops = never;
  step = λ held v a. sifting is_untrue v a;
  stopped = nowhere;
  calls_with = λ v ns xs. alone xs;
  holds = λ v ns xs r after h. IsArrayOf h (v.kept ++ picked is_untrue xs (answers ns)) r after;
}

pub rejects : (b : ObjId) → Method (rejecting b)
rejects b = record {
  asks = λ held v. refl;
  calls = λ held v. refl;
  ends = λ held v w u later e. settled_by (with_array held v.kept) later (record (fit (rejecting b) v) { kept = [] }) u
      (array_given held.store v.kept) w e;
  goes = λ held v a e. goes_if b held v (is_true a);
  halts = λ held v a e. absurd (cc);
  same_source = λ held v a. source_by v (is_untrue a);
  no_args = λ v. refl;
  more_args = λ v p site n ns x xs. refl;
  last = λ held v p r u after e. subst (λ (vs : List Value). IsArrayOf held vs r after) (sym (append-nil v.kept))
      (array_by held after (record (fit (rejecting b) v) { source = p.source; kept = [] }) u v.kept r e);
  stop = λ v p site n x e. absurd (cc);
  further = λ v p site n ns x xs r after h e is. kept_by (at_item v p x site) (picked is_untrue xs (answers ns)) r after h
      (is_untrue n.answer) is;
}

pub rejected : (held after : Held) (recv v : Value) (s : Source) (b : ObjId) (ts : List Turn)
    → is_pairs s ≡ false → IsRunOf task.Reject held recv s [] b ts v after
    → Iterates next held s b Whole alone ts (λ h items. IsArrayOf h (picked is_untrue items (answers ts)) v after)
rejected held after recv v s b ts no_hash is =
    whole next held s b alone ts (λ h items. IsArrayOf h (picked is_untrue items (answers ts)) v after)
    (iterates_so (rejecting b) (rejects b) held recv s [] None None 0 ts v after refl refl no_hash is)
