-- Methods that stop at an answer.
use Rattle.std.proofs.Common.{◌≡◌, refl, sym, ap, List, [], ◌∷◌}
use Rattle.std.specs.Prelude.{Bool, true, false, not, None}
use Rattle.rb_value.specs.declared.value.Value.{Value}
use Rattle.rb_value.specs.declared.value.ObjId.{ObjId}
use Rattle.rb_store.specs.Held.{Held}
use Rattle.iter_items.specs.declared.row.Task.TheVariants as task
use Rattle.iter_items.specs.declared.source.Source.{Source}
use Rattle.items_laws.specs.Run.{Turn}
use Rattle.rb_value.specs.declared.value.Value.TheVariants.{Nil, True, False}
use Rattle.rb_value.specs.Value.{is_true, truth}
use Rattle.iter_items.specs.Hearing.{tallied}
use Rattle.iter_items.specs.Sources.{next}
use Rattle.items_laws.specs.Items.{Iterates, IsRunOf, IsValue, Until, answers}
use Rattle.items_laws.specs.Lists.{alone, picked, first_or_nil, any_of, is_untrue}
use Rattle.items_laws.proofs.Methods.{Shape, Method, iterates_so, fit, as_it_is}
use Rattle.items_laws.proofs.Visits.{one, settled_by, value_by}
use Rattle.items_laws.proofs.Small.{untrue_is, true_is, as_value}

-- by the test of the first answer

first_true : (a : Value) (x : Value) (xs us : List Value) → is_true a ≡ true
    → picked is_true (x ∷ xs) (a ∷ us) ≡ x ∷ picked is_true xs us
first_true a x xs us e = rw e refl

first_untrue : (a : Value) (x : Value) (xs us : List Value) → is_true a ≡ false
    → picked is_true (x ∷ xs) (a ∷ us) ≡ picked is_true xs us
first_untrue a x xs us e = rw e refl

-- `find`

abbrev pub finding : ObjId → Shape
finding b = record {
  task = task.Find;
  block = b;
  values = as_it_is;
  names = as_it_is;
  with_values = one;
  stops = is_true;
  step = λ held v a. tallied v;
  stopped = λ held v. record { value = v.item; held = held };
  calls_with = λ v ns xs. alone xs;
  holds = λ v ns xs r after h. IsValue h (first_or_nil (picked is_true xs (answers ns))) r after;
}

pub finds : (b : ObjId) → Method (finding b)
finds b = record {
  asks = λ held v. refl;
  calls = λ held v. refl;
  ends = λ held v w u later e. settled_by held later (fit (finding b) v) u Nil w e;
  goes = λ held v a e. rw e refl;
  halts = λ held v a e. record { visit = tallied (fit (finding b) v); same = rw e refl };
  same_source = λ held v a. refl;
  no_args = λ v. refl;
  more_args = λ v p site n ns x xs. refl;
  last = λ held v p r u after e. value_by held after (record (fit (finding b) v) { source = p.source }) u Nil r e;
  stop = λ v p site n x e. record { value = ap first_or_nil (sym (first_true n.answer x [] [] e)); left = refl };
  further = λ v p site n ns x xs r after h e is. as_value (first_or_nil (picked is_true (x ∷ xs) (n.answer ∷ answers ns))) (first_or_nil (picked is_true xs (answers ns))) r after h (ap first_or_nil (first_untrue n.answer x xs (answers ns) e)) is;
}

pub found : (held after : Held) (recv v : Value) (s : Source) (b : ObjId) (ts : List Turn)
    → IsRunOf task.Find held recv s [] b ts v after
    → Iterates next held s b (Until is_true) alone ts (λ h items. IsValue h (first_or_nil (picked is_true items (answers ts))) v after)
found held after recv v s b ts is = iterates_so (finding b) (finds b) held recv s [] None None 0 ts v after refl refl refl is

-- `any?`, `none?` and `all?`

any_true : (test : Value → Bool) (a : Value) (us : List Value) → test a ≡ true → any_of test (a ∷ us) ≡ true
any_true test a us e = rw e refl

any_untrue : (test : Value → Bool) (a : Value) (us : List Value) → test a ≡ false
    → any_of test (a ∷ us) ≡ any_of test us
any_untrue test a us e = rw e refl

abbrev pub telling_any : ObjId → Shape
telling_any b = record {
  task = task.Any;
  block = b;
  values = as_it_is;
  names = as_it_is;
  with_values = one;
  stops = is_true;
  step = λ held v a. tallied v;
  stopped = λ held v. record { value = True; held = held };
  calls_with = λ v ns xs. alone xs;
  holds = λ v ns xs r after h. IsValue h (truth (any_of is_true (answers ns))) r after;
}

pub tells_any : (b : ObjId) → Method (telling_any b)
tells_any b = record {
  asks = λ held v. refl;
  calls = λ held v. refl;
  ends = λ held v w u later e. settled_by held later (fit (telling_any b) v) u False w e;
  goes = λ held v a e. rw e refl;
  halts = λ held v a e. record { visit = tallied (fit (telling_any b) v); same = rw e refl };
  same_source = λ held v a. refl;
  no_args = λ v. refl;
  more_args = λ v p site n ns x xs. refl;
  last = λ held v p r u after e. value_by held after (record (fit (telling_any b) v) { source = p.source }) u False r e;
  stop = λ v p site n x e. record { value = ap truth (sym (any_true is_true n.answer [] e)); left = refl };
  further = λ v p site n ns x xs r after h e is. as_value (truth (any_of is_true (n.answer ∷ answers ns))) (truth (any_of is_true (answers ns))) r after h (ap truth (any_untrue is_true n.answer (answers ns) e)) is;
}

pub any_told : (held after : Held) (recv v : Value) (s : Source) (b : ObjId) (ts : List Turn)
    → IsRunOf task.Any held recv s [] b ts v after
    → Iterates next held s b (Until is_true) alone ts (λ h items. IsValue h (truth (any_of is_true (answers ts))) v after)
any_told held after recv v s b ts is = iterates_so (telling_any b) (tells_any b) held recv s [] None None 0 ts v after refl refl refl is

abbrev pub telling_none : ObjId → Shape
telling_none b = record {
  task = task.Never;
  block = b;
  values = as_it_is;
  names = as_it_is;
  with_values = one;
  stops = is_true;
  step = λ held v a. tallied v;
  stopped = λ held v. record { value = False; held = held };
  calls_with = λ v ns xs. alone xs;
  holds = λ v ns xs r after h. IsValue h (truth (not (any_of is_true (answers ns)))) r after;
}

pub tells_none : (b : ObjId) → Method (telling_none b)
tells_none b = record {
  asks = λ held v. refl;
  calls = λ held v. refl;
  ends = λ held v w u later e. settled_by held later (fit (telling_none b) v) u True w e;
  goes = λ held v a e. rw e refl;
  halts = λ held v a e. record { visit = tallied (fit (telling_none b) v); same = rw e refl };
  same_source = λ held v a. refl;
  no_args = λ v. refl;
  more_args = λ v p site n ns x xs. refl;
  last = λ held v p r u after e. value_by held after (record (fit (telling_none b) v) { source = p.source }) u True r e;
  stop = λ v p site n x e. record { value = ap (λ (c : Bool). truth (not c)) (sym (any_true is_true n.answer [] e)); left = refl };
  further = λ v p site n ns x xs r after h e is. as_value (truth (not (any_of is_true (n.answer ∷ answers ns)))) (truth (not (any_of is_true (answers ns)))) r after h (ap (λ (c : Bool). truth (not c)) (any_untrue is_true n.answer (answers ns) e)) is;
}

pub none_told : (held after : Held) (recv v : Value) (s : Source) (b : ObjId) (ts : List Turn)
    → IsRunOf task.Never held recv s [] b ts v after
    → Iterates next held s b (Until is_true) alone ts (λ h items. IsValue h (truth (not (any_of is_true (answers ts)))) v after)
none_told held after recv v s b ts is = iterates_so (telling_none b) (tells_none b) held recv s [] None None 0 ts v after refl refl refl is

abbrev pub telling_all : ObjId → Shape
telling_all b = record {
  task = task.All;
  block = b;
  values = as_it_is;
  names = as_it_is;
  with_values = one;
  stops = is_untrue;
  step = λ held v a. tallied v;
  stopped = λ held v. record { value = False; held = held };
  calls_with = λ v ns xs. alone xs;
  holds = λ v ns xs r after h. IsValue h (truth (not (any_of is_untrue (answers ns)))) r after;
}

pub tells_all : (b : ObjId) → Method (telling_all b)
tells_all b = record {
  asks = λ held v. refl;
  calls = λ held v. refl;
  ends = λ held v w u later e. settled_by held later (fit (telling_all b) v) u True w e;
  goes = λ held v a e. rw (true_is (is_true a) e) refl;
  halts = λ held v a e. record { visit = tallied (fit (telling_all b) v); same = rw (untrue_is (is_true a) e) refl };
  same_source = λ held v a. refl;
  no_args = λ v. refl;
  more_args = λ v p site n ns x xs. refl;
  last = λ held v p r u after e. value_by held after (record (fit (telling_all b) v) { source = p.source }) u True r e;
  stop = λ v p site n x e. record { value = ap (λ (c : Bool). truth (not c)) (sym (any_true is_untrue n.answer [] e)); left = refl };
  further = λ v p site n ns x xs r after h e is. as_value (truth (not (any_of is_untrue (n.answer ∷ answers ns)))) (truth (not (any_of is_untrue (answers ns)))) r after h (ap (λ (c : Bool). truth (not c)) (any_untrue is_untrue n.answer (answers ns) e)) is;
}

pub all_told : (held after : Held) (recv v : Value) (s : Source) (b : ObjId) (ts : List Turn)
    → IsRunOf task.All held recv s [] b ts v after
    → Iterates next held s b (Until is_untrue) alone ts (λ h items. IsValue h (truth (not (any_of is_untrue (answers ts)))) v after)
all_told held after recv v s b ts is = iterates_so (telling_all b) (tells_all b) held recv s [] None None 0 ts v after refl refl refl is
