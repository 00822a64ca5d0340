-- Methods that count the answers, and those that take items as long as answers are true.
use Rattle.std.proofs.Common.{◌≡◌, ℕ, suc, ◌<◌, ◌≤◌, ◌+◌, ◌-◌, ◌^◌, refl, sym, ap, subst, ◌∙◌, List, [], ◌∷◌, ◌++◌, length, arith, append_assoc, append-nil}
use Rattle.std.specs.Prelude.{pos, min, codes, Bool, true, false, if◌then◌else◌, Option, Some, None}
use Rattle.std.proofs.Math.Nat.{min-eq_left}
use Rattle.rb_value.specs.declared.value.Value.{Value}
use Rattle.rb_value.specs.declared.value.ObjId.{ObjId}
use Rattle.rb_store.specs.Held.{Held, one_more}
use Rattle.iter_items.specs.declared.row.Task.TheVariants as task
use Rattle.iter_items.specs.declared.source.Source.{Source}
use Rattle.iter_items.specs.declared.visit.Visit.{Visit}
use Rattle.items_laws.specs.Run.{Turn}
use Rattle.rb_value.specs.declared.value.Value.TheVariants.{Nil, Int}
use Rattle.rb_value.specs.Value.{is_true}
use Rattle.def_core.specs.Changes.{intern}
use Rattle.heap.specs.Made.{array_given, with_array}
use Rattle.iter_items.specs.Asking.{tally_value}
use Rattle.iter_items.specs.Hearing.{keeping, onward, tallied}
use Rattle.iter_items.specs.Sources.{next}
use Rattle.items_laws.specs.Items.{Iterates, IsRunOf, IsArrayOf, IsValue, Whole, Until, answers, with_arguments}
use Rattle.items_laws.specs.Lists.{alone, picked_while, place_from, counted_from, is_untrue}
use Rattle.items_laws.proofs.Course.{at_item}
use Rattle.items_laws.proofs.Fitted.{fitted}
use Rattle.items_laws.proofs.Methods.{Shape, Method, iterates_so, whole, resulting, never, nowhere, fit, as_it_is}
use Rattle.items_laws.proofs.Reading.{counted}
use Rattle.items_laws.proofs.Visits.{one, settled_by, value_by, array_by}
use Rattle.items_laws.proofs.Small.{untrue_is, true_is, as_value}

-- numbers below the greatest Integer

at_most : (n k : ℕ) → n + k < 2 ^ 63 → n ≤ 2 ^ 63 - 1
at_most n k less = omega (arith, less)

pub number_is : (n k : ℕ) → n + k < 2 ^ 63 → Int (pos (min n (2 ^ 63 - 1))) ≡ Int (pos n)
number_is n k less = ap (λ (m : ℕ). Int (pos m)) (min-eq_left (at_most n k less))

pub one_behind : (n k : ℕ) → n + suc k < 2 ^ 63 → one_more n ≡ n + 1
one_behind n k less = counted n (omega (arith, less))

pub still_less : (n k : ℕ) → n + suc k < 2 ^ 63 → n + 1 + k < 2 ^ 63
still_less n k less = omega (arith, less)

pub skipped : (n k : ℕ) → n + suc k < 2 ^ 63 → n + k < 2 ^ 63
skipped n k less = omega (arith, less)

pub from_zero : (k : ℕ) → k < 2 ^ 63 → 0 + k < 2 ^ 63
from_zero k less = omega (arith, less)

-- `find_index`

pub place_here : (n : ℕ) (a : Value) (us : List Value) → is_true a ≡ true → place_from n is_true (a ∷ us) ≡ Int (pos n)
place_here n a us e = rw e refl

pub place_later : (n : ℕ) (a : Value) (us : List Value) → is_true a ≡ false
    → place_from n is_true (a ∷ us) ≡ place_from (n + 1) is_true us
place_later n a us e = rw e refl

abbrev IsPlace : ℕ → List Turn → Value → Held → Held → Type 0
IsPlace n ns r after h = n + length ns < 2 ^ 63 → IsValue h (place_from n is_true (answers ns)) r after

place_stop : (n : ℕ) (t : Turn) → is_true t.answer ≡ true
    → IsPlace n (t ∷ []) (Int (pos (min n (2 ^ 63 - 1)))) t.held t.held
place_stop n t e = λ less. record {
  value = number_is n (length (t ∷ [])) less ∙ sym (place_here n t.answer [] e);
  left = refl;
}

place_further : (n : ℕ) (t : Turn) (ns : List Turn) (r : Value) (after h : Held) → is_true t.answer ≡ false
    → IsPlace (one_more n) ns r after h → IsPlace n (t ∷ ns) r after h
place_further n t ns r after h e is = λ less.
    let there = subst (λ (k : ℕ). IsPlace k ns r after h) (one_behind n (length ns) less) is in
    as_value (place_from n is_true (t.answer ∷ answers ns)) (place_from (n + 1) is_true (answers ns)) r after h
    (place_later n t.answer (answers ns) e) (there (still_less n (length ns) less))

abbrev pub placing : ObjId → Shape
placing b = record {
  task = task.FindIndex;
  block = b;
  values = as_it_is;
  names = as_it_is;
  with_values = one;
  stops = is_true;
  step = λ held v a. tallied v;
  stopped = λ held v. record { value = tally_value v; held = held };
  calls_with = λ v ns xs. alone xs;
  holds = λ v ns xs r after h. IsPlace v.tally ns r after h;
}

pub places : (b : ObjId) → Method (placing b)
places b = record {
  asks = λ held v. refl;
  calls = λ held v. refl;
  ends = λ held v w u later e. settled_by held later (fit (placing b) v) u Nil w e;
  goes = λ held v a e. rw e refl;
  halts = λ held v a e. record { visit = tallied (fit (placing b) v); same = rw e refl };
  same_source = λ held v a. refl;
  no_args = λ v. refl;
  more_args = λ v p site n ns x xs. refl;
  last = λ held v p r u after e. λ less. value_by held after (record (fit (placing b) v) { source = p.source }) u Nil r e;
  stop = λ v p site n x e. place_stop v.tally n e;
  further = λ v p site n ns x xs r after h e is. place_further v.tally n ns r after h e is;
}

pub placed : (held after : Held) (recv v : Value) (s : Source) (b : ObjId) (ts : List Turn) → length ts < 2 ^ 63
    → IsRunOf task.FindIndex held recv s [] b ts v after
    → Iterates next held s b (Until is_true) alone ts (λ h items. IsValue h (place_from 0 is_true (answers ts)) v after)
placed held after recv v s b ts less is = resulting next held s b (Until is_true) alone ts
    (λ h items. IsPlace 0 ts v after h) (λ h items. IsValue h (place_from 0 is_true (answers ts)) v after)
    (λ h items place. place (from_zero (length ts) less))
    (iterates_so (placing b) (places b) held recv s [] None None 0 ts v after refl refl refl is)

-- `count` with a block

abbrev pub no_value : Option Value → Option Value
no_value o = None

abbrev counted_if : Bool → Visit → Visit
counted_if true v = tallied v
counted_if false v = v

counted_source : (v : Visit) (c : Bool) → (counted_if c v).source ≡ v.source
counted_source v true = refl
counted_source v false = refl

counts_so : (b : ObjId) (held : Held) (v : Visit) (c : Bool)
    → onward held (if c then tallied (fitted task.Count b no_value as_it_is v)
    else fitted task.Count b no_value as_it_is v)
    ≡ onward held (fitted task.Count b no_value as_it_is (counted_if c v))
counts_so b held v true = refl
counts_so b held v false = refl

abbrev IsCount : ℕ → List Turn → Value → Held → Held → Type 0
IsCount n ns r after h = n + length ns < 2 ^ 63 → IsValue h (Int (pos (counted_from n is_true (answers ns)))) r after

count_end : (held after : Held) (v u : Visit) (r : Value) → IsValue held (tally_value v) r after
    → IsCount v.tally [] r after held
count_end held after v u r is = λ less. record { value = is.value ∙ number_is v.tally 0 less; left = is.left }

count_by : (v : Visit) (t : Turn) (ns : List Turn) (r : Value) (after h : Held) (c : Bool) → is_true t.answer ≡ c
    → IsCount (counted_if c v).tally ns r after h → IsCount v.tally (t ∷ ns) r after h
count_by v t ns r after h true e is = λ less.
    let there = subst (λ (k : ℕ). IsCount k ns r after h) (one_behind v.tally (length ns) less) is in
    as_value (Int (pos (counted_from v.tally is_true (t.answer ∷ answers ns))))
    (Int (pos (counted_from (v.tally + 1) is_true (answers ns)))) r after h
    (rw e refl) (there (still_less v.tally (length ns) less))
count_by v t ns r after h false e is = λ less.
    as_value (Int (pos (counted_from v.tally is_true (t.answer ∷ answers ns))))
    (Int (pos (counted_from v.tally is_true (answers ns)))) r after h
    (rw e refl) (is (skipped v.tally (length ns) less))

abbrev pub counting : ObjId → Shape
counting b = record {
  task = task.Count;
  block = b;
  values = no_value;
  names = as_it_is;
  with_values = one;
  stops = never;
  step = λ held v a. counted_if (is_true a) v;
  stopped = nowhere;
  calls_with = λ v ns xs. alone xs;
  holds = λ v ns xs r after h. IsCount v.tally ns r after h;
}

pub counts : (b : ObjId) → Method (counting b)
counts b = record {
  asks = λ held v. refl;
  calls = λ held v. refl;
  ends = λ held v w u later e. settled_by held later (fit (counting b) v) u (tally_value v) w e;
  goes = λ held v a e. counts_so b held v (is_true a);
  halts = λ held v a e. absurd (cc);
  same_source = λ held v a. counted_source v (is_true a);
  no_args = λ v. refl;
  more_args = λ v p site n ns x xs. refl;
  last = λ held v p r u after e. count_end held after v u r (value_by held after (record (fit (counting b) v) { source = p.source }) u (tally_value v) r e);
  stop = λ v p site n x e. absurd (cc);
  further = λ v p site n ns x xs r after h e is. count_by (at_item v p x site) n ns r after h (is_true n.answer) refl is;
}

pub numbered : (held after : Held) (recv v : Value) (s : Source) (b : ObjId) (ts : List Turn) → length ts < 2 ^ 63
    → IsRunOf task.Count held recv s [] b ts v after
    → Iterates next (with_arguments task.Count held [] b) s b Whole alone ts
    (λ h items. IsValue h (Int (pos (counted_from 0 is_true (answers ts)))) v after)
numbered held after recv v s b ts less is =
    whole next (with_arguments task.Count held [] b) s b alone ts
    (λ h items. IsValue h (Int (pos (counted_from 0 is_true (answers ts)))) v after)
    (resulting next (with_arguments task.Count held [] b) s b (Until never) alone ts
    (λ h items. IsCount 0 ts v after h) (λ h items. IsValue h (Int (pos (counted_from 0 is_true (answers ts)))) v after)
    (λ h items count. count (from_zero (length ts) less))
    (iterates_so (counting b) (counts b) held recv s [] None (Some (intern held.store (codes "==")).symbol) 0 ts v after
    refl refl refl is))

-- `take_while`

while_ends : (x a : Value) (xs us : List Value) → is_true a ≡ false → picked_while is_true (x ∷ xs) (a ∷ us) ≡ []
while_ends x a xs us e = rw e refl

while_goes : (x a : Value) (xs us : List Value) → is_true a ≡ true
    → picked_while is_true (x ∷ xs) (a ∷ us) ≡ x ∷ picked_while is_true xs us
while_goes x a xs us e = rw e refl

abbrev IsTaken : List Value → List Value → List Value → Value → Held → Held → Type 0
IsTaken kept xs us r after h = IsArrayOf h (kept ++ picked_while is_true xs us) r after

take_stop : (kept : List Value) (x a : Value) (h : Held) → is_true a ≡ false
    → IsTaken kept (x ∷ []) (a ∷ []) (array_given h.store kept) (with_array h kept) h
take_stop kept x a h e =
    subst (λ (vs : List Value). IsArrayOf h vs (array_given h.store kept) (with_array h kept))
    (sym (ap (λ (vs : List Value). kept ++ vs) (while_ends x a [] [] e) ∙ append-nil kept))
    (record { value = refl; left = refl })

take_further : (kept xs us : List Value) (x a r : Value) (after h : Held) → is_true a ≡ true
    → IsTaken (kept ++ x ∷ []) xs us r after h → IsTaken kept (x ∷ xs) (a ∷ us) r after h
take_further kept xs us x a r after h e is =
    subst (λ (vs : List Value). IsArrayOf h vs r after)
    (append_assoc kept (x ∷ []) (picked_while is_true xs us)
    ∙ ap (λ (vs : List Value). kept ++ vs) (sym (while_goes x a xs us e))) is

abbrev pub taking : ObjId → Shape
taking b = record {
  task = task.TakeWhile;
  block = b;
  values = as_it_is;
  names = as_it_is;
  with_values = one;
  stops = is_untrue;
  step = λ held v a. keeping v (v.item ∷ []);
  stopped = λ held v. record { value = array_given held.store v.kept; held = with_array held v.kept };
  calls_with = λ v ns xs. alone xs;
  holds = λ v ns xs r after h. IsTaken v.kept xs (answers ns) r after h;
}

pub takes : (b : ObjId) → Method (taking b)
takes b = record {
  asks = λ held v. refl;
  calls = λ held v. refl;
  ends = λ held v w u later e. settled_by (with_array held v.kept) later (record (fit (taking b) v) { kept = [] }) u
      (array_given held.store v.kept) w e;
  goes = λ held v a e. rw (true_is (is_true a) e) refl;
  halts = λ held v a e. record { visit = record (fit (taking b) v) { kept = [] }; same = rw (untrue_is (is_true a) e) refl };
  same_source = λ held v a. refl;
  no_args = λ v. refl;
  more_args = λ v p site n ns x xs. refl;
  last = λ held v p r u after e. subst (λ (vs : List Value). IsArrayOf held vs r after) (sym (append-nil v.kept))
      (array_by held after (record (fit (taking b) v) { source = p.source; kept = [] }) u v.kept r e);
  stop = λ v p site n x e. take_stop v.kept x n.answer n.held (untrue_is (is_true n.answer) e);
  further = λ v p site n ns x xs r after h e is. take_further v.kept xs (answers ns) x n.answer r after h (true_is (is_true n.answer) e) is;
}

pub taken : (held after : Held) (recv v : Value) (s : Source) (b : ObjId) (ts : List Turn)
    → IsRunOf task.TakeWhile held recv s [] b ts v after
    → Iterates next held s b (Until is_untrue) alone ts
    (λ h items. IsArrayOf h (picked_while is_true items (answers ts)) v after)
taken held after recv v s b ts is =
    iterates_so (taking b) (takes b) held recv s [] None None 0 ts v after refl refl refl is
