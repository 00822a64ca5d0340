-- Methods that fold their items, or give their receiver.
use Rattle.std.proofs.Common.{refl, List, [], ◌∷◌}
use Rattle.std.specs.Prelude.{Option, Some, None, unwrap_or}
use Rattle.rb_value.specs.declared.value.Value.{Value}
use Rattle.rb_value.specs.declared.value.ObjId.{ObjId}
use Rattle.rb_store.specs.Held.{Held}
use Rattle.iter_items.specs.declared.row.Task.TheVariants as task
use Rattle.iter_items.specs.declared.source.Source.{Source}
use Rattle.iter_items.specs.declared.visit.Visit.{Visit}
use Rattle.items_laws.specs.Run.{Turn}
use Rattle.rb_value.specs.declared.value.Value.TheVariants.{Nil}
use Rattle.rb_value.specs.declared.value.SymId.{SymId}
use Rattle.core_calls.specs.declared.beat.Passed.{Passed}
use Rattle.core_calls.specs.declared.beat.Passed.TheVariants.{Two}
use Rattle.iter_items.specs.Asking.{value_or_nil, tally_value}
use Rattle.iter_items.specs.Hearing.{tallied}
use Rattle.iter_items.specs.Sources.{next, previous}
use Rattle.items_laws.specs.Items.{Iterates, IsRunOf, IsValue, Whole, answers}
use Rattle.items_laws.specs.Lists.{alone, with_places, with_object, in_turn, last_of}
use Rattle.items_laws.proofs.Methods.{Shape, Method, iterates_so, whole, never, nowhere, fit, as_it_is}
use Rattle.items_laws.proofs.Visits.{one, settled_by, value_by}

abbrev pub no_name : Option SymId → Option SymId
no_name o = None

-- `inject` with a value to begin with

abbrev pub some_value : Option Value → Option Value
some_value o = Some (unwrap_or o Nil)

abbrev pub behind : Visit → Passed
behind v = Two (value_or_nil v) v.item

abbrev pub injecting : ObjId → Shape
injecting b = record {
  task = task.Inject;
  block = b;
  values = some_value;
  names = no_name;
  with_values = behind;
  stops = never;
  step = λ held v a. record v { value = Some a };
  stopped = nowhere;
  calls_with = λ v ns xs. in_turn (value_or_nil v ∷ answers ns) xs;
  holds = λ v ns xs r after h. IsValue h (last_of (value_or_nil v) (answers ns)) r after;
}

pub injects : (b : ObjId) → Method (injecting b)
injects b = record {
  asks = λ held v. refl;
  calls = λ held v. refl;
  ends = λ held v w u later e. settled_by held later (fit (injecting b) v) u (value_or_nil v) w e;
  goes = λ held v a e. refl;
  halts = λ held v a e. absurd (cc);
  same_source = λ held v a. refl;
  no_args = λ v. refl;
  more_args = λ v p site n ns x xs. refl;
  last = λ held v p r u after e. value_by held after (record (fit (injecting b) v) { source = p.source }) u (value_or_nil v) r e;
  stop = λ v p site n x e. absurd (cc);
  further = λ v p site n ns x xs r after h e is. is;
}

pub injected : (held after : Held) (recv v first : Value) (s : Source) (b : ObjId) (ts : List Turn)
    → IsRunOf task.Inject held recv s (first ∷ []) b ts v after
    → Iterates next held s b Whole (in_turn (first ∷ answers ts)) ts
    (λ h items. IsValue h (last_of first (answers ts)) v after)
injected held after recv v first s b ts is =
    whole next held s b (in_turn (first ∷ answers ts)) ts (λ h items. IsValue h (last_of first (answers ts)) v after)
    (iterates_so (injecting b) (injects b) held recv s (first ∷ []) (Some first) None 0 ts v after refl refl refl is)

-- `each_with_object`

abbrev with_value : Visit → Passed
with_value v = Two v.item (value_or_nil v)

abbrev pub passing_on : ObjId → Shape
passing_on b = record {
  task = task.EachWithObject;
  block = b;
  values = some_value;
  names = as_it_is;
  with_values = with_value;
  stops = never;
  step = λ held v a. v;
  stopped = nowhere;
  calls_with = λ v ns xs. with_object (value_or_nil v) xs;
  holds = λ v ns xs r after h. IsValue h (value_or_nil v) r after;
}

pub passes_on : (b : ObjId) → Method (passing_on b)
passes_on b = record {
  asks = λ held v. refl;
  calls = λ held v. refl;
  ends = λ held v w u later e. settled_by held later (fit (passing_on b) v) u (value_or_nil v) w e;
  goes = λ held v a e. refl;
  halts = λ held v a e. absurd (cc);
  same_source = λ held v a. refl;
  no_args = λ v. refl;
  more_args = λ v p site n ns x xs. refl;
  last = λ held v p r u after e. value_by held after (record (fit (passing_on b) v) { source = p.source }) u (value_or_nil v) r e;
  stop = λ v p site n x e. absurd (cc);
  further = λ v p site n ns x xs r after h e is. is;
}

pub passed_on : (held after : Held) (recv v object : Value) (s : Source) (b : ObjId) (ts : List Turn)
    → IsRunOf task.EachWithObject held recv s (object ∷ []) b ts v after
    → Iterates next held s b Whole (with_object object) ts (λ h items. IsValue h object v after)
passed_on held after recv v object s b ts is =
    whole next held s b (with_object object) ts (λ h items. IsValue h object v after)
    (iterates_so (passing_on b) (passes_on b) held recv s (object ∷ []) (Some object) None 0 ts v after refl refl refl is)

-- `each_with_index`

abbrev with_tally : Visit → Passed
with_tally v = Two v.item (tally_value v)

abbrev pub numbering : ObjId → Shape
numbering b = record {
  task = task.EachWithIndex;
  block = b;
  values = as_it_is;
  names = as_it_is;
  with_values = with_tally;
  stops = never;
  step = λ held v a. tallied v;
  stopped = nowhere;
  calls_with = λ v ns xs. with_places v.tally xs;
  holds = λ v ns xs r after h. IsValue h v.receiver r after;
}

pub numbers : (b : ObjId) → Method (numbering b)
numbers b = record {
  asks = λ held v. refl;
  calls = λ held v. refl;
  ends = λ held v w u later e. settled_by held later (fit (numbering b) v) u v.receiver w e;
  goes = λ held v a e. refl;
  halts = λ held v a e. absurd (cc);
  same_source = λ held v a. refl;
  no_args = λ v. refl;
  more_args = λ v p site n ns x xs. refl;
  last = λ held v p r u after e. value_by held after (record (fit (numbering b) v) { source = p.source }) u v.receiver r e;
  stop = λ v p site n x e. absurd (cc);
  further = λ v p site n ns x xs r after h e is. is;
}

pub numbered : (held after : Held) (recv v : Value) (s : Source) (b : ObjId) (ts : List Turn)
    → IsRunOf task.EachWithIndex held recv s [] b ts v after
    → Iterates next held s b Whole (with_places 0) ts (λ h items. IsValue h recv v after)
numbered held after recv v s b ts is =
    whole next held s b (with_places 0) ts (λ h items. IsValue h recv v after)
    (iterates_so (numbering b) (numbers b) held recv s [] None None 0 ts v after refl refl refl is)

-- `reverse_each`

abbrev pub reversing : ObjId → Shape
reversing b = record {
  task = task.ReverseEach;
  block = b;
  values = as_it_is;
  names = as_it_is;
  with_values = one;
  stops = never;
  step = λ held v a. v;
  stopped = nowhere;
  calls_with = λ v ns xs. alone xs;
  holds = λ v ns xs r after h. IsValue h v.receiver r after;
}

pub reverses : (b : ObjId) → Method (reversing b)
reverses b = record {
  asks = λ held v. refl;
  calls = λ held v. refl;
  ends = λ held v w u later e. settled_by held later (fit (reversing b) v) u v.receiver w e;
  goes = λ held v a e. refl;
  halts = λ held v a e. absurd (cc);
  same_source = λ held v a. refl;
  no_args = λ v. refl;
  more_args = λ v p site n ns x xs. refl;
  last = λ held v p r u after e. value_by held after (record (fit (reversing b) v) { source = p.source }) u v.receiver r e;
  stop = λ v p site n x e. absurd (cc);
  further = λ v p site n ns x xs r after h e is. is;
}

pub reversed : (held after : Held) (recv v : Value) (s : Source) (b : ObjId) (ts : List Turn)
    → IsRunOf task.ReverseEach held recv s [] b ts v after
    → Iterates previous held s b Whole alone ts (λ h items. IsValue h recv v after)
reversed held after recv v s b ts is =
    whole previous held s b alone ts (λ h items. IsValue h recv v after)
    (iterates_so (reversing b) (reverses b) held recv s [] None None 0 ts v after refl refl refl is)
