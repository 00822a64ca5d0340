-- Methods that keep what the block answers.
use Rattle.std.proofs.Common.{refl, sym, subst, List, [], ◌∷◌, ◌++◌, append_assoc, append-nil}
use Rattle.std.specs.Prelude.{None}
use Rattle.rb_value.specs.declared.value.Value.{Value}
use Rattle.rb_value.specs.declared.value.ObjId.{ObjId}
use Rattle.rb_store.specs.Held.{Held}
use Rattle.iter_items.specs.declared.row.Task.TheVariants as task
use Rattle.iter_items.specs.declared.source.Source.{Source}
use Rattle.items_laws.specs.Run.{Turn}
use Rattle.def_core.specs.Bind.{elements_in}
use Rattle.heap.specs.Made.{array_given, with_array}
use Rattle.iter_items.specs.Hearing.{keeping, keep_flat, flat}
use Rattle.iter_items.specs.Sources.{next}
use Rattle.items_laws.specs.Items.{Iterates, IsRunOf, IsArrayOf, Whole, answers}
use Rattle.items_laws.specs.Lists.{alone, flattened}
use Rattle.items_laws.proofs.Methods.{Shape, Method, iterates_so, whole, never, nowhere, fit, as_it_is}
use Rattle.items_laws.proofs.Visits.{one, settled_by, array_by}

-- `map`

abbrev pub mapping : ObjId → Shape
mapping b = record {
  task = task.Map;
  block = b;
  values = as_it_is;
  names = as_it_is;
  with_values = one;
  stops = never;
  step = λ held v a. keeping v (a ∷ []);
  stopped = nowhere;
  calls_with = λ v ns xs. alone xs;
  holds = λ v ns xs r after h. IsArrayOf h (v.kept ++ answers ns) r after;
}

pub maps : (b : ObjId) → Method (mapping b)
maps b = record {
  asks = λ held v. refl;
  calls = λ held v. refl;
  ends = λ held v w u later e. settled_by (with_array held v.kept) later (record (fit (mapping b) v) { kept = [] }) u
      (array_given held.store v.kept) w e;
  goes = λ held v a e. refl;
  halts = λ held v a e. absurd (cc);
  same_source = λ held v a. refl;
  no_args = λ v. refl;
  more_args = λ v p site n ns x xs. refl;
  last = λ held v p r u after e. subst (λ (vs : List Value). IsArrayOf held vs r after) (sym (append-nil v.kept))
      (array_by held after (record (fit (mapping b) v) { source = p.source; kept = [] }) u v.kept r e);
  stop = λ v p site n x e. absurd (cc);
  further = λ v p site n ns x xs r after h e is. subst (λ (vs : List Value). IsArrayOf h vs r after)
      (append_assoc v.kept (n.answer ∷ []) (answers ns)) is;
}

pub mapped : (held after : Held) (recv v : Value) (s : Source) (b : ObjId) (ts : List Turn)
    → IsRunOf task.Map held recv s [] b ts v after
    → Iterates next held s b Whole alone ts (λ h items. IsArrayOf h (answers ts) v after)
mapped held after recv v s b ts is = whole next held s b alone ts (λ h items. IsArrayOf h (answers ts) v after)
    (iterates_so (mapping b) (maps b) held recv s [] None None 0 ts v after refl refl refl is)

-- `flat_map`

abbrev part_of : Turn → List Value
part_of n = flat n.answer (elements_in n.held.store.objects n.answer)

abbrev pub flattening : ObjId → Shape
flattening b = record {
  task = task.FlatMap;
  block = b;
  values = as_it_is;
  names = as_it_is;
  with_values = one;
  stops = never;
  step = λ held v a. keep_flat held v a;
  stopped = nowhere;
  calls_with = λ v ns xs. alone xs;
  holds = λ v ns xs r after h. IsArrayOf h (v.kept ++ flattened ns) r after;
}

pub flattens : (b : ObjId) → Method (flattening b)
flattens b = record {
  asks = λ held v. refl;
  calls = λ held v. refl;
  ends = λ held v w u later e. settled_by (with_array held v.kept) later (record (fit (flattening b) v) { kept = [] }) u
      (array_given held.store v.kept) w e;
  goes = λ held v a e. refl;
  halts = λ held v a e. absurd (cc);
  same_source = λ held v a. refl;
  no_args = λ v. refl;
  more_args = λ v p site n ns x xs. refl;
  last = λ held v p r u after e. subst (λ (vs : List Value). IsArrayOf held vs r after) (sym (append-nil v.kept))
      (array_by held after (record (fit (flattening b) v) { source = p.source; kept = [] }) u v.kept r e);
  stop = λ v p site n x e. absurd (cc);
  further = λ v p site n ns x xs r after h e is. subst (λ (vs : List Value). IsArrayOf h vs r after)
      (append_assoc v.kept (part_of n) (flattened ns)) is;
}

pub flat_mapped : (held after : Held) (recv v : Value) (s : Source) (b : ObjId) (ts : List Turn)
    → IsRunOf task.FlatMap held recv s [] b ts v after
    → Iterates next held s b Whole alone ts (λ h items. IsArrayOf h (flattened ts) v after)
flat_mapped held after recv v s b ts is = whole next held s b alone ts (λ h items. IsArrayOf h (flattened ts) v after)
    (iterates_so (flattening b) (flattens b) held recv s [] None None 0 ts v after refl refl refl is)
