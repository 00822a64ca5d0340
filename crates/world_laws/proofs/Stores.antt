-- Changes of the store that keep a world fine: more objects and names, and an object of the same sort in the place of
-- another.
use Rattle.std.proofs.Common.{◌≡◌, ℕ, zero, suc, List, [], ◌∷◌, ◌++◌, length, get_or, sym, ◌∙◌, append-nil}
use Rattle.std.specs.Prelude.{Option, Some, None}
use Rattle.std.specs.List.{position}
use Rattle.std.specs.Str.{bytes_eq}
use Rattle.std.proofs.lemmas.List.{map-append}
use Rattle.rb_value.specs.declared.value.ObjId.{ObjId}
use Rattle.rb_value.specs.declared.kind.Kind.{Kind}
use Rattle.rb_value.specs.Object.{Object}
use Rattle.rb_value.specs.Sort.{sort_of}
use Rattle.def_core.specs.Store.{Store, absent, object_at, sort_at, set_object, with_object}
use Rattle.def_core.specs.Parts.{with_objects, with_kind}
use Rattle.def_core.specs.Changes.{intern, intern_at}
use Rattle.def_core.specs.Sound.{sorts_of, census, Any, Is, SoundKind, SoundObject, SoundFrom, AllAre}
use Rattle.def_core.proofs.Sorts.{sorts-set}
use Rattle.def_core.proofs.Good.{is_good, good_object}
use Rattle.def_core.proofs.Keeps.{sound_with_set}
use Rattle.def_core.proofs.Grows.{sound_with_object, sound_with_symbols}
use Rattle.def_core.proofs.More.{sound_with_all}
use Rattle.def_core.proofs.PartsSound.{all_more, all_set}
use Rattle.def_calls.specs.World.{World, with_store}
use Rattle.world_laws.specs.Fine.{Bodies, Goes, Extends, KindIs, ObjectIs, Fine, Keeps}
use Rattle.world_laws.proofs.Growing.{goes_itself, goes_more}
use Rattle.world_laws.proofs.Standing.{kind_stays, objects_stay, keeps_itself, keeps_store}

pub goes_same : {A : Type 0} (xs ys : List A) → ys ≡ xs → Goes xs ys
goes_same xs ys e = record { more = []; same = e ∙ sym (append-nil xs) }

-- a store with more objects, with more names, and with other objects of the same sorts

pub extends_objects : (w : World) (more : List Object)
    → Extends w (with_store w (with_objects w.store (w.store.objects ++ more)))
extends_objects w more = record {
  sorts = record { more = sorts_of more; same = map-append (λ (o : Object). sort_of o.kind) w.store.objects more };
  symbols = goes_itself w.store.symbols;
  enclosing = goes_itself w.enclosing;
  activations = goes_itself w.activations;
}

pub extends_names : (w : World) (names : List (List ℕ))
    → Extends w (with_store w (record w.store { symbols = w.store.symbols ++ names }))
extends_names w names = record {
  sorts = goes_itself (sorts_of w.store.objects);
  symbols = goes_more w.store.symbols names;
  enclosing = goes_itself w.enclosing;
  activations = goes_itself w.activations;
}

pub extends_same : (w : World) (objects : List Object) → sorts_of objects ≡ sorts_of w.store.objects
    → Extends w (with_store w (with_objects w.store objects))
extends_same w objects e = record {
  sorts = goes_same (sorts_of w.store.objects) (sorts_of objects) e;
  symbols = goes_itself w.store.symbols;
  enclosing = goes_itself w.enclosing;
  activations = goes_itself w.activations;
}

-- what is nowhere holds nothing
pub object_held : (b : Bodies) (w : World) (os : List Object) (n : ℕ) → AllAre (ObjectIs b w) os
    → KindIs b w (get_or os n absent).kind
object_held b w [] n all = tt
object_held b w (o ∷ os) zero all = all.0
object_held b w (o ∷ os) (suc n) all = object_held b w os n all.1

module _ (b : Bodies) (w : World) (fine : Fine b w) where
  -- what an object holds
  pub kind_held : (id : ObjId) → KindIs b w (object_at w.store.objects id).kind
  kind_held id = object_held b w w.store.objects id.0 fine.objects

  pub keeps_objects : (more : List Object)
      → SoundFrom (census (with_objects w.store (w.store.objects ++ more))) (length w.store.objects) more
      → AllAre (ObjectIs b w) more → Keeps b w (with_store w (with_objects w.store (w.store.objects ++ more)))
  keeps_objects more new kinds =
      let st : Store = with_objects w.store (w.store.objects ++ more) in
      let v : World = with_store w st in
      let e = extends_objects w more in
      keeps_store b w st fine e (sound_with_all w.store fine.store more new)
      (all_more (ObjectIs b v) w.store.objects more (objects_stay b w v e w.store.objects fine.objects)
      (objects_stay b w v e more kinds))

  pub keeps_object : (o : Object) → SoundObject (census w.store) (length w.store.objects) o → ObjectIs b w o
      → Keeps b w (with_store w (with_object w.store o))
  keeps_object o new kind =
      let st : Store = with_object w.store o in
      let v : World = with_store w st in
      let e = extends_objects w (o ∷ []) in
      keeps_store b w st fine e (sound_with_object w.store fine.store o new)
      (all_more (ObjectIs b v) w.store.objects (o ∷ []) (objects_stay b w v e w.store.objects fine.objects)
      (kind_stays b w v e o.kind kind, tt))

  pub keeps_names : (names : List (List ℕ))
      → Keeps b w (with_store w (record w.store { symbols = w.store.symbols ++ names }))
  keeps_names names =
      let st : Store = record w.store { symbols = w.store.symbols ++ names } in
      let v : World = with_store w st in
      let e = extends_names w names in
      keeps_store b w st fine e (sound_with_symbols w.store fine.store names)
      (objects_stay b w v e w.store.objects fine.objects)

  -- a name as a symbol
  pub keeps_interned : (name : List ℕ) → Keeps b w (with_store w (intern w.store name).store)
  unfolding intern
  keeps_interned name = by (position (bytes_eq name) w.store.symbols)
    where
      by : (p : Option ℕ) → Keeps b w (with_store w (intern_at w.store name p).store)
      by None = keeps_names (name ∷ [])
      by (Some i) = keeps_itself b w fine

  -- an object of the same sort in the place of another
  pub keeps_set : (id : ObjId) (o : Object) → Is (census w.store) Any id → sort_of o.kind ≡ sort_at w.store.objects id
      → SoundObject (census w.store) id.0 o → ObjectIs b w o
      → Keeps b w (with_store w (with_objects w.store (set_object w.store.objects id o)))
  keeps_set id o is sort new kind =
      let st : Store = with_objects w.store (set_object w.store.objects id o) in
      let v : World = with_store w st in
      let e = extends_same w (set_object w.store.objects id o) (sorts-set w.store.objects id o sort) in
      keeps_store b w st fine e (sound_with_set w.store fine.store id o (is_good w.store Any id is) sort new)
      (all_set (ObjectIs b v) w.store.objects id.0 o (objects_stay b w v e w.store.objects fine.objects)
      (kind_stays b w v e o.kind kind))

  -- and other contents of its sort
  pub keeps_kind : (id : ObjId) (k : Kind) → Is (census w.store) Any id → sort_of k ≡ sort_at w.store.objects id
      → SoundKind (census w.store) id.0 k → KindIs b w k
      → Keeps b w (with_store w (with_objects w.store (with_kind w.store.objects id k)))
  keeps_kind id k is sort new kind =
      let old = good_object w.store fine.store id (is_good w.store Any id is) in
      keeps_set id (record (object_at w.store.objects id) { kind = k }) is sort
      (record { class = old.class; singleton = old.singleton; variables = old.variables; kind = new }) kind
