-- A heap stays whole through every call that keeps its store.
use Rattle.std.proofs.Common.{◌≡◌, ℕ, List, [], ◌∷◌, ◌++◌, subst, sym}
use Rattle.std.specs.Prelude.{Result, Ok, Err, OnOk, OnErr}
use Rattle.rb_value.specs.declared.value.ObjId.{ObjId}
use Rattle.def_core.specs.Sound.{Sound, census, Census, Extends, Is, ClassOrModule}
use Rattle.rb_store.specs.Held.{Held}
use Rattle.rb_store.specs.Keeps.{Keeps}
use Rattle.method_lookup.specs.Cache.{Cache, GoesWith}
use Rattle.method_lookup.proofs.Goes.{goes_on}
use Rattle.def_calls.specs.World.{Enclosing}
use Rattle.run_definitions.specs.Enclosing.{AreEnclosing}
use Rattle.heap.specs.Whole.{IsWhole}

lists_stay : (k l : Census) → Extends k l → (lists : List Enclosing) → AreEnclosing k lists → AreEnclosing l lists
lists_stay k l e [] all = tt
lists_stay k l e (x ∷ xs) all = (e.roles ClassOrModule x.class all.0, lists_stay k l e xs all.1)

pub stays_whole : (before after : Held) (lists : List Enclosing) (cache : Cache) → IsWhole before lists cache
    → Keeps before after → IsWhole after lists cache
stays_whole before after lists cache whole keeps = record {
  sound = keeps.sound;
  lists = lists_stay (census before.store) (census after.store) keeps.extends lists whole.lists;
  cache = goes_on cache before after whole.sound keeps.counted whole.cache;
}

-- one list of enclosing classes more
pub one_list_more : (held : Held) (lists : List Enclosing) (cache : Cache) (class : ObjId) (around : ℕ)
    → IsWhole held lists cache → Is (census held.store) ClassOrModule class
    → IsWhole held (lists ++ record { class = class; around = around } ∷ []) cache
one_list_more held lists cache class around whole is = record {
  sound = whole.sound;
  lists = more lists whole.lists;
  cache = whole.cache;
}
  where
    more : (xs : List Enclosing) → AreEnclosing (census held.store) xs
        → AreEnclosing (census held.store) (xs ++ record { class = class; around = around } ∷ [])
    more [] all = (is, tt)
    more (x ∷ xs) all = (all.0, more xs all.1)

-- whether or not a list was added
pub list_answered : {E : Type 0} (held : Held) (lists after : List Enclosing) (cache : Cache) (class : ObjId) (around : ℕ)
    (r : Result ℕ E) → IsWhole held lists cache → Is (census held.store) ClassOrModule class
    → OnOk r (after ≡ lists ++ record { class = class; around = around } ∷ []) → OnErr r (after ≡ lists)
    → IsWhole held after cache
list_answered held lists after cache class around (Ok n) whole is ok err =
    subst (λ (xs : List Enclosing). IsWhole held xs cache) (sym ok) (one_list_more held lists cache class around whole is)
list_answered held lists after cache class around (Err e) whole is ok err =
    subst (λ (xs : List Enclosing). IsWhole held xs cache) (sym err) whole

-- a heap without lists
pub new_whole : (held : Held) (lists : List Enclosing) (cache : Cache) → Sound held.store → lists ≡ []
    → GoesWith cache held → IsWhole held lists cache
new_whole held lists cache sound none goes = record {
  sound = sound;
  lists = subst (λ (xs : List Enclosing). AreEnclosing (census held.store) xs) (sym none) tt;
  cache = goes;
}
