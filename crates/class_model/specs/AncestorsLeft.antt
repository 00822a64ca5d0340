-- What is left of the ancestors of a class.
use Rattle.std.specs.Prelude.{◌≡◌, List, filter, not}
use Rattle.rb_value.specs.declared.value.ObjId.{ObjId}
use Rattle.def_core.specs.Classes.{class_at, is_singleton}
use Rattle.class_model.specs.declared.ancestry.Ancestors.{Ancestors}
use Rattle.class_model.specs.Chain.{left, IsWalk}

-- what is left of the chain, without singleton classes
abbrev pub ancestors_left : Ancestors → List ObjId
ancestors_left a = filter (λ k. not (is_singleton (class_at a.store.now.store.objects k).form)) (left a.walk)

-- the walk is along the same store
pub record IsAncestry (a : Ancestors) : Type 0 where
  pub walk : IsWalk a.walk
  pub store : a.walk.store.now ≡ a.store.now
