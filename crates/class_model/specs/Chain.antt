-- What a walk along a chain has left.
use Rattle.std.specs.Prelude.{◌≡◌, List, [], ◌∷◌, ◌++◌, drop, Option, Some, None}
use Rattle.rb_value.specs.declared.value.ObjId.{ObjId}
use Rattle.rb_value.specs.Object.{Object}
use Rattle.def_core.specs.Classes.{chain}
use Rattle.def_core.specs.Sound.{Sound, census, Is, ClassOrModule, OptionIs, AllAre}
use Rattle.class_model.specs.declared.chain.Chain.{Chain}

-- the chain from a superclass, which may be none
abbrev pub chain_above : List Object → Option ObjId → List ObjId
chain_above objects None = []
chain_above objects (Some c) = chain objects c

-- the modules that are left of the last class, then the chain of its superclass
abbrev pub left : Chain → List ObjId
left w = drop w.at w.included.now ++ chain_above w.store.now.store.objects w.above

-- the walk is along a sound store
pub record IsWalk (w : Chain) : Type 0 where
  pub sound : Sound w.store.now.store
  pub included : AllAre (Is (census w.store.now.store) ClassOrModule) w.included.now
  pub above : OptionIs (Is (census w.store.now.store) ClassOrModule) w.above

-- the member at the front, and the rest behind it; no member at the end, where the walk stays
abbrev pub Steps : List ObjId → Option ObjId → List ObjId → Type 0
Steps before None after = (before ≡ []) × (after ≡ [])
Steps before (Some c) after = before ≡ c ∷ after

-- a member is a class or module of the store
abbrev pub IsMember : Chain → Option ObjId → Type 0
IsMember w None = Unit {0}
IsMember w (Some c) = Is (census w.store.now.store) ClassOrModule c
