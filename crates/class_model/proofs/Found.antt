-- A method that is found is one of the store.
use Rattle.std.proofs.Common.{ℕ, zero, suc, List, [], ◌∷◌, true, false, cond}
use Rattle.std.specs.Prelude.{not, Option, Some, None, nat_eq}
use Rattle.std.specs.Map.{lookup}
use Rattle.rb_value.specs.declared.value.ObjId.{ObjId}
use Rattle.rb_value.specs.declared.value.SymId.{SymId}
use Rattle.rb_value.specs.declared.method.Visibility.{Visibility}
use Rattle.rb_value.specs.declared.method.Method.{Method}
use Rattle.rb_value.specs.declared.method.Method.TheVariants as method
use Rattle.rb_value.specs.declared.method.MethodEntry.{MethodEntry}
use Rattle.def_core.specs.declared.found.Found.{Found}
use Rattle.def_core.specs.Store.{Store}
use Rattle.def_core.specs.Classes.{class_at, is_singleton, chain_within, chain, ancestors}
use Rattle.def_core.specs.Find.{entry_of, found_as, found_or, first_of, find}
use Rattle.def_core.specs.Sound.{Census, census, ClassOrModule, Is, OptionIs, AllAre, IsFound, SoundMethod, SoundEntry, Sound}
use Rattle.def_core.proofs.Roles.{sound_class}
use Rattle.class_model.proofs.Walks.{above_is_class, included_are_classes}
use Rattle.class_model.proofs.Members.{all_append, all_filter}

abbrev SoundFound : Census → Option Found → Type 0
SoundFound k = OptionIs (IsFound k)

entry_is_sound : (k : Census) (name : SymId) (es : List (ℕ × MethodEntry)) → AllAre (SoundEntry k) es
    → OptionIs (λ e. SoundMethod k e.method) (lookup (nat_eq name.0) es)
entry_is_sound k name [] all = tt
entry_is_sound k name (e ∷ es) all = elim (nat_eq name.0 e.0) as
    (λ b. OptionIs (λ x. SoundMethod k x.method) (cond b (Some e.1) (lookup (nat_eq name.0) es))) [
      | true ↦ all.0.1
      | false ↦ entry_is_sound k name es all.1
    ]

found_as_sound : (k : Census) (c : ObjId) (v : Visibility) (m : Method)
    → Is k ClassOrModule c → SoundMethod k m → SoundFound k (found_as c v m)
found_as_sound k c v (method.Body b s) is h = (is, h)
found_as_sound k c v (method.Core r) is h = (is, h)
found_as_sound k c v (method.Reader n) is h = (is, h)
found_as_sound k c v (method.Writer n) is h = (is, h)
found_as_sound k c v (method.Block p) is h = (is, h)
found_as_sound k c v method.Undefined is h = tt

found_or_sound : (k : Census) (c : ObjId) (e : Option MethodEntry) (rest : Option Found)
    → Is k ClassOrModule c → OptionIs (λ x. SoundMethod k x.method) e → SoundFound k rest → SoundFound k (found_or c e rest)
found_or_sound k c None rest is h g = g
found_or_sound k c (Some e) rest is h g = found_as_sound k c e.visibility e.method is h

pub first_is_sound : (st : Store) → Sound st → (cs : List ObjId) (name : SymId) → AllAre (Is (census st) ClassOrModule) cs
    → SoundFound (census st) (first_of st.objects cs name)
unfolding first_of
first_is_sound st sound [] name all = tt
first_is_sound st sound (c ∷ cs) name all =
    found_or_sound (census st) c (entry_of st.objects c name) (first_of st.objects cs name) all.0
    (entry_is_sound (census st) name (class_at st.objects c).methods (sound_class st sound c all.0).methods)
    (first_is_sound st sound cs name all.1)

-- the members of a chain are classes and modules
pub chain_is_classes : (st : Store) → Sound st → (n : ℕ) (c : Option ObjId) → OptionIs (Is (census st) ClassOrModule) c
    → AllAre (Is (census st) ClassOrModule) (chain_within n st.objects c)
unfolding chain_within
chain_is_classes st sound zero c is = tt
chain_is_classes st sound (suc n) None is = tt
chain_is_classes st sound (suc n) (Some c) is = (
  is,
  all_append (Is (census st) ClassOrModule) (class_at st.objects c).included
      (chain_within n st.objects (class_at st.objects c).superclass)
      (included_are_classes st sound c is)
      (chain_is_classes st sound n (class_at st.objects c).superclass (above_is_class st sound c is)),
)

pub found_is_sound : (st : Store) → Sound st → (c : ObjId) (name : SymId) → Is (census st) ClassOrModule c
    → SoundFound (census st) (find st.objects c name)
unfolding find chain
found_is_sound st sound c name is = first_is_sound st sound (chain st.objects c) name
    (chain_is_classes st sound (suc c.0) (Some c) is)

pub ancestors_are_classes : (st : Store) → Sound st → (c : ObjId) → Is (census st) ClassOrModule c
    → AllAre (Is (census st) ClassOrModule) (ancestors st.objects c)
unfolding ancestors chain
ancestors_are_classes st sound c is =
    all_filter (Is (census st) ClassOrModule) (λ k. not (is_singleton (class_at st.objects k).form))
    (chain st.objects c) (chain_is_classes st sound (suc c.0) (Some c) is)
