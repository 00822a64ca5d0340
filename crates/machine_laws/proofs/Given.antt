-- What the laws of worlds give, in the machine's terms.
use Rattle.std.proofs.Common.{◌≡◌, ℕ, List, Bool, refl, subst}
use Rattle.std.specs.Prelude.{Option, Some}
use Rattle.rb_value.specs.declared.value.Value.{Value}
use Rattle.rb_value.specs.declared.value.Value.TheVariants.{Obj}
use Rattle.rb_value.specs.declared.value.ObjId.{ObjId}
use Rattle.rb_value.specs.declared.procs.ProcContents.{ProcContents}
use Rattle.rb_value.specs.declared.kind.Kind.TheVariants as kind
use Rattle.rb_value.specs.declared.kind.Sort.TheVariants as sort
use Rattle.rb_value.specs.declared.core_class.CoreClass.TheVariants as class
use Rattle.def_core.specs.Parts.{no_pairs}
use Rattle.def_core.specs.Store.{core, fresh, with_object}
use Rattle.def_core.specs.Sound.{census, Any, ClassOrModule, Proc, Fiber, Array, Is, IsValue, OptionIs, AllAre, SoundProc}
use Rattle.def_core.proofs.Good.{is_good}
use Rattle.def_core.proofs.Grows.{core_is_class}
use Rattle.rite_code.specs.Code.{Program}
use Rattle.def_calls.specs.World.{World, with_store, give, make}
use Rattle.def_calls.specs.Values.{pushed, push_splat, splat, appended}
use Rattle.def_calls.specs.Definitions.{space_in}
use Rattle.def_calls.specs.Views.{kind_in, fiber_of, an_array, a_string, a_hash}
use Rattle.def_machine.specs.State.{Registers}
use Rattle.def_machine.specs.Fits.{ProcFits}
use Rattle.world_laws.specs.Fine.{HasSort, Fine, Keeps}
use Rattle.world_laws.specs.Outcomes.{AnswerIs}
use Rattle.world_laws.proofs.Answers.{makes_object}
use Rattle.world_laws.proofs.Changing.{has_any}
use Rattle.world_laws.proofs.Growing.{role_stays}
use Rattle.world_laws.proofs.Holding.{array_is, string_is, hash_is, space_is, fiber_of_is}
use Rattle.world_laws.proofs.Stores.{keeps_object}
use Rattle.world_laws.proofs.Values.{pushed_keeps, appended_keeps, push_splat_keeps}
use Rattle.machine_laws.proofs.Worlds.{bodies}

-- what is found is right
there : {A : Type 0} (P : A → Type 0) (o : Option A) (x : A) → OptionIs P o → o ≡ Some x → P x
there P o x h e = subst (OptionIs P) e h

module _ (p : Program) (ls : List Registers) (w : World) (fine : Fine (bodies p ls) w) where
  pub fiber_runs : (f : ObjId) (x : ObjId × Bool) → Is (census w.store) Fiber f
      → fiber_of (kind_in w.store.objects (Obj f)) ≡ Some x → Is (census w.store) Proc x.0
  fiber_runs f x is e =
      there (λ y. Is (census w.store) Proc y.0) (fiber_of (kind_in w.store.objects (Obj f))) x
      (fiber_of_is w.store fine.store (Obj f) (is_good w.store Fiber f is).there) e

  changed_object : (v : World) (id : ObjId) → Keeps (bodies p ls) w v → Is (census w.store) Any id
      → AnswerIs (bodies p ls) w (give v (Obj id))
  changed_object v id k is = record { keeps = k; result = role_stays w v k.extends Any id is }

  array_there : (v : Value) (id : ObjId) → IsValue (census w.store) v → an_array w.store.objects v ≡ Some id
      → Is (census w.store) Array id
  array_there v id is e =
      there (Is (census w.store) Array) (an_array w.store.objects v) id (array_is w.store fine.store v is) e

  pub array_pushed : (v : Value) (id : ObjId) (vs : List Value) → IsValue (census w.store) v
      → an_array w.store.objects v ≡ Some id → AllAre (IsValue (census w.store)) vs
      → AnswerIs (bodies p ls) w (give (with_store w (pushed w.store id vs)) (Obj id))
  array_pushed v id vs is e all =
      let array = array_there v id is e in
      changed_object (with_store w (pushed w.store id vs)) id (pushed_keeps (bodies p ls) w fine id vs array all)
      (is_good w.store Array id array).there

  pub splat_pushed : (v u : Value) (id : ObjId) → IsValue (census w.store) v
      → an_array w.store.objects v ≡ Some id → IsValue (census w.store) u
      → AnswerIs (bodies p ls) w (give (with_store w (push_splat (splat w.store u) id)) (Obj id))
  splat_pushed v u id is e value =
      let array = array_there v id is e in
      changed_object (with_store w (push_splat (splat w.store u) id)) id
      (push_splat_keeps (bodies p ls) w fine id u array value) (is_good w.store Array id array).there

  pub text_appended : (v : Value) (id : ObjId) (bytes : List ℕ) → IsValue (census w.store) v
      → a_string w.store.objects v ≡ Some id
      → AnswerIs (bodies p ls) w (give (with_store w (appended w.store id bytes)) (Obj id))
  text_appended v id bytes is e =
      let text = there (HasSort (census w.store) sort.String) (a_string w.store.objects v) id
      (string_is w.store fine.store v is) e in
      changed_object (with_store w (appended w.store id bytes)) id
      (appended_keeps (bodies p ls) w fine id bytes text) (has_any w.store sort.String id text)

  -- new objects
  pub proc_made : (c : ProcContents) → SoundProc (census w.store) c → ProcFits p w ls c
      → AnswerIs (bodies p ls) w (make w (fresh (core class.Proc) (kind.Proc c)))
  proc_made c sound fits =
      makes_object (bodies p ls) w fine (fresh (core class.Proc) (kind.Proc c))
      (record {
        class = core_is_class w.store fine.store class.Proc refl;
        singleton = tt;
        variables = tt;
        kind = sound;
      }) fits

  pub hash_made : Keeps (bodies p ls) w
      (with_store w (with_object w.store (fresh (core class.Hash) (kind.Hash no_pairs))))
  hash_made =
      keeps_object (bodies p ls) w fine (fresh (core class.Hash) (kind.Hash no_pairs))
      (record {
        class = core_is_class w.store fine.store class.Hash refl;
        singleton = tt;
        variables = tt;
        kind = record { pairs = tt; default = tt; block = tt };
      }) tt

  -- what is found
  pub hash_there : (v : Value) (id : ObjId) → IsValue (census w.store) v → a_hash w.store.objects v ≡ Some id
      → HasSort (census w.store) sort.Hash id
  hash_there v id is e =
      there (HasSort (census w.store) sort.Hash) (a_hash w.store.objects v) id (hash_is w.store fine.store v is) e

  pub space_there : (v : Value) (c : ObjId) → IsValue (census w.store) v → space_in w.store.objects v ≡ Some c
      → Is (census w.store) ClassOrModule c
  space_there v c is e =
      there (Is (census w.store) ClassOrModule) (space_in w.store.objects v) c (space_is w.store fine.store v is) e
