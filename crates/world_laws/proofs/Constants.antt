-- Constants and global variables keep a world fine.
use Rattle.std.proofs.Common.{ℕ, zero, suc, ◌-◌, List, [], ◌∷◌, get_or, Bool, true, false, cond, refl, if◌then◌else◌}
use Rattle.std.specs.Prelude.{Option, Some, None, unwrap_or, nat_eq}
use Rattle.std.specs.Map.{lookup}
use Rattle.rb_value.specs.declared.value.Value.{Value}
use Rattle.rb_value.specs.declared.value.Value.TheVariants.{Nil}
use Rattle.rb_value.specs.declared.value.ObjId.{ObjId}
use Rattle.rb_value.specs.declared.value.SymId.{SymId}
use Rattle.rb_value.specs.declared.core_class.CoreClass.TheVariants as class
use Rattle.def_core.specs.declared.cause.Cause.TheVariants as cause
use Rattle.def_core.specs.Store.{Store, core, same_object}
use Rattle.def_core.specs.Classes.{class_at, ancestors}
use Rattle.def_core.specs.Changes.{Interned, full_name, object_of_sort}
use Rattle.def_core.specs.Sound.{Census, census, ClassOrModule, Is, IsSymbol, IsValue, OptionIs, AllAre}
use Rattle.class_model.proofs.Lineages.{core_is_class}
use Rattle.def_calls.specs.World.{World, Enclosing, with_store, no_enclosing, class_around, global}
use Rattle.def_calls.specs.Constants.{is_space_sort, constant_path, find_constant, scope_told, constant_or_fail, get_constant, constant_within, get_constant_in, name_class, name_if_nameless, with_name_of, with_constant_value, set_constant_in, set_constant}
use Rattle.world_laws.specs.Fine.{Bodies, EnclosingAre, GlobalIs, Fine, Keeps}
use Rattle.world_laws.specs.Outcomes.{AnswerIs}
use Rattle.world_laws.proofs.Growing.{role_stays, value_stays, symbol_stays}
use Rattle.world_laws.proofs.Standing.{keeps_itself, keeps_then}
use Rattle.world_laws.proofs.Answers.{gives_value, gives_in, fails_with}
use Rattle.world_laws.proofs.Changing.{keeps_constant, keeps_name}
use Rattle.world_laws.proofs.Classes.{NamedIs, full_name_is}
use Rattle.world_laws.proofs.Holding.{space_is}
use Rattle.world_laws.proofs.Searching.{first_constant_is}

class_in : (k : Census) (m : ℕ) (es : List Enclosing) (n : ℕ) → EnclosingAre k m es
    → Is k ClassOrModule (core class.Object) → Is k ClassOrModule (get_or es n no_enclosing).class
class_in k m [] n all object = object
class_in k m (e ∷ es) zero all object = all.0
class_in k m (e ∷ es) (suc n) all object = class_in k (suc m) es n all.2 object

global_in : (k : Census) (gs : List (ℕ × Value)) (name : SymId) → AllAre (GlobalIs k) gs
    → IsValue k (unwrap_or (lookup (nat_eq name.0) gs) Nil)
global_in k [] name all = tt
global_in k (g ∷ gs) name all = elim (nat_eq name.0 g.0) as
    (λ c. IsValue k (unwrap_or (cond c (Some g.1) (lookup (nat_eq name.0) gs)) Nil)) [
      | true ↦ all.0.1
      | false ↦ global_in k gs name all.1
    ]

module _ (b : Bodies) (w : World) (fine : Fine b w) where
  pub global_is : (name : SymId) → IsValue (census w.store) (global w name)
  global_is name = global_in (census w.store) w.globals name fine.globals

  -- the innermost class of a list, and Object outside of all
  pub class_around_is : (n : ℕ) → Is (census w.store) ClassOrModule (class_around w n)
  class_around_is zero = core_is_class w.store fine.store class.Object refl
  class_around_is (suc n) = class_in (census w.store) 1 w.enclosing (suc n - 1) fine.enclosing
      (core_is_class w.store fine.store class.Object refl)

  told_is : (scope : ObjId) → Is (census w.store) ClassOrModule scope
      → OptionIs (Is (census w.store) ClassOrModule) (scope_told scope)
  told_is scope is = by (same_object scope (core class.Object))
    where
      by : (c : Bool) → OptionIs (Is (census w.store) ClassOrModule) (if c then None else Some scope)
      by true = tt
      by false = is

  found_or_fails : (scope : ObjId) (name : SymId) (o : Option Value) → Is (census w.store) ClassOrModule scope
      → IsSymbol (census w.store) name → OptionIs (IsValue (census w.store)) o
      → AnswerIs b w (constant_or_fail w scope name o)
  found_or_fails scope name None is symbol found =
      fails_with b w fine (cause.UninitializedConstant (scope_told scope) name) (told_is scope is, symbol)
  found_or_fails scope name (Some x) is symbol found = gives_value b w fine x found

  pub find_constant_is : (classes : ℕ) (name : SymId)
      → OptionIs (IsValue (census w.store)) (find_constant w classes name)
  unfolding find_constant
  find_constant_is classes name = first_constant_is w.store fine.store (constant_path w classes) name

  pub get_constant_is : (classes : ℕ) (name : SymId) → IsSymbol (census w.store) name
      → AnswerIs b w (get_constant w classes name)
  unfolding get_constant
  get_constant_is classes name symbol =
      found_or_fails (class_around w classes) name (find_constant w classes name) (class_around_is classes) symbol
      (find_constant_is classes name)

  pub constant_within_is : (c : ObjId) (name : SymId) → OptionIs (IsValue (census w.store)) (constant_within w c name)
  unfolding constant_within
  constant_within_is c name = first_constant_is w.store fine.store (ancestors w.store.objects c) name

  pub get_constant_in_is : (c : ObjId) (name : SymId) → Is (census w.store) ClassOrModule c
      → IsSymbol (census w.store) name → AnswerIs b w (get_constant_in w c name)
  get_constant_in_is c name is symbol =
      found_or_fails c name (constant_within w c name) is symbol (constant_within_is c name)

  -- Setting.

  class_named : (c : ObjId) (named : Interned) → Is (census w.store) ClassOrModule c → NamedIs b w named
      → Keeps b w (with_store w (name_class c named))
  class_named c named is h =
      let v : World = with_store w named.store in
      keeps_then b w v (with_store w (name_class c named)) h.keeps
      (keeps_name b v h.keeps.fine c named.symbol (role_stays w v h.keeps.extends ClassOrModule c is) h.symbol)

  named_if : (scope : ObjId) (name : SymId) (c : ObjId) (o : Option SymId) → IsSymbol (census w.store) name
      → Is (census w.store) ClassOrModule c → Keeps b w (with_store w (name_if_nameless w.store scope name c o))
  named_if scope name c None symbol is =
      class_named c (full_name w.store scope name) is (full_name_is b w fine scope name symbol)
  named_if scope name c (Some s) symbol is = keeps_itself b w fine

  named_of : (scope : ObjId) (name : SymId) (o : Option ObjId) → IsSymbol (census w.store) name
      → OptionIs (Is (census w.store) ClassOrModule) o → Keeps b w (with_store w (with_name_of w.store scope name o))
  named_of scope name None symbol is = keeps_itself b w fine
  named_of scope name (Some c) symbol is = named_if scope name c (class_at w.store.objects c).name symbol is

  pub set_constant_in_is : (scope : ObjId) (name : SymId) (x : Value) → Is (census w.store) ClassOrModule scope
      → IsSymbol (census w.store) name → IsValue (census w.store) x → AnswerIs b w (set_constant_in w scope name x)
  unfolding set_constant_in
  set_constant_in_is scope name x is symbol value =
      let st : Store = with_name_of w.store scope name (object_of_sort is_space_sort w.store.objects x) in
      let v : World = with_store w st in
      let k = named_of scope name (object_of_sort is_space_sort w.store.objects x) symbol
      (space_is w.store fine.store x value) in
      let u : World = with_store w (with_constant_value st scope name x) in
      let h = keeps_constant b v k.fine scope name x (role_stays w v k.extends ClassOrModule scope is)
      (symbol_stays w v k.extends name symbol) (value_stays w v k.extends x value) in
      let both = keeps_then b w v u k h in
      gives_in b w fine (with_constant_value st scope name x) x both (value_stays w u both.extends x value)

  -- of the innermost class
  pub set_constant_is : (classes : ℕ) (name : SymId) (x : Value) → IsSymbol (census w.store) name
      → IsValue (census w.store) x → AnswerIs b w (set_constant w classes name x)
  set_constant_is classes name x symbol value =
      set_constant_in_is (class_around w classes) name x (class_around_is classes) symbol value
