-- What defines classes, modules and methods keeps a world fine.
use Rattle.std.proofs.Common.{◌≡◌, ℕ, List, ◌++◌, Bool, true, false, refl, if◌then◌else◌}
use Rattle.std.specs.Prelude.{Option, Some, None, unwrap_or, is_some, codes, nat_eq}
use Rattle.std.specs.Map.{lookup}
use Rattle.rb_value.specs.declared.value.Value.{Value}
use Rattle.rb_value.specs.declared.value.Value.TheVariants.{Nil, True, False, Int, Sym, Obj}
use Rattle.rb_value.specs.declared.value.ObjId.{ObjId}
use Rattle.rb_value.specs.declared.value.SymId.{SymId}
use Rattle.rb_value.specs.declared.method.Method.TheVariants as method
use Rattle.rb_value.specs.declared.kind.ClassForm.{ClassForm}
use Rattle.rb_value.specs.declared.kind.ClassForm.TheVariants as form
use Rattle.rb_value.specs.declared.core_class.CoreClass.{CoreClass}
use Rattle.rb_value.specs.declared.core_class.CoreClass.TheVariants as class
use Rattle.rb_value.specs.CoreClass.{is_module}
use Rattle.rb_value.specs.Object.{Object}
use Rattle.rb_value.specs.Variables.{variable_of}
use Rattle.def_core.specs.declared.cause.Cause.TheVariants as cause
use Rattle.def_core.specs.declared.found.Found.{Found}
use Rattle.def_core.specs.Store.{core, same_object, name_at, next_number, with_object}
use Rattle.def_core.specs.Classes.{class_at}
use Rattle.def_core.specs.Find.{find}
use Rattle.def_core.specs.Texts.{class_name}
use Rattle.def_core.specs.Parts.{with_objects}
use Rattle.def_core.specs.Changes.{gives as done, fails, intern, Interned, constant_in, full_name, with_constant, make_named, parent_agrees, reopen_class, define_class_by, define_class_under, define_class, reopen_module, define_module_by, define_module, object_of_sort, is_class_sort, is_module_sort}
use Rattle.def_core.specs.Sound.{census, Class, Module, Superclass, ClassOrModule, Is, IsSymbol, IsValue, OptionIs}
use Rattle.rb_store.proofs.Start.{interned_symbol}
use Rattle.class_model.specs.Growth.{named_class}
use Rattle.class_model.proofs.Naming.{named_is_sound, named_is_class}
use Rattle.def_core.proofs.Roles.{class_is_superclass, superclass_is_class, module_is_class}
use Rattle.class_model.proofs.Lineages.{parent_or_object}
use Rattle.run_values.proofs.Made.{new_is}
use Rattle.def_calls.specs.World.{World, Activation, Answer, with_store}
use Rattle.def_calls.specs.Constants.{find_constant}
use Rattle.def_calls.specs.Values.{variables_of}
use Rattle.def_calls.specs.Definitions.{space_in, define_method, with_space, singleton_class, open_class, open_module, alias_found, alias_method, undefine_found, undefine_method, text_if, has_method, constant_there, super_of, instance_variable_told, global_told, constant_told, constant_in_told, method_told, yield_told, super_told}
use Rattle.world_laws.specs.Fine.{Bodies, Fine, Keeps}
use Rattle.world_laws.specs.Outcomes.{AnswerIs, GivesSpace, DefinesIs, FoundIs}
use Rattle.world_laws.proofs.Growing.{role_stays, value_stays, symbol_stays, option_stays}
use Rattle.world_laws.proofs.Standing.{keeps_itself, keeps_then}
use Rattle.world_laws.proofs.Stores.{keeps_object, keeps_interned}
use Rattle.world_laws.proofs.Answers.{gives_value, gives_in, makes_text, fails_with, defines_fails, answers_defined, defined_gives}
use Rattle.world_laws.proofs.Changing.{keeps_method, keeps_constant}
use Rattle.world_laws.proofs.Holding.{space_is, class_is, module_is}
use Rattle.world_laws.proofs.Searching.{find_is, constant_is}
use Rattle.world_laws.proofs.Singletons.{singleton_is}
use Rattle.world_laws.proofs.Values.{wrong_value_is, wrong_value_gives}

-- a name that is put into a world, and its symbol
pub record NamedIs (b : Bodies) (w : World) (named : Interned) : Type 0 where
  pub keeps : Keeps b w (with_store w named.store)
  pub symbol : IsSymbol (census named.store) named.symbol

module _ (b : Bodies) (w : World) (fine : Fine b w) where
  pub full_name_is : (scope : ObjId) (name : SymId) → IsSymbol (census w.store) name
      → NamedIs b w (full_name w.store scope name)
  full_name_is scope name symbol = by (same_object scope (core class.Object))
    where
      by : (c : Bool) → NamedIs b w (if c then (record { symbol = name; store = w.store })
          else intern w.store (class_name w.store scope ++ codes "::" ++ name_at w.store name))
      by true = record { keeps = keeps_itself b w fine; symbol = symbol }
      by false = record { keeps = keeps_interned b w fine _; symbol = interned_symbol w.store _ }

-- one that is there
gives_space : (b : Bodies) (w : World) → Fine b w → (c : ObjId) → Is (census w.store) ClassOrModule c
    → DefinesIs b w (done (Obj c) w.store)
gives_space b w fine c is = record { keeps = keeps_itself b w fine; outcome = is; raisable = tt }

-- a new class or module, and then the constant with it
module _ (b : Bodies) (w : World) (fine : Fine b w) (scope : ObjId) (name : SymId)
    (is : Is (census w.store) ClassOrModule scope) (symbol : IsSymbol (census w.store) name) where
  made_is : (named : Interned) (c : CoreClass) (f : ClassForm) (superclass : Option ObjId) → NamedIs b w named
      → is_module c ≡ false → OptionIs (Is (census w.store) Superclass) superclass
      → (f ≡ form.Module → superclass ≡ None) → DefinesIs b w (make_named named scope name c f superclass)
  made_is named c f superclass h plain above root =
      let v : World = with_store w named.store in
      let o : Object = named_class c f superclass named.symbol in
      let u : World = with_store w (with_object named.store o) in
      let k = keeps_object b v h.keeps.fine o
      (named_is_sound named.store h.keeps.fine.store c f superclass named.symbol o refl plain
      (option_stays (Is (census w.store) Superclass) (Is (census v.store) Superclass)
      (role_stays w v h.keeps.extends Superclass) superclass above) root h.symbol) tt in
      let both = keeps_then b w v u h.keeps k in
      let there = new_is named.store o in
      let set = keeps_constant b u k.fine scope name (Obj (next_number named.store))
      (role_stays w u both.extends ClassOrModule scope is) (symbol_stays w u both.extends name symbol) there in
      let x : World = with_store u (with_objects u.store
      (with_constant u.store.objects scope name (Obj (next_number named.store)))) in
      record {
        keeps = keeps_then b w u x both set;
        outcome = role_stays u x set.extends ClassOrModule (next_number named.store)
            (named_is_class named.store c f superclass named.symbol);
        raisable = tt;
      }

  reopened : (parent o : Option ObjId) → OptionIs (Is (census w.store) Class) o
      → DefinesIs b w (reopen_class w.store name parent o)
  reopened parent None h = defines_fails b w fine (cause.NotClass name) symbol
  reopened parent (Some c) h = by (parent_agrees parent (class_at w.store.objects c).superclass)
    where
      by : (x : Bool) → DefinesIs b w
          (if x then done (Obj c) w.store else fails w.store (cause.SuperclassMismatch name))
      by true = gives_space b w fine c
          (superclass_is_class w.store c (class_is_superclass w.store c h))
      by false = defines_fails b w fine (cause.SuperclassMismatch name) symbol

  class_by : (parent : Option ObjId) (o : Option Value) → OptionIs (Is (census w.store) Class) parent
      → OptionIs (IsValue (census w.store)) o → DefinesIs b w (define_class_by w.store scope name parent o)
  class_by parent None h there =
      made_is (full_name w.store scope name) class.Class form.Class (Some (unwrap_or parent (core class.Object)))
      (full_name_is b w fine scope name symbol) refl (parent_or_object w.store fine.store parent h) (λ e. cc)
  class_by parent (Some v) h there = reopened parent (object_of_sort is_class_sort w.store.objects v)
      (class_is w.store fine.store v there)

  here : OptionIs (IsValue (census w.store)) (constant_in (class_at w.store.objects scope).constants name)
  here = constant_is w.store fine.store scope name

  class_under : (parent : Option ObjId) → OptionIs (Is (census w.store) Class) parent
      → DefinesIs b w (define_class_under w.store scope name parent)
  class_under None h = defines_fails b w fine cause.SuperclassNotClass tt
  class_under (Some p) h = class_by (Some p) (constant_in (class_at w.store.objects scope).constants name) h here

  not_a_class : DefinesIs b w (fails w.store cause.SuperclassNotClass)
  not_a_class = defines_fails b w fine cause.SuperclassNotClass tt

  pub class_defined : (parent : Value) → IsValue (census w.store) parent
      → DefinesIs b w (define_class w.store scope name parent)
  unfolding define_class
  class_defined Nil h = class_by None (constant_in (class_at w.store.objects scope).constants name) tt here
  class_defined True h = not_a_class
  class_defined False h = not_a_class
  class_defined (Int z) h = not_a_class
  class_defined (Sym s) h = not_a_class
  class_defined (Obj id) h = class_under (object_of_sort is_class_sort w.store.objects (Obj id))
      (class_is w.store fine.store (Obj id) h)

  module_reopened : (o : Option ObjId) → OptionIs (Is (census w.store) Module) o
      → DefinesIs b w (reopen_module w.store name o)
  module_reopened None h = defines_fails b w fine (cause.NotModule name) symbol
  module_reopened (Some m) h = gives_space b w fine m (module_is_class w.store m h)

  module_by : (o : Option Value) → OptionIs (IsValue (census w.store)) o
      → DefinesIs b w (define_module_by w.store scope name o)
  module_by None there = made_is (full_name w.store scope name) class.Module form.Module None
      (full_name_is b w fine scope name symbol) refl tt (λ e. refl)
  module_by (Some v) there = module_reopened (object_of_sort is_module_sort w.store.objects v)
      (module_is w.store fine.store v there)

  pub module_defined : DefinesIs b w (define_module w.store scope name)
  unfolding define_module
  module_defined = module_by (constant_in (class_at w.store.objects scope).constants name) here

module _ (b : Bodies) (w : World) (fine : Fine b w) where
  with_a_space : (instruction : List ℕ) (x : Value) (o : Option ObjId) (further : ObjId → Answer)
      → OptionIs (Is (census w.store) ClassOrModule) o
      → ((c : ObjId) → Is (census w.store) ClassOrModule c → AnswerIs b w (further c))
      → AnswerIs b w (with_space w instruction x o further)
  with_a_space instruction x None further is h = wrong_value_is b w fine instruction
  with_a_space instruction x (Some c) further is h = h c is

  -- and where it is refused nothing is given
  space_given : (instruction : List ℕ) (x : Value) (o : Option ObjId) (further : ObjId → Answer)
      → OptionIs (Is (census w.store) ClassOrModule) o
      → ((c : ObjId) → Is (census w.store) ClassOrModule c
      → GivesSpace (census (further c).world.store) (further c).result)
      → GivesSpace (census (with_space w instruction x o further).world.store) (with_space w instruction x o further).result
  space_given instruction x None further is h = wrong_value_gives b w fine instruction
  space_given instruction x (Some c) further is h = h c is

  pub define_method_is : (c : ObjId) (name : SymId) (body classes : ℕ) → Is (census w.store) ClassOrModule c
      → IsSymbol (census w.store) name → b.BodyIs w body classes → AnswerIs b w (define_method w c name body classes)
  unfolding define_method
  define_method_is c name body classes is symbol has =
      let k = keeps_method b w fine c name (method.Body body classes) (class_at w.store.objects c).visibility is symbol
      tt has in
      gives_in b w fine _ (Sym name) k (value_stays w _ k.extends (Sym name) symbol)

  pub singleton_class_is : (x : Value) → IsValue (census w.store) x → AnswerIs b w (singleton_class w x)
  unfolding singleton_class
  singleton_class_is x is = answers_defined b w fine _ (singleton_is b w fine x is)

  pub singleton_class_gives : (x : Value) → IsValue (census w.store) x
      → GivesSpace (census (singleton_class w x).world.store) (singleton_class w x).result
  unfolding singleton_class
  singleton_class_gives x is = defined_gives b w fine _ (singleton_is b w fine x is)

  pub open_class_is : (scope : Value) (name : SymId) (parent : Value) → IsValue (census w.store) scope
      → IsSymbol (census w.store) name → IsValue (census w.store) parent → AnswerIs b w (open_class w scope name parent)
  unfolding open_class
  open_class_is scope name parent is symbol above =
      with_a_space _ scope (space_in w.store.objects scope) _ (space_is w.store fine.store scope is)
      (λ c space. answers_defined b w fine _ (class_defined b w fine c name space symbol parent above))

  pub open_class_gives : (scope : Value) (name : SymId) (parent : Value) → IsValue (census w.store) scope
      → IsSymbol (census w.store) name → IsValue (census w.store) parent
      → GivesSpace (census (open_class w scope name parent).world.store) (open_class w scope name parent).result
  unfolding open_class
  open_class_gives scope name parent is symbol above =
      space_given _ scope (space_in w.store.objects scope) _ (space_is w.store fine.store scope is)
      (λ c space. defined_gives b w fine _ (class_defined b w fine c name space symbol parent above))

  pub open_module_is : (scope : Value) (name : SymId) → IsValue (census w.store) scope → IsSymbol (census w.store) name
      → AnswerIs b w (open_module w scope name)
  unfolding open_module
  open_module_is scope name is symbol =
      with_a_space _ scope (space_in w.store.objects scope) _ (space_is w.store fine.store scope is)
      (λ c space. answers_defined b w fine _ (module_defined b w fine c name space symbol))

  pub open_module_gives : (scope : Value) (name : SymId) → IsValue (census w.store) scope
      → IsSymbol (census w.store) name
      → GivesSpace (census (open_module w scope name).world.store) (open_module w scope name).result
  unfolding open_module
  open_module_gives scope name is symbol =
      space_given _ scope (space_in w.store.objects scope) _ (space_is w.store fine.store scope is)
      (λ c space. defined_gives b w fine _ (module_defined b w fine c name space symbol))

  alias_found_is : (c : ObjId) (new old : SymId) (o : Option Found) → Is (census w.store) ClassOrModule c
      → IsSymbol (census w.store) new → IsSymbol (census w.store) old → OptionIs (FoundIs b w) o
      → AnswerIs b w (alias_found w c new old o)
  alias_found_is c new old None is symbol other found =
      fails_with b w fine (cause.UndefinedInClass old c) (other, is)
  alias_found_is c new old (Some f) is symbol other found =
      gives_in b w fine _ Nil
      (keeps_method b w fine c new f.method f.visibility is symbol found.found.1 found.method) tt

  pub alias_method_is : (c : ObjId) (new old : SymId) → Is (census w.store) ClassOrModule c
      → IsSymbol (census w.store) new → IsSymbol (census w.store) old → AnswerIs b w (alias_method w c new old)
  unfolding alias_method
  alias_method_is c new old is symbol other =
      alias_found_is c new old (find w.store.objects c old) is symbol other (find_is b w fine c old is)

  undefine_found_is : (c : ObjId) (name : SymId) (o : Option Found) → Is (census w.store) ClassOrModule c
      → IsSymbol (census w.store) name → AnswerIs b w (undefine_found w c name o)
  undefine_found_is c name None is symbol = fails_with b w fine (cause.UndefinedInClass name c) (symbol, is)
  undefine_found_is c name (Some f) is symbol =
      gives_in b w fine _ Nil (keeps_method b w fine c name method.Undefined f.visibility is symbol tt tt) tt

  pub undefine_method_is : (c : ObjId) (name : SymId) → Is (census w.store) ClassOrModule c
      → IsSymbol (census w.store) name → AnswerIs b w (undefine_method w c name)
  unfolding undefine_method
  undefine_method_is c name is symbol = undefine_found_is c name (find w.store.objects c name) is symbol

  -- What `defined?` tells.

  text_if_is : (text : List ℕ) (c : Bool) → AnswerIs b w (text_if w text c)
  text_if_is text true = makes_text b w fine text
  text_if_is text false = gives_value b w fine Nil tt

  pub instance_variable_told_is : (self : Value) (name : SymId) → AnswerIs b w (instance_variable_told w self name)
  unfolding instance_variable_told
  instance_variable_told_is self name = text_if_is _ (is_some (variable_of (variables_of w.store.objects self) name))

  pub global_told_is : (name : SymId) → AnswerIs b w (global_told w name)
  unfolding global_told
  global_told_is name = text_if_is _ (is_some (lookup (nat_eq name.0) w.globals))

  pub constant_told_is : (classes : ℕ) (name : SymId) → AnswerIs b w (constant_told w classes name)
  unfolding constant_told
  constant_told_is classes name = text_if_is _ (is_some (find_constant w classes name))

  pub constant_in_told_is : (x : Value) (name : SymId) → AnswerIs b w (constant_in_told w x name)
  unfolding constant_in_told
  constant_in_told_is x name = text_if_is _ (constant_there w name (space_in w.store.objects x))

  pub method_told_is : (caller receiver : Value) (name : SymId) → AnswerIs b w (method_told w caller receiver name)
  unfolding method_told
  method_told_is caller receiver name = text_if_is _ (has_method w caller receiver name)

  pub yield_told_is : (a : Activation) → AnswerIs b w (yield_told w a)
  unfolding yield_told
  yield_told_is a = text_if_is _ (is_some a.block)

  pub super_told_is : (a : Activation) → AnswerIs b w (super_told w a)
  unfolding super_told
  super_told_is a = text_if_is _ (is_some (super_of w a.self a.owner a.name))
