-- What is asked where a class or a module is opened, whose body is run: what is given is one.
use Rattle.std.specs.Prelude.{◌≡◌, ℕ, List, [], ◌∷◌, ◌++◌, get_or}
use Rattle.rb_value.specs.declared.value.Value.{Value}
use Rattle.rb_value.specs.declared.value.Value.TheVariants.{Nil, Obj}
use Rattle.ir_core.specs.CoreForm.{Name, Body, class_form, module_form, absent, Forms}
use Rattle.def_calls.specs.World.{World, Answer, Result, gives, raises, class_around}
use Rattle.def_calls.specs.Definitions as definitions
use Rattle.def_calls.specs.Definitions.{space_in}
use Rattle.def_calls.specs.Views.{object_in}
use Rattle.def_eval.specs.Configuration.{Action, open_class, open_module, open_singleton, operands, Item, part, Focus, perform, give, Memory}
use Rattle.def_eval.specs.Scopes.{running}
use Rattle.def_eval.specs.Entering.{symbol}

abbrev pub IsSpace : Result → World → Type 0
IsSpace (gives v) w = object_in v ≡ space_in w.store.objects v
IsSpace (raises e) w = Unit {0}

abbrev pub GivesSpace : Answer → Type 0
GivesSpace a = IsSpace a.result a.world

-- where an action opens one with its operands
pub record OpensSpace (a : Action) (v u : Value) (m : Memory) : Type 0 where
  pub a_class : (x : Name) (i : ℕ) → a ≡ open_class x i → GivesSpace (definitions.open_class m.world v (symbol m x) u)
  pub a_module : (x : Name) (i : ℕ) → a ≡ open_module x i → GivesSpace (definitions.open_module m.world v (symbol m x))
  pub a_singleton : (i : ℕ) → a ≡ open_singleton i → GivesSpace (definitions.singleton_class m.world v)

-- where a form opens one in the class of its text, and where the last operand of an action is given
pub record Opening (f : Focus) (ks : List Item) (m : Memory) : Type 0 where
  pub a_class : (n : ℕ) (x : Name) (b : Body) → f ≡ perform n (class_form absent x absent b)
      → GivesSpace (definitions.open_class m.world (Obj (class_around m.world (running m).classes)) (symbol m x) Nil)
  pub a_module : (n : ℕ) (x : Name) (b : Body) → f ≡ perform n (module_form absent x b)
      → GivesSpace (definitions.open_module m.world (Obj (class_around m.world (running m).classes)) (symbol m x))
  pub by_operands : (v : Value) (n : ℕ) (a : Action) (vs : List Value) (es : Forms) (is : List Item) → f ≡ give v
      → ks ≡ part (operands n a vs es) ∷ is
      → OpensSpace a (get_or (vs ++ v ∷ []) 0 Nil) (get_or (vs ++ v ∷ []) 1 Nil) m
