-- What binding gives to parameters is of the store after it.
use Rattle.std.proofs.Common.{ℕ, ◌+◌, ◌-◌, ◌≤◌, List, [], ◌∷◌, ◌++◌, length, take, replicate, get_or, Bool, true, false, arith, if◌then◌else◌}
use Rattle.std.specs.Prelude.{Option, Some, None, nat_eq}
use Rattle.rb_value.specs.declared.value.Value.{Value}
use Rattle.rb_value.specs.declared.value.Value.TheVariants.{Nil, Obj}
use Rattle.rb_value.specs.declared.method.Shape.{Shape}
use Rattle.def_core.specs.declared.bound.BindKind.{BindKind}
use Rattle.def_core.specs.declared.bound.BindKind.TheVariants.{Method, Lambda, Proc}
use Rattle.def_core.specs.declared.bound.Bound.TheVariants.{Wrong}
use Rattle.def_core.specs.Store.{next_number, with_object}
use Rattle.def_core.specs.Bind.{least, most, elements_in, elements_or, spreads, spread, padded, fitted, arguments, fits, filled, front, remaining, last, values, bind_fitting, bind}
use Rattle.def_core.specs.Sound.{Census, census, IsValue, OptionIs, AllAre}
use Rattle.def_core.proofs.PartsSound.{all_more, all_first, all_rest}
use Rattle.def_rows.specs.Answers.{items_object}
use Rattle.method_lookup.proofs.Lists.{all_replicate}
use Rattle.run_values.proofs.Made.{new_is, items_sound}
use Rattle.def_calls.specs.World.{World, with_store}
use Rattle.world_laws.specs.Fine.{Bodies, Fine}
use Rattle.world_laws.specs.Outcomes.{BindingIs}
use Rattle.world_laws.proofs.Standing.{keeps_itself}
use Rattle.world_laws.proofs.Stores.{keeps_object}
use Rattle.world_laws.proofs.Plans.{values_stay}
use Rattle.world_laws.proofs.Holding.{elements_are}
use Rattle.world_laws.proofs.Values.{value_at}

-- no more optional parameters are filled than there are
pub few_filled : (s : Shape) (n : ℕ) → filled s n ≤ s.optional
few_filled s n = omega arith

module _ (k : Census) (s : Shape) where
  front_are : (args : List Value) → AllAre (IsValue k) args → AllAre (IsValue k) (front s args)
  front_are args all = all_first (IsValue k) (s.required + filled s (length args)) args all

  remaining_are : (args : List Value) → AllAre (IsValue k) args → AllAre (IsValue k) (remaining s args)
  remaining_are args all = all_rest (IsValue k) (s.required + filled s (length args)) (take (length args - s.post) args)
      (all_first (IsValue k) (length args - s.post) args all)

  last_are : (args : List Value) → AllAre (IsValue k) args → AllAre (IsValue k) (last s args)
  last_are args all = all_rest (IsValue k) (length args - s.post) args all

  values_are : (rest args : List Value) → AllAre (IsValue k) rest → AllAre (IsValue k) args
      → AllAre (IsValue k) (values s rest args)
  values_are rest args others all =
      let nils : List Value = replicate (s.optional - filled s (length args)) Nil in
      all_more (IsValue k) ((front s args ++ nils) ++ rest) (last s args)
      (all_more (IsValue k) (front s args ++ nils) rest
      (all_more (IsValue k) (front s args) nils (front_are args all)
      (all_replicate (IsValue k) (s.optional - filled s (length args)) Nil tt)) others)
      (last_are args all)

module _ (b : Bodies) (w : World) (fine : Fine b w) where
  or_others : (o : Option (List Value)) (args : List Value) → OptionIs (AllAre (IsValue (census w.store))) o
      → AllAre (IsValue (census w.store)) args → AllAre (IsValue (census w.store)) (elements_or o args)
  or_others None args h g = g
  or_others (Some xs) args h g = h

  spread_are : (args : List Value) → AllAre (IsValue (census w.store)) args
      → AllAre (IsValue (census w.store)) (spread w.store.objects args)
  spread_are args all = by (nat_eq (length args) 1)
    where
      by : (c : Bool) → AllAre (IsValue (census w.store))
          (if c then elements_or (elements_in w.store.objects (get_or args 0 Nil)) args else args)
      by true = or_others (elements_in w.store.objects (get_or args 0 Nil)) args
          (elements_are w.store fine.store (get_or args 0 Nil) (value_at (census w.store) args 0 all)) all
      by false = all

  padded_are : (n : ℕ) (args : List Value) → AllAre (IsValue (census w.store)) args
      → AllAre (IsValue (census w.store)) (padded n args)
  padded_are n args all = all_more (IsValue (census w.store)) args (replicate (n - length args) Nil) all
      (all_replicate (IsValue (census w.store)) (n - length args) Nil tt)

  fitted_are : (s : Shape) (args : List Value) → AllAre (IsValue (census w.store)) args
      → AllAre (IsValue (census w.store)) (fitted s args)
  fitted_are s args all = padded_are (least s) (if s.rest then args else take (most s) args) (by s.rest)
    where
      by : (c : Bool) → AllAre (IsValue (census w.store)) (if c then args else take (most s) args)
      by true = all
      by false = all_first (IsValue (census w.store)) (most s) args all

  arguments_are : (s : Shape) (k : BindKind) (args : List Value) → AllAre (IsValue (census w.store)) args
      → AllAre (IsValue (census w.store)) (arguments w.store.objects s k args)
  arguments_are s Method args all = all
  arguments_are s Lambda args all = all
  arguments_are s Proc args all =
      fitted_are s (if spreads s then spread w.store.objects args else args) (by (spreads s))
    where
      by : (c : Bool) → AllAre (IsValue (census w.store)) (if c then spread w.store.objects args else args)
      by true = spread_are args all
      by false = all

  fitting_is : (s : Shape) (args : List Value) (rest : Bool) → AllAre (IsValue (census w.store)) args
      → BindingIs b w (bind_fitting w.store s args rest)
  fitting_is s args true all =
      let more : List Value = remaining s args in
      let v : World = with_store w (with_object w.store (items_object more)) in
      let k = keeps_object b w fine (items_object more)
      (items_sound w.store fine.store more (remaining_are (census w.store) s args all)) tt in
      record {
        keeps = k;
        bound = values_are (census v.store) s (Obj (next_number w.store) ∷ []) args
            (new_is w.store (items_object more), tt) (values_stay w v k.extends args all);
      }
  fitting_is s args false all = record {
    keeps = keeps_itself b w fine;
    bound = values_are (census w.store) s [] args tt all;
  }

  pub bind_is : (s : Shape) (args : List Value) (k : BindKind) → AllAre (IsValue (census w.store)) args
      → BindingIs b w (bind w.store s args k)
  unfolding bind
  bind_is s args k all = by (fits s (length (arguments w.store.objects s k args)))
    where
      by : (c : Bool) → BindingIs b w
          (if c then bind_fitting w.store s (arguments w.store.objects s k args) s.rest
          else record { bound = Wrong (length (arguments w.store.objects s k args)); store = w.store })
      by true = fitting_is s (arguments w.store.objects s k args) s.rest (arguments_are s k args all)
      by false = record { keeps = keeps_itself b w fine; bound = tt }
