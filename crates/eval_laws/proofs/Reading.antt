-- What is read in a configuration that fits is there.
use Rattle.std.proofs.Common.{◌≤◌, ◌∷◌, ◌++◌, length, arith, length-append, ◌≡◌, ℕ, List, [], true, refl, sym, subst, true≢false}
use Rattle.std.specs.Prelude.{Option, Some, None, is_some, unwrap_or}
use Rattle.rb_value.specs.declared.value.Value.{Value}
use Rattle.rb_value.specs.declared.value.ObjId.{ObjId}
use Rattle.def_core.specs.Sound.{census, IsValue, OptionIs}
use Rattle.ir_core.specs.CoreForm as form
use Rattle.ir_core.specs.CoreForm.{none, Local, named, hidden, pattern, rest, CoreForm, Body}
use Rattle.ir_core.specs.Program.{Around, is_known, is_bound}
use Rattle.def_eval.specs.Source.{Source, body_at}
use Rattle.def_eval.specs.Configuration as eval
use Rattle.def_eval.specs.Configuration.{Action, Scope, Exit, Item, Focus, Memory, Config, Run, Halt}
use Rattle.def_eval.specs.Scopes.{value_in, scope_at, scopes_around, first_with, scope_of}
use Rattle.eval_laws.specs.Fits.{Past, wanted, Fits, is_outward, has_exception}
use Rattle.eval_laws.specs.Example.{lost}
use Rattle.eval_laws.specs.Reached.{SoundStore, IsFound, IsOwn}
use Rattle.eval_laws.proofs.Scopes.{is_in, first_has}
use Rattle.eval_laws.proofs.Going.{scope_there}
use Rattle.eval_laws.proofs.Forming.{block_there}

pub store_sound : (s : Source) (early : Past) (c : Config) → Fits s early c → SoundStore c
store_sound s early (Halt e) h = tt
store_sound s early (Run f ks m) h = h.memory.world.store

pub value_good : (s : Source) (early : Past) (v : Value) (ks : List Item) (m : Memory)
    → Fits s early (Run (eval.give v) ks m)
    → IsValue (census m.world.store) v
value_good s early v ks m h = h.focus

-- what is found has it
found_in : (cs : List Scope) (x : Local) (n : ℕ) (o : Option ℕ) → is_some o ≡ true
    → OptionIs (λ i. is_in (scope_at cs i).variables x ≡ true) o → is_in (scope_at cs (unwrap_or o n)).variables x ≡ true
found_in cs x n None h g = absurd (true≢false (sym h))
found_in cs x n (Some i) h g = g

module _ (s : Source) (early : Past) (n : ℕ) (ks : List Item) (m : Memory) where
  seen_there : (x : Local) (o : Option ℕ) → first_with m.scopes (scopes_around m.scopes m.place.scope) x ≡ o
      → is_some o ≡ true → is_in (scope_at m.scopes (unwrap_or o m.place.scope)).variables x ≡ true
  seen_there x o e h = found_in m.scopes x m.place.scope o h
      (subst (OptionIs (λ i. is_in (scope_at m.scopes i).variables x ≡ true)) e
      (first_has m.scopes (scopes_around m.scopes m.place.scope) x))

  variable_there : (x : Local) (a : Around) → is_known x a.known ≡ true
      → ((y : Local) → is_bound y a.known ≡ true → is_outward y ≡ true
      → is_some (first_with m.scopes (scopes_around m.scopes m.place.scope) y) ≡ true) → is_outward x ≡ true
      → is_some (value_in (scope_at m.scopes (scope_of m x)).variables x) ≡ true
  variable_there (named y) a h sees out =
      seen_there (named y) (first_with m.scopes (scopes_around m.scopes m.place.scope) (named y)) refl
      (sees (named y) h out)
  variable_there (hidden i) a h sees out = absurd (true≢false (sym out))
  variable_there (pattern i) a h sees out =
      seen_there (pattern i) (first_with m.scopes (scopes_around m.scopes m.place.scope) (pattern i)) refl
      (sees (pattern i) h out)
  variable_there rest a h sees out =
      seen_there rest (first_with m.scopes (scopes_around m.scopes m.place.scope) rest) refl (sees rest h out)

  pub local_found : (x : Local) → Fits s early (Run (eval.perform n (form.local x)) ks m) → IsFound m x
  local_found x h =
      let f = h.focus.1 in
      record {
        scope = scope_there s early m h.memory x;
        variable = λ out. variable_there x f.0 f.2 f.1.scene.sees out;
      }

  pub set_found : (x : Local) (e : CoreForm) → Fits s early (Run (eval.perform n (form.set_local x e)) ks m)
      → IsFound m x
  set_found x e h =
      let f = h.focus.1 in
      record {
        scope = scope_there s early m h.memory x;
        variable = λ out. variable_there x f.0 f.2.0 f.1.scene.sees out;
      }

  pub own_found : (x : Local) → Fits s early (Run (eval.perform n (form.own x)) ks m) → IsOwn m x
  own_found x h = let f = h.focus.1 in f.1.scene.owns x f.2

  pub exception_found : Fits s early (Run (eval.perform n form.exception) ks m) → has_exception ks ≡ true
  exception_found h = let f = h.focus.1 in f.1.target f.2

  pub block_found : (f : Body) → Fits s early (Run (eval.perform n (form.function f)) ks m) → body_at s n ≡ f
  block_found f h = let g = h.focus.1 in block_there s g.0 n f g.2

-- an action has as many values as it wants
pub values_enough : (s : Source) (early : Past) (n : ℕ) (action : Action) (vs : List Value) (v : Value) (ks : List Item) (m : Memory)
    → Fits s early (Run (eval.give v) (eval.part (eval.operands n action vs none) ∷ ks) m)
    → wanted action ≤ length (vs ++ v ∷ [])
values_enough s early n action vs v ks m h = let g = h.items.0 in rw length-append (omega (arith, g.2.3))

-- nothing but an exception gets past the last item
pub leaves_last : (s : Source) (early : Past) (x : Exit) (m : Memory) → Fits s early (Run (eval.travel x) [] m)
    → (e : ObjId) × (x ≡ eval.raise e)
leaves_last s early (eval.raise e) m h = (e, refl)
leaves_last s early (eval.return a v) m h = absurd (true≢false (sym h.focus.0))
leaves_last s early (eval.break a v) m h = absurd (true≢false (sym h.focus.0))
leaves_last s early (eval.leave_loop v) m h = absurd (true≢false (sym h.focus.0))
leaves_last s early (eval.next v) m h = absurd (true≢false (sym h.focus.0))
leaves_last s early eval.begin_anew m h = absurd (true≢false (sym h.focus))

pub lost_fails : (s : Source) (early : Past) (m : Memory) → Fits s early (lost m) → ⊥
lost_fails s early m h = true≢false (sym h.focus.0)
