-- What is left where an evaluation goes on: a memory that fits, over items that fit.
use Rattle.std.proofs.Common.{◌≡◌, ◌<◌, ℕ, ◌+◌, List, [], ◌∷◌, ◌++◌, length, Bool, true, false, cond, refl, sym, ◌∙◌, subst, true≢false}
use Rattle.std.specs.Prelude.{Option, Some, None, is_some, bytes_eq, ◌||◌, unwrap_or}
use Rattle.std.specs.List.{list_any, position, position_from}
use Rattle.std.proofs.lemmas.Iterator.Adapters.{position_from-zero}
use Rattle.std.proofs.lemmas.List.Quantifiers.{position-Some}
use Rattle.rb_value.specs.declared.value.Value.{Value}
use Rattle.rb_value.specs.declared.value.Value.TheVariants.{Nil}
use Rattle.def_core.specs.Store.{Store}
use Rattle.def_core.specs.Changes.{intern, intern_at}
use Rattle.def_core.specs.Sound.{Census, census, IsSymbol, IsValue, OptionIs, AllAre}
use Rattle.ir_core.specs.CoreForm.{Name, Local, named, hidden, pattern, rest, CoreForm}
use Rattle.ir_core.specs.Program.{Around}
use Rattle.def_calls.specs.World.{World, Answer, Result, gives, raises}
use Rattle.def_eval.specs.Source.{Source}
use Rattle.def_eval.specs.Configuration as eval
use Rattle.def_eval.specs.Configuration.{Halt, Scope, Part, Item, Focus, perform, give, travel, Memory, with_world, Config, Run, stop_of}
use Rattle.def_eval.specs.Scopes.{value_in, scope_at, scopes_around, first_with, last_or, scope_of, variable, own_variable, with_variable, running, is_there}
use Rattle.def_eval.specs.Entering.{symbol, after, after_result}
use Rattle.world_laws.specs.Fine.{Fine, Extends, Keeps, ActivationIs}
use Rattle.world_laws.specs.Outcomes.{AnswerIs, ResultIs}
use Rattle.world_laws.proofs.Ending.{activation_at_is}
use Rattle.world_laws.proofs.Growing.{value_stays, extends_itself, extends_both}
use Rattle.eval_laws.specs.Standing.{IsNamed, FormStands}
use Rattle.eval_laws.specs.Fits.{Past, ComesHushed, After, ScopesFit, AroundFits, begins_anew, in_clause, assigns_exception, has_exception, PartStands, ItemsFit, MemoryFits, FocusFits, Fits, bodies}
use Rattle.eval_laws.proofs.Tests.{or_right}
use Rattle.eval_laws.proofs.Scopes.{Values, Parents, later_itself, later_put, scopes_put, parents_of, value_found, scopes_there, last_there, first_there}
use Rattle.eval_laws.proofs.Staying.{place_stays, items_stay, memories_stay, names_stay, fine_later}

pub record Under (s : Source) (early : Past) (ks : List Item) (m : Memory) : Type 0 where
  pub memory : MemoryFits s early m
  pub items : ItemsFit s m.world m.scopes m.place ks

-- a form is done over items, under what stands around it
pub record Text (s : Source) (early : Past) (ks : List Item) (m : Memory) (a : Around) : Type 0 where
  pub under : Under s early ks m
  pub there : is_there ks ≡ true
  pub around : AroundFits m.scopes m.place.scope ks a

-- Lists.

pub all_behind : {A : Type 0} (P : A → Type 0) (xs : List A) (x : A) → AllAre P xs → P x → AllAre P (xs ++ x ∷ [])
all_behind P [] x all is = (is, tt)
all_behind P (y ∷ xs) x all is = (all.0, all_behind P xs x all.1 is)

-- Symbols.

symbol_found : (st : Store) (x : Name) (o : Option ℕ) → position (bytes_eq x) st.symbols ≡ o → is_some o ≡ true
    → IsSymbol (census st) (intern_at st x o).symbol
symbol_found st x None e h = absurd (true≢false (sym h))
symbol_found st x (Some i) e h = record { below = (position-Some (bytes_eq x) st.symbols i [] e).0 }

some_by : (t u : Bool) (i : ℕ) (o : Option ℕ) → (t || u) ≡ true → (u ≡ true → is_some o ≡ true)
    → is_some (cond t (Some i) o) ≡ true
some_by true u i o h f = refl
some_by false u i o h f = f h

from_there : (x : Name) (i : ℕ) (xs : List Name) → list_any (bytes_eq x) xs ≡ true
    → is_some (position_from (bytes_eq x) i xs) ≡ true
from_there x i [] h = absurd (true≢false (sym h))
from_there x i (y ∷ ys) h =
    some_by (bytes_eq x y) (list_any (bytes_eq x) ys) i (position_from (bytes_eq x) (i + 1) ys) h
    (from_there x (i + 1) ys)

position_there : (x : Name) (xs : List Name) → list_any (bytes_eq x) xs ≡ true
    → is_some (position (bytes_eq x) xs) ≡ true
position_there x xs h = subst (λ o. is_some o ≡ true) (sym (position_from-zero (bytes_eq x) xs)) (from_there x 0 xs h)

pub name_is : (st : Store) (x : Name) → list_any (bytes_eq x) st.symbols ≡ true
    → IsSymbol (census st) (intern st x).symbol
unfolding intern
name_is st x h = symbol_found st x (position (bytes_eq x) st.symbols) refl (position_there x st.symbols h)

value_or_nil : (k : Census) (o : Option Value) → OptionIs (IsValue k) o → IsValue k (unwrap_or o Nil)
value_or_nil k None h = tt
value_or_nil k (Some v) h = h

within_or : (most n : ℕ) (o : Option ℕ) → n < most → OptionIs (λ m. m < most) o → unwrap_or o n < most
within_or most n None lt h = lt
within_or most n (Some m) lt h = h

module _ (s : Source) (early : Past) where
  pub scopes_stay : (w v : World) (cs : List Scope) → Extends w v → ScopesFit (census w.store) cs
      → ScopesFit (census v.store) cs
  scopes_stay w v cs e h n lt =
      let c = h n lt in record { parent = c.parent; variables = all_later (scope_at cs n).variables c.variables }
    where
      all_later : (vs : List (Local × Value)) → Values (census w.store) vs → Values (census v.store) vs
      all_later [] all = tt
      all_later (x ∷ vs) all = (value_stays w v e x.1 all.0, all_later vs all.1)

  module _ (m : Memory) (h : MemoryFits s early m) where
    pub symbol_is : (x : Name) → IsNamed s x → IsSymbol (census m.world.store) (symbol m x)
    symbol_is x is = name_is m.world.store x (h.names x is)

    -- the activation that runs is there
    pub running_is : ActivationIs m.world (running m)
    running_is = activation_at_is (bodies s early.Known m.scopes) m.world h.world m.place.activation h.place.activation

    -- Variables.

    around_place : AllAre (λ n. n < length m.scopes) (scopes_around m.scopes m.place.scope)
    around_place =
        scopes_there m.scopes m.place.scope (parents_of (census m.world.store) m.scopes h.scopes) h.place.scope

    found_or_place : (x : Local)
        → unwrap_or (first_with m.scopes (scopes_around m.scopes m.place.scope) x) m.place.scope < length m.scopes
    found_or_place x = within_or (length m.scopes) m.place.scope
        (first_with m.scopes (scopes_around m.scopes m.place.scope) x) h.place.scope
        (first_there m.scopes (scopes_around m.scopes m.place.scope) x around_place)

    -- each local is sought in a scope that is there
    pub scope_there : (x : Local) → scope_of m x < length m.scopes
    scope_there (named x) = found_or_place (named x)
    scope_there (hidden n) = h.place.scope
    scope_there (pattern n) = found_or_place (pattern n)
    scope_there rest = found_or_place rest

    value_there : (n : ℕ) (x : Local) → n < length m.scopes
        → IsValue (census m.world.store) (unwrap_or (value_in (scope_at m.scopes n).variables x) Nil)
    value_there n x lt = value_or_nil (census m.world.store) (value_in (scope_at m.scopes n).variables x)
        (value_found (census m.world.store) (scope_at m.scopes n).variables x (h.scopes n lt).variables)

    pub variable_is : (x : Local) → IsValue (census m.world.store) (variable m x)
    unfolding variable
    variable_is x = value_there (scope_of m x) x (scope_there x)

    pub own_is : (x : Local) → IsValue (census m.world.store) (own_variable m x)
    unfolding own_variable
    own_is x =
        let ns = scopes_around m.scopes m.place.scope in
        value_there (last_or m.place.scope ns) x (last_there m.scopes m.place.scope ns h.place.scope around_place)

    -- Another world.

    -- a fine world that goes on from it and from another one
    pub memory_later : (w : World) → Fine (bodies s early.Known m.scopes) w → Extends m.world w → (first : World) → Extends first w
        → w.out ≡ first.out → MemoryFits s (record early { world = first }) (with_world m w)
    memory_later w fine e first since out =
        let p = parents_of (census m.world.store) m.scopes h.scopes in
        record {
          place = place_stays s m.world w e m.scopes m.scopes p (later_itself m.scopes) m.place h.place;
          scopes = scopes_stay m.world w m.scopes e h.scopes;
          world = fine;
          names = names_stay s m.world w e h.names;
          fibers = memories_stay s m.world w e m.scopes m.scopes p (later_itself m.scopes) m.fibers h.fibers;
          since = since;
          out = out;
        }

    module _ (w : World) (k : Keeps (bodies s early.Known m.scopes) m.world w) where
      p : Parents m.scopes
      p = parents_of (census m.world.store) m.scopes h.scopes

      pub memory_then : MemoryFits s early (with_world m w)
      memory_then =
          memory_later w k.fine k.extends early.world (extends_both early.world m.world w h.since k.extends) (k.out ∙ h.out)

      pub items_then : (ks : List Item) → ItemsFit s m.world m.scopes m.place ks → ItemsFit s w m.scopes m.place ks
      items_then ks is =
          items_stay s m.world w k.extends m.scopes m.scopes p (later_itself m.scopes) m.place ks h.place.scope is

  pub under_then : (ks : List Item) (m : Memory) (w : World) → Under s early ks m → Keeps (bodies s early.Known m.scopes) m.world w
      → Under s early ks (with_world m w)
  under_then ks m w u k = record {
    memory = memory_then m u.memory w k;
    items = items_then m u.memory w k ks u.items;
  }

  pub text_then : (ks : List Item) (m : Memory) (a : Around) (w : World) → Text s early ks m a
      → Keeps (bodies s early.Known m.scopes) m.world w → Text s early ks (with_world m w) a
  text_then ks m a w t k = record { under = under_then ks m w t.under k; there = t.there; around = t.around }

  -- A variable that is set.

  pub under_variable : (ks : List Item) (m : Memory) (x : Local) (v : Value) → Under s early ks m
      → IsValue (census m.world.store) v → Under s early ks (with_variable m x v)
  unfolding with_variable
  under_variable ks m x v u is =
      let k = census m.world.store in
      let n = scope_of m x in
      let lt = scope_there m u.memory x in
      let p = parents_of k m.scopes u.memory.scopes in
      let ds = (with_variable m x v).scopes in
      let l = later_put m.scopes n x v lt in
      let e = extends_itself m.world in
      record {
        memory = record {
          place = place_stays s m.world m.world e m.scopes ds p l m.place u.memory.place;
          scopes = scopes_put m.scopes n x v lt k u.memory.scopes is;
          world = fine_later s early.Known m.scopes ds p l m.world u.memory.world;
          names = u.memory.names;
          fibers = memories_stay s m.world m.world e m.scopes ds p l m.fibers u.memory.fibers;
          since = u.memory.since;
          out = u.memory.out;
        };
        items = items_stay s m.world m.world e m.scopes ds p l m.place ks u.memory.place.scope u.items;
      }

  -- Configurations.

  pub goes : (f : Focus) (ks : List Item) (m : Memory) → Under s early ks m → FocusFits s ks m f
      → Fits s early (Run f ks m)
  goes f ks m u focus = record { memory = u.memory; focus = focus; items = u.items }

  pub after_fits : (a : Answer) (ks : List Item) (m : Memory) → Under s early ks m
      → AnswerIs (bodies s early.Known m.scopes) m.world a
      → Fits s early (after a ks m)
  after_fits a ks m u h = by a.result h.result
    where
      by : (r : Result) → ResultIs (census a.world.store) r → Fits s early (after_result r a.world ks m)
      by (gives v) is = goes (give v) ks (with_world m a.world) (under_then ks m a.world u h.keeps) is
      by (raises e) is = goes (travel (eval.raise e)) ks (with_world m a.world) (under_then ks m a.world u h.keeps) is

  -- a form that is done where it stands
  pub does : (n : ℕ) (e : CoreForm) (ks : List Item) (m : Memory) (a : Around) → Text s early ks m a
      → FormStands s a n e
      → Fits s early (Run (perform n e) ks m)
  does n e ks m a t h = goes (perform n e) ks m t.under (t.there, (a, t.around, h))

  -- over a part that waits
  pub over_part : (p : Part) (ks : List Item) (m : Memory) (a : Around) → Text s early ks m a
      → PartStands s (census m.world.store) a p → Text s early (eval.part p ∷ ks) m a
  over_part p ks m a t h = record {
    under = record { memory = t.under.memory; items = ((a, t.around, h), t.there, t.under.items) };
    there = refl;
    around = record {
      scene = t.around.scene;
      target = λ e. or_right (assigns_exception (stop_of p)) (has_exception ks) (t.around.target e);
      clause = λ e. or_right (begins_anew (stop_of p)) (in_clause ks) (t.around.clause e);
    };
  }

  pub does_part : (p : Part) (n : ℕ) (e : CoreForm) (ks : List Item) (m : Memory) (a : Around) → Text s early ks m a
      → PartStands s (census m.world.store) a p → FormStands s a n e
      → Fits s early (Run (perform n e) (eval.part p ∷ ks) m)
  does_part p n e ks m a t h f = does n e (eval.part p ∷ ks) m a (over_part p ks m a t h) f

-- Nothing was written.

hushed_always : (q : Type 0) → q → (c : Config) → ComesHushed q c
hushed_always q h (Run (perform n e) ks m) = tt
hushed_always q h (Run (eval.give v) [] m) = h
hushed_always q h (Run (eval.give v) (k ∷ ks) m) = tt
hushed_always q h (Run (eval.travel x) ks m) = h
hushed_always q h (Halt e) = tt

pub quietly : (s : Source) (early : Past) (c : Config) → Fits s early c → After s early c
quietly s early c h = record { out = early.world.out; fits = h; hushed = hushed_always (early.world.out ≡ early.world.out) refl c }

-- what is written makes no other world
pub same_since : (early w : World) (out : List ℕ) → Extends early w → Extends (record early { out = out }) w
same_since early w out e = record {
  sorts = e.sorts;
  symbols = e.symbols;
  enclosing = e.enclosing;
  activations = e.activations;
}
