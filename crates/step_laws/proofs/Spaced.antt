-- What is opened as a class or a module is one: so it is wherever the evaluation of a program stands (eval_laws), and
-- simple forms open none.
use Rattle.std.proofs.Common.{◌≡◌, List, [], ◌∷◌, ◌++◌, get_or, sym, ap, ◌∙◌, subst, Bool}
use Rattle.std.specs.Prelude.{if◌then◌else◌, Some, None}
use Rattle.rb_value.specs.declared.value.Value.{Value}
use Rattle.rb_value.specs.declared.value.Value.TheVariants.{Nil, True, False, Int, Sym, Obj}
use Rattle.rb_value.specs.declared.value.ObjId.{ObjId}
use Rattle.def_core.specs.Store.{Store}
use Rattle.def_core.specs.Sound.{census, Is, IsValue, AllAre, plays_at, ClassOrModule}
use Rattle.def_core.proofs.Good.{is_good, sort_found}
use Rattle.def_calls.specs.World.{Answer, Result, gives, raises, class_around}
use Rattle.def_calls.specs.Definitions as definitions
use Rattle.def_calls.specs.Definitions.{space_in}
use Rattle.def_calls.specs.Views.{object_in}
use Rattle.def_eval.specs.Source.{Source}
use Rattle.def_eval.specs.Configuration.{Action, Item, Focus, Memory, Run}
use Rattle.def_eval.specs.Scopes.{running}
use Rattle.def_eval.specs.Entering.{symbol}
use Rattle.world_laws.specs.Outcomes as outcomes
use Rattle.world_laws.specs.Fine.{Bodies}
use Rattle.world_laws.proofs.Constants.{class_around_is}
use Rattle.world_laws.proofs.Classes.{singleton_class_gives, open_class_gives, open_module_gives}
use Rattle.world_laws.proofs.Values.{value_at}
use Rattle.eval_laws.specs.Fits.{Past, Fits, ActionFits, ItemsFit, bodies}
use Rattle.eval_laws.proofs.Going.{all_behind, symbol_is}
use Rattle.step_laws.specs.Spaces.{IsSpace, GivesSpace, OpensSpace, Opening}
use Rattle.step_laws.proofs.Tame.{Awaits, to_local, to_end, to_round, ItemsAre, FocusIs, MemoryIs}

pub space_there : (st : Store) (id : ObjId) → Is (census st) ClassOrModule id → space_in st.objects (Obj id) ≡ Some id
space_there st id is =
    let plays_it = sym (ap (plays_at ClassOrModule) (sort_found st id (is_good st ClassOrModule id is))) ∙ is.holds in
    ap (λ (b : Bool). if b then Some id else None) plays_it

found_space : (st : Store) (v : Value) → outcomes.GivesSpace (census st) (gives v) → object_in v ≡ space_in st.objects v
found_space st Nil is = absurd is
found_space st True is = absurd is
found_space st False is = absurd is
found_space st (Int z) is = absurd is
found_space st (Sym x) is = absurd is
found_space st (Obj id) is = sym (space_there st id is)

given_space : (a : Answer) → outcomes.GivesSpace (census a.world.store) a.result → GivesSpace a
given_space a is = by a.result is
  where
    by : (r : Result) → outcomes.GivesSpace (census a.world.store) r → IsSpace r a.world
    by (gives v) h = found_space a.world.store v h
    by (raises e) h = tt

-- A configuration that fits.
module _ (s : Source) (early : Past) (ks : List Item) (m : Memory) where
  abbrev kept : Bodies
  kept = bodies s early.Known m.scopes

  -- an action with its operands
  action_opens : (f : Focus) (h : Fits s early (Run f ks m)) (a : Action) (us : List Value) → ActionFits s a
      → AllAre (IsValue (census m.world.store)) us → OpensSpace a (get_or us 0 Nil) (get_or us 1 Nil) m
  action_opens f h a us fits all =
      let k = census m.world.store in
      let v = get_or us 0 Nil in
      let u = get_or us 1 Nil in
      record {
        a_class = λ x i e. given_space (definitions.open_class m.world v (symbol m x) u)
            (open_class_gives kept m.world h.memory.world v (symbol m x) u (value_at k us 0 all)
            (symbol_is s early m h.memory x (subst (ActionFits s) e fits).0) (value_at k us 1 all));
        a_module = λ x i e. given_space (definitions.open_module m.world v (symbol m x))
            (open_module_gives kept m.world h.memory.world v (symbol m x) (value_at k us 0 all)
            (symbol_is s early m h.memory x (subst (ActionFits s) e fits).0));
        a_singleton = λ i e. given_space (definitions.singleton_class m.world v)
            (singleton_class_gives kept m.world h.memory.world v (value_at k us 0 all));
      }

  pub opening : (f : Focus) → Fits s early (Run f ks m) → Opening f ks m
  opening f h =
      let here : IsValue (census m.world.store) (Obj (class_around m.world (running m).classes)) =
      (is_good m.world.store ClassOrModule _ (class_around_is kept m.world h.memory.world (running m).classes)).there in
      let c = Obj (class_around m.world (running m).classes) in
      record {
        a_class = λ n x b e.
            let stands = (subst (λ (q : Focus). Fits s early (Run q ks m)) e h).focus.1.2 in
            given_space (definitions.open_class m.world c (symbol m x) Nil)
            (open_class_gives kept m.world h.memory.world c (symbol m x) Nil here
            (symbol_is s early m h.memory x stands.0) tt);
        a_module = λ n x b e.
            let stands = (subst (λ (q : Focus). Fits s early (Run q ks m)) e h).focus.1.2 in
            given_space (definitions.open_module m.world c (symbol m x))
            (open_module_gives kept m.world h.memory.world c (symbol m x) here
            (symbol_is s early m h.memory x stands.0));
        by_operands = λ v n a vs es is e q.
            let value = (subst (λ (z : Focus). Fits s early (Run z ks m)) e h).focus in
            let part_fits = (subst (ItemsFit s m.world m.scopes m.place) q h.items).0.2 in
            action_opens f h a (vs ++ v ∷ []) part_fits.0
            (all_behind (IsValue (census m.world.store)) vs v part_fits.1 value);
      }

-- Simple forms.
awaits_none : (a : Action) → Awaits a → (v u : Value) (m : Memory) → OpensSpace a v u m
awaits_none a (to_local y is) v u m = record {
  a_class = λ x i e. absurd (cc (sym is ∙ e));
  a_module = λ x i e. absurd (cc (sym is ∙ e));
  a_singleton = λ i e. absurd (cc (sym is ∙ e));
}
awaits_none a (to_end is) v u m = record {
  a_class = λ x i e. absurd (cc (sym is ∙ e));
  a_module = λ x i e. absurd (cc (sym is ∙ e));
  a_singleton = λ i e. absurd (cc (sym is ∙ e));
}
awaits_none a (to_round is) v u m = record {
  a_class = λ x i e. absurd (cc (sym is ∙ e));
  a_module = λ x i e. absurd (cc (sym is ∙ e));
  a_singleton = λ i e. absurd (cc (sym is ∙ e));
}

pub opens_none : (s : Source) (f : Focus) (ks : List Item) (m : Memory) → MemoryIs s f ks m → Opening f ks m
opens_none s f ks m t = record {
  a_class = λ n x b e. absurd (subst (λ (q : Focus). FocusIs m.world q ks m.place) e t.focus).0;
  a_module = λ n x b e. absurd (subst (λ (q : Focus). FocusIs m.world q ks m.place) e t.focus).0;
  by_operands = λ v n a vs es is e q.
      awaits_none a (subst (λ (z : List Item). ItemsAre s m.world z m.place) q t.items).0.0
      (get_or (vs ++ v ∷ []) 0 Nil)
      (get_or (vs ++ v ∷ []) 1 Nil) m;
}
