-- The evaluation of simple forms stays calm: it calls no body and opens no scope.
use Rattle.std.proofs.Common.{◌≡◌, ℕ, zero, suc, List, [], ◌∷◌, refl, sym, ap, ◌∙◌, subst}
use Rattle.std.specs.Prelude.{Option, None}
use Rattle.std.proofs.lemmas.List.{append-nil}
use Rattle.rb_value.specs.Object.{Object}
use Rattle.rb_value.specs.declared.value.Value.{Value}
use Rattle.rb_value.specs.declared.value.Value.TheVariants.{Obj}
use Rattle.rb_value.specs.declared.core_class.CoreClass.TheVariants as class
use Rattle.def_core.specs.Store.{core}
use Rattle.rite_code.specs.Code.{Program}
use Rattle.ir_core.specs.CoreForm.{Local}
use Rattle.def_calls.specs.World.{World, Activation, activation_at}
use Rattle.def_calls.specs.Calls.{close}
use Rattle.def_calls.specs.Definitions.{space_in}
use Rattle.def_calls.specs.Fibers.{Onward}
use Rattle.def_calls.specs.Rows
use Rattle.def_eval.specs.Source.{Source, body_at, form_of, locals_of}
use Rattle.def_eval.specs.Configuration.{Exit, Part, operands, receiver, items, block, elements, hash_key, hash_value, pieces, rest, test, chosen, and_then, or_else, loop_test, loop_body, rescued, clause_class, clause_target, clause_body, ensured, Item, part, activation, iteration, ensuring, Kept as KeptFiber, Focus, perform, give, travel, Memory, Config, Run, Halt, all_nil, opening}
use Rattle.def_eval.specs.Giving.{end_fiber, do_give}
use Rattle.def_eval.specs.Scopes.{running}
use Rattle.def_eval.specs.Transition.{go, go_times}
use Rattle.step_laws.specs.Site.{opening_store}
use Rattle.step_laws.specs.Calm.{IsAbout, IsWithin, HasObject, IsAboutNext, Leaves, IsBlock, BlockFor, IsCalm, StaysCalm}
use Rattle.step_laws.specs.Simple.{IsSimple}
use Rattle.step_laws.proofs.Symbols.{steady_name, opening_objects}
use Rattle.step_laws.proofs.Found.{object_there}
use Rattle.step_laws.proofs.Outcomes.{Kept}
use Rattle.step_laws.proofs.Tame.{VariablesAre, ScopesAre, PartIs, ItemsAre, GivenTo, MemoryIs, IsTame, Fine, peaceful, quiet_given, given_to, same_grows, core_closed, main_is, main_closed, IsExit, raised, left, anew}
use Rattle.step_laws.proofs.Spaced.{opens_none}
use Rattle.step_laws.proofs.CalmForms.{perform_fine, part_fine}
use Rattle.step_laws.proofs.CalmPuts.{iteration_fine}
use Rattle.step_laws.proofs.CalmExits.{no_more, travel_fine, loop_left_fine, round_left_fine}

give_fine : (s : Source) (v : Value) (ks : List Item) (m : Memory) → Kept s m.world → ScopesAre m.scopes
    → m.fibers.resumer ≡ None → GivenTo v ks → ItemsAre s m.world ks m.place → Fine s m (do_give s v ks m)
unfolding do_give
give_fine s v [] m kept all alone to under =
    subst (λ (o : Option (Onward KeptFiber)). Fine s m (end_fiber (give v) o m)) (sym (no_more m alone)) (tt, tt)
give_fine s v (part p ∷ ks) m kept all alone to under =
    part_fine s ks m kept all alone v p to under.0 under.1 under.2
give_fine s v (activation a p ∷ ks) m kept all alone to under =
    subst (λ (w : World). Fine s m (Run (give v) ks (record m { place = p; world = w })))
    (sym (ap (close m.world) under.0 ∙ main_closed s m.world kept)) (
      record { kept = kept; scopes = all; alone = alone; focus = given_to v ks to; items = under.1 },
      (refl, quiet_given v ks m (record m { place = p }) refl, same_grows m.world m.world refl),
    )
give_fine s v (iteration a it p ∷ ks) m kept all alone to under =
    iteration_fine s ks m kept all alone a under.1 p under.2 it v under.0
give_fine s v (ensuring o ∷ ks) m kept all alone to under = absurd under

go_fine : (s : Source) (f : Focus) (ks : List Item) (m : Memory) → MemoryIs s f ks m → Fine s m (go s (Run f ks m))
go_fine s (perform j e) ks m t = perform_fine s ks m t.kept t.scopes t.alone j e t.focus.0 t.focus.1 t.items
go_fine s (give v) ks m t = give_fine s v ks m t.kept t.scopes t.alone t.focus t.items
go_fine s (travel x) ks m t = by t.focus
  where
    by : IsExit m.world x → Fine s m (go s (Run (travel x) ks m))
    by (raised e is quiet) =
        subst (λ (y : Exit). Fine s m (go s (Run (travel y) ks m))) (sym is)
        (travel_fine s e ks m t.kept t.scopes t.alone quiet t.items)
    by (left v is i) =
        subst (λ (y : Exit). Fine s m (go s (Run (travel y) ks m))) (sym is)
        (loop_left_fine s v ks m i t.kept t.scopes t.alone t.items)
    by (anew v is i) =
        subst (λ (y : Exit). Fine s m (go s (Run (travel y) ks m))) (sym is)
        (round_left_fine s v ks m i t.kept t.scopes t.alone t.items)

about : (s : Source) (p : Part) (objects : List Object) → PartIs s p → IsAbout p objects
about s (operands j a vs es) objects at = tt
about s (receiver j x is b) objects at = tt
about s (items j k recv vs is b) objects at = tt
about s (block k recv vs) objects at = absurd at
about s (elements j g o q is) objects at = absurd at
about s (hash_key j o v ps) objects at = absurd at
about s (hash_value j o v ps) objects at = absurd at
about s (pieces j o es) objects at = absurd at
about s (rest j es) objects at = tt
about s (test j b bs o) objects at = tt
about s chosen objects at = tt
about s (and_then j f) objects at = tt
about s (or_else j f) objects at = tt
about s (loop_test j t b) objects at = tt
about s (loop_body j t b) objects at = tt
about s (rescued j b cs o) objects at = absurd at
about s (clause_class j f es t b cs r) objects at = absurd at
about s (clause_target j f b r) objects at = absurd at
about s (clause_body r) objects at = absurd at
about s (ensured j f) objects at = absurd at

about_next : (s : Source) (f : Focus) (ks : List Item) (m : Memory) → MemoryIs s f ks m → IsAboutNext f ks m
about_next s (perform j e) ks m t =
    let there : HasObject m.world =
    ap (λ (os : List Object). space_in os (Obj (core class.Object))) t.kept.objects ∙ object_there t.kept.more in
    (subst (IsWithin m.world) (sym (ap (activation_at m.world) t.focus.1 ∙ main_is s m.world t.kept)) there, there)
about_next s (give v) [] m t = tt
about_next s (give v) (part p ∷ ks) m t = about s p m.world.store.objects t.items.0
about_next s (give v) (activation a p ∷ ks) m t = tt
about_next s (give v) (iteration a it p ∷ ks) m t = tt
about_next s (give v) (ensuring o ∷ ks) m t = tt
about_next s (travel x) ks m t = tt

leaves_core : (s : Source) (f : Focus) (ks : List Item) (m : Memory) → MemoryIs s f ks m → Leaves f ks m
leaves_core s (perform j e) ks m t = tt
leaves_core s (give v) ks m t = tt
leaves_core s (travel x) [] m t = tt
leaves_core s (travel x) (part p ∷ ks) m t = tt
leaves_core s (travel x) (activation a p ∷ ks) m t = tt
leaves_core s (travel x) (iteration a it p ∷ ks) m t = core_closed m.world a t.items.1.runs
leaves_core s (travel x) (ensuring o ∷ ks) m t = tt

-- nothing that runs has a block
none_passed : (s : Source) (m : Memory) → Kept s m.world → m.place.activation ≡ 1
    → IsBlock m.world.store.objects (running m).block
none_passed s m kept e =
    subst (λ (a : Activation). IsBlock m.world.store.objects a.block)
    (sym (ap (activation_at m.world) e ∙ main_is s m.world kept)) tt

block_for : (s : Source) (f : Focus) (ks : List Item) (m : Memory) → MemoryIs s f ks m → BlockFor f ks m
block_for s (perform j e) ks m t = none_passed s m t.kept t.focus.1
block_for s (give v) [] m t = tt
block_for s (give v) (part p ∷ ks) m t = none_passed s m t.kept t.items.1
block_for s (give v) (activation a p ∷ ks) m t = tt
block_for s (give v) (iteration a it p ∷ ks) m t = tt
block_for s (give v) (ensuring o ∷ ks) m t = tt
block_for s (travel x) ks m t = tt

calm_of : (s : Source) (p : Program) (c : Config) → IsTame s c → IsCalm s p c
calm_of s p (Halt e) t = tt
calm_of s p (Run f ks m) t = (
  record { names = λ x e. steady_name s m.world.store x t.kept.symbols e },
  about_next s f ks m t,
  leaves_core s f ks m t,
  peaceful s p f ks m (block_for s f ks m t) (go_fine s f ks m t),
  opens_none s f ks m t,
)

tame_next : (s : Source) (c : Config) → IsTame s c → IsTame s (go s c)
tame_next s (Halt e) t = tt
tame_next s (Run f ks m) t = (go_fine s f ks m t).0

stays : (s : Source) (p : Program) (n : ℕ) (c : Config) → IsTame s c → IsCalm s p (go_times n s c)
stays s p zero c t = calm_of s p c t
stays s p (suc n) c t = stays s p n (go s c) (tame_next s c t)

nils : (xs : List Local) → VariablesAre (all_nil xs)
nils [] = tt
nils (x ∷ xs) = (tt, nils xs)

opening_tame : (s : Source) (input : List ℕ) → IsSimple (form_of (body_at s 0)) → IsTame s (opening s input)
unfolding opening opening_store
opening_tame s input is = record {
  kept = record {
    symbols = refl;
    more = [];
    objects = opening_objects s ∙ sym (append-nil Rows.opening.objects);
    none = refl;
    others = [];
    activations = refl;
  };
  scopes = (nils (locals_of (body_at s 0)), tt);
  alone = refl;
  focus = (is, refl);
  items = (refl, tt);
}

pub stays_calm : (s : Source) (p : Program) (input : List ℕ) → IsSimple (form_of (body_at s 0))
    → StaysCalm s p (opening s input)
stays_calm s p input is n = stays s p n (opening s input) (opening_tame s input is)
