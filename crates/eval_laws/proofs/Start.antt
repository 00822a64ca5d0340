-- The opening configuration of a program fits, so every configuration that its evaluation comes to does.
use Rattle.std.proofs.Common.{◌≡◌, ℕ, zero, suc, List, [], ◌∷◌, Bool, true, false, refl, sym, ◌∙◌, subst, arith, true≢false}
use Rattle.std.specs.Prelude.{Option, Some, None, bytes_eq, ◌||◌}
use Rattle.std.specs.List.{list_any, position}
use Rattle.std.proofs.lemmas.List.Folds.{list_any-append, list_any_at}
use Rattle.std.proofs.lemmas.List.Quantifiers.{position-Some}
use Rattle.std.proofs.lemmas.Slice.Eq.{bytes_eq-Decides}
use Rattle.def_core.specs.Store.{Store}
use Rattle.def_core.specs.Changes.{intern, intern_at}
use Rattle.def_core.specs.Sound.{census}
use Rattle.rb_store.specs.Opening.{with_names}
use Rattle.ir_core.specs.CoreForm.{Name, Body, body}
use Rattle.ir_core.specs.Program.{IsProgram, within_program}
use Rattle.def_calls.specs.Rows as rows
use Rattle.def_calls.specs.Calls.{opening_world}
use Rattle.def_eval.specs.Source.{source_of, body_at, all_names, no_parameters}
use Rattle.def_eval.specs.Configuration.{Scope, all_nil, opening}
use Rattle.def_eval.specs.Scopes.{first_variables}
use Rattle.def_eval.specs.Transition.{go_times}
use Rattle.world_laws.proofs.Growing.{extends_itself}
use Rattle.world_laws.proofs.Opening.{opening_is}
use Rattle.eval_laws.specs.Fits.{ScopeFits, ScopesFit, anything_since, Fits, FitsSince, bodies}
use Rattle.eval_laws.proofs.Tests.{or_left, or_right}
use Rattle.eval_laws.proofs.Scopes.{Parents}
use Rattle.eval_laws.proofs.Sources.{program_stands}
use Rattle.eval_laws.proofs.Scenes.{values_nil, scene_locals}
use Rattle.eval_laws.proofs.Kept.{times_fit}

-- The names of a program are those of symbols.

abbrev Holds : Name → Store → Type 0
Holds x st = list_any (bytes_eq x) st.symbols ≡ true

holds_still : (st : Store) (name x : Name) (o : Option ℕ) → Holds x st → Holds x (intern_at st name o).store
holds_still st name x None h =
    list_any-append (bytes_eq x) st.symbols (name ∷ [])
    ∙ or_left (list_any (bytes_eq x) st.symbols) (list_any (bytes_eq x) (name ∷ [])) h
holds_still st name x (Some i) h = h

holds_itself : (st : Store) (name : Name) (o : Option ℕ) → position (bytes_eq name) st.symbols ≡ o
    → Holds name (intern_at st name o).store
holds_itself st name None e =
    list_any-append (bytes_eq name) st.symbols (name ∷ [])
    ∙ or_right (list_any (bytes_eq name) st.symbols) (list_any (bytes_eq name) (name ∷ []))
    (or_left (bytes_eq name name) false ((bytes_eq-Decides name name).1 refl))
holds_itself st name (Some i) e =
    let at = position-Some (bytes_eq name) st.symbols i [] e in
    list_any_at (bytes_eq name) st.symbols i [] at.0 at.1

still_by : (names : List Name) (st : Store) (x : Name) → Holds x st → Holds x (with_names st names)
unfolding with_names intern
still_by [] st x h = h
still_by (name ∷ names) st x h =
    still_by names (intern st name).store x (holds_still st name x (position (bytes_eq name) st.symbols) h)

first_or_other : (x y : Name) (u : Bool) (P : Type 0) → (bytes_eq x y || u) ≡ true → (x ≡ y → P) → (u ≡ true → P) → P
first_or_other x y u P h f g = by (bytes_eq x y) refl h
  where
    by : (t : Bool) → bytes_eq x y ≡ t → (t || u) ≡ true → P
    by true e k = f ((bytes_eq-Decides x y).0 e)
    by false e k = g k

names_held : (names : List Name) (st : Store) (x : Name) → list_any (bytes_eq x) names ≡ true
    → Holds x (with_names st names)
unfolding with_names intern
names_held [] st x h = absurd (true≢false (sym h))
names_held (name ∷ names) st x h =
    first_or_other x name (list_any (bytes_eq x) names) (Holds x (with_names (intern st name).store names)) h
    (λ e. still_by names (intern st name).store x (subst (λ y. Holds y (intern st name).store) (sym e)
    (holds_itself st name (position (bytes_eq name) st.symbols) refl)))
    (names_held names (intern st name).store x)

no_parents : Parents []
no_parents n lt = absurd (omega (arith, lt))

one_scope : (k : _) (c : Scope) → ScopeFits k 0 c → ScopesFit k (c ∷ [])
one_scope k c h zero lt = h
one_scope k c h (suc n) lt = absurd (omega (arith, lt))

pub opening_fits : (b : Body) (input : List ℕ) → IsProgram b
    → Fits (source_of b) (anything_since (opening_world (all_names (source_of b)) input)) (opening (source_of b) input)
unfolding opening body_at first_variables
opening_fits (body p ls e) input is =
    let s = source_of (body p ls e) in
    let c : Scope = record { parent = None; variables = all_nil ls } in
    let w = opening_world (all_names s) input in
    let scene = scene_locals [] no_parents c no_parameters ls [] None refl (within_program ls) refl refl refl in
    record {
      memory = record {
        place = record { activation = (omega arith, omega arith); scope = omega arith };
        scopes = one_scope (census w.store) c (record { parent = tt; variables = values_nil (census w.store) ls });
        world = opening_is (bodies s (anything_since w).Known (c ∷ [])) (all_names s) input;
        names = λ x h. names_held (all_names s) rows.opening x h;
        fibers = record { running = tt; resumer = tt; others = tt };
        since = extends_itself w;
        out = refl;
      };
      focus = (
        refl,
        (
          within_program ls,
          record {
            scene = scene;
            target = λ t. absurd (true≢false (sym t));
            clause = λ t. absurd (true≢false (sym t));
          },
          program_stands (body p ls e) is,
        ),
      );
      items = (refl, record { activation = (omega arith, omega arith); scope = omega arith }, tt);
    }

pub evaluation_fits : (b : Body) (input : List ℕ) (n : ℕ) → IsProgram b
    → FitsSince (source_of b) (anything_since (opening_world (all_names (source_of b)) input))
    (go_times n (source_of b) (opening (source_of b) input))
evaluation_fits b input n is =
    times_fit n (source_of b) (opening_world (all_names (source_of b)) input) (opening (source_of b) input)
    ([], opening_fits b input is)
