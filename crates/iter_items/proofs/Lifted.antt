-- Plans of the methods below as plans of methods over items.
use Rattle.std.proofs.Common.{◌≡◌, refl, ap, sym, ◌∙◌, subst}
use Rattle.rb_store.specs.Held.{Held}
use Rattle.core_calls.specs.declared.plan.Plan as code
use Rattle.core_calls.specs.declared.plan.Plan.TheVariants as wants
use Rattle.def_plans.specs.Plan.{Plan, Planned, plan_of}
use Rattle.iter_comparing.specs.declared.state.ComparingState.{ComparingState}
use Rattle.iter_comparing.specs.Stage as comparing
use Rattle.iter_enumerators.specs.declared.state.EnumeratorState.{EnumeratorState}
use Rattle.iter_items.specs.declared.state.ItemsState.{ItemsState}
use Rattle.iter_items.specs.Moved.{moved, as_moved, Moved, moves}
use Rattle.iter_items.specs.Stage.{Stage, stage_of, compares, enumerates}

moved_plan : {S T U : Type 0} (f : S → T) (g : T → U) (p : code.Plan S)
    → moved g (plan_of f p) ≡ plan_of (λ s. g (f s)) p
moved_plan f g (wants.Finishes v) = refl
moved_plan f g (wants.Fails c) = refl
moved_plan f g (wants.Raises e) = refl
moved_plan f g (wants.Sends s v name args block public) = refl
moved_plan f g (wants.Calls s p args block) = refl
moved_plan f g (wants.Writes s bytes) = refl
moved_plan f g (wants.Reads s) = refl
moved_plan f g (wants.Resumes s x args) = refl
moved_plan f g (wants.Yields s args) = refl

abbrev planned : {S : Type 0} → Held → Plan S → Planned S
planned held p = record { plan = p; held = held }

-- plans that are meant, seen as others
pub lifted_as : {S T U V : Type 0} (f : S → T) (g : T → U) (seen : V → U) (Meant : Planned T → Type 0) (held : Held)
    (p : code.Plan S) (q : code.Plan V)
    → plan_of seen q ≡ plan_of (λ s. g (f s)) p
    → Meant (record { plan = plan_of f p; held = held })
    → Moved g Meant (record { plan = plan_of seen q; held = held })
lifted_as {U = U} f g seen Meant held p q e meant = subst (λ (x : Plan U). Moved g Meant (planned held x))
    (moved_plan f g p ∙ sym e) (moves (planned held (plan_of f p)) meant)

pub lifted_comparing : (Meant : Planned comparing.Stage → Type 0) (held : Held) (p : code.Plan ComparingState)
    (q : code.Plan ItemsState)
    → plan_of stage_of q ≡ plan_of (λ (s : ComparingState). compares (comparing.stage_of s)) p
    → Meant (record { plan = plan_of comparing.stage_of p; held = held })
    → Moved compares Meant (record { plan = plan_of stage_of q; held = held })
lifted_comparing Meant held p q e meant = lifted_as comparing.stage_of compares stage_of Meant held p q e meant

pub lifted_enumerator : (defined : Planned EnumeratorState) (held : Held) (p : code.Plan EnumeratorState)
    (q : code.Plan ItemsState)
    → plan_of stage_of q ≡ plan_of (λ (s : EnumeratorState). enumerates s) p
    → defined ≡ record { plan = plan_of (λ (s : EnumeratorState). s) p; held = held }
    → record { plan = plan_of stage_of q; held = held } ≡ as_moved enumerates defined
lifted_enumerator defined held p q e d = ap (λ (x : Plan Stage). planned held x)
    (e ∙ sym (moved_plan (λ (s : EnumeratorState). s) enumerates p))
    ∙ sym (ap (λ (x : Planned EnumeratorState). as_moved enumerates x) d)
