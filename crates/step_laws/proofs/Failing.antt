-- What both sides do where an instruction fails.
use Rattle.std.proofs.Common.{◌≡◌, ℕ, ◌+◌, ◌<◌, List, ◌∷◌, refl, sym, ◌∙◌, subst, arith}
use Rattle.rb_value.specs.declared.value.ObjId.{ObjId}
use Rattle.def_core.specs.declared.cause.Cause.{Cause}
use Rattle.def_core.specs.Changes.{fails as failures}
use Rattle.def_core.specs.Store.{next_number}
use Rattle.gen_forms.specs.declared.context.Loop.{Loop}
use Rattle.std.specs.Prelude.{Option}
use Rattle.def_calls.specs.World.{fail}
use Rattle.def_eval.specs.Configuration as source
use Rattle.def_eval.specs.Configuration.{raise, Item, travel, Config, Run}
use Rattle.def_eval.specs.Entering.{after}
use Rattle.def_eval.specs.Transition.{go}
use Rattle.def_machine.specs.State as machine
use Rattle.def_machine.specs.State.{frame}
use Rattle.def_machine.specs.Unwind.{after as after_machine}
use Rattle.def_machine.specs.Turn.{turn}
use Rattle.step_laws.specs.Site.{Site, IsGuarded, at_line}
use Rattle.step_laws.specs.Calm.{Quiet}
use Rattle.step_laws.specs.Measure.{burden, measure}
use Rattle.step_laws.specs.Relation.{Ground, over_levels, InFrame, Common, raised, Related, Step}
use Rattle.step_laws.proofs.Placed.{Rest, frame_at}
use Rattle.step_laws.proofs.Untouched.{grown, below_running}
use Rattle.step_laws.proofs.Matching.{by_none, state_at}
use Rattle.step_laws.proofs.Calling.{From, leaves_frame}
use Rattle.step_laws.proofs.Literals.{aligned}

-- the exception is raised from the frame at that line
pub fails_here : (g : Ground) (h : Site) (ks : List Item) (m : source.Memory) (k : machine.Memory)
    → Common g h m (aligned k m) → (c : Config) (x : Rest) (n low : ℕ)
    → IsGuarded h n → From h c (frame (frame_at h x n) ∷ g.below) (aligned k m) m → burden ks m < measure c → (q : Cause)
    → go h.source c ≡ after (fail m.world q) ks m
    → turn h.program (state_at g h x n (aligned k m))
    ≡ after_machine h.program (fail m.world q) low (at_line h (n + 1)) (frame_at h x n) g.below (aligned k m)
    → (end r : ℕ) (around : Option Loop) → InFrame g h k.lists ks end r around
    → Step h c (state_at g h x n (aligned k m))
unfolding fail failures
fails_here g h ks m k both c x n low guarded from less q goes turns end r around next =
    let a = fail m.world q in
    let e : ObjId = next_number (failures m.world.store q).store in
    let went : go h.source c ≡ Run (travel (raise e)) ks (source.with_world m a.world) = goes in
    let quiet = subst (Quiet m) went from.quiet in
    let f = frame_at h x n in
    by_none h c (state_at g h x n (aligned k m))
    (subst (λ (d : Config). measure d < measure c) (sym went) (omega (arith, less)))
    (subst (λ (d : Config). Related h d (state_at g h x n (aligned k m))) (sym went) (raised (record {
      g = over_levels g (frame f ∷ g.below);
      e = e;
      exception = refl;
      memory = machine.with_world k a.world;
      throws = turns;
      out = from.out ∙ sym quiet.0;
      both = grown (over_levels g (frame f ∷ g.below)) m (aligned k m) (below_running g h m (aligned k m) both f refl) m.place
          a.world quiet.1;
      leaving = leaves_frame g h k.lists ks end r around x n both.site guarded next;
    })))
