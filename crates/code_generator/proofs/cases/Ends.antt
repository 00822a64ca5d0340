-- The end of the main program, and exits that pass pending items.
use Rattle.std.proofs.Common.{◌≡◌, ℕ, ◌+◌, ◌<◌, List, [], ◌∷◌, sym, ap, subst, arith}
use Rattle.path_value.specs.declared.value.Value.{Value}
use Rattle.rite_code.specs.Code.{Program}
use Rattle.rite_code.specs.declared.operation.Operation.TheVariants.{Stop}
use Rattle.path_eval.specs.Seen.{Ended, Uncaught}
use Rattle.path_eval.specs.Configuration.{Source, Item, activation, Exit, raise, give, travel, World, Config, Run}
use Rattle.path_eval.specs.Transition.{go}
use Rattle.path_eval.specs.Measure.{measure, weights}
use Rattle.path_turns.specs.State.{Frame, Memory, On, Off}
use Rattle.code_generator.proofs.Relation.{Related, Focused, Step}
use Rattle.code_generator.proofs.Matching.{turned, by_none, by_one, going}

pub give_none : (q : Source) (p : Program) (v : Value) (w : World) (f : Frame) (fs : List Frame) (m : Memory)
    → Focused q p (give v) [] w f fs m → Step q p (Run (give v) [] w) (On f fs m)
give_none q p v w f fs m r = by_one q p _ _ _ (going r.same) (turned p Stop f fs m r.next.stop)
    (ap (λ (o : List ℕ). Ended o 0) (sym r.same.out))

pub give_activation : (q : Source) (p : Program) (v : Value) (a : ℕ) (ks : List Item) (w : World) (f : Frame)
    (fs : List Frame) (m : Memory) → Focused q p (give v) (activation a ∷ ks) w f fs m
    → Step q p (Run (give v) (activation a ∷ ks) w) (On f fs m)
give_activation q p v a ks w f fs m r =
    by_none q p _ _ (omega arith) (subst (λ (is : List Item). Focused q p (give v) is w f fs m) (sym r.next.last)
    (record {
      same = r.same;
      h = r.h;
      names = r.names;
      r = r.r;
      stands = r.stands;
      next =
          record { stop = r.next.stop; fits = r.next.fits };
    }))

pub travel_none : (q : Source) (p : Program) (x : Exit) (w : World) (f : Frame) (fs : List Frame) (m : Memory)
    → Focused q p (travel x) [] w f fs m → Step q p (Run (travel x) [] w) (On f fs m)
travel_none q p (raise e) w f fs m r = by_one q p _ _ (Off (Uncaught m.out e)) (ap source_going (sym r.out)) r.throws
    (ap (λ (o : List ℕ). Uncaught o e) (sym r.out))
  where
    source_going : List ℕ → Rattle.path_eval.specs.Seen.Seen
    source_going = Rattle.path_eval.specs.Seen.Going

-- an exit passes an item
pub travel_on : (q : Source) (p : Program) (x : Exit) (k : Item) (ks : List Item) (w : World) (f : Frame)
    (fs : List Frame) (m : Memory) → go q (Run (travel x) (k ∷ ks) w) ≡ Run (travel x) ks w
    → weights ks < weights (k ∷ ks) → Focused q p (travel x) (k ∷ ks) w f fs m
    → Step q p (Run (travel x) (k ∷ ks) w) (On f fs m)
travel_on q p (raise e) k ks w f fs m goes less r =
    by_none q p _ _ (subst (λ (d : Config). measure d < 0 + weights (k ∷ ks)) (sym goes) (omega (arith, less)))
    (subst (λ (d : Config). Related q p d (On f fs m)) (sym goes) (record { out = r.out; throws = r.throws }))
