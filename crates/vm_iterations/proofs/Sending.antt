-- A call of an iteration, from what each step leaves.
use Rattle.std.proofs.Common.{◌≡◌, ap, subst, ◌∙◌, ◌+◌}
use Rattle.std.specs.Prelude.{ℕ, List, Option, Result, Ok, Err, IfOk}
use Rattle.std.specs.declared.alloc.AllocError.{AllocError}
use Rattle.rb_value.specs.declared.value.Value.{Value}
use Rattle.def_core.specs.declared.found.Found.{Found}
use Rattle.vm_parts.specs.Below.{Held}
use Rattle.vm_parts.specs.Below.frames.{Arguments, Frame, Level}
use Rattle.vm_parts.specs.Below.frames.levels as levels
use Rattle.vm_parts.specs.Below.frames.opening as opening
use Rattle.vm_parts.specs.Below.frames.seen.{Seen}
use Rattle.vm_parts.specs.Below.frames.calls.{Entry}
use Rattle.vm_parts.specs.Below.frames.calls.entering.{EntersUnchecked, sent}
use Rattle.vm_parts.specs.declared.flow.Flow.{Flow}
use Rattle.vm_parts.specs.declared.known.KnownCalls.{KnownCalls}
use Rattle.vm_parts.specs.declared.loaded.Loaded.{Loaded}
use Rattle.vm_parts.specs.Beside.{Beside, with_seen}
use Rattle.vm_parts.specs.Calling.{EntersAbove}
use Rattle.vm_parts.specs.Known.{of as known_of}
use Rattle.vm_iterations.specs.declared.iterating.Sent.{Sent}
use Rattle.vm_iterations.specs.Following.{EntersSent, found, noted}

-- b is what was there, k and m what keeping the arguments and finding leave, p what waits then
pub entered : (c : Loaded) (b m : Beside) (k p : Seen) (f : Frame) (l : Level) (s : Sent) (vs us : List Value)
    (args : Arguments) (o : Option Found) (calls : KnownCalls) (number : ℕ) (entry : Entry) (heap : Held)
    (r : Result Flow AllocError) (g : Frame) (after : Beside) → vs ≡ s.args.items → us ≡ s.args.items
    → args ≡ opening.all_arguments b.seen vs → k ≡ opening.values_kept b.seen vs
    → o ≡ found (with_seen b k) s
    → known_of calls ≡ noted (with_seen b k) s (found (with_seen b k) s)
    → m ≡ record (with_seen b k) { known = calls } → number ≡ m.activations + 1
    → EntersUnchecked o s.public s.name m.heap (sent s.receiver us s.block number) entry heap
    → p ≡ levels.pushed m.seen l
    → IfOk r (λ flow. EntersAbove c (record m { heap = heap; seen = p }) f entry args flow g after)
    → IfOk r (λ flow. EntersSent c b f l s flow g after)
entered c b m k p f l s vs us args o calls number entry heap r g after vs_are us_are args_are kept is notes alone counts
    comes pushes enters = by r enters
  where
    counted : number ≡ b.activations + 1
    counted = counts ∙ ap (λ (z : Beside). z.activations + 1) alone

    waits : p ≡ levels.pushed (opening.values_kept b.seen s.args.items) l
    waits = pushes ∙ ap (λ (z : Beside). levels.pushed z.seen l) alone
        ∙ ap (λ (q : Seen). levels.pushed q l) (kept ∙ ap (λ (xs : List Value). opening.values_kept b.seen xs) vs_are)

    by : (r : Result Flow AllocError)
        → IfOk r (λ flow. EntersAbove c (record m { heap = heap; seen = p }) f entry args flow g after)
        → IfOk r (λ flow. EntersSent c b f l s flow g after)
    by (Ok flow) enters = record {
      calls = calls;
      entry = entry;
      heap = heap;
      remembers = notes;
      comes = subst (λ (x : Option Found). EntersUnchecked x s.public s.name b.heap
          (sent s.receiver s.args.items s.block (b.activations + 1)) entry heap) is
          (subst (λ (n : ℕ). EntersUnchecked o s.public s.name b.heap (sent s.receiver s.args.items s.block n) entry
          heap) counted
          (subst (λ (xs : List Value). EntersUnchecked o s.public s.name b.heap (sent s.receiver xs s.block number)
          entry heap) us_are
          (subst (λ (z : Beside). EntersUnchecked o s.public s.name z.heap (sent s.receiver us s.block number) entry
          heap) alone comes)));
      enters = subst (λ (q : Seen). EntersAbove c (record b { heap = heap; known = calls; seen = q }) f entry
          (opening.all_arguments b.seen s.args.items) flow g after) waits
          (subst (λ (z : Beside). EntersAbove c (record z { heap = heap; seen = p }) f entry
          (opening.all_arguments b.seen s.args.items) flow g after) alone
          (subst (λ (x : Arguments). EntersAbove c (record m { heap = heap; seen = p }) f entry x flow g after)
          (args_are ∙ ap (λ (xs : List Value). opening.all_arguments b.seen xs) vs_are) enters));
    }
    by (Err x) enters = tt
