-- Every transition of the evaluation keeps what fits.
use Rattle.std.proofs.Common.{◌≡◌, inl, inr, ℕ, zero, suc, List, [], ◌∷◌, refl, ◌∙◌}
use Rattle.std.specs.Prelude.{Some}
use Rattle.def_calls.specs.World.{World}
use Rattle.def_eval.specs.Source.{Source}
use Rattle.def_eval.specs.Configuration as eval
use Rattle.def_eval.specs.Configuration.{Item, Focus, Memory, Config, Run, Halt}
use Rattle.def_eval.specs.Transition.{go, go_times}
use Rattle.world_laws.proofs.Growing.{extends_itself}
use Rattle.eval_laws.specs.Fits.{Past, anything_since, Fits, IsHushed, After, FitsSince}
use Rattle.eval_laws.specs.Procs.{HasProc, literal, IsKnown, ProcsAreKnown}
use Rattle.eval_laws.specs.Reached.{GoesOn}
use Rattle.eval_laws.proofs.Procs.{all_known, fine_so}
use Rattle.eval_laws.proofs.Going.{quietly, same_since}
use Rattle.eval_laws.proofs.Forming.{form_done}
use Rattle.eval_laws.proofs.Iterating.{value_given}
use Rattle.eval_laws.proofs.Travelling.{exit_done}

-- a transition makes no Proc but those that there may be
abbrev pub MakesKnown : Past → Config → Type 0
MakesKnown early (Run f ks m) = (b : ℕ) (ns : List ℕ) → literal f m ≡ Some (b, ns) → early.Known b ns
MakesKnown early (Halt e) = Unit {0}

pub goes_fit_by : (s : Source) (early : Past) (c : Config) → MakesKnown early c → Fits s early c → After s early (go s c)
goes_fit_by s early (Halt e) made h = quietly s early (Halt e) tt
goes_fit_by s early (Run (eval.perform n e) ks m) made h =
    let f = h.focus.1 in
    quietly s early (go s (Run (eval.perform n e) ks m)) (form_done s early n e ks m f.0
    (record { under = record { memory = h.memory; items = h.items }; there = h.focus.0; around = f.1 }) f.2 made)
goes_fit_by s early (Run (eval.give v) ks m) made h =
    value_given s early v ks m (record { memory = h.memory; items = h.items }) h.focus
goes_fit_by s early (Run (eval.travel x) ks m) made h =
    quietly s early (go s (Run (eval.travel x) ks m))
    (exit_done s early x ks m (record { memory = h.memory; items = h.items }) h.focus)

makes_anything : (w : World) (c : Config) → MakesKnown (anything_since w) c
makes_anything w (Halt e) = tt
makes_anything w (Run f ks m) = λ b ns is. tt

pub goes_fit : (s : Source) (early : World) (c : Config) → Fits s (anything_since early) c
    → After s (anything_since early) (go s c)
goes_fit s early c h = goes_fit_by s (anything_since early) c (makes_anything early c) h

pub times_fit : (n : ℕ) (s : Source) (early : World) (c : Config) → FitsSince s (anything_since early) c
    → FitsSince s (anything_since early) (go_times n s c)
times_fit zero s early c h = h
times_fit (suc n) s early c h =
    let a = goes_fit s (record early { out = h.0 }) c h.1 in
    times_fit n s early (go s c) (a.out, a.fits)

-- what goes on from some world goes on from its own, with whatever is so of each Proc of that
pub from_itself : (s : Source) (early : Past) (Known : ℕ → List ℕ → Type 0) (f : Focus) (ks : List Item) (m : Memory)
    → ((b : ℕ) (ns : List ℕ) → HasProc m.world.store.objects b ns → Known b ns) → Fits s early (Run f ks m)
    → Fits s (record { world = m.world; Known = Known }) (Run f ks m)
from_itself s early Known f ks m so h = record {
  memory = record {
    place = h.memory.place;
    scopes = h.memory.scopes;
    world = fine_so s early.Known m.scopes m.world Known so h.memory.world;
    names = h.memory.names;
    fibers = h.memory.fibers;
    since = extends_itself m.world;
    out = refl;
  };
  focus = h.focus;
  items = h.items;
}

hushed_then : (q r : Type 0) → (q → r) → (f : Focus) (ks : List Item) → IsHushed q f ks → IsHushed r f ks
hushed_then q r g (eval.perform n e) ks h = tt
hushed_then q r g (eval.give v) [] h = g h
hushed_then q r g (eval.give v) (k ∷ ks) h = tt
hushed_then q r g (eval.travel x) ks h = g h

-- so the world after a transition goes on from that before
since_then : (s : Source) (early : Past) (c : Config) → After s early c → GoesOn early.world c
since_then s early (Halt e) a = tt
since_then s early (Run f ks m) a = (
  same_since (record early.world { out = a.out }) m.world early.world.out a.fits.memory.since,
  hushed_then (a.out ≡ early.world.out) (m.world.out ≡ early.world.out) (λ e. a.fits.memory.out ∙ e) f ks a.hushed,
)

-- with the Procs of that and the one that is made
abbrev own_past : Focus → Memory → Past
own_past f m = record { world = m.world; Known = IsKnown f m }

-- and its Procs are those of that world, or the one that is made
known_then : (s : Source) (f : Focus) (m : Memory) (c : Config) → After s (own_past f m) c → ProcsAreKnown f m c
known_then s f m (Halt e) a = tt
known_then s f m (Run g ks l) a = λ b ns is.
    all_known s (IsKnown f m) l.scopes l.world l.world.store.objects b ns a.fits.memory.world.objects is

after_own : (s : Source) (early : Past) (f : Focus) (ks : List Item) (m : Memory) → Fits s early (Run f ks m)
    → After s (own_past f m) (go s (Run f ks m))
after_own s early f ks m h =
    goes_fit_by s (own_past f m) (Run f ks m) (λ b ns is. inr is)
    (from_itself s early (IsKnown f m) f ks m (λ b ns is. inl is) h)

pub goes_on : (s : Source) (early : Past) (f : Focus) (ks : List Item) (m : Memory) → Fits s early (Run f ks m)
    → GoesOn m.world (go s (Run f ks m))
goes_on s early f ks m h = since_then s (own_past f m) (go s (Run f ks m)) (after_own s early f ks m h)

pub procs_known : (s : Source) (early : Past) (f : Focus) (ks : List Item) (m : Memory) → Fits s early (Run f ks m)
    → ProcsAreKnown f m (go s (Run f ks m))
procs_known s early f ks m h = known_then s f m (go s (Run f ks m)) (after_own s early f ks m h)
