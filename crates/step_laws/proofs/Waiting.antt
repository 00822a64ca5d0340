-- A frame that waits in a register for what its instruction calls.
use Rattle.std.proofs.Common.{◌≡◌, ℕ, ◌+◌, List, ◌∷◌, refl}
use Rattle.std.specs.Prelude.{Option}
use Rattle.gen_forms.specs.declared.context.Loop.{Loop}
use Rattle.def_eval.specs.Configuration as source
use Rattle.def_eval.specs.Configuration.{Item}
use Rattle.def_machine.specs.State as machine
use Rattle.def_machine.specs.State.{Frame, frame}
use Rattle.step_laws.specs.Site.{Site, IsGuarded, place_in, at_line, Room}
use Rattle.step_laws.specs.Relation.{IsSite, Waits, Ground, over_levels, InFrame, Common}
use Rattle.step_laws.proofs.Placed.{Rest, frame_at}
use Rattle.step_laws.proofs.Untouched.{grown, below_running}
use Rattle.step_laws.proofs.Calling.{Worlds}

abbrev pub asking : Site → Rest → ℕ → ℕ → Rest
asking h x n r = record x { after = at_line h (n + 1); waits = r }

-- both sides, the frame of the call waiting
pub waiting_worlds : (g : Ground) (h : Site) (m : source.Memory) (k : machine.Memory) → Common g h m k → (f : Frame)
    → f.list ≡ h.list → Worlds h.source h.program (over_levels g (frame f ∷ g.below)) m m k
waiting_worlds g h m k b f e w grows =
    grown (over_levels g (frame f ∷ g.below)) m k (below_running g h m k b f e) m.place w grows

pub waiting_frame : (g : Ground) (h : Site) (ks : List Item) (m : source.Memory) (x : Rest) (n r : ℕ)
    (around : Option Loop) (k : machine.Memory) → m.place ≡ place_in h → IsSite g.sites h → Room h r → IsGuarded h n
    → InFrame g h k.lists ks (n + 1) r around
    → Waits g.sites g.fiber k.lists ks m.place (frame (frame_at h (asking h x n r) n) ∷ g.below)
waiting_frame g h ks m x n r around k at_home site room guarded next = record {
  h = h;
  x = asking h x n r;
  at = n;
  n = n + 1;
  is = refl;
  site = site;
  after = refl;
  room = room;
  there = at_home;
  guarded = guarded;
  around = around;
  next = next;
}
