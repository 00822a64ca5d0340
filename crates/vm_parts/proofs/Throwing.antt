-- One fiber more that an exit goes through.
use Rattle.std.specs.Prelude.{Option, Some, None}
use Rattle.std.proofs.Common.{◌≡◌, ℕ, suc, ◌+◌, ◌-◌, ◌<◌, length, arith, refl, subst}
use Rattle.rb_value.specs.declared.value.ObjId.{ObjId}
use Rattle.rb_value.specs.declared.exit.Exit.{Exit}
use Rattle.rb_value.specs.declared.exit.Exit.TheVariants.{Raise}
use Rattle.rb_store.specs.Held.{Held, one_more}
use Rattle.rite_code.specs.Code.{Program}
use Rattle.fiber_switch.specs.Frames.{Level, Landing}
use Rattle.fiber_switch.specs.Frames.landing.{Falls}
use Rattle.fiber_switch.specs.Frames.seen.{Seen}
use Rattle.fiber_switch.specs.Frames.landings.{Thrown}
use Rattle.vm_parts.specs.declared.flow.Flow.{Flow}
use Rattle.vm_parts.specs.declared.flow.Flow.TheVariants.{Ends}
use Rattle.vm_parts.specs.Beside.{Beside}
use Rattle.vm_parts.specs.Leaving.{level_at_resume, fallen, uncaught, raised_by, FallsTo, FallsBy, LandsIn, ThrownThrough, ThrownFrom}

-- the exit lands among the levels of a fiber, and what is said from there on is said of all
pub thrown_more : (p : Program) (b : Beside) (l : Level) (x : Exit) (o landing : Landing) (h : Held) (s : Seen) (i n : ℕ)
    (flow : Flow) (c : Beside) → i < n → o ≡ landing → Thrown p b.heap.store b.seen l x o h.store s
    → LandsIn landing (record b { heap = h; seen = s })
    (λ further m e. ThrownThrough (n - (i + 1)) p further m (Raise e) flow c) flow c
    → ThrownThrough (n - i) p b l x flow c
thrown_more p b l x o landing h s i n flow c within same thrown lands =
    let left : n - i ≡ suc (n - (i + 1)) = omega arith in
    rw left (record {
      landing = landing;
      left = record b { heap = h; seen = s };
      thrown = subst (λ (z : Landing). Thrown p b.heap.store b.seen l x z h.store s) same thrown;
      others = refl;
      after = lands;
    })

-- as many rounds as there are fibers, and one more
pub thrown_from : (p : Program) (b : Beside) (l : Level) (x : Exit) (n : ℕ) (flow : Flow) (c : Beside)
    → n ≡ one_more (length b.fibers.begun) → ThrownThrough n p b l x flow c → ThrownFrom p b l x flow c
thrown_from p b l x n flow c same thrown = subst (λ (k : ℕ). ThrownThrough k p b l x flow c) same thrown

-- what an exit has left of a fiber's levels and the heap
abbrev pub left_by : Beside → Held → Seen → Beside
left_by b h s = record b { heap = h; seen = s }

-- an exception falls past the last level, and goes on at the resume
pub thrown_on : (p : Program) (b : Beside) (l : Level) (x : Exit) (o : Landing) (past : Exit) (e : ObjId) (next : Level)
    (h : Held) (s : Seen) (after : Beside) (i n : ℕ) (flow : Flow) (c : Beside) → i < n → o ≡ Falls past
    → Thrown p b.heap.store b.seen l x o h.store s → Some e ≡ raised_by past
    → Some next ≡ level_at_resume (left_by b h s) → after ≡ fallen (left_by b h s)
    → ThrownThrough (n - (i + 1)) p after next (Raise e) flow c → ThrownThrough (n - i) p b l x flow c
thrown_on p b l x o past e next h s after i n flow c within same thrown raised there left further =
    thrown_more p b l x o (Falls past) h s i n flow c within same thrown
    (subst (λ (z : Option ObjId). FallsBy z (left_by b h s)
    (λ at m f. ThrownThrough (n - (i + 1)) p at m (Raise f) flow c) flow c) raised
    (subst (λ (m : Option Level). FallsTo m (fallen (left_by b h s)) e
    (λ k. ThrownThrough (n - (i + 1)) p (fallen (left_by b h s)) k (Raise e) flow c) flow c) there
    (subst (λ (z : Beside). ThrownThrough (n - (i + 1)) p z next (Raise e) flow c) left further)))

-- there is no resume, and the program ends by the exception
pub thrown_out : (p : Program) (b : Beside) (l : Level) (x : Exit) (o : Landing) (past : Exit) (e : ObjId) (h : Held)
    (s : Seen) (after : Beside) (i n : ℕ) (flow : Flow) (c : Beside) → i < n → o ≡ Falls past
    → Thrown p b.heap.store b.seen l x o h.store s → Some e ≡ raised_by past
    → None ≡ level_at_resume (left_by b h s) → after ≡ fallen (left_by b h s) → flow ≡ Ends
    → c ≡ uncaught after e → ThrownThrough (n - i) p b l x flow c
thrown_out p b l x o past e h s after i n flow c within same thrown raised there left ends is =
    thrown_more p b l x o (Falls past) h s i n flow c within same thrown
    (subst (λ (z : Option ObjId). FallsBy z (left_by b h s)
    (λ at m f. ThrownThrough (n - (i + 1)) p at m (Raise f) flow c) flow c) raised
    (subst (λ (m : Option Level). FallsTo m (fallen (left_by b h s)) e
    (λ k. ThrownThrough (n - (i + 1)) p (fallen (left_by b h s)) k (Raise e) flow c) flow c) there
    (ends, subst (λ (z : Beside). c ≡ uncaught z e) left is)))

-- another exit ends the program there
pub thrown_past : (p : Program) (b : Beside) (l : Level) (x : Exit) (o : Landing) (past : Exit) (h : Held) (s : Seen)
    (i n : ℕ) → i < n → o ≡ Falls past → Thrown p b.heap.store b.seen l x o h.store s → None ≡ raised_by past
    → ThrownThrough (n - i) p b l x Ends (left_by b h s)
thrown_past p b l x o past h s i n within same thrown raised =
    thrown_more p b l x o (Falls past) h s i n Ends (left_by b h s) within same thrown
    (subst (λ (z : Option ObjId). FallsBy z (left_by b h s)
    (λ at m f. ThrownThrough (n - (i + 1)) p at m (Raise f) Ends (left_by b h s)) Ends (left_by b h s)) raised
    (refl, refl))
