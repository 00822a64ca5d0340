-- What an exit does at a frame.
use Rattle.std.specs.Prelude.{◌≡◌, ℕ, zero, suc, nat_eq, Bool, Option, Some, None, if◌then◌else◌}
use Rattle.rb_value.specs.declared.value.Value.{Value}
use Rattle.rb_value.specs.declared.exit.Exit.{Exit}
use Rattle.rb_value.specs.declared.exit.Exit.TheVariants.{Raise, Return, Break, Jump}
use Rattle.vm_frames.specs.declared.frame.Frame.{Frame}
use Rattle.vm_frames.specs.declared.level.Iterating.{Iterating}
use Rattle.vm_frames.specs.declared.level.Level.{Level}
use Rattle.vm_frames.specs.declared.level.Level.TheVariants as level
use Rattle.vm_frames.specs.Seen.{Seen}
use Rattle.vm_frames.specs.Exits.{keeping, pending_set}
use Rattle.vm_frames.specs.Levels.{depth, innermost_level, popped}
use Rattle.vm_frames.specs.Registers.{saturated}
use Rattle.vm_frames.specs.Opening.{activation_in, left, closed, caught}
use Rattle.def_core.specs.Store.{Store}
use Rattle.rite_code.specs.Code.{Program}
use Rattle.vm_unwind.specs.Handlers.{handler}
use Rattle.vm_unwind.specs.declared.unwinding.Landing.{Landing}
use Rattle.vm_unwind.specs.declared.unwinding.Landing.TheVariants.{Runs, Gives, Falls}

abbrev pub goto : Frame → ℕ → Frame
goto f t = record f { index = t }

abbrev pub gives_if : Bool → Value → Option Landing
gives_if b v = if b then Some (Gives v) else None

-- A frame that doesn't take the exit: where the exit lands, if it goes no further, and what is left.

abbrev pub past_frame : Frame → Exit → Option Landing
past_frame f (Raise o) = None
past_frame f (Return a v) = gives_if (nat_eq a f.number) v
past_frame f (Break a v) = gives_if (nat_eq a f.number) v
past_frame f (Jump a t) = if nat_eq a f.number then Some (Runs (level.Frame (goto f t))) else None

-- the activation that ends is the innermost
abbrev pub store_left : Store → Seen → Store
store_left st r = closed st (activation_in r)

abbrev pub store_behind : Store → Seen → Frame → Exit → Store
store_behind st r f (Raise o) = store_left st r
store_behind st r f (Return a v) = store_left st r
store_behind st r f (Break a v) = store_left st r
store_behind st r f (Jump a t) = if nat_eq a f.number then st else store_left st r

abbrev pub left_behind : Seen → Frame → Exit → Seen
left_behind r f (Raise o) = left r f
left_behind r f (Return a v) = left r f
left_behind r f (Break a v) = left r f
left_behind r f (Jump a t) = if nat_eq a f.number then r else left r f

-- A frame, with where its handler leads, if one takes the exit.

abbrev pub lands_at : Option ℕ → Frame → Exit → Option Landing
lands_at None f x = past_frame f x
lands_at (Some t) f x = Some (Runs (level.Frame (goto (keeping f) t)))

abbrev pub left_at : Option ℕ → Seen → Frame → Exit → Seen
left_at None r f x = left_behind r f x
left_at (Some t) r f x = pending_set r f x

abbrev pub store_at : Option ℕ → Store → Seen → Frame → Exit → Store
store_at None st r f x = store_behind st r f x
store_at (Some t) st r f x = st

-- An iteration: an exception lands there where the iteration ends by it.

abbrev pub gives_some : Option Value → Option Landing
gives_some None = None
gives_some (Some v) = Some (Gives v)

abbrev pub lands_at_iteration : Store → Iterating → Exit → Option Landing
lands_at_iteration st i (Raise o) = gives_some (caught st i.state o)
lands_at_iteration st i (Return a v) = gives_if (nat_eq a i.number) v
lands_at_iteration st i (Break a v) = gives_if (nat_eq a i.number) v
lands_at_iteration st i (Jump a t) = None

-- A level, with the store: where an exit lands there, if it goes no further, and what is left.

pub record AtFrame (p : Program) (st : Store) (r : Seen) (f : Frame) (x : Exit) (l : Option Landing) (st′ : Store)
    (s : Seen) : Type 0 where
  pub landing : l ≡ lands_at (handler p f.body f.index x) f x
  pub store : st′ ≡ store_at (handler p f.body f.index x) st r f x
  pub after : s ≡ left_at (handler p f.body f.index x) r f x

pub record AtIteration (st : Store) (r : Seen) (i : Iterating) (x : Exit) (l : Option Landing) (st′ : Store) (s : Seen)
    : Type 0 where
  pub landing : l ≡ lands_at_iteration st i x
  pub store : st′ ≡ st
  pub after : s ≡ r

abbrev pub AtLevel : Program → Store → Seen → Level → Exit → Option Landing → Store → Seen → Type 0
AtLevel p st r (level.Frame f) x l st′ s = AtFrame p st r f x l st′ s
AtLevel p st r (level.Iteration i) x l st′ s = AtIteration st r i x l st′ s

-- Levels that wait, from the innermost on: where an exit lands that has come to one of them, or goes past the last one.

pub record Ends (x : Exit) (st : Store) (r : Seen) (landing : Landing) (st′ : Store) (s : Seen) : Type 0 where
  pub landing_is : landing ≡ Falls x
  pub store : st′ ≡ st
  pub after : s ≡ popped r

-- the level is left behind, and where the exit goes on is said of what is left
pub record Goes (p : Program) (x : Exit) (st : Store) (r : Seen) (l : Level)
    (Further : Store → Seen → Option Landing → Type 0) : Type 0 where
  pub here : Option Landing
  pub store : Store
  pub between : Seen
  pub at : AtLevel p st (popped r) l x here store between
  pub further : Further store between here

abbrev pub Onward : Program → Exit → Store → Seen → Option Level → (Store → Seen → Option Landing → Type 0) → Landing
    → Store → Seen → Type 0
Onward p x st r None Further landing st′ s = Ends x st r landing st′ s
Onward p x st r (Some l) Further landing st′ s = Goes p x st r l Further

abbrev pub Unwinds : ℕ → Program → Exit → Store → Seen → Option Landing → Landing → Store → Seen → Type 0
Unwinds n p x st r (Some l) landing st′ s = (landing ≡ l) × (st′ ≡ st) × (s ≡ r)
Unwinds zero p x st r None landing st′ s = (landing ≡ Falls x) × (st′ ≡ st) × (s ≡ r)
Unwinds (suc n) p x st r None landing st′ s =
    Onward p x st r (innermost_level r.line) (λ u q l. Unwinds n p x u q l landing st′ s) landing st′ s

-- where an exit goes from a level and those that wait for it, and what is left of the store and the levels
pub record Thrown (p : Program) (st : Store) (r : Seen) (l : Level) (x : Exit) (landing : Landing) (st′ : Store)
    (s : Seen) : Type 0 where
  pub here : Option Landing
  pub store : Store
  pub between : Seen
  pub at : AtLevel p st r l x here store between
  pub further : Unwinds (saturated (depth between.line)) p x store between here landing st′ s
