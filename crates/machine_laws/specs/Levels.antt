-- Levels that wait for a value, and levels through which an exit goes.
use Rattle.std.specs.Prelude.{◌≡◌, ℕ, List, [], ◌∷◌}
use Rattle.rb_value.specs.declared.exit.Exit.{Exit}
use Rattle.rb_value.specs.declared.exit.Exit.TheVariants.{Raise, Return, Break, Jump}
use Rattle.def_core.specs.Sound.{Census, IsValue}
use Rattle.rite_code.specs.Code.{Program}
use Rattle.def_machine.specs.State.{Level, frame, iteration, Memory}
use Rattle.def_machine.specs.Fits.{IsStart, IsUnderWay, IsException, LevelFits, LevelsWait, MemoryFits, AreApart}

-- each level waits; the running fiber may have none left
pub record WaitsWell (p : Program) (ls : List Level) (m : Memory) : Type 0 where
  pub memory : MemoryFits p m
  pub levels : LevelsWait p m ls
  pub apart : AreApart ls m.fibers.others

-- the innermost level needn't wait
abbrev pub LevelsStand : Program → Memory → List Level → Type 0
LevelsStand p m [] = Unit {0}
LevelsStand p m (l ∷ ls) = LevelFits p m l ls × LevelsWait p m ls

pub record StandsWell (p : Program) (ls : List Level) (m : Memory) : Type 0 where
  pub memory : MemoryFits p m
  pub levels : LevelsStand p m ls
  pub apart : AreApart ls m.fibers.others

-- a jump is of the innermost frame alone
abbrev pub JumpGoes : Program → List Level → ℕ → ℕ → Type 0
JumpGoes p [] a t = ⊥
JumpGoes p (frame f ∷ ls) a t = (a ≡ f.activation) × IsStart p f.body t
JumpGoes p (iteration b it v ∷ ls) a t = ⊥

-- an exit leads to one of the levels, or out of the fiber where it is an exception
abbrev pub ExitGoes : Program → Census → List Level → Exit → Type 0
ExitGoes p k ls (Raise e) = IsException k e
ExitGoes p k ls (Return a v) = IsUnderWay ls a × IsValue k v
ExitGoes p k ls (Break a v) = IsUnderWay ls a × IsValue k v
ExitGoes p k ls (Jump a t) = JumpGoes p ls a t
