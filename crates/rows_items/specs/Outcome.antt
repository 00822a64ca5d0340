-- What a method comes to: it gives a value or is refused, and leaves a heap, where it may have made objects before it
-- was refused.
use Rattle.std.specs.Prelude.{◌≡◌, List, Result, Ok, Err}
use Rattle.rb_value.specs.declared.value.Value.{Value}
use Rattle.def_core.specs.declared.cause.Cause.{Cause}
use Rattle.def_calls.specs.World.{World, fail, with_store}
use Rattle.rb_store.specs.Held.{Held}
use Rattle.heap.specs.Told.{told}
use Rattle.heap.specs.Made.{array_given, with_array}
use Rattle.run_values.specs.Answers.{answered}
use Rattle.run_values.specs.declared.given.Given.{Given}
use Rattle.run_values.specs.declared.given.Given.TheVariants.{Gives}
use Rattle.rows_items.specs.declared.error.RowError.{RowError}
use Rattle.rows_items.specs.declared.error.RowError.TheVariants.{Fails, NoMemory}

pub record Outcome : Type 0 where
  pub told : Result Value Cause
  pub held : Held

abbrev pub gives : Held → Value → Outcome
gives held v = record { told = Ok v; held = held }

abbrev pub refuses : Held → Cause → Outcome
refuses held c = record { told = Err c; held = held }

-- a new Array of values
abbrev pub gives_array : Held → List Value → Outcome
gives_array held vs = gives (with_array held vs) (array_given held.store vs)

-- what leaves the heap as it was where it is refused
abbrev pub outcome_of : Held → Result (Value × Held) Cause → Outcome
outcome_of held (Ok s) = gives s.1 s.0
outcome_of held (Err c) = refuses held c

-- what is meant comes of it; memory may run out
abbrev pub ToldBy : (Outcome → Type 0) → Result Value RowError → Held → Type 0
ToldBy Meant (Ok v) held = Meant (gives held v)
ToldBy Meant (Err (Fails c)) held = Meant (refuses held c)
ToldBy Meant (Err NoMemory) held = Unit {0}

-- it comes to that
abbrev pub Comes : Outcome → Result Value RowError → Held → Type 0
Comes o result held = ToldBy (λ p. o ≡ p) result held

-- what is refused raises by the cause
abbrev pub SettlesBy : Held → Result Value Cause → Given → Held → Type 0
SettlesBy before (Ok v) g after = (g ≡ Gives v) × (after ≡ before)
SettlesBy before (Err c) g after = (w : World)
    → fail (with_store w before.store) (told before.store c) ≡ answered g (with_store w after.store)

abbrev pub SettlesFrom : Held → Result Value RowError → Given → Held → Type 0
SettlesFrom before (Ok v) g after = SettlesBy before (Ok v) g after
SettlesFrom before (Err (Fails c)) g after = SettlesBy before (Err c) g after
SettlesFrom before (Err NoMemory) g after = ⊥

-- what a call gives or raises by what is meant
pub record Called (Meant : Outcome → Type 0) (g : Given) (after : Held) : Type 0 where
  pub outcome : Outcome
  pub meant : Meant outcome
  pub settles : SettlesBy outcome.held outcome.told g after
