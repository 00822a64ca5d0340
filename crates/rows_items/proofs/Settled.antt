-- What was told is given or raised.
use Rattle.std.proofs.Common.{◌≡◌, ap, sym, ◌∙◌}
use Rattle.std.specs.Prelude.{Result, Ok, Err}
use Rattle.rb_value.specs.declared.value.Value.{Value}
use Rattle.def_core.specs.declared.cause.Cause.{Cause}
use Rattle.rb_store.specs.Held.{Held}
use Rattle.run_values.specs.declared.given.Given.{Given}
use Rattle.rows_items.specs.declared.error.RowError.{RowError}
use Rattle.rows_items.specs.declared.error.RowError.TheVariants.{Fails, NoMemory}
use Rattle.rows_items.specs.Outcome.{Outcome, Called, Comes, ToldBy, SettlesFrom, gives, refuses, outcome_of}
use Rattle.rows_items.specs.Told.{Gives}

pub called_so : (Meant : Outcome → Type 0) (told : Result Value RowError) (between after : Held) (g : Given)
    → ToldBy Meant told between → SettlesFrom between told g after → Called Meant g after
called_so Meant (Ok v) between after g meant settles =
    record { outcome = gives between v; meant = meant; settles = settles }
called_so Meant (Err (Fails c)) between after g meant settles =
    record { outcome = refuses between c; meant = meant; settles = settles }
called_so Meant (Err NoMemory) between after g meant settles = absurd settles

-- what a method gives is what it comes to
pub given_comes : (before after : Held) (told : Result Value RowError) (defined : Result (Value × Held) Cause)
    → Gives before after told defined → Comes (outcome_of before defined) told after
given_comes before after (Ok v) defined h = ap (outcome_of before) h
given_comes before after (Err (Fails c)) defined h =
    ap (outcome_of before) h.0 ∙ ap (λ (held : Held). refuses held c) (sym h.1)
given_comes before after (Err NoMemory) defined h = tt
