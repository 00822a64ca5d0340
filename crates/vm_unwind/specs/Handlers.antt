-- Which handler takes an exit.
use Rattle.std.specs.Prelude.{ℕ, List, reverse, find, slice_get, nat_le, nat_lt, Bool, true, not, ◌&&◌, Option, Some, None}
use Rattle.rb_value.specs.declared.exit.Exit.{Exit}
use Rattle.rb_value.specs.declared.exit.Exit.TheVariants.{Raise, Return, Break, Jump}
use Rattle.rite_code.specs.Code.{Program}
use Rattle.rite_code.specs.declared.code.Irep.{Irep}
use Rattle.code_instructions.specs.declared.handler.Handler.{Handler}
use Rattle.code_instructions.specs.Indexed.{handlers_of}

abbrev pub covers : Handler → ℕ → Bool
covers h i = nat_le h.begin i && nat_lt i h.end

-- one of rescue takes exceptions alone, and one of ensure every exit that leaves what it covers
abbrev pub takes : Handler → Exit → Bool
takes h (Raise o) = true
takes h (Return a v) = not h.rescue
takes h (Break a v) = not h.rescue
takes h (Jump a t) = not h.rescue && not (covers h t)

abbrev pub target_in : Option Handler → Option ℕ
target_in None = None
target_in (Some h) = Some h.target

-- where the last of the handlers leads that covers an index and takes an exit
abbrev pub last_handler : List Handler → ℕ → Exit → Option ℕ
last_handler hs i x = target_in (find (λ h. covers h i && takes h x) (reverse hs))

abbrev pub handler_in : Program → Option Irep → ℕ → Exit → Option ℕ
handler_in p None i x = None
handler_in p (Some b) i x = last_handler (handlers_of p b) i x

abbrev pub handler : Program → ℕ → ℕ → Exit → Option ℕ
handler p b i x = handler_in p (slice_get p.bodies b) i x
