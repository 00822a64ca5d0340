-- Where the locals of a body stand, and how a local is reached.
use Rattle.std.specs.Prelude.{ℕ, ◌+◌, ◌-◌, List, [], ◌∷◌, ◌++◌, map, length, slice_get, Bool, true, false, if◌then◌else◌, Option, Some, None}
use Rattle.ir_core.specs.CoreForm.{Local, named, hidden, pattern, rest, Parameters, Body, body}
use Rattle.ir_core.specs.Program.{are_same}
use Rattle.scope_resolver.specs.declared.body_kind.BodyKind.{BodyKind}
use Rattle.scope_resolver.specs.declared.body_kind.BodyKind.TheVariants as kind
use Rattle.scope_resolver.specs.declared.place.Place.{Place}
use Rattle.scope_resolver.specs.declared.seek.Search.{Search}
use Rattle.scope_resolver.specs.declared.seek.Search.TheVariants.{Found, Past}

-- The locals of a body by their registers, from register 1 on; register 0 is self. One without a local is that of a
-- block without a name.
abbrev pub Slots : Type 0
Slots = List (Option Local)

abbrev pub named_slots : List Local → Slots
named_slots ls = map Some ls

abbrev pub block_slot : List Local → Slots
block_slot [] = None ∷ []
block_slot (x ∷ xs) = Some x ∷ []

-- parameters in the order in which arguments are bound to them, then the block
abbrev pub parameter_slots : Parameters → Slots
parameter_slots p = named_slots p.required ++ named_slots p.optional ++ named_slots p.rest ++ named_slots p.post
    ++ block_slot p.block

abbrev pub has_parameters : BodyKind → Bool
has_parameters kind.Main = false
has_parameters kind.Method = true
has_parameters kind.Block = true
has_parameters kind.Class = false

abbrev pub slots_by : BodyKind → Parameters → List Local → Slots
slots_by k p ls = if has_parameters k then parameter_slots p ++ named_slots ls else named_slots ls

abbrev pub slots_of : BodyKind → Body → Slots
slots_of k (body p ls f) = slots_by k p ls

-- The bodies whose locals a form sees, the innermost first: blocks see what is around them.
abbrev pub Scopes : Type 0
Scopes = List Slots

abbrev pub seen_around : BodyKind → Scopes → Scopes
seen_around kind.Main around = []
seen_around kind.Method around = []
seen_around kind.Block around = around
seen_around kind.Class around = []

abbrev pub scopes_in : BodyKind → Body → Scopes → Scopes
scopes_in k b around = slots_of k b ∷ seen_around k around

-- A search through slots.

abbrev pub past : ℕ → Search
past n = Past n

abbrev pub is_at : Local → Option Local → Bool
is_at x None = false
is_at x (Some y) = are_same x y

abbrev pub at_slot : Local → Option Local → Search → Search
at_slot x s (Found n) = Found n
at_slot x s (Past n) = if is_at x s then Found n else Past (n + 1)

abbrev pub seek : Local → Slots → Search → Search
seek x [] from = from
seek x (s ∷ ss) from = seek x ss (at_slot x s from)

-- Where it is found so many levels out, or further out.
abbrev pub place_at : Search → ℕ → Option Place → Option Place
place_at (Found n) levels further = Some (record { levels = levels; register = n })
place_at (Past n) levels further = further

abbrev pub place_from : Local → Scopes → ℕ → Option Place
place_from x [] levels = None
place_from x (ss ∷ scopes) levels = place_at (seek x ss (Past 1)) levels (place_from x scopes (levels + 1))

-- every name of a program is bound; self stands for one that isn't
abbrev pub place_or_self : Option Place → Place
place_or_self None = record { levels = 0; register = 0 }
place_or_self (Some p) = p

abbrev pub count_of : Option Slots → ℕ
count_of None = 0
count_of (Some ss) = length ss

abbrev pub innermost_count : Scopes → ℕ
innermost_count scopes = count_of (slice_get scopes 0)

-- A hidden local is one of the innermost body, after its other locals.
abbrev pub place_of : Scopes → Local → Place
place_of scopes (named x) = place_or_self (place_from (named x) scopes 0)
place_of scopes (pattern k) = place_or_self (place_from (pattern k) scopes 0)
place_of scopes rest = place_or_self (place_from rest scopes 0)
place_of scopes (hidden d) = record { levels = 0; register = 1 + innermost_count scopes + d }

-- A parameter of the method around the text: its body is the outermost that the form sees.
abbrev pub place_in : Local → ℕ → Option Slots → Option Place
place_in x levels None = None
place_in x levels (Some ss) = place_at (seek x ss (Past 1)) levels None

abbrev pub own_place : Scopes → Local → Place
own_place scopes x = place_or_self (place_in x (length scopes - 1) (slice_get scopes (length scopes - 1)))
