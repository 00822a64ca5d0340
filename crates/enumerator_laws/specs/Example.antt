-- An Enumerator of 1 and 2 that is asked, looked at, asked to its end and rewound.
use Rattle.std.specs.Prelude.{List, [], ◌∷◌, pos, Option, Some, None}
use Rattle.rb_value.specs.declared.value.Value.TheVariants.{Nil, Int}
use Rattle.enumerator_laws.specs.Course.{Course, Event, gives, comes, returns, stops, rewinds}

abbrev pub events : List Event
events = comes (Int (pos 1)) ∷ gives (Int (pos 1))
    -- `peek`, then `next`
    ∷ comes (Int (pos 2)) ∷ gives (Int (pos 2))
    ∷ returns Nil ∷ stops Nil
    ∷ rewinds ∷ comes (Int (pos 1)) ∷ gives (Int (pos 1)) ∷ []

abbrev pub at_the_end : Course
at_the_end = record { items = Int (pos 1) ∷ []; given = 1; result = None }
