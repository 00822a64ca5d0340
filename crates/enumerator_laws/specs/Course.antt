-- How far an Enumerator has come, and what may happen to it.
use Rattle.std.specs.Prelude.{◌≡◌, ℕ, ◌+◌, List, [], ◌∷◌, ◌++◌, slice_get, Option, Some, None}
use Rattle.rb_value.specs.declared.value.Value.{Value}

-- the items that came since it was made or rewound, how many of them were given, and the result of its source, where
-- that has returned
pub record Course : Type 0 where
  pub items : List Value
  pub given : ℕ
  pub result : Option Value

-- nothing has come
abbrev pub begun : Course
begun = record { items = []; given = 0; result = None }

-- the item that came and wasn't given yet
abbrev pub held_back : Course → Option Value
held_back c = slice_get c.items c.given

pub data Event : Type 0 where
  -- `next` gives an item
  gives : Value → Event
  -- an item comes from the source, asked for by `next` or `peek`
  comes : Value → Event
  -- the source returns
  returns : Value → Event
  -- `next` or `peek` raises StopIteration with that result
  stops : Value → Event
  rewinds : Event

abbrev pub after : Course → Event → Course
after c (gives v) = record c { given = c.given + 1 }
after c (comes v) = record c { items = c.items ++ v ∷ [] }
after c (returns r) = record c { result = Some r }
after c (stops r) = c
after c rewinds = begun

-- What may happen: only what came is given, and only where all that came was given an item is asked for, or the end told.
abbrev pub May : Course → Event → Type 0
May c (gives v) = held_back c ≡ Some v
May c (comes v) = (held_back c ≡ None) × (c.result ≡ None)
May c (returns r) = Unit {0}
May c (stops r) = (held_back c ≡ None) × (c.result ≡ Some r)
May c rewinds = Unit {0}

-- these events happen, one after another
abbrev pub Happens : Course → List Event → Course → Type 0
Happens c [] d = c ≡ d
Happens c (e ∷ es) d = May c e × Happens (after c e) es d

-- what `next` gave since the last `rewind`, after these values
abbrev pub given_by : List Value → List Event → List Value
given_by vs [] = vs
given_by vs (gives v ∷ es) = given_by (vs ++ v ∷ []) es
given_by vs (comes v ∷ es) = given_by vs es
given_by vs (returns r ∷ es) = given_by vs es
given_by vs (stops r ∷ es) = given_by vs es
given_by vs (rewinds ∷ es) = given_by [] es

-- what came from the source since then
abbrev pub came_by : List Value → List Event → List Value
came_by vs [] = vs
came_by vs (gives v ∷ es) = came_by vs es
came_by vs (comes v ∷ es) = came_by (vs ++ v ∷ []) es
came_by vs (returns r ∷ es) = came_by vs es
came_by vs (stops r ∷ es) = came_by vs es
came_by vs (rewinds ∷ es) = came_by [] es
