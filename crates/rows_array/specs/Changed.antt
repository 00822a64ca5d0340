-- What the methods that change an Array leave of a store, and why they change nothing.
use Rattle.std.specs.Prelude.{ℕ, zero, suc, ◌+◌, ◌-◌, ℤ, pos, negsuc, List, [], ◌∷◌, length, take, drop, get_or, replicate, reverse, nat_lt, if◌then◌else◌, Option, Some, None, Result, Ok, Err}
use Rattle.rb_value.specs.declared.value.Value.{Value}
use Rattle.rb_value.specs.declared.value.Value.TheVariants.{Nil}
use Rattle.rb_value.specs.declared.value.ObjId.{ObjId}
use Rattle.def_core.specs.Parts.{elements_at}
use Rattle.def_core.specs.declared.cause.Cause.{Cause}
use Rattle.def_core.specs.declared.cause.Cause.TheVariants as cause
use Rattle.rb_store.specs.Held.{Held}
use Rattle.heap.specs.Changes as heap
use Rattle.def_calls.specs.Values.{element_at}
use Rattle.rows_items.specs.Told.{and_then, with_front}
use Rattle.rows_items.specs.Checks.{integer_of, count_of, array_of}
use Rattle.rows_items.specs.Made.{made}
use Rattle.rows_array.specs.Lists.{place_in, spliced, last_of, last_part}

abbrev pub elements : Held → ObjId → List Value
elements held id = elements_at held.store.objects id

abbrev pub place_of : Held → ObjId → ℤ → Option ℕ
place_of held id index = place_in (length (elements held id)) index

-- what comes of a place; one before the start is out of range
abbrev pub at_place : {A : Type 0} → Option ℕ → ℤ → (ℕ → Result A Cause) → Result A Cause
at_place None index next = Err (cause.IndexOutOfRange index)
at_place (Some n) index next = next n

-- with nil after the elements until there are so many
abbrev pub padded : Held → ObjId → ℕ → Held
padded held id n = if nat_lt (length (elements held id)) n
    then heap.appended held id (replicate (n - length (elements held id)) Nil) else held

-- a value in the place of an element, or after nils where there is none
abbrev pub stored_at : Held → ObjId → ℕ → Value → Held
stored_at held id n v = if nat_lt n (length (elements held id)) then heap.with_element held id n v
    else heap.pushed (padded held id n) id v

-- `[]=` with an index, which gives the value
abbrev pub store : Held → ObjId → ℤ → Value → Result (Value × Held) Cause
store held id index v = at_place (place_of held id index) index (λ n. Ok (v, stored_at held id n v))

-- the elements with others in the place of so many from a place on
abbrev pub spliced_at : Held → ObjId → ℕ → ℕ → List Value → Held
spliced_at held id n count more = heap.with_elements held id (spliced (elements held id) n count more)

-- `[]=` with an index, a count and an Array: both are Integers, the value is an Array, and the count isn't negative
abbrev pub store_part : Held → ObjId → Value → Value → Value → Result (Value × Held) Cause
store_part held id index count v = and_then (integer_of held.store index) (λ i.
    and_then (integer_of held.store count) (λ _.
    and_then (array_of held.store v) (λ other.
    and_then (count_of held.store count) (λ n.
    at_place (place_of held id i) i (λ place. Ok (v, spliced_at held id place n (elements held other)))))))

abbrev pub set_element : Held → ObjId → List Value → Result (Value × Held) Cause
set_element held id args = if nat_lt 2 (length args)
    then store_part held id (get_or args 0 Nil) (get_or args 1 Nil) (get_or args 2 Nil)
    else and_then (integer_of held.store (get_or args 0 Nil)) (λ i. store held id i (get_or args 1 Nil))

-- a negative index means the place behind the element that it counts to
abbrev pub insertion : ℕ → ℤ → Option ℕ
insertion len (pos n) = Some n
insertion len (negsuc n) = place_in (len + 1) (negsuc n)

-- `insert` before the element at an index
abbrev pub insert : Held → ObjId → List Value → Result Held Cause
insert held id args = and_then (integer_of held.store (get_or args 0 Nil)) (λ i.
    at_place (insertion (length (elements held id)) i) i (λ n. Ok (spliced_at held id n 0 (drop 1 args))))

-- without the element at an index; nothing changes where there is none
abbrev pub deleted_from : Held → ObjId → Option ℕ → Held
deleted_from held id None = held
deleted_from held id (Some n) = if nat_lt n (length (elements held id)) then spliced_at held id n 1 [] else held

-- `delete_at`, which gives the element, and nil where there is none
abbrev pub delete_at : Held → ObjId → Value → Result (Value × Held) Cause
delete_at held id index = and_then (integer_of held.store index)
    (λ i. Ok (element_at (elements held id) i, deleted_from held id (place_of held id i)))

-- every element replaced by a value
abbrev pub filled : Held → ObjId → Value → Held
filled held id v = heap.with_elements held id (replicate (length (elements held id)) v)

abbrev pub turned : Held → ObjId → Held
turned held id = heap.with_elements held id (reverse (elements held id))

-- `replace` by the elements of an Array
abbrev pub replace : Held → ObjId → Value → Result Held Cause
replace held id v = and_then (array_of held.store v) (λ other. Ok (heap.with_elements held id (elements held other)))

-- the elements of Arrays, one after another
abbrev pub elements_of_all : Held → List Value → Result (List Value) Cause
elements_of_all held [] = Ok []
elements_of_all held (v ∷ vs) =
    and_then (array_of held.store v) (λ a. with_front (elements held a) (elements_of_all held vs))

-- `concat`
abbrev pub concat : Held → ObjId → List Value → Result Held Cause
concat held id args = and_then (elements_of_all held args) (λ more. Ok (heap.appended held id more))

-- values before the elements, in their order
abbrev pub unshifted_all : Held → ObjId → List Value → Held
unshifted_all held id [] = held
unshifted_all held id (v ∷ vs) = heap.unshifted (unshifted_all held id vs) id v

-- so many elements taken from the end, or from the front, one after another
abbrev pub without_last : ℕ → Held → ObjId → Held
without_last zero held id = held
without_last (suc n) held id = heap.popped (without_last n held id) id

abbrev pub without_first : ℕ → Held → ObjId → Held
without_first zero held id = held
without_first (suc n) held id = heap.shifted (without_first n held id) id

-- `pop`: the last element, or with a count a new Array of the last ones, which are taken out
abbrev pub pop : Held → ObjId → List Value → Result (Value × Held) Cause
pop held id [] = Ok (last_of (elements held id), heap.popped held id)
pop held id (v ∷ rest) = and_then (count_of held.store v) (λ n.
    made (without_last (length (last_part (elements held id) n)) held id) (last_part (elements held id) n))

-- `shift`, at the front
abbrev pub shift : Held → ObjId → List Value → Result (Value × Held) Cause
shift held id [] = Ok (get_or (elements held id) 0 Nil, heap.shifted held id)
shift held id (v ∷ rest) = and_then (count_of held.store v) (λ n.
    made (without_first (length (take n (elements held id))) held id) (take n (elements held id)))
