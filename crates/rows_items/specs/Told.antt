-- What a method tells: what its definition gives, or the cause by which that refuses.
use Rattle.std.specs.Prelude.{◌≡◌, List, [], ◌∷◌, ◌++◌, Result, Ok, Err}
use Rattle.rb_value.specs.declared.value.Value.{Value}
use Rattle.def_core.specs.declared.cause.Cause.{Cause}
use Rattle.rb_store.specs.Held.{Held}
use Rattle.rows_items.specs.declared.error.RowError.{RowError}
use Rattle.rows_items.specs.declared.error.RowError.TheVariants.{Fails, NoMemory}

-- a cause is that of the definition; memory may run out before it is known
abbrev pub Refused : {A : Type 0} → Result A Cause → RowError → Type 0
Refused defined (Fails cause) = defined ≡ Err cause
Refused defined NoMemory = Unit {0}

abbrev pub Told : {A : Type 0} → Result A RowError → Result A Cause → Type 0
Told (Ok x) defined = defined ≡ Ok x
Told (Err e) defined = Refused defined e

-- A method that may change the heap gives a value and leaves a heap; one that is refused leaves it as it was.

abbrev pub Stays : {A : Type 0} → Held → Held → Result A Cause → RowError → Type 0
Stays before after defined (Fails cause) = (defined ≡ Err cause) × (after ≡ before)
Stays before after defined NoMemory = Unit {0}

abbrev pub Gives : Held → Held → Result Value RowError → Result (Value × Held) Cause → Type 0
Gives before after (Ok v) defined = defined ≡ Ok (v, after)
Gives before after (Err e) defined = Stays before after defined e

-- the same of a method that only leaves a heap
abbrev pub Leaves : {A : Type 0} → Held → Held → Result A RowError → Result Held Cause → Type 0
Leaves before after (Ok x) defined = defined ≡ Ok after
Leaves before after (Err e) defined = Stays before after defined e

-- One after another.

-- the next by what the first gives; a cause ends all
abbrev pub and_then : {A B : Type 0} → Result A Cause → (A → Result B Cause) → Result B Cause
and_then (Ok x) next = next x
and_then (Err cause) next = Err cause

-- a list with others before it
abbrev pub with_front : {A : Type 0} → List A → Result (List A) Cause → Result (List A) Cause
with_front xs (Ok ys) = Ok (xs ++ ys)
with_front xs (Err cause) = Err cause

-- what each of the values is; the first that is refused ends all
abbrev pub each : {A : Type 0} → (Value → Result A Cause) → List Value → Result (List A) Cause
each what [] = Ok []
each what (v ∷ vs) = and_then (what v) (λ x. with_front (x ∷ []) (each what vs))

-- what is refused leaves the heap as it was; memory may run out between
abbrev pub Kept : Held → Held → RowError → Type 0
Kept before after (Fails cause) = after ≡ before
Kept before after NoMemory = Unit {0}
