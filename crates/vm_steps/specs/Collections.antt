-- Arrays, Strings, Ranges and Symbols.
use Rattle.std.specs.Prelude.{◌≡◌, ℕ, ◌+◌, min, ℤ, pos, negsuc, List, [], ◌∷◌, codes, Bool, true, Option, Some, None, Result, Ok, Err}
use Rattle.rb_value.specs.declared.value.ObjId.{ObjId}
use Rattle.rb_value.specs.declared.value.Value.{Value}
use Rattle.rb_value.specs.declared.value.Value.TheVariants.{Obj}
use Rattle.rb_value.specs.declared.core_class.CoreClass.TheVariants as class
use Rattle.rb_value.specs.declared.kind.Kind.TheVariants as kind
use Rattle.def_core.specs.declared.cause.Cause.{Cause}
use Rattle.def_core.specs.Parts.{no_pairs}
use Rattle.def_core.specs.Store.{core, next_number, sort_at}
use Rattle.rite_code.specs.declared.code.PoolItem.{PoolItem}
use Rattle.rite_code.specs.declared.code.PoolItem.TheVariants as pool
use Rattle.vm_parts.specs.Below.{Held, told}
use Rattle.vm_parts.specs.Below.changes as changes
use Rattle.vm_parts.specs.Below.frames.{Frame}
use Rattle.vm_parts.specs.Below.frames.calls.rows.keyed as keyed
use Rattle.vm_parts.specs.Below.frames.exits as exits
use Rattle.vm_parts.specs.Below.made as made
use Rattle.vm_parts.specs.Below.operands as operands
use Rattle.vm_parts.specs.Below.values as values
use Rattle.vm_parts.specs.Below.views as views
use Rattle.vm_parts.specs.Below.world.{World, Answer, fail}
use Rattle.vm_parts.specs.Answering.{Given, Puts, Follows, ChangesOr, Gives}
use Rattle.vm_parts.specs.Beside.{Beside, with_heap}
use Rattle.vm_parts.specs.declared.flow.Flow.{Flow}
use Rattle.vm_parts.specs.declared.flow.Flow.TheVariants.{Ends}

-- the values of so many registers from one on
abbrev pub row : Beside → Frame → ℕ → ℕ → List Value
row b f a n = exits.row b.seen f a n

-- a new Array
abbrev pub ArrayMade : Beside → Frame → List Value → ℕ → Flow → Frame → Beside → Type 0
ArrayMade b f vs a flow g after =
    Puts (with_heap b (made.with_array b.heap vs)) f (made.array_given b.heap.store vs) a flow g after

-- the Array that a value is gets values behind its elements
abbrev pub Appended : Held → Value → List Value → Given → Held → Type 0
Appended h v vs given after = ChangesOr (views.an_array h.store.objects v) (codes "ARYPUSH")
    (λ id. changes.appended h id vs) h given after

-- it gets the values that a splat stands for

abbrev pub SplattedAt : Option ObjId → Held → Value → Given → Held → Type 0
SplattedAt None h more given after = Follows (λ w. values.wrong_value w (codes "ARYCAT")) h given after
SplattedAt (Some id) h more given after = (given ≡ Gives (Obj id))
    × (operands.is_array (sort_at h.store.objects id) ≡ true
    → after.store ≡ values.push_splat (values.splat h.store (operands.own h.store more)) id)

abbrev pub Splatted : Held → Value → Value → Given → Held → Type 0
Splatted h v more given after = SplattedAt (views.an_array h.store.objects v) h more given after

-- the String that a value is gets a text behind it
abbrev pub TextAppended : Held → Value → Value → Given → Held → Type 0
TextAppended h v more given after = ChangesOr (views.a_string h.store.objects v) (codes "STRCAT")
    (λ id. changes.with_more_bytes h id (values.text_of_value h.store (operands.own h.store more))) h given after

-- Pairs of a key and a value, which follow one another, are put into a Hash one after the other. A key that is refused
-- ends that; those before it are there.

abbrev pub after_put : Held → Result Held Cause → (Held → Option Cause × Held) → Option Cause × Held
after_put h (Ok g) further = further g
after_put h (Err c) further = (Some c, h)

abbrev pub pairs_put : ObjId → Held → List Value → Option Cause × Held
pairs_put id h [] = (None, h)
pairs_put id h (k ∷ []) = (None, h)
pairs_put id h (k ∷ v ∷ vs) = after_put h (keyed.put h id k v) (λ g. pairs_put id g vs)

-- one pair
abbrev pub pair_put : ObjId → Held → Value → Value → Option Cause × Held
pair_put id h k v = after_put h (keyed.put h id k v) (λ g. (None, g))

-- the Hash is given, or what refuses a key is raised
abbrev pub FilledBy : ObjId → Option Cause → Held → Given → Held → Type 0
FilledBy id None h given after = (given ≡ Gives (Obj id)) × (after ≡ h)
FilledBy id (Some c) h given after = Follows (λ w. fail w (told h.store c)) h given after

abbrev pub Filled : ObjId → Option Cause × Held → Given → Held → Type 0
Filled id p given after = FilledBy id p.0 p.1 given after

-- so many registers have the keys and values of that many pairs
abbrev pub twice : ℕ → ℕ
twice n = min (n + n) 65535

-- a new Hash with pairs
abbrev pub HashMade : Held → List Value → Given → Held → Type 0
HashMade h vs given after = Filled (next_number h.store)
    (pairs_put (next_number h.store) (made.with_new h (core class.Hash) (kind.Hash no_pairs)) vs) given after

-- the Hash that a value is gets pairs
abbrev pub PairsAddedAt : Option ObjId → Held → List Value → Given → Held → Type 0
PairsAddedAt None h vs given after = Follows (λ w. values.wrong_value w (codes "HASHADD")) h given after
PairsAddedAt (Some id) h vs given after = Filled id (pairs_put id h vs) given after

abbrev pub PairsAdded : Held → Value → List Value → Given → Held → Type 0
PairsAdded h v vs given after = PairsAddedAt (views.a_hash h.store.objects v) h vs given after

-- the elements of a value between so many at the front and so many at the end, or the last ones
abbrev pub rest_of : Held → Value → ℕ → ℤ → World → Answer
rest_of h v front (pos n) = λ w. values.elements_between w (operands.own h.store v) front n
rest_of h v front (negsuc n) = λ w. values.last_elements w (operands.own h.store v) front (n + 1)

abbrev pub symbol_of : Held → Value → World → Answer
symbol_of h v = λ w. values.make_symbol w (operands.own h.store v)

-- a new String with a text of the pool; without one the program ends
abbrev pub TextMade : Option PoolItem → Beside → Frame → ℕ → Flow → Frame → Beside → Type 0
TextMade None b f a flow g after = (flow ≡ Ends) × (g ≡ f) × (after ≡ b)
TextMade (Some (pool.Int n)) b f a flow g after = (flow ≡ Ends) × (g ≡ f) × (after ≡ b)
TextMade (Some (pool.Text text)) b f a flow g after =
    Puts (with_heap b (made.with_new b.heap (core class.String) (kind.String text))) f
    (Obj (next_number b.heap.store)) a flow g after

abbrev pub range : Value → Value → Bool → World → Answer
range first last exclusive = λ w. values.make_range w first last exclusive
