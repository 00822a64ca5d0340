-- What each method takes, gives, leaves and is refused by.
use Rattle.std.specs.Prelude.{ℕ, List, length, get_or, nat_eq, Option, Some, None, Result, Ok, Err}
use Rattle.rb_value.specs.declared.value.Value.{Value}
use Rattle.rb_value.specs.declared.value.Value.TheVariants.{Nil, Obj}
use Rattle.rb_value.specs.declared.value.ObjId.{ObjId}
use Rattle.rb_value.specs.Value.{truth}
use Rattle.def_core.specs.declared.cause.Cause.{Cause}
use Rattle.def_core.specs.Parts.{hash_at}
use Rattle.rb_store.specs.Held.{Held}
use Rattle.heap.specs.Changes.{with_absent, without_pairs}
use Rattle.core_calls.specs.Checks.{miscounted}
use Rattle.rows_items.specs.Told.{and_then}
use Rattle.rows_items.specs.Outcome.{Outcome, gives, refuses, outcome_of}
use Rattle.rows_hash.specs.declared.rows.HashRow.{HashRow}
use Rattle.rows_hash.specs.declared.rows.HashRow.TheVariants as row
use Rattle.rows_hash.specs.Merging as merging
use Rattle.rows_hash.specs.Pairs as pairs

-- how many arguments each takes
abbrev pub arity : HashRow → ℕ
arity row.Store = 2
arity row.HasKey = 1
arity row.Keys = 0
arity row.Values = 0
arity row.Length = 0
arity row.IsEmpty = 0
arity row.Delete = 1
arity row.Merge = 1
arity row.Update = 1
arity row.Invert = 0
arity row.Clear = 0
arity row.Default = 0
arity row.SetDefault = 1
arity row.ToHash = 0

abbrev pub first : List Value → Value
first args = get_or args 0 Nil

abbrev pub count : Held → ObjId → ℕ
count held id = length (pairs.pairs held.store id)

abbrev pub key_told : Held → ObjId → Value → Result (Value × Held) Cause
key_told held id key = and_then (pairs.has_key held.store id key) (λ there. Ok (truth there, held))

-- what each comes to, where it takes so many arguments
abbrev pub answer : HashRow → Held → ObjId → List Value → Outcome
answer row.Store held id args = outcome_of held (pairs.store held id (first args) (get_or args 1 Nil))
answer row.HasKey held id args = outcome_of held (key_told held id (first args))
answer row.Keys held id args = outcome_of held (pairs.key_array held id)
answer row.Values held id args = outcome_of held (pairs.value_array held id)
answer row.Length held id args = gives held (pairs.count_value (count held id))
answer row.IsEmpty held id args = gives held (truth (nat_eq (count held id) 0))
answer row.Delete held id args = outcome_of held (pairs.delete held id (first args))
answer row.Merge held id args = merging.merge held id (first args)
answer row.Update held id args = merging.update held id (first args)
answer row.Invert held id args = merging.invert held id
answer row.Clear held id args = gives (without_pairs held id) (Obj id)
answer row.Default held id args = gives held (hash_at held.store.objects id).default
answer row.SetDefault held id args = gives (with_absent held id (first args) None) (first args)
answer row.ToHash held id args = gives held (Obj id)

abbrev pub answer_by : HashRow → Held → List Value → Result ObjId Cause → Outcome
answer_by r held args (Ok id) = answer r held id args
answer_by r held args (Err c) = refuses held c

abbrev pub on_hash : HashRow → Held → Value → List Value → Outcome
on_hash r held recv args = answer_by r held args (pairs.hash_of held.store recv)

abbrev pub call_by : HashRow → Held → Value → List Value → Option Cause → Outcome
call_by r held recv args (Some c) = refuses held c
call_by r held recv args None = on_hash r held recv args

-- what a call comes to: the arguments are counted, then the receiver has to be a Hash
abbrev pub call : HashRow → Held → Value → List Value → Outcome
call r held recv args = call_by r held recv args (miscounted (length args) (arity r) (Some (arity r)))
