-- What is done straight on, without a call: nothing is given of any other method, receiver or arguments, nor where a
-- method refuses.
use Rattle.std.specs.Prelude.{List, [], ◌∷◌, length, nat_eq, Bool, false, is_some, Option, Some, None, Result, Ok, Err}
use Rattle.rb_value.specs.declared.value.Value.{Value}
use Rattle.rb_value.specs.declared.value.ObjId.{ObjId}
use Rattle.rb_value.specs.Value.{truth}
use Rattle.def_core.specs.declared.cause.Cause.{Cause}
use Rattle.def_calls.specs.Views.{a_hash, a_string}
use Rattle.rb_store.specs.Held.{Held}
use Rattle.rows_hash.specs.declared.rows.HashRow.{HashRow}
use Rattle.rows_hash.specs.declared.rows.HashRow.TheVariants as row
use Rattle.rows_hash.specs.Pairs.{pairs, has_key, store, count_value}

abbrev pub unless_refused : Held → Result (Value × Held) Cause → Option Value × Held
unless_refused held (Ok given) = (Some given.0, given.1)
unless_refused held (Err cause) = (None, held)

abbrev pub truth_unless_refused : Held → Result Bool Cause → Option Value × Held
truth_unless_refused held (Ok b) = (Some (truth b), held)
truth_unless_refused held (Err cause) = (None, held)

abbrev pub stored : Held → ObjId → List Value → Option Value × Held
stored held id [] = (None, held)
stored held id (k ∷ []) = (None, held)
stored held id (k ∷ v ∷ []) = unless_refused held (store held id k v)
stored held id (k ∷ v ∷ w ∷ rest) = (None, held)

abbrev pub key_there : Held → ObjId → List Value → Option Value × Held
key_there held id [] = (None, held)
key_there held id (k ∷ []) = truth_unless_refused held (has_key held.store id k)
key_there held id (k ∷ v ∷ rest) = (None, held)

abbrev pub count : Held → ObjId → List Value → Option Value × Held
count held id [] = (Some (count_value (length (pairs held.store id))), held)
count held id (v ∷ rest) = (None, held)

abbrev pub is_empty : Held → ObjId → List Value → Option Value × Held
is_empty held id [] = (Some (truth (nat_eq (length (pairs held.store id)) 0)), held)
is_empty held id (v ∷ rest) = (None, held)

abbrev pub directly : HashRow → Held → ObjId → List Value → Option Value × Held
directly row.Store held id args = stored held id args
directly row.HasKey held id args = key_there held id args
directly row.Length held id args = count held id args
directly row.IsEmpty held id args = is_empty held id args
directly row.Keys held id args = (None, held)
directly row.Values held id args = (None, held)
directly row.Delete held id args = (None, held)
directly row.Merge held id args = (None, held)
directly row.Update held id args = (None, held)
directly row.Invert held id args = (None, held)
directly row.Clear held id args = (None, held)
directly row.Default held id args = (None, held)
directly row.SetDefault held id args = (None, held)
directly row.ToHash held id args = (None, held)

abbrev pub directly_at : HashRow → Held → Option ObjId → List Value → Option Value × Held
directly_at row held None args = (None, held)
directly_at row held (Some id) args = directly row held id args

abbrev pub given : HashRow → Held → Value → List Value → Option Value × Held
given row held recv args = directly_at row held (a_hash held.store.objects recv) args

-- a value is put under a String, of which a copy may be made
abbrev pub puts_under_text : Held → List Value → Bool
puts_under_text held [] = false
puts_under_text held (k ∷ []) = false
puts_under_text held (k ∷ v ∷ []) = is_some (a_string held.store.objects k)
puts_under_text held (k ∷ v ∷ w ∷ rest) = false

abbrev pub may_copy : HashRow → Held → List Value → Bool
may_copy row.Store held args = puts_under_text held args
may_copy _ held args = false
