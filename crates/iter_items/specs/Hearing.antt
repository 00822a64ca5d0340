-- What an answer comes to for a method over items.
use Rattle.std.specs.Prelude.{◌≡◌, List, [], ◌∷◌, ◌++◌, Bool, true, false, if◌then◌else◌, Option, Some, None, Result, Ok, Err}
use Rattle.std.specs.declared.alloc.AllocError.{AllocError}
use Rattle.rb_value.specs.declared.value.Value.{Value}
use Rattle.rb_value.specs.declared.value.Value.TheVariants.{True, False}
use Rattle.rb_value.specs.declared.value.ObjId.{ObjId}
use Rattle.rb_value.specs.declared.key.Key.{Key}
use Rattle.rb_value.specs.declared.hash.HashItem.{HashItem}
use Rattle.rb_value.specs.Value.{is_true}
use Rattle.def_core.specs.declared.cause.Cause.{Cause}
use Rattle.def_core.specs.declared.cause.Cause.TheVariants as cause
use Rattle.def_core.specs.Bind.{elements_in}
use Rattle.def_core.specs.Parts.{pair_of}
use Rattle.def_calls.specs.Values.{key_of}
use Rattle.def_calls.specs.Views.{an_array}
use Rattle.rb_store.specs.Held.{Held, one_more}
use Rattle.heap.specs.Operands.{own}
use Rattle.heap.specs.Made.{array_given, with_array}
use Rattle.heap.specs.Changes.{pushed}
use Rattle.rows_items.specs.Keyed as keyed
use Rattle.iter_items.specs.declared.row.Task.{Task}
use Rattle.iter_items.specs.declared.row.Task.TheVariants as task
use Rattle.iter_items.specs.declared.visit.Visit.{Visit}
use Rattle.iter_items.specs.declared.wish.Wish.{Wish}
use Rattle.iter_items.specs.declared.wish.Wish.TheVariants.{Ends, Fails, Asks}
use Rattle.iter_items.specs.Asking.{Wished, wishes, nothing, value_or_nil, tally_value, taken, Taken}
use Rattle.iter_items.specs.Sources as sources

-- what is wished, visited and left; or a failure, and the heap that is left
pub data Heard : Type 0 where
  going : Wished → Heard
  failing : Cause → Held → Heard

abbrev pub onward : Held → Visit → Heard
onward held v = going (nothing held v)

-- the answer comes to that; memory may run out
abbrev pub IsWish : Heard → Option Wish → Visit → Held → Type 0
IsWish (going w) wish visit held = w ≡ record { wish = wish; visit = visit; held = held }
IsWish (failing c left) wish visit held = (wish ≡ Some (Fails c)) × (held ≡ left)

abbrev pub Hears : Heard → Result (Option Wish) AllocError → Visit → Held → Type 0
Hears h (Ok wish) visit held = IsWish h wish visit held
Hears h (Err e) visit held = Unit {0}

-- An answer that decides.

abbrev pub decide : Task → Visit → Bool → Option Wish
decide task.Find v true = Some (Ends v.item)
decide task.FindIndex v true = Some (Ends (tally_value v))
decide task.All v false = Some (Ends False)
decide task.Never v true = Some (Ends False)
decide task.Any v true = Some (Ends True)
decide _ v b = None

abbrev pub tallied : Visit → Visit
tallied v = record v { tally = one_more v.tally }

abbrev pub decided : Held → Visit → Value → Heard
decided held v a = going (record { wish = decide v.task v (is_true a); visit = tallied v; held = held })

-- Items and answers that are kept.

abbrev pub keeping : Visit → List Value → Visit
keeping v vs = record v { kept = v.kept ++ vs }

abbrev pub setting_aside : Visit → List Value → Visit
setting_aside v vs = record v { others = v.others ++ vs }

-- the pairs of a Hash are kept in a Hash; where a key is refused all is as before

abbrev pub put : Visit → Held → Result Held Cause → Heard
put v held (Ok after) = onward after v
put v held (Err c) = failing c held

abbrev pub keep_pair : Held → Visit → Option ObjId → Option HashItem → Heard
keep_pair held v None p = onward held (keeping v (v.item ∷ []))
keep_pair held v (Some h) None = onward held (keeping v (v.item ∷ []))
keep_pair held v (Some h) (Some p) = put v held (keyed.put held h p.shown p.value)

abbrev pub keep_item : Held → Visit → Heard
keep_item held v = keep_pair held v v.made (sources.passed_pair v.source)

-- of an Array its elements are kept
abbrev pub flat : Value → Option (List Value) → List Value
flat v None = v ∷ []
flat v (Some vs) = vs

abbrev pub keep_flat : Held → Visit → Value → Visit
keep_flat held v a = keeping v (flat a (elements_in held.store.objects a))

abbrev pub part : Visit → Value → Visit
part v a = if is_true a then keeping v (v.item ∷ []) else setting_aside v (v.item ∷ [])

-- The group of a key: the Array that stands under it in the Hash that is made, or a new one.

abbrev pub into_group : Held → Visit → Option ObjId → Heard
into_group held v None = onward held v
into_group held v (Some group) = onward (pushed held group v.item) v

abbrev pub begin_group : Held → Visit → ObjId → Value → Heard
begin_group held v h a =
    put v (with_array held (v.item ∷ [])) (keyed.put (with_array held (v.item ∷ [])) h a (array_given held.store (v.item ∷ [])))

abbrev pub group_beside : Held → Visit → ObjId → Value → Option HashItem → Heard
group_beside held v h a (Some p) = into_group held v (an_array held.store.objects p.value)
group_beside held v h a None = begin_group held v h a

abbrev pub group_under : Held → Visit → ObjId → Value → Option Key → Heard
group_under held v h a None = failing cause.StackTooDeep held
group_under held v h a (Some k) = group_beside held v h a (pair_of held.store.objects h k)

abbrev pub group_in : Held → Visit → Value → Option ObjId → Heard
group_in held v a None = onward held v
group_in held v a (Some h) = group_under held v h a (key_of held.store.objects (own held.store a))

abbrev pub group : Held → Visit → Value → Heard
group held v a = group_in held v a v.made

-- the items that were kept are a new Array
abbrev pub give_kept : Held → Visit → Wished
give_kept held v =
    wishes (with_array held v.kept) (record v { kept = [] }) (Ends (array_given held.store v.kept))

-- the item and all that are left
abbrev pub rest_by : Visit → Taken → Wished
rest_by v t =
    give_kept t.held (record v { kept = (v.kept ++ v.item ∷ []) ++ t.items; source = t.source })

abbrev pub take_rest : Held → Visit → Heard
take_rest held v = going (rest_by v (taken (sources.left held.store v.source) held v.source))

-- A sum: what the block makes of an item is added; what comes of that is the sum.

abbrev pub added : Held → Visit → Value → Wished
added held v a = if v.called
    then wishes held (record v { called = false }) (Asks (value_or_nil v) a)
    else nothing held (record v { value = Some a })

abbrev pub keyed_by : Visit → Value → Visit
keyed_by v a = record v { kept = v.kept ++ v.item ∷ []; others = v.others ++ a ∷ [] }

-- an answer that tells whether the item stays; of other methods it says nothing
abbrev pub sifted : Task → Held → Visit → Value → Heard
sifted task.Select held v a = if is_true a then keep_item held v else onward held v
sifted task.Reject held v a = if is_true a then onward held v else keep_item held v
sifted task.TakeWhile held v a =
    if is_true a then onward held (keeping v (v.item ∷ [])) else going (give_kept held v)
sifted task.DropWhile held v a = if is_true a then onward held v else take_rest held v
sifted _ held v a = onward held v

-- what is kept of an answer
abbrev pub gathered : Task → Held → Visit → Value → Visit
gathered task.Map held v a = keeping v (a ∷ [])
gathered task.FlatMap held v a = keep_flat held v a
gathered task.Partition held v a = part v a
gathered task.MinBy held v a = keyed_by v a
gathered task.MaxBy held v a = keyed_by v a
gathered task.SortBy held v a = keyed_by v a
gathered _ held v a = v

-- what an answer comes to
abbrev pub heard_by : Task → Held → Visit → Value → Heard
heard_by task.Select held v a = sifted task.Select held v a
heard_by task.Reject held v a = sifted task.Reject held v a
heard_by task.Find held v a = decided held v a
heard_by task.FindIndex held v a = decided held v a
heard_by task.GroupBy held v a = group held v a
heard_by task.EachWithIndex held v a = onward held (tallied v)
heard_by task.TakeWhile held v a = sifted task.TakeWhile held v a
heard_by task.DropWhile held v a = sifted task.DropWhile held v a
heard_by task.All held v a = decided held v a
heard_by task.Any held v a = decided held v a
heard_by task.Never held v a = decided held v a
heard_by task.Count held v a = onward held (if is_true a then tallied v else v)
heard_by task.Inject held v a = onward held (record v { value = Some a })
heard_by task.Sum held v a = going (added held v a)
heard_by t held v a = onward held (gathered t held v a)

abbrev pub heard : Held → Visit → Value → Heard
heard held v a = heard_by v.task held v a
