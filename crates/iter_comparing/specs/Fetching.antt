-- `[]` and `fetch` of a Hash (ISO/IEC 30170:2012, 15.2.13; `fetch` is an addition).
use Rattle.std.specs.Prelude.{ℕ, List, [], ◌∷◌, slice_get, get_or, codes, Option, Some, None}
use Rattle.rb_value.specs.declared.value.Value.{Value}
use Rattle.rb_value.specs.declared.value.Value.TheVariants.{Nil, Obj}
use Rattle.rb_value.specs.declared.value.ObjId.{ObjId}
use Rattle.rb_value.specs.declared.key.Key.{Key}
use Rattle.rb_value.specs.declared.hash.HashItem.{HashItem}
use Rattle.rb_value.specs.declared.kind.Kind.TheVariants as kind
use Rattle.rb_value.specs.declared.core_class.CoreClass.TheVariants as class
use Rattle.def_core.specs.declared.cause.Cause.TheVariants as cause
use Rattle.def_core.specs.Store.{Store, core, next_number}
use Rattle.def_core.specs.Parts.{hash_at, pair_of}
use Rattle.def_calls.specs.Values.{key_of, text_of_value}
use Rattle.rb_store.specs.Held.{Held}
use Rattle.heap.specs.Operands.{own}
use Rattle.heap.specs.Made.{with_new}
use Rattle.def_plans.specs.Plan.{Planned, calls, gives, refuses, sends_named}
use Rattle.iter_comparing.specs.Stage.{Stage, hands, missing}

-- a Proc is called, whose value is given
abbrev pub called : Held → ObjId → List Value → Planned Stage
called held p args = record { plan = calls hands p args None; held = held }

-- the value of the pair that stands under a key; else what an absent key comes to
abbrev pub of_pair : Held → Planned Stage → Option HashItem → Planned Stage
of_pair held absent None = absent
of_pair held absent (Some item) = gives held item.value

abbrev pub under : Held → ObjId → Planned Stage → Option Key → Planned Stage
under held hash absent None = refuses held cause.StackTooDeep
under held hash absent (Some key) = of_pair held absent (pair_of held.store.objects hash key)

abbrev pub look : Held → ObjId → Value → Planned Stage → Planned Stage
look held hash key absent = under held hash absent (key_of held.store.objects (own held.store key))

-- `[]`: of an absent key what the Hash's Proc gives, or its default

abbrev pub default_by : Held → ObjId → Value → Value → Option ObjId → Planned Stage
default_by held hash key default None = gives held default
default_by held hash key default (Some p) = called held p (Obj hash ∷ key ∷ [])

abbrev pub default_of : Held → ObjId → Value → Planned Stage
default_of held hash key = default_by held hash key (hash_at held.store.objects hash).default
    (hash_at held.store.objects hash).block

abbrev pub element : Held → ObjId → Value → Planned Stage
element held hash key = look held hash key (default_of held hash key)

-- `fetch`: of an absent key what the block gives, or the second argument, or a failure that shows the key

abbrev pub second_or_failure : Held → Value → Option Value → Planned Stage
second_or_failure held key (Some v) = gives held v
second_or_failure held key None = sends_named held missing key (codes "inspect") []

abbrev pub absent_by : Held → List Value → Option ObjId → Planned Stage
absent_by held args (Some p) = called held p (get_or args 0 Nil ∷ [])
absent_by held args None = second_or_failure held (get_or args 0 Nil) (slice_get args 1)

abbrev pub fetch : Held → ObjId → List Value → Option ObjId → Planned Stage
fetch held hash args block = look held hash (get_or args 0 Nil) (absent_by held args block)

-- the key isn't there, which a value shows
abbrev pub fail_absent : Held → Value → Planned Stage
fail_absent held shown = refuses
    (with_new held (core class.String) (kind.String (text_of_value held.store (own held.store shown))))
    (cause.KeyNotFound (next_number held.store))
