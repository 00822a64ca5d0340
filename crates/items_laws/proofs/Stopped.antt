-- Which exceptions iterations catch.
use Rattle.std.proofs.Common.{◌≡◌, refl, sym}
use Rattle.std.specs.Prelude.{Bool, true, false, if◌then◌else◌, Some, None}
use Rattle.rb_value.specs.declared.value.Value.{Value}
use Rattle.rb_value.specs.declared.value.Value.TheVariants.{Obj}
use Rattle.rb_value.specs.declared.value.ObjId.{ObjId}
use Rattle.rb_value.specs.declared.core_class.CoreClass.TheVariants as class
use Rattle.def_core.specs.Classes.{plain_class_of}
use Rattle.def_core.specs.Store.{Store, core, object_at}
use Rattle.def_calls.specs.Views.{detail_of}
use Rattle.heap.specs.Operands.{own, is_in_chain}
use Rattle.core_iter.specs.declared.iteration.Iteration.{Iteration}
use Rattle.core_iter.specs.declared.iteration.Iteration.TheVariants as state
use Rattle.core_iter.specs.Rows.{caught}
use Rattle.items_laws.specs.Cut.{Stops}
use Rattle.items_laws.proofs.Small.{some_same}

abbrev is_stop : Store → ObjId → Bool
is_stop st e = is_in_chain st (plain_class_of st.objects (own st (Obj e))) (core class.StopIteration)

stopped_if : (st : Store) (p e : ObjId) (v : Value) (c : Bool) → is_stop st e ≡ c
    → (if c then Some (detail_of (object_at st.objects e).kind) else None) ≡ Some v → Stops st (state.Looping p) e v
stopped_if st p e v true stops is = record {
  block = p;
  loop = refl;
  stop = stops;
  result = sym (some_same (detail_of (object_at st.objects e).kind) v is);
}
stopped_if st p e v false stops is = absurd (cc)

pub stopped : (st : Store) (s : Iteration) (e : ObjId) (v : Value) → caught st s e ≡ Some v → Stops st s e v
stopped st state.Handing e v is = absurd (cc)
stopped st (state.Giving u) e v is = absurd (cc)
stopped st (state.Putting r) e v is = absurd (cc)
stopped st (state.PuttingText r) e v is = absurd (cc)
stopped st (state.Printing r) e v is = absurd (cc)
stopped st (state.PrintingText r) e v is = absurd (cc)
stopped st (state.Inspecting r) e v is = absurd (cc)
stopped st (state.InspectingText r) e v is = absurd (cc)
stopped st state.Raising e v is = absurd (cc)
stopped st (state.Messaging u) e v is = absurd (cc)
stopped st (state.Telling u) e v is = absurd (cc)
stopped st (state.TellingText u) e v is = absurd (cc)
stopped st (state.Reporting x) e v is = absurd (cc)
stopped st (state.Reported x) e v is = absurd (cc)
stopped st (state.Looping p) e v is = stopped_if st p e v (is_stop st e) refl is
stopped st (state.Counting c) e v is = absurd (cc)
stopped st (state.Characters w) e v is = absurd (cc)
stopped st (state.Lines w) e v is = absurd (cc)
stopped st (state.Bytes w) e v is = absurd (cc)
stopped st (state.Visiting w) e v is = absurd (cc)
stopped st (state.Indexing w) e v is = absurd (cc)
stopped st (state.Replacing w) e v is = absurd (cc)
stopped st (state.Deleting w) e v is = absurd (cc)
stopped st (state.Filling f) e v is = absurd (cc)
stopped st (state.Pairs w) e v is = absurd (cc)
stopped st (state.Items u) e v is = absurd (cc)
