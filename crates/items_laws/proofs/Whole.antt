-- A whole run over an Array.
use Rattle.std.proofs.Common.{◌≡◌, ℕ, ◌<◌, ◌+◌, ◌^◌, refl, sym, ap, ◌∙◌, List, [], ◌∷◌, length, arith}
use Rattle.std.specs.Prelude.{map, slice_get, false, Option, Some}
use Rattle.rb_value.specs.declared.value.Value.{Value}
use Rattle.rb_value.specs.declared.value.ObjId.{ObjId}
use Rattle.def_core.specs.Parts.{elements_at}
use Rattle.def_calls.specs.Views.{an_array}
use Rattle.rb_store.specs.Held.{Held}
use Rattle.iter_items.specs.declared.row.ItemsRow.TheVariants as items_row
use Rattle.iter_items.specs.declared.row.Task.TheVariants as task
use Rattle.iter_items.specs.declared.source.Source.TheVariants as source
use Rattle.iter_items.specs.Sources.{next, of_array}
use Rattle.run_rows.specs.declared.row.StarRow.TheVariants as row
use Rattle.items_laws.specs.Run.{Turn, Gives}
use Rattle.items_laws.specs.Items.{Iterates, IsArrayOf, Whole, of_its_own, answers, last_heap}
use Rattle.items_laws.specs.Lists.{alone}
use Rattle.items_laws.specs.Whole.{OverElements}
use Rattle.items_laws.proofs.Answered.{mapped}
use Rattle.items_laws.proofs.Reading.{array_items, array_end, array_heaps}
use Rattle.items_laws.proofs.Small.{from_first}

none_before : (k : ℕ) → k ≡ 0 + k
none_before k = omega arith

-- a call with a list of values, or with one

abbrev with_all : ObjId → List Value → Option (ObjId × List Value)
with_all b args = Some (b, args)

abbrev with_one : ObjId → Value → Option (ObjId × List Value)
with_one b x = Some (b, x ∷ [])

pub singly : (xs : List Value) (b : ObjId) → map (with_all b) (alone xs) ≡ map (with_one b) xs
singly [] b = refl
singly (x ∷ xs) b = ap (λ (cs : List (Option (ObjId × List Value))). with_one b x ∷ cs) (singly xs b)

over_elements : (held : Held) (a b : ObjId) (ts : List Turn) (Result : Held → List Value → Type 0)
    → length ts < 2 ^ 64 → Iterates next held (source.Elements a 0) b Whole alone ts Result
    → OverElements held a b ts Result
over_elements held a b ts Result less i =
    let v = i.visits in
    let within = from_first (length ts) less in
    record {
      begun = i.begun;
      same = i.same;
      items = v.items;
      read = array_items i.begun a 0 ts v.items within v.handed;
      called = v.called ∙ singly v.items b;
      heaps = array_heaps i.begun a 0 ts v.items v.handed;
      over = ap (λ (k : ℕ). slice_get (elements_at (last_heap i.begun ts).store.objects a) k) (none_before (length ts))
          ∙ sym (array_end i.begun a 0 ts v.items within v.handed) ∙ v.ended;
      result = v.result;
    }

pub array_mapped : (held after : Held) (recv v : Value) (a b : ObjId) (ts : List Turn) → length ts < 2 ^ 64
    → an_array held.store.objects recv ≡ Some a
    → Gives (row.Items (items_row.Visits task.Map)) held recv [] (Some b) ts v after
    → OverElements held a b ts (λ h items. IsArrayOf h (answers ts) v after)
array_mapped held after recv v a b ts less array run =
    over_elements held a b ts (λ h items. IsArrayOf h (answers ts) v after) less
    (mapped held after recv v (source.Elements a 0) b ts
    (of_its_own run (ap (λ (o : Option ObjId). of_array held.store recv false o) array)))
