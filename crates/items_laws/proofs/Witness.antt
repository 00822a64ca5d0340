-- A run of `map` over an Array of one element.
use Rattle.std.proofs.Common.{◌≡◌, refl, sym, ap, subst, List, [], ◌∷◌}
use Rattle.std.specs.Prelude.{slice_get, false, Option, Some}
use Rattle.rb_value.specs.declared.value.Value.{Value}
use Rattle.rb_value.specs.declared.value.ObjId.{ObjId}
use Rattle.def_core.specs.Parts.{elements_at}
use Rattle.def_calls.specs.Views.{an_array}
use Rattle.rb_store.specs.Held.{Held}
use Rattle.heap.specs.Made.{array_given, with_array}
use Rattle.core_calls.specs.declared.beat.Passed.TheVariants.{One}
use Rattle.def_plans.specs.Plan.{gives}
use Rattle.iter_items.specs.declared.row.Task.TheVariants as task
use Rattle.iter_items.specs.declared.source.Source.TheVariants as source
use Rattle.iter_items.specs.declared.visit.Visit.{Visit}
use Rattle.iter_items.specs.declared.wish.Wish.{Wish}
use Rattle.iter_items.specs.declared.wish.Wish.TheVariants as wish
use Rattle.iter_items.specs.Asking.{Wished, begun, with_item}
use Rattle.iter_items.specs.Checks.{given}
use Rattle.iter_items.specs.Driving as driving
use Rattle.iter_items.specs.Driving.{WantsOf, stops, Begins, begins, goes}
use Rattle.iter_items.specs.Hearing.{keeping}
use Rattle.iter_items.specs.Moved.{as_moved, moves}
use Rattle.iter_items.specs.Rows as over_rows
use Rattle.iter_items.specs.Sources.{of_array}
use Rattle.iter_items.specs.Stage as over_items
use Rattle.core_iter.specs.Stage.{items}
use Rattle.items_laws.specs.Items.{IsRunOf, of_its_own}
use Rattle.items_laws.specs.Cut.{IsLeft, left_itself}
use Rattle.items_laws.specs.Example as example

-- the visit at its beginning, at the element, and with the answer

abbrev first_visit : Value → ObjId → ObjId → Visit
first_visit recv a b = begun task.Map recv (source.Elements a 0) (Some b)

abbrev at_element : Value → ObjId → ObjId → Value → Visit
at_element recv a b x = example.at_element recv a b x

-- what comes next where that stands at the place, or nothing

abbrev wanted_by : Held → Visit → ObjId → Option Value → Wished
wanted_by held v a o = with_item held (record v { source = source.Elements a 1 }) o

asks_first : (held : Held) (recv x : Value) (a b : ObjId) → elements_at held.store.objects a ≡ x ∷ []
    → Begins held (first_visit recv a b) (example.asked held recv a b x)
asks_first held recv x a b there =
    let call : Wish = wish.Calls (record { callee = b; passed = One x }) in
    let wants = subst (λ (o : Option Value).
    WantsOf (wanted_by held (first_visit recv a b) a o) call (at_element recv a b x) held)
    (sym (ap (λ (xs : List Value). slice_get xs 0) there)) refl in
    begins held held (first_visit recv a b) (at_element recv a b x) call (example.asked held recv a b x) wants
    (stops held (at_element recv a b x) (at_element recv a b x).site call)

abbrev answered : Value → ObjId → ObjId → Value → Value → Visit
answered recv a b x y = keeping (at_element recv a b x) (y ∷ [])

abbrev at_the_end : Value → ObjId → ObjId → Value → Value → Visit
at_the_end recv a b x y = record (answered recv a b x y) { source = source.Elements a 2; kept = [] }

abbrev end_by : Held → Value → ObjId → ObjId → Value → Value → Option Value → Wished
end_by held recv a b x y o = with_item held (record (answered recv a b x y) { source = source.Elements a 2 }) o

ends_then : (held : Held) (recv x y : Value) (a b : ObjId) → elements_at held.store.objects a ≡ x ∷ []
    → driving.GoesOn held (at_element recv a b x) y (gives (with_array held (y ∷ [])) (array_given held.store (y ∷ [])))
ends_then held recv x y a b there =
    let r = array_given held.store (y ∷ []) in
    let after = with_array held (y ∷ []) in
    let wants = subst (λ (o : Option Value).
    WantsOf (end_by held recv a b x y o) (wish.Ends r) (at_the_end recv a b x y) after)
    (sym (ap (λ (xs : List Value). slice_get xs 1) there)) refl in
    goes held after (at_element recv a b x) (at_the_end recv a b x y) y (wish.Ends r) (gives after r) wants
    (stops after (at_the_end recv a b x y) (at_the_end recv a b x y).site (wish.Ends r))

starts_so : (held : Held) (recv x : Value) (a b : ObjId) → an_array held.store.objects recv ≡ Some a
    → elements_at held.store.objects a ≡ x ∷ []
    → over_rows.StartsVisit held task.Map recv [] (Some b) (example.asked held recv a b x)
starts_so held recv x a b array there = over_rows.starts held (example.asked held recv a b x) refl
    (subst (λ (o : Option ObjId). over_rows.ByArguments held task.Map recv (of_array held.store recv false o)
    (given task.Map held [] (Some b)).arguments (Some b) (example.asked held recv a b x)) (sym array)
    (asks_first held recv x a b there))

pub a_run : (held : Held) (recv x y : Value) (a b : ObjId) → an_array held.store.objects recv ≡ Some a
    → elements_at held.store.objects a ≡ x ∷ []
    → IsRunOf task.Map held recv (source.Elements a 0) [] b (example.turn held recv a b x y ∷ [])
    (array_given held.store (y ∷ [])) (with_array held (y ∷ []))
a_run held recv x y a b array there = of_its_own (record {
  first = as_moved items (example.asked held recv a b x);
  starts = moves (example.asked held recv a b x) (starts_so held recv x a b array there);
  runs = (
    refl,
    record {
      stage = items (over_items.visits (at_element recv a b x));
      next = gives (with_array held (y ∷ [])) (array_given held.store (y ∷ []));
      waits = refl;
      follows = moves (gives (with_array held (y ∷ [])) (array_given held.store (y ∷ [])))
          (ends_then held recv x y a b there);
      further = refl;
    },
  );
}) (ap (λ (o : Option ObjId). of_array held.store recv false o) array)

-- the same where the block doesn't answer
pub a_left_run : (held : Held) (recv x y : Value) (a b : ObjId) → an_array held.store.objects recv ≡ Some a
    → elements_at held.store.objects a ≡ x ∷ []
    → IsLeft task.Map held recv (source.Elements a 0) [] b [] (example.turn held recv a b x y).wanted
a_left_run held recv x y a b array there = left_itself (as_moved items (example.asked held recv a b x))
    (items (over_items.visits (at_element recv a b x)))
    (moves (example.asked held recv a b x) (starts_so held recv x a b array there))
    (ap (λ (o : Option ObjId). of_array held.store recv false o) array) refl refl
