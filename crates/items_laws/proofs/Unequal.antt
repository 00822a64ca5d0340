-- Arrays and Hashes beside values of other classes.
use Rattle.std.proofs.Common.{◌≡◌, subst, List, [], ◌∷◌}
use Rattle.std.specs.Prelude.{true, false, Option, Some, None}
use Rattle.rb_value.specs.declared.value.Value.{Value}
use Rattle.rb_value.specs.declared.value.Value.TheVariants.{Nil, False}
use Rattle.rb_value.specs.declared.value.ObjId.{ObjId}
use Rattle.rb_value.specs.declared.core_class.CoreClass.TheVariants as class
use Rattle.def_calls.specs.Views.{an_array, a_hash}
use Rattle.rb_store.specs.Held.{Held}
use Rattle.def_plans.specs.Plan.{Planned, gives}
use Rattle.iter_comparing.specs.declared.row.ComparingRow.TheVariants as comparing_row
use Rattle.iter_comparing.specs.Rows as comparing
use Rattle.iter_comparing.specs.Stage as over_values
use Rattle.iter_items.specs.declared.row.ItemsRow.TheVariants as items_row
use Rattle.run_rows.specs.declared.row.StarRow.TheVariants as row
use Rattle.items_laws.specs.Run.{Turn, Runs, Gives}
use Rattle.items_laws.specs.Items.{IsValue}
use Rattle.items_laws.proofs.Course.{given}
use Rattle.items_laws.proofs.Sent.{first_of, lifted}

-- a plan that gives a value at once
pub at_once : (held after : Held) (u v : Value) (ts : List Turn) (p : Planned over_values.Stage) → p ≡ gives held u
    → Runs (lifted p) ts (gives after v) → (ts ≡ []) × IsValue held u v after
at_once held after u v ts p is runs =
    let e = given ts held u v after
    (subst (λ (q : Planned over_values.Stage). Runs (lifted q) ts (gives after v)) is runs) in
    (e.0, record { value = e.1; left = e.2 })

pub other_array : (held after : Held) (recv y v : Value) (a : ObjId) (block : Option ObjId) (ts : List Turn)
    → an_array held.store.objects recv ≡ Some a → an_array held.store.objects y ≡ None
    → Gives (row.Items (items_row.Compares comparing_row.ArrayEquality)) held recv (y ∷ []) block ts v after
    → (ts ≡ []) × IsValue held False v after
other_array held after recv y v a block ts array other run =
    let f = first_of comparing_row.ArrayEquality held recv (y ∷ []) block ts v after run in
    let starts = subst (λ (o : Option ObjId). comparing.Of held class.Array recv o
    (λ x. comparing.ForArray comparing_row.ArrayEquality held x (y ∷ []) f.first) f.first) array f.starts in
    at_once held after False v ts f.first
    (subst (λ (o : Option ObjId). comparing.PairsWith held a false o f.first) other starts) f.runs

pub unordered_array : (held after : Held) (recv y v : Value) (a : ObjId) (block : Option ObjId) (ts : List Turn)
    → an_array held.store.objects recv ≡ Some a → an_array held.store.objects y ≡ None
    → Gives (row.Items (items_row.Compares comparing_row.ArrayOrder)) held recv (y ∷ []) block ts v after
    → (ts ≡ []) × IsValue held Nil v after
unordered_array held after recv y v a block ts array other run =
    let f = first_of comparing_row.ArrayOrder held recv (y ∷ []) block ts v after run in
    let starts = subst (λ (o : Option ObjId). comparing.Of held class.Array recv o
    (λ x. comparing.ForArray comparing_row.ArrayOrder held x (y ∷ []) f.first) f.first) array f.starts in
    at_once held after Nil v ts f.first
    (subst (λ (o : Option ObjId). comparing.PairsWith held a true o f.first) other starts) f.runs

pub other_hash : (held after : Held) (recv y v : Value) (h : ObjId) (block : Option ObjId) (ts : List Turn)
    → a_hash held.store.objects recv ≡ Some h → a_hash held.store.objects y ≡ None
    → Gives (row.Items (items_row.Compares comparing_row.HashEquality)) held recv (y ∷ []) block ts v after
    → (ts ≡ []) × IsValue held False v after
other_hash held after recv y v h block ts hash other run =
    let f = first_of comparing_row.HashEquality held recv (y ∷ []) block ts v after run in
    let starts = subst (λ (o : Option ObjId). comparing.Of held class.Hash recv o
    (λ x. comparing.ForHash comparing_row.HashEquality held x (y ∷ []) block f.first) f.first) hash f.starts in
    at_once held after False v ts f.first
    (subst (λ (o : Option ObjId). comparing.EqualTo held h o f.first) other starts) f.runs
