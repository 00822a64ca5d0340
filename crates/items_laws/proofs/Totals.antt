-- `sum` of Integers.
use Rattle.std.proofs.Common.{◌≡◌, ℕ, zero, suc, ◌<◌, ◌+◌, ◌^◌, refl, sym, ap, subst, ◌∙◌, List, [], ◌∷◌, ◌++◌, length, drop, arith}
use Rattle.std.specs.Prelude.{ℤ, pos, ◌+ℤ◌, map, slice_get, false, Option, Some, None}
use Rattle.std.proofs.lemmas.Option.{slice_get_within}
use Rattle.rb_value.specs.declared.value.Value.{Value}
use Rattle.rb_value.specs.declared.value.Value.TheVariants.{Int}
use Rattle.rb_value.specs.declared.value.ObjId.{ObjId}
use Rattle.rb_value.specs.declared.value.SymId.{SymId}
use Rattle.def_core.specs.Parts.{elements_at}
use Rattle.def_core.specs.Store.{Store}
use Rattle.def_calls.specs.Views.{an_array}
use Rattle.rb_store.specs.Held.{Held}
use Rattle.run_values.specs.declared.given.Given.TheVariants as given
use Rattle.iter_comparing.specs.Outright.{outright}
use Rattle.iter_items.specs.declared.row.ItemsRow.TheVariants as items_row
use Rattle.iter_items.specs.declared.row.Task.TheVariants as task
use Rattle.iter_items.specs.declared.source.Source.{Source}
use Rattle.iter_items.specs.declared.source.Source.TheVariants as source
use Rattle.iter_items.specs.Sources.{next, of_array}
use Rattle.run_rows.specs.declared.row.StarRow.TheVariants as row
use Rattle.items_laws.specs.Run.{Turn, Gives}
use Rattle.items_laws.specs.Items.{of_its_own}
use Rattle.items_laws.specs.Sums.{Told, Added, Sums, at_once, when_asked, itself, no_item, one_item, plus, with_plus, total, AddsIntegers}
use Rattle.items_laws.proofs.Pairs.{behind_one, none_behind}
use Rattle.items_laws.proofs.Reading.{counted}
use Rattle.items_laws.proofs.Small.{not_cons}
use Rattle.items_laws.proofs.Summed.{items_added}

-- the items of an Array of Integers

record IntegerAt (zs : List ℤ) (n : ℕ) (x : Value) : Type 0 where
  number : ℤ
  there : slice_get zs n ≡ Some number
  is : x ≡ Int number

integer_at : (zs : List ℤ) (n : ℕ) (x : Value) → slice_get (map (λ z. Int z) zs) n ≡ Some x → IntegerAt zs n x
integer_at [] n x there = absurd (cc)
integer_at (z ∷ zs) zero x there = record { number = z; there = refl; is = cc }
integer_at (z ∷ zs) (suc n) x there =
    let i = integer_at zs n x there in record { number = i.number; there = i.there; is = i.is }

no_integer : (zs : List ℤ) (n : ℕ) → slice_get (map (λ z. Int z) zs) n ≡ None → slice_get zs n ≡ None
no_integer [] n none = refl
no_integer (z ∷ zs) zero none = absurd (cc)
no_integer (z ∷ zs) (suc n) none = no_integer zs n none

-- runs without turns

first_none : (us ws : List Turn) → (us ++ ws) ≡ [] → us ≡ []
first_none [] ws e = refl
first_none (u ∷ us) ws e = absurd (cc)

rest_none : (us ws : List Turn) → (us ++ ws) ≡ [] → ws ≡ []
rest_none [] ws e = e
rest_none (u ∷ us) ws e = absurd (cc)

record Adds (st : Store) (x y : ℤ) (sum : Value) (left : Held) : Type 0 where
  total_is : sum ≡ Int (x +ℤ y)
  same : left.store ≡ st

told_at_once : (name : SymId) (st : Store) (held left : Held) (x y : ℤ) (v u sum : Value) (ws : List Turn)
    → AddsIntegers st name → held.store ≡ st → v ≡ Int x → u ≡ Int y → ws ≡ [] → Told name held v u ws sum left
    → Adds st x y sum left
told_at_once name st held left x y v u sum ws adds same is_x is_y none (at_once k w is) =
    let e = subst (λ (a : Value). outright st a name (Int y ∷ []) ≡ (Some (given.Gives w), k.store)) is_x
    (subst (λ (a : Value). outright st v name (a ∷ []) ≡ (Some (given.Gives w), k.store)) is_y
    (subst (λ (s : Store). outright s v name (u ∷ []) ≡ (Some (given.Gives w), k.store)) same is)) in
    let a = adds x y w k.store e in
    record { total_is = a.0; same = a.1 }
told_at_once name st held left x y v u sum ws adds same is_x is_y none (when_asked t asked message) =
    absurd (not_cons t [] none)

-- the items from a place on

read_item : (st : Store) (a : ObjId) (zs : List ℤ) (n : ℕ) (held : Held) (s : Source) (o : Option Value)
    → elements_at st.objects a ≡ map (λ z. Int z) zs → held.store ≡ st → s ≡ source.Elements a n
    → (next held s).item ≡ o → slice_get (map (λ z. Int z) zs) n ≡ o
read_item st a zs n held s o elements same is e =
    sym (ap (λ (xs : List Value). slice_get xs n) elements)
    ∙ sym (ap (λ (t : Store). slice_get (elements_at t.objects a) n) same)
    ∙ sym (ap (λ (y : Source). (next held y).item) is) ∙ e

all_added : (zs : List ℤ) (n : ℕ) (z : ℤ) → slice_get (map (λ z. Int z) zs) n ≡ None → total z (drop n zs) ≡ z
all_added zs n z none = ap (λ (ns : List ℤ). total z ns) (none_behind zs n (no_integer zs n none))

one_added : (zs : List ℤ) (n : ℕ) (z y : ℤ) → slice_get zs n ≡ Some y
    → total (z +ℤ y) (drop (n + 1) zs) ≡ total z (drop n zs)
one_added zs n z y there = ap (λ (m : ℕ). total (z +ℤ y) (drop m zs)) (suc_is n)
    ∙ ap (λ (ns : List ℤ). total z ns) (sym (behind_one zs n y there))
  where
    suc_is : (n : ℕ) → n + 1 ≡ suc n
    suc_is n = omega arith

within_bound : (n : ℕ) (zs : List ℤ) → n < length zs → length zs < 2 ^ 63 → n + 1 < 2 ^ 64
within_bound n zs less few = omega (arith, less, few)

-- what was added without a block is the item
added_itself : (held k : Held) (x y : Value) (us : List Turn) → Added held x None us y k → (y ≡ x) × (k ≡ held)
added_itself held k x y us itself = (refl, refl)

summed_up : (name : SymId) (st : Store) (a : ObjId) (zs : List ℤ) → AddsIntegers st name
    → elements_at st.objects a ≡ map (λ z. Int z) zs → length zs < 2 ^ 63
    → (n : ℕ) (z : ℤ) (held : Held) (s : Source) (x : Value) (ts : List Turn) (v : Value) (after : Held)
    → held.store ≡ st → s ≡ source.Elements a n → x ≡ Int z → ts ≡ [] → Sums name None held s x ts v after
    → v ≡ Int (total z (drop n zs))
summed_up name st a zs adds elements few n z held s x ts v after same is sum none (no_item k t so_far over) =
    sum ∙ ap (λ (y : ℤ). Int y)
    (sym (all_added zs n z (read_item st a zs n k t None elements same is over)))
summed_up name st a zs adds elements few n z held s x ts v after same is sum none
    (one_item k m l left t so_far i y added_up r us ws vs there added told rest) =
    let item = integer_at zs n i (read_item st a zs n k t (Some i) elements same is there) in
    let one = counted n (within_bound n zs (slice_get_within zs n item.number item.there) few) in
    let own = added_itself (next k t).held m i y us added in
    let at_item : (next k t).held.store ≡ st = ap (λ (u : Source). (next k u).held.store) is ∙ same in
    let a_sum = told_at_once name st m l z item.number so_far y added_up ws adds
    (ap (λ (h : Held). h.store) own.1 ∙ at_item) sum (own.0 ∙ item.is)
    (first_none ws vs (rest_none us (ws ++ vs) none)) told in
    summed_up name st a zs adds elements few (n + 1) (z +ℤ item.number) l (next k t).source added_up vs r left a_sum.same
    (ap (λ (u : Source). (next k u).source) is ∙ ap (λ (p : ℕ). source.Elements a p) one) a_sum.total_is
    (rest_none ws vs (rest_none us (ws ++ vs) none)) rest
    ∙ ap (λ (q : ℤ). Int q) (one_added zs n z item.number item.there)

pub integers_added : (held after : Held) (recv v : Value) (a : ObjId) (zs : List ℤ) → length zs < 2 ^ 63
    → an_array (with_plus held).store.objects recv ≡ Some a
    → elements_at (with_plus held).store.objects a ≡ map (λ z. Int z) zs
    → AddsIntegers (with_plus held).store (plus held)
    → Gives (row.Items (items_row.Visits task.Sum)) held recv [] None [] v after → v ≡ Int (total (pos 0) zs)
integers_added held after recv v a zs few array elements adds run =
    let k = items_added held after recv v (source.Elements a 0) [] (of_its_own run
    (ap (λ (o : Option ObjId). of_array (with_plus held).store recv false o) array)) in
    summed_up (plus held) (with_plus held).store a zs adds elements few 0 (pos 0) k.begun (source.Elements a 0)
    (Int (pos 0)) [] v after k.same refl refl refl k.sums
