-- Arrays that the program leaves alone.
use Rattle.std.proofs.Common.{◌≡◌, ℕ, suc, ◌<◌, ◌+◌, ◌^◌, refl, sym, ap, subst, ◌∙◌, List, [], ◌∷◌, ◌++◌, append_assoc, append-nil, length, take, drop, arith}
use Rattle.std.specs.Prelude.{map, slice_get, slice_set, Option, Some, None, Ok}
use Rattle.std.proofs.lemmas.List.{drop-set-lt, take_more_set, take_all}
use Rattle.std.proofs.lemmas.Option.{slice_get_within}
use Rattle.rb_value.specs.declared.value.Value.{Value}
use Rattle.rb_value.specs.declared.value.ObjId.{ObjId}
use Rattle.def_core.specs.Parts.{elements_at}
use Rattle.def_calls.specs.Views.{an_array}
use Rattle.rb_store.specs.Held.{Held}
use Rattle.heap.specs.Changes.{pushed, with_element, with_elements}
use Rattle.heap.specs.Operands.{own}
use Rattle.iter_items.specs.declared.source.Source.TheVariants as source
use Rattle.iter_items.specs.Sources.{next}
use Rattle.run_rows.specs.declared.row.StarRow.TheVariants as row
use Rattle.run_rows.specs.declared.row.VisitRow.TheVariants as visit
use Rattle.core_iter.specs.Filling.{size_in}
use Rattle.items_laws.specs.Changed.{replaced_from, filled_by, LeftAlone, owned}
use Rattle.items_laws.specs.Run.{Turn, Gives}
use Rattle.items_laws.specs.Items.{Hands, call_of, calls_of, last_heap, left_of}
use Rattle.items_laws.specs.Read.{heaps_before}
use Rattle.items_laws.proofs.Filled.{array_filled}
use Rattle.items_laws.proofs.Held.{kind_at, Holds, elements_are, array_there, holds_one_more, holds_another, holds_none}
use Rattle.items_laws.proofs.Pairs.{behind_one, none_left, none_behind}
use Rattle.items_laws.proofs.Reading.{counted}
use Rattle.items_laws.proofs.Replaced.{elements_replaced}
use Rattle.items_laws.proofs.Small.{from_first}
use Rattle.items_laws.proofs.Whole.{singly}

pub head_same : {A : Type 0} (x y : A) (xs ys : List A) → (x ∷ xs) ≡ (y ∷ ys) → x ≡ y
head_same x y xs ys e = cc

pub rest_same : {A : Type 0} (x y : A) (xs ys : List A) → (x ∷ xs) ≡ (y ∷ ys) → xs ≡ ys
rest_same x y xs ys e = cc

-- what the Array holds when the answer has come

pub still_holds : (held : Held) (a : ObjId) (xs : List Value) (t : Turn) (ts : List Turn) → t.wanted.held ≡ held
    → LeftAlone a (t ∷ ts) → Holds held a xs → Holds t.held a xs
still_holds held a xs t ts asked alone e =
    head_same (kind_at t.held a) (kind_at t.wanted.held a) (map (λ t. kind_at t.held a) ts)
    (map (λ t. kind_at t.wanted.held a) ts) alone ∙ ap (λ (h : Held). kind_at h a) asked ∙ e

pub later_alone : (a : ObjId) (t : Turn) (ts : List Turn) → LeftAlone a (t ∷ ts) → LeftAlone a ts
later_alone a t ts alone = rest_same (kind_at t.held a) (kind_at t.wanted.held a) (map (λ t. kind_at t.held a) ts)
    (map (λ t. kind_at t.wanted.held a) ts) alone

-- `map!`

abbrev Ends : ObjId → ℕ → List Turn → Held → Type 0
Ends a n ts held = (next (last_heap held (replaced_from a n ts))
    (left_of next held (source.Elements a n) (replaced_from a n ts))).item ≡ None

abbrev Replaced : ObjId → ℕ → List Turn → Held → List Value → List Value → Type 0
Replaced a n ts held items xs = (items ≡ drop n xs)
    × (elements_at (last_heap held (replaced_from a n ts)).store.objects a ≡ take n xs ++ owned ts)

all_replaced : (a : ObjId) (n : ℕ) (held : Held) (xs : List Value) → Holds held a xs → Ends a n [] held
    → Replaced a n [] held [] xs
all_replaced a n held xs e over =
    let same = elements_are held a xs e in
    let none = subst (λ (ys : List Value). slice_get ys n ≡ None) same over in (
      sym (none_behind xs n none),
      same ∙ sym (append-nil (take n xs) ∙ take_all n xs (none_left xs n none)),
    )

less_more : (n : ℕ) → n < n + 1
less_more n = omega arith

pub suc_is : (n : ℕ) → n + 1 ≡ suc n
suc_is n = omega arith

one_replaced : (a : ObjId) (n : ℕ) (t : Turn) (ts : List Turn) (held : Held) (x : Value) (items xs : List Value)
    → n < length xs → slice_get xs n ≡ Some x
    → Replaced a (n + 1) ts (with_element t.held a n t.answer) items (slice_set xs n (own t.held.store t.answer))
    → Replaced a n (t ∷ ts) held (x ∷ items) xs
one_replaced a n t ts held x items xs less there rest =
    let v = own t.held.store t.answer in (
      ap (λ (ys : List Value). x ∷ ys) (rest.0 ∙ drop-set-lt (n + 1) xs n v (less_more n))
          ∙ ap (λ (m : ℕ). x ∷ drop m xs) (suc_is n) ∙ sym (behind_one xs n x there),
      rest.1 ∙ ap (λ (ys : List Value). ys ++ owned ts) (take_more_set xs n v less)
          ∙ append_assoc (take n xs) (v ∷ []) (owned ts),
    )

replaced_alone : (a : ObjId) (n : ℕ) (ts : List Turn) (held : Held) (items xs : List Value) → n + length ts < 2 ^ 64
    → Holds held a xs → Hands next held (source.Elements a n) (replaced_from a n ts) items → Ends a n ts held
    → LeftAlone a ts → Replaced a n ts held items xs
replaced_alone a n [] held [] xs less e hands over alone = all_replaced a n held xs e over
replaced_alone a n [] held (x ∷ items) xs less e hands over alone = absurd hands
replaced_alone a n (t ∷ ts) held [] xs less e hands over alone = absurd hands
replaced_alone a n (t ∷ ts) held (x ∷ items) xs less e hands over alone =
    let there = subst (λ (ys : List Value). slice_get ys n ≡ Some x) (elements_are held a xs e) hands.0 in
    let within = slice_get_within xs n x there in
    let one = counted n (omega (arith, less)) in
    let k = with_element t.held a n t.answer in
    let us = replaced_from a (n + 1) ts in
    one_replaced a n t ts held x items xs within there
    (replaced_alone a (n + 1) ts k items (slice_set xs n (own t.held.store t.answer)) (omega (arith, less))
    (holds_another t.held a xs n t.answer within (still_holds held a xs t ts hands.1 alone e))
    (subst (λ (m : ℕ). Hands next k (source.Elements a m) us items) one hands.2)
    (subst (λ (m : ℕ). (next (last_heap k us) (left_of next k (source.Elements a m) us)).item ≡ None) one over)
    (later_alone a t ts alone))

calls_same : (a : ObjId) (n : ℕ) (ts : List Turn) → calls_of (replaced_from a n ts) ≡ calls_of ts
calls_same a n [] = refl
calls_same a n (t ∷ ts) = ap (λ (cs : List (Option (ObjId × List Value))). call_of t.wanted.plan ∷ cs) (calls_same a (n + 1) ts)

pub map_alone : (held after : Held) (recv v : Value) (a b : ObjId) (ts : List Turn) → length ts < 2 ^ 64
    → an_array held.store.objects recv ≡ Some a
    → Gives (row.Visit visit.MapInPlace) held recv [] (Some b) ts v after → LeftAlone a ts
    → (calls_of ts ≡ map (λ x. Some (b, x ∷ [])) (elements_at held.store.objects a))
    × (elements_at after.store.objects a ≡ owned ts)
map_alone held after recv v a b ts less there run alone =
    let k = elements_replaced held after recv v a b ts less there run in
    let array = array_there held.store.objects recv a there in
    let r = replaced_alone a 0 ts held k.items array.elements (from_first (length ts) less) array.is k.handed k.ended
    alone in (
      sym (calls_same a 0 ts) ∙ k.called ∙ singly k.items b
          ∙ ap (λ (xs : List Value). map (λ x. Some (b, x ∷ [])) xs)
          (r.0 ∙ sym (elements_are held a array.elements array.is)),
      ap (λ (h : Held). elements_at h.store.objects a) k.result.left ∙ r.1,
    )

-- A new Array that a block fills.

filled_alone : (a : ObjId) (ts : List Turn) (held : Held) (xs : List Value) → Holds held a xs
    → map (λ t. t.wanted.held) ts ≡ heaps_before held (filled_by a ts) → LeftAlone a ts
    → elements_at (last_heap held (filled_by a ts)).store.objects a ≡ xs ++ owned ts
filled_alone a [] held xs e heaps alone = elements_are held a xs e ∙ sym (append-nil xs)
filled_alone a (t ∷ ts) held xs e heaps alone =
    let k = pushed t.held a t.answer in
    let v = own t.held.store t.answer in
    let later = heaps_before k (filled_by a ts) in
    let asked = head_same t.wanted.held held (map (λ t. t.wanted.held) ts) later heaps in
    filled_alone a ts k (xs ++ v ∷ []) (holds_one_more t.held a xs t.answer (still_holds held a xs t ts asked alone e))
    (rest_same t.wanted.held held (map (λ t. t.wanted.held) ts) later heaps) (later_alone a t ts alone)
    ∙ append_assoc xs (v ∷ []) (owned ts)

pub fill_alone : (held after : Held) (recv size v : Value) (a b : ObjId) (n : ℕ) (ts : List Turn)
    → an_array held.store.objects recv ≡ Some a → size_in held.store size ≡ Ok n
    → Gives (row.Visit visit.InitializeArray) held recv (size ∷ []) (Some b) ts v after → LeftAlone a ts
    → elements_at after.store.objects a ≡ owned ts
fill_alone held after recv size v a b n ts there sized run alone =
    let k = array_filled held after recv size v a b n ts there sized run in
    let array = array_there held.store.objects recv a there in
    ap (λ (h : Held). elements_at h.store.objects a) k.result.left
    ∙ filled_alone a ts (with_elements held a []) [] (holds_none held a array.elements array.is) k.heaps alone
