-- `delete_if` of an Array that the program leaves alone.
use Rattle.std.proofs.Common.{◌≡◌, ℕ, suc, ◌<◌, ◌≤◌, ◌+◌, ◌^◌, refl, sym, ap, subst, ◌∙◌, List, [], ◌∷◌, ◌++◌, append_assoc, append-nil, length, take, drop, arith}
use Rattle.std.specs.Prelude.{map, slice_get, not, Bool, true, false, if◌then◌else◌, Some, None}
use Rattle.std.proofs.lemmas.List.{drop_at, length-take-le, take_at, take_all, take_more}
use Rattle.std.proofs.lemmas.Option.{slice_get_within, get_or_from_slice_get}
use Rattle.rb_value.specs.declared.value.Value.{Value}
use Rattle.rb_value.specs.declared.value.ObjId.{ObjId}
use Rattle.rb_value.specs.Value.{is_true}
use Rattle.def_core.specs.Parts.{elements_at}
use Rattle.def_calls.specs.Views.{an_array}
use Rattle.rb_store.specs.Held.{Held}
use Rattle.heap.specs.Operands.{has_all}
use Rattle.run_rows.specs.declared.row.StarRow.TheVariants as row
use Rattle.run_rows.specs.declared.row.VisitRow.TheVariants as visit
use Rattle.items_laws.specs.Changed.{without_if, place_behind, thinned_from, elements_come_to, last_place, LeftAlone, HasElements}
use Rattle.items_laws.specs.Lists.{picked, is_untrue}
use Rattle.items_laws.specs.Run.{Turn, Gives}
use Rattle.items_laws.specs.Items.{answers, calls_of, last_heap}
use Rattle.items_laws.specs.Read.{heaps_before}
use Rattle.items_laws.proofs.Alone.{head_same, rest_same, still_holds, later_alone, suc_is}
use Rattle.items_laws.proofs.Held.{Holds, elements_are, array_there, holds_without}
use Rattle.items_laws.proofs.Pairs.{behind_one, none_left, none_behind}
use Rattle.items_laws.proofs.Reading.{counted}
use Rattle.items_laws.proofs.Small.{from_first}
use Rattle.items_laws.proofs.Thinned.{elements_thinned}

-- the elements behind an answer
abbrev less_one : Bool → ℕ → List Value → List Value
less_one c n xs = if c then take n xs ++ drop (n + 1) xs else xs

abbrev Thinned : ObjId → ℕ → List Turn → Held → List Value → List Value → Type 0
Thinned a n ts held items xs = (items ≡ drop n xs)
    × (elements_at (last_heap held (thinned_from a n ts)).store.objects a
    ≡ take n xs ++ picked is_untrue (drop n xs) (answers ts))

all_thinned : (a : ObjId) (n : ℕ) (held : Held) (xs : List Value) → Holds held a xs
    → slice_get (elements_at held.store.objects a) n ≡ None → Thinned a n [] held [] xs
all_thinned a n held xs e over =
    let same = elements_are held a xs e in
    let none = subst (λ (ys : List Value). slice_get ys n ≡ None) same over in
    let behind = none_behind xs n none in (
      sym behind,
      same ∙ sym (ap (λ (ys : List Value). take n xs ++ picked is_untrue ys []) behind
          ∙ append-nil (take n xs) ∙ take_all n xs (none_left xs n none)),
    )

-- what an answer leaves of the elements

at_most : (n k : ℕ) → n < k → n ≤ k
at_most n k less = omega (arith, less)

left_behind : (n : ℕ) (xs : List Value) (c : Bool) → n < length xs
    → drop (place_behind c n) (less_one c n xs) ≡ drop (n + 1) xs
left_behind n xs true less =
    drop_at (take n xs) (drop (n + 1) xs) n (length-take-le n xs (at_most n (length xs) less))
left_behind n xs false less = refl

first_kept : (n : ℕ) (xs : List Value) (x : Value) → n < length xs → slice_get xs n ≡ Some x
    → take (n + 1) xs ≡ take n xs ++ x ∷ []
first_kept n xs x less there = take_more xs n x less
    ∙ ap (λ (y : Value). take n xs ++ y ∷ []) (get_or_from_slice_get xs n x x there)

abbrev picked_if : Bool → Value → List Value → List Value
picked_if c x ys = if not c then x ∷ ys else ys

kept_before : (n : ℕ) (xs ys : List Value) (x : Value) (c : Bool) → n < length xs → slice_get xs n ≡ Some x
    → take (place_behind c n) (less_one c n xs) ++ ys ≡ take n xs ++ picked_if c x ys
kept_before n xs ys x true less there = ap (λ (zs : List Value). zs ++ ys)
    (take_at (take n xs) (drop (n + 1) xs) n (length-take-le n xs (at_most n (length xs) less)))
kept_before n xs ys x false less there =
    ap (λ (zs : List Value). zs ++ ys) (first_kept n xs x less there) ∙ append_assoc (take n xs) (x ∷ []) ys

one_thinned : (a : ObjId) (n : ℕ) (t : Turn) (ts : List Turn) (held : Held) (x : Value) (items xs : List Value)
    → n < length xs → slice_get xs n ≡ Some x
    → Thinned a (place_behind (is_true t.answer) n) ts (without_if (is_true t.answer) t.held a n) items
    (less_one (is_true t.answer) n xs)
    → Thinned a n (t ∷ ts) held (x ∷ items) xs
one_thinned a n t ts held x items xs less there rest =
    let c = is_true t.answer in
    let behind : drop n xs ≡ x ∷ drop (n + 1) xs = behind_one xs n x there
    ∙ ap (λ (m : ℕ). x ∷ drop m xs) (sym (suc_is n)) in
    let left = left_behind n xs c less in (
      ap (λ (ys : List Value). x ∷ ys) (rest.0 ∙ left) ∙ sym behind,
      rest.1 ∙ ap (λ (ys : List Value). take (place_behind c n) (less_one c n xs) ++ picked is_untrue ys (answers ts)) left
          ∙ kept_before n xs (picked is_untrue (drop (n + 1) xs) (answers ts)) x c less there
          ∙ ap (λ (ys : List Value). take n xs ++ picked is_untrue ys (t.answer ∷ answers ts)) (sym behind),
    )

holds_behind : (a : ObjId) (n : ℕ) (held : Held) (xs : List Value) (c : Bool) → n < length xs
    → n + 1 < 2 ^ 64 → has_all held.store xs ≡ true → Holds held a xs
    → Holds (without_if c held a n) a (less_one c n xs)
holds_behind a n held xs true less most all e = holds_without held a xs n less (counted n most) all e
holds_behind a n held xs false less most all e = e

still_less : (n k : ℕ) (c : Bool) → n + suc k < 2 ^ 64 → place_behind c n + k < 2 ^ 64
still_less n k true less = omega (arith, less)
still_less n k false less = omega (arith, less)

one_less : (n k : ℕ) → n + suc k < 2 ^ 64 → n + 1 < 2 ^ 64
one_less n k less = omega (arith, less)

-- the parts of what is said of the elements and the heaps

abbrev has_at : ObjId → Turn → Bool
has_at a t = has_all t.held.store (elements_at t.held.store.objects a)

thinned_alone : (a : ObjId) (n : ℕ) (ts : List Turn) (held : Held) (items xs : List Value) → n + length ts < 2 ^ 64
    → Holds held a xs
    → map Some items ≡ elements_come_to a n (heaps_before held (thinned_from a n ts)) (answers ts)
    → map (λ t. t.wanted.held) ts ≡ heaps_before held (thinned_from a n ts)
    → slice_get (elements_at (last_heap held (thinned_from a n ts)).store.objects a) (last_place n (answers ts)) ≡ None
    → LeftAlone a ts → HasElements a ts → Thinned a n ts held items xs
thinned_alone a n [] held [] xs less e read heaps over alone has = all_thinned a n held xs e over
thinned_alone a n [] held (x ∷ items) xs less e read heaps over alone has = absurd (cc)
thinned_alone a n (t ∷ ts) held [] xs less e read heaps over alone has = absurd (cc)
thinned_alone a n (t ∷ ts) held (x ∷ items) xs less e read heaps over alone has =
    let c = is_true t.answer in
    let k = without_if c t.held a n in
    let us = thinned_from a (place_behind c n) ts in
    let later = elements_come_to a (place_behind c n) (heaps_before k us) (answers ts) in
    let at = slice_get (elements_at held.store.objects a) n in
    let there = subst (λ (ys : List Value). slice_get ys n ≡ Some x) (elements_are held a xs e)
    (sym (head_same (Some x) at (map Some items) later read)) in
    let within = slice_get_within xs n x there in
    let asked = head_same t.wanted.held held (map (λ t. t.wanted.held) ts) (heaps_before k us) heaps in
    let found = still_holds held a xs t ts asked alone e in
    let all = sym (ap (λ (ys : List Value). has_all t.held.store ys) (elements_are t.held a xs found))
    ∙ head_same (has_at a t) true (map (λ t. has_at a t) ts) (map (λ t. true) ts) has in
    one_thinned a n t ts held x items xs within there
    (thinned_alone a (place_behind c n) ts k items (less_one c n xs) (still_less n (length ts) c less)
    (holds_behind a n t.held xs c within (one_less n (length ts) less) all found)
    (rest_same (Some x) at (map Some items) later read)
    (rest_same t.wanted.held held (map (λ t. t.wanted.held) ts) (heaps_before k us) heaps) over (later_alone a t ts alone)
    (rest_same (has_at a t) true (map (λ t. has_at a t) ts) (map (λ t. true) ts) has))

pub delete_alone : (held after : Held) (recv v : Value) (a b : ObjId) (ts : List Turn) → length ts < 2 ^ 64
    → an_array held.store.objects recv ≡ Some a
    → Gives (row.Visit visit.DeleteElements) held recv [] (Some b) ts v after → LeftAlone a ts → HasElements a ts
    → (calls_of ts ≡ map (λ x. Some (b, x ∷ [])) (elements_at held.store.objects a))
    × (elements_at after.store.objects a ≡ picked is_untrue (elements_at held.store.objects a) (answers ts))
delete_alone held after recv v a b ts less there run alone has =
    let k = elements_thinned held after recv v a b ts less there run in
    let array = array_there held.store.objects recv a there in
    let same = sym (elements_are held a array.elements array.is) in
    let r = thinned_alone a 0 ts held k.items array.elements (from_first (length ts) less) array.is k.read k.heaps k.over
    alone has in (
      k.called ∙ ap (λ (xs : List Value). map (λ x. Some (b, x ∷ [])) xs) (r.0 ∙ same),
      ap (λ (h : Held). elements_at h.store.objects a) k.result.left ∙ r.1
          ∙ ap (λ (xs : List Value). picked is_untrue xs (answers ts)) same,
    )
