-- What an Array of a heap holds once it is changed.
use Rattle.std.proofs.Common.{◌≡◌, ℕ, zero, suc, ◌<◌, ◌+◌, refl, sym, ap, subst, ◌∙◌, List, [], ◌∷◌, ◌++◌, length, take, drop}
use Rattle.std.specs.Prelude.{slice_set, nat_lt, Bool, true, false, ◌&&◌, if◌then◌else◌, Some}
use Rattle.std.proofs.lemmas.Bool.{lt-ltb, ltb-true, ltb-false}
use Rattle.std.proofs.lemmas.List.{get_or-set_same, get_or_past}
use Rattle.rb_value.specs.declared.value.Value.{Value}
use Rattle.rb_value.specs.declared.value.Value.TheVariants.{Nil, True, False, Int, Sym, Obj}
use Rattle.rb_value.specs.declared.value.ObjId.{ObjId}
use Rattle.rb_value.specs.declared.kind.Kind.{Kind}
use Rattle.rb_value.specs.declared.kind.Kind.TheVariants as kind
use Rattle.rb_value.specs.Object.{Object}
use Rattle.rb_value.specs.Sort.{sort_of}
use Rattle.def_core.specs.Bind.{elements_of}
use Rattle.def_core.specs.Parts as parts
use Rattle.def_core.specs.Store.{Store, absent, object_at}
use Rattle.def_calls.specs.Views.{an_array, if_there}
use Rattle.rb_store.specs.Held.{Held, one_more}
use Rattle.heap.specs.Changes.{pushed, with_element, with_elements, with_objects}
use Rattle.heap.specs.Operands.{has, has_all, own, is_array}
use Rattle.core_iter.specs.Visiting.{deleted, without}
use Rattle.items_laws.proofs.Small.{some_same}

abbrev pub kind_at : Held → ObjId → Kind
kind_at held a = (object_at held.store.objects a).kind

-- an Array of these elements is there
abbrev pub Holds : Held → ObjId → List Value → Type 0
Holds held a xs = kind_at held a ≡ kind.Array xs

pub elements_are : (held : Held) (a : ObjId) (xs : List Value) → Holds held a xs
    → parts.elements_at held.store.objects a ≡ xs
elements_are held a xs e = ap parts.elements_in e

-- what is an Array

pub record OfArray (k : Kind) : Type 0 where
  pub elements : List Value
  pub is : k ≡ kind.Array elements

array_kind : (k : Kind) (i a : ObjId) → if_there (elements_of k) (Obj i) ≡ Some a → OfArray k × (i ≡ a)
array_kind kind.Plain i a e = absurd (cc)
array_kind (kind.Class c) i a e = absurd (cc)
array_kind (kind.String s) i a e = absurd (cc)
array_kind (kind.Array xs) i a e = (record { elements = xs; is = refl }, some_same i a e)
array_kind (kind.Hash h) i a e = absurd (cc)
array_kind (kind.Range r) i a e = absurd (cc)
array_kind (kind.Proc p) i a e = absurd (cc)
array_kind (kind.CoreProc r k) i a e = absurd (cc)
array_kind (kind.Fiber b c) i a e = absurd (cc)
array_kind (kind.Exception m d) i a e = absurd (cc)
array_kind (kind.Enumerator s) i a e = absurd (cc)
array_kind (kind.Yielder b) i a e = absurd (cc)

pub array_there : (objects : List Object) (recv : Value) (a : ObjId) → an_array objects recv ≡ Some a
    → OfArray (object_at objects a).kind
array_there objects Nil a e = absurd (cc)
array_there objects True a e = absurd (cc)
array_there objects False a e = absurd (cc)
array_there objects (Int n) a e = absurd (cc)
array_there objects (Sym s) a e = absurd (cc)
array_there objects (Obj i) a e =
    let k = array_kind (object_at objects i).kind i a e in
    subst (λ (j : ObjId). OfArray (object_at objects j).kind) k.1 k.0

-- The object is there.

in_range : (objects : List Object) (a : ObjId) (k : Kind) (c : Bool) → (kind.Plain ≡ k → ⊥)
    → nat_lt a.0 (length objects) ≡ c → (object_at objects a).kind ≡ k → a.0 < length objects
in_range objects a k true other less e = ltb-true a.0 (length objects) less
in_range objects a k false other less e = absurd (other
    (sym (ap (λ (o : Object). o.kind) (get_or_past objects a.0 absent (ltb-false a.0 (length objects) less))) ∙ e))

pub set_there : (objects : List Object) (a : ObjId) (k was : Kind) → (kind.Plain ≡ was → ⊥)
    → (object_at objects a).kind ≡ was → (object_at (parts.with_kind objects a k) a).kind ≡ k
set_there objects a k was other e = ap (λ (o : Object). o.kind)
    (get_or-set_same objects a.0 (record (object_at objects a) { kind = k }) absent
    (in_range objects a was (nat_lt a.0 (length objects)) other refl e))

no_array : (xs : List Value) → kind.Plain ≡ kind.Array xs → ⊥
no_array xs e = cc

-- with other elements

abbrev pub changed_if : Held → List Object → Bool → Held
changed_if held objects c = if c then with_objects held objects else held

array_sort : (held : Held) (a : ObjId) (xs : List Value) → Holds held a xs → is_array (sort_of (kind_at held a)) ≡ true
array_sort held a xs e = ap (λ (k : Kind). is_array (sort_of k)) e

holds_others : (held : Held) (a : ObjId) (xs ys : List Value) (c : Bool) → c ≡ true → Holds held a xs
    → Holds (changed_if held (parts.with_elements held.store.objects a ys) c) a ys
holds_others held a xs ys c met e =
    ap (λ (b : Bool). kind_at (changed_if held (parts.with_elements held.store.objects a ys) b) a) met
    ∙ set_there held.store.objects a (kind.Array ys) (kind.Array xs) (no_array xs) e

pub holds_one_more : (held : Held) (a : ObjId) (xs : List Value) (v : Value) → Holds held a xs
    → Holds (pushed held a v) a (xs ++ own held.store v ∷ [])
holds_one_more held a xs v e =
    let all : List Value → List Value = λ ys. ys ++ own held.store v ∷ [] in
    holds_others held a xs (all (parts.elements_at held.store.objects a)) (is_array (sort_of (kind_at held a)))
    (array_sort held a xs e) e
    ∙ ap (λ (ys : List Value). kind.Array (all ys)) (elements_are held a xs e)

pub holds_another : (held : Held) (a : ObjId) (xs : List Value) (n : ℕ) (v : Value) → n < length xs → Holds held a xs
    → Holds (with_element held a n v) a (slice_set xs n (own held.store v))
holds_another held a xs n v less e =
    let same = elements_are held a xs e in
    let within : nat_lt n (length (parts.elements_at held.store.objects a)) ≡ true =
    ap (λ (ys : List Value). nat_lt n (length ys)) same ∙ lt-ltb n (length xs) less in
    holds_others held a xs (slice_set (parts.elements_at held.store.objects a) n (own held.store v))
    (nat_lt n (length (parts.elements_at held.store.objects a))) within e
    ∙ ap (λ (ys : List Value). kind.Array (slice_set ys n (own held.store v))) same

abbrev owned_if : Held → ObjId → List Value → Bool → Held
owned_if held a ys c =
    if c then changed_if held (parts.with_elements held.store.objects a ys) (is_array (sort_of (kind_at held a))) else held

pub holds_these : (held : Held) (a : ObjId) (xs ys : List Value) → has_all held.store ys ≡ true → Holds held a xs
    → Holds (with_elements held a ys) a ys
holds_these held a xs ys all e =
    ap (λ (c : Bool). kind_at (owned_if held a ys c) a) all
    ∙ holds_others held a xs ys (is_array (sort_of (kind_at held a))) (array_sort held a xs e) e

pub holds_none : (held : Held) (a : ObjId) (xs : List Value) → Holds held a xs → Holds (with_elements held a []) a []
holds_none held a xs e =
    holds_others held a xs [] (is_array (sort_of (kind_at held a))) (array_sort held a xs e) e

-- without one of them, where the heap has them all

and_first : (a b : Bool) → (a && b) ≡ true → a ≡ true
and_first true b e = refl
and_first false b e = e

and_second : (a b : Bool) → (a && b) ≡ true → b ≡ true
and_second true b e = e
and_second false b e = absurd (cc)

has_both : (st : Store) (v : Value) (vs : List Value) → has st v ≡ true → has_all st vs ≡ true
    → has_all st (v ∷ vs) ≡ true
has_both st v vs one all = ap (λ (c : Bool). c && has_all st vs) one ∙ all

has_front : (st : Store) (n : ℕ) (vs us : List Value) → has_all st vs ≡ true → has_all st us ≡ true
    → has_all st (take n vs ++ us) ≡ true
has_front st zero vs us all others = others
has_front st (suc n) [] us all others = others
has_front st (suc n) (v ∷ vs) us all others = has_both st v (take n vs ++ us) (and_first (has st v) (has_all st vs) all)
    (has_front st n vs us (and_second (has st v) (has_all st vs) all) others)

has_rest : (st : Store) (n : ℕ) (vs : List Value) → has_all st vs ≡ true → has_all st (drop n vs) ≡ true
has_rest st zero vs all = all
has_rest st (suc n) [] all = all
has_rest st (suc n) (v ∷ vs) all = has_rest st n vs (and_second (has st v) (has_all st vs) all)

abbrev emptied_if : Held → ObjId → List Value → Bool → Held
emptied_if held a ys c = if c then with_elements held a ys else held

pub holds_without : (held : Held) (a : ObjId) (xs : List Value) (n : ℕ) → n < length xs → one_more n ≡ n + 1
    → has_all held.store xs ≡ true → Holds held a xs → Holds (deleted held a n) a (take n xs ++ drop (n + 1) xs)
holds_without held a xs n less one all e =
    let same = elements_are held a xs e in
    let at = parts.elements_at held.store.objects a in
    let left : without n at ≡ take n xs ++ drop (n + 1) xs = ap (λ (ys : List Value). without n ys) same
    ∙ ap (λ (m : ℕ). take n xs ++ drop m xs) one in
    let within : nat_lt n (length at) ≡ true = ap (λ (ys : List Value). nat_lt n (length ys)) same ∙ lt-ltb n (length xs) less in
    let has : has_all held.store (without n at) ≡ true = ap (λ (ys : List Value). has_all held.store ys) left
    ∙ has_front held.store n xs (drop (n + 1) xs) all (has_rest held.store (n + 1) xs all) in
    ap (λ (c : Bool). kind_at (emptied_if held a (without n at) c) a) within
    ∙ ap (λ (c : Bool). kind_at (owned_if held a (without n at) c) a) has
    ∙ holds_others held a xs (without n at) (is_array (sort_of (kind_at held a))) (array_sort held a xs e) e
    ∙ ap (λ (ys : List Value). kind.Array ys) left
