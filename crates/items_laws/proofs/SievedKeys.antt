-- `-`, `&` and `|` of Arrays of Integers and Strings that have the `==` of their class.
use Rattle.std.proofs.Common.{◌≡◌, refl, sym, ap, subst, ◌∙◌, List, [], ◌∷◌, ◌++◌}
use Rattle.std.specs.Prelude.{codes, not, Bool, true, false, if◌then◌else◌, Option, Some, None, is_some}
use Rattle.std.specs.Map.{lookup}
use Rattle.rb_value.specs.declared.value.Value.{Value}
use Rattle.rb_value.specs.declared.value.ObjId.{ObjId}
use Rattle.rb_value.specs.declared.key.Key.{Key}
use Rattle.rb_value.specs.declared.core_class.CoreClass.TheVariants as class
use Rattle.rb_value.specs.Key.{same_key}
use Rattle.def_core.proofs.Keys.{same_is}
use Rattle.def_core.specs.Store.{Store}
use Rattle.def_calls.specs.Views.{an_array}
use Rattle.heap.specs.Made.{array_given, with_array}
use Rattle.rb_store.specs.Held.{Held}
use Rattle.def_plans.specs.Plan.{Planned, gives}
use Rattle.iter_comparing.specs.declared.row.ComparingRow.TheVariants as comparing_row
use Rattle.iter_comparing.specs.declared.sifting.Sieve.TheVariants as sieve
use Rattle.iter_comparing.specs.Keyed.{firsts, is_seen, key_in, noted, sifted_by, sought}
use Rattle.iter_comparing.specs.Rows as comparing
use Rattle.iter_comparing.specs.Stage as over_values
use Rattle.iter_items.specs.declared.row.ItemsRow.TheVariants as items_row
use Rattle.run_rows.specs.declared.row.StarRow.TheVariants as row
use Rattle.items_laws.specs.Run.{Turn, Runs, Gives}
use Rattle.items_laws.specs.Items.{IsArrayOf}
use Rattle.items_laws.specs.Asked.{with_symbol}
use Rattle.items_laws.specs.Sieved.{IsMadeAtOnce, elements, first_of_each, is_among, own_equality, picked_by_key}
use Rattle.items_laws.proofs.Course.{given}
use Rattle.items_laws.proofs.Sent.{first_of, lifted}
use Rattle.items_laws.proofs.Sieved.{begun_by}

-- A key is found among entries where it is the one that was put in, or was there.

abbrev either : Bool → Bool → Bool
either a b = if a then true else b

one_entry : (x : Value) (c : Bool) → is_some (if c then Some x else None) ≡ either c false
one_entry x true = refl
one_entry x false = refl

-- a value is noted, by whether its key is that of an entry
abbrev found_if : Store → Key → Value → Key × Value → List (Key × Value) → Bool → Bool
found_if st k x e es c = is_some (lookup (same_key k) (if c then (e.0, x) ∷ es else e ∷ noted st es (x ∷ [])))

in_its_place : (x y : Value) (o : Option Value) (c : Bool)
    → is_some (if c then Some x else o) ≡ either c (is_some (if c then Some y else o))
in_its_place x y o true = refl
in_its_place x y o false = refl

at_another : (y : Value) (inner outer : Option Value) (a c : Bool) → is_some inner ≡ either a (is_some outer)
    → is_some (if c then Some y else inner) ≡ either a (is_some (if c then Some y else outer))
at_another y inner outer true true rest = refl
at_another y inner outer false true rest = refl
at_another y inner outer a false rest = rest

found : (st : Store) (k : Key) (x : Value) (es : List (Key × Value))
    → is_some (lookup (same_key k) (noted st es (x ∷ [])))
    ≡ either (same_key k (key_in st x)) (is_some (lookup (same_key k) es))
found st k x [] = one_entry x (same_key k (key_in st x))
found st k x (e ∷ es) = by_entry (same_key (key_in st x) e.0) refl (found st k x es)
  where
    by_entry : (c : Bool) → same_key (key_in st x) e.0 ≡ c
        → is_some (lookup (same_key k) (noted st es (x ∷ [])))
        ≡ either (same_key k (key_in st x)) (is_some (lookup (same_key k) es))
        → found_if st k x e es (same_key (key_in st x) e.0)
        ≡ either (same_key k (key_in st x)) (is_some (lookup (same_key k) (e ∷ es)))
    by_entry true is rest = ap (λ (c : Bool). found_if st k x e es c) is
        ∙ in_its_place x e.1 (lookup (same_key k) es) (same_key k e.0)
        ∙ ap (λ (j : Key). either (same_key k j) (is_some (lookup (same_key k) (e ∷ es))))
        (sym (same_is (key_in st x) e.0 is))
    by_entry false is rest = ap (λ (c : Bool). found_if st k x e es c) is
        ∙ at_another e.1 (lookup (same_key k) (noted st es (x ∷ []))) (lookup (same_key k) es) (same_key k (key_in st x))
        (same_key k e.0) rest

seen_more : (st : Store) (seen : List (Key × Value)) (x v : Value)
    → is_seen st (noted st seen (x ∷ [])) v ≡ either (same_key (key_in st v) (key_in st x)) (is_seen st seen v)
seen_more st seen x v = found st (key_in st v) x seen

-- Values that were noted.

either_way : (a b c : Bool) → either a (either b c) ≡ either (if b then true else a) c
either_way true true c = refl
either_way true false c = refl
either_way false true c = refl
either_way false false c = refl

seen_noted : (st : Store) (others : List Value) (seen : List (Key × Value)) (v : Value)
    → is_seen st (noted st seen others) v ≡ either (is_among st others v) (is_seen st seen v)
seen_noted st [] seen v = refl
seen_noted st (x ∷ xs) seen v = seen_noted st xs (noted st seen (x ∷ [])) v
    ∙ ap (λ (c : Bool). either (is_among st xs v) c) (seen_more st seen x v)
    ∙ either_way (is_among st xs v) (same_key (key_in st v) (key_in st x)) (is_seen st seen v)

or_not : (c : Bool) → either c false ≡ c
or_not true = refl
or_not false = refl

noted_is : (st : Store) (others : List Value) (v : Value) → is_seen st (noted st [] others) v ≡ is_among st others v
noted_is st others v = seen_noted st others [] v ∙ or_not (is_among st others v)

-- those that are among others, and those that aren't

abbrev kept_if : Bool → Value → List Value → List Value
kept_if c v vs = if c then v ∷ vs else vs

left_out : (c : Bool) (v : Value) (vs : List Value) → kept_if (not c) v vs ≡ (if c then vs else v ∷ vs)
left_out true v vs = refl
left_out false v vs = refl

sought_without : (st : Store) (others vs : List Value)
    → sought st (noted st [] others) false vs ≡ picked_by_key false st others vs
sought_without st others [] = refl
sought_without st others (v ∷ vs) =
    ap (λ (c : Bool). kept_if (not c) v (sought st (noted st [] others) false vs)) (noted_is st others v)
    ∙ ap (λ (us : List Value). kept_if (not (is_among st others v)) v us) (sought_without st others vs)
    ∙ left_out (is_among st others v) v (picked_by_key false st others vs)

sought_within : (st : Store) (others vs : List Value)
    → sought st (noted st [] others) true vs ≡ picked_by_key true st others vs
sought_within st others [] = refl
sought_within st others (v ∷ vs) =
    ap (λ (c : Bool). kept_if c v (sought st (noted st [] others) true vs)) (noted_is st others v)
    ∙ ap (λ (us : List Value). kept_if (is_among st others v) v us) (sought_within st others vs)

-- the first of each

abbrev Sees : Store → List (Key × Value) → List Value → Type 0
Sees st seen before = (v : Value) → is_seen st seen v ≡ is_among st before v

firsts_are : (st : Store) (vs : List Value) (seen : List (Key × Value)) (before : List Value) → Sees st seen before
    → firsts st seen vs ≡ first_of_each st before vs
firsts_are st [] seen before sees = refl
firsts_are st (v ∷ vs) seen before sees =
    let more = firsts_are st vs (noted st seen (v ∷ [])) (v ∷ before)
    (λ u. seen_more st seen v u ∙ ap (λ (c : Bool). either (same_key (key_in st u) (key_in st v)) c) (sees u)) in
    ap (λ (c : Bool). if c then firsts st (noted st seen (v ∷ [])) vs
    else v ∷ firsts st (noted st seen (v ∷ [])) vs) (sees v)
    ∙ ap (λ (us : List Value). if is_among st before v then us else v ∷ us) more

-- The methods.

made_at_once : (held after : Held) (xs ys : List Value) (v : Value) (ts : List Turn) (p : Planned over_values.Stage)
    → p ≡ gives (with_array (with_symbol (codes "==") held) xs) (array_given (with_symbol (codes "==") held).store xs)
    → xs ≡ ys → Runs (lifted p) ts (gives after v) → IsMadeAtOnce held ys ts v after
made_at_once held after xs ys v ts p is same runs =
    let begun = with_symbol (codes "==") held in
    let end = given ts (with_array begun xs) (array_given begun.store xs) v after
    (subst (λ (q : Planned over_values.Stage). Runs (lifted q) ts (gives after v)) is runs) in
    record {
      unasked = end.0;
      result = subst (λ (zs : List Value). IsArrayOf begun zs v after) same (record { value = end.1; left = end.2 });
    }

pub difference_told : (held after : Held) (recv y v : Value) (a b : ObjId) (block : Option ObjId) (ts : List Turn)
    → an_array held.store.objects recv ≡ Some a → an_array held.store.objects y ≡ Some b
    → own_equality held (elements held a) (elements held b) ≡ true
    → Gives (row.Items (items_row.Compares comparing_row.ArrayDifference)) held recv (y ∷ []) block ts v after
    → IsMadeAtOnce held (picked_by_key false (with_symbol (codes "==") held).store (elements held b) (elements held a)) ts v
    after
difference_told held after recv y v a b block ts array other own run =
    let f = first_of comparing_row.ArrayDifference held recv (y ∷ []) block ts v after run in
    let starts = subst (λ (o : Option ObjId). comparing.Of held class.Array recv o
    (λ x. comparing.ForArray comparing_row.ArrayDifference held x (y ∷ []) f.first) f.first) array f.starts in
    let g = begun_by held after sieve.Difference a b y v true ts f.first other own starts f.runs in
    let st = (with_symbol (codes "==") held).store in
    made_at_once held after (sifted_by sieve.Difference st (elements held a) (elements held b))
    (picked_by_key false st (elements held b) (elements held a)) v ts g.first_plan g.begins
    (sought_without st (elements held b) (elements held a)) g.runs

pub intersection_told : (held after : Held) (recv y v : Value) (a b : ObjId) (block : Option ObjId) (ts : List Turn)
    → an_array held.store.objects recv ≡ Some a → an_array held.store.objects y ≡ Some b
    → own_equality held (elements held a) (elements held b) ≡ true
    → Gives (row.Items (items_row.Compares comparing_row.ArrayIntersection)) held recv (y ∷ []) block ts v after
    → IsMadeAtOnce held (first_of_each (with_symbol (codes "==") held).store []
    (picked_by_key true (with_symbol (codes "==") held).store (elements held b) (elements held a))) ts v after
intersection_told held after recv y v a b block ts array other own run =
    let f = first_of comparing_row.ArrayIntersection held recv (y ∷ []) block ts v after run in
    let starts = subst (λ (o : Option ObjId). comparing.Of held class.Array recv o
    (λ x. comparing.ForArray comparing_row.ArrayIntersection held x (y ∷ []) f.first) f.first) array f.starts in
    let g = begun_by held after sieve.Intersection a b y v true ts f.first other own starts f.runs in
    let st = (with_symbol (codes "==") held).store in
    made_at_once held after (sifted_by sieve.Intersection st (elements held a) (elements held b))
    (first_of_each st [] (picked_by_key true st (elements held b) (elements held a))) v ts g.first_plan g.begins
    (ap (λ (us : List Value). firsts st [] us) (sought_within st (elements held b) (elements held a))
    ∙ firsts_are st (picked_by_key true st (elements held b) (elements held a)) [] [] (λ u. refl)) g.runs

pub union_told : (held after : Held) (recv y v : Value) (a b : ObjId) (block : Option ObjId) (ts : List Turn)
    → an_array held.store.objects recv ≡ Some a → an_array held.store.objects y ≡ Some b
    → own_equality held (elements held a ++ elements held b) [] ≡ true
    → Gives (row.Items (items_row.Compares comparing_row.ArrayUnion)) held recv (y ∷ []) block ts v after
    → IsMadeAtOnce held (first_of_each (with_symbol (codes "==") held).store [] (elements held a ++ elements held b)) ts v
    after
union_told held after recv y v a b block ts array other own run =
    let f = first_of comparing_row.ArrayUnion held recv (y ∷ []) block ts v after run in
    let starts = subst (λ (o : Option ObjId). comparing.Of held class.Array recv o
    (λ x. comparing.ForArray comparing_row.ArrayUnion held x (y ∷ []) f.first) f.first) array f.starts in
    let g = begun_by held after sieve.Union a b y v true ts f.first other own starts f.runs in
    let st = (with_symbol (codes "==") held).store in
    made_at_once held after (sifted_by sieve.Union st (elements held a ++ elements held b) [])
    (first_of_each st [] (elements held a ++ elements held b)) v ts g.first_plan g.begins
    (firsts_are st (elements held a ++ elements held b) [] [] (λ u. refl)) g.runs
