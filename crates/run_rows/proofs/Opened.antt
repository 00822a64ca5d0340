-- Classes with methods, one list of names after another.
use Rattle.std.proofs.Common.{◌≡◌, ℕ, suc, ◌+◌, ◌<◌, ◌≤◌, Bool, false, refl, ap, sym, ◌∙◌, arith, get_or, drop}
use Rattle.std.specs.Prelude.{List, [], ◌∷◌, ◌++◌, map, length, nat_eq, if◌then◌else◌}
use Rattle.std.proofs.lemmas.List.{drop_more, drop_all}
use Rattle.rb_value.specs.declared.value.Value.TheVariants.{Obj}
use Rattle.rb_value.specs.declared.value.ObjId.{ObjId}
use Rattle.rb_value.specs.declared.value.SymId.{SymId}
use Rattle.rb_value.specs.declared.core_class.CoreClass.{CoreClass}
use Rattle.def_core.specs.Store.{Store, core}
use Rattle.def_calls.specs.Definitions.{singleton_class, undefine_method}
use Rattle.def_calls.specs.World.{World, Answer, with_store}
use Rattle.run_values.specs.declared.given.Given.{Given}
use Rattle.run_values.specs.Answers.{answered}
use Rattle.heap.specs.Operands.{own, with_space, with_symbol}
use Rattle.iter_items.specs.Named.{each_is}
use Rattle.run_rows.specs.declared.row.Row.TheVariants.{Plain, Star}
use Rattle.run_rows.specs.Named.{plain, star, beyond}
use Rattle.run_rows.specs.Opening.{Held, Holds, Numbered, alone, own_class, holder, held_by, given_or, with_next, with_names, names_of, first_number, with_all, with_segment, with_segments, undefined_in, undefined_by}

-- What calls of the heap leave.

pub own_so : (before after : Store) (class : ObjId) (g : Given)
    → ((w : World) → singleton_class (with_store w before) (own before (Obj class)) ≡ answered g (with_store w after))
    → Holds (own_class before class) (given_or class g) after
own_so before after class g h = ap (held_by class) (h (alone before))

abbrev store_of : Answer → Store
store_of a = a.world.store

pub undefined_so : (before after : Store) (class : ObjId) (name : SymId) (g : Given)
    → ((w : World) → with_space class (with_symbol name (λ v. undefine_method v class name)) (with_store w before)
    ≡ answered g (with_store w after))
    → undefined_in (record { class = class; store = before }) name ≡ after
undefined_so before after class name g h = ap store_of (h (alone before))

-- Names of rows of one kind.

pub names_each : {A B : Type 0} (kind : A → B) (xs : List (List ℕ × A)) → names_of (each_is kind xs) ≡ names_of xs
names_each kind [] = refl
names_each kind (x ∷ xs) = ap (λ (ns : List (List ℕ)). x.0 ∷ ns) (names_each kind xs)

pub with_first : {A B : Type 0} (kind : A → B) (xs : List (List ℕ × A)) (ys : List (List ℕ × B)) (class : ObjId)
    (n : Numbered) → with_names class n (names_of (each_is kind xs ++ ys))
    ≡ with_names class (with_names class n (names_of xs)) (names_of ys)
unfolding with_names
with_first kind [] ys class n = refl
with_first kind (x ∷ xs) ys class n = with_first kind xs ys class (with_next class n x.0)

-- the methods of one kind, then others

pub first_then : {A B : Type 0} (kind : A → B) (xs : List (List ℕ × A)) (ys : List (List ℕ × B)) (class : ObjId)
    (n m l : Numbered) → with_names class n (names_of xs) ≡ m → with_names class m (names_of ys) ≡ l
    → with_names class n (names_of (each_is kind xs ++ ys)) ≡ l
first_then kind xs ys class n m l e f =
    with_first kind xs ys class n ∙ ap (λ (k : Numbered). with_names class k (names_of ys)) e ∙ f

pub last_then : {A B : Type 0} (kind : A → B) (xs : List (List ℕ × A)) (class : ObjId) (n l : Numbered)
    → with_names class n (names_of xs) ≡ l → with_names class n (names_of (each_is kind xs)) ≡ l
last_then kind xs class n l e = ap (with_names class n) (names_each kind xs) ∙ e

-- Segments.

pub segment_some : (st : Store) (s : ℕ) (class : ObjId) (first n m : Numbered)
    → nat_eq (length (beyond s)) 0 ≡ false → Holds (holder st s) class first.store → first.number ≡ first_number s
    → with_names class first (names_of (plain s)) ≡ n → with_names class n (names_of (star s)) ≡ m
    → with_segment st s ≡ m.store
segment_some st s class first n m some held number e f =
    ap (λ (b : Bool). if b then st else with_all (holder st s) (first_number s) (names_of (beyond s))) some
    ∙ ap (λ (h : Held). with_all h (first_number s) (names_of (beyond s))) held
    ∙ ap (λ (k : ℕ). with_all (record { class = class; store = first.store }) k (names_of (beyond s))) (sym number)
    ∙ ap (λ (k : Numbered). k.store)
    (first_then Plain (plain s) (each_is Star (star s)) class first n m e (last_then Star (star s) class n m f))

pub more_segments : (st : Store) (s : ℕ) → with_segments st (s + 1) ≡ with_segment (with_segments st s) s
unfolding with_segments
more_segments st s = let e : s + 1 ≡ suc s = omega arith in ap (with_segments st) e

-- One name after another.

names_step : {A X : Type 0} (f : X → List ℕ × A) (class : ObjId) (m : Numbered) (i : ℕ) (xs : List X) (d : X)
    → i < length xs
    → with_names class (with_next class m (f (get_or xs i d)).0) (names_of (map f (drop (i + 1) xs)))
    ≡ with_names class m (names_of (map f (drop i xs)))
unfolding with_names
names_step f class m i xs d h = rw (drop_more xs i d) refl

pub names_end : {A X : Type 0} (f : X → List ℕ × A) (class : ObjId) (m : Numbered) (i : ℕ) (xs : List X)
    → length xs ≤ i → with_names class m (names_of (map f (drop i xs))) ≡ m
unfolding with_names
names_end f class m i xs h = rw (drop_all i xs) refl

pub more_added : {A X : Type 0} (f : X → List ℕ × A) (xs : List X) (i : ℕ) (x d : X) (here class : ObjId)
    (m n l : Numbered) → i < length xs → x ≡ get_or xs i d → here ≡ class → with_next here m (f x).0 ≡ n
    → with_names class m (names_of (map f (drop i xs))) ≡ l
    → with_names class n (names_of (map f (drop (i + 1) xs))) ≡ l
more_added f xs i x d here class m n l h is same added was =
    ap (λ (k : Numbered). with_names class k (names_of (map f (drop (i + 1) xs))))
    (sym added ∙ ap (λ (k : ObjId). with_next k m (f x).0) same ∙ ap (λ (y : _). with_next class m (f y).0) is)
    ∙ names_step f class m i xs d h ∙ was

-- names of a class that is the same
pub of_class : (here class : ObjId) (m n : Numbered) (names : List (List ℕ)) → here ≡ class
    → with_names here m names ≡ n → with_names class m names ≡ n
of_class here class m n names same e = ap (λ (k : ObjId). with_names k m names) (sym same) ∙ e

-- names that a list shows
pub listed : {A X : Type 0} (f : X → List ℕ × A) (rows : List X) (ms : List (List ℕ × A)) (here class : ObjId)
    (m n : Numbered) → map f rows ≡ ms → here ≡ class → with_names here m (names_of (map f rows)) ≡ n
    → with_names class m (names_of ms) ≡ n
listed f rows ms here class m n shown same e =
    ap (λ (l : List (List ℕ × _)). with_names class m (names_of l)) (sym shown) ∙ of_class here class m n _ same e

-- One class object after another.

undefined_step : (st : Store) (name : SymId) (i : ℕ) (classes : List CoreClass) (d : CoreClass) → i < length classes
    → undefined_by (undefined_in (own_class st (core (get_or classes i d))) name) name (drop (i + 1) classes)
    ≡ undefined_by st name (drop i classes)
unfolding undefined_by
undefined_step st name i classes d h = rw (drop_more classes i d) refl

pub undefined_end : (st : Store) (name : SymId) (i : ℕ) (classes : List CoreClass) → length classes ≤ i
    → undefined_by st name (drop i classes) ≡ st
unfolding undefined_by
undefined_end st name i classes h = rw (drop_all i classes) refl

pub more_undefined : (st mid after l : Store) (name : SymId) (i : ℕ) (classes : List CoreClass) (d : CoreClass)
    (class own : ObjId) → i < length classes → class ≡ core (get_or classes i d) → Holds (own_class st class) own mid
    → undefined_in (record { class = own; store = mid }) name ≡ after
    → undefined_by st name (drop i classes) ≡ l → undefined_by after name (drop (i + 1) classes) ≡ l
more_undefined st mid after l name i classes d class own h is held e was =
    ap (λ (k : Store). undefined_by k name (drop (i + 1) classes))
    (sym (ap (λ (k : ObjId). undefined_in (own_class st k) name) (sym is)
    ∙ ap (λ (k : Held). undefined_in k name) held ∙ e))
    ∙ undefined_step st name i classes d h ∙ was
