-- Names and modules that are passed one after another.
use Rattle.std.proofs.Common.{◌≡◌, ℕ, zero, suc, ◌<◌, List, [], ◌∷◌, ◌++◌, length, take, reverse, refl, ap, sym, ◌∙◌, append_assoc, append-nil, arith}
use Rattle.std.proofs.lemmas.List.{reverse-append}
use Rattle.std.specs.Prelude.{Result, Ok, Err, slice_index_or}
use Rattle.std.specs.declared.alloc.AllocError.{AllocError}
use Rattle.rb_value.specs.declared.value.Value.{Value}
use Rattle.rb_value.specs.declared.value.Value.TheVariants.{Nil}
use Rattle.rb_value.specs.declared.value.SymId.{SymId}
use Rattle.def_core.specs.declared.cause.Cause.{Cause}
use Rattle.def_core.specs.Store.{Store}
use Rattle.def_calls.specs.World.{with_store}
use Rattle.rb_store.specs.Held.{Held}
use Rattle.run_values.specs.declared.given.Given.{Given}
use Rattle.rows_object.specs.Follows.{Follows, array}
use Rattle.rows_class.specs.Names.{Names, names_before, after_names}
use Rattle.rows_class.specs.Attributes.{Listed, array_of_names, listing, with_names}

-- names

names_more_by : (xs ys : List SymId) (rest : Result (List SymId) Cause)
    → names_before xs (names_before ys rest) ≡ names_before (xs ++ ys) rest
names_more_by xs ys (Ok zs) = ap Ok (sym (append_assoc xs ys zs))
names_more_by xs ys (Err cause) = refl

pub names_more : (xs ys : List SymId) (rest : Names)
    → after_names xs (after_names ys rest) ≡ after_names (xs ++ ys) rest
names_more xs ys rest =
    ap (λ (r : Result (List SymId) Cause). record { names = r; store = rest.store }) (names_more_by xs ys rest.names)

pub names_all : (xs : List SymId) (st : Store)
    → after_names xs (record { names = Ok []; store = st }) ≡ record { names = Ok xs; store = st }
names_all xs st = ap (λ (ys : List SymId). record { names = Ok ys; store = st }) (append-nil xs)

-- names of methods that were defined

pub listed_more : (vs us : List Value) (rest : Listed)
    → with_names vs (with_names us rest) ≡ with_names (vs ++ us) rest
listed_more vs us rest =
    ap (λ (xs : List Value). listing xs rest.store) (sym (append_assoc vs us rest.names))

pub listed_all : (vs : List Value) (st : Store)
    → with_names vs (listing [] st) ≡ listing vs st
listed_all vs st = ap (λ (xs : List Value). listing xs st) (append-nil vs)

-- an Array of them
pub listed_follows : (before middle after : Held) (r : Result Given AllocError) (f : Store → Listed) (vs : List Value)
    → f before.store ≡ listing vs middle.store → Follows middle after r (array vs)
    → Follows before after r (λ w. array_of_names w (f w.store))
listed_follows before middle after (Ok g) f vs e h = λ w.
    ap (λ (l : Listed). array_of_names (with_store w before.store) l) e ∙ h w
listed_follows before middle after (Err x) f vs e h = tt

-- modules, the last first

taken_more : (vs : List Value) (n : ℕ) → n < length vs → take (suc n) vs ≡ take n vs ++ slice_index_or vs n Nil ∷ []
taken_more [] n lt = absurd (omega (arith, lt))
taken_more (v ∷ vs) zero lt = refl
taken_more (v ∷ vs) (suc n) lt = ap (λ (us : List Value). v ∷ us) (taken_more vs n (omega (arith, lt)))

pub last_first : (vs : List Value) (n : ℕ) → n < length vs
    → reverse (take (suc n) vs) ≡ slice_index_or vs n Nil ∷ reverse (take n vs)
last_first vs n lt = ap (λ (us : List Value). reverse us) (taken_more vs n lt)
    ∙ reverse-append (take n vs) (slice_index_or vs n Nil ∷ [])
