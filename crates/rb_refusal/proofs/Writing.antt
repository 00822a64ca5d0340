-- Fronts of a text that is written piece by piece.
use Rattle.std.proofs.Common.{◌≡◌, ℕ, zero, suc, ◌+◌, ◌<◌, List, [], ◌∷◌, ◌++◌, Option, Some, None, length, get_or, take, drop, refl, ap, sym, ◌∙◌, append_assoc, add-one, drop-cons, subst}
use Rattle.std.proofs.lemmas.List.{append-nil, take-append-drop}
use Rattle.std.proofs.lemmas.List.Concat.{flat_map-append}
use Rattle.std.specs.List.{flat_map}
use Rattle.rb_base.specs.Outside.{with_more, TookFront, Rose}
use Rattle.rb_base.specs.declared.outside.Failed.{Failed}
use Rattle.std.specs.Result.{IsErr}
use Rattle.std.proofs.Common.{Result, Ok, Err}
use Rattle.rb_refusal.specs.Writing.{Stream, Says}

pub more_twice : (told : Option (List ℕ)) (a b : List ℕ) → with_more (with_more told a) b ≡ with_more told (a ++ b)
more_twice None a b = refl
more_twice (Some t) a b = ap Some (append_assoc t a b)

pub more_nothing : (told : Option (List ℕ)) → with_more told [] ≡ told
more_nothing None = refl
more_nothing (Some t) = ap Some (append-nil t)

front_within : (b rest : List ℕ) (k : ℕ) → (m : ℕ) × (take m (b ++ rest) ≡ take k b)
front_within [] rest zero = (0, refl)
front_within [] rest (suc k) = (0, refl)
front_within (x ∷ b) rest zero = (0, refl)
front_within (x ∷ b) rest (suc k) = let r = front_within b rest k in (suc r.0, ap (λ (l : List ℕ). x ∷ l) r.1)

front_behind : (a rest : List ℕ) (k : ℕ) → (m : ℕ) × (take m (a ++ rest) ≡ a ++ take k rest)
front_behind [] rest k = (k, refl)
front_behind (x ∷ a) rest k = let r = front_behind a rest k in (suc r.0, ap (λ (l : List ℕ). x ∷ l) r.1)

-- a front of a piece after what was written is a front of the whole
pub front_of_whole : (old mid new : Option (List ℕ)) (a b rest : List ℕ) → mid ≡ with_more old a → TookFront mid new b
    → TookFront old new (a ++ (b ++ rest))
front_of_whole old mid new a b rest is (k, e) =
    let f = front_within b rest k in
    let g = front_behind a (b ++ rest) f.0 in
    (g.0, e ∙ rw is (more_twice old a (take k b)) ∙ ap (with_more old) (sym (g.1 ∙ ap (λ (l : List ℕ). a ++ l) f.1)))

whole_at : {X : Type 0} (f : X → List ℕ) (xs : List X) (i : ℕ) (d : X) → i < length xs
    → flat_map f xs ≡ flat_map f (take i xs) ++ (f (get_or xs i d) ++ flat_map f (drop (i + 1) xs))
whole_at f xs i d h =
    let first : drop i xs ≡ get_or xs i d ∷ drop (i + 1) xs = rw (add-one, drop-cons xs i d) in
    ap (flat_map f) (sym (take-append-drop i xs))
    ∙ rw first (flat_map-append f (take i xs) (get_or xs i d ∷ drop (i + 1) xs))

pub front_of_pieces : {X : Type 0} (f : X → List ℕ) (xs : List X) (i : ℕ) (d : X) (old mid new : Option (List ℕ))
    → i < length xs → mid ≡ with_more old (flat_map f (take i xs)) → TookFront mid new (f (get_or xs i d))
    → TookFront old new (flat_map f xs)
front_of_pieces f xs i d old mid new h is t =
    rw (whole_at f xs i d h) (front_of_whole old mid new (flat_map f (take i xs)) (f (get_or xs i d))
    (flat_map f (drop (i + 1) xs)) is t)

pub rose_since : (first old new : ℕ) → old ≡ first → Rose old new → Rose first new
rose_since first old new e h = subst (λ n. Rose n new) e h

pub says_err : (text : List ℕ) (before after : Stream) (r : Result Unit Failed) → IsErr r
    → TookFront before.taken after.taken text → Rose before.faults after.faults → Says text before after r
says_err text before after (Ok u) bad front rose = cc
says_err text before after (Err f) bad front rose = (front, rose)

pub says_same : (before after : Stream) (r : Result Unit Failed) (text other : List ℕ) → text ≡ other
    → Says text before after r → Says other before after r
says_same before after r text other e h = subst (λ t. Says t before after r) e h
