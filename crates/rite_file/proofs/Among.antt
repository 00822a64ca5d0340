-- A text that was read is new where the set of those before hasn't it.
use Rattle.std.proofs.Common.{◌≡◌, refl, sym, ap, ◌∙◌, ℕ, ◌-◌, List, [], ◌∷◌, ◌++◌, length, Bool, true, false, arith}
use Rattle.std.specs.Prelude.{Ok, not, ◌||◌, if◌then◌else◌}
use Rattle.std.specs.Int.{w32}
use Rattle.std.specs.List.{list_any}
use Rattle.std.specs.Str.{bytes_eq}
use Rattle.std.proofs.lemmas.Slice.Eq.{bytes_eq-Decides}
use Rattle.text_set.specs.Sets.{is_among, with_text}
use Rattle.rite_file.specs.Record.{bytes_at, number_at, text_at, is_new}
use Rattle.rite_file.specs.Seen.{IsBefore}
use Rattle.std.proofs.lemmas.Bool.{cond-false}
use Rattle.rite_file.proofs.Fields.{bind_ok, bytes_take, not-true}

-- a text was read from the bytes before the place after it
pub text_before : (bytes : List ℕ) (at : ℕ) (x : List ℕ) (next : ℕ) → text_at bytes at ≡ Ok (x, next)
    → IsBefore bytes next x
unfolding text_at
text_before bytes at x next e =
    let b = bind_ok (number_at w32 bytes at) (λ n. bytes_at n.0 bytes n.1) (x, next) e in
    let t = bytes_take b.0.0 bytes b.0.1 x next b.2 in
    let from : next - length x ≡ b.0.1 = omega (arith, t.0.place) in
    let long : next - (next - length x) ≡ b.0.0 = omega (arith, t.0.place, t.1.0) in
    record { enough = omega (arith, t.0.place); is = rw (long, from) (sym t.1.1) }

pub eq-sym : (x y : List ℕ) → bytes_eq x y ≡ bytes_eq y x
eq-sym x y =
    elim (bytes_eq x y) as (λ b. bytes_eq x y ≡ b → b ≡ bytes_eq y x) [
      | true ↦ λ e. sym ((bytes_eq-Decides y x).1 (sym ((bytes_eq-Decides x y).0 e)))
      | false ↦ λ e. unequal (bytes_eq y x) refl e
    ] refl
  where
    unequal : (b : Bool) → bytes_eq y x ≡ b → bytes_eq x y ≡ false → false ≡ b
    unequal true h e = sym e ∙ (bytes_eq-Decides x y).1 (sym ((bytes_eq-Decides y x).0 h))
    unequal false h e = refl

pub any_of : (a b : Bool) → (if a then true else b) ≡ (a || b)
any_of true b = refl
any_of false b = refl

pub among_any : (x : List ℕ) (ys : List (List ℕ)) → is_among x ys ≡ list_any (λ (y : List ℕ). bytes_eq y x) ys
among_any x [] = refl
among_any x (y ∷ ys) =
    any_of (bytes_eq x y) (is_among x ys)
    ∙ ap (λ (b : Bool). b || is_among x ys) (eq-sym x y)
    ∙ ap (λ (b : Bool). bytes_eq y x || b) (among_any x ys)

-- what the set tells of a text, where it holds the texts before
pub told_new : (fresh : Bool) (spelled x : List ℕ) (seen texts : List (List ℕ)) → fresh ≡ not (is_among spelled seen)
    → spelled ≡ x → seen ≡ texts → is_new bytes_eq texts x ≡ fresh
told_new fresh spelled x seen texts h e f =
    ap not (sym (among_any x texts)
    ∙ sym (ap (λ (z : List ℕ). is_among z texts) e)
    ∙ sym (ap (is_among spelled) f)) ∙ sym h

-- and the set gets it
pub grown : (spelled x : List ℕ) (seen texts : List (List ℕ)) → is_new bytes_eq texts x ≡ true → spelled ≡ x
    → seen ≡ texts → with_text seen spelled ≡ texts ++ x ∷ []
grown spelled x seen texts new e f =
    ap (with_text seen) e ∙ ap (λ (ts : List (List ℕ)). with_text ts x) f
    ∙ cond-false (is_among x texts) texts (texts ++ x ∷ [])
    (among_any x texts ∙ not-true (list_any (λ (y : List ℕ). bytes_eq y x) texts) new)
