-- When two Ranges are equal.
use Rattle.std.proofs.Common.{◌≡◌, ℕ, Bool, true, false, refl, ap, sym, ◌∙◌, subst, true≢false, arith}
use Rattle.std.specs.Prelude.{◌↔◌, IsTrue, Some, ℤ, ◌&&◌, nat_eq}
use Rattle.std.specs.Bool.{beq}
use Rattle.std.proofs.lemmas.Bool.Decides.{nat_tests}
use Rattle.rb_integer.specs.declared.ends.Bounds.{Bounds}
use Rattle.rb_integer.specs.declared.ends.Bounds.TheVariants.{Integers, Bytes}
use Rattle.rb_integer.specs.declared.ends.Ends.{Ends}
use Rattle.rb_integer.specs.Comparison.{is_equal}
use Rattle.def_rows.specs.RangeRows.{same_bounds, same_ends}

-- The test is true just where the Ranges are equal.

and_left : (a b : Bool) → (a && b) ≡ true → a ≡ true
and_left true b h = refl
and_left false b h = cc

and_right : (a b : Bool) → (a && b) ≡ true → b ≡ true
and_right true b h = h
and_right false b h = cc

same_bool : (a b : Bool) → beq a b ≡ true → a ≡ b
same_bool true true h = refl
same_bool true false h = cc
same_bool false true h = cc
same_bool false false h = refl

self_bool : (a : Bool) → beq a a ≡ true
self_bool true = refl
self_bool false = refl

same_nat : (a b : ℕ) → nat_eq a b ≡ true → a ≡ b
same_nat a b h = grind (arith, nat_tests, h)

self_nat : (a : ℕ) → nat_eq a a ≡ true
self_nat a = grind (arith, nat_tests)

same_int : (x y : ℤ) → is_equal x y ≡ true → x ≡ y
same_int x y h = grind (arith, nat_tests, h)

self_int : (x : ℤ) → is_equal x x ≡ true
self_int x = grind (arith, nat_tests)

both_integers : (a b c d : ℤ) → a ≡ c → b ≡ d → Integers a b ≡ Integers c d
both_integers a b c d p q = ap (λ (x : ℤ). Integers x b) p ∙ ap (λ (y : ℤ). Integers c y) q

both_bytes : (a b c d : ℕ) → a ≡ c → b ≡ d → Bytes a b ≡ Bytes c d
both_bytes a b c d p q = ap (λ (x : ℕ). Bytes x b) p ∙ ap (λ (y : ℕ). Bytes c y) q

bounds_same : (a b : Bounds) → same_bounds a b ≡ true → a ≡ b
bounds_same (Integers a b) (Integers c d) h =
    both_integers a b c d (same_int a c (and_left (is_equal a c) (is_equal b d) h))
    (same_int b d (and_right (is_equal a c) (is_equal b d) h))
bounds_same (Integers a b) (Bytes c d) h = cc
bounds_same (Bytes a b) (Integers c d) h = cc
bounds_same (Bytes a b) (Bytes c d) h = both_bytes a b c d (same_nat a c (and_left (nat_eq a c) (nat_eq b d) h))
    (same_nat b d (and_right (nat_eq a c) (nat_eq b d) h))

self_bounds : (a : Bounds) → same_bounds a a ≡ true
self_bounds (Integers a b) = rw (self_int a, self_int b) refl
self_bounds (Bytes a b) = rw (self_nat a, self_nat b) refl

ends_same : (e f : Ends) → same_ends e (Some f) ≡ true → e ≡ f
ends_same e f h =
    ap (λ (b : Bounds). let g : Ends = record { bounds = b; is_exclusive = e.is_exclusive } in g)
    (bounds_same e.bounds f.bounds (and_left (same_bounds e.bounds f.bounds) (beq e.is_exclusive f.is_exclusive) h))
    ∙ ap (λ (x : Bool). let g : Ends = record { bounds = f.bounds; is_exclusive = x } in g)
    (same_bool e.is_exclusive f.is_exclusive
    (and_right (same_bounds e.bounds f.bounds) (beq e.is_exclusive f.is_exclusive) h))

self_ends : (e : Ends) → same_ends e (Some e) ≡ true
self_ends e = rw (self_bounds e.bounds, self_bool e.is_exclusive) refl

pub same_as : (e f : Ends) (r : Bool) → (IsTrue r ↔ (e ≡ f)) → r ≡ same_ends e (Some f)
same_as e f true h = sym (subst (λ (g : Ends). same_ends e (Some g) ≡ true) (h.0 refl) (self_ends e))
same_as e f false h = by (same_ends e (Some f)) refl
  where
    by : (t : Bool) → same_ends e (Some f) ≡ t → false ≡ t
    by true t = absurd (true≢false (sym (h.1 (ends_same e f t))))
    by false t = refl
