-- The items of a Range are what it includes.
use Rattle.std.proofs.Common.{◌≡◌, ℕ, ◌<◌, ◌+◌, ℤ, pos, negsuc, ◌+ℤ◌, ◌≤ℤ◌, ◌<ℤ◌, T, ◌&&◌, int_le, int_lt, Bool, true, false, refl, ap, arith}
use Rattle.std.proofs.lemmas.Int.{ints, by_lt_z}
use Rattle.std.specs.Int.{int_gap}
use Rattle.rb_integer.specs.Ends.{count, item, includes, stands_within, behind}
use Rattle.rb_integer.specs.declared.ends.Bounds.{Bounds}
use Rattle.rb_integer.specs.declared.ends.Bounds.TheVariants.{Integers, Bytes}
use Rattle.rb_integer.specs.declared.ends.Item.{Item}
use Rattle.rb_integer.specs.declared.ends.Item.TheVariants.{Integer, Byte}

gap_is : (a c : ℤ) → a ≤ℤ c → a +ℤ pos (int_gap a c) ≡ c
gap_is (pos m) (pos n) h = omega (arith, ints)
gap_is (pos m) (negsuc n) h = absurd (omega (arith, ints))
gap_is (negsuc m) (pos n) h = omega (arith, ints)
gap_is (negsuc m) (negsuc n) h = omega (arith, ints)

gap_none : (a c : ℤ) → c ≤ℤ a → int_gap a c ≡ 0
gap_none (pos m) (pos n) h = omega (arith, ints)
gap_none (pos m) (negsuc n) h = refl
gap_none (negsuc m) (pos n) h = absurd (omega (arith, ints))
gap_none (negsuc m) (negsuc n) h = omega (arith, ints)

both : (p q : Bool) → T p → T q → (p && q) ≡ true
both true true h k = refl
both true false h k = absurd k
both false q h k = absurd h

parts : (p q : Bool) → (p && q) ≡ true → T p × T q
parts true true h = (tt, tt)
parts true false h = cc
parts false q h = cc

inside : (a c : ℤ) (k : ℕ) → k < int_gap a c → stands_within a (a +ℤ pos k) c ≡ true
inside a c k h = by_lt_z {P = stands_within a (a +ℤ pos k) c ≡ true} a c
    (λ below.
    let le : a ≤ℤ c = omega (arith, ints) in
    let e : a +ℤ pos (int_gap a c) ≡ c = gap_is a c le in
    let from : a ≤ℤ (a +ℤ pos k) = omega (arith, ints) in
    let to : (a +ℤ pos k) <ℤ c = omega (arith, ints) in
    both (int_le a (a +ℤ pos k)) (int_lt (a +ℤ pos k) c) from.le to.lt)
    (λ above. let none : int_gap a c ≡ 0 = gap_none a c above in absurd (omega arith))

pub each_item_included : (b : Bounds) (exclusive : Bool) (k : ℕ) → k < count b exclusive
    → includes b exclusive (item b k) ≡ true
each_item_included (Integers a z) exclusive k h = inside a (behind (Integers a z) exclusive) k h
each_item_included (Bytes a z) exclusive k h = inside (pos a) (behind (Bytes a z) exclusive) k h

-- how far a number is behind the first one
place : (a z c : ℤ) → stands_within a z c ≡ true → (k : ℕ) × (k < int_gap a c) × (a +ℤ pos k ≡ z)
place a z c h =
    let tests : T (int_le a z) × T (int_lt z c) = parts (int_le a z) (int_lt z c) h in
    let from : a ≤ℤ z = record { le = tests.0 } in
    let to : z <ℤ c = record { lt = tests.1 } in
    let whole : a ≤ℤ c = omega (arith, ints) in
    let near : a +ℤ pos (int_gap a z) ≡ z = gap_is a z from in
    let far : a +ℤ pos (int_gap a c) ≡ c = gap_is a c whole in
    (int_gap a z, omega (arith, ints), near)

byte_at : (a k c : ℕ) → pos a +ℤ pos k ≡ pos c → Byte (a + k) ≡ Byte c
byte_at a k c h = cc

pub each_included_is_item : (b : Bounds) (exclusive : Bool) (x : Item) → includes b exclusive x ≡ true → (k : ℕ)
    × (k < count b exclusive) × (item b k ≡ x)
each_included_is_item (Integers a e) exclusive (Integer z) h = let at : (k : ℕ)
    × (k < int_gap a (behind (Integers a e) exclusive)) × (a +ℤ pos k ≡ z) =
    place a z (behind (Integers a e) exclusive) h in (at.0, at.1, ap Integer at.2)
each_included_is_item (Integers a e) exclusive (Byte c) h = cc
each_included_is_item (Bytes a e) exclusive (Integer z) h = cc
each_included_is_item (Bytes a e) exclusive (Byte c) h = let at : (k : ℕ)
    × (k < int_gap (pos a) (behind (Bytes a e) exclusive)) × (pos a +ℤ pos k ≡ pos c) =
    place (pos a) (pos c) (behind (Bytes a e) exclusive) h in (at.0, at.1, byte_at a at.0 c at.2)
