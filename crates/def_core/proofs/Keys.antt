-- Two keys of a Hash are the same where they are equal.
use Rattle.std.proofs.Common.{◌≡◌, ℕ, ℤ, List, true, refl, ap, sym, subst, true≢false}
use Rattle.std.specs.Cmp.Lexicographic.{pointwise_decides, bytes_decides}
use Rattle.std.proofs.lemmas.Bool.{eqb-true, eq-eqb}
use Rattle.std.proofs.lemmas.Bool.Decides.{Decides-int_eq}
use Rattle.rb_value.specs.declared.value.Value.{Value}
use Rattle.rb_value.specs.declared.value.Value.TheVariants.{Nil, True, False, Int, Sym, Obj}
use Rattle.rb_value.specs.declared.value.ObjId.{ObjId}
use Rattle.rb_value.specs.declared.value.SymId.{SymId}
use Rattle.rb_value.specs.contracts.value.ValuePartialEq.TheImpl as values
use Rattle.rb_value.specs.contracts.key.KeyPartPartialEq.TheImpl as parts
use Rattle.rb_value.specs.declared.key.KeyPart.{KeyPart}
use Rattle.rb_value.specs.declared.key.KeyPart.TheVariants as part
use Rattle.rb_value.specs.declared.key.Key.{Key}
use Rattle.rb_value.specs.declared.key.Key.TheVariants as key
use Rattle.rb_value.specs.Key.{same_key}

same_value : (a b : Value) → values.ghosts.eq a b ≡ true → a ≡ b
same_value Nil Nil h = refl
same_value Nil True h = absurd (true≢false (sym h))
same_value Nil False h = absurd (true≢false (sym h))
same_value Nil (Int n) h = absurd (true≢false (sym h))
same_value Nil (Sym s) h = absurd (true≢false (sym h))
same_value Nil (Obj o) h = absurd (true≢false (sym h))
same_value True Nil h = absurd (true≢false (sym h))
same_value True True h = refl
same_value True False h = absurd (true≢false (sym h))
same_value True (Int n) h = absurd (true≢false (sym h))
same_value True (Sym s) h = absurd (true≢false (sym h))
same_value True (Obj o) h = absurd (true≢false (sym h))
same_value False Nil h = absurd (true≢false (sym h))
same_value False True h = absurd (true≢false (sym h))
same_value False False h = refl
same_value False (Int n) h = absurd (true≢false (sym h))
same_value False (Sym s) h = absurd (true≢false (sym h))
same_value False (Obj o) h = absurd (true≢false (sym h))
same_value (Int m) Nil h = absurd (true≢false (sym h))
same_value (Int m) True h = absurd (true≢false (sym h))
same_value (Int m) False h = absurd (true≢false (sym h))
same_value (Int m) (Int n) h = ap (λ (k : ℤ). Int k) ((Decides-int_eq m n).0 h)
same_value (Int m) (Sym s) h = absurd (true≢false (sym h))
same_value (Int m) (Obj o) h = absurd (true≢false (sym h))
same_value (Sym r) Nil h = absurd (true≢false (sym h))
same_value (Sym r) True h = absurd (true≢false (sym h))
same_value (Sym r) False h = absurd (true≢false (sym h))
same_value (Sym r) (Int n) h = absurd (true≢false (sym h))
same_value (Sym r) (Sym s) h = ap (λ (k : ℕ). Sym (record { 0 = k })) (eqb-true r.0 s.0 h)
same_value (Sym r) (Obj o) h = absurd (true≢false (sym h))
same_value (Obj p) Nil h = absurd (true≢false (sym h))
same_value (Obj p) True h = absurd (true≢false (sym h))
same_value (Obj p) False h = absurd (true≢false (sym h))
same_value (Obj p) (Int n) h = absurd (true≢false (sym h))
same_value (Obj p) (Sym s) h = absurd (true≢false (sym h))
same_value (Obj p) (Obj o) h = ap (λ (k : ℕ). Obj (record { 0 = k })) (eqb-true p.0 o.0 h)

value_itself : (a : Value) → values.ghosts.eq a a ≡ true
value_itself Nil = refl
value_itself True = refl
value_itself False = refl
value_itself (Int m) = (Decides-int_eq m m).1 refl
value_itself (Sym r) = eq-eqb r.0 r.0 refl
value_itself (Obj p) = eq-eqb p.0 p.0 refl

same_part : (a b : KeyPart) → parts.ghosts.eq a b ≡ true → a ≡ b
same_part (part.Plain v) (part.Plain w) h = ap (λ (x : Value). part.Plain x) (same_value v w h)
same_part (part.Plain v) (part.Text t) h = absurd (true≢false (sym h))
same_part (part.Plain v) (part.Array n) h = absurd (true≢false (sym h))
same_part (part.Text s) (part.Plain w) h = absurd (true≢false (sym h))
same_part (part.Text s) (part.Text t) h = ap (λ (x : List ℕ). part.Text x) ((bytes_decides s t).0 h)
same_part (part.Text s) (part.Array n) h = absurd (true≢false (sym h))
same_part (part.Array m) (part.Plain w) h = absurd (true≢false (sym h))
same_part (part.Array m) (part.Text t) h = absurd (true≢false (sym h))
same_part (part.Array m) (part.Array n) h = ap (λ (k : ℕ). part.Array k) (eqb-true m n h)

part_itself : (a : KeyPart) → parts.ghosts.eq a a ≡ true
part_itself (part.Plain v) = value_itself v
part_itself (part.Text s) = (bytes_decides s s).1 refl
part_itself (part.Array m) = eq-eqb m m refl

part_decides : (a b : KeyPart) → (parts.ghosts.eq a b ≡ true → a ≡ b) × (a ≡ b → parts.ghosts.eq a b ≡ true)
part_decides a b = (same_part a b, λ e. subst (λ (x : KeyPart). parts.ghosts.eq a x ≡ true) e (part_itself a))

pub same_is : (a b : Key) → same_key a b ≡ true → a ≡ b
same_is (key.Plain v) (key.Plain w) h = ap (λ (x : Value). key.Plain x) (same_value v w h)
same_is (key.Plain v) (key.Text t) h = absurd (true≢false (sym h))
same_is (key.Plain v) (key.Array qs) h = absurd (true≢false (sym h))
same_is (key.Text s) (key.Plain w) h = absurd (true≢false (sym h))
same_is (key.Text s) (key.Text t) h = ap (λ (x : List ℕ). key.Text x) ((bytes_decides s t).0 h)
same_is (key.Text s) (key.Array qs) h = absurd (true≢false (sym h))
same_is (key.Array ps) (key.Plain w) h = absurd (true≢false (sym h))
same_is (key.Array ps) (key.Text t) h = absurd (true≢false (sym h))
same_is (key.Array ps) (key.Array qs) h =
    ap (λ (x : List KeyPart). key.Array x) ((pointwise_decides part_decides ps qs).0 h)

key_itself : (a : Key) → same_key a a ≡ true
key_itself (key.Plain v) = value_itself v
key_itself (key.Text s) = (bytes_decides s s).1 refl
key_itself (key.Array ps) = (pointwise_decides part_decides ps ps).1 refl

pub is_same : (a b : Key) → a ≡ b → same_key a b ≡ true
is_same a b e = subst (λ (x : Key). same_key a x ≡ true) e (key_itself a)
