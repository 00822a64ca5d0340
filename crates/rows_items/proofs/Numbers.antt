-- Numbers and letters, one after another.
use Rattle.std.proofs.Common.{◌≡◌, ℕ, zero, suc, ◌-◌, ◌<◌, ◌≤◌, List, [], ◌∷◌, ◌++◌, ap, sym, ◌∙◌, append_assoc, append-nil, arith}
use Rattle.std.specs.Prelude.{ℤ, pos}
use Rattle.std.specs.Int.{w64, int_wrapping_add}
use Rattle.rb_value.specs.declared.value.Value.{Value}
use Rattle.rb_value.specs.declared.value.Value.TheVariants.{Int, Obj}
use Rattle.def_core.specs.Store.{next_number}
use Rattle.rb_store.specs.Held.{Held}
use Rattle.rows_items.specs.Items.{Items, items_after, numbers_from, letters_from, next_byte, with_letter}

-- one more, and no more
pub numbers_more : (z : ℤ) (count place : ℕ) (vs : List Value) → place < count
    → vs ++ numbers_from z (count - place)
    ≡ (vs ++ Int z ∷ []) ++ numbers_from (int_wrapping_add w64 z (pos 1)) (count - suc place)
numbers_more z count place vs lt =
    let e : count - place ≡ suc (count - suc place) = omega (arith, lt) in
    ap (λ (n : ℕ). vs ++ numbers_from z n) e
    ∙ sym (append_assoc vs (Int z ∷ []) (numbers_from (int_wrapping_add w64 z (pos 1)) (count - suc place)))

pub numbers_end : (z : ℤ) (count place : ℕ) (vs : List Value) → count ≤ place → vs ++ numbers_from z (count - place) ≡ vs
numbers_end z count place vs le =
    let e : count - place ≡ zero = omega (arith, le) in
    ap (λ (n : ℕ). vs ++ numbers_from z n) e ∙ append-nil vs

pub letters_more : (b count place : ℕ) (held : Held) (vs : List Value) → place < count
    → items_after vs (letters_from b (count - place) held)
    ≡ items_after (vs ++ Obj (next_number held.store) ∷ []) (letters_from (next_byte b) (count - suc place) (with_letter held b))
letters_more b count place held vs lt =
    let e : count - place ≡ suc (count - suc place) = omega (arith, lt) in
    let rest : Items = letters_from (next_byte b) (count - suc place) (with_letter held b) in
    ap (λ (n : ℕ). items_after vs (letters_from b n held)) e
    ∙ ap (λ (us : List Value). (us, rest.1)) (sym (append_assoc vs (Obj (next_number held.store) ∷ []) rest.0))

pub letters_end : (b count place : ℕ) (held : Held) (vs : List Value) → count ≤ place
    → items_after vs (letters_from b (count - place) held) ≡ (vs, held)
letters_end b count place held vs le =
    let e : count - place ≡ zero = omega (arith, le) in
    ap (λ (n : ℕ). items_after vs (letters_from b n held)) e
    ∙ ap (λ (us : List Value). (us, held)) (append-nil vs)
