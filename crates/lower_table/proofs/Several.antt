-- Lists of several things.
use Rattle.std.proofs.Common.{◌≡◌, ◌≤◌, ℕ, List, [], ◌∷◌, length, map, refl, arith, subst}
use Rattle.rb_syntax.specs.declared.core_form.DefinedKind.TheVariants as kind
use Rattle.parser_tree.specs.Node.{Node, nodes}
use Rattle.ir_core.specs.CoreForm as form
use Rattle.ir_core.specs.Forms.{asks_form}
use Rattle.lower_table.specs.Lowering.{Passed, items, value, asks_only, defined_all}

several : {A : Type 0} (v : A → Node) (p : Passed) (d : ℕ) (xs : List A) → 2 ≤ length xs
    → form.array (items p d (nodes (map v xs))) ≡ value p d (nodes (map v xs))
several v p d [] h = absurd (omega arith)
several v p d (x ∷ []) h = absurd (omega arith)
several v p d (x ∷ (y ∷ xs)) h = refl

-- several values, and the slice of their list
pub value-several : {A : Type 0} (v : A → Node) (p : Passed) (d : ℕ) (xs ys : List A) → ys ≡ xs → 2 ≤ length ys
    → form.array (items p d (nodes (map v xs))) ≡ value p d (nodes (map v xs))
value-several v p d xs ys same h = several v p d xs (subst (λ zs. 2 ≤ length zs) same h)

asks-several : {A : Type 0} (v : A → Node) (p : Passed) (d : ℕ) (xs : List A) → 2 ≤ length xs
    → asks_form kind.Expression [] ≡ asks_only (defined_all p d (nodes (map v xs)))
asks-several v p d [] h = absurd (omega arith)
asks-several v p d (x ∷ []) h = absurd (omega arith)
asks-several v p d (x ∷ (y ∷ xs)) h = refl

-- several statements, and the slice of their list
pub statements-several : {A : Type 0} (v : A → Node) (p : Passed) (d : ℕ) (xs ys : List A) → ys ≡ xs → 2 ≤ length ys
    → asks_form kind.Expression [] ≡ asks_only (defined_all p d (nodes (map v xs)))
statements-several v p d xs ys same h = asks-several v p d xs (subst (λ zs. 2 ≤ length zs) same h)
