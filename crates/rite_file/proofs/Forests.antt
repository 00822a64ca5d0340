-- Numbering bodies from the last to the first.
use Rattle.std.proofs.Common.{◌≡◌, ℕ, ◌+◌, ◌-◌, ◌≤◌, List, [], ◌∷◌, ◌++◌, length, take, drop, reverse, refl, sym, ap, ◌∙◌, arith, inl, inr}
use Rattle.std.proofs.lemmas.Bool.{cases_lt}
use Rattle.std.proofs.lemmas.List.{reverse-append, length-reverse, take-append-drop, take_at, drop_at, take_all, drop_all, length-drop}
use Rattle.rite_code.specs.declared.code.Irep.{Irep}
use Rattle.rite_file.specs.declared.records.Record.{Record}
use Rattle.rite_file.specs.Loaded.{Forest, planted, numbered, with_children}

-- records before a forest
abbrev pub onto : ℕ → List Record → Forest → Forest
onto at [] forest = forest
onto at (r ∷ rs) forest = planted at r (onto (at + 1) rs forest)

pub onto_nothing : (at : ℕ) (rs : List Record) → onto at rs ([], []) ≡ numbered at rs
unfolding numbered
onto_nothing at [] = refl
onto_nothing at (r ∷ rs) = ap (planted at r) (onto_nothing (at + 1) rs)

pub onto_last : (at : ℕ) (rs : List Record) (r : Record) (forest : Forest)
    → onto at (rs ++ r ∷ []) forest ≡ onto at rs (planted (at + length rs) r forest)
onto_last at [] r forest = ap (λ (n : ℕ). planted n r forest) (omega arith)
onto_last at (s ∷ rs) r forest =
    let n : at + 1 + length rs ≡ at + length (s ∷ rs) = omega arith in
    ap (planted at s) (onto_last (at + 1) rs r forest ∙ ap (λ (k : ℕ). onto (at + 1) rs (planted k r forest)) n)

parts : {A : Type 0} (m : ℕ) (xs : List A) → reverse xs ≡ reverse (drop m xs) ++ reverse (take m xs)
parts m xs = ap reverse (sym (take-append-drop m xs)) ∙ reverse-append (take m xs) (drop m xs)

abbrev Last : {A : Type 0} → ℕ → ℕ → List A → Type 0
Last n m xs = (reverse (drop m xs) ≡ take n (reverse xs)) × (reverse (take m xs) ≡ drop n (reverse xs))

last_some : {A : Type 0} (n m : ℕ) (xs : List A) → n ≡ length xs - m → m ≤ length xs → Last n m xs
last_some n m xs e h =
    let len : length (reverse (drop m xs)) ≡ n = omega (arith, e, h, length-reverse (drop m xs), length-drop m xs) in (
      rw (parts m xs) (sym (take_at (reverse (drop m xs)) (reverse (take m xs)) n len)),
      rw (parts m xs) (sym (drop_at (reverse (drop m xs)) (reverse (take m xs)) n len)),
    )

last_all : {A : Type 0} (n : ℕ) (xs : List A) → length xs ≤ n → Last n 0 xs
last_all n xs h =
    let len : length (reverse xs) ≤ n = omega (arith, h, length-reverse xs) in
    (sym (take_all n (reverse xs) len), sym (drop_all n (reverse xs) len))

-- the last of a list, taken and left
pub last_of : {A : Type 0} (n : ℕ) (xs : List A) → Last n (length xs - n) xs
last_of n xs = elim (cases_lt (length xs) n) [
  | inl lt ↦ let z : length xs - n ≡ 0 = omega (arith, lt) in rw z (last_all n xs (omega (arith, lt)))
  | inr le ↦ last_some n (length xs - n) xs (omega (arith, le)) (omega arith)
]

reverse_push : {A : Type 0} (xs : List A) (x : A) → reverse (xs ++ x ∷ []) ≡ x ∷ reverse xs
reverse_push xs x = reverse-append xs (x ∷ [])

-- one record is planted before the bodies and roots after it
pub plants : (left more : List Record) (r : Record) (bodies bodies' : List Irep) (roots taken roots' : List ℕ)
    (children : List ℕ) (total : Forest)
    → left ≡ more ++ r ∷ [] → children ≡ take r.children (reverse roots)
    → reverse taken ≡ drop r.children (reverse roots)
    → bodies' ≡ bodies ++ with_children r.body children ∷ [] → roots' ≡ taken ++ length more ∷ []
    → onto 0 left (reverse bodies, reverse roots) ≡ total → onto 0 more (reverse bodies', reverse roots') ≡ total
plants left more r bodies bodies' roots taken roots' children total e kids others b n so_far =
    let forest : planted (length more) r (reverse bodies, reverse roots) ≡ (reverse bodies', reverse roots') =
    rw (b, n, reverse_push bodies (with_children r.body children), reverse_push taken (length more), others, kids)
    refl in
    let split : onto 0 left (reverse bodies, reverse roots)
    ≡ onto 0 more (planted (length more) r (reverse bodies, reverse roots)) =
    ap (λ (rs : List Record). onto 0 rs (reverse bodies, reverse roots)) e
    ∙ onto_last 0 more r (reverse bodies, reverse roots)
    ∙ ap (λ (k : ℕ). onto 0 more (planted k r (reverse bodies, reverse roots))) (omega arith) in
    ap (onto 0 more) (sym forest) ∙ sym split ∙ so_far
