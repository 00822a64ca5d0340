-- Which instruction makes each body: the one that uses its number.
use Rattle.std.proofs.Common.{◌≡◌, ◌<◌, ◌≤◌, ℕ, zero, suc, ◌+◌, List, [], ◌∷◌, ◌++◌, length, arith, refl, sym, ap, ◌∙◌, subst, Bool, true, false, nat_eq, length-append, append_assoc, inl, inr, ◌⊎◌, if◌then◌else◌}
use Rattle.std.specs.Prelude.{Option, Some, None, slice_get}
use Rattle.std.proofs.lemmas.Bool.{eqb-true, eq-eqb}
use Rattle.rite_code.specs.declared.code.Irep.{Irep}
use Rattle.rite_code.specs.declared.code.PoolItem.{PoolItem}
use Rattle.scope_resolver.specs.Layout.{Scopes}
use Rattle.code_outline.specs.Makers.{Made, use_in, child_made, numbered, made_in, first_maker}
use Rattle.code_outline.specs.declared.maker.Maker.{Maker}
use Rattle.code_outline.specs.declared.maker.Purpose.{Purpose}
use Rattle.gen_parts.specs.declared.line.Line.{Line}
use Rattle.gen_parts.specs.declared.line.Line.TheVariants as line
use Rattle.gen_parts.specs.declared.assembling.Head.{Head}
use Rattle.gen_parts.specs.Pieces.{Piece}
use Rattle.gen_parts.specs.Assembly.{size, instruction_before, instructions, assembled}
use Rattle.code_laws.proofs.Wells.{use_of, IsMade, none, plain, makes}
use Rattle.code_laws.proofs.Assembled.{standing_of, standing_lines}

-- ## What lines make

abbrev pub made_next : ℕ → ℕ → Option (ℕ × Purpose) → List ℕ → (List ℕ → List Made) → List Made
made_next n here None cs rest = rest cs
made_next n here (Some u) [] rest = []
made_next n here (Some u) (c ∷ cs) rest =
    record { child = c; maker = record { body = n; at = here; purpose = u.1 } } ∷ rest cs

abbrev pub mades : ℕ → Bool → ℕ → List Line → List ℕ → List Made
mades n wide here [] cs = []
mades n wide here (l ∷ ls) cs = made_next n here (use_of l) cs (λ ds. mades n wide (here + size wide l) ls ds)

same_use : (wide : Bool) (at : List ℕ) (next : ℕ) (l : Line)
    → use_in (instruction_before wide at next l).operation ≡ use_of l
unfolding instruction_before
same_use wide at next (line.Does o) = refl
same_use wide at next (line.Jump to) = refl
same_use wide at next (line.JumpIf r to) = refl
same_use wide at next (line.JumpNot r to) = refl
same_use wide at next (line.Leave to) = refl

pub child_at : (before cs : List ℕ) (c i : ℕ) → length before ≡ i → slice_get (before ++ c ∷ cs) i ≡ Some c
child_at [] cs c zero e = refl
child_at [] cs c (suc i) e = absurd (omega (arith, e))
child_at (b ∷ before) cs c zero e = absurd (omega (arith, e))
child_at (b ∷ before) cs c (suc i) e = child_at before cs c i (omega (arith, e))

module _ (n : ℕ) (b : Irep) (wide : Bool) (at : List ℕ) where
  pub made_is : {sc : Scopes} {i m : ℕ} {ls : List Line} {cs : List ℕ} {bs : List Irep} (here : ℕ) (before : List ℕ)
      → IsMade sc i m ls cs bs → b.children ≡ before ++ cs → length before ≡ i
      → made_in n b (standing_of here (instructions wide at here ls)) ≡ mades n wide here ls cs
  unfolding made_in standing_of
  made_is here before none e k = refl
  made_is here before (plain {sc} {child} {number} {ls} {cs} {bs} l u h) e k =
      let next = here + size wide l in
      let i = instruction_before wide at next l in
      ap (made_in n b) (standing_lines wide at here l ls)
      ∙ ap (λ (x : Option (ℕ × Purpose)). child_made n b here x
      ++ made_in n b (standing_of next (instructions wide at next ls))) (same_use wide at next l ∙ u)
      ∙ made_is next before h e k
      ∙ ap (λ (x : Option (ℕ × Purpose)). made_next n here x cs (λ ds. mades n wide next ls ds)) (sym u)
  made_is here before (makes {sc} {child} {number} {ls} {cs} {all} bs o u own h pool symbols q used sound is inner
      later) e k =
      let next = here + size wide (line.Does o) in
      let i = instruction_before wide at next (line.Does o) in
      let rest = made_in n b (standing_of next (instructions wide at next ls)) in
      let found : slice_get b.children child ≡ Some number =
      ap (λ (xs : List ℕ). slice_get xs child) e ∙ child_at before cs number child k in
      let made : Made = record { child = number; maker = record { body = n; at = here; purpose = u } } in
      ap (made_in n b) (standing_lines wide at here (line.Does o) ls)
      ∙ ap (λ (x : Option (ℕ × Purpose)). child_made n b here x ++ rest) (same_use wide at next (line.Does o) ∙ used)
      ∙ ap (λ (x : Option ℕ). numbered n here u x ++ rest) found
      ∙ ap (λ (xs : List Made). made ∷ xs)
      (made_is next (before ++ number ∷ []) later (e ∙ sym (append_assoc before (number ∷ []) cs))
      (omega (arith, length-append before (number ∷ []), k)))
      ∙ ap (λ (x : Option (ℕ × Purpose)). made_next n here x (number ∷ cs) (λ ds. mades n wide next ls ds)) (sym used)

-- ## Searches

abbrev pub Outside : ℕ → ℕ → ℕ → Type 0
Outside j low size = (j < low) ⊎ (low + size ≤ j)

differs : (i j : ℕ) → (i < j) ⊎ (j < i) → nat_eq i j ≡ false
differs i j h = at (nat_eq i j) refl h
  where
    at : (b : Bool) → nat_eq i j ≡ b → (i < j) ⊎ (j < i) → nat_eq i j ≡ false
    at true e (inl h) = absurd (omega (arith, eqb-true i j e, h))
    at true e (inr h) = absurd (omega (arith, eqb-true i j e, h))
    at false e h = e

-- one that isn't it
pub skipped : (j : ℕ) (m : Made) (ms : List Made) → (m.child < j) ⊎ (j < m.child)
    → first_maker j (m ∷ ms) ≡ first_maker j ms
unfolding first_maker
skipped j m ms h = rw (differs m.child j h) refl

pub found_first : (j : ℕ) (m : Made) (ms : List Made) → m.child ≡ j → first_maker j (m ∷ ms) ≡ Some m.maker
unfolding first_maker
found_first j m ms e = rw (eq-eqb m.child j e) refl

pub none_before : (j : ℕ) (xs ys : List Made) → first_maker j xs ≡ None → first_maker j (xs ++ ys) ≡ first_maker j ys
unfolding first_maker
none_before j [] ys e = refl
none_before j (x ∷ xs) ys e = at (nat_eq x.child j) e (none_before j xs ys)
  where
    at : (b : Bool) → (if b then Some x.maker else first_maker j xs) ≡ None
        → (first_maker j xs ≡ None → first_maker j (xs ++ ys) ≡ first_maker j ys)
        → (if b then Some x.maker else first_maker j (xs ++ ys)) ≡ first_maker j ys
    at true f g = absurd (cc f)
    at false f g = g f

pub none_behind : (j : ℕ) (xs ys : List Made) → first_maker j ys ≡ None → first_maker j (xs ++ ys) ≡ first_maker j xs
unfolding first_maker
none_behind j [] ys e = e
none_behind j (x ∷ xs) ys e =
    ap (λ (o : Option Maker). if nat_eq x.child j then Some x.maker else o) (none_behind j xs ys e)

pub none_both : (j : ℕ) (xs ys : List Made) → first_maker j xs ≡ None → first_maker j ys ≡ None
    → first_maker j (xs ++ ys) ≡ None
none_both j xs ys e f = none_before j xs ys e ∙ f

-- what lines make lies where their bodies do
pub below_more : (j m a b : ℕ) → Outside j m (1 + a + b) → Outside j (m + (1 + a)) b
below_more j m a b (inl h) = inl (omega (arith, h))
below_more j m a b (inr h) = inr (omega (arith, h))

pub inner_outside : (j m a b : ℕ) → Outside j m (1 + a + b) → Outside j (m + 1) a
inner_outside j m a b (inl h) = inl (omega (arith, h))
inner_outside j m a b (inr h) = inr (omega (arith, h))

head_differs : (j m a b : ℕ) → Outside j m (1 + a + b) → (m < j) ⊎ (j < m)
head_differs j m a b (inl h) = inr h
head_differs j m a b (inr h) = inl (omega (arith, h))

pub block_length : (h : Head) (pool : List PoolItem) (symbols : List (List ℕ)) (q : Piece) (bs all : List Irep)
    → all ≡ assembled h pool symbols q ++ bs → length all ≡ 1 + length q.bodies + length bs
unfolding assembled
block_length h pool symbols q bs all is = ap length is ∙ omega (arith, length-append q.bodies bs)

pub mades_none : {sc : Scopes} {i m : ℕ} {ls : List Line} {cs : List ℕ} {bs : List Irep} (n : ℕ) (wide : Bool)
    (here j : ℕ) → IsMade sc i m ls cs bs → Outside j m (length bs)
    → first_maker j (mades n wide here ls cs) ≡ None
unfolding first_maker
mades_none n wide here j none o = refl
mades_none n wide here j (plain {sc} {child} {number} {ls} {cs} {bs} l u h) o =
    ap (λ (x : Option (ℕ × Purpose)). first_maker j (made_next n here x cs
    (λ ds. mades n wide (here + size wide l) ls ds))) u
    ∙ mades_none n wide (here + size wide l) j h o
mades_none n wide here j (makes {sc} {child} {number} {ls} {cs} {all} bs op u own h pool symbols q used sound is inner
    later) o =
    let next = here + size wide (line.Does op) in
    let size = block_length h pool symbols q bs all is in
    let far = subst (Outside j number) size o in
    ap (λ (x : Option (ℕ × Purpose)). first_maker j (made_next n here x (number ∷ cs)
    (λ ds. mades n wide next ls ds))) used
    ∙ skipped j (record { child = number; maker = record { body = n; at = here; purpose = u } })
    (mades n wide next ls cs) (head_differs j number (length q.bodies) (length bs) far)
    ∙ mades_none n wide next j later (below_more j number (length q.bodies) (length bs) far)
