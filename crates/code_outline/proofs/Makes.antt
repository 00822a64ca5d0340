-- The maker of a body makes it.
use Rattle.std.proofs.Common.{◌≡◌, refl, sym, ℕ, suc, ◌+◌, List, [], ◌∷◌, true, false, arith, Contains}
use Rattle.std.specs.Prelude.{Option, None, Some, nat_eq, if◌then◌else◌, All, slice_get}
use Rattle.std.proofs.lemmas.Bool.{eqb-true}
use Rattle.std.proofs.lemmas.List.Elements.{All-nil, All-cons, All-head, All-tail, All-append, All-contains_itself}
use Rattle.std.proofs.lemmas.Option.{none-some, same_Some}
use Rattle.rite_code.specs.declared.code.Irep.{Irep}
use Rattle.rite_code.specs.Code.{Program}
use Rattle.code_outline.specs.declared.maker.Maker.{Maker}
use Rattle.code_outline.specs.declared.maker.Purpose.{Purpose}
use Rattle.code_outline.specs.Layout.{Standing, layout}
use Rattle.code_outline.specs.Makers.{Made, made_by, made_in, made_from, first_maker, maker_of, child_made, numbered, use_in}
use Rattle.code_outline.specs.Makes.{Makes}

abbrev pub IsMade : Program → Made → Type 0
IsMade p x = Makes p x.maker x.child

makes-numbered : (p : Program) (k : ℕ) (b : Irep) (s : Standing) (n : ℕ) (u : Purpose) (o : Option ℕ)
    → slice_get p.bodies k ≡ Some b → Contains (layout p.version b.code) s
    → use_in s.instruction.operation ≡ Some (n, u) → slice_get b.children n ≡ o → All (IsMade p) (numbered k s.at u o)
makes-numbered p k b s n u None h l e c = All-nil (IsMade p)
makes-numbered p k b s n u (Some j) h l e c =
    All-cons (IsMade p) _ [] (record {
      body = b;
      number = h;
      standing = s;
      stands = l;
      place = refl;
      index = n;
      uses = e;
      child = c;
    }) (All-nil (IsMade p))

makes-child : (p : Program) (k : ℕ) (b : Irep) (s : Standing) (o : Option (ℕ × Purpose))
    → slice_get p.bodies k ≡ Some b → Contains (layout p.version b.code) s → use_in s.instruction.operation ≡ o
    → All (IsMade p) (child_made k b s.at o)
makes-child p k b s None h l e = All-nil (IsMade p)
makes-child p k b s (Some u) h l e = makes-numbered p k b s u.0 u.1 (slice_get b.children u.0) h l e refl

makes-in : (p : Program) (k : ℕ) (b : Irep) (ss : List Standing) → slice_get p.bodies k ≡ Some b
    → All (Contains (layout p.version b.code)) ss → All (IsMade p) (made_in k b ss)
unfolding made_in
makes-in p k b [] h l = All-nil (IsMade p)
makes-in p k b (s ∷ ss) h l =
    All-append (IsMade p) (made_by k b s) (made_in k b ss)
    (makes-child p k b s (use_in s.instruction.operation) h (All-head (Contains (layout p.version b.code)) s ss l) refl)
    (makes-in p k b ss h (All-tail (Contains (layout p.version b.code)) s ss l))

makes-from : (p : Program) (k : ℕ) (bs : List Irep) → ((i : ℕ) → slice_get bs i ≡ slice_get p.bodies (k + i))
    → All (IsMade p) (made_from p.version k bs)
unfolding made_from
makes-from p k [] h = All-nil (IsMade p)
makes-from p k (b ∷ bs) h =
    let z : k + 0 ≡ k = omega arith in
    let here : slice_get p.bodies k ≡ Some b = rw (← z) (sym (h 0)) in
    let behind : (i : ℕ) → slice_get bs i ≡ slice_get p.bodies (k + 1 + i) = λ i. let n : k + 1 + i ≡ k + suc i =
    omega arith in rw n (h (suc i)) in
    All-append (IsMade p) (made_in k b (layout p.version b.code)) (made_from p.version (k + 1) bs)
    (makes-in p k b (layout p.version b.code) here (All-contains_itself (layout p.version b.code)))
    (makes-from p (k + 1) bs behind)

first_maker-makes : (p : Program) (j : ℕ) (ms : List Made) (m : Maker) → All (IsMade p) ms → first_maker j ms ≡ Some m
    → Makes p m j
unfolding first_maker
first_maker-makes p j [] m a e = absurd (none-some m e)
first_maker-makes p j (x ∷ ms) m a e = elim (nat_eq x.child j) as (λ b. nat_eq x.child j ≡ b
    → (if b then Some x.maker else first_maker j ms) ≡ Some m → Makes p m j) [
      | true ↦ λ t f. let g : x.maker ≡ m = same_Some _ _ f in let h : x.child ≡ j = eqb-true x.child j t in
          rw (← g, ← h) (All-head (IsMade p) x ms a)
      | false ↦ λ t f. first_maker-makes p j ms m (All-tail (IsMade p) x ms a) f
    ] refl e

pub maker_of-makes : (p : Program) (j : ℕ) (m : Maker) → maker_of p j ≡ Some m → Makes p m j
unfolding maker_of
maker_of-makes p j m e = first_maker-makes p j (made_from p.version 0 p.bodies) m
    (makes-from p 0 p.bodies (λ i. let z : 0 + i ≡ i = omega arith in rw z refl)) e
