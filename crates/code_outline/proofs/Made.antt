-- What some instructions make, one instruction or one body more, and a body without children.
use Rattle.std.proofs.Common.{◌≡◌, refl, sym, ap, subst, ◌∙◌, ℕ, ◌+◌, ◌<◌, ◌≤◌, List, [], ◌∷◌, ◌++◌, length, get_or, take, map, append_assoc, arith, replicate}
use Rattle.std.specs.Prelude.{Option, None, Some, slice_get}
use Rattle.std.specs.Option.{option_or}
use Rattle.std.proofs.lemmas.List.{append-nil, map-append, take_more, take_all, get_or-replicate, length-replicate, length-take-le}
use Rattle.rite_code.specs.declared.code.Irep.{Irep}
use Rattle.rite_code.specs.Code.{Program, IsWhole}
use Rattle.code_outline.specs.declared.layout.Standing.{Standing as StandingValue}
use Rattle.code_outline.specs.declared.maker.Maker.{Maker}
use Rattle.code_outline.specs.declared.maker.Purpose.{Purpose}
use Rattle.code_outline.specs.Layout.{Standing, layout}
use Rattle.code_outline.specs.Makers.{made_by, made_in, made_from, first_maker, maker_of, child_made, numbered, use_in}
use Rattle.code_outline.specs.Making.{AreMarked}
use Rattle.code_outline.specs.Outlined.{seen, AreMakers}
use Rattle.code_outline.proofs.Marks.{marks-append}

made_in-append : (k : ℕ) (b : Irep) (ss ts : List Standing) → made_in k b (ss ++ ts) ≡ made_in k b ss ++ made_in k b ts
unfolding made_in
made_in-append k b [] ts = refl
made_in-append k b (s ∷ ss) ts = ap (λ x. made_by k b s ++ x) (made_in-append k b ss ts)
    ∙ sym (append_assoc (made_by k b s) (made_in k b ss) (made_in k b ts))

made_in-alone : (k : ℕ) (b : Irep) (s : Standing) → made_in k b (s ∷ []) ≡ made_by k b s
unfolding made_in
made_in-alone k b s = append-nil (made_by k b s)

pub made_in-more : (k : ℕ) (b : Irep) (ss : List StandingValue) (s : StandingValue)
    → made_in k b (map seen (ss ++ s ∷ [])) ≡ made_in k b (map seen ss) ++ made_by k b (seen s)
made_in-more k b ss s =
    ap (made_in k b) (map-append seen ss (s ∷ []))
    ∙ made_in-append k b (map seen ss) (seen s ∷ [])
    ∙ ap (λ x. made_in k b (map seen ss) ++ x) (made_in-alone k b (seen s))

-- a body without children makes nothing
none-made : (k at : ℕ) (b : Irep) (used : Option (ℕ × Purpose)) → b.children ≡ [] → child_made k b at used ≡ []
none-made k at b None e = refl
none-made k at b (Some u) e = ap (λ (xs : List ℕ). numbered k at u.1 (slice_get xs u.0)) e

without-children : (k : ℕ) (b : Irep) (ss : List Standing) → b.children ≡ [] → made_in k b ss ≡ []
unfolding made_in
without-children k b [] e = refl
without-children k b (s ∷ ss) e =
    ap (λ xs. xs ++ made_in k b ss) (none-made k s.at b (use_in s.instruction.operation) e)
    ∙ without-children k b ss e

no-items : (xs : List ℕ) → length xs ≡ 0 → xs ≡ []
no-items [] e = refl
no-items (x ∷ xs) e = absurd (omega (arith, e))

pub childless : (k : ℕ) (b : Irep) (ss : List Standing) → length b.children ≡ 0 → made_in k b ss ≡ []
childless k b ss e = without-children k b ss (no-items b.children e)

made_from-append : (version k : ℕ) (bs cs : List Irep)
    → made_from version k (bs ++ cs) ≡ made_from version k bs ++ made_from version (k + length bs) cs
unfolding made_from
made_from-append version k [] cs = let e : k + 0 ≡ k = omega arith in rw e refl
made_from-append version k (b ∷ bs) cs =
    let e : k + length (b ∷ bs) ≡ k + 1 + length bs = omega arith in
    rw e (ap (λ x. made_in k b (layout version b.code) ++ x) (made_from-append version (k + 1) bs cs)
    ∙ sym (append_assoc (made_in k b (layout version b.code)) (made_from version (k + 1) bs)
    (made_from version (k + 1 + length bs) cs)))

made_from-alone : (version k : ℕ) (b : Irep) → made_from version k (b ∷ []) ≡ made_in k b (layout version b.code)
unfolding made_from
made_from-alone version k b = append-nil (made_in k b (layout version b.code))

pub made_from-more : (version : ℕ) (bs : List Irep) (i : ℕ) (b : Irep) → i < length bs → b ≡ get_or bs i b
    → made_from version 0 (take (i + 1) bs) ≡ made_from version 0 (take i bs) ++ made_in i b (layout version b.code)
made_from-more version bs i b h r =
    let n : 0 + length (take i bs) ≡ i = omega (arith, h, length-take-le i bs (omega arith)) in
    ap (made_from version 0) (take_more bs i b h)
    ∙ ap (λ x. made_from version 0 (take i bs ++ x ∷ [])) (sym r)
    ∙ made_from-append version 0 (take i bs) (b ∷ [])
    ∙ ap (λ x. made_from version 0 (take i bs) ++ x) (made_from-alone version (0 + length (take i bs)) b)
    ∙ ap (λ x. made_from version 0 (take i bs) ++ made_in x b (layout version b.code)) n

-- the makers of one body more, and of all
pub marked-more : (version : ℕ) (bs : List Irep) (i : ℕ) (b : Irep) (old mid new : List (Option Maker))
    → i < length bs → b ≡ get_or bs i b → length mid ≡ length old
    → AreMarked (made_from version 0 (take i bs)) old mid → AreMarked (made_in i b (layout version b.code)) mid new
    → AreMarked (made_from version 0 (take (i + 1) bs)) old new
marked-more version bs i b old mid new h r n f g =
    rw (made_from-more version bs i b h r)
    (marks-append (made_from version 0 (take i bs)) (made_in i b (layout version b.code)) old mid new n f g)

pub marked-all : (p : Program) (n : ℕ) (xs : List (Option Maker)) → length p.bodies ≤ n
    → AreMarked (made_from p.version 0 (take n p.bodies)) (replicate (length p.bodies) None) xs → (j : ℕ)
    → j < length p.bodies → get_or xs j None ≡ maker_of p j
unfolding maker_of
marked-all p n xs h m j l =
    let none : Option Maker = None in
    let e : get_or (replicate (length p.bodies) none) j None ≡ none = get_or-replicate (length p.bodies) j None None
    l in
    m j (omega (arith, l, length-replicate (length p.bodies) none))
    ∙ ap (λ o. option_or o (first_maker j (made_from p.version 0 (take n p.bodies)))) e
    ∙ ap (λ bs. first_maker j (made_from p.version 0 bs)) (take_all n p.bodies h)

-- what is found up to body n, where there are no more
abbrev pub Reaches : Program → List Irep → ℕ → List (Option Maker) → Type 0
Reaches p bs n ms = IsWhole p × (length bs ≤ n) × (length ms ≡ length bs)
    × AreMarked (made_from p.version 0 (take n bs)) (replicate (length bs) None) ms

makers-whole : (p : Program) (n : ℕ) (ms : List (Option Maker)) → Reaches p p.bodies n ms → AreMakers p ms
makers-whole p n ms h = record { whole = h.0; count = h.2; makers = marked-all p n ms h.1 h.3 }

pub makers : (p : Program) (bs : List Irep) (n : ℕ) (ms : List (Option Maker)) → bs ≡ p.bodies → Reaches p bs n ms
    → AreMakers p ms
makers p bs n ms e = subst (λ (x : List Irep). Reaches p x n ms → AreMakers p ms) (sym e) (makers-whole p n ms)
