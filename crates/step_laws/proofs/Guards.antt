-- The entries that cover the lines of pieces: those of the one don't cover the other, and one that begins a piece is
-- the innermost of those around what it covers.
use Rattle.std.proofs.Common.{◌≡◌, ◌<◌, ◌≤◌, ℕ, ◌+◌, List, [], ◌∷◌, ◌++◌, length-append, arith, refl, ap, ◌∙◌, subst, Bool, true, false, nat_le, nat_lt}
use Rattle.std.specs.Prelude.{◌&&◌, if◌then◌else◌}
use Rattle.std.proofs.lemmas.Bool.{lt-ltb, le-ltb, le-leb, lt-leb}
use Rattle.rite_code.specs.declared.operation.Operation.{Operation}
use Rattle.rite_code.specs.declared.code.Irep.{Irep}
use Rattle.gen_parts.specs.declared.line.Line.{Line}
use Rattle.gen_parts.specs.declared.line.Catch.{Catch}
use Rattle.gen_parts.specs.Pieces.{Piece, nothing, both, puts, makes, catches, ◌⊕◌}
use Rattle.step_laws.specs.Standing.{high, KeepsWithin}
use Rattle.step_laws.specs.Guards.{is_over, guarding, guards_at, AreWithin}

pub high-both : (p q : Piece) → high (both p q) ≡ high p + high q
unfolding high both
high-both p q = length-append p.lines q.lines

-- Entries of a piece cover lines of it alone.

farther : (from to least most : ℕ) (cs : List Catch) → least ≤ from → to ≤ most → AreWithin from to cs
    → AreWithin least most cs
farther from to least most [] e f w = tt
farther from to least most (c ∷ cs) e f w = (
  record { begins = omega (arith, e, w.0.begins); rises = w.0.rises; ends = omega (arith, f, w.0.ends) },
  farther from to least most cs e f w.1,
)

within_more : (from to : ℕ) (cs ds : List Catch) → AreWithin from to cs → AreWithin from to ds
    → AreWithin from to (cs ++ ds)
within_more from to [] ds w v = v
within_more from to (c ∷ cs) ds w v = (w.0, within_more from to cs ds w.1 v)

pub within_both : (n : ℕ) (p q : Piece) → KeepsWithin n p → KeepsWithin (n + high p) q → KeepsWithin n (p ⊕ q)
unfolding KeepsWithin both
within_both n p q w v =
    let end : n + high (both p q) ≡ n + high p + high q = omega (arith, high-both p q) in
    within_more n (n + high (both p q)) p.catches q.catches
    (farther n (n + high p) n (n + high (both p q)) p.catches (omega arith) (omega (arith, end)) w)
    (farther (n + high p) (n + high p + high q) n (n + high (both p q)) q.catches (omega arith) (omega (arith, end)) v)

pub within_puts : (n : ℕ) (l : Line) → KeepsWithin n (puts l)
unfolding KeepsWithin puts
within_puts n l = tt

pub within_nothing : (n : ℕ) → KeepsWithin n nothing
unfolding KeepsWithin nothing
within_nothing n = tt

pub within_makes : (n : ℕ) (o : Operation) (i : ℕ) (bodies : List Irep) → KeepsWithin n (makes o i bodies)
unfolding KeepsWithin makes
within_makes n o i bodies = tt

pub within_moved : (n k : ℕ) (p : Piece) → n ≡ k → KeepsWithin n p → KeepsWithin k p
within_moved n k p e w = subst (λ (i : ℕ). KeepsWithin i p) e w

-- an entry that covers lines of a piece, and the piece
pub within_caught : (n : ℕ) (c : Catch) (p : Piece) → n ≤ c.begin → c.begin ≤ c.end → c.end ≤ n + high p
    → KeepsWithin n p → KeepsWithin n (catches c ⊕ p)
unfolding KeepsWithin both catches high
within_caught n c p e g f w = (record { begins = e; rises = g; ends = f }, w)

-- Where no entry covers a line there are those around alone.

pub over_by : (i : ℕ) (c : Catch) (gs : List Catch) → is_over i c ≡ true → guarding i c gs ≡ c ∷ gs
over_by i c gs e = ap (λ (b : Bool). if b then c ∷ gs else gs) e

pub none_by : (i : ℕ) (c : Catch) (gs : List Catch) → is_over i c ≡ false → guarding i c gs ≡ gs
none_by i c gs e = ap (λ (b : Bool). if b then c ∷ gs else gs) e

is_before : (i : ℕ) (c : Catch) → i < c.begin → is_over i c ≡ false
is_before i c h = ap (λ (b : Bool). b && nat_lt i c.end) (lt-leb c.begin i h)

and_false : (b t : Bool) → t ≡ false → (b && t) ≡ false
and_false true t e = e
and_false false t e = refl

pub is_behind : (i : ℕ) (c : Catch) → c.end ≤ i → is_over i c ≡ false
is_behind i c h = and_false (nat_le c.begin i) (nat_lt i c.end) (le-ltb i c.end h)

pub is_inside : (i : ℕ) (c : Catch) → c.begin ≤ i → i < c.end → is_over i c ≡ true
is_inside i c h g = ap (λ (b : Bool). b && nat_lt i c.end) (le-leb c.begin i h) ∙ lt-ltb i c.end g

-- those of a piece that begins later
pub none_before : (i from to : ℕ) (cs gs : List Catch) → i < from → AreWithin from to cs → guards_at i cs gs ≡ gs
none_before i from to [] gs h w = refl
none_before i from to (c ∷ cs) gs h w =
    ap (guards_at i cs) (none_by i c gs (is_before i c (omega (arith, h, w.0.begins))))
    ∙ none_before i from to cs gs h w.1

-- and those of one that has ended
pub none_behind : (i from to : ℕ) (cs gs : List Catch) → to ≤ i → AreWithin from to cs → guards_at i cs gs ≡ gs
none_behind i from to [] gs h w = refl
none_behind i from to (c ∷ cs) gs h w =
    ap (guards_at i cs) (none_by i c gs (is_behind i c (omega (arith, h, w.0.ends))))
    ∙ none_behind i from to cs gs h w.1

pub guards_both : (i : ℕ) (cs ds gs : List Catch) → guards_at i (cs ++ ds) gs ≡ guards_at i ds (guards_at i cs gs)
guards_both i [] ds gs = refl
guards_both i (c ∷ cs) ds gs = guards_both i cs ds (guarding i c gs)
