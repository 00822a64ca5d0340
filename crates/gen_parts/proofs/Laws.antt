-- Laws of pieces, spots and emissions.
use Rattle.std.proofs.Common.{◌≡◌, ℕ, ◌+◌, ◌<◌, List, [], ◌∷◌, ◌++◌, length, set, arith, append_assoc, length-append, refl, ap, sym, ◌∙◌}
use Rattle.std.proofs.lemmas.List.{append-nil, length-set, set-append_left}
use Rattle.std.proofs.Math.Nat.{add_assoc}
use Rattle.std.proofs.Math.Seq.{set-append_seam}
use Rattle.rite_code.specs.declared.code.Irep.{Irep}
use Rattle.gen_parts.specs.declared.line.Line.{Line}
use Rattle.gen_parts.specs.declared.line.Catch.{Catch}
use Rattle.gen_parts.specs.declared.emitter.Spot.{Spot}
use Rattle.gen_parts.specs.Pieces.{Piece, past, behind, nothing, both, puts, makes, catches}
use Rattle.gen_parts.specs.Emission.{Emission, with_piece, here, patched, caught, catch_count}

abbrev spot : ℕ → ℕ → ℕ → Spot
spot a b c = record { line = a; child = b; body = c }

same_spot : {a b c x y z : ℕ} → a ≡ x → b ≡ y → c ≡ z
    → spot a b c ≡ spot x y z
same_spot p q r = cc

-- Pieces one after the other.

pub both-both : (p q r : Piece) → both (both p q) r ≡ both p (both q r)
unfolding both
both-both p q r = simp append_assoc

pub both-nothing : (p : Piece) → both p nothing ≡ p
unfolding both nothing
both-nothing p = simp append-nil

pub nothing-both : (p : Piece) → both nothing p ≡ p
unfolding both nothing
nothing-both p = refl

pub with-both : (e : Emission) (p q : Piece) → with_piece (with_piece e p) q ≡ with_piece e (both p q)
unfolding with_piece both
with-both e p q = simp append_assoc

pub with-nothing : (e : Emission) → with_piece e nothing ≡ e
unfolding with_piece both nothing
with-nothing e = simp append-nil

-- Spots.

pub past-both : (s : Spot) (p q : Piece) → past s (both p q) ≡ past (past s p) q
unfolding past both
past-both s p q = simp (length-append, add_assoc)

pub past-nothing : (s : Spot) → past s nothing ≡ s
unfolding past nothing
past-nothing s = same_spot (omega arith) (omega arith) (omega arith)

pub past-puts : (s : Spot) (l : Line) → past s (puts l) ≡ behind s
unfolding past behind puts
past-puts s l = same_spot refl (omega arith) (omega arith)

pub past-catches : (s : Spot) (c : Catch) → past s (catches c) ≡ s
unfolding past catches
past-catches s c = same_spot (omega arith) (omega arith) (omega arith)

pub here-with : (e : Emission) (p : Piece) → here (with_piece e p) ≡ past (here e) p
unfolding here with_piece past both
here-with e p = simp (length-append, add_assoc)

-- Lines and entries that are put in the place of others.

pub here-patched : (e : Emission) (n : ℕ) (l : Line) → here (patched e n l) ≡ here e
unfolding here patched
here-patched e n l = simp length-set

pub here-caught : (e : Emission) (n : ℕ) (c : Catch) → here (caught e n c) ≡ here e
unfolding here caught
here-caught e n c = refl

-- a held line behind which code stands
pub landed : (e : Emission) (l m : Line) (p : Piece)
    → patched (with_piece (with_piece e (puts l)) p) (here e).line m ≡ with_piece (with_piece e (puts m)) p
unfolding patched with_piece here both puts
landed e l m p = simp (append_assoc, set-append_seam)

pub landed_catch : (e : Emission) (c d : Catch) (p : Piece)
    → caught (with_piece (with_piece e (catches c)) p) (catch_count e) d ≡ with_piece (with_piece e (catches d)) p
unfolding caught with_piece catch_count both catches
landed_catch e c d p = simp (append_assoc, set-append_seam)

-- a held line behind others, before more code
pub land_one : (e : Emission) (x p q : Piece) (l m : Line) (n : ℕ) → n ≡ (past (here e) x).line
    → patched (with_piece (with_piece e (both (both x (puts l)) p)) q) n m
    ≡ with_piece (with_piece (with_piece e (both x (puts m))) p) q
land_one e x p q l m n h =
    let before : with_piece (with_piece e (both (both x (puts l)) p)) q
    ≡ with_piece (with_piece (with_piece e x) (puts l)) (both p q) = simp (with-both, both-both) in
    let at : n ≡ (here (with_piece e x)).line = h ∙ ap (λ (k : Spot). k.line) (sym (here-with e x)) in
    let back : with_piece (with_piece (with_piece e x) (puts m)) (both p q)
    ≡ with_piece (with_piece (with_piece e (both x (puts m))) p) q = simp (with-both, both-both) in
    ap (λ (f : Emission). patched f n m) before
    ∙ (ap (λ (k : ℕ). patched (with_piece (with_piece (with_piece e x) (puts l)) (both p q)) k m) at
    ∙ (landed (with_piece e x) l m (both p q) ∙ back))

pub ruleset piece_laws = (
  both-both,
  both-nothing,
  nothing-both,
  with-both,
  with-nothing,
  past-both,
  past-nothing,
  past-puts,
  past-catches,
  here-with,
  here-patched,
  here-caught,
  landed,
  landed_catch,
)
