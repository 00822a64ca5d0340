-- Pieces of code that stand in a body, and the turn of a line.
use Rattle.std.proofs.Common.{◌≡◌, ℕ, ◌+◌, ℤ, List, [], ◌∷◌, ◌++◌, length, arith, refl, ap, ◌∙◌, subst, ◌<◌, ◌≤◌}
use Rattle.std.specs.Prelude.{pos, ◌+ℤ◌, ◌-ℤ◌, Option}
use Rattle.std.proofs.lemmas.Int.{ints}
use Rattle.rite_code.specs.Instruction.{Instruction}
use Rattle.rite_code.specs.declared.operation.Operation.{Operation}
use Rattle.gen_parts.specs.declared.line.Line.{Line}
use Rattle.gen_parts.specs.declared.line.Catch.{Catch}
use Rattle.gen_parts.specs.declared.line.Line.TheVariants as line
use Rattle.gen_parts.specs.declared.emitter.Spot.{Spot}
use Rattle.gen_parts.specs.Pieces.{Piece, past, behind, both, puts, nothing, catches, ◌⊕◌}
use Rattle.gen_parts.specs.Assembly.{instruction_before}
use Rattle.def_machine.specs.State.{Level, frame, Memory, On}
use Rattle.def_machine.specs.Turn.{target, turn, act, act_at}
use Rattle.step_laws.specs.Site.{Site, at_line, guarded_by, LineAt, Lines}
unfoldable pub use Rattle.step_laws.specs.Standing.{high, Stands}
pub use Rattle.step_laws.specs.Standing.{Rest, frame_at}
unfoldable pub use Rattle.step_laws.specs.Standing.{KeepsWithin}
use Rattle.step_laws.specs.Guards.{guards_at}
pub use Rattle.step_laws.proofs.Guards.{high-both, within_puts}
use Rattle.step_laws.proofs.Guards.{over_by, none_by, is_behind, is_inside, none_before, none_behind, guards_both}

pub high-puts : (l : Line) → high (puts l) ≡ 1
unfolding high puts
high-puts l = refl

pub high-nothing : high nothing ≡ 0
unfolding high nothing
high-nothing = refl

pub line-past : (s : Spot) (p : Piece) → (past s p).line ≡ s.line + high p
unfolding past high
line-past s p = refl

pub line-behind : (s : Spot) → (behind s).line ≡ s.line + 1
unfolding behind
line-behind s = refl

pub ruleset heights = (line-past, line-behind, high-both, high-puts, high-nothing)

pub moved : (h : Site) (n k : ℕ) (p : Piece) → n ≡ k → Stands h n p → Stands h k p
moved h n k p e s = subst (λ (i : ℕ). Stands h i p) e s

pub nothing_stands : (h : Site) (n : ℕ) → Stands h n nothing
unfolding Stands nothing
nothing_stands h n = tt

cut : (h : Site) (cs : List Catch) (n : ℕ) (ls ks : List Line) → Lines h cs n (ls ++ ks)
    → Lines h cs n ls × Lines h cs (n + length ls) ks
cut h cs n [] ks s = (tt, subst (λ (i : ℕ). Lines h cs i ks) (omega arith) s)
cut h cs n (l ∷ ls) ks s =
    let c = cut h cs (n + 1) ls ks s.1 in
    ((s.0, c.0), subst (λ (i : ℕ). Lines h cs i ks) (omega arith) c.1)

-- lines that entries cover as others do
pub same_lines : (h : Site) (cs ds gs : List Catch) (n : ℕ) (ls : List Line)
    → ((i : ℕ) → n ≤ i → i < n + length ls → guards_at i cs h.guards ≡ guards_at i ds gs)
    → Lines h cs n ls → Lines (guarded_by h gs) ds n ls
same_lines h cs ds gs n [] same s = tt
same_lines h cs ds gs n (l ∷ ls) same s = (
  subst (λ (es : List Catch). LineAt (guarded_by h es) n l) (same n (omega arith) (omega arith)) s.0,
  same_lines h cs ds gs (n + 1) ls (λ i least most. same i (omega (arith, least)) (omega (arith, most))) s.1,
)

-- The parts of a piece: entries of the one don't cover the other.
pub left : (h : Site) (n : ℕ) (p q : Piece) → KeepsWithin (n + high p) q → Stands h n (both p q) → Stands h n p
unfolding Stands KeepsWithin both high
left h n p q v s =
    same_lines h (p.catches ++ q.catches) p.catches h.guards n p.lines
    (λ i least most. guards_both i p.catches q.catches h.guards
    ∙ none_before i (n + high p) (n + high p + high q) q.catches (guards_at i p.catches h.guards) most v)
    (cut h (p.catches ++ q.catches) n p.lines q.lines s).0

pub right : (h : Site) (n : ℕ) (p q : Piece) → KeepsWithin n p → Stands h n (both p q) → Stands h (n + high p) q
unfolding Stands KeepsWithin both high
right h n p q w s =
    same_lines h (p.catches ++ q.catches) q.catches h.guards (n + high p) q.lines
    (λ i least most. guards_both i p.catches q.catches h.guards
    ∙ ap (guards_at i q.catches) (none_behind i n (n + high p) p.catches h.guards least w))
    (cut h (p.catches ++ q.catches) n p.lines q.lines s).1

-- What an entry covers has it before those around, and what stands behind has those around.
pub caught : (h : Site) (n : ℕ) (c : Catch) (p q : Piece) → c.begin ≤ n → c.end ≡ n + high p
    → KeepsWithin (n + high p) q → Stands h n (catches c ⊕ p ⊕ q) → Stands (guarded_by h (c ∷ h.guards)) n p
unfolding Stands KeepsWithin both catches high
caught h n c p q e f v s =
    same_lines h (c ∷ (p.catches ++ q.catches)) p.catches (c ∷ h.guards) n p.lines
    (λ i least most. ap (guards_at i (p.catches ++ q.catches))
    (over_by i c h.guards (is_inside i c (omega (arith, e, least)) (omega (arith, f, most))))
    ∙ guards_both i p.catches q.catches (c ∷ h.guards)
    ∙ none_before i (n + high p) (n + high p + high q) q.catches (guards_at i p.catches (c ∷ h.guards)) most v)
    (cut h (c ∷ (p.catches ++ q.catches)) n p.lines q.lines s).0

pub past_caught : (h : Site) (n : ℕ) (c : Catch) (p q : Piece) → c.end ≡ n + high p → KeepsWithin n p
    → Stands h n (catches c ⊕ p ⊕ q) → Stands h (n + high p) q
unfolding Stands KeepsWithin both catches high
past_caught h n c p q f w s =
    same_lines h (c ∷ (p.catches ++ q.catches)) q.catches h.guards (n + high p) q.lines
    (λ i least most. ap (guards_at i (p.catches ++ q.catches)) (none_by i c h.guards (is_behind i c (omega (arith, f, least))))
    ∙ guards_both i p.catches q.catches h.guards
    ∙ ap (guards_at i q.catches) (none_behind i n (n + high p) p.catches h.guards least w))
    (cut h (c ∷ (p.catches ++ q.catches)) n p.lines q.lines s).1

-- the same of pieces that begin at a spot
abbrev pub Keeps : Spot → Piece → Type 0
Keeps s p = KeepsWithin s.line p

-- the next spot is at the next line
pub past_here : (s : Spot) (p : Piece) (n : ℕ) → s.line ≡ n → (past s p).line ≡ n + high p
past_here s p n here = line-past s p ∙ ap (λ (i : ℕ). i + high p) here

pub left_at : (h : Site) (n : ℕ) (s : Spot) (p q : Piece) → s.line ≡ n → Keeps (past s p) q → Stands h n (both p q)
    → Stands h n p
left_at h n s p q here v x =
    left h n p q (subst (λ (i : ℕ). KeepsWithin i q) (past_here s p n here) v) x

pub right_at : (h : Site) (n : ℕ) (s : Spot) (p q : Piece) → s.line ≡ n → Keeps s p → Stands h n (both p q)
    → Stands h (n + high p) q
right_at h n s p q here w x = right h n p q (subst (λ (i : ℕ). KeepsWithin i p) here w) x

pub the_line : (h : Site) (n : ℕ) (l : Line) → Stands h n (puts l) → LineAt h n l
unfolding Stands puts
the_line h n l s = s.0

-- Turns.

pub turned : (h : Site) (x : Rest) (n : ℕ) (o : Operation) (ls : List Level) (m : Memory)
    → LineAt h n (line.Does o)
    → turn h.program (On (frame (frame_at h x n) ∷ ls) m)
    ≡ act h.program o (at_line h (n + 1)) (frame_at h x n) ls m
unfolding instruction_before
turned h x n o ls m l = ap (λ (i : Option (Instruction × ℕ)). act_at h.program i (frame_at h x n) ls m) l.here

target_of : (z : ℤ) (next to : ℕ) → pos next +ℤ z ≡ pos to → target next z ≡ to
unfolding target
target_of z next to e = rw e refl

pub leads : (next to : ℕ) → target next (pos to -ℤ pos next) ≡ to
leads next to =
    let e : pos next +ℤ (pos to -ℤ pos next) ≡ pos to = omega (arith, ints) in
    target_of (pos to -ℤ pos next) next to e

pub jumped : (h : Site) (x : Rest) (n to : ℕ) (ls : List Level) (m : Memory) → LineAt h n (line.Jump to)
    → turn h.program (On (frame (frame_at h x n) ∷ ls) m) ≡ On (frame (frame_at h x to) ∷ ls) m
unfolding instruction_before
jumped h x n to ls m l =
    ap (λ (i : Option (Instruction × ℕ)). act_at h.program i (frame_at h x n) ls m) l.here
    ∙ ap (λ (k : ℕ). On (frame (record (frame_at h x n) { place = k }) ∷ ls) m)
    (leads (at_line h (n + 1)) (at_line h to))
