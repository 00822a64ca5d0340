-- No check of the verifier fails at the instruction of a line that is fine.
use Rattle.std.proofs.Common.{◌≡◌, ◌<◌, ◌≤◌, ℕ, ◌+◌, List, [], ◌∷◌, ◌++◌, length, drop, arith, refl, sym, ap, ◌∙◌, subst, Bool, true, false, nat_eq, nat_lt, nat_le}
use Rattle.std.specs.Prelude.{Option, Some, None, pos, ◌-ℤ◌, ◌||◌, ◌&&◌, not}
use Rattle.std.specs.List.{list_all}
use Rattle.std.proofs.lemmas.Bool.{lt-ltb, le-leb, eqb-true}
use Rattle.rite_code.specs.declared.code.Irep.{Irep}
use Rattle.rite_code.specs.declared.operation.Operation.{Operation}
use Rattle.rite_code.specs.declared.operation.Operation.TheVariants as op
use Rattle.rite_code.specs.Instruction.{instruction}
use Rattle.rite_code.specs.Code.{Program}
use Rattle.scope_resolver.specs.Layout.{has_parameters}
use Rattle.code_outline.specs.Layout.{Standing, is_start}
use Rattle.code_outline.specs.Makers.{child_made, maker_of, use_in}
use Rattle.code_verifier.specs.Needs.{registers_of, symbols_of, entry_of, distance_of, variable_of, count_of, leaves, parameters_of}
use Rattle.code_verifier.specs.Checks.{Bad, first, entry_holds, child_holds, jump_holds, variable_holds, enter_holds, takes_arguments, has_maker, place_holds, makes_once, is_used, cause_of, bad, instructions_bad}
use Rattle.gen_parts.specs.declared.line.Line.{Line}
use Rattle.gen_parts.specs.declared.line.Line.TheVariants as line
use Rattle.gen_parts.specs.Assembly.{size, place_of, instruction_before, instructions}
use Rattle.code_laws.proofs.Serves.{Room, Seat, Serves, items_of}
use Rattle.code_laws.proofs.Wells.{FineLine, FineLines, use_of}
use Rattle.code_laws.proofs.Assembled.{standing_of, standing_lines, sizes, some_line, leads_there}

-- whether control goes on elsewhere behind a line
abbrev pub line_leaves : Line → Bool
line_leaves (line.Does o) = leaves o
line_leaves (line.Jump to) = true
line_leaves (line.JumpIf r to) = false
line_leaves (line.JumpNot r to) = false
line_leaves (line.Leave to) = true

abbrev pub LastLeaves : List Line → Type 0
LastLeaves [] = Unit
LastLeaves (l ∷ []) = line_leaves l ≡ true
LastLeaves (l ∷ (k ∷ ls)) = LastLeaves (k ∷ ls)

pub last_leaves : (ls : List Line) (o : Operation) → leaves o ≡ true → LastLeaves (ls ++ line.Does o ∷ [])
last_leaves [] o h = h
last_leaves (l ∷ []) o h = h
last_leaves (l ∷ (k ∷ ls)) o h = last_leaves (k ∷ ls) o h

-- ## What a body of a program knows

pub record Stood (p : Program) (n : ℕ) (m : Room) (b : Irep) : Type 0 where
  pub seat : Seat m.kind m.scopes
  pub program : seat.program ≡ p
  pub number : seat.number ≡ n
  pub takes : takes_arguments (maker_of p n) ≡ has_parameters m.kind
  pub has : (nat_eq n 0 || has_maker (maker_of p n)) ≡ true
  pub registers : b.registers ≡ m.registers
  pub pool : b.pool ≡ items_of m
  pub symbols : b.symbols ≡ m.symbols

-- each line that uses a child is the one that makes it
abbrev pub Used : Program → ℕ → Irep → Bool → ℕ → List Line → Type 0
Used p n b wide here [] = Unit
Used p n b wide here (l ∷ ls) =
    (child_holds b (use_of l) ≡ true) × (makes_once p n here (child_made n b here (use_of l)) ≡ true)
    × Used p n b wide (here + size wide l) ls

-- ## One instruction

-- what the checks ask of an operation at a place
pub record Good (p : Program) (n : ℕ) (b : Irep) (ss : List Standing) (at next : ℕ) (o : Operation) : Type 0 where
  pub counted : nat_le (count_of o) 255 ≡ true
  pub registers : nat_le (registers_of o) b.registers ≡ true
  pub entry : entry_holds b.pool (entry_of o) ≡ true
  pub symbols : list_all (λ i. nat_lt i (length b.symbols)) (symbols_of o) ≡ true
  pub child : child_holds b (use_in o) ≡ true
  pub jump : jump_holds ss next (distance_of o) ≡ true
  pub variable : variable_holds p n (variable_of o) ≡ true
  pub enter : enter_holds (takes_arguments (maker_of p n)) at b (drop 1 ss) (parameters_of o) ≡ true
  pub place : place_holds n (maker_of p n) o ≡ true
  pub once : makes_once p n at (child_made n b at (use_in o)) ≡ true
  pub used : is_used p n at ≡ true
  pub fall : (leaves o || nat_lt next (length b.code)) ≡ true

pub no_cause : (p : Program) (n : ℕ) (b : Irep) (ss : List Standing) (at next : ℕ) (w : Bool) (o : Operation)
    → Good p n b ss at next o
    → cause_of p n b ss (record { at = at; next = next; instruction = instruction w o }) ≡ None
unfolding cause_of first
no_cause p n b ss at next w o h = rw (
  h.counted,
  h.registers,
  h.entry,
  h.symbols,
  h.child,
  h.jump,
  h.variable,
  h.enter,
  h.place,
  h.once,
  h.used,
  h.fall,
) refl

pub not_zero : (n : ℕ) → 0 < n → nat_eq n 0 ≡ false
not_zero n h = at (nat_eq n 0) refl
  where
    at : (b : Bool) → nat_eq n 0 ≡ b → nat_eq n 0 ≡ false
    at true e = absurd (omega (arith, eqb-true n 0 e, h))
    at false e = e

away : (takes : Bool) (at : ℕ) → (0 < at) → not (takes && nat_eq at 0) ≡ true
away true at h = rw (not_zero at h) refl
away false at h = refl

-- a line behind the first, or of a body that takes no arguments
abbrev pub Behind : Bool → ℕ → Type 0
Behind true at = 0 < at
Behind false at = Unit

no_enter : (takes : Bool) (at : ℕ) → Behind takes at → not (takes && nat_eq at 0) ≡ true
no_enter true at h = away true at h
no_enter false at h = refl

pub any_used : (p : Program) (n at : ℕ) → (nat_eq n 0 || has_maker (maker_of p n)) ≡ true → is_used p n at ≡ true
any_used p n at h = by (nat_eq n 0) (not (nat_eq at 0)) (has_maker (maker_of p n)) h
  where
    by : (x y z : Bool) → (x || z) ≡ true → (x || y || z) ≡ true
    by true y z e = refl
    by false true z e = refl
    by false false z e = e

goes_on : (leave : Bool) (next size : ℕ) → next < size → (leave || nat_lt next size) ≡ true
goes_on true next size h = refl
goes_on false next size h = lt-ltb next size h

left : (leave : Bool) (b : Bool) → leave ≡ true → (leave || b) ≡ true
left true b e = refl
left false b e = absurd (cc)

module _ (p : Program) (n : ℕ) (m : Room) (b : Irep) (stood : Stood p n m b) (ss : List Standing) where
  variable_there : (o : Operation) → Serves m o → variable_holds p n (variable_of o) ≡ true
  variable_there o s =
      subst (λ (k : ℕ). variable_holds p k (variable_of o) ≡ true) stood.number
      (subst (λ (q : Program). variable_holds q stood.seat.number (variable_of o) ≡ true) stood.program
      (s.variable stood.seat))

  place_there : (o : Operation) → Serves m o → place_holds n (maker_of p n) o ≡ true
  place_there o s =
      subst (λ (k : ℕ). place_holds k (maker_of p k) o ≡ true) stood.number
      (subst (λ (q : Program). place_holds stood.seat.number (maker_of q stood.seat.number) o ≡ true) stood.program
      (s.place stood.seat))

  few_there : (k : ℕ) → k ≤ m.registers → nat_le k b.registers ≡ true
  few_there k h = le-leb k b.registers (omega (arith, h, stood.registers))

  pub does_good : (at next : ℕ) (o : Operation) → Serves m o → child_holds b (use_in o) ≡ true
      → makes_once p n at (child_made n b at (use_in o)) ≡ true → Behind (takes_arguments (maker_of p n)) at
      → (leaves o || nat_lt next (length b.code)) ≡ true → Good p n b ss at next o
  does_good at next o s child once behind fall = record {
    counted = s.counted;
    registers = few_there (registers_of o) s.registers;
    entry = subst (λ items. entry_holds items (entry_of o) ≡ true) (sym stood.pool) s.entry;
    symbols = subst (λ (names : List (List ℕ)). list_all (λ i. nat_lt i (length names)) (symbols_of o) ≡ true)
        (sym stood.symbols) s.symbols;
    child = child;
    jump = ap (jump_holds ss next) s.jump;
    variable = variable_there o s;
    enter = ap (enter_holds (takes_arguments (maker_of p n)) at b (drop 1 ss)) s.enter
        ∙ no_enter (takes_arguments (maker_of p n)) at behind;
    place = place_there o s;
    once = once;
    used = any_used p n at stood.has;
    fall = fall;
  }

  -- a jump to where an instruction starts
  jump_good : (at next to : ℕ) (o : Operation) → is_start ss to ≡ true
      → distance_of o ≡ Some (pos to -ℤ pos next)
      → nat_le (count_of o) 255 ≡ true → registers_of o ≤ m.registers → entry_of o ≡ None → symbols_of o ≡ []
      → use_in o ≡ None → variable_of o ≡ None → parameters_of o ≡ None
      → place_holds n (maker_of p n) o ≡ true → Behind (takes_arguments (maker_of p n)) at
      → (leaves o || nat_lt next (length b.code)) ≡ true → Good p n b ss at next o
  jump_good at next to o start d c r e s u v q l behind fall = record {
    counted = c;
    registers = few_there (registers_of o) r;
    entry = ap (entry_holds b.pool) e;
    symbols = ap (list_all (λ i. nat_lt i (length b.symbols))) s;
    child = ap (child_holds b) u;
    jump = ap (jump_holds ss next) d ∙ leads_there ss next to start;
    variable = ap (variable_holds p n) v;
    enter = ap (enter_holds (takes_arguments (maker_of p n)) at b (drop 1 ss)) q
        ∙ no_enter (takes_arguments (maker_of p n)) at behind;
    place = l;
    once = ap (λ x. makes_once p n at (child_made n b at x)) u;
    used = any_used p n at stood.has;
    fall = fall;
  }

  module _ (wide : Bool) (at : List ℕ) (end : ℕ)
      (starts : (to : ℕ) → to ≤ end → is_start ss (place_of at to) ≡ true) where
    pub line_good : (here : ℕ) (l : Line) → FineLine m end l → child_holds b (use_of l) ≡ true
        → makes_once p n here (child_made n b here (use_of l)) ≡ true → Behind (takes_arguments (maker_of p n)) here
        → (line_leaves l || nat_lt (here + size wide l) (length b.code)) ≡ true
        → Good p n b ss here (here + size wide l) (instruction_before wide at (here + size wide l) l).operation
    unfolding instruction_before
    line_good here (line.Does o) f child once behind fall =
        does_good here (here + size wide (line.Does o)) o f child once behind fall
    line_good here (line.Jump to) f child once behind fall =
        jump_good here (here + size wide (line.Jump to)) (place_of at to) (op.Jmp _) (starts to f) refl refl
        (omega arith)
        refl refl refl refl refl refl behind fall
    line_good here (line.JumpIf r to) f child once behind fall =
        jump_good here (here + size wide (line.JumpIf r to)) (place_of at to) (op.JmpIf r _) (starts to f.1) refl refl
        (omega (arith, f.0)) refl refl refl refl refl refl behind fall
    line_good here (line.JumpNot r to) f child once behind fall =
        jump_good here (here + size wide (line.JumpNot r to)) (place_of at to) (op.JmpNot r _) (starts to f.1) refl refl
        (omega (arith, f.0)) refl refl refl refl refl refl behind fall
    line_good here (line.Leave to) f child once behind fall =
        jump_good here (here + size wide (line.Leave to)) (place_of at to) (op.JmpUw _) (starts to f) refl refl
        (omega arith) refl refl refl refl refl refl behind fall

    pub falls : (here : ℕ) (l : Line) (ls : List Line) → LastLeaves (l ∷ ls)
        → here + sizes wide (l ∷ ls) ≡ length b.code
        → (line_leaves l || nat_lt (here + size wide l) (length b.code)) ≡ true
    unfolding sizes
    falls here l [] h e = left (line_leaves l) (nat_lt (here + size wide l) (length b.code)) h
    falls here l (k ∷ ls) h e =
        goes_on (line_leaves l) (here + size wide l) (length b.code) (omega (arith, e, some_line wide k))

    pub later_behind : (takes : Bool) (here : ℕ) (l : Line) → Behind takes (here + size wide l)
    later_behind true here l = omega (arith, some_line wide l)
    later_behind false here l = tt

    pub later_leaves : (l : Line) (ls : List Line) → LastLeaves (l ∷ ls) → LastLeaves ls
    later_leaves l [] h = tt
    later_leaves l (k ∷ ls) h = h

    pub none_fails : (here : ℕ) (ls : List Line) (others : List (Option Bad)) → FineLines m end ls
        → Used p n b wide here ls → Behind (takes_arguments (maker_of p n)) here → LastLeaves ls
        → here + sizes wide ls ≡ length b.code
        → first (instructions_bad p n b ss (standing_of here (instructions wide at here ls)) ++ others) ≡ first others
    unfolding first standing_of sizes
    none_fails here [] others f u behind h e = refl
    none_fails here (l ∷ ls) others f u behind h e =
        let next = here + size wide l in
        let i = instruction_before wide at next l in
        let s : Standing = record { at = here; next = next; instruction = i } in
        let rest = standing_of next (instructions wide at next ls) in
        ap (λ (xs : List Standing). first (instructions_bad p n b ss xs ++ others)) (standing_lines wide at here l ls)
        ∙ ap (λ (c : Option _). first (bad n here c ∷ (instructions_bad p n b ss rest ++ others)))
        (no_cause p n b ss here next i.wide i.operation
        (line_good here l f.0 u.0 u.1 behind (falls here l ls h e)))
        ∙ none_fails next ls others f.1 u.2 (later_behind (takes_arguments (maker_of p n)) here l)
        (later_leaves l ls h) (omega (arith, e))
