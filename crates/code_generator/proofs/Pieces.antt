-- Pieces of code, and the bytes that they take.
use Rattle.std.proofs.Common.{◌≡◌, ℕ, ◌+◌, List, [], ◌∷◌, ◌++◌, subst, arith, Some}
use Rattle.path_core.specs.Form.{Name, Action, Form, strict, local, set_local, seq, cond, while_form, Forms, none, more}
use Rattle.rite_code.specs.Code.{Program}
use Rattle.rite_code.specs.declared.operation.Operation.{Operation}
use Rattle.rite_code.specs.declared.operation.Operation.TheVariants.{Move, LoadNil, Jmp, JmpNot}
use Rattle.rite_code.specs.Instruction.{narrow}
use Rattle.rite_code.specs.Shape.{size_of}
use Rattle.path_turns.specs.Turn.{fetch}
use Rattle.code_generator.specs.Gen.{distance, action_size, before_operands, register_of, len, len_all, len_rest, gen, gen_operands, gen_all, gen_rest}
use Rattle.code_generator.proofs.cases.Strict.{size_is}

-- instructions stand in a row from a byte on
abbrev pub HasAt : Program → ℕ → ℕ → List Operation → Type 0
HasAt p b at [] = Unit {0}
HasAt p b at (i ∷ is) = (fetch p b at ≡ Some (narrow i, at + size_of i)) × HasAt p b (at + size_of i) is

abbrev pub total : List Operation → ℕ
total [] = 0
total (i ∷ is) = size_of i + total is

pub total_append : (a b : List Operation) → total (a ++ b) ≡ total a + total b
total_append [] b = omega arith
total_append (i ∷ a) b = let h = total_append a b in omega (arith, h)

pub front : (p : Program) (b at : ℕ) (is rest : List Operation) → HasAt p b at (is ++ rest) → HasAt p b at is
front p b at [] rest h = tt
front p b at (i ∷ is) rest h = (h.0, front p b (at + size_of i) is rest h.1)

back_total : (p : Program) (b at : ℕ) (is rest : List Operation) → HasAt p b at (is ++ rest)
    → HasAt p b (at + total is) rest
back_total p b at [] rest h = let e : at ≡ at + 0 = omega arith in subst (λ (n : ℕ). HasAt p b n rest) e h
back_total p b at (i ∷ is) rest h = let e : at + size_of i + total is ≡ at + (size_of i + total is) = omega arith in
    subst (λ (n : ℕ). HasAt p b n rest) e (back_total p b (at + size_of i) is rest h.1)

pub back : (p : Program) (b at n : ℕ) (is rest : List Operation) → total is ≡ n → HasAt p b at (is ++ rest)
    → HasAt p b (at + n) rest
back p b at n is rest e h = subst (λ (m : ℕ). HasAt p b (at + m) rest) e (back_total p b at is rest h)

mutual
  pub gen_len : (ns : List Name) (e : Form) (r at : ℕ) → total (gen ns e r at) ≡ len e
  gen_len ns (strict a es) r at = gen_len_operands ns a es r (before_operands a) at
  gen_len ns (local x) r at = omega arith
  gen_len ns (set_local x e) r at = omega (
    arith,
    gen_len ns e r at,
    total_append (gen ns e r at) (Move (register_of ns x) r ∷ []),
  )
  gen_len ns (seq es) r at = gen_len_all ns es r at
  gen_len ns (cond c a b) r at =
      let e1 = gen_len ns c r at in let e2 = gen_len ns a r (at + len c + 4) in let e3 =
      gen_len ns b r (at + len c + 4 + len a + 3) in
      let second = Jmp (distance (at + len c + 4 + len a + 3) (at + len c + 4 + len a + 3 + len b)) ∷ gen ns b r
      (at + len c + 4 + len a + 3) in
      omega (
        arith,
        e1,
        e2,
        e3,
        total_append (gen ns c r at)
            (JmpNot r (distance (at + len c + 4) (at + len c + 4 + len a + 3)) ∷ (gen ns a r (at + len c + 4) ++ second)),
        total_append (gen ns a r (at + len c + 4)) second,
      )
  gen_len ns (while_form c b) r at =
      let u = at + len c + 4 + len b + 3 in
      let last = Jmp (distance u at) ∷ (LoadNil r ∷ []) in
      omega (
        arith,
        gen_len ns c r at,
        gen_len ns b r (at + len c + 4),
        total_append (gen ns c r at) (JmpNot r (distance (at + len c + 4) u) ∷ (gen ns b r (at + len c + 4) ++ last)),
        total_append (gen ns b r (at + len c + 4)) last,
      )

  pub gen_len_operands : (ns : List Name) (a : Action) (es : Forms) (r n at : ℕ)
      → total (gen_operands ns a es r n at) ≡ len_rest es + action_size a
  gen_len_operands ns a none r n at = omega (arith, size_is a r)
  gen_len_operands ns a (more e es) r n at = omega (
    arith,
    gen_len ns e (r + n) at,
    gen_len_operands ns a es r (n + 1) (at + len e),
    total_append (gen ns e (r + n) at) (gen_operands ns a es r (n + 1) (at + len e)),
  )

  pub gen_len_all : (ns : List Name) (es : Forms) (r at : ℕ) → total (gen_all ns es r at) ≡ len_all es
  gen_len_all ns none r at = omega arith
  gen_len_all ns (more e es) r at = omega (
    arith,
    gen_len ns e r at,
    gen_len_rest ns es r (at + len e),
    total_append (gen ns e r at) (gen_rest ns es r (at + len e)),
  )

  pub gen_len_rest : (ns : List Name) (es : Forms) (r at : ℕ) → total (gen_rest ns es r at) ≡ len_rest es
  gen_len_rest ns none r at = omega arith
  gen_len_rest ns (more e es) r at = omega (
    arith,
    gen_len ns e r at,
    gen_len_rest ns es r (at + len e),
    total_append (gen ns e r at) (gen_rest ns es r (at + len e)),
  )
