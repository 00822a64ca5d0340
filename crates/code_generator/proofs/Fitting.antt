-- Every operand of the generated code fits a narrow instruction.
use Rattle.std.proofs.Common.{◌≡◌, ℕ, ◌+◌, ◌<◌, ◌≤◌, ℤ, pos, negsuc, List, [], ◌∷◌, ◌++◌, refl, arith, Bool, true, false, cond, ◌&&◌}
use Rattle.std.specs.Prelude.{IsTrue, nat_lt}
use Rattle.std.proofs.lemmas.Bool.{and_parts}
use Rattle.std.proofs.lemmas.Bool.Decides.{nat_tests}
use Rattle.path_core.specs.Form.{Name, Action, give_nil, give_true, give_int, call_operator, call_puts, Form, strict, local, set_local, seq, cond as cond_form, while_form, Forms, none, more}
use Rattle.code_generator.specs.Limits.{is_plain_action, is_plain, are_plain}
use Rattle.rb_syntax.specs.declared.operator.Operator.TheVariants.{Plus, Minus, Times, Equal, Less, LessEqual, Greater, GreaterEqual}
use Rattle.rite_code.specs.Code.{Program}
use Rattle.rite_code.specs.declared.operation.Operation.{Operation}
use Rattle.rite_code.specs.declared.operation.Operation.TheVariants.{Move, LoadI, LoadI16, LoadI32}
use Rattle.rite_code.specs.Instruction.{narrow}
use Rattle.rite_code.specs.Shape.{fits, is_byte, is_short, is_long}
use Rattle.path_turns.specs.State.{body_at}
use Rattle.code_generator.specs.Gen.{distance, load_number, action_of, action_size, before_operands, register_of, len, len_all, len_rest, gen, gen_operands, gen_all, gen_rest, width, operands_width, all_width}
use Rattle.code_generator.proofs.Bounds.{has_operands, three_parts}
use Rattle.code_generator.proofs.Jumps.{distance_short}
use Rattle.code_generator.proofs.Generated.{Fine, AllFine}

abbrev pub AllFit : List Operation → Type 0
AllFit [] = Unit {0}
AllFit (o ∷ os) = IsTrue (fits (narrow o)) × AllFit os

pub AllFit-append : (a b : List Operation) → AllFit a → AllFit b → AllFit (a ++ b)
AllFit-append [] b f g = g
AllFit-append (o ∷ a) b f g = (f.0, AllFit-append a b f.1 g)

pub AllFit-behind : (a b : List Operation) → AllFit (a ++ b) → AllFit b
AllFit-behind [] b f = f
AllFit-behind (o ∷ a) b f = AllFit-behind a b f.1

both : (x y : Bool) → x ≡ true → y ≡ true → (x && y) ≡ true
both true true e f = refl
both true false e f = f
both false y e f = absurd (cc)

pub byte : (n : ℕ) → n < 256 → is_byte n ≡ true
byte n lt = grind (arith, nat_tests)

-- a number fits whichever instruction is the shortest
load_fits : (r : ℕ) (z : ℤ) → r < 256 → is_long z ≡ true → fits (narrow (load_number r z)) ≡ true
load_fits r (pos n) lt long = by (nat_lt n 256) refl (nat_lt n 32768) refl
  where
    by : (s : Bool) → nat_lt n 256 ≡ s → (t : Bool) → nat_lt n 32768 ≡ t
        → fits (narrow (cond s (LoadI r n) (cond t (LoadI16 r (pos n)) (LoadI32 r (pos n))))) ≡ true
    by true e t f = both (is_byte r) (is_byte n) (byte r lt) e
    by false e true f = both (is_byte r) (is_short (pos n)) (byte r lt) f
    by false e false f = both (is_byte r) (is_long (pos n)) (byte r lt) long
load_fits r (negsuc n) lt long = by (nat_lt n 32768) refl
  where
    by : (t : Bool) → nat_lt n 32768 ≡ t → fits (narrow (cond t (LoadI16 r (negsuc n)) (LoadI32 r (negsuc n)))) ≡ true
    by true f = both (is_byte r) (is_short (negsuc n)) (byte r lt) f
    by false f = both (is_byte r) (is_long (negsuc n)) (byte r lt) long

action_fits : (a : Action) (r : ℕ) → is_plain_action a ≡ true → r < 256 → fits (narrow (action_of a r)) ≡ true
action_fits give_nil r h lt = byte r lt
action_fits give_true r h lt = byte r lt
action_fits (give_int (pos n)) r h lt = load_fits r (pos n) lt h
action_fits (give_int (negsuc n)) r h lt = load_fits r (negsuc n) lt h
action_fits (call_operator Plus) r h lt = byte r lt
action_fits (call_operator Minus) r h lt = byte r lt
action_fits (call_operator Times) r h lt = byte r lt
action_fits (call_operator Equal) r h lt = byte r lt
action_fits (call_operator Less) r h lt = byte r lt
action_fits (call_operator LessEqual) r h lt = byte r lt
action_fits (call_operator Greater) r h lt = byte r lt
action_fits (call_operator GreaterEqual) r h lt = byte r lt
action_fits call_puts r h lt = both (is_byte r && true) true (both (is_byte r) true (byte r lt) refl) refl

pub plain_action : (a : Action) (es : Forms) → is_plain (strict a es) ≡ true → is_plain_action a ≡ true
plain_action a es h = (and_parts (is_plain_action a) _ (and_parts _ (are_plain es) h).0).0

module _ (p : Program) (b : ℕ) (ns : List Name) (few : (body_at p b).locals ≤ 256) where
  mutual
    pub gen_fits : (e : Form) (r at : ℕ) → is_plain e ≡ true → Fine p b ns e → r + width e ≤ 256 → at + len e < 32768
        → AllFit (gen ns e r at)
    gen_fits (strict a es) r at h fine wide end =
        operands_fit a es r (before_operands a) at (plain_action a es h) (has_operands a es h).1 fine.2
        (omega (arith, wide)) (omega (arith, wide)) (omega (arith, end))
    gen_fits (local x) r at h fine wide end = (
      both (is_byte r) (is_byte (register_of ns x)) (byte r (omega (arith, wide)))
          (byte (register_of ns x) (omega (arith, fine, few))),
      tt,
    )
    gen_fits (set_local x e) r at h fine wide end =
        AllFit-append (gen ns e r at) (Move (register_of ns x) r ∷ [])
        (gen_fits e r at h fine.1 wide (omega (arith, end))) (
          both (is_byte (register_of ns x)) (is_byte r) (byte (register_of ns x) (omega (arith, fine.0, few)))
              (byte r (omega (arith, wide, width_pos e))),
          tt,
        )
    gen_fits (seq es) r at h fine wide end = all_fit es r at h fine wide (omega (arith, end))
    gen_fits (cond_form q e f) r at h fine wide end =
        let parts = three_parts (is_plain q) (is_plain e) (is_plain f) h in
        let A = at + len q + 4 in let B = A + len e + 3 in
        let low : r < 256 = omega (arith, wide, width_pos q) in
        AllFit-append (gen ns q r at) _ (gen_fits q r at parts.0 fine.0 (omega (arith, wide)) (omega (arith, end))) (
          both (is_byte r) (is_short (distance A B)) (byte r low)
              (distance_short A B (omega (arith, end)) (omega (arith, end))),
          AllFit-append (gen ns e r A) _ (gen_fits e r A parts.1 fine.1 (omega (arith, wide)) (omega (arith, end))) (
            distance_short B (B + len f) (omega (arith, end)) (omega (arith, end)),
            gen_fits f r B parts.2 fine.2 (omega (arith, wide)) (omega (arith, end)),
          ),
        )
    gen_fits (while_form q e) r at h fine wide end =
        let parts = and_parts (is_plain q) (is_plain e) h in
        let A = at + len q + 4 in let U = A + len e + 3 in
        let low : r < 256 = omega (arith, wide) in
        AllFit-append (gen ns q r at) _ (gen_fits q r at parts.0 fine.0 (omega (arith, wide)) (omega (arith, end))) (
          both (is_byte r) (is_short (distance A U)) (byte r low)
              (distance_short A U (omega (arith, end)) (omega (arith, end))),
          AllFit-append (gen ns e r A) _ (gen_fits e r A parts.1 fine.1 (omega (arith, wide)) (omega (arith, end)))
              (distance_short U at (omega (arith, end)) (omega (arith, end)), (byte r low, tt)),
        )

    operands_fit : (a : Action) (es : Forms) (r n at : ℕ) → is_plain_action a ≡ true → are_plain es ≡ true
        → AllFine p b ns es → r < 256 → r + operands_width es n ≤ 256 → at + (len_rest es + action_size a) < 32768
        → AllFit (gen_operands ns a es r n at)
    operands_fit a none r n at ha hs fine low wide end = (action_fits a r ha low, tt)
    operands_fit a (more e es) r n at ha hs fine low wide end =
        let parts = and_parts (is_plain e) (are_plain es) hs in
        AllFit-append (gen ns e (r + n) at) _
        (gen_fits e (r + n) at parts.0 fine.0 (omega (arith, wide)) (omega (arith, end)))
        (operands_fit a es r (n + 1) (at + len e) ha parts.1 fine.1 low (omega (arith, wide)) (omega (arith, end)))

    all_fit : (es : Forms) (r at : ℕ) → are_plain es ≡ true → AllFine p b ns es → r + all_width es ≤ 256
        → at + len_all es < 32768 → AllFit (gen_all ns es r at)
    all_fit none r at hs fine wide end = (byte r (omega (arith, wide)), tt)
    all_fit (more e es) r at hs fine wide end =
        let parts = and_parts (is_plain e) (are_plain es) hs in
        AllFit-append (gen ns e r at) _ (gen_fits e r at parts.0 fine.0 (omega (arith, wide)) (omega (arith, end)))
        (rest_fits es r (at + len e) parts.1 fine.1 (omega (arith, wide)) (omega (arith, end)))

    rest_fits : (es : Forms) (r at : ℕ) → are_plain es ≡ true → AllFine p b ns es → r + all_width es ≤ 256
        → at + len_rest es < 32768 → AllFit (gen_rest ns es r at)
    rest_fits none r at hs fine wide end = tt
    rest_fits (more e es) r at hs fine wide end =
        let parts = and_parts (is_plain e) (are_plain es) hs in
        AllFit-append (gen ns e r at) _ (gen_fits e r at parts.0 fine.0 (omega (arith, wide)) (omega (arith, end)))
        (rest_fits es r (at + len e) parts.1 fine.1 (omega (arith, wide)) (omega (arith, end)))

    width_pos : (e : Form) → 1 ≤ width e
    width_pos (strict a es) = omega arith
    width_pos (local x) = omega arith
    width_pos (set_local x e) = width_pos e
    width_pos (seq es) = all_width_pos es
    width_pos (cond_form q e f) = omega (arith, width_pos q)
    width_pos (while_form q e) = omega arith

    all_width_pos : (es : Forms) → 1 ≤ all_width es
    all_width_pos none = omega arith
    all_width_pos (more e es) = omega (arith, all_width_pos es)
