-- A form within the limits has few registers and little code.
use Rattle.std.proofs.Common.{◌≡◌, ℕ, ◌+◌, ◌*◌, ◌<◌, ◌≤◌, ℤ, pos, negsuc, Bool, true, false, if◌then◌else◌, nat_lt, ◌&&◌, arith, nat_le, nat_eq}
use Rattle.std.proofs.Math.Nat.{max-le}
use Rattle.std.proofs.lemmas.Bool.{and_parts, leb-true}
use Rattle.std.proofs.lemmas.Bool.Decides.{Decides-eqb}
use Rattle.path_core.specs.Form.{Action, give_nil, give_true, give_int, call_operator, call_puts, Form, strict, local, set_local, seq, cond, while_form, Forms, none, more}
use Rattle.code_generator.specs.Limits.{arity, count, is_plain_action, is_plain, are_plain, operation_count, operations, all_operations, are_short, has_short_sums, have_short_sums, parts, all_parts, IsWithin}
use Rattle.code_generator.specs.Gen.{len, len_all, len_rest, number_size, action_size, width, operands_width, all_width, before_operands, first_free}

-- an action that is plain has its operands, and these are plain
pub has_operands : (a : Action) (es : Forms) → is_plain (strict a es) ≡ true → (count es ≡ arity a)
    × (are_plain es ≡ true)
has_operands a es h =
    let p = and_parts (is_plain_action a && nat_eq (count es) (arity a)) (are_plain es) h in
    let q = and_parts (is_plain_action a) (nat_eq (count es) (arity a)) p.0 in
    ((Decides-eqb (count es) (arity a)).0 q.1, p.1)

pub three_parts : (x y z : Bool) → (x && y && z) ≡ true → (x ≡ true) × (y ≡ true) × (z ≡ true)
three_parts x y z h =
    let p = and_parts (x && y) z h in
    let q = and_parts x y p.0 in
    (q.0, q.1, p.1)

-- an action takes few registers more than it counts operations
action_registers : (a : Action) → before_operands a + arity a ≤ operation_count a + 1
action_registers give_nil = omega arith
action_registers give_true = omega arith
action_registers (give_int z) = omega arith
action_registers (call_operator o) = omega arith
action_registers call_puts = omega arith

few_registers : (a : Action) → before_operands a + arity a ≤ 2
few_registers give_nil = omega arith
few_registers give_true = omega arith
few_registers (give_int z) = omega arith
few_registers (call_operator o) = omega arith
few_registers call_puts = omega arith

-- a form takes at most a register more than it has operations
mutual
  pub width-operations : (f : Form) → is_plain f ≡ true → width f ≤ operations f + 1
  width-operations (strict a es) h =
      let p = has_operands a es h in
      max-le (omega arith) (let b = operands_width-operations es (before_operands a) p.1 in let c =
      action_registers a in omega (arith, b, c, p.0))
  width-operations (local x) h = omega arith
  width-operations (set_local x e) h = width-operations e h
  width-operations (seq es) h = all_width-operations es h
  width-operations (cond t a b) h =
      let p = three_parts (is_plain t) (is_plain a) (is_plain b) h in
      let wt = width-operations t p.0 in
      let wa = width-operations a p.1 in
      let wb = width-operations b p.2 in
      max-le (omega (arith, wt)) (max-le (omega (arith, wa)) (omega (arith, wb)))
  width-operations (while_form t b) h =
      let p = and_parts (is_plain t) (is_plain b) h in
      let wt = width-operations t p.0 in
      let wb = width-operations b p.1 in
      max-le (omega arith) (max-le (omega (arith, wt)) (omega (arith, wb)))

  pub operands_width-operations : (es : Forms) (n : ℕ) → are_plain es ≡ true
      → operands_width es n ≤ n + count es + all_operations es
  operands_width-operations none n h = omega arith
  operands_width-operations (more e es) n h =
      let p = and_parts (is_plain e) (are_plain es) h in
      let we = width-operations e p.0 in
      let ws = operands_width-operations es (n + 1) p.1 in
      max-le (omega (arith, we)) (omega (arith, ws))

  pub all_width-operations : (es : Forms) → are_plain es ≡ true → all_width es ≤ all_operations es + 1
  all_width-operations none h = omega arith
  all_width-operations (more e es) h =
      let p = and_parts (is_plain e) (are_plain es) h in
      let we = width-operations e p.0 in
      let ws = all_width-operations es p.1 in
      max-le (omega (arith, we)) (omega (arith, ws))

-- short operands take few registers
short_operands : (es : Forms) (n : ℕ) → are_plain es ≡ true → are_short es ≡ true
    → operands_width es n ≤ n + count es + 80
short_operands none n h s = omega arith
short_operands (more e es) n h s =
    let p = and_parts (is_plain e) (are_plain es) h in
    let q = and_parts (nat_le (operations e) 80) (are_short es) s in
    let few = leb-true (operations e) 80 q.0 in
    let we = width-operations e p.0 in
    let ws = short_operands es (n + 1) p.1 q.1 in
    max-le (omega (arith, we, few)) (omega (arith, ws))

mutual
  pub width-short : (f : Form) → is_plain f ≡ true → has_short_sums f ≡ true → width f ≤ 82
  width-short (strict a es) h s =
      let p = has_operands a es h in
      max-le (omega arith) (let b = short_operands es (before_operands a) p.1 s in let c = few_registers a in
      omega (arith, b, c, p.0))
  width-short (local x) h s = omega arith
  width-short (set_local x e) h s =
      let few = leb-true (operations e) 80 s in
      let we = width-operations e h in
      omega (arith, few, we)
  width-short (seq es) h s = all_width-short es h s
  width-short (cond t a b) h s =
      let p = three_parts (is_plain t) (is_plain a) (is_plain b) h in
      let q = three_parts (has_short_sums t) (has_short_sums a) (has_short_sums b) s in
      max-le (width-short t p.0 q.0) (max-le (width-short a p.1 q.1) (width-short b p.2 q.2))
  width-short (while_form t b) h s =
      let p = and_parts (is_plain t) (is_plain b) h in
      let q = and_parts (has_short_sums t) (has_short_sums b) s in
      max-le (omega arith) (max-le (width-short t p.0 q.0) (width-short b p.1 q.1))

  pub all_width-short : (es : Forms) → are_plain es ≡ true → have_short_sums es ≡ true → all_width es ≤ 82
  all_width-short none h s = omega arith
  all_width-short (more e es) h s =
      let p = and_parts (is_plain e) (are_plain es) h in
      let q = and_parts (has_short_sums e) (have_short_sums es) s in
      max-le (width-short e p.0 q.0) (all_width-short es p.1 q.1)

three_sizes : (b c : Bool) → (if b then 3 else if c then 4 else 6) ≤ 6
three_sizes true c = omega arith
three_sizes false true = omega arith
three_sizes false false = omega arith

two_sizes : (c : Bool) → (if c then 4 else 6) ≤ 6
two_sizes true = omega arith
two_sizes false = omega arith

number_bytes : (z : ℤ) → number_size z ≤ 6
number_bytes (pos n) = three_sizes (nat_lt n 256) (nat_lt n 32768)
number_bytes (negsuc n) = two_sizes (nat_lt n 32768)

action_bytes : (a : Action) → action_size a ≤ 8
action_bytes give_nil = omega arith
action_bytes give_true = omega arith
action_bytes (give_int z) = omega (arith, number_bytes z)
action_bytes (call_operator o) = omega arith
action_bytes call_puts = omega arith

-- a form's code has at most eight bytes for each part
mutual
  pub len-parts : (f : Form) → len f ≤ 8 * parts f
  len-parts (strict a es) = omega (arith, action_bytes a, rest-parts es)
  len-parts (local x) = omega arith
  len-parts (set_local x e) = let le = len-parts e in omega (arith, le)
  len-parts (seq es) = all-parts es
  len-parts (cond t a b) = omega (arith, len-parts t, len-parts a, len-parts b)
  len-parts (while_form t b) = omega (arith, len-parts t, len-parts b)

  pub rest-parts : (es : Forms) → len_rest es ≤ 8 * all_parts es
  rest-parts none = omega arith
  rest-parts (more e es) = omega (arith, len-parts e, rest-parts es)

  pub all-parts : (es : Forms) → len_all es ≤ 8 * (1 + all_parts es)
  all-parts none = omega arith
  all-parts (more e es) = omega (arith, len-parts e, rest-parts es)

-- the registers of a form within the limits are numbers of a byte
pub within_registers : (f : Form) → IsWithin f → first_free f + width f ≤ 256
within_registers f w = let b = width-short f w.plain w.short in omega (arith, b, w.few_names)

-- and so its code is so short that each distance fits two bytes
pub within_code : (f : Form) → IsWithin f → len f < 32760
within_code f w = let b = len-parts f in omega (arith, b, w.few_parts)
