-- The code of a form, as a function.
use Rattle.std.specs.Prelude.{ℕ, ◌+◌, ℤ, pos, negsuc, ◌-ℤ◌, List, [], ◌∷◌, ◌++◌, Bool, true, false, nat_lt, if◌then◌else◌, max, map, codes, length, ◌||◌}
use Rattle.path_core.specs.Form.{Name, Action, give_nil, give_true, give_int, call_operator, call_puts, Form, strict, local, set_local, seq, cond, while_form, Forms, none, more}
use Rattle.path_core.specs.Form.{place_of}
use Rattle.code_generator.specs.Names.{names_of}
use Rattle.rb_syntax.specs.declared.operator.Operator.{Operator}
use Rattle.rb_syntax.specs.declared.operator.Operator.TheVariants.{Plus, Minus, Times, Equal, Less, LessEqual, Greater, GreaterEqual}
use Rattle.rite_code.specs.Code.{Program}
use Rattle.rite_code.specs.declared.code.Irep.{Irep}
use Rattle.rite_code.specs.declared.operation.Operation.{Operation}
use Rattle.rite_code.specs.declared.operation.Operation.TheVariants.{Move, LoadI, LoadI16, LoadI32, LoadNil, LoadT, Jmp, JmpNot, SSend, Add, Sub, Mul, Eq, Lt, Le, Gt, Ge, Stop}
use Rattle.rite_code.specs.Instruction.{narrow}
use Rattle.rite_code.specs.Spelling.{encodings}

-- the distance of a jump, from the place after it
abbrev pub distance : ℕ → ℕ → ℤ
distance from to = pos to -ℤ pos from

-- the shortest instruction that loads a number, and its bytes
abbrev pub load_number : ℕ → ℤ → Operation
load_number r (pos n) = if nat_lt n 256 then LoadI r n else if nat_lt n 32768 then LoadI16 r (pos n) else LoadI32 r
    (pos n)
load_number r (negsuc n) = if nat_lt n 32768 then LoadI16 r (negsuc n) else LoadI32 r (negsuc n)

abbrev pub number_size : ℤ → ℕ
number_size (pos n) = if nat_lt n 256 then 3 else if nat_lt n 32768 then 4 else 6
number_size (negsuc n) = if nat_lt n 32768 then 4 else 6

abbrev pub operate : Operator → ℕ → Operation
operate Plus r = Add r
operate Minus r = Sub r
operate Times r = Mul r
operate Equal r = Eq r
operate Less r = Lt r
operate LessEqual r = Le r
operate Greater r = Gt r
operate GreaterEqual r = Ge r

-- the instruction of an action after its operands, with its value in r
abbrev pub action_of : Action → ℕ → Operation
action_of give_nil r = LoadNil r
action_of give_true r = LoadT r
action_of (give_int z) r = load_number r z
action_of (call_operator o) r = operate o r
action_of call_puts r = SSend r 0 1

abbrev pub action_size : Action → ℕ
action_size give_nil = 2
action_size give_true = 2
action_size (give_int z) = number_size z
action_size (call_operator o) = 2
action_size call_puts = 4

-- how many registers an action keeps free before its operands: a call on self one for self
abbrev pub before_operands : Action → ℕ
before_operands give_nil = 0
before_operands give_true = 0
before_operands (give_int z) = 0
before_operands (call_operator o) = 0
before_operands call_puts = 1

-- the register of a name: self has register 0
abbrev pub register_of : List Name → Name → ℕ
register_of names x = place_of x names + 1

-- the bytes of a form's code
abbrev mutual
  pub len : Form → ℕ
  len (strict a es) = len_rest es + action_size a
  len (local x) = 3
  len (set_local x e) = len e + 3
  len (seq es) = len_all es
  len (cond t a b) = len t + 4 + len a + 3 + len b
  len (while_form t b) = len t + 4 + len b + 3 + 2

  pub len_all : Forms → ℕ
  len_all none = 2
  len_all (more e es) = len e + len_rest es

  pub len_rest : Forms → ℕ
  len_rest none = 0
  len_rest (more e es) = len e + len_rest es

-- the code of a form from the byte at, with its value in register r
abbrev mutual
  pub gen : List Name → Form → ℕ → ℕ → List Operation
  gen names (strict a es) r at = gen_operands names a es r (before_operands a) at
  gen names (local x) r at = Move r (register_of names x) ∷ []
  gen names (set_local x e) r at = gen names e r at ++ Move (register_of names x) r ∷ []
  gen names (seq es) r at = gen_all names es r at
  gen names (cond t a b) r at =
      gen names t r at ++ (JmpNot r (distance (at + len t + 4) (at + len t + 4 + len a + 3))
      ∷ (gen names a r (at + len t + 4) ++ (Jmp
      (distance (at + len t + 4 + len a + 3) (at + len t + 4 + len a + 3 + len b))
      ∷ gen names b r (at + len t + 4 + len a + 3))))
  gen names (while_form t b) r at =
      gen names t r at ++ (JmpNot r (distance (at + len t + 4) (at + len t + 4 + len b + 3))
      ∷ (gen names b r (at + len t + 4) ++ (Jmp (distance (at + len t + 4 + len b + 3) at) ∷ (LoadNil r ∷ []))))

  -- the operands that are left, from the register r + n on, and the action
  pub gen_operands : List Name → Action → Forms → ℕ → ℕ → ℕ → List Operation
  gen_operands names a none r n at = action_of a r ∷ []
  gen_operands names a (more e es) r n at = gen names e (r + n) at ++ gen_operands names a es r (n + 1) (at + len e)

  pub gen_all : List Name → Forms → ℕ → ℕ → List Operation
  gen_all names none r at = LoadNil r ∷ []
  gen_all names (more e es) r at = gen names e r at ++ gen_rest names es r (at + len e)

  pub gen_rest : List Name → Forms → ℕ → ℕ → List Operation
  gen_rest names none r at = []
  gen_rest names (more e es) r at = gen names e r at ++ gen_rest names es r (at + len e)

-- how many registers a form takes from its own on
abbrev mutual
  pub width : Form → ℕ
  width (strict a es) = max 1 (operands_width es (before_operands a))
  width (local x) = 1
  width (set_local x e) = width e
  width (seq es) = all_width es
  width (cond t a b) = max (width t) (max (width a) (width b))
  width (while_form t b) = max 1 (max (width t) (width b))

  pub operands_width : Forms → ℕ → ℕ
  operands_width none n = n
  operands_width (more e es) n = max (n + width e) (operands_width es (n + 1))

  pub all_width : Forms → ℕ
  all_width none = 1
  all_width (more e es) = max (width e) (all_width es)

-- whether a form calls puts, whose name its body then has among its symbols
abbrev pub is_puts : Action → Bool
is_puts give_nil = false
is_puts give_true = false
is_puts (give_int z) = false
is_puts (call_operator o) = false
is_puts call_puts = true

abbrev mutual
  pub calls_puts : Form → Bool
  calls_puts (strict a es) = is_puts a || any_calls_puts es
  calls_puts (local x) = false
  calls_puts (set_local x e) = calls_puts e
  calls_puts (seq es) = any_calls_puts es
  calls_puts (cond t a b) = calls_puts t || calls_puts a || calls_puts b
  calls_puts (while_form t b) = calls_puts t || calls_puts b

  pub any_calls_puts : Forms → Bool
  any_calls_puts none = false
  any_calls_puts (more e es) = calls_puts e || any_calls_puts es

abbrev pub symbols_of : Form → List (List ℕ)
symbols_of f = if calls_puts f then codes "puts" ∷ [] else []

-- the first register after self and the locals
abbrev pub first_free : Form → ℕ
first_free f = length (names_of f) + 1

abbrev pub operations_of : Form → List Operation
operations_of f = gen (names_of f) f (first_free f) 0 ++ Stop ∷ []

-- the body of a main program
abbrev pub full_body : Form → Irep
full_body f = record {
  locals = first_free f;
  registers = first_free f + width f;
  code = encodings (map narrow (operations_of f));
  catches = [];
  pool = [];
  symbols = symbols_of f;
  children = [];
}

abbrev pub full_code : Form → Program
full_code f = record { version = 2; bodies = full_body f ∷ [] }

-- a program without a line has no code but its end
abbrev pub is_nothing : Form → Bool
is_nothing (seq none) = true
is_nothing f = false

abbrev pub nothing_body : Irep
nothing_body = record {
  locals = 1;
  registers = 1;
  code = encodings (narrow Stop ∷ []);
  catches = [];
  pool = [];
  symbols = [];
  children = [];
}

abbrev pub nothing_code : Program
nothing_code = record { version = 2; bodies = nothing_body ∷ [] }

-- the code of a main program
abbrev pub code_of : Form → Program
code_of f = if is_nothing f then nothing_code else full_code f
