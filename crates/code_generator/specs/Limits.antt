-- What is asked of a form besides its grammar: known names, numbers that fit, and sizes.
use Rattle.std.specs.Prelude.{◌≡◌, ℕ, ◌+◌, ◌≤◌, ℤ, pos, negsuc, Bool, true, false, ◌&&◌, nat_le, nat_lt, nat_eq, List, [], ◌∷◌, length}
use Rattle.path_core.specs.Form.{Name, Action, give_nil, give_true, give_int, call_operator, call_puts, Form, strict, local, set_local, seq, cond, while_form, Forms, none, more}
use Rattle.text_set.specs.Sets.{is_among, with_text}
use Rattle.code_generator.specs.Names.{names_of}

-- how many operands an action takes
abbrev pub arity : Action → ℕ
arity give_nil = 0
arity give_true = 0
arity (give_int z) = 0
arity (call_operator o) = 2
arity call_puts = 1

abbrev pub count : Forms → ℕ
count none = 0
count (more e es) = count es + 1

-- a number of 32 bits
abbrev pub is_number : ℤ → Bool
is_number (pos n) = nat_lt n 2147483648
is_number (negsuc n) = nat_lt n 2147483648

abbrev pub is_plain_action : Action → Bool
is_plain_action give_nil = true
is_plain_action give_true = true
is_plain_action (give_int z) = is_number z
is_plain_action (call_operator o) = true
is_plain_action call_puts = true

-- each number fits, and each action has its operands
abbrev mutual
  pub is_plain : Form → Bool
  is_plain (strict a es) = is_plain_action a && nat_eq (count es) (arity a) && are_plain es
  is_plain (local x) = true
  is_plain (set_local x e) = is_plain e
  is_plain (seq es) = are_plain es
  is_plain (cond t a b) = is_plain t && is_plain a && is_plain b
  is_plain (while_form t b) = is_plain t && is_plain b

  pub are_plain : Forms → Bool
  are_plain none = true
  are_plain (more e es) = is_plain e && are_plain es

-- the names known after a line, where those before it are known
abbrev pub known_after : List Name → Form → List Name
known_after known (strict a es) = known
known_after known (local x) = known
known_after known (set_local x e) = with_text known x
known_after known (seq es) = known
known_after known (cond t a b) = known
known_after known (while_form t b) = known

-- Each name that is read was assigned by an earlier line of the same list of lines, or is known around it.
abbrev mutual
  pub is_scoped : List Name → Form → Bool
  is_scoped known (strict a es) = are_scoped known es
  is_scoped known (local x) = is_among x known
  is_scoped known (set_local x e) = is_scoped known e
  is_scoped known (seq es) = lines_scoped known es
  is_scoped known (cond t a b) = is_scoped known t && is_scoped known a && is_scoped known b
  is_scoped known (while_form t b) = is_scoped known t && is_scoped known b

  pub are_scoped : List Name → Forms → Bool
  are_scoped known none = true
  are_scoped known (more e es) = is_scoped known e && are_scoped known es

  pub lines_scoped : List Name → Forms → Bool
  lines_scoped known none = true
  lines_scoped known (more e es) = is_scoped known e && lines_scoped (known_after known e) es

-- how many calls with operands stand in a form
abbrev pub operation_count : Action → ℕ
operation_count give_nil = 0
operation_count give_true = 0
operation_count (give_int z) = 0
operation_count (call_operator o) = 1
operation_count call_puts = 1

abbrev mutual
  pub operations : Form → ℕ
  operations (strict a es) = operation_count a + all_operations es
  operations (local x) = 0
  operations (set_local x e) = operations e
  operations (seq es) = all_operations es
  operations (cond t a b) = operations t + operations a + operations b
  operations (while_form t b) = operations t + operations b

  pub all_operations : Forms → ℕ
  all_operations none = 0
  all_operations (more e es) = operations e + all_operations es

-- each operand of a line or of a test, and what an assignment assigns, has at most 80 operators
abbrev pub are_short : Forms → Bool
are_short none = true
are_short (more e es) = nat_le (operations e) 80 && are_short es

abbrev mutual
  pub has_short_sums : Form → Bool
  has_short_sums (strict a es) = are_short es
  has_short_sums (local x) = true
  has_short_sums (set_local x e) = nat_le (operations e) 80
  has_short_sums (seq es) = have_short_sums es
  has_short_sums (cond t a b) = has_short_sums t && has_short_sums a && has_short_sums b
  has_short_sums (while_form t b) = has_short_sums t && has_short_sums b

  pub have_short_sums : Forms → Bool
  have_short_sums none = true
  have_short_sums (more e es) = has_short_sums e && have_short_sums es

-- how many forms stand in a form, itself among them; a loop counts twice
abbrev mutual
  pub parts : Form → ℕ
  parts (strict a es) = 1 + all_parts es
  parts (local x) = 1
  parts (set_local x e) = 1 + parts e
  parts (seq es) = 1 + all_parts es
  parts (cond t a b) = 1 + parts t + parts a + parts b
  parts (while_form t b) = 2 + parts t + parts b

  pub all_parts : Forms → ℕ
  all_parts none = 0
  all_parts (more e es) = parts e + all_parts es

-- what the generator asks of a form
pub record IsWithin (f : Form) : Type 0 where
  pub plain : is_plain f ≡ true
  pub scoped : is_scoped [] f ≡ true
  pub short : has_short_sums f ≡ true
  pub few_names : length (names_of f) ≤ 50
  pub few_parts : parts f ≤ 4001
