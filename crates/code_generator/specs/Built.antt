-- The form that a core form stands for, where the generator builds it.
use Rattle.std.specs.Prelude.{ℕ, suc, ◌-◌, nat_le, Bool, true, false, ◌&&◌, [], length, Option, Some, None, codes, bytes_eq, if◌then◌else◌}
use Rattle.ir_core.specs.CoreForm as core
use Rattle.ir_core.specs.CoreForm.{Local, CoreForm, Body, Items, Branches, Receiver}
use Rattle.path_core.specs.Form.{Name, give_nil, give_true, give_int, call_operator, call_puts, Form, strict, local, set_local, seq, cond, while_form, Forms, none, more, one, two}
use Rattle.code_generator.specs.Limits.{is_plain, is_scoped, has_short_sums, parts}
use Rattle.code_generator.specs.Names.{names_of}
use Rattle.rb_syntax.specs.Operator.{operator_named}
use Rattle.rite_code.specs.Code.{Program}
use Rattle.code_generator.specs.Gen.{code_of}
use Rattle.rb_base.specs.Option.{◌>>=◌}

-- puts with one item
abbrev pub puts_of : Name → Forms → Option Form
puts_of x none = None
puts_of x (more y none) = if bytes_eq x (codes "puts") then Some (strict call_puts (one y)) else None
puts_of x (more y (more z zs)) = None

-- an operator with one item
abbrev pub operation_of : Form → Name → Forms → Option Form
operation_of a x none = None
operation_of a x (more b none) = operator_named x >>= (λ o. Some (strict (call_operator o) (two a b)))
operation_of a x (more b (more c cs)) = None

-- the read of a local of the source, and an assignment to one
abbrev pub read_of : Local → Option Form
read_of (core.named x) = Some (local x)
read_of (core.hidden d) = None
read_of (core.pattern k) = None
read_of core.rest = None

abbrev pub set_of : Local → Option Form → Option Form
set_of (core.named x) e = e >>= (λ v. Some (set_local x v))
set_of (core.hidden d) e = None
set_of (core.pattern k) e = None
set_of core.rest e = None

-- a call without a block: on self, or on a receiver with a form
abbrev pub call_of : Bool → Option Form → Name → Option Forms → Option Form
call_of true a x is = is >>= puts_of x
call_of false a x is = a >>= (λ f. is >>= operation_of f x)

abbrev pub lines_of : Option Forms → Option Form
lines_of fs = fs >>= (λ xs. Some (seq xs))

abbrev pub loop_of : Bool → Option Form → Option Form → Option Form
loop_of true t b = None
loop_of false t b = t >>= (λ test. b >>= (λ body. Some (while_form test body)))

-- how many branches a choice has
abbrev pub branch_count : Branches → ℕ
branch_count core.no_branches = 0
branch_count (core.branch t b bs) = suc (branch_count bs)

-- the form of a choice, where it has at most a thousand branches: one by more of them is too deep
abbrev pub if_few : Branches → Option Form → Option Form
if_few bs f = if nat_le (branch_count bs) 1000 then f else None

abbrev mutual
  pub form_of : CoreForm → Option Form
  form_of core.nil = Some (strict give_nil none)
  form_of core.truth = Some (strict give_true none)
  form_of (core.int n) = Some (strict (give_int n) none)
  form_of (core.local x) = read_of x
  form_of (core.set_local x e) = set_of x (form_of e)
  form_of (core.seq es) = lines_of (all_of es)
  form_of (core.cond bs o) = if_few bs (cond_of bs (form_of o))
  form_of (core.while_form first t b) = loop_of first (form_of t) (form_of b)
  form_of (core.call r x is core.absent) = called r x (all_items is)
  form_of _ = None

  -- a call without a block, by what it is sent to
  pub called : Receiver → Name → Option Forms → Option Form
  called (core.to r) x is = call_of false (form_of r) x is
  called core.on_self x is = call_of true None x is
  called core.bare x is = None

  pub all_of : core.Forms → Option Forms
  all_of core.none = Some none
  all_of (core.more f fs) = form_of f >>= (λ x. all_of fs >>= (λ xs. Some (more x xs)))

  -- the elements of a value are no form
  pub all_items : Items → Option Forms
  all_items core.no_items = Some none
  all_items (core.plain f is) = form_of f >>= (λ x. all_items is >>= (λ xs. Some (more x xs)))
  all_items (core.splat f is) = None

  -- several branches are a branch in the place of the other form of the one before
  pub cond_of : Branches → Option Form → Option Form
  cond_of core.no_branches other = other
  cond_of (core.branch t b bs) other =
      form_of t >>= (λ test. form_of b >>= (λ body. cond_of bs other >>= (λ o. Some (cond test body o))))

-- what the generator asks of a form: known names, numbers that fit, and sizes
abbrev pub is_within : Form → Bool
is_within f = is_plain f && (is_scoped [] f &&
    (has_short_sums f && (nat_le (length (names_of f)) 50 && nat_le (parts f) 4001)))

abbrev pub within : Form → Option Form
within f = if is_within f then Some f else None

-- the form of a program: what its last line gives is not seen, so one that is nil has no lines
abbrev pub of_program : Form → Form
of_program (strict give_nil none) = seq none
of_program f = f

-- the form of a program that the generator builds
abbrev pub built : Body → Option Form
built b = form_of (core.form_of b) >>= (λ f. within (of_program f))

-- the code of a form within the limits, and of a program that the generator builds
abbrev pub code_within : Form → Option Program
code_within f = within f >>= (λ g. Some (code_of g))

abbrev pub code_built : Body → Option Program
code_built c = built c >>= (λ f. Some (code_of f))

-- what is left of a number where so many are taken from it
abbrev pub left_after : ℕ → ℕ → Option ℕ
left_after budget n = if nat_le n budget then Some (budget - n) else None
