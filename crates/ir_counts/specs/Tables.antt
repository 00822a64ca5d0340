-- What a form adds to the counts of its body, without its parts.
use Rattle.std.specs.Prelude.{ℕ, ◌+◌, ◌*◌, max, nat_lt, ℤ, pos, negsuc, List, [], ◌∷◌, Option, Some, None, Bool, true, false, if◌then◌else◌, codes}
use Rattle.rb_syntax.specs.declared.core_form.DefinedKind.{DefinedKind}
use Rattle.rb_syntax.specs.declared.core_form.DefinedKind.TheVariants as kind
use Rattle.ir_core.specs.CoreForm as form
use Rattle.ir_core.specs.CoreForm.{Name, Local, CoreForm, Forms, Items, Pairs, Branches, Clauses}
use Rattle.ir_walk.specs.Width.{has_splat}

abbrev pub count : Forms → ℕ
count form.none = 0
count (form.more f fs) = 1 + count fs

abbrev pub item_count : Items → ℕ
item_count form.no_items = 0
item_count (form.plain f is) = 1 + item_count is
item_count (form.splat f is) = 1 + item_count is

abbrev pub pair_count : Pairs → ℕ
pair_count form.no_pairs = 0
pair_count (form.pair k v ps) = 1 + pair_count ps

abbrev pub branch_count : Branches → ℕ
branch_count form.no_branches = 0
branch_count (form.branch t f bs) = 1 + branch_count bs

abbrev pub clause_count : Clauses → ℕ
clause_count form.no_clauses = 0
clause_count (form.clause cs t f ds) = 1 + clause_count ds

-- how many elements an Array has at least that has an element at this place, from its end where it is negative
abbrev pub kind_of_place : ℤ → ℕ
kind_of_place (pos k) = k + 1
kind_of_place (negsuc k) = k + 1

-- how many parameters of one kind an Item, a Rest or a Tail speaks of
abbrev pub kind_of : CoreForm → ℕ
kind_of (form.item f k) = kind_of_place k
kind_of (form.rest_of f from post) = max from post
kind_of (form.tail_of f from count) = max from count
kind_of _ = 0

-- how many hidden locals are in use at a local, 0 where it isn't hidden
abbrev pub hidden_by : Local → ℕ
hidden_by (form.named x) = 0
hidden_by (form.hidden d) = d + 1
hidden_by (form.pattern k) = 0
hidden_by form.rest = 0

-- how many are in use where a form reads or sets one
abbrev pub hidden_of : CoreForm → ℕ
hidden_of (form.local x) = hidden_by x
hidden_of (form.set_local x f) = hidden_by x
hidden_of _ = 0

-- whether the items of a call go into an Array
abbrev pub are_gathered : Items → Bool
are_gathered is = if has_splat is then true else nat_lt 253 (item_count is)

-- the bytes that the items of a call take where they go into an Array
abbrev pub items_code : Items → ℕ
items_code is = if are_gathered is then 8 * item_count is else 0

-- the classes of clauses, where no class counts as one
abbrev pub classes : Clauses → ℕ
classes form.no_clauses = 0
classes (form.clause cs t f ds) = max 1 (count cs) + classes ds

-- the code of a form without its parts; the form of a function that stands in a lambda or a method counts there
abbrev pub code_of : CoreForm → ℕ
code_of (form.array is) = 16 + 8 * item_count is
code_of (form.hash ps) = 16 + 8 * pair_count ps
code_of (form.text fs) = 16 + 8 * count fs
code_of (form.cond bs f) = 16 + 16 * branch_count bs
code_of (form.while_form first f g) = 64
code_of (form.call r x is b) = 16 + items_code is
code_of (form.yield_form is) = 16 + items_code is
code_of (form.super_form is b) = 32 + items_code is
code_of (form.lambda b) = 32
code_of (form.begin_form b cs o e) = 96 + 48 * classes cs
code_of (form.define x b) = 32
code_of (form.define_on f x b) = 32
code_of (form.class_form c x p b) = 48
code_of (form.module_form c x b) = 48
code_of (form.singleton_class f b) = 48
code_of _ = 16

-- a Begin and its clauses
abbrev pub handlers_of : CoreForm → ℕ
handlers_of (form.begin_form b cs o e) = 1 + clause_count cs
handlers_of _ = 0

-- the bodies that begin at a form
abbrev pub children_of : CoreForm → ℕ
children_of (form.function b) = 1
children_of (form.lambda b) = 1
children_of (form.define x b) = 1
children_of (form.define_on f x b) = 1
children_of (form.class_form c x p b) = 1
children_of (form.module_form c x b) = 1
children_of (form.singleton_class f b) = 1
children_of _ = 0

-- the symbol of a `defined?` that looks for a name
abbrev pub asked_name : DefinedKind → Name → Option Name
asked_name kind.InstanceVariable x = Some x
asked_name kind.GlobalVariable x = Some x
asked_name kind.Constant x = Some x
asked_name kind.Method x = Some x
asked_name _ x = None

-- the symbol of a form; an alias has a second one
abbrev pub name_of : CoreForm → Option Name
name_of (form.sym x) = Some x
name_of (form.ivar x) = Some x
name_of (form.set_ivar x f) = Some x
name_of (form.gvar x) = Some x
name_of (form.set_gvar x f) = Some x
name_of (form.constant x) = Some x
name_of (form.top_constant x) = Some x
name_of (form.in_constant f x) = Some x
name_of (form.set_constant x f) = Some x
name_of (form.set_in_constant f x g) = Some x
name_of (form.call r x is b) = Some x
name_of (form.define x b) = Some x
name_of (form.define_on f x b) = Some x
name_of (form.class_form c x p b) = Some x
name_of (form.module_form c x b) = Some x
name_of (form.alias_form x y) = Some x
name_of (form.undef_form x) = Some x
name_of (form.defined k x o) = asked_name k x
name_of _ = None

abbrev pub old_name_of : CoreForm → Option Name
old_name_of (form.alias_form x y) = Some y
old_name_of _ = None

-- the text of a `defined?` that looks for nothing
abbrev pub answer_of : DefinedKind → Option (List ℕ)
answer_of kind.Expression = Some (codes "expression")
answer_of kind.LocalVariable = Some (codes "local-variable")
answer_of kind.SelfReference = Some (codes "self")
answer_of kind.Assignment = Some (codes "assignment")
answer_of _ = None

-- the text of a form; a Text begins with the empty one
abbrev pub text_of : CoreForm → Option (List ℕ)
text_of (form.str t) = Some t
text_of (form.text ps) = Some []
text_of (form.defined k x o) = answer_of k
text_of _ = None

-- an integer outside 32 bits
abbrev pub is_wide : ℤ → Bool
is_wide (pos n) = nat_lt 2147483647 n
is_wide (negsuc n) = nat_lt 2147483647 n

abbrev pub integer_of : CoreForm → Option ℤ
integer_of (form.int n) = if is_wide n then Some n else None
integer_of _ = None

-- all that a form adds
pub record Added : Type 0 where
  pub kind : ℕ
  -- hidden locals in use
  pub hidden : ℕ
  pub code : ℕ
  pub handlers : ℕ
  pub children : ℕ
  pub name : Option Name
  pub old_name : Option Name
  pub text : Option (List ℕ)
  pub integer : Option ℤ

abbrev pub added : CoreForm → Added
added f = record {
  kind = kind_of f;
  hidden = hidden_of f;
  code = code_of f;
  handlers = handlers_of f;
  children = children_of f;
  name = name_of f;
  old_name = old_name_of f;
  text = text_of f;
  integer = integer_of f;
}

-- a form of so many bytes of code that adds nothing else
abbrev pub plain : ℕ → Added
plain code = record {
  kind = 0;
  hidden = 0;
  code = code;
  handlers = 0;
  children = 0;
  name = None;
  old_name = None;
  text = None;
  integer = None;
}

-- a form that has a symbol
abbrev pub symbolic : ℕ → ℕ → Name → Added
symbolic code children x = record {
  kind = 0;
  hidden = 0;
  code = code;
  handlers = 0;
  children = children;
  name =
      Some x;
  old_name = None;
  text = None;
  integer = None;
}

-- an alias
abbrev pub renaming : Name → Name → Added
renaming x y = record {
  kind = 0;
  hidden = 0;
  code = 16;
  handlers = 0;
  children = 0;
  name = Some x;
  old_name = Some y;
  text = None;
  integer = None;
}

-- a form that has a text
abbrev pub textual : ℕ → List ℕ → Added
textual code t = record {
  kind = 0;
  hidden = 0;
  code = code;
  handlers = 0;
  children = 0;
  name = None;
  old_name = None;
  text = Some t;
  integer = None;
}

-- a form at which a body begins
abbrev pub parental : ℕ → Added
parental code = record {
  kind = 0;
  hidden = 0;
  code = code;
  handlers = 0;
  children = 1;
  name = None;
  old_name = None;
  text = None;
  integer = None;
}

-- a read of a local, or a store into one
abbrev pub at_local : Local → Added
at_local x = record {
  kind = 0;
  hidden = hidden_by x;
  code = 16;
  handlers = 0;
  children = 0;
  name = None;
  old_name = None;
  text = None;
  integer = None;
}

-- parts of an Array, which ask for so many parameters of one kind
abbrev pub of_kind : ℕ → Added
of_kind k = record {
  kind = k;
  hidden = 0;
  code = 16;
  handlers = 0;
  children = 0;
  name = None;
  old_name = None;
  text =
      None;
  integer = None;
}

-- a form with handlers
abbrev pub handling : ℕ → ℕ → Added
handling code handlers = record {
  kind = 0;
  hidden = 0;
  code = code;
  handlers = handlers;
  children = 0;
  name = None;
  old_name = None;
  text = None;
  integer = None;
}

-- an integer
abbrev pub numeric : ℤ → Added
numeric n = record {
  kind = 0;
  hidden = 0;
  code = 16;
  handlers = 0;
  children = 0;
  name = None;
  old_name = None;
  text =
      None;
  integer = integer_of (form.int n);
}

-- a `defined?`
abbrev pub asking : DefinedKind → Name → Added
asking k x = record {
  kind = 0;
  hidden = 0;
  code = 16;
  handlers = 0;
  children = 0;
  name = asked_name k x;
  old_name =
      None;
  text = answer_of k;
  integer = None;
}
