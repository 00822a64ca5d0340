-- What the generator's own types mean.
use Rattle.std.specs.Prelude.{List, [], ◌∷◌, map, Option, Some, None, true, false, IsTrue, Vec}
use Rattle.std.specs.declared.alloc.Global.{Global}
use Rattle.path_core.specs.Form.{Name, Action, Form, Forms, none, more, forms, one, two, give_nil, give_true, give_int, call_operator, call_puts, strict, local, set_local, seq, cond, while_form}
use Rattle.code_generator.specs.Limits.{is_number}
use Rattle.rb_syntax.specs.declared.core_form.Item.{Item}
use Rattle.rb_syntax.specs.declared.core_form.Item.TheVariants.{Plain, Splat}
use Rattle.ir_core.specs.CoreForm.{CoreForm}
use Rattle.ir_core.specs.PartsBy.{Boxed, core_by}
use Rattle.code_generator.specs.Built.{form_of}
use Rattle.rb_base.specs.Option.{◌>>=◌}
use Rattle.code_generator.specs.declared.tree.Tree.{Tree, fold-Tree}
use Rattle.code_generator.specs.declared.tree.Tree.TheOpen.{Tree-F}

abbrev pub tree_step : Tree-F Form → Form
tree_step Tree-F.Nil = strict give_nil none
tree_step Tree-F.True = strict give_true none
tree_step (Tree-F.Int n) = strict (give_int n) none
tree_step (Tree-F.Operate o a b) = strict (call_operator o) (two a.value b.value)
tree_step (Tree-F.Puts e) = strict call_puts (one e.value)
tree_step (Tree-F.Local x) = local x
tree_step (Tree-F.SetLocal x e) = set_local x e.value
tree_step (Tree-F.Seq es) = seq (forms es.items)
tree_step (Tree-F.Cond t a b) = cond t.value a.value b.value
tree_step (Tree-F.While t b) = while_form t.value b.value

-- the form that a tree stands for
abbrev pub form : Tree → Form
form = fold-Tree Form tree_step

abbrev pub all_forms : List Tree → Forms
all_forms ts = forms (map form ts)

-- the form of a tree, where there is one
abbrev pub form_in : Option Tree → Option Form
form_in None = None
form_in (Some t) = Some (form t)

abbrev pub forms_in : Option (Vec Tree Global) → Option Forms
forms_in None = None
forms_in (Some ts) = Some (all_forms ts.items)

-- the only one of some forms
abbrev pub only_form : Forms → Option Form
only_form none = None
only_form (more f none) = Some f
only_form (more f (more g gs)) = None

-- forms in front of others
abbrev pub before : List Form → Forms → Forms
before [] xs = xs
before (f ∷ fs) xs = more f (before fs xs)

abbrev pub before_all : List Form → Option Forms → Option Forms
before_all fs None = None
before_all fs (Some xs) = Some (before fs xs)

-- the form of an item, by the form of the core in it
abbrev pub item_form_by : {T : Type 0} → (T → CoreForm) → Item (Boxed T) → Option Form
item_form_by v (Plain c) = form_of (core_by v c)
item_form_by v (Splat c) = None

-- forms from the forms of their parts
abbrev pub set_form : Name → Option Form → Option Form
set_form x e = e >>= (λ v. Some (set_local x v))

abbrev pub cond_form : Option Form → Option Form → Option Form → Option Form
cond_form test body other = test >>= (λ t. body >>= (λ e. other >>= (λ o. Some (cond t e o))))

abbrev pub loop_form : Option Form → Option Form → Option Form
loop_form t b = t >>= (λ test. b >>= (λ body. Some (while_form test body)))

-- the numbers of a form have 32 bits
abbrev pub IsNumbered : Action → Type 0
IsNumbered give_nil = Unit {0}
IsNumbered give_true = Unit {0}
IsNumbered (give_int z) = IsTrue (is_number z)
IsNumbered (call_operator o) = Unit {0}
IsNumbered call_puts = Unit {0}

abbrev mutual
  pub HasNumbers : Form → Type 0
  HasNumbers (strict a es) = IsNumbered a × HaveNumbers es
  HasNumbers (local x) = Unit {0}
  HasNumbers (set_local x e) = HasNumbers e
  HasNumbers (seq es) = HaveNumbers es
  HasNumbers (cond t a b) = HasNumbers t × HasNumbers a × HasNumbers b
  HasNumbers (while_form t b) = HasNumbers t × HasNumbers b

  pub HaveNumbers : Forms → Type 0
  HaveNumbers none = Unit {0}
  HaveNumbers (more e es) = HasNumbers e × HaveNumbers es
