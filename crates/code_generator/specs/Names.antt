-- The names that a form assigns, each once, in the order in which they first stand in the text.
use Rattle.std.specs.Prelude.{List, []}
use Rattle.text_set.specs.Sets.{with_text}
use Rattle.path_core.specs.Form.{Name, Action, Form, strict, local, set_local, seq, cond, while_form, Forms, none, more}

-- the names before, and then those of the form that are new
abbrev mutual
  pub add_names : List Name → Form → List Name
  add_names names (strict o es) = add_all names es
  add_names names (local x) = names
  add_names names (set_local x e) = add_names (with_text names x) e
  add_names names (seq es) = add_all names es
  add_names names (cond t a b) = add_names (add_names (add_names names t) a) b
  add_names names (while_form t b) = add_names (add_names names t) b

  pub add_all : List Name → Forms → List Name
  add_all names none = names
  add_all names (more e es) = add_all (add_names names e) es

abbrev pub names_of : Form → List Name
names_of f = add_names [] f
