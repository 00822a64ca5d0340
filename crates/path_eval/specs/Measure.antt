-- What falls in a transition that no turn of the machine matches.
use Rattle.std.specs.Prelude.{ℕ, ◌+◌, List, [], ◌∷◌}
use Rattle.path_core.specs.Form.{Form, strict, local, set_local, seq, cond, while_form, Forms, none, more}
use Rattle.path_eval.specs.Configuration.{Part, operands, rest, branch, chosen, loop_test, loop_body, assign, Item, inside, activation, Focus, perform, give, travel, Config, Run, Halt}

abbrev mutual
  pub size : Form → ℕ
  size (strict a es) = 2 + sizes es
  size (local x) = 1
  size (set_local x e) = 2 + size e
  size (seq es) = 2 + sizes es
  size (cond t a b) = 2 + size t
  size (while_form t e) = 2 + size t

  pub sizes : Forms → ℕ
  sizes none = 0
  sizes (more e es) = 2 + size e + sizes es

abbrev pub weight : Part → ℕ
weight (operands a vs es) = 1 + sizes es
weight (rest es) = 1 + sizes es
weight (branch a b) = 1
weight chosen = 1
weight (loop_test t e) = 1
weight (loop_body t e) = 1
weight (assign x) = 1

abbrev pub weights : List Item → ℕ
weights [] = 0
weights (inside k ∷ ks) = weight k + weights ks
weights (activation a ∷ ks) = 1 + weights ks

abbrev pub focus_size : Focus → ℕ
focus_size (perform e) = size e
focus_size (give v) = 0
focus_size (travel x) = 0

abbrev pub measure : Config → ℕ
measure (Halt e) = 0
measure (Run f ks w) = focus_size f + weights ks
