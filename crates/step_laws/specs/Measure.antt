-- What falls in a transition that no turn of the machine matches.
use Rattle.std.specs.Prelude.{ℕ, ◌+◌, List, [], ◌∷◌}
use Rattle.ir_core.specs.CoreForm.{CoreForm, nil, truth, falsehood, self_ref, int, str, sym, local, own, exception, set_local, ivar, set_ivar, gvar, set_gvar, constant, top_constant, in_constant, set_constant, set_in_constant, array, hash, range, text, intern, seq, cond, and_form, or_form, while_form, call, yield_form, super_form, function, lambda, begin_form, return_form, break_form, next_form, retry, define, define_on, class_form, module_form, singleton_class, alias_form, undef_form, defined, item, rest_of, tail_of, Maybe, absent, there, Forms, none, more, Items, no_items, plain, splat, Branches, no_branches, branch, Receiver, to, on_self, bare}
use Rattle.def_calls.specs.Fibers.{Fiber}
use Rattle.def_eval.specs.Configuration.{Part, operands, receiver, items, block, elements, hash_key, hash_value, pieces, rest, test, chosen, and_then, or_else, loop_test, loop_body, rescued, clause_class, clause_target, clause_body, ensured, Item, part, activation, iteration, ensuring, Kept, Focus, perform, give, travel, Memory, Config, Run, Halt}

-- forms with no part that is done before a turn count one
abbrev mutual
  pub size : CoreForm → ℕ
  size nil = 1
  size truth = 1
  size falsehood = 1
  size self_ref = 1
  size (int z) = 1
  size (str t) = 1
  size (sym x) = 1
  size (local x) = 1
  size (own x) = 1
  size exception = 1
  size (set_local x e) = 3 + size e
  size (ivar x) = 1
  size (set_ivar x e) = 3 + size e
  size (gvar x) = 1
  size (set_gvar x e) = 3 + size e
  size (constant x) = 1
  size (top_constant x) = 1
  size (in_constant e x) = 3 + size e
  size (set_constant x e) = 3 + size e
  size (set_in_constant e x v) = 6 + size e + size v
  size (array is) = 1
  size (hash ps) = 1
  size (range a b x) = 6 + size a + size b
  size (text es) = 1
  size (intern e) = 3 + size e
  size (seq es) = 3 + sizes es
  size (cond bs o) = 3 + size_first bs + size o
  size (and_form a b) = 3 + size a
  size (or_form a b) = 3 + size a
  size (while_form first t b) = 1
  size (call r x is b) = 5 + size_receiver r + size_items is + size_block b
  size (yield_form is) = 1 + size_items is
  size (super_form is b) = 1 + size_items is + size_block b
  size (function f) = 1
  size (lambda f) = 1
  size (begin_form b cs o e) = 4 + size b + size_maybe o
  size (return_form e) = 3 + size e
  size (break_form e) = 3 + size e
  size (next_form e) = 3 + size e
  size retry = 1
  size (define x f) = 1
  size (define_on e x f) = 3 + size e
  size (class_form s x p f) = 6 + size_maybe s + size_maybe p
  size (module_form s x f) = 3 + size_maybe s
  size (singleton_class e f) = 3 + size e
  size (alias_form x y) = 1
  size (undef_form x) = 1
  size (defined k x e) = 3 + size_maybe e
  size (item e k) = 3 + size e
  size (rest_of e from post) = 3 + size e
  size (tail_of e from count) = 3 + size e

  pub sizes : Forms → ℕ
  sizes none = 0
  sizes (more e es) = 3 + size e + sizes es

  pub size_items : Items → ℕ
  size_items no_items = 0
  size_items (plain e is) = 3 + size e + size_items is
  size_items (splat e is) = 3 + size e + size_items is

  pub size_first : Branches → ℕ
  size_first no_branches = 0
  size_first (branch t b bs) = size t

  pub size_maybe : Maybe → ℕ
  size_maybe absent = 0
  size_maybe (there e) = size e

  -- the block of a call is a form and a part
  pub size_block : Maybe → ℕ
  size_block absent = 0
  size_block (there e) = 3 + size e

  pub size_receiver : Receiver → ℕ
  size_receiver (to e) = size e
  size_receiver on_self = 0
  size_receiver bare = 0

abbrev pub weight : Part → ℕ
weight (operands n a vs es) = 1 + sizes es
weight (receiver n x is b) = 3 + size_items is + size_block b
weight (items n k r vs is b) = 1 + size_items is + size_block b
weight (block k r vs) = 1
weight (elements n g o s is) = 1
weight (hash_key n o e ps) = 2 + size e
weight (hash_value n o k ps) = 1
weight (pieces n o es) = 1
weight (rest n es) = 1 + sizes es
weight (test n b bs o) = 1
weight chosen = 1
weight (and_then n e) = 1
weight (or_else n e) = 1
weight (loop_test n t b) = 1
weight (loop_body n t b) = 2 + size t
weight (rescued n b cs o) = 3 + size_maybe o
weight (clause_class n e es t b cs r) = 1
weight (clause_target n e b r) = 1
weight (clause_body r) = 1
weight (ensured n e) = 1

abbrev pub weights : List Item → ℕ
weights [] = 0
weights (part k ∷ ks) = weight k + weights ks
weights (activation a place ∷ ks) = 2 + weights ks
weights (iteration a it place ∷ ks) = 3 + weights ks
weights (ensuring o ∷ ks) = 1 + weights ks

-- what the other fibers wait to do
abbrev pub waiting : List (Fiber Kept) → ℕ
waiting [] = 0
waiting (f ∷ fs) = 1 + weights f.kept.items + waiting fs

abbrev pub burden : List Item → Memory → ℕ
burden ks m = weights ks + waiting m.fibers.others

-- a value weighs more where an iteration goes on with it, which may begin a fiber
abbrev pub poise : Focus → List Item → ℕ
poise (perform n e) ks = 1 + size e
poise (give v) [] = 1
poise (give v) (part k ∷ ks) = 1
poise (give v) (activation a place ∷ ks) = 1
poise (give v) (iteration a it place ∷ ks) = 3
poise (give v) (ensuring o ∷ ks) = 1
poise (travel x) ks = 0

abbrev pub measure : Config → ℕ
measure (Halt e) = 0
measure (Run f ks m) = poise f ks + burden ks m
