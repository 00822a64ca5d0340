-- What lowering reads off nodes without their cores.
use Rattle.std.specs.Prelude.{ℕ, ◌+◌, Bool, true, false, List, [], ◌∷◌, ◌++◌, Option, Some, None, if◌then◌else◌}
use Rattle.rb_syntax.specs.declared.core_form.Item.{Item}
use Rattle.rb_syntax.specs.declared.core_form.Item.TheVariants.{Plain, Splat}
use Rattle.parser_tree.specs.declared.tree.RestParameter.{RestParameter}
use Rattle.parser_tree.specs.declared.tree.RestParameter.TheVariants as rests
use Rattle.parser_tree.specs.Node as node
use Rattle.parser_tree.specs.Node.{Name, Node, Nodes, none, more}
use Rattle.ir_core.specs.CoreForm as form
use Rattle.ir_core.specs.CoreForm.{Local, Parameters}

-- whether it is the node of a tree, and no part of one
abbrev pub is_tree : Node → Bool
is_tree (node.splat a) = false
is_tree (node.pair a b) = false
is_tree (node.piece a) = false
is_tree (node.branch a b) = false
is_tree (node.when_clause a b) = false
is_tree (node.rescue_clause a b c) = false
is_tree (node.arguments a b) = false
is_tree (node.definition at a b c d e f g h) = false
is_tree (node.name_parameter a) = false
is_tree (node.optional_parameter a b) = false
is_tree node.innermost = false
is_tree node.top = false
is_tree n = true

abbrev pub count : Nodes → ℕ
count none = 0
count (more n ns) = 1 + count ns

abbrev pub is_none : Nodes → Bool
is_none none = true
is_none (more n ns) = false

-- the bytes of a piece of a literal
abbrev pub bytes_of : Node → List ℕ
bytes_of (node.piece s) = s
bytes_of n = []

-- whether nothing is put in
abbrev pub is_literal : Nodes → Bool
is_literal none = true
is_literal (more n ns) = if is_tree n then false else is_literal ns

abbrev pub joined : Nodes → List ℕ
joined none = []
joined (more n ns) = bytes_of n ++ joined ns

abbrev pub items_of : Nodes → Nodes
items_of (more (node.arguments is b) ns) = is
items_of ns = none

-- what follows & in arguments
abbrev pub passed_block : Nodes → Nodes
passed_block (more (node.arguments is b) ns) = b
passed_block ns = none

-- the parameter at place k: a pattern has a local of its own
abbrev pub parameter_local : ℕ → Node → Local
parameter_local k (node.name_parameter x) = form.named x
parameter_local k n = form.pattern k

-- the parameters from place k on
abbrev pub parameter_locals : ℕ → Nodes → List Local
parameter_locals k none = []
parameter_locals k (more n ns) = parameter_local k n ∷ parameter_locals (k + 1) ns

-- a parameter for each target of `for`
abbrev pub target_locals : ℕ → Nodes → List Local
target_locals k none = []
target_locals k (more n ns) = form.pattern k ∷ target_locals (k + 1) ns

abbrev pub optional_name : Node → Name
optional_name (node.optional_parameter x e) = x
optional_name n = []

abbrev pub optional_locals : Nodes → List Local
optional_locals none = []
optional_locals (more n ns) = form.named (optional_name n) ∷ optional_locals ns

abbrev pub rest_of : RestParameter → List Local
rest_of rests.Absent = []
rest_of rests.Unnamed = form.rest ∷ []
rest_of (rests.Named x) = form.named x ∷ []

abbrev pub block_of : Option Name → List Local
block_of None = []
block_of (Some x) = form.named x ∷ []

-- the parameters of a definition; those after the rest are numbered after the required ones
abbrev pub parameters : Nodes → Nodes → RestParameter → Nodes → Option Name → Parameters
parameters r o rest p b = record {
  required = parameter_locals 0 r;
  optional = optional_locals o;
  rest = rest_of rest;
  post = parameter_locals (count r) p;
  block = block_of b;
}

abbrev pub plain : List Local → List (Item Local)
plain [] = []
plain (x ∷ xs) = Plain x ∷ plain xs

abbrev pub splats : List Local → List (Item Local)
splats [] = []
splats (x ∷ xs) = Splat x ∷ splats xs

-- what a `super` without arguments passes in a method with these parameters
abbrev pub passed : Parameters → List (Item Local)
passed p = plain p.required ++ plain p.optional ++ splats p.rest ++ plain p.post
