-- The core of a tree, by the table of lowering (docs/core.md). `p` is what a `super` without arguments passes
-- here, and d the number of hidden locals in use around the form. A form that has n hidden locals of its own
-- numbers them from d on and has its parts at d + n; a body begins at 0.
use Rattle.std.specs.Prelude.{ℕ, ◌+◌, ◌==◌, ◌&&◌, bytes_eq, Bool, List, [], ◌++◌, map, codes, if◌then◌else◌, Option, None, Some}
use Rattle.rb_syntax.specs.declared.core_form.Item.{Item}
use Rattle.rb_syntax.specs.declared.core_form.DefinedKind.TheVariants as kind
use Rattle.parser_tree.specs.declared.operator.AssignmentOperator.{AssignmentOperator}
use Rattle.parser_tree.specs.declared.operator.AssignmentOperator.TheVariants as assignment
use Rattle.parser_tree.specs.Operator.{binary_name, unary_name}
use Rattle.parser_tree.specs.Node as node
use Rattle.parser_tree.specs.Node.{Name, Node, Nodes}
use Rattle.ir_core.specs.declared.local.Local as variable
use Rattle.ir_core.specs.View.{local_of}
use Rattle.ir_core.specs.CoreForm as form
use Rattle.ir_core.specs.CoreForm.{Local, CoreForm, Body, Maybe, absent, there, Forms, none, more, one, two, forms, Items, no_items, splat, one_item, Pairs, Branches, Clauses, Receiver, plain_body}
use Rattle.ir_core.specs.Forms.{append, item_if, first_or, sequence, after, send_form, loop_test, rescued, asks_form, asks_of_form}
use Rattle.ir_builder.specs.Forms.{map_item, any_of, asked, has_block, object, passed_items, plain_items, local_number, keep, stored, element, elements_between, last_elements, asks_of_object}
use Rattle.lower_table.specs.Parts.{is_tree, count, is_none, is_literal, joined, items_of, passed_block, parameters, target_locals, passed}

-- what is passed by a `super` without arguments
abbrev pub Passed : Type 0
Passed = List (Item Local)

-- the same, by the parameters as the code holds them
abbrev pub passes : List (Item variable.Local) → Passed
passes is = map (map_item local_of) is

-- a value put in a text
abbrev pub piece_form : Node → CoreForm → CoreForm
piece_form n f = if is_tree n then send_form f (codes "to_s") no_items else f

-- nothing is nil, one item is its value, and several are an Array
abbrev pub value_of : Nodes → CoreForm → Items → CoreForm
value_of node.none only is = form.nil
value_of (node.more n node.none) only is = only
value_of (node.more n (node.more m ns)) only is = form.array is

-- a call without receiver is one of a name alone where it has neither arguments nor parentheses nor a block
abbrev pub receiver_of : Maybe → Nodes → Nodes → Receiver
receiver_of (there r) a b = form.to r
receiver_of absent (node.more a rest) b = form.on_self
receiver_of absent node.none (node.more b bs) = form.on_self
receiver_of absent node.none node.none = form.bare

-- the form of an assignment x op= v, from what reads x, what reads it where it may be absent, and what stores
abbrev pub operated : AssignmentOperator → CoreForm → CoreForm → (CoreForm → CoreForm) → CoreForm → CoreForm
operated (assignment.Operation o) read guarded store v = store (send_form read (binary_name o) (one_item v))
operated assignment.And read guarded store v = form.and_form read (store v)
operated assignment.Or read guarded store v = form.or_form guarded (store v)

-- the items of an index that are kept in hidden locals from k on, as a call passes them
abbrev pub kept : ℕ → Nodes → Items
kept k node.none = no_items
kept k (node.more n ns) = item_if (is_tree n) (local_number k) (kept (k + 1) ns)

abbrev pub index_call : ℕ → Nodes → CoreForm
index_call d is = send_form (local_number d) (codes "[]") (kept (d + 1) is)

abbrev pub index_store : ℕ → Nodes → CoreForm → Forms
index_store d is v = stored d (codes "[]=") (kept (d + 1) is) (d + 1 + count is) v

abbrev pub attribute_store : ℕ → Name → CoreForm → Forms
attribute_store d x v = stored d (x ++ codes "=") no_items (d + 1) v

-- the constant, or nil where there is none
abbrev pub guarded : CoreForm → CoreForm → CoreForm
guarded asked read = form.and_form asked read

abbrev pub attribute_set : ℕ → Name → Maybe → CoreForm → CoreForm
attribute_set d x absent v = v
attribute_set d x (there r) v = form.seq (more (keep d r) (attribute_store d x v))

abbrev pub attribute_operated : ℕ → Name → Maybe → AssignmentOperator → CoreForm → CoreForm
attribute_operated d x absent o v = v
attribute_operated d x (there r) o v =
    let read = send_form (local_number d) x no_items in
    form.seq (two (keep d r) (operated o read read (λ f. form.seq (attribute_store d x f)) v))

abbrev pub index_set : ℕ → CoreForm → Nodes → Forms → CoreForm → CoreForm
index_set d a is keeps v = form.seq (more (keep d a) (append keeps (index_store d is v)))

abbrev pub index_operated : ℕ → CoreForm → Nodes → Forms → AssignmentOperator → CoreForm → CoreForm
index_operated d a is keeps o v =
    let read = index_call d is in
    form.seq (more (keep d a) (append keeps (one (operated o read read (λ f. form.seq (index_store d is f)) v))))

abbrev pub scoped_operated : ℕ → CoreForm → Name → AssignmentOperator → CoreForm → CoreForm
scoped_operated d m x o v =
    let read = form.in_constant (local_number d) x in
    form.seq (two (keep d m) (operated o read (guarded (form.defined kind.Constant x (there (local_number d))) read)
    (λ f. form.set_in_constant (local_number d) x f) v))

-- the scope of the constant of a class or module
abbrev pub scope_form : Node → CoreForm → Maybe
scope_form node.innermost f = absent
scope_form node.top f = there object
scope_form n f = there f

abbrev pub defined_call : Name → Maybe → CoreForm
defined_call x absent = asks_form kind.Method x
defined_call x (there r) = asks_of_form kind.Method x r

-- the tests of a case: on the subject that a hidden local holds, or alone
abbrev pub asked_by : Option ℕ → Forms → Forms
asked_by None fs = fs
asked_by (Some d) fs = asked (local_number d) fs

-- the locals of a definition besides its parameters
abbrev pub locals_of : List Name → List Local
locals_of xs = map form.named xs

abbrev pub is_block_given : Name → Nodes → Nodes → Nodes → Bool
is_block_given x r a b =
    bytes_eq x (codes "block_given?") && is_none r && is_none (items_of a) && is_none (passed_block a) && is_none b

abbrev pub super_of : Passed → Nodes → Items → Items
super_of p node.none is = passed_items p
super_of p (node.more a rest) is = is

abbrev pub defined_on : Maybe → Name → Body → CoreForm
defined_on absent x b = form.define x b
defined_on (there s) x b = form.define_on s x b

-- what a method passes to a `super` without arguments
abbrev pub passed_by : Node → Passed
passed_by (node.definition at r o rest q b x ls e) = passed (parameters r o rest q b)
passed_by n = []

-- a list of statements is asked about as its only one
abbrev pub asks_only : Forms → CoreForm
asks_only none = asks_form kind.Expression []
asks_only (more f none) = f
asks_only (more f (more g gs)) = asks_form kind.Expression []

-- the hidden locals of a group with so many targets after a star: the value, and what these are taken from
abbrev pub group_width : ℕ → ℕ
group_width n = if n == 0 then 1 else 2

-- the hidden locals of an assignment to a target, and of an abbreviated one
abbrev pub width : Node → ℕ
width (node.call r x a b) = 2
width (node.index e is) = count is + 2
width (node.targets b s r a) = group_width (count a)
width n = 0

abbrev pub operated_width : Node → ℕ
operated_width (node.call r x a b) = 2
operated_width (node.index e is) = count is + 2
operated_width (node.scoped_constant e x) = 1
operated_width n = 0

-- the value of one item, by its core: the elements of a splat are an Array
abbrev pub single_of : Node → CoreForm → CoreForm
single_of n f = if is_tree n then f else form.array (splat f no_items)

-- the assignment of a parameter that is a pattern
abbrev pub pattern_of : Node → CoreForm → Forms
pattern_of n f = if is_tree n then one f else none

-- the first of the assignments to the target of a clause
abbrev pub target_form : Forms → Maybe
target_form none = absent
target_form (more f fs) = there f

-- the block of a `for`, by the assignments to its targets and the core of its body
abbrev pub walk_of : Nodes → Forms → CoreForm → Body
walk_of ts assigned f =
    form.body (record { required = target_locals 0 ts; optional = []; rest = []; post = []; block = [] }) []
    (after assigned f)

-- what n targets after a star are taken from, kept in hidden local d + 1 where there are any: the last elements of the
-- value in d, none of them before place m
abbrev pub tail_kept : ℕ → ℕ → ℕ → Forms
tail_kept d m n = if n == 0 then none else one (keep (d + 1) (last_elements d m n))

-- the assignments to the targets of a group from the value in hidden local d: those before the star, its target, and
-- those after it, which the last elements are kept for
abbrev pub group_of : ℕ → Nodes → Nodes → Forms → Forms → Forms → Forms
group_of d b a before between behind =
    append before (append between (append (tail_kept d (count b) (count a)) behind))

abbrev mutual
  pub core : Passed → ℕ → Node → CoreForm
  core p d node.nil = form.nil
  core p d node.truth = form.truth
  core p d node.falsehood = form.falsehood
  core p d node.self_reference = form.self_ref
  core p d (node.integer n) = form.int n
  core p d (node.text ps) = if is_literal ps then form.str (joined ps) else form.text (pieces p d ps)
  core p d (node.symbol x) = form.sym x
  core p d (node.symbol_text ps) =
      if is_literal ps then form.sym (joined ps) else form.intern (form.text (pieces p d ps))
  core p d (node.words xs) = form.array (plain_items (map form.str xs))
  core p d (node.symbols xs) = form.array (plain_items (map form.sym xs))
  core p d (node.local x) = form.local (form.named x)
  core p d (node.instance_variable x) = form.ivar x
  core p d (node.global_variable x) = form.gvar x
  core p d (node.constant x) = form.constant x
  core p d (node.top_constant x) = form.top_constant x
  core p d (node.scoped_constant e x) = form.in_constant (core p d e) x
  core p d (node.array is) = form.array (items p d is)
  core p d (node.hash ps) = form.hash (pairs p d ps)
  core p d (node.statements es) = sequence (core_all p d es)
  core p d (node.not_node e) = send_form (core p d e) (codes "!") no_items
  core p d (node.unary o e) = send_form (core p d e) (unary_name o) no_items
  core p d (node.operation a o b) = send_form (core p d a) (binary_name o) (one_item (core p d b))
  core p d (node.and_node a b) = form.and_form (core p d a) (core p d b)
  core p d (node.or_node a b) = form.or_form (core p d a) (core p d b)
  core p d (node.range a b x at) = form.range (core p d a) (core p d b) x
  core p d (node.if_node bs o) = form.cond (branches p d bs) (first_or form.nil (core_all p d o))
  core p d (node.unless_node t b o) =
      form.cond (form.branch (core p d t) (first_or form.nil (core_all p d o)) form.no_branches) (core p d b)
  core p d (node.while_node until f t b) = form.while_form f (loop_test until (core p d t)) (core p d b)
  core p d (node.for_node ts e b) =
      form.call (form.to (core p d e)) (codes "each") no_items (there (form.function (walk_of ts
      (stores p 0 (λ k. form.local (form.pattern k)) 0 ts) (core p 0 b))))
  core p d (node.case_node node.none cs o) =
      form.cond (whens p d (asked_by None) cs) (first_or form.nil (core_all p d o))
  core p d (node.case_node (node.more s ss) cs o) =
      form.seq (two (keep d (core p (d + 1) s)) (form.cond (whens p (d + 1) (asked_by (Some d)) cs)
      (first_or form.nil (core_all p (d + 1) o))))
  core p d (node.begin_node b cs o e) =
      if is_none cs && (is_none o && is_none e) then core p d b
      else form.begin_form (core p d b) (clauses p d cs) (maybe p d o) (maybe p d e)
  core p d (node.rescue_modifier a b) = rescued (core p d a) (core p d b)
  core p d (node.call r x a b) =
      if is_block_given x r a b then has_block
      else form.call (receiver_of (maybe p d r) a b) x (call_items p d a) (block_or p b (call_block p d a))
  core p d (node.index e is) = send_form (core p d e) (codes "[]") (items p d is)
  core p d (node.super_node at a b) =
      form.super_form (super_of p a (call_items p d a)) (block_or p b (call_block p d a))
  core p d (node.yield_node at is) = form.yield_form (items p d is)
  core p d (node.defined e) = defined p d e
  core p d (node.lambda n) = form.lambda (body_of p n)
  core p d (node.return_node at is) = form.return_form (value_of is (first_single p d is) (items p d is))
  core p d (node.break_node at is) = form.break_form (value_of is (first_single p d is) (items p d is))
  core p d (node.next_node at is) = form.next_form (value_of is (first_single p d is) (items p d is))
  core p d (node.retry at) = form.retry
  core p d (node.assign t e) = store p d t (core p (d + width t) e)
  core p d (node.operator_assign t o e) = operate p d t o (core p (d + operated_width t) e)
  core p d (node.multiple_assign t e) = store p d t (core p (d + width t) e)
  core p d (node.define s x n) = defined_on (maybe p d s) x (body_of (passed_by n) n)
  core p d (node.class_node s x q ls b) =
      form.class_form (scope_form s (core p d s)) x (maybe p d q) (plain_body (locals_of ls) (core [] 0 b))
  core p d (node.singleton_class e ls b) = form.singleton_class (core p d e) (plain_body (locals_of ls) (core [] 0 b))
  core p d (node.module_node s x ls b) =
      form.module_form (scope_form s (core p d s)) x (plain_body (locals_of ls) (core [] 0 b))
  core p d (node.alias_node x y) = form.alias_form x y
  core p d (node.undef_node xs) = sequence (forms (map form.undef_form xs))
  core p d (node.splat e) = core p d e
  core p d (node.piece s) = form.str s
  core p d (node.optional_parameter x e) = form.set_local (form.named x) (core p d e)
  core p d n = form.nil

  pub core_all : Passed → ℕ → Nodes → Forms
  core_all p d node.none = none
  core_all p d (node.more n ns) = more (core p d n) (core_all p d ns)

  -- a tree that may be there
  pub maybe : Passed → ℕ → Nodes → Maybe
  maybe p d node.none = absent
  maybe p d (node.more n ns) = there (core p d n)

  pub items : Passed → ℕ → Nodes → Items
  items p d node.none = no_items
  items p d (node.more n ns) = item_if (is_tree n) (core p d n) (items p d ns)

  pub first_single : Passed → ℕ → Nodes → CoreForm
  first_single p d node.none = form.nil
  first_single p d (node.more n ns) = single_of n (core p d n)

  pub pairs : Passed → ℕ → Nodes → Pairs
  pairs p d node.none = form.no_pairs
  pairs p d (node.more n ns) = pair_then p d n (pairs p d ns)

  pub pair_then : Passed → ℕ → Node → Pairs → Pairs
  pair_then p d (node.pair k v) ps = form.pair (core p d k) (core p d v) ps
  pair_then p d n ps = ps

  pub branches : Passed → ℕ → Nodes → Branches
  branches p d node.none = form.no_branches
  branches p d (node.more n ns) = branch_then p d n (branches p d ns)

  pub branch_then : Passed → ℕ → Node → Branches → Branches
  branch_then p d (node.branch t b) bs = form.branch (core p d t) (core p d b) bs
  branch_then p d n bs = bs

  pub clauses : Passed → ℕ → Nodes → Clauses
  clauses p d node.none = form.no_clauses
  clauses p d (node.more n ns) = clause_then p d n (clauses p d ns)

  -- a clause; its target is assigned the exception
  pub clause_then : Passed → ℕ → Node → Clauses → Clauses
  clause_then p d (node.rescue_clause cs t b) more_clauses =
      form.clause (core_all p d cs) (target_form (stores p d (λ k. form.exception) 0 t)) (core p d b) more_clauses
  clause_then p d n more_clauses = more_clauses

  -- the items of arguments, and what follows &
  pub call_items : Passed → ℕ → Nodes → Items
  call_items p d node.none = no_items
  call_items p d (node.more n ns) = argument_items p d n

  pub argument_items : Passed → ℕ → Node → Items
  argument_items p d (node.arguments is b) = items p d is
  argument_items p d n = no_items

  pub call_block : Passed → ℕ → Nodes → Maybe
  call_block p d node.none = absent
  call_block p d (node.more n ns) = argument_block p d n

  pub argument_block : Passed → ℕ → Node → Maybe
  argument_block p d (node.arguments is b) = maybe p d b
  argument_block p d n = absent

  -- the block of a call: the one that is given, else what follows &
  pub block_or : Passed → Nodes → Maybe → Maybe
  block_or p node.none given = given
  block_or p (node.more n ns) given = there (form.function (body_of p n))

  -- the body of a definition: defaults, patterns of parameters, and its statements
  pub body_of : Passed → Node → Body
  body_of p (node.definition at r o rest q b x ls e) =
      form.body (parameters r o rest q b) (locals_of ls)
      (after (append (core_all p 0 o) (append (patterns p 0 r) (patterns p (count r) q))) (core p 0 e))
  body_of p n = plain_body [] form.nil

  -- the pieces of a text
  pub pieces : Passed → ℕ → Nodes → Forms
  pieces p d node.none = none
  pieces p d (node.more n ns) = more (piece_form n (core p d n)) (pieces p d ns)

  -- the branches of a case, whose tests are asked in a way
  pub whens : Passed → ℕ → (Forms → Forms) → Nodes → Branches
  whens p d ask node.none = form.no_branches
  whens p d ask (node.more n ns) = when_then p d ask n (whens p d ask ns)

  pub when_then : Passed → ℕ → (Forms → Forms) → Node → Branches → Branches
  when_then p d ask (node.when_clause ts b) bs = form.branch (any_of (ask (core_all p d ts))) (core p d b) bs
  when_then p d ask n bs = bs

  -- the patterns among parameters from place k on, assigned
  pub patterns : Passed → ℕ → Nodes → Forms
  patterns p k node.none = none
  patterns p k (node.more n ns) =
      append (pattern_of n (store p 0 n (form.local (form.pattern k)))) (patterns p (k + 1) ns)

  -- the forms that keep the items of an index in hidden locals from k on; a splat is kept as one Array
  pub keeps : Passed → ℕ → ℕ → Nodes → Forms
  keeps p d k node.none = none
  keeps p d k (node.more n ns) = more (keep k (single_of n (core p d n))) (keeps p d (k + 1) ns)

  -- what target number k is assigned, from some number on
  pub stores : Passed → ℕ → (ℕ → CoreForm) → ℕ → Nodes → Forms
  stores p d v k node.none = none
  stores p d v k (node.more n ns) = more (store p d n (v k)) (stores p d v (k + 1) ns)

  -- the assignment of a value to a target. A tree that is no target takes no value: the value alone.
  pub store : Passed → ℕ → Node → CoreForm → CoreForm
  store p d (node.local x) v = form.set_local (form.named x) v
  store p d (node.instance_variable x) v = form.set_ivar x v
  store p d (node.global_variable x) v = form.set_gvar x v
  store p d (node.constant x) v = form.set_constant x v
  store p d (node.scoped_constant e x) v = form.set_in_constant (core p d e) x v
  store p d (node.call r x a b) v = attribute_set d x (maybe p (d + 2) r) v
  store p d (node.index e is) v =
      index_set d (core p (d + (count is + 2)) e) is (keeps p (d + (count is + 2)) (d + 1) is) v
  store p d (node.targets b s r a) v =
      form.seq (more (keep d v) (append
      (group_of d b a (stores p (d + group_width (count a)) (element d) 0 b)
      (stores p (d + group_width (count a)) (λ k. elements_between d (count b) (count a)) 0 r)
      (stores p (d + group_width (count a)) (element (d + 1)) 0 a)) (one (local_number d))))
  store p d n v = v

  -- an abbreviated assignment
  pub operate : Passed → ℕ → Node → AssignmentOperator → CoreForm → CoreForm
  operate p d (node.local x) o v =
      operated o (form.local (form.named x)) (form.local (form.named x)) (form.set_local (form.named x)) v
  operate p d (node.instance_variable x) o v = operated o (form.ivar x) (form.ivar x) (form.set_ivar x) v
  operate p d (node.global_variable x) o v = operated o (form.gvar x) (form.gvar x) (form.set_gvar x) v
  operate p d (node.constant x) o v =
      operated o (form.constant x) (guarded (asks_form kind.Constant x) (form.constant x)) (form.set_constant x) v
  operate p d (node.scoped_constant e x) o v = scoped_operated d (core p (d + 1) e) x o v
  operate p d (node.call r x a b) o v = attribute_operated d x (maybe p (d + 2) r) o v
  operate p d (node.index e is) o v =
      index_operated d (core p (d + (count is + 2)) e) is (keeps p (d + (count is + 2)) (d + 1) is) o v
  operate p d n o v = v

  -- what `defined?` asks (the receiver of a call or a constant is evaluated)
  pub defined : Passed → ℕ → Node → CoreForm
  defined p d node.self_reference = asks_form kind.SelfReference []
  defined p d (node.local x) = asks_form kind.LocalVariable x
  defined p d (node.instance_variable x) = asks_form kind.InstanceVariable x
  defined p d (node.global_variable x) = asks_form kind.GlobalVariable x
  defined p d (node.constant x) = asks_form kind.Constant x
  defined p d (node.top_constant x) = asks_of_object x
  defined p d (node.scoped_constant e x) = asks_of_form kind.Constant x (core p d e)
  defined p d (node.statements es) = asks_only (defined_all p d es)
  defined p d (node.not_node e) = asks_of_form kind.Method (codes "!") (core p d e)
  defined p d (node.unary o e) = asks_of_form kind.Method (unary_name o) (core p d e)
  defined p d (node.operation a o b) = asks_of_form kind.Method (binary_name o) (core p d a)
  defined p d (node.call r x a b) = defined_call x (maybe p d r)
  defined p d (node.index e is) = asks_of_form kind.Method (codes "[]") (core p d e)
  defined p d (node.super_node at a b) = asks_form kind.Super []
  defined p d (node.yield_node at is) = asks_form kind.Yield []
  defined p d (node.assign t e) = asks_form kind.Assignment []
  defined p d (node.operator_assign t o e) = asks_form kind.Assignment []
  defined p d (node.multiple_assign t e) = asks_form kind.Assignment []
  defined p d n = asks_form kind.Expression []

  pub defined_all : Passed → ℕ → Nodes → Forms
  defined_all p d node.none = none
  defined_all p d (node.more n ns) = more (defined p d n) (defined_all p d ns)

abbrev pub single : Passed → ℕ → Node → CoreForm
single p d n = single_of n (core p d n)

-- the value of return, break, next
abbrev pub value : Passed → ℕ → Nodes → CoreForm
value p d is = value_of is (first_single p d is) (items p d is)

-- the body of a main program, a class or a module, with its locals
abbrev pub program : List Name → Node → Body
program ls n = plain_body (locals_of ls) (core [] 0 n)

-- the block of a `for`: its targets are assigned first
abbrev pub walk_body : Passed → Nodes → Node → Body
walk_body p ts b = walk_of ts (stores p 0 (λ k. form.local (form.pattern k)) 0 ts) (core p 0 b)

abbrev pub patterned : Passed → ℕ → Node → Forms
patterned p k n = pattern_of n (store p 0 n (form.local (form.pattern k)))

abbrev pub group_stores : Passed → ℕ → Nodes → Nodes → Nodes → Forms
group_stores p d b r a =
    group_of d b a (stores p (d + group_width (count a)) (element d) 0 b)
    (stores p (d + group_width (count a)) (λ k. elements_between d (count b) (count a)) 0 r)
    (stores p (d + group_width (count a)) (element (d + 1)) 0 a)
