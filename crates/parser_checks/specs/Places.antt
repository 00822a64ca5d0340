-- Which words of a program stand where they may, with parameters that differ.
use Rattle.std.specs.Prelude.{◌≡◌, ℕ, min, Bool, true, false, if◌then◌else◌, not, ◌&&◌, ◌||◌, [], Option, Some, None, Result, Ok, Err}
use Rattle.std.specs.declared.alloc.AllocError.{AllocError}
use Rattle.rb_syntax.specs.declared.outside.Outside.{Outside}
use Rattle.rb_syntax.specs.declared.outside.Outside.TheVariants.{EndlessMethod}
use Rattle.parser_tree.specs.Node as node
use Rattle.parser_tree.specs.Node.{Node, Nodes}
use Rattle.parser_checks.specs.Doubled.{are_distinct, names_of}
use Rattle.parser_checks.specs.declared.around.Around.{Around}

-- what was found is what the walk gives; memory may run out at any time
abbrev pub Walks : Result (Option ℕ) AllocError → Option ℕ → Type 0
Walks (Ok found) walked = walked ≡ found
Walks (Err e) walked = Unit {0}

-- what stands around the statements of a program
abbrev pub program : Around
program = record {
  in_loop = false;
  in_clause = false;
  may_return = true;
  in_method = false;
  in_definition = false;
  opening = 0;
}

-- break and next may stand in a loop and in a block
abbrev pub within_loop : Around → Around
within_loop a = record {
  in_loop = true;
  in_clause = a.in_clause;
  may_return = a.may_return;
  in_method = a.in_method;
  in_definition = a.in_definition;
  opening = a.opening;
}

-- the inside of a for is run as a block, so retry doesn't lead out of it
abbrev pub within_for : Around → Around
within_for a = record {
  in_loop = true;
  in_clause = false;
  may_return = a.may_return;
  in_method = a.in_method;
  in_definition = a.in_definition;
  opening = a.opening;
}

-- a return in a block may stand in the body of a class
abbrev pub within_block : Around → Around
within_block a = record {
  in_loop = true;
  in_clause = false;
  may_return = true;
  in_method = a.in_method;
  in_definition = a.in_definition;
  opening = a.opening;
}

abbrev pub within_clause : Around → Around
within_clause a = record {
  in_loop = a.in_loop;
  in_clause = true;
  may_return = a.may_return;
  in_method = a.in_method;
  in_definition = a.in_definition;
  opening = a.opening;
}

-- inside of the method whose opening word is at that place
abbrev pub method : ℕ → Around
method word = record {
  in_loop = false;
  in_clause = false;
  may_return = true;
  in_method = true;
  in_definition = true;
  opening = word;
}

abbrev pub class_body : Around → Around
class_body a = record {
  in_loop = false;
  in_clause = false;
  may_return = false;
  in_method = false;
  in_definition = a.in_definition;
  opening = a.opening;
}

-- a method that is written as one expression is a method, too
abbrev pub within_outside : Outside → Around → ℕ → Around
within_outside EndlessMethod a at = method at
within_outside o a at = a

-- whether a constant is among the targets
abbrev mutual
  pub names_constant : Node → Bool
  names_constant (node.constant x) = true
  names_constant (node.scoped_constant e x) = true
  names_constant (node.targets before star rest after) =
      any_constant before || (any_constant rest || any_constant after)
  names_constant t = false

  pub any_constant : Nodes → Bool
  any_constant node.none = false
  any_constant (node.more t ts) = names_constant t || any_constant ts

-- the lesser of a place that was found and another
abbrev pub lesser : Option ℕ → ℕ → Option ℕ
lesser None at = Some at
lesser (Some best) at = Some (min at best)

-- the place of what may not stand there is found
abbrev pub noted : Bool → ℕ → Option ℕ → Option ℕ
noted may at best = if may then best else lesser best at

-- a constant isn't assigned inside of a method; the place is that of the method
abbrev pub assigns : Around → Bool → Option ℕ → Option ℕ
assigns a constant best = noted (not (a.in_definition && constant)) a.opening best

-- no class and no module stands inside of a method; the place is that of the method
abbrev pub opens_class : Around → Option ℕ → Option ℕ
opens_class a best = noted (not a.in_definition) a.opening best

-- the place of a definition
abbrev pub place_of : Node → ℕ
place_of (node.definition at rs os rest ps x outs xs b) = at
place_of _ = 0

-- The walk over a tree, after a place that was found: the least place of what may not stand where it stands.
abbrev mutual
  pub walk : Around → Node → Option ℕ → Option ℕ
  walk a (node.text ps) k = walk_all a ps k
  walk a (node.symbol_text ps) k = walk_all a ps k
  walk a (node.scoped_constant e x) k = walk a e k
  walk a (node.array is) k = walk_all a is k
  walk a (node.hash ps) k = walk_all a ps k
  walk a (node.statements es) k = walk_all a es k
  walk a (node.not_node e) k = walk a e k
  walk a (node.unary o e) k = walk a e k
  walk a (node.operation e o f) k = walk a f (walk a e k)
  walk a (node.and_node e f) k = walk a f (walk a e k)
  walk a (node.or_node e f) k = walk a f (walk a e k)
  walk a (node.range e f x at) k = walk a f (walk a e k)
  walk a (node.if_node bs o) k = walk_all a o (walk_all a bs k)
  walk a (node.unless_node t b o) k = walk_all a o (walk a b (walk a t k))
  walk a (node.while_node u f t b) k = walk (within_loop a) b (walk (within_loop a) t k)
  walk a (node.for_node ts e b) k =
      walk (within_for a) b (walk_all (within_for a) ts (assigns a (any_constant ts) (walk a e k)))
  walk a (node.case_node s cs o) k = walk_all a o (walk_all a cs (walk_all a s k))
  walk a (node.begin_node b cs o e) k = walk_all a e (walk_all a o (walk_all a cs (walk a b k)))
  walk a (node.rescue_modifier e f) k = walk (within_clause a) f (walk a e k)
  walk a (node.call r x is b) k = walk_all (within_block a) b (walk_all a is (walk_all a r k))
  walk a (node.index e is) k = walk_all a is (walk a e k)
  walk a (node.super_node at is b) k = walk_all (within_block a) b (walk_all a is (noted a.in_method at k))
  walk a (node.yield_node at is) k = walk_all a is (noted a.in_method at k)
  walk a (node.defined e) k = walk a e k
  walk a (node.lambda d) k = walk (within_block a) d k
  walk a (node.return_node at is) k = walk_all a is (noted a.may_return at k)
  walk a (node.break_node at is) k = walk_all a is (noted a.in_loop at k)
  walk a (node.next_node at is) k = walk_all a is (noted a.in_loop at k)
  walk a (node.retry at) k = noted a.in_clause at k
  walk a (node.assign t e) k = walk a e (walk a t (assigns a (names_constant t) k))
  walk a (node.operator_assign t o e) k = walk a e (walk a t (assigns a (names_constant t) k))
  walk a (node.multiple_assign ts e) k = walk a e (walk a ts (assigns a (names_constant ts) k))
  walk a (node.targets before star rest after) k = walk_all a after (walk_all a rest (walk_all a before k))
  walk a (node.define s x d) k = walk (method (place_of d)) d (walk_all a s k)
  walk a (node.class_node s x p ls b) k = walk (class_body a) b (walk_all a p (walk a s (opens_class a k)))
  walk a (node.singleton_class e ls b) k = walk (class_body a) b (walk a e k)
  walk a (node.module_node s x ls b) k = walk (class_body a) b (walk a s (opens_class a k))
  walk a (node.outside o at es) k = walk_all (within_outside o a at) es k
  walk a (node.splat e) k = walk a e k
  walk a (node.pair e f) k = walk a f (walk a e k)
  walk a (node.branch t b) k = walk a b (walk a t k)
  walk a (node.when_clause ts b) k = walk a b (walk_all a ts k)
  walk a (node.rescue_clause cs t b) k =
      walk (within_clause a) b (walk_all (within_clause a) t (assigns a (any_constant t)
      (walk_all (within_clause a) cs k)))
  walk a (node.arguments is b) k = walk_all a b (walk_all a is k)
  walk a (node.definition at rs os rest ps x outs xs b) k =
      walk a b (walk_all a outs (walk_all a ps (walk_all a os (walk_all a rs
      (noted (are_distinct [] (names_of rs os rest ps x)) at k)))))
  walk a (node.optional_parameter x e) k = walk a e k
  walk a e k = k

  pub walk_all : Around → Nodes → Option ℕ → Option ℕ
  walk_all a node.none k = k
  walk_all a (node.more e es) k = walk_all a es (walk a e k)

-- the forms of several nodes
abbrev pub walk_two : Around → Node → Node → Option ℕ → Option ℕ
walk_two a m n k = walk a n (walk a m k)

abbrev pub walk_call : Around → Nodes → Nodes → Nodes → Option ℕ → Option ℕ
walk_call a r is b k = walk_all (within_block a) b (walk_all a is (walk_all a r k))

abbrev pub walk_jump : Bool → ℕ → Around → Nodes → Option ℕ → Option ℕ
walk_jump may at a is k = walk_all a is (noted may at k)

abbrev pub walk_assign : Around → Node → Node → Option ℕ → Option ℕ
walk_assign a t e k = walk a e (walk a t (assigns a (names_constant t) k))

abbrev pub walk_define : Around → Nodes → Node → Option ℕ → Option ℕ
walk_define a s d k = walk (method (place_of d)) d (walk_all a s k)

abbrev pub walk_class : Around → Node → Nodes → Node → Option ℕ → Option ℕ
walk_class a s p b k = walk (class_body a) b (walk_all a p (walk a s (opens_class a k)))

abbrev pub walk_module : Around → Node → Node → Option ℕ → Option ℕ
walk_module a s b k = walk (class_body a) b (walk a s (opens_class a k))

abbrev pub walk_singleton : Around → Node → Node → Option ℕ → Option ℕ
walk_singleton a e b k = walk (class_body a) b (walk a e k)

abbrev pub walk_outside : Outside → ℕ → Around → Nodes → Option ℕ → Option ℕ
walk_outside o at a es k = walk_all (within_outside o a at) es k

-- the least place of what may not stand where it stands
abbrev pub misplaced : Node → Option ℕ
misplaced n = walk program n None
