-- Where a walk finds nothing, none was found before.
use Rattle.std.proofs.Common.{◌≡◌, ℕ, Bool, true, false, not, ◌&&◌, [], Option, Some, None, refl}
use Rattle.parser_tree.specs.Node as node
use Rattle.parser_tree.specs.Node.{Node, Nodes}
use Rattle.parser_checks.specs.Doubled.{are_distinct, names_of}
use Rattle.parser_checks.specs.Places.{within_loop, within_for, within_block, within_clause, method, class_body, within_outside, place_of, names_constant, any_constant, lesser, noted, assigns, opens_class, walk, walk_all}
use Rattle.parser_checks.specs.declared.around.Around.{Around}

lesser_found : (at : ℕ) (k : Option ℕ) → lesser k at ≡ None → ⊥
lesser_found at None h = absurd (cc h)
lesser_found at (Some best) h = absurd (cc h)

-- a place is noted where something may not stand
pub noted_kept : (may : Bool) (at : ℕ) (k : Option ℕ) → noted may at k ≡ None → (may ≡ true) × (k ≡ None)
noted_kept true at k h = (refl, h)
noted_kept false at k h = absurd (lesser_found at k h)

pub assigned_kept : (a : Around) (constant : Bool) (k : Option ℕ) → assigns a constant k ≡ None → k ≡ None
assigned_kept a constant k h = (noted_kept (not (a.in_definition && constant)) a.opening k h).1

pub opened_kept : (a : Around) (k : Option ℕ) → opens_class a k ≡ None → k ≡ None
opened_kept a k h = (noted_kept (not a.in_definition) a.opening k h).1

mutual
  pub kept : (n : Node) (a : Around) (k : Option ℕ) → walk a n k ≡ None → k ≡ None
  kept (node.text ps) a k h = all_kept ps a k h
  kept (node.symbol_text ps) a k h = all_kept ps a k h
  kept (node.scoped_constant e x) a k h = kept e a k h
  kept (node.array is) a k h = all_kept is a k h
  kept (node.hash ps) a k h = all_kept ps a k h
  kept (node.statements es) a k h = all_kept es a k h
  kept (node.not_node e) a k h = kept e a k h
  kept (node.unary o e) a k h = kept e a k h
  kept (node.operation e o f) a k h =
      let k1 = walk a e k in
      let h1 = kept f a k1 h in
      kept e a k h1
  kept (node.and_node e f) a k h =
      let k1 = walk a e k in
      let h1 = kept f a k1 h in
      kept e a k h1
  kept (node.or_node e f) a k h =
      let k1 = walk a e k in
      let h1 = kept f a k1 h in
      kept e a k h1
  kept (node.range e f x at) a k h =
      let k1 = walk a e k in
      let h1 = kept f a k1 h in
      kept e a k h1
  kept (node.if_node bs o) a k h =
      let k1 = walk_all a bs k in
      let h1 = all_kept o a k1 h in
      all_kept bs a k h1
  kept (node.unless_node t b o) a k h =
      let k1 = walk a t k in
      let k2 = walk a b k1 in
      let h2 = all_kept o a k2 h in
      let h1 = kept b a k1 h2 in
      kept t a k h1
  kept (node.while_node u f t b) a k h =
      let k1 = walk (within_loop a) t k in
      let h1 = kept b (within_loop a) k1 h in
      kept t (within_loop a) k h1
  kept (node.for_node ts e b) a k h =
      let k1 = walk a e k in
      let k2 = assigns a (any_constant ts) k1 in
      let k3 = walk_all (within_for a) ts k2 in
      let h3 = kept b (within_for a) k3 h in
      let h2 = all_kept ts (within_for a) k2 h3 in
      let h1 = assigned_kept a (any_constant ts) k1 h2 in
      kept e a k h1
  kept (node.case_node s cs o) a k h =
      let k1 = walk_all a s k in
      let k2 = walk_all a cs k1 in
      let h2 = all_kept o a k2 h in
      let h1 = all_kept cs a k1 h2 in
      all_kept s a k h1
  kept (node.begin_node b cs o e) a k h =
      let k1 = walk a b k in
      let k2 = walk_all a cs k1 in
      let k3 = walk_all a o k2 in
      let h3 = all_kept e a k3 h in
      let h2 = all_kept o a k2 h3 in
      let h1 = all_kept cs a k1 h2 in
      kept b a k h1
  kept (node.rescue_modifier e f) a k h =
      let k1 = walk a e k in
      let h1 = kept f (within_clause a) k1 h in
      kept e a k h1
  kept (node.call r x is b) a k h =
      let k1 = walk_all a r k in
      let k2 = walk_all a is k1 in
      let h2 = all_kept b (within_block a) k2 h in
      let h1 = all_kept is a k1 h2 in
      all_kept r a k h1
  kept (node.index e is) a k h =
      let k1 = walk a e k in
      let h1 = all_kept is a k1 h in
      kept e a k h1
  kept (node.super_node at is b) a k h =
      let k1 = noted a.in_method at k in
      let k2 = walk_all a is k1 in
      let h2 = all_kept b (within_block a) k2 h in
      let h1 = all_kept is a k1 h2 in
      (noted_kept a.in_method at k h1).1
  kept (node.yield_node at is) a k h =
      let k1 = noted a.in_method at k in
      let h1 = all_kept is a k1 h in
      (noted_kept a.in_method at k h1).1
  kept (node.defined e) a k h = kept e a k h
  kept (node.lambda d) a k h = kept d (within_block a) k h
  kept (node.return_node at is) a k h =
      let k1 = noted a.may_return at k in
      let h1 = all_kept is a k1 h in
      (noted_kept a.may_return at k h1).1
  kept (node.break_node at is) a k h =
      let k1 = noted a.in_loop at k in
      let h1 = all_kept is a k1 h in
      (noted_kept a.in_loop at k h1).1
  kept (node.next_node at is) a k h =
      let k1 = noted a.in_loop at k in
      let h1 = all_kept is a k1 h in
      (noted_kept a.in_loop at k h1).1
  kept (node.retry at) a k h = (noted_kept a.in_clause at k h).1
  kept (node.assign t e) a k h =
      let k1 = assigns a (names_constant t) k in
      let k2 = walk a t k1 in
      let h2 = kept e a k2 h in
      let h1 = kept t a k1 h2 in
      assigned_kept a (names_constant t) k h1
  kept (node.operator_assign t o e) a k h =
      let k1 = assigns a (names_constant t) k in
      let k2 = walk a t k1 in
      let h2 = kept e a k2 h in
      let h1 = kept t a k1 h2 in
      assigned_kept a (names_constant t) k h1
  kept (node.multiple_assign t e) a k h =
      let k1 = assigns a (names_constant t) k in
      let k2 = walk a t k1 in
      let h2 = kept e a k2 h in
      let h1 = kept t a k1 h2 in
      assigned_kept a (names_constant t) k h1
  kept (node.targets before star rest after) a k h =
      let k1 = walk_all a before k in
      let k2 = walk_all a rest k1 in
      let h2 = all_kept after a k2 h in
      let h1 = all_kept rest a k1 h2 in
      all_kept before a k h1
  kept (node.define s x d) a k h =
      let k1 = walk_all a s k in
      let h1 = kept d (method (place_of d)) k1 h in
      all_kept s a k h1
  kept (node.class_node s x p ls b) a k h =
      let k1 = opens_class a k in
      let k2 = walk a s k1 in
      let k3 = walk_all a p k2 in
      let h3 = kept b (class_body a) k3 h in
      let h2 = all_kept p a k2 h3 in
      let h1 = kept s a k1 h2 in
      opened_kept a k h1
  kept (node.singleton_class e ls b) a k h =
      let k1 = walk a e k in
      let h1 = kept b (class_body a) k1 h in
      kept e a k h1
  kept (node.module_node s x ls b) a k h =
      let k1 = opens_class a k in
      let k2 = walk a s k1 in
      let h2 = kept b (class_body a) k2 h in
      let h1 = kept s a k1 h2 in
      opened_kept a k h1
  kept (node.outside o at es) a k h = all_kept es (within_outside o a at) k h
  kept (node.splat e) a k h = kept e a k h
  kept (node.pair e f) a k h =
      let k1 = walk a e k in
      let h1 = kept f a k1 h in
      kept e a k h1
  kept (node.branch t b) a k h =
      let k1 = walk a t k in
      let h1 = kept b a k1 h in
      kept t a k h1
  kept (node.when_clause ts b) a k h =
      let k1 = walk_all a ts k in
      let h1 = kept b a k1 h in
      all_kept ts a k h1
  kept (node.rescue_clause cs t b) a k h =
      let k1 = walk_all (within_clause a) cs k in
      let k2 = assigns a (any_constant t) k1 in
      let k3 = walk_all (within_clause a) t k2 in
      let h3 = kept b (within_clause a) k3 h in
      let h2 = all_kept t (within_clause a) k2 h3 in
      let h1 = assigned_kept a (any_constant t) k1 h2 in
      all_kept cs (within_clause a) k h1
  kept (node.arguments is b) a k h =
      let k1 = walk_all a is k in
      let h1 = all_kept b a k1 h in
      all_kept is a k h1
  kept (node.definition at rs os rest ps x outs ls b) a k h =
      let k1 = noted (are_distinct [] (names_of rs os rest ps x)) at k in
      let k2 = walk_all a rs k1 in
      let k3 = walk_all a os k2 in
      let k4 = walk_all a ps k3 in
      let k5 = walk_all a outs k4 in
      let h5 = kept b a k5 h in
      let h4 = all_kept outs a k4 h5 in
      let h3 = all_kept ps a k3 h4 in
      let h2 = all_kept os a k2 h3 in
      let h1 = all_kept rs a k1 h2 in
      (noted_kept (are_distinct [] (names_of rs os rest ps x)) at k h1).1
  kept (node.optional_parameter x e) a k h = kept e a k h
  kept n a k h = h

  pub all_kept : (ns : Nodes) (a : Around) (k : Option ℕ) → walk_all a ns k ≡ None → k ≡ None
  all_kept node.none a k h = h
  all_kept (node.more n ns) a k h = kept n a k (all_kept ns a (walk a n k) h)
