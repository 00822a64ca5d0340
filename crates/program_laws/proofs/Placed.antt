-- A tree whose words stand where they may, with nothing outside the language, and which names known locals, fits.
use Rattle.std.proofs.Common.{◌≡◌, ℕ, Bool, true, false, ◌&&◌, ◌||◌, List, [], ◌++◌, Option, None, refl}
use Rattle.std.proofs.lemmas.Bool.{and_parts}
use Rattle.text_set.specs.Sets.{is_among}
use Rattle.parser_tree.specs.Node as node
use Rattle.parser_tree.specs.Node.{Name, Node, Nodes}
use Rattle.parser_checks.specs.Doubled.{are_distinct, names_of}
use Rattle.parser_checks.specs.Places.{program, misplaced, within_loop, within_for, within_block, within_clause, method, class_body, place_of, names_constant, any_constant, noted, assigns, opens_class, walk, walk_all}
use Rattle.parser_checks.specs.declared.around.Around.{Around}
use Rattle.lower_outside.specs.Search.{found, found_all}
use Rattle.lower_outside.specs.declared.construct.Found.{Found}
use Rattle.program_laws.specs.Fits.{names_within, are_optional, fits, all_fit, IsFitting}
use Rattle.program_laws.specs.Knows.{has_outside, knows, all_known}
use Rattle.program_laws.proofs.Both.{both}
use Rattle.program_laws.proofs.Kept.{noted_kept, assigned_kept, kept, all_kept}
use Rattle.program_laws.proofs.Language.{found_kept, all_found_kept, none_outside}

or_second : (x y : Bool) → x ≡ false → (x || y) ≡ true → y ≡ true
or_second true y h g = absurd (cc)
or_second false y h g = g

mutual
  pub placed : (n : Node) (a : Around) (xs : List Name) (k : Option ℕ) (j : Option Found) → walk a n k ≡ None
      → found j n ≡ None → knows xs n ≡ true → fits a xs n ≡ true
  placed (node.local x) a xs k j h f0 g = g
  placed (node.text ps) a xs k j h f0 g = all_placed ps a xs k j h f0 g
  placed (node.symbol_text ps) a xs k j h f0 g = all_placed ps a xs k j h f0 g
  placed (node.scoped_constant e x) a xs k j h f0 g = placed e a xs k j h f0 g
  placed (node.array is) a xs k j h f0 g = all_placed is a xs k j h f0 g
  placed (node.hash ps) a xs k j h f0 g = all_placed ps a xs k j h f0 g
  placed (node.statements es) a xs k j h f0 g = all_placed es a xs k j h f0 g
  placed (node.not_node e) a xs k j h f0 g = placed e a xs k j h f0 g
  placed (node.unary o e) a xs k j h f0 g = placed e a xs k j h f0 g
  placed (node.operation e o f) a xs k j h f0 g =
      let k1 = walk a e k in
      let h1 = kept f a k1 h in
      let j1 = found j e in
      let f1 = found_kept f j1 f0 in
      let p0 = and_parts (knows xs e) (knows xs f) g in
      both (placed e a xs k j h1 f1 p0.0) (placed f a xs k1 j1 h f0 p0.1)
  placed (node.and_node e f) a xs k j h f0 g =
      let k1 = walk a e k in
      let h1 = kept f a k1 h in
      let j1 = found j e in
      let f1 = found_kept f j1 f0 in
      let p0 = and_parts (knows xs e) (knows xs f) g in
      both (placed e a xs k j h1 f1 p0.0) (placed f a xs k1 j1 h f0 p0.1)
  placed (node.or_node e f) a xs k j h f0 g =
      let k1 = walk a e k in
      let h1 = kept f a k1 h in
      let j1 = found j e in
      let f1 = found_kept f j1 f0 in
      let p0 = and_parts (knows xs e) (knows xs f) g in
      both (placed e a xs k j h1 f1 p0.0) (placed f a xs k1 j1 h f0 p0.1)
  placed (node.range e f x at) a xs k j h f0 g =
      let k1 = walk a e k in
      let h1 = kept f a k1 h in
      let j1 = found j e in
      let f1 = found_kept f j1 f0 in
      let p0 = and_parts (knows xs e) (knows xs f) g in
      both (placed e a xs k j h1 f1 p0.0) (placed f a xs k1 j1 h f0 p0.1)
  placed (node.if_node bs o) a xs k j h f0 g =
      let k1 = walk_all a bs k in
      let h1 = all_kept o a k1 h in
      let j1 = found_all j bs in
      let f1 = all_found_kept o j1 f0 in
      let p0 = and_parts (all_known xs bs) (all_known xs o) g in
      both (all_placed bs a xs k j h1 f1 p0.0) (all_placed o a xs k1 j1 h f0 p0.1)
  placed (node.unless_node t b o) a xs k j h f0 g =
      let k1 = walk a t k in
      let k2 = walk a b k1 in
      let h2 = all_kept o a k2 h in
      let h1 = kept b a k1 h2 in
      let j1 = found j t in
      let j2 = found j1 b in
      let f2 = all_found_kept o j2 f0 in
      let f1 = found_kept b j1 f2 in
      let p0 = and_parts (knows xs t) (knows xs b && all_known xs o) g in
      let p1 = and_parts (knows xs b) (all_known xs o) p0.1 in
      both (placed t a xs k j h1 f1 p0.0) (both (placed b a xs k1 j1 h2 f2 p1.0) (all_placed o a xs k2 j2 h f0 p1.1))
  placed (node.while_node u f t b) a xs k j h f0 g =
      let k1 = walk (within_loop a) t k in
      let h1 = kept b (within_loop a) k1 h in
      let j1 = found j t in
      let f1 = found_kept b j1 f0 in
      let p0 = and_parts (knows xs t) (knows xs b) g in
      both (placed t (within_loop a) xs k j h1 f1 p0.0) (placed b (within_loop a) xs k1 j1 h f0 p0.1)
  placed (node.for_node ts e b) a xs k j h f0 g =
      let k1 = walk a e k in
      let k2 = assigns a (any_constant ts) k1 in
      let k3 = walk_all (within_for a) ts k2 in
      let h3 = kept b (within_for a) k3 h in
      let h2 = all_kept ts (within_for a) k2 h3 in
      let h1 = assigned_kept a (any_constant ts) k1 h2 in
      let j1 = found_all j ts in
      let j2 = found j1 e in
      let f2 = found_kept b j2 f0 in
      let f1 = found_kept e j1 f2 in
      let p0 = and_parts (knows xs e) (all_known xs ts && knows xs b) g in
      let p1 = and_parts (all_known xs ts) (knows xs b) p0.1 in
      both (placed e a xs k j1 h1 f2 p0.0)
      (both (all_placed ts (within_for a) xs k2 j h3 f1 p1.0) (placed b (within_for a) xs k3 j2 h f0 p1.1))
  placed (node.case_node s cs o) a xs k j h f0 g =
      let k1 = walk_all a s k in
      let k2 = walk_all a cs k1 in
      let h2 = all_kept o a k2 h in
      let h1 = all_kept cs a k1 h2 in
      let j1 = found_all j s in
      let j2 = found_all j1 cs in
      let f2 = all_found_kept o j2 f0 in
      let f1 = all_found_kept cs j1 f2 in
      let p0 = and_parts (all_known xs s) (all_known xs cs && all_known xs o) g in
      let p1 = and_parts (all_known xs cs) (all_known xs o) p0.1 in
      both (all_placed s a xs k j h1 f1 p0.0)
      (both (all_placed cs a xs k1 j1 h2 f2 p1.0) (all_placed o a xs k2 j2 h f0 p1.1))
  placed (node.begin_node b cs o e) a xs k j h f0 g =
      let k1 = walk a b k in
      let k2 = walk_all a cs k1 in
      let k3 = walk_all a o k2 in
      let h3 = all_kept e a k3 h in
      let h2 = all_kept o a k2 h3 in
      let h1 = all_kept cs a k1 h2 in
      let j1 = found j b in
      let j2 = found_all j1 cs in
      let j3 = found_all j2 o in
      let f3 = all_found_kept e j3 f0 in
      let f2 = all_found_kept o j2 f3 in
      let f1 = all_found_kept cs j1 f2 in
      let p0 = and_parts (knows xs b) (all_known xs cs && (all_known xs o && all_known xs e)) g in
      let p1 = and_parts (all_known xs cs) (all_known xs o && all_known xs e) p0.1 in
      let p2 = and_parts (all_known xs o) (all_known xs e) p1.1 in
      both (placed b a xs k j h1 f1 p0.0)
      (both (all_placed cs a xs k1 j1 h2 f2 p1.0)
      (both (all_placed o a xs k2 j2 h3 f3 p2.0) (all_placed e a xs k3 j3 h f0 p2.1)))
  placed (node.rescue_modifier e f) a xs k j h f0 g =
      let k1 = walk a e k in
      let h1 = kept f (within_clause a) k1 h in
      let j1 = found j e in
      let f1 = found_kept f j1 f0 in
      let p0 = and_parts (knows xs e) (knows xs f) g in
      both (placed e a xs k j h1 f1 p0.0) (placed f (within_clause a) xs k1 j1 h f0 p0.1)
  placed (node.call r x is b) a xs k j h f0 g =
      let k1 = walk_all a r k in
      let k2 = walk_all a is k1 in
      let h2 = all_kept b (within_block a) k2 h in
      let h1 = all_kept is a k1 h2 in
      let j1 = found_all j r in
      let j2 = found_all j1 is in
      let f2 = all_found_kept b j2 f0 in
      let f1 = all_found_kept is j1 f2 in
      let p0 = and_parts (all_known xs r) (all_known xs is && all_known xs b) g in
      let p1 = and_parts (all_known xs is) (all_known xs b) p0.1 in
      both (all_placed r a xs k j h1 f1 p0.0)
      (both (all_placed is a xs k1 j1 h2 f2 p1.0) (all_placed b (within_block a) xs k2 j2 h f0 p1.1))
  placed (node.index e is) a xs k j h f0 g =
      let k1 = walk a e k in
      let h1 = all_kept is a k1 h in
      let j1 = found j e in
      let f1 = all_found_kept is j1 f0 in
      let p0 = and_parts (knows xs e) (all_known xs is) g in
      both (placed e a xs k j h1 f1 p0.0) (all_placed is a xs k1 j1 h f0 p0.1)
  placed (node.super_node at is b) a xs k j h f0 g =
      let k1 = noted a.in_method at k in
      let k2 = walk_all a is k1 in
      let h2 = all_kept b (within_block a) k2 h in
      let h1 = all_kept is a k1 h2 in
      let j1 = found_all j is in
      let f1 = all_found_kept b j1 f0 in
      let p0 = and_parts (all_known xs is) (all_known xs b) g in
      both ((noted_kept a.in_method at k h1).0)
      (both (all_placed is a xs k1 j h2 f1 p0.0) (all_placed b (within_block a) xs k2 j1 h f0 p0.1))
  placed (node.yield_node at is) a xs k j h f0 g =
      let k1 = noted a.in_method at k in
      let h1 = all_kept is a k1 h in
      both ((noted_kept a.in_method at k h1).0) (all_placed is a xs k1 j h f0 g)
  placed (node.defined e) a xs k j h f0 g = placed e a xs k j h f0 g
  placed (node.lambda d) a xs k j h f0 g = placed d (within_block a) xs k j h f0 g
  placed (node.return_node at is) a xs k j h f0 g =
      let k1 = noted a.may_return at k in
      let h1 = all_kept is a k1 h in
      both ((noted_kept a.may_return at k h1).0) (all_placed is a xs k1 j h f0 g)
  placed (node.break_node at is) a xs k j h f0 g =
      let k1 = noted a.in_loop at k in
      let h1 = all_kept is a k1 h in
      both ((noted_kept a.in_loop at k h1).0) (all_placed is a xs k1 j h f0 g)
  placed (node.next_node at is) a xs k j h f0 g =
      let k1 = noted a.in_loop at k in
      let h1 = all_kept is a k1 h in
      both ((noted_kept a.in_loop at k h1).0) (all_placed is a xs k1 j h f0 g)
  placed (node.retry at) a xs k j h f0 g = (noted_kept a.in_clause at k h).0
  placed (node.assign t e) a xs k j h f0 g =
      let k1 = assigns a (names_constant t) k in
      let k2 = walk a t k1 in
      let h2 = kept e a k2 h in
      let j1 = found j t in
      let f1 = found_kept e j1 f0 in
      let p0 = and_parts (knows xs t) (knows xs e) g in
      both (placed t a xs k1 j h2 f1 p0.0) (placed e a xs k2 j1 h f0 p0.1)
  placed (node.operator_assign t o e) a xs k j h f0 g =
      let k1 = assigns a (names_constant t) k in
      let k2 = walk a t k1 in
      let h2 = kept e a k2 h in
      let j1 = found j t in
      let f1 = found_kept e j1 f0 in
      let p0 = and_parts (knows xs t) (knows xs e) g in
      both (placed t a xs k1 j h2 f1 p0.0) (placed e a xs k2 j1 h f0 p0.1)
  placed (node.multiple_assign t e) a xs k j h f0 g =
      let k1 = assigns a (names_constant t) k in
      let k2 = walk a t k1 in
      let h2 = kept e a k2 h in
      let j1 = found j t in
      let f1 = found_kept e j1 f0 in
      let p0 = and_parts (knows xs t) (knows xs e) g in
      both (placed t a xs k1 j h2 f1 p0.0) (placed e a xs k2 j1 h f0 p0.1)
  placed (node.targets before star rest after) a xs k j h f0 g =
      let k1 = walk_all a before k in
      let k2 = walk_all a rest k1 in
      let h2 = all_kept after a k2 h in
      let h1 = all_kept rest a k1 h2 in
      let j1 = found_all j before in
      let j2 = found_all j1 rest in
      let f2 = all_found_kept after j2 f0 in
      let f1 = all_found_kept rest j1 f2 in
      let p0 = and_parts (all_known xs before) (all_known xs rest && all_known xs after) g in
      let p1 = and_parts (all_known xs rest) (all_known xs after) p0.1 in
      both (all_placed before a xs k j h1 f1 p0.0)
      (both (all_placed rest a xs k1 j1 h2 f2 p1.0) (all_placed after a xs k2 j2 h f0 p1.1))
  placed (node.define s x d) a xs k j h f0 g =
      let k1 = walk_all a s k in
      let h1 = kept d (method (place_of d)) k1 h in
      let j1 = found_all j s in
      let f1 = found_kept d j1 f0 in
      let p0 = and_parts (all_known xs s) (knows [] d) g in
      both (all_placed s a xs k j h1 f1 p0.0) (placed d (method (place_of d)) [] k1 j1 h f0 p0.1)
  placed (node.class_node s x p ls b) a xs k j h f0 g =
      let k1 = opens_class a k in
      let k2 = walk a s k1 in
      let k3 = walk_all a p k2 in
      let h3 = kept b (class_body a) k3 h in
      let h2 = all_kept p a k2 h3 in
      let j1 = found j s in
      let j2 = found_all j1 p in
      let f2 = found_kept b j2 f0 in
      let f1 = all_found_kept p j1 f2 in
      let p0 = and_parts (knows xs s) (all_known xs p && knows ls b) g in
      let p1 = and_parts (all_known xs p) (knows ls b) p0.1 in
      both (placed s a xs k1 j h2 f1 p0.0)
      (both (all_placed p a xs k2 j1 h3 f2 p1.0) (placed b (class_body a) ls k3 j2 h f0 p1.1))
  placed (node.singleton_class e ls b) a xs k j h f0 g =
      let k1 = walk a e k in
      let h1 = kept b (class_body a) k1 h in
      let j1 = found j e in
      let f1 = found_kept b j1 f0 in
      let p0 = and_parts (knows xs e) (knows ls b) g in
      both (placed e a xs k j h1 f1 p0.0) (placed b (class_body a) ls k1 j1 h f0 p0.1)
  placed (node.module_node s x ls b) a xs k j h f0 g =
      let k1 = opens_class a k in
      let k2 = walk a s k1 in
      let h2 = kept b (class_body a) k2 h in
      let j1 = found j s in
      let f1 = found_kept b j1 f0 in
      let p0 = and_parts (knows xs s) (knows ls b) g in
      both (placed s a xs k1 j h2 f1 p0.0) (placed b (class_body a) ls k2 j1 h f0 p0.1)
  placed (node.splat e) a xs k j h f0 g = placed e a xs k j h f0 g
  placed (node.pair e f) a xs k j h f0 g =
      let k1 = walk a e k in
      let h1 = kept f a k1 h in
      let j1 = found j e in
      let f1 = found_kept f j1 f0 in
      let p0 = and_parts (knows xs e) (knows xs f) g in
      both (placed e a xs k j h1 f1 p0.0) (placed f a xs k1 j1 h f0 p0.1)
  placed (node.branch t b) a xs k j h f0 g =
      let k1 = walk a t k in
      let h1 = kept b a k1 h in
      let j1 = found j t in
      let f1 = found_kept b j1 f0 in
      let p0 = and_parts (knows xs t) (knows xs b) g in
      both (placed t a xs k j h1 f1 p0.0) (placed b a xs k1 j1 h f0 p0.1)
  placed (node.when_clause ts b) a xs k j h f0 g =
      let k1 = walk_all a ts k in
      let h1 = kept b a k1 h in
      let j1 = found_all j ts in
      let f1 = found_kept b j1 f0 in
      let p0 = and_parts (all_known xs ts) (knows xs b) g in
      both (all_placed ts a xs k j h1 f1 p0.0) (placed b a xs k1 j1 h f0 p0.1)
  placed (node.rescue_clause cs t b) a xs k j h f0 g =
      let k1 = walk_all (within_clause a) cs k in
      let k2 = assigns a (any_constant t) k1 in
      let k3 = walk_all (within_clause a) t k2 in
      let h3 = kept b (within_clause a) k3 h in
      let h2 = all_kept t (within_clause a) k2 h3 in
      let h1 = assigned_kept a (any_constant t) k1 h2 in
      let j1 = found_all j cs in
      let j2 = found_all j1 t in
      let f2 = found_kept b j2 f0 in
      let f1 = all_found_kept t j1 f2 in
      let p0 = and_parts (all_known xs cs) (all_known xs t && knows xs b) g in
      let p1 = and_parts (all_known xs t) (knows xs b) p0.1 in
      both (all_placed cs (within_clause a) xs k j h1 f1 p0.0)
      (both (all_placed t (within_clause a) xs k2 j1 h3 f2 p1.0) (placed b (within_clause a) xs k3 j2 h f0 p1.1))
  placed (node.arguments is b) a xs k j h f0 g =
      let k1 = walk_all a is k in
      let h1 = all_kept b a k1 h in
      let j1 = found_all j is in
      let f1 = all_found_kept b j1 f0 in
      let p0 = and_parts (all_known xs is) (all_known xs b) g in
      both (all_placed is a xs k j h1 f1 p0.0) (all_placed b a xs k1 j1 h f0 p0.1)
  placed (node.definition at rs os rest ps x outs ls b) a xs k j h f0 g =
      let ys = names_within rs os rest ps x ls ++ xs in
      let k1 = noted (are_distinct [] (names_of rs os rest ps x)) at k in
      let k2 = walk_all a rs k1 in
      let k3 = walk_all a os k2 in
      let k4 = walk_all a ps k3 in
      let k5 = walk_all a outs k4 in
      let h5 = kept b a k5 h in
      let h4 = all_kept outs a k4 h5 in
      let h3 = all_kept ps a k3 h4 in
      let h2 = all_kept os a k2 h3 in
      let j1 = found_all j rs in
      let j2 = found_all j1 os in
      let j3 = found_all j2 ps in
      let j4 = found_all j3 outs in
      let f4 = found_kept b j4 f0 in
      let f3 = all_found_kept outs j3 f4 in
      let f2 = all_found_kept ps j2 f3 in
      let f1 = all_found_kept os j1 f2 in
      let inside = are_optional os && (all_known ys rs && (all_known ys os && (all_known ys ps && knows ys b))) in
      let known = or_second (has_outside outs) inside (none_outside outs j3 f4) g in
      let p0 = and_parts (are_optional os)
      (all_known ys rs && (all_known ys os && (all_known ys ps && knows ys b))) known in
      let p1 = and_parts (all_known ys rs) (all_known ys os && (all_known ys ps && knows ys b)) p0.1 in
      let p2 = and_parts (all_known ys os) (all_known ys ps && knows ys b) p1.1 in
      let p3 = and_parts (all_known ys ps) (knows ys b) p2.1 in
      both p0.0
      (both (all_placed rs a ys k1 j h2 f1 p1.0)
      (both (all_placed os a ys k2 j1 h3 f2 p2.0)
      (both (all_placed ps a ys k3 j2 h4 f3 p3.0) (placed b a ys k5 j4 h f0 p3.1))))
  placed (node.optional_parameter x e) a xs k j h f0 g =
      let p0 = and_parts (is_among x xs) (knows xs e) g in
      both p0.0 (placed e a xs k j h f0 p0.1)
  placed n a xs k j h f0 g = refl

  pub all_placed : (ns : Nodes) (a : Around) (xs : List Name) (k : Option ℕ) (j : Option Found)
      → walk_all a ns k ≡ None → found_all j ns ≡ None → all_known xs ns ≡ true → all_fit a xs ns ≡ true
  all_placed node.none a xs k j h f0 g = refl
  all_placed (node.more n ns) a xs k j h f0 g =
      let p = and_parts (knows xs n) (all_known xs ns) g in
      both (placed n a xs k j (all_kept ns a (walk a n k) h) (all_found_kept ns (found j n) f0) p.0)
      (all_placed ns a xs (walk a n k) (found j n) h f0 p.1)

pub placed_is_fitting : (ls : List Name) (n : Node) → misplaced n ≡ None → found None n ≡ None → knows ls n ≡ true
    → IsFitting ls n
placed_is_fitting ls n h f0 g = placed n program ls None None h f0 g
