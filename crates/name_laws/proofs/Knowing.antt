-- A tree that names only known locals knows its names.
use Rattle.std.proofs.Common.{◌≡◌, List, [], ◌++◌, Bool, true, false, ◌||◌, refl}
use Rattle.parser_tree.specs.Node as node
use Rattle.parser_tree.specs.Node.{Name, Node, Nodes}
use Rattle.program_laws.specs.Fits.{names_within}
use Rattle.program_laws.specs.Knows.{has_outside, knows, all_known}
use Rattle.program_laws.proofs.Both.{both}
use Rattle.name_laws.proofs.Named.{Named, AllNamed}

or_else : (b c : Bool) → (b ≡ false → c ≡ true) → (b || c) ≡ true
or_else true c h = refl
or_else false c h = h refl

mutual
  pub named_knows : (n : Node) (xs : List Name) → Named xs n → knows xs n ≡ true
  named_knows (node.local x) xs g = g
  named_knows (node.text ps) xs g = all_named_know ps xs g
  named_knows (node.symbol_text ps) xs g = all_named_know ps xs g
  named_knows (node.scoped_constant e x) xs g = named_knows e xs g
  named_knows (node.array is) xs g = all_named_know is xs g
  named_knows (node.hash ps) xs g = all_named_know ps xs g
  named_knows (node.statements es) xs g = all_named_know es xs g
  named_knows (node.not_node e) xs g = named_knows e xs g
  named_knows (node.unary o e) xs g = named_knows e xs g
  named_knows (node.operation e o f) xs g = both (named_knows e xs g.0) (named_knows f xs g.1)
  named_knows (node.and_node e f) xs g = both (named_knows e xs g.0) (named_knows f xs g.1)
  named_knows (node.or_node e f) xs g = both (named_knows e xs g.0) (named_knows f xs g.1)
  named_knows (node.range e f x at) xs g = both (named_knows e xs g.0) (named_knows f xs g.1)
  named_knows (node.if_node bs o) xs g = both (all_named_know bs xs g.0) (all_named_know o xs g.1)
  named_knows (node.unless_node t b o) xs g =
      both (named_knows t xs g.0) (both (named_knows b xs g.1.0) (all_named_know o xs g.1.1))
  named_knows (node.while_node u f t b) xs g = both (named_knows t xs g.0) (named_knows b xs g.1)
  named_knows (node.for_node ts e b) xs g =
      both (named_knows e xs g.0) (both (all_named_know ts xs g.1.0) (named_knows b xs g.1.1))
  named_knows (node.case_node s cs o) xs g =
      both (all_named_know s xs g.0) (both (all_named_know cs xs g.1.0) (all_named_know o xs g.1.1))
  named_knows (node.begin_node b cs o e) xs g =
      both (named_knows b xs g.0) (both (all_named_know cs xs g.1.0) (both (all_named_know o xs g.1.1.0)
      (all_named_know e xs g.1.1.1)))
  named_knows (node.rescue_modifier e f) xs g = both (named_knows e xs g.0) (named_knows f xs g.1)
  named_knows (node.call r x is b) xs g =
      both (all_named_know r xs g.0) (both (all_named_know is xs g.1.0) (all_named_know b xs g.1.1))
  named_knows (node.index e is) xs g = both (named_knows e xs g.0) (all_named_know is xs g.1)
  named_knows (node.super_node at is b) xs g = both (all_named_know is xs g.0) (all_named_know b xs g.1)
  named_knows (node.yield_node at is) xs g = all_named_know is xs g
  named_knows (node.defined e) xs g = named_knows e xs g
  named_knows (node.lambda d) xs g = named_knows d xs g
  named_knows (node.return_node at is) xs g = all_named_know is xs g
  named_knows (node.break_node at is) xs g = all_named_know is xs g
  named_knows (node.next_node at is) xs g = all_named_know is xs g
  named_knows (node.assign t e) xs g = both (named_knows t xs g.0) (named_knows e xs g.1)
  named_knows (node.operator_assign t o e) xs g = both (named_knows t xs g.0) (named_knows e xs g.1)
  named_knows (node.multiple_assign t e) xs g = both (named_knows t xs g.0) (named_knows e xs g.1)
  named_knows (node.targets left star rest after) xs g =
      both (all_named_know left xs g.0) (both (all_named_know rest xs g.1.0) (all_named_know after xs g.1.1))
  named_knows (node.define s x d) xs g = both (all_named_know s xs g.0) (named_knows d [] g.1)
  named_knows (node.class_node s x p ls b) xs g =
      both (named_knows s xs g.0) (both (all_named_know p xs g.1.0) (named_knows b ls g.1.1))
  named_knows (node.singleton_class e ls b) xs g = both (named_knows e xs g.0) (named_knows b ls g.1)
  named_knows (node.module_node s x ls b) xs g = both (named_knows s xs g.0) (named_knows b ls g.1)
  named_knows (node.splat e) xs g = named_knows e xs g
  named_knows (node.pair e f) xs g = both (named_knows e xs g.0) (named_knows f xs g.1)
  named_knows (node.branch t b) xs g = both (named_knows t xs g.0) (named_knows b xs g.1)
  named_knows (node.when_clause ts b) xs g = both (all_named_know ts xs g.0) (named_knows b xs g.1)
  named_knows (node.rescue_clause cs t b) xs g =
      both (all_named_know cs xs g.0) (both (all_named_know t xs g.1.0) (named_knows b xs g.1.1))
  named_knows (node.arguments is b) xs g = both (all_named_know is xs g.0) (all_named_know b xs g.1)
  named_knows (node.definition at rs os rest ps x outs ls b) xs g =
      let ys = names_within rs os rest ps x ls ++ xs in
      or_else (has_outside outs) _ (λ inside.
      let q = g inside in
      both q.0
      (both (all_named_know rs ys q.1.0)
      (both (all_named_know os ys q.1.1.0) (both (all_named_know ps ys q.1.1.1.0) (named_knows b ys q.1.1.1.1)))))
  named_knows (node.optional_parameter x e) xs g = both g.0 (named_knows e xs g.1)
  named_knows n xs g = refl

  all_named_know : (ns : Nodes) (xs : List Name) → AllNamed xs ns → all_known xs ns ≡ true
  all_named_know node.none xs g = refl
  all_named_know (node.more n ns) xs g = both (named_knows n xs g.0) (all_named_know ns xs g.1)
