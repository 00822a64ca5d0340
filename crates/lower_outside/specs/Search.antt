-- The construct outside the language that a tree has first.
use Rattle.std.specs.Prelude.{ℕ, Option, Some, None, nat_lt, if◌then◌else◌}
use Rattle.rb_syntax.specs.declared.outside.Outside.{Outside}
use Rattle.parser_tree.specs.Node as node
use Rattle.parser_tree.specs.Node.{Node, Nodes, none, more}
use Rattle.lower_outside.specs.declared.construct.Found.{Found}

-- of the construct found so far and one more, the one with the lesser place, and the former where they are equal
abbrev pub earlier : Option Found → Outside → ℕ → Option Found
earlier None what at = Some (record { what = what; at = at })
earlier (Some f) what at = if nat_lt at f.at then Some (record { what = what; at = at }) else Some f

abbrev mutual
  -- what is found in a node, after what was found before it
  pub found : Option Found → Node → Option Found
  found best node.nil = best
  found best node.truth = best
  found best node.falsehood = best
  found best node.self_reference = best
  found best (node.integer n) = best
  found best (node.text ps) = found_all best ps
  found best (node.symbol x) = best
  found best (node.symbol_text ps) = found_all best ps
  found best (node.words xs) = best
  found best (node.symbols xs) = best
  found best (node.local x) = best
  found best (node.instance_variable x) = best
  found best (node.global_variable x) = best
  found best (node.constant x) = best
  found best (node.top_constant x) = best
  found best (node.scoped_constant e x) = found best e
  found best (node.array is) = found_all best is
  found best (node.hash ps) = found_all best ps
  found best (node.statements es) = found_all best es
  found best (node.not_node e) = found best e
  found best (node.unary o e) = found best e
  found best (node.operation a o b) = found (found best a) b
  found best (node.and_node a b) = found (found best a) b
  found best (node.or_node a b) = found (found best a) b
  found best (node.range a b x at) = found (found best a) b
  found best (node.if_node bs o) = found_all (found_all best bs) o
  found best (node.unless_node t b o) = found_all (found (found best t) b) o
  found best (node.while_node u f t b) = found (found best t) b
  found best (node.for_node ts e b) = found (found (found_all best ts) e) b
  found best (node.case_node s cs o) = found_all (found_all (found_all best s) cs) o
  found best (node.begin_node b cs o e) = found_all (found_all (found_all (found best b) cs) o) e
  found best (node.rescue_modifier a b) = found (found best a) b
  found best (node.call r x a b) = found_all (found_all (found_all best r) a) b
  found best (node.index e is) = found_all (found best e) is
  found best (node.super_node at a b) = found_all (found_all best a) b
  found best (node.yield_node at is) = found_all best is
  found best (node.defined e) = found best e
  found best (node.lambda d) = found best d
  found best (node.return_node at is) = found_all best is
  found best (node.break_node at is) = found_all best is
  found best (node.next_node at is) = found_all best is
  found best (node.retry at) = best
  found best (node.assign t e) = found (found best t) e
  found best (node.operator_assign t o e) = found (found best t) e
  found best (node.multiple_assign t e) = found (found best t) e
  found best (node.targets b s r a) = found_all (found_all (found_all best b) r) a
  found best (node.define s x d) = found (found_all best s) d
  found best (node.class_node s x p ls b) = found (found_all (found best s) p) b
  found best (node.singleton_class e ls b) = found (found best e) b
  found best (node.module_node s x ls b) = found (found best s) b
  found best (node.alias_node x y) = best
  found best (node.undef_node xs) = best
  found best (node.outside o at es) = found_all (earlier best o at) es
  found best (node.splat e) = found best e
  found best (node.pair k v) = found (found best k) v
  found best (node.piece s) = best
  found best (node.branch t b) = found (found best t) b
  found best (node.when_clause ts b) = found (found_all best ts) b
  found best (node.rescue_clause cs t b) = found (found_all (found_all best cs) t) b
  found best (node.arguments is b) = found_all (found_all best is) b
  found best (node.definition at r o s p b x ls e) = found (found_all (found_all (found_all (found_all best r) o) p) x) e
  found best (node.name_parameter x) = best
  found best (node.optional_parameter x e) = found best e
  found best node.innermost = best
  found best node.top = best

  pub found_all : Option Found → Nodes → Option Found
  found_all best none = best
  found_all best (more n ns) = found_all (found best n) ns
