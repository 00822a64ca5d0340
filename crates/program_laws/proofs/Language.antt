-- Where no construct outside the language is found, none was found before, and none is among what was searched.
use Rattle.std.proofs.Common.{◌≡◌, ℕ, Bool, false, ◌||◌, Option, Some, None, refl, nat_lt}
use Rattle.std.proofs.lemmas.Bool.{or_from}
use Rattle.rb_syntax.specs.declared.outside.Outside.{Outside}
use Rattle.parser_tree.specs.Node as node
use Rattle.parser_tree.specs.Node.{Node, Nodes}
use Rattle.lower_outside.specs.Search.{earlier, found, found_all}
use Rattle.lower_outside.specs.declared.construct.Found.{Found}
use Rattle.program_laws.specs.Knows.{is_outside, has_outside}
use Rattle.program_laws.proofs.Both.{either}

earlier_found : (j : Option Found) (o : Outside) (at : ℕ) → earlier j o at ≡ None → ⊥
earlier_found None o at h = absurd (cc h)
earlier_found (Some f) o at h =
    either (λ r. r ≡ None → ⊥) (nat_lt at f.at) (Some (record { what = o; at = at })) (Some f) (λ e. absurd (cc e))
    (λ e. absurd (cc e)) h

mutual
  pub found_kept : (n : Node) (j : Option Found) → found j n ≡ None → j ≡ None
  found_kept (node.text ps) j f0 = all_found_kept ps j f0
  found_kept (node.symbol_text ps) j f0 = all_found_kept ps j f0
  found_kept (node.scoped_constant e x) j f0 = found_kept e j f0
  found_kept (node.array is) j f0 = all_found_kept is j f0
  found_kept (node.hash ps) j f0 = all_found_kept ps j f0
  found_kept (node.statements es) j f0 = all_found_kept es j f0
  found_kept (node.not_node e) j f0 = found_kept e j f0
  found_kept (node.unary o e) j f0 = found_kept e j f0
  found_kept (node.operation e o f) j f0 =
      let j1 = found j e in
      let f1 = found_kept f j1 f0 in
      found_kept e j f1
  found_kept (node.and_node e f) j f0 =
      let j1 = found j e in
      let f1 = found_kept f j1 f0 in
      found_kept e j f1
  found_kept (node.or_node e f) j f0 =
      let j1 = found j e in
      let f1 = found_kept f j1 f0 in
      found_kept e j f1
  found_kept (node.range e f x at) j f0 =
      let j1 = found j e in
      let f1 = found_kept f j1 f0 in
      found_kept e j f1
  found_kept (node.if_node bs o) j f0 =
      let j1 = found_all j bs in
      let f1 = all_found_kept o j1 f0 in
      all_found_kept bs j f1
  found_kept (node.unless_node t b o) j f0 =
      let j1 = found j t in
      let j2 = found j1 b in
      let f2 = all_found_kept o j2 f0 in
      let f1 = found_kept b j1 f2 in
      found_kept t j f1
  found_kept (node.while_node u f t b) j f0 =
      let j1 = found j t in
      let f1 = found_kept b j1 f0 in
      found_kept t j f1
  found_kept (node.for_node ts e b) j f0 =
      let j1 = found_all j ts in
      let j2 = found j1 e in
      let f2 = found_kept b j2 f0 in
      let f1 = found_kept e j1 f2 in
      all_found_kept ts j f1
  found_kept (node.case_node s cs o) j f0 =
      let j1 = found_all j s in
      let j2 = found_all j1 cs in
      let f2 = all_found_kept o j2 f0 in
      let f1 = all_found_kept cs j1 f2 in
      all_found_kept s j f1
  found_kept (node.begin_node b cs o e) j f0 =
      let j1 = found j b in
      let j2 = found_all j1 cs in
      let j3 = found_all j2 o in
      let f3 = all_found_kept e j3 f0 in
      let f2 = all_found_kept o j2 f3 in
      let f1 = all_found_kept cs j1 f2 in
      found_kept b j f1
  found_kept (node.rescue_modifier e f) j f0 =
      let j1 = found j e in
      let f1 = found_kept f j1 f0 in
      found_kept e j f1
  found_kept (node.call r x is b) j f0 =
      let j1 = found_all j r in
      let j2 = found_all j1 is in
      let f2 = all_found_kept b j2 f0 in
      let f1 = all_found_kept is j1 f2 in
      all_found_kept r j f1
  found_kept (node.index e is) j f0 =
      let j1 = found j e in
      let f1 = all_found_kept is j1 f0 in
      found_kept e j f1
  found_kept (node.super_node at is b) j f0 =
      let j1 = found_all j is in
      let f1 = all_found_kept b j1 f0 in
      all_found_kept is j f1
  found_kept (node.yield_node at is) j f0 = all_found_kept is j f0
  found_kept (node.defined e) j f0 = found_kept e j f0
  found_kept (node.lambda d) j f0 = found_kept d j f0
  found_kept (node.return_node at is) j f0 = all_found_kept is j f0
  found_kept (node.break_node at is) j f0 = all_found_kept is j f0
  found_kept (node.next_node at is) j f0 = all_found_kept is j f0
  found_kept (node.assign t e) j f0 =
      let j1 = found j t in
      let f1 = found_kept e j1 f0 in
      found_kept t j f1
  found_kept (node.operator_assign t o e) j f0 =
      let j1 = found j t in
      let f1 = found_kept e j1 f0 in
      found_kept t j f1
  found_kept (node.multiple_assign t e) j f0 =
      let j1 = found j t in
      let f1 = found_kept e j1 f0 in
      found_kept t j f1
  found_kept (node.targets before star rest after) j f0 =
      let j1 = found_all j before in
      let j2 = found_all j1 rest in
      let f2 = all_found_kept after j2 f0 in
      let f1 = all_found_kept rest j1 f2 in
      all_found_kept before j f1
  found_kept (node.define s x d) j f0 =
      let j1 = found_all j s in
      let f1 = found_kept d j1 f0 in
      all_found_kept s j f1
  found_kept (node.class_node s x p ls b) j f0 =
      let j1 = found j s in
      let j2 = found_all j1 p in
      let f2 = found_kept b j2 f0 in
      let f1 = all_found_kept p j1 f2 in
      found_kept s j f1
  found_kept (node.singleton_class e ls b) j f0 =
      let j1 = found j e in
      let f1 = found_kept b j1 f0 in
      found_kept e j f1
  found_kept (node.module_node s x ls b) j f0 =
      let j1 = found j s in
      let f1 = found_kept b j1 f0 in
      found_kept s j f1
  found_kept (node.outside o at es) j f0 = absurd (earlier_found j o at (all_found_kept es (earlier j o at) f0))
  found_kept (node.splat e) j f0 = found_kept e j f0
  found_kept (node.pair e f) j f0 =
      let j1 = found j e in
      let f1 = found_kept f j1 f0 in
      found_kept e j f1
  found_kept (node.branch t b) j f0 =
      let j1 = found j t in
      let f1 = found_kept b j1 f0 in
      found_kept t j f1
  found_kept (node.when_clause ts b) j f0 =
      let j1 = found_all j ts in
      let f1 = found_kept b j1 f0 in
      all_found_kept ts j f1
  found_kept (node.rescue_clause cs t b) j f0 =
      let j1 = found_all j cs in
      let j2 = found_all j1 t in
      let f2 = found_kept b j2 f0 in
      let f1 = all_found_kept t j1 f2 in
      all_found_kept cs j f1
  found_kept (node.arguments is b) j f0 =
      let j1 = found_all j is in
      let f1 = all_found_kept b j1 f0 in
      all_found_kept is j f1
  found_kept (node.definition at rs os rest ps x outs ls b) j f0 =
      let j1 = found_all j rs in
      let j2 = found_all j1 os in
      let j3 = found_all j2 ps in
      let j4 = found_all j3 outs in
      let f4 = found_kept b j4 f0 in
      let f3 = all_found_kept outs j3 f4 in
      let f2 = all_found_kept ps j2 f3 in
      let f1 = all_found_kept os j1 f2 in
      all_found_kept rs j f1
  found_kept (node.optional_parameter x e) j f0 = found_kept e j f0
  found_kept n j f0 = f0

  pub all_found_kept : (ns : Nodes) (j : Option Found) → found_all j ns ≡ None → j ≡ None
  all_found_kept node.none j f0 = f0
  all_found_kept (node.more n ns) j f0 = found_kept n j (all_found_kept ns (found j n) f0)

inside_language : (n : Node) (j : Option Found) → found j n ≡ None → is_outside n ≡ false
inside_language (node.outside o at es) j h = absurd (earlier_found j o at (all_found_kept es (earlier j o at) h))
inside_language n j h = refl

neither : {x y : Bool} → x ≡ false → y ≡ false → (x || y) ≡ false
neither {x} {y} h k = or_from x y h k

pub none_outside : (ns : Nodes) (j : Option Found) → found_all j ns ≡ None → has_outside ns ≡ false
none_outside node.none j h = refl
none_outside (node.more n ns) j h =
    neither (inside_language n j (all_found_kept ns (found j n) h)) (none_outside ns (found j n) h)
