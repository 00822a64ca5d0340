use Rattle.std.proofs.Common.{◌≡◌, ◌∙◌, ◌++◌, ◌∷◌, [], ap, arith, length}
use Rattle.rite_file.specs.Loaded as specs
use Rattle.rite_file.specs.Loaded.{with_children}
use Rattle.rite_file.proofs.Forests.{plants}
use Rattle.rite_file.proofs.numbering.numbered.Goals as goal

pub bodies-preserved : goal.bodies-preserved
bodies-preserved c =
    let left : c.bodies.left.items ≡ c.pop.new.self.items ++ c.in-Some.record ∷ [] = c.in-Some.ensures.items in
    let bodies : c.push.new.self.items ≡ c.bodies.bodies.items ++ with_children c.in-Some.record.body
    c.in_ok-body.field-0 ∷ [] = c.in_ok-push.ensures.items in
    let len : c.len.result ≡ length c.pop.new.self.items = omega (arith, c.len.ensures) in
    let roots : c.push-in-Some.new.self.items ≡ c.take_roots.new.roots.items ++ length c.pop.new.self.items ∷ [] =
    c.in_ok-push-2.ensures.items ∙ ap (λ n. c.take_roots.new.roots.items ++ n ∷ []) len in
    record {
      count = omega (arith, c.bodies.invariant.count, c.in-Some.ensures.len);
      same = plants c.bodies.left.items c.pop.new.self.items c.in-Some.record c.bodies.bodies.items
          c.push.new.self.items c.bodies.roots.items c.take_roots.new.roots.items c.push-in-Some.new.self.items
          c.in_ok-body.field-0 (specs.numbered 0 c.args.records) left c.in_ok-body.ensures.taken
          c.in_ok-body.ensures.left bodies roots c.bodies.invariant.same;
    }
