use Rattle.std.proofs.Common.{◌≡◌, refl, ◌+◌, [], ◌∷◌, ◌++◌, Some, drop, arith, sym, ap, ◌∙◌, subst}
use Rattle.std.proofs.lemmas.List.{drop_all, drop_more}
use Rattle.ir_core.specs.PartsBy.{core_by, cores_by}
use Rattle.code_generator.specs.Built.{form_of, all_of}
use Rattle.code_generator.specs.Emission.{form, form_in}
use Rattle.code_generator.proofs.Lists.{core_steps, trees_step, trees_end}
use Rattle.code_generator.proofs.parts.trees.Goals as goal

pub loop-core-preserved : goal.loop-core-preserved
loop-core-preserved g c =
    let l = c.loop-core in
    let v = core_by g.T.Formed.core in
    let list = c.deref-core-items.result.now in
    let core = c.core-item.result in
    let here : drop l.core-index list ≡ core ∷ drop (l.core-index + 1) list =
    drop_more list l.core-index core (omega arith)
    ∙ ap (λ y. y ∷ drop (l.core-index + 1) list) (sym c.core-item.is) in
    let there : drop l.core-index c.args.list.now.items ≡ core ∷ drop (l.core-index + 1) c.args.list.now.items =
    subst (λ xs. drop l.core-index xs ≡ core ∷ drop (l.core-index + 1) xs) c.deref-core-items.ensures.value here in
    let one : form_of (v core) ≡ Some (form c.in-Some.tree) =
    ap (λ t. form_of (g.T.Formed.core t)) (sym c.deref.ensures)
    ∙ (c.in_ok-tree.ensures ∙ ap form_in c.in-Some.is) in
    let pushed : c.push.new.self.items ≡ l.trees.items ++ c.in-Some.tree ∷ [] = c.in_ok-push-in-Some.ensures.items in
    trees_step (λ cs. all_of (cores_by g.T.Formed.core cs)) (λ c. form_of (v c)) (core_steps g.T.Formed.core) _
    l.trees.items c.push.new.self.items c.in-Some.tree core _ _ l.invariant there one pushed

pub returns : goal.returns
returns g c =
    let l = c.loop-core in
    let none : drop l.core-index c.args.list.now.items ≡ [] =
    subst (λ xs. drop l.core-index xs ≡ []) c.deref-core-items.ensures.value
    (drop_all l.core-index c.deref-core-items.result.now (omega arith)) in
    trees_end (λ cs. all_of (cores_by g.T.Formed.core cs)) _ l.trees.items _ l.invariant none refl
