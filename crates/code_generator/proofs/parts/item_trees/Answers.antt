use Rattle.std.proofs.Common.{◌≡◌, refl, ◌+◌, [], ◌∷◌, ◌++◌, Some, drop, arith, sym, ap, ◌∙◌, subst}
use Rattle.std.proofs.lemmas.List.{drop_all, drop_more}
use Rattle.ir_core.specs.PartsBy.{items_by}
use Rattle.code_generator.specs.Built.{all_items}
use Rattle.code_generator.specs.Emission.{form, form_in, item_form_by}
use Rattle.code_generator.proofs.Lists.{item_steps, trees_step, trees_end}
use Rattle.code_generator.proofs.parts.item_trees.Goals as goal

pub loop-item-preserved : goal.loop-item-preserved
loop-item-preserved g c =
    let l = c.loop-item in
    let v = item_form_by g.T.Formed.core in
    let list = c.deref-item-items.result.now in
    let item = c.item-item.result in
    let here : drop l.item-index list ≡ item ∷ drop (l.item-index + 1) list =
    drop_more list l.item-index item (omega arith)
    ∙ ap (λ y. y ∷ drop (l.item-index + 1) list) (sym c.item-item.is) in
    let there : drop l.item-index c.args.items.now.items ≡ item ∷ drop (l.item-index + 1) c.args.items.now.items =
    subst (λ xs. drop l.item-index xs ≡ item ∷ drop (l.item-index + 1) xs) c.deref-item-items.ensures.value here in
    let one : v item ≡ Some (form c.in-Some.tree) = c.in_ok-tree.ensures ∙ ap form_in c.in-Some.is in
    let pushed : c.push.new.self.items ≡ l.trees.items ++ c.in-Some.tree ∷ [] = c.in_ok-push-in-Some.ensures.items in
    trees_step (λ is. all_items (items_by g.T.Formed.core is)) v (item_steps g.T.Formed.core) _
    l.trees.items c.push.new.self.items c.in-Some.tree item _ _ l.invariant there one pushed

pub returns : goal.returns
returns g c =
    let l = c.loop-item in
    let none : drop l.item-index c.args.items.now.items ≡ [] =
    subst (λ xs. drop l.item-index xs ≡ []) c.deref-item-items.ensures.value
    (drop_all l.item-index c.deref-item-items.result.now (omega arith)) in
    trees_end (λ is. all_items (items_by g.T.Formed.core is)) _ l.trees.items _ l.invariant none refl
