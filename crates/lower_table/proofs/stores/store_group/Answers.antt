use Rattle.std.proofs.Common.{◌≡◌, ◌+◌, ◌++◌, ap, ◌∙◌}
use Rattle.lower_table.specs.Lowering.{group_width}
use Rattle.lower_table.proofs.Groups.{grouped}
use Rattle.lower_table.proofs.stores.store_group.Goals as goal

pub returns : goal.returns
returns g c =
    let inner : c.in_ok-inner.inner ≡ c.args.depth + group_width c.count_of-post.result =
    c.in_ok-inner.ensures ∙ ap (λ w. c.args.depth + w) c.group_width.ensures in
    let whole : c.append-3.new.self.items
    ≡ ((c.in_ok-all.all.items ++ c.in_ok-rest.rest.items) ++ c.in_ok-tail.tail.items) ++ c.in_ok-after.after.items =
    c.in_ok-append-3.ensures.items ∙ ap (λ l. l ++ c.in_ok-after.after.items)
    (c.in_ok-append-2.ensures.items ∙ ap (λ l. l ++ c.in_ok-tail.tail.items) c.in_ok-append.ensures.items) in
    grouped _ _ _ _ _ _ _ _ _ _ _ _ _ c.count_of-from.ensures c.count_of-post.ensures inner c.in_ok-all.ensures
    c.in_ok-rest.ensures c.in_ok-tail.ensures c.in_ok-after.ensures whole
