use Rattle.std.proofs.Common.{◌≡◌, ◌-◌, ◌∙◌, ap, arith, length, reverse, drop}
use Rattle.std.proofs.lemmas.List.{take_all, length-drop}
use Rattle.rite_file.proofs.Forests.{last_of}
use Rattle.rite_file.proofs.numbering.take_roots.Goals as goal

pub returns-clause-taken : goal.returns-clause-taken
returns-clause-taken c =
    let from : c.saturating_sub-left.result ≡ length c.args.roots.now.items - c.args.count =
    omega (arith, c.saturating_sub-left.ensures, c.len.ensures) in
    let whole = c.deref.ensures.value in
    let some : c.in_ok-taken.taken.items ≡ drop (length c.args.roots.now.items - c.args.count) c.args.roots.now.items =
    c.in_ok-taken.ensures.items ∙ take_all (length c.deref.result.now - c.saturating_sub-left.result)
    (drop c.saturating_sub-left.result c.deref.result.now)
    (omega (arith, length-drop c.saturating_sub-left.result c.deref.result.now))
    ∙ ap (drop c.saturating_sub-left.result) whole ∙ ap (λ n. drop n c.args.roots.now.items) from in
    c.from_vec.ensures ∙ c.reverse.ensures.items ∙ ap reverse some ∙ (last_of c.args.count c.args.roots.now.items).0
