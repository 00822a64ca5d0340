use Rattle.std.proofs.Common.{◌≡◌, ◌∙◌, ap, ◌++◌, ℕ, List, [], ◌∷◌}
use Rattle.code_verifier.proofs.Samples.{with_child}
use Rattle.file_tests.proofs.verifier.nested.Goals as goal

pub new-requires-4 : goal.new-requires-4
new-requires-4 c =
    let main = c.in_ok-body.field-0 in
    let inner = c.in_ok-body-2.field-0 in
    let some : main.children ≡ 1 ∷ [] = c.in_ok-body.ensures.children
    ∙ (c.in_ok-push.ensures.ok ∙ ap (λ (xs : List ℕ). xs ++ 1 ∷ []) c.new-children.ensures) in
    let childless : inner.children ≡ [] = c.in_ok-body-2.ensures.children ∙ c.new-3.ensures in
    rw (c.in_ok-push-3.ensures.ok, c.in_ok-push-2.ensures.ok, c.new-bodies.ensures)
    (with_child main inner (c.in_ok-body.ensures.body 1) (c.in_ok-body-2.ensures.body 1) some childless)
