use Rattle.std.proofs.Common.{ap, ◌∙◌, ℕ, List}
use Rattle.text_set.specs.Sets.{owned, with_text}
use Rattle.text_set.proofs.Copies.{with_text-owned}
use Rattle.text_set.proofs.owned.OwnedTextSet.add.Goals as goal

-- the keys behind the insertion, as texts
pub returns-clause-ok : goal.returns-clause-ok
returns-clause-ok c = ap owned c.in_ok-insert.ensures.keys
    ∙ (with_text-owned c.in_ok-from_slice.field-0 c.self.inside.texts.keys
    ∙ (ap (λ (names : List (List ℕ)). with_text names c.in_ok-from_slice.field-0.items) c.self.view_is
    ∙ ap (λ (text : List ℕ). with_text c.args.self.now text) c.in_ok-from_slice.ensures.items))
