use Rattle.std.proofs.Common.{ℕ, List, take, sym, subst}
use Rattle.parser_ahead.specs.Kept.{AreKnown, CountsBefore}
use Rattle.parser_ahead.specs.declared.names.Kept.{Kept}
use Rattle.parser_ahead.proofs.names.Names.forget_from.Goals as goal

pub invariant_of-self : goal.invariant_of-self
invariant_of-self c =
    let counts : CountsBefore c.self.inside.kept.items c.args.mark c.len.result c.count_before-before.result =
    subst (λ (ks : List Kept). CountsBefore ks c.args.mark c.len.result c.count_before-before.result)
    c.deref.ensures.value c.count_before-before.ensures in
    subst (λ (ks : List Kept). AreKnown ks c.truncate.new.self) (sym c.truncate-2.ensures.items)
    (subst (λ (known : List (List ℕ)). AreKnown (take c.args.mark c.self.inside.kept.items) known)
    (sym c.truncate.ensures) (counts c.self.inside.known (sym c.len.ensures) c.self.invariant))
