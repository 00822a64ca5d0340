use Rattle.std.proofs.Common.{ℕ, List, ◌++◌, [], ◌∷◌, sym, subst}
use Rattle.parser_ahead.specs.Kept.{one, AreKnown}
use Rattle.parser_ahead.specs.declared.names.Kept.{Kept}
use Rattle.parser_ahead.proofs.Counting.{known_more}
use Rattle.parser_ahead.proofs.names.Names.declare.Goals as goal

pub invariant_of-self-in-Ok : goal.invariant_of-self-in-Ok
invariant_of-self-in-Ok c =
    let last = one c.args.name.now c.args.parameter c.len-before.result in
    subst (λ (ks : List Kept). AreKnown ks c.add.new.self) (sym c.in-Ok.ensures.ok)
    (subst (λ (known : List (List ℕ)). AreKnown (c.self.inside.kept.items ++ last ∷ []) known)
    (sym c.in_ok-add.ensures.ok)
    (known_more c.self.inside.kept.items c.self.inside.known last c.self.invariant c.len-before.ensures))
