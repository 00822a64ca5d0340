use Rattle.std.proofs.Common.{rules, tests, ◌≡◌, position, ◌∙◌}
use Rattle.std.proofs.lemmas.Iterator.{YieldsList-from_slice}
use Rattle.std.proofs.lemmas.Iterator.Search.{position_from_yields_List}
use Rattle.pair_table.proofs.Places.{place_by_keys}
use Rattle.pair_table.proofs.few.place_in.Goals as goal

pub returns-clause-place : goal.returns-clause-place
returns-clause-place g c =
    let first : c.position.result ≡ position (λ p. g.K.PartialEq.eq c.args.key.now p.0) c.args.pairs.now =
    position_from_yields_List _ _ _ _ c.position.ensures.ran (YieldsList-from_slice c.args.pairs.now cc) (λ x b q k. search (rules, tests)) in
    first ∙ place_by_keys (g.K.PartialEq.eq c.args.key.now) c.args.pairs.now
