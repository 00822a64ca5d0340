use Rattle.std.proofs.Common.{◌≡◌, ◌<◌, ◌≤◌, ◌+◌, length, false, nat_eq, sym, ◌∙◌, arith}
use Rattle.parser_tokens.specs.Tokens.{first}
use Rattle.parser_ahead.specs.Groups.{literal_step}
use Rattle.parser_ahead.specs.Groups as groups
use Rattle.parser_ahead.proofs.Turns.{literal_more, literal_nothing, behind_less}
use Rattle.parser_ahead.proofs.groups.literal_end.Goals as goal

pub tokens-preserved : goal.tokens-preserved
tokens-preserved c =
    let some : 0 < length c.tokens.rest.now = grind arith in
    let open_still : nat_eq (literal_step (first c.tokens.rest.now) c.tokens.count) 0 ≡ false = grind arith in
    let more = literal_more c.tokens.count c.tokens.rest.now some open_still in
    let less = behind_less c.tokens.rest.now some in
    let bound : c.literal_step-count.result + length c.skip-rest.result.now ≤ length c.args.tokens.now = grind arith in
    let same : groups.literal_end c.literal_step-count.result c.skip-rest.result.now ≡ groups.literal_end c.tokens.count
    c.tokens.rest.now = cc in
    (same ∙ c.tokens.invariant.0, bound)

pub returns : goal.returns
returns c =
    let empty : length c.tokens.rest.now ≡ 0 = grind arith in
    sym (literal_nothing c.tokens.count c.tokens.rest.now empty) ∙ c.tokens.invariant.0
