use Rattle.code_outline.proofs.Outers.{outer_around, come_before, few}
use Rattle.code_outline.proofs.outline.Goals as goal

pub scopes_of-requires-clause-small : goal.scopes_of-requires-clause-small
scopes_of-requires-clause-small c = rw c.as_slice.ensures
    (few c.args.code.now c.in_ok-makers.makers c.in_ok-makers.ensures)

pub scopes_of-requires-clause-before : goal.scopes_of-requires-clause-before
scopes_of-requires-clause-before c = rw c.as_slice.ensures
    (come_before c.args.code.now c.in_ok-makers.makers c.in_ok-makers.ensures)

pub returns : goal.returns
returns c =
    let makers = c.in_ok-makers.ensures in
    rw (c.in_ok-scopes.ensures, c.as_slice.ensures) (record {
      count = makers.count;
      makers = makers.makers;
      scopes = λ j lt. outer_around c.args.code.now c.in_ok-makers.makers j makers.count makers.makers lt;
    })
