use Rattle.std.proofs.Common.{◌≡◌, ◌∷◌, length, ap, sym, ◌∙◌, arith}
use Rattle.std.specs.Vec.Iter.{into_iter_items}
use Rattle.parser_forms.proofs.Defaults.{put_turn, put_all}
use Rattle.parser_forms.proofs.definition.put_defaults.Goals as goal

pub loop-parameter-preserved : goal.loop-parameter-preserved
loop-parameter-preserved c =
    let at = c.loop-parameter in
    let x = c.in-Some.parameter in
    let steps : into_iter_items at.parameter-iterator ≡ x ∷ into_iter_items c.next.new.self =
    c.in-Some.ensures.steps.0 in (
      put_turn at.parts.items c.push.new.self.items x _ _ _ steps c.in_ok-push.ensures.items at.invariant.0,
      let was = at.invariant.1 in
          let gone = c.in-Some.ensures.steps.1 in
          let short = ap length steps in
          omega arith,
    )

pub returns : goal.returns
returns c =
    let at = c.loop-parameter in
    let none = c.in-None.ensures.steps in
    put_all _ _ _ (sym at.invariant.1 ∙ none.0) at.invariant.0
