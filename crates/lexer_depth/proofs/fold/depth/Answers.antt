use Rattle.std.proofs.Common.{ap, ◌∙◌, ◌≡◌, ◌<◌, false, arith}
use Rattle.lexer_depth.specs.declared.effect.Effect.{Effect}
use Rattle.lexer_depth.specs.Held.{levels_of}
use Rattle.lexer_depth.specs.Levels.{Levels, value_of, step, fold, outermost, deep}
use Rattle.lexer_depth.proofs.Growth.{goes_on, stops, ends}
use Rattle.lexer_depth.proofs.fold.depth.Goals as goal

pub tokens-preserved : goal.tokens-preserved
tokens-preserved c =
    rw c.is_word-after_word.ensures
    (goes_on c.args.tokens.now c.tokens.token-index c.token-item.result (levels_of c.tokens.stack)
    (levels_of c.apply.new.self) c.tokens.after_word (fold outermost false c.args.tokens.now)
    (omega arith) c.token-item.is (c.in-Some.ensures ∙ ap (λ (e : Effect). step e (levels_of c.tokens.stack))
    c.effect_of.ensures) c.tokens.invariant)

pub returns-in-None : goal.returns-in-None
unfolding deep
returns-in-None c =
    let more : 256 < value_of (fold outermost false c.args.tokens.now) =
    stops c.args.tokens.now c.tokens.token-index c.token-item.result (levels_of c.tokens.stack) c.tokens.after_word
    (fold outermost false c.args.tokens.now)
    (omega arith) c.token-item.is (rw c.effect_of.ensures at c.in-None.ensures) c.tokens.invariant in
    omega (arith, more)

pub returns : goal.returns
unfolding deep
returns c =
    let all : levels_of c.tokens.stack ≡ fold outermost false c.args.tokens.now =
    ends c.args.tokens.now c.tokens.token-index (levels_of c.tokens.stack) c.tokens.after_word
    (fold outermost false c.args.tokens.now) (omega arith) c.tokens.invariant in
    omega (arith, c.finish.ensures, ap (λ (s : Levels). value_of s) all)
