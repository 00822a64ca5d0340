use Rattle.std.proofs.Common.{◌≡◌, ◌+◌, map, sym, ap, ◌∙◌, arith, [], ◌∷◌, ◌++◌, length}
use Rattle.std.specs.List.{range_with_len}
use Rattle.std.proofs.lemmas.List.Elements.{All-same}
use Rattle.std.proofs.lemmas.List.FromFn.{map-range_with_len_more}
use Rattle.rb_string.specs.Parts.{part, IsWithin, characters}
use Rattle.rb_string.proofs.Within.{characters_within}
use Rattle.rb_string.proofs.splitting.characters.Goals as goal

pub loop-at-preserved : goal.loop-at-preserved
loop-at-preserved c =
    c.in_ok-push.ensures.ok ∙ ap (λ l. l ++ part c.loop-at.at (c.loop-at.at + 1) ∷ []) c.loop-at.invariant
    ∙ sym (map-range_with_len_more (λ k. part k (k + 1)) 0 c.loop-at.at c.loop-at.at (omega arith))

pub returns-clause-within : goal.returns-clause-within
returns-clause-within c =
    let all : c.loop-at.at ≡ length c.args.text.now = omega arith in
    let whole : c.loop-at.list ≡ characters c.args.text.now =
    c.loop-at.invariant ∙ ap (λ n. map (λ k. part k (k + 1)) (range_with_len 0 n)) all in
    All-same (IsWithin c.args.text.now) c.loop-at.list (characters c.args.text.now) whole
    (characters_within c.args.text.now)
