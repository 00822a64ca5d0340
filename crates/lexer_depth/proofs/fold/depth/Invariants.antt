use Rattle.std.proofs.Common.{◌≡◌, drop, false}
use Rattle.lexer_depth.specs.Held.{levels_of}
use Rattle.lexer_depth.specs.Levels.{fold, outermost}
use Rattle.lexer_depth.proofs.fold.depth.Given as goal

abbrev pub invariant-tokens : goal.invariant-tokens
invariant-tokens l = fold (levels_of l.stack) l.after_word (drop l.token-index l.tokens) ≡ fold outermost false l.tokens
