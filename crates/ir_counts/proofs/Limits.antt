-- What follows the counts of a body comes where none of them exceeds its limit.
use Rattle.std.proofs.Common.{◌≡◌, ℕ, List, [], ◌∷◌, map, length, refl, ap, ◌∙◌, arith}
use Rattle.std.specs.Prelude.{Option, Some, None, Bool, true, false, nat_lt, if◌then◌else◌}
use Rattle.rb_syntax.specs.declared.count.Count.{Count}
use Rattle.rb_syntax.specs.declared.count.Count.TheVariants.{Parameters, Registers, Pool, Symbols, Children, Code}
use Rattle.ir_counts.specs.declared.counts.Counts.{Counts}
use Rattle.ir_counts.specs.declared.excess.Excess.{Excess}
use Rattle.std.specs.Borrow.{Bor}
use Rattle.ir_core.specs.declared.term.Body.{Body}
use Rattle.ir_core.specs.View.{Core}
use Rattle.ir_walk.specs.Steps.{body}
use Rattle.ir_counts.specs.Counts.{counts}
use Rattle.ir_counts.specs.Limits.{past, of_body}

-- the first, or else the second
abbrev otherwise : Option Excess → Option Excess → Option Excess
otherwise None b = b
otherwise (Some e) b = Some e

past_else : (w : Count) (n l : ℕ) (a b : Option Excess) → past w n l (otherwise a b) ≡ otherwise (past w n l a) b
past_else w n l a b = at (nat_lt l n)
  where
    at : (t : Bool) → (if t then Some (record { what = w; count = n }) else (otherwise a b)) ≡ otherwise
        (if t then Some (record { what = w; count = n }) else a) b
    at true = refl
    at false = refl

of_body_else : (c : Counts) (b : Option Excess) → of_body c b ≡ otherwise (of_body c None) b
of_body_else c b =
    let p6 = past Code c.code 4194303 None in
    let p5 = past Children c.children 65535 p6 in
    let p4 = past Symbols c.symbols 65535 p5 in
    let p3 = past Pool c.pool 65535 p4 in
    let p2 = past Registers c.registers 65535 p3 in
    let e6 : past Code c.code 4194303 b ≡ otherwise p6 b = past_else Code c.code 4194303 None b in
    let e5 : past Children c.children 65535 (past Code c.code 4194303 b) ≡ otherwise p5 b =
    ap (past Children c.children 65535) e6 ∙ past_else Children c.children 65535 p6 b in
    let e4 : past Symbols c.symbols 65535 (past Children c.children 65535 (past Code c.code 4194303 b)) ≡ otherwise p4 b
    = ap (past Symbols c.symbols 65535) e5 ∙ past_else Symbols c.symbols 65535 p5 b in
    let e3 = ap (past Pool c.pool 65535) e4 ∙ past_else Pool c.pool 65535 p4 b in
    let e2 = ap (past Registers c.registers 65535) e3 ∙ past_else Registers c.registers 65535 p3 b in
    ap (past Parameters c.parameters 127) e2 ∙ past_else Parameters c.parameters 127 p2 b

pub of_body-None : (c : Counts) (b : Option Excess) → of_body c None ≡ None → of_body c b ≡ b
of_body-None c b h = of_body_else c b ∙ ap (λ a. otherwise a b) h

pub of_body-Some : (c : Counts) (b : Option Excess) (e : Excess) → of_body c None ≡ Some e → of_body c b ≡ Some e
of_body-Some c b e h = of_body_else c b ∙ ap (λ a. otherwise a b) h

pub length-counts : (bs : List (Bor (Body Core))) → length (map counts (map body bs)) ≡ length bs
length-counts [] = refl
length-counts (b ∷ bs) = let e : length (map counts (map body bs)) ≡ length bs = length-counts bs in omega (arith, e)

pub ruleset limit_laws = (of_body-None, of_body-Some, length-counts)
