-- How many parts a list has.
use Rattle.std.proofs.Common.{◌≡◌, List, [], ◌∷◌, length, refl, arith}
use Rattle.rb_syntax.specs.declared.core_form.Item.{Item}
use Rattle.rb_syntax.specs.declared.core_form.Item.TheVariants.{Plain, Splat}
use Rattle.rb_syntax.specs.declared.core_form.Pair.{Pair}
use Rattle.rb_syntax.specs.declared.core_form.Branch.{Branch}
use Rattle.ir_core.specs.declared.term.Clause.{Clause}
use Rattle.ir_core.specs.View.{Core}
use Rattle.ir_core.specs.Parts as part
use Rattle.ir_counts.specs.Tables.{count, item_count, pair_count, branch_count, clause_count}

pub count-cores : (cs : List Core) → count (part.cores cs) ≡ length cs
count-cores [] = refl
count-cores (c ∷ cs) = let e : count (part.cores cs) ≡ length cs = count-cores cs in omega (arith, e)

pub count-items : (is : List (Item Core)) → item_count (part.items is) ≡ length is
count-items [] = refl
count-items (Plain c ∷ is) = let e : item_count (part.items is) ≡ length is = count-items is in omega (arith, e)
count-items (Splat c ∷ is) = let e : item_count (part.items is) ≡ length is = count-items is in omega (arith, e)

pub count-pairs : (ps : List (Pair Core)) → pair_count (part.pairs ps) ≡ length ps
count-pairs [] = refl
count-pairs (p ∷ ps) = let e : pair_count (part.pairs ps) ≡ length ps = count-pairs ps in omega (arith, e)

pub count-branches : (bs : List (Branch Core)) → branch_count (part.branches bs) ≡ length bs
count-branches [] = refl
count-branches (b ∷ bs) = let e : branch_count (part.branches bs) ≡ length bs = count-branches bs in omega (arith, e)

pub count-clauses : (cs : List (Clause Core)) → clause_count (part.clauses cs) ≡ length cs
count-clauses [] = refl
count-clauses (c ∷ cs) = let e : clause_count (part.clauses cs) ≡ length cs = count-clauses cs in omega (arith, e)

pub ruleset count_laws = (count-cores, count-items, count-pairs, count-branches, count-clauses)
