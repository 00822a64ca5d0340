use Rattle.std.proofs.Common.{◌≡◌, ◌++◌, drop, map}
use Rattle.rite_code.specs.declared.code.PoolItem.TheVariants as pool
use Rattle.gen_forms.proofs.layout.add_integers.Given as goal

abbrev pub invariant-loop-integer : goal.invariant-loop-integer
invariant-loop-integer l =
    l.items.items ++ map pool.Int (drop l.integer-index l.integers) ≡ l.fn.items.items ++ map pool.Int l.integers
