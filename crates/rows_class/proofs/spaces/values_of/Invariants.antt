use Rattle.std.proofs.Common.{◌≡◌, ◌++◌, drop, map}
use Rattle.rb_value.specs.declared.value.Value.TheVariants.{Obj}
use Rattle.rows_class.proofs.spaces.values_of.Given as goal

abbrev pub invariant-ids : goal.invariant-ids
invariant-ids l = map (λ id. Obj id) l.fn.ids ≡ l.values.items ++ map (λ id. Obj id) (drop l.id-index l.ids)
