use Rattle.std.proofs.Common.{ℕ, ◌≤◌, length, sym, subst}
use Rattle.std.specs.Prelude.{Option, IfSome}
use Rattle.core_string.proofs.Places.{last_index_within}
use Rattle.core_string.proofs.others.last_index.Goals as goal

pub place-requires : goal.place-requires
place-requires c = subst (λ (o : Option ℕ). IfSome o (λ k. k ≤ length c.args.bytes.now)) (sym c.last_index.ensures.value)
    (last_index_within c.args.bytes.now c.args.other.now)
