use Rattle.std.proofs.Common.{◌≡◌, drop}
use Rattle.iter_comparing.specs.Sifting.{sifted}
use Rattle.iter_comparing.proofs.sifting.Sifting.question.Given as goal

abbrev pub invariant-values : goal.invariant-values
invariant-values l =
    (sifted l.fn.heap l.fn.self (drop l.fn.self.place l.fn.self.values)
    ≡ sifted l.heap l.self (drop l.self.place l.self.values))
    × (l.self.place ≡ l.place) × (l.self.values ≡ l.fn.self.values)
