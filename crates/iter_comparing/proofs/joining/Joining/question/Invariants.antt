use Rattle.std.proofs.Common.{◌≡◌, drop}
use Rattle.iter_comparing.specs.Texts.{joined_from}
use Rattle.iter_comparing.proofs.joining.Joining.question.Given as goal

abbrev pub invariant-pieces : goal.invariant-pieces
invariant-pieces l =
    (joined_from l.fn.heap l.fn.self (drop l.fn.self.place l.fn.self.pieces)
    ≡ joined_from l.heap l.self (drop l.self.place l.self.pieces))
    × (l.self.place ≡ l.place) × (l.self.pieces ≡ l.fn.self.pieces)
