use Rattle.std.proofs.Common.{◌≡◌, take}
use Rattle.std.specs.List.{flat_map}
use Rattle.rb_base.specs.Outside.{with_more}
use Rattle.rb_refusal.proofs.pieces.write_pieces.Given as goal

abbrev pub invariant-pieces : goal.invariant-pieces
invariant-pieces g l = record {
  taken : g.O.Sink.taken l.out ≡ with_more (g.O.Sink.taken l.initial.out)
      (flat_map (λ p. p.now) (take l.piece-index l.pieces));
  faults : g.O.Sink.faults l.out ≡ g.O.Sink.faults l.initial.out;
}
