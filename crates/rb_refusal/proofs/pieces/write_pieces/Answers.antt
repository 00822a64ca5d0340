use Rattle.std.proofs.Common.{arith, []}
use Rattle.rb_refusal.proofs.Writing.{front_of_pieces, rose_since, says_err}
use Rattle.rb_refusal.proofs.pieces.write_pieces.Goals as goal

pub returns-in_err-write_all : goal.returns-in_err-write_all
returns-in_err-write_all g c =
    let said = c.in_err-write_all.ensures in
    says_err _ _ _ c.from_residual.result c.from_residual.ensures.0
    (front_of_pieces (λ p. p.now) c.args.pieces.now c.pieces.piece-index (record {
      ref_ptr = (0, 0);
      now = [];
    }) _ _ _ (omega arith) c.pieces.invariant.taken said.front)
    (rose_since _ _ _ c.pieces.invariant.faults said.failed)
