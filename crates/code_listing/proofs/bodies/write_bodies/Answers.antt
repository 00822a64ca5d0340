use Rattle.std.proofs.Common.{arith}
use Rattle.code_listing.specs.Listing as texts
use Rattle.code_listing.proofs.Numbered.{next_numbered, none_numbered}
use Rattle.rb_refusal.proofs.Progress.{started, went_on, stopped, finished}
use Rattle.code_listing.proofs.bodies.write_bodies.Goals as goal

pub bodies-init : goal.bodies-init
bodies-init g c = record { progress = started _ _ }

pub returns-in_err-write_body : goal.returns-in_err-write_body
returns-in_err-write_body g c = stopped _ _ _ _ _ _ _ _ _ _ c.in_err-write_body.was c.from_residual.ensures.0
    (next_numbered (texts.body_lines c.args.version) c.args.bodies.now c.bodies.number _ _ c.index-bodies-number.is
    c.bodies-test.true) c.bodies.invariant.progress c.write_body.ensures

pub bodies-preserved : goal.bodies-preserved
bodies-preserved g c = record {
  progress = went_on _ _ _ _ _ _ _ _ _ c.in_ok-write_body.was
      (next_numbered (texts.body_lines c.args.version) c.args.bodies.now c.bodies.number _ _ c.index-bodies-number.is
      c.bodies-test.true) c.bodies.invariant.progress c.write_body.ensures;
}

pub returns : goal.returns
returns g c = finished _ _ _ _ (none_numbered (texts.body_lines c.args.version) c.args.bodies.now c.bodies.number
    (omega arith)) c.bodies.invariant.progress
