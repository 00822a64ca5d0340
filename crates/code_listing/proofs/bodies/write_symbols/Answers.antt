use Rattle.std.proofs.Common.{◌∙◌, arith}
use Rattle.code_listing.specs.Listing as texts
use Rattle.code_listing.proofs.Numbered.{next_numbered, none_numbered}
use Rattle.rb_refusal.proofs.Progress.{started, went_on, stopped, finished}
use Rattle.code_listing.proofs.bodies.write_symbols.Goals as goal

pub names-init : goal.names-init
names-init g c = record { progress = started _ _ }

pub returns-in_err-write_symbol : goal.returns-in_err-write_symbol
returns-in_err-write_symbol g c = stopped _ _ _ _ _ _ _ _ _ _ c.in_err-write_symbol.was c.from_residual.ensures.0
    (next_numbered texts.symbol_line c.args.names.now c.names.number _ _ (c.as_slice.ensures
    ∙ c.index-names-number.is) c.names-test.true) c.names.invariant.progress c.write_symbol.ensures

pub names-preserved : goal.names-preserved
names-preserved g c = record {
  progress = went_on _ _ _ _ _ _ _ _ _ c.in_ok-write_symbol.was
      (next_numbered texts.symbol_line c.args.names.now c.names.number _ _ (c.as_slice.ensures
      ∙ c.index-names-number.is) c.names-test.true) c.names.invariant.progress c.write_symbol.ensures;
}

pub returns : goal.returns
returns g c = finished _ _ _ _ (none_numbered texts.symbol_line c.args.names.now c.names.number (omega arith))
    c.names.invariant.progress
