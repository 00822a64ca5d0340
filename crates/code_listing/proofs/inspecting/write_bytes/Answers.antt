use Rattle.std.proofs.Common.{◌≡◌, ℕ, ◌+◌, ◌<◌, ◌≤◌, Bool, List, ◌++◌, ◌-◌, arith, take, drop, add-one, drop-cons, get_or, length, ap}
use Rattle.std.proofs.lemmas.List.{drop_all, take_rest}
use Rattle.code_listing.specs.Inspect as texts
use Rattle.rb_refusal.proofs.Progress.{started, went_on, stopped, finished}
use Rattle.code_listing.proofs.inspecting.write_bytes.Goals as goal

first_byte : (text : List ℕ) (at : ℕ) (inserts : Bool) → at < length text
    → inserts ≡ texts.begins_insertion (take (length text - (at + 1)) (drop (at + 1) text))
    → texts.inspected_bytes (drop at text) ≡ texts.inspected_byte (get_or text at 0) inserts ++ texts.inspected_bytes
    (drop (at + 1) text)
unfolding texts.inspected_bytes
first_byte text at inserts h e = rw (e, take_rest text (at + 1), add-one, drop-cons text at 0)

pub bytes-init : goal.bytes-init
bytes-init g c = record { within = omega arith; progress = started _ _ }

pub returns-in_err-write_byte : goal.returns-in_err-write_byte
returns-in_err-write_byte g c = stopped _ _ _ _ _ _ _ _ _ _ c.in_err-write_byte.was c.from_residual.ensures.0
    (first_byte c.args.text.now c.bytes.at _ c.bytes-test.true c.begins_insertion.ensures) c.bytes.invariant.progress
    c.write_byte.ensures

pub bytes-preserved : goal.bytes-preserved
bytes-preserved g c = record {
  within = omega arith;
  progress = went_on _ _ _ _ _ _ _ _ _ c.in_ok-write_byte.was
      (first_byte c.args.text.now c.bytes.at _ c.bytes-test.true c.begins_insertion.ensures)
      c.bytes.invariant.progress c.write_byte.ensures;
}

pub returns : goal.returns
unfolding texts.inspected_bytes
returns g c =
    let past : length c.args.text.now ≤ c.bytes.at = omega arith in
    finished _ _ _ _ (ap texts.inspected_bytes (drop_all c.bytes.at c.args.text.now past)) c.bytes.invariant.progress
