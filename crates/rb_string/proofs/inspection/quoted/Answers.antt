use Rattle.std.proofs.Common.{◌≡◌, ◌+◌, true, false, ◌∷◌, ◌++◌, codes, length, get_or, Ok, refl, sym, ap, ◌∙◌, arith}
use Rattle.rb_string.specs.Limit.{fits}
use Rattle.rb_string.specs.Inspection.{shown, escaped}
use Rattle.rb_string.proofs.Limits.{limited_fits}
use Rattle.rb_string.proofs.Escapes.{escaped_step, escaped_long, escaped_all, closed_long}
use Rattle.rb_string.proofs.inspection.quoted.Goals as goal

pub returns-then-not-branch : goal.returns-then-not-branch
returns-then-not-branch c =
    let told = rw c.byte_or_zero.ensures at c.in_ok-append_shown.ensures.fits in
    sym (escaped_long c.bytes.shown.items (c.args.start.now ++ escaped c.args.text.now) (codes "\"") c.args.text.now
    c.bytes.at c.bytes-test.true c.bytes.invariant.same (sym told ∙ c.if-not-branch.true))

pub bytes-preserved : goal.bytes-preserved
bytes-preserved c =
    let told = rw c.byte_or_zero.ensures at c.in_ok-append_shown.ensures.items in
    let items : c.append_shown.new.text.items
    ≡ c.bytes.shown.items ++ shown (get_or c.args.text.now c.bytes.at 0) (get_or c.args.text.now (c.bytes.at + 1) 0) =
    rw c.if-not-branch.false at told in
    record {
      within = omega arith;
      same = rw items (escaped_step c.bytes.shown.items (c.args.start.now ++ escaped c.args.text.now) c.args.text.now
          c.bytes.at c.bytes-test.true c.bytes.invariant.same);
    }

pub returns-then-not-branch-2 : goal.returns-then-not-branch-2
returns-then-not-branch-2 c =
    let whole = escaped_all c.bytes.shown.items (c.args.start.now ++ escaped c.args.text.now) c.args.text.now c.bytes.at
    c.bytes-test.false c.bytes.invariant.same in
    sym (closed_long c.bytes.shown.items (c.args.start.now ++ escaped c.args.text.now) (codes "\"") whole
    (sym c.in_ok-append.ensures.fits ∙ c.if-not-branch-2.true))

pub returns : goal.returns
returns c =
    let whole = escaped_all c.bytes.shown.items (c.args.start.now ++ escaped c.args.text.now) c.args.text.now c.bytes.at
    c.bytes-test.false c.bytes.invariant.same in
    let items : c.append.new.text.items ≡ c.bytes.shown.items ++ codes "\"" =
    rw c.if-not-branch-2.false at c.in_ok-append.ensures.items in
    let all : c.bytes.shown.items ++ codes "\"" ≡ c.args.start.now ++ escaped c.args.text.now ++ codes "\"" =
    ap (λ l. l ++ codes "\"") whole in
    let room : fits (length (c.bytes.shown.items ++ codes "\"")) ≡ true =
    sym c.in_ok-append.ensures.fits ∙ c.if-not-branch-2.false in
    ap Ok (c.from_vec.ensures ∙ items ∙ all) ∙ sym (limited_fits
    (c.args.start.now ++ escaped c.args.text.now ++ codes "\"") (ap (λ l. fits (length l)) (sym all) ∙ room))
