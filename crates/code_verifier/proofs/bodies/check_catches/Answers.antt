use Rattle.std.proofs.Common.{◌≡◌, sym, ap, ◌∙◌, true, false, length, get_or}
use Rattle.rite_code.specs.declared.cause.Cause.TheVariants as cause
use Rattle.rite_code.specs.declared.code.CatchEntry.{CatchEntry}
use Rattle.code_outline.specs.Layout.{layout}
use Rattle.code_verifier.specs.Checks.{bad, unless, catch_holds}
use Rattle.code_verifier.proofs.Firsts.{one_past, one_before, all_past, broken, unbroken, held, failed}
use Rattle.code_verifier.proofs.bodies.check_catches.Goals as goal

pub returns-then-not-catch_holds : goal.returns-then-not-catch_holds
returns-then-not-catch_holds c =
    let list = layout c.args.version c.args.body.now.code in
    let found = λ (e : CatchEntry). bad c.args.number e.begin
    (unless (catch_holds (length c.args.body.now.code) list e) cause.Catch) in
    let entry = get_or c.as_slice-entry-items.result.now c.loop-entry.entry-index (record {
      rescue = false;
      begin = 0;
      end = 0;
      target = 0;
    }) in
    let same = c.catch_holds.ensures c.args.version c.args.body.now.code c.requires.laid in
    let no : catch_holds (length c.args.body.now.code) list entry ≡ false = ap (λ n. catch_holds n list entry)
    (sym c.len.ensures) ∙ (sym same ∙ c.if-not-catch_holds.true) in
    sym (one_before found c.as_slice-entry-items.result.now c.loop-entry.entry-index _ _ c.loop-entry-test.true
    (broken c.args.number entry.begin _ cause.Catch (failed _ cause.Catch no))) ∙ c.loop-entry.invariant

pub loop-entry-preserved : goal.loop-entry-preserved
loop-entry-preserved c =
    let list = layout c.args.version c.args.body.now.code in
    let found = λ (e : CatchEntry). bad c.args.number e.begin
    (unless (catch_holds (length c.args.body.now.code) list e) cause.Catch) in
    let entry = get_or c.as_slice-entry-items.result.now c.loop-entry.entry-index (record {
      rescue = false;
      begin = 0;
      end = 0;
      target = 0;
    }) in
    let same = c.catch_holds.ensures c.args.version c.args.body.now.code c.requires.laid in
    let yes : catch_holds (length c.args.body.now.code) list entry ≡ true = ap (λ n. catch_holds n list entry)
    (sym c.len.ensures) ∙ (sym same ∙ c.if-not-catch_holds.false) in
    sym (one_past found c.as_slice-entry-items.result.now c.loop-entry.entry-index _ c.loop-entry-test.true
    (unbroken c.args.number entry.begin _ (held _ cause.Catch yes))) ∙ c.loop-entry.invariant

pub returns : goal.returns
returns c =
    let list = layout c.args.version c.args.body.now.code in
    let found = λ (e : CatchEntry). bad c.args.number e.begin
    (unless (catch_holds (length c.args.body.now.code) list e) cause.Catch) in
    sym (all_past found c.as_slice-entry-items.result.now c.loop-entry.entry-index c.loop-entry-test.false)
    ∙ c.loop-entry.invariant
