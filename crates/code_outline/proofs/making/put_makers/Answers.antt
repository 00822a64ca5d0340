use Rattle.std.proofs.Common.{◌≡◌, ◌∙◌, sym, length, arith}
use Rattle.std.proofs.lemmas.Bool.{eqb-true}
use Rattle.code_outline.specs.Layout.{layout}
use Rattle.code_outline.specs.Makers.{made_in}
use Rattle.code_outline.proofs.Made.{childless}
use Rattle.code_outline.proofs.Marks.{marks-none}
use Rattle.code_outline.proofs.Reading.{read-none, read-more, read-all}
use Rattle.code_outline.proofs.making.put_makers.Goals as goal

pub returns-then-is_empty : goal.returns-then-is_empty
returns-then-is_empty c =
    let e : length c.args.body.now.children ≡ 0 =
    eqb-true (length c.args.body.now.children) 0 (sym c.is_empty.ensures ∙ c.if-is_empty.true) in
    rw (childless c.args.number c.args.body.now (layout c.args.version c.args.body.now.code) e)
    (marks-none c.args.makers.now)

pub places-init : goal.places-init
places-init c = record {
  read = read-none c.args.version c.as_slice-code.result.now c.args.number c.args.body.now c.args.makers.now;
  within = omega arith;
}

pub places-preserved-in-Some-made_by : goal.places-preserved-in-Some-made_by
places-preserved-in-Some-made_by c =
    let e = c.in-Some.ensures in
    record {
      read = read-more c.args.version c.as_slice-code.result.now c.args.number c.args.body.now c.places.at
          c.in-Some.standing c.args.makers.now c.places.makers c.put_maker.new.makers e.value e.within.0 e.within.1
          c.places.auto.makers c.places.invariant.read (rw (← c.in-Some-made_by.ensures) c.put_maker.ensures);
      within = e.within.1;
    }

pub places-preserved : goal.places-preserved
places-preserved c =
    let e = c.in-Some.ensures in
    record {
      read = read-more c.args.version c.as_slice-code.result.now c.args.number c.args.body.now c.places.at
          c.in-Some.standing c.args.makers.now c.places.makers c.places.makers e.value e.within.0 e.within.1
          c.places.auto.makers c.places.invariant.read (rw (← c.in_default-made_by.ensures) (marks-none c.places.makers));
      within = e.within.1;
    }

pub returns : goal.returns
unfolding made_in
returns c =
    rw (← c.as_slice-code.ensures)
    (read-all c.args.version c.as_slice-code.result.now c.args.number c.args.body.now c.places.at c.args.makers.now
    c.places.makers c.in_default.ensures.value c.places.invariant.read)
