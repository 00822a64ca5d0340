use Rattle.code_outline.proofs.Marks.{marks-new, marks-kept, marks-past}
use Rattle.code_outline.proofs.making.put_maker.Goals as goal
use Rattle.code_outline.proofs.making.put_maker.Goals.{else-child-makers-via-then-child-makers+else-is_none, else-child-makers-via-else-child-makers}

pub returns-then-is_none : goal.returns-then-is_none
returns-then-is_none c = marks-new c.args.makers.now c.args.child c.args.maker c.if-child-makers.true
    c.if-is_none.ensures

pub returns-else-child-makers : goal.returns-else-child-makers
returns-else-child-makers c = elim c.else-child-makers.branch [
  | else-child-makers-via-then-child-makers+else-is_none w ↦ marks-kept c.args.makers.now c.args.child c.args.maker
      w.if-is_none.ensures
  | else-child-makers-via-else-child-makers w ↦ marks-past c.args.makers.now c.args.child c.args.maker
      w.if-child-makers.false
]
