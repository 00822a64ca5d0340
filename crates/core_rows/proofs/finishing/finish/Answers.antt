use Rattle.core_rows.proofs.Keeping.{finish_leaves, completes}
use Rattle.core_rows.proofs.finishing.finish.Goals as goal

pub returns : goal.returns
returns c =
    let st = c.args.st.now.store in
    completes _ _ _ _ c.requires.sound
    (finish_leaves st c.requires.sound c.args.recv c.requires.recv c.args.answer c.requires.answer) c.give.ensures
