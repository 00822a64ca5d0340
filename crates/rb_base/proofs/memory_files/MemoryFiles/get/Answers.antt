use Rattle.std.proofs.Common.{sym}
use Rattle.rb_base.proofs.Entries.{nowhere, place_at, found_at}
use Rattle.rb_base.proofs.memory_files.MemoryFiles.get.Goals as goal

pub returns-in_err-place : goal.returns-in_err-place
returns-in_err-place c =
    let none = nowhere _ _ c.args.name.now c.deref.ensures.value c.in_err-place.ensures in
    rw (c.from_residual.ensures, ← c.self.view_is) (sym none.missing)

pub returns : goal.returns
returns c =
    let place = place_at _ _ _ c.args.name.now c.deref.ensures.value c.in_ok-place.ensures in
    let found = found_at _ _ _ _ c.index.ensures place in
    rw (c.bytes.ensures, ← c.self.view_is) (sym found)
