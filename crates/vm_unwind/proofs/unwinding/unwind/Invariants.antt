use Rattle.std.proofs.Common.{◌-◌}
use Rattle.std.specs.Prelude.{None}
use Rattle.def_core.specs.Store.{Store}
use Rattle.vm_frames.specs.Seen.{Seen, of}
use Rattle.vm_unwind.specs.declared.unwinding.Landing.{Landing}
use Rattle.vm_unwind.specs.Landings.{Unwinds}
use Rattle.vm_unwind.proofs.unwinding.unwind.Given as goal

-- what is said of the levels that are left is said of all
abbrev pub invariant-levels : goal.invariant-levels
invariant-levels l = (landing : Landing) (st : Store) (s : Seen)
    → Unwinds (l._level-end - l._level) l.code l.exit l.heap.store (of l.frames) None landing st s
    → Unwinds l._level-end l.code l.exit l.initial.heap.store (of l.initial.frames) None landing st s
