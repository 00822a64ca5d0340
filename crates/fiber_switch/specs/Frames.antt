-- What those above name of frames, levels and exits.
pub use Rattle.vm_unwind.specs.Frames.calls as calls
pub use Rattle.vm_unwind.specs.Frames.environments as environments
pub use Rattle.vm_unwind.specs.Frames.exits as exits
pub use Rattle.vm_unwind.specs.Frames.levels as levels
pub use Rattle.vm_unwind.specs.Frames.opening as opening
pub use Rattle.vm_unwind.specs.Frames.registers as registers
pub use Rattle.vm_unwind.specs.Frames.seen as seen
pub use Rattle.vm_unwind.specs.Frames.{Arguments, Frame, Begun, Level}
pub use Rattle.vm_unwind.specs.Frames.level as level
pub use Rattle.vm_unwind.specs.Landings as landings
pub use Rattle.vm_unwind.specs.declared.unwinding.Landing.{Landing}
pub use Rattle.vm_unwind.specs.declared.unwinding.Landing.TheVariants as landing
