-- What those above name of frames and levels.
pub use Rattle.vm_frames.specs.Calls as calls
pub use Rattle.vm_frames.specs.Environments as environments
pub use Rattle.vm_frames.specs.Exits as exits
pub use Rattle.vm_frames.specs.Levels as levels
pub use Rattle.vm_frames.specs.Opening as opening
pub use Rattle.vm_frames.specs.Registers as registers
pub use Rattle.vm_frames.specs.Seen as seen
pub use Rattle.vm_frames.specs.declared.arguments.Arguments.{Arguments}
pub use Rattle.vm_frames.specs.declared.frame.Frame.{Frame}
pub use Rattle.vm_frames.specs.declared.level.Begun.{Begun}
pub use Rattle.vm_frames.specs.declared.level.Level.{Level}
pub use Rattle.vm_frames.specs.declared.level.Level.TheVariants as level
