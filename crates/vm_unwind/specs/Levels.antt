-- What those above name of the levels of all fibers.
pub use Rattle.vm_frames.specs.Seen.{Seen, of}
pub use Rattle.vm_frames.specs.Levels.{line_added, line_run, line_ended}
