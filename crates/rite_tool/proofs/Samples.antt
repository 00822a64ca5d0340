-- How a sample is told that didn't end with a status.
use Rattle.std.proofs.Common.{◌≢◌, ℕ, List, refl}
use Rattle.rb_exec.specs.declared.running.Played.{Played}
use Rattle.rb_exec.specs.declared.running.Played.TheVariants as played
use Rattle.rite_tool.specs.Sampling.{Streams, TellsPlayed, ShowsPlayed}
use Rattle.rite_tool.specs.declared.end.End.{End}

pub told_played : (size : ℕ) (text output : List ℕ) (p : Played) (before after : Streams) (end : End)
    → ((status : ℕ) → p ≢ played.Ended status) → TellsPlayed p before after end
    → ShowsPlayed size text output p before after end
told_played size text output (played.Ended status) before after end other h = absurd (other status refl)
told_played size text output (played.Uncaught line) before after end other h = h
told_played size text output played.Spent before after end other h = h
told_played size text output (played.Refused cause) before after end other h = h
told_played size text output played.FileFault before after end other h = h
told_played size text output played.NoMemory before after end other h = h
told_played size text output played.InputFault before after end other h = h
told_played size text output played.OutputFault before after end other h = h
