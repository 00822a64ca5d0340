use Rattle.std.proofs.Common.{◌-◌, ◌≤◌, vec_len}
use Rattle.std.specs.Io.KnownBytes.{Consumes}
use Rattle.rb_base.proofs.disk_files.read_front.Given as goal

abbrev pub invariant-chunks : goal.invariant-chunks
invariant-chunks g l = (vec_len l.bytes ≤ l.limit) × Consumes (g.R.Read.remaining l.initial.reader)
    (g.R.Read.remaining l.reader) l.bytes.items

abbrev pub decreases-chunks : goal.decreases-chunks
decreases-chunks g l = l.limit - vec_len l.bytes
