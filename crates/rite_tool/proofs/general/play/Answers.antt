use Rattle.std.proofs.Common.{ℕ, map, string_bytes, subst}
use Rattle.rite_tool.specs.Asked.{run_meant}
use Rattle.rite_tool.specs.General.{IsRun}
use Rattle.rite_tool.specs.Sampling.{Streams, Samples}
use Rattle.rite_tool.specs.Words.{Run, run_of, sample_of}
use Rattle.rite_tool.proofs.Alone.{same_run, same_size}
use Rattle.rite_tool.proofs.Disks.{disk}
use Rattle.rite_tool.proofs.Sent.{buffered}
use Rattle.rite_tool.proofs.general.play.Goals as goal

pub returns-in-Some-clause-ran : goal.returns-in-Some-clause-ran
returns-in-Some-clause-ran g c = λ run is.
    let before = disk g.F.Files.tells g.F.Files.file g.F.Files.load_faults g.F.Files.store_faults c.args.files.now in
    let after = disk g.F.Files.tells g.F.Files.file g.F.Files.load_faults g.F.Files.store_faults c.run_file.new.files in
    let given = buffered g.E.Sink.taken g.E.Sink.faults c.args.err.now in
    let told = buffered g.E.Sink.taken g.E.Sink.faults c.run_file.new.err in
    subst (λ (r : Run). IsRun before after given told r c.run_file.result)
    (same_run (run_meant c.in-Some.asked) run (run_of (map string_bytes c.args.words.now)) c.in-Some.ensures is)
    c.run_file.ensures

pub returns-in-Some-read_sample-clause-sampled : goal.returns-in-Some-read_sample-clause-sampled
returns-in-Some-read_sample-clause-sampled g c = λ size is.
    let before : Streams = record {
      out = buffered g.O.Sink.taken g.O.Sink.faults c.args.out.now;
      err = buffered g.E.Sink.taken g.E.Sink.faults c.args.err.now;
    } in
    let after : Streams = record {
      out = buffered g.O.Sink.taken g.O.Sink.faults c.sample.new.out;
      err = buffered g.E.Sink.taken g.E.Sink.faults c.sample.new.err;
    } in
    subst (λ (n : ℕ). Samples n before after c.sample.result)
    (same_size c.in-Some-read_sample.size size (sample_of (map string_bytes c.args.words.now))
    c.in-Some-read_sample.ensures.asked is)
    c.sample.ensures
