use Rattle.std.proofs.Common.{Some, Result, refl, subst}
use Rattle.rite_code.specs.Code.{Program}
use Rattle.file_maker.specs.Disk.{Disk}
use Rattle.file_maker.specs.Storing.{Stores}
use Rattle.file_maker.specs.declared.storing.NotMade.{NotMade}
use Rattle.rb_exec.proofs.playing.build.Goals as goal

pub returns-in-Ok : goal.returns-in-Ok
returns-in-Ok g c =
    let before : Disk = record {
      tells = g.F.Files.tells c.args.files.now;
      file = g.F.Files.file c.args.files.now;
      load_faults = g.F.Files.load_faults c.args.files.now;
      store_faults = g.F.Files.store_faults c.args.files.now;
    } in
    let after : Disk = record {
      tells = g.F.Files.tells c.store_file.new.files;
      file = g.F.Files.file c.store_file.new.files;
      load_faults = g.F.Files.load_faults c.store_file.new.files;
      store_faults = g.F.Files.store_faults c.store_file.new.files;
    } in (
      refl,
      (
        c.in-Ok._code,
        subst
            (λ (made : Result Program NotMade). Stores before after c.args.source.now c.args.file.now (Some made))
            c.in-Ok.is c.in_ok-_code.ensures,
      ),
    )
