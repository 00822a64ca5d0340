use Rattle.std.proofs.Common.{ℕ, List, subst}
use Rattle.rite_tool.specs.Making.{Stores}
use Rattle.rite_tool.proofs.Storing.{made}
use Rattle.rite_tool.proofs.Disks.{disk}
use Rattle.rite_tool.proofs.building.build.Goals as goal

pub returns : goal.returns
returns g c =
    let before = disk g.F.Files.tells g.F.Files.file g.F.Files.load_faults g.F.Files.store_faults c.args.files.now in
    let between =
    disk g.F.Files.tells g.F.Files.file g.F.Files.load_faults g.F.Files.store_faults c.prepare.new.files in
    let after = disk g.F.Files.tells g.F.Files.file g.F.Files.load_faults g.F.Files.store_faults c.store.new.files in
    let prepared = c.in_ok-bytes.ensures in
    made before between after c.args.source.now c.args.file.now prepared.0 c.in_ok-bytes.bytes.items
    prepared.1 c.store.result prepared.2 prepared.3 prepared.4 prepared.5
    (subst (λ (bytes : List ℕ). Stores between after c.args.file.now bytes c.store.result) c.deref.ensures.value
    c.store.ensures)
