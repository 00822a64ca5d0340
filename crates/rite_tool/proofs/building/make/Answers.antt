use Rattle.std.proofs.Common.{◌≡◌, ℕ, List, sym, subst, Result, Ok}
use Rattle.rite_code.specs.Code.{Program}
use Rattle.rite_file.specs.File.{Spells}
use Rattle.rite_tool.specs.Making.{Built, Stores, Checks}
use Rattle.rite_tool.specs.declared.stop.Stop.{Stop}
use Rattle.rite_tool.proofs.Storing.{built}
use Rattle.rite_tool.proofs.Disks.{disk}
use Rattle.rite_tool.proofs.building.make.Goals as goal

pub returns : goal.returns
returns g c =
    let before = disk g.F.Files.tells g.F.Files.file g.F.Files.load_faults g.F.Files.store_faults c.args.files.now in
    let between =
    disk g.F.Files.tells g.F.Files.file g.F.Files.load_faults g.F.Files.store_faults c.prepare.new.files in
    let after = disk g.F.Files.tells g.F.Files.file g.F.Files.load_faults g.F.Files.store_faults c.store.new.files in
    let prepared = c.in_ok-bytes.ensures in
    let code = prepared.1 in
    let e = prepared.3 in
    let checked : Checks code c.check.result =
    c.check.ensures code e.whole e.verified
    (subst (λ (bytes : List ℕ). Spells bytes code) (sym c.deref.ensures.value) e.spelled) in
    let same : c.in_ok-verified.verified ≡ code =
    subst (λ (r : Result Program Stop). Checks code r) c.in_ok-verified.was checked in
    let stored : Stores between after c.args.file.now c.in_ok-bytes.bytes.items (Ok tt) =
    subst (λ (bytes : List ℕ). Stores between after c.args.file.now bytes (Ok tt)) c.deref-2.ensures.value
    (subst (λ (r : Result Unit Stop). Stores between after c.args.file.now c.deref-2.result.now r) c.in_ok-store.was
    c.store.ensures) in
    subst (λ (p : Program). Built before after c.args.source.now c.args.file.now p) (sym same)
    (built before between after c.args.source.now c.args.file.now prepared.0 c.in_ok-bytes.bytes.items code
    prepared.2 e prepared.4 prepared.5 stored)
