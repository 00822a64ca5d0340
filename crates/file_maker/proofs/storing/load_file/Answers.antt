use Rattle.std.proofs.Common.{◌≡◌, ℕ, List, subst, rules}
use Rattle.file_maker.proofs.storing.load_file.Goals as goal

pub returns-in-Ok-Err : goal.returns-in-Ok-Err
returns-in-Ok-Err g c = (c.in-Ok.bytes.items, c.in-Ok.ensures.loaded, search rules, search rules)
