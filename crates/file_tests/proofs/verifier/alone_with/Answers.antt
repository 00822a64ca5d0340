use Rattle.std.proofs.Common.{◌∙◌}
use Rattle.code_verifier.proofs.Samples.{alone}
use Rattle.file_tests.proofs.verifier.alone_with.Goals as goal

pub new-requires-2 : goal.new-requires-2
new-requires-2 c =
    rw (c.in_ok-push.ensures.ok, c.new-bodies.ensures)
    (alone c.args.version c.in_ok-body.field-0 c.requires.version (c.in_ok-body.ensures.body c.args.version)
    (c.in_ok-body.ensures.children ∙ c.new.ensures))
