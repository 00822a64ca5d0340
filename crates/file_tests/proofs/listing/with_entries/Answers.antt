use Rattle.file_tests.proofs.listing.with_entries.Goals as goal

pub program-requires-clause-body : goal.program-requires-clause-body
program-requires-clause-body c = c.in_ok-body.ensures.body 2
