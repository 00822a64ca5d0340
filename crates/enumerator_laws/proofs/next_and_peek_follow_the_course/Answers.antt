use Rattle.enumerator_laws.proofs.Exactly.{stops_exactly}
use Rattle.enumerator_laws.proofs.next_and_peek_follow_the_course.Goals as goal

-- src/lib.rt
pub returns-clause-end_alone : goal.returns-clause-end_alone
returns-clause-end_alone c = stops_exactly
