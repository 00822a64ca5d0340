use Rattle.world_laws.specs.Anywhere.{anywhere}
use Rattle.world_laws.proofs.Binding.{bind_is}
use Rattle.world_laws.proofs.Ending.{block_argument_is, settle_keeps, class_body_keeps, is_of_is, close_keeps}
use Rattle.world_laws.proofs.Fibers.{ended_keeps}
use Rattle.world_laws.proofs.activations_keep_the_world.Goals as goal

pub returns-clause-parameters : goal.returns-clause-parameters
returns-clause-parameters c = λ w s args k fine. bind_is anywhere w fine s args k

pub returns-clause-block : goal.returns-clause-block
returns-clause-block c = λ w v fine. block_argument_is anywhere w fine v

pub returns-clause-settled : goal.returns-clause-settled
returns-clause-settled c = λ w block target fine. settle_keeps anywhere w fine block target

pub returns-clause-class_body : goal.returns-clause-class_body
returns-clause-class_body c = λ w a c fine. class_body_keeps anywhere w fine a c

pub returns-clause-ended : goal.returns-clause-ended
returns-clause-ended c = λ w n fine. ended_keeps anywhere w fine n

pub returns-clause-taken : goal.returns-clause-taken
returns-clause-taken c = λ w v class fine. is_of_is anywhere w fine v class

pub returns-clause-closed : goal.returns-clause-closed
returns-clause-closed c = λ w a fine. close_keeps anywhere w fine a
