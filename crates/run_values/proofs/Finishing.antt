-- What a core method gives can be raised.
use Rattle.rb_value.specs.declared.value.Value.{Value}
use Rattle.def_core.specs.Store.{Store}
use Rattle.row_answer.specs.declared.answer.Plain.{Plain}
use Rattle.row_answer.specs.declared.answer.Plain.TheVariants as plain
use Rattle.def_rows.specs.declared.answer.Answer.{Answer}
use Rattle.def_rows.specs.declared.answer.Answer.TheVariants as answer
use Rattle.def_rows.specs.Answers.{cause_of, finish, finish_plain}
use Rattle.run_values.specs.Raisable.{IsRaisable}
use Rattle.run_values.proofs.Causes.{fails_raisable}

plain_raisable : (st : Store) (recv : Value) (a : Plain) → IsRaisable (finish_plain st recv a).outcome
plain_raisable st recv plain.Nil = tt
plain_raisable st recv (plain.Truth b) = tt
plain_raisable st recv (plain.Int z) = tt
plain_raisable st recv plain.Receiver = tt
plain_raisable st recv (plain.Text bytes) = tt
plain_raisable st recv (plain.Symbol name) = tt
plain_raisable st recv (plain.Texts texts) = tt
plain_raisable st recv (plain.Numbers zs) = tt
plain_raisable st recv (plain.Append more) = tt
plain_raisable st recv (plain.Replace bytes) = tt
plain_raisable st recv (plain.Fail f) = fails_raisable st (cause_of f)

pub finish_raisable : (st : Store) (recv : Value) (a : Answer) → IsRaisable (finish st recv a).outcome
finish_raisable st recv (answer.Plain a) = plain_raisable st recv a
finish_raisable st recv (answer.Value v) = tt
finish_raisable st recv (answer.Items xs) = tt
finish_raisable st recv (answer.Range c r) = tt
finish_raisable st recv (answer.String c bytes) = tt
finish_raisable st recv (answer.Put bytes v) = tt
finish_raisable st recv (answer.Push more) = tt
finish_raisable st recv (answer.Replace xs) = tt
finish_raisable st recv (answer.Fail c) = fails_raisable st c
