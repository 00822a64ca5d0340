-- A test of a case on its subject.
use Rattle.std.specs.Prelude.{ℕ, codes}
use Rattle.ir_core.specs.CoreForm.{CoreForm, one_item}
use Rattle.ir_core.specs.Forms.{send_form}
use Rattle.ir_builder.specs.Forms.{local_number}

abbrev pub asks_number : ℕ → CoreForm → CoreForm
asks_number d f = send_form f (codes "===") (one_item (local_number d))
