-- Texts, one step for each piece.
use Rattle.std.specs.Prelude.{ℕ}
use Rattle.parser_tree.specs.Node.{Node}
use Rattle.ir_core.specs.CoreForm.{CoreForm}
use Rattle.lower_table.specs.Lowering.{Passed, core, piece_form}

abbrev pub piece_core : Passed → ℕ → Node → CoreForm
piece_core p d n = piece_form n (core p d n)
