-- What is kept or assigned before something else is done.
use Rattle.std.specs.Prelude.{ℕ, ◌+◌}
use Rattle.parser_tree.specs.Node.{Node, Nodes}
use Rattle.ir_core.specs.CoreForm.{Forms, more}
use Rattle.ir_core.specs.Forms.{append}
use Rattle.ir_builder.specs.Forms.{keep}
use Rattle.lower_table.specs.Parts.{count}
use Rattle.lower_table.specs.Lowering.{Passed, core, core_all, keeps, patterns}

-- the forms that keep the receiver and the items of an index
abbrev pub index_kept : Passed → ℕ → Node → Nodes → Forms
index_kept p d a is =
    more (keep d (core p (d + (count is + 2)) a)) (keeps p (d + (count is + 2)) (d + 1) is)

-- what is done before the body of a function
abbrev pub assigned_before : Passed → Nodes → Nodes → Nodes → Forms
assigned_before p r o q = append (core_all p 0 o) (append (patterns p 0 r) (patterns p (count r) q))
