-- What is read off the node of a tree, which is no part of one.
use Rattle.std.proofs.Common.{◌≡◌, ℕ, true, false, [], refl}
use Rattle.std.proofs.lemmas.Bool.{false≢true}
use Rattle.parser_tree.specs.Node as node
use Rattle.parser_tree.specs.Node.{Node}
use Rattle.ir_core.specs.CoreForm as form
use Rattle.ir_core.specs.CoreForm.{CoreForm, there}
use Rattle.lower_table.specs.Parts.{is_tree, bytes_of, parameter_local}
use Rattle.lower_table.specs.Lowering.{scope_form}

pub no-bytes : (n : Node) → is_tree n ≡ true → bytes_of n ≡ []
no-bytes (node.piece a) whole = absurd (false≢true whole)
no-bytes n whole = refl

pub pattern : (k : ℕ) (n : Node) → is_tree n ≡ true → parameter_local k n ≡ form.pattern k
pattern k (node.name_parameter a) whole = absurd (false≢true whole)
pattern k n whole = refl

pub scope : (v : CoreForm) (n : Node) → is_tree n ≡ true → scope_form n v ≡ there v
scope v node.innermost whole = absurd (false≢true whole)
scope v node.top whole = absurd (false≢true whole)
scope v n whole = refl

pub ruleset wholes = (no-bytes, pattern, scope)
