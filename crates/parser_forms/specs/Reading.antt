-- What a rule of the grammar reads at the front of some tokens, with the names known as locals.
use Rattle.std.specs.Prelude.{◌<◌, ℕ, List, length, Result, Ok, Err, IfOk}
use Rattle.std.specs.Borrow.{Bor}
use Rattle.rb_syntax.specs.declared.token.Token.{Token}
use Rattle.parser_tree.specs.Node.{Node}
use Rattle.parser_tokens.specs.Reads.{Gives}
use Rattle.parser_tokens.specs.declared.failure.Failure.{Failure}
use Rattle.parser_ahead.specs.declared.names.Variable.{Variable}
use Rattle.parser_ahead.specs.declared.primary.Place.{Place}
use Rattle.parser_ahead.specs.declared.primary.DoOwner.{DoOwner}
use Rattle.parser_ahead.specs.declared.primary.BlockStyle.{BlockStyle}
use Rattle.parser_ahead.specs.declared.sections.Compound.{Compound}
use Rattle.parser_ahead.specs.declared.groups.TargetUse.{TargetUse}
use Rattle.parser_nodes.specs.Listed.{ListNode, PhraseNode}
use Rattle.parser_form_nodes.specs.Targets.{TargetsNode}
use Rattle.parser_form_nodes.specs.Sections.{SectionNode}

abbrev pub Names : Type 0
Names = List Variable

abbrev pub Tokens : Type 0
Tokens = List Token

-- what was read, the names known then and the tokens left, or how many tokens are left where it fails
abbrev pub Read : Type 0 → Type 0
Read A = Result (A × Names × Tokens) ℕ

-- what a function returned, seen by f, with the names known then, is what is read, unless memory ran out
abbrev pub Reads : {A B : Type 0} → (A → B) → Result (A × Bor (List Token)) Failure → Names → Read B → Type 0
Reads f r names read = Gives (λ p. (f p.0, names, p.1.now)) r read

-- fewer tokens are left
abbrev pub Shortens : {A : Type 0} → List Token → Result (A × Bor (List Token)) Failure → Type 0
Shortens tokens r = IfOk r (λ p. length p.1.now < length tokens)

-- a block: its definition, and its body
abbrev pub BlockNode : Type 0
BlockNode = Node × Node

-- the rules a level deeper: those that a rule may hold within itself
pub record Inside : Type 0 where
  pub statements : Names → Tokens → Read Node
  pub expression : Names → Tokens → Place → DoOwner → Read Node
  pub negation : Names → Tokens → Place → DoOwner → Read PhraseNode
  pub phrase : Names → Tokens → Place → DoOwner → Read PhraseNode
  pub argument : Names → Tokens → DoOwner → Read Node
  pub operation : Names → Tokens → ℕ → DoOwner → Read Node
  pub list : Names → Tokens → DoOwner → Read ListNode
  pub targets : Names → TargetsNode → Tokens → TargetUse → Read TargetsNode
  pub block : Names → Tokens → BlockStyle → Read BlockNode
  pub sections : Names → Compound → Tokens → Read (List SectionNode)
