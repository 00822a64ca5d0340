-- The sections of compound forms, and the nodes that they make.
use Rattle.std.specs.Prelude.{ℕ, Bool, true, false, not, if◌then◌else◌, List, [], ◌∷◌, map, nat_eq, nat_lt, length, Option, Some, None, Vec}
use Rattle.std.specs.declared.alloc.Global.{Global}
use Rattle.rb_syntax.specs.declared.outside.Outside.TheVariants as outsides
use Rattle.parser_tree.specs.Node as node
use Rattle.parser_tree.specs.Node.{Node, Nodes, nodes, one}
use Rattle.parser_tree.specs.Parts.{boxed}
use Rattle.parser_tree.specs.View.{view}
use Rattle.parser_ahead.specs.declared.sections.Compound.{Compound}
use Rattle.parser_ahead.specs.declared.sections.Compound.TheVariants as compounds
use Rattle.parser_ahead.specs.declared.sections.SectionKind.{SectionKind}
use Rattle.parser_ahead.specs.declared.sections.SectionKind.TheVariants as kinds
use Rattle.parser_nodes.specs.Nodes.{condition_node}
use Rattle.parser_form_nodes.specs.declared.sections.Section.{Section}
use Rattle.parser_form_nodes.specs.declared.sections.LastPart.{LastPart}
use Rattle.parser_form_nodes.specs.declared.sections.LastPart.TheVariants as parts

-- what stands in the heading, what is assigned to or walked over, and the statements
pub record SectionNode : Type 0 where
  pub kind : SectionKind
  pub heads : List Node
  pub target : Nodes
  pub body : Node

abbrev pub section_view : Section → SectionNode
section_view s = record { kind = s.kind; heads = map view s.heads.items; target = boxed s.target; body = view s.body }

abbrev pub sections_view : Vec Section Global → List SectionNode
sections_view v = map section_view v.items

abbrev is_else : SectionKind → Bool
is_else kinds.Else = true
is_else _ = false

abbrev is_ensure : SectionKind → Bool
is_ensure kinds.Ensure = true
is_ensure _ = false

unfoldable pub is_part : LastPart → SectionKind → Bool
is_part parts.Else k = is_else k
is_part parts.Ensure k = is_ensure k

-- the last, and those before it
unfoldable pub last_of : {A : Type 0} → List A → Option A
last_of [] = None
last_of (x ∷ []) = Some x
last_of (x ∷ y ∷ xs) = last_of (y ∷ xs)

unfoldable pub before_last : {A : Type 0} → List A → List A
before_last [] = []
before_last (x ∷ []) = []
before_last (x ∷ y ∷ xs) = x ∷ before_last (y ∷ xs)

abbrev pub body_if : LastPart → Option SectionNode → Nodes
body_if p None = node.none
body_if p (Some s) = if is_part p s.kind then one s.body else node.none

-- the body of the last section where it is this part
unfoldable pub part_body : LastPart → List SectionNode → Nodes
part_body p ss = body_if p (last_of ss)

abbrev pub has_part : LastPart → Option SectionNode → Bool
has_part p None = false
has_part p (Some s) = is_part p s.kind

-- the sections but for the last where it is this part
unfoldable pub before_part : LastPart → List SectionNode → List SectionNode
before_part p ss = if has_part p (last_of ss) then before_last ss else ss

abbrev pub test_or_nil : Option Node → Node
test_or_nil None = node.nil
test_or_nil (Some test) = condition_node test

-- the test of a heading
abbrev pub test_node : List Node → Node
test_node heads = test_or_nil (last_of heads)

unfoldable pub branch_of : SectionNode → Node
branch_of s = node.branch (test_node s.heads) s.body

abbrev pub when_of : SectionNode → Node
when_of s = node.when_clause (nodes s.heads) s.body

abbrev pub rescue_of : SectionNode → Node
rescue_of s = node.rescue_clause (nodes s.heads) s.target s.body

unfoldable pub if_node : List SectionNode → Node
if_node ss = node.if_node (nodes (map branch_of (before_part parts.Else ss))) (part_body parts.Else ss)

unfoldable pub unless_section : SectionNode → Nodes → Node
unless_section s other = node.unless_node (test_node s.heads) s.body other

unfoldable pub unless_by : Option SectionNode → Nodes → Node
unless_by None other = node.nil
unless_by (Some s) other = unless_section s other

unfoldable pub unless_node : List SectionNode → Node
unless_node ss = unless_by (last_of (before_part parts.Else ss)) (part_body parts.Else ss)

unfoldable pub loop_section : Bool → SectionNode → Node
loop_section until s = node.while_node until false (test_node s.heads) s.body

unfoldable pub loop_by : Bool → Option SectionNode → Node
loop_by until None = node.nil
loop_by until (Some s) = loop_section until s

unfoldable pub loop_node : Bool → List SectionNode → Node
loop_node until ss = loop_by until (last_of ss)

abbrev pub first_or_nil : Nodes → Node
first_or_nil node.none = node.nil
first_or_nil (node.more n ns) = n

unfoldable pub for_section : SectionNode → Node
for_section s = node.for_node (nodes s.heads) (first_or_nil s.target) s.body

unfoldable pub for_by : Option SectionNode → Node
for_by None = node.nil
for_by (Some s) = for_section s

unfoldable pub for_node : List SectionNode → Node
for_node ss = for_by (last_of ss)

abbrev pub option_node : Option Node → Nodes
option_node None = node.none
option_node (Some n) = one n

unfoldable pub first_of : {A : Type 0} → List A → Option A
first_of [] = None
first_of (x ∷ xs) = Some x

unfoldable pub rest_of : {A : Type 0} → List A → List A
rest_of [] = []
rest_of (x ∷ xs) = xs

unfoldable pub case_section : SectionNode → List SectionNode → Nodes → Node
case_section s ss other = node.case_node (option_node (last_of s.heads)) (nodes (map when_of ss)) other

unfoldable pub case_by : Option SectionNode → List SectionNode → Nodes → Node
case_by None ss other = node.nil
case_by (Some s) ss other = case_section s ss other

abbrev pub case_of : List SectionNode → Nodes → Node
case_of ss other = case_by (first_of ss) (rest_of ss) other

unfoldable pub case_node : List SectionNode → Node
case_node ss = case_of (before_part parts.Else ss) (part_body parts.Else ss)

abbrev pub body_or_nil : Option SectionNode → Node
body_or_nil None = node.nil
body_or_nil (Some s) = s.body

abbrev pub begin_of : List SectionNode → Nodes → Nodes → Node
begin_of ss other ensure = node.begin_node (body_or_nil (first_of ss)) (nodes (map rescue_of (rest_of ss))) other ensure

abbrev pub otherwise_of : List SectionNode → Nodes → Node
otherwise_of ss ensure = begin_of (before_part parts.Else ss) (part_body parts.Else ss) ensure

-- a body with the clauses behind it
unfoldable pub rescued_body : List SectionNode → Node
rescued_body ss = otherwise_of (before_part parts.Ensure ss) (part_body parts.Ensure ss)

-- the node of a body: its statements alone, or with clauses
abbrev pub body_node : List SectionNode → Node
body_node ss = if nat_lt 1 (length ss) then rescued_body ss else body_or_nil (last_of ss)

-- case has a clause, each other form a section
abbrev pub is_whole : Compound → List SectionNode → Bool
is_whole compounds.Case ss = nat_lt 1 (length ss)
is_whole compounds.If ss = not (nat_eq (length ss) 0)
is_whole compounds.Unless ss = not (nat_eq (length ss) 0)
is_whole compounds.While ss = not (nat_eq (length ss) 0)
is_whole compounds.Until ss = not (nat_eq (length ss) 0)
is_whole compounds.For ss = not (nat_eq (length ss) 0)
is_whole compounds.Body ss = not (nat_eq (length ss) 0)

-- the node of a compound form
abbrev pub compound_node : Compound → List SectionNode → Node
compound_node compounds.If ss = if_node ss
compound_node compounds.Unless ss = unless_node ss
compound_node compounds.While ss = loop_node false ss
compound_node compounds.Until ss = loop_node true ss
compound_node compounds.For ss = for_node ss
compound_node compounds.Case ss = case_node ss
compound_node compounds.Body ss = rescued_body ss

-- a pattern, outside the language
abbrev pub pattern_node : ℕ → List Node → Node
pattern_node at heads = node.outside outsides.PatternMatch at (nodes heads)

-- the tests of in
abbrev pub pattern_heads : ℕ → List Node → List Node
pattern_heads at heads = pattern_node at heads ∷ []
