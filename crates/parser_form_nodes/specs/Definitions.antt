-- Definitions of methods, the paths of classes, alias and undef.
use Rattle.std.specs.Prelude.{ℕ, Bool, true, false, ◌&&◌, bytes_eq, codes, if◌then◌else◌, List, [], ◌∷◌, ◌++◌, length, Option, Some, None, Result, Ok, Err}
use Rattle.rb_syntax.specs.declared.outside.Outside.TheVariants as outsides
use Rattle.rb_syntax.specs.declared.punctuator.Punctuator.TheVariants as marks
use Rattle.parser_tree.specs.Node as node
use Rattle.parser_tree.specs.Node.{Name, Node, Nodes, one}
use Rattle.parser_tree.specs.Parts.{boxed}
use Rattle.parser_tokens.specs.Expect.{Tokens}
use Rattle.parser_tokens.specs.Tokens.{first, behind, bytes_at, place_at, word_of, bytes_of}
use Rattle.parser_tokens.specs.declared.word.Word.{Word}
use Rattle.parser_tokens.specs.declared.word.Word.TheVariants as words
use Rattle.parser_ahead.specs.Names.{is_known}
use Rattle.parser_ahead.specs.Primary.{is_comma_word, is_method_word}
use Rattle.parser_ahead.specs.declared.names.Variable.{Variable}
use Rattle.parser_form_nodes.specs.Parameters.{BlockNode}
use Rattle.parser_form_nodes.specs.declared.definitions.MethodHead.{MethodHead}

-- what a method is defined on or none, its name, and the place of a name that isn't of ASCII
pub record HeadNode : Type 0 where
  pub singleton : Nodes
  pub name : Name
  pub outside : Option ℕ

abbrev pub head_view : MethodHead → HeadNode
head_view h = record { singleton = boxed h.singleton; name = h.name; outside = h.outside }

-- the place of a name that isn't of ASCII, none of another name, and nothing where no name stands there
abbrev pub name_place : Word → Tokens → Option (Option ℕ)
name_place words.Identifier ts = Some None
name_place words.Constant ts = Some None
name_place words.MethodName ts = Some None
name_place (words.Other outsides.NonAsciiName) ts = Some (Some (place_at ts))
name_place _ ts = None

abbrev pub head_at : Option (Option ℕ) → Nodes → Tokens → Result (HeadNode × Tokens) ℕ
head_at None singleton ts = Err (length ts)
head_at (Some outside) singleton ts = Ok (
  record { singleton = singleton; name = bytes_at ts; outside = outside },
  behind ts,
)

-- the name of a method
abbrev pub method_name : Nodes → Tokens → Result (HeadNode × Tokens) ℕ
method_name singleton ts = head_at (name_place (first ts) ts) singleton ts

abbrev pub is_dot : Word → Bool
is_dot (words.Mark marks.Dot) = true
is_dot _ = false

-- a name that is a local, or is called without arguments
abbrev pub called_name : Bool → Name → Node
called_name known x = if known then node.local x else node.call node.none x node.none node.none

abbrev pub named_singleton : Word → List Variable → Name → Option Node
named_singleton words.Constant names x = Some (node.constant x)
named_singleton words.Identifier names x = Some (called_name (is_known x names) x)
named_singleton words.MethodName names x = if bytes_eq x (codes "self") then Some node.self_reference else None
named_singleton _ names x = None

-- what a method is defined on, where it is a name with a dot behind it
unfoldable pub singleton_at : List Variable → Tokens → Option Node
singleton_at names ts = if is_dot (first (behind ts)) then named_singleton (first ts) names (bytes_at ts) else None

-- a node behind others
abbrev pub nodes_then : Nodes → Node → Nodes
nodes_then node.none n = one n
nodes_then (node.more m ms) n = node.more m (nodes_then ms n)

-- a method whose name isn't of ASCII, of its parts
abbrev pub outside_method : ℕ → Nodes → Node
outside_method at ns = node.outside outsides.NonAsciiName at ns

abbrev pub method_by : Option ℕ → HeadNode → BlockNode → Node
method_by None h d = node.define h.singleton h.name d.0
method_by (Some at) h d = outside_method at (nodes_then h.singleton d.1)

-- a method; one whose name isn't of ASCII is outside the language, with what it is defined on and its body
abbrev pub method_node : HeadNode → BlockNode → Node
method_node h d = method_by h.outside h d

abbrev pub is_global : Word → Bool
is_global words.GlobalVariable = true
is_global (words.Other outsides.SpecialGlobal) = true
is_global _ = false

abbrev pub global_alias : ℕ → Node
global_alias at = node.outside outsides.GlobalAlias at node.none

-- what stands behind alias, at that place
abbrev pub alias : ℕ → Tokens → Result (Node × Tokens) ℕ
alias at ts =
    if is_global (first ts) && is_global (first (behind ts)) then Ok (global_alias at, behind (behind ts))
    else if is_method_word (first ts)
    then (if is_method_word (first (behind ts)) then Ok
    (node.alias_node (bytes_at ts) (bytes_at (behind ts)), behind (behind ts)) else Err (length (behind ts)))
    else Err (length ts)

-- names and symbols with commas between them, behind those that were found
unfoldable pub undef_from : List Name → Tokens → Result (Node × Tokens) ℕ
undef_from found [] = Err 0
undef_from found (t ∷ []) = if is_method_word (word_of t) then Ok (node.undef_node (found ++ bytes_of t.kind ∷ []), [])
    else Err 1
undef_from found (t ∷ u ∷ ts) =
    if is_method_word (word_of t)
    then (if is_comma_word (word_of u) then undef_from (found ++ bytes_of t.kind ∷ []) ts else Ok
    (node.undef_node (found ++ bytes_of t.kind ∷ []), u ∷ ts))
    else Err (length (t ∷ u ∷ ts))

-- what stands behind undef
abbrev pub undef : Tokens → Result (Node × Tokens) ℕ
undef ts = undef_from [] ts
