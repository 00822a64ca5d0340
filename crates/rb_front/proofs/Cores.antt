-- The core of lines whose tree is within the language, which is that of a program; and that of a text.
use Rattle.std.proofs.Common.{◌≡◌, ℕ, ◌≤◌, List, length, Some, None, Result, Ok, Err, sym, ap, ◌∙◌, subst, if◌then◌else◌}
use Rattle.std.proofs.lemmas.Bool.{le-leb}
use Rattle.line_ends.specs.Lines.{as_read}
use Rattle.rb_syntax.specs.declared.token.Token.{Token}
use Rattle.rb_lexer.specs.Lexing.{tokens_of}
use Rattle.lexer_depth.specs.Levels.{deep}
use Rattle.parser_tree.specs.Parts.{PlainNode}
use Rattle.parser_checks.specs.Places.{misplaced}
use Rattle.rb_parser.specs.Program.{tree_of}
use Rattle.lower_outside.specs.Search.{found}
use Rattle.ir_core.specs.CoreForm.{Body}
use Rattle.lower_table.specs.Lowering.{program}
use Rattle.ir_core.specs.Program.{IsProgram}
use Rattle.name_laws.proofs.Laws.{is_program as tree_is_program}
use Rattle.rb_front.specs.Front.{IsTree, HasTree, core_within, core_of_tree, core_of_tokens, core_of_lines, core_of}

of_tree : (n : PlainNode) → misplaced n.1 ≡ None → found None n.1 ≡ None
    → core_of_tree (Ok n) ≡ Some (program n.0 n.1)
of_tree n p o = ap (λ m. core_within m (found None n.1) n) p ∙ ap (λ f. core_within None f n) o

of_tokens : (r : Result (List Token) ℕ) (size : ℕ) (n : PlainNode) → IsTree r size n → found None n.1 ≡ None
    → core_of_tokens r size ≡ Some (program n.0 n.1)
of_tokens (Err place) size n t o = absurd t
of_tokens (Ok ts) size n (few, is, stand) o =
    ap (λ b. if b then core_of_tree (tree_of ts size) else None) (le-leb (deep ts) 256 few)
    ∙ ap core_of_tree is ∙ of_tree n stand o

pub has_core : (lines : List ℕ) (n : PlainNode) (f : Body) → HasTree lines n → found None n.1 ≡ None
    → f ≡ program n.0 n.1 → core_of_lines lines ≡ Some f
has_core lines n f is o e = of_tokens (tokens_of lines) (length lines) n is o ∙ ap Some (sym e)

-- a text has the core of its lines
pub core_of_text : (text lines : List ℕ) → length text ≤ 16777216 → lines ≡ as_read text → core_of text ≡ core_of_lines lines
unfolding core_of
core_of_text text lines short is =
    ap (λ b. if b then core_of_lines (as_read text) else None) (le-leb (length text) 16777216 short)
    ∙ ap core_of_lines (sym is)

tree_has_program : (r : Result (List Token) ℕ) (size : ℕ) (n : PlainNode) → IsTree r size n → found None n.1 ≡ None
    → IsProgram (program n.0 n.1)
tree_has_program (Err place) size n t o = absurd t
tree_has_program (Ok ts) size n (few, is, stand) o = tree_is_program ts size n is stand o

pub has_program : (lines : List ℕ) (n : PlainNode) (f : Body) → HasTree lines n → found None n.1 ≡ None
    → f ≡ program n.0 n.1 → IsProgram f
has_program lines n f is o e =
    subst IsProgram (sym e) (tree_has_program (tokens_of lines) (length lines) n is o)
