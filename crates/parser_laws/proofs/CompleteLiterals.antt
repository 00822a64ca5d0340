-- Literals with pieces and lists of words that are derived are read.
use Rattle.std.proofs.Common.{◌≡◌, ℕ, ◌+◌, ◌-◌, Bool, true, false, List, [], ◌∷◌, ◌++◌, length, Some, Ok, refl, sym, ap, ◌∙◌, arith}
use Rattle.std.proofs.lemmas.List.{append_assoc, append-nil}
use Rattle.rb_syntax.specs.declared.outside.Outside.{Outside}
use Rattle.rb_syntax.specs.declared.outside.Outside.TheVariants as outsides
use Rattle.parser_tree.specs.Node as node
use Rattle.parser_tree.specs.Node.{Name, Node, nodes}
use Rattle.parser_tokens.specs.Tokens.{first, behind, bytes_at, character_at, place_at}
use Rattle.parser_tokens.specs.declared.word.Word.{Word}
use Rattle.parser_tokens.specs.declared.word.Word.TheVariants as words
use Rattle.parser_ahead.specs.Primary.{primary_of, primary_at}
use Rattle.parser_ahead.specs.declared.primary.DoOwner.{DoOwner}
use Rattle.parser_ahead.specs.declared.primary.Place.{Place}
use Rattle.parser_ahead.specs.declared.primary.Primary.TheVariants as primaries
use Rattle.parser_nodes.specs.Leaf.{bare, outside_leaf, elements_from, leaf}
use Rattle.parser_forms.specs.Literals as literals
use Rattle.parser_forms.specs.Literals.{pieces_from, strings_from}
use Rattle.parser_forms.proofs.Turns.{pieces_step, strings_step}
use Rattle.parser_operands.specs.Operands.{compound, primary_by}
use Rattle.parser_forms.specs.Reading.{Names, Tokens, Inside}
use Rattle.rb_parser.specs.Levels.{levels}
use Rattle.parser_laws.specs.Rules.{Statements, Primary as PrimaryRule, Elements, Piece, Pieces, Quoted, Strings, stands_alone, ends_literal, begins_string}
use Rattle.parser_laws.proofs.Results.{differs}
use Rattle.parser_laws.proofs.Results.{not_true}
use Rattle.parser_laws.proofs.Heads.{head_opens}
use Rattle.parser_laws.proofs.Facts.{is_head, Fact, levels_at, word_taken, at_once}

-- the questions of the rules are those of the parser
pub same_ends : (w : Word) → literals.ends_literal w ≡ ends_literal w
same_ends words.LiteralEnd = refl
same_ends (words.Other outsides.QuotedLabel) = refl
same_ends w = refl

pub same_begins : (w : Word) → literals.begins_string w ≡ begins_string w
same_begins words.StringBegin = refl
same_begins words.Character = refl
same_begins w = refl

pub outside_alone : (o : Outside) (at : ℕ) → stands_alone o ≡ true → outside_leaf o at ≡ Some (bare o at)
outside_alone outsides.Ambiguous at h = differs (sym h)
outside_alone outsides.QuotedLabel at h = differs (sym h)
outside_alone o at h = refl

outside_piece_word : (o : Outside) → stands_alone o ≡ true → ends_literal (words.Other o) ≡ false
outside_piece_word outsides.QuotedLabel h = differs (sym h)
outside_piece_word o h = refl

-- a string is read as a text
text_at : (w : Word) (names : Names) (ts : Tokens) → begins_string w ≡ true → primary_of w names ts ≡ primaries.Text
text_at words.StringBegin names ts h = refl
text_at words.Character names ts h = refl
text_at w names ts h = differs (sym h)

string_head : (w : Word) → begins_string w ≡ true → is_head w ≡ true
string_head words.StringBegin h = refl
string_head words.Character h = refl
string_head w h = differs (sym h)

abbrev is_end : Word → Bool
is_end words.LiteralEnd = true
is_end _ = false

abbrev is_element_word : Word → Bool
is_element_word words.Element = true
is_element_word _ = false

elements_end : (ts : Tokens) → first ts ≡ words.LiteralEnd → (found : List Name)
    → elements_from found ts ≡ Some (found ++ [], behind ts)
unfolding elements_from first behind
elements_end [] is found = differs (sym (ap is_end is))
elements_end (t ∷ ts) is found = rw (is, append-nil found) refl

elements_more : (ts rest : Tokens) (xs : List Name) → first ts ≡ words.Element
    → ((found : List Name) → elements_from found (behind ts) ≡ Some (found ++ xs, rest)) → (found : List Name)
    → elements_from found ts ≡ Some (found ++ bytes_at ts ∷ xs, rest)
unfolding elements_from first behind bytes_at
elements_more [] rest xs is others found = differs (sym (ap is_element_word is))
elements_more (t ∷ ts) rest xs is others found =
    let more = others (found ++ bytes_at (t ∷ ts) ∷ []) in
    rw is (more ∙ ap (λ (all : List Name). Some (all, rest)) (append_assoc found (bytes_at (t ∷ ts) ∷ []) xs))

pub no_element : (names : Names) (ts : Tokens) → first ts ≡ words.LiteralEnd
    → Fact (Elements []) names ts names (behind ts)
no_element names ts is = (word_taken words.LiteralEnd ts is refl, refl, λ d room. elements_end ts is)

pub one_element : (names : Names) (ts rest : Tokens) (xs : List Name) → first ts ≡ words.Element
    → Fact (Elements xs) names (behind ts) names rest → Fact (Elements (bytes_at ts ∷ xs)) names ts names rest
one_element names ts rest xs is others =
    let one = word_taken words.Element ts is refl in
    let fewer = others.0 in
    (omega arith, refl, λ d room. elements_more ts rest xs is (others.2 d (omega arith)))

pub bytes_piece : (names : Names) (ts : Tokens) → first ts ≡ words.Piece
    → Fact (Piece (node.piece (bytes_at ts))) names ts names (behind ts)
bytes_piece names ts is = (word_taken words.Piece ts is refl, rw is refl, λ d room. rw is refl)

pub statements_piece : (names known : Names) (ts rest : Tokens) (n : Node) → first ts ≡ words.InterpolationBegin
    → Fact (Statements n) names (behind ts) known rest → first rest ≡ words.InterpolationEnd
    → Fact (Piece n) names ts known (behind rest)
statements_piece names known ts rest n is inner closing =
    let one = word_taken words.InterpolationBegin ts is refl in
    let last = word_taken words.InterpolationEnd rest closing refl in
    let fewer = inner.0 in (
      omega arith,
      rw is refl,
      λ d room.
          let below : (levels d).statements names (behind ts) ≡ Ok (n, known, rest) =
          ap (λ (i : Inside). i.statements names (behind ts)) (levels_at d (omega arith))
          ∙ inner.2 (d - 1) (omega arith) in
          rw (is, below, closing) refl,
    )

pub instance_variable_piece : (names : Names) (ts : Tokens) → first ts ≡ words.InstanceVariable
    → Fact (Piece (node.instance_variable (bytes_at ts))) names ts names (behind ts)
unfolding leaf
instance_variable_piece names ts is = (
  word_taken words.InstanceVariable ts is refl,
  rw is refl,
  λ d room. rw is (rw is refl),
)

pub global_variable_piece : (names : Names) (ts : Tokens) → first ts ≡ words.GlobalVariable
    → Fact (Piece (node.global_variable (bytes_at ts))) names ts names (behind ts)
unfolding leaf
global_variable_piece names ts is = (
  word_taken words.GlobalVariable ts is refl,
  rw is refl,
  λ d room. rw is (rw is refl),
)

pub outside_piece : (o : Outside) (names : Names) (ts : Tokens) → first ts ≡ words.Other o → stands_alone o ≡ true
    → Fact (Piece (bare o (place_at ts))) names ts names (behind ts)
unfolding leaf
outside_piece o names ts is alone = (
  word_taken (words.Other o) ts is refl,
  rw (is, outside_piece_word o alone) refl,
  λ d room. rw is (rw (is, outside_alone o (place_at ts) alone) refl),
)

pub non_ascii_piece : (names : Names) (ts : Tokens) → first ts ≡ words.Other outsides.NonAsciiName
    → Fact (Piece (bare outsides.NonAsciiName (place_at ts))) names ts names (behind ts)
unfolding leaf
non_ascii_piece names ts is = (
  word_taken (words.Other outsides.NonAsciiName) ts is refl,
  rw is refl,
  λ d room. rw is (rw is refl),
)

pub no_piece : (names : Names) (ts : Tokens) → ends_literal (first ts) ≡ true → Fact (Pieces []) names ts names ts
no_piece names ts ends =
    let stops : literals.ends_literal (first ts) ≡ true = same_ends (first ts) ∙ ends in (
      omega arith,
      refl,
      λ d room n found enough. pieces_step (levels d) n found names ts (omega arith)
          ∙ rw (stops, append-nil found) refl,
    )

pub one_piece : (names known later : Names) (ts rest more : Tokens) (n : Node) (ns : List Node)
    → Fact (Piece n) names ts known rest → Fact (Pieces ns) known rest later more
    → Fact (Pieces (n ∷ ns)) names ts later more
one_piece names known later ts rest more n ns one others =
    let l = one.0 in
    let r = others.0 in
    let goes_on : literals.ends_literal (first ts) ≡ false = same_ends (first ts)
    ∙ not_true (ends_literal (first ts)) one.1 in (
      omega arith,
      refl,
      λ d room m found enough.
          let here = one.2 d room in
          let tail : pieces_from (levels d) (m - 1) (found ++ n ∷ []) known rest ≡ Ok
          ((found ++ n ∷ []) ++ ns, later, more) =
          others.2 d (omega arith) (m - 1) (found ++ n ∷ []) (omega arith) in
          pieces_step (levels d) m found names ts (omega arith)
          ∙ rw (goes_on, here) (tail ∙ ap (λ (all : List Node). Ok (all, later, more))
          (append_assoc found (n ∷ []) ns)),
    )

pub string_literal : (names known : Names) (ts rest : Tokens) (ns : List Node) → first ts ≡ words.StringBegin
    → Fact (Pieces ns) names (behind ts) known rest → first rest ≡ words.LiteralEnd
    → Fact (Quoted ns) names ts known (behind rest)
string_literal names known ts rest ns is inner closing =
    let one = word_taken words.StringBegin ts is refl in
    let last = word_taken words.LiteralEnd rest closing refl in
    let fewer = inner.0 in (
      omega arith,
      rw is refl,
      λ d room found.
          let read : pieces_from (levels d) (length (behind ts) + 1) found names (behind ts) ≡ Ok
          (found ++ ns, known, rest) = inner.2 d (omega arith) (length (behind ts) + 1) found (omega arith) in
          rw (is, read, closing) refl,
    )

pub character_literal : (names : Names) (ts : Tokens) → first ts ≡ words.Character
    → Fact (Quoted (node.piece (character_at ts ∷ []) ∷ [])) names ts names (behind ts)
character_literal names ts is = (word_taken words.Character ts is refl, rw is refl, λ d room found. rw is refl)

pub last_string : (names known : Names) (ts rest : Tokens) (ns : List Node) → Fact (Quoted ns) names ts known rest
    → begins_string (first rest) ≡ false → Fact (Strings ns) names ts known rest
last_string names known ts rest ns one none =
    let l = one.0 in
    let stops : literals.begins_string (first rest) ≡ false = same_begins (first rest) ∙ none in (
      l,
      one.1,
      λ d room found. (
        found ++ ns,
        known,
        rest,
        l,
        one.2 d room found,
        λ n enough. strings_step (levels d) n (found ++ ns) known rest (omega arith) ∙ rw stops refl,
      ),
    )

pub next_string : (names known later : Names) (ts rest more : Tokens) (ns ms : List Node)
    → Fact (Quoted ns) names ts known rest → Fact (Strings ms) known rest later more
    → Fact (Strings (ns ++ ms)) names ts later more
next_string names known later ts rest more ns ms one others =
    let l = one.0 in
    let r = others.0 in
    let goes_on : literals.begins_string (first rest) ≡ true = same_begins (first rest) ∙ others.1 in (
      omega arith,
      one.1,
      λ d room found.
          let s = others.2 d (omega arith) (found ++ ns) in
          let shorter = s.3 in (
            found ++ ns,
            known,
            rest,
            l,
            one.2 d room found,
            λ n enough.
                strings_step (levels d) n (found ++ ns) known rest (omega arith)
                ∙ rw (goes_on, s.4) (s.5 (n - 1) (omega arith)
                ∙ ap (λ (all : List Node). Ok (all, later, more)) (append_assoc found ns ms)),
          ),
    )

module _ (place : Place) (owner : DoOwner) (names : Names) (ts : Tokens) where
  pub word_list : (rest : Tokens) (xs : List Name) → first ts ≡ words.WordsBegin
      → Fact (Elements xs) names (behind ts) names rest
      → Fact (PrimaryRule place owner (node.words xs)) names ts names rest
  unfolding primary_at primary_by compound leaf
  word_list rest xs is inner =
      let one = word_taken words.WordsBegin ts is refl in
      let fewer = inner.0 in (
        omega arith,
        rw is refl,
        λ d room. at_once (levels d) place owner names names ts rest (node.words xs) (
            let read : elements_from [] (behind ts) ≡ Some (xs, rest) = inner.2 d (omega arith) [] in
            rw is (rw (is, read) refl)),
      )

  pub symbol_list : (rest : Tokens) (xs : List Name) → first ts ≡ words.SymbolsBegin
      → Fact (Elements xs) names (behind ts) names rest
      → Fact (PrimaryRule place owner (node.symbols xs)) names ts names rest
  unfolding primary_at primary_by compound leaf
  symbol_list rest xs is inner =
      let one = word_taken words.SymbolsBegin ts is refl in
      let fewer = inner.0 in (
        omega arith,
        rw is refl,
        λ d room. at_once (levels d) place owner names names ts rest (node.symbols xs) (
            let read : elements_from [] (behind ts) ≡ Some (xs, rest) = inner.2 d (omega arith) [] in
            rw is (rw (is, read) refl)),
      )

  pub text : (known : Names) (rest : Tokens) (ns : List Node) → Fact (Strings ns) names ts known rest
      → Fact (PrimaryRule place owner (node.text (nodes ns))) names ts known rest
  unfolding primary_at primary_by compound
  text known rest ns inner = (
    inner.0,
    head_opens ts (string_head (first ts) inner.1),
    λ d room. at_once (levels d) place owner names known ts rest (node.text (nodes ns)) (
        let there : primary_of (first ts) names ts ≡ primaries.Text = text_at (first ts) names ts inner.1 in
        let s = inner.2 d room [] in
        let all : strings_from (levels d) (length s.2 + 1) s.0 s.1 s.2 ≡ Ok (ns, known, rest) =
        s.5 (length s.2 + 1) (omega arith) in
        rw there (rw (s.4, all) refl)),
  )

  pub quoted_symbol : (known : Names) (rest : Tokens) (ns : List Node) → first ts ≡ words.SymbolBegin
      → Fact (Pieces ns) names (behind ts) known rest → first rest ≡ words.LiteralEnd
      → Fact (PrimaryRule place owner (node.symbol_text (nodes ns))) names ts known (behind rest)
  unfolding primary_at primary_by compound
  quoted_symbol known rest ns is inner closing =
      let one = word_taken words.SymbolBegin ts is refl in
      let last = word_taken words.LiteralEnd rest closing refl in
      let fewer = inner.0 in (
        omega arith,
        rw is refl,
        λ d room. at_once (levels d) place owner names known ts (behind rest) (node.symbol_text (nodes ns)) (
            let read : pieces_from (levels d) (length (behind ts) + 1) [] names (behind ts) ≡ Ok (ns, known, rest) =
            inner.2 d (omega arith) (length (behind ts) + 1) [] (omega arith) in
            rw (is, read, closing) refl),
      )
