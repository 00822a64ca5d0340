-- Literals with pieces that are read as expressions are derived.
use Rattle.std.proofs.Common.{◌≡◌, ℕ, zero, suc, ◌+◌, Bool, true, false, List, [], ◌∷◌, ◌++◌, length, Ok, Err, if◌then◌else◌, refl, sym, ap, subst, ◌∙◌}
use Rattle.std.proofs.lemmas.Bool.{and_parts}
use Rattle.std.proofs.lemmas.List.{append_assoc, append-nil}
use Rattle.rb_syntax.specs.declared.keyword.Keyword.{Keyword}
use Rattle.rb_syntax.specs.declared.keyword.Keyword.TheVariants as keywords
use Rattle.rb_syntax.specs.declared.outside.Outside.{Outside}
use Rattle.rb_syntax.specs.declared.outside.Outside.TheVariants as outsides
use Rattle.parser_tree.specs.Node as node
use Rattle.parser_tree.specs.Node.{Node, nodes}
use Rattle.parser_tokens.specs.Tokens.{first, behind, bytes_at, character_at}
use Rattle.parser_tokens.specs.Expect.{expect, is_wanted}
use Rattle.parser_tokens.specs.declared.expect.Wanted.TheVariants as wanted
use Rattle.parser_tokens.specs.declared.word.Word.{Word}
use Rattle.parser_tokens.specs.declared.word.Word.TheVariants as words
use Rattle.parser_ahead.specs.declared.primary.DoOwner.{DoOwner}
use Rattle.parser_ahead.specs.declared.primary.Place.{Place}
use Rattle.parser_nodes.specs.Leaf.{leaf}
use Rattle.parser_forms.specs.Literals as literals
use Rattle.parser_forms.specs.Literals.{is_literal_end, is_character, with_character, leaf_piece, piece_at, piece, next_piece, pieces_from, pieces, string, strings_from, strings}
use Rattle.parser_operands.specs.Operands.{text, quoted_symbol}
use Rattle.parser_forms.specs.Reading.{Names, Tokens, Read, Inside}
use Rattle.rb_base.specs.Result.{◌>>=◌}
use Rattle.parser_laws.specs.Rules.{Primary as PrimaryRule, Piece, Pieces, Quoted, Strings, begins_string}
use Rattle.parser_laws.specs.Derives.{Derives, BytesPiece, StatementsPiece, InstanceVariablePiece, GlobalVariablePiece, NoPiece, OnePiece, StringLiteral, CharacterLiteral, LastString, NextString, Text, QuotedSymbol}
use Rattle.parser_laws.specs.Expressions.{is_expression, is_piece, are_pieces}
use Rattle.parser_laws.proofs.Results.{bind_ok, then_ok, read_same, ok_is, or_else, carry, clash, differs, err_is_none}
use Rattle.parser_laws.proofs.ExpressionParts.{piece_is, pieces_parts}
use Rattle.parser_laws.proofs.CompleteLiterals.{same_ends, same_begins}
use Rattle.parser_laws.proofs.WholeLiterals.{no_key}
use Rattle.parser_laws.proofs.Sound.{IsSound}

interpolation_key : (k : Keyword) → is_wanted wanted.InterpolationEnd (words.Key k) ≡ true → ⊥
interpolation_key keywords.End h = cc
interpolation_key k h = cc

an_interpolation_end : (w : Word) → is_wanted wanted.InterpolationEnd w ≡ true → w ≡ words.InterpolationEnd
an_interpolation_end words.InterpolationEnd h = refl
an_interpolation_end (words.Key k) h = absurd (interpolation_key k h)
an_interpolation_end w h = absurd (cc)

a_literal_end : (w : Word) → is_literal_end w ≡ true → w ≡ words.LiteralEnd
a_literal_end words.LiteralEnd h = refl
a_literal_end w h = differs (sym h)

a_character : (w : Word) → is_character w ≡ true → w ≡ words.Character
a_character words.Character h = refl
a_character w h = differs (sym h)

a_string : (w : Word) → begins_string w ≡ true → is_character w ≡ false → w ≡ words.StringBegin
a_string words.StringBegin h other = refl
a_string words.Character h other = differs other
a_string w h other = differs (sym h)

module _ (i : Inside) (sound : IsSound i) where
  module _ (names : Names) (ts : Tokens) where
    abbrev SoundPiece : Node → Names → Tokens → Type 0
    SoundPiece n known rest = Derives (Piece n) names ts known rest

    abbrev Goal : Read Node → Type 0
    Goal read = (n : Node) (known : Names) (rest : Tokens) → read ≡ Ok (n, known, rest) → is_piece n ≡ true
        → SoundPiece n known rest

    goal_ok : (n : Node) (known : Names) (rest : Tokens) → SoundPiece n known rest → Goal (Ok (n, known, rest))
    goal_ok n known rest derived m later more h is = carry SoundPiece n m known later rest more h derived

    goal_none : (n : Node) (known : Names) (rest : Tokens) → is_piece n ≡ false → Goal (Ok (n, known, rest))
    goal_none n known rest other m later more h is =
        clash (is_piece n) (subst (λ x. is_piece x ≡ true) (sym (read_same n m known later rest more h).0) is) other

    goal_error : (e : ℕ) → Goal (Err e)
    goal_error e m later more h is = err_is_none e (m, later, more) h

    by_statements : first ts ≡ words.InterpolationBegin → Goal (piece_at i words.InterpolationBegin names ts)
    by_statements begins n known rest h is =
        let r = bind_ok (i.statements names (behind ts)) _ (n, known, rest) h in
        let x = bind_ok (expect wanted.InterpolationEnd r.0.2) _ (n, known, rest) r.2 in
        let c = then_ok (is_wanted wanted.InterpolationEnd (first r.0.2)) (Ok (behind r.0.2)) (length r.0.2) x.0 x.1 in
        let e = read_same r.0.0 n r.0.1 known x.0 rest x.2 in
        let there : is_piece r.0.0 ≡ true = subst (λ m. is_piece m ≡ true) (sym e.0) is in
        let whole = piece_is r.0.0 (sound.grouped names r.0.1 (behind ts) r.0.2 r.0.0 r.1) there in
        let inner = sound.statements names r.0.1 (behind ts) r.0.2 r.0.0 r.1 whole in
        let closing = StatementsPiece names r.0.1 ts r.0.2 r.0.0 begins inner (an_interpolation_end (first r.0.2) c.0)
        in
        let last : behind r.0.2 ≡ x.0 = ok_is c.1 in
        carry SoundPiece r.0.0 n r.0.1 known x.0 rest x.2
        (subst (λ left. Derives (Piece r.0.0) names ts r.0.1 left) last closing)

    by_outside : (o : Outside) → first ts ≡ words.Other o → Goal (leaf_piece (leaf ts) names ts)
    unfolding leaf
    by_outside outsides.Ambiguous is = rw is (goal_error (length ts))
    by_outside outsides.QuotedLabel is = rw is (goal_error (length ts))
    by_outside o is = rw is (goal_none _ names _ refl)

    by_word : (w : Word) → first ts ≡ w → Goal (piece_at i w names ts)
    unfolding leaf
    by_word words.Piece is = goal_ok (node.piece (bytes_at ts)) names (behind ts) (BytesPiece names ts is)
    by_word words.InterpolationBegin is = by_statements is
    by_word words.InstanceVariable is = rw is
        (goal_ok (node.instance_variable (bytes_at ts)) names (behind ts) (InstanceVariablePiece names ts is))
    by_word words.GlobalVariable is = rw is (goal_ok (node.global_variable (bytes_at ts)) names (behind ts)
        (GlobalVariablePiece names ts is))
    by_word (words.Other o) is = by_outside o is
    by_word w is = goal_error (length ts)

    piece_sound : Goal (piece i names ts)
    piece_sound = by_word (first ts) refl

  -- the pieces behind those that were found
  abbrev PiecesBehind : List Node → Names → Tokens → List Node → Names → Tokens → Type 0
  PiecesBehind found names ts all known rest = (ns : List Node) × (all ≡ found ++ ns)
      × (are_pieces (nodes ns) ≡ true → Derives (Pieces ns) names ts known rest)

  by_end : (n : ℕ) (b : Bool) (found : List Node) (names : Names) (ts : Tokens) (all : List Node) (known : Names)
      (rest : Tokens) → literals.ends_literal (first ts) ≡ b
      → ((more : List Node) (k : Names) (m : Tokens) → pieces_from i n more k m ≡ Ok (all, known, rest)
      → PiecesBehind more k m all known rest)
      → (if b then Ok (found, names, ts) else (next_piece i found names ts >>= (λ r. pieces_from i n r.0 r.1 r.2))) ≡ Ok
      (all, known, rest) → PiecesBehind found names ts all known rest
  by_end n true found names ts all known rest there again h =
      let e = read_same found all names known ts rest h in (
        [],
        sym e.0 ∙ sym (append-nil found),
        λ is. carry (λ (ns : List Node) (k : Names) (m : Tokens). Derives (Pieces []) names ts k m) found all names
            known ts rest h (NoPiece names ts (sym (same_ends (first ts)) ∙ there)),
      )
  by_end n false found names ts all known rest there again h =
      let r = bind_ok (next_piece i found names ts) _ (all, known, rest) h in
      let p = bind_ok (piece i names ts) (λ q. Ok (found ++ q.0 ∷ [], q.1, q.2)) r.0 r.1 in
      let e : (found ++ p.0.0 ∷ [], p.0.1, p.0.2) ≡ r.0 = ap (or_else (found ++ p.0.0 ∷ [], p.0.1, p.0.2)) p.2 in
      let tail : pieces_from i n (found ++ p.0.0 ∷ []) p.0.1 p.0.2 ≡ Ok (all, known, rest) =
      subst (λ q. pieces_from i n q.0 q.1 q.2 ≡ Ok (all, known, rest)) (sym e) r.2 in
      let l = again (found ++ p.0.0 ∷ []) p.0.1 p.0.2 tail in (
        p.0.0 ∷ l.0,
        l.1 ∙ append_assoc found (p.0.0 ∷ []) l.0,
        λ is.
            let parts = and_parts (is_piece p.0.0) (are_pieces (nodes l.0)) is in
            OnePiece names p.0.1 known ts p.0.2 rest p.0.0 l.0 (piece_sound names ts p.0.0 p.0.1 p.0.2 p.1 parts.0)
            (l.2 parts.1),
      )

  pieces_behind : (n : ℕ) (found : List Node) (names : Names) (ts : Tokens) (all : List Node) (known : Names)
      (rest : Tokens) → pieces_from i n found names ts ≡ Ok (all, known, rest)
      → PiecesBehind found names ts all known rest
  unfolding pieces_from
  pieces_behind zero found names ts all known rest h = err_is_none 0 (all, known, rest) h
  pieces_behind (suc n) found names ts all known rest h =
      by_end n (literals.ends_literal (first ts)) found names ts all known rest refl
      (λ more k m e. pieces_behind n more k m all known rest e) h

  -- a string behind the pieces that were found
  abbrev StringBehind : List Node → Names → Tokens → List Node → Names → Tokens → Type 0
  StringBehind found names ts all known rest = (ns : List Node) × (all ≡ found ++ ns)
      × (are_pieces (nodes ns) ≡ true → Derives (Quoted ns) names ts known rest)

  abbrev character_or_pieces : Bool → List Node → Names → Tokens → Read (List Node)
  character_or_pieces character found names ts =
      if character then Ok (with_character found ts, names, behind ts)
      else (pieces i found names (behind ts) >>=
      (λ r. if is_literal_end (first r.2) then Ok (r.0, r.1, behind r.2) else Err (length r.2)))

  by_character : (b : Bool) (found : List Node) (names : Names) (ts : Tokens) (all : List Node) (known : Names)
      (rest : Tokens) → begins_string (first ts) ≡ true → is_character (first ts) ≡ b
      → character_or_pieces b found names ts ≡ Ok (all, known, rest) → StringBehind found names ts all known rest
  by_character true found names ts all known rest begins there h =
      let e = read_same (with_character found ts) all names known (behind ts) rest h in
      let d = CharacterLiteral names ts (a_character (first ts) there) in (
        node.piece (character_at ts ∷ []) ∷ [],
        sym e.0,
        λ is. carry (λ (ns : List Node) (k : Names) (m : Tokens). Derives
            (Quoted (node.piece (character_at ts ∷ []) ∷ [])) names ts k m) (with_character found ts) all names known
            (behind ts) rest h d,
      )
  by_character false found names ts all known rest begins there h =
      let r = bind_ok (pieces i found names (behind ts)) _ (all, known, rest) h in
      let c = then_ok (is_literal_end (first r.0.2)) (Ok (r.0.0, r.0.1, behind r.0.2)) (length r.0.2) (all, known, rest)
      r.2 in
      let e = read_same r.0.0 all r.0.1 known (behind r.0.2) rest c.1 in
      let l = pieces_behind (length (behind ts) + 1) found names (behind ts) r.0.0 r.0.1 r.0.2 r.1 in (
        l.0,
        sym e.0 ∙ l.1,
        λ is.
            let d = StringLiteral names r.0.1 ts r.0.2 l.0 (a_string (first ts) begins there) (l.2 is)
            (a_literal_end (first r.0.2) c.0) in
            carry (λ (ns : List Node) (k : Names) (m : Tokens). Derives (Quoted l.0) names ts k m) r.0.0 all r.0.1 known
            (behind r.0.2) rest c.1 d,
      )

  string_behind : (found : List Node) (names : Names) (ts : Tokens) (all : List Node) (known : Names) (rest : Tokens)
      → begins_string (first ts) ≡ true → string i found names ts ≡ Ok (all, known, rest)
      → StringBehind found names ts all known rest
  string_behind found names ts all known rest begins h =
      by_character (is_character (first ts)) found names ts all known rest begins refl h

  -- the strings beside one that was read before them
  abbrev Beside : List Node → Names → Tokens → List Node → Names → Tokens → Type 0
  Beside found names ts all known rest =
      (ns : List Node) × (all ≡ found ++ ns)
      × (are_pieces (nodes ns) ≡ true → (before : Names) (start : Tokens) (qs : List Node)
      → Derives (Quoted qs) before start names ts → Derives (Strings (qs ++ ns)) before start known rest)

  by_begin : (n : ℕ) (b : Bool) (found : List Node) (names : Names) (ts : Tokens) (all : List Node) (known : Names)
      (rest : Tokens) → literals.begins_string (first ts) ≡ b
      → ((more : List Node) (k : Names) (m : Tokens) → strings_from i n more k m ≡ Ok (all, known, rest)
      → Beside more k m all known rest)
      → (if b then (string i found names ts >>= (λ r. strings_from i n r.0 r.1 r.2)) else Ok (found, names, ts)) ≡ Ok
      (all, known, rest) → Beside found names ts all known rest
  by_begin n true found names ts all known rest there again h =
      let r = bind_ok (string i found names ts) _ (all, known, rest) h in
      let s = string_behind found names ts r.0.0 r.0.1 r.0.2 (sym (same_begins (first ts)) ∙ there) r.1 in
      let l = again r.0.0 r.0.1 r.0.2 r.2 in (
        s.0 ++ l.0,
        l.1 ∙ ap (λ (ns : List Node). ns ++ l.0) s.1 ∙ append_assoc found s.0 l.0,
        λ is before start qs quoted.
            let parts = pieces_parts s.0 l.0 is in
            NextString before names known start ts rest qs (s.0 ++ l.0) quoted (l.2 parts.1 names ts s.0 (s.2 parts.0)),
      )
  by_begin n false found names ts all known rest there again h =
      let e = read_same found all names known ts rest h in (
        [],
        sym e.0 ∙ sym (append-nil found),
        λ is before start qs quoted.
            let d = LastString before names start ts qs quoted (sym (same_begins (first ts)) ∙ there) in
            let same : Derives (Strings (qs ++ [])) before start names ts =
            subst (λ (ns : List Node). Derives (Strings ns) before start names ts) (sym (append-nil qs)) d in
            carry (λ (ns : List Node) (k : Names) (m : Tokens). Derives (Strings (qs ++ [])) before start k m) found all
            names known ts rest h same,
      )

  strings_beside : (n : ℕ) (found : List Node) (names : Names) (ts : Tokens) (all : List Node) (known : Names)
      (rest : Tokens) → strings_from i n found names ts ≡ Ok (all, known, rest) → Beside found names ts all known rest
  unfolding strings_from
  strings_beside zero found names ts all known rest h = err_is_none 0 (all, known, rest) h
  strings_beside (suc n) found names ts all known rest h =
      by_begin n (literals.begins_string (first ts)) found names ts all known rest refl
      (λ more k m e. strings_beside n more k m all known rest e) h

  module _ (place : Place) (owner : DoOwner) (names : Names) (ts : Tokens) where
    abbrev Sound : Node → Names → Tokens → Type 0
    Sound n known rest = Derives (PrimaryRule place owner n) names ts known rest

    -- a string with those beside it
    together : (found : List Node) (k : Names) (m : Tokens) (all : List Node) (known : Names) (rest : Tokens)
        → StringBehind [] names ts found k m → Beside found k m all known rest → are_pieces (nodes all) ≡ true
        → Sound (node.text (nodes all)) known rest
    together found k m all known rest (ns, found_is, quoted_of) (ms, all_is, strings_of) is =
        let same : all ≡ ns ++ ms = all_is ∙ ap (λ (xs : List Node). xs ++ ms) found_is in
        let parts = pieces_parts ns ms (subst (λ (xs : List Node). are_pieces (nodes xs) ≡ true) same is) in
        let quoted = quoted_of parts.0 in
        let d = Text place owner names known ts rest (ns ++ ms) (no_key names k ts m ns quoted parts.0)
        (strings_of parts.1 names ts ns quoted) in
        subst (λ (xs : List Node). Sound (node.text (nodes xs)) known rest) (sym same) d

    pub text_sound : begins_string (first ts) ≡ true → (n : Node) (known : Names) (rest : Tokens)
        → text i names ts ≡ Ok (n, known, rest) → is_expression n ≡ true → Sound n known rest
    text_sound begins n known rest h is =
        let f = bind_ok (string i [] names ts) _ (n, known, rest) h in
        let s = bind_ok (strings i f.0.0 f.0.1 f.0.2) _ (n, known, rest) f.2 in
        let e = read_same (node.text (nodes s.0.0)) n s.0.1 known s.0.2 rest s.2 in
        let one = string_behind [] names ts f.0.0 f.0.1 f.0.2 begins f.1 in
        let whole : are_pieces (nodes s.0.0) ≡ true = subst (λ m. is_expression m ≡ true) (sym e.0) is in
        let others = strings_beside (length f.0.2 + 1) f.0.0 f.0.1 f.0.2 s.0.0 s.0.1 s.0.2 s.1 in
        carry Sound (node.text (nodes s.0.0)) n s.0.1 known s.0.2 rest s.2
        (together f.0.0 f.0.1 f.0.2 s.0.0 s.0.1 s.0.2 one others whole)

    pub symbol_sound : first ts ≡ words.SymbolBegin → (n : Node) (known : Names) (rest : Tokens)
        → quoted_symbol i names (behind ts) ≡ Ok (n, known, rest) → is_expression n ≡ true → Sound n known rest
    symbol_sound begins n known rest h is =
        let r = bind_ok (pieces i [] names (behind ts)) _ (n, known, rest) h in
        let c = then_ok (is_literal_end (first r.0.2)) (Ok (node.symbol_text (nodes r.0.0), r.0.1, behind r.0.2))
        (length r.0.2) (n, known, rest) r.2 in
        let e = read_same (node.symbol_text (nodes r.0.0)) n r.0.1 known (behind r.0.2) rest c.1 in
        let l = pieces_behind (length (behind ts) + 1) [] names (behind ts) r.0.0 r.0.1 r.0.2 r.1 in
        let all : r.0.0 ≡ l.0 = l.1 in
        let whole : are_pieces (nodes r.0.0) ≡ true = subst (λ m. is_expression m ≡ true) (sym e.0) is in
        let d = QuotedSymbol place owner names r.0.1 ts r.0.2 l.0 begins
        (l.2 (subst (λ (ns : List Node). are_pieces (nodes ns) ≡ true) all whole)) (a_literal_end (first r.0.2) c.0)
        in
        carry Sound (node.symbol_text (nodes r.0.0)) n r.0.1 known (behind r.0.2) rest c.1
        (subst (λ (ns : List Node). Sound (node.symbol_text (nodes ns)) r.0.1 (behind r.0.2)) (sym all) d)
