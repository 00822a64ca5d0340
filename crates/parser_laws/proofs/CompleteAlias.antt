-- alias, undef, BEGIN and END that are derived are read.
use Rattle.std.proofs.Common.{◌≡◌, ℕ, ◌-◌, ◌<◌, true, false, ◌&&◌, List, [], ◌∷◌, ◌++◌, length, Ok, refl, sym, ap, ◌∙◌, arith}
use Rattle.std.proofs.lemmas.List.{append_assoc}
use Rattle.rb_syntax.specs.declared.keyword.Keyword.TheVariants as keywords
use Rattle.rb_syntax.specs.declared.outside.Outside.{Outside}
use Rattle.rb_syntax.specs.declared.outside.Outside.TheVariants as outsides
use Rattle.rb_syntax.specs.declared.punctuator.Punctuator.TheVariants as marks
use Rattle.parser_tree.specs.Node as node
use Rattle.parser_tree.specs.Node.{Name, Node}
use Rattle.parser_tokens.specs.Tokens.{first, behind, bytes_at, place_at}
use Rattle.parser_tokens.specs.declared.word.Word.{Word}
use Rattle.parser_tokens.specs.declared.word.Word.TheVariants as words
use Rattle.parser_tokens.proofs.Front.{behind_shorter}
use Rattle.parser_ahead.specs.Primary.{is_comma_word, is_method_word}
use Rattle.parser_nodes.specs.Nodes.{outside_node}
use Rattle.parser_form_nodes.specs.Definitions.{is_global, global_alias, undef_from}
use Rattle.parser_statements.specs.Statements.{braced, base_by, statements}
use Rattle.parser_forms.specs.Reading.{Names, Tokens, Inside}
use Rattle.rb_parser.specs.Levels.{levels}
use Rattle.parser_laws.specs.Rules.{Base, MethodNames, Statements}
use Rattle.parser_laws.proofs.Results.{clash}
use Rattle.parser_laws.proofs.Facts.{Fact, levels_at, word_taken, behind_within}

differs : {A : Type 0} → true ≡ false → A
differs h = absurd (cc)

no_global : (w : Word) → is_method_word w ≡ true → is_global w ≡ false
no_global words.GlobalVariable h = differs (sym h)
no_global (words.Other o) h = differs (sym h)
no_global w h = refl

pub alias_fact : (names : Names) (ts : Tokens) → first ts ≡ words.Key keywords.Alias
    → is_method_word (first (behind ts)) ≡ true → is_method_word (first (behind (behind ts))) ≡ true
    → Fact (Base (node.alias_node (bytes_at (behind ts)) (bytes_at (behind (behind ts))))) names ts names
    (behind (behind (behind ts)))
unfolding base_by
alias_fact names ts is new old =
    let one = word_taken (words.Key keywords.Alias) ts is refl in
    let two = behind_within (behind ts) in
    let three = behind_within (behind (behind ts)) in
    let local_names : (is_global (first (behind ts)) && is_global (first (behind (behind ts)))) ≡ false =
    rw (no_global (first (behind ts)) new) refl in
    (omega arith, refl, λ d room none. rw is (rw (local_names, new, old) refl))

pub global_alias_fact : (names : Names) (ts : Tokens) → first ts ≡ words.Key keywords.Alias
    → is_global (first (behind ts)) ≡ true → is_global (first (behind (behind ts))) ≡ true
    → Fact (Base (global_alias (place_at ts))) names ts names (behind (behind (behind ts)))
unfolding base_by
global_alias_fact names ts is new old =
    let one = word_taken (words.Key keywords.Alias) ts is refl in
    let two = behind_within (behind ts) in
    let three = behind_within (behind (behind ts)) in
    (omega arith, refl, λ d room none. rw is (rw (new, old) refl))

-- the last name, and one with a comma behind it
undef_last : (found : List Name) (ts : Tokens) → is_method_word (first ts) ≡ true
    → is_comma_word (first (behind ts)) ≡ false
    → undef_from found ts ≡ Ok (node.undef_node (found ++ bytes_at ts ∷ []), behind ts)
unfolding undef_from first behind bytes_at
undef_last found [] h c = differs (sym h)
undef_last found (t ∷ []) h c = rw h refl
undef_last found (t ∷ u ∷ ts) h c = rw (h, c) refl

undef_more : (found : List Name) (ts : Tokens) → is_method_word (first ts) ≡ true
    → is_comma_word (first (behind ts)) ≡ true
    → undef_from found ts ≡ undef_from (found ++ bytes_at ts ∷ []) (behind (behind ts))
unfolding undef_from first behind bytes_at
undef_more found [] h c = differs (sym h)
undef_more found (t ∷ []) h c = differs (sym c)
undef_more found (t ∷ u ∷ ts) h c = rw (h, c) refl

name_shorter : (ts : Tokens) → is_method_word (first ts) ≡ true → length (behind ts) < length ts
name_shorter ts h = behind_shorter ts (λ (e : first ts ≡ words.Finish). clash (is_method_word (first ts)) h
    (ap is_method_word e))

pub last_method_name : (names : Names) (ts : Tokens) → is_method_word (first ts) ≡ true
    → is_comma_word (first (behind ts)) ≡ false → Fact (MethodNames (bytes_at ts ∷ [])) names ts names (behind ts)
last_method_name names ts h c = (name_shorter ts h, refl, λ d room. (refl, λ found. undef_last found ts h c))

pub more_method_names : (names known : Names) (ts rest : Tokens) (xs : List Name) → is_method_word (first ts) ≡ true
    → is_comma_word (first (behind ts)) ≡ true
    → Fact (MethodNames xs) names (behind (behind ts)) known rest
    → Fact (MethodNames (bytes_at ts ∷ xs)) names ts known rest
more_method_names names known ts rest xs h c inner =
    let one = name_shorter ts h in
    let two = behind_within (behind ts) in
    let fewer = inner.0 in (
      omega arith,
      refl,
      λ d room.
          let r = inner.2 d (omega arith) in (
            r.0,
            λ found. undef_more found ts h c ∙ r.1 (found ++ bytes_at ts ∷ [])
                ∙ ap (λ (ys : List Name). Ok (node.undef_node ys, rest)) (append_assoc found (bytes_at ts ∷ []) xs),
          ),
    )

pub undef_fact : (names known : Names) (ts rest : Tokens) (xs : List Name) → first ts ≡ words.Key keywords.Undef
    → Fact (MethodNames xs) names (behind ts) known rest → Fact (Base (node.undef_node xs)) names ts known rest
unfolding base_by
undef_fact names known ts rest xs is inner =
    let one = word_taken (words.Key keywords.Undef) ts is refl in
    let fewer = inner.0 in (
      omega arith,
      refl,
      λ d room none.
          let r = inner.2 d (omega arith) in
          let read : undef_from [] (behind ts) ≡ Ok (node.undef_node xs, rest) = r.1 [] in
          rw is (rw (read, r.0) refl),
    )

-- statements in braces
braced_read : (d : ℕ) (o : Outside) (at : ℕ) (n : Node) (names known : Names) (ts rest : Tokens) → 0 < d
    → first ts ≡ words.Mark marks.OpenBrace → statements (levels (d - 1)) names (behind ts) ≡ Ok (n, known, rest)
    → first rest ≡ words.Mark marks.CloseBrace
    → braced (levels d) o at names ts ≡ Ok (outside_node o at n, known, behind rest)
braced_read d o at n names known ts rest some opens read closes =
    let below : (levels d).statements names (behind ts) ≡ Ok (n, known, rest) =
    ap (λ (i : Inside). i.statements names (behind ts)) (levels_at d some) ∙ read in
    rw opens (rw (below, closes) refl)

pub begin_block : (names known : Names) (ts rest : Tokens) (n : Node) → first ts ≡ words.Key keywords.BeginBlock
    → first (behind ts) ≡ words.Mark marks.OpenBrace → Fact (Statements n) names (behind (behind ts)) known rest
    → first rest ≡ words.Mark marks.CloseBrace
    → Fact (Base (outside_node outsides.BeginBlock (place_at ts) n)) names ts known (behind rest)
unfolding base_by
begin_block names known ts rest n is opens inner closes =
    let one = word_taken (words.Key keywords.BeginBlock) ts is refl in
    let two = word_taken (words.Mark marks.OpenBrace) (behind ts) opens refl in
    let last = word_taken (words.Mark marks.CloseBrace) rest closes refl in
    let fewer = inner.0 in (
      omega arith,
      refl,
      λ d room none. rw is (braced_read d outsides.BeginBlock (place_at ts) n names known (behind ts)
          rest (omega arith) opens (inner.2 (d - 1) (omega arith)) closes),
    )

pub end_block : (names known : Names) (ts rest : Tokens) (n : Node) → first ts ≡ words.Key keywords.EndBlock
    → first (behind ts) ≡ words.Mark marks.OpenBrace → Fact (Statements n) names (behind (behind ts)) known rest
    → first rest ≡ words.Mark marks.CloseBrace
    → Fact (Base (outside_node outsides.EndBlock (place_at ts) n)) names ts known (behind rest)
unfolding base_by
end_block names known ts rest n is opens inner closes =
    let one = word_taken (words.Key keywords.EndBlock) ts is refl in
    let two = word_taken (words.Mark marks.OpenBrace) (behind ts) opens refl in
    let last = word_taken (words.Mark marks.CloseBrace) rest closes refl in
    let fewer = inner.0 in (
      omega arith,
      refl,
      λ d room none. rw is (braced_read d outsides.EndBlock (place_at ts) n names known (behind ts)
          rest (omega arith) opens (inner.2 (d - 1) (omega arith)) closes),
    )
