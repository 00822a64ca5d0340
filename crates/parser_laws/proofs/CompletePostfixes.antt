-- Values with commas between them, and postfixes, that are derived are read.
use Rattle.std.proofs.Common.{◌≡◌, ℕ, ◌+◌, ◌-◌, ◌<◌, ◌≤◌, Bool, true, false, ◌&&◌, List, [], ◌∷◌, ◌++◌, length, map, Some, None, is_some, Ok, refl, sym, ap, subst, ◌∙◌, arith}
use Rattle.rb_syntax.specs.declared.core_form.Item.TheVariants.{Plain}
use Rattle.rb_syntax.specs.declared.punctuator.Punctuator.TheVariants as marks
use Rattle.parser_tree.specs.Node as node
use Rattle.parser_tree.specs.Node.{Node, Nodes, nodes}
use Rattle.parser_tokens.specs.Tokens.{first, behind, bytes_at, skip_if}
use Rattle.parser_tokens.specs.Expect.{skip_newlines}
use Rattle.parser_tokens.specs.Operators.{assignment_at}
use Rattle.parser_tokens.specs.Starts.{begins_value, begins_argument, opens_arguments, postfix_at}
use Rattle.parser_tokens.specs.declared.starts.Postfix.{Postfix}
use Rattle.parser_tokens.specs.declared.starts.Postfix.TheVariants as postfixes
use Rattle.parser_tokens.specs.declared.word.Word.{Word}
use Rattle.parser_tokens.specs.declared.word.Word.TheVariants as words
use Rattle.parser_ahead.specs.Groups.{is_target_group}
use Rattle.parser_ahead.specs.Primary.{is_statement, allows_command, part_at, is_comma_word, is_arrow_word}
use Rattle.parser_ahead.specs.declared.primary.PartStart.TheVariants as parts
use Rattle.parser_ahead.specs.declared.primary.DoOwner.{DoOwner}
use Rattle.parser_ahead.specs.declared.primary.DoOwner.TheVariants as owners
use Rattle.parser_ahead.specs.declared.primary.Place.{Place}
use Rattle.parser_ahead.specs.declared.primary.Place.TheVariants as places
use Rattle.parser_nodes.specs.Calls.{OperandNode, whole, callee, operand_node}
use Rattle.parser_nodes.specs.declared.listed.Sort.TheVariants as sorts
use Rattle.parser_operands.specs.Operands.{continues, postfixed, chain_turn, chain_within}
use Rattle.parser_operands.proofs.Turns.{chain_step}
use Rattle.parser_phrases.specs.Phrases.{phrase}
use Rattle.parser_statements.specs.Lists.{part_place, part_by, next_part, list_from}
use Rattle.parser_statements.proofs.Turns.{map_push, list_step}
use Rattle.parser_forms.specs.Reading.{Names, Tokens, Inside}
use Rattle.rb_parser.specs.Levels.{levels}
use Rattle.parser_laws.specs.Rules.{Argument, Primary, Values, goes_on_list}
use Rattle.parser_laws.proofs.Results.{and_false}
use Rattle.parser_laws.proofs.Assigning.{or_false_parts}
use Rattle.parser_laws.proofs.SoundStatements.{append_none, append_more}
use Rattle.parser_laws.proofs.SoundPostfix.{whole_continues, items_plain}
use Rattle.parser_laws.proofs.Facts.{Within, Settled, begins, listed, Fact, levels_at, word_taken}
use Rattle.parser_laws.proofs.Heads.{word_begins}
use Rattle.parser_laws.proofs.CompleteOperands.{settled_calm}
use Rattle.parser_laws.proofs.Newlines.{newlines_within, newline_calm}

part_group : (alone : Bool) (ts : Tokens) → (is_statement (part_place alone) && is_target_group ts) ≡ false
part_group true ts = refl
part_group false ts = refl

module _ (i : Inside) (alone before : Bool) (found : List Node) (names known : Names) (ts rest : Tokens) (n : Node)
    (read : phrase i names ts (part_place alone) owners.Call ≡ Ok ((n, sorts.Argument), known, rest))
    (h : begins (first ts) ≡ true) (part : part_at ts ≡ parts.Value) (arrow : is_arrow_word (first rest) ≡ false)
  where
    -- a value behind others, and the comma behind it
    next_value : (comma : Bool) → is_comma_word (first rest) ≡ comma
        → next_part i alone (listed found before) names ts owners.Call ≡ Ok
        (listed (found ++ n ∷ []) comma, known, skip_if comma rest)
    unfolding next_part part_by
    next_value comma there =
        let pushed : map Plain (found ++ n ∷ []) ≡ map Plain found ++ Plain n ∷ [] = map_push Plain found n in
        rw part (rw (read, arrow, there) (rw (and_false comma, pushed) refl))

    value_turn : (k : ℕ) (comma : Bool) → 0 < k → is_comma_word (first rest) ≡ comma
        → list_from i k owners.Call alone true (listed found before) names ts ≡ list_from i (k - 1) owners.Call false
        comma (listed (found ++ n ∷ []) comma) known (skip_if comma rest)
    value_turn k comma some there = list_step i k owners.Call alone true (listed found before) names ts some
        ∙ rw (word_begins (first ts) h, next_value comma there) refl

pub no_value : (place : Place) (names : Names) (ts : Tokens) → begins_value (first ts) ≡ false
    → Fact (Values place []) names ts names ts
no_value place names ts ends = (
  omega arith,
  refl,
  λ d room none alone same n found before enough. (
    before,
    list_step (levels d) n owners.Call alone true (listed found before) names ts (omega arith)
        ∙ rw ends (ap (λ (ns : List Node). Ok (listed ns before, names, ts)) (sym (append_none found))),
  ),
)

-- a value that is a part of a list
value_there : (d : ℕ) (place : Place) (names known : Names) (ts rest : Tokens) (n : Node)
    → Fact (Argument place owners.Call n) names ts known rest → length ts ≤ d → assignment_at (first rest) ≡ None
    → (alone : Bool) → part_place alone ≡ place
    → phrase (levels d) names ts (part_place alone) owners.Call ≡ Ok ((n, sorts.Argument), known, rest)
value_there d place names known ts rest n inner room none alone same =
    let free : (is_statement place && is_target_group ts) ≡ false =
    subst (λ p. (is_statement p && is_target_group ts) ≡ false) same (part_group alone ts) in
    let calm : (allows_command place && is_some (assignment_at (first rest))) ≡ false =
    rw none (and_false (allows_command place)) in
    subst (λ p. phrase (levels d) names ts p owners.Call ≡ Ok ((n, sorts.Argument), known, rest)) (sym same)
    (inner.2 d room free calm)

pub last_value : (place : Place) (names known : Names) (ts rest : Tokens) (n : Node)
    → Fact (Argument place owners.Call n) names ts known rest → part_at ts ≡ parts.Value
    → goes_on_list (first rest) ≡ false → Fact (Values place (n ∷ [])) names ts known rest
last_value place names known ts rest n inner part ends =
    let fewer = inner.0 in (
      omega arith,
      refl,
      λ d room none alone same k found before enough.
          let alone_there = or_false_parts (is_comma_word (first rest)) (is_arrow_word (first rest)) ends in
          let read = value_there d place names known ts rest n inner room none alone same in
          let last : list_from (levels d) (k - 1) owners.Call false false (listed (found ++ n ∷ []) false) known
          rest ≡ Ok (listed (found ++ n ∷ []) false, known, rest) =
          list_step (levels d) (k - 1) owners.Call false false (listed (found ++ n ∷ []) false) known rest (omega arith)
          in (
            false,
            value_turn (levels d) alone before found names known ts rest n read inner.1 part alone_there.1 k false
                (omega arith) alone_there.0 ∙ last,
          ),
    )

pub more_values : (place : Place) (names known later : Names) (ts rest more : Tokens) (n : Node) (ns : List Node)
    → Fact (Argument place owners.Call n) names ts known rest → part_at ts ≡ parts.Value
    → first rest ≡ words.Mark marks.Comma
    → Fact (Values places.Argument ns) known (behind rest) later more → Fact (Values place (n ∷ ns)) names ts later more
more_values place names known later ts rest more n ns inner part there others =
    let one = word_taken (words.Mark marks.Comma) rest there refl in
    let fewer = inner.0 in
    let tail = others.0 in (
      omega arith,
      refl,
      λ d room none alone same k found before enough.
          let comma : is_comma_word (first rest) ≡ true = rw there refl in
          let arrow : is_arrow_word (first rest) ≡ false = rw there refl in
          let calm : assignment_at (first rest) ≡ None = rw there refl in
          let read = value_there d place names known ts rest n inner room calm alone same in
          let turn = value_turn (levels d) alone before found names known ts rest n read inner.1 part arrow k true
          (omega arith) comma in
          let rest_read = others.2 d (omega arith) none false refl (k - 1) (found ++ n ∷ []) true (omega arith) in
          let appended : (found ++ n ∷ []) ++ ns ≡ found ++ n ∷ ns = append_more found n ns in (
            rest_read.0,
            turn ∙ rest_read.1 ∙ ap (λ (all : List Node). Ok (listed all rest_read.0, later, more))
                appended,
          ),
    )

-- a postfix goes on what stands before it, where no command begins there
pub continues_there : (o : OperandNode) (place : Place) (ts : Tokens) (commands : Bool) → Settled o place ts
    → Within commands place → continues o ts commands ≡ postfix_at (first ts)
continues_there (whole n) place ts commands s within = whole_continues n ts commands
continues_there (callee c) place ts true s within =
    let calm : begins_argument ts ≡ false = settled_calm (callee c) place ts s (within refl) in
    rw calm refl
continues_there (callee c) place ts false s within = refl

module _ (place : Place) (owner : DoOwner) (names known later : Names) (ts rest more : Tokens) (n : Node)
    (left : Fact (Primary place owner n) names ts known rest) (p : Postfix) (there : postfix_at (first rest) ≡ Some p)
    (o : OperandNode) (x : Node) (same : operand_node o ≡ x) (s : Settled o place more) where
  -- a primary with one more postfix
  pub behind_postfix : length more < length rest
      → ((d : ℕ) → length rest ≤ d → postfixed (levels d) n p known rest owner ≡ Ok (o, later, more))
      → Fact (Primary place owner x) names ts later more
  behind_postfix fewer read =
      let l = left.0 in (
        omega arith,
        left.1,
        λ d room.
            let f = left.2 d room in
            let got = read d (omega arith) in (
              f.0,
              f.1,
              f.2,
              f.3,
              o,
              same,
              s,
              λ k enough.
                  let t = f.7 k enough in
                  let some = t.1 in (
                    t.0 - 1,
                    omega arith,
                    λ commands within.
                        let turned : chain_turn (levels d) (continues f.4 rest commands)
                        (chain_within (levels d) (t.0 - 1) commands owner) f.4 known rest owner ≡ chain_within
                        (levels d) (t.0 - 1) commands owner o later more =
                        rw (continues_there f.4 place rest commands f.6 within, there) (rw (f.5, got) refl) in
                        t.2 commands within ∙ chain_step (levels d) t.0 commands owner f.4 known rest (omega arith)
                        ∙ turned,
                  ),
            ),
      )

-- the values in brackets or parentheses
pub values_read : (d : ℕ) (names known : Names) (ts rest : Tokens) (ns : List Node) (w : Word) → 0 < d
    → assignment_at w ≡ None → Fact (Values places.Command ns) names ts known rest → length ts ≤ d - 1
    → first (skip_newlines rest) ≡ w
    → (comma : Bool) × ((levels d).list names ts owners.Call ≡ Ok (listed ns comma, known, rest))
values_read d names known ts rest ns w some free values room closing =
    let got = values.2 (d - 1) room (newline_calm w free (length rest) rest closing) true refl (length ts + 1) [] false
    (omega arith) in
    (got.0, ap (λ (i : Inside). i.list names ts owners.Call) (levels_at d some) ∙ got.1)

pub indexed : (place : Place) (owner : DoOwner) (names known later : Names) (ts rest more : Tokens) (n : Node)
    (ns : List Node)
    → Fact (Primary place owner n) names ts known rest → first rest ≡ words.Mark marks.OpenBracket
    → Fact (Values places.Command ns) known (behind rest) later more
    → first (skip_newlines more) ≡ words.Mark marks.CloseBracket
    → Fact (Primary place owner (node.index n (nodes ns))) names ts later (behind (skip_newlines more))
unfolding postfixed
indexed place owner names known later ts rest more n ns left there values closing =
    let one = word_taken (words.Mark marks.OpenBracket) rest there refl in
    let last = word_taken (words.Mark marks.CloseBracket) (skip_newlines more) closing refl in
    let skipped = newlines_within (length more) more in
    let v = values.0 in
    behind_postfix place owner names known later ts rest (behind (skip_newlines more)) n left postfixes.Index
    (rw there refl) (whole (node.index n (nodes ns))) (node.index n (nodes ns)) refl tt (omega arith)
    (λ d room.
    let read = values_read d known later (behind rest) more ns (words.Mark marks.CloseBracket) (omega arith) refl values
    (omega arith) closing in
    rw (read.1, closing, items_plain ns) refl)

pub scoped_constant : (place : Place) (owner : DoOwner) (names known : Names) (ts rest : Tokens) (n : Node)
    → Fact (Primary place owner n) names ts known rest → first rest ≡ words.Mark marks.ColonColon
    → first (behind rest) ≡ words.Constant → opens_arguments (behind (behind rest)) ≡ false
    → Fact (Primary place owner (node.scoped_constant n (bytes_at (behind rest)))) names ts known (behind (behind rest))
unfolding postfixed
scoped_constant place owner names known ts rest n left there constant closed =
    let one = word_taken (words.Mark marks.ColonColon) rest there refl in
    let two = word_taken words.Constant (behind rest) constant refl in
    behind_postfix place owner names known known ts rest (behind (behind rest)) n left postfixes.Scope (rw there refl)
    (whole (node.scoped_constant n (bytes_at (behind rest)))) (node.scoped_constant n (bytes_at (behind rest))) refl
    tt (omega arith)
    (λ d room. rw (constant, closed) refl)
