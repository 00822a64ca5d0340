-- Lists of parts, and arrays and hashes, that are derived are read.
use Rattle.std.proofs.Common.{◌≡◌, ℕ, ◌+◌, ◌-◌, ◌<◌, ◌≤◌, Bool, true, false, ◌&&◌, List, [], length, is_some, Ok, refl, sym, ap, subst, ◌∙◌, arith}
use Rattle.rb_syntax.specs.declared.outside.Outside.TheVariants as outsides
use Rattle.rb_syntax.specs.declared.punctuator.Punctuator.TheVariants as marks
use Rattle.parser_tree.specs.Node as node
use Rattle.parser_tree.specs.Node.{Node, nodes}
use Rattle.parser_tokens.specs.Tokens.{first, behind, skip_if, bytes_at, place_at}
use Rattle.parser_tokens.specs.Operators.{assignment_at}
use Rattle.parser_tokens.specs.Starts.{begins_value}
use Rattle.parser_tokens.specs.declared.word.Word.TheVariants as words
use Rattle.parser_ahead.specs.Groups.{is_quoted_key, is_target_group}
use Rattle.parser_ahead.specs.Primary.{is_statement, allows_command, part_at, is_comma_word, is_arrow_word}
use Rattle.parser_ahead.specs.declared.primary.DoOwner.{DoOwner}
use Rattle.parser_ahead.specs.declared.primary.PartStart.TheVariants as parts
use Rattle.parser_ahead.specs.declared.primary.Place.{Place}
use Rattle.parser_ahead.specs.declared.primary.Place.TheVariants as places
use Rattle.parser_nodes.specs.Nodes.{outside_node}
use Rattle.parser_nodes.specs.Listed.{ListNode, PartNode, command_part, plain_part, splat_part, pair_part, block_part, nothing_listed, may_follow, put, with_comma}
use Rattle.parser_nodes.specs.declared.listed.Sort.TheVariants as sorts
use Rattle.parser_forms.specs.Literals.{pieces_from}
use Rattle.parser_phrases.specs.Phrases.{phrase, argument}
use Rattle.parser_statements.specs.Lists.{part_place, part_by, part, next_part, list_from}
use Rattle.parser_statements.proofs.Turns.{list_step}
use Rattle.parser_forms.specs.Reading.{Names, Tokens, Inside}
use Rattle.rb_parser.specs.Levels.{levels}
use Rattle.parser_laws.specs.Rules.{Argument, Pieces, Part, Parts, Listing}
use Rattle.parser_laws.proofs.Results.{differs, and_false}
use Rattle.parser_laws.proofs.Facts.{is_command_part, Fact, word_taken}
use Rattle.parser_laws.proofs.Heads.{word_begins}

part_group : (alone : Bool) (place : Place) (ts : Tokens) → part_place alone ≡ place
    → (is_statement place && is_target_group ts) ≡ false
part_group true place ts e = subst (λ p. (is_statement p && is_target_group ts) ≡ false) e refl
part_group false place ts e = subst (λ p. (is_statement p && is_target_group ts) ≡ false) e refl

-- a value as an argument
argument_of : (d : ℕ) (names known : Names) (ts rest : Tokens) (owner : DoOwner) (n : Node)
    → Fact (Argument places.Argument owner n) names ts known rest → length ts ≤ d
    → argument (levels d) names ts owner ≡ Ok (n, known, rest)
argument_of d names known ts rest owner n inner room = rw (inner.2 d room refl refl) refl

module _ (place : Place) (owner : DoOwner) (names : Names) (ts : Tokens) where
  -- a value where a part stands
  part_value : (d : ℕ) (known : Names) (rest : Tokens) (n : Node) → Fact (Argument place owner n) names ts known rest
      → length ts ≤ d → (allows_command place && is_some (assignment_at (first rest))) ≡ false
      → (alone : Bool) → part_place alone ≡ place
      → phrase (levels d) names ts (part_place alone) owner ≡ Ok ((n, sorts.Argument), known, rest)
  part_value d known rest n inner room calm alone e =
      subst (λ q. phrase (levels d) names ts q owner ≡ Ok ((n, sorts.Argument), known, rest)) (sym e)
      (inner.2 d room (part_group alone place ts e) calm)

  pub plain_fact : (known : Names) (rest : Tokens) (n : Node) → Fact (Argument place owner n) names ts known rest
      → part_at ts ≡ parts.Value → is_arrow_word (first rest) ≡ false
      → Fact (Part place owner (plain_part n)) names ts known rest
  unfolding part_by
  plain_fact known rest n inner value arrow = (
    inner.0,
    word_begins (first ts) inner.1,
    λ d room. (
      refl,
      λ calm alone e.
          let read = part_value d known rest n inner room calm alone e in
          rw (value, read, arrow) refl,
    ),
  )

  pub pair_fact : (known later : Names) (rest more : Tokens) (key n : Node)
      → Fact (Argument place owner key) names ts known rest → part_at ts ≡ parts.Value
      → first rest ≡ words.Mark marks.Arrow
      → Fact (Argument places.Argument owner n) known (behind rest) later more
      → Fact (Part place owner (pair_part key n)) names ts later more
  unfolding part_by
  pair_fact known later rest more key n inner one_value there value =
      let one = word_taken (words.Mark marks.Arrow) rest there refl in
      let l = inner.0 in
      let r = value.0 in (
        omega arith,
        word_begins (first ts) inner.1,
        λ d room. (
          refl,
          λ calm alone e.
              let still : (allows_command place && is_some (assignment_at (first rest))) ≡ false =
              rw there (and_false (allows_command place)) in
              let read = part_value d known rest key inner room still alone e in
              let right = argument_of d known later (behind rest) more owner n value (omega arith) in
              rw (one_value, read) (rw there (rw right refl)),
        ),
      )

  pub label_fact : (known : Names) (rest : Tokens) (n : Node) → first ts ≡ words.Label
      → Fact (Argument places.Argument owner n) names (behind ts) known rest
      → Fact (Part place owner (pair_part (node.symbol (bytes_at ts)) n)) names ts known rest
  unfolding part_by part_at
  label_fact known rest n is inner =
      let one = word_taken words.Label ts is refl in
      let fewer = inner.0 in (
        omega arith,
        rw is refl,
        λ d room. (
          refl,
          λ calm alone e. let right =
              argument_of d names known (behind ts) rest owner n inner (omega arith) in rw is (rw right refl),
        ),
      )

  pub quoted_fact : (known later : Names) (rest more : Tokens) (ns : List Node) (n : Node)
      → first ts ≡ words.StringBegin → is_quoted_key ts ≡ true → Fact (Pieces ns) names (behind ts) known rest
      → first rest ≡ words.Other outsides.QuotedLabel
      → Fact (Argument places.Argument owner n) known (behind rest) later more
      → Fact (Part place owner (pair_part (outside_node outsides.QuotedLabel (place_at rest) (node.text (nodes ns)))
      n)) names ts later more
  unfolding part_by part_at
  quoted_fact known later rest more ns n is key inner closing value =
      let one = word_taken words.StringBegin ts is refl in
      let last = word_taken (words.Other outsides.QuotedLabel) rest closing refl in
      let l = inner.0 in
      let r = value.0 in (
        omega arith,
        rw is refl,
        λ d room. (
          refl,
          λ calm alone e.
              let read : pieces_from (levels d) (length (behind ts) + 1) [] names (behind ts) ≡ Ok (ns, known, rest) =
              inner.2 d (omega arith) (length (behind ts) + 1) [] (omega arith) in
              let right = argument_of d known later (behind rest) more owner n value (omega arith) in
              rw (is, key) (rw read (rw closing (rw right refl))),
        ),
      )

  pub splat_fact : (known : Names) (rest : Tokens) (n : Node) → first ts ≡ words.Mark marks.Star
      → Fact (Argument places.Argument owner n) names (behind ts) known rest
      → Fact (Part place owner (splat_part n)) names ts known rest
  unfolding part_by part_at
  splat_fact known rest n is inner =
      let one = word_taken (words.Mark marks.Star) ts is refl in
      let fewer = inner.0 in (
        omega arith,
        rw is refl,
        λ d room. (
          refl,
          λ calm alone e. let right =
              argument_of d names known (behind ts) rest owner n inner (omega arith) in rw is (rw right refl),
        ),
      )

  pub double_splat_fact : (known : Names) (rest : Tokens) (n : Node) → first ts ≡ words.Mark marks.StarStar
      → Fact (Argument places.Argument owner n) names (behind ts) known rest
      → Fact (Part place owner (pair_part (outside_node outsides.DoubleSplat (place_at ts) n) node.nil)) names ts known
      rest
  unfolding part_by part_at
  double_splat_fact known rest n is inner =
      let one = word_taken (words.Mark marks.StarStar) ts is refl in
      let fewer = inner.0 in (
        omega arith,
        rw is refl,
        λ d room. (
          refl,
          λ calm alone e. let right =
              argument_of d names known (behind ts) rest owner n inner (omega arith) in rw is (rw right refl),
        ),
      )

  pub block_fact : (known : Names) (rest : Tokens) (n : Node) → first ts ≡ words.Mark marks.Ampersand
      → Fact (Argument places.Argument owner n) names (behind ts) known rest
      → Fact (Part place owner (block_part n)) names ts known rest
  unfolding part_by part_at
  block_fact known rest n is inner =
      let one = word_taken (words.Mark marks.Ampersand) ts is refl in
      let fewer = inner.0 in (
        omega arith,
        rw is refl,
        λ d room. (
          refl,
          λ calm alone e. let right =
              argument_of d names known (behind ts) rest owner n inner (omega arith) in rw is (rw right refl),
        ),
      )

-- a part behind the others, without regard to the comma before it
put_command : (p : PartNode) (l : ListNode) → is_command_part p ≡ false → (put p l).command ≡ l.command
put_command (command_part n) l h = differs h
put_command (plain_part n) l h = refl
put_command (splat_part n) l h = refl
put_command (pair_part k v) l h = refl
put_command (block_part n) l h = refl

pub put_keeps : (p : PartNode) (l : ListNode) → (put p l).comma ≡ l.comma
put_keeps (command_part n) l = refl
put_keeps (plain_part n) l = refl
put_keeps (splat_part n) l = refl
put_keeps (pair_part k v) l = refl
put_keeps (block_part n) l = refl

pub put_comma : (p : PartNode) (l : ListNode) (c : Bool)
    → with_comma c (put p (with_comma true l)) ≡ with_comma c (put p l)
put_comma (command_part n) l c = refl
put_comma (plain_part n) l c = refl
put_comma (splat_part n) l c = refl
put_comma (pair_part k v) l c = refl
put_comma (block_part n) l c = refl

pub follow_comma : (p : PartNode) (l : ListNode) → may_follow p (with_comma true l) ≡ may_follow p l
follow_comma (command_part n) l = refl
follow_comma (plain_part n) l = refl
follow_comma (splat_part n) l = refl
follow_comma (pair_part k v) l = refl
follow_comma (block_part n) l = refl

first_follows : (p : PartNode) → may_follow p nothing_listed ≡ true
first_follows (command_part n) = refl
first_follows (plain_part n) = refl
first_follows (splat_part n) = refl
first_follows (pair_part k v) = refl
first_follows (block_part n) = refl

pub no_comma : (l : ListNode) → l.comma ≡ false → with_comma false l ≡ l
no_comma l h = ap (λ b. with_comma b l) (sym h)

-- a part, and the comma behind it
next_read : (i : Inside) (alone : Bool) (found : ListNode) (names known : Names) (ts rest : Tokens) (owner : DoOwner)
    (p : PartNode) → part i alone names ts owner ≡ Ok (p, known, rest) → may_follow p found ≡ true
    → (put p found).command ≡ false
    → next_part i alone found names ts owner ≡ Ok
    (with_comma (is_comma_word (first rest)) (put p found), known, skip_if (is_comma_word (first rest)) rest)
unfolding next_part
next_read i alone found names known ts rest owner p read follows plain =
    let free : (is_comma_word (first rest) && (put p found).command) ≡ false =
    rw plain (and_false (is_comma_word (first rest))) in
    rw read (rw follows (rw free refl))

-- a turn of the list
turn : (i : Inside) (n : ℕ) (alone : Bool) (found : ListNode) (names known : Names) (ts rest : Tokens) (owner : DoOwner)
    (p : PartNode) → 0 < n → begins_value (first ts) ≡ true → part i alone names ts owner ≡ Ok (p, known, rest)
    → may_follow p found ≡ true → (put p found).command ≡ false
    → list_from i n owner alone true found names ts ≡ list_from i (n - 1) owner false (is_comma_word (first rest))
    (with_comma (is_comma_word (first rest)) (put p found)) known (skip_if (is_comma_word (first rest)) rest)
turn i n alone found names known ts rest owner p some begins read follows plain =
    let made = next_read i alone found names known ts rest owner p read follows plain in
    list_step i n owner alone true found names ts some ∙ rw begins (rw made refl)

pub first_part : (owner : DoOwner) (names known : Names) (ts rest : Tokens) (p : PartNode)
    → Fact (Part places.Command owner p) names ts known rest
    → Fact (Parts owner (put p nothing_listed)) names ts known rest
first_part owner names known ts rest p inner =
    let l = inner.0 in (
      l,
      inner.1,
      λ d room.
          let r = inner.2 d room in
          let plain : (put p nothing_listed).command ≡ false = put_command p nothing_listed r.0 in (
            plain,
            put_keeps p nothing_listed,
            λ none n enough.
                let calm : (allows_command places.Command && is_some (assignment_at (first rest))) ≡ false =
                rw none refl in (
                  n - 1,
                  omega arith,
                  turn (levels d) n true nothing_listed names known ts rest owner p (omega arith)
                      inner.1 (r.1 calm true refl) (first_follows p) plain,
                ),
          ),
    )

pub next_fact : (owner : DoOwner) (names known later : Names) (ts rest more : Tokens) (p : PartNode) (l : ListNode)
    → Fact (Parts owner l) names ts known rest → first rest ≡ words.Mark marks.Comma
    → Fact (Part places.Argument owner p) known (behind rest) later more → may_follow p l ≡ true
    → Fact (Parts owner (put p l)) names ts later more
next_fact owner names known later ts rest more p l before there inner follows =
    let one = word_taken (words.Mark marks.Comma) rest there refl in
    let b = before.0 in
    let r = inner.0 in (
      omega arith,
      before.1,
      λ d room.
          let f = before.2 d room in
          let g = inner.2 d (omega arith) in (
            put_command p l g.0 ∙ f.0,
            put_keeps p l ∙ f.1,
            λ none n enough.
                let t = f.2 (rw there refl) n enough in
                let some = t.1 in
                let comma : is_comma_word (first rest) ≡ true = rw there refl in
                let behind_comma : list_from (levels d) n owner true true nothing_listed names ts ≡ list_from (levels d)
                t.0 owner false true (with_comma true l) known (behind rest) =
                subst (λ c. list_from (levels d) n owner true true nothing_listed names ts ≡ list_from (levels d) t.0
                owner false c (with_comma c l) known (skip_if c rest)) comma t.2 in
                let made = turn (levels d) t.0 false (with_comma true l) known later (behind rest) more owner p
                (omega arith) inner.1 (g.1 refl false refl) (follow_comma p l ∙ follows)
                (put_command p (with_comma true l) g.0 ∙ f.0) in
                let same = ap (λ (x : ListNode). list_from (levels d) (t.0 - 1) owner false (is_comma_word (first more))
                x later (skip_if (is_comma_word (first more)) more)) (put_comma p l (is_comma_word (first more))) in
                (t.0 - 1, omega arith, behind_comma ∙ made ∙ same),
          ),
    )

pub no_part : (owner : DoOwner) (names : Names) (ts : Tokens) → begins_value (first ts) ≡ false
    → Fact (Listing owner nothing_listed) names ts names ts
no_part owner names ts none = (
  omega arith,
  refl,
  λ d room calm. list_step (levels d) (length ts + 1) owner true true nothing_listed names ts (omega arith)
      ∙ rw none refl,
)

pub all_parts : (owner : DoOwner) (names known : Names) (ts rest : Tokens) (l : ListNode)
    → Fact (Parts owner l) names ts known rest → is_comma_word (first rest) ≡ false
    → Fact (Listing owner l) names ts known rest
all_parts owner names known ts rest l inner ends =
    let b = inner.0 in (
      omega arith,
      refl,
      λ d room none.
          let f = inner.2 d room in
          let t = f.2 none (length ts + 1) (omega arith) in
          let some = t.1 in
          let read : list_from (levels d) (length ts + 1) owner true true nothing_listed names ts ≡ list_from (levels d)
          t.0 owner false false (with_comma false l) known rest =
          subst (λ c. list_from (levels d) (length ts + 1) owner true true nothing_listed names ts ≡ list_from
          (levels d) t.0 owner false c (with_comma c l) known (skip_if c rest)) ends t.2 in
          read ∙ list_step (levels d) t.0 owner false false (with_comma false l) known rest (omega arith)
          ∙ ap (λ (x : ListNode). Ok (x, known, rest)) (no_comma l f.1),
    )

pub last_comma : (owner : DoOwner) (names known : Names) (ts rest : Tokens) (l : ListNode)
    → Fact (Parts owner l) names ts known rest → first rest ≡ words.Mark marks.Comma
    → begins_value (first (behind rest)) ≡ false
    → Fact (Listing owner (with_comma true l)) names ts known (behind rest)
last_comma owner names known ts rest l inner there ends =
    let b = inner.0 in
    let one = word_taken (words.Mark marks.Comma) rest there refl in (
      omega arith,
      refl,
      λ d room none.
          let f = inner.2 d room in
          let t = f.2 (rw there refl) (length ts + 1) (omega arith) in
          let some = t.1 in
          let comma : is_comma_word (first rest) ≡ true = rw there refl in
          let read : list_from (levels d) (length ts + 1) owner true true nothing_listed names ts ≡ list_from (levels d)
          t.0 owner false true (with_comma true l) known (behind rest) =
          subst (λ c. list_from (levels d) (length ts + 1) owner true true nothing_listed names ts ≡ list_from
          (levels d) t.0 owner false c (with_comma c l) known (skip_if c rest)) comma t.2 in
          read ∙ list_step (levels d) t.0 owner false true (with_comma true l) known (behind rest) (omega arith)
          ∙ rw ends refl,
    )
