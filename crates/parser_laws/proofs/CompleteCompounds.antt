-- Compound forms with conditions that are derived are read.
use Rattle.std.proofs.Common.{◌≡◌, ℕ, ◌-◌, ◌<◌, ◌≤◌, true, false, List, [], ◌∷◌, ◌++◌, nat_eq, length, map, Option, Some, None, Ok, refl, sym, ap, subst, ◌∙◌, arith}
use Rattle.rb_syntax.specs.declared.keyword.Keyword.{Keyword}
use Rattle.rb_syntax.specs.declared.keyword.Keyword.TheVariants as keywords
use Rattle.parser_tree.specs.Node as node
use Rattle.parser_tree.specs.Node.{Node, nodes, none}
use Rattle.parser_tokens.specs.Tokens.{first, behind}
use Rattle.parser_tokens.specs.Expect.{skip_then_word, then_at, do_at}
use Rattle.parser_tokens.specs.Operators.{assignment_at}
use Rattle.parser_tokens.specs.declared.word.Word.{Word}
use Rattle.parser_tokens.specs.declared.word.Word.TheVariants as words
use Rattle.parser_ahead.specs.Primary.{keyword_primary, primary_at, is_comma_word, is_arrow_word}
use Rattle.parser_ahead.specs.Sections.{next_section}
use Rattle.parser_ahead.specs.declared.primary.DoOwner.{DoOwner}
use Rattle.parser_ahead.specs.declared.primary.DoOwner.TheVariants as owners
use Rattle.parser_ahead.specs.declared.primary.Place.{Place}
use Rattle.parser_ahead.specs.declared.primary.Place.TheVariants as places
use Rattle.parser_ahead.specs.declared.primary.Primary.TheVariants as primaries
use Rattle.parser_ahead.specs.declared.sections.Compound.{Compound}
use Rattle.parser_ahead.specs.declared.sections.Compound.TheVariants as compounds
use Rattle.parser_ahead.specs.declared.sections.SectionKind.TheVariants as kinds
use Rattle.parser_nodes.specs.Nodes.{condition_node}
use Rattle.parser_form_nodes.specs.declared.sections.LastPart.TheVariants as parts
use Rattle.parser_form_nodes.specs.Sections.{SectionNode, last_of, before_part, part_body, branch_of, if_node, unless_section, unless_by, unless_node, loop_section as loop_of, loop_by, loop_node, option_node, is_whole, compound_node}
use Rattle.parser_operands.specs.Operands.{compound, primary_by}
use Rattle.parser_statements.specs.Sections.{heading, loop_section, section, sections}
use Rattle.parser_forms.specs.Reading.{Names, Tokens, Inside}
use Rattle.rb_parser.specs.Levels.{levels}
use Rattle.parser_laws.specs.Rules.{Primary as PrimaryRule, Expression, Statements, Guarded, Repeated, Branches, Otherwise}
use Rattle.parser_laws.proofs.Heads.{head_opens}
use Rattle.parser_laws.proofs.Results.{or_else, same, err_is_none}
use Rattle.parser_laws.proofs.Facts.{is_head, Fact, levels_at, word_taken, behind_within, at_once, Reads}
use Rattle.parser_laws.proofs.SectionSteps.{part_sections, behind_part, all_base, steps_none, steps_one, steps_then, sections_read, base_last, parts_of}

pub itself_within : (ts : Tokens) → length ts ≤ length ts
itself_within ts = omega arith

skip_then_within : (w : Word) (ts : Tokens) → length (skip_then_word w ts) ≤ length ts
skip_then_within (words.Key keywords.Then) ts = behind_within ts
skip_then_within w ts = itself_within ts

skip_then_behind : (ts : Tokens) → length (skip_then_word (first (behind ts)) (behind ts)) ≤ length ts
skip_then_behind ts =
    let a = skip_then_within (first (behind ts)) (behind ts) in
    let b = behind_within ts in
    omega arith

moved : (ts rest us : Tokens) → same (Ok ts) (Ok rest) → length ts ≤ length us → length rest ≤ length us
moved ts rest us h less = subst (λ (x : Tokens). length x ≤ length us) (ap (or_else ts) h) less

-- then and its like, or do, are tokens
pub then_within : (w : Word) (ts rest : Tokens) → then_at w ts ≡ Ok rest → length rest ≤ length ts
then_within words.Newline ts rest h = moved (skip_then_word (first (behind ts)) (behind ts)) rest ts h
    (skip_then_behind ts)
then_within words.Semicolon ts rest h = moved (skip_then_word (first (behind ts)) (behind ts)) rest ts h
    (skip_then_behind ts)
then_within (words.Key keywords.Then) ts rest h = moved (behind ts) rest ts h (behind_within ts)
then_within w ts rest h = err_is_none (length ts) rest h

pub do_within : (w : Word) (ts rest : Tokens) → do_at w ts ≡ Ok rest → length rest ≤ length ts
do_within words.Newline ts rest h = moved (behind ts) rest ts h (behind_within ts)
do_within words.Semicolon ts rest h = moved (behind ts) rest ts h (behind_within ts)
do_within (words.Key keywords.Do) ts rest h = moved (behind ts) rest ts h (behind_within ts)
do_within w ts rest h = err_is_none (length ts) rest h

-- and no assignment, comma or arrow
pub then_free : (w : Word) (ts rest : Tokens) → then_at w ts ≡ Ok rest → (assignment_at w ≡ None)
    × (is_comma_word w ≡ false) × (is_arrow_word w ≡ false)
then_free (words.Mark p) ts rest h = err_is_none (length ts) rest h
then_free w ts rest h = (refl, refl, refl)

do_free : (w : Word) (ts rest : Tokens) → do_at w ts ≡ Ok rest → assignment_at w ≡ None
do_free (words.Mark p) ts rest h = err_is_none (length ts) rest h
do_free w ts rest h = refl

pub tested : (names known later : Names) (ts rest body more : Tokens) (t n : Node)
    → Fact (Expression places.Command owners.Call t) names ts known rest → then_at (first rest) rest ≡ Ok body
    → Fact (Statements n) known body later more → Fact (Guarded t n) names ts later more
tested names known later ts rest body more t n test there inner =
    let free = then_free (first rest) rest body there in
    let less = then_within (first rest) rest body there in
    let a = test.0 in
    let b = inner.0 in
    (omega arith, refl, λ d room. rw (test.2 d room free.0) (rw there (rw (inner.2 d (omega arith)) refl)))

pub looped : (names known later : Names) (ts rest body more : Tokens) (t n : Node)
    → Fact (Expression places.Command owners.Loop t) names ts known rest → do_at (first rest) rest ≡ Ok body
    → Fact (Statements n) known body later more → Fact (Repeated t n) names ts later more
looped names known later ts rest body more t n test there inner =
    let free = do_free (first rest) rest body there in
    let less = do_within (first rest) rest body there in
    let a = test.0 in
    let b = inner.0 in
    (omega arith, refl, λ d room. (known, rest, body, test.2 d room free, there, inner.2 d (omega arith)))

-- a loop with a condition
loop_read : (i : Inside) (names known : Names) (ts rest : Tokens) (t n : Node)
    → Reads i (Repeated t n) names ts known rest
    → loop_section i names ts ≡ Ok (heading kinds.LoopTest (t ∷ []) none n, known, rest)
loop_read i names known ts rest t n r = rw r.3 (rw r.4 (rw r.5 refl))

pub no_branch : (names : Names) (ts : Tokens) → Fact (Branches []) names ts names ts
no_branch names ts = (
  itself_within ts,
  refl,
  λ d room. ([], refl, refl, steps_none (levels d) compounds.If kinds.Test names ts),
)

branches_are : (t n : Node) (ss : List SectionNode) (bs : List Node) → map branch_of ss ≡ bs
    → map branch_of (heading kinds.Test (t ∷ []) none n ∷ ss) ≡ node.branch (condition_node t) n ∷ bs
unfolding branch_of last_of
branches_are t n ss bs h = ap (λ (xs : List Node). node.branch (condition_node t) n ∷ xs) h

pub more_branches : (names known later : Names) (ts rest more : Tokens) (t n : Node) (bs : List Node)
    → first ts ≡ words.Key keywords.Elsif → Fact (Guarded t n) names (behind ts) known rest
    → Fact (Branches bs) known rest later more
    → Fact (Branches (node.branch (condition_node t) n ∷ bs)) names ts later more
unfolding section
more_branches names known later ts rest more t n bs is one others =
    let a = word_taken (words.Key keywords.Elsif) ts is refl in
    let b = one.0 in
    let c = others.0 in (
      omega arith,
      refl,
      λ d room.
          let r = others.2 d (omega arith) in
          let s : SectionNode = heading kinds.Test (t ∷ []) none n in
          let there : next_section compounds.If kinds.Test (first ts) ≡ Some kinds.Test = rw is refl in
          let step = steps_one (levels d) compounds.If kinds.Test kinds.Test s names known ts rest there
          (one.2 d (omega arith)) (omega arith) in (
            s ∷ r.0,
            branches_are t n r.0 bs r.1,
            r.2,
            steps_then (levels d) compounds.If kinds.Test kinds.Test kinds.Test (s ∷ []) r.0 names known later ts rest
                more step r.3,
          ),
    )

pub no_else : (names : Names) (ts : Tokens) → Fact (Otherwise None) names ts names ts
no_else names ts = (itself_within ts, refl, λ d room form before there. steps_none (levels d) form before names ts)

pub else_fact : (names known : Names) (ts rest : Tokens) (n : Node) → first ts ≡ words.Key keywords.Else
    → Fact (Statements n) names (behind ts) known rest → Fact (Otherwise (Some n)) names ts known rest
unfolding section
else_fact names known ts rest n is inner =
    let a = word_taken (words.Key keywords.Else) ts is refl in
    let b = inner.0 in (
      omega arith,
      refl,
      λ d room form before there.
          let next : next_section form before (first ts) ≡ Some kinds.Else = ap (next_section form before) is ∙ there in
          steps_one (levels d) form before kinds.Else (heading kinds.Else [] none n) names known ts rest next
          (rw (inner.2 d (omega arith)) refl) (omega arith),
    )

-- a form has a section
pub filled : (s : SectionNode) (ss : List SectionNode) → nat_eq (length (s ∷ ss)) 0 ≡ false
filled s ss = grind arith

module _ (place : Place) (owner : DoOwner) (names : Names) (ts : Tokens) where
  -- what the sections of a form make
  abbrev pub Made : Compound → Node → Names → Tokens → Type 0
  Made form n known rest = (d : ℕ) → length (behind ts) ≤ d → (ss : List SectionNode)
      × (sections (levels d) names form (behind ts) ≡ Ok (ss, known, rest)) × (is_whole form ss ≡ true)
      × (compound_node form ss ≡ n)

  -- a form whose sections are read
  pub compound_fact : (k : Keyword) (form : Compound) (n : Node) (known : Names) (rest : Tokens)
      → first ts ≡ words.Key k → is_head (words.Key k) ≡ true → keyword_primary k (behind ts) ≡ primaries.Compound form
      → length rest < length ts → Made form n known rest → Fact (PrimaryRule place owner n) names ts known rest
  unfolding primary_at primary_by compound
  compound_fact k form n known rest is head there shorter made =
      let one = word_taken (words.Key k) ts is refl in (
        shorter,
        head_opens ts (subst (λ w. is_head w ≡ true) (sym is) head),
        λ d room. at_once (levels d) place owner names known ts rest n (
            let r = made (d - 1) (omega arith) in
            let below : (levels d).sections names form (behind ts) ≡ Ok (r.0, known, rest) =
            ap (λ (i : Inside). i.sections names form (behind ts)) (levels_at d (omega arith)) ∙ r.1 in
            rw is (rw there (rw below (rw r.2 (rw r.3 refl))))),
      )

  pub if_fact : (known later latest : Names) (rest more last : Tokens) (t n : Node) (bs : List Node) (o : Option Node)
      → first ts ≡ words.Key keywords.If → Fact (Guarded t n) names (behind ts) known rest
      → Fact (Branches bs) known rest later more → Fact (Otherwise o) later more latest last
      → first last ≡ words.Key keywords.End
      → Fact (PrimaryRule place owner (node.if_node (nodes (node.branch (condition_node t) n ∷ bs)) (option_node o)))
      names ts latest (behind last)
  unfolding section if_node
  if_fact known later latest rest more last t n bs o is one others other ends =
      let a = word_taken (words.Key keywords.If) ts is refl in
      let b = word_taken (words.Key keywords.End) last ends refl in
      let c = one.0 in
      let e = others.0 in
      let f = other.0 in
      compound_fact keywords.If compounds.If _ latest (behind last) is refl refl (omega arith) (λ d room.
      let r = others.2 d (omega arith) in
      let s : SectionNode = heading kinds.Test (t ∷ []) none n in
      let base : all_base (s ∷ r.0) ≡ true = r.2 in
      let p = parts_of parts.Else (s ∷ r.0) o (base_last parts.Else (s ∷ r.0) base) in
      let before : before_part parts.Else (s ∷ (r.0 ++ part_sections kinds.Else o)) ≡ s ∷ r.0 = p.0 in
      let behind_it : part_body parts.Else (s ∷ (r.0 ++ part_sections kinds.Else o)) ≡ option_node o = p.1 in
      let step = steps_then (levels d) compounds.If kinds.Test kinds.Test (behind_part kinds.Test kinds.Else o) r.0
      (part_sections kinds.Else o) known later latest rest more last r.3
      (other.2 d (omega arith) compounds.If kinds.Test refl) in
      let whole : is_whole compounds.If (s ∷ (r.0 ++ part_sections kinds.Else o)) ≡ true =
      rw (filled s (r.0 ++ part_sections kinds.Else o)) refl in
      let branches : map branch_of (s ∷ r.0) ≡ node.branch (condition_node t) n ∷ bs = branches_are t n r.0 bs r.1 in (
        s ∷ (r.0 ++ part_sections kinds.Else o),
        sections_read (levels d) compounds.If (behind_part kinds.Test kinds.Else o) s
            (r.0 ++ part_sections kinds.Else o) names known latest (behind ts) rest last (one.2 d room) step ends,
        whole,
        rw (before, behind_it) (ap (λ (xs : List Node). node.if_node (nodes xs) (option_node o)) branches),
      ))

  unless_is : (s : SectionNode) (o : Option Node) (t n : Node) → s ≡ heading kinds.Test (t ∷ []) none n
      → before_part parts.Else (s ∷ part_sections kinds.Else o) ≡ s ∷ []
      → part_body parts.Else (s ∷ part_sections kinds.Else o) ≡ option_node o
      → compound_node compounds.Unless (s ∷ part_sections kinds.Else o) ≡ node.unless_node (condition_node t) n
      (option_node o)
  unfolding unless_node unless_by unless_section last_of
  unless_is s o t n is before behind_it = rw (before, behind_it) (rw is refl)

  pub unless_fact : (known later : Names) (rest more : Tokens) (t n : Node) (o : Option Node)
      → first ts ≡ words.Key keywords.Unless → Fact (Guarded t n) names (behind ts) known rest
      → Fact (Otherwise o) known rest later more → first more ≡ words.Key keywords.End
      → Fact (PrimaryRule place owner (node.unless_node (condition_node t) n (option_node o))) names ts later
      (behind more)
  unfolding section
  unless_fact known later rest more t n o is one other ends =
      let a = word_taken (words.Key keywords.Unless) ts is refl in
      let b = word_taken (words.Key keywords.End) more ends refl in
      let c = one.0 in
      let f = other.0 in
      compound_fact keywords.Unless compounds.Unless _ later (behind more) is refl refl (omega arith) (λ d room.
      let s : SectionNode = heading kinds.Test (t ∷ []) none n in
      let base : all_base (s ∷ []) ≡ true = refl in
      let p = parts_of parts.Else (s ∷ []) o (base_last parts.Else (s ∷ []) base) in
      let before : before_part parts.Else (s ∷ part_sections kinds.Else o) ≡ s ∷ [] = p.0 in
      let behind_it : part_body parts.Else (s ∷ part_sections kinds.Else o) ≡ option_node o = p.1 in
      let whole : is_whole compounds.Unless (s ∷ part_sections kinds.Else o) ≡ true =
      rw (filled s (part_sections kinds.Else o)) refl in (
        s ∷ part_sections kinds.Else o,
        sections_read (levels d) compounds.Unless (behind_part kinds.Test kinds.Else o) s (part_sections kinds.Else o)
            names known later (behind ts) rest more (one.2 d room)
            (other.2 d (omega arith) compounds.Unless kinds.Test refl) ends,
        whole,
        unless_is s o t n refl before behind_it,
      ))

  while_is : (t n : Node) → compound_node compounds.While
      (heading kinds.LoopTest (t ∷ []) none n ∷ []) ≡ node.while_node false false (condition_node t) n
  unfolding loop_node loop_by loop_of last_of
  while_is t n = refl

  until_is : (t n : Node) → compound_node compounds.Until
      (heading kinds.LoopTest (t ∷ []) none n ∷ []) ≡ node.while_node true false (condition_node t) n
  unfolding loop_node loop_by loop_of last_of
  until_is t n = refl

  pub while_fact : (known : Names) (rest : Tokens) (t n : Node) → first ts ≡ words.Key keywords.While
      → Fact (Repeated t n) names (behind ts) known rest → first rest ≡ words.Key keywords.End
      → Fact (PrimaryRule place owner (node.while_node false false (condition_node t) n)) names ts known (behind rest)
  unfolding section
  while_fact known rest t n is one ends =
      let a = word_taken (words.Key keywords.While) ts is refl in
      let b = word_taken (words.Key keywords.End) rest ends refl in
      let c = one.0 in
      compound_fact keywords.While compounds.While _ known (behind rest) is refl refl (omega arith) (λ d room.
      let s : SectionNode = heading kinds.LoopTest (t ∷ []) none n in
      let whole : is_whole compounds.While (s ∷ []) ≡ true = refl in (
        s ∷ [],
        sections_read (levels d) compounds.While kinds.LoopTest s [] names known known (behind ts) rest rest
            (loop_read (levels d) names known (behind ts) rest t n (one.2 d room))
            (steps_none (levels d) compounds.While kinds.LoopTest known rest) ends,
        whole,
        while_is t n,
      ))

  pub until_fact : (known : Names) (rest : Tokens) (t n : Node) → first ts ≡ words.Key keywords.Until
      → Fact (Repeated t n) names (behind ts) known rest → first rest ≡ words.Key keywords.End
      → Fact (PrimaryRule place owner (node.while_node true false (condition_node t) n)) names ts known (behind rest)
  unfolding section
  until_fact known rest t n is one ends =
      let a = word_taken (words.Key keywords.Until) ts is refl in
      let b = word_taken (words.Key keywords.End) rest ends refl in
      let c = one.0 in
      compound_fact keywords.Until compounds.Until _ known (behind rest) is refl refl (omega arith) (λ d room.
      let s : SectionNode = heading kinds.LoopTest (t ∷ []) none n in
      let whole : is_whole compounds.Until (s ∷ []) ≡ true = refl in (
        s ∷ [],
        sections_read (levels d) compounds.Until kinds.LoopTest s [] names known known (behind ts) rest rest
            (loop_read (levels d) names known (behind ts) rest t n (one.2 d room))
            (steps_none (levels d) compounds.Until kinds.LoopTest known rest) ends,
        whole,
        until_is t n,
      ))
