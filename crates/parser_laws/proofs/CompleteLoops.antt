-- for, and a rescue clause that assigns its exception, that are derived are read.
use Rattle.std.proofs.Common.{◌≡◌, ℕ, ◌+◌, ◌-◌, ◌<◌, Bool, true, false, List, [], ◌∷◌, ◌++◌, length, Ok, refl, sym, ap, ◌∙◌, arith}
use Rattle.std.proofs.lemmas.List.{append_assoc}
use Rattle.rb_syntax.specs.declared.keyword.Keyword.TheVariants as keywords
use Rattle.rb_syntax.specs.declared.punctuator.Punctuator.TheVariants as marks
use Rattle.parser_tree.specs.Node as node
use Rattle.parser_tree.specs.Node.{Node, nodes, one}
use Rattle.parser_tokens.specs.Tokens.{first, behind, skip_if}
use Rattle.parser_tokens.specs.Expect.{then_at}
use Rattle.parser_tokens.specs.declared.word.Word.{Word}
use Rattle.parser_tokens.specs.declared.word.Word.TheVariants as words
use Rattle.parser_ahead.specs.Groups.{opens_group, is_nested_group}
use Rattle.parser_ahead.specs.Primary.{is_comma_word}
use Rattle.parser_ahead.specs.declared.groups.TargetUse.TheVariants as uses
use Rattle.parser_ahead.specs.declared.primary.DoOwner.{DoOwner}
use Rattle.parser_ahead.specs.declared.primary.DoOwner.TheVariants as owners
use Rattle.parser_ahead.specs.declared.primary.Place.{Place}
use Rattle.parser_ahead.specs.declared.sections.Compound.TheVariants as compounds
use Rattle.parser_ahead.specs.declared.sections.SectionKind.TheVariants as kinds
use Rattle.parser_form_nodes.specs.Targets.{TargetsNode, no_targets, one_target, put}
use Rattle.parser_form_nodes.specs.Sections.{SectionNode, last_of, for_section, for_by, for_node, compound_node}
use Rattle.parser_phrases.specs.Targets.{alone, target, next_target, targets_from}
use Rattle.parser_phrases.proofs.Turns.{targets_step}
use Rattle.parser_statements.specs.Sections.{heading, only, section}
use Rattle.parser_forms.specs.Reading.{Names, Tokens, Inside}
use Rattle.rb_parser.specs.Levels.{levels}
use Rattle.parser_laws.specs.Rules.{Primary as PrimaryRule, InnerTarget, LoopTargets, Repeated, Statements, Classes, RescueClause}
use Rattle.parser_laws.proofs.Results.{err_is_none, and_false}
use Rattle.parser_laws.proofs.Facts.{Reads, ends_target, is_finish, Fact, word_taken, behind_within, begins}
use Rattle.parser_laws.proofs.SectionSteps.{steps_none, sections_read}
use Rattle.parser_laws.proofs.CompleteSeveral.{value_no_end, target_begins}
use Rattle.parser_laws.proofs.CompleteCompounds.{then_within, then_free, compound_fact}

differs : {A : Type 0} → true ≡ false → A
differs h = absurd (cc)

abbrev with_one : Node → Bool → TargetsNode → TargetsNode
with_one x comma found = put (one_target x) comma found

with_star : (x : Node) (comma : Bool) (found : TargetsNode) → found.list.star ≡ false
    → ((with_one x comma found).list.star ≡ false)
    × ((with_one x comma found).list.before ≡ found.list.before ++ x ∷ [])
with_star x comma found h = (rw h refl, rw h refl)

-- a target behind those that were found
target_turn : (i : Inside) (n : ℕ) (found : TargetsNode) (x : Node) (names known : Names) (ts rest : Tokens) → 0 < n
    → Reads i (InnerTarget owners.Call x) names ts known rest → begins (first ts) ≡ true
    → ends_target (first rest) ≡ true → targets_from i n uses.For true found names ts
    ≡ targets_from i (n - 1) uses.For (is_comma_word (first rest)) (with_one x (is_comma_word (first rest)) found) known
    (skip_if (is_comma_word (first rest)) rest)
unfolding next_target target alone
target_turn i n found x names known ts rest some read begun ends =
    let v = value_no_end (first ts) begun in
    let nested : is_nested_group uses.For ts ≡ false = and_false (opens_group (first ts)) in
    let r = read ends in
    targets_step i n uses.For true found names ts some
    ∙ rw v.0 (rw v.1 (rw nested (rw r.6 (rw r.3 (rw (r.4, r.5) refl)))))

pub comma_word : (w : Word) → is_comma_word w ≡ true → (is_finish w ≡ false) × (ends_target w ≡ true)
comma_word (words.Mark marks.Comma) h = (refl, refl)
comma_word w h = differs (sym h)

pub last_target : (names known : Names) (ts rest : Tokens) (x : Node)
    → Fact (InnerTarget owners.Call x) names ts known rest → Fact (LoopTargets (x ∷ [])) names ts known rest
last_target names known ts rest x inner =
    let fewer = inner.0 in (
      fewer,
      inner.1,
      λ d room ends. (
        refl,
        λ found alone_there n enough.
            let turned = target_turn (levels d) n found x names known ts rest (omega arith) (inner.2 d room)
            (target_begins ts inner.1) (rw ends refl) in
            let stopped : targets_from (levels d) (n - 1) uses.For (is_comma_word (first rest))
            (with_one x (is_comma_word (first rest)) found) known (skip_if (is_comma_word (first rest)) rest)
            ≡ Ok (with_one x false found, known, rest) =
            rw ends (targets_step (levels d) (n - 1) uses.For false (with_one x false found) known rest
            (omega arith)) in
            (with_one x false found, turned ∙ stopped, (with_star x false found alone_there).1),
      ),
    )

pub more_targets : (names known later : Names) (ts rest more : Tokens) (x : Node) (xs : List Node)
    → Fact (InnerTarget owners.Call x) names ts known rest → is_comma_word (first rest) ≡ true
    → Fact (LoopTargets xs) known (behind rest) later more → Fact (LoopTargets (x ∷ xs)) names ts later more
more_targets names known later ts rest more x xs one_there comma others =
    let a = one_there.0 in
    let w = comma_word (first rest) comma in
    let b = word_taken (first rest) rest refl w.0 in
    let c = others.0 in (
      omega arith,
      one_there.1,
      λ d room ends. (
        refl,
        λ found alone_there n enough.
            let turned = target_turn (levels d) n found x names known ts rest (omega arith) (one_there.2 d room)
            (target_begins ts one_there.1) w.1 in
            let put_there = with_star x true found alone_there in
            let r = (others.2 d (omega arith) ends).1 (with_one x true found) put_there.0 (n - 1) (omega arith) in
            let goes_on : targets_from (levels d) (n - 1) uses.For (is_comma_word (first rest))
            (with_one x (is_comma_word (first rest)) found) known (skip_if (is_comma_word (first rest)) rest)
            ≡ Ok (r.0, later, more) = rw comma r.1 in (
              r.0,
              turned ∙ goes_on,
              r.2 ∙ ap (λ (ys : List Node). ys ++ xs) put_there.1
                  ∙ append_assoc found.list.before (x ∷ []) xs,
            ),
      ),
    )

for_is : (xs : List Node) (e n : Node) → compound_node compounds.For
    (heading kinds.Walk xs (one e) n ∷ []) ≡ node.for_node (nodes xs) e n
unfolding for_node for_by for_section last_of
for_is xs e n = refl

module _ (place : Place) (owner : DoOwner) (names : Names) (ts : Tokens) where
  pub for_fact : (known later : Names) (rest more : Tokens) (xs : List Node) (e n : Node)
      → first ts ≡ words.Key keywords.For → Fact (LoopTargets xs) names (behind ts) known rest
      → first rest ≡ words.Key keywords.In
      → Fact (Repeated e n) known (behind rest) later more → first more ≡ words.Key keywords.End
      → Fact (PrimaryRule place owner (node.for_node (nodes xs) e n)) names ts later (behind more)
  unfolding section
  for_fact known later rest more xs e n is targets_there there inner ends =
      let a = word_taken (words.Key keywords.For) ts is refl in
      let b = word_taken (words.Key keywords.End) more ends refl in
      let c = targets_there.0 in
      let f = behind_within rest in
      let g = inner.0 in
      compound_fact place owner names ts keywords.For compounds.For _ later (behind more) is refl refl (omega arith)
      (λ d room.
      let s : SectionNode = heading kinds.Walk xs (one e) n in
      let t = targets_there.2 d room there in
      let found = t.1 no_targets refl (length (behind ts) + 1) (omega arith) in
      let r = inner.2 d (omega arith) in
      let read : section (levels d) kinds.Walk 0 names (behind ts) ≡ Ok (s, later, more) =
      rw found.1 (rw found.2 (rw t.0 (rw there (rw r.3 (rw r.4 (rw r.5 refl)))))) in (
        s ∷ [],
        sections_read (levels d) compounds.For kinds.Walk s [] names later later (behind ts) more more read
            (steps_none (levels d) compounds.For kinds.Walk later more) ends,
        refl,
        for_is xs e n,
      ))

then_ends : (w : Word) (ts rest : Tokens) → then_at w ts ≡ Ok rest → ends_target w ≡ true
then_ends words.Newline ts rest h = refl
then_ends words.Semicolon ts rest h = refl
then_ends (words.Key keywords.Then) ts rest h = refl
then_ends w ts rest h = err_is_none (length ts) rest h

pub rescue_into : (names known later latest : Names) (ts rest more body last : Tokens) (cs : List Node) (x n : Node)
    → first ts ≡ words.Key keywords.Rescue → Fact (Classes cs) names (behind ts) known rest
    → first rest ≡ words.Mark marks.Arrow → Fact (InnerTarget owners.Call x) known (behind rest) later more
    → then_at (first more) more ≡ Ok body → Fact (Statements n) later body latest last
    → Fact (RescueClause (node.rescue_clause (nodes cs) (one x) n)) names ts latest last
unfolding section only
rescue_into names known later latest ts rest more body last cs x n is classes arrow assigned there inner =
    let free = then_free (first more) more body there in
    let less = then_within (first more) more body there in
    let one_taken = word_taken (words.Key keywords.Rescue) ts is refl in
    let two = word_taken (words.Mark marks.Arrow) rest arrow refl in
    let a = classes.0 in
    let b = assigned.0 in
    let c = inner.0 in (
      omega arith,
      refl,
      λ d room.
          let turned = target_turn (levels d) (length (behind rest) + 1) no_targets x known later (behind rest) more
          (omega arith) (assigned.2 d (omega arith)) (target_begins (behind rest) assigned.1)
          (then_ends (first more) more body there) in
          let stopped : targets_from (levels d) (length (behind rest) + 1) uses.For true no_targets known
          (behind rest) ≡ Ok (with_one x false no_targets, later, more) =
          turned ∙ rw free.1 (targets_step (levels d) (length (behind rest) + 1 - 1) uses.For false
          (with_one x false no_targets) later more (omega arith)) in (
            heading kinds.Rescue cs (one x) n,
            is,
            rw (classes.2 d (omega arith) (rw arrow refl))
                (rw arrow (rw stopped (rw there (rw (inner.2 d (omega arith)) refl)))),
            refl,
            refl,
          ),
    )
