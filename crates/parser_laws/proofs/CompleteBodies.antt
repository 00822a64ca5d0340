-- begin with rescue clauses, else and ensure that is derived is read.
use Rattle.std.proofs.Common.{◌≡◌, true, false, List, [], ◌∷◌, ◌++◌, map, Option, Some, None, Ok, refl, sym, ap, ◌∙◌, arith}
use Rattle.std.proofs.lemmas.List.{append-nil}
use Rattle.rb_syntax.specs.declared.keyword.Keyword.TheVariants as keywords
use Rattle.parser_tree.specs.Node as node
use Rattle.parser_tree.specs.Node.{Node, nodes, none}
use Rattle.parser_tokens.specs.Tokens.{first, behind}
use Rattle.parser_tokens.specs.Expect.{then_at}
use Rattle.parser_tokens.specs.Starts.{begins_value}
use Rattle.parser_tokens.specs.declared.word.Word.TheVariants as words
use Rattle.parser_ahead.specs.Sections.{next_section, takes_rescue, takes_ensure}
use Rattle.parser_ahead.specs.declared.primary.DoOwner.{DoOwner}
use Rattle.parser_ahead.specs.declared.primary.Place.{Place}
use Rattle.parser_ahead.specs.declared.sections.Compound.TheVariants as compounds
use Rattle.parser_ahead.specs.declared.sections.SectionKind.{SectionKind}
use Rattle.parser_ahead.specs.declared.sections.SectionKind.TheVariants as kinds
use Rattle.parser_form_nodes.specs.declared.sections.LastPart.TheVariants as parts
use Rattle.parser_form_nodes.specs.Sections.{SectionNode, is_part, last_of, has_part, before_part, part_body, rescue_of, first_of, rest_of, rescued_body, option_node, is_whole}
use Rattle.parser_form_nodes.proofs.Lasts.{last_of_push}
use Rattle.parser_statements.specs.Sections.{heading, tests, section}
use Rattle.parser_forms.specs.Reading.{Names, Tokens}
use Rattle.rb_parser.specs.Levels.{levels}
use Rattle.parser_laws.specs.Rules.{Primary as PrimaryRule, Statements, Otherwise, WhenValues, Classes, RescueClauses, RescueClause, Ensured, Handlers}
use Rattle.parser_laws.proofs.Facts.{Fact, word_taken}
use Rattle.parser_laws.proofs.SectionSteps.{part_sections, behind_part, all_base, steps_none, steps_one, steps_then, sections_read, base_last, parts_of}
use Rattle.parser_laws.proofs.CompleteCompounds.{then_within, then_free, itself_within, filled, compound_fact}
use Rattle.parser_laws.proofs.CompleteClauses.{tests_read}

differs : {A : Type 0} → true ≡ false → A
differs h = absurd (cc)

pub no_class : (names : Names) (ts : Tokens) → begins_value (first ts) ≡ false → Fact (Classes []) names ts names ts
unfolding tests
no_class names ts none_there = (itself_within ts, refl, λ d room ends. rw none_there refl)

pub some_classes : (names known : Names) (ts rest : Tokens) (vs : List Node) → Fact (WhenValues vs) names ts known rest
    → Fact (Classes vs) names ts known rest
some_classes names known ts rest vs inner =
    let fewer = inner.0 in
    (omega arith, refl, λ d room ends. tests_read (levels d) vs names known ts rest (inner.2 d room) inner.1 ends)

pub rescue_fact : (names known later : Names) (ts rest body more : Tokens) (cs : List Node) (n : Node)
    → first ts ≡ words.Key keywords.Rescue → Fact (Classes cs) names (behind ts) known rest
    → then_at (first rest) rest ≡ Ok body
    → Fact (Statements n) known body later more
    → Fact (RescueClause (node.rescue_clause (nodes cs) none n)) names ts later more
unfolding section
rescue_fact names known later ts rest body more cs n is classes there inner =
    let free = then_free (first rest) rest body there in
    let less = then_within (first rest) rest body there in
    let one = word_taken (words.Key keywords.Rescue) ts is refl in
    let a = classes.0 in
    let b = inner.0 in (
      omega arith,
      refl,
      λ d room. (
        heading kinds.Rescue cs none n,
        is,
        rw (classes.2 d (omega arith) free.1) (rw free.2 (rw there (rw (inner.2 d (omega arith)) refl))),
        refl,
        refl,
      ),
    )

pub no_rescue : (names : Names) (ts : Tokens) → Fact (RescueClauses []) names ts names ts
no_rescue names ts = (
  itself_within ts,
  refl,
  λ d room before takes. (before, [], takes, refl, refl, steps_none (levels d) compounds.Body before names ts),
)

rescue_next : (before : SectionKind) → takes_rescue before ≡ true
    → next_section compounds.Body before (words.Key keywords.Rescue) ≡ Some kinds.Rescue
rescue_next before h = rw h refl

pub more_rescues : (names known later : Names) (ts rest more : Tokens) (c : Node) (cs : List Node)
    → Fact (RescueClause c) names ts known rest → Fact (RescueClauses cs) known rest later more
    → Fact (RescueClauses (c ∷ cs)) names ts later more
more_rescues names known later ts rest more c cs one others =
    let a = one.0 in
    let b = others.0 in (
      omega arith,
      refl,
      λ d room before takes.
          let r = one.2 d room in
          let there : next_section compounds.Body before (first ts) ≡ Some kinds.Rescue =
          ap (next_section compounds.Body before) r.1 ∙ rescue_next before takes in
          let step = steps_one (levels d) compounds.Body before kinds.Rescue r.0 names known ts rest there r.2 a in
          let o = others.2 d (omega arith) kinds.Rescue refl in (
            o.0,
            r.0 ∷ o.1,
            o.2,
            ap (λ (x : Node). x ∷ map rescue_of o.1) r.3 ∙ ap (λ (xs : List Node). c ∷ xs) o.3,
            rw r.4 o.4,
            steps_then (levels d) compounds.Body before kinds.Rescue o.0 (r.0 ∷ []) o.1 names known later ts rest more
                step o.5,
          ),
    )

pub no_ensure : (names : Names) (ts : Tokens) → Fact (Ensured None) names ts names ts
no_ensure names ts = (
  itself_within ts,
  refl,
  λ d room before takes. steps_none (levels d) compounds.Body before names ts,
)

ensure_next : (before : SectionKind) → takes_ensure before ≡ true
    → next_section compounds.Body before (words.Key keywords.Ensure) ≡ Some kinds.Ensure
ensure_next before h = rw h refl

pub ensure_fact : (names known : Names) (ts rest : Tokens) (n : Node) → first ts ≡ words.Key keywords.Ensure
    → Fact (Statements n) names (behind ts) known rest → Fact (Ensured (Some n)) names ts known rest
unfolding section
ensure_fact names known ts rest n is inner =
    let a = word_taken (words.Key keywords.Ensure) ts is refl in
    let b = inner.0 in (
      omega arith,
      refl,
      λ d room before takes.
          let there : next_section compounds.Body before (first ts) ≡ Some kinds.Ensure =
          ap (next_section compounds.Body before) is ∙ ensure_next before takes in
          steps_one (levels d) compounds.Body before kinds.Ensure (heading kinds.Ensure [] none n) names known ts rest
          there (rw (inner.2 d (omega arith)) refl) (omega arith),
    )

else_next : (k : SectionKind) → takes_rescue k ≡ true
    → next_section compounds.Body k (words.Key keywords.Else) ≡ Some kinds.Else
else_next k h = rw h refl

rescue_takes : (k : SectionKind) → takes_rescue k ≡ true → takes_ensure k ≡ true
rescue_takes kinds.Plain h = refl
rescue_takes kinds.Rescue h = refl
rescue_takes k h = differs (sym h)

part_takes : (k : SectionKind) (o : Option Node) → takes_rescue k ≡ true
    → takes_ensure (behind_part k kinds.Else o) ≡ true
part_takes k None h = rescue_takes k h
part_takes k (Some n) h = refl

pub handled : (names known later latest : Names) (ts rest more last : Tokens) (cs : List Node) (o e : Option Node)
    → Fact (RescueClauses cs) names ts known rest → Fact (Otherwise o) known rest later more
    → Fact (Ensured e) later more latest last → Fact (Handlers cs o e) names ts latest last
handled names known later latest ts rest more last cs o e clauses other ensured =
    let a = clauses.0 in
    let b = other.0 in
    let c = ensured.0 in (
      omega arith,
      refl,
      λ d room.
          let r = clauses.2 d room kinds.Plain refl in
          let there : next_section compounds.Body r.0 (words.Key keywords.Else) ≡ Some kinds.Else = else_next r.0 r.2 in
          let one = steps_then (levels d) compounds.Body kinds.Plain r.0 (behind_part r.0 kinds.Else o) r.1
          (part_sections kinds.Else o) names known later ts rest more r.5
          (other.2 d (omega arith) compounds.Body r.0 there) in
          let all = steps_then (levels d) compounds.Body kinds.Plain (behind_part r.0 kinds.Else o)
          (behind_part (behind_part r.0 kinds.Else o) kinds.Ensure e) (r.1 ++ part_sections kinds.Else o)
          (part_sections kinds.Ensure e) names later latest ts more last one
          (ensured.2 d (omega arith) (behind_part r.0 kinds.Else o) (part_takes r.0 o r.2)) in
          (behind_part (behind_part r.0 kinds.Else o) kinds.Ensure e, r.1, r.3, r.4, all),
    )

-- no ensure is the last before the last part
ends_no_ensure : (ss : List SectionNode) (o : Option Node) → all_base ss ≡ true
    → has_part parts.Ensure (last_of (ss ++ part_sections kinds.Else o)) ≡ false
unfolding is_part
ends_no_ensure ss None h = ap (λ (xs : List SectionNode). has_part parts.Ensure (last_of xs)) (append-nil ss)
    ∙ base_last parts.Ensure ss h
ends_no_ensure ss (Some n) h = ap (has_part parts.Ensure) (last_of_push ss (heading kinds.Else [] none n))

-- the node of a body with its clauses
pub body_is : (s : SectionNode) (ss : List SectionNode) (cs : List Node) (o e : Option Node) → map rescue_of ss ≡ cs
    → all_base (s ∷ ss) ≡ true
    → rescued_body (s ∷ ((ss ++ part_sections kinds.Else o) ++ part_sections kinds.Ensure e)) ≡ node.begin_node s.body
    (nodes cs) (option_node o) (option_node e)
unfolding rescued_body first_of rest_of
body_is s ss cs o e clauses base =
    let p = parts_of parts.Ensure ((s ∷ ss) ++ part_sections kinds.Else o) e (ends_no_ensure (s ∷ ss) o base) in
    let before : before_part parts.Ensure (s ∷ ((ss ++ part_sections kinds.Else o) ++ part_sections kinds.Ensure e)) ≡ s
    ∷ (ss ++ part_sections kinds.Else o) = p.0 in
    let ensured : part_body parts.Ensure (s ∷ ((ss ++ part_sections kinds.Else o) ++ part_sections kinds.Ensure e))
    ≡ option_node e = p.1 in
    let q = parts_of parts.Else (s ∷ ss) o (base_last parts.Else (s ∷ ss) base) in
    let inner : before_part parts.Else (s ∷ (ss ++ part_sections kinds.Else o)) ≡ s ∷ ss = q.0 in
    let other : part_body parts.Else (s ∷ (ss ++ part_sections kinds.Else o)) ≡ option_node o = q.1 in
    rw (before, ensured) (rw (inner, other) (ap
    (λ (xs : List Node). node.begin_node s.body (nodes xs) (option_node o) (option_node e)) clauses))

module _ (place : Place) (owner : DoOwner) (names : Names) (ts : Tokens) where
  pub begin_fact : (known later : Names) (rest more : Tokens) (n : Node) (cs : List Node) (o e : Option Node)
      → first ts ≡ words.Key keywords.Begin → Fact (Statements n) names (behind ts) known rest
      → Fact (Handlers cs o e) known rest later more → first more ≡ words.Key keywords.End
      → Fact (PrimaryRule place owner (node.begin_node n (nodes cs) (option_node o) (option_node e))) names ts later
      (behind more)
  unfolding section
  begin_fact known later rest more n cs o e is inner handlers ends =
      let a = word_taken (words.Key keywords.Begin) ts is refl in
      let b = word_taken (words.Key keywords.End) more ends refl in
      let c = inner.0 in
      let f = handlers.0 in
      compound_fact place owner names ts keywords.Begin compounds.Body _ later (behind more) is refl refl (omega arith)
      (λ d room.
      let r = handlers.2 d (omega arith) in
      let s : SectionNode = heading kinds.Plain [] none n in
      let all : List SectionNode = (r.1 ++ part_sections kinds.Else o) ++ part_sections kinds.Ensure e in
      let base : all_base (s ∷ r.1) ≡ true = r.3 in
      let whole : is_whole compounds.Body (s ∷ all) ≡ true = rw (filled s all) refl in (
        s ∷ all,
        sections_read (levels d) compounds.Body r.0 s all names known later (behind ts) rest more
            (rw (inner.2 d room) refl) r.4 ends,
        whole,
        body_is s r.1 cs o e r.2 base,
      ))
