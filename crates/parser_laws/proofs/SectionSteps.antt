-- Sections behind those that were found, and the parts of a form that they make.
use Rattle.std.proofs.Common.{◌≡◌, ℕ, ◌+◌, ◌-◌, ◌<◌, Bool, true, false, ◌&&◌, List, [], ◌∷◌, ◌++◌, length, Option, Some, None, Ok, refl, sym, ap, ◌∙◌, arith}
use Rattle.std.proofs.lemmas.Bool.{and_parts}
use Rattle.std.proofs.lemmas.List.{append-nil, append_assoc}
use Rattle.rb_syntax.specs.declared.keyword.Keyword.TheVariants as keywords
use Rattle.parser_tree.specs.Node as node
use Rattle.parser_tree.specs.Node.{Node, one, none}
use Rattle.parser_tokens.specs.Tokens.{first, behind, place_at}
use Rattle.parser_tokens.specs.Expect.{expect}
use Rattle.parser_tokens.specs.declared.expect.Wanted.TheVariants as wanted
use Rattle.parser_tokens.specs.declared.word.Word.TheVariants as words
use Rattle.parser_ahead.specs.Sections.{first_section, next_section}
use Rattle.parser_ahead.specs.declared.sections.Compound.{Compound}
use Rattle.parser_ahead.specs.declared.sections.Compound.TheVariants as compounds
use Rattle.parser_ahead.specs.declared.sections.SectionKind.{SectionKind}
use Rattle.parser_ahead.specs.declared.sections.SectionKind.TheVariants as kinds
use Rattle.parser_form_nodes.specs.declared.sections.LastPart.{LastPart}
use Rattle.parser_form_nodes.specs.declared.sections.LastPart.TheVariants as parts
use Rattle.parser_form_nodes.specs.Sections.{SectionNode, is_part, last_of, body_if, has_part, before_part, part_body, option_node}
use Rattle.parser_form_nodes.proofs.Lasts.{last_of_push, before_last_push}
use Rattle.parser_statements.specs.Sections.{heading, section, with_section, sections_turn, sections_from, section_list, sections}
use Rattle.parser_statements.proofs.Turns.{sections_step}
use Rattle.parser_forms.specs.Reading.{Names, Tokens, Inside}

differs : {A : Type 0} → true ≡ false → A
differs h = absurd (cc)

-- sections are read behind those that were found, from one of a kind up to one of another
abbrev pub Steps : Inside → Compound → SectionKind → SectionKind → List SectionNode → Names → Tokens → Names → Tokens
    → Type 0
Steps i form before k ss names ts known rest =
    (n : ℕ) (found : List SectionNode) → length ts < n → (m : ℕ) × (length rest < m)
    × (sections_from i n form before found names ts ≡ sections_from i m form k (found ++ ss) known rest)

-- a section with no heading, or none
abbrev pub part_sections : SectionKind → Option Node → List SectionNode
part_sections k None = []
part_sections k (Some n) = heading k [] none n ∷ []

-- the kind of the section before what follows such a section
abbrev pub behind_part : SectionKind → SectionKind → Option Node → SectionKind
behind_part before k None = before
behind_part before k (Some n) = k

-- neither else nor ensure
abbrev pub is_base : SectionKind → Bool
is_base kinds.Else = false
is_base kinds.Ensure = false
is_base kinds.Test = true
is_base kinds.LoopTest = true
is_base kinds.Walk = true
is_base kinds.Subject = true
is_base kinds.When = true
is_base kinds.Pattern = true
is_base kinds.Plain = true
is_base kinds.Rescue = true

abbrev pub all_base : List SectionNode → Bool
all_base [] = true
all_base (s ∷ ss) = is_base s.kind && all_base ss

module _ (i : Inside) (form : Compound) where
  pub steps_none : (k : SectionKind) (names : Names) (ts : Tokens) → Steps i form k k [] names ts names ts
  steps_none k names ts n found room = (
    n,
    room,
    ap (λ (ss : List SectionNode). sections_from i n form k ss names ts) (sym (append-nil found)),
  )

  pub steps_one : (before k : SectionKind) (s : SectionNode) (names known : Names) (ts rest : Tokens)
      → next_section form before (first ts) ≡ Some k
      → section i k (place_at ts) names (behind ts) ≡ Ok (s, known, rest) → length rest < length ts
      → Steps i form before k (s ∷ []) names ts known rest
  unfolding with_section
  steps_one before k s names known ts rest there read shorter n found room =
      let turned : sections_turn i (next_section form before (first ts)) (sections_from i (n - 1) form) found names
      ts ≡ sections_from i (n - 1) form k (found ++ s ∷ []) known rest = rw (there, read) refl in
      (n - 1, omega arith, sections_step i n form before found names ts (omega arith) ∙ turned)

  pub steps_then : (a b c : SectionKind) (xs ys : List SectionNode) (names known later : Names) (ts rest more : Tokens)
      → Steps i form a b xs names ts known rest → Steps i form b c ys known rest later more
      → Steps i form a c (xs ++ ys) names ts later more
  steps_then a b c xs ys names known later ts rest more before others n found room =
      let l = before n found room in
      let r = others l.0 (found ++ xs) l.1 in (
        r.0,
        r.1,
        l.2 ∙ r.2 ∙ ap (λ (ss : List SectionNode). sections_from i r.0 form c ss later more)
            (append_assoc found xs ys),
      )

  -- no section begins with end
  end_stops : (f : Compound) (k : SectionKind) → next_section f k (words.Key keywords.End) ≡ None
  end_stops compounds.If k = refl
  end_stops compounds.Unless k = refl
  end_stops compounds.While k = refl
  end_stops compounds.Until k = refl
  end_stops compounds.For k = refl
  end_stops compounds.Case k = refl
  end_stops compounds.Body k = refl

  -- the first section, those behind it, and end
  pub sections_read : (k : SectionKind) (s : SectionNode) (ss : List SectionNode) (names known later : Names)
      (ts rest more : Tokens) → section i (first_section form) 0 names ts ≡ Ok (s, known, rest)
      → Steps i form (first_section form) k ss known rest later more → first more ≡ words.Key keywords.End
      → sections i names form ts ≡ Ok (s ∷ ss, later, behind more)
  unfolding section_list with_section
  sections_read k s ss names known later ts rest more read steps ends =
      let t = steps (length rest + 1) (s ∷ []) (omega arith) in
      let some = t.1 in
      let stops : next_section form k (first more) ≡ None = ap (next_section form k) ends ∙ end_stops form k in
      let stopped : sections_turn i (next_section form k (first more)) (sections_from i (t.0 - 1) form) (s ∷ ss) later
      more ≡ Ok (s ∷ ss, later, more) = rw stops refl in
      let last : sections_from i (length rest + 1) form (first_section form) (s ∷ []) known rest ≡ Ok
      (s ∷ ss, later, more) =
      t.2 ∙ sections_step i t.0 form k (s ∷ ss) later more (omega arith) ∙ stopped in
      let ended : expect wanted.End more ≡ Ok (behind more) = rw ends refl in
      rw (read, last, ended) refl

-- neither else nor ensure is the last of such sections
base_no_part : (p : LastPart) (k : SectionKind) → is_base k ≡ true → is_part p k ≡ false
unfolding is_part
base_no_part parts.Else kinds.Else h = differs (sym h)
base_no_part parts.Else k h = refl
base_no_part parts.Ensure kinds.Ensure h = differs (sym h)
base_no_part parts.Ensure k h = refl

pub base_last : (p : LastPart) (ss : List SectionNode) → all_base ss ≡ true → has_part p (last_of ss) ≡ false
unfolding last_of
base_last p [] h = refl
base_last p (s ∷ []) h = base_no_part p s.kind (and_parts (is_base s.kind) true h).0
base_last p (s ∷ t ∷ ss) h = base_last p (t ∷ ss) (and_parts (is_base s.kind) (all_base (t ∷ ss)) h).1

pub all_base_then : (xs ys : List SectionNode) → all_base xs ≡ true → all_base ys ≡ true → all_base (xs ++ ys) ≡ true
all_base_then [] ys h g = g
all_base_then (x ∷ xs) ys h g =
    let p = and_parts (is_base x.kind) (all_base xs) h in
    rw (p.0, all_base_then xs ys p.1 g) refl

body_none : (p : LastPart) (o : Option SectionNode) → has_part p o ≡ false → body_if p o ≡ node.none
body_none p None h = refl
body_none p (Some s) h = rw h refl

part_none : (p : LastPart) (ss : List SectionNode) → has_part p (last_of ss) ≡ false → (before_part p ss ≡ ss)
    × (part_body p ss ≡ node.none)
unfolding before_part part_body
part_none p ss h = (rw h refl, body_none p (last_of ss) h)

part_there : (p : LastPart) (ss : List SectionNode) (s : SectionNode) → is_part p s.kind ≡ true
    → (before_part p (ss ++ s ∷ []) ≡ ss) × (part_body p (ss ++ s ∷ []) ≡ one s.body)
unfolding before_part part_body
part_there p ss s h = (rw (last_of_push ss s) (rw h (before_last_push ss s)), rw (last_of_push ss s) (rw h refl))

abbrev pub kind_of : LastPart → SectionKind
kind_of parts.Else = kinds.Else
kind_of parts.Ensure = kinds.Ensure

-- the sections before the last part, and its body
pub parts_of : (p : LastPart) (ss : List SectionNode) (o : Option Node) → has_part p (last_of ss) ≡ false
    → (before_part p (ss ++ part_sections (kind_of p) o) ≡ ss)
    × (part_body p (ss ++ part_sections (kind_of p) o) ≡ option_node o)
unfolding is_part
parts_of p ss None h =
    let alone = part_none p ss h in
    (ap (before_part p) (append-nil ss) ∙ alone.0, ap (part_body p) (append-nil ss) ∙ alone.1)
parts_of parts.Else ss (Some n) h = part_there parts.Else ss (heading kinds.Else [] none n) refl
parts_of parts.Ensure ss (Some n) h = part_there parts.Ensure ss (heading kinds.Ensure [] none n) refl
