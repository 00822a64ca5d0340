-- Methods, classes and modules that are derived are read.
use Rattle.std.proofs.Common.{◌≡◌, ℕ, ◌-◌, ◌<◌, ◌≤◌, Bool, true, false, List, [], ◌∷◌, ◌++◌, nat_lt, length, map, Option, Some, None, is_some, Ok, if◌then◌else◌, refl, sym, ap, subst, ◌∙◌, arith}
use Rattle.rb_syntax.specs.declared.keyword.Keyword.{Keyword}
use Rattle.rb_syntax.specs.declared.keyword.Keyword.TheVariants as keywords
use Rattle.rb_syntax.specs.declared.punctuator.Punctuator.{Punctuator}
use Rattle.rb_syntax.specs.declared.punctuator.Punctuator.TheVariants as marks
use Rattle.parser_tree.specs.Node as node
use Rattle.parser_tree.specs.Node.{Name, Node, nodes, none, one}
use Rattle.parser_tree.specs.Parts.{class_path}
use Rattle.parser_tokens.specs.Tokens.{first, behind, bytes_at, place_at}
use Rattle.parser_tokens.specs.Expect.{is_wanted, skip_newlines}
use Rattle.parser_tokens.specs.Operators.{assignment_at}
use Rattle.parser_tokens.specs.Starts.{is_newline, is_separator, is_open_parenthesis}
use Rattle.parser_tokens.specs.declared.expect.Wanted.TheVariants as wanted
use Rattle.parser_tokens.specs.declared.word.Word.{Word}
use Rattle.parser_tokens.specs.declared.word.Word.TheVariants as words
use Rattle.parser_tokens.proofs.Front.{newlines_end}
use Rattle.parser_ahead.specs.Names.{locals_from}
use Rattle.parser_ahead.specs.Primary.{keyword_primary, primary_at}
use Rattle.parser_ahead.specs.declared.primary.DoOwner.{DoOwner}
use Rattle.parser_ahead.specs.declared.primary.DoOwner.TheVariants as owners
use Rattle.parser_ahead.specs.declared.primary.Place.{Place}
use Rattle.parser_ahead.specs.declared.primary.Place.TheVariants as places
use Rattle.parser_ahead.specs.declared.primary.Primary.{Primary}
use Rattle.parser_ahead.specs.declared.primary.Primary.TheVariants as primaries
use Rattle.parser_ahead.specs.declared.sections.Compound.TheVariants as compounds
use Rattle.parser_ahead.specs.declared.sections.SectionKind.TheVariants as kinds
use Rattle.parser_nodes.specs.Calls.{whole}
use Rattle.parser_form_nodes.specs.Definitions.{HeadNode, name_place, named_singleton, singleton_at, is_dot, method_node}
use Rattle.parser_form_nodes.specs.Parameters.{ParameterNodes, block_of}
use Rattle.parser_form_nodes.specs.Sections.{SectionNode, last_of, rescue_of, option_node}
use Rattle.parser_forms.specs.Definitions as forms
use Rattle.parser_forms.specs.Definitions.{is_shift, is_less, method_head, define, class_form, module_form}
use Rattle.parser_operands.specs.Operands.{compound, primary_by}
use Rattle.parser_statements.specs.Sections.{heading, section, sections}
use Rattle.parser_forms.specs.Reading.{Names, Tokens, Inside}
use Rattle.rb_parser.specs.Levels.{level_above, levels}
use Rattle.parser_laws.specs.Rules.{Primary as PrimaryRule, Expression, Argument, Operation, Statements, Handlers, MethodParameters, MethodHead, ClassPath, Body, has_handlers, head_of, default_of, defaults, endless_method}
use Rattle.parser_laws.proofs.Heads.{head_opens, opens_begins}
use Rattle.parser_laws.proofs.Facts.{is_head, is_finish, Fact, levels_at, word_taken, behind_within, at_once, begins}
use Rattle.parser_laws.proofs.SectionSteps.{part_sections, steps_none, sections_read}
use Rattle.parser_laws.proofs.CompleteOperands.{operation_of}
use Rattle.parser_laws.proofs.CompleteBodies.{body_is}
use Rattle.parser_laws.proofs.CompleteParameters.{no_default, newlines_skipped}

differs : {A : Type 0} → true ≡ false → A
differs h = absurd (cc)

-- a body of statements alone
pub plain_body : (names known : Names) (ts rest : Tokens) (n : Node) → Fact (Statements n) names ts known rest
    → first rest ≡ words.Key keywords.End → Fact (Body n) names ts known (behind rest)
unfolding section last_of
plain_body names known ts rest n inner ends =
    let a = inner.0 in
    let b = word_taken (words.Key keywords.End) rest ends refl in (
      omega arith,
      refl,
      λ d room.
          let s : SectionNode = heading kinds.Plain [] none n in
          let read : sections (levels d) names compounds.Body ts ≡ Ok (s ∷ [], known, behind rest) =
          sections_read (levels d) compounds.Body kinds.Plain s [] names known known ts rest rest
          (rw (inner.2 d room) refl) (steps_none (levels d) compounds.Body kinds.Plain known rest) ends in
          rw read refl,
    )

more_than_one : (s t : SectionNode) (ss : List SectionNode) → nat_lt 1 (length (s ∷ t ∷ ss)) ≡ true
more_than_one s t ss = grind arith

several : (s : SectionNode) (ss : List SectionNode) (o e : Option Node) → has_handlers (map rescue_of ss) o e ≡ true
    → nat_lt 1 (length (s ∷ ((ss ++ part_sections kinds.Else o) ++ part_sections kinds.Ensure e))) ≡ true
several s (t ∷ ss) o e h = more_than_one s t ((ss ++ part_sections kinds.Else o) ++ part_sections kinds.Ensure e)
several s [] (Some n) e h = more_than_one s (heading kinds.Else [] none n) (part_sections kinds.Ensure e)
several s [] None (Some n) h = more_than_one s (heading kinds.Ensure [] none n) []
several s [] None None h = differs (sym h)

-- a body with clauses
pub handled_body : (names known later : Names) (ts rest more : Tokens) (n : Node) (cs : List Node) (o e : Option Node)
    → Fact (Statements n) names ts known rest → Fact (Handlers cs o e) known rest later more
    → has_handlers cs o e ≡ true → first more ≡ words.Key keywords.End
    → Fact (Body (node.begin_node n (nodes cs) (option_node o) (option_node e))) names ts later (behind more)
unfolding section
handled_body names known later ts rest more n cs o e inner handlers some ends =
    let a = inner.0 in
    let b = word_taken (words.Key keywords.End) more ends refl in
    let c = handlers.0 in (
      omega arith,
      refl,
      λ d room.
          let r = handlers.2 d (omega arith) in
          let s : SectionNode = heading kinds.Plain [] none n in
          let all : List SectionNode = (r.1 ++ part_sections kinds.Else o) ++ part_sections kinds.Ensure e in
          let read : sections (levels d) names compounds.Body ts ≡ Ok (s ∷ all, later, behind more) =
          sections_read (levels d) compounds.Body r.0 s all names known later ts rest more (rw (inner.2 d room) refl)
          r.4 ends in
          let many : nat_lt 1 (length (s ∷ all)) ≡ true =
          several s r.1 o e (subst (λ (xs : List Node). has_handlers xs o e ≡ true) (sym r.2) some) in
          rw read (rw many (ap (λ (x : Node). Ok (x, later, behind more)) (body_is s r.1 cs o e r.2 r.3))),
    )

place_free : (w : Word) (ts : Tokens) (x : Option ℕ) → name_place w ts ≡ Some x → (is_open_parenthesis w ≡ false)
    × (is_finish w ≡ false)
place_free (words.Mark p) ts x h = differs (sym (ap is_some h))
place_free words.Finish ts x h = differs (sym (ap is_some h))
place_free w ts x h = (refl, refl)

place_taken : (ts : Tokens) (x : Option ℕ) → name_place (first ts) ts ≡ Some x → length (behind ts) < length ts
place_taken ts x h = word_taken (first ts) ts refl (place_free (first ts) ts x h).1

pub plain_head : (names : Names) (ts : Tokens) (x : Option ℕ) → singleton_at names ts ≡ None
    → name_place (first ts) ts ≡ Some x → Fact (MethodHead (head_of none ts x)) names ts names (behind ts)
unfolding method_head
plain_head names ts x alone place = (
  place_taken ts x place,
  refl,
  λ d room. rw (place_free (first ts) ts x place).0 (rw alone (rw place refl)),
)

named_free : (w : Word) (names : Names) (x : Name) (n : Node) → named_singleton w names x ≡ Some n
    → is_open_parenthesis w ≡ false
named_free (words.Mark p) names x n h = differs (sym (ap is_some h))
named_free w names x n h = refl

some_then : {A : Type 0} (b : Bool) (o : Option A) (x : A) → (if b then o else None) ≡ Some x → o ≡ Some x
some_then true o x h = h
some_then false o x h = differs (sym (ap is_some h))

singleton_free : (names : Names) (ts : Tokens) (n : Node) → singleton_at names ts ≡ Some n
    → is_open_parenthesis (first ts) ≡ false
unfolding singleton_at
singleton_free names ts n h = named_free (first ts) names (bytes_at ts) n
    (some_then (is_dot (first (behind ts))) (named_singleton (first ts) names (bytes_at ts)) n h)

pub named_head : (names : Names) (ts : Tokens) (n : Node) (x : Option ℕ) → singleton_at names ts ≡ Some n
    → name_place (first (behind (behind ts))) (behind (behind ts)) ≡ Some x
    → Fact (MethodHead (head_of (one n) (behind (behind ts)) x)) names ts names (behind (behind (behind ts)))
unfolding method_head
named_head names ts n x named place =
    let one_taken = behind_within ts in
    let two = behind_within (behind ts) in
    let three = place_taken (behind (behind ts)) x place in
    (omega arith, refl, λ d room. rw (singleton_free names ts n named) (rw named (rw place refl)))

newline_free : (w : Word) → is_newline w ≡ true → assignment_at w ≡ None
newline_free words.Newline h = refl
newline_free w h = differs (sym h)

-- before a closing parenthesis and newlines stands no assignment
closing_free : (ts : Tokens) → first (skip_newlines ts) ≡ words.Mark marks.CloseParenthesis
    → assignment_at (first ts) ≡ None
closing_free ts closing = by_test (is_newline (first ts)) refl
  where
    by_test : (b : Bool) → is_newline (first ts) ≡ b → assignment_at (first ts) ≡ None
    by_test true there = newline_free (first ts) there
    by_test false there = ap (λ (us : Tokens). assignment_at (first us)) (sym (newlines_end ts there))
        ∙ ap assignment_at closing

pub value_head : (names known : Names) (ts rest closing last : Tokens) (n : Node) (x : Option ℕ)
    → first ts ≡ words.Mark marks.OpenParenthesis
    → Fact (Expression places.Command owners.Call n) names (behind ts) known rest
    → skip_newlines rest ≡ closing → first closing ≡ words.Mark marks.CloseParenthesis
    → first (behind closing) ≡ words.Mark marks.Dot → behind (behind closing) ≡ last
    → name_place (first last) last ≡ Some x
    → Fact (MethodHead (head_of (one n) last x)) names ts known (behind last)
unfolding method_head
value_head names known ts rest closing last n x is inner skips closes dot goes place =
    let one_taken = word_taken (words.Mark marks.OpenParenthesis) ts is refl in
    let a = newlines_skipped rest in
    let b : length closing ≤ length rest = subst (λ (us : Tokens). length us ≤ length rest) skips a in
    let c = behind_within closing in
    let e = behind_within (behind closing) in
    let f : length last ≤ length (behind closing) =
    subst (λ (us : Tokens). length us ≤ length (behind closing)) goes e in
    let g = place_taken last x place in
    let h = inner.0 in
    let free = closing_free rest (ap first skips ∙ closes) in (
      omega arith,
      refl,
      λ d room. rw is (rw (inner.2 d (omega arith) free)
          (rw skips (rw closes (rw dot (rw goes (rw place refl)))))),
    )

less_free : (w : Word) → is_separator w ≡ true → (is_less w ≡ false) × (is_wanted wanted.Separator w ≡ true)
    × (assignment_at w ≡ None) × (is_finish w ≡ false)
less_free words.Newline h = (refl, refl, refl, refl)
less_free words.Semicolon h = (refl, refl, refl, refl)
less_free w h = differs (sym h)

mark_shift : (p : Punctuator) → begins (words.Mark p) ≡ true → is_shift (words.Mark p) ≡ false
mark_shift marks.ShiftLeft h = differs (sym h)
mark_shift p h = refl

head_shift : (w : Word) → begins w ≡ true → is_shift w ≡ false
head_shift (words.Mark p) h = mark_shift p h
head_shift w h = refl

pub path_fact : (names known : Names) (ts rest : Tokens) (n s : Node) (x : Name)
    → Fact (Operation places.Argument 1 owners.Call n) names ts known rest → class_path n ≡ Some (s, x)
    → Fact (ClassPath s x) names ts known rest
path_fact names known ts rest n s x inner there = (
  inner.0,
  inner.1,
  λ d room. rw (operation_of places.Argument (levels d) names known ts rest 1 owners.Call n refl
      (inner.2 d room)) (rw there refl),
)

same_default : (n : Node) → forms.default_of n ≡ default_of n
same_default (node.optional_parameter x e) = refl
same_default n = refl

same_defaults : (ns : List Node) → forms.defaults ns ≡ defaults ns
same_defaults [] = refl
same_defaults (n ∷ ns) = rw (same_default n, same_defaults ns) refl

module _ (place : Place) (owner : DoOwner) (names : Names) (ts : Tokens) where
  -- a definition that is read behind its word
  definition_fact : (k : Keyword) (p : Primary) (n : Node) (known : Names) (rest : Tokens) → first ts ≡ words.Key k
      → is_head (words.Key k) ≡ true → keyword_primary k (behind ts) ≡ p → length rest < length ts
      → ((d : ℕ) → length (behind ts) ≤ d → primary_by (level_above (levels d)) p names ts owner ≡ Ok
      (whole n, known, rest)) → Fact (PrimaryRule place owner n) names ts known rest
  unfolding primary_at
  definition_fact k p n known rest is head there shorter read =
      let one_taken = word_taken (words.Key k) ts is refl in (
        shorter,
        head_opens ts (subst (λ w. is_head w ≡ true) (sym is) head),
        λ d room. at_once (levels d) place owner names known ts rest n (
            let below : primary_by (levels d) p names ts owner ≡ Ok (whole n, known, rest) =
            subst (λ (i : Inside). primary_by i p names ts owner ≡ Ok (whole n, known, rest))
            (sym (levels_at d (omega arith))) (read (d - 1) (omega arith)) in
            rw is (rw there below)),
      )

  pub define_fact : (known inner later : Names) (rest more last : Tokens) (h : HeadNode) (l : ParameterNodes) (b : Node)
      → first ts ≡ words.Key keywords.Def → Fact (MethodHead h) names (behind ts) known rest
      → Fact (MethodParameters l) [] rest inner more → assignment_at (first more) ≡ None
      → Fact (Body b) inner more later last
      → Fact (PrimaryRule place owner (method_node h (block_of (place_at ts) l (locals_from 0 later) b))) names ts
      known last
  unfolding primary_by compound define
  define_fact known inner later rest more last h l b is head parameters free body =
      let one_taken = word_taken (words.Key keywords.Def) ts is refl in
      let a = head.0 in
      let c = parameters.0 in
      let e = body.0 in
      definition_fact keywords.Def primaries.Define _ known last is refl refl (omega arith)
      (λ d room. rw (head.2 d room) (rw (parameters.2 d (omega arith))
      (rw (no_default (first more) free) (rw (body.2 d (omega arith)) refl))))

  pub endless_fact : (known inner later : Names) (rest more last : Tokens) (h : HeadNode) (l : ParameterNodes)
      (n : Node) → first ts ≡ words.Key keywords.Def → Fact (MethodHead h) names (behind ts) known rest
      → Fact (MethodParameters l) [] rest inner more → first more ≡ words.Mark marks.Assign
      → Fact (Argument places.Argument owners.Call n) inner (behind more) later last
      → Fact (PrimaryRule place owner (endless_method l (place_at more) n)) names ts known last
  unfolding primary_by compound define
  endless_fact known inner later rest more last h l n is head parameters assigned value =
      let one_taken = word_taken (words.Key keywords.Def) ts is refl in
      let a = head.0 in
      let b = behind_within more in
      let c = parameters.0 in
      let e = value.0 in
      definition_fact keywords.Def primaries.Define _ known last is refl refl (omega arith)
      (λ d room. rw (head.2 d room) (rw (parameters.2 d (omega arith))
      (rw assigned (rw (value.2 d (omega arith) refl refl) (rw (same_defaults l.optional) refl)))))

  pub class_fact : (known inner : Names) (rest last : Tokens) (s : Node) (x : Name) (b : Node)
      → first ts ≡ words.Key keywords.Class → Fact (ClassPath s x) names (behind ts) known rest
      → is_separator (first rest) ≡ true
      → Fact (Body b) [] (behind rest) inner last
      → Fact (PrimaryRule place owner (node.class_node s x none (locals_from 0 inner) b)) names ts known last
  unfolding primary_by compound class_form
  class_fact known inner rest last s x b is path separator body =
      let one_taken = word_taken (words.Key keywords.Class) ts is refl in
      let free = less_free (first rest) separator in
      let a = path.0 in
      let c = behind_within rest in
      let e = body.0 in
      definition_fact keywords.Class primaries.Class _ known last is refl refl (omega arith)
      (λ d room. rw (head_shift (first (behind ts)) (opens_begins (behind ts) path.1))
      (rw (path.2 d room) (rw (free.0) (rw (free.1) (rw (body.2 d (omega arith)) refl)))))

  pub subclass_fact : (known later inner : Names) (rest more last : Tokens) (s : Node) (x : Name) (n b : Node)
      → first ts ≡ words.Key keywords.Class → Fact (ClassPath s x) names (behind ts) known rest
      → first rest ≡ words.Mark marks.Less → Fact (Expression places.Command owners.Call n) known (behind rest) later
      more → is_separator (first more) ≡ true
      → Fact (Body b) [] (behind more) inner last
      → Fact (PrimaryRule place owner (node.class_node s x (one n) (locals_from 0 inner) b)) names ts later last
  unfolding primary_by compound class_form
  subclass_fact known later inner rest more last s x n b is path less parent separator body =
      let one_taken = word_taken (words.Key keywords.Class) ts is refl in
      let free = less_free (first more) separator in
      let a = path.0 in
      let c = behind_within rest in
      let f = parent.0 in
      let g = behind_within more in
      let e = body.0 in
      definition_fact keywords.Class primaries.Class _ later last is refl refl (omega arith)
      (λ d room. rw (head_shift (first (behind ts)) (opens_begins (behind ts) path.1))
      (rw (path.2 d room) (rw less (rw (parent.2 d (omega arith) free.2)
      (rw (free.1) (rw (body.2 d (omega arith)) refl))))))

  pub singleton_fact : (known inner : Names) (rest last : Tokens) (n b : Node) → first ts ≡ words.Key keywords.Class
      → first (behind ts) ≡ words.Mark marks.ShiftLeft
      → Fact (Expression places.Command owners.Call n) names (behind (behind ts)) known rest
      → is_separator (first rest) ≡ true
      → Fact (Body b) [] (behind rest) inner last
      → Fact (PrimaryRule place owner (node.singleton_class n (locals_from 0 inner) b)) names ts known last
  unfolding primary_by compound class_form
  singleton_fact known inner rest last n b is shift value separator body =
      let one_taken = word_taken (words.Key keywords.Class) ts is refl in
      let two = word_taken (words.Mark marks.ShiftLeft) (behind ts) shift refl in
      let free = less_free (first rest) separator in
      let a = value.0 in
      let c = behind_within rest in
      let e = body.0 in
      definition_fact keywords.Class primaries.Class _ known last is refl refl (omega arith)
      (λ d room. rw shift (rw (value.2 d (omega arith) free.2) (rw (free.1) (rw (body.2 d (omega arith)) refl))))

  pub module_fact : (known inner : Names) (rest last : Tokens) (s : Node) (x : Name) (b : Node) → first ts ≡ words.Key keywords.Module → Fact (ClassPath s x) names (behind ts) known rest
      → Fact (Body b) [] rest inner last
      → Fact (PrimaryRule place owner (node.module_node s x (locals_from 0 inner) b)) names ts known last
  unfolding primary_by compound module_form
  module_fact known inner rest last s x b is path body =
      let one_taken = word_taken (words.Key keywords.Module) ts is refl in
      let a = path.0 in
      let e = body.0 in
      definition_fact keywords.Module primaries.Module _ known last is refl refl (omega arith)
      (λ d room. rw (path.2 d room) (rw (body.2 d (omega arith)) refl))
