-- Blocks, lambdas, methods, classes and modules name known locals.
use Rattle.std.proofs.Common.{◌≡◌, ◌∙◌, ℕ, zero, suc, ◌+◌, ◌<◌, lt_irrefl, arith, Bool, true, false, length, take, drop, List, [], ◌∷◌, ◌++◌, Option, Some, None, Ok, is_some, refl, sym, ap, subst}
use Rattle.rb_syntax.specs.declared.keyword.Keyword.TheVariants as keywords
use Rattle.rb_syntax.specs.declared.punctuator.Punctuator.TheVariants as marks
use Rattle.parser_tree.specs.Node as node
use Rattle.parser_tree.specs.Node.{Name, Node, Nodes, nodes, one, none}
use Rattle.parser_tree.specs.Parts.{PlainNode, class_path}
use Rattle.parser_tokens.specs.Tokens.{first, behind, bytes_at, place_at}
use Rattle.parser_tokens.specs.Expect.{expect, expect_closing}
use Rattle.parser_tokens.specs.Starts.{is_open_parenthesis}
use Rattle.parser_tokens.specs.declared.expect.Wanted.TheVariants as wanted
use Rattle.parser_tokens.specs.declared.word.Word.{Word}
use Rattle.parser_tokens.specs.declared.word.Word.TheVariants as words
use Rattle.parser_ahead.specs.Names.{is_known, locals_of, locals_from}
use Rattle.parser_ahead.specs.Primary.{lambda_takes, block_of, lambda_block_at}
use Rattle.parser_ahead.specs.declared.names.Variable.{Variable}
use Rattle.parser_ahead.specs.declared.primary.BlockStyle.{BlockStyle}
use Rattle.parser_ahead.specs.declared.primary.BlockStyle.TheVariants as styles
use Rattle.parser_ahead.specs.declared.primary.DoOwner.{DoOwner}
use Rattle.parser_ahead.specs.declared.primary.DoOwner.TheVariants as owners
use Rattle.parser_ahead.specs.declared.primary.Place.TheVariants as places
use Rattle.parser_ahead.specs.declared.sections.Compound.TheVariants as compounds
use Rattle.parser_form_nodes.specs.Parameters.{ParameterNodes, no_parameters, begins_parameter, BlockNode, definition_of}
use Rattle.parser_form_nodes.specs.Definitions.{HeadNode, name_place, head_at, is_dot, called_name, named_singleton, singleton_at, method_by}
use Rattle.parser_forms.specs.Reading.{Names, Tokens, Read, Inside}
use Rattle.parser_forms.specs.Parameters.{is_assign, block_parameters, lambda_parameters, open_parameters, parameters_from}
use Rattle.parser_forms.specs.Definitions.{is_shift, is_less, defined, head_by, path_by, braces, body, body_by, block_body, block, lambda_by, lambda, value_head, method_head, method_rest, define, class_body, path, separated_body, singleton_class, parent, named_class, class_form, module_form}
use Rattle.rb_base.specs.Result.{◌>>=◌}
use Rattle.program_laws.proofs.Both.{either as choice}
use Rattle.name_laws.proofs.Among.{Within, within_each, in_left, in_right}
use Rattle.name_laws.proofs.Named.{Named, wider, all_wider}
use Rattle.name_laws.proofs.Growing.{known_names, plain, names_append, known_among, Grows, same, Knows, KnowsAll, still}
use Rattle.name_laws.proofs.Keeping.{Keeps, step, skip, either, KnowsBlock, KnowsSections, KeepsNames}
use Rattle.name_laws.proofs.Compounds.{MayKnow, body_known}
use Rattle.name_laws.proofs.Binding.{all_within, within, none_within, locals_within, Bound, Binds}
use Rattle.name_laws.proofs.Putting.{binds_on}
use Rattle.name_laws.proofs.Giving.{Gives, kept, on, past, either_gives, from}
use Rattle.name_laws.proofs.Parametered.{BindsRead, block_binds, open_binds, lambda_binds}

take_front : (base vs : List Variable) → take (length base) (base ++ vs) ≡ base
take_front [] vs = refl
take_front (v ∷ base) vs = ap (λ ws. v ∷ ws) (take_front base vs)

drop_front : (base vs : List Variable) → drop (length base) (base ++ vs) ≡ vs
drop_front [] vs = refl
drop_front (v ∷ base) vs = drop_front base vs

-- all that is known in a body is bound there or known around it
body_within : (base vs names : List Variable) (l : ParameterNodes) → names ≡ base ++ vs → Bound vs names l
    → Within (known_names names) (within l (locals_of vs) ++ known_names base)
body_within base vs names l e b =
    let ls = locals_of vs in
    let ys = within l ls ++ known_names base in
    let here = all_within vs ys (λ x h. in_left (within l ls) (known_names base) x (none_within l ls x (b.0 x h)))
    (λ x h. in_left (within l ls) (known_names base) x (locals_within l ls x h)) in
    subst (λ xs. Within xs ys) (sym (ap known_names e ∙ names_append base vs))
    (within_each (known_names base) (known_names vs) ys (in_right (within l ls) (known_names base)) here)

definition_known : (base names : Names) (l : ParameterNodes) (at : ℕ) (n : Node) → Binds base l names → Knows names n
    → Knows base (definition_of at l (locals_from (length base) names) n)
definition_known base names l at n b h =
    subst (λ ls. Knows base (definition_of at l (locals_of ls) n))
    (sym (ap (λ vs. drop (length base) vs) b.1 ∙ drop_front base b.0)) (λ inside.
    let bound = b.2 inside in
    let ys = within l (locals_of b.0) ++ known_names base in
    let w = body_within base b.0 names l b.1 bound in (
      bound.1.0,
      (
        all_wider (nodes l.required) (known_names names) ys w bound.1.1.0,
        (
          all_wider (nodes l.optional) (known_names names) ys w bound.1.1.1.0,
          (
            all_wider (nodes l.post) (known_names names) ys w bound.1.1.1.1,
            wider n (known_names names) ys w h,
          ),
        ),
      ),
    ))

defined_keeps : (base names : Names) (l : ParameterNodes) (at : ℕ) (n : Node) (ts : Tokens) → Binds base l names
    → Knows names n → Keeps KnowsBlock base (defined at (length base) l n names ts)
defined_keeps base names l at n ts b h =
    subst (λ c. Grows base c × Knows c (definition_of at l (locals_from (length base) names) n))
    (sym (ap (λ vs. take (length base) vs) b.1 ∙ take_front base b.0))
    (same base, definition_known base names l at n b h)

-- a method on a node, and the path of a class
abbrev KnowsHead : Names → HeadNode → Type 0
KnowsHead names h = KnowsAll names h.singleton

abbrev KnowsPath : Names → Node × Name → Type 0
KnowsPath names p = Knows names p.0

-- a class or module with its variables
abbrev KnowsBody : PlainNode × Tokens → Type 0
KnowsBody b = Named b.0.0 b.0.1

headed_keeps : (names : Names) (o : Option (Option ℕ)) (singleton : Nodes) (ts : Tokens) → KnowsAll names singleton
    → Keeps KnowsHead names (head_at o singleton ts >>= (λ r. Ok (r.0, names, r.1)))
headed_keeps names None singleton ts h = tt
headed_keeps names (Some o) singleton ts h = (same names, h)

called_known : (names : Names) (x : Name) (b : Bool) → is_known x names ≡ b → Knows names (called_name b x)
called_known names x true is = sym (known_among x names) ∙ is
called_known names x false is = (tt, (tt, tt))

singleton_known : (w : Word) (names : Names) (x : Name) → MayKnow names (named_singleton w names x)
singleton_known words.Constant names x = tt
singleton_known words.Identifier names x = called_known names x (is_known x names) refl
singleton_known words.MethodName names x = choice (λ n. MayKnow names n) _ (Some node.self_reference) None tt tt
singleton_known w names x = tt

at_known : (names : Names) (ts : Tokens) → MayKnow names (singleton_at names ts)
unfolding singleton_at
at_known names ts =
    choice (λ n. MayKnow names n) (is_dot (first (behind ts))) (named_singleton (first ts) names (bytes_at ts)) None
    (singleton_known (first ts) names (bytes_at ts)) tt

head_by_keeps : (o : Option Node) (names : Names) (ts : Tokens) → MayKnow names o
    → Keeps KnowsHead names (head_by o names ts)
head_by_keeps None names ts h = headed_keeps names (name_place (first ts) ts) none ts tt
head_by_keeps (Some n) names ts h =
    let rest = behind (behind ts) in headed_keeps names (name_place (first rest) rest) (one n) rest (h, tt)

path_known : (n : Node) (names : Names) (rest ts : Tokens) → Knows names n
    → Keeps KnowsPath names (path_by (class_path n) names rest ts)
unfolding class_path
path_known (node.constant x) names rest ts h = (same names, tt)
path_known (node.top_constant x) names rest ts h = (same names, tt)
path_known (node.scoped_constant e x) names rest ts h = (same names, h)
path_known n names rest ts h = tt

method_known : (names : Names) (o : Option ℕ) (h : HeadNode) (d : BlockNode) → KnowsAll names h.singleton
    → Named [] d.0 → Knows names (method_by o h d)
method_known names None h d k n = (k, n)
method_known names (Some at) h d k n = tt

plain_names : (xs : List Name) → known_names (plain xs) ≡ xs
plain_names [] = refl
plain_names (x ∷ xs) = ap (λ ys. x ∷ ys) (plain_names xs)

plain_locals : (xs : List Name) → locals_of (plain xs) ≡ xs
plain_locals [] = refl
plain_locals (x ∷ xs) = ap (λ ys. x ∷ ys) (plain_locals xs)

pub all_locals : (known : Names) → Grows [] known → known_names known ≡ locals_of known
all_locals known g =
    ap known_names g.1 ∙ plain_names g.0 ∙ sym (ap locals_of g.1 ∙ plain_locals g.0)

module _ (i : Inside) (k : KeepsNames i) where
  braces_keep : (names : Names) (ts : Tokens) → Keeps Knows names (braces i names ts)
  braces_keep names ts =
      step Knows Knows names (i.statements names ts) _ (k.statements names ts) (λ r g h.
      skip Knows r.1 (expect wanted.CloseBrace r.2) _ (λ rest. (same r.1, h)))

  body_keeps : (names : Names) (ts : Tokens) → Keeps Knows names (body i names ts)
  body_keeps names ts =
      step KnowsSections Knows names (i.sections names compounds.Body ts) _ (k.sections names compounds.Body ts)
      (λ r g h. (same r.1, body_known r.1 r.0 h))

  by_style : (style : BlockStyle) (names : Names) (ts : Tokens) → Keeps Knows names (body_by i style names ts)
  by_style styles.Brace names ts = braces_keep names ts
  by_style styles.Do names ts = body_keeps names ts

  block_body_keeps : (style : BlockStyle) (at : ℕ) (base names : Names) (l : ParameterNodes) (ts : Tokens)
      → Binds base l names → Keeps KnowsBlock base (block_body i style at (length base) l names ts)
  block_body_keeps style at base names l ts b =
      from (λ r. Grows names r.1 × Knows r.1 r.0) KnowsBlock base (body_by i style names ts) _
      (kept Knows names _ (by_style style names ts))
      (λ r h. defined_keeps base r.1 l at r.0 r.2 (binds_on base names r.1 l h.0 b) h.1)

  pub block_keeps : (names : Names) (ts : Tokens) (style : BlockStyle) → Keeps KnowsBlock names (block i names ts style)
  unfolding block
  block_keeps names ts style =
      from (BindsRead names) KnowsBlock names (block_parameters i names (behind ts)) _
      (block_binds i k names (behind ts)) (λ r b. block_body_keeps style (place_at ts) names r.1 r.0 r.2 b)

  whole_lambda : (base : Names) (read : Read BlockNode) → Keeps KnowsBlock base read
      → Keeps Knows base (read >>= (λ r. Ok (node.lambda r.0.0, r.1, r.2)))
  whole_lambda base read h = step KnowsBlock Knows base read _ h (λ r g n. (same r.1, n))

  bare_lambda : (style : Option BlockStyle) (at : ℕ) (base : Names) (l : ParameterNodes) (ts : Tokens)
      → Keeps Knows base (lambda_by i style true at (length base) l base ts)
  bare_lambda None at base l ts = tt
  bare_lambda (Some style) at base l ts =
      whole_lambda base _ (from (BindsRead base) KnowsBlock base (block_parameters i base (behind ts)) _
      (block_binds i k base (behind ts)) (λ r b. block_body_keeps style at base r.1 r.0 r.2 b))

  full_lambda : (style : Option BlockStyle) (at : ℕ) (base names : Names) (l : ParameterNodes) (ts : Tokens)
      → Binds base l names → Keeps Knows base (lambda_by i style false at (length base) l names ts)
  full_lambda None at base names l ts b = tt
  full_lambda (Some style) at base names l ts b =
      whole_lambda base _ (block_body_keeps style at base names l (behind ts) b)

  -- no parameters are read where a block begins
  none_from : (n : ℕ) (names : Names) (ts : Tokens) → 0 < n → begins_parameter (first ts) ≡ false
      → parameters_from i n true false no_parameters names ts ≡ Ok ((no_parameters, false), names, ts)
  unfolding parameters_from
  none_from zero names ts some b = absurd (lt_irrefl zero some)
  none_from (suc n) names ts some b = rw b refl

  none_read : (w : Word) (names : Names) (ts : Tokens) → first ts ≡ w → begins_parameter w ≡ false
      → is_open_parenthesis w ≡ false → lambda_parameters i names ts ≡ Ok (no_parameters, names, ts)
  unfolding lambda_parameters
  none_read w names ts is b o =
      rw (is, o) (rw (none_from (length ts + 1) names ts (omega arith) (ap begins_parameter is ∙ b)) refl)

  by_owner : (takes : Bool) (w : Word) (names : Names) (ts : Tokens) → first ts ≡ w
      → is_some (block_of takes w) ≡ true → lambda_parameters i names ts ≡ Ok (no_parameters, names, ts)
  by_owner takes (words.Mark marks.OpenBrace) names ts is h =
      none_read (words.Mark marks.OpenBrace) names ts is refl refl
  by_owner takes (words.Key keywords.Do) names ts is h = none_read (words.Key keywords.Do) names ts is refl refl
  by_owner takes w names ts is h = absurd (cc)

  pub lambda_keeps : (at : ℕ) (names : Names) (ts : Tokens) (owner : DoOwner) → Keeps Knows names
      (lambda i at names ts owner)
  unfolding lambda
  lambda_keeps at names ts owner = by_block (is_some (lambda_block_at owner ts)) refl
    where
      by_block : (b : Bool) → is_some (lambda_block_at owner ts) ≡ b
          → Keeps Knows names (lambda_parameters i names ts >>= (λ r.
          lambda_by i (lambda_block_at owner r.2) b at (length names) r.0 r.1 r.2))
      by_block true is =
          rw (by_owner (lambda_takes owner) (first ts) names ts refl is)
          (bare_lambda (lambda_block_at owner ts) at names no_parameters ts)
      by_block false is =
          from (BindsRead names) Knows names (lambda_parameters i names ts) _ (lambda_binds i k names ts)
          (λ r b. full_lambda (lambda_block_at owner r.2) at names r.1 r.0 r.2 b)

  value_head_keeps : (names : Names) (ts : Tokens) → Keeps KnowsHead names (value_head i names ts)
  value_head_keeps names ts =
      step Knows KnowsHead names (i.expression names (behind ts) places.Command owners.Call) _
      (k.expression names (behind ts) places.Command owners.Call) (λ r g h.
      skip KnowsHead r.1 (expect_closing wanted.CloseParenthesis r.2) _ (λ dot.
      skip KnowsHead r.1 (expect wanted.Dot dot) _
      (λ rest. headed_keeps r.1 (name_place (first rest) rest) (one r.0) rest (h, tt))))

  head_keeps : (names : Names) (ts : Tokens) → Keeps KnowsHead names (method_head i names ts)
  unfolding method_head
  head_keeps names ts =
      either KnowsHead names (is_open_parenthesis (first ts)) _ _ (value_head_keeps names ts)
      (head_by_keeps (singleton_at names ts) names ts (at_known names ts))

  rest_known : (at : ℕ) (known : Names) (h : HeadNode) (l : ParameterNodes) (names : Names) (ts : Tokens)
      → KnowsAll known h.singleton → Binds [] l names → Gives (λ r. Knows known r.0) (method_rest i at h l names ts)
  rest_known at known h l names ts s b =
      either_gives (λ r. Knows known r.0) (is_assign (first ts)) _ _
      (past (λ r. Knows known r.0) (i.argument names (behind ts) owners.Call) _ (λ r. tt))
      (on (λ r. Grows names r.1 × Knows r.1 r.0) (λ r. Knows known r.0) (body i names ts) _
      (kept Knows names _ (body_keeps names ts)) (λ r g.
      method_known known h.outside h _ s
      (definition_known [] r.1 l at r.0 (binds_on [] names r.1 l g.0 b) g.1)))

  pub define_keeps : (at : ℕ) (names : Names) (ts : Tokens) → Keeps Knows names (define i at names ts)
  unfolding define
  define_keeps at names ts =
      step KnowsHead Knows names (method_head i names ts) _ (head_keeps names ts) (λ h g s.
      from (BindsRead []) Knows h.1 (open_parameters i [] h.2) _ (open_binds i k [] h.2) (λ l b.
      from (λ r. Knows h.1 r.0) Knows h.1 (method_rest i at h.0 l.0 l.1 l.2) _
      (rest_known at h.1 h.0 l.0 l.1 l.2 s b) (λ r n. (same h.1, n))))

  class_body_known : (ts : Tokens) → Gives KnowsBody (class_body i ts)
  class_body_known ts =
      on (λ r. Grows [] r.1 × Knows r.1 r.0) KnowsBody (body i [] ts) _ (kept Knows [] _ (body_keeps [] ts))
      (λ r h. subst (λ xs. Named xs r.0) (all_locals r.1 h.0) h.1)

  separated_known : (ts : Tokens) → Gives KnowsBody (separated_body i ts)
  separated_known ts = past KnowsBody (expect wanted.Separator ts) _ (λ rest. class_body_known rest)

  path_keeps : (names : Names) (ts : Tokens) → Keeps KnowsPath names (path i names ts)
  path_keeps names ts =
      step Knows KnowsPath names (i.operation names ts 1 owners.Call) _ (k.operation names ts 1 owners.Call)
      (λ r g h. path_known r.0 r.1 r.2 ts h)

  singleton_keeps : (names : Names) (ts : Tokens) → Keeps Knows names (singleton_class i names ts)
  singleton_keeps names ts =
      step Knows Knows names (i.expression names (behind ts) places.Command owners.Call) _
      (k.expression names (behind ts) places.Command owners.Call) (λ r g h.
      from KnowsBody Knows r.1 (separated_body i r.2) _ (separated_known r.2) (λ b n. (same r.1, (h, n))))

  parent_keeps : (names : Names) (ts : Tokens) → Keeps KnowsAll names (parent i names ts)
  parent_keeps names ts =
      either KnowsAll names (is_less (first ts)) _ _
      (step Knows KnowsAll names (i.expression names (behind ts) places.Command owners.Call) _
      (k.expression names (behind ts) places.Command owners.Call) (λ r g h. (same r.1, (h, tt))))
      (same names, tt)

  named_keeps : (names : Names) (ts : Tokens) → Keeps Knows names (named_class i names ts)
  named_keeps names ts =
      step KnowsPath Knows names (path i names ts) _ (path_keeps names ts) (λ p g h.
      step KnowsAll Knows p.1 (parent i p.1 p.2) _ (parent_keeps p.1 p.2) (λ s f l.
      from KnowsBody Knows s.1 (separated_body i s.2) _ (separated_known s.2)
      (λ b n. (same s.1, (still p.1 s.1 p.0.0 f h, (l, n))))))

  pub class_keeps : (names : Names) (ts : Tokens) → Keeps Knows names (class_form i names ts)
  unfolding class_form
  class_keeps names ts =
      either Knows names (is_shift (first ts)) _ _ (singleton_keeps names ts) (named_keeps names ts)

  pub module_keeps : (names : Names) (ts : Tokens) → Keeps Knows names (module_form i names ts)
  unfolding module_form
  module_keeps names ts =
      step KnowsPath Knows names (path i names ts) _ (path_keeps names ts) (λ p g h.
      from KnowsBody Knows p.1 (class_body i p.2) _ (class_body_known p.2) (λ b n. (same p.1, (h, n))))
