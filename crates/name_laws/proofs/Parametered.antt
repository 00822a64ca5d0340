-- Parameters that are read bind the names that they declare.
use Rattle.std.proofs.Common.{◌≡◌, ◌∙◌, ℕ, zero, suc, ◌+◌, Bool, true, false, ◌&&◌, if◌then◌else◌, length, List, [], ◌∷◌, ◌++◌, Result, Ok, Err, refl, sym, subst}
use Rattle.std.proofs.lemmas.List.{append_assoc, append-nil}
use Rattle.rb_syntax.specs.declared.punctuator.Punctuator.{Punctuator}
use Rattle.rb_syntax.specs.declared.punctuator.Punctuator.TheVariants as marks
use Rattle.parser_tree.specs.Node.{Name}
use Rattle.parser_tokens.specs.Tokens.{first, behind, bytes_at}
use Rattle.parser_tokens.specs.Expect.{expect, expect_closing}
use Rattle.parser_tokens.specs.Starts.{begins_value, is_open_parenthesis}
use Rattle.parser_tokens.specs.declared.expect.Wanted.TheVariants as wanted
use Rattle.parser_tokens.specs.declared.word.Word.{Word}
use Rattle.parser_tokens.specs.declared.word.Word.TheVariants as words
use Rattle.parser_ahead.specs.Names.{variable, declared}
use Rattle.parser_ahead.specs.Primary.{is_comma_word}
use Rattle.parser_ahead.specs.declared.primary.DoOwner.TheVariants as owners
use Rattle.parser_ahead.specs.declared.groups.TargetUse.TheVariants as uses
use Rattle.parser_form_nodes.specs.Parameters.{ParameterNode, ParameterNodes, no_parameters, may_follow, put_parameter, begins_parameter}
use Rattle.parser_form_nodes.specs.Targets.{no_targets}
use Rattle.parser_forms.specs.Reading.{Names, Tokens, Inside}
use Rattle.parser_forms.specs.Parameters.{is_identifier, is_assign, is_open_bar, is_semicolon, marked_name, marked_alone, mark_at, locals_from, block_locals, comma_rest, with_default, named, keyword, pattern, parameter_at, parameter, parameters_from, parameters, barred, block_parameters, bare_parameters, open_parameters, lambda_parameters}
use Rattle.name_laws.proofs.Among.{within_none, within_same, Within}
use Rattle.name_laws.proofs.Growing.{plain, Grows, same, grows_on, grown, declares, declared_name, Knows}
use Rattle.name_laws.proofs.Keeping.{KnowsTargets, KeepsNames}
use Rattle.name_laws.proofs.Binding.{parameter_names, plain_none, plain_within, Binds, Has, none_bound}
use Rattle.name_laws.proofs.Putting.{put_binds, binds_on, comma_binds}
use Rattle.name_laws.proofs.Giving.{Gives, kept, on, past, either_gives, then_gives}

abbrev HasRead : Names → ParameterNode × Names × Tokens → Type 0
HasRead names r = Has names r.0 r.1

abbrev pub BindsRead : Names → ParameterNodes × Names × Tokens → Type 0
BindsRead base r = Binds base r.0 r.1

abbrev BindsList : Names → (ParameterNodes × Bool) × Names × Tokens → Type 0
BindsList base r = Binds base r.0.0 r.1

-- a variable, and others behind it
one_declared : (names : Names) (x : Name) (p : Bool) (known : Names) → (g : Grows (declared names x p) known)
    → known ≡ names ++ (variable x p ∷ plain g.0)
one_declared names x p known g = g.1 ∙ append_assoc names (variable x p ∷ []) (plain g.0)

parameter_alone : (x : Name) (xs : List Name) → Within (parameter_names (variable x true ∷ plain xs)) (x ∷ [])
parameter_alone x xs =
    subst (λ zs. Within (x ∷ zs) (x ∷ [])) (sym (plain_none xs)) (within_same (x ∷ []))

marked : (p : Punctuator) (names : Names) (ts : Tokens) → Gives (HasRead names) (marked_name p names ts)
marked marks.Star names ts =
    let x = bytes_at (behind ts) in (variable x true ∷ [], refl, within_same (x ∷ []))
marked marks.Ampersand names ts =
    let x = bytes_at (behind ts) in (variable x true ∷ [], refl, within_same (x ∷ []))
marked marks.StarStar names ts =
    let x = bytes_at (behind ts) in
    (variable x true ∷ [], refl, refl)
marked p names ts = tt

alone : (p : Punctuator) (names : Names) (ts : Tokens) → Gives (HasRead names) (marked_alone p names ts)
alone marks.Star names ts = ([], sym (append-nil names), within_none [])
alone marks.StarStar names ts =
    ([], sym (append-nil names), refl)
alone p names ts = tt

at_mark : (p : Punctuator) (names : Names) (ts : Tokens) → Gives (HasRead names) (mark_at p names ts)
at_mark p names ts =
    either_gives (HasRead names) (is_identifier (first (behind ts))) _ _ (marked p names ts) (alone p names ts)

grown_further : (names : Names) (x : Name) (read : Result (Names × Tokens) ℕ)
    → Gives (λ r. Grows (declared names x false) r.0) read → Gives (λ r. Grows names r.0) read
grown_further names x (Ok r) g = grows_on names (declared names x false) r.0 (declares names x) g
grown_further names x (Err e) g = tt

locals_grow : (n : ℕ) (more : Bool) (names : Names) (ts : Tokens)
    → Gives (λ r. Grows names r.0) (locals_from n more names ts)
unfolding locals_from
locals_grow zero more names ts = tt
locals_grow (suc n) false names ts = same names
locals_grow (suc n) true names ts =
    let x = bytes_at (behind ts) in
    either_gives (λ r. Grows names r.0) (is_identifier (first (behind ts))) _ _
    (grown_further names x _
    (locals_grow n (is_comma_word (first (behind (behind ts)))) (declared names x false) (behind (behind ts)))) tt

block_locals_grow : (names : Names) (ts : Tokens) → Gives (λ r. Grows names r.0) (block_locals names ts)
block_locals_grow names ts = locals_grow (length ts + 1) (is_semicolon (first ts)) names ts

module _ (i : Inside) (k : KeepsNames i) where
  defaulted : (names : Names) (ts : Tokens) → Gives (HasRead names) (with_default i names ts)
  defaulted names ts =
      let x = bytes_at ts in
      let known = declared names x true in
      on (λ r. Grows known r.1 × Knows r.1 r.0) (HasRead names) (i.argument known (behind (behind ts)) owners.Call) _
      (kept Knows known _ (k.argument known (behind (behind ts)) owners.Call)) (λ r h. (
        variable x true ∷ plain h.0.0,
        one_declared names x true r.1 h.0,
        (parameter_alone x h.0.0, (grown known r.1 h.0 x (declared_name names x true), h.1)),
      ))

  named_has : (names : Names) (ts : Tokens) → Gives (HasRead names) (named i names ts)
  named_has names ts =
      let x = bytes_at ts in
      either_gives (HasRead names) (is_assign (first (behind ts))) _ _ (defaulted names ts)
      (variable x true ∷ [], refl, (within_same (x ∷ []), tt))

  keyword_has : (names : Names) (ts : Tokens) → Gives (HasRead names) (keyword i names ts)
  keyword_has names ts =
      let x = bytes_at ts in
      let known = declared names x true in
      either_gives (HasRead names) (begins_value (first (behind ts))) _ _
      (on (λ r. Grows known r.1 × Knows r.1 r.0) (HasRead names) (i.argument known (behind ts) owners.Call) _
      (kept Knows known _ (k.argument known (behind ts) owners.Call)) (λ r h. (
        variable x true ∷ plain h.0.0,
        one_declared names x true r.1 h.0,
        refl,
      )))
      (variable x true ∷ [], refl, refl)

  pattern_has : (names : Names) (ts : Tokens) → Gives (HasRead names) (pattern i names ts)
  pattern_has names ts =
      on (λ r. Grows names r.1 × KnowsTargets r.1 r.0) (HasRead names)
      (i.targets names no_targets (behind ts) uses.Pattern) _
      (kept KnowsTargets names _ (k.targets names no_targets (behind ts) uses.Pattern (tt, (tt, tt)))) (λ r h.
      either_gives (HasRead names) r.0.several _ _
      (past (HasRead names) (expect_closing wanted.CloseParenthesis r.2) _
      (λ rest. (plain h.0.0, h.0.1, (plain_within h.0.0 [], h.1)))) tt)

  at_has : (w : Word) (names : Names) (ts : Tokens) → Gives (HasRead names) (parameter_at i w names ts)
  unfolding parameter_at
  at_has words.Identifier names ts = named_has names ts
  at_has words.Label names ts = keyword_has names ts
  at_has (words.Mark marks.OpenParenthesis) names ts = pattern_has names ts
  at_has (words.Mark p) names ts = at_mark p names ts
  at_has (words.Other o) names ts = ([], sym (append-nil names), refl)
  at_has w names ts = tt

  parameters_bind : (n : ℕ) (more comma : Bool) (base : Names) (l : ParameterNodes) (names : Names) (ts : Tokens)
      → Binds base l names → Gives (BindsList base) (parameters_from i n more comma l names ts)
  unfolding parameters_from
  parameters_bind zero more comma base l names ts b = tt
  parameters_bind (suc n) more comma base l names ts b =
      either_gives (BindsList base) (more && begins_parameter (first ts)) _ _
      (on (HasRead names) (BindsList base) (parameter i names ts) _ (at_has (first ts) names ts) (λ r h.
      then_gives (BindsList base) (may_follow r.0 l) _ _ (λ f.
      let c = is_comma_word (first r.2) in
      parameters_bind n c c base (put_parameter r.0 l) r.1 (if c then behind r.2 else r.2)
      (put_binds base names r.1 l r.0 f b h)) tt)) b

  list_binds : (names : Names) (ts : Tokens) → Gives (BindsList names) (parameters i names ts)
  list_binds names ts =
      parameters_bind (length ts + 1) true false names no_parameters names ts (none_bound names)

  rest_binds : (base names : Names) (l : ParameterNodes) (c : Bool) → Binds base l names
      → Binds base (comma_rest (l, c)) names
  rest_binds base names l true b = comma_binds base names l b
  rest_binds base names l false b = b

  barred_binds : (names : Names) (ts : Tokens) → Gives (BindsRead names) (barred i names ts)
  barred_binds names ts =
      on (BindsList names) (BindsRead names) (parameters i names (behind ts)) _ (list_binds names (behind ts)) (λ r b.
      on (λ l. Grows r.1 l.0) (BindsRead names) (block_locals r.1 r.2) _ (block_locals_grow r.1 r.2) (λ l g.
      past (BindsRead names) (expect wanted.CloseBar l.1) _ (λ rest.
      rest_binds names l.0 r.0.0 r.0.1 (binds_on names r.1 l.0 r.0.0 g b))))

  pub block_binds : (names : Names) (ts : Tokens) → Gives (BindsRead names) (block_parameters i names ts)
  block_binds names ts =
      either_gives (BindsRead names) (is_open_bar (first ts)) _ _ (barred_binds names ts) (none_bound names)

  bare_binds : (names : Names) (ts : Tokens) → Gives (BindsRead names) (bare_parameters i names ts)
  bare_binds names ts =
      on (BindsList names) (BindsRead names) (parameters i names ts) _ (list_binds names ts)
      (λ r b. either_gives (BindsRead names) r.0.1 _ _ tt b)

  pub open_binds : (names : Names) (ts : Tokens) → Gives (BindsRead names) (open_parameters i names ts)
  unfolding open_parameters
  open_binds names ts =
      either_gives (BindsRead names) (is_open_parenthesis (first ts)) _ _
      (on (BindsRead names) (BindsRead names) (bare_parameters i names (behind ts)) _ (bare_binds names (behind ts))
      (λ r b. past (BindsRead names) (expect_closing wanted.CloseParenthesis r.2) _ (λ rest. b)))
      (bare_binds names ts)

  pub lambda_binds : (names : Names) (ts : Tokens) → Gives (BindsRead names) (lambda_parameters i names ts)
  unfolding lambda_parameters
  lambda_binds names ts =
      either_gives (BindsRead names) (is_open_parenthesis (first ts)) _ _
      (on (BindsRead names) (BindsRead names) (bare_parameters i names (behind ts)) _ (bare_binds names (behind ts))
      (λ r b. on (λ l. Grows r.1 l.0) (BindsRead names) (block_locals r.1 r.2) _ (block_locals_grow r.1 r.2) (λ l g.
      past (BindsRead names) (expect_closing wanted.CloseParenthesis l.1) _
      (λ rest. binds_on names r.1 l.0 r.0 g b))))
      (bare_binds names ts)
