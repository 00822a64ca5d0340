-- What follows of a name that is called, alone or behind a value.
use Rattle.std.proofs.Common.{◌≡◌, true, false, not, ◌&&◌, [], ◌∷◌, Option, Some, None, is_some, Ok, inl, inr, refl, sym, subst}
use Rattle.std.proofs.lemmas.Bool.{cases_Bool, and_parts}
use Rattle.rb_syntax.specs.declared.outside.Outside.TheVariants as outsides
use Rattle.rb_syntax.specs.declared.punctuator.Punctuator.{Punctuator}
use Rattle.rb_syntax.specs.declared.punctuator.Punctuator.TheVariants as marks
use Rattle.parser_tree.specs.Node.{Node}
use Rattle.parser_tokens.specs.Tokens.{first, behind, bytes_at, place_at}
use Rattle.parser_tokens.specs.Starts.{is_open_parenthesis, opens_arguments, begins_argument, makes_call, postfix_at}
use Rattle.parser_tokens.specs.declared.starts.Postfix.{Postfix}
use Rattle.parser_tokens.specs.declared.starts.Postfix.TheVariants as postfixes
use Rattle.parser_tokens.specs.declared.word.Word.{Word}
use Rattle.parser_tokens.specs.declared.word.Word.TheVariants as words
use Rattle.parser_ahead.specs.Names.{is_known}
use Rattle.parser_ahead.specs.Primary.{primary_at, block_at, allows_command, is_name_word}
use Rattle.parser_ahead.specs.declared.primary.DoOwner.{DoOwner}
use Rattle.parser_ahead.specs.declared.primary.Place.{Place}
use Rattle.parser_ahead.specs.declared.primary.Primary.TheVariants as primaries
use Rattle.parser_nodes.specs.Calls.{CalleeNode, method_callee, outside_callee, callee, is_target}
use Rattle.parser_operands.specs.Operands as operands
use Rattle.parser_operands.specs.Operands.{is_outside_name, suffix, postfixed}
use Rattle.parser_forms.specs.Reading.{Names, Tokens, Inside}
use Rattle.parser_laws.specs.Rules.{is_blockless, is_alone, takes_target, is_constant, joins_name, joins_constant, method_behind}
use Rattle.parser_laws.proofs.Results.{differs, not_true}
use Rattle.parser_laws.proofs.Facts.{is_head, is_finish, Settled}

pub none_there : {A : Type 0} (o : Option A) → not (is_some o) ≡ true → o ≡ None
none_there None h = refl
none_there (Some x) h = differs (sym h)

module _ (place : Place) (owner : DoOwner) (ts : Tokens) (h : is_alone place owner ts ≡ true) where
  alone_parts : (opens_arguments ts ≡ false) × (block_at owner ts ≡ None)
      × ((allows_command place && begins_argument ts) ≡ false)
  alone_parts =
      let p = and_parts (not (opens_arguments ts))
      (is_blockless owner ts && not (allows_command place && begins_argument ts)) h in
      let q = and_parts (is_blockless owner ts) (not (allows_command place && begins_argument ts)) p.1 in (
        not_true (opens_arguments ts) p.0,
        none_there (block_at owner ts) q.0,
        not_true (allows_command place && begins_argument ts) q.1,
      )

  -- a callee alone
  pub alone_read : (i : Inside) (c : CalleeNode) (names : Names) → suffix i c names ts owner ≡ Ok (callee c, names, ts)
  unfolding suffix
  alone_read i c names = rw (alone_parts.0, alone_parts.1) refl

  pub alone_settled : (c : CalleeNode) → (is_target (callee c) && takes_target place (first ts)) ≡ false
      → Settled (callee c) place ts
  alone_settled c free = (alone_parts.2, free)

pub name_head : (w : Word) → is_name_word w ≡ true → is_head w ≡ true
name_head words.Identifier h = refl
name_head words.Constant h = refl
name_head words.MethodName h = refl
name_head w h = differs (sym h)

pub name_plain : (w : Word) → is_name_word w ≡ true → (is_open_parenthesis w ≡ false) × (is_outside_name w ≡ false)
name_plain words.Identifier h = (refl, refl)
name_plain words.Constant h = (refl, refl)
name_plain words.MethodName h = (refl, refl)
name_plain w h = differs (sym h)

pub opened_word : (ts : Tokens) → opens_arguments ts ≡ true → first ts ≡ words.Mark marks.OpenParenthesis
unfolding opens_arguments
opened_word ts h = by_word (first ts) (and_parts (is_open_parenthesis (first ts)) _ h).0
  where
    by_word : (w : Word) → is_open_parenthesis w ≡ true → w ≡ words.Mark marks.OpenParenthesis
    by_word (words.Mark marks.OpenParenthesis) g = refl
    by_word w g = differs (sym g)

-- a name before what makes a call of it is called
pub name_primary : (names : Names) (ts : Tokens) (w : Word) → first ts ≡ w → is_name_word w ≡ true
    → makes_call (behind ts) ≡ true → primary_at names ts ≡ primaries.Name
unfolding primary_at
name_primary names ts words.Identifier there h opened =
    elim (cases_Bool (is_known (bytes_at ts) names)) [
      | inl known ↦ rw (there, known, opened) refl
      | inr other ↦
          rw (there, other) refl
    ]
name_primary names ts words.Constant there h opened = rw (there, opened) refl
name_primary names ts words.MethodName there h opened = rw there refl
name_primary names ts w there h opened = differs (sym h)

pub same_constant : (w : Word) → operands.is_constant w ≡ is_constant w
same_constant words.Constant = refl
same_constant w = refl

module _ (i : Inside) (n : Node) (names : Names) (ts : Tokens) (owner : DoOwner)
    (is : is_name_word (first (behind ts)) ≡ true) where
  -- a name behind . is a method
  pub dot_named : postfixed i n postfixes.Dot names ts owner ≡ suffix i (method_callee n (bytes_at (behind ts)) false)
      names (behind (behind ts)) owner
  unfolding postfixed
  dot_named = let plain = name_plain (first (behind ts)) is in rw (plain.0, plain.1, is) refl

  -- so it is behind &.
  pub safe_named : postfixed i n postfixes.Safe names ts owner ≡ suffix i
      (outside_callee outsides.SafeNavigation (place_at ts) (n ∷ [])) names (behind (behind ts)) owner
  unfolding postfixed
  safe_named = let plain = name_plain (first (behind ts)) is in rw (plain.0, plain.1, is) refl

  -- and behind ::, but for a constant without a parenthesis behind it
  pub scope_named : (is_constant (first (behind ts)) && not (opens_arguments (behind (behind ts)))) ≡ false
      → postfixed i n postfixes.Scope names ts owner ≡ suffix i (method_callee n (bytes_at (behind ts)) true) names
      (behind (behind ts)) owner
  unfolding postfixed
  scope_named other =
      let plain = name_plain (first (behind ts)) is in
      let none : (operands.is_constant (first (behind ts)) && not (opens_arguments (behind (behind ts)))) ≡ false =
      subst (λ b. (b && not (opens_arguments (behind (behind ts)))) ≡ false) (sym (same_constant (first (behind ts))))
      other in
      rw (plain.1, is) (rw none refl)

module _ (i : Inside) (n : Node) (names : Names) (ts : Tokens) (owner : DoOwner)
    (is : first (behind ts) ≡ words.Other outsides.NonAsciiName) where
  dot_outside : postfixed i n postfixes.Dot names ts owner ≡ suffix i
      (outside_callee outsides.NonAsciiName (place_at (behind ts)) (n ∷ [])) names (behind (behind ts)) owner
  unfolding postfixed
  dot_outside = rw is refl

  safe_outside : postfixed i n postfixes.Safe names ts owner ≡ suffix i
      (outside_callee outsides.NonAsciiName (place_at (behind ts)) (n ∷ [])) names (behind (behind ts)) owner
  unfolding postfixed
  safe_outside = rw is refl

  scope_outside : postfixed i n postfixes.Scope names ts owner ≡ suffix i
      (outside_callee outsides.NonAsciiName (place_at (behind ts)) (n ∷ [])) names (behind (behind ts)) owner
  unfolding postfixed
  scope_outside = rw is refl

-- what a mark between a value and a name makes of them
pub record Joins (w : Word) : Type 0 where
  pub mark : Postfix
  pub there : postfix_at w ≡ Some mark
  pub some : is_finish w ≡ false
  pub named : (i : Inside) (n : Node) (names : Names) (ts : Tokens) (owner : DoOwner)
      → is_name_word (first (behind ts)) ≡ true → joins_constant w (behind ts) ≡ false
      → postfixed i n mark names ts owner ≡ suffix i (method_behind w n (bytes_at (behind ts)) (place_at ts)) names
      (behind (behind ts)) owner
  pub outside : (i : Inside) (n : Node) (names : Names) (ts : Tokens) (owner : DoOwner)
      → first (behind ts) ≡ words.Other outsides.NonAsciiName
      → postfixed i n mark names ts owner ≡ suffix i
      (outside_callee outsides.NonAsciiName (place_at (behind ts)) (n ∷ [])) names (behind (behind ts)) owner

mark_joins : (p : Punctuator) → joins_name (words.Mark p) ≡ true → Joins (words.Mark p)
mark_joins marks.Dot h = record {
  mark = postfixes.Dot;
  there = refl;
  some = refl;
  named =
      λ i n names ts owner is other. dot_named i n names ts owner is;
  outside = dot_outside;
}
mark_joins marks.AmpersandDot h = record {
  mark = postfixes.Safe;
  there = refl;
  some = refl;
  named =
      λ i n names ts owner is other. safe_named i n names ts owner is;
  outside = safe_outside;
}
mark_joins marks.ColonColon h = record {
  mark = postfixes.Scope;
  there = refl;
  some = refl;
  named = scope_named;
  outside = scope_outside;
}
mark_joins p h = differs (sym h)

pub joins : (w : Word) → joins_name w ≡ true → Joins w
joins (words.Mark p) h = mark_joins p h
joins w h = differs (sym h)
