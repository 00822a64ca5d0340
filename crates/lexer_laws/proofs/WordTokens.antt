-- Which token a word is.
use Rattle.std.proofs.Common.{◌≡◌, ℕ, ◌+◌, List, drop, get_or, arith, refl, sym, ◌∙◌, subst, Bool, true, false, eqb, not, ◌||◌, ◌&&◌, inl, inr, ◌⊎◌, if◌then◌else◌, Option, Some, None}
use Rattle.std.proofs.lemmas.Bool.{cases_Bool, or_cases, and_parts, eqb-true, eqb-false, eq-eqb}
use Rattle.rb_syntax.specs.declared.keyword.Keyword.{Keyword}
use Rattle.rb_syntax.specs.declared.token.TokenKind.{TokenKind}
use Rattle.rb_syntax.specs.declared.token.TokenKind.TheVariants as kinds
use Rattle.lexer_tables.specs.declared.context.Context.{Context}
use Rattle.lexer_tables.specs.declared.context.Context.TheVariants as contexts
use Rattle.lexer_tables.specs.ByteClass.{is_capital, is_name_start, is_wide}
use Rattle.lexer_tables.specs.Following.{is_def, wants_name}
use Rattle.lexer_tables.specs.Keyword.{keyword_of}
use Rattle.lexer_steps.specs.Scan.{name_end, mark_end, def_end}
use Rattle.lexer_steps.specs.State.{State}
use Rattle.lexer_steps.specs.Names.{spelled, is_colon, is_some, marked_word, name_of, wanted_name, word_step}
use Rattle.lexer_laws.specs.Place.{after}
use Rattle.lexer_laws.specs.Reads.{IsToken, value_at, is_newline, bars_after}
use Rattle.lexer_laws.specs.Taking.{place_of, took}
use Rattle.lexer_laws.specs.Words.{WordAt, IsColon, TakesEqual, IsLabel, IsKeyword, IsPlainName, IsIdentifier, IsConstant, EndsWanted, IsMethodWord}
use Rattle.lexer_laws.proofs.Steps.{passed, both_are, not_both}
use Rattle.lexer_laws.proofs.Runs.{name_sound, name_complete}
use Rattle.lexer_laws.proofs.Words.{word_sound, word_complete}

-- ---- colons and =

pub colon_is : (text : List ℕ) (at : ℕ) → is_colon text at ≡ true → IsColon text at
colon_is text at h =
    let p = and_parts (eqb (get_or text at 0) 58) (not (eqb (get_or text (at + 1) 0) 58)) h in
    record {
      colon = eqb-true (get_or text at 0) 58 p.0;
      alone = λ e. let t : eqb (get_or text (at + 1) 0) 58 ≡ true =
          eq-eqb (get_or text (at + 1) 0) 58 e in not_both _ (rw t at p.1) refl;
    }

it_is_colon : (text : List ℕ) (at : ℕ) → IsColon text at → is_colon text at ≡ true
it_is_colon text at c =
    elim (cases_Bool (eqb (get_or text (at + 1) 0) 58)) [
      | inl more ↦ absurd (c.alone (eqb-true (get_or text (at + 1) 0) 58 more))
      | inr none ↦ rw (eq-eqb (get_or text at 0) 58 c.colon, none) refl
    ]

no_colon : (text : List ℕ) (at : ℕ) → (IsColon text at → ⊥) → is_colon text at ≡ false
no_colon text at c = elim (cases_Bool (is_colon text at)) [
  | inl is ↦ absurd (c (colon_is text at is))
  | inr none ↦ none
]

abbrev pub follows : ℕ → ℕ → Bool
follows next second = eqb next 40 || (eqb next 32 && is_name_start second)

abbrev pub takes : List ℕ → ℕ → Bool
takes text at = eqb (get_or text at 0) 61 && follows (get_or text (at + 1) 0) (get_or text (at + 2) 0)

def_end_is : (text : List ℕ) (at : ℕ) → def_end text at ≡ (if takes text at then at + 1 else at)
unfolding def_end
def_end_is text at = refl

follows_is : (n s : ℕ) → follows n s ≡ true → (n ≡ 40) ⊎ ((n ≡ 32) × (is_name_start s ≡ true))
follows_is n s h =
    elim (or_cases (eqb n 40) (eqb n 32 && is_name_start s) h) [
      | inl bracket ↦ inl (eqb-true n 40 bracket)
      | inr space ↦ let p = and_parts (eqb n 32) (is_name_start s) space in inr (eqb-true n 32 p.0, p.1)
    ]

it_follows : (n s : ℕ) → (n ≡ 40) ⊎ ((n ≡ 32) × (is_name_start s ≡ true)) → follows n s ≡ true
it_follows n s (inl e) = rw e refl
it_follows n s (inr p) = rw (p.0, p.1) refl

takes_is : (text : List ℕ) (at : ℕ) → takes text at ≡ true → TakesEqual text at
takes_is text at h =
    let p = and_parts (eqb (get_or text at 0) 61) (follows (get_or text (at + 1) 0) (get_or text (at + 2) 0)) h in
    record {
      equal = eqb-true (get_or text at 0) 61 p.0;
      follows =
          follows_is (get_or text (at + 1) 0) (get_or text (at + 2) 0) p.1;
    }

it_takes : (text : List ℕ) (at : ℕ) → TakesEqual text at → takes text at ≡ true
it_takes text at t = rw (eq-eqb (get_or text at 0) 61 t.equal)
    (it_follows (get_or text (at + 1) 0) (get_or text (at + 2) 0) t.follows)

abbrev pub last_of : List ℕ → Context → ℕ → ℕ
last_of text c word = if is_def c then def_end text word else word

pub last_is : (text : List ℕ) (c : Context) (word : ℕ) → EndsWanted text c word (last_of text c word)
last_is text c word =
    elim (cases_Bool (is_def c)) [
      | inl def ↦ elim (cases_Bool (takes text word)) [
        | inl equal ↦ rw (def, def_end_is text word, equal) (inl (refl, takes_is text word equal, refl))
        | inr none ↦ rw (def, def_end_is text word, none) (inr ((λ d t. not_both _ (it_takes text word t) none), refl))
      ]
      | inr other ↦ rw other (inr ((λ d t. not_both false d refl), refl))
    ]

pub ends_once : (text : List ℕ) (c : Context) (word a b : ℕ) → EndsWanted text c word a → EndsWanted text c word b
    → a ≡ b
ends_once text c word a b (inl p) (inl q) = p.2 ∙ sym q.2
ends_once text c word a b (inl p) (inr q) = absurd (q.0 p.0 p.1)
ends_once text c word a b (inr p) (inl q) = absurd (p.0 q.0 q.1)
ends_once text c word a b (inr p) (inr q) = p.1 ∙ sym q.1

def_wants : (c : Context) → wants_name c ≡ false → is_def c ≡ true → ⊥
def_wants contexts.Start w d = absurd (cc)
def_wants contexts.Question w d = absurd (cc)
def_wants contexts.Block w d = absurd (cc)
def_wants contexts.Value w d = absurd (cc)
def_wants contexts.Jump w d = absurd (cc)
def_wants contexts.Name w d = absurd (cc)
def_wants contexts.Operand w d = absurd (cc)
def_wants contexts.Def w d = absurd (cc)
def_wants contexts.DefName w d = absurd (cc)
def_wants contexts.DefDot w d = absurd (cc)
def_wants contexts.Dot w d = absurd (cc)
def_wants contexts.Alias w d = absurd (cc)
def_wants contexts.AliasName w d = absurd (cc)
def_wants contexts.Undef w d = absurd (cc)
def_wants contexts.UndefName w d = absurd (cc)

-- ---- what the rules say is read

step_is : (text : List ℕ) (at name word : ℕ) (s : State) → WordAt text at name word
    → word_step text at s ≡ marked_word text at name word s
unfolding word_step
step_is text at name word s r =
    let e : name_end (at + 1) (drop (at + 1) text) ≡ name = name_complete text at name r.name_is in
    let w : mark_end text name ≡ word = rw e at (word_complete text at word r.word_is) in
    rw (e, w, r.ascii) refl

pub label_read : (text : List ℕ) (at end : ℕ) (bytes : List ℕ) (s : State) → IsLabel text at bytes end
    → word_step text at s ≡ passed (took s at (kinds.Label bytes)) end
unfolding after value_at is_newline bars_after
label_read text at end bytes s l = step_is text at l.name l.word s l.read
    ∙ rw (it_is_colon text l.word l.colon, l.bytes_are, l.ends) refl

pub keyword_read : (text : List ℕ) (at end : ℕ) (k : Keyword) (s : State) → IsKeyword text at s.context k end
    → word_step text at s ≡ passed (took s at (kinds.Keyword k)) end
unfolding after value_at is_newline bars_after
keyword_read text at end k s l = step_is text at l.name end s l.read
    ∙ rw (no_colon text end l.no_label, l.not_wanted, l.in_table) refl

plain_read : (text : List ℕ) (at end : ℕ) (bytes : List ℕ) (s : State) → IsPlainName text at s.context bytes end
    → word_step text at s ≡ name_of text at end false s
unfolding wanted_name name_of
plain_read text at end bytes s n =
    let same : eqb end end ≡ true = eq-eqb end end refl in
    let colon = no_colon text end n.no_label in
    step_is text at end end s n.read ∙ elim (cases_Bool (wants_name s.context)) [
      | inl wanted ↦
          let last : last_of text s.context end ≡ end = ends_once text s.context end _ _ (last_is text s.context end)
          (inr (n.no_equal, refl)) in
          rw (colon, wanted, last, same, n.not_in_table) refl
      | inr other ↦ rw (colon, other, n.not_in_table, same) refl
    ]

pub identifier_read : (text : List ℕ) (at end : ℕ) (bytes : List ℕ) (s : State)
    → IsIdentifier text at s.context bytes end → word_step text at s ≡ passed (took s at (kinds.Identifier bytes)) end
unfolding name_of after value_at is_newline bars_after
identifier_read text at end bytes s n = plain_read text at end bytes s n.name ∙ rw (n.small, n.name.bytes_are) refl

pub constant_read : (text : List ℕ) (at end : ℕ) (bytes : List ℕ) (s : State) → IsConstant text at s.context bytes end
    → word_step text at s ≡ passed (took s at (kinds.Constant bytes)) end
unfolding name_of after value_at is_newline bars_after
constant_read text at end bytes s n = plain_read text at end bytes s n.name ∙ rw (n.capital, n.name.bytes_are) refl

only_flag : (text : List ℕ) (at name end : ℕ) → ((end ≡ name → ⊥)
    ⊎ ((k : Keyword) × (keyword_of (spelled text at end) ≡ Some k)))
    → (not (eqb end name) || is_some (keyword_of (spelled text at end))) ≡ true
only_flag text at name end (inl other) = elim (cases_Bool (eqb end name))
    [ inl same ↦ absurd (other (eqb-true end name same)) | inr none ↦ rw none refl ]
only_flag text at name end (inr k) = elim (cases_Bool (eqb end name)) [
  | inl same ↦ rw (same, k.1) refl
  | inr none ↦ rw none refl
]

method_named : (text : List ℕ) (at end : ℕ) (bytes : List ℕ) (s : State) → IsMethodWord text at s.context bytes end
    → word_step text at s ≡ name_of text at end true s
unfolding wanted_name
method_named text at end bytes s m =
    let colon = no_colon text m.word m.no_label in
    step_is text at m.name m.word s m.read ∙ elim (m.only) [
      | inl p ↦
          let none : eqb m.word m.name ≡ false = elim (cases_Bool (eqb m.word m.name))
          [ inl same ↦ absurd (p.2 (eqb-true m.word m.name same)) | inr other ↦ other ] in
          rw (colon, p.0, p.3, none, p.1) refl
      | inr p ↦
          let last : last_of text s.context m.word ≡ end = ends_once text s.context m.word _ _
          (last_is text s.context m.word) p.1 in
          let flag = only_flag text at m.name end p.2 in
          rw (colon, p.0, last, flag) refl
    ]

pub method_read : (text : List ℕ) (at end : ℕ) (bytes : List ℕ) (s : State) → IsMethodWord text at s.context bytes end
    → word_step text at s ≡ passed (took s at (kinds.MethodName bytes)) end
unfolding name_of after value_at is_newline bars_after
method_read text at end bytes s m = method_named text at end bytes s m ∙ rw (m.bytes_are) refl

-- ---- each word is such a token

pub record Taken (text : List ℕ) (at : ℕ) (s : State) : Type 0 where
  pub kind : TokenKind
  pub end : ℕ
  pub rule : IsToken text (place_of s at) kind end
  pub read : word_step text at s ≡ passed (took s at kind) end

plain_taken : (text : List ℕ) (at end : ℕ) (s : State) → IsPlainName text at s.context (spelled text at end) end
    → Taken text at s
unfolding IsToken
plain_taken text at end s n =
    elim (cases_Bool (is_capital (get_or text at 0))) [
      | inl capital ↦
          let c : IsConstant text at s.context (spelled text at end) end = record { name = n; capital = capital } in
          record {
            kind = kinds.Constant (spelled text at end);
            end = end;
            rule = c;
            read = constant_read text at end (spelled text at end) s c;
          }
      | inr small ↦
          let i : IsIdentifier text at s.context (spelled text at end) end = record { name = n; small = small } in
          record {
            kind = kinds.Identifier (spelled text at end);
            end = end;
            rule = i;
            read = identifier_read text at end (spelled text at end) s i;
          }
    ]

method_taken : (text : List ℕ) (at end : ℕ) (s : State) → IsMethodWord text at s.context (spelled text at end) end
    → Taken text at s
unfolding IsToken
method_taken text at end s m = record {
  kind = kinds.MethodName (spelled text at end);
  end = end;
  rule = inl m;
  read = method_read text at end (spelled text at end) s m;
}

label_taken : (text : List ℕ) (at name word : ℕ) (s : State) → WordAt text at name word → IsColon text word
    → Taken text at s
unfolding IsToken
label_taken text at name word s r c =
    let l : IsLabel text at (spelled text at word) (word + 1) =
    record { name = name; word = word; read = r; colon = c; bytes_are = refl; ends = refl } in
    record {
      kind = kinds.Label (spelled text at word);
      end = word + 1;
      rule = l;
      read = label_read text at (word + 1) (spelled text at word) s l;
    }

keyword_taken : (text : List ℕ) (at end : ℕ) (k : Keyword) (s : State) → IsKeyword text at s.context k end
    → Taken text at s
unfolding IsToken
keyword_taken text at end k s l = record {
  kind = kinds.Keyword k;
  end = end;
  rule = l;
  read = keyword_read text at end k s l;
}

alike : (text : List ℕ) (at name word end : ℕ) → WordAt text at name word → name ≡ end → word ≡ end
    → WordAt text at end end
alike text at name word end r e f = subst (λ (w : ℕ). WordAt text at end w) f
    (subst (λ (n : ℕ). WordAt text at n word) e r)

not_wanted_taken : (text : List ℕ) (at name word : ℕ) (s : State) (found : Option Keyword) → WordAt text at name word
    → (IsColon text word → ⊥) → wants_name s.context ≡ false → keyword_of (spelled text at word) ≡ found
    → Taken text at s
not_wanted_taken text at name word s (Some k) r no_label wants found =
    keyword_taken text at word k s (record {
      name = name;
      read = r;
      no_label = no_label;
      not_wanted = wants;
      in_table = found;
    })
not_wanted_taken text at name word s None r no_label wants found =
    elim (cases_Bool (eqb word name)) [
      | inl same ↦ plain_taken text at word s (record {
        read = alike text at name word word r (sym (eqb-true word name same)) refl;
        no_label = no_label;
        not_in_table = found;
        no_equal = λ d t. def_wants s.context wants d;
        bytes_are = refl;
      })
      | inr other ↦ method_taken text at word s (record {
        name = name;
        word = word;
        read = r;
        no_label = no_label;
        only = inl (wants, refl, eqb-false word name other, found);
        bytes_are = refl;
      })
    ]

-- no name is wanted to end where the name without its mark does, but it takes no =
no_equal_there : (text : List ℕ) (at name word end : ℕ) (c : Context) → WordAt text at name word
    → EndsWanted text c word end → end ≡ name → (word ≡ end) × (is_def c ≡ true → TakesEqual text end → ⊥)
no_equal_there text at name word end c r (inl p) e = absurd
    (omega (arith, p.2, e, r.word_is.longest name (inl r.name_is.there)))
no_equal_there text at name word end c r (inr p) e = (sym p.1, rw p.1 (p.0))

wanted_taken : (text : List ℕ) (at name word end : ℕ) (s : State) (found : Option Keyword) → WordAt text at name word
    → (IsColon text word → ⊥) → wants_name s.context ≡ true → EndsWanted text s.context word end
    → keyword_of (spelled text at end) ≡ found → Taken text at s
wanted_taken text at name word end s (Some k) r no_label wants ends found =
    method_taken text at end s (record {
      name = name;
      word = word;
      read = r;
      no_label = no_label;
      only = inr (wants, ends, inr (k, found));
      bytes_are = refl;
    })
wanted_taken text at name word end s None r no_label wants ends found =
    elim (cases_Bool (eqb end name)) [
      | inl same ↦
          let e = eqb-true end name same in
          let there = no_equal_there text at name word end s.context r ends e in
          plain_taken text at end s (record {
            read = alike text at name word end r (sym e) there.0;
            no_label = rw (← there.0) no_label;
            not_in_table = found;
            no_equal = there.1;
            bytes_are = refl;
          })
      | inr other ↦ method_taken text at end s (record {
        name = name;
        word = word;
        read = r;
        no_label = no_label;
        only = inr (wants, ends, inl (eqb-false end name other));
        bytes_are = refl;
      })
    ]

pub word_taken : (text : List ℕ) (at name word : ℕ) (s : State) → WordAt text at name word → Taken text at s
word_taken text at name word s r =
    elim (cases_Bool (is_colon text word)) [
      | inl colon ↦ label_taken text at name word s r (colon_is text word colon)
      | inr none ↦
          let no_label : IsColon text word → ⊥ = λ c. not_both _ (it_is_colon text word c) none in
          elim (cases_Bool (wants_name s.context)) [
            | inl wants ↦ wanted_taken text at name word (last_of text s.context word) s _ r no_label wants
                (last_is text s.context word) refl
            | inr other ↦ not_wanted_taken text at name word s _ r no_label other refl
          ]
    ]

pub word_token : (text : List ℕ) (at end : ℕ) (s t : State) → is_name_start (get_or text at 0) ≡ true
    → is_wide (get_or text (name_end (at + 1) (drop (at + 1) text)) 0) ≡ false → word_step text at s ≡ passed t end
    → (kind : TokenKind) × IsToken text (place_of s at) kind end × (t ≡ took s at kind)
word_token text at end s t begins ascii h =
    let r : WordAt text at (name_end (at + 1) (drop (at + 1) text))
    (mark_end text (name_end (at + 1) (drop (at + 1) text))) =
    record { name_is = name_sound text at begins; word_is = word_sound text at begins; ascii = ascii } in
    let w = word_taken text at _ _ s r in
    let p = both_are t (took s at w.kind) end w.end (sym h ∙ w.read) in
    (w.kind, subst (λ (e : ℕ). IsToken text (place_of s at) w.kind e) (sym p.1) w.rule, p.0)
