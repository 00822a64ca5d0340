-- The example with a string reads so.
use Rattle.std.proofs.Common.{ℕ, [], ◌∷◌, Some, arith, refl, inl, inr, false}
use Rattle.rb_syntax.specs.declared.token.TokenKind.TheVariants as kinds
use Rattle.lexer_tables.specs.declared.context.Context.TheVariants as contexts
use Rattle.lexer_literals.specs.Integers.{digits, radix_at}
use Rattle.lexer_laws.specs.Closed.{delimited_by}
use Rattle.lexer_laws.specs.Example.{string_text, string_tokens}
use Rattle.lexer_laws.specs.Literals.{Literal, Double, None_more, One, IsElement, IsPiece, OpensString}
use Rattle.lexer_laws.specs.Numbers.{IsWholeInteger, IsNarrowInteger}
use Rattle.lexer_laws.specs.Place.{Place, start, after}
use Rattle.lexer_laws.specs.Reads.{Reads, Ends, Takes, OpensIt, Holds, Interpolates, Closes, EndsIt, IsEnd, IsToken, value_at, is_newline, bars_after}
use Rattle.lexer_laws.specs.Within.{Whole, Inside, Interpolation}
use Rattle.lexer_laws.proofs.Numbers.{whole_sound}

abbrev quoted : Literal
quoted = record { delimiters = Some (delimited_by 34); contents = Double; key = Some 0 }

opens : OpensString string_text start quoted 1
opens = record { quote = inr (refl, refl); delimiters_are = refl; key_is = inr (refl, refl); ends = refl }

element : IsElement quoted string_text 1 (97 ∷ []) 2
element = record {
  no_closer = λ e. absurd (omega (arith, e));
  no_opener = λ o. absurd (omega (arith, o.0));
  element = inl (
    record {
      byte = record { within = omega arith; bytes_are = refl; ends = refl };
      no_backslash = λ e. absurd (omega (arith, e));
    },
    λ b. absurd (omega (arith, b.0)),
  );
}

no_empty : (next : ℕ) → IsElement quoted string_text 1 [] next → ⊥
no_empty next x = elim (x.element) [
  | inl u ↦ let bad = u.0.byte.bytes_are in absurd (cc)
  | inr e ↦ absurd (omega (arith, e.2.backslash))
]

piece : IsPiece quoted string_text 0 1 (97 ∷ []) 0 2
piece = record {
  begins = record {
    elements = One 0 1 2 0 2 (97 ∷ []) [] element (None_more 0 2);
    some = λ e. absurd (cc);
    first = no_empty;
  };
  ends = inr (inl (refl, inl refl));
}

whole_there : IsWholeInteger string_text 4 5 1
unfolding digits radix_at
whole_there = whole_sound string_text 4 1 5 refl

number_there : IsNarrowInteger string_text 4 5 1
number_there = record {
  literal = whole_there;
  small = omega arith;
  no_tail = record {
    no_fraction = λ plain e. absurd (omega (arith, e));
    no_exponent = λ plain e. elim e [ inl a ↦ absurd (omega (arith, a)) | inr b ↦ absurd (omega (arith, b)) ];
    no_imaginary = λ e. absurd (omega (arith, e));
    no_rational = λ e. absurd (omega (arith, e));
    no_rational_imaginary = λ e f. absurd (omega (arith, e));
  };
}

abbrev number_place : Place
number_place = record { at = 4; context = contexts.Start; space = false; line_start = false; bars = false }

no_end : IsEnd string_text number_place → ⊥
no_end (inl e) = absurd (omega (arith, e))
no_end (inr e) = absurd (cc)

pub string_reads : Reads string_text string_tokens
unfolding IsToken after value_at is_newline bars_after
string_reads =
    OpensIt Whole [] start kinds.StringBegin quoted 1 _ tt (inl (refl, inl opens))
    (Holds Whole [] _ quoted 0 0 2 (97 ∷ []) _ piece
    (Interpolates Whole [] _ quoted 0 _ refl (omega arith, refl, (omega arith, refl, tt))
    (Takes Whole (Interpolation ∷ Inside quoted 0 ∷ []) (Interpolation ∷ Inside quoted 0 ∷ []) number_place
    (kinds.Integer 1) 5 _ tt (λ b. b) no_end number_there (inr (inr (λ e. absurd (cc), λ e. absurd (cc), refl)))
    (Closes Whole (Inside quoted 0 ∷ []) _ _ refl
    (EndsIt Whole [] _ quoted 0 _ (refl, refl) (λ begin k. absurd (omega (arith, k.1.colon)))
    (Ends [] _ tt (inl refl)))))))
