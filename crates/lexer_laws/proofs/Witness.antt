-- The example reads so.
use Rattle.std.proofs.Common.{◌≡◌, [], ◌∷◌, arith, refl, inl, inr, false}
use Rattle.rb_syntax.specs.declared.token.TokenKind.TheVariants as kinds
use Rattle.lexer_tables.specs.declared.context.Context.TheVariants as contexts
use Rattle.lexer_tables.specs.ByteClass.{is_blank}
use Rattle.lexer_tables.specs.Keyword.{keyword_of, of_more_bytes}
use Rattle.lexer_literals.specs.Integers.{digits, radix_at}
use Rattle.lexer_steps.specs.Scan.{name_end, run_end, mark_end}
use Rattle.lexer_laws.specs.Example.{text, tokens}
use Rattle.lexer_laws.specs.Numbers.{IsWholeInteger, IsNarrowInteger}
use Rattle.lexer_laws.specs.Place.{Place, start, spaced_to, after}
use Rattle.lexer_laws.specs.Gaps.{IsBlanks}
use Rattle.lexer_laws.specs.Reads.{Reads, Ends, Passes, Takes, IsEnd, IsToken, value_at, is_newline, bars_after}
use Rattle.lexer_laws.specs.Within.{Whole}
use Rattle.lexer_laws.specs.Words.{WordAt, IsIdentifier}
use Rattle.lexer_laws.proofs.Runs.{name_sound, run_ends, run_longest}
use Rattle.lexer_laws.proofs.Words.{word_sound}
use Rattle.lexer_laws.proofs.Numbers.{whole_sound}

word_there : WordAt text 0 1 1
unfolding name_end run_end mark_end
word_there = record { name_is = name_sound text 0 refl; word_is = word_sound text 0 refl; ascii = refl }

name_there : IsIdentifier text 0 contexts.Start (97 ∷ []) 1
unfolding keyword_of of_more_bytes
name_there = record {
  name = record {
    read = word_there;
    no_label = λ c. absurd (omega (arith, c.colon));
    not_in_table = refl;
    no_equal = λ d t. absurd (omega (arith, t.equal));
    bytes_are = refl;
  };
  small = refl;
}

blanks_there : IsBlanks text 1 2
unfolding run_end
blanks_there =
    let ends = run_ends is_blank text 1 (omega arith) in
    record {
      some = omega arith;
      run = record {
        there = ends.run;
        longest = λ other run. run_longest is_blank text 1 2 other ends run;
      };
    }

whole_there : IsWholeInteger text 2 3 1
unfolding digits radix_at
whole_there = whole_sound text 2 1 3 refl

number_there : IsNarrowInteger text 2 3 1
number_there = record {
  literal = whole_there;
  small = omega arith;
  no_tail = record {
    no_fraction = λ plain e. absurd (omega (arith, e));
    no_exponent = λ plain e. elim e [ inl a ↦ absurd (omega (arith, a)) | inr b ↦ absurd (omega (arith, b)) ];
    no_imaginary = λ e. absurd (omega (arith, e));
    no_rational = λ e. absurd (omega (arith, e));
    no_rational_imaginary = λ e f. absurd (omega (arith, e));
  };
}

abbrev behind_name : Place
behind_name = record { at = 1; context = contexts.Name; space = false; line_start = false; bars = false }

abbrev before_number : Place
before_number = spaced_to behind_name 2

no_end : (p : Place) → IsEnd text p → p.at ≡ 0 → ⊥
no_end p (inl e) z = absurd (omega (arith, e, z))
no_end p (inr e) z = let bad = rw z at e.1 in absurd (cc)

no_end_here : IsEnd text before_number → ⊥
no_end_here (inl e) = absurd (omega (arith, e))
no_end_here (inr e) = absurd (cc)

pub example_reads : Reads text tokens
unfolding IsToken after value_at is_newline bars_after
example_reads =
    Takes Whole [] [] start (kinds.Identifier (97 ∷ [])) 1 _ tt (λ b. b) (λ e. no_end start e refl) name_there
    (inr (inr (λ e. absurd (cc), λ e. absurd (cc), refl)))
    (Passes Whole [] behind_name before_number _ tt (λ b. b) (inl (inl blanks_there, refl))
    (Takes Whole [] [] before_number (kinds.Integer 1) 3 [] tt (λ b. b) no_end_here number_there
    (inr (inr (λ e. absurd (cc), λ e. absurd (cc), refl)))
    (Ends [] _ tt (inl refl))))
