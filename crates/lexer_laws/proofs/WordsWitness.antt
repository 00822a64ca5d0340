-- The example with a list of words reads so.
use Rattle.std.proofs.Common.{◌≡◌, ℕ, [], ◌∷◌, Some, None, arith, refl, inl, inr}
use Rattle.std.specs.Prelude.{Ok, slice_index}
use Rattle.rb_syntax.specs.declared.token.TokenKind.TheVariants as kinds
use Rattle.lexer_laws.specs.Closed.{delimited_by}
use Rattle.lexer_laws.specs.Example.{words_text, words_tokens}
use Rattle.lexer_laws.specs.Literals.{Literal, Words, None_more, One, Opener, Closer, IsElement, IsOpener, IsPiece, OpensLetter}
use Rattle.lexer_laws.specs.Place.{start, after}
use Rattle.lexer_laws.specs.Reads.{Reads, Ends, OpensIt, Holds, Separates, EndsIt, value_at, is_newline, bars_after}
use Rattle.lexer_laws.specs.Within.{Whole}
use Rattle.rb_lexer.specs.Lexing.{tokens_of, run, advance, code_reach}
use Rattle.rb_lexer.specs.Heads.{begins_heredoc}
use Rattle.rb_lexer.specs.Code.{code_step, other_step}
use Rattle.rb_lexer.specs.Strings.{words_step, word_byte_step}
use Rattle.lexer_steps.specs.Signs.{sign_step, percent_step, percent_value_step, letter_step}
use Rattle.lexer_tables.specs.Marks.{operator_name}

abbrev words : Literal
words = record { delimiters = Some (delimited_by 40); contents = Words; key = None }

opens : OpensLetter words_text start kinds.WordsBegin words 3
opens = record {
  percent = inl (refl, refl, refl);
  letter = inr (inr (inl (refl, refl, refl)));
  delimiter = refl;
  delimiters_are = refl;
  no_key = refl;
  ends = refl;
}

element_a : IsElement words words_text 3 (97 ∷ []) 4
element_a = record {
  no_closer = λ e. absurd (omega (arith, e));
  no_opener = λ o. absurd (omega (arith, o.0));
  element = (
    refl,
    inl (record {
      byte = record { within = omega arith; bytes_are = refl; ends = refl };
      no_backslash = λ e. absurd (omega (arith, e));
    }),
  );
}

element_b : IsElement words words_text 6 (98 ∷ []) 7
element_b = record {
  no_closer = λ e. absurd (omega (arith, e));
  no_opener = λ o. absurd (omega (arith, o.0));
  element = (
    refl,
    inl (record {
      byte = record { within = omega arith; bytes_are = refl; ends = refl };
      no_backslash = λ e. absurd (omega (arith, e));
    }),
  );
}

no_empty : (next : ℕ) → IsElement words words_text 3 [] next → ⊥
no_empty next x = elim (x.element.1) [
  | inl u ↦ let bad = u.byte.bytes_are in absurd (cc)
  | inr e ↦ absurd (omega (arith, e.backslash))
]

word_a : IsPiece words words_text 0 3 (97 ∷ []) 0 4
word_a = record {
  begins = record {
    elements = One 0 3 4 0 4 (97 ∷ []) [] element_a (None_more 0 4);
    some = λ e. absurd (cc);
    first = no_empty;
  };
  ends = inr (inl refl);
}

opener : IsOpener words.delimiters (slice_index words_text 5)
opener = (refl, λ e. absurd (omega (arith, e)))

word_b : IsPiece words words_text 0 5 (40 ∷ 98 ∷ 41 ∷ []) 0 8
word_b = record {
  begins = record {
    elements = Opener 0 5 0 8 (98 ∷ 41 ∷ []) opener
        (One 1 6 7 0 8 (98 ∷ []) (41 ∷ []) element_b (Closer 0 7 0 8 [] refl (None_more 0 8)));
    some = λ e. absurd (cc);
    first = λ next x. x.no_opener opener;
  };
  ends = inl (refl, refl);
}

pub words_read : Reads words_text words_tokens
unfolding after value_at is_newline bars_after
words_read =
    OpensIt Whole [] start kinds.WordsBegin words 3 _ tt (inr (inr opens))
    (Holds Whole [] _ words 0 0 4 (97 ∷ []) _ word_a
    (Separates Whole [] _ words 0 _ refl refl
    (Holds Whole [] _ words 0 0 8 (40 ∷ 98 ∷ 41 ∷ []) _ word_b
    (EndsIt Whole [] _ words 0 _ (refl, refl) (λ begin k. let bad = k.0 in absurd (cc))
    (Ends [] _ tt (inl refl))))))

pub words_lexed : tokens_of words_text ≡ Ok words_tokens
unfolding tokens_of run advance code_reach begins_heredoc code_step other_step words_step word_byte_step sign_step percent_step percent_value_step letter_step operator_name
words_lexed = refl
