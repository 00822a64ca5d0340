-- The example with a heredoc reads so.
use Rattle.std.proofs.Common.{ℕ, [], ◌∷◌, List, None, arith, refl, inl, inr, false}
use Rattle.std.specs.Prelude.{take}
use Rattle.rb_heredoc.specs.Bodies.{bodies_at, bodies_in, body_in, is_end_line}
use Rattle.rb_heredoc.specs.Lines.{lines_of, are_white}
use Rattle.rb_syntax.specs.declared.token.TokenKind.TheVariants as kinds
use Rattle.lexer_tables.specs.declared.context.Context.TheVariants as contexts
use Rattle.rb_lexer.specs.declared.heads.HeadPlace.{HeadPlace}
use Rattle.rb_lexer.specs.Heads.{head_at}
use Rattle.lexer_steps.specs.Scan.{name_end, run_end}
use Rattle.lexer_laws.specs.Example.{heredoc_text, heredoc_tokens}
use Rattle.lexer_laws.specs.Gaps.{IsLine, is_line_byte}
use Rattle.lexer_laws.specs.Literals.{Literal, Double, None_more, One, IsElement, IsPiece}
use Rattle.lexer_laws.specs.Place.{Place, start, after}
use Rattle.lexer_laws.specs.Reads.{Reads, Ends, Takes, Holds, Heredoc, EndsBody, PassesBodies, IsEnd, IsToken, value_at, is_newline, bars_after}
use Rattle.lexer_laws.specs.Within.{IsHeredoc, Whole, Line, Body}
use Rattle.lexer_laws.proofs.Runs.{run_ends, run_longest}

abbrev head : HeadPlace
head = record { from = 2; to = 3; end = 3; dash = 65; first = 65 }

abbrev body : Literal
body = record { delimiters = None; contents = Double; key = None }

line : IsLine heredoc_text 3 5
unfolding run_end
line =
    let ends = run_ends is_line_byte heredoc_text 3 (omega arith) in
    record {
      last = 4;
      rest = record {
        there = ends.run;
        longest =
            λ other run. run_longest is_line_byte heredoc_text 3 4 other ends run;
      };
      ends = inr (omega arith, refl);
    }

heredoc : IsHeredoc heredoc_text Whole [] start head 5 7 5 9
unfolding head_at name_end run_end bodies_at bodies_in body_in is_end_line lines_of are_white
heredoc = record {
  outside = tt;
  not_wanted = refl;
  head = ((omega arith, refl, (omega arith, refl, tt)), refl, inl refl);
  begins = (line, refl);
  bodies = record { pieces = (98 ∷ 10 ∷ []) ∷ []; next = 9 };
  cut = refl;
  body = 98 ∷ 10 ∷ [];
  piece_is = refl;
  stops = refl;
  next_is = refl;
}

abbrev cut : List ℕ
cut = take 7 heredoc_text

element_b : IsElement body cut 5 (98 ∷ []) 6
element_b = record {
  no_closer = λ e. e;
  no_opener = λ e. e;
  element = inl (
    record {
      byte = record { within = omega arith; bytes_are = refl; ends = refl };
      no_backslash = λ e. absurd (omega (arith, e));
    },
    λ b. absurd (omega (arith, b.0)),
  );
}

element_newline : IsElement body cut 6 (10 ∷ []) 7
element_newline = record {
  no_closer = λ e. e;
  no_opener = λ e. e;
  element = inl (
    record {
      byte = record { within = omega arith; bytes_are = refl; ends = refl };
      no_backslash = λ e. absurd (omega (arith, e));
    },
    λ b. absurd (omega (arith, b.0)),
  );
}

no_empty : (next : ℕ) → IsElement body cut 5 [] next → ⊥
no_empty next x = elim (x.element) [
  | inl u ↦ let bad = u.0.byte.bytes_are in absurd (cc)
  | inr e ↦ absurd (omega (arith, e.2.backslash))
]

piece : IsPiece body cut 0 5 (98 ∷ 10 ∷ []) 0 7
piece = record {
  begins = record {
    elements = One 0 5 6 0 7 (98 ∷ []) (10 ∷ []) element_b
        (One 0 6 7 0 7 (10 ∷ []) [] element_newline (None_more 0 7));
    some = λ e. absurd (cc);
    first = no_empty;
  };
  ends = inr (inr (refl, refl));
}

abbrev behind_body : Place
behind_body = record { at = 3; context = contexts.Operand; space = false; line_start = false; bars = false }

no_end : IsEnd (take 5 heredoc_text) behind_body → ⊥
no_end (inl e) = absurd (omega (arith, e))
no_end (inr e) = absurd (cc)

pub heredoc_reads : Reads heredoc_text heredoc_tokens
unfolding IsToken after value_at is_newline bars_after
heredoc_reads =
    Heredoc Whole [] start head body 5 7 5 9 _ tt heredoc (λ e. absurd (omega (arith, e)))
    (refl, refl, inr (λ e. absurd (omega (arith, e)), refl))
    (Holds (Body 7 3 5 9) [] _ body 0 0 7 (98 ∷ 10 ∷ []) _ piece
    (EndsBody [] _ body 0 7 3 5 9 _ refl refl
    (Takes (Line 5 9) [] [] behind_body kinds.Semicolon 4 _ tt (λ e. absurd (omega (arith, e))) no_end (refl, refl)
    (inr (inr (λ e. absurd (cc), λ e. absurd (cc), refl)))
    (PassesBodies [] _ _ 5 9 _ tt refl (inl (refl, refl))
    (Ends [] _ tt (inl refl))))))
