-- A program without a line.
use Rattle.std.proofs.Common.{◌≡◌, ℕ, zero, suc, ◌+◌, ◌*◌, ◌≤◌, List, [], refl, sym, ◌∙◌, ap, arith, true, false, inr}
use Rattle.std.proofs.lemmas.List.Elements.{All-cons, All-nil}
use Rattle.path_core.specs.Form.{Form, seq, none}
use Rattle.rite_code.specs.Code.{IsText, IsItem, IsBody, none as no_tree, node, IsWhole}
use Rattle.rite_code.specs.Spelling.{encoding, decode_at, decode_wide_at, front, narrow_front}
use Rattle.rite_code.specs.Table.{opcode_of, opcodes}
use Rattle.path_eval.specs.Steps.{times, Follows}
use Rattle.path_eval.specs.Seen.{Ended, over}
use Rattle.path_eval.specs.Configuration.{Config, Halt, opening, seen}
use Rattle.path_eval.specs.Transition.{go}
use Rattle.path_turns.specs.State.{State, Off, start, shown}
use Rattle.path_turns.specs.Turn.{turn, fetch}
use Rattle.code_outline.specs.Layout.{standings, layout, end_of}
use Rattle.code_outline.specs.Makers.{made_in, made_from, first_maker, maker_of}
use Rattle.code_verifier.specs.Checks.{first, unread, cause_of, body_bad, bodies_bad, first_bad}
use Rattle.code_verifier.specs.Verified.{IsVerified}
use Rattle.code_generator.specs.Gen.{nothing_body, nothing_code}
use Rattle.code_generator.specs.Implements.{source_of, Implements}

abbrev nothing : Form
nothing = seq none

stays_halted : (n : ℕ) (e : _) → times n (go (source_of nothing)) (Halt e) ≡ Halt e
stays_halted zero e = refl
stays_halted (suc n) e = stays_halted n e

stays_off : (n : ℕ) (e : _) → times n (turn nothing_code) (Off e) ≡ Off e
stays_off zero e = refl
stays_off (suc n) e = stays_off n e

module _ (input : List ℕ) where
  abbrev c : Config
  c = opening (source_of nothing) input

  abbrev m : State
  m = start nothing_code input

  one_turn : turn nothing_code m ≡ Off (Ended [] 0)
  unfolding encoding decode_wide_at front narrow_front opcode_of opcodes fetch
  one_turn = refl

  off : (n : ℕ) → times (suc n) (turn nothing_code) m ≡ Off (Ended [] 0)
  off n = ap (times n (turn nothing_code)) one_turn ∙ stays_off n (Ended [] 0)

  halted : (n : ℕ) → times (suc (suc (suc n))) (go (source_of nothing)) c ≡ Halt (Ended [] 0)
  halted n = stays_halted n (Ended [] 0)

  ends : (n : ℕ) → over (seen (times n (go (source_of nothing)) c)) ≡ true
      → shown (times (32 * n + 32) (turn nothing_code) m) ≡ seen (times n (go (source_of nothing)) c)
  ends zero e = absurd (cc)
  ends (suc zero) e = absurd (cc)
  ends (suc (suc zero)) e = absurd (cc)
  ends (suc (suc (suc n))) e =
      let size : 32 * suc (suc (suc n)) + 32 ≡ suc (32 * n + 127) = omega arith in
      ap (λ (k : ℕ). shown (times k (turn nothing_code) m)) size ∙ ap shown (off (32 * n + 127))
      ∙ sym (ap seen (halted n))

  ends_only : (n : ℕ) → over (shown (times n (turn nothing_code) m)) ≡ true → (k : ℕ)
      × (seen (times k (go (source_of nothing)) c) ≡ shown (times n (turn nothing_code) m))
  ends_only zero e = absurd (cc)
  ends_only (suc n) e = (3, ap seen (halted 0) ∙ sym (ap shown (off n)))

  goes_on : (n : ℕ) → over (shown (times n (turn nothing_code) m)) ≡ false → (k : ℕ)
      × (seen (times k (go (source_of nothing)) c) ≡ shown (times n (turn nothing_code) m)) × (n ≤ 32 * (k + 1))
  goes_on zero e = (0, refl, omega arith)
  goes_on (suc n) e = let off_now : true ≡ false = sym (ap (λ (s : State). over (shown s)) (off n)) ∙ e in absurd (cc)

  pub follows : Follows (go (source_of nothing)) (turn nothing_code) seen shown over c m
  follows = record { ends = ends; ends_only = ends_only; goes_on = goes_on }

pub nothing_implements : Implements nothing_code nothing
nothing_implements input = follows input

nothing_is : IsBody 2 nothing_body
unfolding encoding
nothing_is = record {
  has_self = omega arith;
  locals = omega arith;
  narrow = λ e. absurd (cc);
  code = omega arith;
  catches = omega arith;
  pool_count = omega arith;
  pool_items = All-nil IsItem;
  pool = tt;
  symbol_count = omega arith;
  symbol_texts = All-nil IsText;
  symbols = tt;
  child_count = omega arith;
}

pub nothing_is_whole : IsWhole nothing_code
nothing_is_whole = record {
  version = inr refl;
  count = omega arith;
  each = All-cons (IsBody 2) nothing_body [] nothing_is (All-nil (IsBody 2));
  tree = node no_tree;
}

pub nothing_verified : IsVerified nothing_code
unfolding encoding decode_at decode_wide_at front narrow_front opcode_of opcodes standings layout end_of made_in made_from first_maker maker_of first unread cause_of body_bad bodies_bad first_bad
nothing_verified = refl
