-- `each_char` and `each_line` of a String, left.
use Rattle.std.proofs.Common.{◌≡◌, ℕ, suc, ◌<◌, ◌≤◌, ◌+◌, ◌^◌, refl, sym, ap, subst, ◌∙◌, List, [], ◌∷◌, ◌++◌, length, drop, arith}
use Rattle.std.specs.Prelude.{nat_le, slice_range, Bool, true, false, Option, Some}
use Rattle.std.proofs.lemmas.Bool.{leb-true, leb-false}
use Rattle.std.proofs.lemmas.List.{drop_all}
use Rattle.rb_value.specs.declared.value.Value.{Value}
use Rattle.rb_value.specs.declared.value.ObjId.{ObjId}
use Rattle.rb_value.specs.declared.core_class.CoreClass.TheVariants as class
use Rattle.def_core.specs.Parts.{text_at}
use Rattle.def_calls.specs.Views.{a_string}
use Rattle.rb_store.specs.Held.{Held, one_more}
use Rattle.core_calls.specs.declared.beat.Beat.{Beat}
use Rattle.def_plans.specs.Plan.{Planned, wanted}
use Rattle.run_rows.specs.declared.row.StarRow.TheVariants as row
use Rattle.run_rows.specs.declared.row.VisitRow.TheVariants as visit
use Rattle.core_iter.specs.declared.iteration.Iteration.{Iteration}
use Rattle.core_iter.specs.declared.iteration.Iteration.TheVariants as state
use Rattle.core_iter.specs.declared.strings.TextWalk.{TextWalk}
use Rattle.core_iter.specs.Sending.{Beaten}
use Rattle.core_iter.specs.Stage.{Stage}
use Rattle.core_iter.specs.Strings as strings
use Rattle.items_laws.specs.Beginning.{IsBeginning, Leaves}
use Rattle.items_laws.specs.Run.{Turn, Runs, waiting}
use Rattle.items_laws.specs.Texts.{characters, lines, HandsTexts}
use Rattle.items_laws.proofs.Beginning.{Finite, begun_walk, cut_from, is_beginning, to_the_end}
use Rattle.items_laws.proofs.Small.{none_some}
use Rattle.items_laws.proofs.Texts.{Any, Beats, Next, at_end, at_part, TextRow, by_lines, char_cut, is_part, no_part, over_text, text_course}
use Rattle.items_laws.proofs.Walks.{plan_at}

-- Fewer and fewer parts are left.

abbrev Holds : (TextWalk → ℕ → Type 0) → TextWalk → Type 0
Holds Long w = (n : ℕ) → Long w n

stays_at : (parts : List ℕ → List (List ℕ)) (Long : TextWalk → ℕ → Type 0) (held : Held) (w : TextWalk)
    (b : Beaten TextWalk) → Next parts Long held w b → Holds Long w → Holds Long b.state
stays_at parts Long held w b (at_end is none) holds =
    λ n. subst (λ (x : Beaten TextWalk). Long x.state n) (sym is) (holds n)
stays_at parts Long held w b (at_part end is cut longer) holds =
    λ n. subst (λ (x : Beaten TextWalk). Long x.state n) (sym is) (longer n (holds (suc n)))

one_fewer : (n m : ℕ) → n ≡ suc m → suc m ≤ n
one_fewer n m e = omega (arith, e)

fewer_at : (parts : List ℕ → List (List ℕ)) (Long : TextWalk → ℕ → Type 0) (held : Held) (w : TextWalk)
    (b : Beaten TextWalk) (c : Beat) → Next parts Long held w b → b.beat ≡ Some c
    → suc (length (parts (drop b.state.place b.state.text))) ≤ length (parts (drop w.place w.text))
fewer_at parts Long held w b c (at_end is none) there =
    absurd (none_some c (subst (λ (x : Beaten TextWalk). x.beat ≡ Some c) is there))
fewer_at parts Long held w b c (at_part end is cut longer) there =
    subst (λ (x : Beaten TextWalk). suc (length (parts (drop x.state.place x.state.text)))
    ≤ length (parts (drop w.place w.text))) (sym is)
    (one_fewer (length (parts (drop w.place w.text))) (length (parts (drop end w.text)))
    (ap (λ (ps : List (List ℕ)). length ps) cut))

abbrev finite : (parts : List ℕ → List (List ℕ)) (Long : TextWalk → ℕ → Type 0) (as_state : TextWalk → Iteration)
    (beat : Beats) → TextRow parts Long as_state beat → Finite (over_text as_state beat)
finite parts Long as_state beat k = record {
  holds = Holds Long;
  left = λ w. length (parts (drop w.place w.text));
  stays = λ held h w a holds. stays_at parts Long held w (beat held w) (k.next held w 0 (holds 0)) holds;
  fewer = λ held h w a c holds there. fewer_at parts Long held w (beat held w) c (k.next held w 0 (holds 0)) there;
}

text_begun : (parts : List ℕ → List (List ℕ)) (Long : TextWalk → ℕ → Type 0) (as_state : TextWalk → Iteration)
    (beat : Beats) → TextRow parts Long as_state beat → (held : Held) (w : TextWalk) (ts : List Turn)
    (first last : Planned Stage) (stage : Stage) → Holds Long w → waiting last.plan ≡ Some stage
    → first ≡ plan_at (over_text as_state beat) held w → Runs first ts last
    → IsBeginning (HandsTexts held w.string w.block (parts (drop w.place w.text))) ts last
text_begun parts Long as_state beat k held w ts first last stage holds waits begins runs =
    let over = over_text as_state beat in
    let b = begun_walk over (to_the_end over (finite parts Long as_state beat k)) ts held w last holds
    (cut_from over k.goes held w ts first last stage tt waits begins runs) in
    is_beginning over (HandsTexts held w.string w.block (parts (drop w.place w.text))) ts held w last b
    (text_course parts Long as_state beat k (ts ++ b.turn ∷ b.further) b.value b.after held w
    (holds (length (ts ++ b.turn ∷ b.further))) b.walk)

-- `each_char`, by the length of the text

abbrev Short : TextWalk → ℕ → Type 0
Short w k = length w.text < 2 ^ 63

within : (n k : ℕ) → one_more n ≤ k → k < 2 ^ 63 → one_more n ≡ n + 1
within n k to short = omega (arith, to, short)

place_within : (n k : ℕ) → one_more n ≤ k → k < 2 ^ 63 → n < k
place_within n k to short = omega (arith, to, short)

place_before : (n k : ℕ) → one_more n ≤ k → k < 2 ^ 63 → n ≤ one_more n
place_before n k to short = omega (arith, to, short)

past_end : (n k : ℕ) → k < one_more n → k ≤ n
past_end n k less = omega (arith, less)

char_by : (held : Held) (w : TextWalk) (k : ℕ) (c : Bool) → Short w k
    → nat_le (one_more w.place) (length w.text) ≡ c → Next characters Short held w (strings.character_beat held w)
char_by held w k true short e =
    let to = leb-true (one_more w.place) (length w.text) e in
    at_part (one_more w.place)
    (is_part held w (one_more w.place) (place_before w.place (length w.text) to short) to)
    (subst (λ (end : ℕ). characters (drop w.place w.text)
    ≡ slice_range w.text w.place end ∷ characters (drop end w.text)) (sym (within w.place (length w.text) to short))
    (char_cut w.text w.place (place_within w.place (length w.text) to short))) (λ m long. long)
char_by held w k false short e = at_end (no_part held w (one_more w.place) e)
    (ap characters (drop_all w.place w.text
    (past_end w.place (length w.text) (leb-false (one_more w.place) (length w.text) e))))

by_characters : TextRow characters Short (λ w. state.Characters w) (λ held w. strings.character_beat held w)
by_characters = record {
  goes = record { goes = λ h w a p f e. e; beats = λ h w f. tt; later = λ h w a f. tt };
  next = λ held w k short. char_by held w k (nat_le (one_more w.place) (length w.text)) short refl;
}

pub characters_begun : (held : Held) (recv : Value) (s b : ObjId) (ts : List Turn) (last : Planned Stage)
    → length (text_at held.store.objects s) < 2 ^ 63 → a_string held.store.objects recv ≡ Some s
    → Leaves (row.Visit visit.EachCharacter) held recv [] (Some b) ts last
    → IsBeginning (HandsTexts held s b (characters (text_at held.store.objects s))) ts last
characters_begun held recv s b ts last short there run =
    text_begun characters Short (λ w. state.Characters w) (λ held w. strings.character_beat held w) by_characters held
    (strings.text_walk held.store s b) ts run.first last run.stage (λ n. short) run.waits
    (run.starts ∙ ap (λ (o : Option ObjId). wanted held class.String recv o
    (λ x. strings.begun visit.EachCharacter held x b)) there) run.runs

pub lines_begun : (held : Held) (recv : Value) (s b : ObjId) (ts : List Turn) (last : Planned Stage)
    → a_string held.store.objects recv ≡ Some s → Leaves (row.Visit visit.EachLine) held recv [] (Some b) ts last
    → IsBeginning (HandsTexts held s b (lines (text_at held.store.objects s))) ts last
lines_begun held recv s b ts last there run =
    text_begun lines Any (λ w. state.Lines w) (λ held w. strings.line_beat held w) by_lines held
    (strings.text_walk held.store s b) ts run.first last run.stage (λ n. tt) run.waits
    (run.starts ∙ ap (λ (o : Option ObjId). wanted held class.String recv o
    (λ x. strings.begun visit.EachLine held x b)) there) run.runs
