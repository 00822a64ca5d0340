-- `each_char` and `each_line` of a String.
use Rattle.std.proofs.Common.{◌≡◌, ℕ, suc, ◌<◌, ◌≤◌, ◌+◌, ◌^◌, refl, sym, ap, subst, ◌∙◌, List, [], ◌∷◌, length, get_or, drop, arith}
use Rattle.std.specs.Prelude.{slice_range, map, nat_lt, nat_le, Bool, true, false, ◌&&◌, if◌then◌else◌, Option, Some, None}
use Rattle.std.proofs.Math.Nat.{min-eq_left}
use Rattle.std.proofs.Math.Seq.{drop-cons}
use Rattle.std.proofs.lemmas.Bool.{leb-true, leb-false, ltb-true, ltb-false, le-leb}
use Rattle.std.proofs.lemmas.List.{drop_all}
use Rattle.rb_value.specs.declared.value.Value.{Value}
use Rattle.rb_value.specs.declared.value.Value.TheVariants.{Obj}
use Rattle.rb_value.specs.declared.value.ObjId.{ObjId}
use Rattle.rb_value.specs.declared.kind.Kind.TheVariants as kind
use Rattle.rb_value.specs.declared.core_class.CoreClass.TheVariants as class
use Rattle.def_core.specs.Parts.{text_at}
use Rattle.def_core.specs.Store.{core, next_number}
use Rattle.def_calls.specs.Views.{a_string}
use Rattle.rb_store.specs.Held.{Held, one_more}
use Rattle.heap.specs.Made.{with_new}
use Rattle.def_plans.specs.Plan.{Planned, gives, wanted}
use Rattle.run_rows.specs.declared.row.StarRow.TheVariants as row
use Rattle.run_rows.specs.declared.row.VisitRow.TheVariants as visit
use Rattle.core_iter.specs.declared.iteration.Iteration.{Iteration}
use Rattle.core_iter.specs.declared.iteration.Iteration.TheVariants as state
use Rattle.core_iter.specs.declared.strings.TextWalk.{TextWalk}
use Rattle.core_iter.specs.Sending.{Beaten, with_one}
use Rattle.core_iter.specs.Stage.{Stage}
use Rattle.core_iter.specs.Strings as strings
use Rattle.items_laws.specs.Run.{Turn, Runs, Gives}
use Rattle.items_laws.specs.Items.{call_of, calls_of}
use Rattle.items_laws.specs.Texts.{characters, lines, HandsTexts}
use Rattle.items_laws.proofs.Counted.{from_zero}
use Rattle.items_laws.proofs.Lines.{first_line, parted}
use Rattle.items_laws.proofs.Walks.{Walk, as_left, Walks, Called, Done, Goes, plan_at, walks, one_same}
use Rattle.items_laws.proofs.Small.{none_some, some_none}

-- Walks over a text.

abbrev pub Beats : Type 0
Beats = Held → TextWalk → Beaten TextWalk

abbrev pub over_text : (TextWalk → Iteration) → Beats → Walk TextWalk
over_text as_state beat = record {
  fits = λ w. Unit {0};
  as_state = as_state;
  beat = beat;
  later = λ held w a. w;
  left = as_left;
  ending = λ w. Obj w.string;
}

abbrev pub behind : TextWalk → ℕ → TextWalk
behind w end = record w { place = end }

abbrev pub no_beat : Held → TextWalk → Beaten TextWalk
no_beat held w = record { beat = None; state = w; held = held }

-- the text is at its end, or a part of it comes next, for so many turns at least
pub data Next (parts : List ℕ → List (List ℕ)) (Long : TextWalk → ℕ → Type 0) (held : Held) (w : TextWalk)
    (b : Beaten TextWalk) : Type 0 where
  at_end : b ≡ no_beat held w → parts (drop w.place w.text) ≡ [] → Next parts Long held w b
  at_part : (end : ℕ) → b ≡ strings.part_made held w end
      → parts (drop w.place w.text) ≡ slice_range w.text w.place end ∷ parts (drop end w.text)
      → ((k : ℕ) → Long w (suc k) → Long (behind w end) k) → Next parts Long held w b

pub record TextRow (parts : List ℕ → List (List ℕ)) (Long : TextWalk → ℕ → Type 0) (as_state : TextWalk → Iteration)
    (beat : Beats) : Type 0 where
  pub goes : Goes (over_text as_state beat)
  pub next : (held : Held) (w : TextWalk) (k : ℕ) → Long w k → Next parts Long held w (beat held w)

abbrev pub TextRest : (List ℕ → List (List ℕ)) → (TextWalk → ℕ → Type 0) → (TextWalk → Iteration) → Beats → List Turn → Value → Held
    → Type 0
TextRest parts Long as_state beat ts r after = (held : Held) (w : TextWalk) → Long w (length ts)
    → Walks (over_text as_state beat) ts held w r after
    → HandsTexts held w.string w.block (parts (drop w.place w.text)) ts r after

-- no part is left

text_end : (parts : List ℕ → List (List ℕ)) (Long : TextWalk → ℕ → Type 0) (as_state : TextWalk → Iteration)
    (beat : Beats) (held : Held) (w : TextWalk) (r : Value) (after : Held) → Next parts Long held w (beat held w)
    → Done (over_text as_state beat) held w r after
    → HandsTexts held w.string w.block (parts (drop w.place w.text)) [] r after
text_end parts Long as_state beat held w r after (at_end is none) d =
    subst (λ (ps : List (List ℕ)). HandsTexts held w.string w.block ps [] r after) (sym none) (record {
      called = refl;
      made = refl;
      each = refl;
      result = record { value = d.value; left = d.left ∙ ap (λ (b : Beaten TextWalk). b.held) is };
    })
text_end parts Long as_state beat held w r after (at_part end is cut longer) d =
    absurd (some_none (with_one w.block (Obj (next_number held.store)))
    (subst (λ (b : Beaten TextWalk). b.beat ≡ None) is d.none))

-- a part is handed on

abbrev heap_with : Held → List ℕ → Held
heap_with held p = with_new held (core class.String) (kind.String p)

one_text : (held : Held) (s b : ObjId) (p : List ℕ) (ps : List (List ℕ)) (t : Turn) (ts : List Turn) (r : Value)
    (after : Held) → call_of t.wanted.plan ≡ Some (b, Obj (next_number held.store) ∷ [])
    → t.wanted.held ≡ heap_with held p → HandsTexts t.held s b ps ts r after
    → HandsTexts held s b (p ∷ ps) (t ∷ ts) r after
one_text held s b p ps t ts r after call asked rest = record {
  called = ap (λ (x : Option (ObjId × List Value)). x ∷ calls_of ts) call
      ∙ ap (λ (xs : List (Option (ObjId × List Value))). Some (b, Obj (next_number held.store) ∷ []) ∷ xs) rest.called;
  made = ap (λ (h : Held). h ∷ map (λ t. t.wanted.held) ts) asked
      ∙ ap (λ (hs : List Held). heap_with held p ∷ hs) rest.made;
  each = ap (λ (n : ℕ). suc n) rest.each;
  result = rest.result;
}

text_turn : (parts : List ℕ → List (List ℕ)) (Long : TextWalk → ℕ → Type 0) (as_state : TextWalk → Iteration)
    (beat : Beats) (t : Turn) (ts : List Turn) (r : Value) (after held : Held) (w : TextWalk)
    → TextRest parts Long as_state beat ts r after → Long w (suc (length ts)) → Next parts Long held w (beat held w)
    → Called (over_text as_state beat) held w t
    (Walks (over_text as_state beat) ts t.held (beat held w).state r after)
    → HandsTexts held w.string w.block (parts (drop w.place w.text)) (t ∷ ts) r after
text_turn parts Long as_state beat t ts r after held w rest long (at_end is none) c =
    absurd (none_some c.call (subst (λ (b : Beaten TextWalk). b.beat ≡ Some c.call) is c.there))
text_turn parts Long as_state beat t ts r after held w rest long (at_part end is cut longer) c =
    let x = Obj (next_number held.store) in
    let call = subst (λ (b : Beaten TextWalk). b.beat ≡ Some c.call) is c.there in
    let more = rest t.held (behind w end) (longer (length ts) long)
    (subst (λ (b : Beaten TextWalk). Walks (over_text as_state beat) ts t.held b.state r after) is c.rest) in
    subst (λ (ps : List (List ℕ)). HandsTexts held w.string w.block ps (t ∷ ts) r after) (sym cut)
    (one_text held w.string w.block (slice_range w.text w.place end) (parts (drop end w.text)) t ts r after
    (c.called ∙ one_same w.block x c.call call) (c.asked ∙ ap (λ (b : Beaten TextWalk). b.held) is) more)

pub text_course : (parts : List ℕ → List (List ℕ)) (Long : TextWalk → ℕ → Type 0) (as_state : TextWalk → Iteration)
    (beat : Beats) (k : TextRow parts Long as_state beat) (ts : List Turn) (r : Value) (after : Held)
    → TextRest parts Long as_state beat ts r after
text_course parts Long as_state beat k [] r after = λ held w long d.
    text_end parts Long as_state beat held w r after (k.next held w 0 long) d
text_course parts Long as_state beat k (t ∷ ts) r after = λ held w long c.
    text_turn parts Long as_state beat t ts r after held w (text_course parts Long as_state beat k ts r after) long
    (k.next held w (suc (length ts)) long) c

-- where a part comes next, by whether it is within the text

abbrev part_by : Held → TextWalk → ℕ → Bool → Beaten TextWalk
part_by held w end c = if c then strings.part_made held w end else no_beat held w

both : (a b : Bool) → a ≡ true → b ≡ true → (a && b) ≡ true
both a b e f = rw (e, f) refl

pub is_part : (held : Held) (w : TextWalk) (end : ℕ) → w.place ≤ end → end ≤ length w.text
    → strings.part held w end ≡ strings.part_made held w end
is_part held w end from to = ap (part_by held w end) (both (nat_le w.place end) (nat_le end (length w.text))
    (le-leb w.place end from) (le-leb end (length w.text) to))

-- `each_char`

abbrev Room : TextWalk → ℕ → Type 0
Room w k = w.place + k < 2 ^ 63

counted_up : (n k : ℕ) → n + k < 2 ^ 63 → one_more n ≡ n + 1
counted_up n k less = min-eq_left (omega (arith, less))

still_room : (n k m : ℕ) → n + suc k < 2 ^ 63 → m ≡ n + 1 → m + k < 2 ^ 63
still_room n k m less e = omega (arith, less, e)

none_left : (text : List ℕ) (n end : ℕ) → end ≡ n + 1 → length text < end → length text ≤ n
none_left text n end e less = omega (arith, e, less)

beyond : (a b : Bool) → b ≡ false → (a && b) ≡ false
beyond true b e = e
beyond false b e = refl

pub no_part : (held : Held) (w : TextWalk) (end : ℕ) → nat_le end (length w.text) ≡ false
    → strings.part held w end ≡ no_beat held w
no_part held w end e =
    ap (part_by held w end) (beyond (nat_le w.place end) (nat_le end (length w.text)) e)

-- a byte where the text goes on

pub char_cut : (text : List ℕ) (n : ℕ) → n < length text
    → characters (drop n text) ≡ slice_range text n (n + 1) ∷ characters (drop (n + 1) text)
char_cut text n less =
    let x = get_or text n 0 in
    let e = drop-cons text n 0 less in
    let p = parted text n (x ∷ []) (drop (suc n) text) (omega (arith, less)) e in
    ap characters e ∙ ap (λ (part : List ℕ). part ∷ characters (drop (suc n) text)) (sym p.part_is)
    ∙ ap (λ (rest : List ℕ). slice_range text n (n + 1) ∷ characters rest) (sym p.rest_is)

char_by : (held : Held) (w : TextWalk) (k : ℕ) (c : Bool) → Room w k
    → nat_le (one_more w.place) (length w.text) ≡ c → Next characters Room held w (strings.character_beat held w)
char_by held w k true room e =
    let one = counted_up w.place k room in
    let to = leb-true (one_more w.place) (length w.text) e in
    let less : w.place < length w.text = omega (arith, one, to) in
    at_part (one_more w.place) (is_part held w (one_more w.place) (omega (arith, one)) to)
    (subst (λ (end : ℕ). characters (drop w.place w.text)
    ≡ slice_range w.text w.place end ∷ characters (drop end w.text)) (sym one) (char_cut w.text w.place less))
    (λ m long. still_room w.place m (one_more w.place) long (counted_up w.place (suc m) long))
char_by held w k false room e =
    let one = counted_up w.place k room in
    let less = leb-false (one_more w.place) (length w.text) e in
    at_end (no_part held w (one_more w.place) e)
    (ap characters (drop_all w.place w.text (none_left w.text w.place (one_more w.place) one less)))

by_characters : TextRow characters Room (λ w. state.Characters w) (λ held w. strings.character_beat held w)
by_characters = record {
  goes = record { goes = λ h w a p f e. e; beats = λ h w f. tt; later = λ h w a f. tt };
  next = λ held w k room. char_by held w k (nat_le (one_more w.place) (length w.text)) room refl;
}

-- `each_line`

at_most : (n k : ℕ) → n < k → n ≤ k
at_most n k less = omega (arith, less)

not_before : (n k : ℕ) → n ≤ n + k
not_before n k = omega arith

abbrev pub Any : TextWalk → ℕ → Type 0
Any w k = Unit {0}

abbrev line_by : Held → TextWalk → Bool → Beaten TextWalk
line_by held w c = if c then strings.part held w (strings.line_end w.place (drop w.place w.text)) else no_beat held w

line_there : (held : Held) (w : TextWalk) → w.place < length w.text → nat_lt w.place (length w.text) ≡ true
    → Next lines Any held w (strings.line_beat held w)
line_there held w less e =
    let n = w.place in
    let x = get_or w.text n 0 in
    let there = drop-cons w.text n 0 less in
    let f = first_line n x (drop (suc n) w.text) in
    let end = n + length f.line in
    let p = parted w.text n f.line f.rest (at_most n (length w.text) less) (there ∙ f.whole) in
    let end_is : strings.line_end n (drop n w.text) ≡ end = ap (strings.line_end n) there ∙ f.ends in
    at_part end
    (ap (line_by held w) e ∙ ap (λ (m : ℕ). strings.part held w m) end_is
    ∙ is_part held w end (not_before n (length f.line)) p.within)
    (ap lines there ∙ f.all ∙ ap (λ (part : List ℕ). part ∷ lines f.rest) (sym p.part_is)
    ∙ ap (λ (rest : List ℕ). slice_range w.text n end ∷ lines rest) (sym p.rest_is))
    (λ k long. tt)

line_or_end : (held : Held) (w : TextWalk) (c : Bool) → nat_lt w.place (length w.text) ≡ c
    → Next lines Any held w (strings.line_beat held w)
line_or_end held w true e = line_there held w (ltb-true w.place (length w.text) e) e
line_or_end held w false e = at_end (ap (line_by held w) e)
    (ap lines (drop_all w.place w.text (ltb-false w.place (length w.text) e)))

pub by_lines : TextRow lines Any (λ w. state.Lines w) (λ held w. strings.line_beat held w)
by_lines = record {
  goes = record { goes = λ h w a p f e. e; beats = λ h w f. tt; later = λ h w a f. tt };
  next = λ held w k any. line_or_end held w (nat_lt w.place (length w.text)) refl;
}

pub each_character : (held after : Held) (recv v : Value) (s b : ObjId) (ts : List Turn) → length ts < 2 ^ 63
    → a_string held.store.objects recv ≡ Some s
    → Gives (row.Visit visit.EachCharacter) held recv [] (Some b) ts v after
    → HandsTexts held s b (characters (text_at held.store.objects s)) ts v after
each_character held after recv v s b ts less there run =
    let w = strings.text_walk held.store s b in
    let over = over_text (λ w. state.Characters w) (λ held w. strings.character_beat held w) in
    let first : run.first ≡ plan_at over held w = run.starts
    ∙ ap (λ (o : Option ObjId). wanted held class.String recv o
    (λ x. strings.begun visit.EachCharacter held x b)) there in
    text_course characters Room (λ w. state.Characters w) (λ held w. strings.character_beat held w) by_characters ts v after
    held w (from_zero (length ts) less) (walks over by_characters.goes ts held w v after tt
    (subst (λ (q : Planned Stage). Runs q ts (gives after v)) first run.runs))

pub each_line : (held after : Held) (recv v : Value) (s b : ObjId) (ts : List Turn)
    → a_string held.store.objects recv ≡ Some s
    → Gives (row.Visit visit.EachLine) held recv [] (Some b) ts v after
    → HandsTexts held s b (lines (text_at held.store.objects s)) ts v after
each_line held after recv v s b ts there run =
    let w = strings.text_walk held.store s b in
    let over = over_text (λ w. state.Lines w) (λ held w. strings.line_beat held w) in
    let first : run.first ≡ plan_at over held w = run.starts
    ∙ ap (λ (o : Option ObjId). wanted held class.String recv o
    (λ x. strings.begun visit.EachLine held x b)) there in
    text_course lines Any (λ w. state.Lines w) (λ held w. strings.line_beat held w) by_lines ts v after
    held w tt (walks over by_lines.goes ts held w v after tt
    (subst (λ (q : Planned Stage). Runs q ts (gives after v)) first run.runs))
