-- `each` of a Range of bytes.
use Rattle.std.proofs.Common.{◌≡◌, ℕ, suc, ◌<◌, ◌≤◌, ◌+◌, ◌-◌, ◌^◌, refl, sym, ap, subst, ◌∙◌, List, [], ◌∷◌, arith, lt-ltb, ltb-true, ltb-false}
use Rattle.std.specs.Prelude.{ℤ, pos, negsuc, ◌-ℤ◌, map, cond, nat_lt, Bool, true, false, if◌then◌else◌, Option, Some, None}
use Rattle.std.proofs.lemmas.Bool.Decides.{nat_tests}
use Rattle.rb_value.specs.declared.value.Value.{Value}
use Rattle.rb_value.specs.declared.value.Value.TheVariants.{Nil, Obj}
use Rattle.rb_value.specs.declared.value.ObjId.{ObjId}
use Rattle.rb_value.specs.declared.kind.Kind.TheVariants as kind
use Rattle.rb_value.specs.declared.kind.RangeContents.{RangeContents}
use Rattle.rb_value.specs.declared.core_class.CoreClass.TheVariants as class
use Rattle.def_core.specs.Store.{core, next_number}
use Rattle.def_calls.specs.Views.{kind_in}
use Rattle.rb_store.specs.Held.{Held}
use Rattle.heap.specs.Made.{with_new}
use Rattle.heap.specs.Reading.{range_in}
use Rattle.def_plans.specs.Plan.{Planned, gives, wanted}
use Rattle.run_rows.specs.declared.row.StarRow.TheVariants as row
use Rattle.run_rows.specs.declared.row.VisitRow.TheVariants as visit
use Rattle.core_iter.specs.declared.counting.Count.{Count}
use Rattle.core_iter.specs.declared.iteration.Iteration.TheVariants as state
use Rattle.core_iter.specs.Counting as counting
use Rattle.core_iter.specs.Sending.{Beaten, with_one}
use Rattle.core_iter.specs.Stage.{Stage}
use Rattle.items_laws.specs.Run.{Turn, Runs, Gives}
use Rattle.items_laws.specs.Items.{IsValue, call_of, calls_of}
use Rattle.items_laws.specs.Texts.{HandsOnBytes, bytes_before, bytes_to}
use Rattle.items_laws.proofs.Course.{given}
use Rattle.items_laws.proofs.Walks.{Walk, as_left, Walks, Called, Done, Goes, walks, one_same}
use Rattle.items_laws.proofs.Small.{none_some, some_none}

abbrev pub over_bytes : Walk Count
over_bytes = record {
  fits = λ c. Unit {0};
  as_state = λ c. state.Counting c;
  beat = λ held c. counting.count_beat held c;
  later = λ held c a. c;
  left = as_left;
  ending = λ c. c.gives;
}

pub bytes_go : Goes over_bytes
bytes_go = record {
  goes = λ h c a p fit e. e;
  beats = λ h c fit. tt;
  later = λ h c a fit. tt;
}

-- from a byte on, to the last one
abbrev from_byte : Value → ObjId → ℕ → ℕ → Count
from_byte recv b n last =
    record { next = Some (pos n); last = pos last; by = pos 1; of_bytes = true; block = b; gives = recv }

-- what comes next, by whether the byte is past the last one
abbrev beat_if : Held → Value → ObjId → ℕ → ℕ → Bool → Beaten Count
beat_if held recv b n last c =
    counting.beat_by held (from_byte recv b n last) (if c then None else Some (pos n))

abbrev pub text_with : Held → ℕ → Held
text_with held n = with_new held (core class.String) (kind.String (n ∷ []))

-- a byte is shown, and the next one comes

abbrev shown_if : Held → Value → ObjId → ℕ → ℕ → Bool → Beaten Count
shown_if held recv b n last c = counting.beat_of (from_byte recv b n last) (pos n) (if c
    then record { value = Obj (next_number held.store); held = text_with held n }
    else record { value = Nil; held = held })

abbrev next_if : Held → Value → ObjId → ℕ → ℕ → Bool → Beaten Count
next_if held recv b n last c = record {
  beat = Some (with_one b (Obj (next_number held.store)));
  state = record (from_byte recv b n last) { next = if c then Some (pos (n + 1)) else None };
  held = text_with held n;
}

abbrev next_beat : Held → Value → ObjId → ℕ → ℕ → Beaten Count
next_beat held recv b n last = record {
  beat = Some (with_one b (Obj (next_number held.store)));
  state = from_byte recv b (n + 1) last;
  held = text_with held n;
}

shown_so : (held : Held) (recv : Value) (b : ObjId) (n last : ℕ) → n < 256
    → beat_if held recv b n last false ≡ next_beat held recv b n last
shown_so held recv b n last small =
    ap (λ (c : Bool). shown_if held recv b n last c) (lt-ltb n 256 small)
    ∙ ap (λ (c : Bool). next_if held recv b n last c) (lt-ltb (n + 1) (2 ^ 63) (omega (arith, small)))

-- no byte is left

byte_end : (held : Held) (recv : Value) (b : ObjId) (n last : ℕ) (r : Value) (after : Held) (c : Bool) → last < 256
    → nat_lt last n ≡ c → counting.count_beat held (from_byte recv b n last) ≡ beat_if held recv b n last c
    → Done over_bytes held (from_byte recv b n last) r after → HandsOnBytes held n last b [] recv r after
byte_end held recv b n last r after true small past is d = record {
  called = refl;
  made = refl;
  each = none (ltb-true last n past);
  result = record { value = d.value; left = d.left ∙ ap (λ (x : Beaten Count). x.held) is };
}
  where
    none : last < n → 0 ≡ suc last - n
    none less = omega (arith, less)
byte_end held recv b n last r after false small past is d =
    let within = ltb-false last n past in
    absurd (some_none (with_one b (Obj (next_number held.store)))
    (sym (ap (λ (x : Beaten Count). x.beat) (is ∙ shown_so held recv b n last (omega (arith, within, small)))) ∙ d.none))

-- one is handed on

one_text : (held : Held) (recv : Value) (b : ObjId) (n last : ℕ) (t : Turn) (ts : List Turn) (r : Value) (after : Held)
    → n ≤ last → call_of t.wanted.plan ≡ Some (b, Obj (next_number held.store) ∷ [])
    → t.wanted.held ≡ text_with held n → HandsOnBytes t.held (n + 1) last b ts recv r after
    → HandsOnBytes held n last b (t ∷ ts) recv r after
one_text held recv b n last t ts r after within call asked rest = record {
  called = ap (λ (x : Option (ObjId × List Value)). x ∷ calls_of ts) call
      ∙ ap (λ (xs : List (Option (ObjId × List Value))). Some (b, Obj (next_number held.store) ∷ []) ∷ xs) rest.called;
  made = ap (λ (h : Held). h ∷ map (λ t. t.wanted.held) ts) asked
      ∙ ap (λ (hs : List Held). text_with held n ∷ hs) rest.made;
  each = omega (arith, within, rest.each);
  result = rest.result;
}

abbrev pub ByteRest : List Turn → Value → Held → Type 0
ByteRest ts r after = (held : Held) (recv : Value) (b : ObjId) (n last : ℕ) → last < 256
    → Walks over_bytes ts held (from_byte recv b n last) r after → HandsOnBytes held n last b ts recv r after

byte_turn : (t : Turn) (ts : List Turn) (r : Value) (after held : Held) (recv : Value) (b : ObjId) (n last : ℕ) (c : Bool)
    → last < 256 → nat_lt last n ≡ c
    → counting.count_beat held (from_byte recv b n last) ≡ beat_if held recv b n last c → ByteRest ts r after
    → Called over_bytes held (from_byte recv b n last) t
    (Walks over_bytes ts t.held (counting.count_beat held (from_byte recv b n last)).state r after)
    → HandsOnBytes held n last b (t ∷ ts) recv r after
byte_turn t ts r after held recv b n last true small past is rest k =
    absurd (none_some k.call (sym (ap (λ (x : Beaten Count). x.beat) is) ∙ k.there))
byte_turn t ts r after held recv b n last false small past is rest k =
    let within = ltb-false last n past in
    let seen = is ∙ shown_so held recv b n last (omega (arith, within, small)) in
    let call = sym (ap (λ (x : Beaten Count). x.beat) seen) ∙ k.there in
    one_text held recv b n last t ts r after within
    (k.called ∙ one_same b (Obj (next_number held.store)) k.call call) (k.asked ∙ ap (λ (x : Beaten Count). x.held) seen)
    (rest t.held recv b (n + 1) last small
    (subst (λ (x : Beaten Count). Walks over_bytes ts t.held x.state r after) seen k.rest))

pub byte_course : (ts : List Turn) (r : Value) (after : Held) → ByteRest ts r after
byte_course [] r after = λ held recv b n last small d.
    byte_end held recv b n last r after (nat_lt last n) small refl refl d
byte_course (t ∷ ts) r after = λ held recv b n last small k.
    byte_turn t ts r after held recv b n last (nat_lt last n) small refl refl (byte_course ts r after) k

pub bytes_each : (held after : Held) (recv v : Value) (a z : ℕ) (b : ObjId) (ts : List Turn) → z < 256
    → range_in (kind_in held.store.objects recv) ≡ Some (bytes_to a z)
    → Gives (row.Visit visit.EachOfRange) held recv [] (Some b) ts v after → HandsOnBytes held a z b ts recv v after
bytes_each held after recv v a z b ts small is run =
    byte_course ts v after held recv b a z small (walks over_bytes bytes_go ts held (from_byte recv b a z) v after tt
    (subst (λ (q : Planned Stage). Runs q ts (gives after v))
    (run.starts ∙ ap (λ (o : Option RangeContents). wanted held class.Range recv o
    (λ r. counting.count_next held (counting.numbers_of r recv b (pos 1)))) is) run.runs))

-- without the last end

pub one_less : (z : ℕ) → pos (suc z) -ℤ pos 1 ≡ pos z
one_less z = ap (λ (c : Bool). cond c (negsuc (1 - suc (suc z))) (pos (suc z - 1))) (above z)
    ∙ ap (λ (n : ℕ). pos n) (same z)
  where
    above : (z : ℕ) → nat_lt (suc z) 1 ≡ false
    above z = grind (arith, nat_tests)

    same : (z : ℕ) → suc z - 1 ≡ z
    same z = omega arith

abbrev before_so : Value → ObjId → ℕ → ℕ → Option ℤ → Count
before_so recv b a z o = counting.before_end (counting.up_to_end (bytes_before a z) recv b (pos 1)) o

ends_before : (recv : Value) (b : ObjId) (a z : ℕ) → z < 2 ^ 63
    → counting.numbers_of (bytes_before a (suc z)) recv b (pos 1) ≡ from_byte recv b a z
ends_before recv b a z small = ap (λ (n : ℤ). before_so recv b a (suc z) (counting.within n)) (one_less z)
    ∙ ap (λ (c : Bool). before_so recv b a (suc z) (if c then Some (pos z) else None)) (lt-ltb z (2 ^ 63) small)

pub bytes_before_end : (held after : Held) (recv v : Value) (a z : ℕ) (b : ObjId) (ts : List Turn) → z < 256
    → range_in (kind_in held.store.objects recv) ≡ Some (bytes_before a (suc z))
    → Gives (row.Visit visit.EachOfRange) held recv [] (Some b) ts v after → HandsOnBytes held a z b ts recv v after
bytes_before_end held after recv v a z b ts small is run =
    byte_course ts v after held recv b a z small (walks over_bytes bytes_go ts held (from_byte recv b a z) v after tt
    (subst (λ (q : Planned Stage). Runs q ts (gives after v))
    (run.starts ∙ ap (λ (o : Option RangeContents). wanted held class.Range recv o
    (λ r. counting.count_next held (counting.numbers_of r recv b (pos 1)))) is
    ∙ ap (counting.count_next held) (ends_before recv b a z less)) run.runs))
  where
    less : z < 2 ^ 63
    less = omega (arith, small)

-- where that is the first byte of all there is none before it
pub no_byte_before : (held after : Held) (recv v : Value) (a : ℕ) (b : ObjId) (ts : List Turn)
    → range_in (kind_in held.store.objects recv) ≡ Some (bytes_before a 0)
    → Gives (row.Visit visit.EachOfRange) held recv [] (Some b) ts v after → (ts ≡ []) × IsValue held recv v after
no_byte_before held after recv v a b ts is run =
    let end = given ts held recv v after (subst (λ (q : Planned Stage). Runs q ts (gives after v))
    (run.starts ∙ ap (λ (o : Option RangeContents). wanted held class.Range recv o
    (λ r. counting.count_next held (counting.numbers_of r recv b (pos 1)))) is) run.runs) in
    (end.0, record { value = end.1; left = end.2 })
