-- `each_byte` of a String.
use Rattle.std.proofs.Common.{◌≡◌, ℕ, suc, ◌<◌, ◌+◌, ◌^◌, refl, sym, ap, subst, ◌∙◌, List, [], ◌∷◌, length, arith}
use Rattle.std.specs.Prelude.{pos, map, slice_get, Option, Some, None}
use Rattle.rb_value.specs.declared.value.Value.{Value}
use Rattle.rb_value.specs.declared.value.Value.TheVariants.{Int, Obj}
use Rattle.rb_value.specs.declared.value.ObjId.{ObjId}
use Rattle.rb_value.specs.declared.core_class.CoreClass.TheVariants as class
use Rattle.def_core.specs.Parts.{text_at}
use Rattle.def_calls.specs.Views.{a_string}
use Rattle.rb_store.specs.Held.{Held, one_more}
use Rattle.def_plans.specs.Plan.{Planned, gives, wanted}
use Rattle.run_rows.specs.declared.row.StarRow.TheVariants as row
use Rattle.run_rows.specs.declared.row.VisitRow.TheVariants as visit
use Rattle.core_iter.specs.declared.iteration.Iteration.TheVariants as state
use Rattle.core_iter.specs.declared.strings.ByteWalk.{ByteWalk}
use Rattle.core_iter.specs.Sending.{with_one}
use Rattle.core_iter.specs.Stage.{Stage}
use Rattle.core_iter.specs.Strings as strings
use Rattle.items_laws.specs.Run.{Turn, Runs, Gives}
use Rattle.items_laws.specs.Items.{call_of, calls_of, last_heap}
use Rattle.items_laws.specs.Texts.{HandsBytes}
use Rattle.items_laws.proofs.Reading.{counted}
use Rattle.items_laws.proofs.Walks.{Walk, as_left, Walks, Called, Done, Goes, plan_at, walks, one_same}
use Rattle.items_laws.proofs.Small.{from_first, none_some, some_none, sum_zero, sum_more}

abbrev pub over_bytes : Walk ByteWalk
over_bytes = record {
  fits = λ w. Unit {0};
  as_state = λ w. state.Bytes w;
  beat = λ held w. strings.byte_beat held w;
  later = λ held w a. w;
  left = as_left;
  ending = λ w. Obj w.string;
}

pub bytes_go : Goes over_bytes
bytes_go = record { goes = λ h w a p f e. e; beats = λ h w f. tt; later = λ h w a f. tt }

abbrev byte_at : Held → ByteWalk → Option ℕ
byte_at held w = slice_get (text_at held.store.objects w.string) w.place

abbrev behind : ByteWalk → ByteWalk
behind w = record w { place = one_more w.place }

byte_end : (held : Held) (w : ByteWalk) (r : Value) (after : Held) (o : Option ℕ) → byte_at held w ≡ o
    → Done over_bytes held w r after → HandsBytes held w.string w.block w.place [] r after
byte_end held w r after None there d = record {
  bytes = [];
  read = refl;
  called = refl;
  heaps = refl;
  over = ap (λ (n : ℕ). slice_get (text_at held.store.objects w.string) n) (sym (sum_zero w.place)) ∙ there;
  result = record {
    value = d.value;
    left = d.left ∙ ap (λ (o : Option ℕ). (strings.byte_by held w o).held) there;
  };
}
byte_end held w r after (Some x) there d = absurd (some_none (with_one w.block (Int (pos x)))
    (subst (λ (o : Option ℕ). (strings.byte_by held w o).beat ≡ None) there d.none))

-- with a byte before those of the other turns
one_byte : (held : Held) (s b : ObjId) (n x : ℕ) (t : Turn) (ts : List Turn) (r : Value) (after : Held)
    → slice_get (text_at held.store.objects s) n ≡ Some x → call_of t.wanted.plan ≡ Some (b, Int (pos x) ∷ [])
    → t.wanted.held ≡ held → HandsBytes t.held s b (n + 1) ts r after → HandsBytes held s b n (t ∷ ts) r after
one_byte held s b n x t ts r after there call asked rest = record {
  bytes = x ∷ rest.bytes;
  read = ap (λ (o : Option ℕ). o ∷ map Some rest.bytes) (sym there)
      ∙ ap (λ (os : List (Option ℕ)). slice_get (text_at held.store.objects s) n ∷ os) rest.read;
  called = ap (λ (c : Option (ObjId × List Value)). c ∷ calls_of ts) call
      ∙ ap (λ (cs : List (Option (ObjId × List Value))). Some (b, Int (pos x) ∷ []) ∷ cs) rest.called;
  heaps = ap (λ (h : Held). h ∷ map (λ t. t.wanted.held) ts) asked
      ∙ ap (λ (hs : List Held). held ∷ hs) rest.heaps;
  over = subst (λ (k : ℕ). slice_get (text_at (last_heap t.held ts).store.objects s) k ≡ None)
      (sum_more n (length ts)) rest.over;
  result = rest.result;
}

abbrev pub ByteRest : List Turn → Value → Held → Type 0
ByteRest ts r after = (held : Held) (w : ByteWalk) → w.place + length ts < 2 ^ 64 → Walks over_bytes ts held w r after
    → HandsBytes held w.string w.block w.place ts r after

byte_turn : (t : Turn) (ts : List Turn) (r : Value) (after held : Held) (w : ByteWalk) (o : Option ℕ)
    → byte_at held w ≡ o → ByteRest ts r after → w.place + suc (length ts) < 2 ^ 64
    → Called over_bytes held w t (Walks over_bytes ts t.held (strings.byte_beat held w).state r after)
    → HandsBytes held w.string w.block w.place (t ∷ ts) r after
byte_turn t ts r after held w None there rest less c =
    absurd (none_some c.call (subst (λ (o : Option ℕ). (strings.byte_by held w o).beat ≡ Some c.call) there c.there))
byte_turn t ts r after held w (Some x) there rest less c =
    let call = subst (λ (o : Option ℕ). (strings.byte_by held w o).beat ≡ Some c.call) there c.there in
    let one = counted w.place (omega (arith, less)) in
    let still : one_more w.place + length ts < 2 ^ 64 = omega (arith, less, one) in
    let more = rest t.held (behind w) still
    (subst (λ (o : Option ℕ). Walks over_bytes ts t.held (strings.byte_by held w o).state r after) there c.rest) in
    one_byte held w.string w.block w.place x t ts r after there (c.called ∙ one_same w.block (Int (pos x)) c.call call)
    (c.asked ∙ ap (λ (o : Option ℕ). (strings.byte_by held w o).held) there)
    (subst (λ (n : ℕ). HandsBytes t.held w.string w.block n ts r after) one more)

pub byte_course : (ts : List Turn) (r : Value) (after : Held) → ByteRest ts r after
byte_course [] r after = λ held w less d. byte_end held w r after (byte_at held w) refl d
byte_course (t ∷ ts) r after = λ held w less c.
    byte_turn t ts r after held w (byte_at held w) refl (byte_course ts r after) less c

pub each_byte : (held after : Held) (recv v : Value) (s b : ObjId) (ts : List Turn) → length ts < 2 ^ 64
    → a_string held.store.objects recv ≡ Some s
    → Gives (row.Visit visit.EachByte) held recv [] (Some b) ts v after → HandsBytes held s b 0 ts v after
each_byte held after recv v s b ts less there run =
    let w : ByteWalk = record { string = s; place = 0; block = b } in
    let first : run.first ≡ plan_at over_bytes held w = run.starts
    ∙ ap (λ (o : Option ObjId). wanted held class.String recv o (λ x. strings.begun visit.EachByte held x b)) there in
    byte_course ts v after held w (from_first (length ts) less) (walks over_bytes bytes_go ts held w v after tt
    (subst (λ (q : Planned Stage). Runs q ts (gives after v)) first run.runs))
