-- Methods that ask values for their texts and write these.
use Rattle.std.proofs.Common.{◌≡◌, ℕ, zero, suc, ◌<◌, ◌+◌, ◌^◌, refl, sym, ap, subst, ◌∙◌, List, [], ◌∷◌, ◌++◌, length, drop, arith, append_assoc, append-nil}
use Rattle.std.specs.Prelude.{slice_get, Bool, true, false, if◌then◌else◌, Some, None}
use Rattle.rb_value.specs.declared.value.Value.{Value}
use Rattle.rb_store.specs.Held.{Held, one_more}
use Rattle.def_plans.specs.Plan.{Planned, gives}
use Rattle.core_iter.specs.declared.iteration.Iteration.{Iteration}
use Rattle.core_iter.specs.declared.iteration.Rest.{Rest}
use Rattle.core_iter.specs.Rows.{GoesOn}
use Rattle.core_iter.specs.Sending.{ask}
use Rattle.core_iter.specs.Stage.{Stage, own}
use Rattle.core_iter.specs.Writing.{all_of, bytes_of, first, writing}
use Rattle.items_laws.specs.Run.{Turn, Runs, waiting}
use Rattle.items_laws.specs.Output.{GoesOut, IsAsked, IsCutShort, IsOut, Says, asked, in_its_line, in_its_text, lines_of, one_asked, silence, some_out}
use Rattle.items_laws.proofs.Course.{no_turn, waits_for}

-- the first value is passed
abbrev pub behind_first : Rest → Rest
behind_first r = record r { place = one_more r.place }

-- Where such a method stands once bytes are written, and while it waits for a text, and what comes then; at the end it gives
-- a value and leaves a heap.
pub record Speaker (name : List ℕ) (silent : Value → Bool) (line : List ℕ → List ℕ) (result : Held → List Value → Value)
    (left : Held → List Value → Held) : Type 0 where
  pub behind : Rest → Iteration
  pub within : Rest → Iteration
  pub next : Held → Rest → Planned Stage
  pub written : (held : Held) (r : Rest) (a : Value) (p : Planned Stage) → GoesOn held (own (behind r)) a p → p ≡ next held r
  pub told : (held : Held) (r : Rest) (a : Value) (p : Planned Stage) → GoesOn held (own (within r)) a p
      → p ≡ writing held (behind r) (line (bytes_of held.store a))
  pub ends : (held : Held) (r : Rest) → first r ≡ None → next held r ≡ gives (left held r.values) (result held r.values)
  pub asks : (held : Held) (r : Rest) (v : Value) → first r ≡ Some v → silent v ≡ false
      → next held r ≡ ask held (own (within (behind_first r))) v name
  pub silences : (held : Held) (r : Rest) (v : Value) → first r ≡ Some v → silent v ≡ true
      → next held r ≡ writing held (behind (behind_first r)) (line [])

-- these values are left
pub record Left (r : Rest) (vs : List Value) : Type 0 where
  pub there : drop r.place r.values ≡ vs
  pub size : length r.values ≡ r.place + length vs
  pub less : length r.values < 2 ^ 64

from_nothing : (n : ℕ) → n ≡ 0 + n
from_nothing n = omega arith

pub all_left : (vs : List Value) → length vs < 2 ^ 64 → Left (all_of vs) vs
all_left vs less = record { there = refl; size = from_nothing (length vs); less = less }

first_of : (n : ℕ) (xs : List Value) (v : Value) (vs : List Value) → drop n xs ≡ v ∷ vs → slice_get xs n ≡ Some v
first_of zero [] v vs e = absurd (cc)
first_of zero (x ∷ xs) v vs e = cc
first_of (suc n) [] v vs e = absurd (cc)
first_of (suc n) (x ∷ xs) v vs e = first_of n xs v vs e

no_first : (n : ℕ) (xs : List Value) → drop n xs ≡ [] → slice_get xs n ≡ None
no_first zero [] e = refl
no_first zero (x ∷ xs) e = absurd (cc)
no_first (suc n) [] e = refl
no_first (suc n) (x ∷ xs) e = no_first n xs e

others : (n : ℕ) (xs : List Value) (v : Value) (vs : List Value) → drop n xs ≡ v ∷ vs → drop (suc n) xs ≡ vs
others zero [] v vs e = absurd (cc)
others zero (x ∷ xs) v vs e = cc
others (suc n) [] v vs e = absurd (cc)
others (suc n) (x ∷ xs) v vs e = others n xs v vs e

next_place : (n k m : ℕ) → m ≡ n + suc k → m < 2 ^ 64 → one_more n ≡ suc n
next_place n k m size less = omega (arith, size, less)

one_fewer : (n k m : ℕ) → m ≡ n + suc k → m ≡ suc n + k
one_fewer n k m size = omega (arith, size)

left_behind : (r : Rest) (v : Value) (vs : List Value) → Left r (v ∷ vs) → Left (behind_first r) vs
left_behind r v vs l =
    let e = next_place r.place (length vs) (length r.values) l.size l.less in
    record {
      there = ap (λ (n : ℕ). drop n r.values) e ∙ others r.place r.values v vs l.there;
      size = one_fewer r.place (length vs) (length r.values) l.size ∙ ap (λ (n : ℕ). n + length vs) (sym e);
      less = l.less;
    }

-- What comes of the values that are left: all go out, or the last thing that is wanted isn't answered.
pub data Spoken (name : List ℕ) (silent : Value → Bool) (line : List ℕ → List ℕ) (held : Held) (vs : List Value)
    (ts : List Turn) (End : Held → Type 0) (last : Planned Stage) : Type 0 where
  all_of_it : GoesOut name silent line held vs ts End → Spoken name silent line held vs ts End last
  part : IsCutShort name silent line held vs ts last → Spoken name silent line held vs ts End last

-- a value's text, and its line

asked_first : (silent : Value → Bool) (v : Value) (vs : List Value) (c : Bool) → silent v ≡ c
    → asked silent (v ∷ vs) ≡ (if c then asked silent vs else v ∷ asked silent vs)
asked_first silent v vs c e = ap (λ (c : Bool). if c then asked silent vs else v ∷ asked silent vs) e

silent_line : (silent : Value → Bool) (line : List ℕ → List ℕ) (v : Value) (vs : List Value) (texts : List (List ℕ))
    → silent v ≡ true → lines_of silent line (v ∷ vs) texts ≡ line [] ++ lines_of silent line vs texts
silent_line silent line v vs [] e = ap (λ (c : Bool). if c then line [] ++ lines_of silent line vs [] else []) e
silent_line silent line v vs (t ∷ texts) e = ap (λ (c : Bool). if c then line [] ++ lines_of silent line vs (t ∷ texts)
    else line t ++ lines_of silent line vs texts) e

text_line : (silent : Value → Bool) (line : List ℕ → List ℕ) (v : Value) (vs : List Value) (t : List ℕ)
    (texts : List (List ℕ)) → silent v ≡ false
    → lines_of silent line (v ∷ vs) (t ∷ texts) ≡ line t ++ lines_of silent line vs texts
text_line silent line v vs t texts e = ap (λ (c : Bool). if c then line [] ++ lines_of silent line vs (t ∷ texts)
    else line t ++ lines_of silent line vs texts) e

-- the line of a silent value is written

with_silence : (name : List ℕ) (silent : Value → Bool) (line : List ℕ → List ℕ) (held : Held) (v : Value)
    (vs : List Value) (t : Turn) (ts : List Turn) (End : Held → Type 0) (last : Planned Stage) → silent v ≡ true
    → IsOut (line []) held t.wanted → Spoken name silent line t.held vs ts End last
    → Spoken name silent line held (v ∷ vs) (t ∷ ts) End last
with_silence name silent line held v vs t ts End last is out (all_of_it more) = all_of_it (record {
  texts = more.texts;
  bytes = line [] ++ more.bytes;
  last = more.last;
  says = subst (λ (xs : List Value). Says name held (t ∷ ts) xs more.texts (line [] ++ more.bytes) more.last)
      (sym (asked_first silent v vs true is))
      (some_out held more.last (line []) more.bytes t ts (asked silent vs) more.texts out more.says);
  lines = ap (λ (l : List ℕ). line [] ++ l) more.lines ∙ sym (silent_line silent line v vs more.texts is);
  result = more.result;
})
with_silence name silent line held v vs t ts End last is out (part (in_its_text h passed further x texts bytes same says asks lines)) =
    part (in_its_text h (v ∷ passed) further x texts (line [] ++ bytes) (ap (λ (l : List Value). v ∷ l) same)
    (subst (λ (xs : List Value). Says name held (t ∷ ts) xs texts (line [] ++ bytes) h)
    (sym (asked_first silent v passed true is))
    (some_out held h (line []) bytes t ts (asked silent passed) texts out says)) asks
    (ap (λ (l : List ℕ). line [] ++ l) lines ∙ sym (silent_line silent line v passed texts is)))
with_silence name silent line held v vs t ts End last is out (part (in_its_line h passed further texts bytes some same says last_out lines)) =
    part (in_its_line h (v ∷ passed) further texts (line [] ++ bytes) some (ap (λ (l : List Value). v ∷ l) same)
    (subst (λ (xs : List Value). Says name held (t ∷ ts) xs texts (line [] ++ bytes) h)
    (sym (asked_first silent v passed true is))
    (some_out held h (line []) bytes t ts (asked silent passed) texts out says)) last_out
    (append_assoc (line []) bytes some ∙ ap (λ (l : List ℕ). line [] ++ l) lines
    ∙ sym (silent_line silent line v passed texts is)))

-- a value answers, and its line is written

heard_first : (name : List ℕ) (silent : Value → Bool) (line : List ℕ → List ℕ) (held after : Held) (v : Value)
    (vs : List Value) (t u : Turn) (ts : List Turn) (texts : List (List ℕ)) (bytes : List ℕ) → silent v ≡ false
    → IsAsked name held v t.wanted → IsOut (line (bytes_of t.held.store t.answer)) t.held u.wanted
    → Says name u.held ts (asked silent vs) texts bytes after
    → Says name held (t ∷ u ∷ ts) (asked silent (v ∷ vs)) (bytes_of t.held.store t.answer ∷ texts)
    (line (bytes_of t.held.store t.answer) ++ bytes) after
heard_first name silent line held after v vs t u ts texts bytes is asks out says =
    let text = bytes_of t.held.store t.answer in
    subst (λ (xs : List Value). Says name held (t ∷ u ∷ ts) xs (text ∷ texts) (line text ++ bytes) after)
    (sym (asked_first silent v vs false is))
    (one_asked held after v t (u ∷ ts) (asked silent vs) texts (line text ++ bytes) asks
    (some_out t.held after (line text) bytes u ts (asked silent vs) texts out says))

with_text : (name : List ℕ) (silent : Value → Bool) (line : List ℕ → List ℕ) (held : Held) (v : Value)
    (vs : List Value) (t u : Turn) (ts : List Turn) (End : Held → Type 0) (last : Planned Stage) → silent v ≡ false
    → IsAsked name held v t.wanted → IsOut (line (bytes_of t.held.store t.answer)) t.held u.wanted
    → Spoken name silent line u.held vs ts End last → Spoken name silent line held (v ∷ vs) (t ∷ u ∷ ts) End last
with_text name silent line held v vs t u ts End last is asks out (all_of_it more) =
    let text = bytes_of t.held.store t.answer in all_of_it (record {
      texts = text ∷ more.texts;
      bytes = line text ++ more.bytes;
      last = more.last;
      says = heard_first name silent line held more.last v vs t u ts more.texts more.bytes is asks out more.says;
      lines = ap (λ (l : List ℕ). line text ++ l) more.lines ∙ sym (text_line silent line v vs text more.texts is);
      result = more.result;
    })
with_text name silent line held v vs t u ts End last is asks out (part (in_its_text h passed further x texts bytes same says last_asks lines)) =
    let text = bytes_of t.held.store t.answer in
    part (in_its_text h (v ∷ passed) further x (text ∷ texts) (line text ++ bytes) (ap (λ (l : List Value). v ∷ l) same)
    (heard_first name silent line held h v passed t u ts texts bytes is asks out says) last_asks
    (ap (λ (l : List ℕ). line text ++ l) lines ∙ sym (text_line silent line v passed text texts is)))
with_text name silent line held v vs t u ts End last is asks out (part (in_its_line h passed further texts bytes some same says last_out lines)) =
    let text = bytes_of t.held.store t.answer in
    part (in_its_line h (v ∷ passed) further (text ∷ texts) (line text ++ bytes) some
    (ap (λ (l : List Value). v ∷ l) same)
    (heard_first name silent line held h v passed t u ts texts bytes is asks out says) last_out
    (append_assoc (line text) bytes some ∙ ap (λ (l : List ℕ). line text ++ l) lines
    ∙ sym (text_line silent line v passed text texts is)))

-- What is wanted last.

last_silence : (name : List ℕ) (silent : Value → Bool) (line : List ℕ → List ℕ) (held : Held) (v : Value)
    (vs : List Value) (End : Held → Type 0) (last : Planned Stage) → silent v ≡ true → IsOut (line []) held last
    → Spoken name silent line held (v ∷ vs) [] End last
last_silence name silent line held v vs End last is out = part (in_its_line held (v ∷ []) vs [] [] (line []) refl
    (subst (λ (xs : List Value). Says name held [] xs [] [] held) (sym (asked_first silent v [] true is)) (silence held))
    out (sym (silent_line silent line v [] [] is ∙ append-nil (line []))))

last_line : (name : List ℕ) (silent : Value → Bool) (line : List ℕ → List ℕ) (held : Held) (v : Value)
    (vs : List Value) (t : Turn) (End : Held → Type 0) (last : Planned Stage) → silent v ≡ false
    → IsAsked name held v t.wanted → IsOut (line (bytes_of t.held.store t.answer)) t.held last
    → Spoken name silent line held (v ∷ vs) (t ∷ []) End last
last_line name silent line held v vs t End last is asks out =
    let text = bytes_of t.held.store t.answer in
    part (in_its_line t.held (v ∷ []) vs (text ∷ []) [] (line text) refl
    (subst (λ (xs : List Value). Says name held (t ∷ []) xs (text ∷ []) [] t.held) (sym (asked_first silent v [] false is))
    (one_asked held t.held v t [] [] [] [] asks (silence t.held)))
    out (sym (text_line silent line v [] text [] is ∙ append-nil (line text))))

-- The plans.

pub asked_so : (name : List ℕ) (held : Held) (s : Stage) (v : Value) (p : Planned Stage) → p ≡ ask held s v name
    → IsAsked name held v p
asked_so name held s v p e =
    subst (λ (q : Planned Stage). IsAsked name held v q) (sym e) (record { message = refl; heap = refl })

out_so : (held : Held) (s : Iteration) (bytes : List ℕ) (p : Planned Stage) → p ≡ writing held s bytes → IsOut bytes held p
out_so held s bytes p e = subst (λ (q : Planned Stage). IsOut bytes held q) (sym e) (record { bytes_are = refl; heap = refl })

-- A turn of a run, by the plan that comes first.

pub record Step (q : Planned Stage) (s : Stage) (t : Turn) (ts : List Turn) (last : Planned Stage) : Type 0 where
  pub wanted : t.wanted ≡ q
  pub next : Planned Stage
  pub goes : GoesOn t.held s t.answer next
  pub runs : Runs next ts last

pub stepped : (q p : Planned Stage) (s : Stage) (t : Turn) (ts : List Turn) (last : Planned Stage) → p ≡ q
    → waiting q.plan ≡ Some s → Runs p (t ∷ ts) last → Step q s t ts last
stepped q p s t ts last is waits runs =
    let same = runs.0 ∙ is in
    let leads = runs.1 in
    let stage = waits_for t q s leads.stage same waits leads.waits in
    record {
      wanted = same;
      next = leads.next;
      goes = subst (λ (x : Stage). GoesOn t.held x t.answer leads.next) stage leads.follows;
      runs = leads.further;
    }

pub at_end : (ts : List Turn) (h : Held) (x : Value) (p last : Planned Stage) → p ≡ gives h x → Runs p ts last
    → (ts ≡ []) × (last ≡ gives h x)
at_end [] h x p last is runs = (refl, sym runs ∙ is)
at_end (t ∷ ts) h x p last is runs = absurd (no_turn t p (λ next. Runs next ts last)
    (ap (λ (q : Planned Stage). waiting q.plan) is) runs.0 runs.1)

-- all of it

abbrev RestOf : (name : List ℕ) (silent : Value → Bool) (line : List ℕ → List ℕ) (End : Held → Type 0)
    (next : Held → Rest → Planned Stage) (vs : List Value) (last : Planned Stage) → Rest → Type 0
RestOf name silent line End next vs last r = (h : Held) (ts : List Turn) (p : Planned Stage) → p ≡ next h r
    → Runs p ts last → Spoken name silent line h vs ts End last

in_line : (name : List ℕ) (silent : Value → Bool) (line : List ℕ → List ℕ) (result : Held → List Value → Value)
    (left : Held → List Value → Held) (m : Speaker name silent line result left) (v : Value) (vs : List Value)
    (held : Held) (r : Rest) (End : Held → Type 0) (t : Turn) (ts : List Turn) (last p : Planned Stage)
    → silent v ≡ false → IsAsked name held v t.wanted
    → p ≡ writing t.held (m.behind (behind_first r)) (line (bytes_of t.held.store t.answer))
    → RestOf name silent line End m.next vs last (behind_first r) → Runs p ts last
    → Spoken name silent line held (v ∷ vs) (t ∷ ts) End last
in_line name silent line result left m v vs held r End t [] last p is asks comes rest runs =
    last_line name silent line held v vs t End last is asks
    (out_so t.held (m.behind (behind_first r)) (line (bytes_of t.held.store t.answer)) last (sym runs ∙ comes))
in_line name silent line result left m v vs held r End t (u ∷ ts) last p is asks comes rest runs =
    let bytes = line (bytes_of t.held.store t.answer) in
    let after = m.behind (behind_first r) in
    let k = stepped (writing t.held after bytes) p (own after) u ts last comes refl runs in
    with_text name silent line held v vs t u ts End last is asks (out_so t.held after bytes u.wanted k.wanted)
    (rest u.held ts k.next (m.written u.held (behind_first r) u.answer k.next k.goes) k.runs)

pub silence_out : (name : List ℕ) (silent : Value → Bool) (line : List ℕ → List ℕ)
    (result : Held → List Value → Value) (left : Held → List Value → Held) (m : Speaker name silent line result left)
    (v : Value) (vs : List Value) (held : Held) (r : Rest) (End : Held → Type 0) (ts : List Turn) (last p : Planned Stage)
    → silent v ≡ true → p ≡ writing held (m.behind r) (line []) → RestOf name silent line End m.next vs last r
    → Runs p ts last → Spoken name silent line held (v ∷ vs) ts End last
silence_out name silent line result left m v vs held r End [] last p is comes rest runs =
    last_silence name silent line held v vs End last is (out_so held (m.behind r) (line []) last (sym runs ∙ comes))
silence_out name silent line result left m v vs held r End (t ∷ ts) last p is comes rest runs =
    let k = stepped (writing held (m.behind r) (line [])) p (own (m.behind r)) t ts last comes refl runs in
    with_silence name silent line held v vs t ts End last is (out_so held (m.behind r) (line []) t.wanted k.wanted)
    (rest t.held ts k.next (m.written t.held r t.answer k.next k.goes) k.runs)

spoken_one : (name : List ℕ) (silent : Value → Bool) (line : List ℕ → List ℕ) (result : Held → List Value → Value)
    (left : Held → List Value → Held) (m : Speaker name silent line result left) (v : Value) (vs : List Value)
    (held : Held) (r : Rest) (End : Held → Type 0) (ts : List Turn) (last p : Planned Stage) (c : Bool) → silent v ≡ c
    → first r ≡ Some v → p ≡ m.next held r → RestOf name silent line End m.next vs last (behind_first r)
    → Runs p ts last → Spoken name silent line held (v ∷ vs) ts End last
spoken_one name silent line result left m v vs held r End ts last p true is there comes rest runs =
    silence_out name silent line result left m v vs held (behind_first r) End ts last p is
    (comes ∙ m.silences held r v there is) rest runs
spoken_one name silent line result left m v vs held r End [] last p false is there comes rest runs =
    part (in_its_text held [] vs v [] [] refl (silence held)
    (asked_so name held (own (m.within (behind_first r))) v last (sym runs ∙ comes ∙ m.asks held r v there is)) refl)
spoken_one name silent line result left m v vs held r End (t ∷ ts) last p false is there comes rest runs =
    let waits = own (m.within (behind_first r)) in
    let k = stepped (ask held waits v name) p waits t ts last (comes ∙ m.asks held r v there is) refl runs in
    in_line name silent line result left m v vs held r End t ts last k.next is
    (asked_so name held waits v t.wanted k.wanted) (m.told t.held (behind_first r) t.answer k.next k.goes) rest k.runs

pub speaks : (name : List ℕ) (silent : Value → Bool) (line : List ℕ → List ℕ) (result : Held → List Value → Value)
    (left : Held → List Value → Held) (m : Speaker name silent line result left) (vs : List Value) (held : Held)
    (r : Rest) (all : List Value) (ts : List Turn) (last p : Planned Stage) → r.values ≡ all → Left r vs
    → p ≡ m.next held r → Runs p ts last
    → Spoken name silent line held vs ts (λ h. last ≡ gives (left h all) (result h all)) last
speaks name silent line result left m [] held r all ts last p whole l comes runs =
    let end = at_end ts (left held r.values) (result held r.values) p last
    (comes ∙ m.ends held r (no_first r.place r.values l.there)) runs in
    subst (λ (us : List Turn). Spoken name silent line held [] us (λ h. last ≡ gives (left h all) (result h all)) last)
    (sym end.0) (all_spoken held (end.1 ∙ ap (λ (vs : List Value). gives {S = Stage} (left held vs) (result held vs)) whole))
  where
    all_spoken : (h : Held) → last ≡ gives (left h all) (result h all)
        → Spoken name silent line h [] [] (λ h. last ≡ gives (left h all) (result h all)) last
    all_spoken h e = all_of_it (record {
      texts = [];
      bytes = [];
      last = h;
      says = silence h;
      lines = refl;
      result = e;
    })
speaks name silent line result left m (v ∷ vs) held r all ts last p whole l comes runs =
    spoken_one name silent line result left m v vs held r (λ h. last ≡ gives (left h all) (result h all)) ts last p
    (silent v) refl (first_of r.place r.values v vs l.there) comes
    (λ h us q is further. speaks name silent line result left m vs h (behind_first r) all us last q whole
    (left_behind r v vs l) is further) runs
