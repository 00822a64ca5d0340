-- `-`, `&` and `|` of Arrays, left: their works, as the beginnings of those that end.
use Rattle.std.proofs.Common.{◌≡◌, ℕ, ◌<◌, ◌^◌, refl, sym, ap, subst, ◌∙◌, List, [], ◌∷◌, ◌++◌, append_assoc, length, drop}
use Rattle.std.specs.Prelude.{codes, Bool, true, false, if◌then◌else◌, Option, Some, None}
use Rattle.rb_value.specs.declared.value.Value.{Value}
use Rattle.rb_value.specs.declared.value.Value.TheVariants.{True}
use Rattle.rb_value.specs.declared.value.ObjId.{ObjId}
use Rattle.rb_value.specs.declared.value.SymId.{SymId}
use Rattle.rb_value.specs.declared.core_class.CoreClass.TheVariants as class
use Rattle.rb_value.specs.Value.{is_true}
use Rattle.def_calls.specs.Views.{an_array}
use Rattle.heap.specs.Made.{array_given}
use Rattle.rb_store.specs.Held.{Held, one_more}
use Rattle.def_plans.specs.Plan.{Planned}
use Rattle.iter_comparing.specs.declared.row.ComparingRow.TheVariants as comparing_row
use Rattle.iter_comparing.specs.declared.sifting.Sieve.TheVariants as sieve
use Rattle.iter_comparing.specs.declared.sifting.Sifting.{Sifting}
use Rattle.iter_comparing.specs.declared.state.Work.{Work}
use Rattle.iter_comparing.specs.declared.state.Work.TheVariants as work
use Rattle.iter_comparing.specs.Asking.{Comes, args_of, asked_as, hear, is_known, question}
use Rattle.iter_comparing.specs.Questions.{Asked}
use Rattle.iter_comparing.specs.Rows as comparing
use Rattle.iter_comparing.specs.Sifting.{candidate, found, heard, keeps_missed, missed, passed, sifted, sifted_by}
use Rattle.iter_comparing.specs.Stage as over_values
use Rattle.core_iter.specs.Stage.{Stage}
use Rattle.items_laws.specs.Beginning.{IsBeginning}
use Rattle.items_laws.specs.Run.{Turn, Runs, waiting}
use Rattle.items_laws.specs.Asked.{Replies, asked, nil_asked, symbol, with_symbol}
use Rattle.items_laws.specs.CutAsked.{IsAbandoned, IsUnreplied, is_sent, is_sent_to_nil}
use Rattle.items_laws.specs.Sieved.{IsNew, IsSieved, Lacks, SharesNew, elements, own_equality}
use Rattle.items_laws.proofs.Sent.{lifted, opening, sending}
use Rattle.items_laws.proofs.Sieved.{Done, Kind, at_first, begins_so, behind_it, first, fresh, fresh_done, lacking, sharing, sieved_so, work_at}
use Rattle.items_laws.proofs.Unended.{Unended, has_replied, never_replied, unended}
use Rattle.items_laws.proofs.Working.{Course, at_end, last_reply, one_reply}

-- turns by which a work ends
record Ends (name : SymId) (held : Held) (w : Work) : Type 0 where
  turns : List Turn
  value : Value
  after : Held
  course : Course name held w turns value after

-- a work that asks the same
same_course : (name : SymId) (held : Held) (w u : Work) (ts : List Turn) (r : Value) (after : Held)
    → question held w ≡ question held u → Course name held u ts r after → Course name held w ts r after
same_course name held w u ts r after same (at_end h x v is) =
    subst (λ (k : Held). Course name h w [] v k) (ap (λ (q : Asked Work). q.held) same)
    (at_end h w v (ap (λ (q : Asked Work). q.question) same ∙ is))
same_course name held w u ts r after same (last_reply h k x y a v arg us is replies ends) =
    last_reply h k w y a v arg us (ap (λ (q : Asked Work). q.question) same ∙ is)
    (subst (λ (q : Asked Work). Replies (is_known q.work y arg) name q.held y (args_of arg) us a k) (sym same) replies)
    (ap (λ (q : Asked Work). (hear k.store q.work a).ends) same ∙ ends)
same_course name held w u ts r after same (one_reply h k l x y a v arg us vs is replies ends rest) =
    one_reply h k l w y a v arg us vs (ap (λ (q : Asked Work). q.question) same ∙ is)
    (subst (λ (q : Asked Work). Replies (is_known q.work y arg) name q.held y (args_of arg) us a k) (sym same) replies)
    (ap (λ (q : Asked Work). (hear k.store q.work a).ends) same ∙ ends)
    (subst (λ (z : Work). Course name k z vs v l) (ap (λ (q : Asked Work). (hear k.store q.work a).work) (sym same)) rest)

same_ends : (name : SymId) (held : Held) (w u : Work) → question held w ≡ question held u → Ends name held u
    → Ends name held w
same_ends name held w u same e = record {
  turns = e.turns;
  value = e.value;
  after = e.after;
  course = same_course name held w u e.turns e.value e.after same e.course;
}

-- A turn with the answer true, where a message is sent.

abbrev replied : Planned Stage → Held → Turn
replied last held = record { wanted = last; answer = True; held = held }

replies_to : (known : Bool) (name : SymId) (held k : Held) (x : Value) (args : List Value) (last : Planned Stage)
    → IsUnreplied known name held x args last → Replies known name held x args (replied last k ∷ []) True k
replies_to known name held k x args last (is_sent wanted message) = asked (replied last k) wanted message
replies_to known name held k x args last (is_sent_to_nil knows wanted message) =
    nil_asked (replied last k) knows wanted message

abbrev message : Held → Value → SymId → List Value → Planned Stage
message held x name args = lifted (sending over_values.hands held x name args)

-- Works that sieve: with each answer true, a value fewer is left, or it is found among the others.

abbrev sifts : Sifting → Work
sifts s = work.Sifts s

abbrev asking : Held → Sifting → List Value → Asked Work
asking held s vs = asked_as work.Sifts (sifted held s vs)

abbrev asking_by : Held → Sifting → Value → List Value → Option Value → Asked Work
asking_by held s v vs o = asked_as work.Sifts (sifted_by held s v o (sifted held (missed s v) vs))

missed_place : (s : Sifting) (v : Value) (c : Bool) → keeps_missed s ≡ c → (missed s v).place ≡ one_more s.place
missed_place s v true e =
    ap (λ (b : Bool). (passed (if b then record s { kept = s.kept ++ v ∷ [] } else s)).place) e
missed_place s v false e =
    ap (λ (b : Bool). (passed (if b then record s { kept = s.kept ++ v ∷ [] } else s)).place) e

missed_values : (s : Sifting) (v : Value) (c : Bool) → keeps_missed s ≡ c → (missed s v).values ≡ s.values
missed_values s v true e =
    ap (λ (b : Bool). (passed (if b then record s { kept = s.kept ++ v ∷ [] } else s)).values) e
missed_values s v false e =
    ap (λ (b : Bool). (passed (if b then record s { kept = s.kept ++ v ∷ [] } else s)).values) e

-- the values that are left
record Left (s : Sifting) (vs : List Value) : Type 0 where
  there : drop s.place s.values ≡ vs
  few : length s.values < 2 ^ 64

left_passed : (s : Sifting) (v : Value) (vs : List Value) → Left s (v ∷ vs) → Left (passed s) vs
left_passed s v vs l = record { there = behind_it s.place s.values v vs l.few l.there; few = l.few }

left_missed : (s : Sifting) (v : Value) (vs : List Value) → Left s (v ∷ vs) → Left (missed s v) vs
left_missed s v vs l =
    let same = missed_values s v (keeps_missed s) refl in
    record {
      there = ap (λ (n : ℕ). drop n (missed s v).values) (missed_place s v (keeps_missed s) refl)
          ∙ ap (λ (xs : List Value). drop (one_more s.place) xs) same ∙ behind_it s.place s.values v vs l.few l.there;
      few = subst (λ (xs : List Value). length xs < 2 ^ 64) (sym same) l.few;
    }

abbrev EndsFor : SymId → List Value → Type 0
EndsFor name vs = (held : Held) (s : Sifting) → Left s vs → Ends name held (sifts s)

asks_of : (held : Held) (s : Sifting) (vs : List Value) → Left s vs → question held (sifts s) ≡ asking held s vs
asks_of held s vs l = ap (λ (xs : List Value). asking held s xs) l.there

-- no value is left
none_left : (name : SymId) → EndsFor name []
none_left name held s l =
    let seen = asks_of held s [] l in
    record {
      turns = [];
      value = array_given held.store s.kept;
      after = (question held (sifts s)).held;
      course = at_end held (sifts s) (array_given held.store s.kept) (ap (λ (q : Asked Work). q.question) seen);
    }

-- the next value isn't found, and is passed
missed_ends : (name : SymId) (held : Held) (s : Sifting) (v : Value) (vs : List Value) → EndsFor name vs
    → Left s (v ∷ vs) → question held (sifts s) ≡ asking_by held s v vs None → Ends name held (sifts s)
missed_ends name held s v vs rest l seen =
    let less = left_missed s v vs l in
    same_ends name held (sifts s) (sifts (missed s v)) (seen ∙ sym (asks_of held (missed s v) vs less))
    (rest held (missed s v) less)

-- it is asked for, and found
found_ends : (name : SymId) (held : Held) (s u : Sifting) (v c : Value) (vs : List Value) → found s ≡ u
    → question held (sifts s) ≡ asking_by held s v vs (Some c) → Ends name held (sifts u) → Ends name held (sifts s)
found_ends name held s u v c vs is seen e =
    let t = replied (message held c name (v ∷ [])) held in
    record {
      turns = t ∷ e.turns;
      value = e.value;
      after = e.after;
      course = one_reply held held e.after (sifts s) c True e.value (Some v) (t ∷ []) e.turns
          (ap (λ (q : Asked Work). q.question) seen)
          (subst (λ (q : Asked Work). Replies (is_known q.work c (Some v)) name q.held c (args_of (Some v)) (t ∷ []) True held)
          (sym seen) (asked t refl refl))
          (ap (λ (q : Asked Work). (hear held.store q.work True).ends) seen)
          (subst (λ (z : Work). Course name held z e.turns e.value e.after)
          (sym (ap (λ (q : Asked Work). (hear held.store q.work True).work) seen ∙ ap (λ (y : Sifting). sifts y) is)) e.course);
    }

abbrev found_if : Bool → Sifting → Sifting
found_if c s = if c then passed s else record s { asked = 0; among_kept = true }

-- by what is found for the next value, where that ends the search for it
kept_by : (name : SymId) (held : Held) (s : Sifting) (v : Value) (vs : List Value) (o : Option Value) → EndsFor name vs
    → Left s (v ∷ vs) → keeps_missed s ≡ true → candidate s ≡ o → Ends name held (sifts s)
kept_by name held s v vs None rest l keeps there = missed_ends name held s v vs rest l
    (asks_of held s (v ∷ vs) l ∙ ap (λ (x : Option Value). asking_by held s v vs x) there)
kept_by name held s v vs (Some c) rest l keeps there =
    found_ends name held s (passed s) v c vs (ap (λ (b : Bool). found_if b s) keeps)
    (asks_of held s (v ∷ vs) l ∙ ap (λ (x : Option Value). asking_by held s v vs x) there)
    (rest held (passed s) (left_passed s v vs l))

-- or where it is looked for among those that stayed, too
shared_by : (name : SymId) (held : Held) (s : Sifting) (v : Value) (vs : List Value) (o : Option Value) → EndsFor name vs
    → Left s (v ∷ vs) → keeps_missed s ≡ false → candidate s ≡ o → Ends name held (sifts s)
shared_by name held s v vs None rest l keeps there = missed_ends name held s v vs rest l
    (asks_of held s (v ∷ vs) l ∙ ap (λ (x : Option Value). asking_by held s v vs x) there)
shared_by name held s v vs (Some c) rest l keeps there =
    let u : Sifting = record s { asked = 0; among_kept = true } in
    found_ends name held s u v c vs (ap (λ (b : Bool). found_if b s) keeps)
    (asks_of held s (v ∷ vs) l ∙ ap (λ (x : Option Value). asking_by held s v vs x) there)
    (kept_by name held u v vs (candidate u) rest (record { there = l.there; few = l.few }) refl refl)

one_by : (name : SymId) (held : Held) (s : Sifting) (v : Value) (vs : List Value) (c : Bool) → EndsFor name vs
    → Left s (v ∷ vs) → keeps_missed s ≡ c → Ends name held (sifts s)
one_by name held s v vs true rest l keeps = kept_by name held s v vs (candidate s) rest l keeps refl
one_by name held s v vs false rest l keeps = shared_by name held s v vs (candidate s) rest l keeps refl

all_end : (name : SymId) (vs : List Value) → EndsFor name vs
all_end name [] = none_left name
all_end name (v ∷ vs) = λ held s l. one_by name held s v vs (keeps_missed s) (all_end name vs) l refl

sieve_ends : (name : SymId) (held : Held) (s : Sifting) → length s.values < 2 ^ 64 → Ends name held (sifts s)
sieve_ends name held s few = all_end name (drop s.place s.values) held s (record { there = refl; few = few })

-- The work that asks has the same values, and so has the one that a reply leaves.

values_by : (held : Held) (s : Sifting) (v : Value) (further : Asked Sifting) (o : Option Value)
    → further.work.values ≡ s.values → (sifted_by held s v o further).work.values ≡ s.values
values_by held s v further None same = same
values_by held s v further (Some c) same = refl

values_asked : (held : Held) (s : Sifting) (vs : List Value) → (sifted held s vs).work.values ≡ s.values
values_asked held s [] = refl
values_asked held s (v ∷ vs) = values_by held s v (sifted held (missed s v) vs) (candidate s)
    (values_asked held (missed s v) vs ∙ missed_values s v (keeps_missed s) refl)

values_if : (s : Sifting) (yes keeps : Bool)
    → (if yes then found_if keeps s else record s { asked = one_more s.asked }).values ≡ s.values
values_if s true true = refl
values_if s true false = refl
values_if s false keeps = refl

values_heard : (held : Held) (s : Sifting) (a : Value)
    → (heard (sifted held s (drop s.place s.values)).work a).values ≡ s.values
values_heard held s a =
    let u = (sifted held s (drop s.place s.values)).work in
    values_if u (is_true a) (keeps_missed u) ∙ values_asked held s (drop s.place s.values)

-- A work that is left.
record Begun (name : SymId) (held : Held) (w : Work) (ts : List Turn) (last : Planned Stage) : Type 0 where
  turn : Turn
  further : List Turn
  value : Value
  after : Held
  wanted : turn.wanted ≡ last
  course : Course name held w (ts ++ turn ∷ further) value after

abbrev left_at : Held → Sifting → Value → Sifting
left_at held s a = heard (sifted held s (drop s.place s.values)).work a

few_at : (held : Held) (s : Sifting) (a : Value) → length s.values < 2 ^ 64 → length (left_at held s a).values < 2 ^ 64
few_at held s a few = subst (λ (xs : List Value). length xs < 2 ^ 64) (sym (values_heard held s a)) few

begun : (name : SymId) (held : Held) (s : Sifting) (w : Work) (ts : List Turn) (last : Planned Stage) → w ≡ sifts s
    → length s.values < 2 ^ 64 → Unended name held w ts last → Begun name held w ts last
begun name held s w ts last same few (never_replied h u x arg q is lost) =
    let k = (question h u).held in
    let e = sieve_ends name h (left_at h s True) (few_at h s True few) in
    let work_left = ap (λ (z : Work). (hear h.store (question h z).work True).work) same in
    record {
      turn = replied q h;
      further = e.turns;
      value = e.value;
      after = e.after;
      wanted = refl;
      course = one_reply h h e.after u x True e.value arg (replied q h ∷ []) e.turns is
          (replies_to (is_known (question h u).work x arg) name k h x (args_of arg) q lost)
          (ap (λ (z : Work). (hear h.store (question h z).work True).ends) same)
          (subst (λ (z : Work). Course name h z e.turns e.value e.after) (sym work_left) e.course);
    }
begun name held s w ts last same few (has_replied h k u x a arg us vs q is replies ends rest) =
    let b = begun name k (left_at h s a) (hear k.store (question h u).work a).work vs q
    (ap (λ (z : Work). (hear k.store (question h z).work a).work) same) (few_at h s a few) rest in
    record {
      turn = b.turn;
      further = b.further;
      value = b.value;
      after = b.after;
      wanted = b.wanted;
      course = subst (λ (ts : List Turn). Course name h u ts b.value b.after)
          (sym (append_assoc us vs (b.turn ∷ b.further)))
          (one_reply h k b.after u x a b.value arg us (vs ++ b.turn ∷ b.further) is replies ends b.course);
    }

-- The methods.

record SievedSo (k : Kind) (values others : List Value) (held : Held) (ts : List Turn) (last : Planned Stage)
    : Type 0 where
  turn : Turn
  further : List Turn
  value : Value
  after : Held
  wanted : turn.wanted ≡ last
  done : Done (first k) others (symbol (codes "==") held) [] (with_symbol (codes "==") held) values
      (ts ++ turn ∷ further) value after

sieved_left : (k : Kind) (values others : List Value) (held : Held) → length values < 2 ^ 64 → (ts : List Turn)
    (last : Planned Stage) (stage : Stage) (p : Planned over_values.Stage) → waiting last.plan ≡ Some stage
    → Comes (symbol (codes "==") held) (with_symbol (codes "==") held) (sifts (work_at (first k) values others at_first)) p
    → Runs (lifted p) ts last → SievedSo k values others held ts last
sieved_left k values others held few ts last stage p waits comes runs =
    let name = symbol (codes "==") held in
    let heap = with_symbol (codes "==") held in
    let s = work_at (first k) values others at_first in
    let b = begun name heap s (sifts s) ts last refl few (unended name last stage waits ts heap (sifts s) p comes runs) in
    record {
      turn = b.turn;
      further = b.further;
      value = b.value;
      after = b.after;
      wanted = b.wanted;
      done = fresh_done k others name 0 [] heap values (ts ++ b.turn ∷ b.further) b.value b.after
          (sieved_so values others name few heap (sifts s) (ts ++ b.turn ∷ b.further) b.value b.after (first k) at_first
          refl b.course);
    }

pub difference_left : (held : Held) (recv y : Value) (a b : ObjId) (block : Option ObjId) (ts : List Turn)
    (last : Planned Stage) → length (elements held a) < 2 ^ 64 → an_array held.store.objects recv ≡ Some a
    → an_array held.store.objects y ≡ Some b → own_equality held (elements held a) (elements held b) ≡ false
    → IsAbandoned comparing_row.ArrayDifference held recv (y ∷ []) block ts last
    → IsBeginning (IsSieved (λ name. Lacks name (elements held b)) held (elements held a)) ts last
difference_left held recv y a b block ts last less array other own run =
    let f = opening comparing_row.ArrayDifference held recv (y ∷ []) block ts run.first last run.starts run.runs in
    let starts = subst (λ (o : Option ObjId). comparing.Of held class.Array recv o
    (λ x. comparing.ForArray comparing_row.ArrayDifference held x (y ∷ []) f.first) f.first) array f.starts in
    let g = sieved_left lacking (elements held a) (elements held b) held less ts last run.stage f.first run.waits
    (begins_so held sieve.Difference a b y false f.first other own starts) f.runs in
    record {
      turn = g.turn;
      further = g.further;
      value = g.value;
      after = g.after;
      wanted = g.wanted;
      whole = record { stay = g.done.stay; last = g.done.last; sieves = g.done.sieves; result = g.done.result };
    }

pub intersection_left : (held : Held) (recv y : Value) (a b : ObjId) (block : Option ObjId) (ts : List Turn)
    (last : Planned Stage) → length (elements held a) < 2 ^ 64 → an_array held.store.objects recv ≡ Some a
    → an_array held.store.objects y ≡ Some b → own_equality held (elements held a) (elements held b) ≡ false
    → IsAbandoned comparing_row.ArrayIntersection held recv (y ∷ []) block ts last
    → IsBeginning (IsSieved (λ name. SharesNew name (elements held b)) held (elements held a)) ts last
intersection_left held recv y a b block ts last less array other own run =
    let f = opening comparing_row.ArrayIntersection held recv (y ∷ []) block ts run.first last run.starts run.runs in
    let starts = subst (λ (o : Option ObjId). comparing.Of held class.Array recv o
    (λ x. comparing.ForArray comparing_row.ArrayIntersection held x (y ∷ []) f.first) f.first) array f.starts in
    let g = sieved_left sharing (elements held a) (elements held b) held less ts last run.stage f.first run.waits
    (begins_so held sieve.Intersection a b y false f.first other own starts) f.runs in
    record {
      turn = g.turn;
      further = g.further;
      value = g.value;
      after = g.after;
      wanted = g.wanted;
      whole = record { stay = g.done.stay; last = g.done.last; sieves = g.done.sieves; result = g.done.result };
    }

pub union_left : (held : Held) (recv y : Value) (a b : ObjId) (block : Option ObjId) (ts : List Turn)
    (last : Planned Stage) → length (elements held a ++ elements held b) < 2 ^ 64
    → an_array held.store.objects recv ≡ Some a → an_array held.store.objects y ≡ Some b
    → own_equality held (elements held a ++ elements held b) [] ≡ false
    → IsAbandoned comparing_row.ArrayUnion held recv (y ∷ []) block ts last
    → IsBeginning (IsSieved (λ name. IsNew name []) held (elements held a ++ elements held b)) ts last
union_left held recv y a b block ts last less array other own run =
    let f = opening comparing_row.ArrayUnion held recv (y ∷ []) block ts run.first last run.starts run.runs in
    let starts = subst (λ (o : Option ObjId). comparing.Of held class.Array recv o
    (λ x. comparing.ForArray comparing_row.ArrayUnion held x (y ∷ []) f.first) f.first) array f.starts in
    let g = sieved_left fresh (elements held a ++ elements held b) [] held less ts last run.stage f.first run.waits
    (begins_so held sieve.Union a b y false f.first other own starts) f.runs in
    record {
      turn = g.turn;
      further = g.further;
      value = g.value;
      after = g.after;
      wanted = g.wanted;
      whole = record { stay = g.done.stay; last = g.done.last; sieves = g.done.sieves; result = g.done.result };
    }
