-- `-`, `&` and `|` of Arrays.
use Rattle.std.proofs.Common.{◌≡◌, ℕ, suc, ◌<◌, ◌^◌, refl, sym, ap, subst, ◌∙◌, List, [], ◌∷◌, ◌++◌, length, drop, arith, append_assoc, length-drop}
use Rattle.std.proofs.Math.Seq.{drop-cons}
use Rattle.std.specs.Prelude.{codes, get_or, not, slice_get, Bool, true, false, if◌then◌else◌, Option, Some, None}
use Rattle.rb_value.specs.declared.value.Value.{Value}
use Rattle.rb_value.specs.declared.value.ObjId.{ObjId}
use Rattle.rb_value.specs.declared.value.SymId.{SymId}
use Rattle.rb_value.specs.declared.core_class.CoreClass.TheVariants as class
use Rattle.rb_value.specs.Value.{is_true}
use Rattle.def_core.specs.Store.{Store}
use Rattle.def_calls.specs.Views.{an_array}
use Rattle.heap.specs.Made.{array_given}
use Rattle.rb_store.specs.Held.{Held, one_more}
use Rattle.def_plans.specs.Plan.{Planned, gives}
use Rattle.iter_comparing.specs.declared.questions.Question.TheVariants.{Ends, Asks as AsksFor}
use Rattle.iter_comparing.specs.declared.row.ComparingRow.TheVariants as comparing_row
use Rattle.iter_comparing.specs.declared.sifting.Sieve.{Sieve}
use Rattle.iter_comparing.specs.declared.sifting.Sieve.TheVariants as sieve
use Rattle.iter_comparing.specs.declared.sifting.Sifting.{Sifting}
use Rattle.iter_comparing.specs.declared.state.Work.{Work}
use Rattle.iter_comparing.specs.declared.state.Work.TheVariants as work
use Rattle.iter_comparing.specs.Asking.{Comes, args_of, asked_as, hear, is_known, question}
use Rattle.iter_comparing.specs.Ordering.{same_value}
use Rattle.iter_comparing.specs.Questions.{Asked, asked, compare}
use Rattle.iter_comparing.specs.Rows as comparing
use Rattle.iter_comparing.specs.Sifting.{candidate, found, missed, sifted, sifted_by}
use Rattle.iter_comparing.specs.Sifting as sifting
use Rattle.iter_comparing.specs.Stage as over_values
use Rattle.iter_items.specs.declared.row.ItemsRow.TheVariants as items_row
use Rattle.run_rows.specs.declared.row.StarRow.TheVariants as row
use Rattle.items_laws.specs.Run.{Turn, Runs, Gives}
use Rattle.items_laws.specs.Items.{IsArrayOf}
use Rattle.items_laws.specs.Lists.{any_of}
use Rattle.items_laws.specs.Asked.{Replies, none_left, last_asked, one_asked, symbol, with_symbol}
use Rattle.items_laws.specs.Compared.{same_as}
use Rattle.items_laws.specs.Sieved.{Seeks, IsShared, not_shared, is_shared, Lacks, IsNew, SharesNew, Sieves, no_value, one_value, IsSieved, elements, own_equality}
use Rattle.items_laws.proofs.Found.{ends_same, no_question}
use Rattle.items_laws.proofs.Reading.{counted}
use Rattle.items_laws.proofs.Sent.{first_of, lifted}
use Rattle.items_laws.proofs.Small.{and_true, none_some}
use Rattle.items_laws.proofs.Working.{Course, at_end, last_reply, one_reply, courses}

-- What a value is looked for for: where the others lack it; where it is new; where it is shared, and then new, too.
pub data Kind : Type 0 where
  lacking : Kind
  fresh : Kind
  sharing : Kind
  shared_new : Kind

-- the place of the value, those that stayed before, and the place of the next that is asked
pub record Spot : Type 0 where
  pub place : ℕ
  pub staying : List Value
  pub asked_at : ℕ

abbrev sieve_of : Kind → Sieve
sieve_of lacking = sieve.Difference
sieve_of fresh = sieve.Union
sieve_of sharing = sieve.Intersection
sieve_of shared_new = sieve.Intersection

abbrev among_kept : Kind → Bool
among_kept lacking = false
among_kept fresh = true
among_kept sharing = false
among_kept shared_new = true

abbrev pub work_at : Kind → List Value → List Value → Spot → Sifting
work_at k values others p = record {
  sieve = sieve_of k;
  values = values;
  place = p.place;
  others = others;
  kept = p.staying;
  among_kept = among_kept k;
  asked = p.asked_at;
}

-- how the next value begins
abbrev pub first : Kind → Kind
first lacking = lacking
first fresh = fresh
first sharing = sharing
first shared_new = sharing

abbrev seen_in : Kind → List Value → List Value → List Value
seen_in lacking others kept = others
seen_in fresh others kept = kept
seen_in sharing others kept = others
seen_in shared_new others kept = kept

-- whether a value stays that isn't found
abbrev keeps : Kind → Bool
keeps lacking = true
keeps fresh = true
keeps sharing = false
keeps shared_new = true

candidate_is : (k : Kind) (values others : List Value) (p : Spot)
    → candidate (work_at k values others p) ≡ slice_get (seen_in k others p.staying) p.asked_at
candidate_is lacking values others p = refl
candidate_is fresh values others p = refl
candidate_is sharing values others p = refl
candidate_is shared_new values others p = refl

abbrev with_value : Bool → List Value → Value → List Value
with_value c kept v = if c then kept ++ v ∷ [] else kept

abbrev behind_missed : Kind → Spot → Value → Spot
behind_missed k p v = record { place = one_more p.place; staying = with_value (keeps k) p.staying v; asked_at = 0 }

missed_is : (k : Kind) (values others : List Value) (p : Spot) (v : Value)
    → missed (work_at k values others p) v ≡ work_at (first k) values others (behind_missed k p v)
missed_is lacking values others p v = refl
missed_is fresh values others p v = refl
missed_is sharing values others p v = refl
missed_is shared_new values others p v = refl

abbrev behind_found : Spot → Spot
behind_found p = record { place = one_more p.place; staying = p.staying; asked_at = 0 }

abbrev asks_again : Spot → Spot
asks_again p = record { place = p.place; staying = p.staying; asked_at = 0 }

abbrev asks_next : Spot → Spot
asks_next p = record { place = p.place; staying = p.staying; asked_at = one_more p.asked_at }

-- What holds of a value from there on.

abbrev pub Mid : Kind → List Value → List Value → ℕ → SymId → Value → Held → List Turn → Bool → Held → Type 0
Mid lacking others kept n name v held ts stays after = Seeks name others n v held ts (not stays) after
Mid fresh others kept n name v held ts stays after = Seeks name kept n v held ts (not stays) after
Mid sharing others kept n name v held ts stays after = IsShared name others n kept v held ts stays after
Mid shared_new others kept n name v held ts stays after = Seeks name kept n v held ts (not stays) after

-- the values that are left
pub record Done (k : Kind) (others : List Value) (name : SymId) (kept : List Value) (held : Held) (vs : List Value)
    (ts : List Turn) (r : Value) (after : Held) : Type 0 where
  pub stay : List Value
  pub last : Held
  pub sieves : Sieves (λ kept v h us stays l. Mid (first k) others kept 0 name v h us stays l) held vs kept ts stay last
  pub result : IsArrayOf last stay r after

pub record MidDone (k : Kind) (others : List Value) (name : SymId) (p : Spot) (held : Held) (v : Value) (vs : List Value)
    (ts : List Turn) (r : Value) (after : Held) : Type 0 where
  pub us : List Turn
  pub further : List Turn
  pub stays : Bool
  pub left : Held
  pub parts : ts ≡ us ++ further
  pub mid : Mid k others p.staying p.asked_at name v held us stays left
  pub more : Done k others name (with_value stays p.staying v) left vs further r after

abbrev pub ResultOf : Kind → List Value → SymId → Spot → Held → List Value → List Turn → Value → Held → Type 0
ResultOf k others name p held [] ts r after = Done k others name p.staying held [] ts r after
ResultOf k others name p held (v ∷ vs) ts r after = MidDone k others name p held v vs ts r after

-- at the beginning of a value
pub fresh_done : (k : Kind) (others : List Value) (name : SymId) (place : ℕ) (kept : List Value) (held : Held)
    (vs : List Value) (ts : List Turn) (r : Value) (after : Held)
    → ResultOf (first k) others name (record { place = place; staying = kept; asked_at = 0 }) held vs ts r after
    → Done (first k) others name kept held vs ts r after
fresh_done k others name place kept held [] ts r after d = d
fresh_done k others name place kept held (v ∷ vs) ts r after d = by_kind k d
  where
    joined : (j : Kind) → first j ≡ j
        → MidDone j others name (record { place = place; staying = kept; asked_at = 0 }) held v vs ts r after
        → Done j others name kept held (v ∷ vs) ts r after
    joined j same m = record {
      stay = m.more.stay;
      last = m.more.last;
      sieves = subst (λ (l : List Turn).
          Sieves (λ kept v h us stays l. Mid (first j) others kept 0 name v h us stays l) held (v ∷ vs) kept l m.more.stay
          m.more.last) (sym m.parts)
          (one_value held m.left m.more.last v vs kept m.more.stay m.us m.further m.stays
          (subst (λ (i : Kind). Mid i others kept 0 name v held m.us m.stays m.left) (sym same) m.mid) m.more.sieves);
      result = m.more.result;
    }

    by_kind : (k : Kind)
        → MidDone (first k) others name (record { place = place; staying = kept; asked_at = 0 }) held v vs ts r after
        → Done (first k) others name kept held (v ∷ vs) ts r after
    by_kind lacking m = joined lacking refl m
    by_kind fresh m = joined fresh refl m
    by_kind sharing m = joined sharing refl m
    by_kind shared_new m = joined sharing refl m

-- the same of what comes then, whatever is looked for
again_done : (k : Kind) (others : List Value) (name : SymId) (kept : List Value) (held : Held) (vs : List Value)
    (ts : List Turn) (r : Value) (after : Held) → Done (first k) others name kept held vs ts r after
    → Done k others name kept held vs ts r after
again_done lacking others name kept held vs ts r after d = d
again_done fresh others name kept held vs ts r after d = d
again_done sharing others name kept held vs ts r after d = d
again_done shared_new others name kept held vs ts r after d =
    record { stay = d.stay; last = d.last; sieves = d.sieves; result = d.result }

-- How a value is looked for.

sought_in_vain : (name : SymId) (xs : List Value) (n : ℕ) (v : Value) (held : Held) → slice_get xs n ≡ None
    → Seeks name xs n v held [] false held
sought_in_vain name xs n v held none =
    record { items = []; replies = []; asks = none_left held n none; any = refl }

found_at_last : (name : SymId) (xs : List Value) (n : ℕ) (v c a : Value) (held k : Held) (ts : List Turn)
    → slice_get xs n ≡ Some c → Replies (same_as c v) name held c (v ∷ []) ts a k → is_true a ≡ true
    → Seeks name xs n v held ts true k
found_at_last name xs n v c a held k ts there replies so = record {
  items = c ∷ [];
  replies = a ∷ [];
  asks = last_asked held k n c a ts there replies so;
  any = sym (ap (λ (b : Bool). if b then true else false) so);
}

sought_on : (name : SymId) (xs : List Value) (n : ℕ) (v c a : Value) (held k after : Held) (us ts : List Turn) (b : Bool)
    → slice_get xs n ≡ Some c → Replies (same_as c v) name held c (v ∷ []) us a k → is_true a ≡ false
    → Seeks name xs (one_more n) v k ts b after → Seeks name xs n v held (us ++ ts) b after
sought_on name xs n v c a held k after us ts b there replies not_so s = record {
  items = c ∷ s.items;
  replies = a ∷ s.replies;
  asks = one_asked held k after n c a us ts s.items s.replies there replies not_so s.asks;
  any = s.any ∙ sym (ap (λ (d : Bool). if d then true else any_of is_true s.replies) not_so);
}

shared_on : (name : SymId) (others : List Value) (n : ℕ) (kept : List Value) (v c a : Value) (held k after : Held)
    (us ts : List Turn) (stays : Bool) → slice_get others n ≡ Some c
    → Replies (same_as c v) name held c (v ∷ []) us a k → is_true a ≡ false
    → IsShared name others (one_more n) kept v k ts stays after → IsShared name others n kept v held (us ++ ts) stays after
shared_on name others n kept v c a held k after us ts stays there replies not_so (not_shared l ws s) =
    not_shared l (us ++ ws) (sought_on name others n v c a held k l us ws false there replies not_so s)
shared_on name others n kept v c a held k after us ts stays there replies not_so (is_shared l m ws zs c2 s t) =
    subst (λ (ys : List Turn). IsShared name others n kept v held ys c2 m) (append_assoc us ws zs)
    (is_shared l m (us ++ ws) zs c2 (sought_on name others n v c a held k l us ws true there replies not_so s) t)

mid_missed : (k : Kind) (others kept : List Value) (n : ℕ) (name : SymId) (v : Value) (held : Held)
    → slice_get (seen_in k others kept) n ≡ None → Mid k others kept n name v held [] (keeps k) held
mid_missed lacking others kept n name v held none = sought_in_vain name others n v held none
mid_missed fresh others kept n name v held none = sought_in_vain name kept n v held none
mid_missed sharing others kept n name v held none = not_shared held [] (sought_in_vain name others n v held none)
mid_missed shared_new others kept n name v held none = sought_in_vain name kept n v held none

mid_on : (k : Kind) (others kept : List Value) (n : ℕ) (name : SymId) (v c a : Value) (held l after : Held)
    (us ts : List Turn) (stays : Bool) → slice_get (seen_in k others kept) n ≡ Some c
    → Replies (same_as c v) name held c (v ∷ []) us a l → is_true a ≡ false
    → Mid k others kept (one_more n) name v l ts stays after → Mid k others kept n name v held (us ++ ts) stays after
mid_on lacking others kept n name v c a held l after us ts stays there replies not_so m =
    sought_on name others n v c a held l after us ts (not stays) there replies not_so m
mid_on fresh others kept n name v c a held l after us ts stays there replies not_so m =
    sought_on name kept n v c a held l after us ts (not stays) there replies not_so m
mid_on sharing others kept n name v c a held l after us ts stays there replies not_so m =
    shared_on name others n kept v c a held l after us ts stays there replies not_so m
mid_on shared_new others kept n name v c a held l after us ts stays there replies not_so m =
    sought_on name kept n v c a held l after us ts (not stays) there replies not_so m

-- What a course shows of a question.
data Answering (name : SymId) (q : Asked Work) (Rest : Held → Work → List Turn → Value → Held → Type 0)
    : List Turn → Value → Held → Type 0 where
  ends_so : (r : Value) → q.question ≡ Ends r → Answering name q Rest [] r q.held
  ends_by : (k : Held) (x a r : Value) (arg : Option Value) (ts : List Turn) → q.question ≡ AsksFor x arg
      → (hear k.store q.work a).ends ≡ Some r → Answering name q Rest ts r k
  goes_by : (k after : Held) (x a r : Value) (arg : Option Value) (us ts : List Turn) → q.question ≡ AsksFor x arg
      → Replies (is_known q.work x arg) name q.held x (args_of arg) us a k
      → Rest k (hear k.store q.work a).work ts r after → Answering name q Rest (us ++ ts) r after

-- what comes of the work that is left
abbrev RestOf : List Value → List Value → SymId → Held → Work → List Turn → Value → Held → Type 0
RestOf values others name h w ts r after = (j : Kind) (z : Spot) → w ≡ work.Sifts (work_at j values others z)
    → ResultOf j others name z h (drop z.place values) ts r after

-- None is left.

none_sieved : (k : Kind) (values others : List Value) (name : SymId) (held : Held) (p : Spot) (ts : List Turn) (r : Value)
    (after : Held) (q : Asked Work) → q ≡ asked_as work.Sifts (sifting.ended held (work_at k values others p))
    → Answering name q (RestOf values others name) ts r after → Done k others name p.staying held [] ts r after
none_sieved k values others name held p ts r after q same (ends_so x is) = record {
  stay = p.staying;
  last = held;
  sieves = no_value held p.staying;
  result = record {
    value = sym (ends_same (array_given held.store p.staying) x
        (sym (ap (λ (y : Asked Work). y.question) same) ∙ is));
    left = ap (λ (y : Asked Work). y.held) same;
  };
}
none_sieved k values others name held p ts r after q same (ends_by l x a v arg us is ends) =
    absurd (no_question (array_given held.store p.staying) x arg (sym (ap (λ (y : Asked Work). y.question) same) ∙ is))
none_sieved k values others name held p ts r after q same (goes_by l m x a v arg us ws is replies rest) =
    absurd (no_question (array_given held.store p.staying) x arg (sym (ap (λ (y : Asked Work). y.question) same) ∙ is))

-- One is asked.

receiver_same : (x y : Value) (o p : Option Value) → AsksFor x o ≡ AsksFor y p → x ≡ y
receiver_same x y o p e = cc

argument_same : (x y : Value) (o p : Option Value) → AsksFor x o ≡ AsksFor y p → o ≡ p
argument_same x y o p e = cc

not_ends : (x r : Value) (arg : Option Value) → AsksFor x arg ≡ Ends r → ⊥
not_ends x r arg e = cc

abbrev asking : Held → Sifting → Value → Value → Asked Work
asking held w c v = asked held (work.Sifts w) (compare c v)

reply_seen : (name : SymId) (held k : Held) (w : Sifting) (q : Asked Work) (c v y a : Value) (arg : Option Value)
    (us : List Turn) → q ≡ asking held w c v → q.question ≡ AsksFor y arg
    → Replies (is_known q.work y arg) name q.held y (args_of arg) us a k
    → Replies (same_as c v) name held c (v ∷ []) us a k
reply_seen name held k w q c v y a arg us seen is replies =
    let same = sym (ap (λ (z : Asked Work). z.question) seen) ∙ is in
    let one = subst (λ (z : Asked Work). Replies (is_known z.work y arg) name z.held y (args_of arg) us a k) seen replies in
    let two = subst (λ (o : Option Value). Replies (is_known (work.Sifts w) y o) name held y (args_of o) us a k)
    (sym (argument_same c y (Some v) arg same)) one in
    let three = subst (λ (u : Value). Replies (is_known (work.Sifts w) u (Some v)) name held u (v ∷ []) us a k)
    (sym (receiver_same c y (Some v) arg same)) two in
    subst (λ (b : Bool). Replies b name held c (v ∷ []) us a k) (and_true (same_value v c)) three

within : (n : ℕ) (xs : List Value) (v : Value) (vs : List Value) → drop n xs ≡ v ∷ vs → n < length xs
within n xs v vs e = omega (arith, length-drop n xs, ap (λ (l : List Value). length l) e)

tails_same : (x y : Value) (xs ys : List Value) → (x ∷ xs) ≡ (y ∷ ys) → xs ≡ ys
tails_same x y xs ys e = cc

pub behind_it : (n : ℕ) (xs : List Value) (v : Value) (vs : List Value) → length xs < 2 ^ 64 → drop n xs ≡ v ∷ vs
    → drop (one_more n) xs ≡ vs
behind_it n xs v vs less e =
    let there = within n xs v vs e in
    let one = counted n (omega (arith, less, there)) in
    let next : one_more n ≡ suc n = omega (arith, one) in
    ap (λ (m : ℕ). drop m xs) next
    ∙ sym (tails_same v (get_or xs n v) vs (drop (suc n) xs) (sym e ∙ drop-cons xs n v there))

-- the work that a reply leaves
abbrev heard_if : Bool → Sifting → Work
heard_if b w = work.Sifts (if b then found w else record w { asked = one_more w.asked })

heard_is : (h : Held) (w : Sifting) (q : Asked Work) (c v a : Value) (b : Bool) → q ≡ asking h w c v → is_true a ≡ b
    → (st : Store) → (hear st q.work a).work ≡ heard_if b w
heard_is h w q c v a b seen is st = ap (λ (z : Asked Work). (hear st z.work a).work) seen
    ∙ ap (λ (d : Bool). heard_if d w) is

-- the reply says that they are equal
found_by : (k : Kind) (values others : List Value) (name : SymId) (held l : Held) (p : Spot) (v : Value) (vs : List Value)
    (c a : Value) (us ts : List Turn) (r : Value) (after : Held) (w : Work) → drop p.place values ≡ v ∷ vs
    → length values < 2 ^ 64 → slice_get (seen_in k others p.staying) p.asked_at ≡ Some c
    → Replies (same_as c v) name held c (v ∷ []) us a l → is_true a ≡ true
    → w ≡ heard_if true (work_at k values others p) → RestOf values others name l w ts r after
    → MidDone k others name p held v vs (us ++ ts) r after
found_by lacking values others name held l p v vs c a us ts r after w here less there replies so is rest = record {
  us = us;
  further = ts;
  stays = false;
  left = l;
  parts = refl;
  mid = found_at_last name others p.asked_at v c a held l us there replies so;
  more = fresh_done lacking others name (one_more p.place) p.staying l vs ts r after
      (subst (λ (xs : List Value). ResultOf lacking others name (behind_found p) l xs ts r after)
      (behind_it p.place values v vs less here) (rest lacking (behind_found p) is));
}
found_by fresh values others name held l p v vs c a us ts r after w here less there replies so is rest = record {
  us = us;
  further = ts;
  stays = false;
  left = l;
  parts = refl;
  mid = found_at_last name p.staying p.asked_at v c a held l us there replies so;
  more = fresh_done fresh others name (one_more p.place) p.staying l vs ts r after
      (subst (λ (xs : List Value). ResultOf fresh others name (behind_found p) l xs ts r after)
      (behind_it p.place values v vs less here) (rest fresh (behind_found p) is));
}
found_by sharing values others name held l p v vs c a us ts r after w here less there replies so is rest =
    let m = subst (λ (xs : List Value). ResultOf shared_new others name (asks_again p) l xs ts r after) here
    (rest shared_new (asks_again p) is) in
    record {
      us = us ++ m.us;
      further = m.further;
      stays = m.stays;
      left = m.left;
      parts = ap (λ (xs : List Turn). us ++ xs) m.parts ∙ sym (append_assoc us m.us m.further);
      mid = is_shared l m.left us m.us m.stays
          (found_at_last name others p.asked_at v c a held l us there replies so) m.mid;
      more = record { stay = m.more.stay; last = m.more.last; sieves = m.more.sieves; result = m.more.result };
    }
found_by shared_new values others name held l p v vs c a us ts r after w here less there replies so is rest = record {
  us = us;
  further = ts;
  stays = false;
  left = l;
  parts = refl;
  mid = found_at_last name p.staying p.asked_at v c a held l us there replies so;
  more = again_done shared_new others name p.staying l vs ts r after
      (fresh_done sharing others name (one_more p.place) p.staying l vs ts r after
      (subst (λ (xs : List Value). ResultOf sharing others name (behind_found p) l xs ts r after)
      (behind_it p.place values v vs less here) (rest sharing (behind_found p) is)));
}

-- by the reply
heard_by : (k : Kind) (values others : List Value) (name : SymId) (held l : Held) (p : Spot) (v : Value) (vs : List Value)
    (c a : Value) (us ts : List Turn) (r : Value) (after : Held) (w : Work) (b : Bool) → drop p.place values ≡ v ∷ vs
    → length values < 2 ^ 64 → slice_get (seen_in k others p.staying) p.asked_at ≡ Some c
    → Replies (same_as c v) name held c (v ∷ []) us a l → is_true a ≡ b
    → w ≡ heard_if b (work_at k values others p) → RestOf values others name l w ts r after
    → MidDone k others name p held v vs (us ++ ts) r after
heard_by k values others name held l p v vs c a us ts r after w true here less there replies so is rest =
    found_by k values others name held l p v vs c a us ts r after w here less there replies so is rest
heard_by k values others name held l p v vs c a us ts r after w false here less there replies not_so is rest =
    let m = subst (λ (xs : List Value). ResultOf k others name (asks_next p) l xs ts r after) here
    (rest k (asks_next p) is) in
    record {
      us = us ++ m.us;
      further = m.further;
      stays = m.stays;
      left = m.left;
      parts = ap (λ (xs : List Turn). us ++ xs) m.parts ∙ sym (append_assoc us m.us m.further);
      mid = mid_on k others p.staying p.asked_at name v c a held l m.left us m.us m.stays there replies not_so m.mid;
      more = m.more;
    }

one_sieved : (k : Kind) (values others : List Value) (name : SymId) (held : Held) (p : Spot) (v : Value) (vs : List Value)
    (c : Value) (ts : List Turn) (r : Value) (after : Held) (q : Asked Work) → drop p.place values ≡ v ∷ vs
    → length values < 2 ^ 64 → slice_get (seen_in k others p.staying) p.asked_at ≡ Some c
    → q ≡ asking held (work_at k values others p) c v → Answering name q (RestOf values others name) ts r after
    → MidDone k others name p held v vs ts r after
one_sieved k values others name held p v vs c ts r after q here less there seen (ends_so x is) =
    absurd (not_ends c x (Some v) (sym (ap (λ (z : Asked Work). z.question) seen) ∙ is))
one_sieved k values others name held p v vs c ts r after q here less there seen (ends_by l x a y arg us is ends) =
    absurd (none_some y (sym (ap (λ (z : Asked Work). (hear l.store z.work a).ends) seen) ∙ ends))
one_sieved k values others name held p v vs c ts r after q here less there seen (goes_by l m x a y arg us ws is replies rest) =
    heard_by k values others name held l p v vs c a us ws y m (hear l.store q.work a).work (is_true a) here less there
    (reply_seen name held l (work_at k values others p) q c v x a arg us seen is replies) refl
    (heard_is held (work_at k values others p) q c v a (is_true a) seen refl l.store) rest

-- Value by value.

abbrev SievedAt : Kind → List Value → List Value → SymId → Held → List Value → Type 0
SievedAt k values others name held rest = (p : Spot) (ts : List Turn) (r : Value) (after : Held) (q : Asked Work)
    → drop p.place values ≡ rest
    → q ≡ asked_as work.Sifts (sifted held (work_at k values others p) rest)
    → Answering name q (RestOf values others name) ts r after → ResultOf k others name p held rest ts r after

by_candidate : (k : Kind) (values others : List Value) (name : SymId) (held : Held) (v : Value) (vs : List Value)
    → length values < 2 ^ 64 → ((j : Kind) → SievedAt j values others name held vs) → (p : Spot) (ts : List Turn)
    (r : Value) (after : Held) (q : Asked Work) (o : Option Value) → drop p.place values ≡ v ∷ vs
    → slice_get (seen_in k others p.staying) p.asked_at ≡ o
    → q ≡ asked_as work.Sifts (sifted_by held (work_at k values others p) v o
    (sifted held (work_at (first k) values others (behind_missed k p v)) vs))
    → Answering name q (RestOf values others name) ts r after → MidDone k others name p held v vs ts r after
by_candidate k values others name held v vs less rest p ts r after q (Some c) here there seen answering =
    one_sieved k values others name held p v vs c ts r after q here less there seen answering
by_candidate k values others name held v vs less rest p ts r after q None here there seen answering = record {
  us = [];
  further = ts;
  stays = keeps k;
  left = held;
  parts = refl;
  mid = mid_missed k others p.staying p.asked_at name v held there;
  more = again_done k others name (with_value (keeps k) p.staying v) held vs ts r after
      (fresh_done k others name (one_more p.place) (with_value (keeps k) p.staying v) held vs ts r after
      (rest (first k) (behind_missed k p v) ts r after q (behind_it p.place values v vs less here) seen answering));
}

sieved_at : (values others : List Value) (name : SymId) (held : Held) → length values < 2 ^ 64 → (rest : List Value)
    → (k : Kind) → SievedAt k values others name held rest
sieved_at values others name held less [] = λ k p ts r after q here seen answering.
    none_sieved k values others name held p ts r after q seen answering
sieved_at values others name held less (v ∷ vs) = λ k p ts r after q here seen answering.
    by_candidate k values others name held v vs less (sieved_at values others name held less vs) p ts r after q
    (slice_get (seen_in k others p.staying) p.asked_at) here refl
    (seen ∙ ap (λ (o : Option Value). asked_as work.Sifts (sifted_by held (work_at k values others p) v o
    (sifted held (missed (work_at k values others p) v) vs))) (candidate_is k values others p)
    ∙ ap (λ (w : Sifting). asked_as work.Sifts (sifted_by held (work_at k values others p) v
    (slice_get (seen_in k others p.staying) p.asked_at) (sifted held w vs))) (missed_is k values others p v)) answering

-- Over the course.

pub sieved_so : (values others : List Value) (name : SymId) → length values < 2 ^ 64 → (held : Held) (w : Work)
    (ts : List Turn) (r : Value) (after : Held) (k : Kind) (p : Spot) → w ≡ work.Sifts (work_at k values others p)
    → Course name held w ts r after → ResultOf k others name p held (drop p.place values) ts r after
sieved_so values others name less held w ts r after k p same (at_end h u x is) =
    sieved_at values others name h less (drop p.place values) k p [] x (question h u).held (question h u) refl
    (ap (λ (z : Work). question h z) same) (ends_so x is)
sieved_so values others name less held w ts r after k p same (last_reply h l u y a x arg us is replies ends) =
    sieved_at values others name h less (drop p.place values) k p us x l (question h u) refl
    (ap (λ (z : Work). question h z) same) (ends_by l y a x arg us is ends)
sieved_so values others name less held w ts r after k p same (one_reply h l m u y a x arg us vs is replies ends rest) =
    sieved_at values others name h less (drop p.place values) k p (us ++ vs) x m (question h u) refl
    (ap (λ (z : Work). question h z) same) (goes_by l m y a x arg us vs is replies
    (λ j z e. sieved_so values others name less l (hear l.store (question h u).work a).work vs x m j z e rest))

-- The methods.

abbrev pub at_first : Spot
at_first = record { place = 0; staying = []; asked_at = 0 }

sieved : (k : Kind) (values others : List Value) (held : Held) → length values < 2 ^ 64 → (ts : List Turn) (v : Value)
    (after : Held) (p : Planned over_values.Stage)
    → Comes (symbol (codes "==") held) (with_symbol (codes "==") held) (work.Sifts (work_at (first k) values others at_first)) p
    → Runs (lifted p) ts (gives after v)
    → Done (first k) others (symbol (codes "==") held) [] (with_symbol (codes "==") held) values ts v after
sieved k values others held less ts v after p comes runs =
    let name = symbol (codes "==") held in
    let begun = with_symbol (codes "==") held in
    fresh_done k others name 0 [] begun values ts v after
    (sieved_so values others name less begun (work.Sifts (work_at (first k) values others at_first)) ts v after (first k)
    at_first refl (courses name ts v after begun (work.Sifts (work_at (first k) values others at_first)) p comes runs))

-- what the method begins with
pub record Begun (held : Held) (s : Sieve) (a b : ObjId) (c : Bool) (ts : List Turn) (v : Value) (after : Held) : Type 0 where
  pub first_plan : Planned over_values.Stage
  pub begins : comparing.SiftsHow c (with_symbol (codes "==") held) (symbol (codes "==") held) (comparing.sifting held a s b)
      first_plan
  pub runs : Runs (lifted first_plan) ts (gives after v)

pub begins_so : (held : Held) (s : Sieve) (a b : ObjId) (y : Value) (c : Bool) (p : Planned over_values.Stage)
    → an_array held.store.objects y ≡ Some b
    → own_equality held (comparing.sifting held a s b).values (comparing.sifting held a s b).others ≡ c
    → comparing.SiftsBy held a s y (an_array held.store.objects y) p
    → comparing.SiftsHow c (with_symbol (codes "==") held) (symbol (codes "==") held) (comparing.sifting held a s b) p
begins_so held s a b y c p other own starts = subst (λ (d : Bool). comparing.SiftsHow d (with_symbol (codes "==") held)
    (symbol (codes "==") held) (comparing.sifting held a s b) p) own
    (subst (λ (o : Option ObjId). comparing.SiftsBy held a s y o p) other starts)

pub begun_by : (held after : Held) (s : Sieve) (a b : ObjId) (y v : Value) (c : Bool) (ts : List Turn)
    (p : Planned over_values.Stage) → an_array held.store.objects y ≡ Some b
    → own_equality held (comparing.sifting held a s b).values (comparing.sifting held a s b).others ≡ c
    → comparing.SiftsBy held a s y (an_array held.store.objects y) p → Runs (lifted p) ts (gives after v)
    → Begun held s a b c ts v after
begun_by held after s a b y v c ts p other own starts runs =
    record { first_plan = p; begins = begins_so held s a b y c p other own starts; runs = runs }

pub difference_sieved : (held after : Held) (recv y v : Value) (a b : ObjId) (block : Option ObjId) (ts : List Turn)
    → length (elements held a) < 2 ^ 64 → an_array held.store.objects recv ≡ Some a → an_array held.store.objects y ≡ Some b
    → own_equality held (elements held a) (elements held b) ≡ false
    → Gives (row.Items (items_row.Compares comparing_row.ArrayDifference)) held recv (y ∷ []) block ts v after
    → IsSieved (λ name. Lacks name (elements held b)) held (elements held a) ts v after
difference_sieved held after recv y v a b block ts less array other own run =
    let f = first_of comparing_row.ArrayDifference held recv (y ∷ []) block ts v after run in
    let starts = subst (λ (o : Option ObjId). comparing.Of held class.Array recv o
    (λ x. comparing.ForArray comparing_row.ArrayDifference held x (y ∷ []) f.first) f.first) array f.starts in
    let g = begun_by held after sieve.Difference a b y v false ts f.first other own starts f.runs in
    let d = sieved lacking (elements held a) (elements held b) held less ts v after g.first_plan g.begins g.runs in
    record { stay = d.stay; last = d.last; sieves = d.sieves; result = d.result }

pub intersection_sieved : (held after : Held) (recv y v : Value) (a b : ObjId) (block : Option ObjId) (ts : List Turn)
    → length (elements held a) < 2 ^ 64 → an_array held.store.objects recv ≡ Some a → an_array held.store.objects y ≡ Some b
    → own_equality held (elements held a) (elements held b) ≡ false
    → Gives (row.Items (items_row.Compares comparing_row.ArrayIntersection)) held recv (y ∷ []) block ts v after
    → IsSieved (λ name. SharesNew name (elements held b)) held (elements held a) ts v after
intersection_sieved held after recv y v a b block ts less array other own run =
    let f = first_of comparing_row.ArrayIntersection held recv (y ∷ []) block ts v after run in
    let starts = subst (λ (o : Option ObjId). comparing.Of held class.Array recv o
    (λ x. comparing.ForArray comparing_row.ArrayIntersection held x (y ∷ []) f.first) f.first) array f.starts in
    let g = begun_by held after sieve.Intersection a b y v false ts f.first other own starts f.runs in
    let d = sieved sharing (elements held a) (elements held b) held less ts v after g.first_plan g.begins g.runs in
    record { stay = d.stay; last = d.last; sieves = d.sieves; result = d.result }

pub union_sieved : (held after : Held) (recv y v : Value) (a b : ObjId) (block : Option ObjId) (ts : List Turn)
    → length (elements held a ++ elements held b) < 2 ^ 64 → an_array held.store.objects recv ≡ Some a
    → an_array held.store.objects y ≡ Some b → own_equality held (elements held a ++ elements held b) [] ≡ false
    → Gives (row.Items (items_row.Compares comparing_row.ArrayUnion)) held recv (y ∷ []) block ts v after
    → IsSieved (λ name. IsNew name []) held (elements held a ++ elements held b) ts v after
union_sieved held after recv y v a b block ts less array other own run =
    let f = first_of comparing_row.ArrayUnion held recv (y ∷ []) block ts v after run in
    let starts = subst (λ (o : Option ObjId). comparing.Of held class.Array recv o
    (λ x. comparing.ForArray comparing_row.ArrayUnion held x (y ∷ []) f.first) f.first) array f.starts in
    let g = begun_by held after sieve.Union a b y v false ts f.first other own starts f.runs in
    let d = sieved fresh (elements held a ++ elements held b) [] held less ts v after g.first_plan g.begins g.runs in
    record { stay = d.stay; last = d.last; sieves = d.sieves; result = d.result }
