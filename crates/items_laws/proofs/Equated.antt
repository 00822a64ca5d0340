-- `==` of Hashes.
use Rattle.std.proofs.Common.{◌≡◌, ℕ, ◌<◌, ◌+◌, ◌^◌, refl, sym, ap, subst, ◌∙◌, List, [], ◌∷◌, length, arith}
use Rattle.std.specs.Prelude.{codes, is_none, nat_eq, not, slice_get, Bool, true, false, ◌&&◌, if◌then◌else◌, Option, Some, None}
use Rattle.rb_value.specs.declared.value.Value.{Value}
use Rattle.rb_value.specs.declared.value.Value.TheVariants.{True, False}
use Rattle.rb_value.specs.declared.value.ObjId.{ObjId}
use Rattle.rb_value.specs.declared.hash.HashItem.{HashItem}
use Rattle.rb_value.specs.declared.key.Key.{Key}
use Rattle.rb_value.specs.declared.core_class.CoreClass.TheVariants as class
use Rattle.rb_value.specs.Value.{is_true, truth}
use Rattle.def_core.specs.declared.cause.Cause.{Cause}
use Rattle.def_core.specs.declared.cause.Cause.TheVariants as cause
use Rattle.def_core.specs.Parts.{pair_of}
use Rattle.def_core.specs.Store.{Store}
use Rattle.def_calls.specs.Values.{key_of}
use Rattle.def_calls.specs.Views.{a_hash}
use Rattle.heap.specs.Operands.{own}
use Rattle.rb_store.specs.Held.{Held, one_more}
use Rattle.def_plans.specs.Plan.{Planned, gives}
use Rattle.iter_comparing.specs.declared.equating.Equating.{Equating}
use Rattle.iter_comparing.specs.declared.questions.Question.{Question}
use Rattle.iter_comparing.specs.declared.questions.Question.TheVariants.{Ends, Fails, Asks as AsksFor}
use Rattle.iter_comparing.specs.declared.row.ComparingRow.TheVariants as comparing_row
use Rattle.iter_comparing.specs.declared.state.Work.{Work}
use Rattle.iter_comparing.specs.declared.state.Work.TheVariants as work
use Rattle.iter_comparing.specs.Asking.{hear, heard_as}
use Rattle.iter_comparing.specs.Hashes.{beside, items, pair_beside, pairs, under}
use Rattle.iter_comparing.specs.Ordering.{same_value}
use Rattle.iter_comparing.specs.Questions.{Heard, asked, compare, ends_with, goes_on}
use Rattle.iter_comparing.specs.Rows as comparing
use Rattle.iter_comparing.specs.Stage as over_values
use Rattle.iter_items.specs.declared.row.ItemsRow.TheVariants as items_row
use Rattle.run_rows.specs.declared.row.StarRow.TheVariants as row
use Rattle.core_iter.specs.Stage.{Stage}
use Rattle.items_laws.specs.Run.{Turn, Runs, Gives}
use Rattle.items_laws.specs.Items.{IsValue}
use Rattle.items_laws.specs.Lists.{any_of, is_untrue}
use Rattle.items_laws.specs.Asked.{symbol, with_symbol}
use Rattle.items_laws.specs.CutAsked.{CutsAsking, IsAbandoned}
use Rattle.items_laws.specs.Compared.{Compares, pair_under, partner, same_as, value_beside, value_in, value_under, value_with}
use Rattle.items_laws.proofs.Counted.{one_behind, still_less, from_zero}
use Rattle.items_laws.proofs.Course.{given}
use Rattle.items_laws.proofs.Found.{ends_same, no_question}
use Rattle.items_laws.proofs.Readers.{Reader, Reading, reads}
use Rattle.items_laws.proofs.Small.{and_true, as_value, some_none, some_same, sum_zero, sum_more, true_is, untrue_is}
use Rattle.items_laws.proofs.Sent.{first_of, lifted, opening}
use Rattle.items_laws.proofs.Unended.{cuts_asking}
use Rattle.items_laws.proofs.Working.{courses}

-- What is asked of a pair.

beside_asked : (i : HashItem) (x : Value) (p : Option HashItem) → value_beside (Some i) p ≡ Some x
    → beside i.value p ≡ compare x (value_in p)
beside_asked i x None there = absurd (cc)
beside_asked i x (Some j) there = ap (λ (z : Value). compare z j.value) (some_same i.value x there)

under_asked : (st : Store) (h : ObjId) (i : HashItem) (x : Value) (k : Option Key)
    → value_beside (Some i) (pair_under st h k) ≡ Some x
    → under st h i.value k ≡ compare x (value_in (pair_under st h k))
under_asked st h i x None there = absurd (cc)
under_asked st h i x (Some k) there = beside_asked i x (pair_of st.objects h k) there

pair_asked : (held : Held) (h : ObjId) (x : Value) (o : Option HashItem) → value_beside o (partner h held o) ≡ Some x
    → pair_beside held.store h o ≡ compare x (value_in (partner h held o))
pair_asked held h x None there = absurd (cc)
pair_asked held h x (Some i) there =
    under_asked held.store h i x (key_of held.store.objects (own held.store i.shown)) there

-- What comes where none is asked.

abbrev Over : Question → Value → Type 0
Over q v = ((r : Value) → q ≡ Ends r → v ≡ r) × ((x : Value) (arg : Option Value) → q ≡ AsksFor x arg → ⊥)

over_with : (v : Value) → Over (Ends v) v
over_with v = (λ r e. ends_same v r e, λ x arg e. no_question v x arg e)

no_end : (c : Cause) (r : Value) → Fails c ≡ Ends r → ⊥
no_end c r e = cc

no_asking : (c : Cause) (x : Value) (arg : Option Value) → Fails c ≡ AsksFor x arg → ⊥
no_asking c x arg e = cc

beside_over : (i : HashItem) (p : Option HashItem) → value_beside (Some i) p ≡ None → Over (beside i.value p) False
beside_over i None none = over_with False
beside_over i (Some j) none = absurd (cc)

under_over : (st : Store) (h : ObjId) (i : HashItem) (k : Option Key) → value_beside (Some i) (pair_under st h k) ≡ None
    → Over (under st h i.value k) False
under_over st h i None none = (λ r e. absurd (no_end cause.StackTooDeep r e), λ x arg e. no_asking cause.StackTooDeep x arg e)
under_over st h i (Some k) none = beside_over i (pair_of st.objects h k) none

pair_over : (held : Held) (h : ObjId) (o : Option HashItem) → value_beside o (partner h held o) ≡ None
    → Over (pair_beside held.store h o) (truth (is_none o))
pair_over held h None none = over_with True
pair_over held h (Some i) none =
    under_over held.store h i (key_of held.store.objects (own held.store i.shown)) none

-- The work

abbrev equating_at : List HashItem → ObjId → ℕ → Equating
equating_at ps h n = record { pairs = ps; place = n; other = h }

abbrev IsEqual : List HashItem → ℕ → List Value → Value → Held → Held → Type 0
IsEqual ps n us r k after = n + length us < 2 ^ 63
    → IsValue k (truth (not (any_of is_untrue us) && is_none (slice_get ps (n + length us)))) r after

abbrev equating : List HashItem → ObjId → Reader ℕ
equating ps h = record {
  work = λ n. work.Equates (equating_at ps h n);
  busy = λ n x. work.Equates (equating_at ps h n);
  place = λ n. n;
  step = λ n x u. one_more n;
  known = same_as;
  item = value_with ps h;
  other = value_under ps h;
  stops = is_untrue;
  holds = λ n xs us r k after. IsEqual ps n us r k after;
}

abbrev heard_by : List HashItem → ObjId → ℕ → Bool → Heard Work
heard_by ps h n c = heard_as work.Equates (if c then goes_on (equating_at ps h (one_more n))
    else ends_with (equating_at ps h n) False)

equal_ends : (st : Store) (ps : List HashItem) (h : ObjId) (n : ℕ) (u : Value) → is_untrue u ≡ true
    → (hear st (work.Equates (equating_at ps h n)) u).ends ≡ Some False
equal_ends st ps h n u so = ap (λ (c : Bool). (heard_by ps h n c).ends) (untrue_is (is_true u) so)

equal_goes : (st : Store) (ps : List HashItem) (h : ObjId) (n : ℕ) (u : Value) → is_untrue u ≡ false
    → hear st (work.Equates (equating_at ps h n)) u
    ≡ record { ends = None; work = work.Equates (equating_at ps h (one_more n)) }
equal_goes st ps h n u not_so = ap (λ (c : Bool). heard_by ps h n c) (true_is (is_true u) not_so)

equal_here : (ps : List HashItem) (n : ℕ) (u r : Value) (k : Held) → is_untrue u ≡ true → False ≡ r
    → IsEqual ps n (u ∷ []) r k k
equal_here ps n u r k so is = λ less. record { value = sym is ∙ sym here; left = refl }
  where
    here : truth (not (any_of is_untrue (u ∷ [])) && is_none (slice_get ps (n + length (u ∷ [])))) ≡ False
    here = ap (λ (c : Bool). truth (not (if c then true else false) && is_none (slice_get ps (n + length (u ∷ []))))) so

equal_over : (ps : List HashItem) (n : ℕ) (r : Value) (k : Held) → truth (is_none (slice_get ps n)) ≡ r
    → IsEqual ps n [] r k k
equal_over ps n r k is = λ less.
    record { value = sym is ∙ ap (λ (m : ℕ). truth (is_none (slice_get ps m))) (sum_zero n); left = refl }

equal_later : (ps : List HashItem) (n : ℕ) (u : Value) (us : List Value) (r : Value) (k after : Held)
    → is_untrue u ≡ false → IsEqual ps (one_more n) us r k after → IsEqual ps n (u ∷ us) r k after
equal_later ps n u us r k after not_so is = λ less.
    as_value (truth (not (any_of is_untrue (u ∷ us)) && is_none (slice_get ps (n + length (u ∷ us)))))
    (truth (not (any_of is_untrue us) && is_none (slice_get ps (n + 1 + length us)))) r after k
    (ap (λ (c : Bool). truth (not (if c then true else any_of is_untrue us)
    && is_none (slice_get ps (n + length (u ∷ us))))) not_so
    ∙ ap (λ (m : ℕ). truth (not (any_of is_untrue us) && is_none (slice_get ps m))) (sym (sum_more n (length us))))
    (subst (λ (m : ℕ). IsEqual ps m us r k after) (one_behind n (length us) less) is (still_less n (length us) less))

equates : (ps : List HashItem) (h : ObjId) → Reading (equating ps h)
equates ps h = record {
  places = λ n x u. refl;
  asks = λ held n x there. ap (λ (q : Question). asked held (work.Equates (equating_at ps h n)) q)
      (pair_asked held h x (slice_get ps n) there);
  knows = λ n x z. and_true (same_value z x);
  goes = λ st n x u not_so. equal_goes st ps h n u not_so;
  halts = λ st n x u so none. some_none False (sym (equal_ends st ps h n u so) ∙ none);
  stop = λ held n x u r k there so ends.
      equal_here ps n u r k so (some_same False r (sym (equal_ends k.store ps h n u so) ∙ ends));
  ends = λ held n r there is. equal_over ps n r held ((pair_over held h (slice_get ps n) there).0 r is);
  unasked = λ held n x arg there is. (pair_over held h (slice_get ps n) there).1 x arg is;
  further = λ held n x u xs us r k after there not_so is. equal_later ps n u us r k after not_so is;
}

-- as it begins, by the other Hash and by whether both have as many pairs

abbrev as_many : Held → ObjId → ObjId → Bool
as_many held h other = nat_eq (length (pairs held.store h)) (length (pairs held.store other))

record Begun (held : Held) (h other : ObjId) (c : Bool) (ts : List Turn) (v : Value) (after : Held) : Type 0 where
  first : Planned over_values.Stage
  begins : comparing.EqualBy held h other c first
  runs : Runs (lifted first) ts (gives after v)

begun_by : (held after : Held) (recv y v : Value) (h other : ObjId) (block : Option ObjId) (ts : List Turn) (c : Bool)
    → a_hash held.store.objects recv ≡ Some h → a_hash held.store.objects y ≡ Some other → as_many held h other ≡ c
    → Gives (row.Items (items_row.Compares comparing_row.HashEquality)) held recv (y ∷ []) block ts v after
    → Begun held h other c ts v after
begun_by held after recv y v h other block ts c hash beside many run =
    let f = first_of comparing_row.HashEquality held recv (y ∷ []) block ts v after run in
    let starts = subst (λ (o : Option ObjId). comparing.Of held class.Hash recv o
    (λ x. comparing.ForHash comparing_row.HashEquality held x (y ∷ []) block f.first) f.first) hash f.starts in
    let to = subst (λ (o : Option ObjId). comparing.EqualTo held h o f.first) beside starts in
    record {
      first = f.first;
      begins = subst (λ (b : Bool). comparing.EqualBy held h other b f.first) many to;
      runs = f.runs;
    }

pub hashes_equal : (held after : Held) (recv y v : Value) (h other : ObjId) (block : Option ObjId) (ts : List Turn)
    → a_hash held.store.objects recv ≡ Some h → a_hash held.store.objects y ≡ Some other
    → nat_eq (length (pairs held.store h)) (length (pairs held.store other)) ≡ true
    → Gives (row.Items (items_row.Compares comparing_row.HashEquality)) held recv (y ∷ []) block ts v after
    → Compares (codes "==") same_as (value_with (items (pairs held.store h)) other)
    (value_under (items (pairs held.store h)) other) is_untrue held ts
    (λ k xs us. length us < 2 ^ 63 → IsValue k (truth (not (any_of is_untrue us)
    && is_none (slice_get (items (pairs held.store h)) (length us)))) v after)
hashes_equal held after recv y v h other block ts hash beside many run =
    let b = begun_by held after recv y v h other block ts true hash beside many run in
    let ps = items (pairs held.store h) in
    let name = symbol (codes "==") held in
    let begun = with_symbol (codes "==") held in
    let w = work.Equates (equating_at ps other 0) in
    let k = reads (equating ps other) (equates ps other) name begun 0 w ts v after refl
    (courses name ts v after begun w b.first b.begins b.runs) in
    record {
      items = k.items;
      replies = k.replies;
      last = k.last;
      asks = k.asks;
      result = λ less. subst (λ (n : ℕ). IsValue k.last (truth (not (any_of is_untrue k.replies)
          && is_none (slice_get ps n))) v after) (none_before (length k.replies)) (k.holds (from_zero (length k.replies) less));
    }
  where
    none_before : (n : ℕ) → 0 + n ≡ n
    none_before n = omega arith

pub hashes_differ : (held after : Held) (recv y v : Value) (h other : ObjId) (block : Option ObjId) (ts : List Turn)
    → a_hash held.store.objects recv ≡ Some h → a_hash held.store.objects y ≡ Some other
    → nat_eq (length (pairs held.store h)) (length (pairs held.store other)) ≡ false
    → Gives (row.Items (items_row.Compares comparing_row.HashEquality)) held recv (y ∷ []) block ts v after
    → (ts ≡ []) × IsValue held False v after
hashes_differ held after recv y v h other block ts hash beside many run =
    let b = begun_by held after recv y v h other block ts false hash beside many run in
    let e = given ts held False v after
    (subst (λ (p : Planned over_values.Stage). Runs (lifted p) ts (gives after v)) b.begins b.runs) in
    (e.0, record { value = e.1; left = e.2 })

-- where one of them never replies
pub equal_cut : (held : Held) (recv y : Value) (h other : ObjId) (block : Option ObjId) (ts : List Turn)
    (last : Planned Stage) → a_hash held.store.objects recv ≡ Some h → a_hash held.store.objects y ≡ Some other
    → nat_eq (length (pairs held.store h)) (length (pairs held.store other)) ≡ true
    → IsAbandoned comparing_row.HashEquality held recv (y ∷ []) block ts last
    → CutsAsking (codes "==") same_as (value_with (items (pairs held.store h)) other)
    (value_under (items (pairs held.store h)) other) is_untrue held ts last
equal_cut held recv y h other block ts last hash beside many run =
    let f = opening comparing_row.HashEquality held recv (y ∷ []) block ts run.first last run.starts run.runs in
    let ps = items (pairs held.store h) in
    let starts = subst (λ (o : Option ObjId). comparing.Of held class.Hash recv o
    (λ x. comparing.ForHash comparing_row.HashEquality held x (y ∷ []) block f.first) f.first) hash f.starts in
    let to = subst (λ (o : Option ObjId). comparing.EqualTo held h o f.first) beside starts in
    cuts_asking (equating ps other) (equates ps other) (codes "==") held 0 ts last run.stage f.first run.waits refl
    (subst (λ (b : Bool). comparing.EqualBy held h other b f.first) many to) f.runs
