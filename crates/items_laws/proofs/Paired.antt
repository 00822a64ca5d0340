-- `==` and `<=>` of Arrays.
use Rattle.std.proofs.Common.{◌≡◌, ℕ, refl, sym, ap, subst, ◌∙◌, List, [], ◌∷◌, length}
use Rattle.std.specs.Prelude.{codes, nat_eq, not, slice_get, Bool, true, false, ◌&&◌, if◌then◌else◌, Option, Some, None, unwrap_or}
use Rattle.rb_value.specs.declared.value.Value.{Value}
use Rattle.rb_value.specs.declared.value.Value.TheVariants.{Nil, False}
use Rattle.rb_value.specs.declared.value.ObjId.{ObjId}
use Rattle.rb_value.specs.declared.core_class.CoreClass.TheVariants as class
use Rattle.rb_value.specs.Value.{is_true, truth}
use Rattle.def_core.specs.Parts.{elements_at}
use Rattle.def_core.specs.Store.{Store}
use Rattle.def_calls.specs.Views.{an_array}
use Rattle.rb_store.specs.Held.{Held, one_more}
use Rattle.iter_comparing.specs.declared.pairing.Pairing.{Pairing}
use Rattle.iter_comparing.specs.declared.questions.Question.{Question}
use Rattle.iter_comparing.specs.declared.questions.Question.TheVariants.{Ends}
use Rattle.iter_comparing.specs.declared.row.ComparingRow.TheVariants as comparing_row
use Rattle.iter_comparing.specs.declared.state.Work.{Work}
use Rattle.iter_comparing.specs.declared.state.Work.TheVariants as work
use Rattle.iter_comparing.specs.Asking.{hear, heard_as}
use Rattle.iter_comparing.specs.Ordering.{same_value}
use Rattle.iter_comparing.specs.Pairing.{at_end as order_at_end, difference, is_same, order, pair}
use Rattle.iter_comparing.specs.Questions.{Heard, asked, compare, ends_with, goes_on}
use Rattle.iter_comparing.specs.Rows as comparing
use Rattle.def_plans.specs.Plan.{Planned}
use Rattle.iter_items.specs.declared.row.ItemsRow.TheVariants as items_row
use Rattle.run_rows.specs.declared.row.StarRow.TheVariants as row
use Rattle.core_iter.specs.Stage.{Stage}
use Rattle.items_laws.specs.Run.{Turn, Gives}
use Rattle.items_laws.specs.Items.{IsValue}
use Rattle.items_laws.specs.Lists.{any_of, is_untrue}
use Rattle.items_laws.specs.Asked.{symbol, with_symbol}
use Rattle.items_laws.specs.CutAsked.{CutsAsking, IsAbandoned}
use Rattle.items_laws.specs.Compared.{Compares, beside, differs, element_beside, element_of_equal, element_or_nil, first_or, length_at, nothing_known, same_as}
use Rattle.items_laws.proofs.Found.{ends_same, no_question}
use Rattle.items_laws.proofs.Readers.{Reader, Reading, reads}
use Rattle.items_laws.proofs.Small.{and_false, and_true, as_value, some_none, some_same, true_is, untrue_is}
use Rattle.items_laws.proofs.Sent.{first_of, opening}
use Rattle.items_laws.proofs.Unended.{cuts_asking}
use Rattle.items_laws.proofs.Working.{courses}

abbrev elements : Held → ObjId → List Value
elements held a = elements_at held.store.objects a

abbrev pair_at : ObjId → ObjId → Bool → ℕ → Pairing
pair_at a b ordered n = record { left = a; right = b; place = n; ordered = ordered }

-- two values beside each other are compared

pair_asked : (ordered : Bool) (n m : ℕ) (o p : Option Value) (x : Value) → beside o p ≡ Some x
    → pair ordered n m o p ≡ compare x (unwrap_or p Nil)
pair_asked ordered n m None p x there = absurd (cc)
pair_asked ordered n m (Some v) None x there = absurd (cc)
pair_asked ordered n m (Some v) (Some u) x there = ap (λ (z : Value). compare z u) (some_same v x there)

pair_ended : (ordered : Bool) (n m : ℕ) (o p : Option Value) → beside o p ≡ None
    → pair ordered n m o p ≡ Ends (order_at_end ordered n m)
pair_ended ordered n m None p none = refl
pair_ended ordered n m (Some v) None none = refl
pair_ended ordered n m (Some v) (Some u) none = absurd (cc)

-- what a reply comes to, by whether it says that they are the same
abbrev heard_by : ObjId → ObjId → Bool → ℕ → Value → Bool → Heard Work
heard_by a b ordered n u c = heard_as work.Pairs (if c then goes_on (pair_at a b ordered (one_more n))
    else ends_with (pair_at a b ordered n) (difference ordered u))

-- `<=>`

abbrev lengths_order : ObjId → ObjId → Held → Value
lengths_order a b h = order (length_at a h) (length_at b h)

abbrev IsOrder : ObjId → ObjId → List Value → Value → Held → Held → Type 0
IsOrder a b us r h after = IsValue h (first_or differs us (lengths_order a b h)) r after

abbrev ordering : ObjId → ObjId → Reader ℕ
ordering a b = record {
  work = λ n. work.Pairs (pair_at a b true n);
  busy = λ n x. work.Pairs (pair_at a b true n);
  place = λ n. n;
  step = λ n x u. one_more n;
  known = nothing_known;
  item = element_beside a b;
  other = element_or_nil b;
  stops = differs;
  holds = λ n xs us r h after. IsOrder a b us r h after;
}

order_ends : (st : Store) (a b : ObjId) (n : ℕ) (u : Value) → differs u ≡ true
    → (hear st (work.Pairs (pair_at a b true n)) u).ends ≡ Some u
order_ends st a b n u so = ap (λ (c : Bool). (heard_by a b true n u c).ends) (untrue_is (is_same true u) so)

order_goes : (st : Store) (a b : ObjId) (n : ℕ) (x u : Value) → differs u ≡ false
    → hear st (work.Pairs (pair_at a b true n)) u
    ≡ record { ends = None; work = work.Pairs (pair_at a b true (one_more n)) }
order_goes st a b n x u not_so = ap (λ (c : Bool). heard_by a b true n u c) (true_is (is_same true u) not_so)

order_here : (a b : ObjId) (u r : Value) (k : Held) → differs u ≡ true → u ≡ r → IsOrder a b (u ∷ []) r k k
order_here a b u r k so is = record { value = sym is ∙ sym here; left = refl }
  where
    here : first_or differs (u ∷ []) (lengths_order a b k) ≡ u
    here = ap (λ (c : Bool). if c then u else lengths_order a b k) so

order_later : (a b : ObjId) (u : Value) (us : List Value) (r : Value) (h after : Held) → differs u ≡ false
    → IsOrder a b us r h after → IsOrder a b (u ∷ us) r h after
order_later a b u us r h after not_so is = as_value (first_or differs (u ∷ us) (lengths_order a b h))
    (first_or differs us (lengths_order a b h)) r after h
    (ap (λ (c : Bool). if c then u else first_or differs us (lengths_order a b h)) not_so) is

orders : (a b : ObjId) → Reading (ordering a b)
orders a b = record {
  places = λ n x u. refl;
  asks = λ held n x there. ap (λ (q : Question). asked held (work.Pairs (pair_at a b true n)) q)
      (pair_asked true (length (elements held a)) (length (elements held b)) (slice_get (elements held a) n)
      (slice_get (elements held b) n) x there);
  knows = λ n x z. and_false (same_value z x);
  goes = λ st n x u not_so. order_goes st a b n x u not_so;
  halts = λ st n x u so none. some_none u (sym (order_ends st a b n u so) ∙ none);
  stop = λ held n x u r k there so ends. order_here a b u r k so (some_same u r (sym (order_ends k.store a b n u so) ∙ ends));
  ends = λ held n r there is. record {
    value = sym (ends_same (lengths_order a b held) r
        (sym (pair_ended true (length (elements held a)) (length (elements held b)) (slice_get (elements held a) n)
        (slice_get (elements held b) n) there) ∙ is));
    left = refl;
  };
  unasked = λ held n x arg there is. no_question (lengths_order a b held) x arg
      (sym (pair_ended true (length (elements held a)) (length (elements held b)) (slice_get (elements held a) n)
      (slice_get (elements held b) n) there) ∙ is);
  further = λ held n x u xs us r h after there not_so is. order_later a b u us r h after not_so is;
}

pub order_found : (held after : Held) (recv y v : Value) (a b : ObjId) (block : Option ObjId) (ts : List Turn)
    → an_array held.store.objects recv ≡ Some a → an_array held.store.objects y ≡ Some b
    → Gives (row.Items (items_row.Compares comparing_row.ArrayOrder)) held recv (y ∷ []) block ts v after
    → Compares (codes "<=>") nothing_known (element_beside a b) (element_or_nil b) differs held ts
    (λ h xs us. IsValue h (first_or differs us (order (length_at a h) (length_at b h))) v after)
order_found held after recv y v a b block ts array other run =
    let f = first_of comparing_row.ArrayOrder held recv (y ∷ []) block ts v after run in
    let starts = subst (λ (o : Option ObjId). comparing.Of held class.Array recv o
    (λ x. comparing.ForArray comparing_row.ArrayOrder held x (y ∷ []) f.first) f.first) array f.starts in
    let comes = subst (λ (o : Option ObjId). comparing.PairsWith held a true o f.first) other starts in
    let name = symbol (codes "<=>") held in
    let begun = with_symbol (codes "<=>") held in
    let w = work.Pairs (pair_at a b true 0) in
    let k = reads (ordering a b) (orders a b) name begun 0 w ts v after refl
    (courses name ts v after begun w f.first comes f.runs) in
    record { items = k.items; replies = k.replies; last = k.last; asks = k.asks; result = k.holds }

-- `==`

abbrev as_many : ObjId → ObjId → Held → Bool
as_many a b h = nat_eq (length_at a h) (length_at b h)

abbrev IsEqual : ObjId → ObjId → List Value → Value → Held → Held → Type 0
IsEqual a b us r h after = IsValue h (truth (not (any_of is_untrue us) && as_many a b h)) r after

abbrev equating : ObjId → ObjId → Reader ℕ
equating a b = record {
  work = λ n. work.Pairs (pair_at a b false n);
  busy = λ n x. work.Pairs (pair_at a b false n);
  place = λ n. n;
  step = λ n x u. one_more n;
  known = same_as;
  item = element_of_equal a b;
  other = element_or_nil b;
  stops = is_untrue;
  holds = λ n xs us r h after. IsEqual a b us r h after;
}

-- what is asked, by whether both have as many

abbrev question_by : Bool → ℕ → ℕ → Option Value → Option Value → Question
question_by c n m o p = if not c then Ends False else pair false n m o p

abbrev item_by : Bool → Option Value → Option Value → Option Value
item_by c o p = if c then beside o p else None

equal_asked : (c : Bool) (n m : ℕ) (o p : Option Value) (x : Value) → item_by c o p ≡ Some x
    → question_by c n m o p ≡ compare x (unwrap_or p Nil)
equal_asked true n m o p x there = pair_asked false n m o p x there
equal_asked false n m o p x there = absurd (cc)

equal_ended : (c : Bool) (n m : ℕ) (o p : Option Value) → nat_eq n m ≡ c → item_by c o p ≡ None
    → question_by c n m o p ≡ Ends (truth (nat_eq n m))
equal_ended true n m o p many none = pair_ended false n m o p none
equal_ended false n m o p many none = ap (λ (c : Bool). Ends (truth c)) (sym many)

equal_ends : (st : Store) (a b : ObjId) (n : ℕ) (u : Value) → is_untrue u ≡ true
    → (hear st (work.Pairs (pair_at a b false n)) u).ends ≡ Some False
equal_ends st a b n u so = ap (λ (c : Bool). (heard_by a b false n u c).ends) (untrue_is (is_true u) so)

equal_goes : (st : Store) (a b : ObjId) (n : ℕ) (x u : Value) → is_untrue u ≡ false
    → hear st (work.Pairs (pair_at a b false n)) u
    ≡ record { ends = None; work = work.Pairs (pair_at a b false (one_more n)) }
equal_goes st a b n x u not_so = ap (λ (c : Bool). heard_by a b false n u c) (true_is (is_true u) not_so)

equal_here : (a b : ObjId) (u r : Value) (k : Held) → is_untrue u ≡ true → False ≡ r → IsEqual a b (u ∷ []) r k k
equal_here a b u r k so is = record { value = sym is ∙ sym here; left = refl }
  where
    here : truth (not (any_of is_untrue (u ∷ [])) && as_many a b k) ≡ False
    here = ap (λ (c : Bool). truth (not (if c then true else false) && as_many a b k)) so

equal_later : (a b : ObjId) (u : Value) (us : List Value) (r : Value) (h after : Held) → is_untrue u ≡ false
    → IsEqual a b us r h after → IsEqual a b (u ∷ us) r h after
equal_later a b u us r h after not_so is = as_value (truth (not (any_of is_untrue (u ∷ us)) && as_many a b h))
    (truth (not (any_of is_untrue us) && as_many a b h)) r after h
    (ap (λ (c : Bool). truth (not (if c then true else any_of is_untrue us) && as_many a b h)) not_so) is

equates : (a b : ObjId) → Reading (equating a b)
equates a b = record {
  places = λ n x u. refl;
  asks = λ held n x there. ap (λ (q : Question). asked held (work.Pairs (pair_at a b false n)) q)
      (equal_asked (as_many a b held) (length (elements held a)) (length (elements held b))
      (slice_get (elements held a) n) (slice_get (elements held b) n) x there);
  knows = λ n x z. and_true (same_value z x);
  goes = λ st n x u not_so. equal_goes st a b n x u not_so;
  halts = λ st n x u so none. some_none False (sym (equal_ends st a b n u so) ∙ none);
  stop = λ held n x u r k there so ends.
      equal_here a b u r k so (some_same False r (sym (equal_ends k.store a b n u so) ∙ ends));
  ends = λ held n r there is. record {
    value = sym (ends_same (truth (as_many a b held)) r
        (sym (equal_ended (as_many a b held) (length (elements held a)) (length (elements held b))
        (slice_get (elements held a) n) (slice_get (elements held b) n) refl there) ∙ is));
    left = refl;
  };
  unasked = λ held n x arg there is. no_question (truth (as_many a b held)) x arg
      (sym (equal_ended (as_many a b held) (length (elements held a)) (length (elements held b))
      (slice_get (elements held a) n) (slice_get (elements held b) n) refl there) ∙ is);
  further = λ held n x u xs us r h after there not_so is. equal_later a b u us r h after not_so is;
}

pub equality_found : (held after : Held) (recv y v : Value) (a b : ObjId) (block : Option ObjId) (ts : List Turn)
    → an_array held.store.objects recv ≡ Some a → an_array held.store.objects y ≡ Some b
    → Gives (row.Items (items_row.Compares comparing_row.ArrayEquality)) held recv (y ∷ []) block ts v after
    → Compares (codes "==") same_as (element_of_equal a b) (element_or_nil b) is_untrue held ts
    (λ h xs us. IsValue h (truth (not (any_of is_untrue us) && nat_eq (length_at a h) (length_at b h))) v after)
equality_found held after recv y v a b block ts array other run =
    let f = first_of comparing_row.ArrayEquality held recv (y ∷ []) block ts v after run in
    let starts = subst (λ (o : Option ObjId). comparing.Of held class.Array recv o
    (λ x. comparing.ForArray comparing_row.ArrayEquality held x (y ∷ []) f.first) f.first) array f.starts in
    let comes = subst (λ (o : Option ObjId). comparing.PairsWith held a false o f.first) other starts in
    let name = symbol (codes "==") held in
    let begun = with_symbol (codes "==") held in
    let w = work.Pairs (pair_at a b false 0) in
    let k = reads (equating a b) (equates a b) name begun 0 w ts v after refl
    (courses name ts v after begun w f.first comes f.runs) in
    record { items = k.items; replies = k.replies; last = k.last; asks = k.asks; result = k.holds }

-- Where one of them never replies.

pub order_cut : (held : Held) (recv y : Value) (a b : ObjId) (block : Option ObjId) (ts : List Turn)
    (last : Planned Stage) → an_array held.store.objects recv ≡ Some a → an_array held.store.objects y ≡ Some b
    → IsAbandoned comparing_row.ArrayOrder held recv (y ∷ []) block ts last
    → CutsAsking (codes "<=>") nothing_known (element_beside a b) (element_or_nil b) differs held ts last
order_cut held recv y a b block ts last array other run =
    let f = opening comparing_row.ArrayOrder held recv (y ∷ []) block ts run.first last run.starts run.runs in
    let starts = subst (λ (o : Option ObjId). comparing.Of held class.Array recv o
    (λ x. comparing.ForArray comparing_row.ArrayOrder held x (y ∷ []) f.first) f.first) array f.starts in
    cuts_asking (ordering a b) (orders a b) (codes "<=>") held 0 ts last run.stage f.first run.waits refl
    (subst (λ (o : Option ObjId). comparing.PairsWith held a true o f.first) other starts) f.runs

pub equality_cut : (held : Held) (recv y : Value) (a b : ObjId) (block : Option ObjId) (ts : List Turn)
    (last : Planned Stage) → an_array held.store.objects recv ≡ Some a → an_array held.store.objects y ≡ Some b
    → IsAbandoned comparing_row.ArrayEquality held recv (y ∷ []) block ts last
    → CutsAsking (codes "==") same_as (element_of_equal a b) (element_or_nil b) is_untrue held ts last
equality_cut held recv y a b block ts last array other run =
    let f = opening comparing_row.ArrayEquality held recv (y ∷ []) block ts run.first last run.starts run.runs in
    let starts = subst (λ (o : Option ObjId). comparing.Of held class.Array recv o
    (λ x. comparing.ForArray comparing_row.ArrayEquality held x (y ∷ []) f.first) f.first) array f.starts in
    cuts_asking (equating a b) (equates a b) (codes "==") held 0 ts last run.stage f.first run.waits refl
    (subst (λ (o : Option ObjId). comparing.PairsWith held a false o f.first) other starts) f.runs
