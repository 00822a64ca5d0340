-- `index` and `include?` of an Array, `value?` and `key` of a Hash.
use Rattle.std.proofs.Common.{◌≡◌, ℕ, suc, ◌<◌, ◌+◌, ◌^◌, refl, sym, ap, subst, ◌∙◌, List, [], ◌∷◌, length, drop, arith}
use Rattle.std.specs.Prelude.{codes, option_map, slice_get, Bool, true, false, if◌then◌else◌, Option, Some, None}
use Rattle.rb_value.specs.declared.value.Value.{Value}
use Rattle.rb_value.specs.declared.value.ObjId.{ObjId}
use Rattle.rb_value.specs.declared.hash.HashItem.{HashItem}
use Rattle.rb_value.specs.declared.core_class.CoreClass.TheVariants as class
use Rattle.rb_value.specs.Value.{is_true, truth}
use Rattle.def_calls.specs.Views.{an_array, a_hash}
use Rattle.def_core.specs.Store.{Store}
use Rattle.rb_store.specs.Held.{Held, one_more}
use Rattle.iter_comparing.specs.declared.equating.KeySearch.{KeySearch}
use Rattle.iter_comparing.specs.declared.questions.Question.TheVariants.{Ends, Asks as AsksFor}
use Rattle.iter_comparing.specs.declared.row.ComparingRow.TheVariants as comparing_row
use Rattle.iter_comparing.specs.declared.searching.Search.{Search}
use Rattle.iter_comparing.specs.declared.state.Work.{Work}
use Rattle.iter_comparing.specs.declared.state.Work.TheVariants as work
use Rattle.def_plans.specs.Plan.{Planned, gives}
use Rattle.iter_comparing.specs.Asking.{Begins, hear, heard_as, question}
use Rattle.iter_comparing.specs.Hashes as hashes
use Rattle.iter_comparing.specs.Hashes.{items, pairs}
use Rattle.iter_comparing.specs.Ordering.{same_value}
use Rattle.iter_comparing.specs.Questions.{Heard, asked, ends_with, goes_on}
use Rattle.iter_comparing.specs.Rows as comparing
use Rattle.iter_comparing.specs.Searching as searching
use Rattle.iter_comparing.specs.Stage as over_values
use Rattle.iter_items.specs.declared.row.ItemsRow.TheVariants as items_row
use Rattle.run_rows.specs.declared.row.StarRow.TheVariants as row
use Rattle.core_iter.specs.Stage.{Stage}
use Rattle.items_laws.specs.Run.{Turn, Runs, Gives, waiting}
use Rattle.items_laws.specs.Items.{IsValue}
use Rattle.items_laws.specs.Lists.{any_of, first_or_nil, picked, place_from}
use Rattle.items_laws.specs.Asked.{always, symbol, with_symbol}
use Rattle.items_laws.specs.CutAsked.{CutsAsking, IsAbandoned}
use Rattle.items_laws.specs.Compared.{Compares, element, keys_of, same_as, value_of}
use Rattle.items_laws.proofs.Counted.{number_is, one_behind, still_less, from_zero, place_here, place_later}
use Rattle.items_laws.proofs.Pairs.{behind_one}
use Rattle.items_laws.proofs.Readers.{Reader, Reading, reads}
use Rattle.items_laws.proofs.Small.{and_true, as_value, some_none, some_same}
use Rattle.items_laws.proofs.Sent.{first_of, lifted, opening}
use Rattle.items_laws.proofs.Unended.{cuts_asking}
use Rattle.items_laws.proofs.Working.{courses}

pub ends_same : (x r : Value) → Ends x ≡ Ends r → x ≡ r
ends_same x r e = cc

pub no_question : (x y : Value) (arg : Option Value) → Ends x ≡ AsksFor y arg → ⊥
no_question x y arg e = cc

-- whether any reply is true
abbrev IsAny : List Value → Value → Held → Held → Type 0
IsAny us r h after = IsValue h (truth (any_of is_true us)) r after

any_here : (a r : Value) (k : Held) → is_true a ≡ true → truth true ≡ r → IsAny (a ∷ []) r k k
any_here a r k so is = record { value = sym is ∙ sym here; left = refl }
  where
    here : truth (any_of is_true (a ∷ [])) ≡ truth true
    here = ap (λ (c : Bool). truth (if c then true else any_of is_true [])) so

any_later : (a : Value) (us : List Value) (r : Value) (h after : Held) → is_true a ≡ false → IsAny us r h after
    → IsAny (a ∷ us) r h after
any_later a us r h after not_so is =
    as_value (truth (any_of is_true (a ∷ us))) (truth (any_of is_true us)) r after h
    (ap (λ (c : Bool). truth (if c then true else any_of is_true us)) not_so) is

-- Of an Array

abbrev search_at : ObjId → Value → Bool → ℕ → Search
search_at a y indexed n = record { array = a; place = n; wanted = y; indexed = indexed }

-- the place of the first reply that is true, or whether there is one
abbrev IsFound : Bool → ℕ → List Value → Value → Held → Held → Type 0
IsFound true n us r h after = n + length us < 2 ^ 63 → IsValue h (place_from n is_true us) r after
IsFound false n us r h after = IsAny us r h after

abbrev seeking : ObjId → Value → Bool → Reader ℕ
seeking a y indexed = record {
  work = λ n. work.Searches (search_at a y indexed n);
  busy = λ n x. work.Searches (search_at a y indexed n);
  place = λ n. n;
  step = λ n x a. one_more n;
  known = same_as;
  item = element a;
  other = always y;
  stops = is_true;
  holds = λ n xs us r h after. IsFound indexed n us r h after;
}

-- what a reply comes to, by whether it is true
abbrev search_heard : ObjId → Value → Bool → ℕ → Bool → Heard Work
search_heard a y indexed n c = heard_as work.Searches (if c
    then ends_with (search_at a y indexed n) (searching.found_at indexed n)
    else goes_on (search_at a y indexed (one_more n)))

search_ends : (st : Store) (a : ObjId) (y : Value) (indexed : Bool) (n : ℕ) (u : Value) → is_true u ≡ true
    → (hear st (work.Searches (search_at a y indexed n)) u).ends ≡ Some (searching.found_at indexed n)
search_ends st a y indexed n u so = ap (λ (c : Bool). (search_heard a y indexed n c).ends) so

found_here : (indexed : Bool) (n : ℕ) (u r : Value) (k : Held) → is_true u ≡ true → searching.found_at indexed n ≡ r
    → IsFound indexed n (u ∷ []) r k k
found_here true n u r k so is = λ less.
    record { value = sym is ∙ number_is n (length (u ∷ [])) less ∙ sym (place_here n u [] so); left = refl }
found_here false n u r k so is = any_here u r k so is

found_nowhere : (indexed : Bool) (n : ℕ) (r : Value) (h : Held) → searching.nowhere indexed ≡ r → IsFound indexed n [] r h h
found_nowhere true n r h is = λ less. record { value = sym is; left = refl }
found_nowhere false n r h is = record { value = sym is; left = refl }

found_later : (indexed : Bool) (n : ℕ) (u : Value) (us : List Value) (r : Value) (h after : Held) → is_true u ≡ false
    → IsFound indexed (one_more n) us r h after → IsFound indexed n (u ∷ us) r h after
found_later true n u us r h after not_so is = λ less.
    as_value (place_from n is_true (u ∷ us)) (place_from (n + 1) is_true us) r after h (place_later n u us not_so)
    (subst (λ (k : ℕ). IsFound true k us r h after) (one_behind n (length us) less) is (still_less n (length us) less))
found_later false n u us r h after not_so is = any_later u us r h after not_so is

seeks : (a : ObjId) (y : Value) (indexed : Bool) → Reading (seeking a y indexed)
seeks a y indexed = record {
  places = λ n x u. refl;
  asks = λ held n x there. ap (λ (o : Option Value). asked held (work.Searches (search_at a y indexed n))
      (searching.question_at (search_at a y indexed n) o)) there;
  knows = λ n x z. and_true (same_value z x);
  goes = λ st n x u not_so. ap (λ (c : Bool). search_heard a y indexed n c) not_so;
  halts = λ st n x u so none. some_none (searching.found_at indexed n) (sym (search_ends st a y indexed n u so) ∙ none);
  stop = λ held n x u r k there so ends. found_here indexed n u r k so
      (some_same (searching.found_at indexed n) r (sym (search_ends k.store a y indexed n u so) ∙ ends));
  ends = λ held n r there is. found_nowhere indexed n r held (ends_same (searching.nowhere indexed) r
      (sym (ap (λ (o : Option Value). searching.question_at (search_at a y indexed n) o) there) ∙ is));
  unasked = λ held n x arg there is. no_question (searching.nowhere indexed) x arg
      (sym (ap (λ (o : Option Value). searching.question_at (search_at a y indexed n) o) there) ∙ is);
  further = λ held n x u xs us r h after there not_so is. found_later indexed n u us r h after not_so is;
}

pub index_found : (held after : Held) (recv y v : Value) (a : ObjId) (block : Option ObjId) (ts : List Turn)
    → an_array held.store.objects recv ≡ Some a
    → Gives (row.Items (items_row.Compares comparing_row.ArrayIndex)) held recv (y ∷ []) block ts v after
    → Compares (codes "==") same_as (element a) (always y) is_true held ts
    (λ h xs us. length us < 2 ^ 63 → IsValue h (place_from 0 is_true us) v after)
index_found held after recv y v a block ts array run =
    let f = first_of comparing_row.ArrayIndex held recv (y ∷ []) block ts v after run in
    let comes = subst (λ (o : Option ObjId). comparing.Of held class.Array recv o
    (λ x. comparing.ForArray comparing_row.ArrayIndex held x (y ∷ []) f.first) f.first) array f.starts in
    let name = symbol (codes "==") held in
    let begun = with_symbol (codes "==") held in
    let k = reads (seeking a y true) (seeks a y true) name begun 0 (comparing.search a y true) ts v after refl
    (courses name ts v after begun (comparing.search a y true) f.first comes f.runs) in
    record {
      items = k.items;
      replies = k.replies;
      last = k.last;
      asks = k.asks;
      result = λ less. k.holds (from_zero (length k.replies) less);
    }

-- from what it begins with
pub included_from : (held after : Held) (y v : Value) (a : ObjId) (ts : List Turn) (first : Planned over_values.Stage)
    → Begins held (codes "==") (comparing.search a y false) first → Runs (lifted first) ts (gives after v)
    → Compares (codes "==") same_as (element a) (always y) is_true held ts
    (λ h xs us. IsValue h (truth (any_of is_true us)) v after)
included_from held after y v a ts first comes runs =
    let name = symbol (codes "==") held in
    let begun = with_symbol (codes "==") held in
    let k = reads (seeking a y false) (seeks a y false) name begun 0 (comparing.search a y false) ts v after refl
    (courses name ts v after begun (comparing.search a y false) first comes runs) in
    record { items = k.items; replies = k.replies; last = k.last; asks = k.asks; result = k.holds }

pub included : (held after : Held) (recv y v : Value) (a : ObjId) (block : Option ObjId) (ts : List Turn)
    → an_array held.store.objects recv ≡ Some a
    → Gives (row.Items (items_row.Compares comparing_row.ArrayIncludes)) held recv (y ∷ []) block ts v after
    → Compares (codes "==") same_as (element a) (always y) is_true held ts
    (λ h xs us. IsValue h (truth (any_of is_true us)) v after)
included held after recv y v a block ts array run =
    let f = first_of comparing_row.ArrayIncludes held recv (y ∷ []) block ts v after run in
    included_from held after y v a ts f.first (subst (λ (o : Option ObjId). comparing.Of held class.Array recv o
    (λ x. comparing.ForArray comparing_row.ArrayIncludes held x (y ∷ []) f.first) f.first) array f.starts) f.runs

-- Of a Hash

abbrev key_search_at : List HashItem → Value → Bool → ℕ → KeySearch
key_search_at ps y keyed n = record { pairs = ps; place = n; wanted = y; keyed = keyed }

-- the key of the first pair whose reply is true, or whether there is one
abbrev IsKey : Bool → List HashItem → ℕ → List Value → Value → Held → Held → Type 0
IsKey true ps n us r h after = n + length us < 2 ^ 63
    → IsValue h (first_or_nil (picked is_true (keys_of (drop n ps)) us)) r after
IsKey false ps n us r h after = IsAny us r h after

abbrev seeking_key : List HashItem → Value → Bool → Reader ℕ
seeking_key ps y keyed = record {
  work = λ n. work.FindsKey (key_search_at ps y keyed n);
  busy = λ n x. work.FindsKey (key_search_at ps y keyed n);
  place = λ n. n;
  step = λ n x a. one_more n;
  known = same_as;
  item = value_of ps;
  other = always y;
  stops = is_true;
  holds = λ n xs us r h after. IsKey keyed ps n us r h after;
}

-- the pair that is there

record Pair (ps : List HashItem) (n : ℕ) (x : Value) : Type 0 where
  pair : HashItem
  there : slice_get ps n ≡ Some pair
  same : pair.value ≡ x

pair_by : (ps : List HashItem) (n : ℕ) (x : Value) (o : Option HashItem) → slice_get ps n ≡ o
    → option_map (λ i. i.value) o ≡ Some x → Pair ps n x
pair_by ps n x None there is = absurd (cc)
pair_by ps n x (Some i) there is = record { pair = i; there = there; same = some_same i.value x is }

no_pair : (o : Option HashItem) → option_map (λ i. i.value) o ≡ None → o ≡ None
no_pair None none = refl
no_pair (Some i) none = absurd (cc)

key_asked : (held : Held) (ps : List HashItem) (y : Value) (keyed : Bool) (n : ℕ) (x : Value) → value_of ps held n ≡ Some x
    → question held (work.FindsKey (key_search_at ps y keyed n))
    ≡ asked held (work.FindsKey (key_search_at ps y keyed n)) (AsksFor x (Some y))
key_asked held ps y keyed n x there =
    let p = pair_by ps n x (slice_get ps n) refl there in
    ap (λ (o : Option HashItem). asked held (work.FindsKey (key_search_at ps y keyed n))
    (hashes.search_at (key_search_at ps y keyed n) o)) p.there
    ∙ ap (λ (z : Value). asked held (work.FindsKey (key_search_at ps y keyed n)) (AsksFor z (Some y))) p.same

abbrev key_heard : List HashItem → Value → Bool → ℕ → Bool → Heard Work
key_heard ps y keyed n c = heard_as work.FindsKey (if c
    then ends_with (key_search_at ps y keyed n) (hashes.found (key_search_at ps y keyed n) keyed)
    else goes_on (key_search_at ps y keyed (one_more n)))

key_ends : (st : Store) (ps : List HashItem) (y : Value) (keyed : Bool) (n : ℕ) (u : Value) → is_true u ≡ true
    → (hear st (work.FindsKey (key_search_at ps y keyed n)) u).ends
    ≡ Some (hashes.found (key_search_at ps y keyed n) keyed)
key_ends st ps y keyed n u so = ap (λ (c : Bool). (key_heard ps y keyed n c).ends) so

first_picked : (p : HashItem) (rest : List HashItem) (u : Value) (us : List Value) → is_true u ≡ true
    → first_or_nil (picked is_true (keys_of (p ∷ rest)) (u ∷ us)) ≡ p.shown
first_picked p rest u us so = ap (λ (c : Bool). first_or_nil (if c then p.shown ∷ picked is_true (keys_of rest) us
    else picked is_true (keys_of rest) us)) so

later_picked : (p : HashItem) (rest : List HashItem) (u : Value) (us : List Value) → is_true u ≡ false
    → first_or_nil (picked is_true (keys_of (p ∷ rest)) (u ∷ us)) ≡ first_or_nil (picked is_true (keys_of rest) us)
later_picked p rest u us not_so = ap (λ (c : Bool). first_or_nil (if c then p.shown ∷ picked is_true (keys_of rest) us
    else picked is_true (keys_of rest) us)) not_so

none_picked : (xs : List Value) → picked is_true xs [] ≡ []
none_picked [] = refl
none_picked (x ∷ xs) = refl

key_here : (keyed : Bool) (ps : List HashItem) (y : Value) (n : ℕ) (x u r : Value) (k : Held) → Pair ps n x
    → is_true u ≡ true → hashes.found (key_search_at ps y keyed n) keyed ≡ r → IsKey keyed ps n (u ∷ []) r k k
key_here true ps y n x u r k p so is = λ less. record {
  value = sym is ∙ ap (λ (o : Option HashItem). hashes.key_in o) p.there
      ∙ sym (first_picked p.pair (drop (suc n) ps) u [] so)
      ∙ ap (λ (l : List HashItem). first_or_nil (picked is_true (keys_of l) (u ∷ []))) (sym (behind_one ps n p.pair p.there));
  left = refl;
}
key_here false ps y n x u r k p so is = any_here u r k so is

key_nowhere : (keyed : Bool) (ps : List HashItem) (n : ℕ) (r : Value) (h : Held) → hashes.nowhere keyed ≡ r
    → IsKey keyed ps n [] r h h
key_nowhere true ps n r h is = λ less. record {
  value = sym is ∙ ap (λ (xs : List Value). first_or_nil xs) (sym (none_picked (keys_of (drop n ps))));
  left = refl;
}
key_nowhere false ps n r h is = record { value = sym is; left = refl }

key_later : (keyed : Bool) (ps : List HashItem) (n : ℕ) (x u : Value) (us : List Value) (r : Value) (h after : Held)
    → Pair ps n x → is_true u ≡ false → IsKey keyed ps (one_more n) us r h after → IsKey keyed ps n (u ∷ us) r h after
key_later true ps n x u us r h after p not_so is = λ less.
    as_value (first_or_nil (picked is_true (keys_of (drop n ps)) (u ∷ us)))
    (first_or_nil (picked is_true (keys_of (drop (n + 1) ps)) us)) r after h
    (ap (λ (l : List HashItem). first_or_nil (picked is_true (keys_of l) (u ∷ us))) (behind_one ps n p.pair p.there)
    ∙ later_picked p.pair (drop (suc n) ps) u us not_so
    ∙ ap (λ (m : ℕ). first_or_nil (picked is_true (keys_of (drop m ps)) us)) (one_above n))
    (subst (λ (m : ℕ). IsKey true ps m us r h after) (one_behind n (length us) less) is (still_less n (length us) less))
  where
    one_above : (n : ℕ) → suc n ≡ n + 1
    one_above n = omega arith
key_later false ps n x u us r h after p not_so is = any_later u us r h after not_so is

seeks_key : (ps : List HashItem) (y : Value) (keyed : Bool) → Reading (seeking_key ps y keyed)
seeks_key ps y keyed = record {
  places = λ n x u. refl;
  asks = λ held n x there. key_asked held ps y keyed n x there;
  knows = λ n x z. and_true (same_value z x);
  goes = λ st n x u not_so. ap (λ (c : Bool). key_heard ps y keyed n c) not_so;
  halts = λ st n x u so none.
      some_none (hashes.found (key_search_at ps y keyed n) keyed) (sym (key_ends st ps y keyed n u so) ∙ none);
  stop = λ held n x u r k there so ends. key_here keyed ps y n x u r k (pair_by ps n x (slice_get ps n) refl there) so
      (some_same (hashes.found (key_search_at ps y keyed n) keyed) r (sym (key_ends k.store ps y keyed n u so) ∙ ends));
  ends = λ held n r there is. key_nowhere keyed ps n r held (ends_same (hashes.nowhere keyed) r
      (sym (ap (λ (o : Option HashItem). hashes.search_at (key_search_at ps y keyed n) o) (no_pair (slice_get ps n) there))
      ∙ is));
  unasked = λ held n x arg there is. no_question (hashes.nowhere keyed) x arg
      (sym (ap (λ (o : Option HashItem). hashes.search_at (key_search_at ps y keyed n) o) (no_pair (slice_get ps n) there))
      ∙ is);
  further = λ held n x u xs us r h after there not_so is.
      key_later keyed ps n x u us r h after (pair_by ps n x (slice_get ps n) refl there) not_so is;
}

pub value_found : (held after : Held) (recv y v : Value) (h : ObjId) (block : Option ObjId) (ts : List Turn)
    → a_hash held.store.objects recv ≡ Some h
    → Gives (row.Items (items_row.Compares comparing_row.HashHasValue)) held recv (y ∷ []) block ts v after
    → Compares (codes "==") same_as (value_of (items (pairs held.store h))) (always y) is_true held ts
    (λ k xs us. IsValue k (truth (any_of is_true us)) v after)
value_found held after recv y v h block ts hash run =
    let f = first_of comparing_row.HashHasValue held recv (y ∷ []) block ts v after run in
    let comes = subst (λ (o : Option ObjId). comparing.Of held class.Hash recv o
    (λ x. comparing.ForHash comparing_row.HashHasValue held x (y ∷ []) block f.first) f.first) hash f.starts in
    let name = symbol (codes "==") held in
    let begun = with_symbol (codes "==") held in
    let ps = items (pairs held.store h) in
    let k = reads (seeking_key ps y false) (seeks_key ps y false) name begun 0 (comparing.key_search held h y false) ts v
    after refl (courses name ts v after begun (comparing.key_search held h y false) f.first comes f.runs) in
    record { items = k.items; replies = k.replies; last = k.last; asks = k.asks; result = k.holds }

pub key_found : (held after : Held) (recv y v : Value) (h : ObjId) (block : Option ObjId) (ts : List Turn)
    → a_hash held.store.objects recv ≡ Some h
    → Gives (row.Items (items_row.Compares comparing_row.HashKeyOf)) held recv (y ∷ []) block ts v after
    → Compares (codes "==") same_as (value_of (items (pairs held.store h))) (always y) is_true held ts
    (λ k xs us. length us < 2 ^ 63
    → IsValue k (first_or_nil (picked is_true (keys_of (items (pairs held.store h))) us)) v after)
key_found held after recv y v h block ts hash run =
    let f = first_of comparing_row.HashKeyOf held recv (y ∷ []) block ts v after run in
    let comes = subst (λ (o : Option ObjId). comparing.Of held class.Hash recv o
    (λ x. comparing.ForHash comparing_row.HashKeyOf held x (y ∷ []) block f.first) f.first) hash f.starts in
    let name = symbol (codes "==") held in
    let begun = with_symbol (codes "==") held in
    let ps = items (pairs held.store h) in
    let k = reads (seeking_key ps y true) (seeks_key ps y true) name begun 0 (comparing.key_search held h y true) ts v after
    refl (courses name ts v after begun (comparing.key_search held h y true) f.first comes f.runs) in
    record {
      items = k.items;
      replies = k.replies;
      last = k.last;
      asks = k.asks;
      result = λ less. k.holds (from_zero (length k.replies) less);
    }

-- Where one of them never replies.

pub search_cut : (held : Held) (y : Value) (a : ObjId) (indexed : Bool) (ts : List Turn) (last : Planned Stage)
    (stage : Stage) (first : Planned over_values.Stage) → waiting last.plan ≡ Some stage
    → Begins held (codes "==") (comparing.search a y indexed) first → Runs (lifted first) ts last
    → CutsAsking (codes "==") same_as (element a) (always y) is_true held ts last
search_cut held y a indexed ts last stage first waits begins runs =
    cuts_asking (seeking a y indexed) (seeks a y indexed) (codes "==") held 0 ts last stage first waits refl begins runs

pub index_cut : (held : Held) (recv y : Value) (a : ObjId) (block : Option ObjId) (ts : List Turn) (last : Planned Stage)
    → an_array held.store.objects recv ≡ Some a → IsAbandoned comparing_row.ArrayIndex held recv (y ∷ []) block ts last
    → CutsAsking (codes "==") same_as (element a) (always y) is_true held ts last
index_cut held recv y a block ts last array run =
    let f = opening comparing_row.ArrayIndex held recv (y ∷ []) block ts run.first last run.starts run.runs in
    search_cut held y a true ts last run.stage f.first run.waits (subst (λ (o : Option ObjId). comparing.Of held class.Array recv
    o (λ x. comparing.ForArray comparing_row.ArrayIndex held x (y ∷ []) f.first) f.first) array f.starts) f.runs

pub included_cut : (held : Held) (recv y : Value) (a : ObjId) (block : Option ObjId) (ts : List Turn)
    (last : Planned Stage) → an_array held.store.objects recv ≡ Some a
    → IsAbandoned comparing_row.ArrayIncludes held recv (y ∷ []) block ts last
    → CutsAsking (codes "==") same_as (element a) (always y) is_true held ts last
included_cut held recv y a block ts last array run =
    let f = opening comparing_row.ArrayIncludes held recv (y ∷ []) block ts run.first last run.starts run.runs in
    search_cut held y a false ts last run.stage f.first run.waits (subst (λ (o : Option ObjId). comparing.Of held class.Array
    recv o (λ x. comparing.ForArray comparing_row.ArrayIncludes held x (y ∷ []) f.first) f.first) array f.starts) f.runs

key_search_cut : (held : Held) (y : Value) (h : ObjId) (keyed : Bool) (ts : List Turn) (last : Planned Stage)
    (stage : Stage) (first : Planned over_values.Stage) → waiting last.plan ≡ Some stage
    → Begins held (codes "==") (comparing.key_search held h y keyed) first → Runs (lifted first) ts last
    → CutsAsking (codes "==") same_as (value_of (items (pairs held.store h))) (always y) is_true held ts last
key_search_cut held y h keyed ts last stage first waits begins runs =
    let ps = items (pairs held.store h) in
    cuts_asking (seeking_key ps y keyed) (seeks_key ps y keyed) (codes "==") held 0 ts last stage first waits refl begins runs

pub value_cut : (held : Held) (recv y : Value) (h : ObjId) (block : Option ObjId) (ts : List Turn) (last : Planned Stage)
    → a_hash held.store.objects recv ≡ Some h → IsAbandoned comparing_row.HashHasValue held recv (y ∷ []) block ts last
    → CutsAsking (codes "==") same_as (value_of (items (pairs held.store h))) (always y) is_true held ts last
value_cut held recv y h block ts last hash run =
    let f = opening comparing_row.HashHasValue held recv (y ∷ []) block ts run.first last run.starts run.runs in
    key_search_cut held y h false ts last run.stage f.first run.waits (subst (λ (o : Option ObjId). comparing.Of held class.Hash
    recv o (λ x. comparing.ForHash comparing_row.HashHasValue held x (y ∷ []) block f.first) f.first) hash f.starts) f.runs

pub key_cut : (held : Held) (recv y : Value) (h : ObjId) (block : Option ObjId) (ts : List Turn) (last : Planned Stage)
    → a_hash held.store.objects recv ≡ Some h → IsAbandoned comparing_row.HashKeyOf held recv (y ∷ []) block ts last
    → CutsAsking (codes "==") same_as (value_of (items (pairs held.store h))) (always y) is_true held ts last
key_cut held recv y h block ts last hash run =
    let f = opening comparing_row.HashKeyOf held recv (y ∷ []) block ts run.first last run.starts run.runs in
    key_search_cut held y h true ts last run.stage f.first run.waits (subst (λ (o : Option ObjId). comparing.Of held class.Hash
    recv o (λ x. comparing.ForHash comparing_row.HashKeyOf held x (y ∷ []) block f.first) f.first) hash f.starts) f.runs
