-- `delete` of an Array.
use Rattle.std.proofs.Common.{◌≡◌, ℕ, refl, sym, ap, subst, ◌∙◌, List, [], ◌∷◌, ◌++◌, append_assoc, append-nil}
use Rattle.std.specs.Prelude.{codes, not, Bool, true, false, if◌then◌else◌, Option, Some, None}
use Rattle.rb_value.specs.declared.value.Value.{Value}
use Rattle.rb_value.specs.declared.value.Value.TheVariants.{Nil}
use Rattle.rb_value.specs.declared.value.ObjId.{ObjId}
use Rattle.rb_value.specs.declared.core_class.CoreClass.TheVariants as class
use Rattle.rb_value.specs.Value.{is_true}
use Rattle.def_calls.specs.Views.{an_array}
use Rattle.heap.specs.Changes.{with_elements}
use Rattle.rb_store.specs.Held.{Held, one_more}
use Rattle.iter_comparing.specs.declared.questions.Question.TheVariants.{Ends}
use Rattle.iter_comparing.specs.declared.removing.Removing.{Removing}
use Rattle.iter_comparing.specs.declared.row.ComparingRow.TheVariants as comparing_row
use Rattle.iter_comparing.specs.declared.state.Work.{Work}
use Rattle.iter_comparing.specs.declared.state.Work.TheVariants as work
use Rattle.iter_comparing.specs.Asking.{asked_as}
use Rattle.iter_comparing.specs.Ordering.{same_value}
use Rattle.iter_comparing.specs.Questions.{Asked, goes_on}
use Rattle.iter_comparing.specs.Removing as removing
use Rattle.iter_comparing.specs.Rows as comparing
use Rattle.def_plans.specs.Plan.{Planned}
use Rattle.iter_items.specs.declared.row.ItemsRow.TheVariants as items_row
use Rattle.run_rows.specs.declared.row.StarRow.TheVariants as row
use Rattle.core_iter.specs.Stage.{Stage}
use Rattle.items_laws.specs.Run.{Turn, Gives}
use Rattle.items_laws.specs.Lists.{is_untrue, picked}
use Rattle.items_laws.specs.Asked.{always, never, symbol, with_symbol}
use Rattle.items_laws.specs.CutAsked.{CutsAsking, IsAbandoned}
use Rattle.items_laws.specs.Compared.{Compares, Deletes, DeletesThose, element, same_as}
use Rattle.items_laws.proofs.Found.{ends_same, no_question}
use Rattle.items_laws.proofs.Readers.{Reader, Reading, reads}
use Rattle.items_laws.proofs.Small.{and_true}
use Rattle.items_laws.proofs.Sent.{first_of, opening}
use Rattle.items_laws.proofs.Unended.{cuts_asking}
use Rattle.items_laws.proofs.Working.{courses}

-- what it keeps: the place, the element that was asked last, those that stay, and the last that is taken away
record Keeping : Type 0 where
  place : ℕ
  asked_last : Value
  staying : List Value
  taken : Option Value

abbrev removal_at : ObjId → Value → Keeping → Removing
removal_at a y s =
    record { array = a; wanted = y; place = s.place; asked = s.asked_last; kept = s.staying; taken = s.taken }

abbrev asking_for : Keeping → Value → Keeping
asking_for s x = record s { asked_last = x }

abbrev taken_away : Keeping → Value → Keeping
taken_away s x = record { place = one_more s.place; asked_last = x; staying = s.staying; taken = Some x }

abbrev kept_back : Keeping → Value → Keeping
kept_back s x = record { place = one_more s.place; asked_last = x; staying = s.staying ++ x ∷ []; taken = s.taken }

abbrev step_if : Bool → Keeping → Value → Keeping
step_if c s x = if c then taken_away s x else kept_back s x

-- those that are taken away, with the last of those before
abbrev with_taken : Option Value → List Value → List Value
with_taken None xs = xs
with_taken (Some x) xs = x ∷ xs

abbrev IsRemoved : ObjId → Keeping → List Value → List Value → Value → Held → Held → Type 0
IsRemoved a s xs us r h after = DeletesThose a h (with_taken s.taken (picked is_true xs us))
    (s.staying ++ picked is_untrue xs us) r after

abbrev removing_from : ObjId → Value → Reader Keeping
removing_from a y = record {
  work = λ s. work.Removes (removal_at a y s);
  busy = λ s x. work.Removes (removal_at a y (asking_for s x));
  place = λ s. s.place;
  step = λ s x u. step_if (is_true u) s x;
  known = same_as;
  item = element a;
  other = always y;
  stops = never;
  holds = λ s xs us r h after. IsRemoved a s xs us r h after;
}

place_by : (c : Bool) (s : Keeping) (x : Value) → (step_if c s x).place ≡ one_more s.place
place_by true s x = refl
place_by false s x = refl

abbrev heard_if : Bool → Removing → Removing
heard_if c w = if c then record w { taken = Some w.asked; place = one_more w.place }
    else record w { kept = w.kept ++ w.asked ∷ []; place = one_more w.place }

goes_by : (a : ObjId) (y : Value) (s : Keeping) (x : Value) (c : Bool)
    → goes_on (work.Removes (heard_if c (removal_at a y (asking_for s x))))
    ≡ goes_on (work.Removes (removal_at a y (step_if c s x)))
goes_by a y s x true = refl
goes_by a y s x false = refl

-- the end

abbrev question_at : ObjId → Value → Keeping → Held → Option Value → Asked Work
question_at a y s held o = asked_as work.Removes (removing.question_at held (removal_at a y s) o)

abbrev ended_at : ObjId → Value → Keeping → Held → Option Value → Asked Work
ended_at a y s held o = asked_as work.Removes (removing.ended held (removal_at a y s) o)

abbrev value_at_end : Option Value → Value
value_at_end None = Nil
value_at_end (Some v) = v

end_value : (a : ObjId) (y : Value) (s : Keeping) (held : Held) (o : Option Value)
    → (ended_at a y s held o).question ≡ Ends (value_at_end o)
end_value a y s held None = refl
end_value a y s held (Some v) = refl

removed_end : (a : ObjId) (y : Value) (s : Keeping) (held : Held) (r : Value) (o : Option Value) → value_at_end o ≡ r
    → DeletesThose a held (with_taken o []) (s.staying ++ []) r (ended_at a y s held o).held
removed_end a y s held r None is = record { value = sym is; left = refl }
removed_end a y s held r (Some v) is =
    (sym is, ap (λ (xs : List Value). with_elements held a xs) (sym (append-nil s.staying)))

-- one more

taken_first : (a : ObjId) (h : Held) (o : Option Value) (x : Value) (xs others : List Value) (r : Value) (after : Held)
    → DeletesThose a h (x ∷ xs) others r after → DeletesThose a h (with_taken o (x ∷ xs)) others r after
taken_first a h None x xs others r after is = is
taken_first a h (Some t) x xs others r after is = is

picked_yes : (test : Value → Bool) (x u : Value) (xs us : List Value) → test u ≡ true
    → picked test (x ∷ xs) (u ∷ us) ≡ x ∷ picked test xs us
picked_yes test x u xs us so = ap (λ (c : Bool). if c then x ∷ picked test xs us else picked test xs us) so

picked_no : (test : Value → Bool) (x u : Value) (xs us : List Value) → test u ≡ false
    → picked test (x ∷ xs) (u ∷ us) ≡ picked test xs us
picked_no test x u xs us not_so = ap (λ (c : Bool). if c then x ∷ picked test xs us else picked test xs us) not_so

removed_on : (a : ObjId) (s : Keeping) (x u : Value) (xs us : List Value) (r : Value) (h after : Held) (c : Bool)
    → is_true u ≡ c → IsRemoved a (step_if c s x) xs us r h after → IsRemoved a s (x ∷ xs) (u ∷ us) r h after
removed_on a s x u xs us r h after true so is =
    subst (λ (l : List Value). DeletesThose a h (with_taken s.taken l) (s.staying ++ picked is_untrue (x ∷ xs) (u ∷ us)) r
    after) (sym (picked_yes is_true x u xs us so))
    (subst (λ (l : List Value). DeletesThose a h (with_taken s.taken (x ∷ picked is_true xs us)) (s.staying ++ l) r after)
    (sym (picked_no is_untrue x u xs us (ap (λ (b : Bool). not b) so)))
    (taken_first a h s.taken x (picked is_true xs us) (s.staying ++ picked is_untrue xs us) r after is))
removed_on a s x u xs us r h after false not_so is =
    subst (λ (l : List Value). DeletesThose a h (with_taken s.taken l) (s.staying ++ picked is_untrue (x ∷ xs) (u ∷ us)) r
    after) (sym (picked_no is_true x u xs us not_so))
    (subst (λ (l : List Value). DeletesThose a h (with_taken s.taken (picked is_true xs us)) l r after)
    (append_assoc s.staying (x ∷ []) (picked is_untrue xs us)
    ∙ ap (λ (l : List Value). s.staying ++ l) (sym (picked_yes is_untrue x u xs us (ap (λ (b : Bool). not b) not_so)))) is)

removes : (a : ObjId) (y : Value) → Reading (removing_from a y)
removes a y = record {
  places = λ s x u. place_by (is_true u) s x;
  asks = λ held s x there. ap (λ (o : Option Value). question_at a y s held o) there;
  knows = λ s x z. and_true (same_value z x);
  goes = λ st s x u not_so. goes_by a y s x (is_true u);
  halts = λ st s x u so none. absurd (cc);
  stop = λ held s x u r k there so ends. absurd (cc);
  ends = λ held s r there is.
      let same = ap (λ (o : Option Value). question_at a y s held o) there in
      subst (λ (q : Asked Work). IsRemoved a s [] [] r held q.held) (sym same)
      (removed_end a y s held r s.taken (ends_same (value_at_end s.taken) r (sym (end_value a y s held s.taken)
      ∙ ap (λ (q : Asked Work). q.question) (sym same) ∙ is)));
  unasked = λ held s x arg there is.
      let same = ap (λ (o : Option Value). question_at a y s held o) there in
      no_question (value_at_end s.taken) x arg (sym (end_value a y s held s.taken)
      ∙ ap (λ (q : Asked Work). q.question) (sym same) ∙ is);
  further = λ held s x u xs us r h after there not_so is. removed_on a s x u xs us r h after (is_true u) refl is;
}

abbrev at_first : Keeping
at_first = record { place = 0; asked_last = Nil; staying = []; taken = None }

pub deleted : (held after : Held) (recv y v : Value) (a : ObjId) (block : Option ObjId) (ts : List Turn)
    → an_array held.store.objects recv ≡ Some a
    → Gives (row.Items (items_row.Compares comparing_row.ArrayDelete)) held recv (y ∷ []) block ts v after
    → Compares (codes "==") same_as (element a) (always y) never held ts (λ h xs us. Deletes a h xs us v after)
deleted held after recv y v a block ts array run =
    let f = first_of comparing_row.ArrayDelete held recv (y ∷ []) block ts v after run in
    let comes = subst (λ (o : Option ObjId). comparing.Of held class.Array recv o
    (λ x. comparing.ForArray comparing_row.ArrayDelete held x (y ∷ []) f.first) f.first) array f.starts in
    let name = symbol (codes "==") held in
    let begun = with_symbol (codes "==") held in
    let k = reads (removing_from a y) (removes a y) name begun at_first (comparing.removal a y) ts v after refl
    (courses name ts v after begun (comparing.removal a y) f.first comes f.runs) in
    record { items = k.items; replies = k.replies; last = k.last; asks = k.asks; result = k.holds }

-- where one of them never replies
pub deleting_cut : (held : Held) (recv y : Value) (a : ObjId) (block : Option ObjId) (ts : List Turn)
    (last : Planned Stage) → an_array held.store.objects recv ≡ Some a
    → IsAbandoned comparing_row.ArrayDelete held recv (y ∷ []) block ts last
    → CutsAsking (codes "==") same_as (element a) (always y) never held ts last
deleting_cut held recv y a block ts last array run =
    let f = opening comparing_row.ArrayDelete held recv (y ∷ []) block ts run.first last run.starts run.runs in
    cuts_asking (removing_from a y) (removes a y) (codes "==") held at_first ts last run.stage f.first run.waits refl
    (subst (λ (o : Option ObjId). comparing.Of held class.Array recv o
    (λ x. comparing.ForArray comparing_row.ArrayDelete held x (y ∷ []) f.first) f.first) array f.starts) f.runs
