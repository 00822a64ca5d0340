-- `drop_while`
use Rattle.std.proofs.Common.{◌≡◌, refl, sym, subst, List, [], ◌∷◌}
use Rattle.std.specs.Prelude.{Bool, true, false, not, if◌then◌else◌, Some, None}
use Rattle.rb_value.specs.declared.value.Value.{Value}
use Rattle.rb_value.specs.declared.value.ObjId.{ObjId}
use Rattle.rb_value.specs.Value.{is_true}
use Rattle.rb_store.specs.Held.{Held}
use Rattle.heap.specs.Made.{array_given, with_array}
use Rattle.iter_items.specs.declared.row.Task.TheVariants as task
use Rattle.iter_items.specs.declared.source.Source.{Source}
use Rattle.iter_items.specs.declared.visit.Visit.{Visit}
use Rattle.iter_items.specs.Checks.{arguments}
use Rattle.iter_items.specs.Driving.{visit_of}
use Rattle.iter_items.specs.Hearing.{Heard, onward, take_rest}
use Rattle.iter_items.specs.Sources.{next}
use Rattle.items_laws.specs.Run.{Turn}
use Rattle.items_laws.specs.Items.{Visits, IsRunOf, IsArrayOf, Until, answers, call_of, left_of}
use Rattle.items_laws.specs.Lists.{alone, is_untrue}
use Rattle.items_laws.specs.Dropped.{rest_of, DroppedBy, IsDropped, DropsOn}
use Rattle.items_laws.proofs.Begun.{coursed}
use Rattle.items_laws.proofs.Course.{Course, Plain, Keeps, Further, at_item}
use Rattle.items_laws.proofs.Fitted.{fitted, Fits, fits, plain_by}
use Rattle.items_laws.proofs.Methods.{as_it_is}
use Rattle.items_laws.proofs.Visits.{one, visits_none, visits_more, visits_last, until_no, until_yes, next_held, settled_by, array_by}

-- nothing is kept before the first answer that isn't true

abbrev nothing_kept : ObjId → Visit → Visit
nothing_kept b v = fitted task.DropWhile b as_it_is as_it_is (record v { kept = [] })

abbrev pub heard_if : Held → Visit → Bool → Heard
heard_if held v c = if c then onward held v else take_rest held v

keeps_if : (b : ObjId) (held : Held) (v : Visit) (c : Bool)
    → Keeps (Fits task.DropWhile b as_it_is as_it_is) (heard_if held (fitted task.DropWhile b as_it_is as_it_is v) c)
keeps_if b held v true = fits task.DropWhile b as_it_is as_it_is v
keeps_if b held v false = tt

pub drops : (b : ObjId) → Plain (Fits task.DropWhile b as_it_is as_it_is) b one
drops b = plain_by task.DropWhile b as_it_is as_it_is one (λ held v. refl) (λ held v. refl)
    (λ held v a. keeps_if b held v (is_true a))
    (λ held v w u later e. settled_by (with_array held v.kept) later
    (record (fitted task.DropWhile b as_it_is as_it_is v) { kept = [] }) u (array_given held.store v.kept) w e)

untrue_if : (c : Bool) → c ≡ false → not c ≡ true
untrue_if true e = absurd (cc)
untrue_if false e = refl

true_if : (c : Bool) → c ≡ true → not c ≡ false
true_if true e = refl
true_if false e = absurd (cc)

abbrev DropRest : ObjId → List Turn → Held → Value → Held → Type 0
DropRest b ts held r after = (v : Visit) → Course b one ts held (nothing_kept b v) r after
    → Visits next held v.source b (Until is_untrue) alone ts
    (λ h items. IsDropped (left_of next held v.source ts) items (answers ts) r after h)

drop_turn : (b : ObjId) (t : Turn) (ts : List Turn) (held : Held) (v u : Visit) (item r : Value) (after : Held)
    (c : Bool) → is_true t.answer ≡ c → u.source ≡ (next held v.source).source → u.item ≡ item
    → (next held v.source).item ≡ Some item
    → call_of t.wanted.plan ≡ Some (b, item ∷ []) → t.wanted.held ≡ (next held v.source).held
    → DropRest b ts t.held r after
    → Further (λ h w. Course b one ts h w r after) ts r after (heard_if t.held (nothing_kept b u) c)
    → Visits next held v.source b (Until is_untrue) alone (t ∷ ts)
    (λ h items. IsDropped (left_of next held v.source (t ∷ ts)) items (answers (t ∷ ts)) r after h)
drop_turn b t ts held v u item r after true is source same there called asked rest c =
    let s : Source = (next held v.source).source in
    visits_more next held v.source b (Until is_untrue) alone alone t ts item (item ∷ [])
    (λ h items. IsDropped (left_of next t.held s ts) items (answers ts) r after h)
    (λ h items. IsDropped (left_of next t.held s ts) items (t.answer ∷ answers ts) r after h) there called asked
    (subst (λ (x : Source). Visits next t.held x b (Until is_untrue) alone ts
    (λ h items. IsDropped (left_of next t.held x ts) items (answers ts) r after h)) source (rest u c))
    (λ NoneLeft e. until_no is_untrue t.answer (answers ts) NoneLeft (true_if (is_true t.answer) is) e) (λ xs. refl)
    (λ h xs dropped. further h xs dropped)
  where
    further : (h : Held) (xs : List Value)
        → IsDropped (left_of next t.held (next held v.source).source ts) xs (answers ts) r after h
        → IsDropped (left_of next t.held (next held v.source).source ts) (item ∷ xs) (t.answer ∷ answers ts) r after h
    further h xs dropped = subst (λ (c : Bool). DroppedBy c h (left_of next t.held (next held v.source).source ts) item r after
        (IsDropped (left_of next t.held (next held v.source).source ts) xs (answers ts) r after h)) (sym is) dropped
drop_turn b t ts held v u item r after false is source same there called asked rest c =
    let s : Source = (next held v.source).source in
    let result : IsArrayOf (rest_of t.held s).held (item ∷ (rest_of t.held s).items) r after =
    subst (λ (x : Value). IsArrayOf (rest_of t.held s).held (x ∷ (rest_of t.held s).items) r after) same
    (subst (λ (z : Source). IsArrayOf (rest_of t.held z).held (u.item ∷ (rest_of t.held z).items) r after) source
    (record { value = c.1; left = c.2 })) in
    subst (λ (us : List Turn). Visits next held v.source b (Until is_untrue) alone (t ∷ us)
    (λ h items. IsDropped (left_of next held v.source (t ∷ us)) items (answers (t ∷ us)) r after h)) (sym c.0)
    (visits_last next held v.source b (Until is_untrue) alone t [] item (item ∷ [])
    (λ h items. IsDropped s items (t.answer ∷ []) r after h) there called asked refl
    (λ NoneLeft. until_yes is_untrue t.answer NoneLeft (untrue_if (is_true t.answer) is)) refl
    (ends_so result))
  where
    ends_so : IsArrayOf (rest_of t.held (next held v.source).source).held
        (item ∷ (rest_of t.held (next held v.source).source).items) r after
        → IsDropped (next held v.source).source (item ∷ []) (t.answer ∷ []) r after t.held
    ends_so is_rest = subst (λ (c : Bool). DroppedBy c t.held (next held v.source).source item r after
        (IsDropped (next held v.source).source [] [] r after t.held)) (sym is) is_rest

drop_course : (b : ObjId) (ts : List Turn) (held : Held) (r : Value) (after : Held) → DropRest b ts held r after
drop_course b [] held r after = λ v c.
    let s : Source = (next held v.source).source in
    visits_none next held v.source b (Until is_untrue) alone
    (λ h items. IsDropped (left_of next held v.source []) items [] r after h) c.none c.none refl
    (subst (λ (h : Held). IsArrayOf h [] r after) (next_held held v.source c.none)
    (array_by (next held v.source).held after (record (nothing_kept b v) { source = s; kept = [] }) c.last [] r c.ends))
drop_course b (t ∷ ts) held r after = λ v c.
    drop_turn b t ts held v (at_item (record v { kept = [] }) (next held v.source) c.item c.site) c.item r after
    (is_true t.answer) refl refl refl c.there c.called c.asked (drop_course b ts t.held r after) c.rest

pub dropped : (held after : Held) (recv v : Value) (s : Source) (b : ObjId) (ts : List Turn)
    → IsRunOf task.DropWhile held recv s [] b ts v after → DropsOn held s b ts v after
dropped held after recv v s b ts is =
    let u : Visit = visit_of task.DropWhile recv s None (arguments None None 0) (Some b) in
    let c = coursed task.DropWhile b as_it_is as_it_is one held recv s [] None None 0 ts v after (drops b)
    (record { inner = u; same = refl }) refl refl is in
    record { begun = c.begun; same = c.same; visits = drop_course b ts c.begun v after u c.course }
