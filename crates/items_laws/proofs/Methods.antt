-- What a method over items gives, by what it makes of each answer.
use Rattle.std.proofs.Common.{◌≡◌, ℕ, refl, sym, ap, subst, ◌∙◌, List, [], ◌∷◌}
use Rattle.std.specs.Prelude.{Bool, true, false, if◌then◌else◌, Option, Some, None, Ok}
use Rattle.rb_value.specs.declared.value.Value.{Value}
use Rattle.rb_value.specs.declared.value.ObjId.{ObjId}
use Rattle.rb_value.specs.declared.value.SymId.{SymId}
use Rattle.heap.specs.declared.finding.Site.{Site}
use Rattle.rb_store.specs.Held.{Held}
use Rattle.core_calls.specs.declared.beat.Passed.{Passed}
use Rattle.core_calls.specs.Passing.{args_of}
use Rattle.iter_items.specs.declared.row.Task.{Task}
use Rattle.iter_items.specs.declared.source.Source.{Source}
use Rattle.iter_items.specs.declared.visit.Visit.{Visit}
use Rattle.iter_items.specs.declared.wish.Wish.{Wish}
use Rattle.iter_items.specs.declared.wish.Wish.TheVariants as wish
use Rattle.iter_items.specs.Sources as sources
use Rattle.iter_items.specs.Asking.{wishes, with_source, ask_of, asked, visited, is_backwards}
use Rattle.iter_items.specs.Checks.{given, arguments}
use Rattle.iter_items.specs.Hearing.{Heard, going, heard, onward}
use Rattle.iter_items.specs.Driving.{Ends, makes_hash, visit_of}
use Rattle.items_laws.specs.Run.{Turn}
use Rattle.items_laws.specs.Items.{Passing, Visits, Iterates, IsRunOf, with_arguments, Whole, Until, answers, call_of, last_heap, left_of}
use Rattle.items_laws.proofs.Course.{Course, Plain, Settled, Keeps, Further, at_item}
use Rattle.items_laws.proofs.Fitted.{fitted, Fits, fits, plain_by}
use Rattle.items_laws.proofs.Begun.{coursed}
use Rattle.items_laws.proofs.Visits.{visits_none, visits_more, visits_last, until_no, until_yes, next_held, previous_held}

-- the next item of a source, or for methods that go backwards the one before
abbrev pub pass_of : Task → Passing
pass_of t = λ held s. if is_backwards t then sources.previous held s else sources.next held s

pub pass_held : (t : Task) (held : Held) (s : Source) → (pass_of t held s).item ≡ None → (pass_of t held s).held ≡ held
pass_held t held s none = held_by (is_backwards t) none
  where
    held_by : (c : Bool) → (if c then sources.previous held s else sources.next held s).item ≡ None
        → (if c then sources.previous held s else sources.next held s).held ≡ held
    held_by true none = previous_held held s none
    held_by false none = next_held held s none

-- what was heard ends the visit with that value, in that heap
pub record Halting (x : Heard) (m : sources.Made) : Type 0 where
  pub visit : Visit
  pub same : x ≡ going (wishes m.held visit (wish.Ends m.value))

-- A method: the values that it calls its block with, the answers at which it stops, what it makes of another answer, what
-- it gives where it stops; the values that the block is called with in all, and what holds of the result and the heaps.
pub record Shape : Type 1 where
  pub task : Task
  pub block : ObjId
  pub values : Option Value → Option Value
  pub names : Option SymId → Option SymId
  pub with_values : Visit → Passed
  pub stops : Value → Bool
  pub step : Held → Visit → Value → Visit
  pub stopped : Held → Visit → sources.Made
  pub calls_with : Visit → List Turn → List Value → List (List Value)
  pub holds : Visit → List Turn → List Value → Value → Held → Held → Type 0

abbrev pub as_it_is : {A : Type 0} → A → A
as_it_is x = x

abbrev pub fit : Shape → Visit → Visit
fit g v = fitted g.task g.block g.values g.names v

pub record Method (g : Shape) : Type 0 where
  pub asks : (held : Held) (v : Visit) → asked held (fit g v) ≡ visited held (fit g v)
  pub calls : (held : Held) (v : Visit) → ask_of g.task held (fit g v) v.item
      ≡ wishes held (fit g v) (wish.Calls (record { callee = g.block; passed = g.with_values (fit g v) }))
  pub ends : (held : Held) (v : Visit) (w : Wish) (u : Visit) (later : Held) → Ends g.task held (fit g v) w u later
      → Settled w
  pub goes : (held : Held) (v : Visit) (a : Value) → g.stops a ≡ false
      → heard held (fit g v) a ≡ onward held (fit g (g.step held v a))
  pub halts : (held : Held) (v : Visit) (a : Value) → g.stops a ≡ true
      → Halting (heard held (fit g v) a) (g.stopped held v)
  pub same_source : (held : Held) (v : Visit) (a : Value) → (g.step held v a).source ≡ v.source
  pub no_args : (v : Visit) → g.calls_with v [] [] ≡ []
  pub more_args : (v : Visit) (p : sources.Passed Source) (site : Site) (n : Turn) (ns : List Turn) (x : Value)
      (xs : List Value) → g.calls_with v (n ∷ ns) (x ∷ xs)
      ≡ args_of (g.with_values (fit g (record (with_source v p) { item = x })))
      ∷ g.calls_with (g.step n.held (at_item v p x site) n.answer) ns xs
  pub last : (held : Held) (v : Visit) (p : sources.Passed Source) (r : Value) (u : Visit) (after : Held)
      → Ends g.task held (fit g (with_source v p)) (wish.Ends r) u after → g.holds v [] [] r after held
  pub stop : (v : Visit) (p : sources.Passed Source) (site : Site) (n : Turn) (x : Value) → g.stops n.answer ≡ true
      → g.holds v (n ∷ []) (x ∷ []) (g.stopped n.held (at_item v p x site)).value
      (g.stopped n.held (at_item v p x site)).held n.held
  pub further : (v : Visit) (p : sources.Passed Source) (site : Site) (n : Turn) (ns : List Turn) (x : Value)
      (xs : List Value) (r : Value) (after h : Held) → g.stops n.answer ≡ false
      → g.holds (g.step n.held (at_item v p x site) n.answer) ns xs r after h → g.holds v (n ∷ ns) (x ∷ xs) r after h

-- It only calls its block.

keeps_by : (g : Shape) (m : Method g) (held : Held) (v : Visit) (a : Value) (c : Bool) → g.stops a ≡ c
    → Keeps (Fits g.task g.block g.values g.names) (heard held (fit g v) a)
keeps_by g m held v a true e = subst (λ (x : Heard). Keeps (Fits g.task g.block g.values g.names) x) (sym (m.halts held v a e).same) tt
keeps_by g m held v a false e = subst (λ (x : Heard). Keeps (Fits g.task g.block g.values g.names) x) (sym (m.goes held v a e))
    (fits g.task g.block g.values g.names (g.step held v a))

pub plain : (g : Shape) (m : Method g) → Plain (Fits g.task g.block g.values g.names) g.block g.with_values
plain g m = plain_by g.task g.block g.values g.names g.with_values m.asks m.calls (λ held v a. keeps_by g m held v a (g.stops a) refl) m.ends

-- The items that it hands on, and what it gives.

abbrev CourseOf : Shape → List Turn → Held → Visit → Value → Held → Type 0
CourseOf g ns held v r after = Course g.block g.with_values ns held v r after

abbrev VisitsOf : Shape → List Turn → Held → Visit → Source → Value → Held → Type 0
VisitsOf g ns held v s r after = Visits (pass_of g.task) held s g.block (Until g.stops) (g.calls_with v ns) ns
    (λ h xs. g.holds v ns xs r after h)

abbrev Recursion : Shape → List Turn → Held → Value → Held → Type 0
Recursion g ns held r after = (v : Visit) → CourseOf g ns held (fit g v) r after → VisitsOf g ns held v v.source r after

abbrev FurtherOf : Shape → List Turn → Value → Held → Heard → Type 0
FurtherOf g ns r after x = Further (λ h w. CourseOf g ns h w r after) ns r after x

-- what a turn hands on
pub record Hands (g : Shape) (held : Held) (v : Visit) (n : Turn) (p : sources.Passed Source) (x : Value) : Type 0 where
  pub there : p.item ≡ Some x
  pub called : call_of n.wanted.plan ≡ Some (g.block, args_of (g.with_values (fit g (record (with_source v p) { item = x }))))
  pub asked : n.wanted.held ≡ p.held

stopping : (g : Shape) (m : Method g) (n : Turn) (ns : List Turn) (held : Held) (v : Visit) (x : Value) (site : Site)
    (r : Value) (after : Held) → Hands g held v n (pass_of g.task held v.source) x
    → g.stops n.answer ≡ true
    → FurtherOf g ns r after (heard n.held (fit g (at_item v (pass_of g.task held v.source) x site)) n.answer)
    → VisitsOf g (n ∷ ns) held v v.source r after
stopping g m n ns held v x site r after hands e further =
    let p = pass_of g.task held v.source in
    let u : Visit = at_item v p x site in
    let made = g.stopped n.held u in
    let end = subst (λ (y : Heard). FurtherOf g ns r after y) (m.halts n.held u n.answer e).same further in
    let no_more : g.calls_with (g.step n.held u n.answer) [] [] ≡ [] = m.no_args (g.step n.held u n.answer) in
    let last : VisitsOf g (n ∷ []) held v v.source made.value made.held =
    visits_last (pass_of g.task) held v.source g.block (Until g.stops) (g.calls_with v (n ∷ [])) n [] x
    (args_of (g.with_values (fit g (record (with_source v p) { item = x }))))
    (λ h xs. g.holds v (n ∷ []) xs made.value made.held h) hands.there hands.called hands.asked refl
    (λ NoneLeft. until_yes g.stops n.answer NoneLeft e)
    (m.more_args v p site n [] x []
    ∙ ap (λ (ys : List (List Value)).
    args_of (g.with_values (fit g (record (with_source v p) { item = x }))) ∷ ys) no_more)
    (m.stop v p site n x e) in
    subst (λ (us : List Turn). VisitsOf g (n ∷ us) held v v.source r after) (sym end.0)
    (subst (λ (y : Value). VisitsOf g (n ∷ []) held v v.source y after) (sym end.1)
    (subst (λ (k : Held). VisitsOf g (n ∷ []) held v v.source made.value k) (sym end.2) last))

going_on : (g : Shape) (m : Method g) (n : Turn) (ns : List Turn) (held : Held) (v : Visit) (x : Value) (site : Site)
    (r : Value) (after : Held) → Recursion g ns n.held r after
    → Hands g held v n (pass_of g.task held v.source) x → g.stops n.answer ≡ false
    → FurtherOf g ns r after (heard n.held (fit g (at_item v (pass_of g.task held v.source) x site)) n.answer)
    → VisitsOf g (n ∷ ns) held v v.source r after
going_on g m n ns held v x site r after rest hands e further =
    let p = pass_of g.task held v.source in
    let u : Visit = at_item v p x site in
    let w = g.step n.held u n.answer in
    let more = rest w (subst (λ (y : Heard). FurtherOf g ns r after y) (m.goes n.held u n.answer e) further) in
    visits_more (pass_of g.task) held v.source g.block (Until g.stops) (g.calls_with v (n ∷ ns)) (g.calls_with w ns) n ns x
    (args_of (g.with_values (fit g (record (with_source v p) { item = x }))))
    (λ h xs. g.holds w ns xs r after h) (λ h xs. g.holds v (n ∷ ns) xs r after h)
    hands.there hands.called hands.asked
    (subst (λ (s : Source). VisitsOf g ns n.held w s r after) (m.same_source n.held u n.answer) more)
    (λ NoneLeft until. until_no g.stops n.answer (answers ns) NoneLeft e until)
    (λ xs. m.more_args v p site n ns x xs)
    (λ h xs holds. m.further v p site n ns x xs r after h e holds)

by_answer : (g : Shape) (m : Method g) (n : Turn) (ns : List Turn) (held : Held) (v : Visit) (x : Value) (site : Site)
    (r : Value) (after : Held) → Recursion g ns n.held r after
    → Hands g held v n (pass_of g.task held v.source) x → (c : Bool) → g.stops n.answer ≡ c
    → FurtherOf g ns r after (heard n.held (fit g (at_item v (pass_of g.task held v.source) x site)) n.answer)
    → VisitsOf g (n ∷ ns) held v v.source r after
by_answer g m n ns held v x site r after rest hands true e further =
    stopping g m n ns held v x site r after hands e further
by_answer g m n ns held v x site r after rest hands false e further =
    going_on g m n ns held v x site r after rest hands e further

pub visits_so : (g : Shape) (m : Method g) (ns : List Turn) (held : Held) (r : Value) (after : Held)
    → Recursion g ns held r after
visits_so g m [] held r after = λ v c.
    let p = pass_of g.task held v.source in
    visits_none (pass_of g.task) held v.source g.block (Until g.stops) (g.calls_with v [])
    (λ h xs. g.holds v [] xs r after h) c.none c.none (m.no_args v)
    (subst (λ (h : Held). g.holds v [] [] r after h) (pass_held g.task held v.source c.none)
    (m.last p.held v p r c.last after c.ends))
visits_so g m (n ∷ ns) held r after = λ v c.
    by_answer g m n ns held v c.item c.site r after (visits_so g m ns n.held r after)
    (record { there = c.there; called = c.called; asked = c.asked }) (g.stops n.answer) refl c.rest

-- the visit at its beginning
abbrev pub first_of_all : Shape → Value → Source → Option Value → Option SymId → ℕ → Visit
first_of_all g recv s value name size = visit_of g.task recv s None (arguments value name size) (Some g.block)

pub iterates_so : (g : Shape) (m : Method g) (held : Held) (recv : Value) (s : Source) (args : List Value)
    (value : Option Value) (name : Option SymId) (size : ℕ) (ns : List Turn) (r : Value) (after : Held)
    → first_of_all g recv s value name size ≡ fit g (first_of_all g recv s value name size)
    → (given g.task held args (Some g.block)).arguments ≡ Ok (arguments value name size)
    → makes_hash g.task s ≡ false
    → IsRunOf g.task held recv s args g.block ns r after
    → Iterates (pass_of g.task) (with_arguments g.task held args g.block) s g.block (Until g.stops)
    (g.calls_with (first_of_all g recv s value name size) ns) ns
    (λ h xs. g.holds (first_of_all g recv s value name size) ns xs r after h)
iterates_so g m held recv s args value name size ns r after fitting read no_hash is =
    let v : Visit = first_of_all g recv s value name size in
    let c = coursed g.task g.block g.values g.names g.with_values held recv s args value name size ns r after (plain g m)
    (record { inner = v; same = fitting }) read no_hash is in
    record {
      begun = c.begun;
      same = c.same;
      visits = visits_so g m ns c.begun r after v
          (subst (λ (u : Visit). CourseOf g ns c.begun u r after) fitting c.course);
    }

-- Methods that never stop.

abbrev pub never : Value → Bool
never a = false

until_never : (us : List Value) (NoneLeft : Type 0) → Until never us NoneLeft → NoneLeft
until_never [] NoneLeft none = none
until_never (a ∷ us) NoneLeft none = until_never us NoneLeft none

pub whole_visits : (pass : Passing) (held : Held) (s : Source) (b : ObjId) (passed : List Value → List (List Value))
    (ns : List Turn) (Result : Held → List Value → Type 0)
    → Visits pass held s b (Until never) passed ns Result → Visits pass held s b Whole passed ns Result
whole_visits pass held s b passed ns Result v = record {
  items = v.items;
  handed = v.handed;
  called = v.called;
  ended = until_never (answers ns) ((pass (last_heap held ns) (left_of pass held s ns)).item ≡ None) v.ended;
  result = v.result;
}

pub whole : (pass : Passing) (held : Held) (s : Source) (b : ObjId) (passed : List Value → List (List Value))
    (ns : List Turn) (Result : Held → List Value → Type 0)
    → Iterates pass held s b (Until never) passed ns Result → Iterates pass held s b Whole passed ns Result
whole pass held s b passed ns Result i = record {
  begun = i.begun;
  same = i.same;
  visits = whole_visits pass i.begun s b passed ns Result i.visits;
}

-- what follows of a result

pub resulting : (pass : Passing) (held : Held) (s : Source) (b : ObjId) (End : List Value → Type 0 → Type 0)
    (passed : List Value → List (List Value)) (ns : List Turn) (One Other : Held → List Value → Type 0)
    → ((h : Held) (xs : List Value) → One h xs → Other h xs)
    → Iterates pass held s b End passed ns One → Iterates pass held s b End passed ns Other
resulting pass held s b End passed ns One Other leads i = record {
  begun = i.begun;
  same = i.same;
  visits = record {
    items = i.visits.items;
    handed = i.visits.handed;
    called = i.visits.called;
    ended = i.visits.ended;
    result = leads (last_heap i.begun ns) i.visits.items i.visits.result;
  };
}

-- what one that never stops gives where it would
abbrev pub nowhere : Held → Visit → sources.Made
nowhere held v = record { value = v.receiver; held = held }
