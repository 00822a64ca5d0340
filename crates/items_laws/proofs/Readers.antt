-- Works that ask the values at one place after another.
use Rattle.std.proofs.Common.{◌≡◌, ℕ, refl, sym, ap, subst, ◌∙◌, List, [], ◌∷◌, ◌++◌}
use Rattle.std.specs.Prelude.{Bool, true, false, Option, Some, None}
use Rattle.rb_value.specs.declared.value.Value.{Value}
use Rattle.rb_value.specs.declared.value.SymId.{SymId}
use Rattle.rb_store.specs.Held.{Held, one_more}
use Rattle.def_core.specs.Store.{Store}
use Rattle.iter_comparing.specs.declared.questions.Question.TheVariants.{Ends, Asks as AsksFor}
use Rattle.iter_comparing.specs.declared.state.Work.{Work}
use Rattle.iter_comparing.specs.Asking.{question, hear, args_of, is_known}
use Rattle.iter_comparing.specs.Questions.{Asked, Heard, asked, compare, goes_on}
use Rattle.items_laws.specs.Run.{Turn}
use Rattle.items_laws.specs.Asked.{Replies, Asks, none_left, last_asked, one_asked, by_place}
use Rattle.items_laws.proofs.Small.{none_some}
use Rattle.items_laws.proofs.Working.{Course, at_end, last_reply, one_reply}

-- A work by what it keeps: the work before it asks, and while it waits; what a reply makes of what it keeps; which values it
-- asks with which, and when it knows the reply; where it stops; and what holds of the result in the last heap.
pub record Reader (S : Type 0) : Type 1 where
  pub work : S → Work
  pub busy : S → Value → Work
  pub place : S → ℕ
  pub step : S → Value → Value → S
  pub known : Value → Value → Bool
  pub item : Held → ℕ → Option Value
  pub other : Held → ℕ → Value
  pub stops : Value → Bool
  pub holds : S → List Value → List Value → Value → Held → Held → Type 0

pub record Reading {S : Type 0} (g : Reader S) : Type 0 where
  pub places : (s : S) (x a : Value) → g.place (g.step s x a) ≡ one_more (g.place s)
  pub asks : (held : Held) (s : S) (x : Value) → g.item held (g.place s) ≡ Some x
      → question held (g.work s) ≡ asked held (g.busy s x) (compare x (g.other held (g.place s)))
  pub knows : (s : S) (x y : Value) → is_known (g.busy s x) x (Some y) ≡ g.known x y
  pub goes : (st : Store) (s : S) (x a : Value) → g.stops a ≡ false
      → hear st (g.busy s x) a ≡ goes_on (g.work (g.step s x a))
  pub halts : (st : Store) (s : S) (x a : Value) → g.stops a ≡ true → (hear st (g.busy s x) a).ends ≡ None → ⊥
  pub stop : (held : Held) (s : S) (x a r : Value) (k : Held) → g.item held (g.place s) ≡ Some x → g.stops a ≡ true
      → (hear k.store (g.busy s x) a).ends ≡ Some r → g.holds s (x ∷ []) (a ∷ []) r k k
  pub ends : (held : Held) (s : S) (r : Value) → g.item held (g.place s) ≡ None
      → (question held (g.work s)).question ≡ Ends r → g.holds s [] [] r held (question held (g.work s)).held
  pub unasked : (held : Held) (s : S) (x : Value) (arg : Option Value) → g.item held (g.place s) ≡ None
      → (question held (g.work s)).question ≡ AsksFor x arg → ⊥
  pub further : (held : Held) (s : S) (x a : Value) (xs us : List Value) (r : Value) (h after : Held)
      → g.item held (g.place s) ≡ Some x → g.stops a ≡ false → g.holds (g.step s x a) xs us r h after → g.holds s (x ∷ xs) (a ∷ us) r h after

-- the values that it asked, and what came of them
pub record Read {S : Type 0} (g : Reader S) (name : SymId) (held : Held) (s : S) (ts : List Turn) (r : Value) (after : Held)
    : Type 0 where
  pub items : List Value
  pub replies : List Value
  pub last : Held
  pub asks : Asks g.known name (by_place g.item) g.other g.stops held (g.place s) ts items replies last
  pub holds : g.holds s items replies r last after

-- What is asked is the value at the place.

pub not_ends : (x r : Value) (arg : Option Value) → AsksFor x arg ≡ Ends r → ⊥
not_ends x r arg e = cc

pub receiver_same : (x y : Value) (o p : Option Value) → AsksFor x o ≡ AsksFor y p → x ≡ y
receiver_same x y o p e = cc

pub argument_same : (x y : Value) (o p : Option Value) → AsksFor x o ≡ AsksFor y p → o ≡ p
argument_same x y o p e = cc

abbrev pub asking : {S : Type 0} → Reader S → Held → S → Value → Asked Work
asking g held s x = asked held (g.busy s x) (compare x (g.other held (g.place s)))

pub reply_seen : {S : Type 0} (g : Reader S) (m : Reading g) (name : SymId) (held k : Held) (s : S) (w : Work) (x y a : Value)
    (arg : Option Value) (us : List Turn) → question held w ≡ asking g held s x
    → (question held w).question ≡ AsksFor y arg
    → Replies (is_known (question held w).work y arg) name (question held w).held y (args_of arg) us a k
    → Replies (g.known x (g.other held (g.place s))) name held x (g.other held (g.place s) ∷ []) us a k
reply_seen g m name held k s w x y a arg us seen is replies =
    let z = g.other held (g.place s) in
    let same = sym (ap (λ (q : Asked Work). q.question) seen) ∙ is in
    let one = subst (λ (q : Asked Work). Replies (is_known q.work y arg) name q.held y (args_of arg) us a k) seen replies in
    let two = subst (λ (o : Option Value). Replies (is_known (g.busy s x) y o) name held y (args_of o) us a k)
    (sym (argument_same x y (Some z) arg same)) one in
    let three = subst (λ (u : Value). Replies (is_known (g.busy s x) u (Some z)) name held u (z ∷ []) us a k)
    (sym (receiver_same x y (Some z) arg same)) two in
    subst (λ (c : Bool). Replies c name held x (z ∷ []) us a k) (m.knows s x z) three

-- The end.

read_end : {S : Type 0} (g : Reader S) (m : Reading g) (name : SymId) (held : Held) (s : S) (w : Work) (r : Value)
    (o : Option Value) → w ≡ g.work s → g.item held (g.place s) ≡ o → (question held w).question ≡ Ends r
    → Read g name held s [] r (question held w).held
read_end g m name held s w r None same there is = record {
  items = [];
  replies = [];
  last = held;
  asks = none_left held (g.place s) there;
  holds = subst (λ (u : Work). g.holds s [] [] r held (question held u).held) (sym same)
      (m.ends held s r there (ap (λ (u : Work). (question held u).question) (sym same) ∙ is));
}
read_end g m name held s w r (Some x) same there is =
    let seen = ap (λ (u : Work). question held u) same ∙ m.asks held s x there in
    absurd (not_ends x r (Some (g.other held (g.place s))) (sym (ap (λ (q : Asked Work). q.question) seen) ∙ is))

-- A reply that ends the work.

read_stop : {S : Type 0} (g : Reader S) (m : Reading g) (name : SymId) (held k : Held) (s : S) (x a r : Value)
    (us : List Turn) (c : Bool) → g.stops a ≡ c → g.item held (g.place s) ≡ Some x
    → Replies (g.known x (g.other held (g.place s))) name held x (g.other held (g.place s) ∷ []) us a k
    → (hear k.store (g.busy s x) a).ends ≡ Some r → Read g name held s us r k
read_stop g m name held k s x a r us true stops there replies ends = record {
  items = x ∷ [];
  replies = a ∷ [];
  last = k;
  asks = last_asked held k (g.place s) x a us there replies stops;
  holds = m.stop held s x a r k there stops ends;
}
read_stop g m name held k s x a r us false stops there replies ends =
    absurd (none_some r (ap (λ (h : Heard Work). h.ends) (sym (m.goes k.store s x a stops)) ∙ ends))

read_last : {S : Type 0} (g : Reader S) (m : Reading g) (name : SymId) (held k : Held) (s : S) (w : Work) (y a r : Value)
    (arg : Option Value) (us : List Turn) (o : Option Value) → w ≡ g.work s → g.item held (g.place s) ≡ o
    → (question held w).question ≡ AsksFor y arg
    → Replies (is_known (question held w).work y arg) name (question held w).held y (args_of arg) us a k
    → (hear k.store (question held w).work a).ends ≡ Some r → Read g name held s us r k
read_last g m name held k s w y a r arg us None same there is replies ends =
    absurd (m.unasked held s y arg there (ap (λ (u : Work). (question held u).question) (sym same) ∙ is))
read_last g m name held k s w y a r arg us (Some x) same there is replies ends =
    let seen = ap (λ (u : Work). question held u) same ∙ m.asks held s x there in
    read_stop g m name held k s x a r us (g.stops a) refl there (reply_seen g m name held k s w x y a arg us seen is replies)
    (subst (λ (q : Asked Work). (hear k.store q.work a).ends ≡ Some r) seen ends)

-- One that doesn't.

read_on : {S : Type 0} (g : Reader S) (m : Reading g) (name : SymId) (held k : Held) (s : S) (x a r : Value)
    (us ts : List Turn) (after : Held) (c : Bool) → g.stops a ≡ c → g.item held (g.place s) ≡ Some x
    → Replies (g.known x (g.other held (g.place s))) name held x (g.other held (g.place s) ∷ []) us a k
    → (hear k.store (g.busy s x) a).ends ≡ None
    → (g.stops a ≡ false → Read g name k (g.step s x a) ts r after) → Read g name held s (us ++ ts) r after
read_on g m name held k s x a r us ts after true stops there replies ends rest =
    absurd (m.halts k.store s x a stops ends)
read_on g m name held k s x a r us ts after false stops there replies ends rest =
    let more = rest stops in
    record {
      items = x ∷ more.items;
      replies = a ∷ more.replies;
      last = more.last;
      asks = one_asked held k more.last (g.place s) x a us ts more.items more.replies there replies stops
          (subst (λ (n : ℕ). Asks g.known name (by_place g.item) g.other g.stops k n ts more.items more.replies more.last)
          (m.places s x a) more.asks);
      holds = m.further held s x a more.items more.replies r more.last after there stops more.holds;
    }

read_more : {S : Type 0} (g : Reader S) (m : Reading g) (name : SymId) (held k : Held) (s : S) (w : Work) (y a r : Value)
    (arg : Option Value) (us ts : List Turn) (after : Held) (o : Option Value) → w ≡ g.work s
    → g.item held (g.place s) ≡ o → (question held w).question ≡ AsksFor y arg
    → Replies (is_known (question held w).work y arg) name (question held w).held y (args_of arg) us a k
    → (hear k.store (question held w).work a).ends ≡ None
    → ((u : S) → (hear k.store (question held w).work a).work ≡ g.work u → Read g name k u ts r after)
    → Read g name held s (us ++ ts) r after
read_more g m name held k s w y a r arg us ts after None same there is replies ends rest =
    absurd (m.unasked held s y arg there (ap (λ (u : Work). (question held u).question) (sym same) ∙ is))
read_more g m name held k s w y a r arg us ts after (Some x) same there is replies ends rest =
    let seen = ap (λ (u : Work). question held u) same ∙ m.asks held s x there in
    read_on g m name held k s x a r us ts after (g.stops a) refl there
    (reply_seen g m name held k s w x y a arg us seen is replies)
    (subst (λ (q : Asked Work). (hear k.store q.work a).ends ≡ None) seen ends)
    (λ goes. rest (g.step s x a) (ap (λ (q : Asked Work). (hear k.store q.work a).work) seen
    ∙ ap (λ (h : Heard Work). h.work) (m.goes k.store s x a goes)))

pub reads : {S : Type 0} (g : Reader S) (m : Reading g) (name : SymId) (held : Held) (s : S) (w : Work) (ts : List Turn)
    (r : Value) (after : Held) → w ≡ g.work s → Course name held w ts r after → Read g name held s ts r after
reads g m name held s w ts r after same (at_end h u x is) = read_end g m name h s u x (g.item h (g.place s)) same refl is
reads g m name held s w ts r after same (last_reply h k u y a x arg us is replies ends) =
    read_last g m name h k s u y a x arg us (g.item h (g.place s)) same refl is replies ends
reads g m name held s w ts r after same (one_reply h k l u y a x arg us vs is replies ends rest) =
    read_more g m name h k s u y a x arg us vs l (g.item h (g.place s)) same refl is replies ends
    (λ z e. reads g m name k z (hear k.store (question h u).work a).work vs x l e rest)
