-- Works that ask values again and again, over the turns of a run.
use Rattle.std.proofs.Common.{◌≡◌, refl, sym, ap, subst, List, [], ◌∷◌, ◌++◌, append-nil}
use Rattle.std.specs.Prelude.{true, Option, Some, None}
use Rattle.rb_value.specs.declared.value.Value.{Value}
use Rattle.rb_value.specs.declared.value.Value.TheVariants.{Nil}
use Rattle.rb_value.specs.declared.value.SymId.{SymId}
use Rattle.rb_store.specs.Held.{Held}
use Rattle.def_core.specs.Store.{Store}
use Rattle.run_values.specs.declared.given.Given.{Given}
use Rattle.run_values.specs.declared.given.Given.TheVariants.{Gives as GivesValue}
use Rattle.def_plans.specs.Plan.{Planned, gives}
use Rattle.iter_comparing.specs.declared.questions.Question.{Question}
use Rattle.iter_comparing.specs.declared.questions.Question.TheVariants.{Ends, Fails, Asks}
use Rattle.iter_comparing.specs.declared.state.Work.{Work}
use Rattle.iter_comparing.specs.Asking.{question, hear, args_of, is_known, told_by, sending, stopped_by, knows_by, Comes, stops, asks_nil, raises_at_once, ends_at_once, goes_on_at_once, GoesOnBy}
use Rattle.iter_comparing.specs.Stage as over_values
use Rattle.items_laws.specs.Run.{Turn, Runs}
use Rattle.items_laws.specs.Asked.{Replies, nil_asked, asked}
use Rattle.items_laws.specs.Sums.{send_of}
use Rattle.items_laws.proofs.Asking.{told_at}
use Rattle.items_laws.proofs.Course.{given, refused}
use Rattle.items_laws.proofs.Sent.{lifted, sent}
use Rattle.items_laws.proofs.Small.{none_some, not_cons, tail_same}
use Rattle.items_laws.proofs.Summed.{raised}

-- what a work asks, hears and gives
pub data Course (name : SymId) : Held → Work → List Turn → Value → Held → Type 0 where
  at_end : (held : Held) (w : Work) (r : Value) → (question held w).question ≡ Ends r
      → Course name held w [] r (question held w).held
  last_reply : (held k : Held) (w : Work) (x a r : Value) (arg : Option Value) (ts : List Turn)
      → (question held w).question ≡ Asks x arg
      → Replies (is_known (question held w).work x arg) name (question held w).held x (args_of arg) ts a k
      → (hear k.store (question held w).work a).ends ≡ Some r → Course name held w ts r k
  one_reply : (held k after : Held) (w : Work) (x a r : Value) (arg : Option Value) (us ts : List Turn)
      → (question held w).question ≡ Asks x arg
      → Replies (is_known (question held w).work x arg) name (question held w).held x (args_of arg) us a k
      → (hear k.store (question held w).work a).ends ≡ None
      → Course name k (hear k.store (question held w).work a).work ts r after → Course name held w (us ++ ts) r after

abbrev Coursing : SymId → List Turn → Value → Held → Type 0
Coursing name ts r after = (held : Held) (w : Work) (p : Planned over_values.Stage) → Comes name held w p
    → Runs (lifted p) ts (gives after r) → Course name held w ts r after

abbrev Behind : SymId → List Turn → Value → Held → Type 0
Behind name ts r after = (t : Turn) (us : List Turn) → ts ≡ t ∷ us → Coursing name us r after

-- What a reply comes to.

replied : (name : SymId) (ts : List Turn) (r : Value) (after : Held) → Coursing name ts r after → (held k : Held)
    (w : Work) (x a : Value) (arg : Option Value) (us : List Turn) (o : Option Value) (p : Planned over_values.Stage)
    → (question held w).question ≡ Asks x arg
    → Replies (is_known (question held w).work x arg) name (question held w).held x (args_of arg) us a k
    → (hear k.store (question held w).work a).ends ≡ o
    → GoesOnBy name k (hear k.store (question held w).work a).work o p → Runs (lifted p) ts (gives after r)
    → Course name held w (us ++ ts) r after
replied name ts r after rest held k w x a arg us None p asks replies ends goes runs =
    one_reply held k after w x a r arg us ts asks replies ends
    (rest k (hear k.store (question held w).work a).work p goes runs)
replied name ts r after rest held k w x a arg us (Some v) p asks replies ends goes runs =
    let end = given ts k v r after
    (subst (λ (q : Planned over_values.Stage). Runs (lifted q) ts (gives after r)) goes runs) in
    subst (λ (l : List Turn). Course name held w (us ++ l) r after) (sym end.0)
    (subst (λ (l : List Turn). Course name held w l r after) (sym (append-nil us))
    (subst (λ (y : Value). Course name held w us y after) (sym end.1)
    (subst (λ (h : Held). Course name held w us v h) (sym end.2)
    (last_reply held k w x a v arg us asks replies ends))))

-- by a message, to the value or to nil
by_message : (name : SymId) (ts : List Turn) (r : Value) (after : Held) → Behind name ts r after → (held : Held) (w : Work)
    (x y : Value) (arg other : Option Value) → (question held w).question ≡ Asks x arg
    → ((t : Turn) → t.wanted.held ≡ (question held w).held → send_of t.wanted.plan ≡ Some (y, name, args_of other)
    → Replies (is_known (question held w).work x arg) name (question held w).held x (args_of arg) (t ∷ []) t.answer t.held)
    → Runs (lifted (sending name (question held w).held (question held w).work y other)) ts (gives after r)
    → Course name held w ts r after
by_message name ts r after rest held w x y arg other asks replies runs =
    let s = sent (over_values.asks name (question held w).work) (question held w).held y name (args_of other) ts r after
    runs in
    subst (λ (l : List Turn). Course name held w l r after) (sym s.same)
    (replied name s.further r after (rest s.turn s.further s.same) held s.turn.held w x s.turn.answer arg (s.turn ∷ [])
    (hear s.turn.held.store (question held w).work s.turn.answer).ends s.next asks (replies s.turn s.wanted s.message) refl
    s.goes s.runs)

-- Where a work stops, by what it wants.

by_stop : (name : SymId) (ts : List Turn) (r : Value) (after : Held) → Behind name ts r after → (held : Held) (w : Work)
    (q : Question) → (question held w).question ≡ q
    → Runs (lifted (stopped_by name (question held w).held (question held w).work q)) ts (gives after r)
    → Course name held w ts r after
by_stop name ts r after rest held w (Ends v) is runs =
    let end = given ts (question held w).held v r after runs in
    subst (λ (l : List Turn). Course name held w l r after) (sym end.0)
    (subst (λ (y : Value). Course name held w [] y after) (sym end.1)
    (subst (λ (h : Held). Course name held w [] v h) (sym end.2) (at_end held w v is)))
by_stop name ts r after rest held w (Fails c) is runs = absurd (refused ts (question held w).held c r after runs)
by_stop name ts r after rest held w (Asks x arg) is runs = by_message name ts r after rest held w x x arg arg is
    (λ t wanted message. asked t wanted message) runs

by_nil : (name : SymId) (ts : List Turn) (r : Value) (after : Held) → Behind name ts r after → (held : Held) (w : Work)
    (q : Question) → (question held w).question ≡ q → knows_by (question held w).work q ≡ true
    → Runs (lifted (sending name (question held w).held (question held w).work Nil (Some Nil))) ts (gives after r)
    → Course name held w ts r after
by_nil name ts r after rest held w (Ends v) is knows runs = absurd (cc)
by_nil name ts r after rest held w (Fails c) is knows runs = absurd (cc)
by_nil name ts r after rest held w (Asks x arg) is knows runs = by_message name ts r after rest held w x Nil arg (Some Nil)
    is (λ t wanted message. nil_asked t knows wanted message) runs

-- what replies at once
pub record Once (name : SymId) (held : Held) (w : Work) (a : Value) (left : Held) : Type 0 where
  pub x : Value
  pub arg : Option Value
  pub asks : (question held w).question ≡ Asks x arg
  pub replies : Replies (is_known (question held w).work x arg) name (question held w).held x (args_of arg) [] a left

pub once : (name : SymId) (held left : Held) (w : Work) (a : Value) (q : Question) → (question held w).question ≡ q
    → told_by name (question held w).held.store (question held w).work q ≡ (Some (GivesValue a), left.store)
    → Once name held w a left
once name held left w a (Ends v) is gives_so = absurd (none_some (GivesValue a) (ap (λ (o : Option Given × Store). o.0) gives_so))
once name held left w a (Fails c) is gives_so = absurd (none_some (GivesValue a) (ap (λ (o : Option Given × Store). o.0) gives_so))
once name held left w a (Asks x arg) is gives_so = record {
  x = x;
  arg = arg;
  asks = is;
  replies = told_at (is_known (question held w).work x arg) name (question held w).held left x (args_of arg) a
      (is_known (question held w).work x arg) refl gives_so;
}

coming : (name : SymId) (ts : List Turn) (r : Value) (after : Held) → Behind name ts r after → (held : Held) (w : Work)
    (p : Planned over_values.Stage) → Comes name held w p → Runs (lifted p) ts (gives after r)
    → Course name held w ts r after
coming name ts r after rest held w p (stops h u) runs =
    by_stop name ts r after rest h u (question h u).question refl runs
coming name ts r after rest held w p (asks_nil h u knows) runs =
    by_nil name ts r after rest h u (question h u).question refl knows runs
coming name ts r after rest held w p (raises_at_once h left u e is) runs = absurd (raised ts left e r after runs)
coming name ts r after rest held w p (ends_at_once h left u v x is ends) runs =
    let o = once name h left u v (question h u).question refl is in
    let end = given ts left x r after runs in
    subst (λ (l : List Turn). Course name h u l r after) (sym end.0)
    (subst (λ (y : Value). Course name h u [] y after) (sym end.1)
    (subst (λ (k : Held). Course name h u [] x k) (sym end.2)
    (last_reply h left u o.x v x o.arg [] o.asks o.replies ends)))
coming name ts r after rest held w p (goes_on_at_once h left u v q is ends comes) runs =
    let o = once name h left u v (question h u).question refl is in
    one_reply h left after u o.x v r o.arg [] ts o.asks o.replies ends
    (coming name ts r after rest left (hear left.store (question h u).work v).work q comes runs)

pub courses : (name : SymId) (ts : List Turn) (r : Value) (after : Held) → Coursing name ts r after
courses name [] r after = λ held w p comes runs.
    coming name [] r after (λ t us e. absurd (not_cons t us (sym e))) held w p comes runs
courses name (t ∷ ts) r after = λ held w p comes runs.
    coming name (t ∷ ts) r after (λ u us e. subst (λ (xs : List Turn). Coursing name xs r after)
    (tail_same t u ts us e) (courses name ts r after)) held w p comes runs
