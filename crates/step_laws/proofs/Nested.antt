-- Where forms stand in turn in a body of a source: the bodies in those before are behind them.
use Rattle.std.proofs.Common.{◌≡◌, ◌<◌, ◌≤◌, ℕ, ◌+◌, List, ◌∷◌, sym, ap, ◌∙◌, subst, arith, true, false, ⊎_elim}
use Rattle.std.specs.Prelude.{slice_get, Some}
use Rattle.std.proofs.lemmas.Bool.{cases_lt}
use Rattle.ir_core.specs.CoreForm as form
use Rattle.ir_core.specs.CoreForm.{CoreForm, Body, Maybe, Forms, Items, Pairs, Branches, form_of}
use Rattle.ir_core.specs.Program as program
use Rattle.ir_core.specs.Program.{within_loop, within_block, within_method, within_class}
use Rattle.scope_resolver.specs.Layout.{Scopes}
use Rattle.def_eval.specs.Source.{Source, body_at, over_body, over_maybe, over_forms, over_items, over_pairs, over_branches, over_asked, span, how_many}
use Rattle.eval_laws.specs.Kinds.{Kind, of_block, IsKind}
use Rattle.eval_laws.specs.Standing.{past_items, past_branches, FormStands, MaybeStands, FormsStand, ItemsStand, PairsStand, BranchesStand}
use Rattle.eval_laws.proofs.Forming.{body_from}
use Rattle.step_laws.specs.Plain.{IsPlain, IsPlainBlock, ArePlain, ArePlainItems, ArePlainPairs, ArePlainBranches, IsPlainMaybe}
use Rattle.step_laws.specs.Around.{slots_for, inside_of, Around, inside}
use Rattle.step_laws.proofs.Spans.{none_asked, behind_items, behind_branches}

-- the bodies with these numbers have none past the last of them
pub record Closed (s : Source) (n m : ℕ) : Type 0 where
  pub within : (k : ℕ) → n ≤ k → k < m → k + inside_of s k < m

none_closed : (s : Source) (n m : ℕ) → m ≤ n → Closed s n m
none_closed s n m le = record { within = λ k low high. absurd (omega (arith, le, low, high)) }

both_closed : (s : Source) (n m q : ℕ) → m ≤ q → Closed s n m → Closed s m q → Closed s n q
both_closed s n m q le a b = record {
  within = λ k low high. ⊎_elim (λ lt. let c = a.within k low lt in omega (arith, c, le))
      (λ ge. b.within k ge high) (cases_lt k m);
}

-- a body with those in it
body_closed : (s : Source) (n : ℕ) (f : Body) → slice_get s n ≡ Some f
    → Closed s (n + 1) (n + 1 + span (form_of f)) → Closed s n (n + (1 + span (form_of f)))
body_closed s n f e a = record {
  within = λ k low high. ⊎_elim (λ lt. let c = a.within k (omega (arith, lt)) (omega (arith, high)) in omega (arith, c))
      (λ le. here k (omega (arith, low, le))) (cases_lt n k);
}
  where
    here : (k : ℕ) → k ≡ n → k + inside_of s k < n + (1 + span (form_of f))
    here k is =
        let same : inside_of s k ≡ span (form_of f) =
        ap (inside_of s) is ∙ ap (λ (b : Body). span (form_of b)) (body_from s n f e) in
        omega (arith, is, same)

-- Bodies one after the other.

pub none_at : (s : Source) (n : ℕ) → Closed s n (n + 0)
none_at s n = none_closed s n (n + 0) (omega arith)

pub then_closed : (s : Source) (n i k : ℕ) → Closed s n (n + i) → Closed s (n + i) (n + i + k) → Closed s n
    (n + (i + k))
then_closed s n i k a b =
    subst (Closed s n) (omega arith) (both_closed s n (n + i) (n + i + k) (omega arith) a b)

-- behind a name
named_closed : (s : Source) (n k : ℕ) → Closed s n (n + k) → Closed s n (n + (0 + k))
named_closed s n k a = subst (Closed s n) (omega arith) a

-- what is so from a number on is so from the same one
pub closed_from : (s : Source) (n m k : ℕ) → n ≡ m → Closed s n (n + k) → Closed s m (m + k)
closed_from s n m k e a = subst (λ (i : ℕ). Closed s i (i + k)) e a

-- The bodies in a plain form that stands in a source are closed.
module _ (s : Source) where
  -- a receiver, items and a block
  called_closed : (n i : ℕ) (is' : Items) (m : Maybe) → Closed s n (n + i)
      → Closed s (n + i) (n + i + over_items how_many is')
      → Closed s (past_items (n + i) is') (past_items (n + i) is' + over_maybe how_many m)
      → Closed s n (n + (0 + (i + (over_items how_many is' + over_maybe how_many m))))
  called_closed n i is' m x y z =
      let c = over_items how_many is' in
      let k = over_maybe how_many m in
      named_closed s n (i + (c + k))
      (then_closed s n i (c + k) x
      (then_closed s (n + i) c k y
      (closed_from s (past_items (n + i) is') (n + i + c) k (behind_items (n + i) is') z)))

  whole_closed : (n : ℕ) (p : form.Parameters) (ls : List form.Local) (f : CoreForm)
      → slice_get s n ≡ Some (form.body p ls f) → Closed s (n + 1) (n + 1 + span f)
      → Closed s n (n + over_body how_many (form.body p ls f))
  whole_closed n p ls f e inner = subst (Closed s n) (omega arith) (body_closed s n (form.body p ls f) e inner)

  mutual
    pub closed : (e : CoreForm) → IsPlain e → (a : program.Around) (n : ℕ) → FormStands s a n e → Closed s n
        (n + span e)
    closed form.nil is a n st = none_at s n
    closed form.truth is a n st = none_at s n
    closed form.falsehood is a n st = none_at s n
    closed form.self_ref is a n st = none_at s n
    closed (form.int z) is a n st = none_at s n
    closed (form.str t) is a n st = none_at s n
    closed (form.sym x) is a n st = none_at s n
    closed (form.local x) is a n st = none_at s n
    closed (form.own x) is a n st = absurd is
    closed form.exception is a n st = absurd is
    closed (form.set_local x e) is a n st = closed e is a n st.1
    closed (form.ivar x) is a n st = none_at s n
    closed (form.set_ivar x e) is a n st = named_closed s n (span e) (closed e is a n st.1)
    closed (form.gvar x) is a n st = none_at s n
    closed (form.set_gvar x e) is a n st = named_closed s n (span e) (closed e is a n st.1)
    closed (form.constant x) is a n st = none_at s n
    closed (form.top_constant x) is a n st = none_at s n
    closed (form.in_constant e x) is a n st = named_closed s n (span e) (closed e is a n st.1)
    closed (form.set_constant x e) is a n st = named_closed s n (span e) (closed e is a n st.1)
    closed (form.set_in_constant e x v) is a n st = named_closed s n (span e + span v)
        (then_closed s n (span e) (span v) (closed e is.0 a n st.1) (closed v is.1 a (n + span e) st.2))
    closed (form.array is') is a n st = closed_items is' is a n st
    closed (form.hash ps) is a n st = closed_pairs ps is a n st
    closed (form.range b c x) is a n st = then_closed s n (span b) (span c) (closed b is.0 a n st.0)
        (closed c is.1 a (n + span b) st.1)
    closed (form.text es) is a n st = closed_forms es is a n st
    closed (form.intern e) is a n st = closed e is a n st
    closed (form.seq es) is a n st = closed_forms es is a n st
    closed (form.cond bs o) is a n st = then_closed s n (over_branches how_many bs) (span o)
        (closed_branches bs is.0 a n st.0) (closed_from s (past_branches n bs) (n + over_branches how_many bs) (span o)
        (behind_branches n bs) (closed o is.1 a (past_branches n bs) st.1))
    closed (form.and_form b c) is a n st = then_closed s n (span b) (span c) (closed b is.0 a n st.0)
        (closed c is.1 a (n + span b) st.1)
    closed (form.or_form b c) is a n st = then_closed s n (span b) (span c) (closed b is.0 a n st.0)
        (closed c is.1 a (n + span b) st.1)
    closed (form.while_form false b c) is a n st = then_closed s n (span b) (span c)
        (closed b is.0 (within_loop a) n st.0) (closed c is.1 (within_loop a) (n + span b) st.1)
    closed (form.while_form true b c) is a n st = then_closed s n (span b) (span c)
        (closed b is.0 (within_loop a) n st.0) (closed c is.1 (within_loop a) (n + span b) st.1)
    closed (form.call (form.to e) x is' m) is a n st = called_closed n (span e) is' m (closed e is.0 a n st.1)
        (closed_items is' is.1 a (n + span e) st.2) (closed_block m is.3 a (past_items (n + span e) is') st.3)
    closed (form.call form.on_self x is' m) is a n st = called_closed n 0 is' m (none_at s n)
        (closed_from s n (n + 0) (over_items how_many is') (omega arith) (closed_items is' is.0 a n st.2))
        (closed_from s (past_items n is') (past_items (n + 0) is') (over_maybe how_many m)
        (ap (λ (i : ℕ). past_items i is') (omega arith)) (closed_block m is.2 a (past_items n is') st.3))
    closed (form.call form.bare x form.no_items form.absent) is a n st = none_at s n
    closed (form.call form.bare x form.no_items (form.there b)) is a n st = absurd is
    closed (form.call form.bare x (form.plain e is') b) is a n st = absurd is
    closed (form.call form.bare x (form.splat e is') b) is a n st = absurd is
    closed (form.yield_form is') is a n st = closed_items is' is a n st
    closed (form.super_form is' form.absent) is a n st =
        then_closed s n (over_items how_many is') 0 (closed_items is' is.1 a n st.0) (none_at s (n + over_items how_many is'))
    closed (form.super_form is' (form.there b)) is a n st =
        then_closed s n (over_items how_many is') (span b) (closed_items is' is.0 a n st.0)
        (closed_from s (past_items n is') (n + over_items how_many is') (span b) (behind_items n is')
        (closed b is.2 a (past_items n is') st.1))
    closed (form.function (form.body p ls f)) is a n st = whole_closed n p ls f st.0
        (closed f is.1 (within_block a p ls) (n + 1) st.2)
    closed (form.lambda (form.body p ls f)) is a n st =
        whole_closed n p ls f st.0 (closed f is.1 (within_block a p ls) (n + 1) st.2)
    closed (form.begin_form b form.no_clauses o form.absent) is a n st =
        let k = over_maybe how_many o in
        subst (λ (i : ℕ). Closed s n (n + (span b + i))) (omega arith)
        (then_closed s n (span b) k (closed b is.0 a n st.0) (closed_block o is.1 a (n + span b) st.2))
    closed (form.begin_form b form.no_clauses o (form.there e)) is a n st = absurd is
    closed (form.begin_form b (form.clause es t f cs) o e) is a n st = absurd is
    closed (form.return_form e) is a n st = closed e is a n st
    closed (form.break_form e) is a n st = closed e is a n st
    closed (form.next_form e) is a n st = closed e is a n st
    closed form.retry is a n st = absurd is
    closed (form.define x (form.body p ls f)) is a n st = named_closed s n (over_body how_many (form.body p ls f))
        (whole_closed n p ls f st.1.0 (closed f is.1 (within_method p ls) (n + 1) st.1.2))
    closed (form.define_on e x (form.body p ls f)) is a n st =
        let k = over_body how_many (form.body p ls f) in
        named_closed s n (span e + k) (then_closed s n (span e) k (closed e is.0 a n st.1)
        (whole_closed (n + span e) p ls f st.2.0 (closed f is.2 (within_method p ls) (n + span e + 1) st.2.2)))
    closed (form.class_form k x p (form.body ps ls f)) is a n st =
        let i = over_maybe how_many k in
        let j = over_maybe how_many p in
        let b = over_body how_many (form.body ps ls f) in
        named_closed s n (i + (j + b)) (then_closed s n i (j + b) (closed_maybe k is.0 a n st.1)
        (then_closed s (n + i) j b (closed_maybe p is.1 a (n + i) st.2)
        (whole_closed (n + i + j) ps ls f st.3.0 (closed f is.2 (within_class ls) (n + i + j + 1) st.3.1))))
    closed (form.module_form k x (form.body ps ls f)) is a n st =
        let i = over_maybe how_many k in
        let b = over_body how_many (form.body ps ls f) in
        named_closed s n (i + b) (then_closed s n i b (closed_maybe k is.0 a n st.1)
        (whole_closed (n + i) ps ls f st.2.0 (closed f is.1 (within_class ls) (n + i + 1) st.2.1)))
    closed (form.singleton_class e (form.body ps ls f)) is a n st =
        let b = over_body how_many (form.body ps ls f) in
        then_closed s n (span e) b (closed e is.0 a n st.0)
        (whole_closed (n + span e) ps ls f st.1.0 (closed f is.1 (within_class ls) (n + span e + 1) st.1.1))
    closed (form.alias_form x y) is a n st = none_closed s n (n + (0 + 0)) (omega arith)
    closed (form.undef_form x) is a n st = none_at s n
    closed (form.defined q x form.absent) is a n st = none_closed s n (n + (over_asked how_many q x + 0))
        (omega (arith, none_asked q x))
    closed (form.defined q x (form.there e)) is a n st = subst (Closed s n) (omega (arith, none_asked q x))
        (closed e is.0 a n st.1)
    closed (form.item e q) is a n st = closed e is a n st
    closed (form.rest_of e from post) is a n st = closed e is a n st
    closed (form.tail_of e from count) is a n st = closed e is.0 a n st

    pub closed_maybe : (m : Maybe) → IsPlainMaybe m → (a : program.Around) (n : ℕ) → MaybeStands s a n m
        → Closed s n (n + over_maybe how_many m)
    closed_maybe form.absent is a n st = none_at s n
    closed_maybe (form.there b) is a n st = closed b is a n st

    pub closed_block : (m : Maybe) → IsPlainBlock m → (a : program.Around) (n : ℕ) → MaybeStands s a n m
        → Closed s n (n + over_maybe how_many m)
    closed_block form.absent is a n st = none_at s n
    closed_block (form.there b) is a n st = closed b is a n st

    pub closed_forms : (es : Forms) → ArePlain es → (a : program.Around) (n : ℕ) → FormsStand s a n es
        → Closed s n (n + over_forms how_many es)
    closed_forms form.none is a n st = none_at s n
    closed_forms (form.more e es) is a n st =
        then_closed s n (span e) (over_forms how_many es) (closed e is.0 a n st.0)
        (closed_forms es is.1 a (n + span e) st.1)

    pub closed_items : (is' : Items) → ArePlainItems is' → (a : program.Around) (n : ℕ) → ItemsStand s a n is'
        → Closed s n (n + over_items how_many is')
    closed_items form.no_items is a n st = none_at s n
    closed_items (form.plain e is') is a n st =
        then_closed s n (span e) (over_items how_many is') (closed e is.0 a n st.0)
        (closed_items is' is.1 a (n + span e) st.1)
    closed_items (form.splat e is') is a n st =
        then_closed s n (span e) (over_items how_many is') (closed e is.0 a n st.0)
        (closed_items is' is.1 a (n + span e) st.1)

    pub closed_pairs : (ps : Pairs) → ArePlainPairs ps → (a : program.Around) (n : ℕ) → PairsStand s a n ps
        → Closed s n (n + over_pairs how_many ps)
    closed_pairs form.no_pairs is a n st = none_at s n
    closed_pairs (form.pair b c ps) is a n st =
        then_closed s n (span b) (span c + over_pairs how_many ps) (closed b is.0 a n st.0)
        (then_closed s (n + span b) (span c) (over_pairs how_many ps) (closed c is.1 a (n + span b) st.1)
        (closed_pairs ps is.2 a (n + span b + span c) st.2))

    pub closed_branches : (bs : Branches) → ArePlainBranches bs → (a : program.Around) (n : ℕ) → BranchesStand s a n bs
        → Closed s n (n + over_branches how_many bs)
    closed_branches form.no_branches is a n st = none_at s n
    closed_branches (form.branch b c bs) is a n st =
        then_closed s n (span b) (span c + over_branches how_many bs) (closed b is.0 a n st.0)
        (then_closed s (n + span b) (span c) (over_branches how_many bs) (closed c is.1 a (n + span b) st.1)
        (closed_branches bs is.2 a (n + span b + span c) st.2))

-- The forms with bodies from number n up to m stand in a body whose code sees these slots, in turn behind others.
pub record Inside (s : Source) (scopes : Scopes) (n m : ℕ) : Type 0 where
  pub body : ℕ
  pub kind : Kind
  pub others : Scopes
  pub is : IsKind s body kind
  pub sees : Around s body others
  pub are : scopes ≡ slots_for kind (body_at s body) ∷ others
  pub before : body < n
  pub within : m ≤ body + inside_of s body + 1
  pub closed : Closed s (body + 1) n

-- what follows
inside_on : (s : Source) (scopes : Scopes) (n m q : ℕ) → n ≤ q → Closed s n q → Inside s scopes n m
    → Inside s scopes q m
inside_on s scopes n m q le c w = record {
  body = w.body;
  kind = w.kind;
  others = w.others;
  is = w.is;
  sees = w.sees;
  are = w.are;
  before = omega (arith, w.before, le);
  within = w.within;
  closed = both_closed s (w.body + 1) n q le w.closed c;
}

-- fewer of them
inside_less : (s : Source) (scopes : Scopes) (n m q : ℕ) → q ≤ m → Inside s scopes n m → Inside s scopes n q
inside_less s scopes n m q le w = record {
  body = w.body;
  kind = w.kind;
  others = w.others;
  is = w.is;
  sees = w.sees;
  are = w.are;
  before = w.before;
  within = omega (arith, w.within, le);
  closed = w.closed;
}

-- the first of them, and those behind some
pub inside_first : (s : Source) (scopes : Scopes) (n k i : ℕ) → i ≤ k → Inside s scopes n (n + k)
    → Inside s scopes n (n + i)
inside_first s scopes n k i le w = inside_less s scopes n (n + k) (n + i) (omega (arith, le)) w

pub inside_then : (s : Source) (scopes : Scopes) (n k i r : ℕ) → i + r ≤ k → Closed s n (n + i)
    → Inside s scopes n (n + k) → Inside s scopes (n + i) (n + i + r)
inside_then s scopes n k i r le closed w =
    inside_less s scopes (n + i) (n + k) (n + i + r) (omega (arith, le))
    (inside_on s scopes n (n + k) (n + i) (omega arith) closed w)

-- a block among them sees these slots
pub block_sees : (s : Source) (scopes : Scopes) (n m : ℕ) → Inside s scopes n m → n < m → IsKind s n of_block
    → Around s n scopes
block_sees s scopes n m w lt block =
    inside w.body w.kind w.others block (record {
      before = w.before;
      has = omega (arith, w.within, lt);
      closed = λ k low high. w.closed.within k (omega (arith, low)) high;
    }) w.is w.sees w.are

-- at the beginning of a body
pub inside_new : (s : Source) (n : ℕ) (k : Kind) (others scopes : Scopes) (f : Body) → body_at s n ≡ f → IsKind s n k
    → Around s n others → scopes ≡ slots_for k f ∷ others → Inside s scopes (n + 1) (n + 1 + span (form_of f))
inside_new s n k others scopes f e is sees are = record {
  body = n;
  kind = k;
  others = others;
  is = is;
  sees = sees;
  are = are ∙ ap (λ (b : Body). slots_for k b ∷ others) (sym e);
  before = omega arith;
  within = omega (arith, ap (λ (b : Body). span (form_of b)) e);
  closed = none_closed s (n + 1) (n + 1) (omega arith);
}
