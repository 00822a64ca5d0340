-- Works that ask values again and again, of which the last one never replies.
use Rattle.std.proofs.Common.{◌≡◌, ℕ, refl, sym, ap, subst, ◌∙◌, List, [], ◌∷◌, ◌++◌}
use Rattle.std.specs.Prelude.{Bool, true, false, Option, Some, None}
use Rattle.rb_value.specs.declared.value.Value.{Value}
use Rattle.rb_value.specs.declared.value.Value.TheVariants.{Nil}
use Rattle.rb_value.specs.declared.value.SymId.{SymId}
use Rattle.rb_store.specs.Held.{Held}
use Rattle.def_plans.specs.Plan.{Planned, gives, refuses, raises}
use Rattle.iter_comparing.specs.declared.questions.Question.{Question}
use Rattle.iter_comparing.specs.declared.questions.Question.TheVariants.{Ends, Fails, Asks}
use Rattle.iter_comparing.specs.declared.state.Work.{Work}
use Rattle.iter_comparing.specs.Asking.{question, hear, args_of, is_known, sending, stopped_by, knows_by, Begins, Comes, stops, asks_nil, raises_at_once, ends_at_once, goes_on_at_once, GoesOnBy}
use Rattle.iter_comparing.specs.Questions.{Asked, Heard}
use Rattle.iter_comparing.specs.Rows as comparing
use Rattle.iter_comparing.specs.Stage as over_values
use Rattle.iter_items.specs.Moved.{as_moved}
use Rattle.iter_items.specs.Rows as over_rows
use Rattle.iter_items.specs.Stage as over_items
use Rattle.core_iter.specs.Stage.{Stage, items}
use Rattle.items_laws.specs.Run.{Turn, Runs, waiting}
use Rattle.items_laws.specs.Asked.{Replies, asked, by_place, nil_asked, symbol, with_symbol}
use Rattle.items_laws.specs.CutAsked.{AsksOff, CutsAsking, IsUnreplied, is_sent, is_sent_to_nil, one_replied, unreplied}
use Rattle.items_laws.specs.Sums.{send_of}
use Rattle.items_laws.proofs.Cut.{dead}
use Rattle.items_laws.proofs.Inversion.{unmoved}
use Rattle.items_laws.proofs.Readers.{Reader, Reading, argument_same, asking, receiver_same, reply_seen}
use Rattle.items_laws.proofs.Sent.{lifted}
use Rattle.items_laws.proofs.Small.{not_cons, tail_same}
use Rattle.items_laws.proofs.Speaking.{stepped}
use Rattle.items_laws.proofs.Working.{once}

-- what a work asks and hears, until one never replies
pub data Unended (name : SymId) : Held → Work → List Turn → Planned Stage → Type 0 where
  never_replied : (held : Held) (w : Work) (x : Value) (arg : Option Value) (last : Planned Stage)
      → (question held w).question ≡ Asks x arg
      → IsUnreplied (is_known (question held w).work x arg) name (question held w).held x (args_of arg) last
      → Unended name held w [] last
  has_replied : (held k : Held) (w : Work) (x a : Value) (arg : Option Value) (us ts : List Turn) (last : Planned Stage)
      → (question held w).question ≡ Asks x arg
      → Replies (is_known (question held w).work x arg) name (question held w).held x (args_of arg) us a k
      → (hear k.store (question held w).work a).ends ≡ None
      → Unended name k (hear k.store (question held w).work a).work ts last → Unended name held w (us ++ ts) last

abbrev Unending : SymId → Planned Stage → List Turn → Type 0
Unending name last ts = (held : Held) (w : Work) (p : Planned over_values.Stage) → Comes name held w p
    → Runs (lifted p) ts last → Unended name held w ts last

abbrev Behind : SymId → Planned Stage → List Turn → Type 0
Behind name last ts = (t : Turn) (us : List Turn) → ts ≡ t ∷ us → Unending name last us

-- What a reply comes to.
replied : (name : SymId) (last : Planned Stage) (stage : Stage) → waiting last.plan ≡ Some stage → (ts : List Turn)
    → Unending name last ts → (held k : Held) (w : Work) (x a : Value) (arg : Option Value) (us : List Turn)
    (o : Option Value) (p : Planned over_values.Stage) → (question held w).question ≡ Asks x arg
    → Replies (is_known (question held w).work x arg) name (question held w).held x (args_of arg) us a k
    → (hear k.store (question held w).work a).ends ≡ o
    → GoesOnBy name k (hear k.store (question held w).work a).work o p → Runs (lifted p) ts last
    → Unended name held w (us ++ ts) last
replied name last stage waits ts rest held k w x a arg us None p asks replies ends goes runs =
    has_replied held k w x a arg us ts last asks replies ends
    (rest k (hear k.store (question held w).work a).work p goes runs)
replied name last stage waits ts rest held k w x a arg us (Some v) p asks replies ends goes runs =
    absurd (dead (lifted p) last ts stage (ap (λ (q : Planned over_values.Stage). waiting (lifted q).plan) goes) waits runs)

-- by a message, to the value or to nil

abbrev messaging : SymId → Held → Work → Value → Option Value → Planned Stage
messaging name held w y other = lifted (sending name (question held w).held (question held w).work y other)

by_turn : (name : SymId) (last : Planned Stage) (stage : Stage) → waiting last.plan ≡ Some stage → (t : Turn)
    (ts : List Turn) → Unending name last ts → (held : Held) (w : Work) (x y : Value) (arg other : Option Value)
    → (question held w).question ≡ Asks x arg
    → ((t : Turn) → t.wanted.held ≡ (question held w).held → send_of t.wanted.plan ≡ Some (y, name, args_of other)
    → Replies (is_known (question held w).work x arg) name (question held w).held x (args_of arg) (t ∷ []) t.answer t.held)
    → Runs (messaging name held w y other) (t ∷ ts) last → Unended name held w (t ∷ ts) last
by_turn name last stage waits t ts rest held w x y arg other asks replies runs =
    let u = over_values.asks name (question held w).work in
    let message = messaging name held w y other in
    let k = stepped message message (items (over_items.compares u)) t ts last refl refl runs in
    let outer = unmoved items (over_rows.GoesOn t.held (over_items.compares u) t.answer) k.next k.goes in
    let inner = unmoved over_items.compares (comparing.GoesOn t.held u t.answer) outer.inner outer.meant in
    replied name last stage waits ts rest held t.held w x t.answer arg (t ∷ [])
    (hear t.held.store (question held w).work t.answer).ends inner.inner asks
    (replies t (ap (λ (p : Planned Stage). p.held) k.wanted) (ap (λ (p : Planned Stage). send_of p.plan) k.wanted)) refl
    inner.meant (subst (λ (p : Planned Stage). Runs p ts last)
    (outer.same ∙ ap (λ (p : Planned over_items.Stage). as_moved items p) inner.same) k.runs)

by_message : (name : SymId) (last : Planned Stage) (stage : Stage) → waiting last.plan ≡ Some stage → (ts : List Turn)
    → Behind name last ts → (held : Held) (w : Work) (x y : Value) (arg other : Option Value)
    → (question held w).question ≡ Asks x arg
    → ((t : Turn) → t.wanted.held ≡ (question held w).held → send_of t.wanted.plan ≡ Some (y, name, args_of other)
    → Replies (is_known (question held w).work x arg) name (question held w).held x (args_of arg) (t ∷ []) t.answer t.held)
    → (last.held ≡ (question held w).held → send_of last.plan ≡ Some (y, name, args_of other)
    → IsUnreplied (is_known (question held w).work x arg) name (question held w).held x (args_of arg) last)
    → Runs (messaging name held w y other) ts last → Unended name held w ts last
by_message name last stage waits [] rest held w x y arg other asks replies lost runs =
    never_replied held w x arg last asks
    (lost (ap (λ (p : Planned Stage). p.held) (sym runs)) (ap (λ (p : Planned Stage). send_of p.plan) (sym runs)))
by_message name last stage waits (t ∷ ts) rest held w x y arg other asks replies lost runs =
    by_turn name last stage waits t ts (rest t ts refl) held w x y arg other asks replies runs

-- Where a work stops, by what it wants.

by_stop : (name : SymId) (last : Planned Stage) (stage : Stage) → waiting last.plan ≡ Some stage → (ts : List Turn)
    → Behind name last ts → (held : Held) (w : Work) (q : Question) → (question held w).question ≡ q
    → Runs (lifted (stopped_by name (question held w).held (question held w).work q)) ts last
    → Unended name held w ts last
by_stop name last stage waits ts rest held w (Ends v) is runs =
    absurd (dead (lifted (gives (question held w).held v)) last ts stage refl waits runs)
by_stop name last stage waits ts rest held w (Fails c) is runs =
    absurd (dead (lifted (refuses (question held w).held c)) last ts stage refl waits runs)
by_stop name last stage waits ts rest held w (Asks x arg) is runs =
    by_message name last stage waits ts rest held w x x arg arg is (λ t wanted message. asked t wanted message)
    (λ wanted message. is_sent wanted message) runs

by_nil : (name : SymId) (last : Planned Stage) (stage : Stage) → waiting last.plan ≡ Some stage → (ts : List Turn)
    → Behind name last ts → (held : Held) (w : Work) (q : Question) → (question held w).question ≡ q
    → knows_by (question held w).work q ≡ true → Runs (messaging name held w Nil (Some Nil)) ts last
    → Unended name held w ts last
by_nil name last stage waits ts rest held w (Ends v) is knows runs = absurd (cc)
by_nil name last stage waits ts rest held w (Fails c) is knows runs = absurd (cc)
by_nil name last stage waits ts rest held w (Asks x arg) is knows runs =
    by_message name last stage waits ts rest held w x Nil arg (Some Nil) is
    (λ t wanted message. nil_asked t knows wanted message) (λ wanted message. is_sent_to_nil knows wanted message) runs

coming : (name : SymId) (last : Planned Stage) (stage : Stage) → waiting last.plan ≡ Some stage → (ts : List Turn)
    → Behind name last ts → (held : Held) (w : Work) (p : Planned over_values.Stage) → Comes name held w p
    → Runs (lifted p) ts last → Unended name held w ts last
coming name last stage waits ts rest held w p (stops h u) runs =
    by_stop name last stage waits ts rest h u (question h u).question refl runs
coming name last stage waits ts rest held w p (asks_nil h u knows) runs =
    by_nil name last stage waits ts rest h u (question h u).question refl knows runs
coming name last stage waits ts rest held w p (raises_at_once h left u e is) runs =
    absurd (dead (lifted (record { plan = raises e; held = left })) last ts stage refl waits runs)
coming name last stage waits ts rest held w p (ends_at_once h left u v x is ends) runs =
    absurd (dead (lifted (gives left x)) last ts stage refl waits runs)
coming name last stage waits ts rest held w p (goes_on_at_once h left u v q is ends comes) runs =
    let o = once name h left u v (question h u).question refl is in
    has_replied h left u o.x v o.arg [] ts last o.asks o.replies ends
    (coming name last stage waits ts rest left (hear left.store (question h u).work v).work q comes runs)

pub unended : (name : SymId) (last : Planned Stage) (stage : Stage) → waiting last.plan ≡ Some stage → (ts : List Turn)
    → Unending name last ts
unended name last stage waits [] = λ held w p comes runs.
    coming name last stage waits [] (λ t us e. absurd (not_cons t us (sym e))) held w p comes runs
unended name last stage waits (t ∷ ts) = λ held w p comes runs.
    coming name last stage waits (t ∷ ts) (λ u us e. subst (λ (xs : List Turn). Unending name last xs)
    (tail_same t u ts us e) (unended name last stage waits ts)) held w p comes runs

-- By what a work keeps.

pub record Unread {S : Type 0} (g : Reader S) (name : SymId) (held : Held) (s : S) (ts : List Turn) (last : Planned Stage)
    : Type 0 where
  pub items : List Value
  pub replies : List Value
  pub asks : AsksOff g.known name (by_place g.item) g.other g.stops held (g.place s) ts items replies last

lost_seen : {S : Type 0} (g : Reader S) (m : Reading g) (name : SymId) (held : Held) (s : S) (w : Work) (x y : Value)
    (arg : Option Value) (last : Planned Stage) → question held w ≡ asking g held s x
    → (question held w).question ≡ Asks y arg
    → IsUnreplied (is_known (question held w).work y arg) name (question held w).held y (args_of arg) last
    → IsUnreplied (g.known x (g.other held (g.place s))) name held x (g.other held (g.place s) ∷ []) last
lost_seen g m name held s w x y arg last seen is lost =
    let z = g.other held (g.place s) in
    let same = sym (ap (λ (q : Asked Work). q.question) seen) ∙ is in
    let one = subst (λ (q : Asked Work). IsUnreplied (is_known q.work y arg) name q.held y (args_of arg) last) seen lost in
    let two = subst (λ (o : Option Value). IsUnreplied (is_known (g.busy s x) y o) name held y (args_of o) last)
    (sym (argument_same x y (Some z) arg same)) one in
    let three = subst (λ (u : Value). IsUnreplied (is_known (g.busy s x) u (Some z)) name held u (z ∷ []) last)
    (sym (receiver_same x y (Some z) arg same)) two in
    subst (λ (c : Bool). IsUnreplied c name held x (z ∷ []) last) (m.knows s x z) three

unread_end : {S : Type 0} (g : Reader S) (m : Reading g) (name : SymId) (held : Held) (s : S) (w : Work) (y : Value)
    (arg : Option Value) (last : Planned Stage) (o : Option Value) → w ≡ g.work s → g.item held (g.place s) ≡ o
    → (question held w).question ≡ Asks y arg
    → IsUnreplied (is_known (question held w).work y arg) name (question held w).held y (args_of arg) last
    → Unread g name held s [] last
unread_end g m name held s w y arg last None same there is lost =
    absurd (m.unasked held s y arg there (ap (λ (u : Work). (question held u).question) (sym same) ∙ is))
unread_end g m name held s w y arg last (Some x) same there is lost =
    let seen = ap (λ (u : Work). question held u) same ∙ m.asks held s x there in record {
      items = [];
      replies = [];
      asks = unreplied held (g.place s) x last there (lost_seen g m name held s w x y arg last seen is lost);
    }

unread_on : {S : Type 0} (g : Reader S) (m : Reading g) (name : SymId) (held k : Held) (s : S) (x a : Value)
    (us ts : List Turn) (last : Planned Stage) (c : Bool) → g.stops a ≡ c → g.item held (g.place s) ≡ Some x
    → Replies (g.known x (g.other held (g.place s))) name held x (g.other held (g.place s) ∷ []) us a k
    → (hear k.store (g.busy s x) a).ends ≡ None
    → (g.stops a ≡ false → Unread g name k (g.step s x a) ts last) → Unread g name held s (us ++ ts) last
unread_on g m name held k s x a us ts last true halting there replies ends rest =
    absurd (m.halts k.store s x a halting ends)
unread_on g m name held k s x a us ts last false halting there replies ends rest =
    let more = rest halting in
    record {
      items = x ∷ more.items;
      replies = a ∷ more.replies;
      asks = one_replied held k (g.place s) x a us ts more.items more.replies last there replies halting
          (subst (λ (n : ℕ). AsksOff g.known name (by_place g.item) g.other g.stops k n ts more.items more.replies last)
          (m.places s x a) more.asks);
    }

unread_more : {S : Type 0} (g : Reader S) (m : Reading g) (name : SymId) (held k : Held) (s : S) (w : Work) (y a : Value)
    (arg : Option Value) (us ts : List Turn) (last : Planned Stage) (o : Option Value) → w ≡ g.work s
    → g.item held (g.place s) ≡ o → (question held w).question ≡ Asks y arg
    → Replies (is_known (question held w).work y arg) name (question held w).held y (args_of arg) us a k
    → (hear k.store (question held w).work a).ends ≡ None
    → ((u : S) → (hear k.store (question held w).work a).work ≡ g.work u → Unread g name k u ts last)
    → Unread g name held s (us ++ ts) last
unread_more g m name held k s w y a arg us ts last None same there is replies ends rest =
    absurd (m.unasked held s y arg there (ap (λ (u : Work). (question held u).question) (sym same) ∙ is))
unread_more g m name held k s w y a arg us ts last (Some x) same there is replies ends rest =
    let seen = ap (λ (u : Work). question held u) same ∙ m.asks held s x there in
    unread_on g m name held k s x a us ts last (g.stops a) refl there
    (reply_seen g m name held k s w x y a arg us seen is replies)
    (subst (λ (q : Asked Work). (hear k.store q.work a).ends ≡ None) seen ends)
    (λ goes. rest (g.step s x a) (ap (λ (q : Asked Work). (hear k.store q.work a).work) seen
    ∙ ap (λ (h : Heard Work). h.work) (m.goes k.store s x a goes)))

pub unread : {S : Type 0} (g : Reader S) (m : Reading g) (name : SymId) (held : Held) (s : S) (w : Work) (ts : List Turn)
    (last : Planned Stage) → w ≡ g.work s → Unended name held w ts last → Unread g name held s ts last
unread g m name held s w ts last same (never_replied h u x arg q is lost) =
    unread_end g m name h s u x arg q (g.item h (g.place s)) same refl is lost
unread g m name held s w ts last same (has_replied h k u x a arg us vs q is replies ends rest) =
    unread_more g m name h k s u x a arg us vs q (g.item h (g.place s)) same refl is replies ends
    (λ z e. unread g m name k z (hear k.store (question h u).work a).work vs q e rest)

-- From the first place on.
pub cuts_asking : {S : Type 0} (g : Reader S) (m : Reading g) (name : List ℕ) (held : Held) (s : S) (ts : List Turn)
    (last : Planned Stage) (stage : Stage) (first : Planned over_values.Stage) → waiting last.plan ≡ Some stage
    → g.place s ≡ 0 → Begins held name (g.work s) first → Runs (lifted first) ts last
    → CutsAsking name g.known g.item g.other g.stops held ts last
cuts_asking g m name held s ts last stage first waits start begins runs =
    let k = unread g m (symbol name held) (with_symbol name held) s (g.work s) ts last refl
    (unended (symbol name held) last stage waits ts (with_symbol name held) (g.work s) first begins runs) in
    record {
      items = k.items;
      replies = k.replies;
      asks = subst (λ (n : ℕ). AsksOff g.known (symbol name held) (by_place g.item) g.other g.stops (with_symbol name held) n
          ts k.items k.replies last) start k.asks;
    }
