-- Methods that ask a value for each item, of which the last one never replies.
use Rattle.std.proofs.Common.{◌≡◌, refl, sym, ap, subst, ◌∙◌, List, [], ◌∷◌, ◌++◌}
use Rattle.std.specs.Prelude.{Bool, true, false, if◌then◌else◌, Option, Some, None}
use Rattle.rb_value.specs.declared.value.Value.{Value}
use Rattle.rb_value.specs.declared.value.Value.TheVariants.{Nil}
use Rattle.heap.specs.declared.finding.Site.{Site}
use Rattle.rb_store.specs.Held.{Held}
use Rattle.def_plans.specs.Plan.{Planned}
use Rattle.iter_items.specs.declared.source.Source.{Source}
use Rattle.iter_items.specs.declared.visit.Visit.{Visit}
use Rattle.iter_items.specs.declared.wish.Wish.{Wish}
use Rattle.iter_items.specs.declared.wish.Wish.TheVariants as wish
use Rattle.iter_items.specs.Asking.{Wished, asked as asked_of, visited_by, wishes, with_item, with_source}
use Rattle.iter_items.specs.Hearing.{Heard}
use Rattle.iter_items.specs.Driving.{WantsOf, HearsOf, Hears, Comes, stops, raises_at_once, goes_on, at_site, planned, Begins, begins}
use Rattle.iter_items.specs.Sources.{next, previous}
use Rattle.iter_items.specs.Stage as over_items
use Rattle.core_iter.specs.Stage.{Stage, items}
use Rattle.items_laws.specs.Run.{Turn, Leads, Runs, waiting}
use Rattle.items_laws.specs.Asked.{Replies, nil_asked, asked}
use Rattle.items_laws.specs.CutAsked.{IsUnreplied, is_sent, is_sent_to_nil}
use Rattle.items_laws.specs.Sums.{send_of}
use Rattle.items_laws.proofs.Asking.{IsAsked, Method, Shape, between, knows_of, message, sent_by, told_at}
use Rattle.items_laws.proofs.Course.{waits_for, heard_of}
use Rattle.items_laws.proofs.Cut.{dead, stands}
use Rattle.items_laws.proofs.Inversion.{begun, gone, comes_of}
use Rattle.items_laws.proofs.Small.{not_cons, tail_same}
use Rattle.items_laws.proofs.Summed.{lifted, once_by, planned_by, raising}

-- from a heap on, with what came so far
pub data Cutting {S : Type 0} (g : Shape S) : Held → Source → S → List Turn → Planned Stage → Type 0 where
  never_replied : (held : Held) (s : Source) (x : S) (i : Value) (last : Planned Stage) → (next held s).item ≡ Some i
      → IsUnreplied (knows_of g (g.asked x i) (g.argument x i)) g.name (next held s).held (g.asked x i)
      (g.argument x i ∷ []) last → Cutting g held s x [] last
  has_replied : (held k : Held) (s : Source) (x : S) (i a : Value) (ws ts : List Turn) (last : Planned Stage)
      → (next held s).item ≡ Some i
      → Replies (knows_of g (g.asked x i) (g.argument x i)) g.name (next held s).held (g.asked x i)
      (g.argument x i ∷ []) ws a k
      → Cutting g k (next held s).source (g.step x a) ts last → Cutting g held s x (ws ++ ts) last

-- one is asked: it never replies, or the others follow
data Tells {S : Type 0} (g : Shape S) (held : Held) (s : Source) (x : S) (l q : Value) : List Turn → Planned Stage → Type 0 where
  untold : (last : Planned Stage) → IsUnreplied (knows_of g l q) g.name held l (q ∷ []) last
      → Tells g held s x l q [] last
  told_so : (left : Held) (a : Value) (ws us : List Turn) (last : Planned Stage)
      → Replies (knows_of g l q) g.name held l (q ∷ []) ws a left → Cutting g left s (g.step x a) us last
      → Tells g held s x l q (ws ++ us) last

abbrev AsksSo : {S : Type 0} → Shape S → List Turn → Planned Stage → Held → Visit → Wish → Type 0
AsksSo {S = S} g ts last h u w = (held : Held) (v : Visit) (x : S) (l q : Value) → IsAsked g held v x l q h u w
    → Tells g held v.source x l q ts last

record Going {S : Type 0} (g : Shape S) (ts : List Turn) (last : Planned Stage) : Type 0 where
  begins_so : (held : Held) (v : Visit) (x : S) (p : Planned over_items.Stage) → Begins held (between g x v) p
      → Runs (lifted p) ts last → Cutting g held v.source x ts last

abbrev Behind : {S : Type 0} → Shape S → List Turn → Planned Stage → Type 0
Behind g ts last = (t : Turn) (us : List Turn) → ts ≡ t ∷ us → Going g us last

-- What an answer to a message leads to.

answered_on : {S : Type 0} (g : Shape S) (m : Method g) (t : Turn) (ts : List Turn) (last : Planned Stage)
    → Going g ts last → (held : Held) (v : Visit) (x : S) (l q : Value) (site : Site)
    → t.wanted ≡ message g held v x l q site → Leads t (λ next. Runs next ts last)
    → Cutting g t.held v.source (g.step x t.answer) ts last
answered_on g m t ts last rest held v x l q site same leads =
    let u = at_site (between g x v) site in
    let on = at_site v site in
    let stage = waits_for t (message g held v x l q site) (items (over_items.visits u)) leads.stage same refl leads.waits in
    let next = heard_of t.held u t.answer leads.next leads.stage refl stage leads.follows in
    let gn = gone t.held u t.answer next.inner next.meant in
    let hears = subst (λ (h : Heard). HearsOf h gn.wish gn.visit gn.later) (m.hears t.held x on t.answer) gn.hears in
    rest.begins_so t.held on (g.step x t.answer) next.inner
    (begins t.held gn.later (between g (g.step x t.answer) on) gn.visit gn.wish next.inner hears gn.comes)
    (subst (λ (p : Planned Stage). Runs p ts last) next.same leads.further)

-- the message to a value that replies
abbrev RepliesSo : {S : Type 0} → Shape S → Held → Value → Value → Value → Value → Type 0
RepliesSo g held l q y z = (t : Turn) → t.wanted.held ≡ held → send_of t.wanted.plan ≡ Some (y, g.name, z ∷ [])
    → Replies (knows_of g l q) g.name held l (q ∷ []) (t ∷ []) t.answer t.held

by_message : {S : Type 0} (g : Shape S) (m : Method g) (ts : List Turn) (last : Planned Stage) → Behind g ts last
    → (held : Held) (v : Visit) (x : S) (l q y z : Value) (site : Site) (p : Planned Stage) → RepliesSo g held l q y z
    → (last.held ≡ held → send_of last.plan ≡ Some (y, g.name, z ∷ [])
    → IsUnreplied (knows_of g l q) g.name held l (q ∷ []) last)
    → p ≡ message g held v x y z site → Runs p ts last → Tells g held v.source x l q ts last
by_message g m [] last rest held v x l q y z site p replies lost same runs =
    let is = sym runs ∙ same in
    untold last (lost (ap (λ (p : Planned Stage). p.held) is) (ap (λ (p : Planned Stage). send_of p.plan) is))
by_message g m (t ∷ ts) last rest held v x l q y z site p replies lost same runs =
    let is = runs.0 ∙ same in
    told_so t.held t.answer (t ∷ []) ts last
    (replies t (ap (λ (p : Planned Stage). p.held) is) (ap (λ (p : Planned Stage). send_of p.plan) is))
    (answered_on g m t ts last (rest t ts refl) held v x y z site is runs.1)

-- to the value, or to nil where the reply is known
told_by_message : {S : Type 0} (g : Shape S) (m : Method g) (ts : List Turn) (last : Planned Stage) → Behind g ts last
    → (held : Held) (v : Visit) (x : S) (l q : Value) (site : Site) (p : Planned Stage) (c : Bool) → knows_of g l q ≡ c
    → p ≡ sent_by g held v x l q site c → Runs p ts last → Tells g held v.source x l q ts last
told_by_message g m ts last rest held v x l q site p true known same runs =
    by_message g m ts last rest held v x l q Nil Nil site p (λ t wanted sent. nil_asked t known wanted sent)
    (λ wanted sent. is_sent_to_nil known wanted sent) same runs
told_by_message g m ts last rest held v x l q site p false known same runs =
    by_message g m ts last rest held v x l q l q site p (λ t wanted sent. asked t wanted sent)
    (λ wanted sent. is_sent wanted sent) same runs

-- What comes of the next item.

added_on : {S : Type 0} (g : Shape S) (ts : List Turn) (last : Planned Stage) (held : Held) (s : Source) (x : S)
    (i : Value) → (next held s).item ≡ Some i
    → Tells g (next held s).held (next held s).source x (g.asked x i) (g.argument x i) ts last
    → Cutting g held s x ts last
added_on g ts last held s x i there (untold n lost) = never_replied held s x i n there lost
added_on g ts last held s x i there (told_so left a ws us n replies rest) =
    has_replied held left s x i a ws us n there replies rest

by_item : {S : Type 0} (g : Shape S) (m : Method g) (ts : List Turn) (last : Planned Stage) (stage : Stage)
    → waiting last.plan ≡ Some stage → (held : Held) (v : Visit) (x : S) (o : Option Value) (w : Wish) (u : Visit)
    (later : Held) (p : Planned over_items.Stage) → (next held v.source).item ≡ o
    → WantsOf (with_item (next held v.source).held (with_source (between g x v) (next held v.source)) o) w u later
    → Comes later u w p → Runs (lifted p) ts last → AsksSo g ts last later u w → Cutting g held v.source x ts last
by_item g m ts last stage waits held v x None w u later p there wants comes runs asks =
    let k = (next held v.source).held in
    let n = with_source (between g x v) (next held v.source) in
    absurd (dead (lifted p) last ts stage (stands k n (wish.Ends (g.ending x)) p tt
    (comes_of (wishes k n (wish.Ends (g.ending x))) later u w p
    (m.ends k x (with_source v (next held v.source)) w u later wants) comes)) waits runs)
by_item g m ts last stage waits held v x (Some i) w u later p there wants comes runs asks =
    let k = (next held v.source).held in
    let n = with_source v (next held v.source) in
    added_on g ts last held v.source x i there
    (asks k (record n { item = i }) x (g.asked x i) (g.argument x i)
    (subst (λ (a : Wished). WantsOf a w u later) (m.wants k x n i) wants))

by_wanted : {S : Type 0} (g : Shape S) (m : Method g) (ts : List Turn) (last : Planned Stage) (stage : Stage)
    → waiting last.plan ≡ Some stage → (held : Held) (v : Visit) (x : S) (w : Wish) (u : Visit) (later : Held)
    (p : Planned over_items.Stage) → WantsOf (asked_of held (between g x v)) w u later → Comes later u w p
    → Runs (lifted p) ts last → AsksSo g ts last later u w → Cutting g held v.source x ts last
by_wanted g m ts last stage waits held v x w u later p wants comes runs asks =
    let seen = subst (λ (a : Wished). WantsOf a w u later) (m.asks held x v) wants in
    by_item g m ts last stage waits held v x (next held v.source).item w u later p refl
    (subst (λ (c : Bool). WantsOf (visited_by (between g x v)
    (if c then previous held v.source else next held v.source)) w u later) m.forwards seen) comes runs asks

by_wish : {S : Type 0} (g : Shape S) (m : Method g) (ts : List Turn) (last : Planned Stage) (stage : Stage)
    → waiting last.plan ≡ Some stage → Behind g ts last → (h : Held) (u : Visit) (w : Wish)
    (p : Planned over_items.Stage) → Comes h u w p → Runs (lifted p) ts last → AsksSo g ts last h u w
by_wish g m ts last stage waits rest h u w p (stops k n site z) runs = λ held v x l q is.
    told_by_message g m ts last rest held v x l q site (lifted (planned k (at_site n site) z)) (knows_of g l q) refl
    (ap lifted (sym (ap (λ (a : Wished). planned_by site a.held a.visit a.wish) is))) runs
by_wish g m ts last stage waits rest h u w p (raises_at_once k left n recv argument e once) runs =
    absurd (dead (raising left e) last ts stage refl waits runs)
by_wish g m ts last stage waits rest h u w p (goes_on k left later n j site recv argument answer z p2 once hears comes) runs =
    λ held v x l q is.
    let on = at_site v site in
    let heard_at = subst (λ (y : Visit). Hears left (at_site y site) answer z j later)
    (sym (ap (λ (a : Wished). a.visit) is)) hears in
    let wants = subst (λ (y : Heard). HearsOf y z j later) (m.hears left x on answer) heard_at in
    told_so left answer [] ts last
    (told_at (knows_of g l q) g.name held left l (q ∷ []) answer (knows_of g l q) refl
    (ap (λ (a : Wished). once_by a.held a.visit a.wish) is ∙ once))
    (by_wanted g m ts last stage waits left on (g.step x answer) z j later p2 wants comes runs
    (by_wish g m ts last stage waits rest later j z p2 comes runs))

going_step : {S : Type 0} (g : Shape S) (m : Method g) (ts : List Turn) (last : Planned Stage) (stage : Stage)
    → waiting last.plan ≡ Some stage → Behind g ts last → Going g ts last
going_step g m ts last stage waits rest = record {
  begins_so = λ held v x p begin runs.
      let b = begun held (between g x v) p begin in
      by_wanted g m ts last stage waits held v x b.wish b.visit b.later p b.wants b.comes runs
      (by_wish g m ts last stage waits rest b.later b.visit b.wish p b.comes runs);
}

going : {S : Type 0} (g : Shape S) (m : Method g) (ts : List Turn) (last : Planned Stage) (stage : Stage)
    → waiting last.plan ≡ Some stage → Going g ts last
going g m [] last stage waits = going_step g m [] last stage waits (λ t us e. absurd (not_cons t us (sym e)))
going g m (t ∷ ts) last stage waits = going_step g m (t ∷ ts) last stage waits
    (λ u us e. subst (λ (xs : List Turn). Going g xs last) (tail_same t u ts us e) (going g m ts last stage waits))

pub cut_off : {S : Type 0} (g : Shape S) (m : Method g) (ts : List Turn) (last : Planned Stage) (stage : Stage)
    → waiting last.plan ≡ Some stage → (held : Held) (v : Visit) (x : S) (p : Planned over_items.Stage)
    → Begins held (between g x v) p → Runs (lifted p) ts last → Cutting g held v.source x ts last
cut_off g m ts last stage waits held v x p begin runs = (going g m ts last stage waits).begins_so held v x p begin runs
