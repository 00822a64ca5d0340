-- Items that are taken or tested, one more at a time.
use Rattle.std.proofs.Common.{◌≡◌, ℕ, zero, suc, ◌<◌, List, [], ◌∷◌, ◌++◌, ap, sym, ◌∙◌, append-nil, append_assoc, arith}
use Rattle.std.specs.Prelude.{Option, Some, None, Bool, true, false, if◌then◌else◌}
use Rattle.rb_value.specs.Value.{truth}
use Rattle.iter_items.specs.declared.wish.Wish.TheVariants.{Ends}
use Rattle.rb_value.specs.declared.value.Value.{Value}
use Rattle.rb_store.specs.Held.{Held}
use Rattle.iter_items.specs.declared.source.Source.{Source}
use Rattle.iter_items.specs.declared.visit.Visit.{Visit}
use Rattle.iter_items.specs.Asking.{Taken, put_before, put_first, after, taken, tested_from, tested_on, with_source, wishes, undecided, decides, is_any}
use Rattle.iter_items.specs.Sources as sources

before_assoc : (vs : List Value) (v : Value) (t : Taken) → put_before vs (put_first v t) ≡ put_before (vs ++ v ∷ []) t
before_assoc vs v t = ap (λ (us : List Value). record t { items = us }) (sym (append_assoc vs (v ∷ []) t.items))

taken_suc : (n m : ℕ) (h : Held) (s : Source) → n ≡ suc m → taken n h s
    ≡ after (sources.next h s).item (sources.next h s) (taken m (sources.next h s).held (sources.next h s).source)
taken_suc n m h s e = ap (λ (k : ℕ). taken k h s) e

pub take_more : (n m : ℕ) (h : Held) (s : Source) (vs : List Value) (v : Value) → n ≡ suc m
    → Some v ≡ (sources.next h s).item
    → put_before vs (taken n h s)
    ≡ put_before (vs ++ v ∷ []) (taken m (sources.next h s).held (sources.next h s).source)
take_more n m h s vs v e f = ap (put_before vs) (taken_suc n m h s e
    ∙ ap (λ (o : Option Value). after o (sources.next h s) (taken m (sources.next h s).held (sources.next h s).source)) (sym f))
    ∙ before_assoc vs v (taken m (sources.next h s).held (sources.next h s).source)

none_taken : (n : ℕ) (h : Held) (s : Source) → 0 < n → None ≡ (sources.next h s).item
    → taken n h s ≡ record { items = []; source = (sources.next h s).source; held = (sources.next h s).held }
none_taken zero h s lt f = absurd (omega (arith, lt))
none_taken (suc m) h s lt f = ap (λ (o : Option Value). after o (sources.next h s)
    (taken m (sources.next h s).held (sources.next h s).source)) (sym f)

pub take_none : (n : ℕ) (h : Held) (s : Source) (vs : List Value) → 0 < n → None ≡ (sources.next h s).item
    → put_before vs (taken n h s)
    ≡ record { items = vs; source = (sources.next h s).source; held = (sources.next h s).held }
take_none n h s vs lt f = ap (put_before vs) (none_taken n h s lt f)
    ∙ ap (λ (us : List Value). record { items = us; source = (sources.next h s).source; held = (sources.next h s).held })
    (append-nil vs)

pub take_all : (n : ℕ) (h : Held) (s : Source) (vs : List Value) → n ≡ zero
    → put_before vs (taken n h s) ≡ record { items = vs; source = s; held = h }
take_all n h s vs e = ap (λ (k : ℕ). put_before vs (taken k h s)) e
    ∙ ap (λ (us : List Value). record { items = us; source = s; held = h }) (append-nil vs)

tested_suc : (n m : ℕ) (h : Held) (v : Visit) → n ≡ suc m → tested_from n h v
    ≡ tested_on v (sources.next h v.source).item (sources.next h v.source)
    (tested_from m (sources.next h v.source).held (with_source v (sources.next h v.source)))
tested_suc n m h v e = ap (λ (k : ℕ). tested_from k h v) e

tested_item : (n m : ℕ) (h : Held) (v : Visit) (o : Option Value) → n ≡ suc m → o ≡ (sources.next h v.source).item
    → tested_from n h v ≡ tested_on v o (sources.next h v.source)
    (tested_from m (sources.next h v.source).held (with_source v (sources.next h v.source)))
tested_item n m h v o e f = tested_suc n m h v e
    ∙ ap (λ (x : Option Value). tested_on v x (sources.next h v.source)
    (tested_from m (sources.next h v.source).held (with_source v (sources.next h v.source)))) (sym f)

pub tested_more : (n m : ℕ) (h : Held) (v : Visit) (item : Value) → n ≡ suc m
    → Some item ≡ (sources.next h v.source).item → decides v.task item ≡ false
    → tested_from n h v ≡ tested_from m (sources.next h v.source).held (with_source v (sources.next h v.source))
tested_more n m h v item e f d = tested_item n m h v (Some item) e f
    ∙ ap (λ (b : Bool). if b then wishes (sources.next h v.source).held (with_source v (sources.next h v.source))
    (Ends (truth (is_any v.task))) else tested_from m (sources.next h v.source).held
    (with_source v (sources.next h v.source))) d

pub tested_found : (n m : ℕ) (h : Held) (v : Visit) (item : Value) → n ≡ suc m
    → Some item ≡ (sources.next h v.source).item → decides v.task item ≡ true
    → tested_from n h v ≡ wishes (sources.next h v.source).held (with_source v (sources.next h v.source))
    (Ends (truth (is_any v.task)))
tested_found n m h v item e f d = tested_item n m h v (Some item) e f
    ∙ ap (λ (b : Bool). if b then wishes (sources.next h v.source).held (with_source v (sources.next h v.source))
    (Ends (truth (is_any v.task))) else tested_from m (sources.next h v.source).held
    (with_source v (sources.next h v.source))) d

pub tested_none : (n m : ℕ) (h : Held) (v : Visit) → n ≡ suc m → None ≡ (sources.next h v.source).item
    → tested_from n h v ≡ wishes (sources.next h v.source).held (with_source v (sources.next h v.source)) (undecided v)
tested_none n m h v e f = tested_item n m h v None e f
