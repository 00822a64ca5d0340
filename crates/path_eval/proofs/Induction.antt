-- From the step law to whole runs.
use Rattle.std.proofs.Common.{◌≡◌, ◌⊎◌, ℕ, zero, suc, ◌+◌, ◌-◌, ◌*◌, ◌<◌, ◌≤◌, Bool, true, false, refl, sym, ap, ◌∙◌, subst, ⊎_elim, inl, inr, arith, true≢false}
use Rattle.std.proofs.lemmas.Bool.{cases_lt}
use Rattle.path_eval.specs.Steps.{times, Matched, StepLaw, Follows}

times-add : {X : Type 0} (f : X → X) (a b : ℕ) (x : X) → times (a + b) f x ≡ times b f (times a f x)
times-add f zero b x = let e : zero + b ≡ b = omega arith in ap (λ n. times n f x) e
times-add f (suc a) b x = let e : suc a + b ≡ suc (a + b) = omega arith in ap (λ n. times n f x) e
    ∙ times-add f a b (f x)

times-fixed : {X : Type 0} (f : X → X) (n : ℕ) (x : X) → f x ≡ x → times n f x ≡ x
times-fixed f zero x e = refl
times-fixed f (suc n) x e = ap (times n f) e ∙ times-fixed f n x e

module _ {C M V : Type 0} (go : C → C) (turn : M → M) (seen : C → V) (shown : M → V) (over : V → Bool) (measure : C → ℕ)
    (Related : C → M → Type 0) (law : StepLaw go turn seen shown over measure Related) where
  -- after any number of transitions the two are related again
  abbrev Reached : ℕ → C → M → Type 0
  Reached n c m = (k : ℕ) × (k ≤ 32 * n) × Related (times n go c) (times k turn m)

  reach_by : (n : ℕ) (c : C) (m : M) → Related c m → ((m' : M) → Related (go c) m' → Reached n (go c) m') → (b : Bool)
      → over (seen c) ≡ b → Reached (suc n) c m
  reach_by n c m r rest true e =
      let same = law.ended c e in
      (0, omega arith, subst (λ x. Related x m) (sym (ap (times n go) same ∙ times-fixed go n c same)) r)
  reach_by n c m r rest false e =
      let a = law.matched c m r e in
      let b = rest (times a.turns turn m) a.related in (
        a.turns + b.0,
        omega (arith, a.few, b.1),
        subst (Related (times n go (go c))) (sym (times-add turn a.turns b.0 m)) b.2,
      )

  forward : (n : ℕ) (c : C) (m : M) → Related c m → Reached n c m
  forward zero c m r = (0, omega arith, r)
  forward (suc n) c m r = reach_by n c m r (forward n (go c)) (over (seen c)) refl

  -- after any number of turns the second shows what the first does after some number of transitions
  abbrev Found : ℕ → C → M → Type 0
  Found n c m = (k : ℕ) × (seen (times k go c) ≡ shown (times n turn m))
      × ((over (seen (times k go c)) ≡ true) ⊎ (n ≤ 32 * (k + 1)))

  -- one transition earlier
  found_later : (n t : ℕ) (c : C) (m : M) → t ≤ 32 → Found n (go c) (times t turn m) → Found (t + n) c m
  found_later n t c m few f = (
    suc f.0,
    f.1 ∙ ap shown (sym (times-add turn t n m)),
    ⊎_elim inl (λ (le : n ≤ 32 * (f.0 + 1)). inr (omega arith)) f.2,
  )

  find_between : (n : ℕ) (c : C) (m : M) → Related c m → n ≤ 32 → (shown (times n turn m) ≡ seen c)
      ⊎ (shown (times n turn m) ≡ seen (go c)) → Found n c m
  find_between n c m r le = ⊎_elim (λ e. (0, sym e, inr (omega arith))) (λ e. (1, sym e, inr (omega arith)))

  -- shorter runs are known, and those as long from configurations of a lesser measure
  abbrev Below : ℕ → Type 0
  Below b = (n : ℕ) (c : C) (m : M) → n < b → Related c m → Found n c m

  find_by_turns : (b n q : ℕ) (c : C) (m : M) → n ≤ b → Related c m → Below b
      → ((c' : C) → measure c' < q → Related c' m → Found n c' m) → measure c ≤ q
      → (a : Matched go turn seen shown measure Related c m) → (n < a.turns) ⊎ (a.turns ≤ n) → Found n c m
  find_by_turns b n q c m le r below less mq a (inl lt) = find_between n c m r (omega (arith, a.few)) (a.between n lt)
  find_by_turns b n q c m le r below less mq a (inr ge) = at_turns a.turns refl
    where
      at_turns : (t : ℕ) → a.turns ≡ t → Found n c m
      at_turns zero e = subst (λ k. Found k c m) (omega arith)
          (found_later n 0 c m (omega arith) (less (go c) (omega (arith, a.falls e))
          (subst (λ t. Related (go c) (times t turn m)) e a.related)))
      at_turns (suc t) e =
          let rel : Related (go c) (times (suc t) turn m) = subst (λ k. Related (go c) (times k turn m)) e a.related in
          let f = found_later (n - suc t) (suc t) c m (omega (arith, a.few))
          (below (n - suc t) (go c) (times (suc t) turn m) (omega arith) rel) in
          let sum : suc t + (n - suc t) ≡ n = omega arith in
          subst (λ k. Found k c m) sum f

  find_step : (b n q : ℕ) (c : C) (m : M) → n ≤ b → Related c m → Below b
      → ((c' : C) → measure c' < q → Related c' m → Found n c' m) → measure c ≤ q → (o : Bool) → over (seen c) ≡ o
      → Found n c m
  find_step b n q c m le r below less mq true e =
      let s = law.alike c m r in
      let still = law.stopped m (ap over s ∙ e) in
      (0, sym s ∙ ap shown (sym (times-fixed turn n m still)), inl e)
  find_step b n q c m le r below less mq false e =
      let a = law.matched c m r e in find_by_turns b n q c m le r below less mq a (cases_lt n a.turns)

  find_measure : (q b : ℕ) → Below b → (n : ℕ) (c : C) (m : M) → n ≤ b → measure c ≤ q → Related c m → Found n c m
  find_measure zero b below n c m le mq r = find_step b n 0 c m le r below (λ c' lt r'. absurd (omega arith)) mq
      (over (seen c)) refl
  find_measure (suc q) b below n c m le mq r =
      find_step b n (suc q) c m le r below (λ c' lt r'. find_measure q b below n c' m le (omega arith) r') mq
      (over (seen c)) refl

  find_all : (b : ℕ) → Below b
  find_all zero n c m lt r = absurd (omega arith)
  find_all (suc b) n c m lt r = find_measure (measure c) b (find_all b) n c m (omega arith) (omega arith) r

  pub follows : (c : C) (m : M) → Related c m → Follows go turn seen shown over c m
  follows c m r = record {
    ends = λ n o.
        let f = forward n c m r in
        let s = law.alike (times n go c) (times f.0 turn m) f.2 in
        let still = law.stopped (times f.0 turn m) (ap over s ∙ o) in
        let sum : f.0 + (32 * n + 32 - f.0) ≡ 32 * n + 32 = omega (arith, f.1) in
        ap (λ k. shown (times k turn m)) (sym sum) ∙ ap shown (times-add turn f.0 (32 * n + 32 - f.0) m)
        ∙ ap shown (times-fixed turn (32 * n + 32 - f.0) (times f.0 turn m) still) ∙ s;
    ends_only = λ n o. let f = find_all (suc n) n c m (omega arith) r in (f.0, f.1);
    goes_on = λ n o.
        let f = find_all (suc n) n c m (omega arith) r in
        (f.0, f.1, ⊎_elim (λ e. absurd (true≢false (sym e ∙ ap over f.1 ∙ o))) (λ le. le) f.2);
  }
