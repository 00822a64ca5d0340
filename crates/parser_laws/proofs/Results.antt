-- What a rule that reads something read, and rules that read no expression.
use Rattle.std.proofs.Common.{◌≡◌, ℕ, Bool, true, false, ◌&&◌, Result, Ok, Err, if◌then◌else◌, inl, inr, refl, sym, ap, subst, ◌∙◌, not}
use Rattle.std.proofs.lemmas.Bool.{cases_Bool}
use Rattle.parser_tree.specs.Node.{Node}
use Rattle.parser_forms.specs.Reading.{Names, Tokens, Read}
use Rattle.rb_base.specs.Result.{◌>>=◌}
use Rattle.parser_laws.specs.Expressions.{is_expression}

pub bind_ok : {A B : Type 0} (r : Result A ℕ) (f : A → Result B ℕ) (y : B) → (r >>= f) ≡ Ok y → (x : A) × (r ≡ Ok x)
    × (f x ≡ Ok y)
bind_ok (Ok x) f y h = (x, refl, h)
bind_ok (Err e) f y h = absurd (cc)

-- what stands behind a test that held, and behind one that didn't
pub then_ok : {A : Type 0} (b : Bool) (r : Result A ℕ) (e : ℕ) (y : A) → (if b then r else Err e) ≡ Ok y → (b ≡ true)
    × (r ≡ Ok y)
then_ok true r e y h = (refl, h)
then_ok false r e y h = absurd (cc)

pub else_ok : {A : Type 0} (b : Bool) (r : Result A ℕ) (e : ℕ) (y : A) → (if b then Err e else r) ≡ Ok y → (b ≡ false)
    × (r ≡ Ok y)
else_ok true r e y h = absurd (cc)
else_ok false r e y h = (refl, h)

true_is_not : true ≡ false → ⊥
true_is_not h = cc

pub differs : {A : Type 0} → true ≡ false → A
differs h = absurd (true_is_not h)

pub and_false : (b : Bool) → (b && false) ≡ false
and_false true = refl
and_false false = refl

pub not_true : (b : Bool) → not b ≡ true → b ≡ false
not_true true h = sym h
not_true false h = refl

pub both : (a b : Bool) → a ≡ true → b ≡ true → (a && b) ≡ true
both true b f g = g
both false b f g = f

pub clash : {A : Type 0} (b : Bool) → b ≡ true → b ≡ false → A
clash b yes_it no_it = absurd (true_is_not (sym yes_it ∙ no_it))

abbrev pub or_else : {A : Type 0} → A → Result A ℕ → A
or_else y (Ok x) = x
or_else y (Err e) = y

abbrev pub same_read : {A : Type 0} → Read A → Read A → Type 0
same_read r s = r ≡ s

pub read_same : {A : Type 0} (x y : A) (names known : Names) (ts rest : Tokens)
    → same_read (Ok (x, names, ts)) (Ok (y, known, rest)) → (x ≡ y) × (names ≡ known) × (ts ≡ rest)
read_same x y names known ts rest h =
    let e : (x, names, ts) ≡ (y, known, rest) = ap (or_else (x, names, ts)) h in
    (ap (λ r. r.0) e, ap (λ r. r.1) e, ap (λ r. r.2) e)

abbrev failed : {A : Type 0} → Result A ℕ → Bool
failed (Ok x) = false
failed (Err e) = true

abbrev pub same : {A : Type 0} → Result A ℕ → Result A ℕ → Type 0
same r s = r ≡ s

pub err_is_none : {A B : Type 0} (e : ℕ) (y : A) → same (Err e) (Ok y) → B
err_is_none e y h = let wrong : true ≡ false = ap failed h in absurd (true_is_not wrong)

abbrev ok_or : {A : Type 0} → A → Result A ℕ → A
ok_or x (Ok y) = y
ok_or x (Err e) = x

pub ok_is : {x y : Tokens} → same (Ok x) (Ok y) → x ≡ y
ok_is {x} h = ap (ok_or x) h

-- no expression is read
abbrev pub Never : {A : Type 0} → (A → Node) → Read A → Type 0
Never {A} see read = (x : A) (known : Names) (rest : Tokens) → read ≡ Ok (x, known, rest) → is_expression (see x) ≡ true
    → ⊥

pub never_bind : {A B : Type 0} (see : B → Node) (r : Result A ℕ) (f : A → Read B) → ((x : A) → Never see (f x))
    → Never see (r >>= f)
never_bind see (Ok x) f h = h x
never_bind see (Err e) f h = λ x known rest wrong is. err_is_none e (x, known, rest) wrong

pub never_ok : {A : Type 0} (see : A → Node) (y : A) (names : Names) (ts : Tokens) → is_expression (see y) ≡ false
    → Never see (Ok (y, names, ts))
never_ok see y names ts no_expression = λ x known rest same is.
    let e = read_same y x names known ts rest same in
    let wrong : is_expression (see y) ≡ true = subst (λ z. is_expression (see z) ≡ true) (sym e.0) is in
    clash (is_expression (see y)) wrong no_expression

pub never_error : {A : Type 0} (see : A → Node) (e : ℕ) → Never see (Err e)
never_error see e = λ x known rest wrong is. err_is_none e (x, known, rest) wrong

pub never_if : {A : Type 0} (see : A → Node) (b : Bool) (r s : Read A) → Never see r → Never see s
    → Never see (if b then r else s)
never_if see true r s first second = first
never_if see false r s first second = second

-- what was read is what a rule gives
pub carry : {A : Type 0} (P : A → Names → Tokens → Type 0) (x y : A) (names known : Names) (ts rest : Tokens)
    → same_read (Ok (x, names, ts)) (Ok (y, known, rest)) → P x names ts → P y known rest
carry P x y names known ts rest h p = subst (λ r. P r.0 r.1 r.2) (ap (or_else (x, names, ts)) h) p

-- what was read is passed on
pub never_passed : {A : Type 0} (see : A → Node) (r : Read A) (known : A × Names × Tokens → Names) → Never see r
    → Never see (r >>= (λ x. Ok (x.0, known x, x.2)))
never_passed see (Ok x) known never = λ y later rest h is.
    let e = read_same x.0 y (known x) later x.2 rest h in
    never x.0 x.1 x.2 refl (subst (λ z. is_expression (see z) ≡ true) (sym e.0) is)
never_passed see (Err e) known never = λ y later rest h is. err_is_none e (y, later, rest) h

pub never_after : {A B : Type 0} (see : B → Node) (r : Read A) (f : A × Names × Tokens → Read B)
    → ((x : A) (names : Names) (ts : Tokens) → r ≡ Ok (x, names, ts) → Never see (f (x, names, ts)))
    → Never see (r >>= f)
never_after see (Ok x) f h = h x.0 x.1 x.2 refl
never_after see (Err e) f h = λ x known rest wrong is. err_is_none e (x, known, rest) wrong

pub never_false : {A : Type 0} (see : A → Node) (r : Read A) (x : A) (names : Names) (ts : Tokens) → Never see r
    → r ≡ Ok (x, names, ts) → is_expression (see x) ≡ false
never_false see r x names ts never h =
    elim (cases_Bool (is_expression (see x))) [ inl is ↦ absurd (never x names ts h is) | inr other ↦ other ]

-- what is read meets a test
abbrev pub Always : {A : Type 0} → (A → Bool) → Read A → Type 0
Always {A} holds read = (x : A) (known : Names) (rest : Tokens) → read ≡ Ok (x, known, rest) → holds x ≡ true

pub always_bind : {A B : Type 0} (holds : B → Bool) (r : Result A ℕ) (f : A → Read B) → ((x : A) → Always holds (f x))
    → Always holds (r >>= f)
always_bind holds (Ok x) f h = h x
always_bind holds (Err e) f h = λ x known rest wrong. err_is_none e (x, known, rest) wrong

pub always_after : {A B : Type 0} (holds : B → Bool) (r : Read A) (f : A × Names × Tokens → Read B)
    → ((x : A) (k : Names) (m : Tokens) → r ≡ Ok (x, k, m) → Always holds (f (x, k, m))) → Always holds (r >>= f)
always_after holds (Ok x) f h = h x.0 x.1 x.2 refl
always_after holds (Err e) f h = λ x known rest wrong. err_is_none e (x, known, rest) wrong

pub always_ok : {A : Type 0} (holds : A → Bool) (y : A) (names : Names) (ts : Tokens) → holds y ≡ true
    → Always holds (Ok (y, names, ts))
always_ok holds y names ts is x known rest h = subst (λ z. holds z ≡ true) (read_same y x names known ts rest h).0 is

pub always_error : {A : Type 0} (holds : A → Bool) (e : ℕ) → Always holds (Err e)
always_error holds e x known rest h = err_is_none e (x, known, rest) h

pub always_if : {A : Type 0} (holds : A → Bool) (b : Bool) (r s : Read A) → Always holds r → Always holds s
    → Always holds (if b then r else s)
always_if holds true r s f g = f
always_if holds false r s f g = g

pub always_then : {A : Type 0} (holds : A → Bool) (b : Bool) (r : Read A) (e : ℕ) → (b ≡ true → Always holds r)
    → Always holds (if b then r else Err e)
always_then holds true r e f = f refl
always_then holds false r e f = always_error holds e
