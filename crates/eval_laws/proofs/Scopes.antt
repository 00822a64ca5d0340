-- Lists of scopes that grow, and in which variables are set: the scopes around each stay, with the names in them.
use Rattle.std.proofs.Common.{◌≡◌, ◌≤◌, ◌<◌, ℕ, zero, suc, List, [], ◌∷◌, ◌++◌, length, Bool, true, false, refl, sym, ap, ◌∙◌, subst, arith, length-append, length-set, true≢false, ⊎_elim}
use Rattle.std.specs.Prelude.{Option, Some, None, is_some, nat_lt, if◌then◌else◌}
use Rattle.std.proofs.lemmas.List.{get_or_append_left, get_or_push, get_or-set_same, get_or-set_other}
use Rattle.std.proofs.lemmas.Bool.Decides.{nat_tests, Decides-eqb}
use Rattle.std.proofs.lemmas.Bool.{cases_eq}
use Rattle.std.proofs.lemmas.Slice.Eq.{bytes_eq-Decides}
use Rattle.def_core.specs.Sound.{Census, IsValue, OptionIs, AllAre}
use Rattle.rb_value.specs.declared.value.Value.{Value}
use Rattle.ir_core.specs.CoreForm.{Local, named, hidden, pattern, rest}
use Rattle.def_eval.specs.Configuration.{Scope}
use Rattle.def_eval.specs.Scopes.{same_local, value_in, put_value, scope_at, no_scope, outward, scopes_around, first_with, last_or, put_in}
use Rattle.eval_laws.proofs.Tests.{either, tested}
use Rattle.eval_laws.specs.Fits.{ScopeFits, ScopesFit, Sees, SceneFits}

-- Locals.

pub same_is : (x y : Local) → same_local x y ≡ true → x ≡ y
same_is (named x) (named y) h = ap named ((bytes_eq-Decides x y).0 h)
same_is (named x) (hidden n) h = absurd (true≢false (sym h))
same_is (named x) (pattern n) h = absurd (true≢false (sym h))
same_is (named x) rest h = absurd (true≢false (sym h))
same_is (hidden m) (named y) h = absurd (true≢false (sym h))
same_is (hidden m) (hidden n) h = ap hidden ((Decides-eqb m n).0 h)
same_is (hidden m) (pattern n) h = absurd (true≢false (sym h))
same_is (hidden m) rest h = absurd (true≢false (sym h))
same_is (pattern m) (named y) h = absurd (true≢false (sym h))
same_is (pattern m) (hidden n) h = absurd (true≢false (sym h))
same_is (pattern m) (pattern n) h = ap pattern ((Decides-eqb m n).0 h)
same_is (pattern m) rest h = absurd (true≢false (sym h))
same_is rest (named y) h = absurd (true≢false (sym h))
same_is rest (hidden n) h = absurd (true≢false (sym h))
same_is rest (pattern n) h = absurd (true≢false (sym h))
same_is rest rest h = refl

-- Variables.

abbrev pub is_in : List (Local × Value) → Local → Bool
is_in vs x = is_some (value_in vs x)

first_in : (t : Bool) (v : Value) (o : Option Value) → t ≡ true → is_some (if t then Some v else o) ≡ true
first_in true v o e = refl
first_in false v o e = absurd (true≢false (sym e))

in_rest : (t : Bool) (v : Value) (o p : Option Value) → (is_some o ≡ true → is_some p ≡ true)
    → is_some (if t then Some v else o) ≡ true → is_some (if t then Some v else p) ≡ true
in_rest true v o p f h = refl
in_rest false v o p f h = f h

in_renamed : (t : Bool) (v w : Value) (o : Option Value) → is_some (if t then Some v else o) ≡ true
    → is_some (if t then Some w else o) ≡ true
in_renamed true v w o h = refl
in_renamed false v w o h = h

-- a variable set: no name is lost
has_put : (vs : List (Local × Value)) (x y : Local) (v : Value) → is_in vs y ≡ true
    → is_in (put_value vs x v) y ≡ true
has_put [] x y v h = absurd (true≢false (sym h))
has_put (u ∷ vs) x y v h =
    tested (λ ws. is_in ws y ≡ true) (same_local x u.0) ((x, v) ∷ vs) (u ∷ put_value vs x v)
    (λ e. in_renamed (same_local y x) u.1 v (value_in vs y)
    (subst (λ z. is_some (if same_local y z then Some u.1 else value_in vs y) ≡ true) (sym (same_is x u.0 e)) h))
    (λ e. in_rest (same_local y u.0) u.1 (value_in vs y) (value_in (put_value vs x v) y) (has_put vs x y v) h)

-- what the variables hold is of the store
abbrev pub Values : Census → List (Local × Value) → Type 0
Values k vs = AllAre (λ v. IsValue k v.1) vs

pub value_found : (k : Census) (vs : List (Local × Value)) (x : Local) → Values k vs → OptionIs (IsValue k) (value_in vs x)
value_found k [] x h = tt
value_found k (v ∷ vs) x h =
    either (OptionIs (IsValue k)) (same_local x v.0) (Some v.1) (value_in vs x) h.0 (value_found k vs x h.1)

pub value_put : (k : Census) (vs : List (Local × Value)) (x : Local) (v : Value) → Values k vs → IsValue k v
    → Values k (put_value vs x v)
value_put k [] x v h is = (is, tt)
value_put k (u ∷ vs) x v h is =
    either (Values k) (same_local x u.0) ((x, v) ∷ vs) (u ∷ put_value vs x v) (is, h.1)
    (h.0, value_put k vs x v h.1 is)

-- Later lists of scopes.

-- the parent of each scope has a smaller number
abbrev pub Parents : List Scope → Type 0
Parents cs = (n : ℕ) → n < length cs → OptionIs (λ p. p < n) (scope_at cs n).parent

-- each scope is there still, with its parent and its variables
pub record Later (cs ds : List Scope) : Type 0 where
  pub longer : length cs ≤ length ds
  pub parents : (n : ℕ) → n < length cs → (scope_at ds n).parent ≡ (scope_at cs n).parent
  pub names : (n : ℕ) (x : Local) → n < length cs → is_in (scope_at cs n).variables x ≡ true
      → is_in (scope_at ds n).variables x ≡ true

pub later_itself : (cs : List Scope) → Later cs cs
later_itself cs = record { longer = omega arith; parents = λ n h. refl; names = λ n x h k. k }

-- one scope more
pub later_more : (cs : List Scope) (c : Scope) → Later cs (cs ++ c ∷ [])
later_more cs c = record {
  longer = rw length-append (omega arith);
  parents = λ n h. ap (λ (d : Scope). d.parent) (get_or_append_left cs (c ∷ []) no_scope n h);
  names = λ n x h k. ap (λ (d : Scope). is_in d.variables x) (get_or_append_left cs (c ∷ []) no_scope n h) ∙ k;
}

-- one of the variables set
module _ (cs : List Scope) (n : ℕ) (x : Local) (v : Value) (within : n < length cs) where
  put_scope : Scope
  put_scope = record (scope_at cs n) { variables = put_value (scope_at cs n).variables x v }

  -- what holds of the scope as it is, and of it with the variable set, holds of each scope after that
  put_at : (P : ℕ → Scope → Type 0) (m : ℕ) → P m (scope_at cs m) → P n (record (scope_at cs n) { variables = put_value (scope_at cs n).variables x v })
      → P m (scope_at (put_in cs n x v) m)
  put_at P m h k = ⊎_elim
      (λ e. subst (λ i. P i (scope_at (put_in cs n x v) i)) (sym e) (subst (P n) (sym (get_or-set_same cs n _ no_scope within)) k))
      (λ e. subst (P m) (sym (get_or-set_other cs n m _ no_scope e)) h) (cases_eq m n)

  pub later_put : Later cs (put_in cs n x v)
  later_put = record {
    longer = rw length-set (omega arith);
    parents = λ m h. put_at (λ i d. d.parent ≡ (scope_at cs i).parent) m refl refl;
    names = λ m y h k.
        put_at (λ i d. is_in (scope_at cs i).variables y ≡ true → is_in d.variables y ≡ true) m (λ l. l)
        (has_put (scope_at cs n).variables x y v) k;
  }

  pub scopes_put : (k : Census) → ScopesFit k cs → IsValue k v → ScopesFit k (put_in cs n x v)
  scopes_put k h is m lt =
      let lt2 : m < length cs = rw length-set at lt in
      put_at (ScopeFits k) m (h m lt2) (record {
        parent = (h n within).parent;
        variables = value_put k (scope_at cs n).variables x v (h n within).variables is;
      })

pub scopes_more : (k : Census) (cs : List Scope) (c : Scope) → ScopesFit k cs → ScopeFits k (length cs) c
    → ScopesFit k (cs ++ c ∷ [])
scopes_more k cs c h new n lt = by (nat_lt n (length cs)) refl
  where
    by : (t : Bool) → nat_lt n (length cs) ≡ t → ScopeFits k n (scope_at (cs ++ c ∷ []) n)
    by true e =
        let within : n < length cs = grind (arith, nat_tests, e) in
        subst (ScopeFits k n) (sym (get_or_append_left cs (c ∷ []) no_scope n within)) (h n within)
    by false e =
        let last : length cs ≡ n = grind (arith, nat_tests, e, rw length-append at lt) in
        subst (λ m. ScopeFits k m (scope_at (cs ++ c ∷ []) m)) last
        (subst (ScopeFits k (length cs)) (sym (get_or_push cs c no_scope (length cs) refl)) new)

pub parents_of : (k : Census) (cs : List Scope) → ScopesFit k cs → Parents cs
parents_of k cs h n lt = (h n lt).parent

-- The scopes around a scope: each is there, and they are the same later.

parent_within : (cs : List Scope) (n : ℕ) → n < length cs → (o : Option ℕ) → OptionIs (λ p. p < n) o
    → OptionIs (λ p. p < length cs) o
parent_within cs n h None k = tt
parent_within cs n h (Some m) k = omega (arith, k, h)

around_same : (most : ℕ) (cs ds : List Scope) (o : Option ℕ) → Parents cs → Later cs ds
    → OptionIs (λ p. p < length cs) o → outward most ds o ≡ outward most cs o
around_same zero cs ds o p l h = refl
around_same (suc most) cs ds None p l h = refl
around_same (suc most) cs ds (Some n) p l h =
    ap (λ ns. n ∷ ns) (ap (outward most ds) (l.parents n h)
    ∙ around_same most cs ds (scope_at cs n).parent p l (parent_within cs n h (scope_at cs n).parent (p n h)))

pub scopes_same : (cs ds : List Scope) (n : ℕ) → Parents cs → Later cs ds → n < length cs
    → scopes_around ds n ≡ scopes_around cs n
unfolding scopes_around
scopes_same cs ds n p l h = around_same (suc n) cs ds (Some n) p l h

around_there : (most : ℕ) (cs : List Scope) (o : Option ℕ) → Parents cs → OptionIs (λ p. p < length cs) o
    → AllAre (λ n. n < length cs) (outward most cs o)
around_there zero cs o p h = tt
around_there (suc most) cs None p h = tt
around_there (suc most) cs (Some n) p h =
    (h, around_there most cs (scope_at cs n).parent p (parent_within cs n h (scope_at cs n).parent (p n h)))

-- each scope around one that is there is there
pub scopes_there : (cs : List Scope) (n : ℕ) → Parents cs → n < length cs
    → AllAre (λ m. m < length cs) (scopes_around cs n)
unfolding scopes_around
scopes_there cs n p h = around_there (suc n) cs (Some n) p h

pub last_there : (cs : List Scope) (n : ℕ) (ns : List ℕ) → n < length cs → AllAre (λ m. m < length cs) ns
    → last_or n ns < length cs
last_there cs n [] h all = h
last_there cs n (m ∷ ns) h all = last_there cs m ns all.0 all.1

pub first_there : (cs : List Scope) (ns : List ℕ) (x : Local) → AllAre (λ m. m < length cs) ns
    → OptionIs (λ m. m < length cs) (first_with cs ns x)
first_there cs [] x all = tt
first_there cs (n ∷ ns) x all =
    either (OptionIs (λ m. m < length cs)) (is_in (scope_at cs n).variables x) (Some n) (first_with cs ns x) all.0
    (first_there cs ns x all.1)

-- the scope in which a local is found has it
pub first_has : (cs : List Scope) (ns : List ℕ) (x : Local)
    → OptionIs (λ m. is_in (scope_at cs m).variables x ≡ true) (first_with cs ns x)
first_has cs [] x = tt
first_has cs (n ∷ ns) x =
    tested (OptionIs (λ m. is_in (scope_at cs m).variables x ≡ true)) (is_in (scope_at cs n).variables x) (Some n)
    (first_with cs ns x) (λ e. e) (λ e. first_has cs ns x)

first_by : (t u : Bool) (n : ℕ) (o p : Option ℕ) → (t ≡ true → u ≡ true) → (is_some o ≡ true → is_some p ≡ true)
    → is_some (if t then Some n else o) ≡ true → is_some (if u then Some n else p) ≡ true
first_by t true n o p f g k = refl
first_by true false n o p f g k = absurd (true≢false (sym (f refl)))
first_by false false n o p f g k = g k

first_later : (cs ds : List Scope) (ns : List ℕ) (x : Local) → Later cs ds → AllAre (λ m. m < length cs) ns
    → is_some (first_with cs ns x) ≡ true → is_some (first_with ds ns x) ≡ true
first_later cs ds [] x l all h = h
first_later cs ds (n ∷ ns) x l all h =
    first_by (is_in (scope_at cs n).variables x) (is_in (scope_at ds n).variables x) n (first_with cs ns x)
    (first_with ds ns x) (l.names n x all.0) (first_later cs ds ns x l all.1) h

-- What a text sees is seen later.

module _ (cs ds : List Scope) (p : Parents cs) (l : Later cs ds) (n : ℕ) (within : n < length cs) where
  sees_later : (ls : List Local) → Sees cs n ls → Sees ds n ls
  sees_later ls h x bound out =
      subst (λ ns. is_some (first_with ds ns x) ≡ true) (sym (scopes_same cs ds n p l within))
      (first_later cs ds (scopes_around cs n) x l (scopes_there cs n p within) (h x bound out))

  pub scene_later : (a : _) → SceneFits cs n a → SceneFits ds n a
  scene_later a h = record {
    sees = sees_later a.known h.sees;
    owns = λ x own.
        subst (λ ns. is_in (scope_at ds (last_or n ns)).variables x ≡ true) (sym (scopes_same cs ds n p l within))
        (l.names (last_or n (scopes_around cs n)) x
        (last_there cs n (scopes_around cs n) within (scopes_there cs n p within)) (h.owns x own));
  }
