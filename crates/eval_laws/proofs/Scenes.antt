-- What a body sees in a new scope: its parameters and locals, and what is seen around it.
use Rattle.std.proofs.Common.{◌≡◌, ◌≤◌, ◌<◌, ℕ, zero, suc, List, [], ◌∷◌, ◌++◌, length, Bool, true, false, refl, sym, ap, ◌∙◌, subst, arith, length-append, true≢false, ◌⊎◌, inl, inr, ⊎_elim}
use Rattle.std.specs.Prelude.{Option, Some, None, is_some, nat_lt, if◌then◌else◌}
use Rattle.std.proofs.lemmas.List.{get_or_push, get_or_append_left}
use Rattle.std.proofs.lemmas.Bool.Decides.{nat_tests}
use Rattle.rb_value.specs.declared.value.Value.{Value}
use Rattle.rb_value.specs.declared.value.Value.TheVariants.{Nil}
use Rattle.rb_value.specs.declared.value.ObjId.{ObjId}
use Rattle.def_core.specs.Sound.{Census, IsValue, OptionIs, AllAre}
use Rattle.ir_core.specs.CoreForm.{Local, named, hidden, pattern, rest, Parameters}
use Rattle.ir_core.specs.Program.{Around, within_block, within_method, within_class, are_same, is_bound, is_own, all_parameters}
use Rattle.def_eval.specs.Configuration.{Scope, all_nil}
use Rattle.def_eval.specs.Scopes.{same_local, value_in, scope_at, no_scope, outward, scopes_around, first_with, last_or, with_values, all_of, block_value, first_variables}
use Rattle.eval_laws.specs.Fits.{SceneFits}
use Rattle.eval_laws.proofs.Scopes.{Parents, later_more, Values, is_in, scopes_same, scene_later}

-- Locals of a list are variables of a scope that has them all.

same_test : (x y : Local) → are_same x y ≡ true → same_local x y ≡ true
same_test (named x) (named y) h = h
same_test (named x) (hidden n) h = h
same_test (named x) (pattern n) h = h
same_test (named x) rest h = h
same_test (hidden m) (named y) h = h
same_test (hidden m) (hidden n) h = h
same_test (hidden m) (pattern n) h = h
same_test (hidden m) rest h = h
same_test (pattern m) (named y) h = h
same_test (pattern m) (hidden n) h = h
same_test (pattern m) (pattern n) h = h
same_test (pattern m) rest h = h
same_test rest (named y) h = h
same_test rest (hidden n) h = h
same_test rest (pattern n) h = h
same_test rest rest h = refl

bound_first : (t u : Bool) → (if t then true else u) ≡ true → (t ≡ true) ⊎ (u ≡ true)
bound_first true u h = inl refl
bound_first false u h = inr h

pub bound_either : (x : Local) (xs ys : List Local) → is_bound x (xs ++ ys) ≡ true
    → (is_bound x xs ≡ true) ⊎ (is_bound x ys ≡ true)
bound_either x [] ys h = inr h
bound_either x (z ∷ xs) ys h = ⊎_elim (λ e. inl (taken (are_same x z) (is_bound x xs) e))
    (λ k. ⊎_elim (λ l. inl (later (are_same x z) (is_bound x xs) l)) (λ r. inr r) (bound_either x xs ys k))
    (bound_first (are_same x z) (is_bound x (xs ++ ys)) h)
  where
    taken : (t u : Bool) → t ≡ true → (if t then true else u) ≡ true
    taken true u e = refl
    taken false u e = absurd (true≢false (sym e))

    later : (t u : Bool) → u ≡ true → (if t then true else u) ≡ true
    later true u e = refl
    later false u e = e

-- variables that have each of these locals
abbrev Has : List (Local × Value) → List Local → Type 0
Has vs ls = (x : Local) → is_bound x ls ≡ true → is_in vs x ≡ true

head_in : (t : Bool) (v : Value) (o : Option Value) → t ≡ true → is_some (if t then Some v else o) ≡ true
head_in true v o e = refl
head_in false v o e = absurd (true≢false (sym e))

tail_in : (t : Bool) (v : Value) (o : Option Value) → is_some o ≡ true → is_some (if t then Some v else o) ≡ true
tail_in true v o e = refl
tail_in false v o e = e

in_left : (vs us : List (Local × Value)) (x : Local) → is_in vs x ≡ true → is_in (vs ++ us) x ≡ true
in_left [] us x h = absurd (true≢false (sym h))
in_left (v ∷ vs) us x h = by (same_local x v.0) v.1 (value_in vs x) (value_in (vs ++ us) x) (in_left vs us x) h
  where
    by : (t : Bool) (v : Value) (o p : Option Value) → (is_some o ≡ true → is_some p ≡ true)
        → is_some (if t then Some v else o) ≡ true → is_some (if t then Some v else p) ≡ true
    by true v o p f k = refl
    by false v o p f k = f k

in_right : (vs us : List (Local × Value)) (x : Local) → is_in us x ≡ true → is_in (vs ++ us) x ≡ true
in_right [] us x h = h
in_right (v ∷ vs) us x h = tail_in (same_local x v.0) v.1 (value_in (vs ++ us) x) (in_right vs us x h)

has_values : (ls : List Local) (vs : List Value) → Has (with_values ls vs) ls
has_values [] vs x h = absurd (true≢false (sym h))
has_values (l ∷ ls) [] x h =
    ⊎_elim (λ e. head_in (same_local x l) Nil (value_in (with_values ls []) x) (same_test x l e))
    (λ k. tail_in (same_local x l) Nil (value_in (with_values ls []) x) (has_values ls [] x k))
    (bound_first (are_same x l) (is_bound x ls) h)
has_values (l ∷ ls) (v ∷ vs) x h =
    ⊎_elim (λ e. head_in (same_local x l) v (value_in (with_values ls vs) x) (same_test x l e))
    (λ k. tail_in (same_local x l) v (value_in (with_values ls vs) x) (has_values ls vs x k))
    (bound_first (are_same x l) (is_bound x ls) h)

has_nil : (ls : List Local) → Has (all_nil ls) ls
has_nil [] x h = absurd (true≢false (sym h))
has_nil (l ∷ ls) x h =
    ⊎_elim (λ e. head_in (same_local x l) Nil (value_in (all_nil ls) x) (same_test x l e))
    (λ k. tail_in (same_local x l) Nil (value_in (all_nil ls) x) (has_nil ls x k))
    (bound_first (are_same x l) (is_bound x ls) h)

-- the parameters of a body are among its variables at its start, and so are its locals
module _ (p : Parameters) (ls : List Local) (vs : List Value) (block : Option ObjId) where
  abbrev given : List (Local × Value)
  given = with_values (all_of p) vs ++ with_values p.block (block_value block ∷ [])

  parameter_in : (x : Local) → is_bound x (all_parameters p) ≡ true → is_in (first_variables p ls vs block) x ≡ true
  unfolding first_variables
  parameter_in x h =
      let blocks = with_values p.block (block_value block ∷ []) in
      in_left given (all_nil ls) x (⊎_elim
      (λ k. in_left (with_values (all_of p) vs) blocks x (has_values (all_of p) vs x k))
      (λ k. in_right (with_values (all_of p) vs) blocks x (has_values p.block (block_value block ∷ []) x k))
      (bound_either x (all_of p) p.block h))

  local_in : (x : Local) → is_bound x ls ≡ true → is_in (first_variables p ls vs block) x ≡ true
  unfolding first_variables
  local_in x h = in_right given (all_nil ls) x (has_nil ls x h)

-- What they hold is of the store.

module _ (k : Census) where
  pub values_with : (ls : List Local) (vs : List Value) → AllAre (IsValue k) vs → Values k (with_values ls vs)
  values_with [] vs h = tt
  values_with (l ∷ ls) [] h = (tt, values_with ls [] tt)
  values_with (l ∷ ls) (v ∷ vs) h = (h.0, values_with ls vs h.1)

  pub values_nil : (ls : List Local) → Values k (all_nil ls)
  values_nil [] = tt
  values_nil (l ∷ ls) = (tt, values_nil ls)

  pub values_both : (xs ys : List (Local × Value)) → Values k xs → Values k ys → Values k (xs ++ ys)
  values_both [] ys h g = g
  values_both (x ∷ xs) ys h g = (h.0, values_both xs ys h.1 g)

-- The scopes around the new one.

outward_bounds : (cs : List Scope) → Parents cs → (j k : ℕ) (o : Option ℕ) → OptionIs (λ n. n < length cs) o
    → OptionIs (λ n. n < j) o → OptionIs (λ n. n < k) o → outward j cs o ≡ outward k cs o
outward_bounds cs p zero zero o h f g = refl
outward_bounds cs p zero (suc k) None h f g = refl
outward_bounds cs p zero (suc k) (Some n) h f g = absurd (omega (arith, f))
outward_bounds cs p (suc j) zero None h f g = refl
outward_bounds cs p (suc j) zero (Some n) h f g = absurd (omega (arith, g))
outward_bounds cs p (suc j) (suc k) None h f g = refl
outward_bounds cs p (suc j) (suc k) (Some n) h f g =
    ap (λ ns. n ∷ ns) (outward_bounds cs p j k (scope_at cs n).parent
    (within (length cs) (scope_at cs n).parent (omega (arith, h)) (p n h))
    (within j (scope_at cs n).parent (omega (arith, f)) (p n h))
    (within k (scope_at cs n).parent (omega (arith, g)) (p n h)))
  where
    within : (most : ℕ) (o : Option ℕ) → n ≤ most → OptionIs (λ m. m < n) o → OptionIs (λ m. m < most) o
    within most None lt k = tt
    within most (Some m) lt k = omega (arith, lt, k)

-- A scope that is new, with this parent.
module _ (cs : List Scope) (p : Parents cs) (c : Scope) where
  new_there : scope_at (cs ++ c ∷ []) (length cs) ≡ c
  new_there = get_or_push cs c no_scope (length cs) refl

  parents_more : OptionIs (λ n. n < length cs) c.parent → Parents (cs ++ c ∷ [])
  parents_more h n lt = by (nat_lt n (length cs)) refl
    where
      by : (t : Bool) → nat_lt n (length cs) ≡ t → OptionIs (λ m. m < n) (scope_at (cs ++ c ∷ []) n).parent
      by true e =
          let within : n < length cs = grind (arith, nat_tests, e) in
          subst (λ (d : Scope). OptionIs (λ m. m < n) d.parent) (sym (get_or_append_left cs (c ∷ []) no_scope n within))
          (p n within)
      by false e =
          let last : length cs ≡ n = grind (arith, nat_tests, e, rw length-append at lt) in
          subst (λ m. OptionIs (λ i. i < m) (scope_at (cs ++ c ∷ []) m).parent) last
          (subst (λ (d : Scope). OptionIs (λ i. i < length cs) d.parent) (sym new_there) h)

  -- without a parent it is alone
  around_alone : c.parent ≡ None → scopes_around (cs ++ c ∷ []) (length cs) ≡ length cs ∷ []
  unfolding scopes_around
  around_alone e = ap (λ ns. length cs ∷ ns) (ap (λ (d : Scope). outward (length cs) (cs ++ c ∷ []) d.parent) new_there
      ∙ ap (outward (length cs) (cs ++ c ∷ [])) e ∙ none_outward (length cs))
    where
      none_outward : (most : ℕ) → outward most (cs ++ c ∷ []) None ≡ []
      none_outward zero = refl
      none_outward (suc most) = refl

  -- and with one it is within it
  around_new : (n : ℕ) → n < length cs → c.parent ≡ Some n
      → scopes_around (cs ++ c ∷ []) (length cs) ≡ length cs ∷ scopes_around cs n
  unfolding scopes_around
  around_new n lt e =
      let ds = cs ++ c ∷ [] in
      let longer : n < length ds = rw length-append (omega (arith, lt)) in
      ap (λ ns. length cs ∷ ns) (ap (λ (d : Scope). outward (length cs) ds d.parent) new_there
      ∙ ap (outward (length cs) ds) e
      ∙ outward_bounds ds (parents_more (subst (OptionIs (λ m. m < length cs)) (sym e) lt)) (length cs) (suc n) (Some n)
      longer lt (omega arith)
      ∙ scopes_same cs ds n p (later_more cs c) lt)

  last_around : (n : ℕ) → last_or (length cs) (length cs ∷ scopes_around cs n) ≡ last_or n (scopes_around cs n)
  unfolding scopes_around
  last_around n = refl

  abbrev ds : List Scope
  ds = cs ++ c ∷ []

  found_here : (ns : List ℕ) (x : Local) → is_in c.variables x ≡ true
      → is_some (first_with ds (length cs ∷ ns) x) ≡ true
  found_here ns x h =
      here (is_in (scope_at ds (length cs)).variables x) (first_with ds ns x)
      (ap (λ (d : Scope). is_in d.variables x) new_there ∙ h)
    where
      here : (t : Bool) (o : Option ℕ) → t ≡ true → is_some (if t then Some (length cs) else o) ≡ true
      here true o e = refl
      here false o e = absurd (true≢false (sym e))

  found_out : (ns : List ℕ) (x : Local) → is_some (first_with ds ns x) ≡ true
      → is_some (first_with ds (length cs ∷ ns) x) ≡ true
  found_out ns x h = out (is_in (scope_at ds (length cs)).variables x) (first_with ds ns x) h
    where
      out : (t : Bool) (o : Option ℕ) → is_some o ≡ true → is_some (if t then Some (length cs) else o) ≡ true
      out true o e = refl
      out false o e = e

  module _ (q : Parameters) (ls : List Local) (vs : List Value) (block : Option ObjId)
      (has : c.variables ≡ first_variables q ls vs block) where
    own_in : (x : Local) → is_bound x (all_parameters q) ≡ true → is_in c.variables x ≡ true
    own_in x h = ap (λ us. is_in us x) has ∙ parameter_in q ls vs block x h

    both_in : (x : Local) → is_bound x (all_parameters q ++ ls) ≡ true → is_in c.variables x ≡ true
    both_in x h = ⊎_elim (λ k. own_in x k) (λ k. ap (λ us. is_in us x) has ∙ local_in q ls vs block x k)
        (bound_either x (all_parameters q) ls h)

    -- what a method sees
    pub scene_method : c.parent ≡ None → SceneFits ds (length cs) (within_method q ls)
    scene_method e = record {
      sees = λ x h out. subst (λ ns. is_some (first_with ds ns x) ≡ true) (sym (around_alone e))
          (found_here [] x (both_in x h));
      owns = λ x own. subst (λ ns. is_in (scope_at ds (last_or (length cs) ns)).variables x ≡ true)
          (sym (around_alone e)) (ap (λ (d : Scope). is_in d.variables x) new_there ∙ own_in x own);
    }

    -- the body of a class, and a main program
    pub scene_locals : (a : Around) → a.known ≡ ls → a.method ≡ None → c.parent ≡ None → SceneFits ds (length cs) a
    scene_locals a known none e = record {
      sees = λ x h out. subst (λ ns. is_some (first_with ds ns x) ≡ true) (sym (around_alone e))
          (found_here [] x (ap (λ us. is_in us x) has
          ∙ local_in q ls vs block x (subst (λ l. is_bound x l ≡ true) known h)));
      owns = λ x own. absurd (true≢false (sym (subst (λ m. is_own x m ≡ true) none own)));
    }

    pub scene_class : c.parent ≡ None → SceneFits ds (length cs) (within_class ls)
    scene_class e = scene_locals (within_class ls) refl refl e

    -- what a block sees
    pub scene_block : (a : Around) (n : ℕ) → n < length cs → c.parent ≡ Some n → SceneFits cs n a
        → SceneFits ds (length cs) (within_block a q ls)
    scene_block a n lt e h =
        let l = later_more cs c in
        let around = around_new n lt e in
        let later = scene_later cs ds p l n lt a h in
        let same = scopes_same cs ds n p l lt in
        record {
          sees = λ x k out. subst (λ ns. is_some (first_with ds ns x) ≡ true) (sym around) (⊎_elim
              (λ b. found_here (scopes_around cs n) x (both_in x b))
              (λ b. found_out (scopes_around cs n) x
              (subst (λ ns. is_some (first_with ds ns x) ≡ true) same (later.sees x b out)))
              (bound_either x (all_parameters q ++ ls) a.known k));
          owns = λ x own.
              subst (λ i. is_in (scope_at ds i).variables x ≡ true) (sym (ap (last_or (length cs)) around ∙ last_around n))
              (subst (λ ns. is_in (scope_at ds (last_or n ns)).variables x ≡ true) same (later.owns x own));
        }
