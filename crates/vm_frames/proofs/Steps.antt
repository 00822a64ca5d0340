-- One step of the other loops.
use Rattle.std.proofs.Common.{◌≡◌, ℕ, zero, suc, ◌+◌, ◌-◌, ◌<◌, ◌≤◌, List, [], ◌∷◌, ◌++◌, length, drop, arith, ap, sym, refl}
use Rattle.std.specs.List.{slice_index_or}
use Rattle.std.specs.Prelude.{Option, Some, None}
use Rattle.std.proofs.lemmas.List.{at_drop_more, drop_all, append_assoc, append-nil}
use Rattle.rb_value.specs.declared.value.Value.{Value}
use Rattle.rb_value.specs.declared.value.Value.TheVariants.{Nil}
use Rattle.vm_frames.specs.Registers.{wrapped}
use Rattle.vm_frames.specs.Seen.{Seen, Env, Exits}
use Rattle.vm_frames.specs.Exits.{without, without_from}
use Rattle.vm_frames.specs.Opening.{value_kept, values_kept, registers_kept}
use Rattle.vm_frames.specs.Environments.{outer_of, around_env, envs_from}

-- the exit of one register is dropped, and those behind it are left
pub without_more : (xs : Exits) (list a i n : ℕ) → i < n
    → without_from xs list a (n - i) ≡ without_from (without xs list a) list (a + 1) (n - (i + 1))
unfolding without_from
without_more xs list a i n within =
    let left : n - i ≡ suc (n - (i + 1)) = omega arith in
    rw left refl

pub without_end : (xs : Exits) (list a i n : ℕ) → n ≤ i → without_from xs list a (n - i) ≡ xs
unfolding without_from
without_end xs list a i n past = let none : n - i ≡ 0 = omega arith in rw none refl

pub without_none : (list a n : ℕ) → without_from [] list a n ≡ []
unfolding without_from
without_none list a zero = refl
without_none list a (suc n) = without_none list (a + 1) n

-- a value is kept, and those behind it are left
pub kept_more : (r : Seen) (i : ℕ) (vs : List Value) (d : Value) → i < length vs
    → values_kept r (drop i vs) ≡ values_kept (value_kept r (slice_index_or vs i d)) (drop (i + 1) vs)
unfolding values_kept
kept_more r i vs d within = at_drop_more (values_kept r) vs i d within

pub kept_end : (r : Seen) (i : ℕ) (vs : List Value) → length vs ≤ i → values_kept r (drop i vs) ≡ r
unfolding values_kept
kept_end r i vs past = rw (drop_all i vs past) refl

-- a register is kept, and those behind it are left
pub registers_more : (r : Seen) (at i n : ℕ) → i < n
    → registers_kept r (at + i) (n - i)
    ≡ registers_kept (value_kept r (slice_index_or r.line.registers (wrapped (at + i)) Nil)) (at + (i + 1)) (n - (i + 1))
unfolding registers_kept
registers_more r at i n within =
    let left : n - i ≡ suc (n - (i + 1)) = omega arith in
    let next : at + i + 1 ≡ at + (i + 1) = omega arith in
    let one : Seen = value_kept r (slice_index_or r.line.registers (wrapped (at + i)) Nil) in
    rw left (ap (λ x. registers_kept one x (n - (i + 1))) next)

pub registers_start : (r : Seen) (at n : ℕ) → registers_kept r (at + 0) (n - 0) ≡ registers_kept r at n
registers_start r at n =
    let a : at + 0 ≡ at = omega arith in
    let b : n - 0 ≡ n = omega arith in
    rw (a, b) refl

pub registers_end : (r : Seen) (at i n : ℕ) → n ≤ i → registers_kept r at (n - i) ≡ r
unfolding registers_kept
registers_end r at i n past = let none : n - i ≡ 0 = omega arith in rw none refl

-- one environment further out
pub around_more : (es : List Env) (n i c : ℕ) → i < c
    → around_env es (Some n) (c - i) ≡ around_env es (outer_of es n) (c - (i + 1))
unfolding around_env
around_more es n i c within =
    let left : c - i ≡ suc (c - (i + 1)) = omega arith in
    rw left refl

pub around_none : (es : List Env) (c : ℕ) → around_env es None c ≡ None
unfolding around_env
around_none es c = refl

-- one list more
pub envs_more : (es : List Env) (n i k : ℕ) → i < k
    → envs_from (k - i) es (Some n) ≡ n ∷ envs_from (k - (i + 1)) es (outer_of es n)
unfolding envs_from
envs_more es n i k within =
    let left : k - i ≡ suc (k - (i + 1)) = omega arith in
    rw left refl

pub envs_none : (es : List Env) (k : ℕ) → envs_from k es None ≡ []
unfolding envs_from
envs_none es zero = refl
envs_none es (suc k) = refl

pub around_start : (es : List Env) (n : Option ℕ) (c : ℕ) → around_env es n (c - 0) ≡ around_env es n c
around_start es n c = let same : c - 0 ≡ c = omega arith in rw same refl

around_all : (es : List Env) (n : Option ℕ) → around_env es n 0 ≡ n
unfolding around_env
around_all es None = refl
around_all es (Some n) = refl

pub around_end : (es : List Env) (n : Option ℕ) (i c : ℕ) → c ≤ i → around_env es n (c - i) ≡ n
around_end es n i c past = let none : c - i ≡ 0 = omega arith in rw none (around_all es n)

-- a list is found, and those around it are left
pub lists_more : (found : List ℕ) (es : List Env) (n i k : ℕ) → i < k
    → found ++ envs_from (k - i) es (Some n) ≡ (found ++ n ∷ []) ++ envs_from (k - (i + 1)) es (outer_of es n)
lists_more found es n i k within = rw (envs_more es n i k within)
    (sym (append_assoc found (n ∷ []) (envs_from (k - (i + 1)) es (outer_of es n))))

pub lists_none : (found : List ℕ) (es : List Env) (k : ℕ) → found ++ envs_from k es None ≡ found
lists_none found es k = rw (envs_none es k) (append-nil found)

pub lists_end : (found : List ℕ) (es : List Env) (n : Option ℕ) (i k : ℕ) → k ≤ i
    → found ++ envs_from (k - i) es n ≡ found
unfolding envs_from
lists_end found es n i k past = let none : k - i ≡ 0 = omega arith in rw none (append-nil found)
