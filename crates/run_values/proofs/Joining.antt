-- Parts of keys, joined in their order.
use Rattle.std.proofs.Common.{◌≡◌, ℕ, suc, ◌+◌, ◌<◌, ◌≤◌, List, [], ◌∷◌, ◌++◌, length, drop, get_or, refl, ap, sym, ◌∙◌, arith, append_assoc, append-nil, drop-cons, add-one}
use Rattle.std.specs.Prelude.{Option, Some, None}
use Rattle.std.proofs.lemmas.List.{drop_all}
use Rattle.rb_value.specs.declared.value.Value.{Value}
use Rattle.rb_value.specs.declared.value.Value.TheVariants.{Nil}
use Rattle.rb_value.specs.declared.key.KeyPart.{KeyPart}
use Rattle.rb_value.specs.Object.{Object}
use Rattle.def_core.specs.Sound.{AllAre}
use Rattle.def_calls.specs.Values.{joined, all_parts}
use Rattle.run_values.specs.declared.key_parts.Level.{Level}
use Rattle.run_values.specs.Levels.{rest_of, around, all_steps, level_steps, steps_around}

pub joined_left : (x : Option (List KeyPart)) → joined (Some []) x ≡ x
joined_left None = refl
joined_left (Some ps) = refl

pub joined_right : (x : Option (List KeyPart)) → joined x (Some []) ≡ x
joined_right None = refl
joined_right (Some ps) = ap (λ (qs : List KeyPart). Some qs) (append-nil ps)

pub joined_assoc : (x y z : Option (List KeyPart)) → joined (joined x y) z ≡ joined x (joined y z)
joined_assoc None y z = refl
joined_assoc (Some ps) None z = refl
joined_assoc (Some ps) (Some qs) None = refl
joined_assoc (Some ps) (Some qs) (Some rs) = ap (λ (ts : List KeyPart). Some ts) (append_assoc ps qs rs)

pub joined_none : (x : Option (List KeyPart)) → joined x None ≡ None
joined_none None = refl
joined_none (Some ps) = refl

-- the innermost of the levels around is passed first
pub around_last : (objects : List Object) (ls : List Level) (l : Level)
    → around objects (ls ++ l ∷ []) ≡ joined (rest_of objects l) (around objects ls)
around_last objects [] l = joined_left (rest_of objects l) ∙ sym (joined_right (rest_of objects l))
around_last objects (m ∷ ls) l =
    ap (λ (x : Option (List KeyPart)). joined x (rest_of objects m)) (around_last objects ls l)
    ∙ joined_assoc (rest_of objects l) (around objects ls) (rest_of objects m)

pub steps_last : (objects : List Object) (ls : List Level) (l : Level)
    → steps_around objects (ls ++ l ∷ []) ≡ level_steps objects l + steps_around objects ls
steps_last objects [] l = refl
steps_last objects (m ∷ ls) l =
    let h = steps_last objects ls l in
    omega (arith, h)

pub last_is : {A : Type 0} (P : A → Type 0) (xs : List A) (x : A) → AllAre P (xs ++ x ∷ []) → AllAre P xs × P x
last_is P [] x all = (tt, all.0)
last_is P (y ∷ ys) x all = let rest = last_is P ys x all.1 in ((all.0, rest.0), rest.1)

-- The next element of a level.

pub next_parts : (f : Value → Option (List KeyPart)) (vs : List Value) (n : ℕ) → n < length vs
    → all_parts f (drop n vs) ≡ joined (f (get_or vs n Nil)) (all_parts f (drop (n + 1) vs))
next_parts f vs n h = ap (all_parts f) (drop-cons vs n Nil h) ∙ rw add-one refl

pub next_steps : (f : Value → ℕ) (vs : List Value) (n : ℕ) → n < length vs
    → all_steps f (drop n vs) ≡ suc (f (get_or vs n Nil)) + all_steps f (drop (n + 1) vs)
next_steps f vs n h = ap (all_steps f) (drop-cons vs n Nil h) ∙ rw add-one refl

pub no_parts : (f : Value → Option (List KeyPart)) (vs : List Value) (n : ℕ) → length vs ≤ n
    → all_parts f (drop n vs) ≡ Some []
no_parts f vs n h = ap (all_parts f) (drop_all n vs h)

pub no_steps : (f : Value → ℕ) (vs : List Value) (n : ℕ) → length vs ≤ n → all_steps f (drop n vs) ≡ 1
no_steps f vs n h = ap (all_steps f) (drop_all n vs h)
