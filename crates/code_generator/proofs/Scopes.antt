-- Names that are known, and those that lines add after them.
use Rattle.std.proofs.Common.{◌≡◌, ℕ, zero, suc, List, [], ◌∷◌, ◌++◌, ◌≤◌, take, length, length-append, Bool, true, false, if◌then◌else◌, refl, ap, ◌∙◌, arith}
use Rattle.path_core.specs.Form.{Name, Form, strict, local, set_local, seq, cond, while_form}
use Rattle.text_set.specs.Sets.{is_among, with_text}
use Rattle.code_generator.specs.Limits.{known_after}

take_front : (n : ℕ) (names : List Name) (x : Name) → n ≤ length names → take n (names ++ x ∷ []) ≡ take n names
take_front zero names x h = refl
take_front (suc n) [] x h = absurd (omega (arith, h))
take_front (suc n) (y ∷ names) x h = ap (λ ys. y ∷ ys) (take_front n names x (omega (arith, h)))

-- the front stays where a name is added
front_stays : (n : ℕ) (names : List Name) (x : Name) → n ≤ length names → take n (with_text names x) ≡ take n names
front_stays n names x h = at (is_among x names)
  where
    at : (b : Bool) → take n (if b then names else names ++ x ∷ []) ≡ take n names
    at true = refl
    at false = take_front n names x h

-- names in front of others stay in front where a line is learned
pub front_kept : (known : List Name) (f : Form) (names : List Name) → length names ≤ length known
    → take (length names) known ≡ names → take (length names) (known_after known f) ≡ names
front_kept known (strict a es) names few front = front
front_kept known (local x) names few front = front
front_kept known (set_local x e) names few front = front_stays (length names) known x few ∙ front
front_kept known (seq es) names few front = front
front_kept known (cond t a b) names few front = front
front_kept known (while_form t b) names few front = front

-- and no name is lost
pub none_lost : (known : List Name) (f : Form) → length known ≤ length (known_after known f)
none_lost known (strict a es) = omega arith
none_lost known (local x) = omega arith
none_lost known (set_local x e) = at (is_among x known)
  where
    at : (b : Bool) → length known ≤ length (if b then known else known ++ x ∷ [])
    at true = omega arith
    at false = let more = length-append known (x ∷ []) in omega (arith, more)
none_lost known (seq es) = omega arith
none_lost known (cond t a b) = omega arith
none_lost known (while_form t b) = omega arith

pub take_all : (names : List Name) → take (length names) names ≡ names
take_all [] = refl
take_all (x ∷ names) = ap (λ ys. x ∷ ys) (take_all names)

pub ruleset scope_laws = (take_all, front_kept, none_lost)
