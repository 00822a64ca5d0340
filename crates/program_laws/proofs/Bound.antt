-- Which locals a list binds.
use Rattle.std.proofs.Common.{◌≡◌, ℕ, List, [], ◌∷◌, ◌++◌, true, refl, ⊎_elim, bytes_eq, nat_eq}
use Rattle.std.proofs.lemmas.Slice.Eq.{bytes_eq-Decides}
use Rattle.std.proofs.lemmas.Bool.Decides.{Decides-eqb}
use Rattle.ir_core.specs.CoreForm as form
use Rattle.ir_core.specs.CoreForm.{Local, Parameters}
use Rattle.ir_core.specs.Program.{are_same, is_bound, all_parameters}
use Rattle.program_laws.proofs.Both.{if_first, if_second, if_either}

pub same_text : (x : List ℕ) → bytes_eq x x ≡ true
same_text x = (bytes_eq-Decides x x).1 refl

same_number : (n : ℕ) → nat_eq n n ≡ true
same_number n = (Decides-eqb n n).1 refl

pub is_itself : (x : Local) → are_same x x ≡ true
is_itself (form.named x) = same_text x
is_itself (form.hidden d) = same_number d
is_itself (form.pattern k) = same_number k
is_itself form.rest = refl

-- what a list binds another binds, too
abbrev pub Within : List Local → List Local → Type 0
Within ls ms = (x : Local) → is_bound x ls ≡ true → is_bound x ms ≡ true

pub is_head : (x : Local) (ls : List Local) → is_bound x (x ∷ ls) ≡ true
is_head x ls = if_first (are_same x x) (is_bound x ls) (is_itself x)

pub within_tail : (y : Local) (ls : List Local) → Within ls (y ∷ ls)
within_tail y ls x h = if_second (are_same x y) (is_bound x ls) h

pub within_left : (ls ms : List Local) → Within ls (ls ++ ms)
within_left [] ms x h = absurd (cc)
within_left (y ∷ ls) ms x h =
    ⊎_elim (λ e. if_first (are_same x y) (is_bound x (ls ++ ms)) e)
    (λ k. if_second (are_same x y) (is_bound x (ls ++ ms)) (within_left ls ms x k))
    (if_either (are_same x y) (is_bound x ls) h)

pub within_right : (ls ms : List Local) → Within ms (ls ++ ms)
within_right [] ms x h = h
within_right (y ∷ ls) ms x h = if_second (are_same x y) (is_bound x (ls ++ ms)) (within_right ls ms x h)

-- the required parameters of a body, and those that stand behind them
module _ (p : Parameters) where
  pub required_within : Within p.required (all_parameters p)
  required_within x h =
      within_left (p.required ++ p.optional ++ p.rest ++ p.post) p.block x
      (within_left (p.required ++ p.optional ++ p.rest) p.post x
      (within_left (p.required ++ p.optional) p.rest x (within_left p.required p.optional x h)))

  pub optional_within : Within p.optional (all_parameters p)
  optional_within x h =
      within_left (p.required ++ p.optional ++ p.rest ++ p.post) p.block x
      (within_left (p.required ++ p.optional ++ p.rest) p.post x
      (within_left (p.required ++ p.optional) p.rest x (within_right p.required p.optional x h)))

  pub rest_within : Within p.rest (all_parameters p)
  rest_within x h =
      within_left (p.required ++ p.optional ++ p.rest ++ p.post) p.block x
      (within_left (p.required ++ p.optional ++ p.rest) p.post x (within_right (p.required ++ p.optional) p.rest x h))

  pub post_within : Within p.post (all_parameters p)
  post_within x h =
      within_left (p.required ++ p.optional ++ p.rest ++ p.post) p.block x
      (within_right (p.required ++ p.optional ++ p.rest) p.post x h)
