-- What a rule gives, where that is more than names that grow.
use Rattle.std.proofs.Common.{◌≡◌, ℕ, Bool, true, if◌then◌else◌, Result, Ok, Err}
use Rattle.parser_forms.specs.Reading.{Names, Read}
use Rattle.rb_base.specs.Result.{◌>>=◌}
use Rattle.program_laws.proofs.Both.{either, chosen}
use Rattle.name_laws.proofs.Growing.{Grows}
use Rattle.name_laws.proofs.Keeping.{Keeps}

abbrev pub Gives : {A : Type 0} → (A → Type 0) → Result A ℕ → Type 0
Gives P (Ok x) = P x
Gives P (Err e) = Unit {0}

pub kept : {A : Type 0} (P : Names → A → Type 0) (names : Names) (read : Read A) → Keeps P names read
    → Gives (λ r. Grows names r.1 × P r.1 r.0) read
kept P names (Ok r) h = h
kept P names (Err e) h = tt

pub on : {A B : Type 0} (P : A → Type 0) (Q : B → Type 0) (r : Result A ℕ) (f : A → Result B ℕ) → Gives P r
    → ((x : A) → P x → Gives Q (f x)) → Gives Q (r >>= f)
on P Q (Ok x) f h k = k x h
on P Q (Err e) f h k = tt

pub past : {A B : Type 0} (Q : B → Type 0) (r : Result A ℕ) (f : A → Result B ℕ) → ((x : A) → Gives Q (f x))
    → Gives Q (r >>= f)
past Q (Ok x) f k = k x
past Q (Err e) f k = tt

pub either_gives : {A : Type 0} (P : A → Type 0) (c : Bool) (r s : Result A ℕ) → Gives P r → Gives P s
    → Gives P (if c then r else s)
either_gives P c r s h k = either (λ read. Gives P read) c r s h k

pub then_gives : {A : Type 0} (P : A → Type 0) (c : Bool) (r s : Result A ℕ) → (c ≡ true → Gives P r) → Gives P s
    → Gives P (if c then r else s)
then_gives P c r s h k = chosen (λ read. Gives P read) c r s h k

-- a rule that keeps behind one that gives
pub from : {A B : Type 0} (P : A → Type 0) (Q : Names → B → Type 0) (names : Names) (r : Result A ℕ)
    (f : A → Read B) → Gives P r → ((x : A) → P x → Keeps Q names (f x)) → Keeps Q names (r >>= f)
from P Q names (Ok x) f h k = k x h
from P Q names (Err e) f h k = tt
