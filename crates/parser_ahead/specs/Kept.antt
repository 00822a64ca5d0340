-- Variables with how many different names were known before each.
use Rattle.std.specs.Prelude.{◌≡◌, ℕ, List, [], ◌∷◌, length, take, map, Bool}
use Rattle.text_set.specs.Sets.{with_text, with_texts}
use Rattle.parser_ahead.specs.declared.names.Variable.{Variable}
use Rattle.parser_ahead.specs.declared.names.Kept.{Kept}
use Rattle.parser_ahead.specs.Names.{variable}

abbrev pub one : List ℕ → Bool → ℕ → Kept
one x p n = record { variable = variable x p; before = n }

abbrev pub variables : List Kept → List Variable
variables ks = map (λ (k : Kept). k.variable) ks

abbrev pub names : List Kept → List (List ℕ)
names ks = map (λ (k : Kept). k.variable.name) ks

-- each tells how many different names were known before it, where those at first are known already
abbrev pub AreCounted : List (List ℕ) → List Kept → Type 0
AreCounted known [] = Unit {0}
AreCounted known (k ∷ ks) = (k.before ≡ length known) × AreCounted (with_text known k.variable.name) ks

-- these are their different names, in the order in which they came
abbrev pub AreKnown : List Kept → List (List ℕ) → Type 0
AreKnown ks known = (known ≡ with_texts [] (names ks)) × AreCounted [] ks

-- so many of them were known before a place
abbrev pub CountsBefore : List Kept → ℕ → ℕ → ℕ → Type 0
CountsBefore ks mark count n = (known : List (List ℕ)) → length known ≡ count → AreKnown ks known
    → AreKnown (take mark ks) (take n known)
