-- Lists of different texts, in the order in which they were added.
use Rattle.std.specs.Prelude.{ℕ, List, [], ◌∷◌, ◌++◌, map, Bool, true, false, bytes_eq, if◌then◌else◌}
use Rattle.std.specs.Borrow.{Bor}
use Rattle.std.specs.Global.{Vec}

-- the text that a slice shows
abbrev pub text : Bor (List ℕ) → List ℕ
text t = t.now

abbrev pub texts : List (Bor (List ℕ)) → List (List ℕ)
texts ts = map text ts

-- the texts that vectors hold
abbrev pub owned : List (Vec ℕ) → List (List ℕ)
owned vs = map (λ (v : Vec ℕ). v.items) vs

-- whether a text is one of a list
abbrev pub is_among : List ℕ → List (List ℕ) → Bool
is_among x [] = false
is_among x (y ∷ ys) = if bytes_eq x y then true else is_among x ys

-- the list with a text at its end, where it isn't there yet
abbrev pub with_text : List (List ℕ) → List ℕ → List (List ℕ)
with_text texts x = if is_among x texts then texts else texts ++ x ∷ []

-- the list with texts, one after the other
abbrev pub with_texts : List (List ℕ) → List (List ℕ) → List (List ℕ)
with_texts texts [] = texts
with_texts texts (x ∷ xs) = with_texts (with_text texts x) xs
