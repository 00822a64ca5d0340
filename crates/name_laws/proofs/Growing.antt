-- The names known grow by variables, and what was known stays.
use Rattle.std.proofs.Common.{◌≡◌, ◌∙◌, List, [], ◌∷◌, ◌++◌, Bool, true, false, if◌then◌else◌, bytes_eq, refl, sym, ap, subst}
use Rattle.std.proofs.lemmas.List.{append_assoc, append-nil}
use Rattle.text_set.specs.Sets.{is_among}
use Rattle.parser_tree.specs.Node.{Name, Node, Nodes, nodes}
use Rattle.parser_ahead.specs.Names.{is_known, variable, declared, learned}
use Rattle.parser_ahead.specs.declared.names.Variable.{Variable}
use Rattle.parser_forms.specs.Reading.{Names}
use Rattle.name_laws.proofs.Among.{Within, in_left, is_last}
use Rattle.name_laws.proofs.Named.{Named, AllNamed, wider, all_wider}

abbrev pub known_names : List Variable → List Name
known_names [] = []
known_names (v ∷ vs) = v.name ∷ known_names vs

-- variables that are no parameters
abbrev pub plain : List Name → List Variable
plain [] = []
plain (x ∷ xs) = variable x false ∷ plain xs

pub names_append : (vs ws : List Variable) → known_names (vs ++ ws) ≡ known_names vs ++ known_names ws
names_append [] ws = refl
names_append (v ∷ vs) ws = ap (λ xs. v.name ∷ xs) (names_append vs ws)

plain_append : (xs ys : List Name) → plain (xs ++ ys) ≡ plain xs ++ plain ys
plain_append [] ys = refl
plain_append (x ∷ xs) ys = ap (λ vs. variable x false ∷ vs) (plain_append xs ys)

pub known_among : (x : Name) (vs : List Variable) → is_known x vs ≡ is_among x (known_names vs)
known_among x [] = refl
known_among x (v ∷ vs) = ap (λ b. if bytes_eq x v.name then true else b) (known_among x vs)

-- the names and variables behind them
abbrev pub Grows : Names → Names → Type 0
Grows names known = (xs : List Name) × (known ≡ names ++ plain xs)

pub same : (names : Names) → Grows names names
same names = ([], sym (append-nil names))

pub grows_on : (a b c : Names) → Grows a b → Grows b c → Grows a c
grows_on a b c g h = (
  g.0 ++ h.0,
  h.1 ∙ ap (λ d. d ++ plain h.0) g.1 ∙ append_assoc a (plain g.0) (plain h.0)
      ∙ ap (λ d. a ++ d) (sym (plain_append g.0 h.0)),
)

pub grown_by : (a vs : Names) → Within (known_names a) (known_names (a ++ vs))
grown_by a vs =
    subst (λ k. Within (known_names a) k) (sym (names_append a vs)) (in_left (known_names a) (known_names vs))

pub grown : (a b : Names) → Grows a b → Within (known_names a) (known_names b)
grown a b g = subst (λ c. Within (known_names a) (known_names c)) (sym g.1) (grown_by a (plain g.0))

pub declares : (names : Names) (x : Name) → Grows names (declared names x false)
declares names x = (x ∷ [], refl)

pub learns : (names : Names) (x : Name) → Grows names (learned names x)
learns names x = by_test (is_known x names)
  where
    by_test : (b : Bool) → Grows names (if b then names else declared names x false)
    by_test true = same names
    by_test false = declares names x

pub declared_name : (names : Names) (x : Name) (p : Bool) → is_among x (known_names (declared names x p)) ≡ true
declared_name names x p =
    subst (λ xs. is_among x xs ≡ true) (sym (names_append names (variable x p ∷ []))) (is_last (known_names names) x)

pub learned_name : (names : Names) (x : Name) → is_among x (known_names (learned names x)) ≡ true
learned_name names x = by_test (is_known x names) refl
  where
    by_test : (b : Bool) → is_known x names ≡ b
        → is_among x (known_names (if b then names else declared names x false)) ≡ true
    by_test true h = sym (known_among x names) ∙ h
    by_test false h = declared_name names x false

-- what is known of trees and their parts
abbrev pub Knows : Names → Node → Type 0
Knows names n = Named (known_names names) n

abbrev pub KnowsAll : Names → Nodes → Type 0
KnowsAll names ns = AllNamed (known_names names) ns

abbrev pub KnowsEach : Names → List Node → Type 0
KnowsEach names ns = AllNamed (known_names names) (nodes ns)

pub still : (a b : Names) (n : Node) → Grows a b → Knows a n → Knows b n
still a b n g h = wider n (known_names a) (known_names b) (grown a b g) h

pub all_still : (a b : Names) (ns : Nodes) → Grows a b → KnowsAll a ns → KnowsAll b ns
all_still a b ns g h = all_wider ns (known_names a) (known_names b) (grown a b g) h

pub each_still : (a b : Names) (ns : List Node) → Grows a b → KnowsEach a ns → KnowsEach b ns
each_still a b ns g h = all_still a b (nodes ns) g h

pub each_more : (names : Names) (ns : List Node) (n : Node) → KnowsEach names ns → Knows names n
    → KnowsEach names (ns ++ n ∷ [])
each_more names [] n h k = (k, tt)
each_more names (m ∷ ns) n h k = (h.0, each_more names ns n h.1 k)
