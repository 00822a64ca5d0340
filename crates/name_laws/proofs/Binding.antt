-- The names that parameters bind.
use Rattle.std.proofs.Common.{◌≡◌, Bool, true, false, if◌then◌else◌, List, [], ◌∷◌, ◌++◌, bytes_eq, ⊎_elim, refl, sym, ap, subst}
use Rattle.std.proofs.lemmas.List.{append-nil}
use Rattle.std.proofs.lemmas.Slice.Eq.{bytes_eq-Decides}
use Rattle.text_set.specs.Sets.{is_among}
use Rattle.parser_tree.specs.Node.{Name, nodes}
use Rattle.parser_checks.specs.Doubled.{rest_bound, block_bound}
use Rattle.parser_ahead.specs.Names.{locals_of}
use Rattle.parser_ahead.specs.declared.names.Variable.{Variable}
use Rattle.parser_form_nodes.specs.Parameters.{ParameterNode, required, optional, rest_of, block_name, outside_parameter, ParameterNodes, no_parameters}
use Rattle.parser_forms.specs.Reading.{Names}
use Rattle.program_laws.specs.Fits.{required_name, required_names, optional_names, names_within, are_optional}
use Rattle.program_laws.specs.Knows.{is_outside, has_outside}
use Rattle.program_laws.proofs.Both.{if_first, if_second, if_either}
use Rattle.program_laws.proofs.Bound.{same_text}
use Rattle.name_laws.proofs.Among.{Within, within_none, within_each, in_left, in_right}
use Rattle.name_laws.proofs.Named.{all_wider}
use Rattle.name_laws.proofs.Growing.{known_names, plain, Knows, KnowsEach}

-- the names of the variables that are parameters
abbrev pub parameter_names : List Variable → List Name
parameter_names [] = []
parameter_names (v ∷ vs) = if v.parameter then v.name ∷ parameter_names vs else parameter_names vs

abbrev pub within : ParameterNodes → List Name → List Name
within l ls = names_within (nodes l.required) (nodes l.optional) l.rest (nodes l.post) l.block ls

within_cons : (x : Name) (xs ys : List Name) → is_among x ys ≡ true → Within xs ys → Within (x ∷ xs) ys
within_cons x xs ys h w y g =
    ⊎_elim (λ e. subst (λ z. is_among z ys ≡ true) (sym ((bytes_eq-Decides y x).0 e)) h) (λ k. w y k)
    (if_either (bytes_eq y x) (is_among y xs) g)

its_head : (x : Name) (xs ys : List Name) → Within (x ∷ xs) ys → is_among x ys ≡ true
its_head x xs ys w = w x (if_first (bytes_eq x x) (is_among x xs) (same_text x))

its_tail : (x : Name) (xs ys : List Name) → Within (x ∷ xs) ys → Within xs ys
its_tail x xs ys w y h = w y (if_second (bytes_eq y x) (is_among y xs) h)

by_kind : (b : Bool) (x : Name) (ps ls ns zs : List Name) → (Within ps zs → Within ls zs → Within ns zs)
    → Within (if b then x ∷ ps else ps) zs → Within (if b then ls else x ∷ ls) zs → Within (x ∷ ns) zs
by_kind true x ps ls ns zs f v w = within_cons x ns zs (its_head x ps zs v) (f (its_tail x ps zs v) w)
by_kind false x ps ls ns zs f v w = within_cons x ns zs (its_head x ls zs w) (f v (its_tail x ls zs w))

-- each variable is a parameter or one of the others
pub all_within : (vs : List Variable) (zs : List Name) → Within (parameter_names vs) zs → Within (locals_of vs) zs
    → Within (known_names vs) zs
all_within [] zs v w = within_none zs
all_within (u ∷ vs) zs v w =
    by_kind u.parameter u.name (parameter_names vs) (locals_of vs) (known_names vs) zs (all_within vs zs) v w

one_more : (b : Bool) (x : Name) (ps qs rs : List Name) → rs ≡ ps ++ qs
    → (if b then x ∷ rs else rs) ≡ (if b then x ∷ ps else ps) ++ qs
one_more true x ps qs rs e = ap (λ xs. x ∷ xs) e
one_more false x ps qs rs e = e

pub parameters_append : (vs ws : List Variable)
    → parameter_names (vs ++ ws) ≡ parameter_names vs ++ parameter_names ws
parameters_append [] ws = refl
parameters_append (v ∷ vs) ws =
    one_more v.parameter v.name (parameter_names vs) (parameter_names ws) (parameter_names (vs ++ ws))
    (parameters_append vs ws)

pub plain_none : (xs : List Name) → parameter_names (plain xs) ≡ []
plain_none [] = refl
plain_none (x ∷ xs) = plain_none xs

pub plain_within : (xs ys : List Name) → Within (parameter_names (plain xs)) ys
plain_within xs ys = subst (λ zs. Within zs ys) (sym (plain_none xs)) (within_none ys)

-- where each list of names stands among those within a definition
module _ (r o t p b ls : List Name) where
  abbrev Whole : List Name
  Whole = r ++ o ++ t ++ p ++ b ++ ls

  in_locals : Within ls Whole
  in_locals = in_right (r ++ o ++ t ++ p ++ b) ls

  in_block : Within b Whole
  in_block x h = in_left (r ++ o ++ t ++ p ++ b) ls x (in_right (r ++ o ++ t ++ p) b x h)

  in_post : Within p Whole
  in_post x h = in_left (r ++ o ++ t ++ p ++ b) ls x (in_left (r ++ o ++ t ++ p) b x (in_right (r ++ o ++ t) p x h))

  in_rest : Within t Whole
  in_rest x h =
      in_left (r ++ o ++ t ++ p ++ b) ls x
      (in_left (r ++ o ++ t ++ p) b x (in_left (r ++ o ++ t) p x (in_right (r ++ o) t x h)))

  in_optional : Within o Whole
  in_optional x h =
      in_left (r ++ o ++ t ++ p ++ b) ls x (in_left (r ++ o ++ t ++ p) b x
      (in_left (r ++ o ++ t) p x (in_left (r ++ o) t x (in_right r o x h))))

  in_required : Within r Whole
  in_required x h =
      in_left (r ++ o ++ t ++ p ++ b) ls x (in_left (r ++ o ++ t ++ p) b x
      (in_left (r ++ o ++ t) p x (in_left (r ++ o) t x (in_left r o x h))))

  each_within : (ys : List Name) → Within r ys → Within o ys → Within t ys → Within p ys → Within b ys → Within ls ys
      → Within Whole ys
  each_within ys wr wo wt wp wb wl =
      within_each (r ++ o ++ t ++ p ++ b) ls ys
      (within_each (r ++ o ++ t ++ p) b ys
      (within_each (r ++ o ++ t) p ys (within_each (r ++ o) t ys (within_each r o ys wr wo) wt) wp) wb) wl

module _ (l : ParameterNodes) (ls : List Name) where
  pub required_within : Within (required_names (nodes l.required)) (within l ls)
  required_within = in_required (required_names (nodes l.required)) (optional_names (nodes l.optional))
      (rest_bound l.rest) (required_names (nodes l.post)) (block_bound l.block) ls

  pub optional_within : Within (optional_names (nodes l.optional)) (within l ls)
  optional_within = in_optional (required_names (nodes l.required)) (optional_names (nodes l.optional))
      (rest_bound l.rest) (required_names (nodes l.post)) (block_bound l.block) ls

  pub rest_within : Within (rest_bound l.rest) (within l ls)
  rest_within = in_rest (required_names (nodes l.required)) (optional_names (nodes l.optional))
      (rest_bound l.rest) (required_names (nodes l.post)) (block_bound l.block) ls

  pub post_within : Within (required_names (nodes l.post)) (within l ls)
  post_within = in_post (required_names (nodes l.required)) (optional_names (nodes l.optional))
      (rest_bound l.rest) (required_names (nodes l.post)) (block_bound l.block) ls

  pub block_within : Within (block_bound l.block) (within l ls)
  block_within = in_block (required_names (nodes l.required)) (optional_names (nodes l.optional))
      (rest_bound l.rest) (required_names (nodes l.post)) (block_bound l.block) ls

  pub locals_within : Within ls (within l ls)
  locals_within = in_locals (required_names (nodes l.required)) (optional_names (nodes l.optional))
      (rest_bound l.rest) (required_names (nodes l.post)) (block_bound l.block) ls

  pub parts_within : (ys : List Name) → Within (required_names (nodes l.required)) ys
      → Within (optional_names (nodes l.optional)) ys → Within (rest_bound l.rest) ys
      → Within (required_names (nodes l.post)) ys → Within (block_bound l.block) ys → Within ls ys
      → Within (within l ls) ys
  parts_within = each_within (required_names (nodes l.required)) (optional_names (nodes l.optional))
      (rest_bound l.rest) (required_names (nodes l.post)) (block_bound l.block) ls

  pub none_within : Within (within l []) (within l ls)
  none_within x h =
      each_within (required_names (nodes l.required)) (optional_names (nodes l.optional)) (rest_bound l.rest)
      (required_names (nodes l.post)) (block_bound l.block) [] (within l ls) required_within optional_within
      rest_within post_within block_within (within_none (within l ls)) x h

-- what is known of parameters, and that they bind those among these variables
abbrev pub KnowsParameters : Names → ParameterNodes → Type 0
KnowsParameters names l =
    (are_optional (nodes l.optional) ≡ true)
    × (KnowsEach names l.required × (KnowsEach names l.optional × KnowsEach names l.post))

abbrev pub Bound : List Variable → Names → ParameterNodes → Type 0
Bound vs names l = Within (parameter_names vs) (within l []) × KnowsParameters names l

-- the names are those before the parameters, and variables that these bind unless one of them is outside the language
abbrev pub Binds : Names → ParameterNodes → Names → Type 0
Binds base l names =
    (vs : List Variable) × (names ≡ base ++ vs) × (has_outside (nodes l.outside) ≡ false → Bound vs names l)

abbrev pub Holds : List Variable → Names → ParameterNode → Type 0
Holds vs names (required n) = Within (parameter_names vs) (required_name n) × Knows names n
Holds vs names (optional x n) =
    Within (parameter_names vs) (x ∷ []) × ((is_among x (known_names names) ≡ true) × Knows names n)
Holds vs names (rest_of r) = Within (parameter_names vs) (rest_bound r)
Holds vs names (block_name x) = Within (parameter_names vs) (x ∷ [])
Holds vs names (outside_parameter n) = is_outside n ≡ true

-- the names grow by the variables of one parameter
abbrev pub Has : Names → ParameterNode → Names → Type 0
Has names p known = (vs : List Variable) × (known ≡ names ++ vs) × Holds vs known p

pub none_bound : (names : Names) → Binds names no_parameters names
none_bound names =
    ([], sym (append-nil names), λ inside. (within_none (within no_parameters []), (refl, (tt, (tt, tt)))))

pub parameters_still : (a b : Names) (l : ParameterNodes) → Within (known_names a) (known_names b) → KnowsParameters a l
    → KnowsParameters b l
parameters_still a b l w h = (
  h.0,
  (
    all_wider (nodes l.required) (known_names a) (known_names b) w h.1.0,
    (
      all_wider (nodes l.optional) (known_names a) (known_names b) w h.1.1.0,
      all_wider (nodes l.post) (known_names a) (known_names b) w h.1.1.1,
    ),
  ),
)
