-- Names that are known have registers.
use Rattle.std.proofs.Common.{◌≡◌, ◌+◌, ◌<◌, List, [], ◌∷◌, ◌++◌, refl, sym, ap, subst, arith, Bool, true, false, cond, length}
use Rattle.std.specs.Prelude.{bytes_eq}
use Rattle.std.proofs.lemmas.Slice.Eq.{bytes_eq-Decides}
use Rattle.path_core.specs.Form.{Name, Form, strict, local, set_local, seq, cond as cond_form, while_form, Forms, none, more}
use Rattle.text_set.specs.Sets.{is_among, with_text}
use Rattle.path_core.specs.Form.{place_of}
use Rattle.code_generator.specs.Names.{add_names, add_all, names_of}
use Rattle.code_generator.specs.Limits.{known_after}

-- each name of the first list is in the second
abbrev pub Within : List Name → List Name → Type 0
Within xs bs = (x : Name) → is_among x xs ≡ true → is_among x bs ≡ true

among_by : (s : Bool) (x : Name) (xs bs : List Name) → cond s true (is_among x xs) ≡ true
    → (is_among x xs ≡ true → is_among x (xs ++ bs) ≡ true) → cond s true (is_among x (xs ++ bs)) ≡ true
among_by true x xs bs h k = refl
among_by false x xs bs h k = k h

among_more : (x : Name) (xs bs : List Name) → is_among x xs ≡ true → is_among x (xs ++ bs) ≡ true
among_more x [] bs h = absurd (cc)
among_more x (a ∷ xs) bs h = among_by (bytes_eq x a) x xs bs h (among_more x xs bs)

among_end_by : (s : Bool) (x : Name) (xs : List Name) → is_among x (xs ++ x ∷ []) ≡ true
    → cond s true (is_among x (xs ++ x ∷ [])) ≡ true
among_end_by true x xs h = refl
among_end_by false x xs h = h

among_end : (x : Name) (xs : List Name) → is_among x (xs ++ x ∷ []) ≡ true
among_end x [] = let e : bytes_eq x x ≡ true = (bytes_eq-Decides x x).1 refl in rw e refl
among_end x (a ∷ xs) = among_end_by (bytes_eq x a) x xs (among_end x xs)

with_by : (s : Bool) (xs : List Name) (x : Name) → Within xs (cond s xs (xs ++ x ∷ []))
with_by true xs x = λ y h. h
with_by false xs x = λ y h. among_more y xs (x ∷ []) h

with_within : (xs : List Name) (x : Name) → Within xs (with_text xs x)
with_within xs x = with_by (is_among x xs) xs x

with_has_by : (s : Bool) (xs : List Name) (x : Name) → is_among x xs ≡ s → is_among x (cond s xs (xs ++ x ∷ [])) ≡ true
with_has_by true xs x e = e
with_has_by false xs x e = among_end x xs

with_has : (xs : List Name) (x : Name) → is_among x (with_text xs x) ≡ true
with_has xs x = with_has_by (is_among x xs) xs x refl

-- a list with a name is within what has both
last_by : (t : Bool) (bs : List Name) (x y : Name) → bytes_eq y x ≡ t → is_among x bs ≡ true → cond t true false ≡ true
    → is_among y bs ≡ true
last_by true bs x y e h k = let same : y ≡ x = (bytes_eq-Decides y x).0 e in
    subst (λ (z : Name). is_among z bs ≡ true) (sym same) h
last_by false bs x y e h k = absurd (cc)

under : (s b : Bool) → b ≡ true → cond s true b ≡ true
under true b e = refl
under false b e = e

head_by : (t : Bool) (c : Name) (cs bs : List Name) (x y : Name) → bytes_eq y c ≡ t → Within (c ∷ cs) bs
    → (is_among y (cs ++ x ∷ []) ≡ true → is_among y bs ≡ true) → cond t true (is_among y (cs ++ x ∷ [])) ≡ true
    → is_among y bs ≡ true
head_by true c cs bs x y e w rest k = w y (ap (λ (s : Bool). cond s true (is_among y cs)) e)
head_by false c cs bs x y e w rest k = rest k

end_bounded : (cs bs : List Name) (x y : Name) → Within cs bs → is_among x bs ≡ true → is_among y (cs ++ x ∷ []) ≡ true
    → is_among y bs ≡ true
end_bounded [] bs x y w h k = last_by (bytes_eq y x) bs x y refl h k
end_bounded (c ∷ cs) bs x y w h k =
    head_by (bytes_eq y c) c cs bs x y refl w
    (λ l. end_bounded cs bs x y (λ z m. w z (under (bytes_eq z c) (is_among z cs) m)) h l) k

split_by : (s : Bool) (xs bs : List Name) (x y : Name) → Within xs bs → is_among x bs ≡ true
    → is_among y (cond s xs (xs ++ x ∷ [])) ≡ true → is_among y bs ≡ true
split_by true xs bs x y w h k = w y k
split_by false xs bs x y w h k = end_bounded xs bs x y w h k

pub with_bounded : (xs bs : List Name) (x : Name) → Within xs bs → is_among x bs ≡ true → Within (with_text xs x) bs
with_bounded xs bs x w h y k = split_by (is_among x xs) xs bs x y w h k

-- a name that is among names has a place there
place_by : (s : Bool) (x : Name) (xs : List Name) → cond s true (is_among x xs) ≡ true
    → (is_among x xs ≡ true → place_of x xs < length xs) → cond s 0 (place_of x xs + 1) < length xs + 1
place_by true x xs h k = omega arith
place_by false x xs h k = let lt = k h in omega (arith, lt)

pub place_among : (x : Name) (xs : List Name) → is_among x xs ≡ true → place_of x xs < length xs
place_among x [] h = absurd (cc)
place_among x (a ∷ xs) h = omega (arith, place_by (bytes_eq x a) x xs h (place_among x xs))

-- each name that a form assigns is in the list
abbrev mutual
  pub Assigned : List Name → Form → Type 0
  Assigned ns (strict a es) = AllAssigned ns es
  Assigned ns (local x) = Unit {0}
  Assigned ns (set_local x e) = (is_among x ns ≡ true) × Assigned ns e
  Assigned ns (seq es) = AllAssigned ns es
  Assigned ns (cond_form t a b) = Assigned ns t × Assigned ns a × Assigned ns b
  Assigned ns (while_form t b) = Assigned ns t × Assigned ns b

  pub AllAssigned : List Name → Forms → Type 0
  AllAssigned ns none = Unit {0}
  AllAssigned ns (more e es) = Assigned ns e × AllAssigned ns es

mutual
  add_within : (xs : List Name) (e : Form) → Within xs (add_names xs e)
  add_within xs (strict a es) = add_all_within xs es
  add_within xs (local x) = λ y h. h
  add_within xs (set_local x e) = λ y h. add_within (with_text xs x) e y (with_within xs x y h)
  add_within xs (seq es) = add_all_within xs es
  add_within xs (cond_form t a b) = λ y h. add_within (add_names (add_names xs t) a) b y
      (add_within (add_names xs t) a y (add_within xs t y h))
  add_within xs (while_form t b) = λ y h. add_within (add_names xs t) b y (add_within xs t y h)

  add_all_within : (xs : List Name) (es : Forms) → Within xs (add_all xs es)
  add_all_within xs none = λ y h. h
  add_all_within xs (more e es) = λ y h. add_all_within (add_names xs e) es y (add_within xs e y h)

mutual
  assigned_in : (xs ns : List Name) (e : Form) → Within (add_names xs e) ns → Assigned ns e
  assigned_in xs ns (strict a es) w = all_assigned xs ns es w
  assigned_in xs ns (local x) w = tt
  assigned_in xs ns (set_local x e) w = (
    w x (add_within (with_text xs x) e x (with_has xs x)),
    assigned_in (with_text xs x) ns e w,
  )
  assigned_in xs ns (seq es) w = all_assigned xs ns es w
  assigned_in xs ns (cond_form t a b) w = (
    assigned_in xs ns t (λ y h. w y (add_within (add_names (add_names xs t) a) b y
        (add_within (add_names xs t) a y h))),
    assigned_in (add_names xs t) ns a (λ y h. w y (add_within (add_names (add_names xs t) a) b y h)),
    assigned_in (add_names (add_names xs t) a) ns b w,
  )
  assigned_in xs ns (while_form t b) w = (
    assigned_in xs ns t (λ y h. w y (add_within (add_names xs t) b y h)),
    assigned_in (add_names xs t) ns b w,
  )

  all_assigned : (xs ns : List Name) (es : Forms) → Within (add_all xs es) ns → AllAssigned ns es
  all_assigned xs ns none w = tt
  all_assigned xs ns (more e es) w = (
    assigned_in xs ns e (λ y h. w y (add_all_within (add_names xs e) es y h)),
    all_assigned (add_names xs e) ns es w,
  )

pub assigned_own : (f : Form) → Assigned (names_of f) f
assigned_own f = assigned_in [] (names_of f) f (λ y h. h)

-- what is known after a line is in the list, too
pub known_within : (known ns : List Name) (e : Form) → Within known ns → Assigned ns e → Within (known_after known e) ns
known_within known ns (strict a es) w s = w
known_within known ns (local x) w s = w
known_within known ns (set_local x e) w s = with_bounded known ns x w s.0
known_within known ns (seq es) w s = w
known_within known ns (cond_form t a b) w s = w
known_within known ns (while_form t b) w s = w
