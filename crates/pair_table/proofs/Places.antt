-- What the place of a key in a list of pairs says of them.
use Rattle.std.proofs.Common.{◌≡◌, ◌+◌, ◌<◌, ℕ, zero, suc, Bool, false, true, cond, List, [], ◌∷◌, ◌++◌, length, get_or, remove, position, nat_lt, not, slice_get, slice_set, Some, None, is_some, refl, sym, ap, ◌∙◌, arith, true≢false}
use Rattle.std.specs.List.{position_or_len}
use Rattle.std.specs.Map.{keys_of, values_of, lookup, remove_entry}
use Rattle.std.proofs.lemmas.Map.Entries.{length-keys_of}
use Rattle.indexmap.specs.IndexMap.{insert_entry, set_value_at}
use Rattle.indexmap.proofs.MapLemmas.{Found-position, Missing-position, insert_entry-first, insert_entry-absent, remove_entry-first}

module _ {K V : Type 0} where
  -- A list of pairs is searched as the list of its keys.
  before_by_keys : (t : K → Bool) (es : List (K × V)) → position_or_len (λ p. t p.0) es ≡ position_or_len t (keys_of es)
  before_by_keys t [] = refl
  before_by_keys t (e ∷ es) = ap (λ n. cond (not (t e.0)) (1 + n) 0) (before_by_keys t es)

  pub place_by_keys : (t : K → Bool) (es : List (K × V)) → position (λ p. t p.0) es ≡ position t (keys_of es)
  place_by_keys t es j =
      cond (nat_lt (before_by_keys t es j) (sym (length-keys_of es) j)) (Some (before_by_keys t es j)) None

  -- a value in the place of another
  pub value_set : (es : List (K × V)) (i : ℕ) (d : K × V) (v : V) → slice_set es i ((get_or es i d).0, v) ≡ set_value_at es i v
  value_set [] i d v = refl
  value_set (e ∷ es) zero d v = refl
  value_set (e ∷ es) (suc i) d v = ap (λ l. e ∷ l) (value_set es i d v)

  value_at : (es : List (K × V)) (i : ℕ) (d : K × V) → i < length es → slice_get (values_of es) i ≡ Some (get_or es i d).1
  value_at [] i d h = absurd (omega arith)
  value_at (e ∷ es) zero d h = refl
  value_at (e ∷ es) (suc i) d h = value_at es i d (omega arith)

module _ {K V : Type 0} (t : K → Bool) (es : List (K × V)) where
  -- What stands at the place of a key is under it.
  pub under_key : (i : ℕ) → position t (keys_of es) ≡ Some i → lookup t es ≡ slice_get (values_of es) i
  under_key i p = (Found-position t es i p).value

  pub value_there : (i : ℕ) (d : K × V) → position t (keys_of es) ≡ Some i → lookup t es ≡ Some (get_or es i d).1
  value_there i d p = under_key i p ∙ value_at es i d (Found-position t es i p).within

  pub no_value : position t (keys_of es) ≡ None → lookup t es ≡ None
  no_value p = (Missing-position t es p).value

  -- It is what is taken out with the key.
  pub taken_out : (i : ℕ) → position t (keys_of es) ≡ Some i → remove_entry t es ≡ remove es i
  taken_out i p = remove_entry-first t es i (Found-position t es i p).first

none_is_some : {A : Type 0} {x : A} → Some x ≡ None → {B : Type 0} → B
none_is_some e = absurd (true≢false (ap is_some e))

module _ {K V : Type 0} (t : K → Bool) where
  kept : (es : List (K × V)) → lookup t es ≡ None → remove_entry t es ≡ es
  kept [] h = refl
  kept (e ∷ es) h = by (t e.0) refl (kept es)
    where
      by : (b : Bool) → t e.0 ≡ b → (lookup t es ≡ None → remove_entry t es ≡ es) → remove_entry t (e ∷ es) ≡ e ∷ es
      by true q rest = none_is_some (sym (ap (λ b. cond b (Some e.1) (lookup t es)) q) ∙ h)
      by false q rest =
          ap (λ b. cond b es (e ∷ remove_entry t es)) q
          ∙ ap (λ l. e ∷ l) (rest (sym (ap (λ b. cond b (Some e.1) (lookup t es)) q) ∙ h))

  -- Where the key isn't there nothing is taken out.
  pub none_taken_out : (es : List (K × V)) → position t (keys_of es) ≡ None → remove_entry t es ≡ es
  none_taken_out es p = kept es (no_value t es p)

module _ {K V : Type 0} (eq : K → K → Bool) (es : List (K × V)) (k : K) (v : V) where
  -- A key that is there keeps its place,
  pub given_there : (i : ℕ) → position (eq k) (keys_of es) ≡ Some i → insert_entry eq es k v ≡ set_value_at es i v
  given_there i p = insert_entry-first eq k v es i (Found-position (eq k) es i p).first

  -- and another goes last.
  pub given_last : position (eq k) (keys_of es) ≡ None → insert_entry eq es k v ≡ es ++ (k, v) ∷ []
  given_last p = insert_entry-absent eq k v es (Missing-position (eq k) es p).absent
