-- An entry of a pool is new where the sets of those before haven't it.
use Rattle.std.proofs.Common.{◌≡◌, refl, sym, ap, subst, ◌∙◌, ℕ, ℤ, List, [], ◌∷◌, ◌++◌, Bool, true, false, cond}
use Rattle.std.specs.Prelude.{not, Result, Ok, ◌||◌, nat_eq, nat_lt}
use Rattle.std.specs.Int.{w8}
use Rattle.std.specs.List.{list_any}
use Rattle.std.specs.Ordering.{int_eq}
use Rattle.std.specs.Str.{bytes_eq}
use Rattle.std.proofs.lemmas.Bool.{cond-false}
use Rattle.std.proofs.lemmas.Bool.Decides.{Decides-int_eq}
use Rattle.integer_set.specs.Sets as integer_sets
use Rattle.text_set.specs.Sets.{is_among, with_text}
use Rattle.rite_code.specs.declared.code.PoolItem.{PoolItem}
use Rattle.rite_code.specs.declared.code.PoolItem.TheVariants.{Int, Text}
use Rattle.rb_base.specs.Result.{◌>>=◌}
use Rattle.rite_file.specs.declared.error.LoadError.{LoadError}
use Rattle.rite_file.specs.Record.{item_eq, is_new, tested_at, text_at, int_at, item_at}
use Rattle.rite_file.specs.Seen.{integers_in, texts_in, AreSeen, StandsBefore}
use Rattle.rite_file.proofs.Among.{eq-sym, any_of, text_before}
use Rattle.rite_file.proofs.Fields.{bind_ok, ok_is, not-true}

int-sym : (m n : ℤ) → int_eq m n ≡ int_eq n m
int-sym m n =
    elim (int_eq m n) as (λ b. int_eq m n ≡ b → b ≡ int_eq n m) [
      | true ↦ λ e. sym ((Decides-int_eq n m).1 (sym ((Decides-int_eq m n).0 e)))
      | false ↦ λ e. unequal (int_eq n m) refl e
    ] refl
  where
    unequal : (b : Bool) → int_eq n m ≡ b → int_eq m n ≡ false → false ≡ b
    unequal true h e = sym e ∙ (Decides-int_eq m n).1 (sym ((Decides-int_eq n m).0 h))
    unequal false h e = refl

any_integer : (n : ℤ) (items : List PoolItem) → list_any (λ (y : PoolItem). item_eq y (Int n)) items
    ≡ integer_sets.is_among n (integers_in items)
any_integer n [] = refl
any_integer n (Int m ∷ xs) =
    ap (λ (b : Bool). b || list_any (λ (y : PoolItem). item_eq y (Int n)) xs) (int-sym m n)
    ∙ ap (λ (b : Bool). int_eq n m || b) (any_integer n xs)
any_integer n (Text t ∷ xs) = any_integer n xs

any_text : (x : List ℕ) (items : List PoolItem) → list_any (λ (y : PoolItem). item_eq y (Text x)) items
    ≡ is_among x (texts_in items)
any_text x [] = refl
any_text x (Int m ∷ xs) = any_text x xs
any_text x (Text t ∷ xs) =
    ap (λ (b : Bool). b || list_any (λ (y : PoolItem). item_eq y (Text x)) xs) (eq-sym t x)
    ∙ ap (λ (b : Bool). bytes_eq x t || b) (any_text x xs)
    ∙ sym (any_of (bytes_eq x t) (is_among x (texts_in xs)))

integers_more : (n : ℤ) (items : List PoolItem) → integers_in (items ++ Int n ∷ []) ≡ integers_in items ++ n ∷ []
integers_more n [] = refl
integers_more n (Int m ∷ xs) = ap (λ (ns : List ℤ). m ∷ ns) (integers_more n xs)
integers_more n (Text t ∷ xs) = integers_more n xs

integers_same : (t : List ℕ) (items : List PoolItem) → integers_in (items ++ Text t ∷ []) ≡ integers_in items
integers_same t [] = refl
integers_same t (Int m ∷ xs) = ap (λ (ns : List ℤ). m ∷ ns) (integers_same t xs)
integers_same t (Text u ∷ xs) = integers_same t xs

texts_more : (t : List ℕ) (items : List PoolItem) → texts_in (items ++ Text t ∷ []) ≡ texts_in items ++ t ∷ []
texts_more t [] = refl
texts_more t (Int m ∷ xs) = texts_more t xs
texts_more t (Text u ∷ xs) = ap (λ (ts : List (List ℕ)). u ∷ ts) (texts_more t xs)

texts_same : (n : ℤ) (items : List PoolItem) → texts_in (items ++ Int n ∷ []) ≡ texts_in items
texts_same n [] = refl
texts_same n (Int m ∷ xs) = texts_same n xs
texts_same n (Text u ∷ xs) = ap (λ (ts : List (List ℕ)). u ∷ ts) (texts_same n xs)

-- what the sets tell of an entry
pub fresh_integer : (items : List PoolItem) (integers : List ℤ) (texts : List (List ℕ)) (m n : ℤ) (new : Bool)
    → new ≡ not (integer_sets.is_among m integers) → m ≡ n → AreSeen items integers texts
    → new ≡ is_new item_eq items (Int n)
fresh_integer items integers texts m n new h e seen =
    h ∙ ap (λ (z : ℤ). not (integer_sets.is_among z integers)) e
    ∙ ap (λ (ns : List ℤ). not (integer_sets.is_among n ns)) seen.integers_are ∙ ap not (sym (any_integer n items))

pub fresh_text : (items : List PoolItem) (integers : List ℤ) (texts : List (List ℕ)) (spelled x : List ℕ) (new : Bool)
    → new ≡ not (is_among spelled texts) → spelled ≡ x → AreSeen items integers texts
    → new ≡ is_new item_eq items (Text x)
fresh_text items integers texts spelled x new h e seen =
    h ∙ ap (λ (z : List ℕ). not (is_among z texts)) e
    ∙ ap (λ (ts : List (List ℕ)). not (is_among x ts)) seen.texts_are ∙ ap not (sym (any_text x items))

-- and what they hold then
pub grown_integer : (items : List PoolItem) (integers : List ℤ) (texts : List (List ℕ)) (m n : ℤ) → m ≡ n
    → is_new item_eq items (Int n) ≡ true → AreSeen items integers texts
    → AreSeen (items ++ Int n ∷ []) (integer_sets.with_integer integers m) texts
grown_integer items integers texts m n e new seen =
    let none : integer_sets.is_among n (integers_in items) ≡ false =
    sym (any_integer n items) ∙ not-true (list_any (λ (y : PoolItem). item_eq y (Int n)) items) new in
    record {
      integers_are = ap (integer_sets.with_integer integers) e
          ∙ ap (λ (ns : List ℤ). integer_sets.with_integer ns n) seen.integers_are
          ∙ cond-false (integer_sets.is_among n (integers_in items)) (integers_in items)
          (integers_in items ++ n ∷ []) none
          ∙ sym (integers_more n items);
      texts_are = seen.texts_are ∙ sym (texts_same n items);
    }

pub grown_text : (items : List PoolItem) (integers : List ℤ) (texts : List (List ℕ)) (spelled x : List ℕ)
    → spelled ≡ x → is_new item_eq items (Text x) ≡ true → AreSeen items integers texts
    → AreSeen (items ++ Text x ∷ []) integers (with_text texts spelled)
grown_text items integers texts spelled x e new seen =
    let none : is_among x (texts_in items) ≡ false =
    sym (any_text x items) ∙ not-true (list_any (λ (y : PoolItem). item_eq y (Text x)) items) new in
    record {
      integers_are = seen.integers_are ∙ sym (integers_same x items);
      texts_are = ap (with_text texts) e ∙ ap (λ (ts : List (List ℕ)). with_text ts x) seen.texts_are
          ∙ cond-false (is_among x (texts_in items)) (texts_in items) (texts_in items ++ x ∷ []) none
          ∙ sym (texts_more x items);
    }

-- an entry that was read ends at the place after it
abbrev as_text : List ℕ × ℕ → Result (PoolItem × ℕ) LoadError
as_text t = Ok (Text t.0, t.1)

abbrev as_int : ℤ × ℕ → Result (PoolItem × ℕ) LoadError
as_int n = Ok (Int n.0, n.1)

abbrev EndsAt : List ℕ → PoolItem × ℕ → Type 0
EndsAt bytes p = StandsBefore bytes p.1 p.0

item_ends : (bytes : List ℕ) (from : ℕ) (is_text : Bool) (x : PoolItem) (next : ℕ)
    → cond is_text (text_at bytes from >>= as_text) (int_at bytes from >>= as_int) ≡ Ok (x, next)
    → EndsAt bytes (x, next)
item_ends bytes from true x next e =
    let b = bind_ok (text_at bytes from) as_text (x, next) e in
    subst (EndsAt bytes) (ok_is (Text b.0.0, b.0.1) (x, next) b.2) (text_before bytes from b.0.0 b.0.1 b.1)
item_ends bytes from false x next e =
    let b = bind_ok (int_at bytes from) as_int (x, next) e in
    subst (EndsAt bytes) (ok_is (Int b.0.0, b.0.1) (x, next) b.2) tt

pub item_before : (bytes : List ℕ) (at : ℕ) (x : PoolItem) (next : ℕ) → item_at bytes at ≡ Ok (x, next)
    → StandsBefore bytes next x
unfolding item_at
item_before bytes at x next e =
    let t = bind_ok (tested_at w8 (λ n. nat_lt n 2) bytes at)
    (λ tag. cond (nat_eq tag.0 0) (text_at bytes tag.1 >>= as_text) (int_at bytes tag.1 >>= as_int)) (x, next) e in
    item_ends bytes t.0.1 (nat_eq t.0.0 0) x next t.2
