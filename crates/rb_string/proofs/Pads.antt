-- Copies of a text, one after another.
use Rattle.std.proofs.Common.{◌≡◌, ℕ, zero, suc, ◌+◌, ◌-◌, ◌*◌, ◌/◌, ◌<◌, ◌≤◌, List, [], ◌∷◌, ◌++◌, length, get_or, take, replicate, Ok, Err, refl, sym, ap, ◌∙◌, arith, length-append, append_assoc, zero-mul, suc-mul}
use Rattle.std.specs.List.{repeat}
use Rattle.std.proofs.lemmas.List.{take_all, take-append-le, length-take-le, length-replicate}
use Rattle.std.proofs.Math.Nat.{div-lt_iff_lt-mul}
use Rattle.rb_string.specs.declared.failure.StringFailure.TheVariants.{TooLong}
use Rattle.rb_string.specs.Limit.{limited}
use Rattle.rb_string.specs.Padding.{padding}
use Rattle.rb_string.proofs.Limits.{limited_short, limited_long, three_long}

take_append : (k : ℕ) (xs ys : List ℕ) → take k (xs ++ ys) ≡ take k xs ++ take (k - length xs) ys
take_append zero xs ys = let none : 0 - length xs ≡ 0 = omega arith in rw none refl
take_append (suc k) [] ys = let all : suc k - 0 ≡ suc k = omega arith in rw all refl
take_append (suc k) (x ∷ xs) ys =
    let less : suc k - suc (length xs) ≡ k - length xs = omega arith in
    rw less (ap (λ l. x ∷ l) (take_append k xs ys))

-- enough copies are as good as more
enough : (p : ℕ) (ps : List ℕ) (a b k : ℕ) → k ≤ a → k ≤ b
    → take k (repeat a (p ∷ ps)) ≡ take k (repeat b (p ∷ ps))
enough p ps zero b k ha hb = let none : k ≡ 0 = omega arith in rw none refl
enough p ps (suc a) zero k ha hb = let none : k ≡ 0 = omega arith in rw none refl
enough p ps (suc a) (suc b) k ha hb =
    let pad = p ∷ ps in
    take_append k pad (repeat a pad)
    ∙ ap (λ l. take k pad ++ l) (enough p ps a b (k - length pad) (omega arith) (omega arith))
    ∙ sym (take_append k pad (repeat b pad))

pub padding_step : (pad : List ℕ) (n : ℕ) → 0 < length pad → length pad ≤ n
    → padding pad n ≡ pad ++ padding pad (n - length pad)
unfolding padding
padding_step [] n some low = absurd (omega arith)
padding_step (p ∷ ps) zero some low = absurd (omega arith)
padding_step (p ∷ ps) (suc n) some low =
    let pad = p ∷ ps in
    take_append (suc n) pad (repeat n pad)
    ∙ ap (λ l. l ++ take (suc n - length pad) (repeat n pad)) (take_all (suc n) pad low)
    ∙ ap (λ l. pad ++ l) (enough p ps n (suc n - length pad) (suc n - length pad) (omega arith) (omega arith))

pub padding_last : (pad : List ℕ) (n : ℕ) → n ≤ length pad → padding pad n ≡ take n pad
unfolding padding
padding_last pad zero high = refl
padding_last pad (suc n) high = take-append-le (suc n) pad (repeat n pad) high

no_copies : (n : ℕ) → repeat n [] ≡ (let none : List ℕ = [] in none)
no_copies zero = refl
no_copies (suc n) = no_copies n

pub padding_empty : (pad : List ℕ) (n : ℕ) → length pad ≡ 0 → padding pad n ≡ []
unfolding padding
padding_empty [] n none = ap (take n) (no_copies n) ∙ take_all n [] (omega arith)
padding_empty (p ∷ ps) n none = absurd (omega arith)

long_copies : (p : ℕ) (ps : List ℕ) (n : ℕ) → n ≤ length (repeat n (p ∷ ps))
long_copies p ps zero = omega arith
long_copies p ps (suc n) =
    let later : n ≤ length (repeat n (p ∷ ps)) = long_copies p ps n in
    let size : length ((p ∷ ps) ++ repeat n (p ∷ ps)) ≡ suc (length ps) + length (repeat n (p ∷ ps)) =
    length-append (p ∷ ps) (repeat n (p ∷ ps)) in
    omega arith

pub padding_length : (pad : List ℕ) (n : ℕ) → 0 < length pad → length (padding pad n) ≡ n
unfolding padding
padding_length [] n some = absurd (omega arith)
padding_length (p ∷ ps) n some = length-take-le n (repeat n (p ∷ ps)) (long_copies p ps n)

pub length_copies : (n : ℕ) (xs : List ℕ) → length (repeat n xs) ≡ n * length xs
length_copies zero xs = sym (zero-mul (length xs))
length_copies (suc n) xs =
    length-append xs (repeat n xs) ∙ ap (λ k. length xs + k) (length_copies n xs)
    ∙ omega (arith, suc-mul n (length xs))

-- one copy more stands before the others
pub copy_before : (n : ℕ) (made xs all : List ℕ) → 0 < n → made ++ repeat n xs ≡ all
    → (made ++ xs) ++ repeat (n - 1) xs ≡ all
copy_before zero made xs all some h = absurd (omega arith)
copy_before (suc n) made xs all some h =
    let less : suc n - 1 ≡ n = omega arith in
    rw less (append_assoc made xs (repeat n xs) ∙ h)

pub no_copies_made : (n : ℕ) (text : List ℕ) → length text ≡ 0 → limited (repeat n text) ≡ Ok []
no_copies_made n [] none = ap limited (no_copies n) ∙ limited_short [] (omega arith)
no_copies_made n (x ∷ xs) none = absurd (omega arith)

pub many_copies : (n : ℕ) (text : List ℕ) → 0 < length text → 268435456 / length text < n
    → limited (repeat n text) ≡ Err TooLong
many_copies n text some many =
    let product : 268435456 < n * length text = (div-lt_iff_lt-mul some).0 many in
    limited_long (repeat n text) (omega (arith, length_copies n text))

pub few_copies : (n : ℕ) (text : List ℕ) → n * length text ≤ 268435456
    → limited (repeat n text) ≡ Ok (repeat n text)
few_copies n text few = limited_short (repeat n text) (omega (arith, length_copies n text))

-- padding beyond the limit
pub padded_long : (text pad : List ℕ) (before behind : ℕ) → 0 < length pad
    → 268435456 < length text + before + behind
    → limited (padding pad before ++ text ++ padding pad behind) ≡ Err TooLong
padded_long text pad before behind some many =
    three_long (padding pad before) text (padding pad behind)
    (omega (arith, padding_length pad before some, padding_length pad behind some))

-- copies of one byte
copies_of_one : (n x : ℕ) → repeat n (x ∷ []) ≡ replicate n x
copies_of_one zero x = refl
copies_of_one (suc n) x = ap (λ l. x ∷ l) (copies_of_one n x)

pub one_byte_copies : (n : ℕ) (text : List ℕ) → length text ≡ 1 → replicate n (get_or text 0 0) ≡ repeat n text
one_byte_copies n [] one = absurd (omega arith)
one_byte_copies n (x ∷ []) one = sym (copies_of_one n x)
one_byte_copies n (x ∷ y ∷ ys) one = absurd (omega arith)

pub one_byte_padding : (n : ℕ) (pad : List ℕ) → length pad ≡ 1 → replicate n (get_or pad 0 0) ≡ padding pad n
unfolding padding
one_byte_padding n pad one =
    sym (take_all n (replicate n (get_or pad 0 0)) (omega (arith, length-replicate n (get_or pad 0 0))))
    ∙ ap (take n) (one_byte_copies n pad one)

-- an empty text that was made longer by one byte again and again
pub resized : (n x : ℕ) (old : List ℕ) (size : ℕ) → old ≡ [] → size ≡ 0
    → take n old ++ replicate (n - size) x ≡ replicate n x
resized n x old size none zero_is =
    let all : n - size ≡ n = omega arith in
    ap (λ l. take n l ++ replicate (n - size) x) none
    ∙ ap (λ l. l ++ replicate (n - size) x) (take_all n [] (omega arith)) ∙ ap (λ k. replicate k x) all
