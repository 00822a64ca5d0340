-- A text is no less deep than the value of any of its levels and the levels around it.
use Rattle.std.proofs.Common.{◌≡◌, ℕ, suc, ◌+◌, ◌≤◌, ◌<◌, List, [], ◌∷◌, length, Bool, true, false, arith, refl, sym, ap, ◌∙◌, if◌then◌else◌, get_or, drop, drop-cons, add-one}
use Rattle.std.proofs.Math.ListN.{drop_of_length-le}
use Rattle.rb_syntax.specs.declared.token.Token.{Token}
use Rattle.lexer_depth.specs.declared.effect.Effect.{Effect}
use Rattle.lexer_depth.specs.declared.effect.Effect.TheVariants.{Nothing, Count, Keep, Comma, Separate, EndLine, When, Do, Open, OpenLoop, OpenIndex, Close}
use Rattle.lexer_depth.specs.Effect.{effect, is_word}
use Rattle.lexer_depth.specs.Levels.{Measures, Levels, fresh, altered, counted, kept_counted, comma, separated, nested, closed_in, step, fold, finished, value_of}

nested_more : (l : Measures) (value : ℕ) → value + 1 ≤ (nested l value).value
nested_more l value = omega arith

nested_same : (l : Measures) (value : ℕ) → l.value ≤ (nested l value).value
nested_same l value = omega arith

nested_grows : (l : Measures) (a b : ℕ) → a ≤ b → (nested l a).value ≤ (nested l b).value
nested_grows l a b le = omega arith

-- the levels around a level make the text deeper
pub at_least : (top : Measures) (ls : List Measures) → top.value + length ls ≤ finished top ls
unfolding finished
at_least top [] = omega arith
at_least top (l ∷ ls) = omega (arith, at_least (nested l top.value) ls, nested_more l top.value)

-- a greater value of the innermost level makes the text no less deep
pub grows_with : (a b : Measures) (ls : List Measures) → a.value ≤ b.value → finished a ls ≤ finished b ls
unfolding finished
grows_with a b [] le = le
grows_with a b (l ∷ ls) le = grows_with (nested l a.value) (nested l b.value) ls (nested_grows l a.value b.value le)

altered_grows : (l : Measures) (count kept inner : ℕ) → l.value ≤ (altered l count kept inner).value
altered_grows l count kept inner = omega arith

opened_grows : (top : Measures) (ls : List Measures) (head : Bool) → finished top ls ≤ finished (fresh head) (top ∷ ls)
unfolding finished
opened_grows top ls head = grows_with top (nested top 0) ls (nested_same top 0)

closed_grows : (top : Measures) (ls : List Measures) → finished top ls ≤ value_of (closed_in top ls)
unfolding finished
closed_grows top [] = omega arith
closed_grows top (l ∷ ls) = omega arith

-- a level whose value is above 256 makes the text deeper than that
pub above : (a : Measures) (ls : List Measures) → 256 < a.value → 256 < finished a ls
above a ls more = omega (arith, at_least a ls)

pub index_deep : (top : Measures) (ls : List Measures) → 256 < finished (counted top) ls
    → 256 < finished (fresh false) (counted top ∷ ls)
index_deep top ls more = omega (arith, opened_grows (counted top) ls false)

comma_grows : (l : Measures) (choice : Bool) → l.value
    ≤ (if choice then counted l else record l { count = l.kept }).value
comma_grows l true = altered_grows l (l.count + 1) l.kept l.inner
comma_grows l false = omega arith

done_grows : (top : Measures) (ls : List Measures) (head : Bool)
    → finished top ls ≤ value_of (if head then (let s : Levels =
    record { top = separated top false false; around = ls } in
    s) else (let s : Levels = record { top = fresh false; around = top ∷ ls } in s))
done_grows top ls true = grows_with top (separated top false false) ls (omega arith)
done_grows top ls false = opened_grows top ls false

-- a token makes a text no less deep
grows : (e : Effect) (s : Levels) → value_of s ≤ value_of (step e s)
unfolding step
grows Nothing s = omega arith
grows Count s = grows_with s.top (counted s.top) s.around (altered_grows s.top (s.top.count + 1) s.top.kept s.top.inner)
grows Keep s = grows_with s.top (kept_counted s.top) s.around
    (altered_grows s.top (s.top.count + 1) (s.top.kept + 1) s.top.inner)
grows Comma s = grows_with s.top (comma s.top) s.around (comma_grows s.top s.top.choice)
grows Separate s = grows_with s.top (separated s.top s.top.head false) s.around (omega arith)
grows EndLine s = grows_with s.top (separated s.top false false) s.around (omega arith)
grows When s = grows_with s.top (separated s.top s.top.head true) s.around (omega arith)
grows Do s = done_grows s.top s.around s.top.head
grows Open s = opened_grows s.top s.around false
grows OpenLoop s = opened_grows s.top s.around true
grows OpenIndex s =
    let one : finished s.top s.around ≤ finished (counted s.top) s.around =
    grows_with s.top (counted s.top) s.around (altered_grows s.top (s.top.count + 1) s.top.kept s.top.inner) in
    omega (arith, one, opened_grows (counted s.top) s.around false)
grows Close s = closed_grows s.top s.around

fold_grows : (s : Levels) (after_word : Bool) (ts : List Token) → value_of s ≤ value_of (fold s after_word ts)
unfolding fold
fold_grows s after_word [] = omega arith
fold_grows s after_word (t ∷ ts) = omega (
  arith,
  grows (effect t after_word) s,
  fold_grows
      (step (effect t after_word) s) (is_word t.kind) ts,
)

step_folds : (s : Levels) (after_word : Bool) (t : Token) (ts : List Token)
    → fold s after_word (t ∷ ts) ≡ fold (step (effect t after_word) s) (is_word t.kind) ts
unfolding fold
step_folds s after_word t ts = refl

fold_ends : (s : Levels) (after_word : Bool) → fold s after_word [] ≡ s
unfolding fold
fold_ends s after_word = refl

-- one token more of a list
pub goes_on : (ts : List Token) (i : ℕ) (t : Token) (s next : Levels) (after_word : Bool) (all : Levels) → i < length ts
    → t ≡ get_or ts i t
    → next ≡ step (effect t after_word) s → fold s after_word (drop i ts) ≡ all
    → fold next (is_word t.kind) (drop (i + 1) ts) ≡ all
goes_on ts i t s next after_word all here is stepped same =
    let first : drop i ts ≡ t ∷ drop (i + 1) ts = rw (add-one, drop-cons ts i t)
    (ap (λ (x : Token). x ∷ drop (suc i) ts) (sym is)) in
    let one : fold s after_word (drop i ts) ≡ fold (step (effect t after_word) s) (is_word t.kind) (drop (i + 1) ts) =
    rw first (step_folds s after_word t (drop (i + 1) ts)) in
    rw stepped (sym one ∙ same)

-- a step that passes 256 makes the text deeper than that
pub stops : (ts : List Token) (i : ℕ) (t : Token) (s : Levels) (after_word : Bool) (all : Levels) → i < length ts
    → t ≡ get_or ts i t
    → 256 < value_of (step (effect t after_word) s) → fold s after_word (drop i ts) ≡ all → 256 < value_of all
stops ts i t s after_word all here is more same =
    let on : fold (step (effect t after_word) s) (is_word t.kind) (drop (i + 1) ts) ≡ all =
    goes_on ts i t s (step (effect t after_word) s) after_word all here is refl same in
    omega (
      arith,
      more,
      fold_grows (step (effect t after_word) s) (is_word t.kind) (drop (i + 1) ts),
      ap
          (λ (x : Levels). value_of x) on,
    )

pub ends : (ts : List Token) (i : ℕ) (s : Levels) (after_word : Bool) (all : Levels) → length ts ≤ i
    → fold s after_word (drop i ts) ≡ all → s ≡ all
ends ts i s after_word all past same =
    let none : drop i ts ≡ [] = drop_of_length-le ts past in
    sym (fold_ends s after_word) ∙ sym (ap (λ (x : List Token). fold s after_word x) none) ∙ same
