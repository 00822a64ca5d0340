-- A source whose bodies are those of a code has the symbols of the code, and those of each of its bodies.
use Rattle.std.proofs.Common.{◌≡◌, ◌<◌, ℕ, zero, suc, ◌+◌, List, [], ◌∷◌, ◌++◌, length, get_or, arith, refl, sym, ap, ◌∙◌, subst, true}
use Rattle.rite_code.specs.declared.code.Irep.{Irep}
use Rattle.text_set.specs.Sets.{is_among}
use Rattle.ir_core.specs.CoreForm as form
use Rattle.ir_core.specs.CoreForm.{Name, Body}
use Rattle.ir_counts.specs.Counts.{tally}
use Rattle.def_core.specs.Store.{Store}
use Rattle.rb_store.specs.Opening.{with_names}
use Rattle.def_eval.specs.Source.{Source, over, named_in, all_names}
use Rattle.def_machine.specs.State.{all_symbols}
use Rattle.step_laws.proofs.Names.{Knows, named_append, knows_named, among_known, same_symbols}
use Rattle.eval_laws.specs.Kinds.{Kind, of_program, of_block, of_method, of_class}
use Rattle.step_laws.proofs.Written.{WrittenAs, AllWritten}

-- a body and those behind it
pub one_more : (p : form.Parameters) (ls : List form.Local) (f : form.CoreForm) (bs : List Body) (is : List Irep)
    → ((st : Store) → with_names st (all_names bs) ≡ with_names st (all_symbols is)) → (st : Store)
    → with_names st (over named_in f ++ all_names bs)
    ≡ with_names st ((tally (form.body p ls f)).symbols ++ all_symbols is)
one_more p ls f bs is further st =
    let ns = (tally (form.body p ls f)).symbols in
    named_append (over named_in f) (all_names bs) st
    ∙ ap (λ (z : Store). with_names z (all_names bs)) (sym (same_symbols p ls f st))
    ∙ further (with_names st ns)
    ∙ sym (named_append ns (all_symbols is) st)

-- those of the code of a body of the source
symbols_are : (s : Source) (k : Kind) (n : ℕ) (p : form.Parameters) (ls : List form.Local) (f : form.CoreForm) (i : Irep)
    → WrittenAs s k n (form.body p ls f) i → i.symbols ≡ (tally (form.body p ls f)).symbols
symbols_are s of_program n p ls f i w = absurd w
symbols_are s of_block n p ls f i w = ap (λ (j : Irep). j.symbols) w.is
symbols_are s of_method n p ls f i w = ap (λ (j : Irep). j.symbols) w.is
symbols_are s of_class n p ls f i w = ap (λ (j : Irep). j.symbols) w.is

pub names_written : (s : Source) (n : ℕ) (ks : List Kind) (bs : List Body) (is : List Irep) → AllWritten s n ks bs is
    → (st : Store) → with_names st (all_names bs) ≡ with_names st (all_symbols is)
names_written s n [] [] [] w st = refl
names_written s n [] [] (i ∷ is) w st = absurd w
names_written s n [] (b ∷ bs) is w st = absurd w
names_written s n (k ∷ ks) [] is w st = absurd w
names_written s n (k ∷ ks) (b ∷ bs) [] w st = absurd w
names_written s n (k ∷ ks) (form.body p ls f ∷ bs) (i ∷ is) w st =
    one_more p ls f bs is (λ (z : Store). names_written s (n + 1) ks bs is w.1 z) st
    ∙ ap (λ (xs : List Name). with_names st (xs ++ all_symbols is)) (sym (symbols_are s k n p ls f i w.0))

-- the symbols of a body
pub all_known : (bs : List Body) (k : ℕ) (b : Body) (st : Store) (x : Name) → k < length bs
    → is_among x (tally (get_or bs k b)).symbols ≡ true → Knows (with_names st (all_names bs)) x
all_known [] k b st x lt e = absurd (omega (arith, lt))
all_known (form.body p ls f ∷ bs) zero b st x lt e =
    subst (λ (z : Store). Knows z x) (sym (named_append (over named_in f) (all_names bs) st))
    (knows_named (all_names bs) (with_names st (over named_in f)) x
    (subst (λ (z : Store). Knows z x) (same_symbols p ls f st) (among_known x (tally (form.body p ls f)).symbols st e)))
all_known (form.body p ls f ∷ bs) (suc k) b st x lt e =
    subst (λ (z : Store). Knows z x) (sym (named_append (over named_in f) (all_names bs) st))
    (all_known bs k b (with_names st (over named_in f)) x (omega (arith, lt)) e)
