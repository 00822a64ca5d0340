-- Words that ask for a run are no command, those that ask for a sample neither; and what words ask for is one thing.
use Rattle.std.proofs.Common.{◌≡◌, ℕ, List, [], ◌∷◌, Bool, true, false, refl, subst, sym, Option, Some, None}
use Rattle.std.specs.Prelude.{bytes_eq, codes, if◌then◌else◌}
use Rattle.std.proofs.lemmas.Slice.Eq.{bytes_eq-Decides}
use Rattle.rite_tool.specs.Words.{Command, exec, Run, run_of, run_after, command_of, number_of, sample_size, sample_of}

of_word : (words : List (List ℕ)) → command_of (codes "run" ∷ words) ≡ None
of_word words = refl

pub alone : (words : List (List ℕ)) (run : Run) → run_of words ≡ Some run → command_of words ≡ None
alone [] run is = refl
alone (word ∷ words) run is = elim (bytes_eq word (codes "run")) as
    (λ (b : Bool). bytes_eq word (codes "run") ≡ b → (if b then run_after words else None) ≡ Some run
    → command_of (word ∷ words) ≡ None) [
      | true ↦ λ same asked. subst (λ (w : List ℕ). command_of (w ∷ words) ≡ None)
          (sym ((bytes_eq-Decides word (codes "run")).0 same)) (of_word words)
      | false ↦ λ other asked. cc
    ] refl is

-- neither a run nor a command
abbrev IsNeither : List (List ℕ) → Type 0
IsNeither words = (run_of words ≡ None) × (command_of words ≡ None)

of_sample : (words : List (List ℕ)) → IsNeither (codes "sample" ∷ words)
of_sample words = (refl, refl)

neither : (words : List (List ℕ)) (size : ℕ) → sample_of words ≡ Some size → IsNeither words
neither [] size is = (cc, cc)
neither (word ∷ []) size is = (cc, cc)
neither (word ∷ (number ∷ [])) size is = elim (bytes_eq word (codes "sample")) as
    (λ (b : Bool). bytes_eq word (codes "sample") ≡ b → (if b then sample_size (number_of number) else None) ≡ Some size
    → IsNeither (word ∷ (number ∷ []))) [
      | true ↦ λ same asked. subst (λ (w : List ℕ). IsNeither (w ∷ (number ∷ [])))
          (sym ((bytes_eq-Decides word (codes "sample")).0 same)) (of_sample (number ∷ []))
      | false ↦ λ other asked. (cc, cc)
    ] refl is
neither (word ∷ (number ∷ (other ∷ words))) size is = (cc, cc)

pub no_run : (words : List (List ℕ)) (size : ℕ) → sample_of words ≡ Some size → run_of words ≡ None
no_run words size is = (neither words size is).0

pub no_command : (words : List (List ℕ)) (size : ℕ) → sample_of words ≡ Some size → command_of words ≡ None
no_command words size is = (neither words size is).1

pub same_size : (n m : ℕ) (asked : Option ℕ) → Some n ≡ asked → asked ≡ Some m → n ≡ m
same_size n m asked e h = cc

pub same_run : (r s : Run) (asked : Option Run) → Some r ≡ asked → asked ≡ Some s → r ≡ s
same_run r s asked e h = cc

pub same_exec : (c : Command) (n m : ℕ) (s t f h : List ℕ) → c ≡ exec n s f → c ≡ exec m t h
    → (n ≡ m) × (s ≡ t) × (f ≡ h)
same_exec c n m s t f h e g = (cc, cc, cc)
