-- `puts`, `print` and `p`.
use Rattle.std.proofs.Common.{◌≡◌, ℕ, ◌<◌, ◌^◌, refl, sym, ap, ◌∙◌, List, [], ◌∷◌, length, arith}
use Rattle.std.specs.Prelude.{codes, Bool, true, false, Option, Some, None}
use Rattle.rb_value.specs.declared.value.Value.{Value}
use Rattle.rb_value.specs.declared.value.Value.TheVariants.{Nil, True, False, Int, Sym, Obj}
use Rattle.rb_value.specs.declared.value.ObjId.{ObjId}
use Rattle.rb_store.specs.Held.{Held}
use Rattle.heap.specs.Made.{array_given, with_array}
use Rattle.core_calls.specs.Flat.{flattened}
use Rattle.core_calls.specs.declared.flattening.Empty.TheVariants.{Vanishes}
use Rattle.def_plans.specs.Plan.{Planned, gives}
use Rattle.run_rows.specs.declared.row.KernelRow.TheVariants as kernel
use Rattle.run_rows.specs.declared.row.StarRow.TheVariants as row
use Rattle.core_iter.specs.declared.iteration.Iteration.TheVariants as state
use Rattle.core_iter.specs.declared.iteration.Rest.{Rest}
use Rattle.core_iter.specs.Rows.{Starts}
use Rattle.core_iter.specs.Sending.{ask}
use Rattle.core_iter.specs.Stage.{Stage, own}
use Rattle.core_iter.specs.Writing as writing
use Rattle.core_iter.specs.Writing.{all_of, first}
use Rattle.items_laws.specs.Run.{Turn, Runs, Gives, waiting}
use Rattle.items_laws.specs.Items.{IsValue}
use Rattle.items_laws.specs.Asked.{symbol}
use Rattle.items_laws.specs.Output.{GoesOut, IsAllOf, IsCutShort, in_its_line, in_its_text, is_nil, itself, nobody, with_newline}
use Rattle.items_laws.proofs.Inversion.{same_held, same_value}
use Rattle.items_laws.proofs.Small.{none_some, not_both}
use Rattle.items_laws.proofs.Speaking.{Speaker, Spoken, all_left, all_of_it, behind_first, part, silence_out, speaks}

-- what is given, and left

abbrev no_value : Held → List Value → Value
no_value held vs = Nil

abbrev as_it_was : Held → List Value → Held
as_it_was held vs = held

abbrev given_all : Held → List Value → Value
given_all held [] = Nil
given_all held (x ∷ []) = x
given_all held (x ∷ y ∷ xs) = array_given held.store (x ∷ y ∷ xs)

abbrev left_all : Held → List Value → Held
left_all held [] = held
left_all held (x ∷ []) = held
left_all held (x ∷ y ∷ xs) = with_array held (x ∷ y ∷ xs)

gives_all : (held : Held) (vs : List Value) → writing.give_all held vs ≡ gives (left_all held vs) (given_all held vs)
gives_all held [] = refl
gives_all held (x ∷ []) = refl
gives_all held (x ∷ y ∷ xs) = refl

-- `print`

abbrev prints : Speaker (codes "to_s") nobody itself no_value as_it_was
prints = record {
  behind = λ r. state.Printing r;
  within = λ r. state.PrintingText r;
  next = writing.print_next;
  written = λ held r a p e. e;
  told = λ held r a p e. e;
  ends = λ held r e. ap (λ (o : Option Value). writing.print_by held r o) e;
  asks = λ held r v e heard. ap (λ (o : Option Value). writing.print_by held r o) e;
  silences = λ held r v e heard. absurd (not_both false heard refl);
}

-- `p`

abbrev inspects : Speaker (codes "inspect") nobody with_newline given_all left_all
inspects = record {
  behind = λ r. state.Inspecting r;
  within = λ r. state.InspectingText r;
  next = writing.inspect_next;
  written = λ held r a p e. e;
  told = λ held r a p e. e;
  ends = λ held r e. ap (λ (o : Option Value). writing.inspect_by held r o) e ∙ gives_all held r.values;
  asks = λ held r v e heard. ap (λ (o : Option Value). writing.inspect_by held r o) e;
  silences = λ held r v e heard. absurd (not_both false heard refl);
}

-- `puts`

put_loudly : (held : Held) (r : Rest) (v : Value) → is_nil v ≡ false
    → writing.put_value held r v ≡ ask held (own (state.PuttingText r)) v (codes "to_s")
put_loudly held r Nil e = absurd (cc)
put_loudly held r True e = refl
put_loudly held r False e = refl
put_loudly held r (Int z) e = refl
put_loudly held r (Sym s) e = refl
put_loudly held r (Obj o) e = refl

put_silently : (held : Held) (r : Rest) (v : Value) → is_nil v ≡ true
    → writing.put_value held r v ≡ writing.writing held (state.Putting r) (writing.line [])
put_silently held r Nil e = refl
put_silently held r True e = absurd (cc)
put_silently held r False e = absurd (cc)
put_silently held r (Int z) e = absurd (cc)
put_silently held r (Sym s) e = absurd (cc)
put_silently held r (Obj o) e = absurd (cc)

abbrev puts : Speaker (codes "to_s") is_nil writing.line no_value as_it_was
puts = record {
  behind = λ r. state.Putting r;
  within = λ r. state.PuttingText r;
  next = writing.put_next;
  written = λ held r a p e. e;
  told = λ held r a p e. e;
  ends = λ held r e. ap (λ (o : Option Value). writing.put_by held r o) e;
  asks = λ held r v e heard. ap (λ (o : Option Value). writing.put_by held r o) e ∙ put_loudly held (behind_first r) v heard;
  silences = λ held r v e heard. ap (λ (o : Option Value). writing.put_by held r o) e ∙ put_silently held (behind_first r) v heard;
}

-- Whole runs and those that are left.

no_cut : (name : List ℕ) (silent : Value → Bool) (line : List ℕ → List ℕ) (held : Held) (vs : List Value)
    (ts : List Turn) (after : Held) (v : Value) → IsCutShort name silent line held vs ts (gives after v) → ⊥
no_cut name silent line held vs ts after v (in_its_text h passed further x texts bytes same says asks lines) =
    none_some (x, symbol name h, [], None, false) asks.message
no_cut name silent line held vs ts after v (in_its_line h passed further texts bytes some same says out lines) =
    none_some some out.bytes_are

whole : (name : List ℕ) (silent : Value → Bool) (line : List ℕ → List ℕ) (held : Held) (vs : List Value)
    (ts : List Turn) (after : Held) (v : Value) (End Result : Held → Type 0) → ((h : Held) → End h → Result h)
    → Spoken name silent line held vs ts End (gives after v) → GoesOut name silent line held vs ts Result
whole name silent line held vs ts after v End Result so (all_of_it s) = record {
  texts = s.texts;
  bytes = s.bytes;
  last = s.last;
  says = s.says;
  lines = s.lines;
  result = so s.last s.result;
}
whole name silent line held vs ts after v End Result so (part c) = absurd (no_cut name silent line held vs ts after v c)

cut : (name : List ℕ) (silent : Value → Bool) (line : List ℕ → List ℕ) (held : Held) (vs : List Value)
    (ts : List Turn) (last : Planned Stage) (s : Stage) (left : Held → Held) (result : Held → Value)
    → waiting last.plan ≡ Some s → Spoken name silent line held vs ts (λ h. last ≡ gives (left h) (result h)) last
    → IsCutShort name silent line held vs ts last
cut name silent line held vs ts last s left result waits (all_of_it k) =
    absurd (none_some s (sym (ap (λ (p : Planned Stage). waiting p.plan) k.result) ∙ waits))
cut name silent line held vs ts last s left result waits (part c) = c

nothing_given : (after h : Held) (v : Value) → gives {S = Stage} after v ≡ gives h Nil → IsValue h Nil v after
nothing_given after h v e = record { value = same_value after h v Nil e; left = same_held after h v Nil e }

all_given : (vs : List Value) (after h : Held) (v : Value) → gives {S = Stage} after v ≡ gives (left_all h vs) (given_all h vs)
    → IsAllOf vs h v after
all_given [] after h v e = nothing_given after h v e
all_given (x ∷ []) after h v e = record { value = same_value after h v x e; left = same_held after h v x e }
all_given (x ∷ y ∷ xs) after h v e =
    let vs = x ∷ y ∷ xs in record {
      value = same_value after (with_array h vs) v (array_given h.store vs) e;
      left = same_held after (with_array h vs) v (array_given h.store vs) e;
    }

-- from the first value on

record Spoke (name : List ℕ) (silent : Value → Bool) (line : List ℕ → List ℕ) (result : Held → List Value → Value)
    (left : Held → List Value → Held) (held : Held) (vs : List Value) (ts : List Turn) (last : Planned Stage) : Type 0 where
  so : Spoken name silent line held vs ts (λ h. last ≡ gives (left h vs) (result h vs)) last

spoke : (name : List ℕ) (silent : Value → Bool) (line : List ℕ → List ℕ) (result : Held → List Value → Value)
    (left : Held → List Value → Held) (m : Speaker name silent line result left) (vs : List Value) (held : Held)
    (ts : List Turn) (last p : Planned Stage) → length vs < 2 ^ 64 → p ≡ m.next held (all_of vs) → Runs p ts last
    → Spoke name silent line result left held vs ts last
spoke name silent line result left m vs held ts last p less comes runs = record {
  so = speaks name silent line result left m vs held (all_of vs) vs ts last p refl (all_left vs less) comes runs;
}

nil_spoken : (held : Held) (ts : List Turn) (last p : Planned Stage) → p ≡ writing.put_all held [] → Runs p ts last
    → Spoken (codes "to_s") is_nil writing.line held (Nil ∷ []) ts (λ h. last ≡ gives h Nil) last
nil_spoken held ts last p comes runs =
    silence_out (codes "to_s") is_nil writing.line no_value as_it_was puts Nil [] held (all_of [])
    (λ h. last ≡ gives h Nil) ts last p refl comes
    (λ h us q is further. speaks (codes "to_s") is_nil writing.line no_value as_it_was puts [] h (all_of []) [] us last q refl
    (all_left [] none) is further) runs
  where
    none : 0 < 2 ^ 64
    none = omega arith

put_starts : (held : Held) (x : Value) (xs values : List Value) (first : Planned Stage)
    → flattened Vanishes held.store (x ∷ xs) ≡ Some values → first ≡ writing.put_all held (x ∷ xs)
    → first ≡ writing.put_next held (all_of values)
put_starts held x xs values first flat starts = starts ∙ ap (λ (o : Option (List Value)). writing.put_each held o) flat

-- the laws

pub printed : (held after : Held) (recv v : Value) (args : List Value) (block : Option ObjId) (ts : List Turn)
    → length args < 2 ^ 64 → Gives (row.Kernel kernel.Print) held recv args block ts v after
    → GoesOut (codes "to_s") nobody itself held args ts (λ h. IsValue h Nil v after)
printed held after recv v args block ts less run =
    whole (codes "to_s") nobody itself held args ts after v (λ h. gives after v ≡ gives h Nil)
    (λ h. IsValue h Nil v after) (λ h e. nothing_given after h v e)
    (spoke (codes "to_s") nobody itself no_value as_it_was prints args held ts (gives after v) run.first less run.starts
    run.runs).so

pub inspected : (held after : Held) (recv v : Value) (args : List Value) (block : Option ObjId) (ts : List Turn)
    → length args < 2 ^ 64 → Gives (row.Kernel kernel.Inspect) held recv args block ts v after
    → GoesOut (codes "inspect") nobody with_newline held args ts (λ h. IsAllOf args h v after)
inspected held after recv v args block ts less run =
    whole (codes "inspect") nobody with_newline held args ts after v
    (λ h. gives after v ≡ gives (left_all h args) (given_all h args)) (λ h. IsAllOf args h v after)
    (λ h e. all_given args after h v e)
    (spoke (codes "inspect") nobody with_newline given_all left_all inspects args held ts (gives after v) run.first less
    run.starts run.runs).so

pub put : (held after : Held) (recv x v : Value) (xs values : List Value) (block : Option ObjId) (ts : List Turn)
    → flattened Vanishes held.store (x ∷ xs) ≡ Some values → length values < 2 ^ 64
    → Gives (row.Kernel kernel.Puts) held recv (x ∷ xs) block ts v after
    → GoesOut (codes "to_s") is_nil writing.line held values ts (λ h. IsValue h Nil v after)
put held after recv x v xs values block ts flat less run =
    whole (codes "to_s") is_nil writing.line held values ts after v (λ h. gives after v ≡ gives h Nil)
    (λ h. IsValue h Nil v after) (λ h e. nothing_given after h v e)
    (spoke (codes "to_s") is_nil writing.line no_value as_it_was puts values held ts (gives after v) run.first less
    (put_starts held x xs values run.first flat run.starts) run.runs).so

pub put_newline : (held after : Held) (recv v : Value) (block : Option ObjId) (ts : List Turn)
    → Gives (row.Kernel kernel.Puts) held recv [] block ts v after
    → GoesOut (codes "to_s") is_nil writing.line held (Nil ∷ []) ts (λ h. IsValue h Nil v after)
put_newline held after recv v block ts run =
    whole (codes "to_s") is_nil writing.line held (Nil ∷ []) ts after v (λ h. gives after v ≡ gives h Nil)
    (λ h. IsValue h Nil v after) (λ h e. nothing_given after h v e)
    (nil_spoken held ts (gives after v) run.first run.starts run.runs)

-- and where the last thing isn't answered

pub printing_cut : (held : Held) (recv : Value) (args : List Value) (block : Option ObjId) (ts : List Turn)
    (first last : Planned Stage) (s : Stage) → length args < 2 ^ 64
    → Starts (row.Kernel kernel.Print) held recv args block first → Runs first ts last → waiting last.plan ≡ Some s
    → IsCutShort (codes "to_s") nobody itself held args ts last
printing_cut held recv args block ts first last s less starts runs waits =
    cut (codes "to_s") nobody itself held args ts last s (λ h. h) (λ h. Nil) waits
    (spoke (codes "to_s") nobody itself no_value as_it_was prints args held ts last first less starts runs).so

pub inspecting_cut : (held : Held) (recv : Value) (args : List Value) (block : Option ObjId) (ts : List Turn)
    (first last : Planned Stage) (s : Stage) → length args < 2 ^ 64
    → Starts (row.Kernel kernel.Inspect) held recv args block first → Runs first ts last → waiting last.plan ≡ Some s
    → IsCutShort (codes "inspect") nobody with_newline held args ts last
inspecting_cut held recv args block ts first last s less starts runs waits =
    cut (codes "inspect") nobody with_newline held args ts last s (λ h. left_all h args) (λ h. given_all h args) waits
    (spoke (codes "inspect") nobody with_newline given_all left_all inspects args held ts last first less starts runs).so

pub putting_cut : (held : Held) (recv x : Value) (xs values : List Value) (block : Option ObjId) (ts : List Turn)
    (first last : Planned Stage) (s : Stage) → flattened Vanishes held.store (x ∷ xs) ≡ Some values
    → length values < 2 ^ 64 → Starts (row.Kernel kernel.Puts) held recv (x ∷ xs) block first → Runs first ts last
    → waiting last.plan ≡ Some s → IsCutShort (codes "to_s") is_nil writing.line held values ts last
putting_cut held recv x xs values block ts first last s flat less starts runs waits =
    cut (codes "to_s") is_nil writing.line held values ts last s (λ h. h) (λ h. Nil) waits
    (spoke (codes "to_s") is_nil writing.line no_value as_it_was puts values held ts last first less
    (put_starts held x xs values first flat starts) runs).so
