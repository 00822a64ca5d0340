-- Rows of the table, given straight on or called by their numbers.
use Rattle.std.proofs.Common.{◌≡◌, ℕ, true, false, refl, ap, sym, subst, if◌then◌else◌}
use Rattle.std.specs.Prelude.{List, Bool, Option, Some, None, Result, Ok, Err, IfOk}
use Rattle.std.specs.declared.alloc.AllocError.{AllocError}
use Rattle.rb_value.specs.declared.value.Value.{Value}
use Rattle.rb_value.specs.declared.value.ObjId.{ObjId}
use Rattle.rb_value.specs.declared.outcome.Outcome.{Outcome}
use Rattle.rb_value.specs.declared.outcome.Outcome.TheVariants as outcome
use Rattle.def_core.specs.Store.{Store, Done}
use Rattle.def_calls.specs.World.{answer}
use Rattle.rb_store.specs.Held.{Held}
use Rattle.row_table.specs.declared.line.CoreRow.{CoreRow}
use Rattle.def_rows.specs.Answers.{finish}
use Rattle.def_rows.specs.Rows.{gives as row_gives}
use Rattle.run_values.specs.declared.given.Given.{Given}
use Rattle.run_values.specs.declared.given.Given.TheVariants.{Gives}
use Rattle.run_values.specs.Answers.{Answers}
use Rattle.heap.specs.Rows.{called}
use Rattle.straight_rows.specs.Goes.{goes}
use Rattle.straight_rows.specs.Straight.{told_by, told}
use Rattle.run_rows.specs.Calls.{straight_on, GivesOr, CallsOfTable}

-- where nothing is given the heap is as before

told_none : (held mid : Held) (o : Outcome) (st : Store) → told_by held o st ≡ (None, mid) → mid ≡ held
told_none held mid (outcome.Value v) st h = cc (ap (λ (p : Option Value × Held). p.0) h)
told_none held mid (outcome.Raise f) st h = sym (ap (λ (p : Option Value × Held). p.1) h)

none_by : (held mid : Held) (b : Bool) (done : Done) → (if b then told held done else (None, held)) ≡ (None, mid)
    → mid ≡ held
none_by held mid true done h = told_none held mid done.outcome done.store h
none_by held mid false done h = sym (ap (λ (p : Option Value × Held). p.1) h)

straight_none : (row : Option CoreRow) (held mid : Held) (recv : Value) (args : List Value)
    → straight_on row held recv args ≡ (None, mid) → mid ≡ held
straight_none None held mid recv args h = sym (ap (λ (p : Option Value × Held). p.1) h)
straight_none (Some row) held mid recv args h = none_by held mid (goes row held.store.objects recv args)
    (finish held.store recv (row_gives row held.store recv args)) h

pub gives_so : (row : Option CoreRow) (held mid : Held) (number : ℕ) (recv : Value) (args : List Value)
    (block : Option ObjId) (v : Value) → straight_on row held recv args ≡ (Some v, mid)
    → CallsOfTable number row held recv args block (Gives v) mid
gives_so row held mid number recv args block v e =
    subst (λ (p : Option Value × Held). GivesOr p.0 p.1 held number recv args block (Gives v) mid) (sym e) (refl, refl)

called_so : (row : Option CoreRow) (held mid after : Held) (number : ℕ) (recv : Value) (args : List Value)
    (block : Option ObjId) (g : Given) → straight_on row held recv args ≡ (None, mid)
    → GivesOr None mid mid number recv args block g after → CallsOfTable number row held recv args block g after
called_so row held mid after number recv args block g e a =
    subst (λ (p : Option Value × Held). GivesOr p.0 p.1 held number recv args block g after) (sym e)
    (subst (λ (h : Held). GivesOr None mid h number recv args block g after) (straight_none row held mid recv args e) a)

pub calls_so : (row : Option CoreRow) (held mid after : Held) (number : ℕ) (recv : Value) (args : List Value)
    (block : Option ObjId) (r : Result Given AllocError) → straight_on row held recv args ≡ (None, mid)
    → Answers mid after r (λ w. answer w (called w.store number recv args block))
    → IfOk r (λ g. CallsOfTable number row held recv args block g after)
calls_so row held mid after number recv args block (Ok g) e a =
    called_so row held mid after number recv args block g e a.answer
calls_so row held mid after number recv args block (Err x) e a = tt
