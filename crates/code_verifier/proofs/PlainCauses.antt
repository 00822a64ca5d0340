-- Of an instruction that asks for no more than registers, symbols and a count of arguments the other checks hold.
use Rattle.std.proofs.Common.{◌≡◌, refl, sym, ap, ◌∙◌, ℕ, List, [], ◌∷◌, length, drop, Bool, true, false}
use Rattle.std.specs.Prelude.{None, Some, Option, IsTrue, nat_eq, nat_lt, nat_le, not, ◌&&◌, ◌||◌}
use Rattle.std.specs.List.{list_all}
use Rattle.std.proofs.lemmas.Bool.{and_parts}
use Rattle.rite_code.specs.declared.cause.Cause.{Cause}
use Rattle.rite_code.specs.declared.cause.Cause.TheVariants as cause
use Rattle.rite_code.specs.declared.code.Irep.{Irep}
use Rattle.rite_code.specs.declared.operation.Operation.{Operation}
use Rattle.rite_code.specs.declared.operation.Operation.TheVariants as operation
use Rattle.rite_code.specs.Code.{Program}
use Rattle.code_outline.specs.Layout.{Standing}
use Rattle.code_outline.specs.Makers.{maker_of, use_in, made_by}
use Rattle.code_outline.specs.declared.maker.Maker.{Maker}
use Rattle.code_verifier.specs.Needs.{registers_of, symbols_of, count_of, entry_of, distance_of, variable_of, leaves, parameters_of}
use Rattle.code_verifier.specs.Checks.{first, unless, cause_of, entry_holds, child_holds, jump_holds, variable_holds, enter_holds, takes_arguments, place_holds, makes_once, is_used, has_maker}
use Rattle.code_verifier.specs.Plain.{is_plain, plain_causes, passes}

-- it names nothing else, may stand anywhere, and doesn't leave
record Plain (k : ℕ) (m : Option Maker) (o : Operation) : Type 0 where
  entry : entry_of o ≡ None
  child : use_in o ≡ None
  jump : distance_of o ≡ None
  variable : variable_of o ≡ None
  enter : parameters_of o ≡ None
  place : place_holds k m o ≡ true
  stays : leaves o ≡ false

plain : (k : ℕ) (m : Option Maker) (o : Operation) → is_plain o ≡ true → Plain k m o
plain k m (operation.LoadL a b) h = absurd cc
plain k m (operation.GetUpVar a b c) h = absurd cc
plain k m (operation.SetUpVar a b c) h = absurd cc
plain k m (operation.Jmp by) h = absurd cc
plain k m (operation.JmpIf a by) h = absurd cc
plain k m (operation.JmpNot a by) h = absurd cc
plain k m (operation.JmpUw by) h = absurd cc
plain k m (operation.Enter q) h = absurd cc
plain k m (operation.Return a) h = absurd cc
plain k m (operation.ReturnBlk a) h = absurd cc
plain k m (operation.Break a) h = absurd cc
plain k m (operation.String a b) h = absurd cc
plain k m (operation.Lambda a b) h = absurd cc
plain k m (operation.Block a b) h = absurd cc
plain k m (operation.OClass a b) h = absurd cc
plain k m (operation.Exec a b) h = absurd cc
plain k m (operation.Def a b c) h = absurd cc
plain k m (operation.Defined a b c) h = absurd cc
plain k m operation.Stop h = absurd cc
plain k m o h = record {
  entry = refl;
  child = refl;
  jump = refl;
  variable = refl;
  enter = refl;
  place = refl;
  stays = refl;
}

-- a check that holds is passed over
passed : (h : Bool) (c : Cause) (xs : List (Option Cause)) → h ≡ true → first (unless h c ∷ xs) ≡ first xs
unfolding first
passed h c xs e = rw e refl

kept : (x : Option Cause) (xs ys : List (Option Cause)) → first xs ≡ first ys → first (x ∷ xs) ≡ first (x ∷ ys)
unfolding first
kept None xs ys e = e
kept (Some c) xs ys e = refl

away_from_start : (takes : Bool) (at : ℕ) → nat_eq at 0 ≡ false → not (takes && nat_eq at 0) ≡ true
away_from_start true at e = rw e refl
away_from_start false at e = refl

second : (x y z : Bool) → y ≡ true → (x || y || z) ≡ true
second true y z e = refl
second false true z e = refl
second false false z e = absurd cc

used : (p : Program) (k at : ℕ) → nat_eq at 0 ≡ false → is_used p k at ≡ true
used p k at e = second (nat_eq k 0) (not (nat_eq at 0)) (has_maker (maker_of p k)) (rw e refl)

plain_cause : (p : Program) (k : ℕ) (b : Irep) (ss : List Standing) (s : Standing)
    → is_plain s.instruction.operation ≡ true → nat_eq s.at 0 ≡ false
    → first (plain_causes b s.next s.instruction) ≡ cause_of p k b ss s
unfolding cause_of
plain_cause p k b ss s h away =
    let o = s.instruction.operation in
    let m = maker_of p k in
    let f = plain k m o h in
    let entry : entry_holds b.pool (entry_of o) ≡ true = rw f.entry refl in
    let child : child_holds b (use_in o) ≡ true = rw f.child refl in
    let jump : jump_holds ss s.next (distance_of o) ≡ true = rw f.jump refl in
    let variable : variable_holds p k (variable_of o) ≡ true = rw f.variable refl in
    let enter : enter_holds (takes_arguments m) s.at b (drop 1 ss) (parameters_of o) ≡ true =
    rw f.enter (away_from_start (takes_arguments m) s.at away) in
    let once : (makes_once p k s.at (made_by k b s) && is_used p k s.at) ≡ true =
    rw f.child (used p k s.at away) in
    let falls : (leaves o || nat_lt s.next (length b.code)) ≡ nat_lt s.next (length b.code) = rw f.stays refl in
    kept _ _ _ (kept _ _ _ (sym (passed _ cause.Pool _ entry
    ∙ kept _ _ _ (passed _ cause.Child _ child ∙ passed _ cause.Jump _ jump ∙ passed _ cause.Upvar _ variable
    ∙ passed _ cause.Enter _ enter ∙ passed _ cause.Place _ f.place ∙ passed _ cause.Use _ once
    ∙ ap (λ (t : Bool). first (unless t cause.Fall ∷ [])) falls))))

all_pass : (w x y z : Bool) (c d e f : Cause) → w ≡ true → x ≡ true → y ≡ true → z ≡ true
    → first (unless w c ∷ unless x d ∷ unless y e ∷ unless z f ∷ []) ≡ None
unfolding first
all_pass w x y z c d e f p q r s = rw (p, q, r, s) refl

pub no_cause : (p : Program) (k : ℕ) (b : Irep) (ss : List Standing) (s : Standing)
    → IsTrue (passes b s.instruction.operation) → nat_eq s.at 0 ≡ false → nat_lt s.next (length b.code) ≡ true
    → cause_of p k b ss s ≡ None
no_cause p k b ss s h away goes_on =
    let o = s.instruction.operation in
    let count = nat_le (count_of o) 255 in
    let symbols = list_all (λ (n : ℕ). nat_lt n (length b.symbols)) (symbols_of o) in
    let registers = nat_le (registers_of o) b.registers in
    let asked = and_parts (is_plain o) (count && (symbols && registers)) h in
    let counted = and_parts count (symbols && registers) asked.1 in
    let named = and_parts symbols registers counted.1 in
    sym (plain_cause p k b ss s asked.0 away)
    ∙ all_pass count registers symbols (nat_lt s.next (length b.code)) cause.Extended cause.Register cause.Symbol
    cause.Fall counted.0 named.1 named.0 goes_on
