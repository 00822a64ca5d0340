-- Items, one by one.
use Rattle.std.proofs.Common.{◌≡◌, ℕ, ◌+◌, suc, List, [], ◌∷◌, length, replicate, arith, refl, sym, ap, ◌∙◌}
use Rattle.std.specs.Prelude.{true, false, not, ◌&&◌, ◌==◌}
use Rattle.std.proofs.lemmas.List.{drop_all, drop_more}
use Rattle.std.proofs.lemmas.Bool.Decides.{nat_tests}
use Rattle.std.proofs.lemmas.Bool.{false≢true}
use Rattle.rite_code.specs.declared.operation.Operation.TheVariants as op
use Rattle.rb_syntax.specs.declared.core_form.Item.{Item}
use Rattle.rb_syntax.specs.declared.core_form.Item.TheVariants.{Plain, Splat}
use Rattle.ir_core.specs.CoreForm.{CoreForm, Items, no_items}
use Rattle.ir_core.specs.declared.term.Clause.{Clause}
use Rattle.ir_core.specs.PartsBy.{Boxed, item_by, items_by, is_plain, value_by, cores_by, clauses_by}
use Rattle.ir_counts.specs.Tables.{item_count}
use Rattle.gen_parts.specs.declared.emitter.Spot.{Spot}
use Rattle.gen_parts.specs.Pieces.{past, both, does}
use Rattle.gen_parts.proofs.Laws.{both-nothing}
use Rattle.gen_forms.specs.Gen.{Context, gen, gather, pass_in_registers, in_turn, others_in_turn, starts, has_clauses, is_one_plain}

some-there : (n : ℕ) → (suc n == 0) ≡ false
some-there n = grind (arith, nat_tests)

pub gather-item : {T : Type 0} (v : T → CoreForm) (c : Context) (s : Spot) (r : ℕ) (i : Item (Boxed T)) (is : Items)
    → gather c s r (item_by v i is)
    ≡ both (gather c s r (item_by v i no_items)) (gather c (past s (gather c s r (item_by v i no_items))) r is)
gather-item v c s r (Plain e) is = simp both-nothing
gather-item v c s r (Splat e) is = simp both-nothing

pub pass-item : {T : Type 0} (v : T → CoreForm) (c : Context) (s : Spot) (r : ℕ) (i : Item (Boxed T)) (is : Items)
    → pass_in_registers c s r (item_by v i is)
    ≡ both (gen c s r (value_by v i)) (pass_in_registers c (past s (gen c s r (value_by v i))) (r + 1) is)
pass-item v c s r (Plain e) is = refl
pass-item v c s r (Splat e) is = refl

pub count-items : {T : Type 0} (v : T → CoreForm) (is : List (Item (Boxed T)))
    → item_count (items_by v is) ≡ length is
count-items v [] = refl
count-items v (Plain e ∷ is) = let ih = count-items v is in omega arith
count-items v (Splat e ∷ is) = let ih = count-items v is in omega arith

pub one-plain : {T : Type 0} (v : T → CoreForm) (i : Item (Boxed T)) (is : List (Item (Boxed T)))
    → is_one_plain (items_by v (i ∷ is)) ≡ (is_plain i && (length is == 0))
one-plain v (Plain e) [] = refl
one-plain v (Plain e) (Plain f ∷ is) = sym (some-there (length is))
one-plain v (Plain e) (Splat f ∷ is) = sym (some-there (length is))
one-plain v (Splat e) is = refl

pub ruleset item_laws = (gather-item, pass-item, count-items, one-plain, drop_more, drop_all)

-- Forms, one by one.
pub ruleset turn_laws = (drop_more, drop_all)

-- Lists that are empty or not.

pub turn-none : {T : Type 0} (v : T → CoreForm) (c : Context) (s : Spot) (r : ℕ) (cs : List (Boxed T))
    → (length cs == 0) ≡ true → in_turn c s r (cores_by v cs) ≡ does (op.LoadNil r)
turn-none v c s r [] h = refl
turn-none v c s r (e ∷ es) h = absurd (false≢true (sym (some-there (length es)) ∙ h))

pub turn-some : {T : Type 0} (v : T → CoreForm) (c : Context) (s : Spot) (r : ℕ) (cs : List (Boxed T))
    → (length cs == 0) ≡ false → in_turn c s r (cores_by v cs) ≡ others_in_turn c s r (cores_by v cs)
turn-some v c s r [] h = absurd (false≢true (sym h))
turn-some v c s r (e ∷ es) h = refl

pub starts-empty : {T : Type 0} (v : T → CoreForm) (c : Context) (s : Spot) (r n : ℕ) (cs : List (Boxed T))
    → (length cs == 0) ≡ true → starts c s r n (cores_by v cs) ≡ replicate n s.line
starts-empty v c s r n [] h = refl
starts-empty v c s r n (e ∷ es) h = absurd (false≢true (sym (some-there (length es)) ∙ h))

pub clauses-there : {T : Type 0} (v : T → CoreForm) (cs : List (Clause (Boxed T)))
    → has_clauses (clauses_by v cs) ≡ not (length cs == 0)
clauses-there v [] = refl
clauses-there v (d ∷ ds) = sym (ap not (some-there (length ds)))

pub ruleset list_laws = (turn-none, turn-some, starts-empty, clauses-there)
