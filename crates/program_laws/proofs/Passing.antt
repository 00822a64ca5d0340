-- What a `super` without arguments passes are parameters of the method around.
use Rattle.std.proofs.Common.{◌≡◌, Bool, true, ◌&&◌, List, [], ◌∷◌, ◌++◌, Option, Some, refl}
use Rattle.std.proofs.lemmas.Bool.{and_parts}
use Rattle.rb_syntax.specs.declared.core_form.Item.TheVariants.{Plain, Splat}
use Rattle.ir_core.specs.CoreForm.{Local, Parameters}
use Rattle.ir_core.specs.Program.{Around, is_own, all_parameters, are_items}
use Rattle.ir_builder.specs.Forms.{passed_items}
use Rattle.lower_table.specs.Lowering.{Passed}
use Rattle.lower_table.specs.Parts.{plain, splats, passed}
use Rattle.program_laws.proofs.Both.{both}
use Rattle.program_laws.proofs.Bound.{Within, is_head, within_tail, required_within, optional_within, rest_within, post_within}

abbrev pub are_own : Passed → Option Parameters → Bool
are_own [] m = true
are_own (Plain x ∷ xs) m = is_own x m && are_own xs m
are_own (Splat x ∷ xs) m = is_own x m && are_own xs m

pub passed_fit : (a : Around) (xs : Passed) → are_own xs a.method ≡ true → are_items a (passed_items xs) ≡ true
passed_fit a [] h = refl
passed_fit a (Plain x ∷ xs) h =
    let p = and_parts (is_own x a.method) (are_own xs a.method) h in
    both p.0 (passed_fit a xs p.1)
passed_fit a (Splat x ∷ xs) h =
    let p = and_parts (is_own x a.method) (are_own xs a.method) h in
    both p.0 (passed_fit a xs p.1)

own_append : (m : Option Parameters) (xs ys : Passed) → are_own xs m ≡ true → are_own ys m ≡ true
    → are_own (xs ++ ys) m ≡ true
own_append m [] ys h k = k
own_append m (Plain x ∷ xs) ys h k =
    let p = and_parts (is_own x m) (are_own xs m) h in
    both p.0 (own_append m xs ys p.1 k)
own_append m (Splat x ∷ xs) ys h k =
    let p = and_parts (is_own x m) (are_own xs m) h in
    both p.0 (own_append m xs ys p.1 k)

own_plain : (q : Parameters) (ls : List Local) → Within ls (all_parameters q) → are_own (plain ls) (Some q) ≡ true
own_plain q [] w = refl
own_plain q (x ∷ ls) w = both (w x (is_head x ls)) (own_plain q ls (λ y h. w y (within_tail x ls y h)))

own_splats : (q : Parameters) (ls : List Local) → Within ls (all_parameters q) → are_own (splats ls) (Some q) ≡ true
own_splats q [] w = refl
own_splats q (x ∷ ls) w = both (w x (is_head x ls)) (own_splats q ls (λ y h. w y (within_tail x ls y h)))

pub own_passed : (q : Parameters) → are_own (passed q) (Some q) ≡ true
own_passed q =
    own_append (Some q) (plain q.required ++ plain q.optional ++ splats q.rest) (plain q.post)
    (own_append (Some q) (plain q.required ++ plain q.optional) (splats q.rest)
    (own_append (Some q) (plain q.required) (plain q.optional) (own_plain q q.required (required_within q))
    (own_plain q q.optional (optional_within q))) (own_splats q q.rest (rest_within q)))
    (own_plain q q.post (post_within q))
