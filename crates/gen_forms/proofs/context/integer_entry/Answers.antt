use Rattle.std.proofs.Common.{◌≡◌, ◌∙◌, IfOk, Option, ap, subst, ℕ, ℤ, position}
use Rattle.std.proofs.Math.Facts.{to_z-of_z}
use Rattle.std.specs.Ordering.{int_eq}
use Rattle.gen_forms.specs.Gen as gens
use Rattle.gen_forms.specs.Around.{context_of}
use Rattle.gen_forms.proofs.context.integer_entry.Goals as goal

pub returns : goal.returns
returns c =
    let integers = (context_of c.args.context.now).integers in
    let found : c.position-place.result ≡ position (int_eq c.args.integer) integers =
    c.position-place.ensures.value ∙ ap (λ (z : ℤ). position (int_eq z) integers) (to_z-of_z c.ranges.integer) in
    let e : c.place_or.result ≡ gens.integer_entry (context_of c.args.context.now) c.args.integer =
    c.place_or.ensures
    ∙ (ap (λ (p : Option ℕ). gens.place_or p c.len.result) found
    ∙ ap (λ (n : ℕ). gens.place_or (position (int_eq c.args.integer) integers) n) c.len.ensures) in
    subst (λ (k : ℕ). IfOk c.count.result (λ n. n ≡ k)) e c.count.ensures
