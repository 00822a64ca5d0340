-- No instruction starts past the end of the code.
use Rattle.std.proofs.Common.{◌≡◌, refl, sym, ap, ◌∙◌, ℕ, ◌≤◌, ◌<◌, ℤ, pos, negsuc, List, length, get_or, false, arith, inl, inr}
use Rattle.std.specs.Prelude.{None}
use Rattle.std.specs.Option.{is_some}
use Rattle.std.specs.Int.{FitsUnsignedBits}
use Rattle.std.proofs.lemmas.List.{get_or_past}
use Rattle.std.proofs.lemmas.Bool.{cases_lt}
use Rattle.code_outline.specs.Layout.{layout, is_start}
use Rattle.code_outline.specs.Outlined.{LaysOut}
use Rattle.code_outline.specs.declared.layout.Layout.{Layout}
use Rattle.code_outline.proofs.Places.{is_some-index_from}
use Rattle.code_verifier.specs.Checks.{leads_to_start}

pub none_past : (version : ℕ) (code : List ℕ) (l : Layout) (n : ℕ) → LaysOut version code l → length code ≤ n
    → is_start (layout version code) n ≡ false
none_past version code l n laid past =
    let none : get_or l.indices n None ≡ None = get_or_past l.indices n None (omega (arith, laid.places)) in
    sym (is_some-index_from 0 (layout version code) n) ∙ ap is_some (sym (laid.indices n) ∙ none)

-- nor at a place that four bytes don't hold
pub none_outside : (version : ℕ) (code : List ℕ) (l : Layout) (z : ℤ) → length code < 4294967296
    → LaysOut version code l → (FitsUnsignedBits 32 z → ⊥) → false ≡ leads_to_start (layout version code) z
none_outside version code l (pos n) short laid outside =
    elim (cases_lt n 4294967296) [
      | inl lt ↦ absurd (outside lt)
      | inr le ↦ sym (none_past version code l n laid (omega arith))
    ]
none_outside version code l (negsuc n) short laid outside = refl
