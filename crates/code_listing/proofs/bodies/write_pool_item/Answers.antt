use Rattle.std.proofs.Common.{◌≡◌, ℤ, List, ℕ, ◌++◌, codes, decimal, refl, rules, w64, FitsSigned}
use Rattle.std.proofs.lemmas.Int.{to_z-of_z}
use Rattle.rite_code.specs.declared.code.PoolItem.{PoolItem}
use Rattle.rite_code.specs.declared.code.PoolItem.TheVariants.{Int, Text}
use Rattle.code_listing.specs.Listing as texts
use Rattle.rb_refusal.proofs.Progress.{started, went_on, stopped, ended}
use Rattle.code_listing.proofs.bodies.write_pool_item.Goals as goal

integer_line : (n : ℕ) (item : PoolItem) (z y : ℤ) → item ≡ Int z → y ≡ z
    → texts.pool_line n item ≡ (codes "pool " ++ (decimal n ++ codes " int ")) ++ texts.integer_end y
unfolding texts.pool_line
integer_line n item z y e f = rw (e, f)

text_line : (n : ℕ) (item : PoolItem) (text shown : List ℕ) → item ≡ Text text → shown ≡ text
    → texts.pool_line n item ≡ (codes "pool " ++ (decimal n ++ codes " str ")) ++ texts.text_end shown
unfolding texts.pool_line
text_line n item text shown e f = rw (e, f)

pub returns-in_err-write_numbered-in-Int : goal.returns-in_err-write_numbered-in-Int
returns-in_err-write_numbered-in-Int g c = stopped _ _ _ _ _ _ _ _ _ _ c.in_err-write_numbered-in-Int.was
    c.from_residual.ensures.0 (integer_line c.args.number c.args.item.now _ _ c.in-Int.is refl) (started _ _)
    c.write_numbered.ensures

pub returns-in_err-write_numbered-in-Text : goal.returns-in_err-write_numbered-in-Text
returns-in_err-write_numbered-in-Text g c = stopped _ _ _ _ _ _ _ _ _ _ c.in_err-write_numbered-in-Text.was
    c.from_residual-in_err-write_numbered-in-Text.ensures.0
    (text_line c.args.number c.args.item.now _ _ c.in-Text.is refl) (started _ _) c.write_numbered-in-Text.ensures

pub returns-in_ok-write_numbered-in-Int : goal.returns-in_ok-write_numbered-in-Int
returns-in_ok-write_numbered-in-Int g c =
    let fits : FitsSigned w64 c.in-Int.value = search rules in
    ended _ _ _ _ _ _ _ refl (went_on _ _ _ _ _ _ _ _ _ c.in_ok-write_numbered-in-Int.was
    (integer_line c.args.number c.args.item.now _ _ c.in-Int.is (to_z-of_z w64 _ fits)) (started _ _)
    c.write_numbered.ensures) c.end_with_integer.ensures

pub returns-in_ok-write_numbered-in-Text : goal.returns-in_ok-write_numbered-in-Text
returns-in_ok-write_numbered-in-Text g c = ended _ _ _ _ _ _ _ refl
    (went_on _ _ _ _ _ _ _ _ _ c.in_ok-write_numbered-in-Text.was
    (text_line c.args.number c.args.item.now _ _ c.in-Text.is c.as_slice.ensures) (started _ _)
    c.write_numbered-in-Text.ensures) c.end_with_text.ensures
