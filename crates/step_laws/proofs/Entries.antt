-- The entries of the catch table that cover a line of a body are those of its code: places rise as lines do.
use Rattle.std.proofs.Common.{◌≡◌, ◌<◌, ◌≤◌, ℕ, ◌+◌, List, [], ◌∷◌, ◌++◌, map, reverse, arith, refl, sym, ap, ◌∙◌, subst, Bool, true, false, nat_le, nat_lt}
use Rattle.std.specs.Prelude.{◌&&◌, if◌then◌else◌}
use Rattle.std.specs.List.{filter}
use Rattle.std.proofs.lemmas.Bool.{lt-ltb, le-ltb, le-leb, lt-leb, leb-true, leb-false, ltb-true, ltb-false}
use Rattle.std.proofs.lemmas.List.{append_assoc, append-nil, reverse-append}
use Rattle.std.proofs.lemmas.List.Elements.{filter-append}
use Rattle.rite_code.specs.declared.code.CatchEntry.{CatchEntry}
use Rattle.gen_parts.specs.declared.line.Catch.{Catch}
use Rattle.gen_parts.specs.Pieces.{Piece}
use Rattle.gen_parts.specs.Assembly.{places, place_of, entry_by}
use Rattle.code_laws.proofs.Assembled.{places_rise}
use Rattle.def_machine.specs.State.{body_at}
use Rattle.def_machine.specs.Unwind.{covers, covering}
use Rattle.step_laws.specs.Guards.{is_over, guarding, guards_at, AreWithin}
use Rattle.step_laws.specs.Site.{Site, guarded_by, IsGuarded}
use Rattle.step_laws.specs.Standing.{high, KeepsWithin}

module _ (at : List ℕ) (most : ℕ) (rises : (n k : ℕ) → n < k → k ≤ most → place_of at n < place_of at k) where
  up : (b i : ℕ) → b ≤ i → i ≤ most → place_of at b ≤ place_of at i
  up b i h within = by (nat_lt b i) refl
    where
      by : (t : Bool) → nat_lt b i ≡ t → place_of at b ≤ place_of at i
      by true e = omega (arith, rises b i (ltb-true b i e) within)
      by false e =
          let same : b ≡ i = omega (arith, h, ltb-false b i e) in
          let equal = ap (place_of at) same in
          omega (arith, equal)

  from_there : (b i : ℕ) → b ≤ most → i ≤ most → nat_le (place_of at b) (place_of at i) ≡ nat_le b i
  from_there b i e f = by (nat_le b i) refl
    where
      by : (t : Bool) → nat_le b i ≡ t → nat_le (place_of at b) (place_of at i) ≡ t
      by true h = le-leb (place_of at b) (place_of at i) (up b i (leb-true b i h) f)
      by false h = lt-leb (place_of at b) (place_of at i) (rises i b (leb-false b i h) e)

  before_there : (i b : ℕ) → b ≤ most → i ≤ most → nat_lt (place_of at i) (place_of at b) ≡ nat_lt i b
  before_there i b e f = by (nat_lt i b) refl
    where
      by : (t : Bool) → nat_lt i b ≡ t → nat_lt (place_of at i) (place_of at b) ≡ t
      by true h = lt-ltb (place_of at i) (place_of at b) (rises i b (ltb-true i b h) e)
      by false h = le-ltb (place_of at i) (place_of at b) (up b i (ltb-false i b h) f)

  covers_line : (i : ℕ) (c : Catch) → i ≤ most → c.begin ≤ most → c.end ≤ most
      → covers (place_of at i) (entry_by at c) ≡ is_over i c
  covers_line i c f e g =
      ap (λ (t : Bool). t && nat_lt (place_of at i) (place_of at c.end)) (from_there c.begin i e f)
      ∙ ap (λ (t : Bool). nat_le c.begin i && t) (before_there i c.end g f)

  -- the last entries first, before those around
  one_more : (i : ℕ) (c : Catch) (gs : List Catch) (t : Bool) → covers (place_of at i) (entry_by at c) ≡ t
      → filter (covers (place_of at i)) (entry_by at c ∷ []) ++ map (entry_by at) gs
      ≡ map (entry_by at) (if t then c ∷ gs else gs)
  one_more i c gs true e =
      ap (λ (t : Bool). (if t then entry_by at c ∷ [] else []) ++ map (entry_by at) gs) e
  one_more i c gs false e =
      ap (λ (t : Bool). (if t then entry_by at c ∷ [] else []) ++ map (entry_by at) gs) e

  all_there : (i : ℕ) (cs gs : List Catch) → i ≤ most → AreWithin 0 most cs
      → filter (covers (place_of at i)) (reverse (map (entry_by at) cs)) ++ map (entry_by at) gs
      ≡ map (entry_by at) (guards_at i cs gs)
  all_there i [] gs f w = refl
  all_there i (c ∷ cs) gs f w =
      let test = covers (place_of at i) in
      let es = map (entry_by at) cs in
      let x = entry_by at c ∷ [] in
      ap (λ (ys : List CatchEntry). filter test ys ++ map (entry_by at) gs) (reverse-append x es)
      ∙ ap (λ (ys : List CatchEntry). ys ++ map (entry_by at) gs) (filter-append test (reverse es) x)
      ∙ append_assoc (filter test (reverse es)) (filter test x) (map (entry_by at) gs)
      ∙ ap (λ (ys : List CatchEntry). filter test (reverse es) ++ ys)
      (one_more i c gs (is_over i c)
      (covers_line i c f (omega (arith, w.0.rises, w.0.ends)) (omega (arith, w.0.ends))))
      ∙ all_there i cs (guarding i c gs) f w.1

-- The entries that cover a line of a body, whose lines are those of a piece with its entries, are those of the piece.
pub guarded_body : (h : Site) (wide : Bool) (p : Piece) → h.guards ≡ [] → h.at ≡ places wide 0 p.lines
    → (body_at h.program h.body).catches ≡ map (entry_by h.at) p.catches → KeepsWithin 0 p → (i : ℕ) → i < 0 + high p
    → IsGuarded (guarded_by h (guards_at i p.catches h.guards)) i
unfolding KeepsWithin covering high
guarded_body h wide p none e same w i most =
    let rises = subst (λ (at : List ℕ). (n k : ℕ) → n < k → k ≤ 0 + high p → place_of at n < place_of at k) (sym e)
    (λ n k lt le. places_rise wide 0 n k p.lines lt (omega (arith, le))) in
    ap (λ (cs : List CatchEntry). filter (covers (place_of h.at i)) (reverse cs)) same
    ∙ sym (append-nil (filter (covers (place_of h.at i)) (reverse (map (entry_by h.at) p.catches))))
    ∙ all_there h.at (0 + high p) rises i p.catches [] (omega (arith, most)) w
    ∙ ap (λ (gs : List Catch). map (entry_by h.at) (guards_at i p.catches gs)) (sym none)
