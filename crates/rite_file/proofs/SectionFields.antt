-- Sections: what is read is what was written, and what was written is read again.
use Rattle.std.proofs.Common.{◌≡◌, ℕ, zero, suc, ◌+◌, ◌-◌, ◌^◌, ◌<◌, ◌≤◌, Bool, true, false, cond, ltb, eqb, List, [], ◌∷◌, ◌++◌, length, take, drop, refl, sym, ap, subst, ◌∙◌, append_assoc, arith, inl, inr, rules}
use Rattle.std.specs.Prelude.{not, ◌⊎◌, ◌&&◌, Option, Some, None, Result, Ok, Err, codes}
use Rattle.std.specs.Str.{bytes_eq}
use Rattle.std.specs.Int.{w32, from_be_bytes, to_be_bytes}
use Rattle.std.proofs.lemmas.Bool.{le-ltb, ltb-true, ltb-false, eqb-true}
use Rattle.std.proofs.lemmas.List.{length-append, length-take, length-drop, take-append-drop, take_at, drop-drop, nil_from_length}
use Rattle.std.proofs.lemmas.Slice.Eq.{bytes_eq-Decides}
use Rattle.rite_file.specs.declared.error.LoadError.{LoadError}
use Rattle.rite_file.specs.declared.error.LoadError.TheVariants.{BadSection}
use Rattle.rite_file.specs.declared.front.Section.{Section}
use Rattle.rite_file.specs.File.{section, irep_name, end_name, debug_name, locals_name, end_section, AreSkipped, none, debug, locals}
use Rattle.rite_file.specs.Front.{four_at, section_at, fits_at, sections_from}
use Rattle.rite_file.specs.Loaded.{is_skipped, is_irep, is_end, irep_in}
use Rattle.rite_file.proofs.Fields.{IsBytes, IsBytes-drop, IsBytes-take, not-true, rest_at, wide32}
use Rattle.rite_file.proofs.SectionSteps.{fits-is, goes_on}

-- ---- one section that is read

abbrev size_at : List ℕ → ℕ → ℕ
size_at bytes at = (section_at bytes at).size

-- what a section holds
abbrev pub contents_at : List ℕ → ℕ → List ℕ
contents_at bytes at = take ((section_at bytes at).size - 8) (drop (at + 8) bytes)

parts_of : (n : ℕ) (bytes : List ℕ) (at : ℕ) → drop at bytes ≡ take n (drop at bytes) ++ drop (at + n) bytes
parts_of n bytes at = sym (take-append-drop n (drop at bytes))
    ∙ ap (λ (t : List ℕ). take n (drop at bytes) ++ t) (drop-drop n at bytes)

pub section_parts : (bytes : List ℕ) (at : ℕ) → IsBytes bytes → fits_at bytes at ≡ true
    → drop at bytes ≡ section (four_at bytes at) (contents_at bytes at) ++ drop (at + (section_at bytes at).size) bytes
unfolding section_at four_at
section_parts bytes at are fits =
    let f = fits-is bytes at fits in
    let size : ℕ = from_be_bytes w32 (take 4 (drop (at + 4) bytes)) in
    let long : 8 ≤ size = f.size in
    let within : size ≤ length bytes - at = f.within in
    let number : to_be_bytes w32 size ≡ take 4 (drop (at + 4) bytes) = wide32.back (take 4 (drop (at + 4) bytes))
    (omega (arith, long, within, length-take 4 (drop (at + 4) bytes), length-drop (at + 4) bytes))
    (IsBytes-take 4 (drop (at + 4) bytes) (IsBytes-drop (at + 4) bytes are)) in
    let len : length (take (size - 8) (drop (at + 8) bytes)) + 8 ≡ size =
    omega (arith, long, within, length-take (size - 8) (drop (at + 8) bytes), length-drop (at + 8) bytes) in
    let next : at + 8 + (size - 8) ≡ at + size = omega (arith, long) in
    let third : drop (at + 8) bytes ≡ take (size - 8) (drop (at + 8) bytes) ++ drop (at + size) bytes =
    parts_of (size - 8) bytes (at + 8) ∙ ap (λ (k : ℕ). take (size - 8) (drop (at + 8) bytes) ++ drop k bytes)
    next in
    let second : drop (at + 4) bytes ≡ to_be_bytes w32 (length (take (size - 8) (drop (at + 8) bytes)) + 8) ++ drop
    (at + 8) bytes =
    parts_of 4 bytes (at + 4) ∙ ap (λ (t : List ℕ). t ++ drop (at + 4 + 4) bytes) (sym number
    ∙ ap (to_be_bytes w32) (sym len))
    ∙ ap (λ (k : ℕ). to_be_bytes w32 (length (take (size - 8) (drop (at + 8) bytes)) + 8) ++ drop k bytes)
    (omega arith) in
    parts_of 4 bytes at
    ∙ ap (λ (t : List ℕ). take 4 (drop at bytes) ++ t) (second
    ∙ ap (λ (t : List ℕ). to_be_bytes w32 (length (take (size - 8) (drop (at + 8) bytes)) + 8) ++ t) third)
    ∙ sym (append_assoc (take 4 (drop at bytes)) (to_be_bytes w32 (length (take (size - 8) (drop (at + 8) bytes)) + 8)
    ++ take (size - 8) (drop (at + 8) bytes)) (drop (at + size) bytes))

-- ---- one section that was written

-- a section with this name and these contents stands at a place
pub record Stands (bytes : List ℕ) (at : ℕ) (name contents rest : List ℕ) : Type 0 where
  pub fits : fits_at bytes at ≡ true
  pub id : four_at bytes at ≡ name
  pub size : (section_at bytes at).size ≡ length contents + 8
  pub inside : at + (length contents + 8) ≤ length bytes
  pub behind : drop (at + 8) bytes ≡ contents ++ rest
  pub others : drop (at + (length contents + 8)) bytes ≡ rest

fits_from : (left size : ℕ) → 8 ≤ size → size ≤ left
    → cond (ltb left 8) false (cond (ltb size 8) false (not (ltb left size))) ≡ true
fits_from left size long within = rw (
  le-ltb left 8 (omega (arith, long, within)),
  le-ltb size 8 long,
  le-ltb left size within,
) refl

pub stands : (bytes : List ℕ) (at : ℕ) (name contents rest : List ℕ) → length bytes < 2 ^ 32 → length name ≡ 4
    → drop at bytes ≡ section name contents ++ rest → Stands bytes at name contents rest
unfolding section_at four_at fits_at
stands bytes at name contents rest small four e =
    let n : ℕ = length contents + 8 in
    let e0 : drop at bytes ≡ name ++ (to_be_bytes w32 n ++ (contents ++ rest)) = e
    ∙ append_assoc name (to_be_bytes w32 n ++ contents) rest
    ∙ ap (λ (t : List ℕ). name ++ t) (append_assoc (to_be_bytes w32 n) contents rest) in
    let e4 : drop (at + 4) bytes ≡ to_be_bytes w32 n ++ (contents ++ rest) = ap (λ (k : ℕ). drop (at + k) bytes)
    (sym four) ∙ rest_at bytes at name _ e0 in
    let e8 : drop (at + 8) bytes ≡ contents ++ rest = ap (λ (k : ℕ). drop k bytes) (omega arith)
    ∙ rest_at bytes (at + 4) (to_be_bytes w32 n) _ e4 in
    let end : drop (at + n) bytes ≡ rest = ap (λ (k : ℕ). drop k bytes) (omega arith)
    ∙ rest_at bytes (at + 8) contents rest e8 in
    let len : length bytes - (at + 8) ≡ length contents + length rest = sym (length-drop (at + 8) bytes)
    ∙ ap length e8 ∙ length-append contents rest in
    let long : 8 ≤ length bytes - at = omega (
      arith,
      length-drop at bytes,
      ap length e0,
      four,
      length-append name (to_be_bytes w32 n ++ (contents ++ rest)),
    ) in
    let id : take 4 (drop at bytes) ≡ name = rw e0 (take_at name (to_be_bytes w32 n ++ (contents ++ rest)) 4 four) in
    let number : from_be_bytes w32 (take 4 (drop (at + 4) bytes)) ≡ n =
    ap (λ (t : List ℕ). from_be_bytes w32 (take 4 t)) e4 ∙ wide32.again n (omega (arith, small, len, long)) in
    record {
      fits = fits_from (length bytes - at) (from_be_bytes w32 (take 4 (drop (at + 4) bytes))) (omega (arith, number))
          (omega (arith, number, len, long));
      id = id;
      size = number;
      inside = omega (arith, len, long);
      behind = e8;
      others = end;
    }

-- ---- names

same_bytes : (xs ys : List ℕ) → bytes_eq xs ys ≡ true → xs ≡ ys
same_bytes xs ys h = (bytes_eq-Decides xs ys).0 h

named : (id : List ℕ) (a b : List ℕ) (p : Bool) → p ≡ bytes_eq id a → cond p true (bytes_eq id b) ≡ true
    → (id ≡ a) ⊎ (id ≡ b)
named id a b true e h = inl (same_bytes id a (sym e))
named id a b false e h = inr (same_bytes id b h)

skipped_name : (s : Section) → is_skipped s ≡ true → (s.id ≡ debug_name) ⊎ (s.id ≡ locals_name)
unfolding is_skipped
skipped_name s h = named s.id debug_name locals_name (bytes_eq s.id debug_name) refl h

skips : (name contents others : List ℕ) → (name ≡ debug_name) ⊎ (name ≡ locals_name) → AreSkipped others
    → AreSkipped (section name contents ++ others)
skips name contents others (inl e) h = subst (λ (k : List ℕ). AreSkipped (section k contents ++ others)) (sym e)
    (debug contents others h)
skips name contents others (inr e) h = subst (λ (k : List ℕ). AreSkipped (section k contents ++ others)) (sym e)
    (locals contents others h)

both_true : (a b : Bool) → (a && b) ≡ true → (a ≡ true) × (b ≡ true)
both_true true b h = (refl, h)
both_true false b h = absurd cc

-- ---- after the records

pub record Behind (bytes : List ℕ) (at : ℕ) : Type 0 where
  pub skipped : List ℕ
  pub are : AreSkipped skipped
  pub parts : drop at bytes ≡ skipped ++ end_section

ends : (bytes : List ℕ) (at : ℕ) → IsBytes bytes → fits_at bytes at ≡ true → is_end bytes (section_at bytes at) ≡ true
    → drop at bytes ≡ end_section
unfolding is_end section_at
ends bytes at are fits h =
    let a = both_true (bytes_eq (four_at bytes at) end_name) _ h in
    let b = both_true (eqb (section_at bytes at).size 8) (eqb (at + 8) (length bytes)) a.1 in
    let id : four_at bytes at ≡ end_name = same_bytes (four_at bytes at) end_name a.0 in
    let size : (section_at bytes at).size ≡ 8 = eqb-true (section_at bytes at).size 8 b.0 in
    let end : at + 8 ≡ length bytes = eqb-true (at + 8) (length bytes) b.1 in
    let contents : contents_at bytes at ≡ [] = ap (λ (n : ℕ). take (n - 8) (drop (at + 8) bytes)) size in
    let rest : drop (at + (section_at bytes at).size) bytes ≡ [] =
    nil_from_length (drop (at + (section_at bytes at).size) bytes)
    (omega (arith, length-drop (at + (section_at bytes at).size) bytes, size, end)) in
    section_parts bytes at are fits ∙ ap (λ (t : List ℕ). section (four_at bytes at) (contents_at bytes at) ++ t) rest
    ∙ ap (λ (t : List ℕ). section (four_at bytes at) t ++ []) contents ∙ ap (λ (t : List ℕ). section t [] ++ []) id

abbrev Answer : Type 0
Answer = Result Section LoadError

answer : Section → Answer
answer s = Ok s

abbrev Next : ℕ → List ℕ → ℕ → Type 0
Next n bytes at = (irep s : Section) → at ≤ length bytes → irep_in bytes (Some irep) (sections_from n bytes at) ≡ Ok s
    → (s ≡ irep) × Behind bytes at

behind_by : (n : ℕ) (bytes : List ℕ) (at : ℕ) (irep s : Section) (skipped end : Bool) → IsBytes bytes
    → fits_at bytes at ≡ true → skipped ≡ is_skipped (section_at bytes at) → end ≡ is_end bytes (section_at bytes at)
    → ((at + (section_at bytes at).size ≤ length bytes)
    → irep_in bytes (Some irep) (sections_from n bytes (at + (section_at bytes at).size)) ≡ Ok s
    → (s ≡ irep) × Behind bytes (at + (section_at bytes at).size))
    → at ≤ length bytes
    → cond skipped (irep_in bytes (Some irep) (sections_from n bytes (at + (section_at bytes at).size)))
    (cond end (Ok irep) (Err (BadSection at))) ≡ Ok s → (s ≡ irep) × Behind bytes at
unfolding section_at
behind_by n bytes at irep s true end are fits k m more lt h =
    let later = more (omega (arith, lt, (fits-is bytes at fits).within, (fits-is bytes at fits).size)) h in
    let name = skipped_name (section_at bytes at) (sym k) in
    let parts = section_parts bytes at are fits
    ∙ ap (λ (t : List ℕ). section (four_at bytes at) (contents_at bytes at) ++ t) later.1.parts
    ∙ sym (append_assoc (section (four_at bytes at) (contents_at bytes at)) later.1.skipped end_section) in (
      later.0,
      record {
        skipped = section (four_at bytes at) (contents_at bytes at) ++ later.1.skipped;
        are = skips (four_at bytes at) (contents_at bytes at) later.1.skipped name later.1.are;
        parts = parts;
      },
    )
behind_by n bytes at irep s false true are fits k m more lt h = (
  sym cc,
  record {
    skipped = [];
    are = none;
    parts = ends bytes at are fits (sym m);
  },
)
behind_by n bytes at irep s false false are fits k m more lt h = absurd cc

behind_in : (n : ℕ) (bytes : List ℕ) (at : ℕ) (irep s : Section) (inside fits : Bool) → IsBytes bytes
    → inside ≡ ltb at (length bytes) → fits ≡ fits_at bytes at → Next n bytes (at + (section_at bytes at).size)
    → irep_in bytes (Some irep)
    (cond inside (cond fits (Ok (section_at bytes at) ∷ sections_from n bytes (at + (section_at bytes at).size))
    (Err (BadSection at) ∷ [])) []) ≡ Ok s → (s ≡ irep) × Behind bytes at
unfolding irep_in section_at
behind_in n bytes at irep s false fits are i f more h = absurd cc
behind_in n bytes at irep s true false are i f more h = absurd cc
behind_in n bytes at irep s true true are i f more h =
    behind_by n bytes at irep s (is_skipped (section_at bytes at)) (is_end bytes (section_at bytes at)) are
    (sym f) refl refl (λ le k. more irep s le k) (omega (arith, ltb-true at (length bytes) (sym i))) h

pub behind_irep : (n : ℕ) (bytes : List ℕ) (at : ℕ) → IsBytes bytes → Next n bytes at
unfolding sections_from irep_in
behind_irep zero bytes at are irep s le h = absurd cc
behind_irep (suc n) bytes at are irep s le h = behind_in n bytes at irep s (ltb at (length bytes)) (fits_at bytes at)
    are refl refl (behind_irep n bytes (at + (section_at bytes at).size) are) h

-- ---- the section of the records

pub record IsFound (bytes : List ℕ) (at : ℕ) (s : Section) : Type 0 where
  pub before : List ℕ
  pub are : AreSkipped before
  pub parts : drop at bytes ≡ before ++ (section irep_name (contents_at bytes s.at) ++ drop (s.at + s.size) bytes)
  pub section : s ≡ section_at bytes s.at
  pub version : four_at bytes (s.at + 8) ≡ codes "0300"
  pub long : 12 ≤ s.size
  pub within : s.at + s.size ≤ length bytes
  pub behind : Behind bytes (s.at + s.size)

abbrev First : ℕ → List ℕ → ℕ → Type 0
First n bytes at = (s : Section) → at ≤ length bytes → irep_in bytes None (sections_from n bytes at) ≡ Ok s
    → IsFound bytes at s

found_here : (n : ℕ) (bytes : List ℕ) (at : ℕ) (s : Section) → IsBytes bytes → fits_at bytes at ≡ true
    → is_irep bytes (section_at bytes at) ≡ true → at ≤ length bytes
    → irep_in bytes (Some (section_at bytes at)) (sections_from n bytes (at + (section_at bytes at).size)) ≡ Ok s
    → IsFound bytes at s
unfolding is_irep section_at
found_here n bytes at s are fits irep le h =
    let f = fits-is bytes at fits in
    let a = both_true (bytes_eq (four_at bytes at) irep_name) _ irep in
    let b = both_true (not (ltb (section_at bytes at).size 12)) (bytes_eq (four_at bytes (at + 8)) (codes "0300"))
    a.1 in
    let within : at + (section_at bytes at).size ≤ length bytes = omega (arith, f.within, f.size, le) in
    let later = behind_irep n bytes (at + (section_at bytes at).size) are (section_at bytes at) s within h in
    let id : four_at bytes at ≡ irep_name = same_bytes (four_at bytes at) irep_name a.0 in
    let parts : drop at bytes ≡ section irep_name (contents_at bytes at) ++ drop (at + (section_at bytes at).size)
    bytes = section_parts bytes at are fits
    ∙ ap (λ (t : List ℕ). section t (contents_at bytes at) ++ drop (at + (section_at bytes at).size) bytes) id in
    let long : 12 ≤ (section_at bytes at).size = ltb-false (section_at bytes at).size 12 (not-true _ b.0) in
    let here : IsFound bytes at (section_at bytes at) = record {
      before = [];
      are = none;
      parts = parts;
      section = refl;
      version = same_bytes (four_at bytes (at + 8)) (codes "0300") b.1;
      long = long;
      within = within;
      behind = later.1;
    } in
    subst (IsFound bytes at) (sym later.0) here

found_later : (bytes : List ℕ) (at : ℕ) (s : Section) → IsBytes bytes → fits_at bytes at ≡ true
    → is_skipped (section_at bytes at) ≡ true → IsFound bytes (at + (section_at bytes at).size) s → IsFound bytes at s
unfolding section_at
found_later bytes at s are fits k later =
    let name = skipped_name (section_at bytes at) k in
    let inside : List ℕ = section irep_name (contents_at bytes s.at) ++ drop (s.at + s.size) bytes in
    let parts : drop at bytes ≡ (section (four_at bytes at) (contents_at bytes at) ++ later.before) ++ inside =
    section_parts bytes at are fits ∙ ap (λ (t : List ℕ). section (four_at bytes at) (contents_at bytes at) ++ t)
    later.parts ∙ sym (append_assoc (section (four_at bytes at) (contents_at bytes at)) later.before inside) in
    record {
      before = section (four_at bytes at) (contents_at bytes at) ++ later.before;
      are = skips (four_at bytes at) (contents_at bytes at) later.before name later.are;
      parts = parts;
      section = later.section;
      version = later.version;
      long = later.long;
      within = later.within;
      behind = later.behind;
    }

found_by : (n : ℕ) (bytes : List ℕ) (at : ℕ) (s : Section) (skipped irep : Bool) → IsBytes bytes
    → fits_at bytes at ≡ true → skipped ≡ is_skipped (section_at bytes at) → irep ≡ is_irep bytes (section_at bytes at)
    → First n bytes (at + (section_at bytes at).size) → at ≤ length bytes
    → cond skipped (irep_in bytes None (sections_from n bytes (at + (section_at bytes at).size)))
    (cond irep (irep_in bytes (Some (section_at bytes at))
    (sections_from n bytes (at + (section_at bytes at).size))) (Err (BadSection at))) ≡ Ok s → IsFound bytes at s
found_by n bytes at s true irep are fits k m more lt h = found_later bytes at s are fits (sym k)
    (more s (omega (arith, lt, (fits-is bytes at fits).within, (fits-is bytes at fits).size)) h)
found_by n bytes at s false true are fits k m more lt h = found_here n bytes at s are fits (sym m) lt h
found_by n bytes at s false false are fits k m more lt h = absurd cc

found_in : (n : ℕ) (bytes : List ℕ) (at : ℕ) (s : Section) (inside fits : Bool) → IsBytes bytes
    → inside ≡ ltb at (length bytes) → fits ≡ fits_at bytes at → First n bytes (at + (section_at bytes at).size)
    → irep_in bytes None
    (cond inside (cond fits (Ok (section_at bytes at) ∷ sections_from n bytes (at + (section_at bytes at).size))
    (Err (BadSection at) ∷ [])) []) ≡ Ok s → IsFound bytes at s
unfolding irep_in section_at
found_in n bytes at s false fits are i f more h = absurd cc
found_in n bytes at s true false are i f more h = absurd cc
found_in n bytes at s true true are i f more h =
    found_by n bytes at s (is_skipped (section_at bytes at)) (is_irep bytes (section_at bytes at)) are (sym f) refl
    refl more (omega (arith, ltb-true at (length bytes) (sym i))) h

pub found : (n : ℕ) (bytes : List ℕ) (at : ℕ) → IsBytes bytes → First n bytes at
unfolding sections_from irep_in
found zero bytes at are s le h = absurd cc
found (suc n) bytes at are s le h = found_in n bytes at s (ltb at (length bytes)) (fits_at bytes at) are refl refl
    (found n bytes (at + (section_at bytes at).size) are) h

-- ---- what was written

listed : (bytes : List ℕ) (at : ℕ) (name contents rest : List ℕ) → Stands bytes at name contents rest
    → sections_from (length bytes) bytes at ≡ Ok (section_at bytes at) ∷ sections_from (length bytes) bytes
    (at + (length contents + 8))
listed bytes at name contents rest st =
    goes_on bytes at (section_at bytes at) (omega (arith, st.inside)) (rw st.fits refl)
    ∙ ap (λ (n : ℕ). Ok (section_at bytes at) ∷ sections_from (length bytes) bytes (at + n)) st.size

debug_skipped : (bytes : List ℕ) (at : ℕ) → four_at bytes at ≡ debug_name → is_skipped (section_at bytes at) ≡ true
unfolding is_skipped section_at
debug_skipped bytes at e = rw e refl

locals_skipped : (bytes : List ℕ) (at : ℕ) → four_at bytes at ≡ locals_name → is_skipped (section_at bytes at) ≡ true
unfolding is_skipped section_at
locals_skipped bytes at e = rw e refl

skipped_once : (bytes : List ℕ) (at : ℕ) (found : Option Section) (next : ℕ)
    → sections_from (length bytes) bytes at ≡ Ok (section_at bytes at) ∷ sections_from (length bytes) bytes next
    → is_skipped (section_at bytes at) ≡ true
    → irep_in bytes found (sections_from (length bytes) bytes at) ≡ irep_in bytes found
    (sections_from (length bytes) bytes next)
unfolding irep_in
skipped_once bytes at None next e k = ap (irep_in bytes None) e ∙ rw k refl
skipped_once bytes at (Some s) next e k = ap (irep_in bytes (Some s)) e ∙ rw k refl

-- sections to skip are passed over
pub passed : (bytes skipped : List ℕ) → AreSkipped skipped → (found : Option Section) (at : ℕ) (rest : List ℕ)
    → length bytes < 2 ^ 32 → drop at bytes ≡ skipped ++ rest
    → irep_in bytes found (sections_from (length bytes) bytes at) ≡ irep_in bytes found
    (sections_from (length bytes) bytes (at + length skipped))
passed bytes [] none found at rest small e =
    ap (λ (n : ℕ). irep_in bytes found (sections_from (length bytes) bytes n)) (omega arith)
passed bytes _ (debug contents others more) found at rest small e =
    let st = stands bytes at debug_name contents (others ++ rest) small refl (e
    ∙ append_assoc (section debug_name contents) others rest) in
    skipped_once bytes at found (at + (length contents + 8)) (listed bytes at debug_name contents (others ++ rest) st)
    (debug_skipped bytes at st.id)
    ∙ passed bytes others more found (at + (length contents + 8)) rest small st.others
    ∙ ap (λ (n : ℕ). irep_in bytes found (sections_from (length bytes) bytes n))
    (omega (arith, length-append (section debug_name contents) others))
passed bytes _ (locals contents others more) found at rest small e =
    let st = stands bytes at locals_name contents (others ++ rest) small refl (e
    ∙ append_assoc (section locals_name contents) others rest) in
    skipped_once bytes at found (at + (length contents + 8))
    (listed bytes at locals_name contents (others ++ rest) st) (locals_skipped bytes at st.id)
    ∙ passed bytes others more found (at + (length contents + 8)) rest small st.others
    ∙ ap (λ (n : ℕ). irep_in bytes found (sections_from (length bytes) bytes n))
    (omega (arith, length-append (section locals_name contents) others))

end_id : (bytes : List ℕ) (at : ℕ) → four_at bytes at ≡ end_name → is_skipped (section_at bytes at) ≡ false
unfolding is_skipped section_at
end_id bytes at e = rw e refl

eqb-same : (n m : ℕ) → n ≡ m → eqb n m ≡ true
eqb-same n m e = search rules

end_is : (bytes : List ℕ) (at : ℕ) → Stands bytes at end_name [] [] → is_end bytes (section_at bytes at) ≡ true
unfolding is_end section_at
end_is bytes at st =
    let size = eqb-same (section_at bytes at).size 8 st.size in
    let last : length bytes - (at + 8) ≡ 0 = sym (length-drop (at + 8) bytes) ∙ ap length st.others in
    let place = eqb-same (at + 8) (length bytes) (omega (arith, last, st.inside)) in
    rw (st.id, size, place) refl

pub ended : (bytes : List ℕ) (irep : Section) (at : ℕ) → length bytes < 2 ^ 32 → drop at bytes ≡ end_section
    → irep_in bytes (Some irep) (sections_from (length bytes) bytes at) ≡ Ok irep
unfolding irep_in
ended bytes irep at small e =
    let st = stands bytes at end_name [] [] small refl e in
    ap (irep_in bytes (Some irep)) (listed bytes at end_name [] [] st)
    ∙ rw (end_id bytes at st.id, end_is bytes at st) refl

irep_id : (bytes : List ℕ) (at : ℕ) → four_at bytes at ≡ irep_name → is_skipped (section_at bytes at) ≡ false
unfolding is_skipped section_at
irep_id bytes at e = rw e refl

irep_is : (bytes : List ℕ) (at : ℕ) (records rest : List ℕ) → Stands bytes at irep_name (codes "0300" ++ records) rest
    → is_irep bytes (section_at bytes at) ≡ true
unfolding is_irep section_at four_at
irep_is bytes at records rest st =
    let size : ltb (section_at bytes at).size 12 ≡ false = le-ltb (section_at bytes at).size 12
    (omega (arith, st.size)) in
    let version : take 4 (drop (at + 8) bytes) ≡ codes "0300" = ap (take 4) st.behind in
    rw (st.id, size, version) refl

pub irep_stands : (bytes : List ℕ) (at : ℕ) (records rest : List ℕ)
    → Stands bytes at irep_name (codes "0300" ++ records) rest
    → irep_in bytes None (sections_from (length bytes) bytes at) ≡ irep_in bytes (Some (section_at bytes at))
    (sections_from (length bytes) bytes (at + (length records + 12)))
unfolding irep_in
irep_stands bytes at records rest st =
    let next : at + (length (codes "0300" ++ records) + 8) ≡ at + (length records + 12) = omega arith in
    ap (irep_in bytes None) (listed bytes at irep_name (codes "0300" ++ records) rest st)
    ∙ rw (irep_id bytes at st.id, irep_is bytes at records rest st, next) refl

-- the sections of a file that has these records
pub irep_known : (bytes before behind records : List ℕ) (at : ℕ) → AreSkipped before → AreSkipped behind
    → length bytes < 2 ^ 32
    → drop at bytes ≡ before ++ (section irep_name (codes "0300" ++ records) ++ (behind ++ end_section))
    → irep_in bytes None (sections_from (length bytes) bytes at) ≡ Ok (section_at bytes (at + length before))
irep_known bytes before behind records at b d small e =
    let place : ℕ = at + length before in
    let e1 : drop place bytes ≡ section irep_name (codes "0300" ++ records) ++ (behind ++ end_section) =
    rest_at bytes at before _ e in
    let st = stands bytes place irep_name (codes "0300" ++ records) (behind ++ end_section) small refl e1 in
    let e2 : drop (place + (length records + 12)) bytes ≡ behind ++ end_section = ap (λ (k : ℕ). drop k bytes)
    (omega arith) ∙ st.others in
    passed bytes before b None at (section irep_name (codes "0300" ++ records) ++ (behind ++ end_section)) small e
    ∙ irep_stands bytes place records (behind ++ end_section) st
    ∙ passed bytes behind d (Some (section_at bytes place)) (place + (length records + 12)) end_section small e2
    ∙ ended bytes (section_at bytes place) (place + (length records + 12) + length behind) small
    (rest_at bytes (place + (length records + 12)) behind end_section e2)
