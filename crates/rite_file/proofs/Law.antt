-- A file that is read is the file that was written, and what was written is read again.
use Rattle.std.proofs.Common.{◌≡◌, ℕ, suc, ◌+◌, ◌-◌, ◌^◌, ◌<◌, ◌≤◌, Bool, true, false, cond, ltb, eqb, List, [], ◌∷◌, ◌++◌, length, take, drop, refl, sym, ap, subst, ◌∙◌, arith, inl, inr, rules}
use Rattle.std.specs.Prelude.{not, ◌⊎◌, None, Result, Ok, Err, codes, flat_map, All}
use Rattle.std.specs.List.{AllByRecursion}
use Rattle.std.specs.Str.{bytes_eq}
use Rattle.std.specs.Int.{w32, from_be_bytes, to_be_bytes}
use Rattle.std.proofs.lemmas.Bool.{le-ltb, ltb-false, eqb-true}
use Rattle.std.proofs.lemmas.List.{length-append, length-take, length-drop, take-append-drop, take_at, drop-drop, drop-take, drop_all, append-nil, nil_from_length}
use Rattle.std.proofs.lemmas.List.Elements.{All-from_recursion, recursion_from_All}
use Rattle.std.proofs.lemmas.Slice.Eq.{bytes_eq-Decides}
use Rattle.rite_code.specs.Code.{Program, program, IsWhole, IsBody, IsForest}
use Rattle.rite_code.specs.declared.code.Irep.{Irep}
use Rattle.rite_file.specs.declared.error.LoadError.{LoadError}
use Rattle.rite_file.specs.declared.error.LoadError.TheVariants.{NotRite, Foreign, Truncated, BadSection, BadRecord}
use Rattle.rite_file.specs.declared.front.Header.{Header}
use Rattle.rite_file.specs.declared.front.Section.{Section}
use Rattle.rite_file.specs.declared.records.Record.{Record}
use Rattle.rite_file.specs.File.{section, irep_name, irep_section, end_section, record_of, version_name, file_of, canonical, IsHeld, Spells, AreSkipped, none}
use Rattle.rite_file.specs.Front.{four_at, front_of, sized, version_of, section_at, sections_of}
use Rattle.rite_file.specs.Gives.{Gives}
use Rattle.rb_base.specs.Result.{◌>>=◌}
use Rattle.rite_file.specs.Record.{records_at}
use Rattle.rite_file.specs.Loaded.{irep_in, numbered, records_in, program_in, checked, loaded}
use Rattle.rite_file.proofs.Fields.{IsBytes, IsBytes-drop, IsBytes-take, bind_ok, ok_is, rest_at, wide32}
use Rattle.rite_file.proofs.RecordFields.{FitsRecord, spelled_record, Awaits, records_take, records_again}
use Rattle.rite_file.proofs.Bodies.{numbered_are, records_from, records_spelled, length-records, records_await, numbered_again, records_fit}
use Rattle.rite_file.proofs.SectionFields.{contents_at, found, stands, irep_known}

-- ---- the header that is read

parts_of : (n : ℕ) (bytes : List ℕ) (at : ℕ) → drop at bytes ≡ take n (drop at bytes) ++ drop (at + n) bytes
parts_of n bytes at = sym (take-append-drop n (drop at bytes))
    ∙ ap (λ (t : List ℕ). take n (drop at bytes) ++ t) (drop-drop n at bytes)

same_bytes : (xs ys : List ℕ) → bytes_eq xs ys ≡ true → xs ≡ ys
same_bytes xs ys h = (bytes_eq-Decides xs ys).0 h

front_by : (bytes : List ℕ) (h x : Header) (rite short : Bool) → rite ≡ bytes_eq (take 8 bytes) (codes "RITE0300")
    → short ≡ ltb (length bytes) 20
    → cond (not rite) (Err NotRite) (cond short (Err (Truncated (length bytes))) (Ok x)) ≡ Ok h
    → (take 8 bytes ≡ codes "RITE0300") × ((20 ≤ length bytes) × (x ≡ h))
front_by bytes h x false short r s e = absurd cc
front_by bytes h x true true r s e = absurd cc
front_by bytes h x true false r s e = (
  same_bytes (take 8 bytes) (codes "RITE0300") (sym r),
  (ltb-false (length bytes) 20 (sym s), cc),
)

abbrev front_header : List ℕ → Header
front_header bytes = record {
  size = from_be_bytes w32 (four_at bytes 8);
  name = four_at bytes 12;
  version = four_at bytes 16;
}

front_is : (bytes : List ℕ) (h : Header) → front_of bytes ≡ Ok h
    → (take 8 bytes ≡ codes "RITE0300") × ((20 ≤ length bytes) × (front_header bytes ≡ h))
unfolding front_of
front_is bytes h e = front_by bytes h (front_header bytes) (bytes_eq (take 8 bytes) (codes "RITE0300"))
    (ltb (length bytes) 20) refl refl e

sized_by : (n size : ℕ) (h x : Header) (less more : Bool) → less ≡ ltb n size → more ≡ ltb size n
    → cond less (Err (Truncated n)) (cond more (Err (BadSection size)) (Ok h)) ≡ Ok x → (size ≤ n) × (n ≤ size)
sized_by n size h x true more l m e = absurd cc
sized_by n size h x false true l m e = absurd cc
sized_by n size h x false false l m e = (ltb-false n size (sym l), ltb-false size n (sym m))

sized_is : (bytes : List ℕ) (h x : Header) → sized bytes h ≡ Ok x → length bytes ≡ h.size
unfolding sized
sized_is bytes h x e = let s = sized_by (length bytes) h.size h x (ltb (length bytes) h.size)
    (ltb h.size (length bytes)) refl refl e in omega (arith, s.0, s.1)

-- a version, and the name of its compiler
pub record IsVersion (h : Header) (version : ℕ) : Type 0 where
  pub known : (version ≡ 1) ⊎ (version ≡ 2)
  pub name : h.name ≡ codes "RBWN"
  pub version_is : h.version ≡ version_name version

version_by : (h : Header) (v : ℕ) (known one two : Bool) → known ≡ bytes_eq h.name (codes "RBWN")
    → one ≡ bytes_eq h.version (codes "0001") → two ≡ bytes_eq h.version (codes "0002")
    → cond (not known) (Err (Foreign h.name)) (cond one (Ok 1) (cond two (Ok 2) (Err (Foreign h.name)))) ≡ Ok v
    → IsVersion h v
version_by h v false one two k o t e = absurd cc
version_by h v true true two k o t e =
    let v-is : 1 ≡ v = cc in
    subst (IsVersion h) v-is (record {
      known = inl refl;
      name = same_bytes h.name (codes "RBWN") (sym k);
      version_is = same_bytes h.version (codes "0001") (sym o);
    })
version_by h v true false true k o t e =
    let v-is : 2 ≡ v = cc in
    subst (IsVersion h) v-is (record {
      known = inr refl;
      name = same_bytes h.name (codes "RBWN") (sym k);
      version_is = same_bytes h.version (codes "0002") (sym t);
    })
version_by h v true false false k o t e = absurd cc

version_is_known : (h : Header) (v : ℕ) → version_of h ≡ Ok v → IsVersion h v
unfolding version_of
version_is_known h v e = version_by h v (bytes_eq h.name (codes "RBWN")) (bytes_eq h.version (codes "0001"))
    (bytes_eq h.version (codes "0002")) refl refl refl e

-- a file that a compiler of this version wrote
pub record IsFile (bytes : List ℕ) (version : ℕ) : Type 0 where
  pub parts : bytes ≡ file_of version (drop 20 bytes)
  pub small : length bytes < 2 ^ 32
  pub long : 20 ≤ length bytes
  pub known : (version ≡ 1) ⊎ (version ≡ 2)

file_is : (bytes : List ℕ) (h x : Header) (v : ℕ) → IsBytes bytes → front_of bytes ≡ Ok h → version_of h ≡ Ok v
    → sized bytes h ≡ Ok x → IsFile bytes v
unfolding four_at
file_is bytes h x v are front version size =
    let f = front_is bytes h front in
    let n : length bytes ≡ h.size = sized_is bytes h x size in
    let k = version_is_known h v version in
    let s : from_be_bytes w32 (take 4 (drop 8 bytes)) ≡ length bytes = ap (λ (y : Header). y.size) f.1.1 ∙ sym n in
    let sized-bytes : IsBytes (take 4 (drop 8 bytes)) = IsBytes-take 4 (drop 8 bytes) (IsBytes-drop 8 bytes are) in
    let number : take 4 (drop 8 bytes) ≡ to_be_bytes w32 (length (drop 20 bytes) + 20) =
    sym (wide32.back (take 4 (drop 8 bytes)) (omega (arith, f.1.0, length-take 4 (drop 8 bytes), length-drop 8 bytes))
    sized-bytes)
    ∙ ap (to_be_bytes w32) (s ∙ omega (arith, f.1.0, length-drop 20 bytes)) in
    let name : take 4 (drop 12 bytes) ≡ codes "RBWN" = ap (λ (y : Header). y.name) f.1.1 ∙ k.name in
    let name' : take 4 (drop 16 bytes) ≡ version_name v = ap (λ (y : Header). y.version) f.1.1 ∙ k.version_is in
    let e16 : drop 16 bytes ≡ version_name v ++ drop 20 bytes = parts_of 4 bytes 16
    ∙ ap (λ (t : List ℕ). t ++ drop 20 bytes) name' in
    let e12 : drop 12 bytes ≡ codes "RBWN" ++ (version_name v ++ drop 20 bytes) = parts_of 4 bytes 12
    ∙ ap (λ (t : List ℕ). t ++ drop 16 bytes) name ∙ ap (λ (t : List ℕ). codes "RBWN" ++ t) e16 in
    let e8 : drop 8 bytes ≡ to_be_bytes w32 (length (drop 20 bytes) + 20)
    ++ (codes "RBWN" ++ (version_name v ++ drop 20 bytes)) = parts_of 4 bytes 8
    ∙ ap (λ (t : List ℕ). t ++ drop 12 bytes) number
    ∙ ap (λ (t : List ℕ). to_be_bytes w32 (length (drop 20 bytes) + 20) ++ t) e12 in
    record {
      parts = parts_of 8 bytes 0 ∙ ap (λ (t : List ℕ). t ++ drop 8 bytes) f.0
          ∙ ap (λ (t : List ℕ). codes "RITE0300" ++ t) e8;
      small = omega (arith, s, wide32.below (take 4 (drop 8 bytes)) sized-bytes);
      long = f.1.0;
      known = k.known;
    }

-- ---- the records that are read

-- the records of a section
pub record HoldsRecords (version : ℕ) (bytes : List ℕ) (s : Section) (rs : List Record) : Type 0 where
  pub contents : take (s.size - 12) (drop (s.at + 12) bytes) ≡ flat_map spelled_record rs
  pub few : length rs ≤ 65536
  pub each : AllByRecursion (FitsRecord version) rs
  pub awaits : Awaits 1 rs

ended_by : (end n at : ℕ) (rs xs : List Record) (same : Bool) → same ≡ eqb end n
    → cond same (Ok rs) (Err (BadRecord at)) ≡ Ok xs → (end ≡ n) × (rs ≡ xs)
ended_by end n at rs xs true s e = (eqb-true end n (sym s), cc)
ended_by end n at rs xs false s e = absurd cc

pub records_are : (version : ℕ) (bytes : List ℕ) (s : Section) (rs : List Record) → IsBytes bytes → 12 ≤ s.size
    → s.at + s.size ≤ length bytes → records_in version bytes s ≡ Ok rs → HoldsRecords version bytes s rs
unfolding records_in
records_are version bytes s rs are long within e =
    let inside : List ℕ = take (s.at + s.size) bytes in
    let behind : List Record × ℕ
    → Result (List Record) LoadError = λ x. cond (eqb x.1 (length inside)) (Ok x.0) (Err (BadRecord x.1)) in
    let b = bind_ok (records_at 65536 version [] 1 inside (s.at + 12)) behind rs e in
    let g = ended_by b.0.1 (length inside) b.0.1 b.0.0 rs (eqb b.0.1 (length inside)) refl b.2 in
    let t = records_take 65536 version [] 1 inside (s.at + 12) b.0 (IsBytes-take (s.at + s.size) bytes are) b.1 in
    let same : t.0 ≡ rs = sym t.1 ∙ g.1 in
    let rest : drop b.0.1 inside ≡ [] = drop_all b.0.1 inside (omega (arith, g.0)) in
    let len : s.at + s.size ≡ s.at + 12 + (s.size - 12) = omega (arith, long) in
    let parts : take (s.size - 12) (drop (s.at + 12) bytes) ≡ flat_map spelled_record t.0 =
    sym (drop-take (s.at + 12) (s.size - 12) bytes) ∙ ap (λ (n : ℕ). drop (s.at + 12) (take n bytes)) (sym len)
    ∙ t.2.takes.parts ∙ ap (λ (x : List ℕ). flat_map spelled_record t.0 ++ x) rest
    ∙ append-nil (flat_map spelled_record t.0) in
    let here : HoldsRecords version bytes s t.0 = record {
      contents = parts;
      few = t.2.few;
      each = t.2.each;
      awaits = t.2.awaits;
    } in
    subst (HoldsRecords version bytes s) same here

-- ---- the whole that is read

take_behind : (p q : List ℕ) (n m : ℕ) → n ≡ length p + m → take n (p ++ q) ≡ p ++ take m q
take_behind [] q n m e = ap (λ (k : ℕ). take k q) (omega (arith, e))
take_behind (x ∷ p) q n m e =
    let k : n ≡ suc (length p + m) = omega (arith, e) in
    rw k (ap (λ (t : List ℕ). x ∷ t) (take_behind p q (length p + m) m refl))

contents_are : (bytes : List ℕ) (s : Section) → s ≡ section_at bytes s.at → 12 ≤ s.size
    → four_at bytes (s.at + 8) ≡ codes "0300"
    → contents_at bytes s.at ≡ codes "0300" ++ take (s.size - 12) (drop (s.at + 12) bytes)
unfolding four_at
contents_are bytes s is long version =
    let size : (section_at bytes s.at).size ≡ s.size = sym (ap (λ (t : Section). t.size) is) in
    let inside : drop (s.at + 8) bytes ≡ codes "0300" ++ drop (s.at + 12) bytes = parts_of 4 bytes (s.at + 8)
    ∙ ap (λ (t : List ℕ). t ++ drop (s.at + 8 + 4) bytes) version
    ∙ ap (λ (k : ℕ). codes "0300" ++ drop k bytes) (omega arith) in
    ap (λ (n : ℕ). take (n - 8) (drop (s.at + 8) bytes)) size ∙ ap (take (s.size - 8)) inside
    ∙ take_behind (codes "0300") (drop (s.at + 12) bytes) (s.size - 8) (s.size - 12) (omega (arith, long))

-- the bodies of records that one was awaited of are one tree
one_root : (rs : List Record) → Awaits 1 rs → length (numbered 0 rs).1 ≡ 1 → (numbered 0 rs).1 ≡ 0 ∷ []
unfolding numbered
one_root [] awaits e = absurd awaits
one_root (r ∷ rs) awaits e =
    let others : List ℕ = drop r.children (numbered 1 rs).1 in
    let nothing : others ≡ [] = nil_from_length others (omega (arith, e)) in
    ap (λ (t : List ℕ). 0 ∷ t) nothing

pub record IsLoaded (bytes : List ℕ) (p : Program) : Type 0 where
  pub spells : Spells bytes p
  pub whole : IsWhole p

program_is : (bytes : List ℕ) (v : ℕ) (s : Section) (rs : List Record) → IsBytes bytes → IsFile bytes v
    → irep_in bytes None (sections_of bytes) ≡ Ok s → records_in v bytes s ≡ Ok rs
    → IsLoaded bytes (program v (numbered 0 rs).0)
unfolding sections_of
program_is bytes v s rs are file irep records =
    let f = found (length bytes) bytes 20 are s file.long irep in
    let holds = records_are v bytes s rs are f.long f.within records in
    let n = numbered_are v 0 rs 1 holds.each holds.awaits in
    let bodies : List Irep = (numbered 0 rs).0 in
    let contents : contents_at bytes s.at ≡ codes "0300" ++ flat_map record_of bodies = contents_are bytes s f.section
    f.long f.version ∙ ap (λ (t : List ℕ). codes "0300" ++ t) (holds.contents ∙ sym n.spelled) in
    let parts : drop 20 bytes ≡ f.before ++ (irep_section bodies ++ (f.behind.skipped ++ end_section)) =
    f.parts ∙ ap (λ (t : List ℕ). f.before ++ (section irep_name t ++ drop (s.at + s.size) bytes)) contents
    ∙ ap (λ (t : List ℕ). f.before ++ (irep_section bodies ++ t)) f.behind.parts in
    record {
      spells = record {
        before = f.before;
        behind = f.behind.skipped;
        before_skipped = f.are;
        behind_skipped = f.behind.are;
        same = file.parts ∙ ap (file_of v) parts;
        size = file.small;
        held = All-from_recursion IsHeld bodies n.held;
      };
      whole = record {
        version = file.known;
        count = omega (arith, n.many, holds.few);
        each = All-from_recursion (IsBody v) bodies n.each;
        tree = subst (λ (roots : List ℕ). IsForest 0 bodies roots) (one_root rs holds.awaits n.count) n.forest;
      };
    }

-- what is known of the sections
pub record AreSections (bytes : List ℕ) (version : ℕ) (s : Section) : Type 0 where
  pub file : IsFile bytes version
  pub irep : irep_in bytes None (sections_of bytes) ≡ Ok s

abbrev Checked : List ℕ → ℕ × Section → Type 0
Checked bytes x = AreSections bytes x.0 x.1

pub sections_are : (bytes : List ℕ) (found : ℕ × Section) → IsBytes bytes → checked bytes ≡ Ok found
    → AreSections bytes found.0 found.1
unfolding checked
sections_are bytes found are e =
    let fourth : ℕ → Section → Result (ℕ × Section) LoadError = λ v s. Ok (v, s) in
    let third : ℕ → Header → Result (ℕ × Section) LoadError = λ v x. irep_in bytes None (sections_of bytes) >>= fourth
    v in
    let second : Header → ℕ → Result (ℕ × Section) LoadError = λ h v. sized bytes h >>= third v in
    let first : Header → Result (ℕ × Section) LoadError = λ h. version_of h >>= second h in
    let h = bind_ok (front_of bytes) first found e in
    let v = bind_ok (version_of h.0) (second h.0) found h.2 in
    let x = bind_ok (sized bytes h.0) (third v.0) found v.2 in
    let s = bind_ok (irep_in bytes None (sections_of bytes)) (fourth v.0) found x.2 in
    subst (Checked bytes) (ok_is (v.0, s.0) found s.2) (record {
      file = file_is bytes h.0 x.0 v.0 are h.1 v.1 x.1;
      irep = s.1;
    })

-- where the records of a section stand
pub record IsRoom (bytes : List ℕ) (s : Section) : Type 0 where
  pub long : 12 ≤ s.size
  pub within : s.at + s.size ≤ length bytes

pub room_is : (bytes : List ℕ) (found : ℕ × Section) → IsBytes bytes → checked bytes ≡ Ok found → IsRoom bytes found.1
unfolding sections_of
room_is bytes x are e =
    let a = sections_are bytes x are e in
    let f = found (length bytes) bytes 20 are x.1 a.file.long a.irep in
    record { long = f.long; within = f.within }

pub loaded_from : (bytes : List ℕ) (found : ℕ × Section) (rs : List Record) → IsBytes bytes → checked bytes ≡ Ok found
    → records_in found.0 bytes found.1 ≡ Ok rs → IsLoaded bytes (program found.0 (numbered 0 rs).0)
loaded_from bytes found rs are e records =
    let a = sections_are bytes found are e in
    program_is bytes found.0 found.1 rs are a.file a.irep records

pub loaded_steps : (bytes : List ℕ) (found : ℕ × Section) (rs : List Record) → checked bytes ≡ Ok found
    → records_in found.0 bytes found.1 ≡ Ok rs → loaded bytes ≡ Ok (program found.0 (numbered 0 rs).0)
unfolding loaded program_in
loaded_steps bytes found rs e records = rw (e, records) refl

pub checks_fail : (bytes : List ℕ) (e : LoadError) → checked bytes ≡ Err e → loaded bytes ≡ Err e
unfolding loaded
checks_fail bytes e h = rw h refl

pub records_fail : (bytes : List ℕ) (found : ℕ × Section) (e : LoadError) → checked bytes ≡ Ok found
    → records_in found.0 bytes found.1 ≡ Err e → loaded bytes ≡ Err e
unfolding loaded program_in
records_fail bytes found e h records = rw (h, records) refl

-- ---- the whole that was written

header_of_file : ℕ → List ℕ → Header
header_of_file v sections = record { size = length sections + 20; name = codes "RBWN"; version = version_name v }

length-file : (v : ℕ) (sections : List ℕ) → length (file_of v sections) ≡ length sections + 20
length-file v sections = omega arith

front_again : (v : ℕ) (sections : List ℕ) → length sections + 20 < 2 ^ 32
    → front_of (file_of v sections) ≡ Ok (header_of_file v sections)
unfolding front_of four_at header_of_file
front_again v sections small =
    let long : ltb (length (file_of v sections)) 20 ≡ false = le-ltb _ 20 (omega (arith, length-file v sections)) in
    rw (long, wide32.again (length sections + 20) small) refl

version_again : (v : ℕ) (sections : List ℕ) → (v ≡ 1) ⊎ (v ≡ 2) → version_of (header_of_file v sections) ≡ Ok v
unfolding version_of header_of_file
version_again v sections (inl e) = rw e refl
version_again v sections (inr e) = rw e refl

sized_again : (v : ℕ) (sections : List ℕ)
    → sized (file_of v sections) (header_of_file v sections) ≡ Ok (header_of_file v sections)
unfolding sized header_of_file
sized_again v sections =
    let less : ltb (length (file_of v sections)) (length sections + 20) ≡ false =
    le-ltb _ _ (omega (arith, length-file v sections)) in
    let more : ltb (length sections + 20) (length (file_of v sections)) ≡ false =
    le-ltb _ _ (omega (arith, length-file v sections)) in
    rw (less, more) refl

same_place : (n m : ℕ) → n ≡ m → eqb n m ≡ true
same_place n m e = search rules

-- the records of a section that holds them
records_known : (v : ℕ) (bytes : List ℕ) (at : ℕ) (bodies : List Irep) (rest : List ℕ) → length bytes < 2 ^ 32
    → length bodies ≤ 65536 → AllByRecursion (IsBody v) bodies → AllByRecursion IsHeld bodies
    → IsForest 0 bodies (0 ∷ [])
    → drop at bytes ≡ irep_section bodies ++ rest → records_in v bytes (section_at bytes at) ≡ Ok (records_from bodies)
unfolding records_in section_at
records_known v bytes at bodies rest small few each held tree e =
    let records : List ℕ = flat_map record_of bodies in
    let st = stands bytes at irep_name (codes "0300" ++ records) rest small refl e in
    let size : (section_at bytes at).size ≡ length records + 12 = omega (arith, st.size) in
    let behind : drop (at + 12) bytes ≡ records ++ rest = ap (λ (k : ℕ). drop k bytes) (omega arith)
    ∙ rest_at bytes (at + 8) (codes "0300") (records ++ rest) st.behind in
    let inside : List ℕ = take (at + (section_at bytes at).size) bytes in
    let end : at + (section_at bytes at).size ≡ at + 12 + length records = omega (arith, size) in
    let parts : drop (at + 12) inside ≡ records = ap (λ (n : ℕ). drop (at + 12) (take n bytes)) end
    ∙ drop-take (at + 12) (length records) bytes ∙ ap (take (length records)) behind
    ∙ take_at records rest (length records) refl in
    let spelled : drop (at + 12) inside ≡ flat_map spelled_record (records_from bodies) ++ [] = parts
    ∙ records_spelled bodies ∙ sym (append-nil (flat_map spelled_record (records_from bodies))) in
    let room : at + 12 + length records ≤ length bytes = omega (arith, st.inside) in
    let fit = records_fit v bodies each held (omega (arith, room, small)) in
    let r = records_again 65536 v (records_from bodies) [] 1 inside (at + 12) []
    (omega (arith, few, length-records bodies)) fit (records_await 0 bodies (0 ∷ []) tree) spelled in
    let len : length inside ≡ at + 12 + length (flat_map spelled_record (records_from bodies)) =
    omega (
      arith,
      length-take (at + (section_at bytes at).size) bytes,
      end,
      room,
      ap length (records_spelled bodies),
    ) in
    rw (r, same_place (at + 12 + length (flat_map spelled_record (records_from bodies))) (length inside) (sym len)) refl

abbrev sections_in : Program → List ℕ → List ℕ → List ℕ
sections_in p before behind = before ++ (irep_section p.bodies ++ (behind ++ end_section))

pub loaded_again : (p : Program) (before behind : List ℕ) → IsWhole p → All IsHeld p.bodies → AreSkipped before
    → AreSkipped behind → length (file_of p.version (sections_in p before behind)) < 2 ^ 32
    → loaded (file_of p.version (sections_in p before behind)) ≡ Ok p
unfolding loaded checked program_in sections_of
loaded_again p before behind whole held b d small =
    let sections : List ℕ = sections_in p before behind in
    let bytes : List ℕ = file_of p.version sections in
    let f = front_again p.version sections (omega (arith, small, length-file p.version sections)) in
    let v = version_again p.version sections whole.version in
    let z = sized_again p.version sections in
    let irep = irep_known bytes before behind (flat_map record_of p.bodies) 20 b d small refl in
    let place : drop (20 + length before) bytes ≡ irep_section p.bodies ++ (behind ++ end_section) =
    rest_at bytes 20 before (irep_section p.bodies ++ (behind ++ end_section)) refl in
    let records = records_known p.version bytes (20 + length before) p.bodies (behind ++ end_section) small
    whole.count (recursion_from_All (IsBody p.version) p.bodies whole.each)
    (recursion_from_All IsHeld p.bodies held) whole.tree place in
    rw (f, v, z, irep, records, numbered_again 0 p.bodies (0 ∷ []) whole.tree) refl

pub spells_loads : (bytes : List ℕ) (p : Program) → IsWhole p → Spells bytes p → loaded bytes ≡ Ok p
spells_loads bytes p whole s =
    ap loaded s.same ∙ loaded_again p s.before s.behind whole s.held s.before_skipped s.behind_skipped
    (subst (λ (b : List ℕ). length b < 2 ^ 32) s.same s.size)

pub one_program : (bytes : List ℕ) (p q : Program) → IsWhole p → IsWhole q → Spells bytes p → Spells bytes q → p ≡ q
one_program bytes p q wp wq sp sq = ok_is p q (sym (spells_loads bytes p wp sp) ∙ spells_loads bytes q wq sq)

pub canonical_is : (p : Program) → All IsHeld p.bodies → length (canonical p) < 2 ^ 32 → Spells (canonical p) p
unfolding canonical
canonical_is p held small = record {
  before = [];
  behind = [];
  before_skipped = none;
  behind_skipped = none;
  same = refl;
  size = small;
  held = held;
}

-- what gives the program of a file gives each program that it spells
pub only : {bytes : List ℕ} (r : Result Program LoadError) → Gives r (loaded bytes) → (p : Program) → IsWhole p
    → Spells bytes p → Gives r (Ok p)
only {bytes} r h p whole s = subst (λ (w : Result Program LoadError). Gives r w) (spells_loads bytes p whole s) h

pub checked_from : (bytes : List ℕ) (h x : Header) (v : ℕ) (s : Section) → front_of bytes ≡ Ok h → version_of h ≡ Ok v
    → sized bytes h ≡ Ok x → irep_in bytes None (sections_of bytes) ≡ Ok s → checked bytes ≡ Ok (v, s)
unfolding checked
checked_from bytes h x v s front version size irep = rw (front, version, size, irep) refl

pub records_few : (bytes : List ℕ) (found : ℕ × Section) (rs : List Record) → IsBytes bytes → checked bytes ≡ Ok found
    → records_in found.0 bytes found.1 ≡ Ok rs → length rs ≤ 65536
records_few bytes found rs are e records =
    let room = room_is bytes found are e in
    (records_are found.0 bytes found.1 rs are room.long room.within records).few

-- a file is no shorter than the one without sections to skip
pub canonical_fits : (bytes : List ℕ) (p : Program) → Spells bytes p → length (canonical p) < 2 ^ 32
unfolding canonical
canonical_fits bytes p s =
    let irep : List ℕ = irep_section p.bodies in
    omega (
      arith,
      s.size,
      ap length s.same,
      length-file p.version (sections_in p s.before s.behind),
      length-file p.version (irep ++ end_section),
      length-append s.before (irep ++ (s.behind ++ end_section)),
      length-append irep (s.behind ++ end_section),
      length-append s.behind end_section,
      length-append irep
          end_section,
    )
