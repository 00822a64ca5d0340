-- The entries of files in memory, by their names.
use Rattle.std.proofs.Common.{◌≡◌, ◌≢◌, ℕ, suc, ◌+◌, ◌<◌, List, [], ◌∷◌, ◌++◌, length, get_or, set, Bool, true, false, cond, refl, ap, sym, ◌∙◌, subst, arith}
use Rattle.std.specs.Prelude.{Some, None}
use Rattle.std.proofs.lemmas.List.{get_or_default}
use Rattle.std.proofs.lemmas.Option.{none-some, same_Some}
use Rattle.std.specs.List.{position, position_from}
use Rattle.std.specs.Str.{bytes_eq}
use Rattle.std.proofs.lemmas.Slice.Eq.{bytes_eq-Decides}
use Rattle.std.proofs.lemmas.Iterator.Adapters.{position_from-zero}
use Rattle.rb_base.specs.Memory.{file_in, PutsFile}

-- whether an entry has the name
abbrev pub named : List ℕ → List ℕ × List ℕ → Bool
named name e = bytes_eq e.0 name

pub same_name : (name : List ℕ) → bytes_eq name name ≡ true
same_name name = (bytes_eq-Decides name name).1 refl

-- an entry of the name doesn't have another one
pub other_name : (key name other : List ℕ) → bytes_eq key name ≡ true → other ≢ name → bytes_eq key other ≡ false
other_name key name other is differs =
    let same : key ≡ name = (bytes_eq-Decides key name).0 is in
    elim (bytes_eq key other) as (λ b. bytes_eq key other ≡ b → b ≡ false) [
      | true ↦ λ eq. absurd (differs (sym ((bytes_eq-Decides key other).0 eq) ∙ same))
      | false ↦ λ _. refl
    ] refl

-- the file of the name stands at the place, and another file can be put there
pub record IsPlace (at i : ℕ) (es : List (List ℕ × List ℕ)) (name : List ℕ) : Type 0 where
  pub offset : ℕ
  pub is_offset : i ≡ at + offset
  pub within : offset < length es
  pub found : file_in es name ≡ Some (get_or es offset ([], [])).1
  pub puts : (bytes : List ℕ) → PutsFile es (set es offset (name, bytes)) name bytes

place_here : (at : ℕ) (e : List ℕ × List ℕ) (es : List (List ℕ × List ℕ)) (name : List ℕ) → bytes_eq e.0 name ≡ true
    → IsPlace at at (e ∷ es) name
place_here at e es name is = record {
  offset = 0;
  is_offset = omega arith;
  within = grind arith;
  found = rw is refl;
  puts = λ bytes. record {
    put = rw (same_name name) refl;
    kept = λ other differs. rw (
      other_name name name other (same_name name) differs,
      other_name e.0 name other is
          differs,
    ) refl;
  };
}

place_later : (at i : ℕ) (e : List ℕ × List ℕ) (es : List (List ℕ × List ℕ)) (name : List ℕ) → bytes_eq e.0 name ≡ false
    → IsPlace (at + 1) i es name → IsPlace at i (e ∷ es) name
place_later at i e es name is place = record {
  offset = suc place.offset;
  is_offset = grind (arith, place.is_offset);
  within = grind (arith, place.within);
  found = rw is place.found;
  puts = λ bytes. record {
    put = rw is (place.puts bytes).put;
    kept = λ other differs. ap (λ rest. cond (bytes_eq e.0 other) (Some e.1) rest)
        ((place.puts bytes).kept other differs);
  };
}

pub place_from : (es : List (List ℕ × List ℕ)) (at i : ℕ) (name : List ℕ) → position_from (named name) at es ≡ Some i
    → IsPlace at i es name
place_from [] at i name is = absurd (none-some i is)
place_from (e ∷ es) at i name is =
    elim (bytes_eq e.0 name) as (λ b. bytes_eq e.0 name ≡ b
    → cond b (Some at) (position_from (named name) (at + 1) es) ≡ Some i → IsPlace at i (e ∷ es) name) [
      | true ↦ λ here eq. let P : ℕ → Type 0 = λ n. IsPlace at n (e ∷ es) name in
          subst P (same_Some at i eq) (place_here at e es name here)
      | false ↦ λ here eq. place_later at i e es name here (place_from es (at + 1) i name eq)
    ] refl is

-- no entry has the name: there is no file, and one can be put after
pub record IsNowhere (es : List (List ℕ × List ℕ)) (name : List ℕ) : Type 0 where
  pub missing : file_in es name ≡ None
  pub puts : (bytes : List ℕ) → PutsFile es (es ++ (name, bytes) ∷ []) name bytes

nowhere_later : (e : List ℕ × List ℕ) (es : List (List ℕ × List ℕ)) (name : List ℕ) → bytes_eq e.0 name ≡ false
    → IsNowhere es name → IsNowhere (e ∷ es) name
nowhere_later e es name is nowhere = record {
  missing = rw is nowhere.missing;
  puts = λ bytes. record {
    put = rw is (nowhere.puts bytes).put;
    kept = λ other differs. ap (λ rest. cond (bytes_eq e.0 other) (Some e.1) rest)
        ((nowhere.puts bytes).kept other differs);
  };
}

pub nowhere_from : (es : List (List ℕ × List ℕ)) (at : ℕ) (name : List ℕ) → position_from (named name) at es ≡ None
    → IsNowhere es name
nowhere_from [] at name is = record {
  missing = refl;
  puts = λ bytes. record {
    put = rw (same_name name) refl;
    kept = λ other differs. rw (other_name name name other (same_name name) differs) refl;
  };
}
nowhere_from (e ∷ es) at name is =
    elim (bytes_eq e.0 name) as (λ b. bytes_eq e.0 name ≡ b
    → cond b (Some at) (position_from (named name) (at + 1) es) ≡ None → IsNowhere (e ∷ es) name) [
      | true ↦ λ here eq. absurd (none-some at (sym eq))
      | false ↦ λ here eq. nowhere_later e es name here (nowhere_from es (at + 1) name eq)
    ] refl is

-- what `position` says of a file, at the list that it was given
pub place_at : (es given : List (List ℕ × List ℕ)) (i : ℕ) (name : List ℕ) → given ≡ es
    → Some i ≡ position (named name) given → IsPlace 0 i es name
place_at es given i name same is =
    let here : position_from (named name) 0 given ≡ Some i = sym (is ∙ position_from-zero (named name) given) in
    place_from es 0 i name (rw same at here)

pub nowhere : (es given : List (List ℕ × List ℕ)) (name : List ℕ) → given ≡ es → None ≡ position (named name) given
    → IsNowhere es name
nowhere es given name same is =
    let here : position_from (named name) 0 given ≡ None = sym (is ∙ position_from-zero (named name) given) in
    nowhere_from es 0 name (rw same at here)

pub puts_at : (es : List (List ℕ × List ℕ)) (i : ℕ) (e : List ℕ × List ℕ) (name bytes : List ℕ) → e ≡ (name, bytes)
    → IsPlace 0 i es name → PutsFile es (set es i e) name bytes
puts_at es i e name bytes same place =
    let at : i ≡ place.offset = omega (arith, place.is_offset) in
    rw (at, same) (place.puts bytes)

pub found_at : (es : List (List ℕ × List ℕ)) (i : ℕ) (e : List ℕ × List ℕ) (name : List ℕ) → e ≡ get_or es i e
    → IsPlace 0 i es name → file_in es name ≡ Some e.1
found_at es i e name is place =
    let at : i ≡ place.offset = omega (arith, place.is_offset) in
    let is_e : e ≡ get_or es place.offset e = rw at at is in
    let same : get_or es place.offset ([], []) ≡ e = get_or_default es place.offset ([], []) e place.within
    ∙ sym is_e in
    place.found ∙ ap (λ found. Some found.1) same
