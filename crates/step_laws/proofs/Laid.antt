-- Lines of assembled code stand where they are placed.
use Rattle.std.proofs.Common.{◌≡◌, ◌<◌, ◌≤◌, ℕ, suc, ◌+◌, List, [], ◌∷◌, ◌++◌, length, get_or, arith, refl, sym, ap, ◌∙◌, length-append, append_assoc, Bool, true}
use Rattle.std.specs.Prelude.{Some}
use Rattle.rite_code.specs.Instruction.{Instruction}
use Rattle.rite_code.specs.Shape.{fits}
use Rattle.rite_code.specs.Spelling.{encoding, encodings, decode, decode_wide_at}
use Rattle.rite_code.proofs.RoundTrip.{decode_encoded}
use Rattle.gen_parts.specs.declared.line.Line.{Line}
use Rattle.gen_parts.specs.Assembly.{size_of, size, places, instruction_before, instructions}
use Rattle.code_laws.proofs.Assembled.{AllFit, length_encodings, same_size}
use Rattle.def_machine.specs.State.{body_at}
use Rattle.def_machine.specs.Turn.{fetch}
use Rattle.gen_parts.specs.declared.line.Catch.{Catch}
use Rattle.step_laws.specs.Guards.{guards_at}
use Rattle.step_laws.specs.Site.{Site, guarded_by, at_line, IsGuarded, LineAt, Lines}

encoded_size : (i : Instruction) → length (encoding i) ≡ size_of i
encoded_size i =
    let one = length_encodings (i ∷ []) in
    let joined = length-append (encoding i) [] in
    omega (arith, one, joined)

read_there : (code bytes : List ℕ) (at : ℕ) (i : Instruction) (is : List Instruction)
    → code ≡ bytes ++ encodings (i ∷ is) → length bytes ≡ at → fits i ≡ true
    → decode 2 code at ≡ Some (i, at + size_of i)
read_there code bytes at i is e long fit =
    ap (λ (c : List ℕ). decode_wide_at c at) e
    ∙ ap (decode_wide_at (bytes ++ (encoding i ++ encodings is))) (sym long)
    ∙ decode_encoded bytes (encodings is) i fit
    ∙ ap (λ (n : ℕ). Some (i, n)) (omega (arith, long, encoded_size i))

pub first_place : (wide : Bool) (here : ℕ) (ls : List Line) → get_or (places wide here ls) 0 0 ≡ here
first_place wide here [] = refl
first_place wide here (l ∷ ls) = refl

module _ (h : Site) (code : List ℕ) (version : h.program.version ≡ 2)
    (is : (body_at h.program h.body).code ≡ code) where
  -- the instruction of a line, and the place behind it
  stands_at : (gs : List Catch) (n here : ℕ) (l : Line) (ls : List Line) (bytes : List ℕ)
      → code ≡ bytes ++ encodings (instructions h.wide h.at here (l ∷ ls)) → length bytes ≡ here
      → fits (instruction_before h.wide h.at (here + size h.wide l) l) ≡ true → at_line h n ≡ here
      → at_line h (n + 1) ≡ here + size h.wide l → IsGuarded (guarded_by h gs) n → LineAt (guarded_by h gs) n l
  unfolding fetch
  stands_at gs n here l ls bytes e long fit first second guarded = record {
    here =
        ap (λ (v : ℕ). decode v (body_at h.program h.body).code (at_line h n)) version
        ∙ ap (λ (c : List ℕ). decode 2 c (at_line h n)) is
        ∙ ap (decode 2 code) first
        ∙ read_there code bytes here (instruction_before h.wide h.at (here + size h.wide l) l)
        (instructions h.wide h.at (here + size h.wide l) ls) e long fit
        ∙ ap (λ (k : ℕ). Some (instruction_before h.wide h.at (here + size h.wide l) l, here + k))
        (same_size h.wide h.at (here + size h.wide l) l)
        ∙ ap (λ (k : ℕ). Some (instruction_before h.wide h.at k l, k)) (sym second);
    guarded = guarded;
  }

  pub lines_stand : (cs : List Catch) (n here : ℕ) (ls : List Line) (bytes : List ℕ)
      → code ≡ bytes ++ encodings (instructions h.wide h.at here ls) → length bytes ≡ here
      → AllFit (instructions h.wide h.at here ls)
      → ((k : ℕ) → k ≤ length ls → at_line h (n + k) ≡ get_or (places h.wide here ls) k 0)
      → ((i : ℕ) → n ≤ i → i < n + length ls → IsGuarded (guarded_by h (guards_at i cs h.guards)) i) → Lines h cs n ls
  lines_stand cs n here [] bytes e long fit placed guarded = tt
  lines_stand cs n here (l ∷ ls) bytes e long fit placed guarded =
      let i = instruction_before h.wide h.at (here + size h.wide l) l in
      let next = here + size h.wide l in
      let first : at_line h n ≡ here = ap (at_line h) (omega arith) ∙ placed 0 (omega arith) in
      let second : at_line h (n + 1) ≡ next = placed 1 (omega arith) ∙ first_place h.wide next ls in (
        stands_at (guards_at n cs h.guards) n here l ls bytes e long fit.0 first second
            (guarded n (omega arith) (omega arith)),
        lines_stand cs (n + 1) next ls (bytes ++ encoding i)
            (e ∙ sym (append_assoc bytes (encoding i) (encodings (instructions h.wide h.at next ls))))
            (omega (arith, length-append bytes (encoding i), long, encoded_size i, same_size h.wide h.at next l)) fit.1
            (λ k le.
            let same : n + 1 + k ≡ n + suc k = omega arith in
            ap (at_line h) same ∙ placed (suc k) (omega (arith, le)))
            (λ i least most. guarded i (omega (arith, least)) (omega (arith, most))),
      )
