-- The code of a form within the limits has the form's code in its main body.
use Rattle.std.proofs.Common.{◌≡◌, ℕ, ◌+◌, ◌<◌, List, [], ◌∷◌, ◌++◌, refl, sym, ap, ◌∙◌, subst, arith, Some, Bool, true, false, cond, ◌||◌, length, length-append, append_assoc, map, get_or}
use Rattle.std.specs.Prelude.{IsTrue, codes}
use Rattle.std.proofs.lemmas.List.{map-append}
use Rattle.std.proofs.lemmas.Grind.{flat_map-append}
use Rattle.std.proofs.lemmas.Bool.{and_parts}
use Rattle.path_core.specs.Form.{Name, Form, strict, local, set_local, seq, cond as cond_form, while_form, Forms, none, more}
use Rattle.text_set.specs.Sets.{is_among}
use Rattle.code_generator.specs.Names.{names_of}
use Rattle.code_generator.specs.Limits.{is_plain, are_plain, is_scoped, are_scoped, lines_scoped, known_after, IsWithin}
use Rattle.rite_code.specs.Code.{Program}
use Rattle.rite_code.specs.declared.operation.Operation.{Operation}
use Rattle.rite_code.specs.declared.operation.Operation.TheVariants.{Stop}
use Rattle.rite_code.specs.Instruction.{narrow}
use Rattle.rite_code.specs.Shape.{size_of}
use Rattle.rite_code.specs.Spelling.{encoding, encodings, decode_wide_at}
use Rattle.rite_code.proofs.RoundTrip.{decode_encoded, length-encoding_narrow}
use Rattle.path_turns.specs.State.{body_at}
use Rattle.path_turns.specs.Turn.{fetch}
use Rattle.code_generator.specs.Gen.{gen, len, register_of, is_puts, calls_puts, any_calls_puts, symbols_of, first_free, operations_of, full_code}
use Rattle.code_generator.specs.Implements.{source_of, Implements}
use Rattle.code_generator.proofs.Bounds.{has_operands, three_parts, within_registers, within_code}
use Rattle.code_generator.proofs.Pieces.{HasAt, total, total_append, front, back, gen_len}
use Rattle.code_generator.proofs.Generated.{Fine, AllFine, gen_stands}
use Rattle.code_generator.proofs.Scoping.{Within, Assigned, AllAssigned, assigned_own, known_within, place_among}
use Rattle.code_generator.proofs.Fitting.{AllFit, AllFit-append, gen_fits}
use Rattle.code_generator.proofs.Whole.{IsCodeOf, implements}

abbrev pub bytes_of : List Operation → List ℕ
bytes_of is = encodings (map narrow is)

bytes_append : (a b : List Operation) → bytes_of (a ++ b) ≡ bytes_of a ++ bytes_of b
bytes_append a b = ap encodings (map-append narrow a b) ∙ flat_map-append encoding (map narrow a) (map narrow b)

pub length_bytes : (is : List Operation) → length (bytes_of is) ≡ total is
length_bytes [] = refl
length_bytes (i ∷ is) = length-append (encoding (narrow i)) (bytes_of is) ∙ let e = length-encoding_narrow i in let h =
    length_bytes is in omega (arith, e, h)

-- an instruction is fetched from where it was put
fetched : (p : Program) (b : ℕ) (pre : List Operation) (i : Operation) (is : List Operation)
    → (body_at p b).code ≡ bytes_of (pre ++ i ∷ is) → IsTrue (Rattle.rite_code.specs.Shape.fits (narrow i))
    → fetch p b (total pre) ≡ Some (narrow i, total pre + size_of i)
unfolding fetch
fetched p b pre i is e fit =
    let at : length (bytes_of pre) ≡ total pre = length_bytes pre in
    let bytes : (body_at p b).code ≡ bytes_of pre ++ (encoding (narrow i) ++ bytes_of is) = e
    ∙ bytes_append pre (i ∷ is) in
    ap (λ (c : List ℕ). decode_wide_at c (total pre)) bytes
    ∙ ap (decode_wide_at (bytes_of pre ++ (encoding (narrow i) ++ bytes_of is))) (sym at)
    ∙ decode_encoded (bytes_of pre) (bytes_of is) (narrow i) fit
    ∙ ap (λ (n : ℕ). Some (narrow i, n)) (let size = length-encoding_narrow i in omega (arith, at, size))

has_from : (p : Program) (b : ℕ) (pre is : List Operation) → (body_at p b).code ≡ bytes_of (pre ++ is) → AllFit is
    → HasAt p b (total pre) is
has_from p b pre [] e fit = tt
has_from p b pre (i ∷ is) e fit =
    let next : total (pre ++ i ∷ []) ≡ total pre + size_of i = omega (arith, total_append pre (i ∷ [])) in (
      fetched p b pre i is e fit.0,
      subst (λ (n : ℕ). HasAt p b n is) next (has_from p b (pre ++ i ∷ []) is
          (e ∙ ap bytes_of (sym (append_assoc pre (i ∷ []) is))) fit.1),
    )

-- a test that holds of a part holds of the whole
left : (a b : Bool) → a ≡ true → (a || b) ≡ true
left true b e = refl
left false b e = absurd (cc)

right : (a b : Bool) → b ≡ true → (a || b) ≡ true
right true b e = refl
right false b e = e

-- what is plain, scoped and assigned is fine where the names are the locals and puts is a symbol
module _ (p : Program) (b : ℕ) (ns : List Name) (layout : (body_at p b).locals ≡ length ns + 1) where
  abbrev Named : Type 0
  Named = get_or (body_at p b).symbols 0 [] ≡ codes "puts"

  known_register : (x : Name) → is_among x ns ≡ true → register_of ns x < (body_at p b).locals
  known_register x h = let lt = place_among x ns h in omega (arith, lt, layout)

  mutual
    fine_of : (known : List Name) (e : Form) → Within known ns → Assigned ns e → is_plain e ≡ true
        → is_scoped known e ≡ true → (calls_puts e ≡ true → Named) → Fine p b ns e
    fine_of known (strict a es) w s h k named = (
      (has_operands a es h).0,
      (λ y. named (left (is_puts a) (any_calls_puts es) y)),
      operands_fine known es w s (has_operands a es h).1 k (λ y. named (right (is_puts a) (any_calls_puts es) y)),
    )
    fine_of known (local x) w s h k named = known_register x (w x k)
    fine_of known (set_local x e) w s h k named = (known_register x s.0, fine_of known e w s.1 h k named)
    fine_of known (seq es) w s h k named = lines_fine known es w s h k named
    fine_of known (cond_form q e f) w s h k named =
        let hs = three_parts (is_plain q) (is_plain e) (is_plain f) h in
        let ks = three_parts (is_scoped known q) (is_scoped known e) (is_scoped known f) k in (
          fine_of known q w s.0 hs.0 ks.0 (λ y. named
              (left (calls_puts q || calls_puts e) (calls_puts f) (left (calls_puts q) (calls_puts e) y))),
          fine_of known e w s.1 hs.1 ks.1 (λ y. named
              (left (calls_puts q || calls_puts e) (calls_puts f) (right (calls_puts q) (calls_puts e) y))),
          fine_of known f w s.2 hs.2 ks.2 (λ y. named (right (calls_puts q || calls_puts e) (calls_puts f) y)),
        )
    fine_of known (while_form q e) w s h k named =
        let hs = and_parts (is_plain q) (is_plain e) h in
        let ks = and_parts (is_scoped known q) (is_scoped known e) k in (
          fine_of known q w s.0 hs.0 ks.0 (λ y. named (left (calls_puts q) (calls_puts e) y)),
          fine_of known e w s.1 hs.1 ks.1 (λ y. named (right (calls_puts q) (calls_puts e) y)),
        )

    operands_fine : (known : List Name) (es : Forms) → Within known ns → AllAssigned ns es → are_plain es ≡ true
        → are_scoped known es ≡ true → (any_calls_puts es ≡ true → Named) → AllFine p b ns es
    operands_fine known none w s h k named = tt
    operands_fine known (more e es) w s h k named =
        let hs = and_parts (is_plain e) (are_plain es) h in
        let ks = and_parts (is_scoped known e) (are_scoped known es) k in (
          fine_of known e w s.0 hs.0 ks.0 (λ y. named (left (calls_puts e) (any_calls_puts es) y)),
          operands_fine known es w s.1 hs.1 ks.1 (λ y. named (right (calls_puts e) (any_calls_puts es) y)),
        )

    lines_fine : (known : List Name) (es : Forms) → Within known ns → AllAssigned ns es → are_plain es ≡ true
        → lines_scoped known es ≡ true → (any_calls_puts es ≡ true → Named) → AllFine p b ns es
    lines_fine known none w s h k named = tt
    lines_fine known (more e es) w s h k named =
        let hs = and_parts (is_plain e) (are_plain es) h in
        let ks = and_parts (is_scoped known e) (lines_scoped (known_after known e) es) k in (
          fine_of known e w s.0 hs.0 ks.0 (λ y. named (left (calls_puts e) (any_calls_puts es) y)),
          lines_fine (known_after known e) es (known_within known ns e w s.0) s.1 hs.1 ks.1
              (λ y. named (right (calls_puts e) (any_calls_puts es) y)),
        )

named_by : (f : Form) → calls_puts f ≡ true → get_or (symbols_of f) 0 [] ≡ codes "puts"
named_by f h = ap (λ (t : Bool). get_or (cond t (codes "puts" ∷ []) []) 0 []) h

none_within : (ns : List Name) → Within [] ns
none_within ns = λ x h. absurd (cc)

pub fine_code : (f : Form) → IsWithin f → Fine (full_code f) 0 (names_of f) f
fine_code f w = fine_of (full_code f) 0 (names_of f) refl [] f (none_within (names_of f)) (assigned_own f) w.plain
    w.scoped (named_by f)

-- the instructions stand in the code one after another
pub has_code : (f : Form) → IsWithin f → HasAt (full_code f) 0 0 (operations_of f)
has_code f w =
    let registers = within_registers f w in
    let short = within_code f w in
    let fit = AllFit-append (gen (names_of f) f (first_free f) 0) (Stop ∷ [])
    (gen_fits (full_code f) 0 (names_of f) (omega (arith, registers)) f (first_free f) 0 w.plain (fine_code f w)
    registers (omega (arith, short))) (refl, tt) in
    has_from (full_code f) 0 [] (operations_of f) refl fit

pub code_is : (f : Form) → IsWithin f → IsCodeOf (source_of f) (full_code f)
code_is f w =
    let p = full_code f in
    let ns = names_of f in
    let code = has_code f w in
    record {
      layout = refl;
      room = omega arith;
      end = 0 + len f;
      code = gen_stands p 0 ns f (first_free f) 0 (fine_code f w) (omega arith) (omega arith)
          (front p 0 0 (gen ns f (first_free f) 0) (Stop ∷ []) code);
      stop = record {
        here = (back p 0 0 (len f) (gen ns f (first_free f) 0) (Stop ∷ []) (gen_len ns f (first_free f) 0)
            code).0;
      };
    }

pub full_implements : (f : Form) → IsWithin f → Implements (full_code f) f
full_implements f w input = implements (source_of f) (full_code f) input (code_is f w)
