-- Bodies in which nothing is wrong, and the instructions that make them.
use Rattle.std.proofs.Common.{◌≡◌, ◌≤◌, ℕ, zero, suc, ◌+◌, List, [], ◌∷◌, ◌++◌, length, arith, sym, ap, ◌∙◌, Bool, true, false, length-append, if◌then◌else◌}
use Rattle.std.specs.Prelude.{Option, Some}
use Rattle.std.proofs.lemmas.List.{append-nil, length-map}
use Rattle.rite_code.specs.declared.code.PoolItem.{PoolItem}
use Rattle.rite_code.specs.declared.operation.Operation.{Operation}
use Rattle.ir_core.specs.CoreForm as form
use Rattle.ir_core.specs.CoreForm.{Local, Parameters, CoreForm, Body}
use Rattle.ir_walk.specs.Width.{width}
use Rattle.ir_counts.specs.declared.tally.Tally.{Tally}
use Rattle.ir_counts.specs.Counts.{tally, parameter_count}
use Rattle.scope_resolver.specs.declared.body_kind.BodyKind.{BodyKind}
use Rattle.scope_resolver.specs.declared.body_kind.BodyKind.TheVariants as kind
use Rattle.scope_resolver.specs.Layout.{count_of, Slots, Scopes, has_parameters, parameter_slots, named_slots, block_slot, slots_by, slots_of, seen_around, scopes_in}
use Rattle.code_outline.specs.declared.maker.Purpose.{Purpose}
use Rattle.code_outline.specs.Makers.{use_in}
use Rattle.gen_parts.specs.declared.line.Line.TheVariants as line
use Rattle.gen_parts.specs.declared.emitter.Spot.{Spot}
use Rattle.gen_parts.specs.declared.assembling.Head.{Head}
use Rattle.gen_parts.specs.Pieces.{Piece, makes as makes_piece}
use Rattle.gen_parts.specs.Assembly.{assembled}
use Rattle.gen_forms.specs.Gen.{first_register, body_code}
use Rattle.code_laws.proofs.Serves.{Room, Serves}
use Rattle.code_laws.proofs.Wells.{weight_of, kind_for, Sound, IsMade, none, makes}
use Rattle.code_laws.proofs.Shares.{Fits, many_body}
use Rattle.code_laws.proofs.Lines.{Own, assembled_length}
use Rattle.code_laws.proofs.Operating.{AreShort, Able, Site, own}

-- the code of a body that stands among those scopes
pub record Coded (k : BodyKind) (around : Scopes) (n : ℕ) (f : Body) : Type 0 where
  pub slots : Slots
  pub head : Head
  pub pool : List PoolItem
  pub symbols : List (List ℕ)
  pub piece : Piece
  pub is : body_code k around n f ≡ assembled head pool symbols piece
  pub sound : Sound k slots around head pool symbols piece
  pub made : IsMade (slots ∷ seen_around k around) 0 (n + 1) piece.lines piece.children piece.bodies
  pub count : 1 + length piece.bodies ≡ many_body f

pub makes_well : (m : Room) (s : Spot) (o : Operation) (u : Purpose) (f : Body) (bytes : ℕ) → Serves m o
    → use_in o ≡ Some (s.child, u) → weight_of (line.Does o) ≤ bytes → Coded (kind_for u) m.scopes s.body f
    → Own m s (makes_piece o s.body (body_code (kind_for u) m.scopes s.body f)) bytes (many_body f)
unfolding makes_piece
makes_well m s o u f bytes serve used h c =
    let size : length (body_code (kind_for u) m.scopes s.body f) ≡ many_body f =
    ap length c.is ∙ assembled_length c.head c.pool c.symbols c.piece ∙ c.count in
    record {
      lines = (serve, tt);
      catches = tt;
      light = omega (arith, h);
      count = size;
      made = makes [] o u c.slots c.head c.pool c.symbols c.piece used c.sound
          (c.is ∙ sym (append-nil (assembled c.head c.pool c.symbols c.piece))) c.made none;
    }

-- ## What a body has

pub named-length : (xs : List Local) → length (named_slots xs) ≡ length xs
named-length xs = length-map xs Some

pub block-length : (xs : List Local) → length (block_slot xs) ≡ 1
block-length [] = omega arith
block-length (x ∷ xs) = omega arith

pub slots_length : (k : BodyKind) (p : Parameters) (ls : List Local) (f : CoreForm)
    → length (slots_by k p ls) ≤ 1 + parameter_count (form.body p ls f) + length ls
slots_length k p ls f = at (has_parameters k)
  where
    at : (b : Bool) → length (if b then parameter_slots p ++ named_slots ls else named_slots ls)
        ≤ 1 + parameter_count (form.body p ls f) + length ls
    at true = simp (length-append, named-length, block-length) (omega arith)
    at false = simp named-length (omega arith)

seen_each : (k : BodyKind) (around : Scopes) → AreShort around → AreShort (seen_around k around)
seen_each kind.Main around each n ss e = absurd (cc)
seen_each kind.Method around each n ss e = absurd (cc)
seen_each kind.Block around each n ss e = each n ss e
seen_each kind.Class around each n ss e = absurd (cc)

all_each : (own : Slots) (seen : Scopes) → length own ≤ 65535 → AreShort seen → AreShort (own ∷ seen)
all_each own seen h each zero ss e =
    omega (arith, h, ap (λ (o : Option Slots). count_of o) e)
all_each own seen h each (suc n) ss e = each n ss e

module _ (k : BodyKind) (around : Scopes) (p : Parameters) (ls : List Local) (f : CoreForm)
    (fits : Fits (form.body p ls f)) (each : AreShort around) where
  abbrev b : Body
  b = form.body p ls f

  abbrev pub tallied : Tally
  tallied = tally b

  abbrev pub first : ℕ
  first = first_register k b tallied

  abbrev pub registers : ℕ
  registers = first + width f

  few_slots : length (slots_of k b) ≤ 1 + parameter_count b + length ls
  few_slots = slots_length k p ls f

  pub able : Able (scopes_in k b around) tallied registers
  able =
      let limits = fits.0 in
      record {
        few = omega (arith, few_slots, limits.registers);
        kind = omega (arith, limits.parameters);
        locals = omega arith;
        hidden = omega arith;
        symbols = limits.symbols;
        pool = omega (arith, limits.pool);
        each = all_each (slots_of k b) (seen_around k around) (omega (arith, few_slots, limits.registers))
            (seen_each k around each);
      }

  abbrev pub site : Site
  site = record {
    kind = k;
    scopes = scopes_in k b around;
    tally = tallied;
    registers = registers;
    able = able;
  }
