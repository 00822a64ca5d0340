-- Single instructions of forms, and what forms say of the bodies in them.
use Rattle.std.proofs.Common.{◌≡◌, ◌<◌, ◌≤◌, ℕ, zero, suc, ◌+◌, max, ℤ, pos, negsuc, List, length, arith, refl, Bool, true, false, ◌&&◌}
use Rattle.std.specs.Prelude.{Some, neg_ℤ}
use Rattle.std.proofs.lemmas.Bool.{lt-ltb, and_from, and_parts}
use Rattle.rite_code.specs.declared.operation.Operation.TheVariants as op
use Rattle.rite_code.specs.Shape.{is_two_bytes, is_short}
use Rattle.ir_core.specs.CoreForm as form
use Rattle.ir_core.specs.CoreForm.{Local, Body, Maybe, Clauses, form_of}
use Rattle.ir_core.specs.Program.{Around, within_block, within_method, within_class, within_program, is_form, is_block, is_method, is_class, is_program, has_defaults, has_no_parameters}
use Rattle.ir_counts.specs.Tables.{kind_of_place}
use Rattle.scope_resolver.specs.declared.body_kind.BodyKind.{BodyKind}
use Rattle.scope_resolver.specs.declared.body_kind.BodyKind.TheVariants as kind
use Rattle.scope_resolver.specs.Layout.{has_parameters}
use Rattle.gen_parts.specs.declared.emitter.Spot.{Spot}
use Rattle.gen_parts.specs.declared.emitter.Held.TheVariants as held
use Rattle.gen_parts.specs.Pieces.{Piece, past, behind, does}
use Rattle.gen_forms.specs.Gen.{text_entry, is_given, has_clauses, range_by, over, own_block}
use Rattle.code_laws.proofs.Serves.{Inside, context}
use Rattle.code_laws.proofs.Shares.{many_maybe, many_clauses}
use Rattle.code_laws.proofs.Serving.{small, two_small, serves, two_symbols_there, symbol_there}
use Rattle.code_laws.proofs.Lines.{Own}
use Rattle.code_laws.proofs.Parts.{over_well}
use Rattle.code_laws.proofs.Operating.{Site, Ready, own as me, pair, text_serves}
use Rattle.code_laws.proofs.Sending.{asked_ready, two_ready}
use Rattle.code_laws.proofs.Scenes.{ready_well}
use Rattle.code_laws.proofs.Strict.{alone_ready, both_well}
use Rattle.code_laws.proofs.Shares.{Listed}

module _ (w : Site) where
  pub nil_ready : (r : ℕ) → r < w.registers → Ready (me w) (op.LoadNil r) 4
  nil_ready r h = alone_ready w (op.LoadNil r) r refl refl refl refl refl refl (omega arith) h

  pub text_loads : (i : Inside) (r : ℕ) (x : List ℕ) → r < w.registers → Listed w.tally.texts (Some x)
      → Ready (me w) (op.String r (text_entry (context (me w) i) x)) 8
  text_loads i r x h l = record { serve = text_serves w r x h l; unused = refl; light = omega arith }

  pub range_ready : (x : Bool) (r : ℕ) → r + 2 ≤ w.registers → Ready (me w) (range_by x r) 4
  range_ready true r h = two_ready w (op.RangeExc r) r refl refl refl refl refl refl (omega arith) h
  range_ready false r h = two_ready w (op.RangeInc r) r refl refl refl refl refl refl (omega arith) h

  pub rescue_ready : (r : ℕ) → r + 3 ≤ w.registers → Ready (me w) (op.Rescue (r + 1) (r + 2)) 6
  rescue_ready r h = record {
    serve = pair w (op.Rescue (r + 1) (r + 2)) (r + 1) (r + 2) refl refl refl refl (omega (arith, h)) (omega (arith, h))
        (omega (arith, h, w.able.few));
    unused = refl;
    light = omega arith;
  }

  pub push_ready : (r : ℕ) → r + 2 ≤ w.registers → Ready (me w) (op.AryPush r 1) 6
  push_ready r h = record {
    serve = pair w (op.AryPush r 1) r 1 refl refl refl refl (omega (arith, h)) (omega (arith, h)) (omega arith);
    unused = refl;
    light = omega arith;
  }

  pub hash_ready : (r : ℕ) → r < w.registers → Ready (me w) (op.Hash r 0) 6
  hash_ready r h = record {
    serve = pair w (op.Hash r 0) r 0 refl refl refl refl (omega (arith, h)) h (omega arith);
    unused = refl;
    light = omega arith;
  }

  pub add_ready : (r : ℕ) → r + 3 ≤ w.registers → Ready (me w) (op.HashAdd r 1) 6
  add_ready r h = record {
    serve = pair w (op.HashAdd r 1) r 1 refl refl refl refl (omega (arith, h)) (omega (arith, h)) (omega arith);
    unused = refl;
    light = omega arith;
  }

  pub alias_ready : (i j : ℕ) → i < length w.tally.symbols → j < length w.tally.symbols
      → Ready (me w) (op.Alias i j) 6
  alias_ready i j h k = record {
    serve = serves (me w) (op.Alias i j) refl refl (omega arith) (two_symbols_there i j (length w.tally.symbols) h k)
        (two_small i j (omega (arith, h, w.able.symbols)) (omega (arith, k, w.able.symbols)));
    unused = refl;
    light = omega arith;
  }

  pub undef_ready : (i : ℕ) → i < length w.tally.symbols → Ready (me w) (op.Undef i) 4
  undef_ready i h = record {
    serve = serves (me w) (op.Undef i) refl refl (omega arith) (symbol_there i (length w.tally.symbols) h)
        (small i (omega (arith, h, w.able.symbols)));
    unused = refl;
    light = omega arith;
  }

  short_place : (z : ℤ) → kind_of_place z ≤ 127 → is_short z ≡ true
  short_place (pos n) h = lt-ltb n 32768 (omega (arith, h))
  short_place (negsuc n) h = lt-ltb n 32768 (omega (arith, h))

  short_negative : (n : ℕ) → n ≤ 127 → is_short (neg_ℤ (pos n)) ≡ true
  short_negative zero h = refl
  short_negative (suc n) h = lt-ltb n 32768 (omega (arith, h))

  pub item_ready : (r : ℕ) (z : ℤ) → r < w.registers → kind_of_place z ≤ w.tally.kind → Ready (me w) (op.ARef r r z) 8
  item_ready r z h k = record {
    serve = serves (me w) (op.ARef r r z) refl refl (omega (arith, h)) refl
        (and_from (is_two_bytes r && is_two_bytes r) (is_short z)
        (two_small r r (omega (arith, h, w.able.few)) (omega (arith, h, w.able.few)))
        (short_place z (omega (arith, k, w.able.kind))));
    unused = refl;
    light = omega arith;
  }

  pub rest_ready : (r n m : ℕ) → r < w.registers → max n m ≤ w.tally.kind → Ready (me w) (op.APost r n (pos m)) 8
  rest_ready r n m h k = record {
    serve = serves (me w) (op.APost r n (pos m)) refl refl (omega (arith, h)) refl
        (and_from (is_two_bytes r && is_two_bytes n) (is_short (pos m))
        (two_small r n (omega (arith, h, w.able.few)) (omega (arith, k, w.able.kind)))
        (lt-ltb m 32768 (omega (arith, k, w.able.kind))));
    unused = refl;
    light = omega arith;
  }

  pub tail_ready : (r n m : ℕ) → r < w.registers → max n m ≤ w.tally.kind
      → Ready (me w) (op.APost r n (neg_ℤ (pos m))) 8
  tail_ready r n m h k = record {
    serve = serves (me w) (op.APost r n (neg_ℤ (pos m))) refl refl (omega (arith, h)) refl
        (and_from (is_two_bytes r && is_two_bytes n) (is_short (neg_ℤ (pos m)))
        (two_small r n (omega (arith, h, w.able.few)) (omega (arith, k, w.able.kind)))
        (short_negative m (omega (arith, k, w.able.kind))));
    unused = refl;
    light = omega arith;
  }

  pub own_block_well : (s : Spot) (r : ℕ) → r < w.registers → Own (me w) s (own_block s r) 20 0
  own_block_well s r h =
      let ask = asked_ready w r 6 0 h (omega arith) (omega arith) refl in
      let p = does (op.Defined r 6 0) in
      let next : Spot → Piece = λ t. does (op.BlkPush r) in
      both_well w s p (over (held.JumpNot r) (past s p) next) 8 (8 + 4) 20 0 0 0
      (ready_well w s (op.Defined r 6 0) 8 ask)
      (over_well (me w) (held.JumpNot r) (past s p) next 4 0 h
      (ready_well w (behind (past s p)) (op.BlkPush r) 4
      (alone_ready w (op.BlkPush r) r refl refl refl refl refl refl (omega arith) h))) (omega arith) refl

-- ## What isn't there

pub not_given : (o : Maybe) → is_given o ≡ false → many_maybe o ≡ 0
not_given form.absent e = refl
not_given (form.there f) e = absurd (cc)

pub not_handled : (cs : Clauses) → has_clauses cs ≡ false → many_clauses cs ≡ 0
not_handled form.no_clauses e = refl
not_handled (form.clause es t d cs) e = absurd (cc)

-- ## Bodies

abbrev pub optional_of : Body → List Local
optional_of (form.body p ls f) = p.optional

-- the form of a body stands where it may, and a break without a loop only in a block
pub record Formed (k : BodyKind) (b : Body) : Type 0 where
  pub around : Around
  pub loops : around.loops ≡ true → k ≡ kind.Block
  pub formed : is_form around (form_of b) ≡ true
  pub defaults : has_parameters k ≡ true → has_defaults (optional_of b) (form_of b) ≡ true

pub block_formed : (a : Around) (b : Body) → is_block a b ≡ true → Formed kind.Block b
block_formed a (form.body p ls f) h =
    let q = and_parts (has_defaults p.optional f) (is_form (within_block a p ls) f) h in
    record { around = within_block a p ls; loops = λ e. refl; formed = q.1; defaults = λ e. q.0 }

pub method_formed : (b : Body) → is_method b ≡ true → Formed kind.Method b
method_formed (form.body p ls f) h =
    let q = and_parts (has_defaults p.optional f) (is_form (within_method p ls) f) h in
    record { around = within_method p ls; loops = λ e. absurd (cc); formed = q.1; defaults = λ e. q.0 }

pub class_formed : (b : Body) → is_class b ≡ true → Formed kind.Class b
class_formed (form.body p ls f) h =
    let q = and_parts (has_no_parameters p) (is_form (within_class ls) f) h in
    record { around = within_class ls; loops = λ e. absurd (cc); formed = q.1; defaults = λ e. absurd (cc) }

pub program_formed : (b : Body) → is_program b ≡ true → Formed kind.Main b
program_formed (form.body p ls f) h =
    let q = and_parts (has_no_parameters p) (is_form (within_program ls) f) h in
    record { around = within_program ls; loops = λ e. absurd (cc); formed = q.1; defaults = λ e. absurd (cc) }
