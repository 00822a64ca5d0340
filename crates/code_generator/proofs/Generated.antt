-- The generated code stands where it is placed.
use Rattle.std.proofs.Common.{◌≡◌, ℕ, ◌+◌, ◌<◌, ◌≤◌, List, [], ◌∷◌, ◌++◌, refl, ◌∙◌, subst, arith, true, get_or}
use Rattle.std.specs.Prelude.{codes}
use Rattle.path_core.specs.Form.{Name, Action, Form, strict, local, set_local, seq, cond, while_form, Forms, none, more}
use Rattle.code_generator.specs.Limits.{arity, count}
use Rattle.rite_code.specs.Code.{Program}
use Rattle.rite_code.specs.declared.operation.Operation.{Operation}
use Rattle.rite_code.specs.declared.operation.Operation.TheVariants.{Move}
use Rattle.path_turns.specs.State.{body_at}
use Rattle.code_generator.specs.Gen.{distance, action_size, before_operands, register_of, is_puts, len, len_all, len_rest, gen, gen_operands, gen_all, gen_rest, width, operands_width, all_width}
use Rattle.code_generator.proofs.Stands.{Around, Ins, Stands, StandOperands, StandAll, StandRest}
use Rattle.code_generator.proofs.Jumps.{distance_leads}
use Rattle.code_generator.proofs.Pieces.{HasAt, front, back, gen_len}

-- names have registers among the locals, actions have their operands, and puts is a symbol where it is called
abbrev mutual
  pub Fine : Program → ℕ → List Name → Form → Type 0
  Fine p b ns (strict a es) = (count es ≡ arity a)
      × (is_puts a ≡ true → get_or (body_at p b).symbols 0 [] ≡ codes "puts") × AllFine p b ns es
  Fine p b ns (local x) = register_of ns x < (body_at p b).locals
  Fine p b ns (set_local x e) = (register_of ns x < (body_at p b).locals) × Fine p b ns e
  Fine p b ns (seq es) = AllFine p b ns es
  Fine p b ns (cond t e f) = Fine p b ns t × Fine p b ns e × Fine p b ns f
  Fine p b ns (while_form t e) = Fine p b ns t × Fine p b ns e

  pub AllFine : Program → ℕ → List Name → Forms → Type 0
  AllFine p b ns none = Unit {0}
  AllFine p b ns (more e es) = Fine p b ns e × AllFine p b ns es

module _ (p : Program) (b : ℕ) (ns : List Name) where
  abbrev h : Around
  h = record { names = ns }

  -- one part, and an instruction after it
  one_part : (e : Form) (r at : ℕ) (i : Operation) → HasAt p b at (gen ns e r at ++ i ∷ []) → Ins p b (at + len e) i
  one_part e r at i code = record { here = (back p b at (len e) (gen ns e r at) (i ∷ []) (gen_len ns e r at) code).0 }

  mutual
    pub gen_stands : (e : Form) (r at : ℕ) → Fine p b ns e → r + width e ≤ (body_at p b).registers
        → (body_at p b).locals ≤ r → HasAt p b at (gen ns e r at) → Stands p b h e r at (at + len e)
    gen_stands (strict a es) r at fine wide above code =
        stands_operands a es r (before_operands a) at fine.2 (omega (arith, fine.0)) fine.1 (omega (arith, wide))
        (omega (arith, wide)) above code
    gen_stands (local x) r at fine wide above code =
        record {
          move = record { here = code.0 };
          is_local = fine;
          room =
              record { within = omega (arith, wide); above = above };
          ends = refl;
        }
    gen_stands (set_local x e) r at fine wide above code = record {
      mid = at + len e;
      assigned = gen_stands e r at fine.1 wide above (front p b at (gen ns e r at) _ code);
      move = one_part e r at (Move (register_of ns x) r) code;
      is_local = fine.0;
      ends = omega arith;
    }
    gen_stands (seq es) r at fine wide above code = stands_all es r at fine wide above code
    gen_stands (cond q e f) r at fine wide above code =
        let T = at + len q in let A = T + 4 in let M = A + len e in let B = M + 3 in
        let end = at + (len q + 4 + len e + 3 + len f) in
        let behind = back p b at (len q) (gen ns q r at) _ (gen_len ns q r at) code in
        let tail = back p b A (len e) (gen ns e r A) _ (gen_len ns e r A) behind.1 in
        let to : B + len f ≡ end = omega arith in
        record {
          tested = T;
          test = gen_stands q r at fine.0 (omega (arith, wide)) above (front p b at (gen ns q r at) _ code);
          d = distance A B;
          skip = record { here = behind.0 };
          mid = M;
          first = gen_stands e r A fine.1 (omega (arith, wide)) above (front p b A (gen ns e r A) _ behind.1);
          d' = distance B (B + len f);
          jump = record { here = tail.0 };
          aim = distance_leads A B;
          second = subst (Stands p b h f r B) to (gen_stands f r B fine.2 (omega (arith, wide)) above tail.1);
          aim' = distance_leads B (B + len f) ∙ to;
        }
    gen_stands (while_form q e) r at fine wide above code =
        let T = at + len q in let A = T + 4 in let M = A + len e in let U = M + 3 in
        let behind = back p b at (len q) (gen ns q r at) _ (gen_len ns q r at) code in
        let tail = back p b A (len e) (gen ns e r A) _ (gen_len ns e r A) behind.1 in
        record {
          tested = T;
          mid = M;
          test = gen_stands q r at fine.0 (omega (arith, wide)) above (front p b at (gen ns q r at) _ code);
          d = distance A U;
          skip = record { here = behind.0 };
          body = gen_stands e r A fine.1 (omega (arith, wide)) above (front p b A (gen ns e r A) _ behind.1);
          d' = distance U at;
          jump = record { here = tail.0 };
          aim = distance_leads A U;
          back = distance_leads U at;
          load = record { here = tail.1.0 };
          room = record { within = omega (arith, wide); above = above };
          ends = omega arith;
        }

    stands_operands : (a : Action) (es : Forms) (r n at : ℕ) → AllFine p b ns es
        → n + count es ≡ before_operands a + arity a
        → (is_puts a ≡ true → get_or (body_at p b).symbols 0 [] ≡ codes "puts") → r < (body_at p b).registers
        → r + operands_width es n ≤ (body_at p b).registers → (body_at p b).locals ≤ r
        → HasAt p b at (gen_operands ns a es r n at)
        → StandOperands p b h a es r n at (at + (len_rest es + action_size a))
    stands_operands a none r n at fine all named room wide above code =
        record {
          act = record { here = code.0 };
          all = omega (arith, all);
          named = named;
          room =
              record { within = room; above = above };
          ends = omega arith;
        }
    stands_operands a (more e es) r n at fine all named room wide above code =
        let M = at + len e in
        let to : M + (len_rest es + action_size a) ≡ at + (len e + len_rest es + action_size a) = omega arith in
        record {
          mid = M;
          first = gen_stands e (r + n) at fine.0 (omega (arith, wide)) (omega (arith, above))
              (front p b at (gen ns e (r + n) at) _ code);
          others = subst (StandOperands p b h a es r (n + 1) M) to
              (stands_operands a es r (n + 1) M fine.1 (omega (arith, all)) named room (omega (arith, wide)) above
              (back p b at (len e) (gen ns e (r + n) at) _ (gen_len ns e (r + n) at) code));
        }

    stands_all : (es : Forms) (r at : ℕ) → AllFine p b ns es → r + all_width es ≤ (body_at p b).registers
        → (body_at p b).locals ≤ r → HasAt p b at (gen_all ns es r at) → StandAll p b h es r at (at + len_all es)
    stands_all none r at fine wide above code =
        record {
          load = record { here = code.0 };
          room = record { within = omega (arith, wide); above = above };
          ends =
              refl;
        }
    stands_all (more e es) r at fine wide above code =
        let M = at + len e in
        let to : M + len_rest es ≡ at + (len e + len_rest es) = omega arith in
        record {
          mid = M;
          first = gen_stands e r at fine.0 (omega (arith, wide)) above (front p b at (gen ns e r at) _ code);
          others = subst (StandRest p b h es r M) to
              (stands_rest es r M fine.1 (omega (arith, wide)) above
              (back p b at (len e) (gen ns e r at) _ (gen_len ns e r at) code));
        }

    stands_rest : (es : Forms) (r at : ℕ) → AllFine p b ns es → r + all_width es ≤ (body_at p b).registers
        → (body_at p b).locals ≤ r → HasAt p b at (gen_rest ns es r at) → StandRest p b h es r at (at + len_rest es)
    stands_rest none r at fine wide above code = omega arith
    stands_rest (more e es) r at fine wide above code =
        let M = at + len e in
        let to : M + len_rest es ≡ at + (len e + len_rest es) = omega arith in
        record {
          mid = M;
          first = gen_stands e r at fine.0 (omega (arith, wide)) above (front p b at (gen ns e r at) _ code);
          others = subst (StandRest p b h es r M) to
              (stands_rest es r M fine.1 (omega (arith, wide)) above
              (back p b at (len e) (gen ns e r at) _ (gen_len ns e r at) code));
        }
