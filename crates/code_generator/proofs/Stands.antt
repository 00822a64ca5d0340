-- The code of a form, as a relation: from which byte to which it stands in a body.
use Rattle.std.proofs.Common.{◌≡◌, ◌⊎◌, ℕ, ◌+◌, ◌<◌, ◌≤◌, ℤ, List, [], Some, true, map, length, get_or}
use Rattle.std.specs.Prelude.{codes}
use Rattle.path_core.specs.Form.{Name, Action, Form, strict, local, set_local, seq, cond, while_form, Forms, none, more}
use Rattle.code_generator.specs.Limits.{arity}
use Rattle.rite_code.specs.Code.{Program}
use Rattle.rite_code.specs.declared.operation.Operation.{Operation}
use Rattle.rite_code.specs.declared.operation.Operation.TheVariants.{Move, LoadNil, Jmp, JmpNot}
use Rattle.rite_code.specs.Instruction.{narrow}
use Rattle.rite_code.specs.Shape.{size_of}
use Rattle.path_eval.specs.Configuration.{Part, operands, rest, branch, chosen, loop_test, loop_body, assign}
use Rattle.path_turns.specs.State.{Slot, value, body_at}
use Rattle.path_turns.specs.Turn.{fetch, target}
use Rattle.code_generator.specs.Gen.{action_of, action_size, before_operands, is_puts, register_of}

-- what is known around a form: the names of the locals of its body
pub record Around : Type 0 where
  pub names : List Name

-- an instruction stands at a byte
pub record Ins (p : Program) (b at : ℕ) (o : Operation) : Type 0 where
  pub here : fetch p b at ≡ Some (narrow o, at + size_of o)

-- a register may be written as the value of a form
pub record Room (p : Program) (b r : ℕ) : Type 0 where
  pub within : r < (body_at p b).registers
  pub above : (body_at p b).locals ≤ r

-- a name has a register among the locals
abbrev pub IsLocal : Program → ℕ → Around → Name → Type 0
IsLocal p b h x = register_of h.names x < (body_at p b).locals

abbrev mutual
  pub Stands : Program → ℕ → Around → Form → ℕ → ℕ → ℕ → Type 0
  Stands p b h (strict a es) r at end = StandOperands p b h a es r (before_operands a) at end
  Stands p b h (local x) r at end = record {
    move : Ins p b at (Move r (register_of h.names x));
    is_local : IsLocal p b h x;
    room : Room p b r;
    ends : at + 3 ≡ end;
  }
  Stands p b h (set_local x e) r at end = record {
    mid : ℕ;
    assigned : Stands p b h e r at mid;
    move : Ins p b mid (Move (register_of h.names x) r);
    is_local : IsLocal p b h x;
    ends : mid + 3 ≡ end;
  }
  Stands p b h (seq es) r at end = StandAll p b h es r at end
  Stands p b h (cond t e f) r at end = record {
    tested : ℕ;
    test : Stands p b h t r at tested;
    d : ℤ;
    skip : Ins p b tested (JmpNot r d);
    mid : ℕ;
    first : Stands p b h e r (tested + 4) mid;
    d' : ℤ;
    jump : Ins p b mid (Jmp d');
    aim : target (tested + 4) d ≡ mid + 3;
    second : Stands p b h f r (mid + 3) end;
    aim' : target (mid + 3) d' ≡ end;
  }
  Stands p b h (while_form t e) r at end = record {
    tested : ℕ;
    mid : ℕ;
    test : Stands p b h t r at tested;
    d : ℤ;
    skip : Ins p b tested (JmpNot r d);
    body : Stands p b h e r (tested + 4) mid;
    d' : ℤ;
    jump : Ins p b mid (Jmp d');
    aim : target (tested + 4) d ≡ mid + 3;
    back : target (mid + 3) d' ≡ at;
    load : Ins p b (mid + 3) (LoadNil r);
    room : Room p b r;
    ends : mid + 3 + 2 ≡ end;
  }

  -- the operands that are left, from the register r + n on, and the action
  pub StandOperands : Program → ℕ → Around → Action → Forms → ℕ → ℕ → ℕ → ℕ → Type 0
  StandOperands p b h a none r n at end = record {
    act : Ins p b at (action_of a r);
    all : n ≡ before_operands a + arity a;
    named : is_puts a ≡ true → get_or (body_at p b).symbols 0 [] ≡ codes "puts";
    room : Room p b r;
    ends : at + action_size a ≡ end;
  }
  StandOperands p b h a (more e es) r n at end =
      record { mid : ℕ; first : Stands p b h e (r + n) at mid; others : StandOperands p b h a es r (n + 1) mid end }

  pub StandAll : Program → ℕ → Around → Forms → ℕ → ℕ → ℕ → Type 0
  StandAll p b h none r at end = record { load : Ins p b at (LoadNil r); room : Room p b r; ends : at + 2 ≡ end }
  StandAll p b h (more e es) r at end = record {
    mid : ℕ;
    first : Stands p b h e r at mid;
    others : StandRest p b h es r mid end;
  }

  -- what stands after a first form
  pub StandRest : Program → ℕ → Around → Forms → ℕ → ℕ → ℕ → Type 0
  StandRest p b h none r at end = at ≡ end
  StandRest p b h (more e es) r at end = record {
    mid : ℕ;
    first : Stands p b h e r at mid;
    others : StandRest p b h es r mid end;
  }

-- how many registers a part keeps free, and the values that it keeps after them
abbrev pub spared : Part → ℕ
spared (operands a vs es) = before_operands a
spared (rest es) = 0
spared (branch e f) = 0
spared chosen = 0
spared (loop_test t e) = 0
spared (loop_body t e) = 0
spared (assign x) = 0

abbrev pub kept : Part → List Slot
kept (operands a vs es) = map value vs
kept (rest es) = []
kept (branch e f) = []
kept chosen = []
kept (loop_test t e) = []
kept (loop_body t e) = []
kept (assign x) = []

-- The code after a part, from the byte at which its value is awaited to the end of its form. The form's register is r.
abbrev pub Behind : Program → ℕ → Around → Part → ℕ → ℕ → ℕ → Type 0
Behind p b h (operands a vs es) r at end = StandOperands p b h a es r (before_operands a + (length vs + 1)) at end
Behind p b h (rest es) r at end = StandRest p b h es r at end
Behind p b h (branch e f) r at end = record {
  d : ℤ;
  skip : Ins p b at (JmpNot r d);
  mid : ℕ;
  first : Stands p b h e r (at + 4) mid;
  d' : ℤ;
  jump : Ins p b mid (Jmp d');
  aim : target (at + 4) d ≡ mid + 3;
  second : Stands p b h f r (mid + 3) end;
  aim' : target (mid + 3) d' ≡ end;
}
Behind p b h chosen r at end = (at ≡ end) ⊎ record { d : ℤ; jump : Ins p b at (Jmp d); aim : target (at + 3) d ≡ end }
Behind p b h (loop_test t e) r at end = record {
  start : ℕ;
  loop : Stands p b h (while_form t e) r start end;
  is : loop.tested ≡ at;
}
Behind p b h (loop_body t e) r at end = record {
  start : ℕ;
  loop : Stands p b h (while_form t e) r start end;
  is : loop.mid ≡ at;
}
Behind p b h (assign x) r at end = record {
  move : Ins p b at (Move (register_of h.names x) r);
  is_local : IsLocal p b h x;
  ends : at + 3 ≡ end;
}
