-- One turn, by cases on the instruction.
use Rattle.std.proofs.Common.{◌≡◌, ℕ, zero, suc, ◌+◌, pos, List, [], ◌∷◌, true, false, refl, sym, ap, ◌∙◌, subst, arith, inl}
use Rattle.std.specs.Prelude.{Option, Some, None, slice_get, codes}
use Rattle.rb_value.specs.declared.value.Value.TheVariants.{Nil, True, False, Int, Sym, Obj}
use Rattle.rb_value.specs.declared.value.ObjId.{ObjId}
use Rattle.rb_value.specs.declared.exit.Exit.TheVariants.{Return, Break, Jump}
use Rattle.rb_value.specs.Value.{is_true}
use Rattle.def_core.specs.declared.cause.Cause.{Cause}
use Rattle.def_core.specs.declared.cause.Cause.TheVariants as cause
use Rattle.def_core.specs.Sound.{census, Proc, Is, IsValue, OptionIs}
use Rattle.def_core.proofs.Good.{is_good}
use Rattle.rb_raise.specs.Causes.{SoundCause}
use Rattle.rite_code.specs.Code.{Program, IsWhole}
use Rattle.rite_code.specs.Instruction.{Instruction}
use Rattle.rite_code.specs.declared.operation.Operation.{Operation}
use Rattle.rite_code.specs.declared.operation.Operation.TheVariants as op
use Rattle.code_outline.specs.declared.maker.Purpose.TheVariants as purpose
use Rattle.code_verifier.specs.Verified.{IsVerified}
use Rattle.def_calls.specs.World.{fail, global}
use Rattle.def_calls.specs.Calls.{to_proc, to_super, by_name, break_target}
use Rattle.def_calls.specs.Values as values_of
use Rattle.def_machine.specs.State.{Frame, Level, frame, iteration, Memory, State, On, Off, Stuck, body_at}
use Rattle.def_machine.specs.Turn.{fetch, target, reg, row, running, symbol, child, block_of_home, around, place_after, self_name, self_count, self_first, act, act_at, turn, turns}
use Rattle.def_machine.specs.Fits.{IsStart, ActivationFits, RunsWell, Fits}
use Rattle.world_laws.specs.Fine.{Fine}
use Rattle.world_laws.specs.Outcomes.{AnswerIs}
use Rattle.world_laws.proofs.Answers.{fail_raises, fails_with, makes_items}
use Rattle.world_laws.proofs.Classes.{alias_method_is, open_class_is, open_module_is, singleton_class_is, undefine_method_is}
use Rattle.world_laws.proofs.Constants.{get_constant_in_is, get_constant_is, global_is, set_constant_in_is, set_constant_is}
use Rattle.world_laws.proofs.Ending.{is_of_is}
use Rattle.world_laws.proofs.Tables.{make_range_is}
use Rattle.world_laws.proofs.Values.{element_is, instance_variable_is, make_symbol_is, set_instance_variable_is}
use Rattle.world_laws.proofs.Worlds.{keeps_global}
use Rattle.machine_laws.proofs.Answering.{in_world, jumps, sets, afters, onlies}
use Rattle.machine_laws.proofs.Asking.{tells}
use Rattle.machine_laws.proofs.Binding.{skips, enters_body}
use Rattle.machine_laws.proofs.Calling.{self_named, called, called_with_block, self_put, operated}
use Rattle.machine_laws.proofs.Classes.{procs, wants, defines, class_there, class_value, executes}
use Rattle.machine_laws.proofs.Codes.{Facts, read_start, target_starts}
use Rattle.machine_laws.proofs.Iterating.{iteration_fits}
use Rattle.machine_laws.proofs.Keeping.{excepts, leaves_by, raises_if, leaves_to}
use Rattle.machine_laws.proofs.Loading.{moves, loads, classes, reads_out, writes_out, branches, branches_not}
use Rattle.machine_laws.proofs.Names.{named, first_named, second_named}
use Rattle.machine_laws.proofs.Objects.{hashes, rests, texts, pushes_row, pushes_splat, pushes_text, pushes_pairs}
use Rattle.machine_laws.proofs.Reading.{reg_fits, row_fits, running_fits}
use Rattle.machine_laws.proofs.Worlds.{bodies, fine_world}

module _ (p : Program) (whole : IsWhole p)
    (verified : IsVerified p) (f : Frame) (ls : List Level) (m : Memory) (h : RunsWell p (frame f ∷ ls) m)
    (next : ℕ) where
  fine : Fine (bodies p m.lists) m.world
  fine = fine_world p m.lists m.world h.memory.world

  active : ActivationFits m.world (running f m)
  active = running_fits p m f.activation h.memory h.levels.0.activation

  value : (a : ℕ) → IsValue (census m.world.store) (reg f m a)
  value a = reg_fits p m h.memory f a

  block_at_home : (b : Option ObjId) (a : ℕ) → IsStart p f.body next → OptionIs (Is (census m.world.store) Proc) b
      → Fits p (block_of_home p b a next f ls m)
  block_at_home None a start is =
      afters p whole verified (fail m.world cause.NoBlockToYield) a next f ls m h start
      (fails_with (bodies p m.lists) m.world fine cause.NoBlockToYield tt)
  block_at_home (Some q) a start is =
      sets p whole verified a (Obj q) next f ls m h start (is_good m.world.store Proc q is).there

  failing : (c : Cause) → SoundCause (census m.world.store) c → AnswerIs (bodies p m.lists) m.world (fail m.world c)
  failing c sound = fails_with (bodies p m.lists) m.world fine c sound

  acts : (o : Operation) → Facts p f.body f.place o next → place_after (fetch p f.body f.place) f.place ≡ next
      → Fits p (act p o next f ls m)
  acts op.Nop x at = jumps p whole verified next f ls m h (x.follows refl)
  acts (op.Move a b) x at = moves p whole verified f ls m h next a b (x.follows refl)
  acts (op.LoadL a b) x at =
      loads p whole verified f ls m h next (slice_get (body_at p f.body).pool b) a (x.follows refl) x.entry
  acts (op.LoadI a b) x at = sets p whole verified a (Int (pos b)) next f ls m h (x.follows refl) tt
  acts (op.LoadI16 a z) x at = sets p whole verified a (Int z) next f ls m h (x.follows refl) tt
  acts (op.LoadI32 a z) x at = sets p whole verified a (Int z) next f ls m h (x.follows refl) tt
  acts (op.LoadSym a b) x at =
      sets p whole verified a (Sym (symbol p f m b)) next f ls m h (x.follows refl) (named p f ls m h b x.symbols)
  acts (op.LoadNil a) x at = sets p whole verified a Nil next f ls m h (x.follows refl) tt
  acts (op.LoadSelf a) x at = moves p whole verified f ls m h next a 0 (x.follows refl)
  acts (op.LoadT a) x at = sets p whole verified a True next f ls m h (x.follows refl) tt
  acts (op.LoadF a) x at = sets p whole verified a False next f ls m h (x.follows refl) tt
  acts (op.GetGv a b) x at =
      sets p whole verified a (global m.world (symbol p f m b)) next f ls m h (x.follows refl)
      (global_is (bodies p m.lists) m.world fine (symbol p f m b))
  acts (op.SetGv a b) x at =
      let k = keeps_global (bodies p m.lists) m.world fine (symbol p f m b) (reg f m a) (named p f ls m h b x.symbols)
      (value a) in
      jumps p whole verified next f ls _ (in_world p whole verified _ (frame f) ls m h k) (x.follows refl)
  acts (op.GetIv a b) x at =
      sets p whole verified a (values_of.instance_variable m.world (reg f m 0) (symbol p f m b)) next f ls m h
      (x.follows refl) (instance_variable_is (bodies p m.lists) m.world fine (reg f m 0) (symbol p f m b) (value 0))
  acts (op.SetIv a b) x at =
      afters p whole verified _ a next f ls m h (x.follows refl)
      (set_instance_variable_is (bodies p m.lists) m.world fine (reg f m 0) (symbol p f m b) (reg f m a) (value 0)
      (named p f ls m h b x.symbols) (value a))
  acts (op.GetConst a b) x at =
      afters p whole verified _ a next f ls m h (x.follows refl)
      (get_constant_is (bodies p m.lists) m.world fine (running f m).classes (symbol p f m b)
      (named p f ls m h b x.symbols))
  acts (op.SetConst a b) x at =
      afters p whole verified _ a next f ls m h (x.follows refl)
      (set_constant_is (bodies p m.lists) m.world fine (running f m).classes (symbol p f m b) (reg f m a)
      (named p f ls m h b x.symbols) (value a))
  acts (op.GetMCnst a b) x at =
      afters p whole verified _ a next f ls m h (x.follows refl)
      (wants p whole verified f ls m h next (x.follows refl) (codes "GETMCNST") a _ (λ c there.
      get_constant_in_is (bodies p m.lists) m.world fine c (symbol p f m b) there (named p f ls m h b x.symbols)))
  acts (op.SetMCnst a b) x at =
      afters p whole verified _ a next f ls m h (x.follows refl)
      (wants p whole verified f ls m h next (x.follows refl) (codes "SETMCNST") a _ (λ c there.
      set_constant_in_is (bodies p m.lists) m.world fine c (symbol p f m b) (reg f m (a + 1)) there
      (named p f ls m h b x.symbols) (value (a + 1))))
  acts (op.GetUpVar a b d) x at = reads_out p whole verified f ls m h next a b d (x.follows refl)
  acts (op.SetUpVar a b d) x at = writes_out p whole verified f ls m h next a b d (x.follows refl)
  acts (op.Jmp by) x at =
      jumps p whole verified (target next by) f ls m h (target_starts p f.body next by x.jump)
  acts (op.JmpIf a by) x at =
      branches p whole verified f ls m h next (is_true (reg f m a)) (target next by) (x.follows refl)
      (target_starts p f.body next by x.jump)
  acts (op.JmpNot a by) x at =
      branches_not p whole verified f ls m h next (is_true (reg f m a)) (target next by) (x.follows refl)
      (target_starts p f.body next by x.jump)
  acts (op.JmpUw by) x at =
      leaves_by p whole verified f ls m h (Jump f.activation (target next by))
      (refl, target_starts p f.body next by x.jump)
  acts (op.Except a) x at = excepts p whole verified f ls m h a next (x.follows refl)
  acts (op.Rescue a b) x at =
      afters p whole verified _ b next f ls m h (x.follows refl)
      (is_of_is (bodies p m.lists) m.world fine (reg f m a) (reg f m b))
  acts (op.RaiseIf a) x at = raises_if p whole verified f ls m h a next (x.follows refl)
  acts (op.SSend a b n) x at =
      called p whole verified f ls a next (x.follows refl) (omega (arith, x.registers))
      (self_first f m a)
      (self_put p whole verified f ls a next (x.follows refl) (omega (arith, x.registers)) m h)
      (self_name n (symbol p f m b)) (self_count n) None
      (self_named (census m.world.store) n (symbol p f m b) (named p f ls m h b x.symbols)) tt
  acts (op.SSendB a b n) x at =
      called_with_block p whole verified f ls a next (x.follows refl) (omega (arith, x.registers))
      (self_first f m a)
      (self_put p whole verified f ls a next (x.follows refl) (omega (arith, x.registers)) m h)
      (by_name (symbol p f m b)) n (named p f ls m h b x.symbols)
  acts (op.Send a b n) x at =
      called p whole verified f ls a next (x.follows refl) (omega (arith, x.registers)) m h
      (by_name (symbol p f m b)) n None (named p f ls m h b x.symbols) tt
  acts (op.SendB a b n) x at =
      called_with_block p whole verified f ls a next (x.follows refl) (omega (arith, x.registers)) m h
      (by_name (symbol p f m b)) n (named p f ls m h b x.symbols)
  acts (op.Call a n) x at =
      called p whole verified f ls a next (x.follows refl) (omega (arith, x.registers)) m h to_proc n
      None tt tt
  acts (op.Super a n) x at =
      called_with_block p whole verified f ls a next (x.follows refl) (omega (arith, x.registers))
      (self_first f m a)
      (self_put p whole verified f ls a next (x.follows refl) (omega (arith, x.registers)) m h)
      to_super n tt
  acts (op.Enter q) x at =
      enters_body p whole verified f ls next (x.follows refl) q
      (λ n le. skips p f q n next x.enter h.levels.0.place (x.follows refl) at le) m h
  acts (op.BlkPush a) x at = block_at_home (running f m).block a (x.follows refl) active.block
  acts (op.Return a) x at =
      leaves_by p whole verified f ls m h (Return f.activation (reg f m a)) (inl refl, value a)
  acts (op.ReturnBlk a) x at =
      let e = fail_raises m.world cause.UnexpectedReturn in
      leaves_to p whole verified f ls m h (λ t. Return t (reg f m a)) (fail m.world cause.UnexpectedReturn) e.0
      (Some (running f m).home) next (λ t there. (there, value a)) e.1 (failing cause.UnexpectedReturn tt)
  acts (op.Break a) x at =
      let e = fail_raises m.world cause.BreakFromProc in
      leaves_to p whole verified f ls m h (λ t. Break t (reg f m a)) (fail m.world cause.BreakFromProc) e.0
      (break_target m.world f.activation (running f m).runs) next (λ t there. (there, value a)) e.1
      (failing cause.BreakFromProc tt)
  acts (op.Add a) x at =
      operated p whole verified f ls a next (x.follows refl) (omega (arith, x.registers)) m h
      (codes "+") h.memory.names.operators.0
  acts (op.Sub a) x at =
      operated p whole verified f ls a next (x.follows refl) (omega (arith, x.registers)) m h
      (codes "-") h.memory.names.operators.1.0
  acts (op.Mul a) x at =
      operated p whole verified f ls a next (x.follows refl) (omega (arith, x.registers)) m h
      (codes "*") h.memory.names.operators.1.1.0
  acts (op.Div a) x at =
      operated p whole verified f ls a next (x.follows refl) (omega (arith, x.registers)) m h
      (codes "/") h.memory.names.operators.1.1.1.0
  acts (op.Eq a) x at =
      operated p whole verified f ls a next (x.follows refl) (omega (arith, x.registers)) m h
      (codes "==") h.memory.names.operators.1.1.1.1.0
  acts (op.Lt a) x at =
      operated p whole verified f ls a next (x.follows refl) (omega (arith, x.registers)) m h
      (codes "<") h.memory.names.operators.1.1.1.1.1.0
  acts (op.Le a) x at =
      operated p whole verified f ls a next (x.follows refl) (omega (arith, x.registers)) m h
      (codes "<=") h.memory.names.operators.1.1.1.1.1.1.0
  acts (op.Gt a) x at =
      operated p whole verified f ls a next (x.follows refl) (omega (arith, x.registers)) m h
      (codes ">") h.memory.names.operators.1.1.1.1.1.1.1.0
  acts (op.Ge a) x at =
      operated p whole verified f ls a next (x.follows refl) (omega (arith, x.registers)) m h
      (codes ">=") h.memory.names.operators.1.1.1.1.1.1.1.1.0
  acts (op.Array a n) x at =
      afters p whole verified _ a next f ls m h (x.follows refl)
      (makes_items (bodies p m.lists) m.world fine (row f m a n) (row_fits p m h.memory f n a))
  acts (op.AryPush a n) x at = pushes_row p whole verified f ls m h a next (x.follows refl) n
  acts (op.AryCat a) x at = pushes_splat p whole verified f ls m h a next (x.follows refl)
  acts (op.ARef a b k) x at =
      afters p whole verified _ a next f ls m h (x.follows refl)
      (element_is (bodies p m.lists) m.world fine (reg f m b) k (value b))
  acts (op.APost a b n) x at =
      afters p whole verified _ a next f ls m h (x.follows refl)
      (rests p m.lists m.world (reg f m a) b n fine (value a))
  acts (op.Intern a) x at =
      afters p whole verified _ a next f ls m h (x.follows refl)
      (make_symbol_is (bodies p m.lists) m.world fine (reg f m a))
  acts (op.String a b) x at =
      texts p whole verified f ls m h a next (x.follows refl) (slice_get (body_at p f.body).pool b) x.entry
  acts (op.StrCat a) x at = pushes_text p whole verified f ls m h a next (x.follows refl)
  acts (op.Hash a n) x at =
      afters p whole verified _ a next f ls m h (x.follows refl)
      (hashes p m.lists m.world (row f m a (n + n)) fine (row_fits p m h.memory f (n + n) a))
  acts (op.HashAdd a n) x at = pushes_pairs p whole verified f ls m h a next (x.follows refl) n
  acts (op.Lambda a b) x at =
      procs p whole verified f ls m h next (x.follows refl) (child p f b) x.index purpose.Lambda true a
      x.child refl
  acts (op.Block a b) x at =
      procs p whole verified f ls m h next (x.follows refl) (child p f b) x.index purpose.Block false a
      x.child refl
  acts (op.RangeInc a) x at =
      afters p whole verified _ a next f ls m h (x.follows refl)
      (make_range_is (bodies p m.lists) m.world fine (reg f m a) (reg f m (a + 1)) false)
  acts (op.RangeExc a) x at =
      afters p whole verified _ a next f ls m h (x.follows refl)
      (make_range_is (bodies p m.lists) m.world fine (reg f m a) (reg f m (a + 1)) true)
  acts (op.OClass a b) x at = classes p whole verified f ls m h next a b (x.follows refl)
  acts (op.Class a b) x at =
      afters p whole verified _ a next f ls m h (x.follows refl)
      (open_class_is (bodies p m.lists) m.world fine (reg f m a) (symbol p f m b) (reg f m (a + 1)) (value a)
      (named p f ls m h b x.symbols) (value (a + 1)))
  acts (op.Module a b) x at =
      afters p whole verified _ a next f ls m h (x.follows refl)
      (open_module_is (bodies p m.lists) m.world fine (reg f m a) (symbol p f m b) (value a)
      (named p f ls m h b x.symbols))
  acts (op.Exec a b) x at =
      executes p whole verified f ls m h next (x.follows refl) a (child p f b) x.index
      (omega (arith, x.registers)) x.child
  acts (op.Def a b k) x at =
      defines p whole verified f ls m h next (x.follows refl) a (child p f k) x.index (symbol p f m b)
      (named p f ls m h b x.symbols) x.child
  acts (op.Alias a b) x at =
      onlies p whole verified _ next f ls m h (x.follows refl)
      (alias_method_is (bodies p m.lists) m.world fine (around f m) (symbol p f m a) (symbol p f m b)
      (class_there p whole verified f ls m h next (x.follows refl)) (first_named p f ls m h a b x.symbols)
      (second_named p f ls m h a b x.symbols))
  acts (op.Undef a) x at =
      onlies p whole verified _ next f ls m h (x.follows refl)
      (undefine_method_is (bodies p m.lists) m.world fine (around f m) (symbol p f m a)
      (class_there p whole verified f ls m h next (x.follows refl)) (named p f ls m h a x.symbols))
  acts (op.SClass a) x at =
      afters p whole verified _ a next f ls m h (x.follows refl)
      (singleton_class_is (bodies p m.lists) m.world fine (reg f m a) (value a))
  acts (op.TClass a) x at =
      sets p whole verified a (Obj (around f m)) next f ls m h (x.follows refl)
      (class_value p whole verified f ls m h next (x.follows refl))
  acts (op.Defined a b k) x at =
      afters p whole verified _ a next f ls m h (x.follows refl) (tells p a b (symbol p f m k) f m fine)
  acts op.Stop x at = tt

  at_place : (o : Option (Instruction × ℕ)) (s : Instruction) → o ≡ Some (s, next)
      → Facts p f.body f.place s.operation next → fetch p f.body f.place ≡ o → Fits p (act_at p o f ls m)
  at_place o s e x same =
      subst (λ (found : Option (Instruction × ℕ)). Fits p (act_at p found f ls m)) (sym e)
      (acts s.operation x (ap (λ (found : Option (Instruction × ℕ)). place_after found f.place) (same ∙ e)))

module _ (p : Program) (whole : IsWhole p)
    (verified : IsVerified p) where
  pub turned : (s : State) → Fits p s → Fits p (turn p s)
  turned (Off e) h = tt
  turned (Stuck out) h = absurd h
  turned (On [] m) h = absurd h.levels
  turned (On (frame f ∷ ls) m) h =
      let r = read_start p whole verified f.body h.levels.0.body f.place h.levels.0.place in
      at_place p whole verified f ls m h r.standing.next (fetch p f.body f.place)
      r.standing.instruction r.read r.facts refl
  turned (On (iteration a it v ∷ ls) m) h = iteration_fits p whole verified a it v ls m h

  pub turned_often : (n : ℕ) (s : State) → Fits p s → Fits p (turns n p s)
  turned_often zero s h = h
  turned_often (suc n) s h = turned_often n (turn p s) (turned s h)
