-- What a frame that runs is about to do, and the value that it has, are those of a form, or of the block of a call whose
-- arguments stand in an Array.
use Rattle.std.proofs.Common.{◌≡◌, inl, inr, ℕ, List, [], ◌∷◌, refl}
use Rattle.rb_value.specs.declared.value.Value.{Value}
use Rattle.rite_code.specs.Code.{Program}
use Rattle.ir_core.specs.CoreForm.{CoreForm}
use Rattle.def_calls.specs.Calls.{Sending}
use Rattle.def_eval.specs.Source.{Source}
use Rattle.def_eval.specs.Configuration as source
use Rattle.def_eval.specs.Configuration.{Part, operands, receiver, items, block, elements, hash_key, hash_value, pieces, rest, test, chosen, and_then, or_else, loop_test, loop_body, rescued, clause_class, clause_target, clause_body, ensured, Item, part, activation, iteration, ensuring}
use Rattle.def_machine.specs.State as machine
use Rattle.def_machine.specs.State.{Level}
use Rattle.step_laws.specs.Relation.{DoingIn, Performing, HandsOn, GivenIn, GivenBehind, HandsBlock}

pub doing_in : (s : Source) (p : Program) (j : ℕ) (e : CoreForm) (ks : List Item) (m : source.Memory) (ls : List Level)
    (k : machine.Memory) → DoingIn s p j e ks m ls k → Performing s p j e ks m ls k
doing_in s p j e [] m ls k d = d
doing_in s p j e (part (operands i a vs es) ∷ ks) m ls k d = d
doing_in s p j e (part (receiver i x is b) ∷ ks) m ls k d = d
doing_in s p j e (part (items i q recv vs is b) ∷ ks) m ls k d = d
doing_in s p j e (part (block q recv vs) ∷ ks) m ls k d = inl d
doing_in s p j e (part (elements i q o t is) ∷ ks) m ls k d = d
doing_in s p j e (part (hash_key i o f ps) ∷ ks) m ls k d = d
doing_in s p j e (part (hash_value i o u ps) ∷ ks) m ls k d = d
doing_in s p j e (part (pieces i o es) ∷ ks) m ls k d = d
doing_in s p j e (part (rest i es) ∷ ks) m ls k d = d
doing_in s p j e (part (test i b bs o) ∷ ks) m ls k d = d
doing_in s p j e (part chosen ∷ ks) m ls k d = d
doing_in s p j e (part (and_then i f) ∷ ks) m ls k d = d
doing_in s p j e (part (or_else i f) ∷ ks) m ls k d = d
doing_in s p j e (part (loop_test i t b) ∷ ks) m ls k d = d
doing_in s p j e (part (loop_body i t b) ∷ ks) m ls k d = d
doing_in s p j e (part (rescued i b cs o) ∷ ks) m ls k d = d
doing_in s p j e (part (clause_class i x es t b cs q) ∷ ks) m ls k d = d
doing_in s p j e (part (clause_target i x b q) ∷ ks) m ls k d = d
doing_in s p j e (part (clause_body q) ∷ ks) m ls k d = d
doing_in s p j e (part (ensured i f) ∷ ks) m ls k d = d
doing_in s p j e (activation a q ∷ ks) m ls k d = d
doing_in s p j e (iteration a it q ∷ ks) m ls k d = d
doing_in s p j e (ensuring o ∷ ks) m ls k d = d

pub data DoesOne (s : Source) (p : Program) (j : ℕ) (e : CoreForm) (ks : List Item) (m : source.Memory) (ls : List Level)
    (k : machine.Memory) : Type 0 where
  does_form : DoingIn s p j e ks m ls k → DoesOne s p j e ks m ls k
  does_block : (q : Sending) (recv : Value) (vs : List Value) (js : List Item) → ks ≡ part (block q recv vs) ∷ js
      → HandsOn s p j e q recv vs js m ls k → DoesOne s p j e ks m ls k

pub does_one : (s : Source) (p : Program) (j : ℕ) (e : CoreForm) (ks : List Item) (m : source.Memory) (ls : List Level)
    (k : machine.Memory) → Performing s p j e ks m ls k → DoesOne s p j e ks m ls k
does_one s p j e [] m ls k d = does_form d
does_one s p j e (part (operands i a vs es) ∷ ks) m ls k d = does_form d
does_one s p j e (part (receiver i x is b) ∷ ks) m ls k d = does_form d
does_one s p j e (part (items i q recv vs is b) ∷ ks) m ls k d = does_form d
does_one s p j e (part (block q recv vs) ∷ ks) m ls k (inl d) = does_form d
does_one s p j e (part (block q recv vs) ∷ ks) m ls k (inr d) = does_block q recv vs ks refl d
does_one s p j e (part (elements i q o t is) ∷ ks) m ls k d = does_form d
does_one s p j e (part (hash_key i o f ps) ∷ ks) m ls k d = does_form d
does_one s p j e (part (hash_value i o u ps) ∷ ks) m ls k d = does_form d
does_one s p j e (part (pieces i o es) ∷ ks) m ls k d = does_form d
does_one s p j e (part (rest i es) ∷ ks) m ls k d = does_form d
does_one s p j e (part (test i b bs o) ∷ ks) m ls k d = does_form d
does_one s p j e (part chosen ∷ ks) m ls k d = does_form d
does_one s p j e (part (and_then i f) ∷ ks) m ls k d = does_form d
does_one s p j e (part (or_else i f) ∷ ks) m ls k d = does_form d
does_one s p j e (part (loop_test i t b) ∷ ks) m ls k d = does_form d
does_one s p j e (part (loop_body i t b) ∷ ks) m ls k d = does_form d
does_one s p j e (part (rescued i b cs o) ∷ ks) m ls k d = does_form d
does_one s p j e (part (clause_class i x es t b cs q) ∷ ks) m ls k d = does_form d
does_one s p j e (part (clause_target i x b q) ∷ ks) m ls k d = does_form d
does_one s p j e (part (clause_body q) ∷ ks) m ls k d = does_form d
does_one s p j e (part (ensured i f) ∷ ks) m ls k d = does_form d
does_one s p j e (activation a q ∷ ks) m ls k d = does_form d
does_one s p j e (iteration a it q ∷ ks) m ls k d = does_form d
does_one s p j e (ensuring o ∷ ks) m ls k d = does_form d

pub given_in : (s : Source) (p : Program) (v : Value) (q : Part) (ks : List Item) (m : source.Memory) (ls : List Level)
    (k : machine.Memory) → GivenIn s p v (part q ∷ ks) m ls k → GivenBehind s p v q ks m ls k
given_in s p v (operands i a us es) ks m ls k d = d
given_in s p v (receiver i x is b) ks m ls k d = d
given_in s p v (items i f recv us is b) ks m ls k d = d
given_in s p v (block f recv us) ks m ls k d = inl d
given_in s p v (elements i g o t is) ks m ls k d = d
given_in s p v (hash_key i o e ps) ks m ls k d = d
given_in s p v (hash_value i o u ps) ks m ls k d = d
given_in s p v (pieces i o es) ks m ls k d = d
given_in s p v (rest i es) ks m ls k d = d
given_in s p v (test i b bs o) ks m ls k d = d
given_in s p v chosen ks m ls k d = d
given_in s p v (and_then i e) ks m ls k d = d
given_in s p v (or_else i e) ks m ls k d = d
given_in s p v (loop_test i t b) ks m ls k d = d
given_in s p v (loop_body i t b) ks m ls k d = d
given_in s p v (rescued i b cs o) ks m ls k d = d
given_in s p v (clause_class i x es t b cs r) ks m ls k d = d
given_in s p v (clause_target i x b r) ks m ls k d = d
given_in s p v (clause_body r) ks m ls k d = d
given_in s p v (ensured i e) ks m ls k d = d

pub data GivesOne (s : Source) (p : Program) (v : Value) (q : Part) (ks : List Item) (m : source.Memory) (ls : List Level)
    (k : machine.Memory) : Type 0 where
  gives_form : GivenIn s p v (part q ∷ ks) m ls k → GivesOne s p v q ks m ls k
  gives_block : (f : Sending) (recv : Value) (vs : List Value) → q ≡ block f recv vs → HandsBlock s p v f recv vs ks m ls k
      → GivesOne s p v q ks m ls k

pub gives_one : (s : Source) (p : Program) (v : Value) (q : Part) (ks : List Item) (m : source.Memory) (ls : List Level)
    (k : machine.Memory) → GivenBehind s p v q ks m ls k → GivesOne s p v q ks m ls k
gives_one s p v (operands i a us es) ks m ls k d = gives_form d
gives_one s p v (receiver i x is b) ks m ls k d = gives_form d
gives_one s p v (items i f recv us is b) ks m ls k d = gives_form d
gives_one s p v (block f recv us) ks m ls k (inl d) = gives_form d
gives_one s p v (block f recv us) ks m ls k (inr d) = gives_block f recv us refl d
gives_one s p v (elements i g o t is) ks m ls k d = gives_form d
gives_one s p v (hash_key i o e ps) ks m ls k d = gives_form d
gives_one s p v (hash_value i o u ps) ks m ls k d = gives_form d
gives_one s p v (pieces i o es) ks m ls k d = gives_form d
gives_one s p v (rest i es) ks m ls k d = gives_form d
gives_one s p v (test i b bs o) ks m ls k d = gives_form d
gives_one s p v chosen ks m ls k d = gives_form d
gives_one s p v (and_then i e) ks m ls k d = gives_form d
gives_one s p v (or_else i e) ks m ls k d = gives_form d
gives_one s p v (loop_test i t b) ks m ls k d = gives_form d
gives_one s p v (loop_body i t b) ks m ls k d = gives_form d
gives_one s p v (rescued i b cs o) ks m ls k d = gives_form d
gives_one s p v (clause_class i x es t b cs r) ks m ls k d = gives_form d
gives_one s p v (clause_target i x b r) ks m ls k d = gives_form d
gives_one s p v (clause_body r) ks m ls k d = gives_form d
gives_one s p v (ensured i e) ks m ls k d = gives_form d
