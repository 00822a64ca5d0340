-- What an evaluation keeps that calls no bodies of the source but those with code.
use Rattle.std.specs.Prelude.{◌≡◌, ◌⊎◌, ℕ, List, [], ◌∷◌, ◌++◌, length, true, Option, Some, None, is_some}
use Rattle.rb_value.specs.Object.{Object}
use Rattle.rb_value.specs.declared.value.Value.{Value}
use Rattle.rb_value.specs.declared.value.Value.TheVariants.{Obj}
use Rattle.rb_value.specs.declared.value.ObjId.{ObjId}
use Rattle.rite_code.specs.Code.{Program}
use Rattle.rb_value.specs.declared.core_class.CoreClass.TheVariants as class
use Rattle.def_core.specs.Store.{core}
use Rattle.def_core.specs.Changes.{intern}
use Rattle.ir_core.specs.CoreForm.{Name}
use Rattle.def_calls.specs.World.{World, Activation, activation_at, class_around}
use Rattle.def_calls.specs.Definitions.{space_in}
use Rattle.def_calls.specs.Calls.{BlockArgument, no_block, block_of, not_a_block, block_argument, close}
use Rattle.def_calls.specs.Plans as plans
use Rattle.def_calls.specs.Views.{callable_of, kind_in, an_array, a_hash, a_string}
use Rattle.def_eval.specs.Source.{Source}
use Rattle.def_eval.specs.Configuration.{Part, operands, receiver, items, block, elements, hash_key, hash_value, pieces, rest, test, chosen, and_then, or_else, loop_test, loop_body, rescued, clause_class, clause_target, clause_body, ensured, Item, part, activation, iteration, ensuring, Focus, perform, give, travel, Memory, Config, Run, Halt}
use Rattle.def_eval.specs.Scopes.{running}
use Rattle.def_eval.specs.Forms.{packed}
use Rattle.def_eval.specs.Giving.{with_element}
use Rattle.def_eval.specs.Transition.{go, go_times}
use Rattle.eval_laws.specs.Procs.{HasProc, literal}
use Rattle.step_laws.specs.Site.{IsThere, number}
use Rattle.step_laws.specs.Bodies.{CallsBodies}
use Rattle.step_laws.specs.Spaces.{Opening}

-- the object that a literal gathers into is still one of its kind
abbrev pub IsAbout : Part → List Object → Type 0
IsAbout (operands n a vs es) objects = Unit {0}
IsAbout (receiver n x is b) objects = Unit {0}
IsAbout (items n k recv vs is b) objects = Unit {0}
IsAbout (block k recv vs) objects = Unit {0}
IsAbout (elements n g id s is) objects = an_array objects (Obj id) ≡ Some id
IsAbout (hash_key n id e ps) objects = Unit {0}
IsAbout (hash_value n id k ps) objects = a_hash objects (Obj id) ≡ Some id
IsAbout (pieces n id es) objects = a_string objects (Obj id) ≡ Some id
IsAbout (rest n es) objects = Unit {0}
IsAbout (test n b bs o) objects = Unit {0}
IsAbout chosen objects = Unit {0}
IsAbout (and_then n e) objects = Unit {0}
IsAbout (or_else n e) objects = Unit {0}
IsAbout (loop_test n t b) objects = Unit {0}
IsAbout (loop_body n t b) objects = Unit {0}
IsAbout (rescued n b cs o) objects = Unit {0}
IsAbout (clause_class n e es t b cs r) objects = Unit {0}
IsAbout (clause_target n e b r) objects = Unit {0}
IsAbout (clause_body r) objects = Unit {0}
IsAbout (ensured n e) objects = Unit {0}

-- the class around the text, in which methods are defined, is one
abbrev pub IsWithin : World → Activation → Type 0
IsWithin w a = space_in w.store.objects (Obj (class_around w a.classes)) ≡ Some (class_around w a.classes)

-- Object is one, in which `::X` is sought
abbrev pub HasObject : World → Type 0
HasObject w = space_in w.store.objects (Obj (core class.Object)) ≡ Some (core class.Object)

-- and so it is where a value goes to it
abbrev pub IsAboutNext : Focus → List Item → Memory → Type 0
IsAboutNext (perform n e) ks m = IsWithin m.world (activation_at m.world m.place.activation) × HasObject m.world
IsAboutNext (give v) [] m = Unit {0}
IsAboutNext (give v) (part k ∷ ks) m = IsAbout k m.world.store.objects
IsAboutNext (give v) (activation a place ∷ ks) m = Unit {0}
IsAboutNext (give v) (iteration a it place ∷ ks) m = Unit {0}
IsAboutNext (give v) (ensuring o ∷ ks) m = Unit {0}
IsAboutNext (travel x) ks m = Unit {0}

-- an exit leaves an iteration as it leaves any core method
abbrev pub Leaves : Focus → List Item → Memory → Type 0
Leaves (perform n e) ks m = Unit {0}
Leaves (give v) ks m = Unit {0}
Leaves (travel x) [] m = Unit {0}
Leaves (travel x) (part k ∷ ks) m = Unit {0}
Leaves (travel x) (activation a place ∷ ks) m = Unit {0}
Leaves (travel x) (iteration a it place ∷ ks) m = close m.world a ≡ m.world
Leaves (travel x) (ensuring o ∷ ks) m = Unit {0}

-- nothing was written where an exception was raised, or where a value is given to nothing
abbrev pub QuietFocus : Focus → List Item → Memory → Memory → Type 0
QuietFocus (perform n e) ks m l = Unit {0}
QuietFocus (give v) [] m l = l.world.out ≡ m.world.out
QuietFocus (give v) (k ∷ ks) m l = Unit {0}
QuietFocus (travel x) ks m l = l.world.out ≡ m.world.out

-- activations were added, and of Procs with bodies that one alone, by its body and its scopes
pub record GrowsBy (made : Option (ℕ × List ℕ)) (w u : World) : Type 0 where
  pub more : List Activation
  pub is : u.activations ≡ w.activations ++ more
  pub procs : (b : ℕ) (ns : List ℕ) → HasProc u.store.objects b ns
      → HasProc w.store.objects b ns ⊎ (made ≡ Some (b, ns))

-- and none
abbrev pub Grows : World → World → Type 0
Grows w u = GrowsBy None w u

abbrev pub QuietBy : Option (ℕ × List ℕ) → Memory → Config → Type 0
QuietBy made m (Run f ks l) = QuietFocus f ks m l × GrowsBy made m.world l.world
QuietBy made m (Halt e) = Unit {0}

abbrev pub Quiet : Memory → Config → Type 0
Quiet m c = QuietBy None m c

-- no body was entered: no scope was opened since
abbrev pub Still : Memory → Config → Type 0
Still m (Run f ks l) = length l.scopes ≡ length m.scopes
Still m (Halt e) = Unit {0}

-- the objects where a block argument is taken: the Proc of a Symbol is new
abbrev pub objects_with : World → BlockArgument → List Object
objects_with w no_block = w.store.objects
objects_with w (block_of p u) = u.store.objects
objects_with w not_a_block = w.store.objects

abbrev pub objects_at : Part → Value → Memory → List Object
objects_at (operands n a vs es) v m = m.world.store.objects
objects_at (receiver n x is b) v m = m.world.store.objects
objects_at (items n k recv vs is b) v m = (packed m (vs ++ v ∷ [])).world.store.objects
objects_at (block k recv vs) v m = objects_with m.world (block_argument m.world v)
objects_at (elements n g id s is) v m = (with_element m id s v).world.store.objects
objects_at (hash_key n id e ps) v m = m.world.store.objects
objects_at (hash_value n id k ps) v m = m.world.store.objects
objects_at (pieces n id es) v m = m.world.store.objects
objects_at (rest n es) v m = m.world.store.objects
objects_at (test n b bs o) v m = m.world.store.objects
objects_at chosen v m = m.world.store.objects
objects_at (and_then n e) v m = m.world.store.objects
objects_at (or_else n e) v m = m.world.store.objects
objects_at (loop_test n t b) v m = m.world.store.objects
objects_at (loop_body n t b) v m = m.world.store.objects
objects_at (rescued n b cs o) v m = m.world.store.objects
objects_at (clause_class n e es t b cs r) v m = m.world.store.objects
objects_at (clause_target n e b r) v m = m.world.store.objects
objects_at (clause_body r) v m = m.world.store.objects
objects_at (ensured n e) v m = m.world.store.objects

-- the objects among which a transition finds what it calls: a plan of an iteration, a block argument, or an Array of
-- arguments, may have made some before
abbrev pub objects_for : Focus → List Item → Memory → List Object
objects_for (perform n e) ks m = m.world.store.objects
objects_for (give v) [] m = m.world.store.objects
objects_for (give v) (part k ∷ ks) m = objects_at k v m
objects_for (give v) (activation a place ∷ ks) m = m.world.store.objects
objects_for (give v) (iteration a it place ∷ ks) m = (plans.next it v m.world.store).store.objects
objects_for (give v) (ensuring o ∷ ks) m = m.world.store.objects
objects_for (travel x) ks m = m.world.store.objects

-- a block can be called
abbrev pub IsBlock : List Object → Option ObjId → Type 0
IsBlock objects None = Unit {0}
IsBlock objects (Some p) = is_some (callable_of (kind_in objects (Obj p))) ≡ true

-- where a form or one of its parts goes on
abbrev pub BlockFor : Focus → List Item → Memory → Type 0
BlockFor (perform n e) ks m = IsBlock m.world.store.objects (running m).block
BlockFor (give v) [] m = Unit {0}
BlockFor (give v) (part k ∷ ks) m = IsBlock m.world.store.objects (running m).block
BlockFor (give v) (activation a place ∷ ks) m = Unit {0}
BlockFor (give v) (iteration a it place ∷ ks) m = Unit {0}
BlockFor (give v) (ensuring o ∷ ks) m = Unit {0}
BlockFor (travel x) ks m = Unit {0}

-- A transition keeps the peace: it enters no body, or what it calls are methods whose bodies have code, and the block of
-- what runs can be called.
pub record Peace (s : Source) (p : Program) (f : Focus) (ks : List Item) (m : Memory) : Type 0 where
  pub quiet : QuietBy (literal f m) m (go s (Run f ks m))
  pub calls : Still m (go s (Run f ks m)) ⊎ CallsBodies s p m.world.store.objects (objects_for f ks m)
  pub block : BlockFor f ks m

-- the numbers of the program's names stay
pub record IsSteady (s : Source) (w : World) : Type 0 where
  pub names : (x : Name) → IsThere s x → (intern w.store x).symbol ≡ number s x

abbrev pub IsCalm : Source → Program → Config → Type 0
IsCalm s p (Halt e) = Unit {0}
IsCalm s p (Run f ks m) = IsSteady s m.world × IsAboutNext f ks m × Leaves f ks m × Peace s p f ks m × Opening f ks m

-- so it is all along
abbrev pub StaysCalm : Source → Program → Config → Type 0
StaysCalm s p c = (n : ℕ) → IsCalm s p (go_times n s c)
