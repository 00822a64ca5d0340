-- What a core method checks: each refusal is right where the causes are, and so is what comes then.
use Rattle.std.proofs.Common.{ℕ, zero, suc, List, [], ◌∷◌, length, get_or, Bool, true, false, if◌then◌else◌}
use Rattle.std.specs.Prelude.{Option, Some, None, nat_le, ◌&&◌}
use Rattle.rb_value.specs.declared.value.Value.{Value}
use Rattle.rb_value.specs.declared.value.ObjId.{ObjId}
use Rattle.rb_value.specs.declared.core_class.CoreClass.{CoreClass}
use Rattle.rb_value.specs.Value.{truth}
use Rattle.def_core.specs.declared.cause.Cause.{Cause}
use Rattle.def_core.specs.declared.cause.Cause.TheVariants as cause
use Rattle.def_core.specs.Store.{Store, core}
use Rattle.def_core.specs.Classes.{plain_class_of}
use Rattle.def_core.specs.Sound.{Census, census, Sound, Proc, Is, IsValue, OptionIs, AllAre}
use Rattle.rb_raise.specs.Causes.{SoundCause}
use Rattle.core_rows.proofs.Checked.{core_is, plain_is}
use Rattle.def_calls.specs.Checks.{at_most, counted, with_block, wanted}

pub truth_is : (k : Census) (c : Bool) → IsValue k (truth c)
truth_is k true = tt
truth_is k false = tt

-- an argument, or another value where it isn't given
pub argument_or : (k : Census) (vs : List Value) (n : ℕ) (d : Value) → AllAre (IsValue k) vs → IsValue k d
    → IsValue k (get_or vs n d)
argument_or k [] n d all h = h
argument_or k (v ∷ vs) zero d all h = all.0
argument_or k (v ∷ vs) (suc n) d all h = argument_or k vs n d all.1 h

-- whatever is there
pub anything : {A : Type 0} (o : Option A) → OptionIs (λ _. Unit {0}) o
anything None = tt
anything (Some x) = tt

module _ (st : Store) (sound : Sound st) {B : Type 0} (refuse : Cause → B) (R : B → Type 0)
    (refused : (c : Cause) → SoundCause (census st) c → R (refuse c)) where
  pub counted_is : (least : ℕ) (most : Option ℕ) (args : List Value) (further : B) → R further
      → R (counted refuse least most args further)
  counted_is least most args further h = by (nat_le least (length args) && at_most most (length args))
    where
      by : (c : Bool) → R (if c then further else refuse (cause.WrongCount (length args) least most))
      by true = h
      by false = refused (cause.WrongCount (length args) least most) tt

  pub block_is : (block : Option ObjId) (further : ObjId → B) → OptionIs (Is (census st) Proc) block
      → ((p : ObjId) → Is (census st) Proc p → R (further p)) → R (with_block refuse block further)
  block_is None further is h = refused cause.NoBlockGiven tt
  block_is (Some p) further is h = h p is

  pub wanted_is : {A : Type 0} (P : A → Type 0) (c : CoreClass) (v : Value) (o : Option A) (further : A → B)
      → IsValue (census st) v → OptionIs P o → ((x : A) → P x → R (further x))
      → R (wanted refuse st.objects c v o further)
  wanted_is P c v None further is found h = refused (cause.Expected (core c) (plain_class_of st.objects v))
      (core_is st sound c, plain_is st sound v is)
  wanted_is P c v (Some x) further is found h = h x found
