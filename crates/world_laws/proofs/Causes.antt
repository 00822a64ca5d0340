-- A cause of a store is one of each later store.
use Rattle.def_core.specs.declared.cause.Cause.{Cause}
use Rattle.def_core.specs.declared.cause.Cause.TheVariants as cause
use Rattle.def_core.specs.Sound.{census, ClassOrModule, String, Is}
use Rattle.rb_raise.specs.Causes.{SoundCause}
use Rattle.def_calls.specs.World.{World}
use Rattle.world_laws.specs.Fine.{Extends}
use Rattle.world_laws.proofs.Growing.{role_stays, value_stays, symbol_stays, option_stays}

module _ (w v : World) (e : Extends w v) where
  pub cause_stays : (c : Cause) → SoundCause (census w.store) c → SoundCause (census v.store) c
  cause_stays (cause.UndefinedMethod s c) h = (symbol_stays w v e s h.0, role_stays w v e ClassOrModule c h.1)
  cause_stays (cause.PrivateMethod s c) h = (symbol_stays w v e s h.0, role_stays w v e ClassOrModule c h.1)
  cause_stays (cause.ProtectedMethod s c) h = (symbol_stays w v e s h.0, role_stays w v e ClassOrModule c h.1)
  cause_stays (cause.NoSuperMethod s c) h = (symbol_stays w v e s h.0, role_stays w v e ClassOrModule c h.1)
  cause_stays cause.SuperOutside h = tt
  cause_stays (cause.UndefinedName s c) h = (symbol_stays w v e s h.0, role_stays w v e ClassOrModule c h.1)
  cause_stays (cause.UninitializedConstant o s) h = (
    option_stays (Is (census w.store) ClassOrModule) (Is (census v.store) ClassOrModule)
        (role_stays w v e ClassOrModule) o h.0,
    symbol_stays w v e s h.1,
  )
  cause_stays (cause.UndefinedInClass s c) h = (symbol_stays w v e s h.0, role_stays w v e ClassOrModule c h.1)
  cause_stays (cause.WrongCount g n m) h = tt
  cause_stays cause.NegativeExponent h = tt
  cause_stays cause.NoBlockGiven h = tt
  cause_stays (cause.Incomparable c d) h = (role_stays w v e ClassOrModule c h.0, role_stays w v e ClassOrModule d h.1)
  cause_stays cause.ComparisonFailed h = tt
  cause_stays cause.BadRange h = tt
  cause_stays cause.InvalidInteger h = tt
  cause_stays cause.StatusOutOfRange h = tt
  cause_stays cause.ArrayTooBig h = tt
  cause_stays cause.NegativeCount h = tt
  cause_stays cause.BadBase h = tt
  cause_stays cause.TooFewItems h = tt
  cause_stays (cause.Expected c d) h = (role_stays w v e ClassOrModule c h.0, role_stays w v e ClassOrModule d h.1)
  cause_stays (cause.WrongValue s) h = symbol_stays w v e s h
  cause_stays cause.RescueNotClass h = tt
  cause_stays cause.NotException h = tt
  cause_stays (cause.SuperclassMismatch s) h = symbol_stays w v e s h
  cause_stays cause.SuperclassNotClass h = tt
  cause_stays (cause.NotClass s) h = symbol_stays w v e s h
  cause_stays (cause.NotModule s) h = symbol_stays w v e s h
  cause_stays cause.NoSingleton h = tt
  cause_stays cause.NoVariable h = tt
  cause_stays (cause.IndexOutOfRange i) h = tt
  cause_stays (cause.KeyNotFound key) h = role_stays w v e String key h
  cause_stays cause.IntegerOverflow h = tt
  cause_stays cause.StringTooLong h = tt
  cause_stays (cause.CharOutOfRange i) h = tt
  cause_stays cause.DividedByZero h = tt
  cause_stays cause.UnexpectedReturn h = tt
  cause_stays cause.BreakFromProc h = tt
  cause_stays cause.NoBlockToYield h = tt
  cause_stays cause.DeadFiber h = tt
  cause_stays cause.DoubleResume h = tt
  cause_stays cause.RootYield h = tt
  cause_stays (cause.IterationEnd x) h = value_stays w v e x h
  cause_stays cause.StackTooDeep h = tt
  cause_stays (cause.Exit n) h = tt
  cause_stays cause.Unhandled h = tt
