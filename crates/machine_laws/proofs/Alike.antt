-- What def_machine asks of an iteration and of the name of a fiber is what the laws of worlds ask.
use Rattle.def_core.specs.Sound.{Census}
use Rattle.def_calls.specs.Plans.{Iteration, begun, handing, putting, putting_text, printing, printing_text, inspecting, inspecting_text, raising, looping, visiting, counting, initializing, messaging, telling, telling_text, reporting, reported}
use Rattle.def_calls.specs.Fibers.{Name, root, object}
use Rattle.def_machine.specs.Fits.{NameFits, StateFits}
use Rattle.world_laws.specs.Outcomes.{NameIs, StateIs}

module _ (k : Census) where
  pub name_is : (n : Name) → NameFits k n → NameIs k n
  name_is root h = tt
  name_is (object f) h = h

  pub name_fits : (n : Name) → NameIs k n → NameFits k n
  name_fits root h = tt
  name_fits (object f) h = h

  pub state_is : (it : Iteration) → StateFits k it → StateIs k it
  state_is (begun row recv args block) h = h
  state_is handing h = tt
  state_is (putting vs) h = h
  state_is (putting_text vs) h = h
  state_is (printing vs) h = h
  state_is (printing_text vs) h = h
  state_is (inspecting vs us) h = h
  state_is (inspecting_text vs us) h = h
  state_is raising h = tt
  state_is (looping b) h = h
  state_is (visiting a i b) h = h
  state_is (counting z i b) h = h
  state_is (initializing v) h = h
  state_is (messaging v) h = h
  state_is (telling v) h = h
  state_is (telling_text v) h = h
  state_is (reporting v) h = h
  state_is (reported v) h = h

  pub state_fits : (it : Iteration) → StateIs k it → StateFits k it
  state_fits (begun row recv args block) h = h
  state_fits handing h = tt
  state_fits (putting vs) h = h
  state_fits (putting_text vs) h = h
  state_fits (printing vs) h = h
  state_fits (printing_text vs) h = h
  state_fits (inspecting vs us) h = h
  state_fits (inspecting_text vs us) h = h
  state_fits raising h = tt
  state_fits (looping b) h = h
  state_fits (visiting a i b) h = h
  state_fits (counting z i b) h = h
  state_fits (initializing v) h = h
  state_fits (messaging v) h = h
  state_fits (telling v) h = h
  state_fits (telling_text v) h = h
  state_fits (reporting v) h = h
  state_fits (reported v) h = h
