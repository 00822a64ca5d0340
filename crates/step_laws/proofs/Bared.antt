-- What is said of a site speaks of no entries around a form.
use Rattle.std.proofs.Common.{◌≡◌, List, sym, subst}
use Rattle.rite_code.specs.Code.{Program}
use Rattle.ir_core.specs.CoreForm.{Local}
use Rattle.def_calls.specs.World.{World}
use Rattle.def_eval.specs.Source.{Source}
use Rattle.def_eval.specs.Configuration.{Scope}
use Rattle.def_machine.specs.State.{Registers}
use Rattle.step_laws.specs.Site.{Site, bare, Known}
use Rattle.step_laws.specs.Behind.{Static}
use Rattle.step_laws.specs.Relation.{Same, SiteIs}

known_bare : (h : Site) (x : Local) → Known h x → Known (bare h) x
known_bare h x k = record { level = k.level; behind_self = k.behind_self; low = k.low }

known_of : (h : Site) (x : Local) → Known (bare h) x → Known h x
known_of h x k = record { level = k.level; behind_self = k.behind_self; low = k.low }

static_of : (h : Site) → Static (bare h) → Static h
static_of h s = record {
  apart = λ x y k l. s.apart x y (known_bare h x k) (known_bare h y l);
  some = s.some;
  low = s.low;
  room = s.room;
}

same_bare : (h : Site) (cs : List Scope) (l : List Registers) → Same h cs l → Same (bare h) cs l
same_bare h cs l s = record {
  scope = s.scope;
  mirrors = s.mirrors;
  present = s.present;
  long = s.long;
  self = s.self;
  alike = λ x k. s.alike x (known_of h x k);
}

same_of : (h : Site) (cs : List Scope) (l : List Registers) → Same (bare h) cs l → Same h cs l
same_of h cs l s = record {
  scope = s.scope;
  mirrors = s.mirrors;
  present = s.present;
  long = s.long;
  self = s.self;
  alike = λ x k. s.alike x (known_bare h x k);
}

-- of one site of a run and of another one
pub same_by : (h d : Site) (cs : List Scope) (l : List Registers) → bare d ≡ bare h → Same h cs l → Same d cs l
same_by h d cs l e s = same_of d cs l (subst (λ (q : Site). Same q cs l) (sym e) (same_bare h cs l s))

pub site_of : (s : Source) (p : Program) (h : Site) (cs : List Scope) (l : List Registers) (w : World)
    → SiteIs s p (bare h) cs l w → SiteIs s p h cs l w
site_of s p h cs l w i = record {
  source = i.source;
  program = i.program;
  static = static_of h i.static;
  same = same_of h cs l i.same;
  from_one = i.from_one;
  opened = i.opened;
  self = i.self;
  runs = i.runs;
  home = i.home;
}
