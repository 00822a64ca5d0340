-- Where the code of a body stands, and what its activation has: what is the same all over a body.
use Rattle.std.specs.Prelude.{◌≡◌, ◌<◌, ◌≤◌, ℕ, suc, ◌+◌, List, [], ◌∷◌, map, get_or, position, bytes_eq, is_some, Bool, true, Option, Some}
use Rattle.rb_value.specs.declared.value.Value.{Value}
use Rattle.rb_value.specs.declared.value.SymId.{SymId}
use Rattle.rite_code.specs.Code.{Program}
use Rattle.rite_code.specs.declared.code.CatchEntry.{CatchEntry}
use Rattle.def_core.specs.Store.{Store}
use Rattle.def_core.specs.Changes.{intern}
use Rattle.rb_store.specs.Opening.{with_names}
use Rattle.ir_core.specs.CoreForm.{Name, Local}
use Rattle.scope_resolver.specs.Layout.{place_of}
use Rattle.gen_parts.specs.declared.line.Line.{Line}
use Rattle.gen_parts.specs.declared.line.Catch.{Catch}
use Rattle.gen_parts.specs.Assembly.{instruction_before, entry_by}
use Rattle.gen_parts.specs.Assembly as assembly
use Rattle.gen_forms.specs.declared.context.Loop.{Loop}
use Rattle.gen_forms.specs.Gen.{Context, symbol}
use Rattle.def_calls.specs.World.{Runs}
use Rattle.def_calls.specs.Rows
use Rattle.def_eval.specs.Source.{Source, all_names}
use Rattle.def_eval.specs.Configuration.{Place}
use Rattle.def_machine.specs.State.{body_at}
use Rattle.def_machine.specs.Unwind.{covers, covering}
use Rattle.def_machine.specs.Turn.{fetch}
use Rattle.step_laws.specs.Guards.{guards_at}

pub record Site : Type 0 where
  pub source : Source
  pub program : Program
  -- the body, the activation that runs it, its list of registers, self, and what it is a run of
  pub body : ℕ
  pub activation : ℕ
  pub list : ℕ
  pub self : Value
  pub runs : Runs
  -- whether its jumps are wide, and the places of its lines
  pub wide : Bool
  pub at : List ℕ
  -- what stands around its form, and the first register behind those of its locals
  pub context : Context
  pub first : ℕ
  -- the entries of the catch table that stand around the form, the innermost first
  pub guards : List Catch

-- with these entries around a form
abbrev pub guarded_by : Site → List Catch → Site
guarded_by h gs = record h { guards = gs }

-- the site of a run, whatever stands around a form of it
abbrev pub bare : Site → Site
bare h = guarded_by h []

-- what stands around a form in a loop
abbrev pub within : Site → Option Loop → Context
within h o = record h.context { loop = o }

-- the activation and the scope
abbrev pub place_in : Site → Place
place_in h = record { activation = h.activation; scope = h.list }

-- the place of a line
abbrev pub at_line : Site → ℕ → ℕ
at_line h n = assembly.place_of h.at n

-- the entries around the form cover a line, and no others
abbrev pub IsGuarded : Site → ℕ → Type 0
IsGuarded h n = covering h.program h.body (at_line h n) ≡ map (entry_by h.at) h.guards

-- they cover a line, and others may
abbrev pub AllCover : ℕ → List CatchEntry → Type 0
AllCover at [] = Unit {0}
AllCover at (c ∷ cs) = (covers at c ≡ true) × AllCover at cs

abbrev pub StaysIn : Site → ℕ → Type 0
StaysIn h n = AllCover (at_line h n) (map (entry_by h.at) h.guards)

-- a line stands at its place, and the next one behind it
pub record LineAt (h : Site) (n : ℕ) (l : Line) : Type 0 where
  pub here : fetch h.program h.body (at_line h n)
      ≡ Some (instruction_before h.wide h.at (at_line h (n + 1)) l, at_line h (n + 1))
  pub guarded : IsGuarded h n

-- these lines stand from line n on, of a piece with these entries
abbrev pub Lines : Site → List Catch → ℕ → List Line → Type 0
Lines h cs n [] = Unit {0}
Lines h cs n (l ∷ ls) = LineAt (guarded_by h (guards_at n cs h.guards)) n l × Lines h cs (n + 1) ls

-- a register that a form may use
pub record Room (h : Site) (r : ℕ) : Type 0 where
  pub within : r < (body_at h.program h.body).registers
  pub above : h.first ≤ r

-- Locals.

abbrev pub register : Site → Local → ℕ
register h x = (place_of h.context.scopes x).register

-- the local has a register of the body
pub record Known (h : Site) (x : Local) : Type 0 where
  pub level : (place_of h.context.scopes x).levels ≡ 0
  pub behind_self : 1 ≤ register h x
  pub low : register h x < h.first

-- or it has one of a body around, so many levels out
pub data Reaches (h : Site) (x : Local) : Type 0 where
  of_the_body : Known h x → Reaches h x
  of_one_around : (d : ℕ) → (place_of h.context.scopes x).levels ≡ suc d → 1 ≤ register h x → Reaches h x

-- Names: those of the program are symbols of the store from its opening on.

unfoldable pub opening_store : Source → Store
opening_store s = with_names Rows.opening (all_names s)

unfoldable pub number : Source → Name → SymId
number s x = (intern (opening_store s) x).symbol

-- the store has the name from its opening on
unfoldable pub IsThere : Source → Name → Type 0
IsThere s x = is_some (position (bytes_eq x) (opening_store s).symbols) ≡ true

-- the table of the body has the name
pub record Named (h : Site) (x : Name) : Type 0 where
  pub there : IsThere h.source x
  pub listed : get_or (body_at h.program h.body).symbols (symbol h.context x) [] ≡ x
