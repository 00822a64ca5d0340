-- Where a work stops.
use Rattle.std.specs.Prelude.{Option, Some, None}
use Rattle.rb_value.specs.declared.value.Value.{Value}
use Rattle.rb_value.specs.declared.value.SymId.{SymId}
use Rattle.rb_store.specs.Held.{Held}
use Rattle.def_plans.specs.Plan.{Planned, raises, gives, refuses}
use Rattle.iter_comparing.specs.declared.asking.Turn.{Turn}
use Rattle.iter_comparing.specs.declared.asking.Turn.TheVariants as turn
use Rattle.iter_comparing.specs.declared.state.Work.{Work}
use Rattle.iter_comparing.specs.Asking.{Comes, sending}
use Rattle.iter_comparing.specs.Stage.{Stage}

-- the plan of it
abbrev pub turned : SymId → Held → Work → Turn → Planned Stage
turned name held w (turn.Gives v) = gives held v
turned name held w (turn.Fails c) = refuses held c
turned name held w (turn.Raises e) = record { plan = raises e; held = held }
turned name held w (turn.Asks recv argument) = sending name held w recv argument

-- the work comes to it, with what is left of both
abbrev pub Turns : SymId → Held → Work → Held → Work → Turn → Type 0
Turns name held w after left t = Comes name held w (turned name after left t)

-- or it comes to whatever comes of what is left
abbrev pub Steps : SymId → Held → Work → Held → Work → Option Turn → Type 0
Steps name held w after left (Some t) = Turns name held w after left t
Steps name held w after left None = (p : Planned Stage) → Comes name after left p → Comes name held w p

abbrev pub ended : Option Value → Option Turn
ended None = None
ended (Some v) = Some (turn.Gives v)
